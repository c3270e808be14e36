-- Counters and data sets, one after another.
use Rattle.std.proofs.Common.{◌≡◌, ℕ, cond, zero, suc, arith, ◌+◌, ◌<◌, ◌≤◌, true, false, List, [], ◌∷◌, ◌++◌, append_assoc, length, take, drop, map, Option, Some, None, refl, sym, ap, ◌∙◌, subst, add-one}
use Rattle.std.specs.Prelude.{Result, Ok, Err, Bool, slice_get, slice_set, slice_index_or}
use Rattle.std.proofs.Math.ListN.{get_or}
use Rattle.std.proofs.Math.Seq.{drop-cons}
use Rattle.std.specs.List.{filter, range_with_len}
use Rattle.std.proofs.lemmas.List.{take_all, append-nil, map-append, drop_all}
use Rattle.scope_resolver.proofs.MemberLaws.{passed_step, left_step}
use Rattle.jm_base.specs.Run.{over, ◌>>=◌}
use Rattle.jm_base.specs.Outside.{Account, Goes}
use Rattle.jm_base.proofs.RunLaws.{goes-nothing}
use Rattle.var_functions.specs.Came.{by_limit, by_memory}
use Rattle.element_tree.specs.declared.kinds.Element.{Element}
use Rattle.element_tree.specs.declared.kinds.Kind.{Kind}
use Rattle.element_tree.specs.declared.kinds.Kind.TheVariants as kinds
use Rattle.thread_vars.specs.declared.error.VarError.{VarError}
use Rattle.thread_vars.specs.declared.error.VarError.TheVariants.{ValueLimit, NoMemory}
use Rattle.var_functions.specs.declared.state.UserState.{UserState}
use Rattle.thread_vars.specs.Vars.{Variables}
use Rattle.var_changes.specs.declared.put.Variable.{Variable}
use Rattle.var_changes.specs.Changes.{changed, setting}
use Rattle.trials.proofs.CutLaws.{around, taken}
use Rattle.cursor_steps.specs.CursorStep.{StepsTo, answers, past_limit}
use Rattle.config_elements.specs.declared.rounds.Advance.{Advance}
use Rattle.config_elements.specs.declared.state.Feed.{Feed}
use Rattle.config_elements.specs.RoundStart.{variable, with_fields, advancing, rows_at, begin_round, feeds_of, feed_of, AreFed, advance, advance_at, on_changed, on_sets, begin_each, FeedsOne}
use Rattle.config_elements.specs.RoundCut.{settings_of, FeedsInPart, CutsRound}

module _ (elements : List Element) (n : ℕ) (old : List ℕ) (user : UserState) (a : Advance) (ns : List ℕ)
    (advances : advance_at (slice_get elements n) (slice_index_or old n 0) ≡ over a) where
  one : begin_each elements (n ∷ ns) old user ≡ on_sets old user (begin_each elements ns (slice_set old n a.place)) a.sets
  one = ap (λ r. r >>= λ a. on_sets old user (begin_each elements ns (slice_set old n a.place)) a.sets) advances

  pub none_left : a.sets ≡ None → begin_each elements (n ∷ ns) old user ≡ answers false old user
  none_left none = one ∙ ap (on_sets old user (begin_each elements ns (slice_set old n a.place))) none

  pub sets_all : (vs : List Variable) (vars : Variables) → a.sets ≡ Some vs → changed (map setting vs) user.vars ≡ record { vars = vars; whole = true }
      → begin_each elements (n ∷ ns) old user ≡ begin_each elements ns (slice_set old n a.place) (record { vars = vars; fns = user.fns })
  sets_all vs vars some fits =
      one ∙ ap (on_sets old user (begin_each elements ns (slice_set old n a.place))) some ∙ ap (on_changed old user (begin_each elements ns (slice_set old n a.place))) fits

  pub past_some : (vs : List Variable) (vars : Variables) → a.sets ≡ Some vs → changed (map setting vs) user.vars ≡ record { vars = vars; whole = false }
      → begin_each elements (n ∷ ns) old user ≡ past_limit old (record { vars = vars; fns = user.fns })
  past_some vs vars some past =
      one ∙ ap (on_sets old user (begin_each elements ns (slice_set old n a.place))) some ∙ ap (on_changed old user (begin_each elements ns (slice_set old n a.place))) past

-- ---- all of them

fed-all : (elements : List Element) (numbers : List ℕ) → AreFed elements (map (feed_of elements) numbers)
fed-all elements [] k d within = absurd (omega (arith, within))
fed-all elements (n ∷ ns) zero d within = refl
fed-all elements (n ∷ ns) (suc k) d within = fed-all elements ns k d (omega (arith, within))

numbers-are : (elements : List Element) (numbers : List ℕ) → map (λ (f : Feed). f.number) (map (feed_of elements) numbers) ≡ numbers
numbers-are elements [] = refl
numbers-are elements (n ∷ ns) = ap (λ ms. n ∷ ms) (numbers-are elements ns)

-- the feeds of a group have their rows, and their numbers are those that advance
pub are-fed : (elements : List Element) (numbers : List ℕ) (feeds : List Feed) → feeds ≡ map (feed_of elements) numbers → AreFed elements feeds
are-fed elements numbers feeds is = subst (AreFed elements) (sym is) (fed-all elements numbers)

pub fed-numbers : (elements : List Element) (numbers : List ℕ) (feeds : List Feed) → feeds ≡ map (feed_of elements) numbers → map (λ (f : Feed). f.number) feeds ≡ numbers
fed-numbers elements numbers feeds is = ap (map (λ (f : Feed). f.number)) is ∙ numbers-are elements numbers

abbrev pub numbers_of : List Feed → List ℕ
numbers_of feeds = map (λ (f : Feed). f.number) feeds

-- those before this place are fed, whatever comes after them
abbrev pub FedSoFar : List Element → List Feed → ℕ → List ℕ → UserState → List ℕ → UserState → Type 0
FedSoFar elements feeds i first start places state = (ns : List ℕ) → begin_each elements (numbers_of (take i feeds) ++ ns) first start ≡ begin_each elements ns places state

module _ (elements : List Element) (feeds : List Feed) (i : ℕ) (f : Feed) (first places new : List ℕ) (start before after : UserState)
    (within : i < length feeds) (is : f ≡ get_or feeds i f) (so_far : FedSoFar elements feeds i first start places before) where
  abbrev rest : List Feed
  rest = drop (i + 1) feeds

  order : numbers_of feeds ≡ numbers_of (take i feeds) ++ (f.number ∷ numbers_of rest)
  order = ap numbers_of (around feeds i f within is) ∙ map-append (λ (f : Feed). f.number) (take i feeds) (f ∷ rest)

  -- what is left of the start of the round
  from-here : begin_each elements (numbers_of feeds) first start ≡ begin_each elements (f.number ∷ numbers_of rest) places before
  from-here = ap (λ ns. begin_each elements ns first start) order ∙ so_far (f.number ∷ numbers_of rest)

  -- one of them is fed
  pub one-fed : FeedsOne elements f.number places before new after (Ok true) → FedSoFar elements feeds (i + 1) first start new after
  one-fed fed ns =
      ap (λ fs. begin_each elements (numbers_of fs ++ ns) first start) (taken feeds i f within is)
      ∙ ap (λ l. begin_each elements (l ++ ns) first start) (map-append (λ (f : Feed). f.number) (take i feeds) (f ∷ []))
      ∙ ap (λ l. begin_each elements l first start) (append_assoc (numbers_of (take i feeds)) (f.number ∷ []) ns)
      ∙ so_far (f.number ∷ ns)
      ∙ fed ns

  -- one of them is not, and nothing comes after it
  pub not-fed : (a : Account) (ok : Bool) → ok ≡ false → FeedsOne elements f.number places before new after (Ok false)
      → StepsTo a (begin_each elements (numbers_of feeds) first start) a new after (Ok ok)
  not-fed a ok none fed = rw none (subst (λ r. Goes a r [] (answers false new after) a) (sym (from-here ∙ fed (numbers_of rest))) (goes-nothing a _))

  pub refused-fed : (a : Account) (error : VarError) → FeedsOne elements f.number places before new after (Err error)
      → StepsTo a (begin_each elements (numbers_of feeds) first start) a new after (Err error)
  refused-fed a ValueLimit fed = by_limit (subst (λ r. Goes a r [] (past_limit new after) a) (sym (from-here ∙ fed (numbers_of rest))) (goes-nothing a _))
  refused-fed a NoMemory fed = by_memory (_, goes-nothing a _)

  -- it was cut at one of them
  pub cut-fed : FeedsInPart elements f.number places before new after → CutsRound elements (numbers_of feeds) first start new after
  cut-fed fed = record {
    done = numbers_of (take i feeds);
    one = f.number;
    left = numbers_of rest;
    order = order;
    places = places;
    state = before;
    advanced = ap (λ l. begin_each elements l first start) (sym (append-nil (numbers_of (take i feeds)))) ∙ so_far [];
    next = fed;
  }

pub all-fed : (elements : List Element) (feeds : List Feed) (i : ℕ) (first places : List ℕ) (start state : UserState) (a : Account) → length feeds ≤ i
    → FedSoFar elements feeds i first start places state → StepsTo a (begin_each elements (numbers_of feeds) first start) a places state (Ok true)
all-fed elements feeds i first places start state a past so_far =
    let all : begin_each elements (numbers_of feeds) first start ≡ answers true places state =
    ap (λ l. begin_each elements l first start) (sym (append-nil (numbers_of feeds))) ∙ ap (λ fs. begin_each elements (numbers_of fs ++ []) first start) (sym (take_all i feeds past)) ∙ so_far [] in
    subst (λ r. Goes a r [] (answers true places state) a) (sym all) (goes-nothing a _)

-- what an element gives at its place
advance-gives : (k : Kind) (place : ℕ) → (a : Advance) × (advance k place ≡ over a)
advance-gives (kinds.Counter increment maximum start var) place = (_, refl)
advance-gives (kinds.DataSet at_end names share text) place = (_, refl)
advance-gives k place = (_, refl)

pub gives : (o : Option Element) (place : ℕ) → (a : Advance) × (advance_at o place ≡ over a)
gives None place = (_, refl)
gives (Some e) place = advance-gives e.kind place

-- nothing of an element is set yet
pub none-set : (elements : List Element) (n : ℕ) (places : List ℕ) (state : UserState) → FeedsInPart elements n places state places state
none-set elements n places state =
    let g : (a : Advance) × (advance_at (slice_get elements n) (slice_index_or places n 0) ≡ over a) = gives (slice_get elements n) (slice_index_or places n 0) in
    record {
      places = refl;
      fns = refl;
      advance = g.0;
      gives = g.1;
      vars = record { made = []; rest = settings_of g.0.sets; split = refl; vars = refl };
    }

-- ---- the fields of a row

item-here : (xs : List (List ℕ)) (i : ℕ) (x : List ℕ) → i < length xs → x ≡ get_or xs i x → drop i xs ≡ x ∷ drop (i + 1) xs
item-here xs i x within is = (rw (add-one i) (drop-cons xs i x within)) ∙ ap (λ q. q ∷ drop (i + 1) xs) (sym is)

pub one-field : (names fields : List (List ℕ)) (i : ℕ) (name field : List ℕ) (acc all : List Variable) → i < length names → name ≡ get_or names i name
    → i < length fields → field ≡ get_or fields i field
    → acc ++ with_fields (drop i names) (drop i fields) ≡ all → (acc ++ variable name field ∷ []) ++ with_fields (drop (i + 1) names) (drop (i + 1) fields) ≡ all
one-field names fields i name field acc all within is there field_is so_far =
    append_assoc acc (variable name field ∷ []) (with_fields (drop (i + 1) names) (drop (i + 1) fields))
    ∙ ap (λ fs. acc ++ with_fields (name ∷ drop (i + 1) names) fs) (sym (item-here fields i field there field_is))
    ∙ ap (λ ns. acc ++ with_fields ns (drop i fields)) (sym (item-here names i name within is)) ∙ so_far

no-names : (names : List (List ℕ)) → with_fields names [] ≡ []
no-names [] = refl
no-names (n ∷ ns) = refl

pub no-field : (names fields : List (List ℕ)) (i : ℕ) (acc all : List Variable) → length fields ≤ i → acc ++ with_fields (drop i names) (drop i fields) ≡ all → acc ≡ all
no-field names fields i acc all none so_far =
    sym (append-nil acc) ∙ ap (λ vs. acc ++ vs) (sym (no-names (drop i names))) ∙ ap (λ fs. acc ++ with_fields (drop i names) fs) (sym (drop_all i fields none)) ∙ so_far

-- ---- a feed of a list that is fed

pub row-of : (elements : List Element) (feeds : List Feed) (i : ℕ) (f : Feed) → AreFed elements feeds → i < length feeds → f ≡ get_or feeds i f → f.rows ≡ rows_at elements f.number
row-of elements feeds i f fed within is = subst (λ (g : Feed). g.rows ≡ rows_at elements g.number) (sym is) (fed i f within)

pub begin-came : (elements : List Element) (group : ℕ) (feeds : List Feed) (old places new : List ℕ) (user after : UserState) (a : Account) (res : Result Bool VarError) → feeds ≡ feeds_of elements group → old ≡ places
    → (AreFed elements feeds → (a : Account) → StepsTo a (begin_each elements (map (λ (f : Feed). f.number) feeds) old user) a new after res)
    → StepsTo a (begin_round elements group places user) a new after res
begin-came elements group feeds old places new user after a res feeds_are places_are came =
    subst (λ ps. StepsTo a (begin_round elements group ps user) a new after res) places_are
    (subst (λ ns. StepsTo a (begin_each elements ns old user) a new after res) (fed-numbers elements (advancing elements group) feeds feeds_are)
    (came (are-fed elements (advancing elements group) feeds feeds_are) a))

pub begin-cut : (elements : List Element) (group : ℕ) (feeds : List Feed) (old places new : List ℕ) (user after : UserState) → feeds ≡ feeds_of elements group → old ≡ places
    → (AreFed elements feeds → CutsRound elements (numbers_of feeds) old user new after) → CutsRound elements (advancing elements group) places user new after
begin-cut elements group feeds old places new user after feeds_are places_are cut =
    subst (λ ps. CutsRound elements (advancing elements group) ps user new after) places_are
    (subst (λ ns. CutsRound elements ns old user new after) (fed-numbers elements (advancing elements group) feeds feeds_are)
    (cut (are-fed elements (advancing elements group) feeds feeds_are)))

-- ---- the numbers of those that advance

-- one more number, if it passes
pub one-more : (p : ℕ → Bool) (n : ℕ) (old found now : List ℕ) → found ≡ old ++ filter p (range_with_len 0 n) → now ≡ found ++ filter p (n ∷ []) → now ≡ old ++ filter p (range_with_len 0 (n + 1))
one-more p n old found now so_far is =
    is ∙ (elim (p n) as (λ b. p n ≡ b → found ++ cond b (n ∷ []) [] ≡ old ++ filter p (range_with_len 0 (n + 1))) [
      | true ↦ λ passes. passed_step p n old found passes so_far
      | false ↦ λ fails. append-nil found ∙ left_step p n old found fails so_far
    ]) refl
