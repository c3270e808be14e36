-- What the grammar spells, the machine reads.
use Rattle.std.proofs.Common.{◌≡◌, ℕ, ◌+◌, ◌<◌, ◌≤◌, Bool, true, false, not, ◌&&◌, ◌==◌, inl, inr, nat_lt, List, [], ◌∷◌, ◌++◌, length, Some, None, Ok, if◌then◌else◌, refl, ap, sym, ◌∙◌, subst, arith, append_assoc, length-append}
use Rattle.std.specs.List.{list_all}
use Rattle.std.specs.Char.{is_ascii_digit}
use Rattle.std.specs.Str.Parse.{digits_value}
use Rattle.std.proofs.lemmas.Bool.Decides.{nat_tests}
use Rattle.json_path.specs.declared.path.Step.{Step}
use Rattle.json_path.specs.declared.path.Step.TheVariants.{Name, Index, All}
use Rattle.json_path.specs.declared.parse.Place.TheVariants.{Between, AfterDot, InName, AfterBracket, InQuotes, AfterQuote, InIndex, AfterStar}
use Rattle.json_path.specs.PathGrammar.{is_name_byte, is_quotable, IsStepText, AreSteps, no_step, a_step, IsPathOf}
use Rattle.json_path.specs.PathMachine.{State, start, next, begin_step, with_index, run, finish, or_else_fault}
use Rattle.json_path.proofs.Reading.{run-next, run-none, run-then}

-- the states by their places
abbrev pub between : List Step → State
between ss = record { place = Between; steps = ss; name = []; digits = [] }

abbrev pub after_dot : List Step → State
after_dot ss = record { place = AfterDot; steps = ss; name = []; digits = [] }

abbrev pub in_name : List Step → List ℕ → State
in_name ss name = record { place = InName; steps = ss; name = name; digits = [] }

abbrev pub after_bracket : List Step → State
after_bracket ss = record { place = AfterBracket; steps = ss; name = []; digits = [] }

abbrev pub in_quotes : List Step → List ℕ → State
in_quotes ss name = record { place = InQuotes; steps = ss; name = name; digits = [] }

abbrev pub after_quote : List Step → List ℕ → State
after_quote ss name = record { place = AfterQuote; steps = ss; name = name; digits = [] }

abbrev pub in_index : List Step → List ℕ → State
in_index ss ds = record { place = InIndex; steps = ss; name = []; digits = ds }

abbrev pub after_star : List Step → State
after_star ss = record { place = AfterStar; steps = ss; name = []; digits = [] }

-- Whole steps have been read: the last of them may be a name that could go on.
pub data Whole : List Step → State → Type 0 where
  at_between : (ss : List Step) → Whole ss (between ss)
  at_name : (ss : List Step) (name : List ℕ) → Whole (ss ++ Name name ∷ []) (in_name ss name)

whole_begins : (b : ℕ) (ss : List Step) (s : State) → is_name_byte b ≡ false → Whole ss s → next b s ≡ begin_step b (between ss)
whole_begins b _ _ other (at_between ss) = refl
whole_begins b _ _ other (at_name ss name) = ap (λ c. if c then Some (in_name ss (name ++ b ∷ [])) else begin_step b (between (ss ++ Name name ∷ []))) other

pub whole_finish : (end : ℕ) (ss : List Step) (s : State) → Whole ss s → finish end s ≡ Ok ss
whole_finish end _ _ (at_between ss) = refl
whole_finish end _ _ (at_name ss name) = refl

and_true : (a b : Bool) → a && b ≡ true → (a ≡ true) × (b ≡ true)
and_true true b h = (refl, h)
and_true false b h = absurd cc

pub append-nil : (xs : List ℕ) → xs ++ [] ≡ xs
append-nil [] = refl
append-nil (x ∷ xs) = ap (λ ys. x ∷ ys) (append-nil xs)

-- further bytes of a name
name_run : (at : ℕ) (more prefix : List ℕ) (ss : List Step) → list_all is_name_byte more ≡ true → run at more (in_name ss prefix) ≡ Ok (in_name ss (prefix ++ more))
name_run at [] prefix ss h = run-none at (in_name ss prefix) ∙ ap (λ x. Ok (in_name ss x)) (sym (append-nil prefix))
name_run at (b ∷ bs) prefix ss h =
    let (is, rest) = and_true (is_name_byte b) (list_all is_name_byte bs) h in
    run-next at b bs (in_name ss prefix) (in_name ss (prefix ++ b ∷ [])) (ap (λ c. if c then Some (in_name ss (prefix ++ b ∷ [])) else begin_step b (between (ss ++ Name prefix ∷ []))) is)
    ∙ name_run (at + 1) bs (prefix ++ b ∷ []) ss rest ∙ ap (λ x. Ok (in_name ss x)) (append_assoc prefix (b ∷ []) bs)

-- further bytes of a quoted name
quoted_run : (at : ℕ) (more prefix : List ℕ) (ss : List Step) → list_all is_quotable more ≡ true → run at more (in_quotes ss prefix) ≡ Ok (in_quotes ss (prefix ++ more))
quoted_run at [] prefix ss h = run-none at (in_quotes ss prefix) ∙ ap (λ x. Ok (in_quotes ss x)) (sym (append-nil prefix))
quoted_run at (b ∷ bs) prefix ss h =
    let (is, rest) = and_true (is_quotable b) (list_all is_quotable bs) h in
    run-next at b bs (in_quotes ss prefix) (in_quotes ss (prefix ++ b ∷ []))
    (ap (λ c. if c then Some (after_quote ss prefix) else Some (in_quotes ss (prefix ++ b ∷ []))) (not_true (b == 39) is))
    ∙ quoted_run (at + 1) bs (prefix ++ b ∷ []) ss rest ∙ ap (λ x. Ok (in_quotes ss x)) (append_assoc prefix (b ∷ []) bs)
  where
    not_true : (c : Bool) → not c ≡ true → c ≡ false
    not_true true e = absurd cc
    not_true false e = refl

digit_bytes : (b : ℕ) → is_ascii_digit b ≡ true → (b == 93 ≡ false) × (b == 39 ≡ false) × (b == 42 ≡ false)
digit_bytes b h = (grind (arith, nat_tests), grind (arith, nat_tests), grind (arith, nat_tests))

lt_true : (a b : ℕ) → a < b → nat_lt a b ≡ true
lt_true a b h = grind (arith, nat_tests)

-- further digits of a place
index_run : (at : ℕ) (more prefix : List ℕ) (ss : List Step) → list_all is_ascii_digit more ≡ true → length prefix + length more ≤ 9 → run at more (in_index ss prefix) ≡ Ok (in_index ss (prefix ++ more))
index_run at [] prefix ss h few = run-none at (in_index ss prefix) ∙ ap (λ x. Ok (in_index ss x)) (sym (append-nil prefix))
index_run at (b ∷ bs) prefix ss h few =
    let (is, rest) = and_true (is_ascii_digit b) (list_all is_ascii_digit bs) h in
    let one : length (prefix ++ b ∷ []) ≡ length prefix + 1 = omega (arith, length-append prefix (b ∷ [])) in
    let fewer : length prefix < 9 = omega arith in
    let after : State = in_index ss (prefix ++ b ∷ []) in
    let closing : State = with_index (in_index ss prefix) in
    run-next at b bs (in_index ss prefix) after
    (ap (λ c. if c then Some closing else if is_ascii_digit b && nat_lt (length prefix) 9 then Some after else None) (digit_bytes b is).0
    ∙ ap (λ c. if c && nat_lt (length prefix) 9 then Some after else None) is
    ∙ ap (λ c. if c then Some after else None) (lt_true (length prefix) 9 fewer))
    ∙ index_run (at + 1) bs (prefix ++ b ∷ []) ss rest (omega arith) ∙ ap (λ x. Ok (in_index ss x)) (append_assoc prefix (b ∷ []) bs)

-- where steps have been read, another one leads to where it is read too
pub record Leads (at : ℕ) (bytes : List ℕ) (s : State) (ss : List Step) : Type 0 where
  pub state : State
  pub ran : run at bytes s ≡ Ok state
  pub whole : Whole ss state

dotted : (at : ℕ) (name : List ℕ) (ss : List Step) (s : State) → 0 < length name → list_all is_name_byte name ≡ true → Whole ss s → Leads at (46 ∷ name) s (ss ++ Name name ∷ [])
dotted at [] ss s some each w = absurd (omega arith)
dotted at (b ∷ bs) ss s some each w =
    let (is, rest) = and_true (is_name_byte b) (list_all is_name_byte bs) each in
    record {
      state = in_name ss (b ∷ bs);
      ran = run-next at 46 (b ∷ bs) s (after_dot ss) (whole_begins 46 ss s refl w)
          ∙ run-next (at + 1) b bs (after_dot ss) (in_name ss (b ∷ [])) (ap (λ c. if c then Some (in_name ss (b ∷ [])) else None) is)
          ∙ name_run ((at + 1) + 1) bs (b ∷ []) ss rest;
      whole = at_name ss (b ∷ bs);
    }

quoted : (at : ℕ) (name : List ℕ) (ss : List Step) (s : State) → list_all is_quotable name ≡ true → Whole ss s → Leads at (91 ∷ 39 ∷ (name ++ 39 ∷ 93 ∷ [])) s (ss ++ Name name ∷ [])
quoted at name ss s each w = record {
  state = between (ss ++ Name name ∷ []);
  ran = run-next at 91 (39 ∷ (name ++ 39 ∷ 93 ∷ [])) s (after_bracket ss) (whole_begins 91 ss s refl w)
      ∙ run-next (at + 1) 39 (name ++ 39 ∷ 93 ∷ []) (after_bracket ss) (in_quotes ss []) refl
      ∙ run-then ((at + 1) + 1) name (39 ∷ 93 ∷ []) (in_quotes ss []) (in_quotes ss name) (quoted_run ((at + 1) + 1) name [] ss each)
      ∙ run-next (((at + 1) + 1) + length name) 39 (93 ∷ []) (in_quotes ss name) (after_quote ss name) refl
      ∙ run-next ((((at + 1) + 1) + length name) + 1) 93 [] (after_quote ss name) (between (ss ++ Name name ∷ [])) refl
      ∙ run-none (((((at + 1) + 1) + length name) + 1) + 1) (between (ss ++ Name name ∷ []));
  whole = at_between (ss ++ Name name ∷ []);
}

indexed : (at : ℕ) (ds : List ℕ) (ss : List Step) (s : State) → 0 < length ds → length ds ≤ 9 → list_all is_ascii_digit ds ≡ true → Whole ss s →
    Leads at (91 ∷ (ds ++ 93 ∷ [])) s (ss ++ Index (digits_value 10 ds) ∷ [])
indexed at [] ss s some few each w = absurd (omega arith)
indexed at (d ∷ ds) ss s some few each w =
    let (is, rest) = and_true (is_ascii_digit d) (list_all is_ascii_digit ds) each in
    let (_, quote, star) = digit_bytes d is in
    let begun : State = in_index ss (d ∷ []) in
    let all : State = in_index ss (d ∷ ds) in
    let after : State = between (ss ++ Index (digits_value 10 (d ∷ ds)) ∷ []) in
    record {
      state = after;
      ran = run-next at 91 (d ∷ (ds ++ 93 ∷ [])) s (after_bracket ss) (whole_begins 91 ss s refl w)
          ∙ run-next (at + 1) d (ds ++ 93 ∷ []) (after_bracket ss) begun
          (ap (λ c. if c then Some (in_quotes ss []) else if d == 42 then Some (after_star ss) else if is_ascii_digit d then Some begun else None) quote
          ∙ ap (λ c. if c then Some (after_star ss) else if is_ascii_digit d then Some begun else None) star
          ∙ ap (λ c. if c then Some begun else None) is)
          ∙ run-then ((at + 1) + 1) ds (93 ∷ []) begun all (index_run ((at + 1) + 1) ds (d ∷ []) ss rest (omega arith))
          ∙ run-next (((at + 1) + 1) + length ds) 93 [] all after refl
          ∙ run-none ((((at + 1) + 1) + length ds) + 1) after;
      whole = at_between (ss ++ Index (digits_value 10 (d ∷ ds)) ∷ []);
    }

starred : (at : ℕ) (ss : List Step) (s : State) → Whole ss s → Leads at (91 ∷ 42 ∷ 93 ∷ []) s (ss ++ All ∷ [])
starred at ss s w = record {
  state = between (ss ++ All ∷ []);
  ran = run-next at 91 (42 ∷ 93 ∷ []) s (after_bracket ss) (whole_begins 91 ss s refl w)
      ∙ run-next (at + 1) 42 (93 ∷ []) (after_bracket ss) (after_star ss) refl
      ∙ run-next ((at + 1) + 1) 93 [] (after_star ss) (between (ss ++ All ∷ [])) refl
      ∙ run-none (((at + 1) + 1) + 1) (between (ss ++ All ∷ []));
  whole = at_between (ss ++ All ∷ []);
}

one_step : (at : ℕ) (bytes : List ℕ) (step : Step) (ss : List Step) (s : State) → IsStepText step bytes → Whole ss s → Leads at bytes s (ss ++ step ∷ [])
one_step at bytes (Name name) ss s (inl d) w = subst (λ x. Leads at x s (ss ++ Name name ∷ [])) (sym d.text) (dotted at name ss s d.some d.each w)
one_step at bytes (Name name) ss s (inr q) w = subst (λ x. Leads at x s (ss ++ Name name ∷ [])) (sym q.text) (quoted at name ss s q.each w)
one_step at bytes (Index n) ss s i w =
    subst (λ x. Leads at x s (ss ++ Index n ∷ [])) (sym i.text) (subst (λ m. Leads at (91 ∷ (i.digits ++ 93 ∷ [])) s (ss ++ Index m ∷ [])) (sym i.value) (indexed at i.digits ss s i.some i.few i.each w))
one_step at bytes All ss s e w = subst (λ x. Leads at x s (ss ++ All ∷ [])) (sym e) (starred at ss s w)

steps-nil : (ss : List Step) → ss ++ [] ≡ ss
steps-nil [] = refl
steps-nil (s ∷ ss) = ap (λ x. s ∷ x) (steps-nil ss)

pub all_steps : (at : ℕ) (bytes : List ℕ) (more ss : List Step) (s : State) → AreSteps bytes more → Whole ss s → Leads at bytes s (ss ++ more)
all_steps at _ _ ss s no_step w = record { state = s; ran = run-none at s; whole = subst (λ x. Whole x s) (sym (steps-nil ss)) w }
all_steps at _ _ ss s (a_step bytes rest step more one later) w =
    let first = one_step at bytes step ss s one w in
    let behind = all_steps (at + length bytes) rest more (ss ++ step ∷ []) first.state later first.whole in
    record {
      state = behind.state;
      ran = run-then at bytes rest s first.state first.ran ∙ behind.ran;
      whole = subst (λ x. Whole x behind.state) (append_assoc ss (step ∷ []) more) behind.whole;
    }

-- a path is read as a whole
pub whole_path : (end : ℕ) (text : List ℕ) (ss : List Step) → IsPathOf text ss → or_else_fault (run 0 text start) (finish end) ≡ Ok ss
whole_path end text ss path =
    let led = all_steps 1 path.0 ss [] (between []) path.2 (at_between []) in
    ap (λ x. or_else_fault (run 0 x start) (finish end)) path.1
    ∙ ap (λ o. or_else_fault o (finish end)) (run-next 0 36 path.0 start (between []) refl ∙ led.ran)
    ∙ whole_finish end ss led.state led.whole
