-- Where the setting of the first variables was cut short.
use Rattle.std.proofs.Common.{◌≡◌, ℕ, ◌+◌, ◌<◌, List, [], ◌∷◌, ◌++◌, length, take, drop, refl, sym, ap, ◌∙◌, subst}
use Rattle.std.proofs.Math.ListN.{get_or}
use Rattle.std.proofs.lemmas.List.{append_assoc, append-nil}
use Rattle.jm_base.specs.Run.{over, ◌>>=◌}
use Rattle.jm_base.specs.Outside.{Account, Goes}
use Rattle.jm_base.proofs.RunLaws.{goes-append, goes-bind, goes-nothing}
use Rattle.var_functions.specs.declared.state.UserState.{UserState}
use Rattle.var_functions.specs.FunctionState.{IsLater}
use Rattle.var_functions.specs.Came.{LeftOf}
use Rattle.var_functions.proofs.LaterLaws.{later_same}
use Rattle.element_props.specs.declared.prop.Pair.{Pair}
use Rattle.element_tree.specs.declared.kinds.Element.{Element}
use Rattle.trials.specs.Pairs.{set_pair}
use Rattle.trials.specs.CutShort.{DoesPrefix}
use Rattle.trials.proofs.CutLaws.{around, taken}
use Rattle.jm_meaning.specs.State.{State, Own, state_of, normal, on_normal, on_came}
use Rattle.jm_meaning.specs.Beginning.{pairs_of, user_variables, set_all}
use Rattle.jm_meaning.specs.Cut.{StandsLater, SetsPrefix}
use Rattle.jm_meaning.proofs.BeginningLaws.{all-behind, all_set, as-trials, pairs-goes}

pub stands_same : (user : UserState) → StandsLater user user
stands_same user = record { vars = refl; fns = later_same user.fns }

pub stands_as : (old new : UserState) → new ≡ old → StandsLater old new
stands_as old new is = subst (StandsLater old) (sym is) (stands_same old)

-- ---- pairs that are set after others

sets-behind : {a m b : Account} (xs ys : List Pair) (s t u : State) → Goes a (set_all xs s) [] (over (normal t)) m
    → Goes m (set_all ys t) [] (over (normal u)) b → Goes a (set_all (xs ++ ys) s) [] (over (normal u)) b
sets-behind {a} {m} {b} xs ys s t u first second =
    subst (λ r. Goes a r [] (over (normal u)) b) (sym (all-behind xs ys s)) (goes-append (goes-bind (on_normal (set_all ys)) first) second)

left-before : {m b : Account} (xs ys : List Pair) (s : State) → LeftOf m (set_all xs s) b → LeftOf m (set_all (xs ++ ys) s) b
left-before {m} {b} xs ys s left =
    (left.0 >>= on_normal (set_all ys), subst (λ r. Goes m r [] (left.0 >>= on_normal (set_all ys)) b) (sym (all-behind xs ys s)) (goes-bind (on_normal (set_all ys)) left.1))

-- after pairs that are set, and before others
pub prefix_behind : {a m b : Account} (before pairs after : List Pair) (old mid new : UserState)
    → ((own : Own) → Goes a (set_all before (state_of old own)) [] (over (normal (state_of mid own))) m)
    → SetsPrefix m pairs mid b new → SetsPrefix a (before ++ (pairs ++ after)) old b new
prefix_behind before pairs after old mid new goes cut = record {
  done = before ++ cut.done;
  left = cut.left ++ after;
  order = ap (λ l. before ++ (l ++ after)) cut.order ∙ simp append_assoc;
  between = cut.between;
  moment = cut.moment;
  sets = λ own. sets-behind before cut.done (state_of old own) (state_of mid own) (state_of cut.between own) (goes own) (cut.sets own);
  stands = cut.stands;
  rest = λ own. left-before cut.left after (state_of cut.between own) (cut.rest own);
}

-- the trials of pairs were cut short
pub pairs-cut : {a b : Account} (pairs : List Pair) (old new : UserState) → DoesPrefix set_pair a pairs old b new → SetsPrefix a pairs old b new
pairs-cut {a} {b} pairs old new cut = record {
  done = cut.done;
  left = cut.left;
  order = cut.order;
  between = cut.between;
  moment = cut.moment;
  sets = λ own. pairs-goes own cut.done old cut.between tt cut.does;
  stands = cut.stands;
  rest = λ own. (
    cut.rest.0 >>= on_came own all_set,
    subst (λ r. Goes cut.moment r [] (cut.rest.0 >>= on_came own all_set) b) (sym (as-trials own cut.left cut.between)) (goes-bind (on_came own all_set) cut.rest.1),
  );
}

-- all of them are set
pub prefix_all : {a b : Account} (pairs : List Pair) (old new last : UserState) → ((own : Own) → Goes a (set_all pairs (state_of old own)) [] (over (normal (state_of new own))) b)
    → last.vars ≡ new.vars → last.fns ≡ new.fns → SetsPrefix a pairs old b last
prefix_all {a} {b} pairs old new last goes vars fns = record {
  done = pairs;
  left = [];
  order = sym (append-nil pairs);
  between = new;
  moment = b;
  sets = goes;
  stands = record { vars = vars; fns = subst (IsLater new.fns) (sym fns) (later_same new.fns) };
  rest = λ own. (_, goes-nothing b (set_all [] (state_of new own)));
}

-- ---- one element after another

variables-behind : (xs ys : List Element) → user_variables (xs ++ ys) ≡ user_variables xs ++ user_variables ys
variables-behind [] ys = refl
variables-behind (e ∷ es) ys =
    ap (λ l. pairs_of e.kind ++ l) (variables-behind es ys) ∙ sym (append_assoc (pairs_of e.kind) (user_variables es) (user_variables ys))

pub element-set : {a m b : Account} (elements : List Element) (i : ℕ) (e : Element) (s t u : State) → i < length elements → e ≡ get_or elements i e
    → Goes a (set_all (user_variables (take i elements)) s) [] (over (normal t)) m → Goes m (set_all (pairs_of e.kind) t) [] (over (normal u)) b
    → Goes a (set_all (user_variables (take (i + 1) elements)) s) [] (over (normal u)) b
element-set {a} {m} {b} elements i e s t u within is so_far goes =
    subst (λ l. Goes a (set_all l s) [] (over (normal u)) b) (sym more) (sets-behind (user_variables (take i elements)) (pairs_of e.kind) s t u so_far goes) where
      more : user_variables (take (i + 1) elements) ≡ user_variables (take i elements) ++ pairs_of e.kind
      more = ap user_variables (taken elements i e within is) ∙ variables-behind (take i elements) (e ∷ []) ∙ ap (λ l. user_variables (take i elements) ++ l) (append-nil (pairs_of e.kind))

-- the setting of the next element's variables was cut
pub element-cut : {a m b : Account} (elements : List Element) (i : ℕ) (e : Element) (old mid new : UserState) → i < length elements → e ≡ get_or elements i e
    → ((own : Own) → Goes a (set_all (user_variables (take i elements)) (state_of old own)) [] (over (normal (state_of mid own))) m)
    → SetsPrefix m (pairs_of e.kind) mid b new → SetsPrefix a (user_variables elements) old b new
element-cut {a} {m} {b} elements i e old mid new within is so_far cut =
    subst (λ l. SetsPrefix a l old b new) (sym split) (prefix_behind (user_variables (take i elements)) (pairs_of e.kind) (user_variables (drop (i + 1) elements)) old mid new so_far cut) where
      split : user_variables elements ≡ user_variables (take i elements) ++ (pairs_of e.kind ++ user_variables (drop (i + 1) elements))
      split = ap user_variables (around elements i e within is) ∙ variables-behind (take i elements) (e ∷ drop (i + 1) elements)
