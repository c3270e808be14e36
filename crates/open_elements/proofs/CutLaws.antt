-- Where an open element was refused on its way.
use Rattle.std.proofs.Common.{◌≡◌, inl, inr, ℕ, List, Some, None, refl, sym, ap, ◌∙◌, subst}
use Rattle.std.specs.Prelude.{Result, Ok, Err, IfOk, OnErr, ◌⊎◌}
use Rattle.template_text.specs.Pieces.{Pieces}
use Rattle.element_tree.specs.declared.kinds.Element.{Element}
use Rattle.element_tree.specs.declared.kinds.Kind.{Kind}
use Rattle.element_tree.specs.declared.kinds.Kind.TheVariants as kinds
use Rattle.var_functions.specs.declared.state.UserState.{UserState}
use Rattle.thread_vars.specs.Vars.{Variables}
use Rattle.var_functions.specs.FunctionState.{Functions, IsLater}
use Rattle.var_functions.proofs.LaterLaws.{later_same}
use Rattle.logic_controllers.specs.declared.while_cursor.WhileCursor.{WhileCursor}
use Rattle.logic_controllers.specs.declared.each_cursor.EachCursor.{EachCursor}
use Rattle.logic_controllers.specs.ControllerRounds.{opened_vars, opened}
use Rattle.logic_controllers.specs.WhileController.{WhileKept}
use Rattle.logic_controllers.specs.ForEachController.{Row, kind_of, output_vars, AllSet, EachKept}
use Rattle.jm_meaning.specs.State.{Own, state_of, and_then, with_vars}
use Rattle.jm_meaning.specs.Children.{Below}
use Rattle.jm_meaning.specs.Rounds.{while_turns, each_turns}
use Rattle.open_elements.specs.declared.cursor.Cursor.{Cursor}
use Rattle.open_elements.specs.declared.cursor.Cursor.TheVariants.{While, Each}
use Rattle.open_elements.specs.Cursors.{round_left, while_left_in, each_left_in}
use Rattle.open_elements.specs.ElementCut.{IsCutIn}

-- a refusal is no answer
pub no_refusal : {X E : Type 0} (error : E) (x : X) → Err error ≡ Ok x → ⊥
no_refusal error x is = subst (λ r. IfOk r (λ y. ⊥)) is tt

-- what follows from any refusal holds after one
pub on_refusal : {X E : Type 0} (r : Result X E) (P : Result X E → Type 0) (Q : Type 0) → ((error : E) → P (Err error) → Q) → P r → OnErr r Q
on_refusal (Ok x) P Q h p = tt
on_refusal (Err e) P Q h p = h e p

pub cut_still : (e : Element) (c : Cursor) (old new : UserState) → new.vars ≡ old.vars → IsLater old.fns new.fns → IsCutIn e c old new
cut_still e c old new vars later =
    record { cursor = c; between = old; shut = refl; same = λ below round children own. refl; stands = record { vars = vars; fns = later } }

pub later_of : (old new : Functions) → new ≡ old → IsLater old new
later_of old new is = subst (IsLater old) (sym is) (later_same old)

pub later_as : (old new : UserState) → new ≡ old → IsLater old.fns new.fns
later_as old new is = later_of old.fns new.fns (ap (λ user. user.fns) is)

pub cut_same : (e : Element) (c : Cursor) (old new : UserState) → new ≡ old → IsCutIn e c old new
cut_same e c old new is = cut_still e c old new (ap (λ user. user.vars) is) (later_as old new is)

opened_while : (k : Kind) (name : List ℕ) (condition : Pieces) (below : Below) (children : List ℕ) (c : WhileCursor) (old : UserState) (vars : Variables) (own : Own)
    → k ≡ kinds.While condition → opened_vars name c.rounds old.vars ≡ Some vars
    → while_left_in k name below children c (state_of old own)
    ≡ while_left_in k name below children (record { element = c.element; rounds = opened c.rounds }) (state_of (record { vars = vars; fns = old.fns }) own)
opened_while k name condition below children c old vars own is set =
    ap (λ k. while_left_in k name below children c (state_of old own)) is
    ∙ ap (λ o. and_then (with_vars o (state_of old own)) (round_left (while_turns name condition) below children c.rounds)) set
    ∙ ap (λ k. while_left_in k name below children (record { element = c.element; rounds = opened c.rounds }) (state_of (record { vars = vars; fns = old.fns }) own)) (sym is)

pub cut_while : (e : Element) (condition : Pieces) (c new-c : WhileCursor) (old new : UserState) → e.kind ≡ kinds.While condition → IsLater old.fns new.fns
    → WhileKept e.name c old.vars new-c new.vars → IsCutIn e (While c) old new
cut_while e condition c new-c old new is later (inl h) = cut_still e (While c) old new h.1 later
cut_while e condition c new-c old new is later (inr h) = record {
  cursor = While (record { element = c.element; rounds = opened c.rounds });
  between = record { vars = new.vars; fns = old.fns };
  shut = refl;
  same = λ below round children own. opened_while e.kind e.name condition below children c old new.vars own is h.1;
  stands = record { vars = refl; fns = later };
}

-- the index variable is set
opened_each : (k : Kind) (name : List ℕ) (row : Row) (output : List ℕ) (below : Below) (children : List ℕ) (c : EachCursor) (old : UserState) (vars : Variables) (own : Own)
    → k ≡ kind_of row output → opened_vars name c.rounds old.vars ≡ Some vars
    → each_left_in k name below children c (state_of old own)
    ≡ each_left_in k name below children (record { element = c.element; rounds = opened c.rounds; value = c.value }) (state_of (record { vars = vars; fns = old.fns }) own)
opened_each k name row output below children c old vars own is set =
    ap (λ k. each_left_in k name below children c (state_of old own)) is
    ∙ ap (λ o. and_then (with_vars o (state_of old own)) (λ s. and_then (with_vars (output_vars output c.value s.user.vars) s) (round_left (each_turns name row output) below children c.rounds))) set
    ∙ ap (λ k. each_left_in k name below children (record { element = c.element; rounds = opened c.rounds; value = c.value }) (state_of (record { vars = vars; fns = old.fns }) own)) (sym is)

-- the output is set as well
put_each : (k : Kind) (name : List ℕ) (row : Row) (output : List ℕ) (below : Below) (children : List ℕ) (c : EachCursor) (old : UserState) (vars : Variables) (own : Own)
    → k ≡ kind_of row output → output_vars output c.value old.vars ≡ Some vars
    → each_left_in k name below children (record { element = c.element; rounds = opened c.rounds; value = c.value }) (state_of old own)
    ≡ each_left_in k name below children (record { element = c.element; rounds = opened c.rounds; value = None }) (state_of (record { vars = vars; fns = old.fns }) own)
put_each k name row output below children c old vars own is set =
    ap (λ k. each_left_in k name below children (record { element = c.element; rounds = opened c.rounds; value = c.value }) (state_of old own)) is
    ∙ ap (λ o. and_then (with_vars o (state_of old own)) (round_left (each_turns name row output) below children c.rounds)) set
    ∙ ap (λ k. each_left_in k name below children (record { element = c.element; rounds = opened c.rounds; value = None }) (state_of (record { vars = vars; fns = old.fns }) own)) (sym is)

pub cut_each : (e : Element) (row : Row) (output : List ℕ) (c new-c : EachCursor) (old new : UserState) → e.kind ≡ kind_of row output → IsLater old.fns new.fns
    → EachKept e.name output c old.vars new-c new.vars → IsCutIn e (Each c) old new
cut_each e row output c new-c old new is later (inl h) = cut_still e (Each c) old new h.1 later
cut_each e row output c new-c old new is later (inr h) = by_output h.1 where
  by_output : ((opened_vars e.name c.rounds old.vars ≡ Some new.vars) ⊎ AllSet e.name output c old.vars new.vars) → IsCutIn e (Each c) old new
  by_output (inl set) = record {
    cursor = Each (record { element = c.element; rounds = opened c.rounds; value = c.value });
    between = record { vars = new.vars; fns = old.fns };
    shut = refl;
    same = λ below round children own. opened_each e.kind e.name row output below children c old new.vars own is set;
    stands = record { vars = refl; fns = later };
  }
  by_output (inr set) = record {
    cursor = Each (record { element = c.element; rounds = opened c.rounds; value = None });
    between = record { vars = new.vars; fns = old.fns };
    shut = refl;
    same = λ below round children own.
        opened_each e.kind e.name row output below children c old set.0 own is set.1
        ∙ put_each e.kind e.name row output below children c (record { vars = set.0; fns = old.fns }) new.vars own is set.2;
    stands = record { vars = refl; fns = later };
  }
