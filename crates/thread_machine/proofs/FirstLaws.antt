-- The first variables leave the units and the rounds as they are.
use Rattle.std.proofs.Common.{◌≡◌, ℕ, List, [], ◌∷◌, Option, Some, None, refl, sym, ap, ◌∙◌}
use Rattle.std.specs.Prelude.{codes}
use mathlib.Core.Path.{fun_ext}
use Rattle.jm_base.specs.Run.{◌>>=◌}
use Rattle.jm_base.proofs.RunLaws.{bind-assoc}
use Rattle.var_functions.specs.declared.state.UserState.{UserState}
use Rattle.thread_vars.specs.Vars.{Variables, put_var}
use Rattle.element_props.specs.declared.prop.Pair.{Pair}
use Rattle.element_tree.specs.declared.kinds.Element.{Element}
use Rattle.jm_meaning.specs.State.{Own, Part, state_of, on_normal, and_then, on_came, tried, text, with_vars, put}
use Rattle.jm_meaning.specs.Beginning.{user_variables, set_all, set_first, last_sample_ok}
use Rattle.jm_meaning.proofs.PartLaws.{then-assoc}

module _ (own : Own) where
  -- parts that go on alike with these units and rounds
  abbrev pub Alike : Part → Part → Type 0
  Alike f g = (user : UserState) → f (state_of user own) ≡ g (state_of user own)

  vars_alike : (f g : Part) → Alike f g → (made : Option Variables) (user : UserState)
      → and_then (with_vars made (state_of user own)) f ≡ and_then (with_vars made (state_of user own)) g
  vars_alike f g same None user = refl
  vars_alike f g same (Some vars) user = same (record { vars = vars; fns = user.fns })

  came_alike : (f g : Part) → Alike f g → (name : List ℕ) (user : UserState) (came : Option (List ℕ))
      → on_came own (put name) (record { came = came; user = user }) >>= on_normal f ≡ on_came own (put name) (record { came = came; user = user }) >>= on_normal g
  came_alike f g same name user None = refl
  came_alike f g same name user (Some x) = vars_alike f g same (put_var name x user.vars) user

  pair_alike : (f g : Part) → Alike f g → (p : Pair) (user : UserState)
      → and_then (tried (text p.value) (state_of user own) (put p.name)) f ≡ and_then (tried (text p.value) (state_of user own) (put p.name)) g
  pair_alike f g same p user =
      bind-assoc (text p.value user) (on_came own (put p.name)) (on_normal f)
      ∙ ap (λ k. text p.value user >>= k) (fun_ext λ t. came_alike f g same p.name t.user t.came)
      ∙ sym (bind-assoc (text p.value user) (on_came own (put p.name)) (on_normal g))

  all_alike : (ps : List Pair) (f g : Part) → Alike f g → (user : UserState)
      → and_then (set_all ps (state_of user own)) f ≡ and_then (set_all ps (state_of user own)) g
  all_alike [] f g same user = same user
  all_alike (p ∷ ps) f g same user =
      then-assoc (tried (text p.value) (state_of user own) (put p.name)) (set_all ps) f
      ∙ pair_alike (λ s. and_then (set_all ps s) f) (λ s. and_then (set_all ps s) g) (all_alike ps f g same) p user
      ∙ sym (then-assoc (tried (text p.value) (state_of user own) (put p.name)) (set_all ps) g)

  pub first_alike : (elements : List Element) (f g : Part) → Alike f g → (user : UserState)
      → and_then (set_first elements (state_of user own)) f ≡ and_then (set_first elements (state_of user own)) g
  first_alike elements f g same user =
      then-assoc (set_all (user_variables elements) (state_of user own)) (put last_sample_ok (codes "true")) f
      ∙ all_alike (user_variables elements) (λ s. and_then (put last_sample_ok (codes "true") s) f) (λ s. and_then (put last_sample_ok (codes "true") s) g)
      (λ user. vars_alike f g same (put_var last_sample_ok (codes "true") user.vars) user) user
      ∙ sym (then-assoc (set_all (user_variables elements) (state_of user own)) (put last_sample_ok (codes "true")) g)
