-- Delays, one timer after another.
use Rattle.std.proofs.Common.{◌≡◌, ℕ, zero, suc, ◌+◌, ◌<◌, ◌≤◌, List, [], ◌∷◌, length, drop, None, refl, sym, ap, subst, add-one}
use Rattle.std.specs.Prelude.{slice_get, unwrap_or, ◌%◌}
use Rattle.std.specs.Option.{option_map}
use Rattle.std.proofs.Math.ListN.{get_or}
use Rattle.std.proofs.Math.Seq.{drop-cons}
use Rattle.std.proofs.lemmas.List.{drop_all}
use Rattle.jm_base.specs.Run.{Run, over}
use Rattle.jm_base.specs.Outside.{Account, Goes}
use Rattle.jm_base.proofs.RunLaws.{goes-append, goes-bind, goes-nothing}
use Rattle.thread_vars.specs.declared.error.VarError.{VarError}
use Rattle.var_functions.specs.declared.state.UserState.{UserState}
use Rattle.var_functions.specs.FunctionState.{drawn, draw}
use Rattle.var_functions.specs.Came.{Refused}
use Rattle.var_functions.proofs.CameLaws.{refused-bind, refused-first}
use Rattle.element_tree.specs.declared.kinds.Element.{Element}
use Rattle.template_text.specs.Pieces.{Pieces}
use Rattle.element_tree.specs.declared.kinds.Kind.{Kind}
use Rattle.element_tree.specs.declared.kinds.Kind.TheVariants as kinds
use Rattle.trials.specs.Tried.{Tried, giving, fine, past_limit, on_tried}
use Rattle.config_elements.specs.TimerDelay.{within, timer, timer_at, capped, delay_after}

-- a word is drawn below a range
pub drawn_within : (a : Account) (user : UserState) (range word : ℕ) → (range ≡ 0 → ⊥) → word ≡ drawn user.fns.random
    → Goes a (within range user) [] (over (fine (word % range) (record { vars = user.vars; fns = draw user.fns }))) a
drawn_within a user zero word some is = absurd (some refl)
drawn_within a user (suc r) word some is = rw is (goes-nothing a _)

-- the next timer, and those after it
pub timer_goes : {a m b : Account} (elements : List Element) (run : Run (Tried ℕ)) (numbers : List ℕ) (i sum ms next : ℕ) (mid new : UserState) → i < length numbers → next ≡ capped (sum + ms)
    → Goes a run [] (delay_after elements sum (drop i numbers) mid) m → Goes m (timer_at elements (get_or numbers i 0) mid) [] (over (fine ms new)) b
    → Goes a run [] (delay_after elements next (drop (i + 1) numbers) new) b
timer_goes {a} {m} {b} elements run numbers i sum ms next mid new inside sum_is so_far goes =
    let here : drop i numbers ≡ get_or numbers i 0 ∷ drop (i + 1) numbers = rw (add-one i) (drop-cons numbers i 0 inside) in
    goes-append so_far
    (subst (λ l. Goes m (delay_after elements sum l mid) [] (delay_after elements next (drop (i + 1) numbers) new) b) (sym here)
    (subst (λ k. Goes m (delay_after elements sum (get_or numbers i 0 ∷ drop (i + 1) numbers) mid) [] (delay_after elements k (drop (i + 1) numbers) new) b) (sym sum_is)
    (goes-bind (on_tried (λ ms. delay_after elements (capped (sum + ms)) (drop (i + 1) numbers))) goes)))

pub timer_refused : {a m b : Account} (elements : List Element) (run : Run (Tried ℕ)) (numbers : List ℕ) (i sum : ℕ) (mid new : UserState) (error : VarError) → i < length numbers
    → Goes a run [] (delay_after elements sum (drop i numbers) mid) m → Refused m (timer_at elements (get_or numbers i 0) mid) b (over (past_limit new)) error
    → Refused a run b (over (past_limit new)) error
timer_refused {a} {m} {b} elements run numbers i sum mid new error inside so_far refused =
    let here : drop i numbers ≡ get_or numbers i 0 ∷ drop (i + 1) numbers = rw (add-one i) (drop-cons numbers i 0 inside) in
    refused-first so_far
    (subst (λ l. Refused m (delay_after elements sum l mid) b (over (past_limit new)) error) (sym here)
    (refused-bind (on_tried (λ ms. delay_after elements (capped (sum + ms)) (drop (i + 1) numbers))) refused))

pub timers_over : {a b : Account} (elements : List Element) (run : Run (Tried ℕ)) (numbers : List ℕ) (i sum : ℕ) (user : UserState) → length numbers ≤ i
    → Goes a run [] (delay_after elements sum (drop i numbers) user) b → Goes a run [] (over (fine sum user)) b
timers_over {a} {b} elements run numbers i sum user past goes = subst (λ l. Goes a run [] (delay_after elements sum l user) b) (drop_all i numbers past) goes

pub none_within : (a : Account) (user : UserState) (range : ℕ) → range ≡ 0 → Goes a (within range user) [] (over (fine 0 user)) a
none_within a user range none = rw none (goes-nothing a _)

-- an element that is no timer
pub no_timer : (k : Kind) → ((delay : Pieces) → k ≡ kinds.ConstantTimer delay → ⊥) → ((offset range : Pieces) → k ≡ kinds.UniformTimer offset range → ⊥) → timer k ≡ giving 0
no_timer (kinds.ConstantTimer delay) a b = absurd (a delay refl)
no_timer (kinds.UniformTimer offset range) a b = absurd (b offset range refl)
no_timer k a b = refl

pub no_element : (elements : List Element) (n : ℕ) → None ≡ slice_get elements n → timer_at elements n ≡ giving 0
no_element elements n none = ap (λ o. unwrap_or (option_map (λ (e : Element). timer e.kind) o) (giving 0)) (sym none)
