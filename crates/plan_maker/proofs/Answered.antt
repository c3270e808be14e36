-- Where a reading asks for no pattern and refuses nothing, out of memory is the only error.
use Rattle.std.proofs.Common.{◌≡◌, ℕ, Bool, true, false, List, refl, sym, true≢false, Result, Ok, Err, IfOk, IfErr, ap, ◌∙◌}
use Rattle.element_props.specs.declared.error.BuildError.{BuildError}
use Rattle.element_props.specs.declared.error.BuildError.TheVariants.{NoMemory}
use Rattle.element_props.specs.Patterns.{Asked}
use Rattle.element_props.specs.Reads.{Reads, over, refuse, ask, judged, Path, here, asked, Ends, refused, unread, too_large, Stops, Gives}

abbrev is_over : {A : Type 0} → Reads A → Bool
is_over (over x) = true
is_over (refuse e) = false
is_over (ask p t r) = false

path_over : {A : Type 0} {r s : Reads A} {ts : List (List ℕ)} → Path r ts s → is_over r ≡ true → is_over s ≡ true
path_over here h = h
path_over (asked some q) h = absurd (true≢false (sym h))

ends_over : {A : Type 0} {m n : ℕ} {e : BuildError} {r : Reads A} {last : List (List ℕ)} → Ends m n e r last → is_over r ≡ true → ⊥
ends_over refused h = true≢false (sym h)
ends_over (unread k) h = true≢false (sym h)
ends_over (too_large k) h = true≢false (sym h)

stops_over : {A : Type 0} (a b : Asked) (r : Reads A) (x : A) (e : BuildError) → r ≡ over x → Stops a r e b → ⊥
stops_over a b r x e h s = ends_over s.ends (path_over s.path (ap is_over h))

memory_alone : {A : Type 0} (a b : Asked) (r : Reads A) (x : A) (e : BuildError) → r ≡ over x → ((e ≡ NoMemory → ⊥) → Stops a r e b) → e ≡ NoMemory
memory_alone a b r x NoMemory h stops = refl
memory_alone a b r x e h stops = absurd (stops_over a b r x _ h (stops (λ k. cc)))

pub gives_plan : {A : Type 0} (r : Reads A) (x : A) (result : Result A BuildError) → r ≡ over x → IfOk result (λ y. judged r ≡ Ok y) → IfOk result (λ y. y ≡ x)
gives_plan r x (Ok y) h k = let f : judged r ≡ Ok x = ap judged h in let g = sym f ∙ k in cc
gives_plan r x (Err e) h k = tt

pub gives_memory : {A : Type 0} (a b : Asked) (r : Reads A) (x : A) (result : Result A BuildError) → r ≡ over x → Gives (λ (y : A). y) a r result b → IfErr result (λ e. e ≡ NoMemory)
gives_memory a b r x (Ok y) h g = tt
gives_memory a b r x (Err e) h g = memory_alone a b r x e h g.stops
