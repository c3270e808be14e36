-- The threads of elements, one element after another.
use Rattle.std.proofs.Common.{◌≡◌, ℕ, suc, ◌+◌, ◌<◌, ◌≤◌, List, ◌∷◌, ◌++◌, length, get_or, drop, Option, Some, None, sym, ap, ◌∙◌, add-one, drop-cons, append_assoc, arith, length-append}
use Rattle.std.proofs.lemmas.List.{append-nil, drop_all}
use Rattle.element_tree.specs.declared.kinds.Element.{Element}
use Rattle.element_tree.specs.declared.threads.Thread.{Thread}
use Rattle.element_tree.specs.Threads.{group_size, group_threads, threads_with, threads_from}

one_more : (es : List Element) (i : ℕ) (e : Element) → i < length es → e ≡ get_or es i e → drop i es ≡ e ∷ drop (i + 1) es
one_more es i e h is = rw add-one (drop-cons es i e h ∙ ap (λ (x : Element). x ∷ drop (suc i) es) (sym is))

step : (es : List Element) (i g : ℕ) (e : Element) → i < length es → e ≡ get_or es i e
    → threads_from i g (drop i es) ≡ threads_with i g (group_size e.kind) (λ h. threads_from (i + 1) h (drop (i + 1) es))
step es i g e h is = ap (threads_from i g) (one_more es i e h is)

-- one more element, which is not a group
pub no_group_step : (seen all : List Thread) (es : List Element) (i g : ℕ) (e : Element) → i < length es → e ≡ get_or es i e → group_size e.kind ≡ None
    → seen ++ threads_from i g (drop i es) ≡ all → seen ++ threads_from (i + 1) g (drop (i + 1) es) ≡ all
no_group_step seen all es i g e h is none kept =
    ap (λ (o : Option ℕ). seen ++ threads_with i g o (λ h. threads_from (i + 1) h (drop (i + 1) es))) (sym none) ∙ ap (λ (ts : List Thread). seen ++ ts) (sym (step es i g e h is)) ∙ kept

-- one more group
pub group_step : (seen all more : List Thread) (es : List Element) (i g n : ℕ) (e : Element) → i < length es → e ≡ get_or es i e → group_size e.kind ≡ Some n → more ≡ seen ++ group_threads i g n
    → seen ++ threads_from i g (drop i es) ≡ all → more ++ threads_from (i + 1) (g + 1) (drop (i + 1) es) ≡ all
group_step seen all more es i g n e h is some grown kept =
    rw grown (append_assoc seen (group_threads i g n) _ ∙ ap (λ (o : Option ℕ). seen ++ threads_with i g o (λ h. threads_from (i + 1) h (drop (i + 1) es))) (sym some)
    ∙ ap (λ (ts : List Thread). seen ++ ts) (sym (step es i g e h is)) ∙ kept)

pub too_many_threads : (limit : ℕ) (seen rest all : List Thread) → seen ++ rest ≡ all → limit < length seen → limit < length all
too_many_threads limit seen rest all is more = omega (arith, length-append seen rest, ap length is)

pub no_more_threads : (seen all : List Thread) (es : List Element) (i g : ℕ) → length es ≤ i → seen ++ threads_from i g (drop i es) ≡ all → seen ≡ all
no_more_threads seen all es i g h kept = sym (append-nil seen) ∙ ap (λ (xs : List Element). seen ++ threads_from i g xs) (sym (drop_all i es h)) ∙ kept
