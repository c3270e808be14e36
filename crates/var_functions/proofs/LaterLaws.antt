-- One moment of what functions keep after another.
use Rattle.std.proofs.Common.{◌≡◌, ℕ, zero, suc, ◌+◌, ◌≤◌, ◌^◌, ◌-◌, refl, sym, ap, ◌∙◌, arith}
use Rattle.rand_chacha.specs.ChaCha.{ChaCha}
use Rattle.var_functions.specs.FunctionState.{Functions, after_draw, after_draws, draw, count, IsLater}

-- draws and further draws
draws-draws : (m n : ℕ) (g : ChaCha) → after_draws (m + n) g ≡ after_draws m (after_draws n g)
unfolding after_draws
draws-draws zero n g = let none : zero + n ≡ n = omega arith in ap (λ k. after_draws k g) none
draws-draws (suc m) n g = let more : suc m + n ≡ suc (m + n) = omega arith in ap (λ k. after_draws k g) more ∙ ap after_draw (draws-draws m n g)

pub later_same : (fns : Functions) → IsLater fns fns
unfolding after_draws
later_same fns = record { props = refl; thread_num = refl; counted = omega arith; random = (0, refl) }

pub later_draw : (old new : Functions) → new ≡ draw old → IsLater old new
unfolding after_draws
later_draw old new is = rw is record { props = refl; thread_num = refl; counted = omega arith; random = (1, refl) }

pub later_count : (old new : Functions) → new ≡ count old → old.counted ≤ 2 ^ 64 - 1 → IsLater old new
unfolding after_draws
later_count old new is h = rw is record { props = refl; thread_num = refl; counted = omega (arith, h); random = (0, refl) }

-- what is later than a later moment is later
pub later_then : (a b c : Functions) → IsLater a b → IsLater b c → IsLater a c
later_then a b c h k = record {
  props = k.props ∙ h.props;
  thread_num = k.thread_num ∙ h.thread_num;
  counted = omega (arith, h.counted, k.counted);
  random = (k.random.0 + h.random.0, k.random.1 ∙ ap (after_draws k.random.0) h.random.1 ∙ sym (draws-draws k.random.0 h.random.0 a.random));
}
