-- What the functions of a thread keep, and its random words.
use Rattle.std.specs.Prelude.{◌≡◌, ℕ, zero, suc, ◌+◌, ◌*◌, ◌^◌, ◌-◌, ◌≤◌, min, List, ◌++◌, replicate}
use Rattle.std.specs.Int.{w64, to_le_bytes}
use Rattle.rand_chacha.specs.ChaCha.{ChaCha, key_of, next_word}

-- the properties of the run, the thread's number in its group, the count of `__counter`, and the generator of random words
pub record Functions : Type 0 where
  pub props : List (List ℕ × List ℕ)
  pub thread_num : ℕ
  pub counted : ℕ
  pub random : ChaCha

-- the key of 32 bytes: the seed's eight bytes, the least first, and then 24 zeros
abbrev pub seed_bytes : ℕ → List ℕ
seed_bytes seed = to_le_bytes w64 seed ++ replicate 24 0

-- ChaCha8 with the key of the seed, at the start of the thread's stream
abbrev pub first_state : ℕ → ℕ → ChaCha
first_state seed stream = record { key = key_of (seed_bytes seed); stream = stream; word_pos = 0 }

-- One draw takes two words of ChaCha8 (four double rounds), of 32 bits each, the low one first.
abbrev pub drawn : ChaCha → ℕ
drawn g = (next_word 4 g).0 + 2 ^ 32 * (next_word 4 (next_word 4 g).1).0

abbrev pub after_draw : ChaCha → ChaCha
after_draw g = (next_word 4 (next_word 4 g).1).1

-- what is kept after a draw
abbrev pub draw : Functions → Functions
draw fns = record fns { random = after_draw fns.random }

-- what is kept after one more evaluation of `__counter`: the count stands still at the end of 64 bits
abbrev pub count : Functions → Functions
count fns = record fns { counted = min (fns.counted + 1) (2 ^ 64 - 1) }

-- what a thread begins with
abbrev pub first_functions : List (List ℕ × List ℕ) → ℕ → ℕ → ℕ → Functions
first_functions props thread_num stream seed =
    record { props = props; thread_num = thread_num; counted = 0; random = first_state seed stream }

-- the generator that many draws further
unfoldable pub after_draws : ℕ → ChaCha → ChaCha
after_draws zero g = g
after_draws (suc n) g = after_draw (after_draws n g)

-- What functions keep at a later moment: the same properties and number of the thread, a count that is no less, and
-- the generator some number of draws further.
pub record IsLater (old new : Functions) : Type 0 where
  pub props : new.props ≡ old.props
  pub thread_num : new.thread_num ≡ old.thread_num
  pub counted : old.counted ≤ new.counted
  pub random : (n : ℕ) × (new.random ≡ after_draws n old.random)
