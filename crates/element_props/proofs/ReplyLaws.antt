-- Keys, as code and contracts see them.
use Rattle.std.proofs.Common.{◌≡◌, ℕ, List, [], ◌∷◌, map, Bor, bytes_eq, ◌||◌, refl, ap}
use Rattle.std.specs.List.{list_any}

pub keys_seen : (key : List ℕ) (ks : List (Bor (List ℕ))) → list_any (bytes_eq key) (map (λ k. k.now) ks) ≡ list_any (λ k. bytes_eq key k.now) ks
keys_seen key [] = refl
keys_seen key (k ∷ ks) = ap (λ b. bytes_eq key k.now || b) (keys_seen key ks)
