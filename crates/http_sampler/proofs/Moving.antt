-- What went out to a stream and came from it, in two parts.
use Rattle.std.proofs.Common.{List, ℕ, [], Option, Some, None, sym}
use Rattle.std.specs.Io.KnownBytes.{Appends, Consumes, Keeps}
use Rattle.edge_io.proofs.EdgeLaws.{Keeps-refl, Keeps-Appends, Keeps-Consumes, Keeps-from_Appends, Appends-Keeps, Appends-nil}
use Rattle.http_sampler.specs.Streams.{Standing}
use Rattle.http_sampler.specs.Exchanges.{Moves}

abbrev pub standing : Option (List ℕ) → Option (List ℕ) → Option (List ℕ) → ℕ → Standing
standing s g l f = record { sent = s; given = g; left = l; faults = f }

pub Appends-from_Keeps : (a b : Option (List ℕ)) → Keeps a b → Appends a b []
Appends-from_Keeps a b k = Keeps-Appends a b b [] k (Appends-nil b)

pub Consumes-from_Keeps : (a b : Option (List ℕ)) → Keeps a b → Consumes a b []
Consumes-from_Keeps None b k = tt
Consumes-from_Keeps (Some xs) None k = absurd k
Consumes-from_Keeps (Some xs) (Some ys) k = sym k

-- nothing went out and nothing was received
pub moves_nothing : (s g l : Option (List ℕ)) (f : ℕ) → Moves (standing s g l f) (standing s g l f) [] []
moves_nothing s g l f = record { went = Appends-nil s; gave = Appends-nil g; came = Consumes-from_Keeps l l (Keeps-refl l) }

-- bytes went out, and nothing was received
pub moves_out : (s s' g g' l l' : Option (List ℕ)) (f f' : ℕ) (bytes : List ℕ) → Appends s s' bytes → Keeps g g' → Keeps l l'
    → Moves (standing s g l f) (standing s' g' l' f') bytes []
moves_out s s' g g' l l' f f' bytes went given left = record { went = went; gave = Appends-from_Keeps g g' given; came = Consumes-from_Keeps l l' left }

-- bytes went out, and then bytes were received
pub moves_on : (s s' s'' g g' g'' l l' l'' : Option (List ℕ)) (f f' f'' : ℕ) (bytes got : List ℕ) → Appends s s' bytes → Keeps g g' → Keeps l l'
    → Moves (standing s' g' l' f') (standing s'' g'' l'' f'') [] got → Moves (standing s g l f) (standing s'' g'' l'' f'') bytes got
moves_on s s' s'' g g' g'' l l' l'' f f' f'' bytes got went given left moved = record {
  went = Appends-Keeps s s' s'' bytes went (Keeps-from_Appends s' s'' moved.went);
  gave = Keeps-Appends g g' g'' got given moved.gave;
  came = Keeps-Consumes l l' l'' got left moved.came;
}
