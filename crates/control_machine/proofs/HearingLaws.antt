-- Open elements that hear a sampler's sample.
use Rattle.std.proofs.Common.{◌≡◌, ℕ, ◌+◌, ◌<◌, ◌≤◌, Bool, true, false, List, [], ◌∷◌, ◌++◌, length, take, drop, get_or, set, refl, sym, ap, ◌∙◌, subst, arith, append_assoc}
use Rattle.std.specs.Prelude.{map, reverse, Option, is_some}
use Rattle.std.specs.List.{AllByRecursion}
use Rattle.std.proofs.lemmas.List.{reverse-append, map_push, map_more, length-map, length-take, drop_more, get_or_at, set_at}
use Rattle.jm_base.specs.declared.types.Sample.{Sample}
use Rattle.element_tree.specs.declared.kinds.Element.{Element}
use Rattle.element_tree.specs.declared.kinds.Kind.{Kind}
use Rattle.element_tree.specs.Tree.{Tree, Apart}
use Rattle.jm_meaning.specs.declared.signal.Signal.{Signal}
use Rattle.jm_meaning.specs.Sampling.{after_sample}
use Rattle.jm_meaning.specs.Beginning.{max_rounds}
use Rattle.open_elements.specs.declared.cursor.Cursor.{Cursor}
use Rattle.open_elements.specs.declared.cursor.Cursor.TheVariants.{Transaction}
use Rattle.open_elements.specs.Cursors.{shut_of, lock_in, begun_of, FitsKind}
use Rattle.open_elements.specs.Closing.{KeepsLock}
use Rattle.open_elements.specs.Hearing.{hearing}
use Rattle.control_machine.specs.declared.stack.Frame.{Frame}
use Rattle.control_machine.specs.declared.position.Position.{Position}
use Rattle.control_machine.specs.Left.{open_lock, IsAlone, IsOpen, AreOpen, AreApart, depth_in, DepthsFall, IsOut, StandsIn}
use Rattle.control_machine.specs.declared.moves.Leave.{Leave}
use Rattle.control_machine.specs.declared.moves.Leave.TheVariants as leaves
use Rattle.control_machine.specs.Turns.{signal_left}
use Rattle.control_machine.specs.Hearing.{frame_hearing, all_hearing, told}

-- ---- one after another

pub map-reverse : {X Y : Type 0} (f : X → Y) (xs : List X) → map f (reverse xs) ≡ reverse (map f xs)
map-reverse f [] = refl
map-reverse f (x ∷ xs) =
    ap (map f) (reverse-append (x ∷ []) xs) ∙ map_push f (reverse xs) x ∙ ap (λ l. l ++ f x ∷ []) (map-reverse f xs)
    ∙ sym (reverse-append (f x ∷ []) (map f xs))

-- the first i have heard, and one more hears
pub one_more_hears : (sample : Sample) (xs : List Frame) (i : ℕ) (d : Frame) → i < length xs
    → set (all_hearing sample (take i xs) ++ drop i xs) i (frame_hearing sample (get_or (all_hearing sample (take i xs) ++ drop i xs) i d))
    ≡ all_hearing sample (take (i + 1) xs) ++ drop (i + 1) xs
one_more_hears sample xs i d lt =
    ap (λ l. set (heard ++ l) i (frame_hearing sample (get_or (heard ++ l) i d))) (drop_more xs i d lt)
    ∙ ap (λ x. set (heard ++ get_or xs i d ∷ drop (i + 1) xs) i (frame_hearing sample x)) (get_or_at heard (get_or xs i d) (drop (i + 1) xs) d i long)
    ∙ set_at heard (get_or xs i d) (drop (i + 1) xs) (frame_hearing sample (get_or xs i d)) i long
    ∙ sym (append_assoc heard (frame_hearing sample (get_or xs i d) ∷ []) (drop (i + 1) xs))
    ∙ ap (λ l. l ++ drop (i + 1) xs) (sym (map_more (frame_hearing sample) xs i d lt)) where
      heard : List Frame
      heard = all_hearing sample (take i xs)

      long : length heard ≡ i
      long = let m = length-map (take i xs) (frame_hearing sample) in let t = length-take i xs in omega (arith, m, t, lt)

-- ---- a machine stands as before

fits_hearing : (sample : Sample) (n count : ℕ) (k : Kind) (c : Cursor) → FitsKind n count k c → FitsKind n count k (hearing sample c)
fits_hearing sample n count k (Transaction c) h = h
fits_hearing sample n count k c h = h

begun_hearing : (sample : Sample) (c : Cursor) → begun_of (hearing sample c) ≡ begun_of c
begun_hearing sample (Transaction c) = refl
begun_hearing sample c = refl

keeps_hearing : (sample : Sample) (elements : List Element) (k : Kind) (c : Cursor) → KeepsLock elements k (shut_of c) → KeepsLock elements k (shut_of (hearing sample c))
keeps_hearing sample elements k (Transaction c) h = tt
keeps_hearing sample elements k c h = h

open_hearing : (sample : Sample) (elements : List Element) (limit left : ℕ) (f : Frame) → IsOpen elements limit left f → IsOpen elements limit left (frame_hearing sample f)
open_hearing sample elements limit left f o = record {
  element = o.element;
  there = o.there;
  fits = fits_hearing sample _ _ _ f.cursor o.fits;
  below = o.below;
  depth = o.depth;
  bound = subst (λ n. n + left ≤ limit) (sym (begun_hearing sample f.cursor)) o.bound;
  lock = keeps_hearing sample elements o.element.kind f.cursor o.lock;
}

all_open_hearing : (sample : Sample) (elements : List Element) (left : ℕ) (fs : List Frame) → AreOpen elements left fs → AreOpen elements left (all_hearing sample fs)
all_open_hearing sample elements left [] h = tt
all_open_hearing sample elements left (f ∷ fs) h = (open_hearing sample elements max_rounds left f h.0, all_open_hearing sample elements left fs h.1)

-- the section that is open stays open
lock_hearing : (sample : Sample) (c : Cursor) (outer : Option ℕ) → lock_in (shut_of (hearing sample c)) outer ≡ lock_in (shut_of c) outer
lock_hearing sample (Transaction c) outer = refl
lock_hearing sample c outer = refl

pub open_lock_hearing : (sample : Sample) (fs : List Frame) → open_lock (all_hearing sample fs) ≡ open_lock fs
open_lock_hearing sample [] = refl
open_lock_hearing sample (f ∷ fs) = lock_hearing sample f.cursor (open_lock (all_hearing sample fs)) ∙ ap (lock_in (shut_of f.cursor)) (open_lock_hearing sample fs)

alone_hearing : (sample : Sample) (c : Cursor) (outer after : Option ℕ) → after ≡ outer → IsAlone (shut_of c) outer → IsAlone (shut_of (hearing sample c)) after
alone_hearing sample (Transaction c) outer after same alone = tt
alone_hearing sample c outer after same alone = subst (IsAlone (shut_of c)) (sym same) alone

all_apart_hearing : (sample : Sample) (elements : List Element) (fs : List Frame) → AreApart elements fs → AreApart elements (all_hearing sample fs)
all_apart_hearing sample elements [] h = tt
all_apart_hearing sample elements (f ∷ fs) h = (
  record {
    element = h.0.element;
    there = h.0.there;
    below = subst (λ o. AllByRecursion (Apart f.depth (is_some o) elements) h.0.element.children) (sym (open_lock_hearing sample (f ∷ fs))) h.0.below;
    alone = alone_hearing sample f.cursor (open_lock fs) (open_lock (all_hearing sample fs)) (open_lock_hearing sample fs) h.0.alone;
  },
  all_apart_hearing sample elements fs h.1,
)

-- the depths stay
depth_hearing : (sample : Sample) (fs : List Frame) → depth_in (all_hearing sample fs) ≡ depth_in fs
depth_hearing sample [] = refl
depth_hearing sample (f ∷ fs) = refl

falls_hearing : (sample : Sample) (fs : List Frame) → DepthsFall fs → DepthsFall (all_hearing sample fs)
falls_hearing sample [] h = tt
falls_hearing sample (f ∷ fs) h = (subst (λ n. f.depth < n) (sym (depth_hearing sample fs)) h.0, falls_hearing sample fs h.1)

out_after : (ok : Bool) (failure : Signal) → IsOut failure → IsOut (after_sample ok failure)
out_after true failure h = tt
out_after false failure h = h

pub told_stands : (plan : Tree) (sample : Sample) (m : Position) → StandsIn plan m → StandsIn plan (told sample m)
told_stands plan sample m s = record {
  group = s.group;
  open_ = all_open_hearing sample plan.elements m.rounds m.stack.frames s.open_;
  apart = all_apart_hearing sample plan.elements m.stack.frames s.apart;
  falls = falls_hearing sample m.stack.frames s.falls;
  failure = s.failure;
  signal = out_after sample.ok m.at_failure s.failure;
  links = s.links;
}

out_left : (how : Leave) → IsOut (signal_left how)
out_left leaves.NextLoop = tt
out_left leaves.StopThread = tt
out_left leaves.StopTest = tt

pub left_stands : (plan : Tree) (how : Leave) (m : Position) → StandsIn plan m → StandsIn plan (record m { signal = signal_left how })
left_stands plan how m s = record { group = s.group; open_ = s.open_; apart = s.apart; falls = s.falls; failure = s.failure; signal = out_left how; links = s.links }
