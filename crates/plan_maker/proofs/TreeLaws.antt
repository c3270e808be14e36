-- The elements that are read of the tree of a size.
use Rattle.std.proofs.Common.{◌≡◌, ℕ, zero, suc, ◌+◌, ◌*◌, ◌%◌, ◌==◌, ◌<◌, ◌≤◌, Bool, true, false, [], ◌∷◌, map, refl, arith, nat_le, if◌then◌else◌, decimal}
use Rattle.std.specs.List.{range_with_len, flat_map}
use Rattle.std.proofs.lemmas.List.{append-nil}
use Rattle.std.proofs.lemmas.Nat.{mod_below}
use Rattle.plan_json.specs.Shape.{raw_then, no_raws}
use Rattle.template_text.specs.Pieces.{text, no_more}
use Rattle.plan_json.specs.TreeSeen.{raws_of}
use Rattle.element_props.specs.Reads.{over}
use Rattle.element_tree.specs.declared.kinds.Kind.TheVariants.{Loop, Script}
use Rattle.element_tree.specs.Walk.{elements, below, walked}
use Rattle.plan_maker.specs.Generated.{code_of, reply, loop_number, loop_name, sampler_name, pair, test_plan, thread_group}
use Rattle.plan_maker.specs.Raws.{loop_raw, group_raw, plan_raw}
use Rattle.plan_maker.proofs.Digits.{not_reached, reached, digit_read, short_loop, short_sampler}
use Rattle.plan_maker.proofs.OwnLaws.{group_spot, loop_spot, root_own, group_own, loop_own, sampler_own}

small_code : (b : Bool) → nat_le (if b then 500 else 200) 999 ≡ true
small_code true = refl
small_code false = refl

-- a loop whose element has the number n, and its sampler
one_loop : (place n i : ℕ) → n + 1 < 4096 → i < 2047
    → elements (loop_spot (0 ∷ place ∷ [])) n (loop_raw i)
    ≡ over (record { name = loop_name i; kind = Loop (text (decimal (i % 7 + 1)) no_more); parent = 1; children = (n + 1) ∷ [] } ∷ record { name = sampler_name i; kind = Script (reply i ∷ []) no_more; parent = n; children = [] } ∷ [])
unfolding elements
one_loop place n i few small =
    let seven = mod_below i 7 (omega arith) in
    let sixteen = mod_below i 16 (omega arith) in
    let ten = mod_below i 10 (omega arith) in
    rw (
      loop_own (0 ∷ place ∷ []) n (i % 7 + 1) (loop_name i) _ (not_reached 4096 n (omega (arith, few))) (short_loop i small) (digit_read (i % 7) seven),
      sampler_own n (n + 1) (code_of i) (i % 10) (0 ∷ place ∷ 0 ∷ []) (sampler_name i) (not_reached 4096 (n + 1) few) (short_sampler i sixteen) (small_code (i % 5 == 4)) (reached (i % 10) 4294967295 (omega (arith, ten))),
    )
    refl

the_loop : (i : ℕ) → i < 2047 → elements (loop_spot (0 ∷ i ∷ [])) (loop_number i) (loop_raw i) ≡ over (pair i)
the_loop i small = let e : 2 * i + 2 + 1 ≡ 2 * i + 3 = omega arith in rw (one_loop i (loop_number i) i (omega (arith, small)) small, e) refl

-- the loops from this one on
all_loops : (k i : ℕ) → i + k ≤ 2047 → below (loop_spot (0 ∷ [])) i (loop_number i) (raws_of (map loop_raw (range_with_len i k))) ≡ over (map loop_number (range_with_len i k), flat_map pair (range_with_len i k))
unfolding elements
all_loops zero i h = refl
all_loops (suc k) i h =
    let next : 2 * i + 2 + 2 ≡ 2 * (i + 1) + 2 = omega arith in
    rw (the_loop i (omega (arith, h)), next, all_loops k (i + 1) (omega (arith, h))) refl

the_group : (size : ℕ) → size ≤ 2047 → elements group_spot 1 (group_raw size) ≡ over (thread_group size ∷ flat_map pair (range_with_len 0 size))
unfolding elements
the_group size h = rw (group_own (raws_of (map loop_raw (range_with_len 0 size))), all_loops size 0 (omega (arith, h))) refl

pub the_elements : (size : ℕ) → size ≤ 2047 → walked (plan_raw size) ≡ over (test_plan ∷ thread_group size ∷ flat_map pair (range_with_len 0 size))
unfolding walked elements
the_elements size h = rw (root_own (raw_then (group_raw size) no_raws), the_group size h, append-nil (flat_map pair (range_with_len 0 size))) refl
