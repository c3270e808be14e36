-- What is counted over the elements of a size.
use Rattle.std.proofs.Common.{◌≡◌, ℕ, zero, suc, ◌+◌, ◌%◌, true, false, List, [], ◌∷◌, ◌++◌, map, length, refl, ap, ◌∙◌, arith, nat_lt, if◌then◌else◌}
use Rattle.std.specs.List.{range_with_len, flat_map, filter_map, list_any}
use Rattle.std.specs.Fmt.{digits}
use Rattle.std.proofs.lemmas.Nat.{mod_below}
use Rattle.jm_base.specs.Outside.{same_bytes}
use Rattle.element_props.specs.Reads.{over}
use Rattle.element_tree.specs.declared.kinds.Element.{Element}
use Rattle.element_tree.specs.Names.{sample_name, lock_name, distinct_after, labels_of, locks_of}
use Rattle.element_tree.specs.Threads.{threads_in, threads_from, is_group_element}
use Rattle.element_tree.specs.Walk.{counted, tree_of}
use Rattle.plan_maker.specs.Generated.{sampler_name, pair, test_plan, thread_group}
use Rattle.plan_maker.proofs.Digits.{sixteen, is_seen}

no_threads : (k i n g : ℕ) → threads_from n g (flat_map pair (range_with_len i k)) ≡ []
no_threads zero i n g = refl
no_threads (suc k) i n g = no_threads k (i + 1) (n + 1 + 1) g

no_locks : (k i : ℕ) → filter_map lock_name (flat_map pair (range_with_len i k)) ≡ []
no_locks zero i = refl
no_locks (suc k) i = no_locks k (i + 1)

the_names : (k i : ℕ) → filter_map sample_name (flat_map pair (range_with_len i k)) ≡ map sampler_name (range_with_len i k)
the_names zero i = refl
the_names (suc k) i = rw (the_names k (i + 1)) refl

after_seen : (x : List ℕ) (xs : List (List ℕ)) → list_any (same_bytes x) sixteen ≡ true → distinct_after sixteen (x ∷ xs) ≡ distinct_after sixteen xs
after_seen x xs h = ap (λ b. distinct_after (if b then sixteen else sixteen ++ x ∷ []) xs) h

-- after sixteen names there are no others
no_more_names : (k i : ℕ) → distinct_after sixteen (map sampler_name (range_with_len i k)) ≡ sixteen
no_more_names zero i = refl
no_more_names (suc k) i = after_seen (sampler_name i) (map sampler_name (range_with_len (i + 1) k)) (is_seen (i % 16) (mod_below i 16 (omega arith))) ∙ no_more_names k (i + 1)

few_names : (k : ℕ) → nat_lt 256 (length (distinct_after [] (map sampler_name (range_with_len 0 k)))) ≡ false
unfolding digits
few_names zero = refl
few_names (suc zero) = refl
few_names (suc (suc zero)) = refl
few_names (suc (suc (suc zero))) = refl
few_names (suc (suc (suc (suc zero)))) = refl
few_names (suc (suc (suc (suc (suc zero))))) = refl
few_names (suc (suc (suc (suc (suc (suc zero)))))) = refl
few_names (suc (suc (suc (suc (suc (suc (suc zero))))))) = refl
few_names (suc (suc (suc (suc (suc (suc (suc (suc zero)))))))) = refl
few_names (suc (suc (suc (suc (suc (suc (suc (suc (suc zero))))))))) = refl
few_names (suc (suc (suc (suc (suc (suc (suc (suc (suc (suc zero)))))))))) = refl
few_names (suc (suc (suc (suc (suc (suc (suc (suc (suc (suc (suc zero))))))))))) = refl
few_names (suc (suc (suc (suc (suc (suc (suc (suc (suc (suc (suc (suc zero)))))))))))) = refl
few_names (suc (suc (suc (suc (suc (suc (suc (suc (suc (suc (suc (suc (suc zero))))))))))))) = refl
few_names (suc (suc (suc (suc (suc (suc (suc (suc (suc (suc (suc (suc (suc (suc zero)))))))))))))) = refl
few_names (suc (suc (suc (suc (suc (suc (suc (suc (suc (suc (suc (suc (suc (suc (suc zero))))))))))))))) = refl
few_names (suc (suc (suc (suc (suc (suc (suc (suc (suc (suc (suc (suc (suc (suc (suc (suc k)))))))))))))))) = rw (no_more_names k 16) refl

counted_few : (es : List Element) → list_any is_group_element es ≡ true → nat_lt 64 (length (threads_in es)) ≡ false → nat_lt 256 (length (labels_of es)) ≡ false → nat_lt 256 (length (locks_of es)) ≡ false → counted es ≡ over (tree_of es)
unfolding counted
counted_few es some threads labels locks = rw (some, threads, labels, locks) refl

abbrev pub all_elements : ℕ → List Element
all_elements size = test_plan ∷ thread_group size ∷ flat_map pair (range_with_len 0 size)

few_threads : (size : ℕ) → nat_lt 64 (length (threads_in (all_elements size))) ≡ false
unfolding threads_in
few_threads size = rw (no_threads size 0 2 2) refl

few_labels : (size : ℕ) → nat_lt 256 (length (labels_of (all_elements size))) ≡ false
unfolding labels_of
few_labels size = rw (the_names size 0) (few_names size)

few_locks : (size : ℕ) → nat_lt 256 (length (locks_of (all_elements size))) ≡ false
unfolding locks_of
few_locks size = rw (no_locks size 0) refl

pub all_counted : (size : ℕ) → counted (all_elements size) ≡ over (tree_of (all_elements size))
all_counted size = counted_few (all_elements size) refl (few_threads size) (few_labels size) (few_locks size)
