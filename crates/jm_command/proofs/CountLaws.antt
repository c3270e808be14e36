-- What is counted of a trace, item by item.
use Rattle.std.proofs.Common.{◌≡◌, ℕ, ◌+◌, ◌≤◌, ◌<◌, List, [], ◌∷◌, ◌++◌, length, get_or, take, refl, sym, ap, ◌∙◌, subst, arith, add-one}
use Rattle.std.specs.List.{flat_map, sum_by}
use Rattle.std.proofs.Math.Seq.{take-suc}
use Rattle.std.proofs.lemmas.List.{append-nil, map-append}
use Rattle.std.proofs.lemmas.Grind.{flat_map-append}
use Rattle.std.proofs.lemmas.List.Concat.{length-flat_map}
use Rattle.std.proofs.lemmas.List.Folds.{flat_map-map, length-flat_map-take}
use Rattle.std.proofs.lemmas.List.Sums.{sum_by-take-le}
use Rattle.std.proofs.lemmas.List.Elements.{All-get_or}
use Rattle.std.specs.Prelude.{All}
use Rattle.jm_base.specs.declared.types.Entry.{Entry}
use Rattle.jm_base.specs.declared.types.Sample.{Sample}
use Rattle.interval_tables.specs.declared.row.Row.{Row}
use Rattle.interval_tables.specs.Rows.{sum_of, rows_with, AllLabels, IsInBounds}
use Rattle.interval_tables.proofs.Sums.{length-sum_of, sum_of_add}
use Rattle.interval_tables.proofs.Bounds.{AllSmall, CanAdd, can_add, sum_in_bounds}
use Rattle.thread_machine.specs.Stepped.{entry_of}
use Rattle.thread_machine.specs.declared.trace.TraceItem.{TraceItem}
use Rattle.thread_machine.specs.declared.trace.TraceItem.TheVariants.{Paused, Sampled, Null, Entered, Left, Ended}
use Rattle.thread_machine.specs.Bare.{bare, bare_item, IsLabelled}
use Rattle.thread_machine.specs.SampleCounts.{one_if_sample, samples_in}
use Rattle.jm_command.specs.Printed.{entries_in, entries_of}

-- ---- the entries of a trace

abbrev pub traced : List TraceItem → List Entry
traced trace = entries_of (bare trace)

one_entry : (item : TraceItem) → length (entries_in (bare_item item)) ≡ one_if_sample item
one_entry (Paused ms) = refl
one_entry (Sampled sample interval) = refl
one_entry (Null sampler) = refl
one_entry (Entered lock place) = refl
one_entry (Left lock) = refl
one_entry (Ended end) = refl

by_items : (trace : List TraceItem) → traced trace ≡ flat_map (λ item. entries_in (bare_item item)) trace
by_items trace = flat_map-map entries_in bare_item trace

-- there is an entry for each sample
pub as_many : (trace : List TraceItem) → length (traced trace) ≡ samples_in trace
as_many trace = ap length (by_items trace) ∙ length-flat_map (λ item. entries_in (bare_item item)) trace ∙ ap (λ f. sum_by f trace) (λ i item. one_entry item i)

-- the items before a sample have fewer
pub fewer : (trace : List TraceItem) (i : ℕ) (item : TraceItem) → i < length trace → one_if_sample (get_or trace i item) ≡ 1 → length (traced (take i trace)) < samples_in trace
fewer trace i item h one =
    let prefix : length (traced (take i trace)) ≡ length (flat_map (λ x. entries_in (bare_item x)) (take i trace)) = ap length (by_items (take i trace)) in
    let all : length (flat_map (λ x. entries_in (bare_item x)) trace) ≡ samples_in trace = sym (ap length (by_items trace)) ∙ as_many trace in
    let here : length (entries_in (bare_item (get_or trace i item))) ≡ 1 = one_entry (get_or trace i item) ∙ one in
    let within = length-flat_map-take (λ x. entries_in (bare_item x)) trace i item h in omega arith

pub one_further : (trace : List TraceItem) (i : ℕ) (item : TraceItem) → i < length trace → traced (take (i + 1) trace) ≡ traced (take i trace) ++ entries_in (bare_item (get_or trace i item))
one_further trace i item h =
    ap traced (ap (λ n. take n trace) (add-one i) ∙ take-suc trace i item h)
    ∙ ap entries_of (map-append bare_item (take i trace) (get_or trace i item ∷ []))
    ∙ flat_map-append entries_in (bare (take i trace)) (bare_item (get_or trace i item) ∷ [])
    ∙ ap (λ es. traced (take i trace) ++ es) (append-nil (entries_in (bare_item (get_or trace i item))))

-- ---- the rows

-- the rows of that many labels are the sum of these entries, whose labels and numbers are in range
pub record IsSum (labels : ℕ) (rows : List Row) (es : List Entry) : Type 0 where
  pub sum : rows ≡ sum_of labels es
  pub labelled : AllLabels labels es
  pub small : AllSmall es

labels_more : (n : ℕ) (es : List Entry) (e : Entry) → AllLabels n es → e.label < n → AllLabels n (es ++ e ∷ [])
labels_more n [] e h low = (low, tt)
labels_more n (x ∷ es) e h low = (h.0, labels_more n es e h.1 low)

small_more : (es : List Entry) (e : Entry) → AllSmall es → e.elapsed < 4294967296 → e.bytes < 4294967296 → AllSmall (es ++ e ∷ [])
small_more [] e h elapsed bytes = (elapsed, bytes, tt)
small_more (x ∷ es) e h elapsed bytes = (h.0, h.1, small_more es e h.2 elapsed bytes)

module _ (labels : ℕ) (rows : List Row) (es : List Entry) (is : IsSum labels rows es) where
  pub in_bounds : length es ≤ 4194304 → IsInBounds rows
  in_bounds few = subst IsInBounds (sym is.sum) (sum_in_bounds labels es is.labelled is.small few)

  module _ (e : Entry) (label : e.label < labels) (elapsed : e.elapsed < 4294967296) (bytes : e.bytes < 4294967296) where
    pub one_more_fits : length es < 4194304 → CanAdd rows e
    one_more_fits few = can_add labels rows es e is.sum is.labelled is.small few label elapsed bytes

    pub one_more : (now : List Row) → now ≡ rows_with rows e → IsSum labels now (es ++ e ∷ [])
    one_more now now_is = record {
      sum = now_is ∙ ap (λ rs. rows_with rs e) is.sum ∙ sum_of_add labels es e label;
      labelled = labels_more labels es e is.labelled label;
      small = small_more es e is.small elapsed bytes;
    }

-- ---- from item to item

no_entries : (item : TraceItem) → ((sample : Sample) (interval : ℕ) → item ≡ Sampled sample interval → ⊥) → entries_in (bare_item item) ≡ []
no_entries (Sampled sample interval) none = absurd (none sample interval refl)
no_entries item none = refl

module _ (labels : ℕ) (rows : List Row) (trace : List TraceItem) (i : ℕ) (is : IsSum labels rows (traced (take i trace))) where
  -- the rows stay in bounds, since the trace has few samples
  pub stays_in_bounds : samples_in trace ≤ 4194304 → IsInBounds rows
  stays_in_bounds few =
      let prefix : length (traced (take i trace)) ≡ samples_in (take i trace) = as_many (take i trace) in
      let fewer_in_front = sum_by-take-le one_if_sample trace i in
      in_bounds labels rows (traced (take i trace)) is (omega arith)

  module _ (item : TraceItem) (within : i < length trace) (here : item ≡ get_or trace i item) where
    -- an item that is not a sample changes nothing
    pub sum_same : ((sample : Sample) (interval : ℕ) → item ≡ Sampled sample interval → ⊥) → (now : List Row) → now ≡ rows → IsSum labels now (traced (take (i + 1) trace))
    sum_same none now now_is =
        let further : traced (take (i + 1) trace) ≡ traced (take i trace) = one_further trace i item within
        ∙ ap (λ es. traced (take i trace) ++ es) (ap (λ x. entries_in (bare_item x)) (sym here) ∙ no_entries item none) ∙ append-nil (traced (take i trace)) in
        subst (λ rs. IsSum labels rs (traced (take (i + 1) trace))) (sym now_is) (subst (IsSum labels rows) (sym further) is)

    module _ (sample : Sample) (interval : ℕ) (e : Entry) (sampled : item ≡ Sampled sample interval) (e_is : e ≡ entry_of sample) (labelled : All (IsLabelled labels) trace) where
      label : e.label < labels
      label = rw e_is (subst (IsLabelled labels) (sym here ∙ sampled) (All-get_or (IsLabelled labels) trace i item within labelled))

      few_before : samples_in trace ≤ 4194304 → length (traced (take i trace)) < 4194304
      few_before few = let before = fewer trace i item within (ap one_if_sample (sym here ∙ sampled)) in omega arith

      -- the label has a row
      pub has_row : e.label < length rows
      has_row = rw is.sum (let all = length-sum_of labels (traced (take i trace)) in let l = label in omega arith)

      -- the sample can be counted besides
      pub has_room : samples_in trace ≤ 4194304 → e.elapsed < 4294967296 → e.bytes < 4294967296 → IsInBounds (rows_with rows e)
      has_room few elapsed bytes = (one_more_fits labels rows (traced (take i trace)) is e label elapsed bytes (few_before few)).room

      -- and then the rows are the sum up to this item
      pub sum_next : e.elapsed < 4294967296 → e.bytes < 4294967296 → (now : List Row) → now ≡ rows_with rows e → IsSum labels now (traced (take (i + 1) trace))
      sum_next elapsed bytes now now_is =
          let further : traced (take (i + 1) trace) ≡ traced (take i trace) ++ e ∷ [] = one_further trace i item within
          ∙ ap (λ x. traced (take i trace) ++ entries_in (bare_item x)) (sym here ∙ sampled) ∙ ap (λ y. traced (take i trace) ++ y ∷ []) (sym e_is) in
          subst (IsSum labels now) (sym further) (one_more labels rows (traced (take i trace)) is e label elapsed bytes now now_is)
