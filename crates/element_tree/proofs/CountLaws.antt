-- What is counted over a whole plan.
use Rattle.std.proofs.Common.{◌≡◌, ℕ, ◌<◌, ◌≤◌, Bool, true, false, List, [], length, map, Option, Some, None, refl, sym, ap, ◌∙◌, arith, nat_lt, codes}
use Rattle.std.specs.List.{list_any}
use Rattle.std.proofs.lemmas.Bool.Decides.{nat_tests}
use Rattle.plan_json.specs.Place.{Place, at}
use Rattle.element_props.specs.declared.error.BuildError.{BuildError}
use Rattle.element_props.specs.declared.error.BuildError.TheVariants.{MissingProp, TooMany}
use Rattle.element_props.specs.declared.error.What.TheVariants as what
use Rattle.element_props.specs.Reads.{Reads, over, refuse}
use Rattle.element_tree.specs.declared.kinds.Element.{Element}
use Rattle.element_tree.specs.declared.names.Naming.TheVariants.{Label, Lock}
use Rattle.element_tree.specs.declared.threads.Thread.{Thread}
use Rattle.element_tree.specs.Names.{labels_of, locks_of, label_of, lock_of, lock_name, names_of, number_in, looked_up}
use Rattle.element_tree.specs.Threads.{threads_in, is_group_element}
use Rattle.element_tree.specs.Tree.{AreTables}
use Rattle.element_tree.specs.Walk.{counted, tree_of}

above : (m n : ℕ) → m < n → nat_lt m n ≡ true
above m n h = grind (arith, nat_tests)

within : (m n : ℕ) → n ≤ m → nat_lt m n ≡ false
within m n h = grind (arith, nat_tests)

-- the names by one word or the other
pub labels_are : (es : List Element) → names_of Label es ≡ labels_of es
unfolding labels_of
labels_are es = refl

pub locks_are : (es : List Element) → names_of Lock es ≡ locks_of es
unfolding locks_of
locks_are es = refl

pub no_group : (es : List Element) (path : Place) → list_any is_group_element es ≡ false → path ≡ record { places = []; prop = Some (codes "children") } → counted es ≡ refuse (MissingProp path)
unfolding counted
no_group es path h is = rw (h, is) refl

pub many_threads : (es : List Element) (e : BuildError) → list_any is_group_element es ≡ true → 64 < length (threads_in es) → e ≡ TooMany (at []) what.Threads → counted es ≡ refuse e
unfolding counted
many_threads es e h many is = let t = above 64 (length (threads_in es)) many in rw (h, t, is) refl

pub many_labels : (es : List Element) (e : BuildError) (threads : List Thread) → list_any is_group_element es ≡ true → threads ≡ threads_in es → length threads ≤ 64 → 256 < length (names_of Label es) → e ≡ TooMany (at []) what.Labels → counted es ≡ refuse e
unfolding counted
many_labels es e threads h all few many is =
    let t : nat_lt 64 (length (threads_in es)) ≡ false = within 64 (length (threads_in es)) (rw all at few) in
    let l : nat_lt 256 (length (labels_of es)) ≡ true = above 256 (length (labels_of es)) (rw labels_are at many) in
    rw (h, t, l, is) refl

pub many_locks : (es : List Element) (e : BuildError) (threads : List Thread) (labels : List (List ℕ)) → list_any is_group_element es ≡ true → threads ≡ threads_in es → length threads ≤ 64 → labels ≡ names_of Label es → length labels ≤ 256
    → 256 < length (names_of Lock es) → e ≡ TooMany (at []) what.Locks → counted es ≡ refuse e
unfolding counted
many_locks es e threads labels h all few named few_labels many is =
    let t : nat_lt 64 (length (threads_in es)) ≡ false = within 64 (length (threads_in es)) (rw all at few) in
    let l : nat_lt 256 (length (labels_of es)) ≡ false = within 256 (length (labels_of es)) (rw (named, labels_are) at few_labels) in
    let k : nat_lt 256 (length (locks_of es)) ≡ true = above 256 (length (locks_of es)) (rw locks_are at many) in
    rw (h, t, l, k, is) refl

pub all_counted : (es : List Element) (threads : List Thread) (labels locks : List (List ℕ)) → list_any is_group_element es ≡ true → threads ≡ threads_in es → length threads ≤ 64 → labels ≡ names_of Label es → length labels ≤ 256
    → locks ≡ names_of Lock es → length locks ≤ 256 → counted es ≡ over (tree_of es)
unfolding counted
all_counted es threads labels locks h all few named few_labels locked few_locks =
    let t : nat_lt 64 (length (threads_in es)) ≡ false = within 64 (length (threads_in es)) (rw all at few) in
    let l : nat_lt 256 (length (labels_of es)) ≡ false = within 256 (length (labels_of es)) (rw (named, labels_are) at few_labels) in
    let k : nat_lt 256 (length (locks_of es)) ≡ false = within 256 (length (locks_of es)) (rw (locked, locks_are) at few_locks) in
    rw (h, t, l, k) refl

pub are_tables : (es : List Element) (threads : List Thread) (labels locks : List (List ℕ)) (label_numbers lock_numbers : List ℕ) → threads ≡ threads_in es → labels ≡ names_of Label es → locks ≡ names_of Lock es
    → label_numbers ≡ map (λ e. number_in labels (looked_up Label e)) es → lock_numbers ≡ map (λ e. number_in locks (looked_up Lock e)) es → AreTables es labels label_numbers locks lock_numbers threads
are_tables es threads labels locks label_numbers lock_numbers all named locked labelled numbered = record {
  labels_ = named ∙ labels_are es;
  label_numbers_ = labelled ∙ ap (λ (names : List (List ℕ)). map (λ e. number_in names (looked_up Label e)) es) (named ∙ labels_are es);
  locks_ = locked ∙ locks_are es;
  lock_numbers_ = numbered ∙ ap (λ (names : List (List ℕ)). map (λ e. number_in names (looked_up Lock e)) es) (locked ∙ locks_are es);
  threads_ = all;
}
