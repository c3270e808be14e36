use Rattle.std.proofs.Common.{◌≡◌, sym, ap, ◌∙◌, refl, arith}
use Rattle.element_tree.proofs.CountLaws.{no_group, many_threads, many_labels, many_locks, all_counted, are_tables}
use Rattle.element_tree.proofs.tree_walk.tables_of.Goals as goal

pub returns-then-not-has_group-clause-answers : goal.returns-then-not-has_group-clause-answers
returns-then-not-has_group-clause-answers c = λ other. no_group c.args.elements.now _ (sym c.has_group.ensures ∙ c.if-not-has_group.true) c.in_ok-children_path.ensures

pub returns-in_default-clause-answers : goal.returns-in_default-clause-answers
returns-in_default-clause-answers c = λ other.
    let many = rw c.in_default.is at c.in_ok-threads.ensures in
    many_threads c.args.elements.now _ (sym c.has_group.ensures ∙ c.if-not-has_group.false) many c.in_ok-too_many.ensures

pub returns-in_default-2-clause-answers : goal.returns-in_default-2-clause-answers
returns-in_default-2-clause-answers c = λ other.
    let threads = rw c.in-Some.is at c.in_ok-threads.ensures in
    let many = rw c.in_default-2.is at c.in_ok-labels.ensures in
    many_labels c.args.elements.now _ c.in-Some.threads.items (sym c.has_group.ensures ∙ c.if-not-has_group.false) threads.0 threads.1 many c.in_ok-too_many-2.ensures

pub returns-in_default-3-clause-answers : goal.returns-in_default-3-clause-answers
returns-in_default-3-clause-answers c = λ other.
    let threads = rw c.in-Some.is at c.in_ok-threads.ensures in
    let labels = rw c.in-Some-2.is at c.in_ok-labels.ensures in
    let many = rw c.in_default-3.is at c.in_ok-locks.ensures in
    many_locks c.args.elements.now _ c.in-Some.threads.items c.in-Some-2.labels.items (sym c.has_group.ensures ∙ c.if-not-has_group.false) threads.0 threads.1 labels.0 labels.1 many c.in_ok-too_many-3.ensures

pub returns-clause-answers : goal.returns-clause-answers
returns-clause-answers c =
    let threads = rw c.in-Some.is at c.in_ok-threads.ensures in
    let labels = rw c.in-Some-2.is at c.in_ok-labels.ensures in
    let locks = rw c.in-Some-3.is at c.in_ok-locks.ensures in
    all_counted c.args.elements.now c.in-Some.threads.items c.in-Some-2.labels.items c.in-Some-3.locks.items (sym c.has_group.ensures ∙ c.if-not-has_group.false) threads.0 threads.1 labels.0 labels.1 locks.0 locks.1

pub returns-clause-tables : goal.returns-clause-tables
returns-clause-tables c =
    let threads = rw c.in-Some.is at c.in_ok-threads.ensures in
    let labels = rw c.in-Some-2.is at c.in_ok-labels.ensures in
    let locks = rw c.in-Some-3.is at c.in_ok-locks.ensures in
    rw (c.of.ensures, c.of-2.ensures, c.of-3.ensures, c.of-4.ensures, c.of-5.ensures)
    (are_tables c.args.elements.now c.in-Some.threads.items c.in-Some-2.labels.items c.in-Some-3.locks.items _ _ threads.0 labels.0 locks.0
    (rw c.deref.ensures.value at c.in_ok-label_numbers.ensures) (rw c.deref-2.ensures.value at c.in_ok-lock_numbers.ensures))
