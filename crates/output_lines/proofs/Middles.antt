-- A result line from the fields in its middle.
use Rattle.std.proofs.Common.{◌≡◌, ℕ, ◌<◌, ◌^◌, List, [], ◌∷◌, ◌++◌, sym, ap, ◌∙◌, Bor, Option, Some, None, true}
use Rattle.csv.specs.Writing.{comma}
use Rattle.std.specs.Prelude.{IfSome, is_some}
use Rattle.std.specs.Fmt.{decimal}
use Rattle.jm_base.specs.declared.types.Sample.{Sample}
use Rattle.element_tree.specs.Tree.{Tree, thread_name_of}
use Rattle.output_lines.specs.Lines.{label_text, result_text, truth}
use Rattle.output_lines.specs.Bulk.{between, IsMiddle, IsTail, AreWords, SaysTheSame, EndsTheSame}
use Rattle.output_lines.proofs.NumberRows.{row_between}

pub line_of_middle : (plan : Tree) (thread interval : ℕ) (s : Sample) (middle : List ℕ) → IsMiddle plan thread s middle → AreWords s interval → between s interval middle ≡ result_text plan thread s interval
unfolding result_text
line_of_middle plan thread interval s middle is words =
    sym (row_between s.stamp s.elapsed s.bytes interval (label_text plan s.label) (decimal s.code) (s.message ∷ thread_name_of plan thread ∷ truth s.ok ∷ s.failure ∷ []) middle is
    words.stamp words.elapsed words.bytes words.number)

-- the middle of a sample is that of one that says the same
pub same_middle : (plan : Tree) (thread : ℕ) (s t : Sample) (middle : List ℕ) → SaysTheSame s t → IsMiddle plan thread s middle → IsMiddle plan thread t middle
same_middle plan thread s t middle same is = rw (sym same.label, sym same.code, sym same.message, sym same.ok, sym same.failure) is

-- the middle of the sample that was told last is that of one that says the same
pub told_middle : (plan : Tree) (thread : ℕ) (t : Sample) (middle : List ℕ) (told : Option (Bor Sample)) → IfSome told (λ s. IsMiddle plan thread s.now middle)
    → IfSome told (λ s. SaysTheSame s.now t) → is_some told ≡ true → IsMiddle plan thread t middle
told_middle plan thread t middle (Some s) is same some = same_middle plan thread s.now t middle same is
told_middle plan thread t middle None is same some = cc

-- the line of a stamp and a tail
pub line_of_tail : (plan : Tree) (thread interval : ℕ) (s : Sample) (tail : List ℕ) → IsTail plan thread s interval tail → s.stamp < 2 ^ 64 → decimal s.stamp ++ comma ∷ tail ≡ result_text plan thread s interval
line_of_tail plan thread interval s tail is stamp =
    ap (λ t. decimal s.stamp ++ comma ∷ t) is.text
    ∙ line_of_middle plan thread interval s is.middle is.is (record { stamp = stamp; elapsed = is.elapsed; bytes = is.bytes; number = is.number })

-- the tail of a line is that of one that ends the same
same_tail : (plan : Tree) (thread : ℕ) (s t : Sample) (i j : ℕ) (tail : List ℕ) → EndsTheSame s t i j → IsTail plan thread s i tail → IsTail plan thread t j tail
same_tail plan thread s t i j tail same is = record {
  middle = is.middle;
  is = same_middle plan thread s t is.middle same.says is.is;
  text = rw (sym same.elapsed, sym same.bytes, sym same.interval) is.text;
  elapsed = rw (sym same.elapsed) is.elapsed;
  bytes = rw (sym same.bytes) is.bytes;
  number = rw (sym same.interval) is.number;
}

-- the tail of the last line is that of one that ends the same
pub last_tail : (plan : Tree) (thread : ℕ) (t : Sample) (j : ℕ) (tail : List ℕ) (last : Option (Bor Sample × ℕ)) → IfSome last (λ l. IsTail plan thread l.0.now l.1 tail)
    → IfSome last (λ l. EndsTheSame l.0.now t l.1 j) → is_some last ≡ true → IsTail plan thread t j tail
last_tail plan thread t j tail (Some l) is same some = same_tail plan thread l.0.now t l.1 j tail same is
last_tail plan thread t j tail None is same some = cc
