-- Result lines of a thread that are formed one after another.
use Rattle.std.specs.Prelude.{◌≡◌, ◌<◌, ◌^◌, ℕ, List, [], ◌∷◌, ◌++◌}
use Rattle.std.specs.Fmt.{decimal}
use Rattle.csv.specs.Writing.{comma}
use Rattle.csv.specs.Machine.{line_feed}
use Rattle.jm_base.specs.declared.types.Sample.{Sample}
use Rattle.element_tree.specs.Tree.{Tree, thread_name_of}
use Rattle.output_lines.specs.Lines.{csv_line, label_text, truth}

-- whose lines they are
pub record LinesOf : Type 0 where
  pub plan : Tree
  pub thread : ℕ

-- what is printed of a sample between its elapsed time and its bytes
abbrev pub middle_fields : List ℕ → List ℕ → Sample → List (List ℕ)
middle_fields label name s = label ∷ decimal s.code ∷ s.message ∷ name ∷ truth s.ok ∷ s.failure ∷ []

-- these fields as a row, without its end
abbrev pub IsMiddle : Tree → ℕ → Sample → List ℕ → Type 0
IsMiddle plan thread s middle = middle ++ line_feed ∷ [] ≡ csv_line (middle_fields (label_text plan s.label) (thread_name_of plan thread) s)

-- two samples have these fields alike
pub record SaysTheSame (a b : Sample) : Type 0 where
  pub label : a.label ≡ b.label
  pub code : a.code ≡ b.code
  pub ok : a.ok ≡ b.ok
  pub message : a.message ≡ b.message
  pub failure : a.failure ≡ b.failure

-- a line after its stamp and the comma, with this text between the elapsed time and the bytes
abbrev pub after_stamp : Sample → ℕ → List ℕ → List ℕ
after_stamp s interval middle = decimal s.elapsed ++ comma ∷ (middle ++ comma ∷ (decimal s.bytes ++ comma ∷ (decimal interval ++ line_feed ∷ [])))

-- the whole line
abbrev pub between : Sample → ℕ → List ℕ → List ℕ
between s interval middle = decimal s.stamp ++ comma ∷ after_stamp s interval middle

-- the numbers around that text are those of machine words
pub record AreWords (s : Sample) (interval : ℕ) : Type 0 where
  pub stamp : s.stamp < 2 ^ 64
  pub elapsed : s.elapsed < 2 ^ 64
  pub bytes : s.bytes < 2 ^ 64
  pub number : interval < 2 ^ 64

-- a text has the middle of a sample's line after it
abbrev pub AppendsMiddle : Tree → ℕ → Sample → List ℕ → List ℕ → Type 0
AppendsMiddle plan thread s old new = (middle : List ℕ) × IsMiddle plan thread s middle × (new ≡ old ++ middle)

-- this text is a sample's line after its stamp and the comma
pub record IsTail (plan : Tree) (thread : ℕ) (s : Sample) (interval : ℕ) (tail : List ℕ) : Type 0 where
  pub middle : List ℕ
  pub is : IsMiddle plan thread s middle
  pub text : tail ≡ after_stamp s interval middle
  pub elapsed : s.elapsed < 2 ^ 64
  pub bytes : s.bytes < 2 ^ 64
  pub number : interval < 2 ^ 64

-- the lines of two samples, counted in these intervals, are alike after their stamps
pub record EndsTheSame (a b : Sample) (i j : ℕ) : Type 0 where
  pub says : SaysTheSame a b
  pub elapsed : a.elapsed ≡ b.elapsed
  pub bytes : a.bytes ≡ b.bytes
  pub interval : i ≡ j

-- a text is another one with something after it
abbrev pub BeginsWith : List ℕ → List ℕ → Type 0
BeginsWith start text = (rest : List ℕ) × (text ≡ start ++ rest)
