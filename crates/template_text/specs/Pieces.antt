-- The pieces of a template, and how they are spelled.
use Rattle.std.specs.Prelude.{ℕ, List, [], ◌∷◌, ◌++◌, ◌==◌, codes, if◌then◌else◌, max, suc}

mutual
  -- a reference is to a variable, or is a call of a function with arguments
  pub data Reference : Type 0 where
    variable : List ℕ → Reference
    call : List ℕ → Arguments → Reference

  -- pieces in order: plain texts and references
  pub data Pieces : Type 0 where
    no_more : Pieces
    text : List ℕ → Pieces → Pieces
    reference : Reference → Pieces → Pieces

  -- the arguments of a call in order, each of them pieces
  pub data Arguments : Type 0 where
    no_arguments : Arguments
    argument : Pieces → Arguments → Arguments

-- plain text as an argument spells it: with a backslash (92) before each comma (44)
abbrev pub escaped : List ℕ → List ℕ
escaped [] = []
escaped (c ∷ t) = if c == 44 then 92 ∷ 44 ∷ escaped t else c ∷ escaped t

abbrev mutual
  pub reference_spelling : Reference → List ℕ
  reference_spelling (variable n) = codes "${" ++ n ++ codes "}"
  reference_spelling (call n args) = codes "${__" ++ n ++ codes "(" ++ arguments_spelling args ++ codes ")}"

  -- the first argument, and the further ones, each after a comma
  pub arguments_spelling : Arguments → List ℕ
  arguments_spelling no_arguments = []
  arguments_spelling (argument ps more) = argument_spelling ps ++ further_spelling more

  pub further_spelling : Arguments → List ℕ
  further_spelling no_arguments = []
  further_spelling (argument ps more) = codes "," ++ argument_spelling ps ++ further_spelling more

  pub argument_spelling : Pieces → List ℕ
  argument_spelling no_more = []
  argument_spelling (text t more) = escaped t ++ argument_spelling more
  argument_spelling (reference r more) = reference_spelling r ++ argument_spelling more

-- the text of a template
abbrev pub spelling : Pieces → List ℕ
spelling no_more = []
spelling (text t more) = t ++ spelling more
spelling (reference r more) = reference_spelling r ++ spelling more

abbrev mutual
  -- how many calls stand in one another, this one included
  pub nesting : Reference → ℕ
  nesting (variable n) = 0
  nesting (call n args) = suc (nesting_of_arguments args)

  pub nesting_of_arguments : Arguments → ℕ
  nesting_of_arguments no_arguments = 0
  nesting_of_arguments (argument ps more) = max (nesting_of_pieces ps) (nesting_of_arguments more)

  pub nesting_of_pieces : Pieces → ℕ
  nesting_of_pieces no_more = 0
  nesting_of_pieces (text t more) = nesting_of_pieces more
  nesting_of_pieces (reference r more) = max (nesting r) (nesting_of_pieces more)
