-- How the scanner sees a text: what begins at each place, from the right to the left, and what the arguments at a
-- place are. It is what the scanner's own functions are held against; that it is the grammar is proved of it.
use Rattle.std.specs.Prelude.{◌≡◌, ℕ, zero, suc, ◌+◌, ◌-◌, ◌<◌, ◌≤◌, Bool, true, false, not, ◌==◌, ◌&&◌, nat_le, List, [], ◌∷◌, length, take, drop, map, max, if◌then◌else◌, Option, Some, None, option_map, option_and_then}
use Rattle.std.specs.List.{list_all}
use Rattle.template_text.specs.declared.scan.Token.{Token}
use Rattle.template_text.specs.declared.scan.Token.TheVariants.{Open, Close, Separator, Comma, Start, Byte}
use Rattle.template_text.specs.declared.scan.Step.{Step}
use Rattle.template_text.specs.declared.scan.Step.TheVariants.{Ends, Fails, Goes}
use Rattle.template_text.specs.declared.scan.Found.{Found}
use Rattle.template_text.specs.declared.scan.Found.TheVariants.{Variable, Call}
use Rattle.template_text.specs.declared.scan.Extent.{Extent}
use Rattle.template_text.specs.Pieces.{Reference, variable, call, Pieces, no_more, text, reference, Arguments, no_arguments, argument, reference_spelling, arguments_spelling, nesting, nesting_of_arguments}
use Rattle.template_text.specs.TemplateGrammar.{is_name_byte, is_letter_or_digit, begins_with, opens}

-- the token that begins a text
abbrev pub token_of : List ℕ → Token
token_of [] = Byte 0
token_of (c ∷ s) =
    if c == 40 then Open else if c == 41 then Close else if c == 44 then Separator
    else if c == 92 && begins_with 44 s then Comma else if opens (c ∷ s) then Start else Byte c

-- the move from a token: r begins there, b says whether `}` comes after it, o parentheses are open
abbrev pub step_of : Token → Option Reference → Bool → ℕ → Step
step_of Open r b o = Goes 1 (suc o)
step_of Close r true zero = Ends
step_of Close r false zero = Fails
step_of Close r b (suc o) = Goes 1 o
step_of Separator r b o = Goes 1 o
step_of Comma r b o = Goes 2 o
step_of Start None b o = Fails
step_of Start (Some r) b o = Goes (length (reference_spelling r)) o
step_of (Byte c) r b o = Goes 1 o

-- pieces with a byte of plain text before them
abbrev pub with_byte : ℕ → Pieces → Pieces
with_byte c no_more = text (c ∷ []) no_more
with_byte c (text t more) = text (c ∷ t) more
with_byte c (reference r more) = text (c ∷ []) (reference r more)

-- arguments with a byte, or with a reference, before the first of them
abbrev pub add : ℕ → Arguments → Arguments
add c no_arguments = no_arguments
add c (argument ps more) = argument (with_byte c ps) more

abbrev pub join : Option Reference → Arguments → Arguments
join None args = args
join (Some r) no_arguments = no_arguments
join (Some r) (argument ps more) = argument (reference r ps) more

-- arguments with what a token stands for before them
abbrev pub put : Token → Option Reference → Arguments → Arguments
put Open r args = add 40 args
put Close r args = add 41 args
put Separator r args = argument no_more args
put Comma r args = add 44 args
put Start r args = join r args
put (Byte c) r args = add c args

abbrev pub follow : Token → Option Reference → Step → (ℕ → ℕ → Option Arguments) → Option Arguments
follow t r Ends go = Some (argument no_more no_arguments)
follow t r Fails go = None
follow t r (Goes by o) go = option_map (put t r) (go (by - 1) o)

-- the arguments, up to the `)` that ends them, after k bytes of the text, where o parentheses are open; rs is what begins at each place
unfoldable pub inside : List ℕ → List (Option Reference) → ℕ → ℕ → Option Arguments
inside [] rs k o = None
inside (c ∷ s) [] k o = None
inside (c ∷ s) (r ∷ rs) (suc k) o = inside s rs k o
inside (c ∷ s) (r ∷ rs) zero o =
    follow (token_of (c ∷ s)) r (step_of (token_of (c ∷ s)) r (begins_with 125 s) o) (λ k m. inside s rs k m)

-- how many bytes at the start may stand in a name
abbrev pub name_length : List ℕ → ℕ
name_length [] = 0
name_length (c ∷ s) = if is_name_byte c then suc (name_length s) else 0

abbrev pub is_empty : List ℕ → Bool
is_empty [] = true
is_empty (c ∷ s) = false

-- the name of a function after `__`
abbrev pub call_name : List ℕ → Option (List ℕ)
call_name [] = None
call_name (a ∷ []) = None
call_name (a ∷ b ∷ n) =
    if a == 95 && (b == 95 && (not (is_empty n) && list_all is_letter_or_digit n)) then Some n else None

-- `()` has no arguments
abbrev pub normal : Arguments → Arguments
normal no_arguments = no_arguments
normal (argument no_more no_arguments) = no_arguments
normal (argument no_more (argument ps more)) = argument no_more (argument ps more)
normal (argument (text t ps) more) = argument (text t ps) more
normal (argument (reference r ps) more) = argument (reference r ps) more

abbrev pub shallow : Reference → Option Reference
shallow r = if nat_le (nesting r) 16 then Some r else None

abbrev pub call_of : List ℕ → Option Arguments → Option Reference
call_of n args = option_and_then (λ m. option_and_then (λ a. shallow (call m (normal a))) args) (call_name n)

abbrev pub variable_named : List ℕ → Option Reference
variable_named n = if is_empty n then None else Some (variable n)

abbrev pub named : List ℕ → List ℕ → List (Option Reference) → Option Reference
named n [] rs = None
named n (c ∷ s) rs =
    if c == 125 then variable_named n
    else if c == 40 then call_of n (inside s (drop 1 rs) 0 0) else None

-- the reference that begins a text, where rs is what begins at each further place
unfoldable pub first_of : List ℕ → List (Option Reference) → Option Reference
first_of [] rs = None
first_of (c ∷ s) rs =
    let inner = drop 1 s in let n = name_length inner in
    if opens (c ∷ s) then named (take n inner) (drop n inner) (drop n (drop 1 rs)) else None

-- what begins at each place
unfoldable pub table : List ℕ → List (Option Reference)
table [] = []
table (c ∷ s) = first_of (c ∷ s) (table s) ∷ table s

abbrev pub first_at : List ℕ → Option Reference
first_at [] = None
first_at (c ∷ s) = first_of (c ∷ s) (table s)

abbrev pub arguments_at : List ℕ → ℕ → Option Arguments
arguments_at s o = inside s (table s) 0 o

-- the pieces of a text after k bytes
unfoldable pub pieces_from : List ℕ → List (Option Reference) → ℕ → Pieces
pieces_from [] rs k = no_more
pieces_from (c ∷ s) [] k = no_more
pieces_from (c ∷ s) (r ∷ rs) (suc k) = pieces_from s rs k
pieces_from (c ∷ s) (None ∷ rs) zero = with_byte c (pieces_from s rs 0)
pieces_from (c ∷ s) (Some r ∷ rs) zero = reference r (pieces_from s rs (length (reference_spelling r) - 1))

abbrev pub reading : List ℕ → Pieces
reading s = pieces_from s (table s) 0

-- a reference as the scanner keeps it
abbrev pub shape : Reference → Found
shape (variable n) = Variable (length n + 3)
shape (call n args) = Call (length n) (length (reference_spelling (call n args))) (nesting (call n args))

abbrev pub AreFound : List ℕ → List (Option Found) → Type 0
AreFound s found = found ≡ map (option_map shape) (table s)

abbrev pub extent_of : Arguments → Extent
extent_of args = record { length = length (arguments_spelling args); depth = nesting_of_arguments args }

abbrev pub found_length : Found → ℕ
found_length (Variable n) = n
found_length (Call name n depth) = n

abbrev pub found_depth : Found → ℕ
found_depth (Variable n) = 0
found_depth (Call name n depth) = depth

abbrev pub found_nesting : Option Found → ℕ
found_nesting None = 0
found_nesting (Some f) = found_depth f

-- a move goes on by at least one of the n bytes left, and opens no more parentheses than it passes bytes
abbrev pub MovesOn : Step → ℕ → ℕ → Type 0
MovesOn Ends o n = Unit {0}
MovesOn Fails o n = Unit {0}
MovesOn (Goes by m) o n = (0 < by) × (by ≤ n) × (m ≤ o + by)

-- the extent of arguments that begin at a place, where what goes before it nests to this depth
abbrev pub extent_after : ℕ → ℕ → Arguments → Extent
extent_after at depth args = record { length = at + length (arguments_spelling args); depth = max depth (nesting_of_arguments args) }
