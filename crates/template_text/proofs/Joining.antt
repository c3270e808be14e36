-- What a builder holds when something was pushed.
use Rattle.std.proofs.Common.{◌≡◌, ◌≢◌, ℕ, List, [], ◌∷◌, ◌++◌, refl, sym, ◌∙◌, ap, false, Some}
use Rattle.std.proofs.lemmas.Bool.{true≢false}
use Rattle.template_text.specs.declared.template.Piece.{Piece}
use Rattle.template_text.specs.declared.template.Piece.TheVariants.{Text, Var, Call}
use Rattle.template_text.specs.declared.builders.TemplateBuilder.{TemplateBuilder}
use Rattle.template_text.specs.Pieces.{Reference, variable, call, Pieces, no_more, text, reference, Arguments, no_arguments, argument}
use Rattle.template_text.specs.TemplateGrammar.{begins_with_text}
use Rattle.template_text.specs.Scan.{with_byte, add, join}
use Rattle.template_text.specs.View.{arguments_of, pieces_of, reference_of}
use Rattle.template_text.specs.Builders.{pieces_then, text_then, joined, arguments_then, first_joined}
use Rattle.template_text.proofs.Inside.{none_some, some_same}

pub text_then-push : (t : List ℕ) (c : ℕ) (more : Pieces) → text_then (t ++ c ∷ []) more ≡ text_then t (with_byte c more)
text_then-push [] c more = refl
text_then-push (d ∷ t) c more = ap (with_byte d) (text_then-push t c more)

pub pieces_then-append : (ps qs : List Piece) (more : Pieces) → pieces_then (ps ++ qs) more ≡ pieces_then ps (pieces_then qs more)
pieces_then-append [] qs more = refl
pieces_then-append (Text t ∷ ps) qs more = ap (text t) (pieces_then-append ps qs more)
pieces_then-append (Var n ∷ ps) qs more = ap (reference (variable n)) (pieces_then-append ps qs more)
pieces_then-append (Call n args ∷ ps) qs more = ap (reference (call n (arguments_of args.items))) (pieces_then-append ps qs more)

pub text_then-alone : (c : ℕ) (t : List ℕ) (more : Pieces) → begins_with_text more ≡ false → text_then (c ∷ t) more ≡ text (c ∷ t) more
text_then-alone c [] no_more e = refl
text_then-alone c [] (text u m) e = absurd (true≢false e)
text_then-alone c [] (reference r m) e = refl
text_then-alone c (d ∷ t) more e = ap (with_byte c) (text_then-alone d t more e)

pub pieces_then-nothing : (ps : List Piece) → pieces_then ps no_more ≡ pieces_of ps
pieces_then-nothing [] = refl
pieces_then-nothing (Text t ∷ ps) = ap (text t) (pieces_then-nothing ps)
pieces_then-nothing (Var n ∷ ps) = ap (reference (variable n)) (pieces_then-nothing ps)
pieces_then-nothing (Call n args ∷ ps) = ap (reference (call n (arguments_of args.items))) (pieces_then-nothing ps)

pub reference_then : (p : Piece) (r : Reference) (more : Pieces) → reference_of p ≡ Some r → pieces_then (p ∷ []) more ≡ reference r more
reference_then (Text t) r more e = absurd (none_some r e)
reference_then (Var n) r more e = ap (λ w. reference w more) (some_same e)
reference_then (Call n args) r more e = ap (λ w. reference w more) (some_same e)

-- plain text that isn't empty becomes a piece
pub plain_then : (ps : List Piece) (t : List ℕ) (more : Pieces) → begins_with_text more ≡ false → t ≢ [] → pieces_then (ps ++ Text t ∷ []) more ≡ pieces_then ps (text_then t more)
plain_then ps [] more e h = absurd (h refl)
plain_then ps (c ∷ t) more e h = pieces_then-append ps (Text (c ∷ t) ∷ []) more ∙ ap (pieces_then ps) (sym (text_then-alone c t more e))

pub arguments_then-append : (ds es : List Pieces) (args : Arguments) → arguments_then (ds ++ es) args ≡ arguments_then ds (arguments_then es args)
arguments_then-append [] es args = refl
arguments_then-append (d ∷ ds) es args = ap (argument d) (arguments_then-append ds es args)

pub arguments_then-nothing : (ds : List Pieces) → arguments_then ds no_arguments ≡ arguments_of ds
arguments_then-nothing [] = refl
arguments_then-nothing (d ∷ ds) = ap (argument d) (arguments_then-nothing ds)

-- a new builder adds nothing
pub first_joined-new : (b : TemplateBuilder) → ((more : Pieces) → joined b more ≡ more) → (args : Arguments) → first_joined b args ≡ args
first_joined-new b h no_arguments = refl
first_joined-new b h (argument ps more) = ap (λ w. argument w more) (h ps)

pub first_joined-byte : (a b : TemplateBuilder) (c : ℕ) → ((more : Pieces) → joined a more ≡ joined b (with_byte c more)) → (args : Arguments) → first_joined a args ≡ first_joined b (add c args)
first_joined-byte a b c h no_arguments = refl
first_joined-byte a b c h (argument ps more) = ap (λ w. argument w more) (h ps)

pub first_joined-reference : (a b : TemplateBuilder) (r : Reference) → ((more : Pieces) → joined a more ≡ joined b (reference r more)) → (args : Arguments) → first_joined a args ≡ first_joined b (join (Some r) args)
first_joined-reference a b r h no_arguments = refl
first_joined-reference a b r h (argument ps more) = ap (λ w. argument w more) (h ps)
