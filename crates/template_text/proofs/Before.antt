-- Spellings with a text after them, which compute byte by byte.
use Rattle.std.proofs.Common.{◌≡◌, ℕ, List, [], ◌∷◌, ◌++◌, ◌==◌, if◌then◌else◌, refl, sym, ◌∙◌, ap, append_assoc, Bool, true, false}
use Rattle.template_text.specs.Pieces.{Reference, variable, call, Pieces, no_more, text, reference, Arguments, no_arguments, argument, escaped, reference_spelling, arguments_spelling, argument_spelling, further_spelling}

abbrev pub escaped_before : List ℕ → List ℕ → List ℕ
escaped_before [] k = k
escaped_before (c ∷ t) k = if c == 44 then 92 ∷ 44 ∷ escaped_before t k else c ∷ escaped_before t k

abbrev mutual
  pub reference_before : Reference → List ℕ → List ℕ
  reference_before (variable n) k = 36 ∷ 123 ∷ (n ++ 125 ∷ k)
  reference_before (call n args) k = 36 ∷ 123 ∷ 95 ∷ 95 ∷ (n ++ 40 ∷ arguments_before args (41 ∷ 125 ∷ k))

  pub arguments_before : Arguments → List ℕ → List ℕ
  arguments_before no_arguments k = k
  arguments_before (argument ps more) k = argument_before ps (further_before more k)

  pub further_before : Arguments → List ℕ → List ℕ
  further_before no_arguments k = k
  further_before (argument ps more) k = 44 ∷ argument_before ps (further_before more k)

  pub argument_before : Pieces → List ℕ → List ℕ
  argument_before no_more k = k
  argument_before (text t more) k = escaped_before t (argument_before more k)
  argument_before (reference r more) k = reference_before r (argument_before more k)

escaped_step : (b : Bool) (c : ℕ) (t k u : List ℕ) → escaped t ++ k ≡ u → (if b then 92 ∷ 44 ∷ escaped t else c ∷ escaped t) ++ k ≡ (if b then 92 ∷ 44 ∷ u else c ∷ u)
escaped_step true c t k u e = ap (λ w. 92 ∷ 44 ∷ w) e
escaped_step false c t k u e = ap (λ w. c ∷ w) e

pub escaped-before : (t k : List ℕ) → escaped t ++ k ≡ escaped_before t k
escaped-before [] k = refl
escaped-before (c ∷ t) k = escaped_step (c == 44) c t k (escaped_before t k) (escaped-before t k)

call_before : (n a k u v : List ℕ) → a ++ 41 ∷ 125 ∷ k ≡ u → v ≡ n ++ 40 ∷ u → (((n ++ 40 ∷ []) ++ a) ++ 41 ∷ 125 ∷ []) ++ k ≡ v
call_before n a k u v e f =
    append_assoc ((n ++ 40 ∷ []) ++ a) (41 ∷ 125 ∷ []) k ∙ (append_assoc (n ++ 40 ∷ []) a (41 ∷ 125 ∷ k)
    ∙ (append_assoc n (40 ∷ []) (a ++ 41 ∷ 125 ∷ k) ∙ (ap (λ w. n ++ 40 ∷ w) e ∙ sym f)))

mutual
  pub reference-before : (r : Reference) (k : List ℕ) → reference_spelling r ++ k ≡ reference_before r k
  reference-before (variable n) k = ap (λ w. 36 ∷ 123 ∷ w) (append_assoc n (125 ∷ []) k)
  reference-before (call n args) k =
      ap (λ w. 36 ∷ 123 ∷ 95 ∷ 95 ∷ w) (call_before n (arguments_spelling args) k _ _ (arguments-before args (41 ∷ 125 ∷ k)) refl)

  pub arguments-before : (args : Arguments) (k : List ℕ) → arguments_spelling args ++ k ≡ arguments_before args k
  arguments-before no_arguments k = refl
  arguments-before (argument ps more) k =
      append_assoc (argument_spelling ps) (further_spelling more) k
      ∙ (ap (λ w. argument_spelling ps ++ w) (further-before more k) ∙ argument-before ps (further_before more k))

  pub further-before : (args : Arguments) (k : List ℕ) → further_spelling args ++ k ≡ further_before args k
  further-before no_arguments k = refl
  further-before (argument ps more) k =
      ap (λ w. 44 ∷ w) (append_assoc (argument_spelling ps) (further_spelling more) k
      ∙ (ap (λ w. argument_spelling ps ++ w) (further-before more k) ∙ argument-before ps (further_before more k)))

  pub argument-before : (ps : Pieces) (k : List ℕ) → argument_spelling ps ++ k ≡ argument_before ps k
  argument-before no_more k = refl
  argument-before (text t more) k =
      append_assoc (escaped t) (argument_spelling more) k
      ∙ (ap (λ w. escaped t ++ w) (argument-before more k) ∙ escaped-before t (argument_before more k))
  argument-before (reference r more) k =
      append_assoc (reference_spelling r) (argument_spelling more) k
      ∙ (ap (λ w. reference_spelling r ++ w) (argument-before more k) ∙ reference-before r (argument_before more k))
