-- A code for pieces, by which a proof tells two of them apart: the list of their constructors, innermost first.
use Rattle.std.specs.Prelude.{ℕ, zero, suc, List, [], ◌∷◌, ◌≡◌, refl}
use Rattle.std.specs.Coded.{Coded, code_by, coded×, coded_ℕ, coded_list}
use Rattle.std.proofs.Common.{◌∙◌, ap}
use Rattle.template_text.specs.Pieces.{Reference, variable, call, Pieces, no_more, text, reference, Arguments, no_arguments, argument}

pub data Mark : Type 0 where
  ends : Mark
  texts : List ℕ → Mark
  refers : Mark
  names : List ℕ → Mark
  calls : List ℕ → Mark
  none : Mark
  argues : Mark

abbrev pub mark_number : Mark → ℕ × List ℕ
mark_number ends = (0, [])
mark_number (texts t) = (1, t)
mark_number refers = (2, [])
mark_number (names t) = (3, t)
mark_number (calls t) = (4, t)
mark_number none = (5, [])
mark_number argues = (6, [])

abbrev pub number_mark : ℕ → List ℕ → Mark
number_mark zero t = ends
number_mark (suc zero) t = texts t
number_mark (suc (suc zero)) t = refers
number_mark (suc (suc (suc zero))) t = names t
number_mark (suc (suc (suc (suc zero)))) t = calls t
number_mark (suc (suc (suc (suc (suc zero))))) t = none
number_mark (suc (suc (suc (suc (suc (suc n)))))) t = argues

abbrev pub mark_of : ℕ × List ℕ → Mark
mark_of p = number_mark p.0 p.1

pub mark_again : (m : Mark) → mark_of (mark_number m) ≡ m
mark_again ends = refl
mark_again (texts t) = refl
mark_again refers = refl
mark_again (names t) = refl
mark_again (calls t) = refl
mark_again none = refl
mark_again argues = refl

abbrev pub mark_code : Coded Mark
mark_code = code_by (ℕ × List ℕ) (coded× coded_ℕ (coded_list coded_ℕ)) mark_number mark_of mark_again

abbrev mutual
  pub marks_of : Pieces → List Mark → List Mark
  marks_of no_more k = ends ∷ k
  marks_of (text t ps) k = marks_of ps (texts t ∷ k)
  marks_of (reference r ps) k = marks_of ps (reference_marks r (refers ∷ k))

  pub reference_marks : Reference → List Mark → List Mark
  reference_marks (variable n) k = names n ∷ k
  reference_marks (call n more) k = argument_marks more (calls n ∷ k)

  pub argument_marks : Arguments → List Mark → List Mark
  argument_marks no_arguments k = none ∷ k
  argument_marks (argument ps more) k = argument_marks more (marks_of ps (argues ∷ k))

abbrev pub decode : List Mark → List Pieces → List Reference → List Arguments → List Pieces
decode [] pieces references arguments = pieces
decode (ends ∷ k) pieces references arguments = decode k (no_more ∷ pieces) references arguments
decode (texts t ∷ k) [] references arguments = []
decode (texts t ∷ k) (p ∷ pieces) references arguments = decode k (text t p ∷ pieces) references arguments
decode (refers ∷ k) [] references arguments = []
decode (refers ∷ k) (p ∷ pieces) [] arguments = []
decode (refers ∷ k) (p ∷ pieces) (r ∷ references) arguments = decode k (reference r p ∷ pieces) references arguments
decode (names n ∷ k) pieces references arguments = decode k pieces (variable n ∷ references) arguments
decode (calls n ∷ k) pieces references [] = []
decode (calls n ∷ k) pieces references (a ∷ arguments) = decode k pieces (call n a ∷ references) arguments
decode (none ∷ k) pieces references arguments = decode k pieces references (no_arguments ∷ arguments)
decode (argues ∷ k) [] references arguments = []
decode (argues ∷ k) (p ∷ pieces) references [] = []
decode (argues ∷ k) (p ∷ pieces) references (a ∷ arguments) = decode k pieces references (argument p a ∷ arguments)

mutual
  pieces_again : (ps : Pieces) (k : List Mark) (p : List Pieces) (r : List Reference) (a : List Arguments) → decode (marks_of ps k) p r a ≡ decode k (ps ∷ p) r a
  pieces_again no_more k p r a = refl
  pieces_again (text t ps) k p r a = pieces_again ps (texts t ∷ k) p r a
  pieces_again (reference f ps) k p r a = pieces_again ps (reference_marks f (refers ∷ k)) p r a ∙ reference_again f (refers ∷ k) (ps ∷ p) r a

  reference_again : (f : Reference) (k : List Mark) (p : List Pieces) (r : List Reference) (a : List Arguments) → decode (reference_marks f k) p r a ≡ decode k p (f ∷ r) a
  reference_again (variable n) k p r a = refl
  reference_again (call n more) k p r a = arguments_again more (calls n ∷ k) p r a

  arguments_again : (more : Arguments) (k : List Mark) (p : List Pieces) (r : List Reference) (a : List Arguments) → decode (argument_marks more k) p r a ≡ decode k p r (more ∷ a)
  arguments_again no_arguments k p r a = refl
  arguments_again (argument ps more) k p r a = arguments_again more (marks_of ps (argues ∷ k)) p r a ∙ pieces_again ps (argues ∷ k) p r (more ∷ a)

abbrev pub top : List Pieces → Pieces
top [] = no_more
top (p ∷ ps) = p

abbrev pub pieces_marks : Pieces → List Mark
pieces_marks ps = marks_of ps []

abbrev pub marks_pieces : List Mark → Pieces
marks_pieces k = top (decode k [] [] [])

pub marks_again : (ps : Pieces) → marks_pieces (pieces_marks ps) ≡ ps
marks_again ps = ap top (pieces_again ps [] [] [] [])

abbrev pub pieces_code : Coded Pieces
pieces_code = code_by (List Mark) (coded_list mark_code) pieces_marks marks_pieces marks_again
