-- The text of one more report, whole or in part.
use Rattle.std.proofs.Common.{◌≡◌, ◌∙◌, ℕ, ◌+◌, List, [], ◌∷◌, ◌++◌, length, take, refl, ap, sym, subst, Option, append_assoc}
use Rattle.std.specs.Io.KnownBytes.{Appends}
use Rattle.std.proofs.Math.Seq.{take-append-add}
use Rattle.std.proofs.lemmas.List.{append-nil}
use Rattle.std.proofs.KnownBytes.{Appends-nil, Appends-trans}
use Rattle.interval_tables.specs.declared.report.Report.{Report}
use Rattle.reporter_loop.specs.ReportsWritten.{texts_of, AreNumbered, AppendsPrefix, WritesPrefix}
use Rattle.reporter_loop.proofs.Numbers.{numbers_more}

pub texts_snoc : (text : Report → List ℕ) (xs : List Report) (x : Report) → texts_of text (xs ++ x ∷ []) ≡ texts_of text xs ++ text x
texts_snoc text [] x = append-nil (text x)
texts_snoc text (y ∷ xs) x = ap (λ l. text y ++ l) (texts_snoc text xs x) ∙ sym (append_assoc (text y) (texts_of text xs) (text x))

-- nothing is a prefix of a text, and of the text of no report
pub prefix_none : (a : Option (List ℕ)) (text : List ℕ) → AppendsPrefix a a text
prefix_none a text = (0, Appends-nil a)

pub writes_none : (text : Report → List ℕ) (a : Option (List ℕ)) → WritesPrefix text a a
writes_none text a = record { reports = []; numbered = refl; written = (0, Appends-nil a) }

module _ (text : Report → List ℕ) (xs : List Report) (x : Report) (old new after : Option (List ℕ)) (written : Appends old new (texts_of text xs)) where
  pub written_more : Appends new after (text x) → Appends old after (texts_of text (xs ++ x ∷ []))
  written_more more = subst (Appends old after) (sym (texts_snoc text xs x)) (Appends-trans old new after (texts_of text xs) (text x) written more)

  pub prefix_more : AreNumbered xs → x.interval ≡ length xs → AppendsPrefix new after (text x) → WritesPrefix text old after
  prefix_more numbered number more =
      let n = length (texts_of text xs) + more.0 in
      let part : take n (texts_of text (xs ++ x ∷ [])) ≡ texts_of text xs ++ take more.0 (text x) =
      ap (take n) (texts_snoc text xs x) ∙ take-append-add (texts_of text xs) (text x) more.0 in
      record {
        reports = xs ++ x ∷ [];
        numbered = numbers_more (λ (r : Report). r.interval) xs x numbered number;
        written = (n, subst (Appends old after) (sym part) (Appends-trans old new after (texts_of text xs) (take more.0 (text x)) written more.1));
      }
