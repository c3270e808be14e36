-- What stops a reader of rows of any lengths.
use Rattle.std.proofs.Common.{◌≡◌, ◌∙◌, true, false, List, ℕ, Option, refl, sym, true≢false}
use Rattle.csv.specs.Reading.{ExplainsRead, stops_reader}
use Rattle.csv.specs.declared.reader.Reader.{Reader}
use Rattle.csv.specs.declared.error.ErrorKind.{ErrorKind}
use Rattle.csv.specs.declared.error.ErrorKind.TheVariants as kind

-- an error of reading bytes, not text, at rows of any lengths is one that stops the reader
pub stops : {R : Type 0} (rem : R → Option (List ℕ)) (old new : Reader R) (k : ErrorKind) → old.flexible ≡ true → ExplainsRead rem old new false k → stops_reader k ≡ true
stops rem old new (kind.Io e) flexible why = refl
stops rem old new kind.OutOfMemory flexible why = refl
stops rem old new (kind.UnequalLengths pos expected len) flexible why = absurd (true≢false (sym flexible ∙ why.0))
stops rem old new (kind.Utf8 pos err) flexible why = absurd (true≢false (sym why.0))
stops rem old new (kind.Serialize text) flexible why = absurd why
stops rem old new (kind.Deserialize pos err) flexible why = absurd why
