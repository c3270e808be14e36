-- What stays of a reader's fields.
use Rattle.std.proofs.Common.{◌≡◌, ◌++◌, List, ℕ, ap, ◌∙◌}
use Rattle.http_text.specs.declared.state.State.{State}
use Rattle.http_text.specs.ResponseGrammar.{with_body}
use Rattle.http_text.specs.ResponseReading.{reading_of}

-- bytes were added to the body alone
pub reply-grown : (old new : State) (bytes : List ℕ) → record new { body = old.body } ≡ old → new.body.items ≡ old.body.items ++ bytes
    → (reading_of new).reply ≡ with_body (reading_of old).reply bytes
reply-grown old new bytes same is =
    ap (λ (s : State). record (reading_of s).reply { body = new.body.items }) same ∙ ap (λ b. record (reading_of old).reply { body = b }) is

pub head_only-kept : (old new : State) → record new { body = old.body } ≡ old → new.head_only ≡ old.head_only
head_only-kept old new same = ap (λ (s : State). s.head_only) same
