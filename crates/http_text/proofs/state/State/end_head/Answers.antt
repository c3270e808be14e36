use Rattle.std.proofs.Common.{◌≡◌, ◌+◌, length, [], sym, ap, subst, refl, ◌∙◌, arith}
use Rattle.jm_base.specs.declared.types.Reply.{Reply}
use Rattle.http_text.specs.ResponseHeads.{Says}
use Rattle.http_text.specs.ResponseGrammar.{Heads}
use Rattle.http_text.specs.ResponseReading.{Leads, reading_of, next_head}
use Rattle.http_text.proofs.Moves.{bad-head, passed-head, final-head, same-reading}
use Rattle.http_text.proofs.state.State.end_head.Goals as goal

pub returns-in-None-clause-read : goal.returns-in-None-clause-read
returns-in-None-clause-read c =
    let bad = rw (c.in-None.is, c.deref.ensures.value) at c.in_ok-said.ensures in
    λ ends fits empty.
    subst (Leads c.args.self.now.head_only (Heads c.args.passed) c.args.self.now.part.items) (same-reading _ _ _ _ _ refl refl c.clear.ensures.items refl)
    (bad-head c.args.self.now.head_only c.args.passed c.args.self.now.part.items (reading_of c.args.self.now).reply ends fits bad)

pub returns-in-Some-clause-read : goal.returns-in-Some-clause-read
returns-in-Some-clause-read c =
    let says = rw (c.in-Some.is, c.deref.ensures.value) at c.in_ok-said.ensures in
    let body : c.in-Some.reply.body ≡ [] = ap (λ (r : Reply). r.body) says.reply_is in
    λ ends fits empty.
    subst (Leads c.args.self.now.head_only (Heads c.args.passed) c.args.self.now.part.items)
    (same-reading _ _ _ _ _ c.begin_body.ensures.head_only c.begin_body.ensures.phase (c.begin_body.ensures.part ∙ c.clear.ensures.items)
    (c.begin_body.ensures.reply ∙ ap (λ b. record c.in-Some.reply { body = b }) (empty ∙ sym body)))
    (final-head c.args.self.now.head_only c.args.passed c.args.self.now.part.items c.in-Some.reply c.in-Some.framing ends fits says c.if-said-ge-FINAL_CODE.true)

pub returns-in-Some-2-clause-read : goal.returns-in-Some-2-clause-read
returns-in-Some-2-clause-read c =
    let says = rw (c.in-Some.is, c.deref.ensures.value) at c.in_ok-said.ensures in
    λ ends fits empty.
    let count : c.saturating_add-passed.result ≡ c.args.passed + length c.args.self.now.part.items = omega (arith, c.saturating_add-passed.ensures, c.len.ensures, fits) in
    subst (Leads c.args.self.now.head_only (Heads c.args.passed) c.args.self.now.part.items)
    (same-reading _ _ _ _ _ refl (c.next_head-self.ensures ∙ ap next_head count) c.clear.ensures.items refl)
    (passed-head c.args.self.now.head_only c.args.passed c.args.self.now.part.items c.in-Some.reply (reading_of c.args.self.now).reply c.in-Some.framing ends fits says c.if-said-ge-FINAL_CODE.false empty)
