use Rattle.std.proofs.Common.{◌≡◌, ◌<◌, ◌≤◌, length, ap, sym, ◌∙◌, subst}
use Rattle.std.specs.Option.{unwrap_or}
use Rattle.cond_expr.specs.declared.token.Token.TheVariants.{Unknown}
use Rattle.cond_expr.specs.Tokens.{token_at}
use Rattle.cond_expr.proofs.TokenLaws.{token_at_fits}
use Rattle.cond_expr.proofs.token.token_at.Goals as goal

pub returns-clause-some : goal.returns-clause-some
returns-clause-some c =
    let is : c.unwrap_or.result ≡ token_at c.args.bytes.now = c.unwrap_or.ensures ∙ ap (λ o. unwrap_or o (Unknown, 1)) c.in_ok-found.ensures in
    subst (λ t. 0 < t.1) (sym is) (token_at_fits c.args.bytes.now c.requires).0

pub returns-clause-within : goal.returns-clause-within
returns-clause-within c =
    let is : c.unwrap_or.result ≡ token_at c.args.bytes.now = c.unwrap_or.ensures ∙ ap (λ o. unwrap_or o (Unknown, 1)) c.in_ok-found.ensures in
    subst (λ t. t.1 ≤ length c.args.bytes.now) (sym is) (token_at_fits c.args.bytes.now c.requires).1
