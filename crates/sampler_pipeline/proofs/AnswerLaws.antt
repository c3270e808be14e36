-- What follows from an answer: post-processors, and the note of the sample's success.
use Rattle.std.proofs.Common.{◌≡◌, ℕ, List, [], sym, subst}
use Rattle.std.specs.Prelude.{Ok, Err}
use Rattle.jm_base.specs.Run.{over}
use Rattle.jm_base.specs.Outside.{Account, Goes}
use Rattle.jm_base.specs.declared.types.Sample.{Sample}
use Rattle.jm_base.proofs.RunLaws.{goes-nothing}
use Rattle.var_functions.specs.Came.{Refused}
use Rattle.thread_vars.specs.declared.error.VarError.{VarError}
use Rattle.thread_vars.specs.declared.error.VarError.TheVariants as errors
use Rattle.var_functions.specs.declared.state.UserState.{UserState}
use Rattle.element_tree.specs.declared.kinds.Element.{Element}
use Rattle.element_tree.specs.Scope.{Scope}
use Rattle.assertions.specs.declared.judging.Answer.{Answer}
use Rattle.trials.specs.Tried.{Try, fine, past_limit, giving, ◌>=>◌}
use Rattle.trials.proofs.TrialLaws.{then-came, then-refused, then-memory}
use Rattle.sampler_pipeline.specs.SamplerPipeline.{post_process, noting, assert_all, answering}

module _ (es : List Element) (sc : Scope) (n stamp : ℕ) (answer : Answer) (a : Account) (old mid : UserState) where
  abbrev after : Try Sample
  after = noting (assert_all es sc n stamp answer) >=> λ u. giving (assert_all es sc n stamp answer)

  module _ (ps : List ℕ) (same : ps ≡ sc.post) (went : Goes a (post_process es answer.reply ps old) [] (over (fine tt mid)) a) where
    posts : Goes a (post_process es answer.reply sc.post old) [] (over (fine tt mid)) a
    posts = subst (λ (qs : List ℕ). Goes a (post_process es answer.reply qs old) [] (over (fine tt mid)) a) same went

    pub answered-all : (new : UserState) (s : Sample) → s ≡ assert_all es sc n stamp answer → Goes a (noting s mid) [] (over (fine tt new)) a
        → Goes a (answering es sc n stamp answer old) [] (over (fine s new)) a
    answered-all new s is noted =
        let note : Goes a (noting (assert_all es sc n stamp answer) mid) [] (over (fine tt new)) a = subst (λ (x : Sample). Goes a (noting x mid) [] (over (fine tt new)) a) is noted in
        subst (λ (x : Sample). Goes a (answering es sc n stamp answer old) [] (over (fine x new)) a) (sym is)
        (then-came a a a (post_process es answer.reply sc.post) (λ u. after) old mid tt (λ (x : Sample). over (fine x new)) (over (past_limit new)) (Ok (assert_all es sc n stamp answer)) posts
        (then-came a a a (noting (assert_all es sc n stamp answer)) (λ u. giving (assert_all es sc n stamp answer)) mid new tt (λ (x : Sample). over (fine x new)) (over (past_limit new)) (Ok (assert_all es sc n stamp answer)) note (goes-nothing a _)))

    pub not-noted : (new : UserState) (s : Sample) (e : VarError) → s ≡ assert_all es sc n stamp answer → Refused a (noting s mid) a (over (past_limit new)) e
        → Refused a (answering es sc n stamp answer old) a (over (past_limit new)) e
    not-noted new s e is refused =
        then-came a a a (post_process es answer.reply sc.post) (λ u. after) old mid tt (λ (x : Sample). over (fine x new)) (over (past_limit new)) (Err e) posts
        (then-refused a a (noting (assert_all es sc n stamp answer)) (λ u. giving (assert_all es sc n stamp answer)) mid new e
        (subst (λ (x : Sample). Refused a (noting x mid) a (over (past_limit new)) e) is refused))

    pub not-judged : (new : UserState) → Refused a (answering es sc n stamp answer old) a (over (past_limit new)) errors.NoMemory
    not-judged new = then-memory a a (post_process es answer.reply sc.post) (λ u. after) old mid tt (over (past_limit new)) posts

  pub not-posted : (ps : List ℕ) (e : VarError) → ps ≡ sc.post → Refused a (post_process es answer.reply ps old) a (over (past_limit mid)) e
      → Refused a (answering es sc n stamp answer old) a (over (past_limit mid)) e
  not-posted ps e same refused =
      then-refused a a (post_process es answer.reply sc.post) (λ u. after) old mid e
      (subst (λ (qs : List ℕ). Refused a (post_process es answer.reply qs old) a (over (past_limit mid)) e) same refused)
