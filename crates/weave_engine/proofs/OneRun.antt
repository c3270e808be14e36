-- A schedule names one run.
use Rattle.std.proofs.Common.{◌≡◌, Bool, true, false, List, [], ◌∷◌, length, map, refl, sym, ap, ◌∙◌, subst}
use Rattle.element_tree.specs.Tree.{threads_of}
use Rattle.phaser_core.specs.declared.view.Numbers.{Numbers}
use Rattle.schedule_text.specs.declared.token.Token.{Token}
use Rattle.schedule_text.specs.declared.token.Token.TheVariants.{Turn, Turns, Reporter, Reporters}
use Rattle.weave_engine.specs.Steps.{Thread}
use Rattle.weave_engine.specs.Repeats.{Repeats, ends, goes_on}
use Rattle.weave_engine.specs.Turns.{Weave, thread_turn, ends_row, reporter_turn, ends_reporters_row, idle_after, is_idle, closing_of, turns_to, ends_rounds, joined_to, reports_of}
use Rattle.weave_engine.specs.Woven.{Runs, AllRun, at_end, first, CloseIf, numbers_of, at_start, NamesOneRun}

module _ {S : Type 0} (move : S → S) (last : S → Bool) where
  -- a move that is the last is not one after which others come
  no_more : {A : Type 0} (s : S) → last s ≡ true → last s ≡ false → A
  no_more s h k = absurd (let e : true ≡ false = sym h ∙ k in cc)

  after_last : (s : S) → last s ≡ true → (u : S) → Repeats move last s u → u ≡ move s
  after_last s h _ (ends k) = refl
  after_last s h u (goes_on k more) = no_more s h k

  after_more : (s t : S) → last s ≡ false → ((u : S) → Repeats move last (move s) u → u ≡ t) → (u : S) → Repeats move last s u → u ≡ t
  after_more s t h again _ (ends k) = no_more s k h
  after_more s t h again u (goes_on k rest) = again u rest

  repeats_one : (s t u : S) → Repeats move last s t → Repeats move last s u → u ≡ t
  repeats_one s _ u (ends h) r = after_last s h u r
  repeats_one s t u (goes_on h more) r = after_more s t h (λ v q. repeats_one (move s) t v more q) u r

token_one : (n : Numbers) (token : Token) (s t u : Weave) → Runs n token s t → Runs n token s u → u ≡ t
token_one n (Turn d) s t u r q = q ∙ sym r
token_one n (Turns d) s t u r q = repeats_one (thread_turn n d) (ends_row n d) s t u r q
token_one n Reporter s t u r q = q ∙ sym r
token_one n Reporters s t u r q = repeats_one (reporter_turn n) (ends_reporters_row n) s t u r q

tokens_one : (n : Numbers) (tokens : List Token) (s t u : Weave) → AllRun n tokens s t → AllRun n tokens s u → u ≡ t
tokens_one n [] s _ _ at_end at_end = refl
tokens_one n (token ∷ tokens) s t u (first {t = v} r more) (first {t = w} q rest) =
    tokens_one n tokens v t u more (subst (λ k. AllRun n tokens k u) (token_one n token s v w r q) rest)

close_one : (b : Bool) (n : Numbers) (s t u : Weave) → CloseIf b n s t → CloseIf b n s u → u ≡ t
close_one true n s t u r q = q ∙ sym r
close_one false n s t u r q = repeats_one (reporter_turn n) (idle_after n) s t u r q

pub names_one_run : NamesOneRun
names_one_run plan options schedule traces traces' reports reports' w w' =
    let n = numbers_of plan options in
    let count = length (threads_of plan) in
    let scheduled : w'.scheduled ≡ w.scheduled = tokens_one n schedule (at_start plan options) w.scheduled w'.scheduled w.tokens w'.tokens in
    let rounds : Repeats (turns_to n count) (ends_rounds n count) w.scheduled w'.settled = subst (λ s. Repeats (turns_to n count) (ends_rounds n count) s w'.settled) scheduled w'.rounds in
    let settled : w'.settled ≡ w.settled = repeats_one (turns_to n count) (ends_rounds n count) w.scheduled w.settled w'.settled w.rounds rounds in
    let closes : CloseIf (is_idle (closing_of w.settled)) n w.settled w'.closed = subst (λ s. CloseIf (is_idle (closing_of s)) n s w'.closed) settled w'.closes in
    let closed : w'.closed ≡ w.closed = close_one (is_idle (closing_of w.settled)) n w.settled w.closed w'.closed w.closes closes in (
      w'.traces_are ∙ ap (λ (s : Weave). map (λ (t : Thread). t.trace) s.threads) closed ∙ sym w.traces_are,
      w'.reports_are ∙ ap (λ (s : Weave). reports_of n (joined_to n count s.core)) closed ∙ sym w.reports_are,
    )
