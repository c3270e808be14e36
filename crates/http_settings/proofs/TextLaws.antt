-- Texts of templates, one after another.
use Rattle.std.proofs.Common.{◌≡◌, ℕ, ◌+◌, ◌<◌, ◌≤◌, Bor, List, [], ◌∷◌, length, drop, refl, sym, ap, ◌∙◌, subst, add-one}
use Rattle.std.proofs.Math.ListN.{get_or}
use Rattle.std.proofs.Math.Seq.{drop-cons}
use Rattle.std.proofs.lemmas.List.{drop_all}
use Rattle.jm_base.specs.Run.{Run, over}
use Rattle.jm_base.specs.Outside.{Account, Goes}
use Rattle.jm_base.proofs.RunLaws.{goes-append}
use Rattle.element_props.specs.declared.prop.Pair.{Pair}
use Rattle.http_text.specs.declared.request.NamedText.{NamedText}
use Rattle.thread_vars.specs.declared.error.VarError.{VarError}
use Rattle.var_functions.specs.declared.state.UserState.{UserState}
use Rattle.var_functions.specs.Came.{Refused}
use Rattle.var_functions.proofs.CameLaws.{refused-first}
use Rattle.var_functions.proofs.LaterLaws.{later_same, later_then}
use Rattle.trials.specs.CutShort.{StandsLater}
use Rattle.trials.specs.Tried.{Tried, fine, past_limit}
use Rattle.http_settings.specs.RequestSettings.{texts_after, pairs_seen}

pub stands-same : (user : UserState) → StandsLater user user
stands-same user = record { vars = refl; fns = later_same _ }

pub stands-then : (a b c : UserState) → StandsLater a b → StandsLater b c → StandsLater a c
stands-then a b c h k = record { vars = k.vars ∙ h.vars; fns = later_then a.fns b.fns c.fns h.fns k.fns }

-- the pairs from the next one on
from-here : (rs : List (Bor Pair)) (i : ℕ) (r : Bor Pair) → i < length rs → r ≡ get_or rs i r → pairs_seen (drop i rs) ≡ r.now ∷ pairs_seen (drop (i + 1) rs)
from-here rs i r within is =
    ap pairs_seen ((rw (add-one i) (drop-cons rs i r within)) ∙ ap (λ q. q ∷ drop (i + 1) rs) (sym is))

pub text_goes : {a m b : Account} (run : Run (Tried (List NamedText))) (rs : List (Bor Pair)) (i : ℕ) (r : Bor Pair) (old now : List NamedText) (mid new : UserState) → i < length rs → r ≡ get_or rs i r
    → Goes a run [] (texts_after old (pairs_seen (drop i rs)) mid) m
    → Goes m (texts_after old (r.now ∷ pairs_seen (drop (i + 1) rs)) mid) [] (texts_after now (pairs_seen (drop (i + 1) rs)) new) b
    → Goes a run [] (texts_after now (pairs_seen (drop (i + 1) rs)) new) b
text_goes {a} {m} {b} run rs i r old now mid new within is so_far goes =
    goes-append so_far
    (subst (λ l. Goes m (texts_after old l mid) [] (texts_after now (pairs_seen (drop (i + 1) rs)) new) b) (sym (from-here rs i r within is)) goes)

pub text_refused : {a m b : Account} (run : Run (Tried (List NamedText))) (rs : List (Bor Pair)) (i : ℕ) (r : Bor Pair) (old : List NamedText) (mid new : UserState) (error : VarError) → i < length rs → r ≡ get_or rs i r
    → Goes a run [] (texts_after old (pairs_seen (drop i rs)) mid) m
    → Refused m (texts_after old (r.now ∷ pairs_seen (drop (i + 1) rs)) mid) b (over (past_limit new)) error
    → Refused a run b (over (past_limit new)) error
text_refused {a} {m} {b} run rs i r old mid new error within is so_far refused =
    refused-first so_far
    (subst (λ l. Refused m (texts_after old l mid) b (over (past_limit new)) error) (sym (from-here rs i r within is)) refused)

pub texts_over : {a b : Account} (run : Run (Tried (List NamedText))) (rs : List (Bor Pair)) (i : ℕ) (texts : List NamedText) (user : UserState) → length rs ≤ i
    → Goes a run [] (texts_after texts (pairs_seen (drop i rs)) user) b → Goes a run [] (over (fine texts user)) b
texts_over {a} {b} run rs i texts user past goes = subst (λ l. Goes a run [] (texts_after texts (pairs_seen l) user) b) (drop_all i rs past) goes
