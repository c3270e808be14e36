-- The sampler pipeline: what one sampler does, in the order of the manual's "Execution order".
pub use Rattle.thread_vars.specs.Vars.{last_sample_ok, truth_text}
use Rattle.std.specs.Prelude.{ℕ, zero, suc, ℤ, pos, min, true, false, List, [], ◌∷◌, ◌++◌, length, Option, Some, None, slice_get, unwrap_or, if◌then◌else◌, codes, ◌==◌}
use Rattle.std.specs.Option.{option_map}
use Rattle.jm_base.specs.declared.types.Sample.{Sample}
use Rattle.jm_base.specs.declared.types.Reply.{Reply}
use Rattle.jm_base.specs.declared.types.Request.{Request}
use Rattle.jm_base.specs.declared.types.Request.TheVariants.{Script as ScriptRequest}
use Rattle.jm_base.specs.Run.{over, wait, ◌>>=◌}
use Rattle.element_tree.specs.Names.{label_of}
use Rattle.element_tree.specs.Scope.{Scope}
use Rattle.element_tree.specs.declared.kinds.Element.{Element}
use Rattle.element_tree.specs.declared.kinds.Kind.{Kind}
use Rattle.element_tree.specs.declared.kinds.Kind.TheVariants.{Script, Http, UserParameters, RegexExtractor, JsonExtractor, BoundaryExtractor, ResponseAssertion, DurationAssertion, SizeAssertion}
use Rattle.element_tree.specs.declared.kinds.Assertion.{Assertion}
use Rattle.element_tree.specs.declared.kinds.Assertion.TheVariants.{Response, Duration, Size}
use Rattle.trials.specs.Tried.{Try, fine, giving, ◌>=>◌, each_of, text}
use Rattle.var_changes.specs.Changes.{Sets}
use Rattle.trials.specs.Pairs.{changing, set_pairs}
use Rattle.reply_search.specs.Seen.{field_of}
use Rattle.extractors.specs.Matches.{extracted_regex, extracted_json, extracted_bounds}
use Rattle.assertions.specs.declared.judging.Answer.{Answer}
use Rattle.assertions.specs.ByPatterns.{holds_by_patterns}
use Rattle.config_elements.specs.TimerDelay.{delay, drawing}
use Rattle.http_settings.specs.RequestSettings.{settings}
use Rattle.http_settings.specs.Targets.{target_of, http_request}
use Rattle.sampler_pipeline.specs.declared.exchange.Exchange.{Exchange}
use Rattle.sampler_pipeline.specs.declared.verdict.Verdict.{Verdict}
use Rattle.sampler_pipeline.specs.declared.run.Done.{Done}
use Rattle.sampler_pipeline.specs.Exchanges.{exchange_if, is_success, sample_of}

-- what is made of the element of this number; nothing where it isn't there
abbrev pub by_kind : {A : Type 0} → A → (Kind → A) → List Element → ℕ → A
by_kind nothing part elements number = unwrap_or (option_map (λ e. part e.kind) (slice_get elements number)) nothing

-- ---- before the request

-- a pre-processor: a User Parameters sets its variables
abbrev pub prepares : Kind → Try (Unit {0})
prepares (UserParameters vars) = set_pairs vars
prepares kind = giving tt

abbrev pub pre_process : List Element → List ℕ → Try (Unit {0})
pre_process elements numbers = each_of (by_kind (giving tt) prepares elements) numbers

-- a pause of that many milliseconds, if it is any
abbrev pub pausing : ℕ → Try (Unit {0})
pausing zero user = over (fine tt user)
pausing (suc ms) user = wait (suc ms) (over (fine tt user))

-- ---- the request

-- what a sampler asks for: an HTTP sampler for the request of its settings, if they have a target
abbrev pub requests : List Element → Scope → ℕ → Kind → Try (Option Request)
requests elements scope number (Script replies request) = text request >=> λ t. giving (Some (ScriptRequest t))
requests elements scope number (Http body host method params path port replies) =
    settings elements scope.config number >=> λ s. giving (option_map http_request (target_of s))
requests elements scope number kind = giving None

abbrev pub requests_at : List Element → Scope → ℕ → Try (Option Request)
requests_at elements scope number = by_kind (giving None) (requests elements scope number) elements number

-- what comes of a request between two readings
abbrev pub exchanging : ℕ → Option Request → Try Exchange
exchanging number request user = exchange_if number request >>= λ x. over (fine x user)

-- ---- after the reply

-- a word is drawn where a match is taken at random
abbrev pub picking : ℤ → Try ℕ
picking (pos zero) = drawing
picking match_number = giving 0

-- a post-processor: an extractor sets its variables
abbrev pub extracts : Reply → Kind → Try (Unit {0})
extracts reply (RegexExtractor x) = picking x.match_ >=> λ pick. changing (extracted_regex x (field_of x.field reply) pick)
extracts reply (JsonExtractor x) = picking x.match_ >=> λ pick. changing (extracted_json x reply.body pick)
extracts reply (BoundaryExtractor x) = picking x.match_ >=> λ pick. changing (extracted_bounds x (field_of x.field reply) pick)
extracts reply kind = giving tt

abbrev pub post_process : List Element → Reply → List ℕ → Try (Unit {0})
post_process elements reply numbers = each_of (by_kind (giving tt) (extracts reply) elements) numbers

-- the assertion of an element
abbrev pub assertion_in : Kind → Option Assertion
assertion_in (ResponseAssertion a) = Some a
assertion_in (DurationAssertion a) = Some a
assertion_in (SizeAssertion a) = Some a
assertion_in kind = None

-- with `ignoreStatus` a sample counts as succeeded before the assertion
abbrev pub cleared : Assertion → Verdict → Verdict
cleared (Response field ignore_status negate either patterns regexes test whole_regexes) v = if ignore_status then record { ok = true; failure = [] } else v
cleared (Duration ms) v = v
cleared (Size op size) v = v

abbrev pub failure_text : List ℕ → List ℕ
failure_text name = codes "assertion " ++ (name ++ codes " failed")

-- the failure message is that of the first one that failed
abbrev pub failed : List ℕ → Verdict → Verdict
failed name v = record { ok = false; failure = if length v.failure == 0 then failure_text name else v.failure }

-- what an assertion says of an answer by its patterns
abbrev pub judged_by : List ℕ → Answer → Assertion → Verdict → Verdict
judged_by name answer a v = if holds_by_patterns a answer then cleared a v else failed name (cleared a v)

abbrev pub judged_if : List ℕ → Answer → Option Assertion → Verdict → Verdict
judged_if name answer None v = v
judged_if name answer (Some a) v = judged_by name answer a v

abbrev pub judged_at : Option Element → Answer → Verdict → Verdict
judged_at None answer v = v
judged_at (Some e) answer v = judged_if e.name answer (assertion_in e.kind) v

-- these assertions, one after another
abbrev pub judged : List Element → Answer → List ℕ → Verdict → Verdict
judged elements answer [] v = v
judged elements answer (n ∷ ns) v = judged elements answer ns (judged_at (slice_get elements n) answer v)

-- a sample succeeds at first by its code
abbrev pub at_first : Answer → Verdict
at_first answer = record { ok = is_success answer.reply.code; failure = [] }

-- how many listeners are handed the sample; they have 16 bits, which the elements of no plan fill
abbrev pub listeners_of : Scope → ℕ
listeners_of scope = min (length scope.listeners) 65535

-- the label of the element of this number
abbrev pub label_at : List Element → ℕ → ℕ
label_at elements number = unwrap_or (option_map (λ e. label_of elements e.name) (slice_get elements number)) 0

-- the sample of an answer, after the assertions
abbrev pub assert_all : List Element → Scope → ℕ → ℕ → Answer → Sample
assert_all elements scope number stamp answer =
    sample_of (label_at elements number) stamp answer (judged elements answer scope.assertions (at_first answer)) (listeners_of scope)

-- whether the last sample succeeded is a variable
abbrev pub noting : Sample → Try (Unit {0})
noting sample = changing (λ vars. Sets last_sample_ok (truth_text sample.ok) ∷ [])

-- after an answer come post-processors and assertions
abbrev pub answering : List Element → Scope → ℕ → ℕ → Answer → Try Sample
answering elements scope number stamp answer =
    post_process elements answer.reply scope.post >=> λ u.
    noting (assert_all elements scope number stamp answer) >=> λ u.
    giving (assert_all elements scope number stamp answer)

-- without an answer there is no sample, and nothing more is done
abbrev pub sampling_of : List Element → Scope → ℕ → ℕ → Option Answer → Try (Option Sample)
sampling_of elements scope number stamp None = giving None
sampling_of elements scope number stamp (Some answer) = answering elements scope number stamp answer >=> λ sample. giving (Some sample)

abbrev pub following : List Element → Scope → ℕ → Exchange → Try (Option Sample)
following elements scope number x = sampling_of elements scope number x.stamp x.answer

-- ---- the whole

-- the request, and what follows from its reply
abbrev pub asking : List Element → Scope → ℕ → Try (Option Sample)
asking elements scope number =
    requests_at elements scope number >=> λ request. exchanging number request >=> following elements scope number

-- A sampler with its package: pre-processors, the pause of its timers, the request, post-processors, assertions.
unfoldable pub pipeline : List Element → Scope → ℕ → Try Done
pipeline elements scope number =
    pre_process elements scope.pre >=> λ u.
    delay elements scope.timers >=> λ ms.
    pausing ms >=> λ u.
    asking elements scope number >=> λ sample.
    giving (record { paused = ms; sample = sample })

-- the elements that took part, in their order: after a sampler without a sample there are none
abbrev pub after_sample : Scope → Option Sample → List ℕ
after_sample scope None = []
after_sample scope (Some sample) = scope.post ++ (scope.assertions ++ scope.listeners)

abbrev pub order_of : Scope → ℕ → Option Sample → List ℕ
order_of scope number sample = scope.config ++ (scope.pre ++ (scope.timers ++ number ∷ after_sample scope sample))
