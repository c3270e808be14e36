-- What stands where a sampler was cut, out of memory: the stages before came whole, and of the one in which it was cut a part
-- of the changes was made.
use Rattle.std.specs.Prelude.{ℕ, List, Option, Some, None, slice_get}
use Rattle.jm_base.specs.declared.types.Reply.{Reply}
use Rattle.element_tree.specs.Scope.{Scope}
use Rattle.element_tree.specs.declared.kinds.Element.{Element}
use Rattle.element_tree.specs.declared.kinds.Kind.{Kind}
use Rattle.element_tree.specs.declared.kinds.Kind.TheVariants.{UserParameters, RegexExtractor, JsonExtractor, BoundaryExtractor}
use Rattle.trials.specs.Tried.{giving}
use Rattle.trials.specs.CutShort.{Cut, StandsStill, CutChanging, CutAfter, CutAmong, DoesPrefix, cut_in, cut_on_way}
use Rattle.trials.specs.Pairs.{set_pair}
use Rattle.reply_search.specs.Seen.{field_of}
use Rattle.extractors.specs.Matches.{extracted_regex, extracted_json, extracted_bounds}
use Rattle.assertions.specs.declared.judging.Answer.{Answer}
use Rattle.config_elements.specs.TimerDelay.{delay}
use Rattle.sampler_pipeline.specs.declared.exchange.Exchange.{Exchange}
use Rattle.sampler_pipeline.specs.SamplerPipeline.{by_kind, prepares, pre_process, pausing, requests_at, exchanging, picking, extracts, post_process, pipeline}

-- in the element of this number; one that isn't there is never cut
abbrev pub cut_at : (Kind → Cut) → Option Element → Cut
cut_at cut None before old after new = ⊥
cut_at cut (Some e) before old after new = cut e.kind before old after new

-- a pre-processor: of its variables a prefix is set
abbrev pub cut_preparing : Kind → Cut
cut_preparing (UserParameters vars) before old after new = DoesPrefix set_pair before vars old after new
cut_preparing kind before old after new = ⊥

abbrev pub cut_pre : List Element → List ℕ → Cut
cut_pre elements numbers =
    CutAmong (by_kind (giving tt) prepares elements) (λ n. cut_at cut_preparing (slice_get elements n)) numbers

-- an extractor: its word is drawn, and of its changes a prefix is made
abbrev pub cut_extracting : Reply → Kind → Cut
cut_extracting reply (RegexExtractor x) = CutAfter (picking x.match_) (λ pick. CutChanging (extracted_regex x (field_of x.field reply) pick))
cut_extracting reply (JsonExtractor x) = CutAfter (picking x.match_) (λ pick. CutChanging (extracted_json x reply.body pick))
cut_extracting reply (BoundaryExtractor x) = CutAfter (picking x.match_) (λ pick. CutChanging (extracted_bounds x (field_of x.field reply) pick))
cut_extracting reply kind = λ before old after new. ⊥

abbrev pub cut_post : List Element → Reply → List ℕ → Cut
cut_post elements reply numbers =
    CutAmong (by_kind (giving tt) (extracts reply) elements) (λ n. cut_at (cut_extracting reply) (slice_get elements n)) numbers

-- after an answer: a post-processor was cut, or after all of them the assertions or the note of the sample's success
abbrev pub cut_answering : List Element → Scope → Answer → Cut
cut_answering elements scope answer =
    cut_in (post_process elements answer.reply scope.post) (cut_post elements answer.reply scope.post) (λ u. StandsStill)

abbrev pub cut_sampling : List Element → Scope → Option Answer → Cut
cut_sampling elements scope None = λ before old after new. ⊥
cut_sampling elements scope (Some answer) = cut_answering elements scope answer

abbrev pub cut_following : List Element → Scope → Exchange → Cut
cut_following elements scope x = cut_sampling elements scope x.answer

abbrev pub cut_asking : List Element → Scope → ℕ → Cut
cut_asking elements scope number =
    cut_on_way (requests_at elements scope number) λ request.
    cut_on_way (exchanging number request) λ exchange.
    cut_following elements scope exchange

abbrev pub cut_pipeline : List Element → Scope → ℕ → Cut
cut_pipeline elements scope number =
    cut_in (pre_process elements scope.pre) (cut_pre elements scope.pre) λ u.
    cut_on_way (delay elements scope.timers) λ ms.
    cut_on_way (pausing ms) λ u.
    cut_asking elements scope number

-- the sampler was cut, or after it the list of the elements that took part
abbrev pub cut_sampler : List Element → Scope → ℕ → Cut
cut_sampler elements scope number =
    cut_in (pipeline elements scope number) (cut_pipeline elements scope number) (λ done. StandsStill)
