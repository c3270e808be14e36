-- The stages of a sampler, one after another.
use Rattle.std.proofs.Common.{◌≡◌, ℕ, zero, suc, ◌≤◌, List, [], Option, Some, None, false, refl, sym, ap, subst, arith, length}
use Rattle.std.specs.Prelude.{ℤ, pos, negsuc, Result, Err, slice_get, unwrap_or, nat_lt}
use Rattle.std.specs.Option.{option_map}
use Rattle.jm_base.specs.Run.{over, wait}
use Rattle.jm_base.specs.Outside.{Account, Goes}
use Rattle.jm_base.specs.declared.types.Reply.{Reply}
use Rattle.jm_base.specs.declared.types.Method.{Method}
use Rattle.jm_base.specs.declared.types.ScriptReply.{ScriptReply}
use Rattle.jm_base.proofs.RunLaws.{goes-bind, goes-nothing}
use Rattle.template_text.specs.Pieces.{Pieces}
use Rattle.element_props.specs.declared.prop.Pair.{Pair}
use Rattle.var_functions.specs.FunctionState.{drawn, draw}
use Rattle.element_tree.specs.declared.kinds.RegexExtractor.{RegexExtractor}
use Rattle.element_tree.specs.declared.kinds.BoundaryExtractor.{BoundaryExtractor}
use Rattle.std.proofs.lemmas.Bool.Decides.{nat_tests}
use Rattle.var_functions.specs.declared.state.UserState.{UserState}
use Rattle.element_tree.specs.declared.kinds.Element.{Element}
use Rattle.element_tree.specs.declared.kinds.Kind.{Kind}
use Rattle.element_tree.specs.declared.kinds.Kind.TheVariants as kinds
use Rattle.element_tree.specs.declared.kinds.JsonExtractor.{JsonExtractor}
use Rattle.element_tree.specs.declared.kinds.Assertion.{Assertion}
use Rattle.element_tree.specs.FormedPlan.{HasForms}
use Rattle.element_tree.specs.KeptPatterns.{KeepsPatterns, HasPatterns}
use Rattle.trials.specs.Tried.{giving, fine}
use Rattle.element_tree.specs.Scope.{Scope}
use Rattle.sampler_pipeline.specs.SamplerPipeline.{by_kind, pausing, prepares, requests, picking, extracts, assertion_in}

-- what is made of an element that is there, and of none
pub kind-there : {A : Type 0} (nothing : A) (part : Kind → A) (elements : List Element) (n : ℕ) (e : Element) → Some e ≡ slice_get elements n → by_kind nothing part elements n ≡ part e.kind
kind-there nothing part elements n e there = ap (λ o. unwrap_or (option_map (λ e. part e.kind) o) nothing) (sym there)

pub kind-none : {A : Type 0} (nothing : A) (part : Kind → A) (elements : List Element) (n : ℕ) → None ≡ slice_get elements n → by_kind nothing part elements n ≡ nothing
kind-none nothing part elements n none = ap (λ o. unwrap_or (option_map (λ e. part e.kind) o) nothing) (sym none)

-- a pause was made
pub paused : (a b : Account) (ms : ℕ) (user : UserState) → (ms ≡ 0 → ⊥) → Goes {A = Unit {0}} a (wait ms (over tt)) [] (over tt) b → Goes a (pausing ms user) [] (over (fine tt user)) b
paused a b zero user some goes = absurd (some refl)
paused a b (suc ms) user some goes = goes-bind (λ (u : Unit {0}). over (fine u user)) goes

-- the path of a JSON Extractor of a plan is short
pub short_path : (x : JsonExtractor) → HasForms (kinds.JsonExtractor x) → length x.path ≤ 65536
short_path x forms = let short : nat_lt 65536 (length x.path) ≡ false = forms.1.2.2.1.0 in grind (arith, short, nat_tests)

pub not-paused : (a : Account) (ms : ℕ) (user : UserState) → ms ≡ 0 → Goes a (pausing ms user) [] (over (fine tt user)) a
not-paused a ms user none = rw none (goes-nothing a _)

-- an assertion of a plan keeps the regular expressions of its patterns
pub patterns_kept : (kind : Kind) (assertion : Assertion) → HasPatterns kind → Some assertion ≡ assertion_in kind → KeepsPatterns assertion
patterns_kept (kinds.ResponseAssertion kept) assertion has is = let same : kept ≡ assertion = cc in let P : Assertion → Type 0 = λ a. KeepsPatterns a in subst P same has
patterns_kept (kinds.DurationAssertion kept) assertion has is = let same : kept ≡ assertion = cc in let P : Assertion → Type 0 = λ a. KeepsPatterns a in subst P same has
patterns_kept (kinds.SizeAssertion kept) assertion has is = let same : kept ≡ assertion = cc in let P : Assertion → Type 0 = λ a. KeepsPatterns a in subst P same has
patterns_kept kind assertion has is = cc

-- elements that do nothing at a stage
pub no-preparation : (k : Kind) → ((vars : List Pair) → k ≡ kinds.UserParameters vars → ⊥) → prepares k ≡ giving tt
no-preparation (kinds.UserParameters vars) other = absurd (other vars refl)
no-preparation k other = refl

pub no-request : (elements : List Element) (scope : Scope) (n : ℕ) (k : Kind) → ((replies : List ScriptReply) (request : Pieces) → k ≡ kinds.Script replies request → ⊥)
    → ((body host : Pieces) (method : Method) (params : List Pair) (path port : Pieces) (replies : Option (List ScriptReply)) → k ≡ kinds.Http body host method params path port replies → ⊥)
    → requests elements scope n k ≡ giving None
no-request elements scope n (kinds.Script replies request) a b = absurd (a replies request refl)
no-request elements scope n (kinds.Http body host method params path port replies) a b = absurd (b body host method params path port replies refl)
no-request elements scope n k a b = refl

pub no-extraction : (reply : Reply) (k : Kind) → ((x : RegexExtractor) → k ≡ kinds.RegexExtractor x → ⊥) → ((x : JsonExtractor) → k ≡ kinds.JsonExtractor x → ⊥) → ((x : BoundaryExtractor) → k ≡ kinds.BoundaryExtractor x → ⊥)
    → extracts reply k ≡ giving tt
no-extraction reply (kinds.RegexExtractor x) a b c = absurd (a x refl)
no-extraction reply (kinds.JsonExtractor x) a b c = absurd (b x refl)
no-extraction reply (kinds.BoundaryExtractor x) a b c = absurd (c x refl)
no-extraction reply k a b c = refl

-- the word that picks a match
pub picked : (a : Account) (z : ℤ) (user : UserState) (word : ℕ) → z ≡ pos 0 → word ≡ drawn user.fns.random
    → Goes a (picking z user) [] (over (fine word (record { vars = user.vars; fns = draw user.fns }))) a
picked a z user word none is = rw (none, is) (goes-nothing a _)

pub not-picked : (a : Account) (z : ℤ) (user : UserState) → (z ≡ pos 0 → ⊥) → Goes a (picking z user) [] (over (fine 0 user)) a
not-picked a (pos zero) user some = absurd (some refl)
not-picked a (pos (suc n)) user some = goes-nothing a _
not-picked a (negsuc n) user some = goes-nothing a _

-- an error is the same, whatever the value would have been
pub same-error : {A B E : Type 0} (e f : E) → ◌≡◌ {A = Result A E} (Err e) (Err f) → ◌≡◌ {A = Result B E} (Err e) (Err f)
same-error e f is = let same : e ≡ f = cc in ap (λ x. Err x) same
