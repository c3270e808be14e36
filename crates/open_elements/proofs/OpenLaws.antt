-- What an element that was entered comes to.
use Rattle.std.proofs.Common.{◌≡◌, ℕ, Bool, List, [], Option, Some, refl, sym, ap, ◌∙◌, subst}
use Rattle.std.specs.Prelude.{Result, slice_get}
use Rattle.jm_base.specs.declared.types.Method.{Method}
use Rattle.jm_base.specs.declared.types.ScriptReply.{ScriptReply}
use Rattle.jm_base.specs.Run.{Run, over}
use Rattle.jm_base.specs.Outside.{Account, Goes}
use Rattle.template_text.specs.Pieces.{Pieces}
use Rattle.element_props.specs.declared.prop.Pair.{Pair}
use Rattle.element_tree.specs.declared.kinds.Element.{Element}
use Rattle.element_tree.specs.declared.kinds.Kind.{Kind}
use Rattle.element_tree.specs.declared.kinds.Kind.TheVariants as kinds
use Rattle.thread_vars.specs.declared.error.VarError.{VarError}
use Rattle.var_functions.specs.Came.{CameTo}
use Rattle.jm_meaning.specs.State.{State, Ending, normal}
use Rattle.jm_meaning.specs.Children.{Below}
use Rattle.jm_meaning.specs.Meaning.{Here, kind_meaning}
use Rattle.jm_base.proofs.RunLaws.{goes-nothing}
use Rattle.open_elements.specs.Entering.{kind_part, IsSamplerKind}
use Rattle.open_elements.proofs.CursorCalls.{same_element}

-- the kind of the element at this number
pub kind_is : (elements : List Element) (n : ℕ) (d e : Element) (k : Kind) → Some d ≡ slice_get elements n → slice_get elements n ≡ Some e → d.kind ≡ k → e.kind ≡ k
kind_is elements n d e k h there is = ap (λ e. e.kind) (sym (same_element elements n d e (sym h) there)) ∙ is

-- what an element of this kind means has come to something
pub kind_came : {B : Type 0} (a b : Account) (here : Here) (below : Below) (n : ℕ) (e : Element) (k k' : Kind) (round : ℕ) (s : State) (on : B → Run Ending) (limit : Run Ending) (res : Result B VarError)
    → k ≡ k' → CameTo a (kind_meaning here below n e k' round s) b on limit res → CameTo a (kind_meaning here below n e k round s) b on limit res
kind_came a b here below n e k k' round s on limit res is came = subst (λ k. CameTo a (kind_meaning here below n e k round s) b on limit res) (sym is) came

-- an element of a kind that is none of these means nothing
pub other_kind : (here : Here) (below : Below) (n : ℕ) (e : Element) (k : Kind) (round : ℕ) (s : State)
    → ((replies : List ScriptReply) (request : Pieces) → k ≡ kinds.Script replies request → ⊥)
    → ((body host : Pieces) (method : Method) (params : List Pair) (path port : Pieces) (replies : Option (List ScriptReply)) → k ≡ kinds.Http body host method params path port replies → ⊥) → (k ≡ kinds.Simple → ⊥) → (k ≡ kinds.OnceOnly → ⊥) → ((loops : Pieces) → k ≡ kinds.Loop loops → ⊥)
    → ((all : Bool) (condition : Pieces) → k ≡ kinds.If all condition → ⊥) → ((condition : Pieces) → k ≡ kinds.While condition → ⊥)
    → ((end : ℕ) (input output : List ℕ) (separator : Bool) (start : ℕ) → k ≡ kinds.ForEach end input output separator start → ⊥) → (k ≡ kinds.Interleave → ⊥) → (k ≡ kinds.Random → ⊥) → (k ≡ kinds.RandomOrder → ⊥)
    → ((value : Pieces) → k ≡ kinds.Switch value → ⊥) → (k ≡ kinds.Transaction → ⊥) → ((name : List ℕ) → k ≡ kinds.CriticalSection name → ⊥)
    → kind_meaning here below n e k round s ≡ over (normal s)
other_kind here below number e (kinds.Script replies request) round s a o b c d f g h i j l m n p = absurd (a replies request refl)
other_kind here below number e (kinds.Http body host method params path port replies) round s a o b c d f g h i j l m n p = absurd (o body host method params path port replies refl)
other_kind here below number e kinds.Simple round s a o b c d f g h i j l m n p = absurd (b refl)
other_kind here below number e kinds.OnceOnly round s a o b c d f g h i j l m n p = absurd (c refl)
other_kind here below number e (kinds.Loop loops) round s a o b c d f g h i j l m n p = absurd (d loops refl)
other_kind here below number e (kinds.If all condition) round s a o b c d f g h i j l m n p = absurd (f all condition refl)
other_kind here below number e (kinds.While condition) round s a o b c d f g h i j l m n p = absurd (g condition refl)
other_kind here below number e (kinds.ForEach end input output separator start) round s a o b c d f g h i j l m n p = absurd (h end input output separator start refl)
other_kind here below number e kinds.Interleave round s a o b c d f g h i j l m n p = absurd (i refl)
other_kind here below number e kinds.Random round s a o b c d f g h i j l m n p = absurd (j refl)
other_kind here below number e kinds.RandomOrder round s a o b c d f g h i j l m n p = absurd (l refl)
other_kind here below number e (kinds.Switch value) round s a o b c d f g h i j l m n p = absurd (m value refl)
other_kind here below number e kinds.Transaction round s a o b c d f g h i j l m n p = absurd (n refl)
other_kind here below number e (kinds.CriticalSection name) round s a o b c d f g h i j l m n p = absurd (p name refl)
other_kind here below number e k round s a o b c d f g h i j l m n p = refl

-- a sampler means that it is run
sampler_by : (here : Here) (below : Below) (n : ℕ) (e : Element) (k : Kind) (round : ℕ) (s : State) → IsSamplerKind k → kind_meaning here below n e k round s ≡ kind_part here n e k s
sampler_by here below n e (kinds.Script replies request) round s is = refl
sampler_by here below n e (kinds.Http body host method params path port replies) round s is = refl
sampler_by here below n e k round s is = absurd is

pub sampler_means : (here : Here) (below : Below) (n : ℕ) (e : Element) (k sampler : Kind) (round : ℕ) (s : State) → k ≡ sampler → IsSamplerKind sampler
    → kind_meaning here below n e k round s ≡ kind_part here n e k s
sampler_means here below n e k sampler round s is of_kind = sampler_by here below n e k round s (subst IsSamplerKind (sym is) of_kind)

-- a run that is another one has come to where that one has come
pub goes_as : (a : Account) (run x : Run Ending) → run ≡ x → Goes a run [] x a
goes_as a run x is = subst (λ r. Goes a r [] x a) (sym is) (goes-nothing a x)
