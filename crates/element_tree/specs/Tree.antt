-- What contracts see of a plan, and what holds of every plan.
use Rattle.std.specs.Prelude.{◌≡◌, ℕ, zero, suc, ◌<◌, ◌≤◌, Bool, true, false, not, ◌&&◌, ◌||◌, IsTrue, List, [], length, Some, None, slice_get, unwrap_or, map}
use Rattle.std.specs.List.{AllByRecursion}
use Rattle.std.specs.Option.{option_map}
use Rattle.jm_base.specs.declared.types.ScriptReply.{ScriptReply}
use Rattle.element_tree.specs.declared.kinds.Element.{Element}
use Rattle.element_tree.specs.declared.kinds.Kind.{Kind}
use Rattle.element_tree.specs.declared.kinds.Kind.TheVariants.{TestPlan, ThreadGroup, Script, Http}
use Rattle.element_tree.specs.declared.kinds.Loops.{Loops}
use Rattle.element_props.specs.declared.choices.OnError.{OnError}
use Rattle.element_tree.specs.declared.threads.Thread.{Thread}
use Rattle.element_tree.specs.Types.{class_of, may_stand, is_section}
use Rattle.element_tree.specs.FormedPlan.{HasForms}
use Rattle.element_tree.specs.KeptPatterns.{HasPatterns}
use Rattle.element_tree.specs.Names.{labels_of, locks_of, label_of, lock_of, lock_name}
use Rattle.element_tree.specs.Threads.{threads_in, thread_text}

-- its version, and its elements in tree order: the root is 0
pub record Tree : Type 0 where
  pub version : ℕ
  pub elements : List Element

-- ---- how elements stand to one another

-- the elements at this place and below it nest at most this deep
unfoldable pub Nests : ℕ → List Element → ℕ → Type 0
Nests zero elements n = ⊥
Nests (suc depth) elements n = (e : Element) × (slice_get elements n ≡ Some e) × AllByRecursion (Nests depth elements) e.children

-- At this place and below it, where elements nest at most this deep, no critical section stands below another one.
-- The Bool says whether one stands above.
unfoldable pub Apart : ℕ → Bool → List Element → ℕ → Type 0
Apart zero inside elements n = ⊥
Apart (suc depth) inside elements n = (e : Element) × (slice_get elements n ≡ Some e) × IsTrue (not (inside && is_section e.kind)) × AllByRecursion (Apart depth (inside || is_section e.kind) elements) e.children

-- the element c stands right below the element n, in a place that its class may have
pub record IsBelow (elements : List Element) (n : ℕ) (above : Element) (c : ℕ) : Type 0 where
  pub element : Element
  pub there : slice_get elements c ≡ Some element
  pub later : n < c
  pub parent : element.parent ≡ n
  pub place : IsTrue (may_stand (Some (class_of above.kind)) (class_of element.kind))

-- the element n is among the children of its parent
pub record IsChild (elements : List Element) (n parent : ℕ) : Type 0 where
  pub above : Element
  pub there : slice_get elements parent ≡ Some above
  pub earlier : parent < n
  pub place : ℕ
  pub among : slice_get above.children place ≡ Some n

-- parent and children of the element n agree
pub record Stands (elements : List Element) (n : ℕ) (e : Element) : Type 0 where
  pub children : AllByRecursion (IsBelow elements n e) e.children
  pub parent : 0 < n → IsChild elements n e.parent

-- the root is element 0, a test plan, and its own parent
pub record IsRoot (plan : Tree) : Type 0 where
  pub element : Element
  pub there : slice_get plan.elements 0 ≡ Some element
  pub kind : element.kind ≡ TestPlan plan.version
  pub parent : element.parent ≡ 0

-- the element of this number is a thread group right below the root
pub record IsGroup (elements : List Element) (group : ℕ) : Type 0 where
  pub element : Element
  pub loops : Loops
  pub on_error : OnError
  pub ramp_ms : ℕ
  pub threads : ℕ
  pub there : slice_get elements group ≡ Some element
  pub kind : element.kind ≡ ThreadGroup loops on_error ramp_ms threads
  pub parent : element.parent ≡ 0
  pub nests : AllByRecursion (Nests 30 elements) element.children
  pub apart : AllByRecursion (Apart 30 false elements) element.children

-- ---- threads

abbrev pub threads_of : Tree → List Thread
threads_of plan = threads_in plan.elements

-- the element of the group that a thread belongs to
abbrev pub group_of : Tree → ℕ → ℕ
group_of plan thread = unwrap_or (option_map (λ t. t.element) (slice_get (threads_of plan) thread)) 0

abbrev pub name_of : List Element → ℕ → List ℕ
name_of elements n = unwrap_or (option_map (λ e. e.name) (slice_get elements n)) []

-- the name of a thread, as `TG 1-1`
abbrev pub thread_name_of : Tree → ℕ → List ℕ
thread_name_of plan thread = unwrap_or (option_map (λ t. thread_text (name_of plan.elements t.element) t) (slice_get (threads_of plan) thread)) []

-- ---- replies

-- the replies of an element, where it has some
abbrev pub replies_of_kind : Kind → List ScriptReply
replies_of_kind (Script replies request) = replies
replies_of_kind (Http body host method params path port replies) = unwrap_or replies []
replies_of_kind kind = []

abbrev pub replies_of_element : Element → List ScriptReply
replies_of_element e = replies_of_kind e.kind

-- an HTTP request without replies of its own
abbrev pub asks_a_server : Element → Bool
asks_a_server e = lacks_replies e.kind where
  lacks_replies : Kind → Bool
  lacks_replies (Http body host method params path port None) = true
  lacks_replies kind = false

-- ---- every plan

pub record IsPlan (plan : Tree) : Type 0 where
  pub count : length plan.elements ≤ 4096
  pub labels : length (labels_of plan.elements) ≤ 256
  pub locks : length (locks_of plan.elements) ≤ 256
  pub some_thread : 1 ≤ length (threads_of plan)
  pub few_threads : length (threads_of plan) ≤ 64
  pub root : IsRoot plan
  pub nests : Nests 32 plan.elements 0
  pub apart : Apart 32 false plan.elements 0
  pub stands : (n : ℕ) (e : Element) → slice_get plan.elements n ≡ Some e → Stands plan.elements n e
  pub forms : (n : ℕ) (e : Element) → slice_get plan.elements n ≡ Some e → HasForms e.kind
  pub patterns : (n : ℕ) (e : Element) → slice_get plan.elements n ≡ Some e → HasPatterns e.kind
  pub groups : (thread : ℕ) (t : Thread) → slice_get (threads_of plan) thread ≡ Some t → IsGroup plan.elements t.element

-- what is looked up beside elements: labels, locks and threads, and the number of each element's label and lock
pub record AreTables (elements : List Element) (labels : List (List ℕ)) (label_numbers : List ℕ) (locks : List (List ℕ)) (lock_numbers : List ℕ) (threads : List Thread) : Type 0 where
  pub labels_ : labels ≡ labels_of elements
  pub label_numbers_ : label_numbers ≡ map (λ e. label_of elements e.name) elements
  pub locks_ : locks ≡ locks_of elements
  pub lock_numbers_ : lock_numbers ≡ map (λ e. lock_of elements (unwrap_or (lock_name e) [])) elements
  pub threads_ : threads ≡ threads_in elements

-- a plan with its tables beside it
pub record IsWellKept (plan : Tree) (labels : List (List ℕ)) (label_numbers : List ℕ) (locks : List (List ℕ)) (lock_numbers : List ℕ) (threads : List Thread) : Type 0 where
  pub plan_ : IsPlan plan
  pub tables_ : AreTables plan.elements labels label_numbers locks lock_numbers threads
