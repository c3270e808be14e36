-- Worked plans: what the definitions give, computed.
use Rattle.std.proofs.Common.{◌≡◌, ℕ, Bool, true, false, List, [], ◌∷◌, refl}
use Rattle.std.specs.Prelude.{codes}
use Rattle.std.specs.Fmt.{digits}
use Rattle.jm_base.specs.declared.types.End.TheVariants.{Completed}
use Rattle.jm_base.specs.declared.types.ScriptReply.{ScriptReply}
use Rattle.jm_base.specs.Run.{Event, Sampled, Ended, Sampler, Transaction as ByTransaction, over_value}
use Rattle.jm_base.specs.Outside.{Scripts, script_form}
use Rattle.element_props.specs.declared.prop.Pair.{Pair}
use Rattle.element_tree.specs.declared.kinds.Element.{Element}
use Rattle.element_tree.specs.declared.kinds.Kind.{Kind}
use Rattle.element_tree.specs.declared.kinds.Kind.TheVariants.{TestPlan, ThreadGroup, Simple, Loop, OnceOnly, While, ForEach, Interleave, Random, RandomOrder, Switch, Transaction, Script, UserVariables}
use Rattle.element_tree.specs.declared.kinds.Loops.TheVariants.{Times}
use Rattle.element_props.specs.declared.choices.OnError.TheVariants.{Continue}
use Rattle.template_text.specs.Pieces.{no_more, text, reference, variable}
use Rattle.element_tree.specs.Threads.{threads_in}
use Rattle.element_tree.specs.Tree.{Tree}
use Rattle.element_tree.specs.Names.{labels_of}
use Rattle.var_functions.specs.Expansion.{after_pieces, referred, after_texts}
use Rattle.scope_resolver.specs.Ancestry.{line, hanging_by, applying_by}
use Rattle.scope_resolver.specs.Scoping.{package_of}
use Rattle.sampler_pipeline.specs.Exchanges.{exchange}
use Rattle.jm_meaning.specs.RampUp.{pause_of}
use Rattle.jm_meaning.specs.Beginning.{Options}
use Rattle.jm_meaning.specs.Meaning.{events, meaning}
use Rattle.jm_meaning.specs.Rounds.{rounds}
use Rattle.sampler_pipeline.specs.SamplerPipeline.{pipeline}
use Rattle.jm_meaning.specs.Transactions.{heard}

-- a reply after that many milliseconds, whose body is the text of the request
reply : ℕ → List ℕ → ℕ → ScriptReply
reply code message ms =
    record { code = code; message = message; headers = []; body = []; ms = ms; null = false; fault = false; echo = true }

element : List ℕ → Kind → ℕ → List ℕ → Element
element name kind parent children = record { name = name; kind = kind; parent = parent; children = children }

-- what a trace line says of a sampler's sample
sample : ℕ → ℕ → ℕ → ℕ → List ℕ → Bool → ℕ → Event
sample stamp elapsed label code message ok bytes = Sampled Sampler (record {
  stamp = stamp;
  elapsed = elapsed;
  label = label;
  code = code;
  message = message;
  ok = ok;
  failure = [];
  bytes = bytes;
  listeners = 0;
})

options : Options
options = record { seed = 0; props = []; budget = 65536 }

a_replies : List ScriptReply
a_replies = reply 200 (codes "OK") 5 ∷ []

b_replies : List ScriptReply
b_replies = reply 200 (codes "OK") 2 ∷ []

-- two rounds of a group over two rounds of a loop, in which A stands below a Once Only before B
once : Tree
once = record {
  version = 1;
  elements =
      element (codes "TestPlan") (TestPlan 1) 0 (1 ∷ [])
      ∷ element (codes "TG") (ThreadGroup (Times 2) Continue 0 1) 0 (2 ∷ [])
      ∷ element (codes "Loop") (Loop (text (codes "2") no_more)) 1 (3 ∷ 5 ∷ [])
      ∷ element (codes "Once") OnceOnly 2 (4 ∷ [])
      ∷ element (codes "A") (Script a_replies no_more) 3 []
      ∷ element (codes "B") (Script b_replies no_more) 2 []
      ∷ [];
}

once_scripts : Scripts
once_scripts = record { replies = [] ∷ [] ∷ [] ∷ [] ∷ a_replies ∷ b_replies ∷ []; clock = 0; places = 0 ∷ 0 ∷ 0 ∷ 0 ∷ 0 ∷ 0 ∷ [] }

once_in_each_run_of_the_loop : (over_value script_form (events once 0 options) once_scripts).events
    ≡ sample 0 5 0 200 (codes "OK") true 0
    ∷ sample 5 2 1 200 (codes "OK") true 0
    ∷ sample 7 2 1 200 (codes "OK") true 0
    ∷ sample 9 5 0 200 (codes "OK") true 0
    ∷ sample 14 2 1 200 (codes "OK") true 0
    ∷ sample 16 2 1 200 (codes "OK") true 0
    ∷ Ended Completed
    ∷ []
unfolding over_value events digits pause_of threads_in meaning rounds exchange pipeline package_of applying_by hanging_by line labels_of after_pieces referred after_texts once once_scripts options sample element reply a_replies b_replies
once_in_each_run_of_the_loop = refl

-- a While with LAST over a sampler whose second sample fails
c_replies : List ScriptReply
c_replies = reply 200 (codes "OK") 5 ∷ reply 500 (codes "Bad") 7 ∷ []

last : Tree
last = record {
  version = 1;
  elements =
      element (codes "TestPlan") (TestPlan 1) 0 (1 ∷ [])
      ∷ element (codes "TG") (ThreadGroup (Times 1) Continue 0 1) 0 (2 ∷ [])
      ∷ element (codes "While") (While (text (codes "LAST") no_more)) 1 (3 ∷ [])
      ∷ element (codes "A") (Script c_replies no_more) 2 []
      ∷ [];
}

last_scripts : Scripts
last_scripts = record { replies = [] ∷ [] ∷ [] ∷ c_replies ∷ []; clock = 0; places = 0 ∷ 0 ∷ 0 ∷ 0 ∷ [] }

a_while_ends_after_a_failed_sample : (over_value script_form (events last 0 options) last_scripts).events
    ≡ sample 0 5 0 200 (codes "OK") true 0
    ∷ sample 5 7 0 500 (codes "Bad") false 0
    ∷ Ended Completed
    ∷ []
unfolding over_value events digits pause_of threads_in meaning rounds exchange pipeline package_of applying_by hanging_by line labels_of after_pieces referred after_texts last last_scripts options sample element reply c_replies
a_while_ends_after_a_failed_sample = refl

-- a ForEach over the variables x_1 and x_2, whose values are sent
pair : List ℕ → List ℕ → Pair
pair name value = record { name = name; value = text value no_more }

each : Tree
each = record {
  version = 1;
  elements =
      element (codes "TestPlan") (TestPlan 1) 0 (1 ∷ 2 ∷ [])
      ∷ element (codes "Vars") (UserVariables (pair (codes "x_1") (codes "a") ∷ pair (codes "x_2") (codes "bcd") ∷ [])) 0 []
      ∷ element (codes "TG") (ThreadGroup (Times 1) Continue 0 1) 0 (3 ∷ [])
      ∷ element (codes "Each") (ForEach 9 (codes "x") (codes "y") true 0) 2 (4 ∷ [])
      ∷ element (codes "A") (Script a_replies (reference (variable (codes "y")) no_more)) 3 []
      ∷ [];
}

each_scripts : Scripts
each_scripts = record { replies = [] ∷ [] ∷ [] ∷ [] ∷ a_replies ∷ []; clock = 0; places = 0 ∷ 0 ∷ 0 ∷ 0 ∷ 0 ∷ [] }

a_foreach_sends_each_value : (over_value script_form (events each 0 options) each_scripts).events
    ≡ sample 0 5 0 200 (codes "OK") true 1
    ∷ sample 5 5 0 200 (codes "OK") true 3
    ∷ Ended Completed
    ∷ []
unfolding over_value events digits pause_of threads_in meaning rounds exchange pipeline package_of applying_by hanging_by line labels_of after_pieces referred after_texts each each_scripts options sample element reply a_replies pair
a_foreach_sends_each_value = refl

-- Random Controllers without a child, and a Simple over a Random Order over A alone
alone : Tree
alone = record {
  version = 1;
  elements =
      element (codes "TestPlan") (TestPlan 1) 0 (1 ∷ [])
      ∷ element (codes "TG") (ThreadGroup (Times 1) Continue 0 1) 0 (2 ∷ 3 ∷ 4 ∷ [])
      ∷ element (codes "First") Random 1 []
      ∷ element (codes "Second") Random 1 []
      ∷ element (codes "S") Simple 1 (5 ∷ [])
      ∷ element (codes "O") RandomOrder 4 (6 ∷ [])
      ∷ element (codes "A") (Script a_replies no_more) 5 []
      ∷ [];
}

alone_scripts : Scripts
alone_scripts = record { replies = [] ∷ [] ∷ [] ∷ [] ∷ [] ∷ [] ∷ a_replies ∷ []; clock = 0; places = 0 ∷ 0 ∷ 0 ∷ 0 ∷ 0 ∷ 0 ∷ 0 ∷ [] }

a_child_alone_runs_in_any_order : (over_value script_form (events alone 0 options) alone_scripts).events
    ≡ sample 0 5 0 200 (codes "OK") true 0
    ∷ Ended Completed
    ∷ []
unfolding over_value events digits pause_of threads_in meaning rounds exchange pipeline package_of applying_by hanging_by line labels_of after_pieces referred after_texts alone alone_scripts options sample element reply a_replies
a_child_alone_runs_in_any_order = refl

-- two rounds of a group over an Interleave, and a Switch by name
turn : Tree
turn = record {
  version = 1;
  elements =
      element (codes "TestPlan") (TestPlan 1) 0 (1 ∷ [])
      ∷ element (codes "TG") (ThreadGroup (Times 2) Continue 0 1) 0 (2 ∷ 5 ∷ [])
      ∷ element (codes "I") Interleave 1 (3 ∷ 4 ∷ [])
      ∷ element (codes "A") (Script a_replies no_more) 2 []
      ∷ element (codes "B") (Script b_replies no_more) 2 []
      ∷ element (codes "S") (Switch (text (codes "D") no_more)) 1 (6 ∷ 7 ∷ [])
      ∷ element (codes "C") (Script a_replies no_more) 5 []
      ∷ element (codes "D") (Script b_replies no_more) 5 []
      ∷ [];
}

turn_scripts : Scripts
turn_scripts = record {
  replies = [] ∷ [] ∷ [] ∷ a_replies ∷ b_replies ∷ [] ∷ a_replies ∷ b_replies ∷ [];
  clock = 0;
  places = 0 ∷ 0 ∷ 0 ∷ 0 ∷ 0 ∷ 0 ∷ 0 ∷ 0 ∷ [];
}

an_interleave_takes_turns : (over_value script_form (events turn 0 options) turn_scripts).events
    ≡ sample 0 5 0 200 (codes "OK") true 0
    ∷ sample 5 2 3 200 (codes "OK") true 0
    ∷ sample 7 2 1 200 (codes "OK") true 0
    ∷ sample 9 2 3 200 (codes "OK") true 0
    ∷ Ended Completed
    ∷ []
unfolding over_value events digits pause_of threads_in meaning rounds exchange pipeline package_of applying_by hanging_by line labels_of after_pieces referred after_texts turn turn_scripts options sample element reply a_replies b_replies
an_interleave_takes_turns = refl

-- a Transaction over two samplers, of which the second fails
d_replies : List ScriptReply
d_replies = reply 500 (codes "Bad") 7 ∷ []

whole : Tree
whole = record {
  version = 1;
  elements =
      element (codes "TestPlan") (TestPlan 1) 0 (1 ∷ [])
      ∷ element (codes "TG") (ThreadGroup (Times 1) Continue 0 1) 0 (2 ∷ [])
      ∷ element (codes "T") Transaction 1 (3 ∷ 4 ∷ [])
      ∷ element (codes "A") (Script a_replies no_more) 2 []
      ∷ element (codes "B") (Script d_replies no_more) 2 []
      ∷ [];
}

whole_scripts : Scripts
whole_scripts = record { replies = [] ∷ [] ∷ [] ∷ a_replies ∷ d_replies ∷ []; clock = 0; places = 0 ∷ 0 ∷ 0 ∷ 0 ∷ 0 ∷ [] }

a_transaction_sums_its_samples : (over_value script_form (events whole 0 options) whole_scripts).events
    ≡ sample 0 5 1 200 (codes "OK") true 0
    ∷ sample 5 7 2 500 (codes "Bad") false 0
    ∷ Sampled ByTransaction (record {
      stamp = 0;
      elapsed = 12;
      label = 0;
      code = 0;
      message = codes "Number of samples in transaction : 2, number of failing samples : 1";
      ok = false;
      failure = [];
      bytes = 0;
      listeners = 0;
    })
    ∷ Ended Completed
    ∷ []
unfolding over_value events digits pause_of threads_in meaning rounds exchange pipeline package_of applying_by hanging_by line heard labels_of after_pieces referred after_texts whole whole_scripts options sample element reply a_replies d_replies
a_transaction_sums_its_samples = refl
