-- The plan of a size: a group of that many loops, each over one sampler.
use Rattle.std.specs.Prelude.{ℕ, ◌+◌, ◌*◌, ◌%◌, ◌==◌, false, List, [], ◌∷◌, ◌++◌, map, codes, decimal, if◌then◌else◌}
use Rattle.std.specs.List.{range_with_len, flat_map}
use Rattle.template_text.specs.Pieces.{no_more, text}
use Rattle.jm_base.specs.declared.types.ScriptReply.{ScriptReply}
use Rattle.element_tree.specs.declared.kinds.Element.{Element}
use Rattle.element_tree.specs.declared.kinds.Kind.TheVariants.{TestPlan, ThreadGroup, Loop, Script}
use Rattle.element_tree.specs.declared.kinds.Loops.TheVariants.{Times}
use Rattle.element_props.specs.declared.choices.OnError.TheVariants.{Continue}
use Rattle.element_tree.specs.Tree.{Tree}

-- the numbers below n: 0, 1, and on
abbrev pub numbers_below : ℕ → List ℕ
numbers_below n = range_with_len 0 n

-- The test plan is element 0 and the group is element 1. After them come loop and sampler by turns.
abbrev pub loop_number : ℕ → ℕ
loop_number i = 2 * i + 2

abbrev pub sampler_number : ℕ → ℕ
sampler_number i = 2 * i + 3

abbrev pub loop_name : ℕ → List ℕ
loop_name i = codes "L" ++ decimal i

-- one of sixteen names
abbrev pub sampler_name : ℕ → List ℕ
sampler_name i = codes "S" ++ decimal (i % 16)

-- each fifth reply is a failure
abbrev pub code_of : ℕ → ℕ
code_of i = if i % 5 == 4 then 500 else 200

-- one reply, with a code and a time
abbrev pub reply_of : ℕ → ℕ → ScriptReply
reply_of code ms = record { code = code; message = codes "OK"; headers = []; body = []; ms = ms; null = false; fault = false; echo = false }

abbrev pub reply : ℕ → ScriptReply
reply i = reply_of (code_of i) (i % 10)

abbrev pub test_plan : Element
test_plan = record { name = codes "TestPlan"; kind = TestPlan 1; parent = 0; children = 1 ∷ [] }

-- one thread, one round, no ramp-up
abbrev pub thread_group : ℕ → Element
thread_group size = record { name = codes "TG"; kind = ThreadGroup (Times 1) Continue 0 1; parent = 0; children = map loop_number (numbers_below size) }

-- the loop of number i, and the sampler in it
abbrev pub loop_of : ℕ → Element
loop_of i = record { name = loop_name i; kind = Loop (text (decimal (i % 7 + 1)) no_more); parent = 1; children = sampler_number i ∷ [] }

abbrev pub sampler_of : ℕ → Element
sampler_of i = record { name = sampler_name i; kind = Script (reply i ∷ []) no_more; parent = loop_number i; children = [] }

abbrev pub pair : ℕ → List Element
pair i = loop_of i ∷ sampler_of i ∷ []

unfoldable pub generated : ℕ → Tree
generated size = record { version = 1; elements = test_plan ∷ thread_group size ∷ flat_map pair (numbers_below size) }

-- ---- spelled out

-- the plan with one loop
abbrev pub plan_of_one : Tree
plan_of_one = record {
  version = 1;
  elements =
      record { name = codes "TestPlan"; kind = TestPlan 1; parent = 0; children = 1 ∷ [] }
      ∷ record { name = codes "TG"; kind = ThreadGroup (Times 1) Continue 0 1; parent = 0; children = 2 ∷ [] }
      ∷ record { name = codes "L0"; kind = Loop (text (codes "1") no_more); parent = 1; children = 3 ∷ [] }
      ∷ record { name = codes "S0"; kind = Script (reply_of 200 0 ∷ []) no_more; parent = 2; children = [] }
      ∷ [];
}

-- the twentieth loop and its sampler
abbrev pub twentieth : List Element
twentieth =
    record { name = codes "L19"; kind = Loop (text (codes "6") no_more); parent = 1; children = 41 ∷ [] }
    ∷ record { name = codes "S3"; kind = Script (reply_of 500 9 ∷ []) no_more; parent = 40; children = [] }
    ∷ []
