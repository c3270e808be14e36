-- The plan of a size as a tree of JSON, before it is built.
use Rattle.std.specs.Prelude.{ℕ, ◌+◌, ◌%◌, true, map, codes}
use Rattle.serde_json.specs.Data.{Data, unsigned, number, array, object, item, no_items, Members, member, no_members}
use Rattle.plan_json.specs.Shape.{Raw, raw, no_raws, raw_then}
use Rattle.plan_json.specs.TreeSeen.{raws_of}
use Rattle.plan_maker.specs.Generated.{numbers_below, loop_name, sampler_name, code_of}

abbrev pub reply_with : ℕ → ℕ → Data
reply_with code ms = object (member (codes "code") (number (unsigned code)) (member (codes "ms") (number (unsigned ms)) no_members))

abbrev pub reply_data : ℕ → Data
reply_data i = reply_with (code_of i) (i % 10)

abbrev pub replies_member : Data → Members
replies_member reply = member (codes "replies") (array (item reply no_items)) no_members

abbrev pub replies_data : ℕ → Data
replies_data i = object (replies_member (reply_data i))

abbrev pub loops_member : ℕ → Members
loops_member n = member (codes "loops") (number (unsigned n)) no_members

abbrev pub loops_data : ℕ → Data
loops_data i = object (loops_member (i % 7 + 1))

abbrev pub sampler_raw : ℕ → Raw
sampler_raw i = raw (codes "Script") (sampler_name i) true (replies_member (reply_data i)) no_raws

abbrev pub loop_raw : ℕ → Raw
loop_raw i = raw (codes "Loop") (loop_name i) true (loops_member (i % 7 + 1)) (raw_then (sampler_raw i) no_raws)

abbrev pub group_raw : ℕ → Raw
group_raw size = raw (codes "ThreadGroup") (codes "TG") true no_members (raws_of (map loop_raw (numbers_below size)))

abbrev pub plan_raw : ℕ → Raw
plan_raw size = raw (codes "TestPlan") (codes "TestPlan") true no_members (raw_then (group_raw size) no_raws)
