-- What each element is read as.
use Rattle.std.proofs.Common.{◌≡◌, ℕ, true, false, List, [], ◌∷◌, length, Some, refl, nat_lt, nat_le, codes, decimal}
use Rattle.serde_json.specs.Data.{unsigned, number, array, item, no_items, Members, no_members}
use Rattle.plan_json.specs.Place.{Place}
use Rattle.plan_json.specs.Shape.{Raws, no_raws}
use Rattle.template_text.specs.Pieces.{text, no_more}
use Rattle.template_text.specs.Scan.{reading, pieces_from}
use Rattle.element_props.specs.FormRows.{template, replies}
use Rattle.element_props.specs.Forms.{given}
use Rattle.element_props.specs.Props.{prop_at, property, properties, own_properties}
use Rattle.element_props.specs.Reads.{over}
use Rattle.element_props.specs.declared.prop.Prop.TheVariants.{Template, Replies}
use Rattle.element_tree.specs.declared.kinds.Kind.TheVariants as kinds
use Rattle.element_tree.specs.declared.kinds.Loops.TheVariants.{Times}
use Rattle.element_props.specs.declared.choices.OnError.TheVariants.{Continue}
use Rattle.element_tree.specs.declared.types.ElementType.TheVariants as types
use Rattle.element_tree.specs.declared.types.Class.TheVariants as classes
use Rattle.element_tree.specs.Kinds.{kind_of}
use Rattle.element_tree.specs.Walk.{Spot, own, root_spot}
use Rattle.plan_maker.specs.Generated.{reply_of}
use Rattle.plan_maker.specs.Raws.{reply_with, replies_member, loops_member}

abbrev pub group_spot : Spot
group_spot = record { above = Some classes.Root; depth = 2; inside = false; parent = 0; places = 0 ∷ []; version = 1 }

abbrev pub loop_spot : List ℕ → Spot
loop_spot places = record { above = Some classes.Group; depth = 3; inside = false; parent = 1; places = places; version = 1 }

abbrev pub sampler_spot : ℕ → List ℕ → Spot
sampler_spot parent places = record { above = Some classes.Controller; depth = 4; inside = false; parent = parent; places = places; version = 1 }

pub root_own : (cs : Raws) → own (root_spot 1) 0 (codes "TestPlan") (codes "TestPlan") true no_members cs ≡ over (types.TestPlan, kinds.TestPlan 1)
unfolding own own_properties properties property kind_of
root_own cs = refl

pub group_own : (cs : Raws) → own group_spot 1 (codes "ThreadGroup") (codes "TG") true no_members cs ≡ over (types.ThreadGroup, kinds.ThreadGroup (Times 1) Continue 0 1)
unfolding own own_properties properties property kind_of
group_own cs = refl

pub loops_given : (ms : Members) (place : Place) (k : ℕ) → reading (decimal k) ≡ text (decimal k) no_more → given template ms place (number (unsigned k)) ≡ over (Template (text (decimal k) no_more))
unfolding given
loops_given ms place k h = rw h refl

pub loop_own : (places : List ℕ) (n k : ℕ) (name : List ℕ) (cs : Raws) → nat_le 4096 n ≡ false → nat_lt 256 (length name) ≡ false → reading (decimal k) ≡ text (decimal k) no_more
    → own (loop_spot places) n (codes "Loop") name true (loops_member k) cs ≡ over (types.Loop, kinds.Loop (text (decimal k) no_more))
unfolding own own_properties properties property kind_of
loop_own places n k name cs few short h = rw (few, short, loops_given (loops_member k) (prop_at places (codes "loops")) k h) refl

pub replies_given : (ms : Members) (place : Place) (code time : ℕ) → nat_le code 999 ≡ true → nat_le time 4294967295 ≡ true
    → given replies ms place (array (item (reply_with code time) no_items)) ≡ over (Replies (reply_of code time ∷ []))
unfolding given
replies_given ms place code time c t = rw (c, t) refl

pub sampler_own : (parent n code time : ℕ) (places name : List ℕ) → nat_le 4096 n ≡ false → nat_lt 256 (length name) ≡ false → nat_le code 999 ≡ true → nat_le time 4294967295 ≡ true
    → own (sampler_spot parent places) n (codes "Script") name true (replies_member (reply_with code time)) no_raws ≡ over (types.Script, kinds.Script (reply_of code time ∷ []) no_more)
unfolding own own_properties properties property kind_of pieces_from
sampler_own parent n code time places name few short c t =
    rw (few, short, replies_given (replies_member (reply_with code time)) (prop_at places (codes "replies")) code time c t) refl
