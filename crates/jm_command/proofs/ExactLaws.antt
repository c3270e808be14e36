-- With no fault the words and the bytes alone decide the status.
use Rattle.std.proofs.Common.{◌≡◌, ℕ, ◌+◌, ◌≤◌, Bool, true, false, List, length, Option, Some, None, refl, sym, ap, ◌∙◌, subst, inl, inr, arith}
use Rattle.std.specs.Prelude.{◌⊎◌, Result, Ok, Err, nat_le, if◌then◌else◌}
use Rattle.std.proofs.lemmas.Bool.Decides.{nat_tests}
use Rattle.jm_base.specs.FaultCounts.{Rose}
use Rattle.edge_io.specs.Edges.{TookAll, TookCount}
use Rattle.plan_json.specs.Shape.{Raw, reading_of}
use Rattle.plan_json.specs.declared.error.TreeError.{TreeError}
use Rattle.plan_json.specs.Place.{Place}
use Rattle.element_props.specs.declared.error.BuildError.{BuildError}
use Rattle.element_props.specs.declared.error.BuildError.TheVariants as errors
use Rattle.element_props.specs.declared.error.PatternFault.TheVariants.{Reference, Syntax, Size}
use Rattle.element_props.specs.Answers.{is_of_maker}
use Rattle.element_props.specs.Patterns.{Asked}
use Rattle.element_props.specs.Reads.{judged, Stops}
use Rattle.element_props.proofs.OwnLaws.{goes_judged, stops_judged, stops_size}
use Rattle.element_tree.proofs.RefusalLaws.{own_reading}
use Rattle.element_tree.specs.Tree.{Tree}
use Rattle.element_tree.specs.Walk.{reading}
use Rattle.command_words.specs.declared.command.Command.{Command}
use Rattle.command_words.specs.declared.command.Command.TheVariants.{Check, Make, Solo, Weave, Run}
use Rattle.jm_command.specs.declared.refusal.Refusal.{Refusal}
use Rattle.jm_command.specs.declared.refusal.Refusal.TheVariants as refusals
use Rattle.jm_command.specs.declared.status.Status.{Status}
use Rattle.jm_command.specs.declared.status.Status.TheVariants.{Done, Usage, Refused, ReadFault, WriteFault, Memory}
use Rattle.jm_command.specs.Refusals.{ReadsPlan, IsAccepted, IsPlanOf, IsRefused, IsUnfit}
use Rattle.jm_command.specs.Command.{plan_limit, Edges, Accepts, HasPlan, Refuses, Says, NoRise, status_of_fault, status_of_plan, status_of_outcome, status_of_shape, status_of_bytes, status_for, number_of}

-- a refusal is the plan's, or the maker of patterns finds one too large
by_plan_or_size : (e : BuildError) → (is_of_maker e ≡ false) ⊎ ((place : Place) × (e ≡ errors.BadPattern place Size))
by_plan_or_size (errors.BadPattern place Size) = inr (place, refl)
by_plan_or_size (errors.BadPattern place Syntax) = inl refl
by_plan_or_size (errors.BadPattern place Reference) = inl refl
by_plan_or_size (errors.UnknownType place) = inl refl
by_plan_or_size (errors.MissingProp place) = inl refl
by_plan_or_size (errors.BadProp place) = inl refl
by_plan_or_size (errors.TooMany place what) = inl refl
by_plan_or_size (errors.TooDeep place) = inl refl
by_plan_or_size (errors.WrongPlace place) = inl refl
by_plan_or_size (errors.BadCond place n) = inl refl
by_plan_or_size (errors.NoReplies place) = inl refl
by_plan_or_size errors.NoThread = inl refl
by_plan_or_size errors.NoMemory = inl refl

-- where the maker found no pattern too large, a refusal is the first of the tree
stops_with : (before after : Asked) (tree : Raw) (e : BuildError) → (Rose before.oversize after.oversize → ⊥) → Stops before (reading tree) e after → judged (reading tree) ≡ Err e
stops_with before after tree e calm s = elim (by_plan_or_size e) [
  | inl by ↦ stops_judged by s
  | inr of ↦ let P : BuildError → Type 0 = λ x. Stops before (reading tree) x after in absurd (calm (stops_size of.0 (own_reading tree) (subst P of.1 s)))
]

abbrev status_within : Bool → Command → List ℕ → ℕ
status_within b command bytes = if b then status_of_shape command (reading_of bytes) else 3

within_is : (n : ℕ) → n ≤ plan_limit → nat_le n plan_limit ≡ true
within_is n h = grind (arith, nat_tests)

past_is : (n : ℕ) → plan_limit + 1 ≤ n → nat_le n plan_limit ≡ false
past_is n h = grind (arith, nat_tests)

module _ (command : Command) (bytes : List ℕ) where
  at_shape : length bytes ≤ plan_limit → (r : Result Raw TreeError) → reading_of bytes ≡ r → status_of_bytes command bytes ≡ status_of_shape command r
  at_shape within r is = ap (λ b. status_within b command bytes) (within_is (length bytes) within) ∙ ap (status_of_shape command) is

  at_plan : length bytes ≤ plan_limit → (before after : Asked) (tree : Raw) (plan : Tree) → IsPlanOf bytes before after tree plan
      → status_of_bytes command bytes ≡ status_of_plan command tree plan
  at_plan within before after tree plan is = at_shape within (Ok tree) is.shape ∙ ap (status_of_outcome command tree) (goes_judged is.built)

module _ (bytes : List ℕ) (within : length bytes ≤ plan_limit) (before after : Asked) (calm : Rose before.oversize after.oversize → ⊥) where
  accepted_status : (command : Command) (plan : Tree) → IsAccepted command bytes before after plan → status_of_bytes command bytes ≡ 0
  accepted_status command plan is = at_plan command bytes within before after is.tree plan is.is_plan ∙ ap status_of_fault is.fit

  unfit_status : (command : Command) (e : BuildError) → IsUnfit command bytes before after e → status_of_bytes command bytes ≡ 3
  unfit_status command e is = at_plan command bytes within before after is.tree is.plan is.is_plan ∙ ap status_of_fault is.unfit

  refused_status : (command : Command) (refusal : Refusal) → IsRefused command bytes before after refusal → status_of_bytes command bytes ≡ 3
  refused_status command refusals.TooLong is = absurd is
  refused_status command (refusals.Shape e) is = at_shape command bytes within (Err e) is.0
  refused_status command (refusals.Build e) is = at_shape command bytes within (Ok is.0) is.1
      ∙ ap (status_of_outcome command is.0) (stops_with before after is.0 e calm is.2)
  refused_status command (refusals.Unfit e) is = unfit_status command e is

-- a command that reads a plan has the status of what it reads
status_read : (command : Command) (bytes : List ℕ) → ReadsPlan command → status_for (Some command) bytes ≡ status_of_bytes command bytes
status_read Check bytes reads = refl
status_read (Make m) bytes reads = absurd reads
status_read (Run r) bytes reads = refl
status_read (Solo s) bytes reads = refl
status_read (Weave w) bytes reads = refl

took_all : (left left' : Option (List ℕ)) (bytes took : List ℕ) → left ≡ Some bytes → TookAll left left' took → took ≡ bytes
took_all left left' bytes took is h = sym (rw is at h).0

took_more : (left left' : Option (List ℕ)) (bytes : List ℕ) → left ≡ Some bytes → TookCount left left' (plan_limit + 1) → plan_limit + 1 ≤ length bytes
took_more left left' bytes is h = (rw is at h).0

module _ (old new : Edges) (bytes : List ℕ) (told : old.left ≡ Some bytes) (calm : NoRise old new) where
  accepts_status : (command : Command) (plan : Tree) → Accepts command old new plan → status_of_bytes command bytes ≡ 0
  accepts_status command plan a =
      let same : a.bytes ≡ bytes = took_all old.left new.left bytes a.bytes told a.read in
      accepted_status bytes (rw same at a.within) old.asked new.asked calm.patterns command plan (rw same at a.accepted)

  pub plan_status : (command : Command) (plan : Tree) → HasPlan command old new plan → status_for (Some command) bytes ≡ 0
  plan_status Check plan has = accepts_status Check plan has
  plan_status (Make m) plan has = refl
  plan_status (Run r) plan has = accepts_status (Run r) plan has
  plan_status (Solo s) plan has = accepts_status (Solo s) plan has
  plan_status (Weave w) plan has = accepts_status (Weave w) plan has

  pub refuses_status : (command : Command) (refusal : Refusal) → Refuses command old new refusal → status_for (Some command) bytes ≡ 3
  refuses_status command refusal r = status_read command bytes r.0 ∙ elim r.1 [
    | inl long ↦ ap (λ b. status_within b command bytes) (past_is (length bytes) (took_more old.left new.left bytes told long.long))
    | inr a ↦
        let same : a.bytes ≡ bytes = took_all old.left new.left bytes a.bytes told a.read in
        refused_status bytes (rw same at a.within) old.asked new.asked calm.patterns command refusal (rw same at a.refused)
  ]

  pub exactly : (words : Option Command) (status : Status) → Says words old new status → (number_of status ≡ status_for words bytes) ⊎ (number_of status ≡ 7)
  exactly words Done s = inl (sym (rw s.1 (plan_status s.0 s.2.plan s.2.has_plan)))
  exactly words Usage s = inl (rw s.0 refl)
  exactly words Refused s = inl (sym (rw s.1 (refuses_status s.0 s.2.refusal s.2.refuses)))
  exactly words ReadFault s = absurd (calm.source s.2.rose)
  exactly None WriteFault s = absurd (calm.reports s.unwritten.rose)
  exactly (Some command) WriteFault s = elim s [
    | inl r ↦ absurd (calm.reports r.2.rose)
    | inr t ↦ elim t [ inl r ↦ absurd (calm.results r.rose) | inr r ↦ absurd (calm.reports r.rose) ]
  ]
  exactly words Memory s = inr refl
