-- What an ended thread's standing says over each form of an outside, and how each step goes on from the one before.
use Rattle.std.proofs.Common.{◌≡◌, ◌≤◌, ℕ, zero, suc, true, ap₂, append_assoc, List, [], ◌∷◌, ◌++◌, Option, Some, None, refl, sym, ap, ◌∙◌, subst, inl, inr}
use Rattle.std.specs.Prelude.{map, All, MatchOption, IfSome, IsSome}
use Rattle.std.specs.Option.{option_map}
use Rattle.std.proofs.lemmas.List.{append-nil, map-append}
use Rattle.std.proofs.lemmas.List.Elements.{All-nil, All-cons, All-head, All-tail, All-push}
use Rattle.jm_base.specs.declared.types.Entry.{Entry}
use Rattle.jm_base.specs.declared.types.Sample.{Sample}
use Rattle.jm_base.specs.declared.types.End.{End}
use Rattle.jm_base.specs.declared.types.End.TheVariants.{Stopped, NoMemory}
use Rattle.jm_base.specs.declared.types.Heard.{Heard}
use Rattle.jm_base.specs.Run.{Run, over, give, Event, Waited, Sampled, Nothing, Entered, Left, Ended, over_value}
use Rattle.jm_base.specs.Outside.{Account, Goes, Path, Scripts, Replays, list_form, script_form}
use Rattle.jm_base.proofs.RunLaws.{path-value, list-replays, goes-append, goes-give, goes-nothing}
use Rattle.element_tree.specs.Tree.{Tree}
use Rattle.jm_meaning.specs.declared.item.Item.{Item}
use Rattle.jm_meaning.specs.declared.item.Item.TheVariants.{Sampled as SampledItem, Ended as EndedItem}
use Rattle.jm_meaning.specs.Beginning.{Options}
use Rattle.jm_meaning.specs.Meaning.{events}
use Rattle.jm_meaning.specs.TraceShown.{shown}
use Rattle.thread_machine.specs.declared.trace.TraceItem.{TraceItem}
use Rattle.thread_machine.specs.declared.trace.TraceItem.TheVariants.{Paused as TracedPause, Sampled as TracedSample, Null as TracedNull, Entered as TracedEntered, Left as TracedLeft, Ended as TracedEnd}
use Rattle.thread_machine.specs.Bare.{bare, bare_item}
use Rattle.thread_machine.specs.Standing.{Standing, rest, IsAtStart, owed_items, entering_items, owed_to, HeardForEvents, Stands}
use Rattle.thread_machine.specs.SectionOrder.{open_from, left_items, left_traced, IsNoEnd, IsBareNoEnd}
use Rattle.thread_machine.specs.declared.step.Step.{Step}
use Rattle.thread_machine.specs.declared.step.Step.TheVariants.{Sampled as StepSampled, Null as StepNull, Enter as StepEnter, Leave as StepLeave, Ended as StepEnded}
use Rattle.thread_machine.specs.SoFar.{StandsAfter, ShowsAPrefix}
use Rattle.thread_machine.specs.Stepped.{trace_paused, events_paused, events_waited, HasPaused, Begins, Gives, Steps, GivesSample, GivesNone, EntersSection, LeavesSection, IsOver, IsCut, Ends}
use Rattle.thread_machine.specs.Follows.{FollowsWhole, Follows, HasRun, IsEndedBy, UsesAll, EndsAfter, FollowsStopped, FollowsCut, IsScriptedTo, WasStopped, WasCut}

-- From start to now the run has given what the items show, and is over.
record Ran (start now : Account) (run : Run (Unit {0})) (items : List Item) : Type 0 where
  all_events : List Event
  goes : Goes start run all_events (over tt) now
  shows : map shown all_events ≡ items

module _ (start now : Account) (run : Run (Unit {0})) (items : List Item) (ran : Ran start now run items) where
  shown_all : map shown (ran.all_events ++ []) ≡ items
  shown_all = ap (map shown) (append-nil ran.all_events) ∙ ran.shows

  given_list : over_value list_form run ran.goes.heard ≡ record { events = ran.all_events ++ []; value = []; came_to = Some tt }
  unfolding over_value
  given_list =
      let e : over_value list_form run (ran.goes.heard ++ []) ≡ record { events = ran.all_events ++ []; value = []; came_to = Some tt } =
      path-value list_form ran.goes.path _ _ (list-replays ran.goes.heard []) in
      ap (over_value list_form run) (sym (append-nil ran.goes.heard)) ∙ e

  given_scripts : (v : Scripts) → start.value ≡ Some v → (w : Scripts) × (over_value script_form run v ≡ record { events = ran.all_events ++ []; value = w; came_to = Some tt })
  unfolding over_value
  given_scripts v is =
      let m : MatchOption start.value (now.value ≡ None) (λ v. (w : Scripts) × (now.value ≡ Some w) × Replays script_form v ran.goes.heard w) = ran.goes.hears.value in
      let m' : MatchOption (Some v) (now.value ≡ None) (λ v. (w : Scripts) × (now.value ≡ Some w) × Replays script_form v ran.goes.heard w) = rw is at m in
      (m'.0, path-value script_form ran.goes.path v m'.0 m'.2)

follows : (start now : Account) (plan : Tree) (thread : ℕ) (options : Options) (trace : List TraceItem) (end : End) → IsEndedBy trace end
    → Ran start now (events plan thread options) (bare trace) → Follows start now plan thread options trace end
follows start now plan thread options trace end last ran = record {
  last = last;
  told = λ nothing. (ran.goes.heard, told_all nothing, over_list);
  scripted = λ v is. record {
    items = ap (λ g. map shown g.events) (given_scripts start now _ _ ran v is).1 ∙ shown_all start now _ _ ran;
    comes_to_its_end = ap (λ g. g.came_to) (given_scripts start now _ _ ran v is).1;
  };
} where
  told_all : start.told ≡ Some [] → now.told ≡ Some ran.goes.heard
  told_all nothing = ran.goes.hears.told ∙ ap (option_map (λ t. t ++ ran.goes.heard)) nothing

  over_list : FollowsWhole plan thread options ran.goes.heard trace
  over_list = record {
    items = ap (λ g. map shown g.events) (given_list start now _ _ ran) ∙ shown_all start now _ _ ran;
    used = ap (λ g. g.value) (given_list start now _ _ ran);
    comes_to_its_end = ap (λ g. g.came_to) (given_list start now _ _ ran);
  }

-- the run of a thread by its plan and its number
same_thread : (start now : Account) (options : Options) (w new : Standing) (given : List Event) (left : Run (Unit {0})) → new.plan ≡ w.plan → new.thread ≡ w.thread
    → Goes start (events w.plan w.thread options) given left now → Goes start (events new.plan new.thread options) given left now
same_thread start now options w new given left plan thread g = rw (plan, thread) g

nothing_given : (a : Account) (plan : Tree) (thread : ℕ) (options : Options) (w : Standing) (left : Run (Unit {0})) → w.plan ≡ plan → w.thread ≡ thread → left ≡ events plan thread options
    → Goes a (events w.plan w.thread options) [] left a
nothing_given a plan thread options w left plan_is thread_is is = rw (plan_is, thread_is, is) (goes-nothing a (events plan thread options))

-- before the first step nothing was given
pub stands_first : (a : Account) (plan : Tree) (thread : ℕ) (options : Options) (w : Standing) → IsAtStart plan thread options w → Stands a a options w
stands_first a plan thread options w is = record {
  so_far = [];
  goes = nothing_given a plan thread options w (rest w) is.plan_is is.thread_is is.left;
  heard = inl (refl, is.left ∙ ap (λ t. events plan t options) (sym is.thread_is) ∙ ap (λ p. events p w.thread options) (sym is.plan_is), refl);
  shows = rw (is.no_items, is.owes_nothing, is.enters_none) refl;
}

shown-append : (xs ys : List Event) → map shown (xs ++ ys) ≡ map shown xs ++ map shown ys
shown-append xs ys = map-append shown xs ys

bare-append : (xs ys : List TraceItem) → bare (xs ++ ys) ≡ bare xs ++ bare ys
bare-append xs ys = map-append _ xs ys

-- an event is given after what was given before, and nothing is heard after it
heard_more : (start now later : Account) (options : Options) (w new : Standing) (so_far waited : List Event) (e : Event) → new.plan ≡ w.plan → new.thread ≡ w.thread → Goes start (events w.plan w.thread options) so_far (rest w) now
    → Goes now (rest w) waited (give e (rest new)) later → HeardForEvents start (events new.plan new.thread options) ((so_far ++ waited) ++ e ∷ []) (rest new) later
heard_more start now later options w new so_far waited e plan thread goes heard =
    inr (so_far ++ waited, e, refl, same_thread start later options w new (so_far ++ waited) (give e (rest new)) plan thread (goes-append goes heard))

-- a pause and an event, in one list or in two
paused_events : (xs : List Event) (ms : ℕ) (e : Event) → (xs ++ events_waited ms) ++ e ∷ [] ≡ xs ++ events_paused ms (e ∷ [])
paused_events xs zero e = ap (λ l. l ++ e ∷ []) (append-nil xs)
paused_events xs (suc ms) e = append_assoc xs (Waited (suc ms) ∷ []) (e ∷ [])

owed_both : (w : Standing) (xs : List Item) → w.owed ≡ None → w.entering ≡ None → xs ++ owed_to w ≡ xs
owed_both w xs owed entering = ap (λ o. xs ++ (owed_items o ++ entering_items w.entering)) owed ∙ ap (λ o. xs ++ (owed_items None ++ entering_items o)) entering ∙ append-nil xs

module _ (start now later : Account) (options : Options) (w new : Standing) (stands : Stands start now options w) (none : w.owed ≡ None) (free : w.entering ≡ None) where
  shows_so_far : map shown stands.so_far ≡ bare w.trace
  shows_so_far = stands.shows ∙ owed_both w (bare w.trace) none free

  paused_shown : (ms : ℕ) (e : Event) → map shown (events_paused ms (e ∷ [])) ≡ bare (trace_paused [] ms) ++ shown e ∷ []
  paused_shown zero e = refl
  paused_shown (suc ms) e = refl

  paused_appended : (t : List TraceItem) (ms : ℕ) → bare (trace_paused t ms) ≡ bare t ++ bare (trace_paused [] ms)
  paused_appended t zero = sym (append-nil (bare t))
  paused_appended t (suc ms) = bare-append t (TracedPause (suc ms) ∷ [])

  -- what a pause and an event show after what was shown before
  shown_paused : (ms : ℕ) (e : Event) → map shown (stands.so_far ++ events_paused ms (e ∷ [])) ≡ bare (trace_paused w.trace ms) ++ shown e ∷ []
  shown_paused ms e =
      shown-append stands.so_far (events_paused ms (e ∷ []))
      ∙ ap₂ ◌++◌ shows_so_far (paused_shown ms e)
      ∙ sym (append_assoc (bare w.trace) (bare (trace_paused [] ms)) (shown e ∷ []))
      ∙ ap (λ xs. xs ++ shown e ∷ []) (sym (paused_appended w.trace ms))

  -- what one event shows
  shown_one : (e : Event) → map shown (stands.so_far ++ e ∷ []) ≡ bare w.trace ++ shown e ∷ []
  shown_one e = shown-append stands.so_far (e ∷ []) ∙ ap (λ xs. xs ++ shown e ∷ []) shows_so_far

  -- one event, after which nothing was heard
  heard_one : (e : Event) → new.plan ≡ w.plan → new.thread ≡ w.thread → Goes now (rest w) [] (give e (rest new)) later → HeardForEvents start (events new.plan new.thread options) (stands.so_far ++ e ∷ []) (rest new) later
  heard_one e plan thread heard =
      subst (λ l. HeardForEvents start (events new.plan new.thread options) (l ++ e ∷ []) (rest new) later) (append-nil stands.so_far)
      (heard_more start now later options w new stands.so_far [] e plan thread stands.goes heard)

  goes_one : (e : Event) → new.plan ≡ w.plan → new.thread ≡ w.thread → Goes now (rest w) [] (give e (rest new)) later → Goes start (events new.plan new.thread options) (stands.so_far ++ e ∷ []) (rest new) later
  goes_one e plan thread heard = same_thread start later options w new _ (rest new) plan thread (goes-append stands.goes (goes-append heard (goes-give later e (rest new))))

  heard_paused : (ms : ℕ) (e : Event) → new.plan ≡ w.plan → new.thread ≡ w.thread → Goes now (rest w) (events_waited ms) (give e (rest new)) later
      → HeardForEvents start (events new.plan new.thread options) (stands.so_far ++ events_paused ms (e ∷ [])) (rest new) later
  heard_paused ms e plan thread heard =
      subst (λ l. HeardForEvents start (events new.plan new.thread options) l (rest new) later) (paused_events stands.so_far ms e)
      (heard_more start now later options w new stands.so_far (events_waited ms) e plan thread stands.goes heard)

  -- a sample was given and is owed
  pub stands_sample : (entry : Entry) → GivesSample now later (rest w) w new entry → Stands start later options new
  stands_sample entry g =
      let plan : new.plan ≡ w.plan = ap (λ s. s.plan) g.new_is in
      let thread : new.thread ≡ w.thread = ap (λ s. s.thread) g.new_is in
      record {
        so_far = stands.so_far ++ events_paused g.paused (Sampled g.giver g.sample ∷ []);
        goes = same_thread start later options w new _ (rest new) plan thread (goes-append stands.goes g.goes);
        heard = heard_paused g.paused (Sampled g.giver g.sample) plan thread g.heard;
        shows = shown_paused g.paused (Sampled g.giver g.sample)
            ∙ sym (ap (λ s. bare s.trace ++ owed_to s) g.new_is ∙ ap (λ o. bare (trace_paused w.trace g.paused) ++ (owed_items (Some g.sample) ++ entering_items o)) free);
      }

  -- none was given
  pub stands_none : GivesNone now later (rest w) w new → Stands start later options new
  stands_none g =
      let plan : new.plan ≡ w.plan = ap (λ s. s.plan) g.new_is in
      let thread : new.thread ≡ w.thread = ap (λ s. s.thread) g.new_is in
      record {
        so_far = stands.so_far ++ events_paused g.paused (Nothing g.number ∷ []);
        goes = same_thread start later options w new _ (rest new) plan thread (goes-append stands.goes g.goes);
        heard = heard_paused g.paused (Nothing g.number) plan thread g.heard;
        shows = shown_paused g.paused (Nothing g.number)
            ∙ sym (owed_both new (bare new.trace) (ap (λ s. s.owed) g.new_is ∙ none) (ap (λ s. s.entering) g.new_is ∙ free)
            ∙ ap (λ s. bare s.trace) g.new_is ∙ bare-append (trace_paused w.trace g.paused) (TracedNull g.number ∷ []));
      }

  -- that a section is entered was given and is owed
  pub stands_enters : (lock : ℕ) → EntersSection now later (rest w) w new lock → Stands start later options new
  stands_enters lock g =
      let plan : new.plan ≡ w.plan = ap (λ s. s.plan) g.new_is in
      let thread : new.thread ≡ w.thread = ap (λ s. s.thread) g.new_is in
      record {
        so_far = stands.so_far ++ Entered lock ∷ [];
        goes = goes_one (Entered lock) plan thread g.heard;
        heard = heard_one (Entered lock) plan thread g.heard;
        shows = shown_one (Entered lock)
            ∙ sym (ap (λ s. bare s.trace ++ owed_to s) g.new_is ∙ ap (λ o. bare w.trace ++ (owed_items o ++ entering_items (Some lock))) none);
      }

  -- a section was left
  pub stands_left : (lock : ℕ) → LeavesSection now later (rest w) w new lock → Stands start later options new
  stands_left lock g =
      let plan : new.plan ≡ w.plan = ap (λ s. s.plan) g.new_is in
      let thread : new.thread ≡ w.thread = ap (λ s. s.thread) g.new_is in
      record {
        so_far = stands.so_far ++ Left lock ∷ [];
        goes = goes_one (Left lock) plan thread g.heard;
        heard = heard_one (Left lock) plan thread g.heard;
        shows = shown_one (Left lock)
            ∙ sym (owed_both new (bare new.trace) (ap (λ s. s.owed) g.new_is ∙ none) (ap (λ s. s.entering) g.new_is ∙ free) ∙ ap (λ s. bare s.trace) g.new_is ∙ bare-append w.trace (TracedLeft lock ∷ []));
      }

  -- the pause before the first variables
  pub stands_waited : HasPaused now later w new → Stands start later options new
  stands_waited p =
      let plan : new.plan ≡ w.plan = ap (λ s. s.plan) p.new_is in
      let thread : new.thread ≡ w.thread = ap (λ s. s.thread) p.new_is in
      record {
        so_far = stands.so_far ++ Waited w.pause ∷ [];
        goes = goes_one (Waited w.pause) plan thread p.heard;
        heard = heard_one (Waited w.pause) plan thread p.heard;
        shows = shown_one (Waited w.pause)
            ∙ sym (owed_both new (bare new.trace) (ap (λ s. s.owed) p.new_is ∙ none) (ap (λ s. s.entering) p.new_is ∙ free) ∙ ap (λ s. bare s.trace) p.new_is ∙ bare-append w.trace (TracedPause w.pause ∷ []));
      }

-- ---- a thread that has ended, was stopped or cut

bare-left : (o : Option ℕ) (end : End) → bare (left_traced o ++ TracedEnd end ∷ []) ≡ left_items o ++ EndedItem end ∷ []
bare-left None end = refl
bare-left (Some lock) end = refl

no_end_left : (xs : List TraceItem) (o : Option ℕ) → All IsNoEnd xs → All IsNoEnd (xs ++ left_traced o)
no_end_left xs None all = subst (All IsNoEnd) (sym (append-nil xs)) all
no_end_left xs (Some lock) all = All-push IsNoEnd xs (TracedLeft lock) all (tt {0})

no_end_bare : (xs : List TraceItem) → All IsNoEnd xs → All IsBareNoEnd (bare xs)
no_end_bare [] all = All-nil IsBareNoEnd
no_end_bare (x ∷ xs) all = All-cons IsBareNoEnd (bare_item x) (bare xs) (one_bare x (All-head IsNoEnd x xs all)) (no_end_bare xs (All-tail IsNoEnd x xs all)) where
  one_bare : (x : TraceItem) → IsNoEnd x → IsBareNoEnd (bare_item x)
  one_bare (TracedPause ms) h = tt
  one_bare (TracedSample sample interval) h = tt
  one_bare (TracedNull sampler) h = tt
  one_bare (TracedEntered lock place) h = tt
  one_bare (TracedLeft lock) h = tt
  one_bare (TracedEnd end) h = h

-- all that was told is used by the events that were given
uses_told : (start now : Account) (run : Run (Unit {0})) (given : List Event) (left : Run (Unit {0})) → HeardForEvents start run given left now → start.told ≡ Some []
    → (told : List Heard) × (now.told ≡ Some told) × UsesAll run told given left
uses_told start now run given left (inl h) nothing = ([], ap (λ a. a.told) h.2 ∙ nothing, inl (refl, h.0, h.1))
uses_told start now run given left (inr h) nothing =
    (h.3.heard, h.3.hears.told ∙ ap (option_map (λ t. t ++ h.3.heard)) nothing, inr (h.0, h.1, h.2, h.3.path))

-- the events over a list that was used so begin with those that were given
prefix_of : (run : Run (Unit {0})) (told : List Heard) (given : List Event) (left : Run (Unit {0})) → UsesAll run told given left → (over_value list_form run told).events ≡ given ++ (over_value list_form left []).events
unfolding over_value
prefix_of run told given left (inl h) = ap (λ l. (over_value list_form run l).events) h.0 ∙ ap (λ r. (over_value list_form r []).events) (sym h.2) ∙ ap (λ l. l ++ (over_value list_form left []).events) (sym h.1)
prefix_of run told given left (inr h) =
    let e : (over_value list_form run (told ++ [])).events ≡ h.0 ++ (over_value list_form (give h.1 left) []).events = ap (λ g. g.events) (path-value list_form h.3 (told ++ []) [] (list-replays told [])) in
    ap (λ l. (over_value list_form run l).events) (sym (append-nil told)) ∙ e
    ∙ sym (append_assoc h.0 (h.1 ∷ []) (over_value list_form left []).events) ∙ ap (λ l. l ++ (over_value list_form left []).events) (sym h.2)

-- What the trace of a thread that goes on says of ends and of its open section.
pub record HasNoEnd (w : Standing) : Type 0 where
  pub no_end : All IsNoEnd w.trace
  pub held : open_from None (bare w.trace) ≡ w.section

-- The thread came to this end before its run did: its trace is that of a thread that stood, then that the open section was left.
module _ (start now : Account) (options : Options) (w : Standing) (trace : List TraceItem) (end : End) (none : w.owed ≡ None) (free : w.entering ≡ None) (goes_on : HasNoEnd w)
    (is : trace ≡ w.trace ++ (left_traced w.section ++ TracedEnd end ∷ [])) (stands : Stands start now options w) where
  so_shown : map shown stands.so_far ≡ bare w.trace
  so_shown = stands.shows ∙ owed_both w (bare w.trace) none free

  items_are : bare trace ≡ map shown stands.so_far ++ (left_items (open_from None (map shown stands.so_far)) ++ EndedItem end ∷ [])
  items_are =
      ap bare is ∙ bare-append w.trace (left_traced w.section ++ TracedEnd end ∷ []) ∙ ap (λ xs. bare w.trace ++ xs) (bare-left w.section end)
      ∙ ap (λ o. bare w.trace ++ (left_items o ++ EndedItem end ∷ [])) (sym goes_on.held)
      ∙ ap (λ xs. xs ++ (left_items (open_from None xs) ++ EndedItem end ∷ [])) (sym so_shown)

  ended_by : IsEndedBy trace end
  ended_by = (w.trace ++ left_traced w.section, is ∙ sym (append_assoc w.trace (left_traced w.section) (TracedEnd end ∷ [])), no_end_left w.trace w.section goes_on.no_end)

  ends_after : EndsAfter stands.so_far trace end
  ends_after = record { no_end = subst (All IsBareNoEnd) (sym so_shown) (no_end_bare w.trace goes_on.no_end); items = items_are; last = ended_by }

  -- the run has come to this place, on the way to its next event
  module _ (left : Run (Unit {0})) (later : Account) (goes : Goes start (events w.plan w.thread options) stands.so_far left later) where
    scripted_to : (v : Scripts) → start.value ≡ Some v → IsScriptedTo end w.plan w.thread options v trace
    scripted_to v at =
        let m : MatchOption start.value (later.value ≡ None) (λ v. (x : Scripts) × (later.value ≡ Some x) × Replays script_form v goes.heard x) = goes.hears.value in
        let m' : MatchOption (Some v) (later.value ≡ None) (λ v. (x : Scripts) × (later.value ≡ Some x) × Replays script_form v goes.heard x) = rw at at m in
        record {
          given = stands.so_far;
          more = (over_value script_form left m'.0).events;
          prefix = ap (λ g. g.events) (path-value script_form goes.path v m'.0 m'.2);
          ends = ends_after;
        }

module _ (start now : Account) (options : Options) (w : Standing) (trace : List TraceItem) (none : w.owed ≡ None) (free : w.entering ≡ None) (goes_on : HasNoEnd w)
    (is : trace ≡ w.trace ++ (left_traced w.section ++ TracedEnd Stopped ∷ [])) (stands : Stands start now options w) where
  told_so : start.told ≡ Some [] → (told : List Heard) × (now.told ≡ Some told) × FollowsStopped w.plan w.thread options told trace
  told_so nothing =
      let u = uses_told start now (events w.plan w.thread options) stands.so_far (rest w) stands.heard nothing in (
        u.0,
        u.1,
        record {
          given = stands.so_far;
          more = (over_value list_form (rest w) []).events;
          left = rest w;
          prefix = prefix_of (events w.plan w.thread options) u.0 stands.so_far (rest w) u.2;
          used = u.2;
          ends = ends_after start now options w trace Stopped none free goes_on is stands;
        },
      )

  pub was_stopped : WasStopped start now w.plan w.thread options trace
  was_stopped = record {
    last = ended_by start now options w trace Stopped none free goes_on is stands;
    told = told_so;
    scripted = scripted_to start now options w trace Stopped none free goes_on is stands (rest w) now stands.goes;
  }

-- the events over the list that was heard begin with those that were given
heard_prefix : {run left : Run (Unit {0})} {heard : List Heard} {given : List Event} → Path run heard given left → (over_value list_form run heard).events ≡ given ++ (over_value list_form left []).events
unfolding over_value
heard_prefix {run} {left} {heard} {given} path =
    let e : (over_value list_form run (heard ++ [])).events ≡ given ++ (over_value list_form left []).events = ap (λ g. g.events) (path-value list_form path (heard ++ []) [] (list-replays heard [])) in
    ap (λ l. (over_value list_form run l).events) (sym (append-nil heard)) ∙ e

module _ (start now later : Account) (options : Options) (w new : Standing) (none : w.owed ≡ None) (free : w.entering ≡ None) (goes_on : HasNoEnd w) (cut : IsCut now later (rest w) w new) (stands : Stands start now options w) where
  trace_cut : new.trace ≡ w.trace ++ (left_traced w.section ++ TracedEnd NoMemory ∷ [])
  trace_cut = ap (λ s. s.trace) cut.new_is

  gone : Goes start (events w.plan w.thread options) stands.so_far cut.left later
  gone = subst (λ l. Goes start (events w.plan w.thread options) l cut.left later) (append-nil stands.so_far) (goes-append stands.goes cut.goes)

  told_of : start.told ≡ Some [] → (told : List Heard) × (later.told ≡ Some told) × FollowsCut w.plan w.thread options told new.trace
  told_of nothing = (
    gone.heard,
    gone.hears.told ∙ ap (option_map (λ t. t ++ gone.heard)) nothing,
    record {
      given = stands.so_far;
      more = (over_value list_form cut.left []).events;
      left = cut.left;
      prefix = heard_prefix gone.path;
      used = gone.path;
      ends = ends_after start now options w new.trace NoMemory none free goes_on trace_cut stands;
    },
  )

  pub was_cut : WasCut start later w.plan w.thread options new.trace
  was_cut = record {
    last = ended_by start now options w new.trace NoMemory none free goes_on trace_cut stands;
    told = told_of;
    scripted = scripted_to start now options w new.trace NoMemory none free goes_on trace_cut stands cut.left later gone;
  }

module _ (start now later : Account) (options : Options) (w new : Standing) (none : w.owed ≡ None) (free : w.entering ≡ None) (goes_on : HasNoEnd w) (stands : Stands start now options w) where
  ran_over : (end : End) → IsOver now later (rest w) w new end → Follows start later w.plan w.thread options new.trace end
  ran_over end o = follows start later w.plan w.thread options new.trace end (w.trace, ap (λ s. s.trace) o.new_is, goes_on.no_end) (record {
    all_events = stands.so_far ++ Ended end ∷ [];
    goes = goes-append stands.goes o.goes;
    shows = shown_one start now later options w new stands none free (Ended end) ∙ sym (ap (λ s. bare s.trace) o.new_is ∙ bare-append w.trace (TracedEnd end ∷ []));
  })

  -- the thread has ended
  pub has_run : (end : End) → Ends now later (rest w) w new end → HasRun start later w.plan w.thread options new.trace end
  has_run Stopped o = o
  has_run NoMemory cut = was_cut start now later options w new none free goes_on cut stands
  has_run end o = ran_over end o

over_ends : (a b : Account) (run : Run (Unit {0})) (old new : Standing) (end : End) → Ends a b run old new end → new.ended ≡ true
over_ends a b run old new Stopped o = absurd o
over_ends a b run old new end o = ap (λ s. s.ended) o.new_is

-- a thread that says its end has ended
pub over_with : (a b : Account) (old new : Standing) (end : End) → Steps a b old new (StepEnded end) → new.ended ≡ true
over_with a b old new end s = over_ends s.begun b (rest s.between) s.between new end s.gives

-- the sample that was owed is in the trace
pub stands_noted : (start now : Account) (options : Options) (interval : ℕ) (w new : Standing) (sample : Sample) → w.owed ≡ Some sample
    → new ≡ record w { owed = None; trace = w.trace ++ TracedSample sample interval ∷ [] }
    → Stands start now options w → Stands start now options new
stands_noted start now options interval w new sample owed is stands = record {
  so_far = stands.so_far;
  goes = rw is stands.goes;
  heard = rw is stands.heard;
  shows = stands.shows ∙ ap (λ o. bare w.trace ++ (owed_items o ++ entering_items w.entering)) owed
      ∙ sym (append_assoc (bare w.trace) (SampledItem sample ∷ []) (entering_items w.entering))
      ∙ sym (ap (λ s. bare s.trace ++ owed_to s) is ∙ ap (λ xs. xs ++ entering_items w.entering) (bare-append w.trace (TracedSample sample interval ∷ [])));
}

-- and so is that a section was entered
pub stands_entered : (start now : Account) (options : Options) (place : ℕ) (w new : Standing) (lock : ℕ) → w.entering ≡ Some lock → w.owed ≡ None
    → new ≡ record w { entering = None; section = Some lock; trace = w.trace ++ TracedEntered lock place ∷ [] }
    → Stands start now options w → Stands start now options new
stands_entered start now options place w new lock entering owed is stands = record {
  so_far = stands.so_far;
  goes = rw is stands.goes;
  heard = rw is stands.heard;
  shows = stands.shows ∙ ap (λ o. bare w.trace ++ (owed_items w.owed ++ entering_items o)) entering ∙ ap (λ o. bare w.trace ++ (owed_items o ++ entering_items (Some lock))) owed
      ∙ sym (ap (λ s. bare s.trace ++ owed_to s) is ∙ ap (λ o. bare (w.trace ++ TracedEntered lock place ∷ []) ++ (owed_items o ++ entering_items None)) owed
      ∙ append-nil (bare (w.trace ++ TracedEntered lock place ∷ [])) ∙ bare-append w.trace (TracedEntered lock place ∷ []));
}

-- what a sample that is noted leaves as it was
pub record NotedOn (old new : Standing) : Type 0 where
  pub owed : new.owed ≡ None
  pub entering : new.entering ≡ old.entering
  pub section : new.section ≡ old.section
  pub ended : new.ended ≡ old.ended
  pub plan : new.plan ≡ old.plan
  pub thread : new.thread ≡ old.thread

pub noted_on : (interval : ℕ) (old new : Standing) (sample : Sample) → new ≡ record old { owed = None; trace = old.trace ++ TracedSample sample interval ∷ [] } → NotedOn old new
noted_on interval old new sample is = record { owed = ap (λ s. s.owed) is; entering = ap (λ s. s.entering) is; section = ap (λ s. s.section) is; ended = ap (λ s. s.ended) is; plan = ap (λ s. s.plan) is; thread = ap (λ s. s.thread) is }

-- the clause of a noted sample, where the sample is known
pub noted_is : (interval : ℕ) (old new : Standing) (sample : Sample) → old.owed ≡ Some sample
    → IfSome old.owed (λ s. new ≡ record old { owed = None; trace = old.trace ++ TracedSample s interval ∷ [] })
    → new ≡ record old { owed = None; trace = old.trace ++ TracedSample sample interval ∷ [] }
noted_is interval old new sample owed h = rw owed at h

-- until it has ended, what a thread shows is a prefix of its events over what was told
pub shows_a_prefix : ShowsAPrefix
shows_a_prefix start now options w stands nothing =
    let run : Run (Unit {0}) = events w.plan w.thread options in
    let heard = stands.goes.heard in
    let tail : List Event = (over_value list_form (rest w) []).events in
    let e : (over_value list_form run (heard ++ [])).events ≡ stands.so_far ++ tail =
    ap (λ g. g.events) (path-value list_form stands.goes.path (heard ++ []) [] (list-replays heard [])) in
    let e' : (over_value list_form run heard).events ≡ stands.so_far ++ tail = ap (λ l. (over_value list_form run l).events) (sym (append-nil heard)) ∙ e in (
      heard,
      stands.goes.hears.told ∙ ap (option_map (λ t. t ++ heard)) nothing,
      record {
        more = map shown tail;
        items = ap (map shown) e' ∙ map-append shown stands.so_far tail ∙ ap (λ l. l ++ map shown tail) stands.shows;
      },
    )

-- ---- the pause before the first round

-- what the pause leaves as it was
pub record BegunOn (old new : Standing) : Type 0 where
  pub owed : new.owed ≡ old.owed
  pub entering : new.entering ≡ old.entering
  pub section : new.section ≡ old.section
  pub ended : new.ended ≡ old.ended
  pub plan : new.plan ≡ old.plan
  pub thread : new.thread ≡ old.thread
  pub units : new.units ≡ old.units

pub begun_on : (a b : Account) (old new : Standing) → Begins a b old new → BegunOn old new
begun_on a b old new h = elim h [
  | inl p ↦ record { owed = ap (λ s. s.owed) p.new_is; entering = ap (λ s. s.entering) p.new_is; section = ap (λ s. s.section) p.new_is; ended = ap (λ s. s.ended) p.new_is; plan = ap (λ s. s.plan) p.new_is; thread = ap (λ s. s.thread) p.new_is; units = ap (λ s. s.units) p.new_is }
  | inr s ↦ record { owed = ap (λ s. s.owed) s.standing; entering = ap (λ s. s.entering) s.standing; section = ap (λ s. s.section) s.standing; ended = ap (λ s. s.ended) s.standing; plan = ap (λ s. s.plan) s.standing; thread = ap (λ s. s.thread) s.standing; units = ap (λ s. s.units) s.standing }
]

-- what an end leaves as it was
pub record EndedOn (old new : Standing) : Type 0 where
  pub owed : new.owed ≡ old.owed
  pub entering : new.entering ≡ old.entering
  pub plan : new.plan ≡ old.plan
  pub thread : new.thread ≡ old.thread
  pub fewer : new.units ≤ old.units

-- a step leaves the thread its plan and its number
pub record SameThread (old new : Standing) : Type 0 where
  pub plan : new.plan ≡ old.plan
  pub thread : new.thread ≡ old.thread

module _ (a b : Account) (run : Run (Unit {0})) (old new : Standing) where
  over_on : (end : End) → IsOver a b run old new end → EndedOn old new
  over_on end o = record { owed = ap (λ s. s.owed) o.new_is; entering = ap (λ s. s.entering) o.new_is; plan = ap (λ s. s.plan) o.new_is; thread = ap (λ s. s.thread) o.new_is; fewer = o.fewer }

  pub ended_on : (end : End) → Ends a b run old new end → EndedOn old new
  ended_on Stopped o = absurd o
  ended_on NoMemory o = record { owed = ap (λ s. s.owed) o.new_is; entering = ap (λ s. s.entering) o.new_is; plan = ap (λ s. s.plan) o.new_is; thread = ap (λ s. s.thread) o.new_is; fewer = o.fewer }
  ended_on end o = over_on end o

  gives_thread : (step : Step) → Gives a b run old new step → SameThread old new
  gives_thread (StepSampled entry) g = record { plan = ap (λ s. s.plan) g.new_is; thread = ap (λ s. s.thread) g.new_is }
  gives_thread StepNull g = record { plan = ap (λ s. s.plan) g.new_is; thread = ap (λ s. s.thread) g.new_is }
  gives_thread (StepEnter lock) g = record { plan = ap (λ s. s.plan) g.new_is; thread = ap (λ s. s.thread) g.new_is }
  gives_thread (StepLeave lock) g = record { plan = ap (λ s. s.plan) g.new_is; thread = ap (λ s. s.thread) g.new_is }
  gives_thread (StepEnded end) g = record { plan = (ended_on end g).plan; thread = (ended_on end g).thread }

pub thread_same : (a b : Account) (old new : Standing) (step : Step) → Steps a b old new step → SameThread old new
thread_same a b old new step s =
    let begun = begun_on a s.begun old s.between s.begins in
    let given = gives_thread s.begun b (rest s.between) s.between new step s.gives in
    record { plan = given.plan ∙ begun.plan; thread = given.thread ∙ begun.thread }

stands_begun : (start now later : Account) (options : Options) (w new : Standing) → w.owed ≡ None → w.entering ≡ None → Begins now later w new → Stands start now options w → Stands start later options new
stands_begun start now later options w new none free h stands = elim h [
  | inl p ↦ stands_waited start now later options w new stands none free p
  | inr s ↦ rw (s.account, s.standing) stands
]

-- a step, whatever it answers
gives_behind : (start now later : Account) (options : Options) (w new : Standing) (step : Step) → w.owed ≡ None → w.entering ≡ None → HasNoEnd w → Gives now later (rest w) w new step
    → Stands start now options w → StandsAfter start later options w new step
gives_behind start now later options w new (StepSampled entry) none free on s stands = stands_sample start now later options w new stands none free entry s
gives_behind start now later options w new StepNull none free on s stands = stands_none start now later options w new stands none free s
gives_behind start now later options w new (StepEnter lock) none free on s stands = stands_enters start now later options w new stands none free lock s
gives_behind start now later options w new (StepLeave lock) none free on s stands = stands_left start now later options w new stands none free lock s
gives_behind start now later options w new (StepEnded end) none free on s stands = has_run start now later options w new none free on stands end s

-- the answer speaks of the thread alone
behind_same : (start later : Account) (options : Options) (w between new : Standing) (step : Step) → BegunOn w between → StandsAfter start later options between new step → StandsAfter start later options w new step
behind_same start later options w between new (StepSampled entry) on h = h
behind_same start later options w between new StepNull on h = h
behind_same start later options w between new (StepEnter lock) on h = h
behind_same start later options w between new (StepLeave lock) on h = h
behind_same start later options w between new (StepEnded end) on h = rw (← on.plan, ← on.thread) h

pub stands_after : (start now later : Account) (options : Options) (w new : Standing) (step : Step) → w.owed ≡ None → w.entering ≡ None → (s : Steps now later w new step) → HasNoEnd s.between
    → Stands start now options w → StandsAfter start later options w new step
stands_after start now later options w new step none free s goes_on stands =
    let on = begun_on now s.begun w s.between s.begins in
    behind_same start later options w s.between new step on
    (gives_behind start s.begun later options s.between new step (on.owed ∙ none) (on.entering ∙ free) goes_on s.gives (stands_begun start now s.begun options w s.between none free s.begins stands))

-- a sample that is noted, where it is known that there is one
pub stands_noted_some : (start now : Account) (options : Options) (interval : ℕ) (w new : Standing) → IsSome w.owed
    → IfSome w.owed (λ s. new ≡ record w { owed = None; trace = w.trace ++ TracedSample s interval ∷ [] }) → Stands start now options w → Stands start now options new
stands_noted_some start now options interval w new some is stands = by_owed w.owed refl some where
  by_owed : (o : Option Sample) → w.owed ≡ o → IsSome o → Stands start now options new
  by_owed None e h = absurd (cc)
  by_owed (Some sample) e h = stands_noted start now options interval w new sample e (noted_is interval w new sample e is) stands

-- that a section was entered, where it is known that one is to be
pub entered_is : (place : ℕ) (old new : Standing) (lock : ℕ) → old.entering ≡ Some lock
    → IfSome old.entering (λ lock. new ≡ record old { entering = None; section = Some lock; trace = old.trace ++ TracedEntered lock place ∷ [] })
    → new ≡ record old { entering = None; section = Some lock; trace = old.trace ++ TracedEntered lock place ∷ [] }
entered_is place old new lock entering h = rw entering at h

pub stands_entered_some : (start now : Account) (options : Options) (place : ℕ) (w new : Standing) → IsSome w.entering → w.owed ≡ None
    → IfSome w.entering (λ lock. new ≡ record w { entering = None; section = Some lock; trace = w.trace ++ TracedEntered lock place ∷ [] }) → Stands start now options w → Stands start now options new
stands_entered_some start now options place w new some owed is stands = by_entering w.entering refl some where
  by_entering : (o : Option ℕ) → w.entering ≡ o → IsSome o → Stands start now options new
  by_entering None e h = absurd (cc)
  by_entering (Some lock) e h = stands_entered start now options place w new lock e owed (entered_is place w new lock e is) stands
