-- What an outside with a value tells of a run: the list of its calls, how far the run came, and how it stands there.
use Rattle.std.proofs.Common.{◌≡◌, ℕ, List, [], ◌∷◌, ◌++◌, Option, Some, None, refl, sym, ap, ◌∙◌}
use Rattle.std.proofs.lemmas.List.{append-nil}
use Rattle.jm_base.specs.declared.types.Outcome.{Outcome}
use Rattle.jm_base.specs.declared.types.Heard.{Heard}
use Rattle.jm_base.specs.declared.types.Heard.TheVariants.{Reading, Paused, Asked}
use Rattle.jm_base.specs.Run.{Answers, Event, Run, over, give, read, wait, ask, over_value}
use Rattle.jm_base.specs.Outside.{Stays, done, no_reading, no_pause, no_outcome, list_form, script_form, SameEvents, Replays, at_end, by_reading, by_pause, by_asking, Path, here, giving, reads, waits, asks}
use Rattle.jm_base.proofs.RunLaws.{path-value, list-replays}

pub record Told {V A : Type 0} (o : Answers V) (run : Run A) (v : V) : Type 0 where
  pub heard : List Heard
  pub events : List Event
  pub rest : Run A
  pub after : V
  pub path : Path run heard events rest
  pub replays : Replays o v heard after
  pub stays : Stays o rest after

pub told_by : {V A : Type 0} (o : Answers V) (run : Run A) (v : V) → Told o run v
told_by {V = V} o (over x) v = record { heard = []; events = []; rest = over x; after = v; path = here; replays = at_end; stays = done }
told_by {V = V} o (give e r) v =
    let t = told_by o r v in
    record { heard = t.heard; events = e ∷ t.events; rest = t.rest; after = t.after; path = giving t.path; replays = t.replays; stays = t.stays }
told_by {V = V} o (read k) v = on_reading (o.now v) refl (λ t w. told_by o (k t) w) where
  on_reading : (a : Option (ℕ × V)) → o.now v ≡ a → ((t : ℕ) (w : V) → Told o (k t) w) → Told o (read k) v
  on_reading None is next = record { heard = []; events = []; rest = read k; after = v; path = here; replays = at_end; stays = no_reading is }
  on_reading (Some p) is next =
      let t = next p.0 p.1 in
      record { heard = Reading p.0 ∷ t.heard; events = t.events; rest = t.rest; after = t.after; path = reads t.path; replays = by_reading is t.replays; stays = t.stays }
told_by {V = V} o (wait ms r) v = on_pause (o.pause ms v) refl (λ w. told_by o r w) where
  on_pause : (a : Option V) → o.pause ms v ≡ a → ((w : V) → Told o r w) → Told o (wait ms r) v
  on_pause None is next = record { heard = []; events = []; rest = wait ms r; after = v; path = here; replays = at_end; stays = no_pause is }
  on_pause (Some w) is next =
      let t = next w in
      record { heard = Paused ms ∷ t.heard; events = t.events; rest = t.rest; after = t.after; path = waits t.path; replays = by_pause is t.replays; stays = t.stays }
told_by {V = V} o (ask s q k) v = on_outcome (o.ask s q v) refl (λ a w. told_by o (k a) w) where
  on_outcome : (a : Option (Outcome × V)) → o.ask s q v ≡ a → ((a : Outcome) (w : V) → Told o (k a) w) → Told o (ask s q k) v
  on_outcome None is next = record { heard = []; events = []; rest = ask s q k; after = v; path = here; replays = at_end; stays = no_outcome is }
  on_outcome (Some p) is next =
      let t = next p.0 p.1 in
      record { heard = Asked s q p.0 ∷ t.heard; events = t.events; rest = t.rest; after = t.after; path = asks t.path; replays = by_asking is t.replays; stays = t.stays }

-- what stays gives nothing, over the outside and over a list that is at its end
quiet : {V A : Type 0} (o : Answers V) {r : Run A} {v : V} → Stays o r v → (over_value o r v).events ≡ []
unfolding over_value
quiet o done = refl
quiet o (no_reading h) = rw h refl
quiet o (no_pause h) = rw h refl
quiet o (no_outcome h) = rw h refl

quiet_list : {V A : Type 0} (o : Answers V) {r : Run A} {v : V} → Stays o r v → (over_value list_form r []).events ≡ []
unfolding over_value
quiet_list o done = refl
quiet_list o (no_reading h) = refl
quiet_list o (no_pause h) = refl
quiet_list o (no_outcome h) = refl

-- from a value, and from the list that it tells, the events are equal
pub same_events : {V A : Type 0} (o : Answers V) (run : Run A) (v : V)
    → (over_value o run v).events ≡ (over_value list_form run (told_by o run v).heard).events
same_events o run v =
    let t = told_by o run v in
    let one : (over_value o run v).events ≡ t.events ++ (over_value o t.rest t.after).events = ap (λ g. g.events) (path-value o t.path v t.after t.replays) in
    let two : (over_value list_form run (t.heard ++ [])).events ≡ t.events ++ (over_value list_form t.rest []).events =
    ap (λ g. g.events) (path-value list_form t.path (t.heard ++ []) [] (list-replays t.heard [])) in
    one ∙ ap (λ es. t.events ++ es) (quiet o t.stays ∙ sym (quiet_list o t.stays)) ∙ sym two ∙ ap (λ l. (over_value list_form run l).events) (append-nil t.heard)

-- over the replies of a plan
pub same_events_law : SameEvents
same_events_law run v =
    let t = told_by script_form run v in (
      t.heard,
      record {
        events = t.events;
        rest = t.rest;
        after = t.after;
        path = t.path;
        replays = t.replays;
        stays = t.stays;
        same = same_events script_form run v;
      },
    )
