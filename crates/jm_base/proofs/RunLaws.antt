-- How runs go on: one after another, after events, and over each form of an outside.
use mathlib.Core.Path.{fun_ext}
use Rattle.std.proofs.lemmas.List.{append-nil}
use Rattle.std.proofs.Common.{◌≡◌, ℕ, true, List, [], ◌∷◌, ◌++◌, Option, Some, None, refl, sym, ap, ◌∙◌, subst, arith, append_assoc}
use Rattle.std.specs.Prelude.{nat_eq, MatchOption}
use Rattle.std.specs.Option.{option_map}
use Rattle.jm_base.specs.declared.types.Request.{Request}
use Rattle.jm_base.specs.declared.types.Request.TheVariants.{Script, Http}
use Rattle.jm_base.specs.declared.types.Heard.{Heard}
use Rattle.jm_base.specs.declared.types.Heard.TheVariants.{Reading, Paused, Asked}
use Rattle.jm_base.specs.Run.{Answers, Event, Run, over, give, read, wait, ask, ◌>>=◌, after_event, after_events, over_value}
use Rattle.jm_base.specs.Outside.{same_bytes, same_request, list_form, script_form, Scripts, Replays, at_end, by_reading, by_pause, by_asking, fault_count, faults_after, Account, Hears, Path, here, giving, reads, waits, asks, Goes, TellsNothing}

same_bytes-refl : (xs : List ℕ) → same_bytes xs xs ≡ true
same_bytes-refl [] = refl
same_bytes-refl (x ∷ xs) = grind (arith, same_bytes-refl xs)

nat_eq-refl : (n : ℕ) → nat_eq n n ≡ true
nat_eq-refl n = grind arith

same_request-refl : (q : Request) → same_request q q ≡ true
same_request-refl (Script a) = same_bytes-refl a
same_request-refl (Http h p b) = rw (same_bytes-refl h, nat_eq-refl p, same_bytes-refl b) refl

-- the list form answers what its list says
pub list-replays : (heard rest : List Heard) → Replays list_form (heard ++ rest) heard rest
list-replays [] rest = at_end
list-replays (Reading t ∷ heard) rest = by_reading refl (list-replays heard rest)
list-replays (Paused ms ∷ heard) rest = by_pause (rw (nat_eq-refl ms) refl) (list-replays heard rest)
list-replays (Asked s q o ∷ heard) rest = by_asking (rw (nat_eq-refl s, same_request-refl q) refl) (list-replays heard rest)

pub replays-append : {V : Type 0} {o : Answers V} {u v w : V} {xs ys : List Heard} → Replays o u xs v → Replays o v ys w → Replays o u (xs ++ ys) w
replays-append at_end r = r
replays-append (by_reading e q) r = by_reading e (replays-append q r)
replays-append (by_pause e q) r = by_pause e (replays-append q r)
replays-append (by_asking e q) r = by_asking e (replays-append q r)

-- over an outside that answers so, the run gives these events and then what the rest gives
pub path-value : {V A : Type 0} (o : Answers V) {r s : Run A} {heard : List Heard} {events : List Event} → Path r heard events s → (v w : V) → Replays o v heard w → over_value o r v ≡ after_events events (over_value o s w)
unfolding over_value
path-value o here v w at_end = refl
path-value o (giving p) v w r = ap (after_event _) (path-value o p v w r)
path-value o (reads p) v w (by_reading e r) = rw e (path-value o p _ w r)
path-value o (waits p) v w (by_pause e r) = rw e (path-value o p _ w r)
path-value o (asks p) v w (by_asking e r) = rw e (path-value o p _ w r)

pub path-append : {A : Type 0} {r s t : Run A} {xs ys : List Heard} {d e : List Event} → Path r xs d s → Path s ys e t → Path r (xs ++ ys) (d ++ e) t
path-append here q = q
path-append (giving p) q = giving (path-append p q)
path-append (reads p) q = reads (path-append p q)
path-append (waits p) q = waits (path-append p q)
path-append (asks p) q = asks (path-append p q)

pub path-bind : {A B : Type 0} {r s : Run A} {heard : List Heard} {e : List Event} (f : A → Run B) → Path r heard e s → Path (r >>= f) heard e (s >>= f)
path-bind f here = here
path-bind f (giving p) = giving (path-bind f p)
path-bind f (reads p) = reads (path-bind f p)
path-bind f (waits p) = waits (path-bind f p)
path-bind f (asks p) = asks (path-bind f p)

-- one run after another after another
pub bind-assoc : {A B C : Type 0} (r : Run A) (f : A → Run B) (g : B → Run C) → (r >>= f) >>= g ≡ r >>= (λ x. f x >>= g)
bind-assoc (over x) f g = refl
bind-assoc (give e r) f g = ap (give e) (bind-assoc r f g)
bind-assoc (read k) f g = ap read (fun_ext λ t. bind-assoc (k t) f g)
bind-assoc (wait ms r) f g = ap (wait ms) (bind-assoc r f g)
bind-assoc (ask s q k) f g = ap (ask s q) (fun_ext λ o. bind-assoc (k o) f g)

-- what an account says of its outside's value, one call after another
value-append : (a b c : Option Scripts) (xs ys : List Heard)
    → MatchOption a (b ≡ None) (λ v. (w : Scripts) × (b ≡ Some w) × Replays script_form v xs w)
    → MatchOption b (c ≡ None) (λ v. (w : Scripts) × (c ≡ Some w) × Replays script_form v ys w)
    → MatchOption a (c ≡ None) (λ v. (w : Scripts) × (c ≡ Some w) × Replays script_form v (xs ++ ys) w)
value-append None b c xs ys h k = rw h at k
value-append (Some v) b c xs ys h k = let m = rw h.1 at k in (m.0, m.1, replays-append h.2 m.2)

-- the faults of some calls and of those that come after them
faults-append : (xs ys : List Heard) (n : ℕ) → faults_after (xs ++ ys) n ≡ faults_after ys (faults_after xs n)
faults-append [] ys n = refl
faults-append (Reading t ∷ xs) ys n = faults-append xs ys n
faults-append (Paused ms ∷ xs) ys n = faults-append xs ys n
faults-append (Asked s q o ∷ xs) ys n = faults-append xs ys (fault_count n o)

pub hears-nothing : (a : Account) → Hears a [] a
hears-nothing a = record {
  origin = refl;
  told = no_more a.told;
  value = same_value a.value;
  faults = refl;
} where
  no_more : (t : Option (List Heard)) → t ≡ option_map (λ t. t ++ []) t
  no_more None = refl
  no_more (Some t) = ap Some (sym (append-nil t))

  same_value : (v : Option Scripts) → MatchOption v (v ≡ None) (λ v'. (w : Scripts) × (v ≡ Some w) × Replays script_form v' [] w)
  same_value None = refl
  same_value (Some v) = (v, refl, at_end)

told-append : (a b c : Option (List Heard)) (xs ys : List Heard) → b ≡ option_map (λ t. t ++ xs) a → c ≡ option_map (λ t. t ++ ys) b → c ≡ option_map (λ t. t ++ (xs ++ ys)) a
told-append None b c xs ys h k = rw h at k
told-append (Some t) b c xs ys h k = let m = rw h at k in m ∙ ap Some (append_assoc t xs ys)

pub hears-append : {a b c : Account} {xs ys : List Heard} → Hears a xs b → Hears b ys c → Hears a (xs ++ ys) c
hears-append {a} {b} {c} {xs} {ys} h k = record {
  origin = k.origin ∙ h.origin;
  told = told-append a.told b.told c.told xs ys h.told k.told;
  value = value-append a.value b.value c.value xs ys h.value k.value;
  faults = k.faults ∙ ap (faults_after ys) h.faults ∙ sym (faults-append xs ys a.faults);
}

-- a run goes on, and then on
pub goes-append : {A : Type 0} {a b c : Account} {r s t : Run A} {d e : List Event} → Goes a r d s b → Goes b s e t c → Goes a r (d ++ e) t c
goes-append g h = record { heard = g.heard ++ h.heard; hears = hears-append g.hears h.hears; path = path-append g.path h.path }

pub goes-bind : {A B : Type 0} {a b : Account} {r s : Run A} {e : List Event} (f : A → Run B) → Goes a r e s b → Goes a (r >>= f) e (s >>= f) b
goes-bind f g = record { heard = g.heard; hears = g.hears; path = path-bind f g.path }

pub goes-nothing : {A : Type 0} (a : Account) (r : Run A) → Goes a r [] r a
goes-nothing a r = record { heard = []; hears = hears-nothing a; path = here }

pub goes-give : {A : Type 0} (a : Account) (e : Event) (r : Run A) → Goes a (give e r) (e ∷ []) r a
goes-give a e r = record { heard = []; hears = hears-nothing a; path = giving here }

-- a call that told nothing changes nothing that was heard
pub hears-tells_nothing : {a b : Account} → TellsNothing a b → Hears a [] b
hears-tells_nothing {a} {b} t = record {
  origin = t.origin;
  told = t.told ∙ (hears-nothing a).told;
  value = rw t.value (hears-nothing a).value;
  faults = t.faults;
}

-- a run that has gone on so far is where it was, after a call that told nothing
pub goes-tells_nothing : {A : Type 0} {a b c : Account} {r s : Run A} {e : List Event} → Goes a r e s b → TellsNothing b c → Goes a r e s c
goes-tells_nothing {a = a} {c = c} {r = r} {s = s} {e = e} g t =
    let g' = goes-append g (record { heard = []; hears = hears-tells_nothing t; path = here }) in
    subst (λ es. Goes a r es s c) (append-nil e) g'
