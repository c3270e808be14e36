-- What `clap` reads of the options of a subcommand is what the grammar gives.
use Rattle.std.proofs.Common.{◌≡◌, ℕ, Bool, true, false, ◌&&◌, ◌||◌, not, cond, List, [], ◌∷◌, ◌++◌, map, length, Option, Some, None, fold, refl, sym, ap, ap₂, ◌∙◌, rules, nat_lt, option_map, inl, inr}
use Rattle.std.specs.Prelude.{is_some, find}
use Rattle.std.specs.List.{list_all, list_any}
use Rattle.std.specs.Option.{option_map_or}
use Rattle.std.specs.Str.{bytes_eq}
use Rattle.std.proofs.lemmas.List.{map-append}
use Rattle.std.proofs.lemmas.Slice.Eq.{bytes_eq-Decides}
use Rattle.std.proofs.lemmas.Bool.{cases_Bool, and_parts}
use Rattle.clap.specs.Lexer.{long_of, short_of}
use Rattle.clap.specs.Walk.{Held, Row, Rule, Text, Walk, idle, option, arg_by_id, arg_by_long, arg_by_index, reacted, at_row, more_values, without, used, has_row, reading_by, settled, finished, with_default, walked, nothing_held, rows_after}
use Rattle.clap.specs.Simple.{Shape, new_shape, filled}
use Rattle.clap.specs.Kinds.{Kinds, or_else}
use Rattle.clap.specs.Faults.{use_fault, settle_fault, turn_fault, walk_fault, defaults_fault, default_fault, long_fault, check_fault, level_fault}
use Rattle.clap.specs.Takes.{is_given}
use Rattle.clap.specs.Facts.{explicit_source}
use Rattle.clap.specs.declared.error.kind.ErrorKind.{ErrorKind}
use Rattle.clap.specs.declared.parser.matches.ValueSource.TheVariants.{CommandLine}
use Rattle.command_words.specs.Parser.{option_rule}
use Rattle.command_words.specs.CommandGrammar.{Options, Given, has, is_known, has_required}
use Rattle.command_words.proofs.Stepwise.{with_pair, with_word, options_from, is_text, starts_with_hyphen}

-- ---- what is read

-- an option as it is built
abbrev pub leaf_rule : Text × Bool → Rule
leaf_rule p = filled (record (option_rule p.0) { required = p.1 })

abbrev pub rules_from : Options → List Rule
rules_from opts = map leaf_rule opts

-- a subcommand as it is built
abbrev pub leaf : Text → Options → Shape
leaf name opts = record (new_shape name) { rules = rules_from opts; no_binary_name = true; disable_help_flag = true; disable_help_subcommand = true; is_built = true }

abbrev pub row_of_pair : Text × Text → Row
row_of_pair p = record {
  id = p.0;
  values = p.1 ∷ [];
  count = None;
  source = Some CommandLine;
  reading = reading_by (leaf_rule (p.0, false));
}

abbrev pub rows_of_pairs : Given → List Row
rows_of_pairs ps = map row_of_pair ps

-- the option of this name
abbrev known : Options → Text → Option (Text × Bool)
known opts name = find (λ p. bytes_eq p.0 name) opts

pub same_text : (a b : Text) → bytes_eq a b ≡ true → a ≡ b
same_text a b e = search (rules, bytes_eq-Decides)

picked_long : (b : Bool) (p : Text × Bool) (rest : Option (Text × Bool)) (found : Option Rule) → found ≡ option_map leaf_rule rest
    → cond (true && (b || false)) (Some (leaf_rule p)) found ≡ option_map leaf_rule (cond b (Some p) rest)
picked_long true p rest found e = refl
picked_long false p rest found e = e

pub same_itself : (a : Text) → bytes_eq a a ≡ true
same_itself a = search (rules, bytes_eq-Decides)

found_long : (opts : Options) (name : Text) → arg_by_long (rules_from opts) name ≡ option_map leaf_rule (known opts name)
found_long [] name = refl
found_long (p ∷ opts) name = picked_long (bytes_eq p.0 name) p (known opts name) _ (found_long opts name)

picked_id : (b : Bool) (p : Text × Bool) (rest : Option (Text × Bool)) (found : Option Rule) → found ≡ option_map leaf_rule rest
    → cond b (Some (leaf_rule p)) found ≡ option_map leaf_rule (cond b (Some p) rest)
picked_id true p rest found e = refl
picked_id false p rest found e = e

found_id : (opts : Options) (name : Text) → arg_by_id (rules_from opts) name ≡ option_map leaf_rule (known opts name)
found_id [] name = refl
found_id (p ∷ opts) name = picked_id (bytes_eq p.0 name) p (known opts name) _ (found_id opts name)

known_step : (b : Bool) (p q : Text × Bool) (rest : Option (Text × Bool)) (name : Text) → (b ≡ true → p.0 ≡ name) → (rest ≡ Some q → q.0 ≡ name)
    → cond b (Some p) rest ≡ Some q → q.0 ≡ name
known_step true p q rest name here later e = let same : p ≡ q = cc in ap (λ (x : Text × Bool). x.0) (sym same) ∙ here refl
known_step false p q rest name here later e = later e

known_name : (opts : Options) (name : Text) (p : Text × Bool) → known opts name ≡ Some p → p.0 ≡ name
known_name [] name p e = cc
known_name (q ∷ opts) name p e = known_step (bytes_eq q.0 name) q p (known opts name) name (same_text q.0 name) (known_name opts name p) e

is_known_step : (b c : Bool) (p : Text × Bool) (rest : Option (Text × Bool)) → c ≡ is_some rest → (b || c) ≡ is_some (cond b (Some p) rest)
is_known_step true c p rest e = refl
is_known_step false c p rest e = e

is_known_is : (opts : Options) (name : Text) → is_known opts name ≡ is_some (known opts name)
is_known_is [] name = refl
is_known_is (p ∷ opts) name = is_known_step (bytes_eq p.0 name) _ p (known opts name) (is_known_is opts name)

-- ---- kinds

abbrev pub free : Kinds → Bool
free [] = true
free (k ∷ ks) = false

pub free-or_else : (a b : Kinds) → free (or_else a b) ≡ (free a && free b)
free-or_else [] b = refl
free-or_else (k ∷ ks) b = refl

and_assoc : (a b d : Bool) → ((a && b) && d) ≡ (a && (b && d))
and_assoc true b d = refl
and_assoc false b d = refl

-- ---- one use of an option

free_use : (p : Text × Bool) (value : Text) (rows : List Row)
    → free (use_fault false (leaf_rule p) (value ∷ []) rows) ≡ (not (has_row p.0 rows) && nat_lt 0 (length value))
free_use p value rows = go (has_row p.0 rows) (nat_lt 0 (length value)) _ _
  where
    go : (x y : Bool) (j k : ErrorKind) → free (or_else (cond (x && true) (j ∷ []) []) (or_else (cond y [] (k ∷ [])) [])) ≡ (not x && y)
    go true true j k = refl
    go true false j k = refl
    go false true j k = refl
    go false false j k = refl

unfilled_use : (p : Text × Bool) (rows : List Row) → free (use_fault false (leaf_rule p) [] rows) ≡ false
unfilled_use p rows = refl

or_false : (x y : Bool) → (x || y) ≡ false → (x ≡ false) × (y ≡ false)
or_false true y e = absurd cc
or_false false y e = (refl, e)

absent_without : (id : Text) (rows : List Row) → has_row id rows ≡ false → without id rows ≡ rows
absent_without id [] e = refl
absent_without id (r ∷ rows) e =
    let parts = or_false (bytes_eq r.id id) (has_row id rows) e in
    rw parts.0 (ap (λ (t : List Row). r ∷ t) (absent_without id rows parts.1))

absent_with : (id : Text) (change : Row → List Row) (missing : List Row) (rows : List Row) → has_row id rows ≡ false → at_row id change missing rows ≡ rows ++ missing
absent_with id change missing [] e = refl
absent_with id change missing (r ∷ rows) e =
    let parts = or_false (bytes_eq r.id id) (has_row id rows) e in
    rw parts.0 (ap (λ (t : List Row). r ∷ t) (absent_with id change missing rows parts.1))

used_pair : (p : Text × Bool) (value : Text) (rows : List Row) → has_row p.0 rows ≡ false
    → used (leaf_rule p) (value ∷ []) rows ≡ rows ++ row_of_pair (p.0, value) ∷ []
used_pair p value rows e = rw (absent_without p.0 rows e) (absent_with p.0 (more_values CommandLine (value ∷ [])) _ rows e)

has_row_pairs : (id : Text) (ps : Given) → has_row id (rows_of_pairs ps) ≡ has id ps
has_row_pairs id [] = refl
has_row_pairs id (p ∷ ps) = ap (λ (x : Bool). bytes_eq p.0 id || x) (has_row_pairs id ps)

-- ---- words

pub not_dashes : (word : Text) (q : Text × Option Text) → long_of word ≡ Some q → bytes_eq word (45 ∷ 45 ∷ []) ≡ false
not_dashes word q e = elim (cases_Bool (bytes_eq word (45 ∷ 45 ∷ []))) [
  | inl same ↦ let bad : None ≡ Some q = rw (same_text word (45 ∷ 45 ∷ []) same) at e in cc
  | inr other ↦ other
]

pub plain_start : (word : Text) → is_text word ≡ true → long_of word ≡ None → starts_with_hyphen word ≡ false
plain_start word ok e =
    let parts = and_parts (nat_lt 0 (length word)) (not (starts_with_hyphen word) || is_some (long_of word)) ok in
    go (starts_with_hyphen word) (rw e at parts.1)
  where
    go : (b : Bool) → (not b || false) ≡ true → b ≡ false
    go true h = cc
    go false h = refl

-- a word that begins with no hyphen is neither an option nor `--`
pub record IsPlainWord (word : Text) : Type 0 where
  pub long : long_of word ≡ None
  pub short : short_of word ≡ None
  pub dashes : bytes_eq word (45 ∷ 45 ∷ []) ≡ false

pub plain_word_is : (word : Text) → starts_with_hyphen word ≡ false → IsPlainWord word
plain_word_is [] e = record { long = refl; short = refl; dashes = refl }
plain_word_is (x ∷ xs) e = record { long = rw e refl; short = rw e refl; dashes = rw e refl }

no_positional : (opts : Options) (i : ℕ) → arg_by_index (rules_from opts) i ≡ None
no_positional [] i = refl
no_positional (p ∷ opts) i = no_positional opts i

-- ---- after the walk

no_default : (x : Bool) (rows : List Row) → cond x rows rows ≡ rows
no_default true rows = refl
no_default false rows = refl

pub finished_rows : (opts : Options) (rows : List Row) → fold with_default rows (rules_from opts) ≡ rows
finished_rows [] rows = refl
finished_rows (p ∷ opts) rows = ap (λ (r : List Row). fold with_default r (rules_from opts)) (no_default (has_row p.0 rows) rows) ∙ finished_rows opts rows

default_free : (x : Bool) (k later : Kinds) → later ≡ [] → or_else (cond (x || true) [] k) later ≡ []
default_free true k later e = e
default_free false k later e = e

no_default_fault : (opts : Options) (rows : List Row) → defaults_fault rows (rules_from opts) ≡ []
unfolding defaults_fault
no_default_fault [] rows = refl
no_default_fault (p ∷ opts) rows =
    ap (λ (r : List Row). or_else (default_fault rows (leaf_rule p)) (defaults_fault r (rules_from opts))) (no_default (has_row p.0 rows) rows)
    ∙ default_free (has_row p.0 rows) _ _ (no_default_fault opts rows)

given_step : (b : Bool) (p : Text × Text) (found : Option Row) (later : Bool) → option_map_or (λ r. explicit_source r.source) found false ≡ later
    → option_map_or (λ r. explicit_source r.source) (cond b (Some (row_of_pair p)) found) false ≡ (b || later)
given_step true p found later e = refl
given_step false p found later e = e

given_pairs : (id : Text) (ps : Given) → is_given id (rows_of_pairs ps) ≡ has id ps
given_pairs id [] = refl
given_pairs id (p ∷ ps) = given_step (bytes_eq p.0 id) p _ _ (given_pairs id ps)

missing : (opts : Options) (ps : Given)
    → list_any (λ a. a.required && not (is_given a.id (rows_of_pairs ps))) (rules_from opts) ≡ not (has_required opts ps)
missing [] ps = refl
missing (p ∷ opts) ps = rw (given_pairs p.0 ps) (go p.1 (has p.0 ps) _ _ (missing opts ps))
  where
    go : (x y m r : Bool) → m ≡ not r → (x && not y || m) ≡ not ((not x || y) && r)
    go true true m r e = e
    go true false m r e = refl
    go false y m r e = e

-- ---- the walk

abbrev pub idle_walk : Held → Walk
idle_walk h = record { held = h; waiting = idle; position = 1; is_trailing = false; stopped = None }

abbrev pub waits_walk : Text → Held → Walk
waits_walk name h = record { held = h; waiting = option name; position = 1; is_trailing = false; stopped = None }

-- the options that are done, and what is held
pub record Settles (opts : Options) (done : Given) (h : Held) : Type 0 where
  pub rows : (settled (rules_from opts) h).rows ≡ rows_of_pairs done
  pub fits : free (settle_fault (rules_from opts) false h) ≡ true

long_unfilled : (opts : Options) (o : Option (Text × Bool)) (v : Option Text) (h : Held) (later : Kinds) → free (settle_fault (rules_from opts) false h) ≡ false
    → free (or_else (long_fault (rules_from opts) false (option_map leaf_rule o) v h) later) ≡ false
long_unfilled opts None v h later bad = refl
long_unfilled opts (Some r) None h later bad = rw (free-or_else, bad) refl
long_unfilled opts (Some r) (Some v) h later bad = rw (free-or_else, free-or_else, bad) refl

module _ (name : Text) (opts : Options) where
  turn_value : (h : Held) (word n v : Text) (p : Text × Bool) → long_of word ≡ Some (n, Some v) → known opts n ≡ Some p
      → turn_fault (leaf name opts) [] (idle_walk h) word ≡ or_else (or_else (settle_fault (rules_from opts) false h) (use_fault false (leaf_rule p) (v ∷ []) (settled (rules_from opts) h).rows)) []
  turn_value h word n v p e k = rw (not_dashes word _ e, e, found_long opts n, k)

  walk_value : (h : Held) (word n v : Text) (p : Text × Bool) → long_of word ≡ Some (n, Some v) → known opts n ≡ Some p
      → walked (rules_from opts) [] (idle_walk h) word ≡ idle_walk (reacted (rules_from opts) (leaf_rule p) (v ∷ []) h)
  unfolding walked
  walk_value h word n v p e k = rw (not_dashes word _ e, e, found_long opts n, k)

  turn_name : (h : Held) (word n : Text) (p : Text × Bool) → long_of word ≡ Some (n, None) → known opts n ≡ Some p
      → turn_fault (leaf name opts) [] (idle_walk h) word ≡ or_else (settle_fault (rules_from opts) false h) []
  turn_name h word n p e k = rw (not_dashes word _ e, e, found_long opts n, k)

  walk_name : (h : Held) (word n : Text) (p : Text × Bool) → long_of word ≡ Some (n, None) → known opts n ≡ Some p
      → walked (rules_from opts) [] (idle_walk h) word ≡ waits_walk p.0 (record (settled (rules_from opts) h) { pending = Some (p.0, []) })
  unfolding walked
  walk_name h word n p e k = rw (not_dashes word _ e, e, found_long opts n, k)

  turn_unknown : (h : Held) (word n : Text) (v : Option Text) → long_of word ≡ Some (n, v) → known opts n ≡ None
      → free (turn_fault (leaf name opts) [] (idle_walk h) word) ≡ false
  turn_unknown h word n v e k = rw (not_dashes word _ e, e, found_long opts n, k) refl

  turn_stray : (h : Held) (word : Text) → IsPlainWord word → free (turn_fault (leaf name opts) [] (idle_walk h) word) ≡ false
  turn_stray h word plain = rw (plain.dashes, plain.long, plain.short, no_positional opts 1) refl

  turn_next : (h : Held) (n word : Text) → IsPlainWord word → turn_fault (leaf name opts) [] (waits_walk n h) word ≡ []
  turn_next h n word plain = rw (plain.dashes, plain.long, plain.short) refl

  walk_next : (rows : List Row) (skip : ℕ) (word : Text) (p : Text × Bool) → IsPlainWord word → known opts p.0 ≡ Some p
      → walked (rules_from opts) [] (waits_walk p.0 (record { rows = rows; pending = Some (p.0, []); skip = skip })) word
      ≡ idle_walk (record { rows = rows; pending = Some (p.0, word ∷ []); skip = skip })
  unfolding walked
  walk_next rows skip word p plain k = rw (plain.dashes, plain.long, plain.short, found_id opts p.0, k, same_itself p.0) refl

  -- an option that waits and gets none
  unsettled : (rows : List Row) (skip : ℕ) (p : Text × Bool) → known opts p.0 ≡ Some p
      → free (settle_fault (rules_from opts) false (record { rows = rows; pending = Some (p.0, []); skip = skip })) ≡ false
  unsettled rows skip p k = rw (found_id opts p.0, k) refl

  turn_unfilled : (rows : List Row) (skip : ℕ) (word : Text) (p : Text × Bool) (q : Text × Option Text) → known opts p.0 ≡ Some p → long_of word ≡ Some q
      → free (turn_fault (leaf name opts) [] (waits_walk p.0 (record { rows = rows; pending = Some (p.0, []); skip = skip })) word) ≡ false
  turn_unfilled rows skip word p q k e =
      rw (not_dashes word q e, e, found_long opts q.0) (long_unfilled opts (known opts q.0) q.1 _ _ (unsettled rows skip p k))

  -- ---- the level

  abbrev pub end_fault : Held → Kinds
  end_fault h = or_else (settle_fault (rules_from opts) false h)
      (or_else (defaults_fault (settled (rules_from opts) h).rows (rules_from opts)) (check_fault (leaf name opts) (finished (rules_from opts) h) false))

  abbrev pub end_of : Walk → List Text → Held
  end_of w words = (fold (walked (rules_from opts) []) w words).held

  abbrev pub rest_fault : Walk → List Text → Kinds
  rest_fault w words = or_else (walk_fault (leaf name opts) [] w words) (end_fault (end_of w words))

  rest_step : (w : Walk) (word : Text) (words : List Text)
      → free (rest_fault w (word ∷ words)) ≡ (free (turn_fault (leaf name opts) [] w word) && free (rest_fault (walked (rules_from opts) [] w word) words))
  unfolding walk_fault
  rest_step w word words =
      let t = turn_fault (leaf name opts) [] w word in
      let after = walked (rules_from opts) [] w word in
      let f = walk_fault (leaf name opts) [] after words in
      let e = end_fault (end_of after words) in
      free-or_else (or_else t f) e ∙ ap (λ (b : Bool). b && free e) (free-or_else t f) ∙ and_assoc (free t) (free f) (free e)
      ∙ ap (λ (b : Bool). free t && b) (sym (free-or_else f e))

  -- ---- the theorem

  unfoldable pub Agrees : Bool → List Row → Option Given → Type 0
  Agrees fits rows None = fits ≡ false
  Agrees fits rows (Some ps) = (fits ≡ true) × (rows ≡ rows_of_pairs ps)

  agrees_none : (fits : Bool) (rows : List Row) (o : Option Given) → fits ≡ false → o ≡ None → Agrees fits rows o
  unfolding Agrees
  agrees_none fits rows o f e = rw e f

  agrees_as : (fits now : Bool) (rows later : List Row) (o p : Option Given) → fits ≡ now → rows ≡ later → o ≡ p → Agrees now later p → Agrees fits rows o
  agrees_as fits now rows later o p a b e h = rw (a, b, e) h

  free_check : (done : Given) → free (check_fault (leaf name opts) (rows_of_pairs done) false) ≡ has_required opts done
  free_check done = rw (missing opts done) (go (has_required opts done) _)
    where
      go : (b : Bool) (k : ErrorKind) → free (cond (not b) (k ∷ []) []) ≡ b
      go true k = refl
      go false k = refl

  free_end : (done : Given) (h : Held) → Settles opts done h → free (end_fault h) ≡ has_required opts done
  free_end done h s =
      let settle = settle_fault (rules_from opts) false h in
      let defaults = defaults_fault (settled (rules_from opts) h).rows (rules_from opts) in
      let check = check_fault (leaf name opts) (finished (rules_from opts) h) false in
      let rows : finished (rules_from opts) h ≡ rows_of_pairs done = finished_rows opts _ ∙ s.rows in
      free-or_else settle (or_else defaults check) ∙ ap (λ (b : Bool). b && free (or_else defaults check)) s.fits
      ∙ (ap (λ (k : Kinds). free (or_else k check)) (no_default_fault opts _)
      ∙ (ap (λ (r : List Row). free (check_fault (leaf name opts) r false)) rows ∙ free_check done))

  at_end : (b : Bool) (fits : Bool) (rows : List Row) (done : Given) → fits ≡ b → rows ≡ rows_of_pairs done → Agrees fits rows (cond b (Some done) None)
  unfolding Agrees
  at_end true fits rows done f e = (f, e)
  at_end false fits rows done f e = f

  abbrev IdleHolds : List Text → Type 0
  IdleHolds words = (done : Given) (h : Held) → Settles opts done h
      → Agrees (free (rest_fault (idle_walk h) words)) (finished (rules_from opts) (end_of (idle_walk h) words)) (options_from opts None done words)

  abbrev pub waiting_held : Text → List Row → ℕ → Held
  waiting_held n rows skip = record { rows = rows; pending = Some (n, []); skip = skip }

  abbrev WaitsHolds : List Text → Type 0
  WaitsHolds words = (done : Given) (rows : List Row) (skip : ℕ) (p : Text × Bool) → rows ≡ rows_of_pairs done → known opts p.0 ≡ Some p
      → Agrees (free (rest_fault (waits_walk p.0 (waiting_held p.0 rows skip)) words))
      (finished (rules_from opts) (end_of (waits_walk p.0 (waiting_held p.0 rows skip)) words)) (options_from opts (Some p.0) done words)

  -- the first turn is refused
  refused_turn : (w : Walk) (word : Text) (words : List Text) → free (turn_fault (leaf name opts) [] w word) ≡ false → free (rest_fault w (word ∷ words)) ≡ false
  refused_turn w word words bad = rw (rest_step w word words, bad) refl

  -- what is pending doesn't fit
  bad_turn : (h : Held) (word : Text) (o : Option (Text × Option Text)) → is_text word ≡ true → long_of word ≡ o → free (settle_fault (rules_from opts) false h) ≡ false
      → free (turn_fault (leaf name opts) [] (idle_walk h) word) ≡ false
  bad_turn h word None ok e bad = turn_stray h word (plain_word_is word (plain_start word ok e))
  bad_turn h word (Some q) ok e bad = rw (not_dashes word q e, e, found_long opts q.0) (long_unfilled opts (known opts q.0) q.1 h _ bad)

  bad_holds : (words : List Text) (h : Held) → list_all is_text words ≡ true → free (settle_fault (rules_from opts) false h) ≡ false → free (rest_fault (idle_walk h) words) ≡ false
  unfolding walk_fault
  bad_holds [] h ok bad =
      let later = or_else (defaults_fault (settled (rules_from opts) h).rows (rules_from opts)) (check_fault (leaf name opts) (finished (rules_from opts) h) false) in
      free-or_else (settle_fault (rules_from opts) false h) later ∙ ap (λ (b : Bool). b && free later) bad
  bad_holds (word ∷ words) h ok bad = refused_turn (idle_walk h) word words (bad_turn h word (long_of word) (and_parts (is_text word) (list_all is_text words) ok).0 refl bad)

  one_more : (done : Given) (p : Text × Bool) (value : Text) (rows : List Row) → rows ≡ rows_of_pairs done → has p.0 done ≡ false
      → used (leaf_rule p) (value ∷ []) rows ≡ rows_of_pairs (done ++ (p.0, value) ∷ [])
  one_more done p value rows e new =
      rw (e, map-append) (used_pair p value (rows_of_pairs done) (has_row_pairs p.0 done ∙ new))

  true_and : (a b : Bool) → a ≡ true → (a && b) ≡ b
  true_and a b e = rw e refl

  and_true : (a : Bool) → (a && true) ≡ a
  and_true true = refl
  and_true false = refl

  -- one more option with its value: the walk's next state is `after`, and the rest of the words go on from it
  pair_step : (fits later : Bool) (rows : List Row) (done : Given) (n value : Text) (more : Given → Option Given) → is_known opts n ≡ true
      → fits ≡ ((not (has n done) && nat_lt 0 (length value)) && later)
      → ((not (has n done) && nat_lt 0 (length value)) ≡ true → Agrees later rows (more (done ++ (n, value) ∷ [])))
      → Agrees fits rows (with_pair opts done n value more)
  unfolding Agrees
  pair_step fits later rows done n value more k e h = rw (k) (go (not (has n done) && nat_lt 0 (length value)) e h)
    where
      go : (b : Bool) → fits ≡ (b && later) → (b ≡ true → Agrees later rows (more (done ++ (n, value) ∷ []))) → Agrees fits rows (cond b (more (done ++ (n, value) ∷ [])) None)
      go true f g = rw f (g refl)
      go false f g = f

  is_known_at : (n : Text) (p : Text × Bool) → known opts n ≡ Some p → is_known opts n ≡ true
  is_known_at n p k = is_known_is opts n ∙ ap is_some k

  not_known_at : (n : Text) → known opts n ≡ None → is_known opts n ≡ false
  not_known_at n k = is_known_is opts n ∙ ap is_some k

  new_name : (a b : Bool) → (not a && b) ≡ true → a ≡ false
  new_name true b e = cc
  new_name false b e = refl

  settles_more : (done : Given) (h : Held) (p : Text × Bool) (v : Text) → Settles opts done h → has p.0 done ≡ false
      → Settles opts (done ++ (p.0, v) ∷ []) (reacted (rules_from opts) (leaf_rule p) (v ∷ []) h)
  settles_more done h p v s new = record { rows = one_more done p v _ s.rows new; fits = refl }

  value_step : (words : List Text) → IdleHolds words → (done : Given) (h : Held) (word v : Text) (p : Text × Bool) → Settles opts done h
      → long_of word ≡ Some (p.0, Some v) → known opts p.0 ≡ Some p
      → Agrees (free (rest_fault (idle_walk h) (word ∷ words))) (finished (rules_from opts) (end_of (idle_walk h) (word ∷ words)))
      (with_pair opts done p.0 v (λ now. options_from opts None now words))
  value_step words later done h word v p s e k =
      let c = rules_from opts in
      let next = idle_walk (reacted c (leaf_rule p) (v ∷ []) h) in
      let moves : walked c [] (idle_walk h) word ≡ next = walk_value h word p.0 v p e k in
      let turn : free (turn_fault (leaf name opts) [] (idle_walk h) word) ≡ (not (has p.0 done) && nat_lt 0 (length v)) =
      ap free (turn_value h word p.0 v p e k)
      ∙ (free-or_else (or_else (settle_fault c false h) (use_fault false (leaf_rule p) (v ∷ []) (settled c h).rows)) []
      ∙ (and_true _
      ∙ (free-or_else (settle_fault c false h) (use_fault false (leaf_rule p) (v ∷ []) (settled c h).rows)
      ∙ (true_and _ _ s.fits
      ∙ (free_use p v (settled c h).rows
      ∙ ap (λ (x : Bool). not x && nat_lt 0 (length v)) (ap (has_row p.0) s.rows ∙ has_row_pairs p.0 done)))))) in
      let fits : free (rest_fault (idle_walk h) (word ∷ words)) ≡ ((not (has p.0 done) && nat_lt 0 (length v)) && free (rest_fault next words)) =
      rest_step (idle_walk h) word words ∙ ap₂ (λ (a : Bool) (w : Walk). a && free (rest_fault w words)) turn moves in
      let rows : finished c (end_of (idle_walk h) (word ∷ words)) ≡ finished c (end_of next words) = ap (λ (w : Walk). finished c (end_of w words)) moves in
      agrees_as _ _ _ _ _ _ refl rows refl
      (pair_step _ (free (rest_fault next words)) (finished c (end_of next words)) done p.0 v (λ now. options_from opts None now words) (is_known_at p.0 p k) fits
      (λ good. later (done ++ (p.0, v) ∷ []) (reacted c (leaf_rule p) (v ∷ []) h) (settles_more done h p v s (new_name (has p.0 done) _ good))))

  name_step : (words : List Text) → WaitsHolds words → (done : Given) (h : Held) (word : Text) (p : Text × Bool) → Settles opts done h
      → long_of word ≡ Some (p.0, None) → known opts p.0 ≡ Some p
      → Agrees (free (rest_fault (idle_walk h) (word ∷ words))) (finished (rules_from opts) (end_of (idle_walk h) (word ∷ words))) (options_from opts (Some p.0) done words)
  name_step words later done h word p s e k =
      let c = rules_from opts in
      let next = waits_walk p.0 (waiting_held p.0 (settled c h).rows h.skip) in
      let moves : walked c [] (idle_walk h) word ≡ next = walk_name h word p.0 p e k in
      let turn : free (turn_fault (leaf name opts) [] (idle_walk h) word) ≡ true =
      ap free (turn_name h word p.0 p e k) ∙ (free-or_else (settle_fault c false h) [] ∙ (and_true _ ∙ s.fits)) in
      let fits : free (rest_fault (idle_walk h) (word ∷ words)) ≡ free (rest_fault next words) =
      rest_step (idle_walk h) word words ∙ ap₂ (λ (a : Bool) (w : Walk). a && free (rest_fault w words)) turn moves in
      let rows : finished c (end_of (idle_walk h) (word ∷ words)) ≡ finished c (end_of next words) = ap (λ (w : Walk). finished c (end_of w words)) moves in
      agrees_as _ _ _ _ _ _ fits rows refl (later done (settled c h).rows h.skip p s.rows k)

  -- a known name is the option's own
  own_name : (n : Text) (p : Text × Bool) → known opts n ≡ Some p → n ≡ p.0
  own_name n p k = sym (known_name opts n p k)

  long_step : (words : List Text) → IdleHolds words → WaitsHolds words → (done : Given) (h : Held) (word n : Text) (v : Option Text) (o : Option (Text × Bool)) → Settles opts done h
      → long_of word ≡ Some (n, v) → known opts n ≡ o
      → Agrees (free (rest_fault (idle_walk h) (word ∷ words))) (finished (rules_from opts) (end_of (idle_walk h) (word ∷ words)))
      (with_word opts done (Some (n, v)) (λ waiting now. options_from opts waiting now words))
  long_step words idle_holds waits_holds done h word n (Some v) (Some p) s e k =
      let same = own_name n p k in
      let same_e : long_of word ≡ Some (p.0, Some v) = e ∙ ap (λ (x : Text). Some (x, Some v)) same in
      let same_k : known opts p.0 ≡ Some p = ap (known opts) (sym same) ∙ k in
      agrees_as _ _ _ _ _ _ refl refl (ap (λ (x : Text). with_pair opts done x v (λ now. options_from opts None now words)) same)
      (value_step words idle_holds done h word v p s same_e same_k)
  long_step words idle_holds waits_holds done h word n None (Some p) s e k =
      let same = own_name n p k in
      let same_e : long_of word ≡ Some (p.0, None) = e ∙ ap (λ (x : Text). Some (x, None)) same in
      let same_k : known opts p.0 ≡ Some p = ap (known opts) (sym same) ∙ k in
      let goes : with_word opts done (Some (n, None)) (λ waiting now. options_from opts waiting now words) ≡ options_from opts (Some p.0) done words =
      rw (is_known_at n p k) (ap (λ (x : Text). options_from opts (Some x) done words) same) in
      agrees_as _ _ _ _ _ _ refl refl goes (name_step words waits_holds done h word p s same_e same_k)
  long_step words idle_holds waits_holds done h word n (Some v) None s e k =
      agrees_none _ _ _ (refused_turn (idle_walk h) word words (turn_unknown h word n (Some v) e k)) (rw (not_known_at n k) refl)
  long_step words idle_holds waits_holds done h word n None None s e k =
      agrees_none _ _ _ (refused_turn (idle_walk h) word words (turn_unknown h word n None e k)) (rw (not_known_at n k) refl)

  idle_step : (words : List Text) → IdleHolds words → WaitsHolds words → (done : Given) (h : Held) (word : Text) (o : Option (Text × Option Text)) → Settles opts done h
      → is_text word ≡ true → long_of word ≡ o
      → Agrees (free (rest_fault (idle_walk h) (word ∷ words))) (finished (rules_from opts) (end_of (idle_walk h) (word ∷ words)))
      (with_word opts done o (λ waiting now. options_from opts waiting now words))
  idle_step words idle_holds waits_holds done h word None s ok e =
      agrees_none _ _ _ (refused_turn (idle_walk h) word words (turn_stray h word (plain_word_is word (plain_start word ok e)))) refl
  idle_step words idle_holds waits_holds done h word (Some q) s ok e = long_step words idle_holds waits_holds done h word q.0 q.1 (known opts q.0) s e refl

  settle_next : (rows : List Row) (skip : ℕ) (word : Text) (p : Text × Bool) → known opts p.0 ≡ Some p
      → settle_fault (rules_from opts) false (record { rows = rows; pending = Some (p.0, word ∷ []); skip = skip }) ≡ use_fault false (leaf_rule p) (word ∷ []) rows
  settle_next rows skip word p k = rw (found_id opts p.0, k) refl

  settled_next : (rows : List Row) (skip : ℕ) (word : Text) (p : Text × Bool) → known opts p.0 ≡ Some p
      → (settled (rules_from opts) (record { rows = rows; pending = Some (p.0, word ∷ []); skip = skip })).rows ≡ used (leaf_rule p) (word ∷ []) rows
  settled_next rows skip word p k = rw (found_id opts p.0, k) refl

  hyphen_turn : (rows : List Row) (skip : ℕ) (p : Text × Bool) (word : Text) (o : Option (Text × Option Text)) → known opts p.0 ≡ Some p → is_text word ≡ true
      → starts_with_hyphen word ≡ true → long_of word ≡ o
      → free (turn_fault (leaf name opts) [] (waits_walk p.0 (waiting_held p.0 rows skip)) word) ≡ false
  hyphen_turn rows skip p word None k ok begins e =
      let parts = and_parts (nat_lt 0 (length word)) (not (starts_with_hyphen word) || is_some (long_of word)) ok in
      let bad : false ≡ true = rw (begins, e) at parts.1 in
      absurd cc
  hyphen_turn rows skip p word (Some q) k ok begins e = turn_unfilled rows skip word p q k e

  split_fits : (fits later good : Bool) {bad : Bool} → fits ≡ later → (bad ≡ false → later ≡ false) → bad ≡ good → fits ≡ (good && later)
  split_fits fits later true f g h = f
  split_fits fits later false f g h = f ∙ g h

  bad_end : (h : Held) → free (settle_fault (rules_from opts) false h) ≡ false → free (end_fault h) ≡ false
  bad_end h bad =
      let later = or_else (defaults_fault (settled (rules_from opts) h).rows (rules_from opts)) (check_fault (leaf name opts) (finished (rules_from opts) h) false) in
      free-or_else (settle_fault (rules_from opts) false h) later ∙ ap (λ (b : Bool). b && free later) bad

  waits_step : (words : List Text) → list_all is_text words ≡ true → IdleHolds words → (done : Given) (rows : List Row) (skip : ℕ) (p : Text × Bool) (word : Text) (b : Bool)
      → rows ≡ rows_of_pairs done → known opts p.0 ≡ Some p → is_text word ≡ true → starts_with_hyphen word ≡ b
      → Agrees (free (rest_fault (waits_walk p.0 (waiting_held p.0 rows skip)) (word ∷ words)))
      (finished (rules_from opts) (end_of (waits_walk p.0 (waiting_held p.0 rows skip)) (word ∷ words)))
      (cond b None (with_pair opts done p.0 word (λ now. options_from opts None now words)))
  waits_step words oks idle_holds done rows skip p word true e k ok begins =
      agrees_none _ _ _ (refused_turn (waits_walk p.0 (waiting_held p.0 rows skip)) word words (hyphen_turn rows skip p word (long_of word) k ok begins refl)) refl
  waits_step words oks idle_holds done rows skip p word false e k ok begins =
      let c = rules_from opts in
      let plain = plain_word_is word begins in
      let held : Held = record { rows = rows; pending = Some (p.0, word ∷ []); skip = skip } in
      let moves : walked c [] (waits_walk p.0 (waiting_held p.0 rows skip)) word ≡ idle_walk held = walk_next rows skip word p plain k in
      let fits : free (rest_fault (waits_walk p.0 (waiting_held p.0 rows skip)) (word ∷ words)) ≡ free (rest_fault (idle_walk held) words) =
      rest_step (waits_walk p.0 (waiting_held p.0 rows skip)) word words
      ∙ ap₂ (λ (f : Kinds) (w : Walk). free f && free (rest_fault w words)) (turn_next (waiting_held p.0 rows skip) p.0 word plain) moves in
      let ends : finished c (end_of (waits_walk p.0 (waiting_held p.0 rows skip)) (word ∷ words)) ≡ finished c (end_of (idle_walk held) words) =
      ap (λ (w : Walk). finished c (end_of w words)) moves in
      let uses : free (settle_fault c false held) ≡ (not (has p.0 done) && nat_lt 0 (length word)) =
      ap free (settle_next rows skip word p k) ∙ (free_use p word rows ∙ ap (λ (x : Bool). not x && nat_lt 0 (length word)) (ap (has_row p.0) e ∙ has_row_pairs p.0 done)) in
      let later = free (rest_fault (idle_walk held) words) in
      let splits = split_fits _ later _ fits (bad_holds words held oks) uses in
      agrees_as _ _ _ _ _ _ refl ends refl
      (pair_step _ later (finished c (end_of (idle_walk held) words)) done p.0 word (λ now. options_from opts None now words) (is_known_at p.0 p k) splits
      (λ good. idle_holds (done ++ (p.0, word) ∷ []) held (record {
        rows = settled_next rows skip word p k ∙ one_more done p word rows e (new_name (has p.0 done) _ good);
        fits = uses ∙ good;
      })))

  both_hold : (words : List Text) → list_all is_text words ≡ true → IdleHolds words × WaitsHolds words
  unfolding walk_fault options_from Agrees
  both_hold [] ok = (
    λ done h s. at_end (has_required opts done) (free (end_fault h)) (finished (rules_from opts) h) done (free_end done h s) (finished_rows opts _ ∙ s.rows),
    λ done rows skip p e k. bad_end (waiting_held p.0 rows skip) (unsettled rows skip p k),
  )
  both_hold (word ∷ words) ok =
      let parts = and_parts (is_text word) (list_all is_text words) ok in
      let later = both_hold words parts.1 in (
        λ done h s. idle_step words later.0 later.1 done h word (long_of word) s parts.0 refl,
        λ done rows skip p e k. waits_step words parts.1 later.0 done rows skip p word (starts_with_hyphen word) e k parts.0 refl,
      )

  -- what a subcommand's own level refuses and holds
  pub leaf_level : (words : List Text) → list_all is_text words ≡ true
      → Agrees (free (level_fault (leaf name opts) [] nothing_held words false [])) (rows_after (rules_from opts) [] words) (options_from opts None [] words)
  leaf_level words ok = (both_hold words ok).0 [] nothing_held (record { rows = refl; fits = refl })
