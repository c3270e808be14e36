-- What `clap` reads of the words is what the grammar gives.
use Rattle.std.proofs.Common.{◌≡◌, Bool, true, false, ◌&&◌, ◌||◌, cond, List, [], ◌∷◌, ◌++◌, map, Option, Some, None, fold, refl, sym, ap, ap₂, ◌∙◌, rules, codes, option_map, option_and_then, append_assoc, append-nil, subst}
use Rattle.std.specs.Prelude.{is_some, find, slice_get}
use Rattle.std.specs.List.{list_all}
use Rattle.std.specs.Str.{bytes_eq}
use Rattle.std.proofs.lemmas.Bool.{and_parts}
use Rattle.clap.specs.Lexer.{long_of}
use Rattle.clap.specs.Walk.{Row, Rule, Text, Walk, Names, answers_to, walked, walk, walk_from, nothing_held, first_of, finished, settled, rows_after}
use Rattle.clap.specs.Simple.{Shape, built, label_of, names_of, subcommand_of, entered, is_simple}
use Rattle.clap.specs.Words.{App}
use Rattle.clap.specs.Kinds.{Kinds, or_else}
use Rattle.clap.specs.Faults.{turn_fault, walk_fault, level_fault, fault_of, entered_fault, settle_fault, defaults_fault, check_fault}
use Rattle.clap.proofs.FaultLemmas.{stopped_fault}
use Rattle.command_words.specs.Parser.{jm_app, AreTaken, taken_rows}
use Rattle.command_words.specs.CommandGrammar.{Options, Given}
use Rattle.command_words.proofs.Stepwise.{options_from, is_text, entries, entry_named, pairs_by, pair_of}
use Rattle.command_words.proofs.OptionLaws.{leaf, rules_from, rows_of_pairs, row_of_pair, free, leaf_level, Agrees, not_dashes, plain_start, plain_word_is, same_text}

-- the built command
abbrev leaves : List (Text × Options) → List Shape
leaves cs = map (λ c. leaf c.0 c.1) cs

abbrev top : Shape
top = (built jm_app).top

subs_are : (built jm_app).subs ≡ leaves entries
subs_are = refl

no_rules : top.rules ≡ []
no_rules = refl

picked_name : (b : Bool) (c : Text × Options) (rest : Option (Text × Options)) (found : Option (Text × List Text)) → found ≡ option_map (λ d. (d.0, [])) rest
    → cond (b || false) (Some (c.0, [])) found ≡ option_map (λ d. (d.0, [])) (cond b (Some c) rest)
picked_name true c rest found e = refl
picked_name false c rest found e = e

named : (word : Text) (cs : List (Text × Options)) → find (answers_to word) (map label_of (leaves cs)) ≡ option_map (λ c. (c.0, [])) (find (λ c. bytes_eq c.0 word) cs)
named word [] = refl
named word (c ∷ cs) = picked_name (bytes_eq c.0 word) c _ _ (named word cs)

picked_leaf : (b : Bool) (c : Text × Options) (rest : Option (Text × Options)) (found : Option Shape) → found ≡ option_map (λ d. leaf d.0 d.1) rest
    → cond (b || false) (Some (leaf c.0 c.1)) found ≡ option_map (λ d. leaf d.0 d.1) (cond b (Some c) rest)
picked_leaf true c rest found e = refl
picked_leaf false c rest found e = e

entered_leaf : (name : Text) (cs : List (Text × Options)) → find (λ s. answers_to name (label_of s)) (leaves cs) ≡ option_map (λ c. leaf c.0 c.1) (find (λ c. bytes_eq c.0 name) cs)
entered_leaf name [] = refl
entered_leaf name (c ∷ cs) = picked_leaf (bytes_eq c.0 name) c _ _ (entered_leaf name cs)

-- the walk after a subcommand was met
stop_end : (rules : List Rule) (names : Names) (w : Walk) (name : Text) (acc words : List Text)
    → fold (walked rules names) (record w { stopped = Some (name, acc) }) words ≡ record w { stopped = Some (name, acc ++ words) }
unfolding walked
stop_end rules names w name acc [] = ap (λ (t : List Text). record w { stopped = Some (name, t) }) (sym (append-nil acc))
stop_end rules names w name acc (word ∷ words) =
    stop_end rules names w name (acc ++ word ∷ []) words
    ∙ ap (λ (t : List Text). record w { stopped = Some (name, t) }) (append_assoc acc (word ∷ []) words)

unfoldable pub TopAgrees : Bool → Option (Text × List Row) → Option (Text × Given) → Type 0
TopAgrees fits found None = fits ≡ false
TopAgrees fits found (Some q) = (fits ≡ true) × (found ≡ Some (q.0, rows_of_pairs q.1))

abbrev start : Walk
start = walk_from nothing_held

-- the first word is not a command
stray_word : (word : Text) (o : Option (Text × Option Text)) → is_text word ≡ true → long_of word ≡ o → entry_named word ≡ None
    → free (turn_fault top (names_of (built jm_app)) start word) ≡ false
stray_word word None ok e none =
    let plain = plain_word_is word (plain_start word ok e) in
    rw (named word entries, none, plain.dashes, plain.long, plain.short) refl
stray_word word (Some q) ok e none = rw (named word entries, none, not_dashes word q e, e) refl

no_help : (b : Bool) (k : Kinds) → or_else (cond (b && false) k []) [] ≡ []
no_help true k = refl
no_help false k = refl

-- the first word is a command
met_turn : (word : Text) (c : Text × Options) → entry_named word ≡ Some c → turn_fault top (names_of (built jm_app)) start word ≡ []
met_turn word c e = rw (named word entries, e) (no_help (bytes_eq c.0 (codes "help")) _)

met_walk : (word : Text) (c : Text × Options) → entry_named word ≡ Some c → walked top.rules (names_of (built jm_app)) start word ≡ record start { stopped = Some (c.0, []) }
unfolding walked
met_walk word c e = rw (named word entries, e) refl

abbrev subs_names : Names
subs_names = names_of (built jm_app)

-- what follows the walk
abbrev rest_of : Bool → Kinds → Walk → Kinds
rest_of has below w = or_else below (or_else (settle_fault top.rules false w.held) (or_else (defaults_fault (settled top.rules w.held).rows top.rules) (check_fault top (finished top.rules w.held) has)))

first_refused : (a b : Kinds) → free a ≡ false → free (or_else a b) ≡ false
first_refused [] b e = absurd cc
first_refused (k ∷ ks) b e = refl

or_else-nil : (a : Kinds) → or_else a [] ≡ a
or_else-nil [] = refl
or_else-nil (k ∷ ks) = refl

-- a level whose first word is refused
refused_level : (word : Text) (words : List Text) (has : Bool) (below : Kinds) → free (turn_fault top subs_names start word) ≡ false
    → free (level_fault top subs_names nothing_held (word ∷ words) has below) ≡ false
unfolding walk_fault
refused_level word words has below bad =
    let turn = turn_fault top subs_names start word in
    let later = walk_fault top subs_names (walked top.rules subs_names start word) words in
    first_refused (or_else turn later) (rest_of has below (walk top.rules subs_names nothing_held (word ∷ words))) (first_refused turn later bad)

found_step : (b : Bool) (c d : Text × Options) (rest : Option (Text × Options)) (name : Text) → (b ≡ true → c.0 ≡ name) → (rest ≡ Some d → d.0 ≡ name)
    → cond b (Some c) rest ≡ Some d → d.0 ≡ name
found_step true c d rest name here later e = let same : c ≡ d = cc in ap (λ (x : Text × Options). x.0) (sym same) ∙ here refl
found_step false c d rest name here later e = later e

found_name : (name : Text) (cs : List (Text × Options)) (d : Text × Options) → find (λ c. bytes_eq c.0 name) cs ≡ Some d → d.0 ≡ name
found_name name [] d e = cc
found_name name (c ∷ cs) d e = found_step (bytes_eq c.0 name) c d _ name (same_text c.0 name) (found_name name cs d) e

module _ (c : Text × Options) (words : List Text) (e : entry_named c.0 ≡ Some c) where
  walk_end : walk top.rules subs_names nothing_held (c.0 ∷ words) ≡ record start { stopped = Some (c.0, words) }
  walk_end = ap (λ (w : Walk). fold (walked top.rules subs_names) w words) (met_walk c.0 c e) ∙ stop_end top.rules subs_names start c.0 [] words

  walk_free : walk_fault top subs_names start (c.0 ∷ words) ≡ []
  unfolding walk_fault
  walk_free = ap₂ (λ (k : Kinds) (w : Walk). or_else k (walk_fault top subs_names w words)) (met_turn c.0 c e) (met_walk c.0 c e)
      ∙ stopped_fault top subs_names start (c.0, []) words

  enters : entered (built jm_app) (Some (c.0, words)) ≡ Some (c.0, rows_after (rules_from c.1) [] words)
  enters = rw (entered_leaf c.0 entries, e) refl

  fails : entered_fault (built jm_app) (Some (c.0, words)) ≡ level_fault (leaf c.0 c.1) [] nothing_held words false []
  fails = rw (entered_leaf c.0 entries, e) refl

  found : subcommand_of jm_app (c.0 ∷ words) ≡ Some (c.0, rows_after (rules_from c.1) [] words)
  found = ap (λ (w : Walk). entered (built jm_app) w.stopped) walk_end ∙ enters

  faults : fault_of jm_app (c.0 ∷ words) ≡ level_fault (leaf c.0 c.1) [] nothing_held words false []
  unfolding defaults_fault
  faults =
      ap₂ (λ (k : Kinds) (w : Walk). or_else k (rest_of (is_some (entered (built jm_app) w.stopped)) (entered_fault (built jm_app) w.stopped) w)) walk_free walk_end
      ∙ (ap₂ (λ (k : Kinds) (o : Option (Text × List Row)). or_else k (check_fault top [] (is_some o))) fails enters
      ∙ or_else-nil _)

lift : (name : Text) (opts : Options) (fits : Bool) (rows : List Row) (o : Option Given) → Agrees name opts fits rows o
    → TopAgrees fits (Some (name, rows)) (option_map (λ ps. (name, ps)) o)
unfolding Agrees TopAgrees
lift name opts fits rows None h = h
lift name opts fits rows (Some ps) h = (h.0, ap (λ (r : List Row). Some (name, r)) h.1)

agrees_top : (f g : Bool) (x y : Option (Text × List Row)) (o p : Option (Text × Given)) → f ≡ g → x ≡ y → o ≡ p → TopAgrees g y p → TopAgrees f x o
agrees_top f g x y o p a b e h = rw (a, b, e) h

first_word : (word : Text) (words : List Text) (o : Option (Text × Options)) → is_text word ≡ true → list_all is_text words ≡ true → entry_named word ≡ o
    → TopAgrees (free (fault_of jm_app (word ∷ words))) (subcommand_of jm_app (word ∷ words)) (option_and_then (λ c. option_map (λ ps. (c.0, ps)) (options_from c.1 None [] words)) o)
unfolding TopAgrees
first_word word words None ok oks e = refused_level word words _ _ (stray_word word (long_of word) ok refl e)
first_word word words (Some c) ok oks e =
    let same : c.0 ≡ word = found_name word entries c e in
    let here : entry_named c.0 ≡ Some c = ap entry_named same ∙ e in
    agrees_top _ _ _ _ _ _
    (ap (λ (w : Text). free (fault_of jm_app (w ∷ words))) (sym same) ∙ ap free (faults c words here))
    (ap (λ (w : Text). subcommand_of jm_app (w ∷ words)) (sym same) ∙ found c words here)
    refl
    (lift c.0 c.1 _ _ (options_from c.1 None [] words) (leaf_level c.0 c.1 words oks))

-- the words are refused exactly where they aren't in the grammar, and else give what it gives
pub words_agree : (words : List Text) → list_all is_text words ≡ true → TopAgrees (free (fault_of jm_app words)) (subcommand_of jm_app words) (pairs_by words)
unfolding TopAgrees walk_fault defaults_fault
words_agree [] ok = refl
words_agree (word ∷ words) ok =
    let parts = and_parts (is_text word) (list_all is_text words) ok in
    first_word word words (entry_named word) parts.0 parts.1 refl

-- the value of an option
value_step : (b : Bool) (p : Text × Text) (row : Option Row) (rest : Option (Text × Text)) → option_and_then (λ r. slice_get r.values 0) row ≡ option_map (λ q. q.1) rest
    → option_and_then (λ r. slice_get r.values 0) (cond b (Some (row_of_pair p)) row) ≡ option_map (λ q. q.1) (cond b (Some p) rest)
value_step true p row rest e = refl
value_step false p row rest e = e

pub first_of_pairs : (name : Text) (ps : Given) → first_of name (rows_of_pairs ps) ≡ pair_of name ps
first_of_pairs name [] = refl
first_of_pairs name (p ∷ ps) = value_step (bytes_eq p.0 name) p _ _ (first_of_pairs name ps)

-- words that are refused are not in the grammar
pub not_shown : (rows : Option (Text × List Row)) (o : Option (Text × Given)) (fits : Bool) → (fits ≡ true → ⊥) → TopAgrees fits rows o → o ≡ None
unfolding TopAgrees
not_shown rows None fits e h = refl
not_shown rows (Some q) fits e h = absurd (e h.0)

pub free_of_nil : (k : Kinds) → k ≡ [] → free k ≡ true
free_of_nil k e = ap free e

pub nil_of_free : (k : Kinds) → free k ≡ true → k ≡ []
nil_of_free [] e = refl
nil_of_free (x ∷ xs) e = absurd cc

program_is_simple : is_simple jm_app ≡ true
program_is_simple = refl

pub taken : (a : App) (words : List Text) (rows : Option (Text × List Row)) → a ≡ jm_app → (fault_of a words ≡ []) × (is_simple a ≡ true → rows ≡ subcommand_of a words)
    → AreTaken words × (rows ≡ taken_rows words)
taken a words rows same h =
    let now = subst (λ x. (fault_of x words ≡ []) × (is_simple x ≡ true → rows ≡ subcommand_of x words)) same h in
    (now.0, now.1 program_is_simple)

pub refused : (a : App) (words : List Text) → a ≡ jm_app → ¬ (fault_of a words ≡ []) → ¬ (AreTaken words)
refused a words same h = subst (λ x. ¬ (fault_of x words ≡ [])) same h
