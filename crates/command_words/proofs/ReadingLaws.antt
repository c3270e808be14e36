-- What a parse says of the grammar's reading.
use Rattle.std.proofs.Common.{◌≡◌, Bool, true, false, cond, List, [], ◌∷◌, map, Option, Some, None, refl, sym, ap, ◌∙◌, subst, option_map, option_and_then}
use Rattle.std.specs.Prelude.{find, IsNone, IsSome}
use Rattle.std.specs.List.{list_all}
use Rattle.std.specs.Str.{bytes_eq}
use Rattle.clap.specs.Walk.{Row, first_of}
use Rattle.clap.specs.Words.{subcommand_rows_of, fault_of}
use Rattle.clap.specs.declared.parser.matches.ArgMatches.{ArgMatches}
use Rattle.command_words.specs.declared.command.Command.{Command}
use Rattle.command_words.specs.CommandGrammar.{Word, Given, Options, is_word, given_for, value_of}
use Rattle.command_words.specs.Commands.{CommandRule, commands, command_named, asked_of, command_of}
use Rattle.command_words.specs.Parser.{jm_app, AreTaken, taken_rows}
use Rattle.command_words.specs.ArgumentsShown.{asked_by, shown_value, ShowsReading}
use Rattle.command_words.proofs.Stepwise.{entry_of, options_from, pairs_by}
use Rattle.command_words.proofs.OptionLaws.{free, rows_of_pairs, same_text}
use Rattle.command_words.proofs.ProgramLaws.{TopAgrees, words_agree, first_of_pairs, not_shown, free_of_nil, nil_of_free}
use Rattle.command_words.proofs.Agreement.{words_are_texts, options_agree}

-- ---- the table

picked_entry : (b : Bool) (c : CommandRule) (rest : Option CommandRule) (other : Option (Word × Options)) → other ≡ option_map entry_of rest
    → cond b (Some (entry_of c)) other ≡ option_map entry_of (cond b (Some c) rest)
picked_entry true c rest other e = refl
picked_entry false c rest other e = e

entry_is : (word : Word) (cs : List CommandRule) → find (λ c. bytes_eq c.0 word) (map entry_of cs) ≡ option_map entry_of (find (λ c. bytes_eq c.name word) cs)
entry_is word [] = refl
entry_is word (c ∷ cs) = picked_entry (bytes_eq c.name word) c _ _ (entry_is word cs)

name_step : (b : Bool) (c d : CommandRule) (rest : Option CommandRule) (word : Word) → (b ≡ true → c.name ≡ word) → (rest ≡ Some d → d.name ≡ word)
    → cond b (Some c) rest ≡ Some d → d.name ≡ word
name_step true c d rest word here later e = let same : c ≡ d = cc in ap (λ (x : CommandRule). x.name) (sym same) ∙ here refl
name_step false c d rest word here later e = later e

pub name_is : (word : Word) (cs : List CommandRule) (d : CommandRule) → find (λ c. bytes_eq c.name word) cs ≡ Some d → d.name ≡ word
name_is word [] d e = cc
name_is word (c ∷ cs) d e = name_step (bytes_eq c.name word) c d _ word (same_text c.name word) (name_is word cs d) e

-- ---- the two readings

abbrev named_given : CommandRule × Given → Word × Given
named_given q = (q.0.name, q.1)

paired : (c : CommandRule) (given : Option Given) → option_map (λ ps. (c.name, ps)) given ≡ option_map named_given (option_map (λ g. (c, g)) given)
paired c None = refl
paired c (Some given) = refl

pairs_step : (words : List Word) (o : Option CommandRule)
    → option_and_then (λ e. option_map (λ ps. (e.0, ps)) (options_from e.1 None [] words)) (option_map entry_of o)
    ≡ option_map named_given (option_and_then (λ c. option_map (λ given. (c, given)) (given_for c.options words)) o)
pairs_step words None = refl
pairs_step words (Some c) = ap (λ (o : Option Given). option_map (λ ps. (c.name, ps)) o) (options_agree c.options words) ∙ paired c (given_for c.options words)

pairs_are : (words : List Word) → pairs_by words ≡ option_map named_given (asked_by words)
pairs_are [] = refl
pairs_are (word ∷ words) =
    ap (λ (o : Option (Word × Options)). option_and_then (λ e. option_map (λ ps. (e.0, ps)) (options_from e.1 None [] words)) o) (entry_is word commands)
    ∙ pairs_step words (command_named word)

-- ---- a command that was asked for is in the table

same_command : (c : CommandRule) (given : Option Given) (q : CommandRule × Given) → option_map (λ g. (c, g)) given ≡ Some q → q.0 ≡ c
same_command c None q e = cc
same_command c (Some given) q e = let same : (c, given) ≡ q = cc in ap (λ (x : CommandRule × Given). x.0) (sym same)

listed_step : (word : Word) (words : List Word) (q : CommandRule × Given) (o : Option CommandRule) → command_named word ≡ o
    → option_and_then (λ c. option_map (λ given. (c, given)) (given_for c.options words)) o ≡ Some q → command_named q.0.name ≡ Some q.0
listed_step word words q None named e = cc
listed_step word words q (Some c) named e =
    let here : command_named c.name ≡ Some c = ap command_named (name_is word commands c named) ∙ named in
    subst (λ d. command_named d.name ≡ Some d) (sym (same_command c (given_for c.options words) q e)) here

listed : (words : List Word) (q : CommandRule × Given) → asked_by words ≡ Some q → command_named q.0.name ≡ Some q.0
listed [] q e = cc
listed (word ∷ words) q e = listed_step word words q (command_named word) refl e

-- ---- what matches show

found_pairs : (fits : Bool) (rows : Option (Word × List Row)) (q : CommandRule × Given) → TopAgrees fits rows (Some (named_given q)) → rows ≡ Some (q.0.name, rows_of_pairs q.1)
unfolding TopAgrees
found_pairs fits rows q h = h.1

is_refused : (rows : Option (Word × List Row)) → TopAgrees true rows None → ⊥
unfolding TopAgrees
is_refused rows h = let bad : true ≡ false = h in absurd cc

reading_step : (words : List Word) (rows : Option (Word × List Row)) (o : Option (CommandRule × Given)) → asked_by words ≡ o
    → TopAgrees true rows (option_map named_given o)
    → (q : CommandRule × Given) × (asked_by words ≡ Some q) × (rows ≡ Some (q.0.name, rows_of_pairs q.1))
reading_step words rows None e h = absurd (is_refused rows h)
reading_step words rows (Some q) e h = (q, e, found_pairs true rows q h)

-- matches over the rows that are taken show the reading
pub shows_reading : (m : ArgMatches) (words : List Word) → list_all is_word words ≡ true → AreTaken words × (subcommand_rows_of m ≡ taken_rows words) → ShowsReading m words
shows_reading m words are h =
    let agree : TopAgrees (free (fault_of jm_app words)) (taken_rows words) (pairs_by words) = words_agree words (sym (words_are_texts words) ∙ are) in
    let now : TopAgrees true (taken_rows words) (option_map named_given (asked_by words)) =
    subst (λ (o : Option (Word × Given)). TopAgrees true (taken_rows words) o) (pairs_are words)
    (subst (λ (b : Bool). TopAgrees b (taken_rows words) (pairs_by words)) (free_of_nil _ h.0) agree) in
    let read = reading_step words (taken_rows words) (asked_by words) refl now in
    let rows : subcommand_rows_of m ≡ Some (read.0.0.name, rows_of_pairs read.0.1) = h.1 ∙ read.2 in (
      read.0,
      read.1,
      record {
        listed = listed words read.0 read.1;
        name = ap (λ (o : Option (Word × List Row)). option_map (λ p. p.0) o) rows;
        values = λ name. ap (λ (o : Option (Word × List Row)). option_and_then (λ p. first_of name p.1) o) rows ∙ first_of_pairs name read.0.1;
      },
    )

none_asked : (o : Option (CommandRule × Given)) → option_map named_given o ≡ None → o ≡ None
none_asked None e = refl
none_asked (Some q) e = cc

-- words that are not taken are not in the grammar
pub not_asked : (words : List Word) → list_all is_word words ≡ true → ¬ (AreTaken words) → asked_by words ≡ None
not_asked words are refused =
    let none : pairs_by words ≡ None =
    not_shown (taken_rows words) (pairs_by words) (free (fault_of jm_app words)) (λ f. refused (nil_of_free _ f)) (words_agree words (sym (words_are_texts words) ∙ are)) in
    none_asked (asked_by words) (sym (pairs_are words) ∙ none)

-- ---- the command

abbrev meant_by : CommandRule × Given → Option Command
meant_by q = q.0.meaning (value_of q.1)

meant : (c : CommandRule) (given : Option Given)
    → option_and_then (λ g. c.meaning (value_of g)) given ≡ option_and_then meant_by (option_map (λ g. (c, g)) given)
meant c None = refl
meant c (Some given) = refl

asked_step : (words : List Word) (o : Option CommandRule)
    → option_and_then (λ c. option_and_then (λ given. c.meaning (value_of given)) (given_for c.options words)) o
    ≡ option_and_then meant_by (option_and_then (λ c. option_map (λ given. (c, given)) (given_for c.options words)) o)
asked_step words None = refl
asked_step words (Some c) = meant c (given_for c.options words)

asked_is : (words : List Word) → asked_of words ≡ option_and_then meant_by (asked_by words)
asked_is [] = refl
asked_is (word ∷ words) = asked_step words (command_named word)

of_words : (words : List Word) → list_all is_word words ≡ true → command_of words ≡ asked_of words
of_words words are = ap (λ (b : Bool). cond b (asked_of words) None) are

-- the answer by what the matches show is the grammar's
pub answer_is : (m : ArgMatches) (words : List Word) (answer : Option Command) → list_all is_word words ≡ true → (shown : ShowsReading m words)
    → shown.0.0.meaning (shown_value m) ≡ answer → command_of words ≡ answer
answer_is m words answer are shown e =
    let values : shown_value m ≡ value_of shown.0.1 = λ i name. shown.2.values name i in
    of_words words are
    ∙ (asked_is words
    ∙ (ap (λ (o : Option (CommandRule × Given)). option_and_then meant_by o) shown.1
    ∙ (ap shown.0.0.meaning (sym values) ∙ e)))

-- words that give nothing are not a command line
pub no_answer : (words : List Word) → list_all is_word words ≡ true → asked_by words ≡ None → command_of words ≡ None
no_answer words are none =
    of_words words are ∙ (asked_is words ∙ ap (λ (o : Option (CommandRule × Given)). option_and_then meant_by o) none)

pub is_some_not_none : (command : Command) (o : Option Command) → o ≡ Some command → IsNone o → false ≡ true
is_some_not_none command None e none = cc
is_some_not_none command (Some other) e none = cc

pub is_none_not_some : (o : Option Command) → o ≡ None → IsSome o → ⊥
is_none_not_some None e some = cc
is_none_not_some (Some command) e some = cc
