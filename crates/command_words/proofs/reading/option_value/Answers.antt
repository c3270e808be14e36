use Rattle.std.proofs.Common.{◌≡◌, ◌∙◌, List, Option, Some, None, option_map, option_and_then, sym, ap}
use Rattle.clap.specs.Words.{Row, Text, first_of, found_of, subcommand_rows_of}
use Rattle.clap.proofs.WalkLemmas.{first_value-rows}
use Rattle.command_words.proofs.reading.option_value.Goals as goal

-- what is read of the rows of a command that was met
read_met : (name : Text) (o : Option (Text × List Row)) (rows : List Row) → Some rows ≡ option_map (λ p. p.1) o
    → option_and_then (λ p. first_of name p.1) o ≡ first_of name rows
read_met name None rows e = cc
read_met name (Some p) rows e = let same : p.1 ≡ rows = cc in ap (first_of name) same

pub returns : goal.returns
returns c =
    c.get_str.ensures ∙ first_value-rows (found_of c.in_ok-inner.inner.now) c.args.name.now ∙ sym (read_met c.args.name.now (subcommand_rows_of c.args.matches.now) _ c.in_ok-inner.ensures.rows)
