use Rattle.std.proofs.Common.{◌==◌, rules}
use borrow.Author.Tests.{tests}
use Rattle.std.proofs.lemmas.Iterator.Search.{all_from_yields_List}
use Rattle.std.proofs.lemmas.Iterator.Splits.{YieldsList-from_slice_split}
use Rattle.form_urlencoded.specs.Form.{ampersand}
use Rattle.var_functions.specs.RunProps.{is_pair}
use Rattle.var_functions.proofs.props.each_is_pair.Goals as goal

pub returns : goal.returns
returns c =
    all_from_yields_List is_pair _ _ _ c.all.ensures.ran
    (YieldsList-from_slice_split _ (λ b. b == ampersand) c.args.text.now c.split.ensures.rest c.split.ensures.done c.split.ensures.closure (λ x b q k. search (rules, tests)))
    (λ x b q k. search (rules, tests))
