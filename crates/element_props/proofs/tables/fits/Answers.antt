use Rattle.std.proofs.Common.{◌==◌, rules, length}
use borrow.Author.Tests.{tests}
use Rattle.std.proofs.Common.{◌<◌}
use Rattle.std.proofs.lemmas.Bool.{lt-ltb}
use Rattle.std.proofs.lemmas.List.{length-map}
use Rattle.std.proofs.lemmas.List.Folds.{list_all-map}
use Rattle.std.proofs.lemmas.Iterator.Search.{all_from_yields_List}
use Rattle.std.proofs.lemmas.Iterator.{YieldsList-from_slice}
use Rattle.csv.specs.Records.{fields_of}
use Rattle.element_props.proofs.tables.fits.Goals as goal

pub returns-then-not-is_empty : goal.returns-then-not-is_empty
returns-then-not-is_empty c =
    let all = all_from_yields_List (λ row. length (fields_of row) == c.args.width) _ _ c.all.result c.all.ensures.ran (YieldsList-from_slice c.args.rows.now cc) (λ x b q k. search (rules, tests)) in
    let some : 0 < length c.args.rows.now = search (rules, tests) in
    rw (length-map, list_all-map, lt-ltb 0 (length c.args.rows.now) some) all
