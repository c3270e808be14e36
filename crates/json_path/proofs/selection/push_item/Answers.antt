use Rattle.std.proofs.Common.{◌++◌, ap, sym, ◌∙◌}
use Rattle.std.proofs.lemmas.List.{map_push}
use Rattle.serde_json.specs.View.{view}
use Rattle.json_path.specs.JsonViews.{data_of}
use Rattle.json_path.proofs.SelectionLaws.{item_at_within, item_at_past, append-nil}
use Rattle.json_path.proofs.selection.push_item.Goals as goal

pub returns-in_ok-push : goal.returns-in_ok-push
returns-in_ok-push c =
    ap data_of c.in_ok-push.ensures.items ∙ map_push (λ r. view r.now) c.args.reached.now.items _
    ∙ ap (λ x. data_of c.args.reached.now.items ++ x) (sym (item_at_within c.args.items.now c.args.place c.index-items-place.result c.if-place-items.true c.index-items-place.is))

pub returns-else-place-items : goal.returns-else-place-items
returns-else-place-items c =
    sym (append-nil (data_of c.args.reached.now.items)) ∙ ap (λ x. data_of c.args.reached.now.items ++ x) (sym (item_at_past c.args.items.now c.args.place c.if-place-items.false))
