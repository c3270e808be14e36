use Rattle.std.proofs.Common.{◌≡◌, ◌+◌, ◌*◌, ◌-◌, ◌≤◌, [], ◌∷◌, length, drop, All}
use Rattle.jm_base.specs.Outside.{Goes}
use Rattle.template_text.specs.View.{pieces_of, arguments_of, weight, arguments_weight}
use Rattle.thread_vars.specs.Vars.{most_text}
use Rattle.var_functions.specs.FunctionState.{IsLater}
use Rattle.var_functions.specs.Expansion.{after_pieces, after_texts}
use Rattle.var_functions.specs.Stops.{Moment, moment, StopsIn, StopsInTexts}
use Rattle.var_functions.proofs.expansion.+expansion.Given as goal

abbrev pub invariant-write_pieces-loop-piece : goal.invariant-write_pieces-loop-piece
invariant-write_pieces-loop-piece g l = record {
  all : pieces_of l.piece-items ≡ l.template;
  short : length l.out.items ≤ most_text;
  goes : Goes (g.O.Outside.account l.fn.outside) (after_pieces l.template l.vars l.fn.out.items l.fn.fns) []
      (after_pieces (pieces_of (drop l.piece-index l.piece-items)) l.vars l.out.items l.fns) (g.O.Outside.account l.outside);
  later : IsLater l.fn.fns l.fns;
  stops : (to : Moment) → StopsIn (pieces_of (drop l.piece-index l.piece-items)) l.vars l.out.items (moment l.fns (g.O.Outside.account l.outside)) to
      → StopsIn l.template l.vars l.fn.out.items (moment l.fn.fns (g.O.Outside.account l.fn.outside)) to;
}

abbrev pub invariant-argument_texts-loop-argument : goal.invariant-argument_texts-loop-argument
invariant-argument_texts-loop-argument g l = record {
  short : All (λ t. length t ≤ most_text) l.texts.items;
  goes : Goes (g.O.Outside.account l.fn.outside) (after_texts (arguments_of l.args) l.vars [] l.fn.fns) []
      (after_texts (arguments_of (drop l.argument-index l.args)) l.vars l.texts.items l.fns) (g.O.Outside.account l.outside);
  later : IsLater l.fn.fns l.fns;
  stops : (to : Moment) → StopsInTexts (arguments_of (drop l.argument-index l.args)) l.vars (moment l.fns (g.O.Outside.account l.outside)) to
      → StopsInTexts (arguments_of l.args) l.vars (moment l.fn.fns (g.O.Outside.account l.fn.outside)) to;
}

-- an argument weighs no more than all of them, and a call weighs more than its arguments
abbrev pub decreases-write_pieces : goal.decreases-write_pieces
decreases-write_pieces g l = 5 * weight l.template.now

abbrev pub decreases-argument_texts : goal.decreases-argument_texts
decreases-argument_texts g l = 5 * arguments_weight (arguments_of l.args.now) + 2

abbrev pub decreases-argument_text : goal.decreases-argument_text
decreases-argument_text g l = 5 * weight l.argument.now + 1

abbrev pub decreases-write_called : goal.decreases-write_called
decreases-write_called g l = 5 * arguments_weight (arguments_of l.args.now) + 3

abbrev pub decreases-write_piece : goal.decreases-write_piece
decreases-write_piece g l = 5 * weight (pieces_of (l.piece.now ∷ [])) - 1
