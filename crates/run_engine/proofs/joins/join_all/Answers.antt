use Rattle.std.proofs.Common.{◌∙◌, ◌++◌, List, ℕ, map, ap}
use Rattle.std.specs.List.{range_with_len}
use Rattle.phaser_core.specs.declared.view.Joined.{Joined}
use Rattle.recorder_core.specs.RecorderSeats.{reports}
use Rattle.run_engine.specs.Asked.{options_of}
use Rattle.run_engine.specs.Joins.{joined_of}
use Rattle.run_engine.proofs.Closing.{lists_so, numbers_so, keep_so, many, ends_all_so, marks_so}
use Rattle.run_engine.proofs.Joining.{all_joined}
use Rattle.run_engine.proofs.joins.join_all.Goals as goal

pub returns : goal.returns
returns g c =
    let each = c.join_each.ensures in
    let jobs = c.args.jobs.items in let traces = c.join_each.new.traces.items in
    let account = g.W.Out.Outside.account in let r = c.args.recorder.now in
    let plan = c.args.ask.now.plan.now in let options = options_of c.args.ask.now in
    let identity = g.W.World.identity c.args.world.now in let tells = g.W.World.tells c.args.world.now in
    let joined = each.joined ∙ ap (λ (l : List Joined). l ++ map joined_of jobs) c.requires.first in
    record {
      seat = each.seat;
      only = each.only;
      joined = all_joined account r plan options identity tells c.args.count jobs c.requires.jobs c.requires.count.0 (reports c.join_each.new.seat) c.requires.count.1 joined;
      numbers = numbers_so jobs traces each.traces account r plan options identity tells c.args.count c.requires.jobs c.requires.count.0 (reports c.join_each.new.seat) joined;
      lists = lists_so jobs traces each.traces (reports c.join_each.new.seat) joined;
      keep = keep_so jobs traces each.traces account r plan options identity tells c.args.count c.requires.jobs c.requires.count.0;
      ends = (many jobs traces each.traces account r plan options identity tells c.args.count c.requires.jobs c.requires.count.0, ends_all_so jobs traces each.traces account r plan options identity tells c.args.count c.requires.jobs c.requires.count.0);
      marks = marks_so jobs traces each.traces account r plan options identity tells c.args.count c.requires.jobs c.requires.count.0 (reports c.join_each.new.seat) joined;
      taken = each.taken;
      rising = each.rising;
      sections = each.sections;
      labels = each.labels;
      follows = each.follows;
      closed = each.closed ∙ ap (λ (n : ℕ). g.W.World.closed c.args.world.now ++ range_with_len 0 n) c.requires.count.0;
      same = each.same;
    }
