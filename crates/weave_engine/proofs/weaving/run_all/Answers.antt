use Rattle.std.proofs.Common.{arith}
use Rattle.jm_meaning.specs.Beginning.{Options}
use Rattle.weave_engine.specs.Seats.{first_outside}
use Rattle.weave_engine.specs.Woven.{at_start, numbers_of}
use Rattle.weave_engine.proofs.WovenLaws.{scheduled, settled, closed, woven, partition, keep}
use Rattle.weave_engine.proofs.FollowLaws.{all_follow, all_closed}
use Rattle.weave_engine.proofs.weaving.run_all.Goals as goal

pub all_tokens-requires-clause-runs : goal.all_tokens-requires-clause-runs
all_tokens-requires-clause-runs c =
    let options : Options = record { seed = c.args.seed; props = c.args.props.now; budget = c.args.budget } in
    (numbers_of c.args.plan.now options, at_start c.args.plan.now options, c.in_ok-beginning.ensures.runs)

pub run_out-requires-clause-few : goal.run_out-requires-clause-few
run_out-requires-clause-few c =
    let before = scheduled c.in_ok-beginning.ensures c.tokens.ensures c.in_ok-all_tokens.ensures.runs in
    omega (arith, c.in_ok-beginning.ensures.few, before.count)

pub run_out-requires-clause-runs : goal.run_out-requires-clause-runs
run_out-requires-clause-runs c =
    let options : Options = record { seed = c.args.seed; props = c.args.props.now; budget = c.args.budget } in
    let before = scheduled c.in_ok-beginning.ensures c.tokens.ensures c.in_ok-all_tokens.ensures.runs in
    (numbers_of c.args.plan.now options, before.state, before.runs)

pub close_open-requires-clause-runs : goal.close_open-requires-clause-runs
close_open-requires-clause-runs c =
    let options : Options = record { seed = c.args.seed; props = c.args.props.now; budget = c.args.budget } in
    let before = settled (scheduled c.in_ok-beginning.ensures c.tokens.ensures c.in_ok-all_tokens.ensures.runs) c.in_ok-run_out.ensures.runs c.in_ok-run_out.ensures.count in
    (numbers_of c.args.plan.now options, before.state, before.runs.runs)

pub join_all-requires-clause-few : goal.join_all-requires-clause-few
join_all-requires-clause-few c =
    let before = settled (scheduled c.in_ok-beginning.ensures c.tokens.ensures c.in_ok-all_tokens.ensures.runs) c.in_ok-run_out.ensures.runs c.in_ok-run_out.ensures.count in
    omega (arith, c.in_ok-beginning.ensures.few, before.count)

pub join_all-requires-clause-runs : goal.join_all-requires-clause-runs
join_all-requires-clause-runs c =
    let options : Options = record { seed = c.args.seed; props = c.args.props.now; budget = c.args.budget } in
    let rounds = settled (scheduled c.in_ok-beginning.ensures c.tokens.ensures c.in_ok-all_tokens.ensures.runs) c.in_ok-run_out.ensures.runs c.in_ok-run_out.ensures.count in
    let before = closed rounds c.in_ok-close_open.ensures.closes in
    (numbers_of c.args.plan.now options, before.state, before.runs)

pub returns : goal.returns
returns c =
    let plan = c.args.plan.now in
    let options : Options = record { seed = c.args.seed; props = c.args.props.now; budget = c.args.budget } in
    let seats = c.run_out.new.seats.items in
    let reports = c.in_ok-reports.reports.items in
    let rounds = settled (scheduled c.in_ok-beginning.ensures c.tokens.ensures c.in_ok-all_tokens.ensures.runs) c.in_ok-run_out.ensures.runs c.in_ok-run_out.ensures.count in
    let before = closed rounds c.in_ok-close_open.ensures.closes in
    let joins = c.in_ok-join_all.ensures.joined in
    let stand = c.in_ok-run_out.ensures.keeps plan (first_outside plan) options (c.in_ok-all_tokens.ensures.keeps plan (first_outside plan) options c.in_ok-beginning.ensures.stand) in
    record {
      woven = woven before joins reports c.in_ok-reports.ensures.reports;
      follows = all_follow plan options seats before.state.threads before.runs.threads c.in_ok-run_out.ensures.settled stand;
      partition = partition before joins reports c.in_ok-reports.ensures.partition;
      keep = keep before joins reports;
      plans = λ k x there. (stand k x there).0;
      closed = all_closed seats before.state.threads before.runs.threads c.in_ok-run_out.ensures.settled;
      count = before.count;
    }
