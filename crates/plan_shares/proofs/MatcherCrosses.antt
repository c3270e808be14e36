-- What searches for a regular expression holds no cell either, so it may go to another thread with what it has learnt: each part by its own search.
use denote.Ref.{NamedLft}
use denote.Param.Send.{IsSend, sendable}
use denote.Param.SendFields.{declared_send}
use Rattle.std.proofs.Crossing.{crosses, Vec-send, Vec-sync, Box-send}
use Rattle.std.proofs.MapsCrossing.{String-sync}
use Rattle.regex.specs.contracts.string.matcher.Matcher as matcher
use Rattle.regex.specs.contracts.engine.Engine as engine
use Rattle.regex_meta.specs.contracts.searcher.Searcher as searcher
use Rattle.regex_meta.specs.contracts.searcher.apart.Apart as apart
use Rattle.regex_meta.specs.contracts.branches.Branches as branches
use Rattle.regex_meta.specs.contracts.branch.Branch as branch
use Rattle.regex_meta.specs.contracts.branch.Means as means
use Rattle.regex_meta.proofs.branch.Tail.TheSendSync as tail
use Rattle.regex_meta.proofs.head.Head.TheSendSync as head
use Rattle.regex_meta.proofs.pace.Pace.TheSendSync as pace
use Rattle.regex_meta.proofs.gait.Gait.TheSendSync as gait
use Rattle.regex_meta.proofs.choice.Choice.TheSendSync as choice
use Rattle.regex_nfa.proofs.nfa.Nfa.TheSendSync as nfa
use Rattle.regex_dfa.proofs.forward.Forward.TheSendSync as forward
use Rattle.regex_dfa.proofs.reverse.Reverse.TheSendSync as reverse
use Rattle.regex_tagged.proofs.search.Tagged.TheSendSync as tagged
use Rattle.regex_bits.proofs.build.Bits.TheSendSync as bits
use Rattle.regex_vm.proofs.pikevm.PikeVm.TheSendSync as pikevm
use Rattle.regex_vm.proofs.backtrack.Backtracker.TheSendSync as backtracker
use Rattle.regex_literal.proofs.caseless.Room.TheSendSync as room
use Rattle.plan_shares.proofs.RegexCrosses.{hir_sync, signs_sync, program_sync}

pub means_send : (a : NamedLft) → IsSend (means.the_row a)
means_send a = search (nfa.the_sync, sendable) depth 30

pub branch_send : (a : NamedLft) → IsSend (branch.the_row a)
branch_send a = declared_send (branch.the_type a) (search (hir_sync, sendable) depth 20, (search (hir_sync, sendable) depth 20, (search sendable depth 20, (search (head.the_send, Box-send, sendable) depth 40, (search (tail.the_send, Box-send, sendable) depth 40, (search sendable depth 20, (search sendable depth 20, tt)))))))

pub branches_send : (a : NamedLft) → IsSend (branches.the_row a)
branches_send a = declared_send (branches.the_type a) (search (hir_sync, sendable) depth 20, (search (signs_sync, sendable) depth 20, (search (Vec-send, branch_send a, sendable) depth 20, (search sendable depth 20, (means_send a, (search sendable depth 20, tt))))))

pub apart_send : (a : NamedLft) → IsSend (apart.the_row a)
apart_send a = declared_send (apart.the_type a) (branches_send a, (room.the_send, (choice.the_send, tt)))

pub searcher_send : (a : NamedLft) → IsSend (searcher.the_row a)
searcher_send a = declared_send (searcher.the_type a) (
  search (program_sync, sendable) depth 20,
  (
    search (crosses, sendable) depth 20,
    (
      forward.the_send,
      (
        forward.the_send,
        (
          reverse.the_send,
          (
            tagged.the_send,
            (
              search (bits.the_send, sendable) depth 40,
              (
                search sendable depth 20,
                (
                  pikevm.the_send,
                  (
                    backtracker.the_send,
                    (
                      pace.the_send,
                      (
                        gait.the_send,
                        (search (head.the_send, Box-send, sendable) depth 40, (search sendable depth 20, (search (apart_send, crosses, sendable) depth 60, (search sendable depth 20, tt)))),
                      ),
                    ),
                  ),
                ),
              ),
            ),
          ),
        ),
      ),
    ),
  ),
)

pub engine_send : (a : NamedLft) → IsSend (engine.the_row a)
engine_send a = declared_send (engine.the_type a) (search (String-sync, sendable, crosses) depth 20, (searcher_send a, (search (Vec-send, sendable) depth 20, tt)))

pub matcher_send : (a : NamedLft) → IsSend (matcher.the_row a)
matcher_send a = declared_send (matcher.the_type a) (engine_send a, tt)
