-- A regular expression holds no cell, so threads may share one: each part by its own search, since one search over the whole ends at its bounds.
use denote.Param.Send.{IsSync, sendable}
use denote.Param.SendFields.{declared_sync}
use Rattle.std.proofs.Crossing.{crosses}
use Rattle.std.proofs.MapsCrossing.{String-sync}
use Rattle.std.proofs.Crossing.{Vec-sync, Box-sync}
use Rattle.regex.specs.contracts.string.regex.Regex as regex
use Rattle.regex.specs.contracts.pattern.Pattern as pattern
use Rattle.regex_meta.specs.contracts.program.Program as program
use Rattle.regex_meta.specs.contracts.plan.Plans as plans
use Rattle.regex_meta.specs.contracts.plan.Plan as plan
use Rattle.regex_meta.specs.contracts.signs.Signs as signs
use Rattle.regex_hir.specs.contracts.hir.Hir as hir
use Rattle.regex_hir.proofs.hir.Hir.TheLaws.TheKnot as knot
use Rattle.regex_dfa.specs.contracts.dfa.Dfa as dfa
use Rattle.regex_dfa.proofs.dfa.Dfa.TheSendSync as dfa_sent
use Rattle.regex_literal.proofs.prefilter.Prefilter.TheSendSync as prefilter
use Rattle.regex_literal.proofs.caseless.Caseless.TheSendSync as caseless
use Rattle.regex_literal.proofs.byte_set.ByteSet.TheSendSync as byte_set
use Rattle.regex_literal.proofs.ladder.Ladder.TheSendSync as ladder
use Rattle.regex_extract.proofs.frames.Frame.TheSendSync as frame
use Rattle.regex_hir.proofs.look.Look.TheSendSync as look
use Rattle.regex_meta.proofs.plan.Role.TheSendSync as role

pub hir_sync : IsSync hir.the_row
hir_sync = search (knot.sync-Hir, look.the_field_sync, Vec-sync, Box-sync, sendable) depth 30

pub dfa_sync : IsSync dfa.the_row
dfa_sync = dfa_sent.the_sync

pub plan_sync : IsSync plan.the_row
plan_sync = search (hir_sync, role.the_field_sync, prefilter.the_sync, ladder.the_field_sync, frame.the_sync, sendable) depth 30

pub plans_sync : IsSync plans.the_row
plans_sync = declared_sync plans.the_type (search (Vec-sync, plan_sync, sendable) depth 20, tt)

pub signs_sync : IsSync signs.the_row
signs_sync = search (hir_sync, caseless.the_sync, Vec-sync, sendable) depth 30

pub program_sync : IsSync program.the_row
program_sync = declared_sync program.the_type (hir_sync, (dfa_sync, (plans_sync, (search (signs_sync, Box-sync, sendable) depth 40, (search (byte_set.the_sync, sendable) depth 40, (search sendable, (search sendable, (search sendable depth 20, tt))))))))

pub pattern_sync : IsSync pattern.the_row
pattern_sync = declared_sync pattern.the_type (String-sync, (search (sendable, crosses) depth 20, (search (String-sync, sendable, crosses) depth 20, (program_sync, tt))))

pub regex_sync : IsSync regex.the_row
regex_sync = declared_sync regex.the_type (pattern_sync, tt)
