use Rattle.std.proofs.Common.{◌≡◌, ℕ, ◌<◌, ◌++◌, length, take}
use Rattle.trace_output.specs.Texts.{trace_text}
use Rattle.trace_output.proofs.results.add_lines.Given as goal

-- the lines of the items so far are there, and before each of them the text wasn't full
abbrev pub invariant-items : goal.invariant-items
invariant-items l = record {
  same : l.lines ≡ l.fn.lines;
  there : l.out.items ≡ l.fn.out.items ++ trace_text l.fn.lines.plan l.fn.lines.thread (take l.count l.items);
  room : (k : ℕ) → k < l.count → length (l.fn.out.items ++ trace_text l.fn.lines.plan l.fn.lines.thread (take k l.items)) < l.most;
}
