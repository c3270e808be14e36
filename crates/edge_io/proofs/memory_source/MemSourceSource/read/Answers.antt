use Rattle.std.proofs.Common.{◌≡◌, ◌≤◌, ◌+◌, ◌-◌, ◌∙◌, List, ℕ, length, take, drop, arith, ap, sym}
use Rattle.edge_io.specs.Memory.{SourceState}
use Rattle.edge_io.proofs.EdgeLaws.{read_front}
use Rattle.edge_io.proofs.memory_source.MemSourceSource.read.Goals as goal

pub returns-clause-bytes : goal.returns-clause-bytes
returns-clause-bytes c =
    let at : ℕ = c.self.inside.at in
    let items : List ℕ = c.self.inside.bytes.items in
    let n : ℕ = c.min-count.result in
    let copied : c.copy_from_slice.new.self ≡ take ((at + n) - at) (drop at items) = c.copy_from_slice.ensures.after ∙ ap (λ (l : List ℕ). take ((at + n) - at) (drop at l)) c.deref-2.ensures.value in
    let within : n ≤ length items - at = omega (arith, c.min-count.ensures, c.deref.ensures.len, c.deref.ensures.value, c.self.inside.bytes.ok.0) in
    read_front items c.args.into.now c.args.self.now.left c.copy_from_slice.new.self at n (sym (ap (λ (s : SourceState). s.left) c.self.view_is)) copied within
