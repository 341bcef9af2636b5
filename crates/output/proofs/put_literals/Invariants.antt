-- `output::put_literals` meets its contract. The invariant: the literals with the variables below v are written.
use Prim.Native.Nat.{◌+◌, ◌*◌, ◌≤◌}
use Rattle.text_writer.specs.Sink.{Wrote}
use Rattle.output.specs.Lines.{literals_text}
use Rattle.output.proofs.put_literals.Given as goal

abbrev pub invariant-loop-v : goal.invariant-loop-v
invariant-loop-v l =
    (l.p ≤ l.start + 40 * l.v) × Wrote l.initial.d l.start l.d l.p (literals_text l.t l.v)
