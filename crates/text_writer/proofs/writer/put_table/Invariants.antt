-- `text_writer::writer::put_table` meets its contract. The invariant: after the header the lines of the nodes below i are written.
use Prim.Native.Nat.{◌+◌, ◌*◌, ◌≤◌}
use Rattle.text_writer.specs.Sink.{Wrote}
use Rattle.text_writer.proofs.Printing.{node_lines}
use Rattle.text_writer.proofs.writer.put_table.Given as goal

abbrev pub invariant-loop-i : goal.invariant-loop-i
invariant-loop-i l =
    (l.p ≤ 64 + 336 * l.i) × Wrote l.initial.d l.initial.p l.d l.p (node_lines l.words l.i)
