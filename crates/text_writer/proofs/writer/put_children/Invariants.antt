-- `text_writer::writer::put_children` meets its contract. The invariant: the first k children are written.
use Prim.Native.Nat.{◌+◌, ◌*◌, ◌≤◌}
use lib.ListN.{take}
use Rattle.text.specs.Syntax.{print_forms}
use Rattle.text.specs.Write.{line_forms}
use Rattle.text_writer.specs.Sink.{Wrote}
use Rattle.text_writer.proofs.writer.put_children.Given as goal

abbrev pub invariant-loop-k : goal.invariant-loop-k
invariant-loop-k l =
    (l.p ≤ l.at + 36 * l.k) × Wrote l.initial.d l.at l.d l.p (print_forms (line_forms (take l.k l.nodes)))
