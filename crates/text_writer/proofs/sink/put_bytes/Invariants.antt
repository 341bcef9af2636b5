-- `text_writer::sink::put_bytes` meets its contract. The invariant: the bytes before this one are written.
use Prim.Native.Nat.{◌+◌, ◌≤◌}
use lib.ListN.{take}
use Rattle.text_writer.specs.Sink.{Wrote}
use Rattle.text_writer.proofs.sink.put_bytes.Given as goal

abbrev pub invariant-loop-b : goal.invariant-loop-b
invariant-loop-b l =
    (l.p ≤ l.at + l.b-index) × Wrote l.initial.d l.at l.d l.p (take l.b-index l.w)
