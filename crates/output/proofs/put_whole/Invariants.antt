-- `output::put_whole` meets its contract. The invariant: the digits at the highest units, as many as were counted, are written.
use Prim.Native.Nat.{◌+◌, ◌-◌, ◌^◌, ◌≤◌}
use mathlib.Core.Path.{◌≡◌}
use Rattle.text_writer.specs.Sink.{Wrote}
use Rattle.output.specs.Lines.{high_digits}
use Rattle.output.proofs.put_whole.Given as goal

abbrev pub invariant-loop : goal.invariant-loop
invariant-loop l =
    (l.unit ≡ 10 ^ (19 - l.counter)) × (l.p ≤ l.at + l.counter) × Wrote l.initial.d l.at l.d l.p (high_digits l.counter l.v)
