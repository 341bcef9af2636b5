-- `text::number::number` meets its contract: after k digits, the rest of the number is read from there on.
use Rattle.std.proofs.Common.{◌≡◌, ◌+◌, ◌-◌, ◌^◌, ◌<◌, ◌≤◌, length}
use Rattle.text.specs.Read.{number_at, digits_at}
use Rattle.text.proofs.number.number.Given as goal

abbrev pub invariant-loop-k : goal.invariant-loop-k
invariant-loop-k l =
    (l.at + l.k ≤ length l.s) × (l.v < 10 ^ l.k) × (number_at l.s l.at ≡ digits_at (4 - l.k) l.s (l.at + l.k) l.v)
