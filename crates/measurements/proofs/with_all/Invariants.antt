-- `measurements::with_all` meets its contract. The invariant: the literals of the measurements before `i` are added.
use mathlib.Core.Path.{◌≡◌}
use Rattle.measurements.specs.List.{measurements_in}
use Rattle.measurements.specs.Measurement.{measured_term}
use Rattle.measurements.proofs.with_all.Given as goal

abbrev pub invariant-loop-i : goal.invariant-loop-i
invariant-loop-i l = l.u ≡ measured_term l.initial.u (measurements_in l.list) l.i
