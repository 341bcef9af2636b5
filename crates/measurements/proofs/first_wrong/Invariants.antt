-- `measurements::first_wrong` meets its contract. The invariant: no measurement before `i` is wrong, and their variables are seen.
use mathlib.Core.Path.{◌≡◌}
use Rattle.masks.specs.Numbers.{least}
use Rattle.terms.specs.Term.{variables}
use Rattle.measurements.specs.List.{measurements_in}
use Rattle.measurements.specs.Measurement.{wrong, Measurements}
use Rattle.measurements.specs.Walk.{seen}
use Rattle.measurements.proofs.first_wrong.Given as goal

abbrev pub invariant-loop-i : goal.invariant-loop-i
invariant-loop-i l =
    let m : Measurements = measurements_in l.list in
    (l.seen ≡ seen (variables l.fn.t) m l.i) × (least l.i (wrong l.variables (variables l.fn.t) m) ≡ l.i)
