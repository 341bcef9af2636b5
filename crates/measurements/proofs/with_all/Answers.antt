use mathlib.Core.Path.{ap, ◌∙◌}
use Rattle.measurements.specs.List.{measurements_in}
use Rattle.measurements.specs.Measurement.{with_measured}
use Rattle.measurements.specs.declared.list.Measurement.{Measurement}
use Rattle.measurements.proofs.Walk.{measured-start, measured-next}
use Rattle.measurements.proofs.with_all.Goals as goal

pub loop-i-init : goal.loop-i-init
loop-i-init c = measured-start (measurements_in c.args.list) c.args.t

pub loop-i-preserved : goal.loop-i-preserved
loop-i-preserved c =
    measured-next (measurements_in c.args.list) c.args.t c.loop-i.i c.loop-i.invariant
    (c.with_measured-u.ensures
    ∙ ap (λ (r : Measurement). with_measured c.loop-i.u r.variable r.low r.high r.threshold) c.at.ensures)
