-- The measurements of a list.
use Rattle.std.specs.Prelude.{ℕ}
use Rattle.measurements.specs.Measurement.{measurements, variable_at, low_at, high_at, threshold_at, Measurements}
use Rattle.measurements.specs.declared.list.Measurement.{Measurement}
use Rattle.measurements.specs.declared.list.MeasurementList.{MeasurementList}

abbrev pub measurements_in : MeasurementList → Measurements
measurements_in l = measurements l.variables.now l.lows.now l.highs.now l.thresholds.now

-- measurement i of a list
abbrev pub nth : MeasurementList → ℕ → Measurement
nth l i =
    record {
      variable = variable_at (measurements_in l) i;
      low = low_at (measurements_in l) i;
      high = high_at (measurements_in l) i;
      threshold = threshold_at (measurements_in l) i;
    }
