-- `measurements::measure` meets its contract.
use mathlib.Core.Path.{sym, ◌∙◌}
use native.Mathlib.Nat.{le_of_lt}
use Rattle.terms.specs.Term.{variables}
use Rattle.measurements.specs.List.{measurements_in}
use Rattle.measurements.proofs.Right.{usable, some-wrong, none-wrong}
use Rattle.measurements.proofs.measure.Goals as goal

pub with_all-requires : goal.with_all-requires
with_all-requires c =
    usable c.args.variables (variables c.args.t) (measurements_in c.args.list) (le_of_lt c.requires)
    (sym c.first_wrong.ensures ∙ c.in-None.is)

pub returns-in-Some : goal.returns-in-Some
returns-in-Some c = some-wrong c.args.variables c.args.t (measurements_in c.args.list) (sym c.first_wrong.ensures ∙ c.in-Some.is)

pub returns-in-None : goal.returns-in-None
returns-in-None c =
    none-wrong c.args.variables c.args.t (measurements_in c.args.list) (sym c.first_wrong.ensures ∙ c.in-None.is) c.with_all.ensures
