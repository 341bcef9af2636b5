-- `subsumption::is_ahead` meets its contract.
use mathlib.Core.Path.{ap₂}
use lib.Dec.{ltb}
use Rattle.subsumption.specs.Ahead.{ahead}
use Rattle.subsumption.proofs.is_ahead.Goals as goal

pub returns : goal.returns
unfolding ahead
returns c = ap₂ ltb c.literals.ensures c.literals-2.ensures
