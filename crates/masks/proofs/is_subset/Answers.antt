-- `masks::is_subset` meets its contract.
use Rattle.masks.proofs.Operators.{subset-test}
use Rattle.masks.proofs.is_subset.Goals as goal

pub returns : goal.returns
returns c = subset-test c.args.a c.args.b c.ranges.a.fits
