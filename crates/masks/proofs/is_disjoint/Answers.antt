-- `masks::is_disjoint` meets its contract.
use Rattle.masks.proofs.Operators.{disjoint-test}
use Rattle.masks.proofs.is_disjoint.Goals as goal

pub returns : goal.returns
returns c = disjoint-test c.args.a c.args.b c.ranges.a.fits
