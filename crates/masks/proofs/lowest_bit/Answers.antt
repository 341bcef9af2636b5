-- `masks::lowest_bit` meets its contract.
use Rattle.masks.specs.Mask.{width}
use Rattle.masks.proofs.Operators.{trailing-lowest}
use Rattle.masks.proofs.lowest_bit.Goals as goal

pub returns : goal.returns
returns c = trailing-lowest width c.args.mask c.ranges.mask.fits c.requires
