-- `masks::count_bits` meets its contract.
use Rattle.masks.proofs.Operators.{ones-size}
use Rattle.masks.proofs.count_bits.Goals as goal

pub returns : goal.returns
returns c = ones-size c.args.mask c.ranges.mask.fits
