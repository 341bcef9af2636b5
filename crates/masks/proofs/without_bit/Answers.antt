-- `masks::without_bit` meets its contract.
use Rattle.masks.proofs.Operators.{one_shift, xor-put}
use Rattle.masks.proofs.without_bit.Goals as goal

pub returns : goal.returns
returns c = rw (one_shift 64 c.args.i c.requires) (xor-put 64 _ _ c.ranges.mask.fits c.requires)
