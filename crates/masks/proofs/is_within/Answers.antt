-- `masks::is_within` meets its contract.
use Rattle.masks.proofs.Operators.{one_shift}
use Rattle.masks.proofs.is_within.Goals as goal

pub returns : goal.returns
returns c = rw (one_shift 64 c.args.n c.requires)
