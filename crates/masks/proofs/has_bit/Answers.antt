-- `masks::has_bit` meets its contract.
use mathlib.Core.Path.{sym}
use Rattle.masks.proofs.Operators.{bit-shift}
use Rattle.masks.proofs.has_bit.Goals as goal

pub returns : goal.returns
returns c = sym (bit-shift c.args.mask c.args.i)
