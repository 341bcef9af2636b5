-- `listing::is_enough` meets its contract.
use native.Mathlib.Omega.{arith}
use borrow.Author.Tests.{le-leb, lt-leb}
use Rattle.masks.proofs.Numbers.{product_le}
use Rattle.table.specs.Node.{max_nodes}
use Rattle.lists.specs.Capacity.{max_capacity}
use Rattle.listing.proofs.is_enough.Goals as goal

pub returns-then-capacity : goal.returns-then-capacity
returns-then-capacity c = simp (lt-leb c.before.args.capacity max_capacity c.if-capacity.true)

pub overflow_mul-total : goal.overflow_mul-total
overflow_mul-total c =
    let s = c.before in
    omega (arith, product_le s.args.n s.args.capacity max_nodes max_capacity s.requires c.if-capacity.false)

pub returns : goal.returns
returns c = simp (le-leb c.before.args.capacity max_capacity c.if-capacity.false)
