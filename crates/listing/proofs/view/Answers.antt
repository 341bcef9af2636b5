-- `listing::view` meets its contract.
use Prim.Native.Nat.{◌+◌, ◌-◌, ◌*◌}
use mathlib.Core.Path.{◌≡◌}
use native.Mathlib.Omega.{arith}
use borrow.Author.Tests.{le-leb, lt-leb, lt-ltb, le-ltb}
use Rattle.masks.proofs.Numbers.{product_le}
use Rattle.lists.specs.Capacity.{max_capacity}
use Rattle.listing.proofs.view.Goals as goal

pub returns-then-node-ge-MAX_NODES : goal.returns-then-node-ge-MAX_NODES
returns-then-node-ge-MAX_NODES c = simp (le-ltb _ _ c.before.if-node-ge-MAX_NODES.true)

pub returns-then-capacity-gt-MAX_CAPACITY : goal.returns-then-capacity-gt-MAX_CAPACITY
returns-then-capacity-gt-MAX_CAPACITY c =
    simp (lt-ltb _ _ c.before.before.if-node-ge-MAX_NODES.false, lt-leb _ _ c.before.if-capacity-gt-MAX_CAPACITY.true)

pub returns-then-capacity-count : goal.returns-then-capacity-count
returns-then-capacity-count c =
    simp (
      lt-ltb _ _ c.before.before.before.if-node-ge-MAX_NODES.false,
      le-leb _ _
          c.before.before.if-capacity-gt-MAX_CAPACITY.false,
      lt-leb _ _ c.before.if-capacity-count.true,
    )

pub overflow_mul-start : goal.overflow_mul-start
overflow_mul-start c =
    let x = c.before.before.before.args in
    omega (arith, product_le x.node x.capacity 1023 max_capacity (omega arith) (omega arith))

pub overflow_add-end : goal.overflow_add-end
overflow_add-end c =
    let x = c.before.before.before.args in
    omega (arith, product_le x.node x.capacity 1023 max_capacity (omega arith) (omega arith))

pub returns-then-buffer-end : goal.returns-then-buffer-end
returns-then-buffer-end c =
    simp (
      lt-ltb _ _ c.before.before.before.before.if-node-ge-MAX_NODES.false,
      le-leb _ _ c.before.before.before.if-capacity-gt-MAX_CAPACITY.false,
      le-leb _ _ c.before.before.if-capacity-count.false,
      lt-leb _ _ c.before.if-buffer-end.true,
    )

pub returns : goal.returns
returns c =
    let x = c.before.before.before.before.before.args in
    let e : x.node * x.capacity + x.count - x.node * x.capacity ≡ x.count = omega arith in
    simp (
      e,
      lt-ltb _ _ c.before.before.before.before.if-node-ge-MAX_NODES.false,
      le-leb _ _ c.before.before.before.if-capacity-gt-MAX_CAPACITY.false,
      le-leb _ _ c.before.before.if-capacity-count.false,
      le-leb _ _ c.before.if-buffer-end.false,
    )
