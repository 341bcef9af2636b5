-- `pairing::pairs::goes_low` meets its contract.
use Prim.Native.Nat.{◌≤◌}
use native.Mathlib.Omega.{arith}
use Rattle.masks.proofs.Numbers.{product_le}
use Rattle.lists.specs.Capacity.{max_capacity}
use Rattle.hints.specs.Scratch.{max_cost}
use Rattle.pairing.proofs.pairs.goes_low.Goals as goal

pub overflow_mul-result : goal.overflow_mul-result
overflow_mul-result c =
    let bounded : c.min.result ≤ max_cost = omega arith in
    omega (arith, product_le _ _ max_cost max_capacity bounded c.requires.0)

pub overflow_mul-result-2 : goal.overflow_mul-result-2
overflow_mul-result-2 c =
    let bounded : c.min-2.result ≤ max_cost = omega arith in
    omega (arith, product_le _ _ max_cost max_capacity bounded c.requires.1)
