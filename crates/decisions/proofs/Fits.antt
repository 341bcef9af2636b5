-- Scratch that is made for sides of at most m terms fits them.
use Prim.Native.Nat.{ℕ, ◌*◌, ◌≤◌}
use native.Mathlib.Omega.{arith}
use lib.ListN.{length, replicate, length-replicate}
use Rattle.lists.specs.Capacity.{max_capacity}
use Rattle.hints.specs.Scratch.{bit_words, column_count, HasHalves}

pub kept-fits : (k : ℕ) → k ≤ max_capacity → length (replicate {A = ℕ} (2 * k) 0) ≤ 2 * max_capacity
kept-fits k h = rw (length-replicate {A = ℕ} (2 * k) 0) (omega arith)

pub columns-fit : (m p q : ℕ) → p ≤ m → q ≤ m → HasHalves p q (replicate {A = ℕ} (2 * column_count * bit_words m) 0)
columns-fit m p q h k = rw (length-replicate {A = ℕ} (2 * column_count * bit_words m) 0) (omega arith, omega arith)
