-- The part of the last node, which is the circuit, in a listing that is done.
use Prim.Native.Nat.{ℕ, suc, pred, ◌+◌, ◌*◌, ◌≤◌}
use mathlib.Core.Path.{◌≡◌, sym, ap, ◌∙◌}
use mathlib.Core.Bool.{Bool, true, false}
use mathlib.Core.List.{List}
use native.Mathlib.Nat.{le_trans, suc-mul}
use native.Mathlib.Omega.{arith}
use lib.ListN.{length, get_or, take, drop}
use borrow.Author.Tests.{ltb-false}
use Rattle.table.specs.Outcome.{accepted}
use Rattle.terms.specs.declared.Term.{Term}
use Rattle.circuits.specs.Check.{check}
use Rattle.circuits.specs.Function.{signed_function}
use Rattle.circuits.proofs.Accepted.{accepted-e, last-below}
use Rattle.circuits.proofs.Largest.{no_more}
use Rattle.lists.specs.List.{by_sign}
use Rattle.insertion.specs.Filled.{masks_of}
use Rattle.listing.specs.Listing.{node_primes, exceeds, filled, Lent}
use Rattle.listing.proofs.Table.{Fit, masks-back, count-back}

-- the last of n parts
pub last-part : (n R : ℕ) → 1 ≤ n → pred n * R + R ≡ n * R
last-part n R h = let e : n ≡ suc (pred n) = omega arith in sym (ap (λ (k : ℕ). k * R) e ∙ suc-mul (pred n) R)

module _ (c : Bool) (m : List ℕ) (N n : ℕ) (w : List ℕ) (R : ℕ) (acc : check N n w ≡ accepted) where
  abbrev F : ℕ → ℕ → Bool
  F = signed_function c w

  abbrev rows : List Term
  rows = node_primes m N F (pred n)

  module _ (fits : exceeds m N n F R ≡ false) where
    pub last-few : length rows ≤ R
    unfolding exceeds
    last-few = ltb-false R (length rows) fits

    -- no node has more than the last
    pub all_fit : Fit m N F R n
    all_fit i l = le_trans (no_more (accepted-e N n w acc) c m i l) last-few

    module _ (b : Lent) where
      pub last-count : get_or (filled m N n F R b).after.counts (pred n) 0 ≡ length rows
      last-count = count-back m N F R n (pred n) (drop n b.counts) (last-below (accepted-e N n w acc))

      pub last-masks : (s : Bool)
          → take (length rows) (drop (pred n * R) (by_sign (filled m N n F R b).after.positives (filled m N n F R b).after.negatives s))
          ≡ masks_of s rows
      last-masks true = masks-back m N F R n (pred n) true (drop (n * R) b.positives) all_fit (last-below (accepted-e N n w acc))
      last-masks false = masks-back m N F R n (pred n) false (drop (n * R) b.negatives) all_fit (last-below (accepted-e N n w acc))
