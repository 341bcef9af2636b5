-- Buffers that are large enough, and products that fit.
use Prim.Native.Nat.{ℕ, ◌*◌, ◌≤◌}
use mathlib.Core.Path.{◌≡◌, refl, sym, ap, ap₂, ◌∙◌}
use mathlib.Core.Bool.{Bool, true, false, ◌&&◌, ◌||◌, not}
use lib.Dec.{T, ltb, leb, leb→le}
use lib.ListN.{length}
use borrow.Author.Tests.{ltb-true, ltb-false, le-leb, lt-leb}
use Rattle.masks.proofs.Tests.{and_l, and_r, along}
use Rattle.lists.specs.Capacity.{max_capacity}
use Rattle.listing.specs.Listing.{suffices, Lent}

pub record Enough (n R : ℕ) (b : Lent) : Type 0 where
  pub small : R ≤ max_capacity
  pub positives : n * R ≤ length b.positives
  pub negatives : n * R ≤ length b.negatives
  pub counts : n ≤ length b.counts

pub enough : (n R : ℕ) (b : Lent) → T (suffices n R b) → Enough n R b
enough n R b h =
    record {
      small = leb→le R max_capacity (search (and_l, and_r));
      positives = leb→le (n * R) (length b.positives) (search (and_l, and_r));
      negatives = leb→le (n * R) (length b.negatives) (search (and_l, and_r));
      counts = leb→le n (length b.counts) (search (and_l, and_r));
    }

pub not-flip : (b c : Bool) → not b ≡ c → b ≡ not c
not-flip true c e = ap not e
not-flip false c e = ap not e

-- ---- two buffers, of x and y entries, each tested for k
leb-not : (k x : ℕ) → leb k x ≡ not (ltb x k)
leb-not k x = by (ltb x k) refl
  where
    by : (t : Bool) → ltb x k ≡ t → leb k x ≡ not t
    by true e = lt-leb k x (ltb-true x k e)
    by false e = le-leb k x (ltb-false x k e)

pub two-fit : (k x y : ℕ) (t : Bool) → (ltb x k || ltb y k) ≡ t → (leb k x && leb k y) ≡ not t
two-fit k x y t e = ap₂ ◌&&◌ (leb-not k x) (leb-not k y) ∙ by (ltb x k) (ltb y k) ∙ ap not e
  where
    by : (x y : Bool) → (not x && not y) ≡ not (x || y)
    by true y = refl
    by false y = refl

pub two-fit-e : (k x y : ℕ) → (leb k x && leb k y) ≡ true → (k ≤ x) × (k ≤ y)
two-fit-e k x y e =
    let t : T (leb k x && leb k y) = along (sym e) tt in
    (leb→le k x (and_l (leb k x) (leb k y) t), leb→le k y (and_r (leb k x) (leb k y) t))
