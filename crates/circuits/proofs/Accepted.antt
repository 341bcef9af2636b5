-- What the check's acceptance says of a table.
use Prim.Native.Nat.{ℕ, suc, pred, ◌<◌, ◌≤◌}
use mathlib.Core.Path.{◌≡◌, refl}
use mathlib.Core.Bool.{Bool, true, false, not, cond}
use mathlib.Core.Logic.{⊎_elim}
use mathlib.Core.List.Memᴰ
use mathlib.Core.List.{List, Memᴰ}
use native.Mathlib.Omega.{arith}
use lib.Dec.{T, T_not, eqb, ltb, eqb→eq, lt→ltb, leb→le}
use lib.ListN.{length}
use Rattle.masks.specs.Mask.{width}
use Rattle.masks.specs.Numbers.{some, least}
use Rattle.masks.proofs.Numbers.{some-e}
use Rattle.masks.proofs.Tests.{and_l, and_r, not-and, not-not}
use Rattle.table.specs.Layout.{words_for}
use Rattle.table.specs.Node.{node_at, children, max_nodes}
use Rattle.table.specs.Outcome.{accepted, refused, after, Outcome}
use Rattle.table.specs.Words.{in_range, malformed, first_fault, check_words}
use Rattle.table.proofs.Checking.{accepted-by}
use Rattle.terms.specs.Lists.{any}
use Rattle.terms.proofs.Sorted.{any-e}
use Rattle.circuits.specs.Check.{node_rules, parentless, undecomposable, unreduced, rules, check}

pub record Accepted (N n : ℕ) (w : List ℕ) : Type 0 where
  pub range : T (in_range N n w)
  pub well : (i : ℕ) → i < n → T (not (malformed N w i))
  pub child : (i : ℕ) → i < n → T (not (parentless w n i))
  pub decomposed : (i : ℕ) → i < n → T (not (undecomposable w i))
  pub reduced : (i : ℕ) → i < n → T (not (unreduced w i))

pub accepted-e : (N n : ℕ) (w : List ℕ) → check N n w ≡ accepted → Accepted N n w
unfolding check
accepted-e N n w e =
    let (range, none) = accepted-by N n w (rules N n w) e in
    record {
      range = range;
      well = none (22, malformed N w) (Memᴰ.head refl);
      child = none (23, parentless w n) (Memᴰ.tail (Memᴰ.head refl));
      decomposed = none (24, undecomposable w) (Memᴰ.tail (Memᴰ.tail (Memᴰ.head refl)));
      reduced = none (25, unreduced w) (Memᴰ.tail (Memᴰ.tail (Memᴰ.tail (Memᴰ.head refl))));
    }

module _ {N n : ℕ} {w : List ℕ} (acc : Accepted N n w) where
  pub variables-le : N ≤ 40
  variables-le = leb→le N 40 (let r = acc.range in search (and_l, and_r))

  pub variables-wide : N ≤ width
  variables-wide = let l : N ≤ 40 = variables-le in omega arith

  pub nodes-some : 1 ≤ n
  nodes-some = leb→le 1 n (let r = acc.range in search (and_l, and_r))

  pub nodes-le : n ≤ max_nodes
  nodes-le = leb→le n max_nodes (let r = acc.range in search (and_l, and_r))

  pub words-enough : words_for n ≤ length w
  words-enough = leb→le (words_for n) (length w) (let r = acc.range in search (and_l, and_r))

  pub last-below : pred n < n
  last-below = let l : 1 ≤ n = nodes-some in omega arith

  -- a node that is not the last has a parent
  pub parent : (i : ℕ) → suc i < n → (j : ℕ) × (j < n) × Memᴰ i (children (node_at w j))
  unfolding parentless
  parent i l =
      let (j, k, h) = some-e n is_parent (⊎_elim (λ (p : T (not (ltb (suc i) n))). absurd (T_not (ltb (suc i) n) p (lt→ltb (suc i) n l)))
      (λ (p : T (not (not (some n is_parent)))). not-not (some n is_parent) p)
      (not-and (ltb (suc i) n) (not (some n is_parent)) (acc.child i (omega arith)))) in
      let (c, m, e) = any-e (eqb i) (children (node_at w j)) h in
      (j, k, Memᴰ.cast (eqb→eq i c e) m)
    where
      is_parent : ℕ → Bool
      is_parent j = any (eqb i) (children (node_at w j))

-- the check is 21 and 22, and then the rules for well-formed nodes
pub check-after : (N n : ℕ) (w : List ℕ) → check N n w ≡ after (check_words N n w) (first_fault n (node_rules n w))
unfolding check check_words
check-after N n w = by (in_range N n w) (ltb (least n (malformed N w)) n)
  where
    here : Outcome (Unit {0})
    here = refused 22 (least n (malformed N w))

    rest : Outcome (Unit {0})
    rest = first_fault n (node_rules n w)

    by : (r m : Bool) → cond r (cond m here rest) (refused 21 0) ≡ after (cond r (cond m here accepted) (refused 21 0)) rest
    by true true = refl
    by true false = refl
    by false m = refl
