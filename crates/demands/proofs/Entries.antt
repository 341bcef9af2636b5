-- The buffers that a listing has filled, read back: every node's entries are its prime implicants.
use Prim.Native.Nat.{ℕ, pred, ◌+◌, ◌*◌, ◌<◌, ◌≤◌}
use mathlib.Core.Path.{◌≡◌, sym, ap, ap₂, subst, ◌∙◌}
use mathlib.Core.Bool.{Bool, true, false, not}
use mathlib.Core.Logic.{⊎_elim}
use mathlib.Core.List.{List, [], ◌++◌}
use native.Mathlib.Nat.{le_trans, le_of_eq}
use native.Mathlib.Omega.{arith}
use lib.Dec.{T, ltb, ltb→lt, nltb→le}
use lib.ListN.{length, get_or, take, drop, get_or-eq_default}
use Rattle.masks.proofs.Tests.{decide, along}
use Rattle.table.specs.Outcome.{accepted}
use Rattle.terms.specs.Lists.{Rising}
use Rattle.terms.specs.Order.{before}
use Rattle.terms.specs.Prime.{primes, Lists}
use Rattle.terms.specs.Term.{terms_of}
use Rattle.terms.proofs.Leaves.{before-plain}
use Rattle.terms.proofs.Listed.{primes-lists, primes-rising}
use Rattle.terms.proofs.Sorted.{rising-by}
use Rattle.terms.proofs.Weights.{primes-none}
use Rattle.circuits.specs.Check.{check}
use Rattle.circuits.specs.Function.{signed_function}
use Rattle.circuits.proofs.Accepted.{accepted-e}
use Rattle.circuits.proofs.Largest.{no_more}
use Rattle.lists.specs.List.{by_sign}
use Rattle.insertion.specs.Filled.{masks_of}
use Rattle.insertion.proofs.Parts.{terms-masks}
use Rattle.listing.specs.Listing.{node_primes, listed_masks, exceeds, filled, Lent}
use Rattle.listing.proofs.Last.{all_fit}
use Rattle.listing.proofs.Table.{Fit, masks-back, unused-back, count-back}
use Rattle.demands.specs.Demands.{Weights, entries_at, by_literals, NodeListed}

-- where every weight is 0, a function's prime implicants are in order without weights
plain : (m : List ℕ) (N : ℕ) (f : ℕ → Bool) → Weights N m → ((x : ℕ) → x < N → get_or m x 0 ≡ 0) → Rising by_literals (primes m N f)
plain m N f k none =
    subst (Rising by_literals) (sym (primes-none m all_none N f))
    (rising-by (before []) by_literals (primes [] N f) (primes-rising [] N f) (λ t u i j h. along (before-plain t u) h))
  where
    all_none : (x : ℕ) → get_or m x 0 ≡ 0
    all_none x =
        ⊎_elim (λ (l : T (ltb x (length m))). none x (omega (arith, ltb→lt x (length m) l, k.number)))
        (λ (l : T (not (ltb x (length m)))). get_or-eq_default m 0 (nltb→le x (length m) l))
        (decide (ltb x (length m)))

module _ (c : Bool) (m : List ℕ) (N n : ℕ) (w : List ℕ) (R : ℕ) (lend : Lent) (acc : check N n w ≡ accepted)
    (fits : exceeds m N n (signed_function c w) R ≡ false) where
  abbrev F : ℕ → ℕ → Bool
  F = signed_function c w

  abbrev after : Lent
  after = (filled m N n F R lend).after

  fit : Fit m N F R n
  fit = all_fit c m N n w R acc fits

  -- the two row buffers by sign: the listed parts, and what stood past them
  abbrev past : Bool → List ℕ
  past b = drop (n * R) (by_sign lend.positives lend.negatives b)

  abbrev rows : Bool → List ℕ
  rows b = listed_masks m N n F R b ++ past b

  counted : (i : ℕ) → i < n → get_or after.counts i 0 ≡ length (node_primes m N F i)
  counted i l = count-back m N F R n i (drop n lend.counts) l

  module _ (i : ℕ) (l : i < n) where
    back : (b : Bool) → take (get_or after.counts i 0) (drop (i * R) (rows b)) ≡ masks_of b (node_primes m N F i)
    back b =
        subst (λ (k : ℕ). take k (drop (i * R) (rows b)) ≡ masks_of b (node_primes m N F i)) (sym (counted i l))
        (masks-back m N F R n i b (past b) fit l)

    -- the entries are the prime implicants in order
    exact : entries_at R after i ≡ node_primes m N F i
    exact = ap₂ terms_of (back true) (back false) ∙ terms-masks (node_primes m N F i)

    pub entries-list : Lists N (F i) (entries_at R after i)
    entries-list = subst (Lists N (F i)) (sym exact) (primes-lists m N (F i))

    zero-past : (j : ℕ) → get_or after.counts i 0 ≤ j → j < R → (b : Bool) → get_or (rows b) (i * R + j) 0 ≡ 0
    zero-past j lo hi b = unused-back m N F R n i b (past b) fit l j (le_trans (le_of_eq (sym (counted i l))) lo) hi

    pub node-listed : Weights N m → NodeListed m N n F R after i
    node-listed k =
        record {
          number = counted i l;
          entries = ap length exact ∙ sym (counted i l);
          most = le_trans (le_of_eq (counted i l))
              (le_trans (no_more (accepted-e N n w acc) c m i l) (le_of_eq (sym (counted (pred n) (omega arith)))));
          only = entries-list.only;
          every = entries-list.every;
          order = subst (Rising (before m)) (sym exact) (primes-rising m N (F i));
          unweighted = λ none. subst (Rising by_literals) (sym exact) (plain m N (F i) k none);
          unused = λ j lo hi. (zero-past j lo hi true, zero-past j lo hi false);
        }
