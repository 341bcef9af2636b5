-- The answer of the listing and what it leaves in the buffers, by the tests that were made.
use Prim.Native.Nat.{ℕ, pred, ◌*◌}
use mathlib.Core.Path.{◌≡◌, refl, sym, ap, ◌∙◌}
use mathlib.Core.Bool.{Bool, true, false, not, cond}
use mathlib.Core.List.{List, [], ◌++◌}
use lib.Dec.{ltb}
use lib.ListN.{length, drop, replicate}
use Rattle.table.specs.Outcome.{accepted, number_of, node_of, refused_by, outcome}
use Rattle.table.specs.declared.Refusal.{Refusal}
use Rattle.table.specs.declared.Refusal.TheVariants.{Buffers, Weights, Capacity}
use Rattle.terms.proofs.Embeddings.{primes-length}
use Rattle.weighing.specs.Weights.{fitting}
use Rattle.circuits.specs.Check.{check}
use Rattle.circuits.specs.Function.{signed_function}
use Rattle.listing.specs.Exact.{Holds, Tried, Exact, Attempted}
use Rattle.listing.specs.Listing.{listed_masks, listed_counts, suffices, exceeds, ListResult, cleared, filled}
use Rattle.listing.specs.Listing.{list_checked, list_table, lent, Lent, ListOut}
use Rattle.listing.specs.Guarded.{untouched}
use Rattle.std.specs.Prelude.{Result, Ok, Err}
use Rattle.listing.proofs.Bounds.{not-flip}

module _ (c : Bool) (m : List ℕ) (N n : ℕ) (w : List ℕ) (R : ℕ) (b : Lent) where
  abbrev F : ℕ → ℕ → Bool
  F = signed_function c w

  abbrev out : ListOut
  out = list_table c m N n w R b

  -- by the outcome
  lists-by : (o : ListOut) (b' : Lent) (r : Result (Unit {0}) Refusal) → out ≡ o → outcome r ≡ o.answer → b' ≡ o.after → ListResult c m N n w R b b' r
  lists-by o b' r e h a =
      let left : b' ≡ out.after = a ∙ ap (λ (z : ListOut). z.after) (sym e) in
      record {
        answer = h ∙ ap (λ (z : ListOut). z.answer) (sym e);
        positives = ap (λ (z : Lent). z.positives) left;
        negatives = ap (λ (z : Lent). z.negatives) left;
        counts = ap (λ (z : Lent). z.counts) left;
      }

  -- ---- 21 to 25
  pub lists-refused : (r : Refusal) → refused_by r ≡ check N n w → ListResult c m N n w R b b (Err r)
  unfolding list_table
  lists-refused r e =
      lists-by (untouched (number_of r) (node_of r) b) b (Err r) (ap (list_checked m N n F R b) (sym e)) refl refl

  module _ (acc : check N n w ≡ accepted) where
    pub out-is : (x y z : Bool) → suffices n R b ≡ x → fitting N m ≡ y → exceeds m N n F R ≡ z
        → out ≡ cond x (cond y (cond z (cleared n R b) (filled m N n F R b)) (untouched 56 0 b)) (untouched 41 0 b)
    unfolding list_table
    out-is x y z e f d =
        ap (list_checked m N n F R b) acc
        ∙ (λ i. cond (e i) (cond (f i) (cond (d i) (cleared n R b) (filled m N n F R b)) (untouched 56 0 b)) (untouched 41 0 b))

    -- ---- 41, and 56
    pub lists-short : suffices n R b ≡ false → ListResult c m N n w R b b (Err Buffers)
    lists-short e =
        lists-by (untouched 41 0 b) b (Err Buffers) (out-is false (fitting N m) (exceeds m N n F R) e refl refl) refl refl

    pub lists-unweighed : suffices n R b ≡ true → fitting N m ≡ false → ListResult c m N n w R b b (Err Weights)
    lists-unweighed e f =
        lists-by (untouched 56 0 b) b (Err Weights) (out-is true false (exceeds m N n F R) e f refl) refl refl

    -- ---- both tests are passed
    module _ (enough : suffices n R b ≡ true) (fits : fitting N m ≡ true) (b' : Lent) (r : Bool) (x : Attempted m N n F R b b' r) where
      over : (y : Bool) → r ≡ y → exceeds m N n F R ≡ not y
      over y e = not-flip (exceeds m N n F R) y (sym x.answer ∙ e)

      left : (y : Bool) → r ≡ y → b' ≡ (cond y (filled m N n F R b) (cleared n R b)).after
      left y e = x.after ∙ ap (λ (q : Bool). (cond q (filled m N n F R b) (cleared n R b)).after) e

      pub lists-all : r ≡ true → ListResult c m N n w R b b' (Ok tt)
      lists-all e =
          lists-by (filled m N n F R b) b' (Ok tt) (out-is true true false enough fits (over true e)) refl (left true e)

      pub lists-lack : r ≡ false → ListResult c m N n w R b b' (Err Capacity)
      lists-lack e =
          lists-by (cleared n R b) b' (Err Capacity) (out-is true true true enough fits (over false e)) refl (left false e)

-- ---- the front of each buffer was listed in
module _ (m : List ℕ) (N n : ℕ) (F : ℕ → ℕ → Bool) (R : ℕ) (b : Lent) (s : Bool → List ℕ) (cs : List ℕ) where
  abbrev front : Lent
  front = lent (s true ++ drop (n * R) b.positives) (s false ++ drop (n * R) b.negatives) (cs ++ drop n b.counts)

  fronts : (r : Bool) → ((d : Bool) → s d ≡ cond r (listed_masks m N n F R d) (replicate (n * R) 0))
      → cs ≡ cond r (listed_counts m N n F) (replicate n 0) → front ≡ (cond r (filled m N n F R b) (cleared n R b)).after
  fronts true p q =
      λ i. lent (p true i ++ drop (n * R) b.positives) (p false i ++ drop (n * R) b.negatives) (q i ++ drop n b.counts)
  fronts false p q =
      λ i. lent (p true i ++ drop (n * R) b.positives) (p false i ++ drop (n * R) b.negatives) (q i ++ drop n b.counts)

  pub attempted : (r : Bool) → Exact m N n F R s cs r → Attempted m N n F R b front r
  attempted r x = record { answer = x.answer; after = fronts r x.masks x.counts }

-- ---- buffers of just the needed length
module _ (m : List ℕ) (N n : ℕ) (F : ℕ → ℕ → Bool) (R : ℕ) (s : Bool → List ℕ) (cs : List ℕ) (r : Bool) (t : Tried N n F R s cs r) where
  -- whether the terms fit does not depend on the weights
  fits-as : r ≡ not (exceeds m N n F R)
  unfolding exceeds
  fits-as = t.answer ∙ ap (λ (k : ℕ). not (ltb R k)) (primes-length N [] m (F (pred n)))

  pub exact-all : (s' : Bool → List ℕ) → r ≡ true → Holds m N n F R s' cs → Exact m N n F R s' cs true
  exact-all s' e h = record { answer = sym e ∙ fits-as; masks = h.masks; counts = h.counts }

  pub exact_none : (s' : Bool → List ℕ) (cs' : List ℕ) → r ≡ false → ((b : Bool) → s' b ≡ replicate (n * R) 0) → cs' ≡ replicate n 0
      → Exact m N n F R s' cs' false
  exact_none s' cs' e hs hc = record { answer = sym e ∙ fits-as; masks = hs; counts = hc }

pub zeros_of : (m : ℕ) (s d : List ℕ) → s ≡ replicate (length d) 0 → length d ≡ m → s ≡ replicate m 0
zeros_of m s d e h = e ∙ ap (λ (k : ℕ). replicate k 0) h
