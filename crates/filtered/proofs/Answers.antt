-- The answer of the filtered listing and what it leaves in the buffers, by the tests that were made.
use Prim.Native.Nat.{ℕ}
use mathlib.Core.Path.{◌≡◌, refl, sym, ap, ◌∙◌}
use mathlib.Core.Bool.{Bool, true, false, cond}
use mathlib.Core.List.{List, [], ◌∷◌, ◌++◌}
use lib.ListN.{length, drop, replicate}
use Rattle.table.specs.Outcome.{accepted, answered, refused, number_of, node_of, refused_by, outcome, Outcome}
use Rattle.table.specs.declared.Refusal.{Refusal}
use Rattle.table.specs.declared.Refusal.TheVariants.{Buffers, Weights, Exclusions as Excluded}
use Rattle.weighing.specs.Weights.{fitting}
use Rattle.exclusions.specs.Exclusions.{proper, Exclusions}
use Rattle.circuits.specs.Check.{check}
use Rattle.circuits.specs.Function.{function}
use Rattle.listing.specs.Listing.{exceeds, cleared, filled, Lent}
use Rattle.listing.specs.Guarded.{untouched, after_tests}
use Rattle.filtered.specs.Exact.{FilteredExact}
use Rattle.filtered.specs.Filtered.{shown_primes, shown_masks, filtered_lent, suffices_all, cleared_all, filled_all}
use Rattle.filtered.specs.Filtered.{filtered_checked, filtered_table, Gives, FilteredLent, FilteredOut}
use Rattle.std.specs.Prelude.{Result, Err}

-- by the outcome
gives-by : (p o : FilteredOut) (b' : FilteredLent) (r : Result ℕ Refusal) → p ≡ o → outcome r ≡ o.answer → b' ≡ o.after → Gives p b' r
gives-by p o b' r e h a =
    record { answer = h ∙ ap (λ (z : FilteredOut). z.answer) (sym e); after = a ∙ ap (λ (z : FilteredOut). z.after) (sym e) }

-- ---- an accepted circuit
module _ (m : List ℕ) (e : Exclusions) (N n : ℕ) (F : ℕ → ℕ → Bool) (R : ℕ) (b : FilteredLent) where
  abbrev out : FilteredOut
  out = filtered_checked m e N n F R b accepted

  pub filtered-is : (x y z v : Bool) → suffices_all n R b ≡ x → fitting N m ≡ y → proper N e ≡ z → exceeds m N n F R ≡ v
      → out ≡ after_tests ((x, 41) ∷ (y, 56) ∷ (z, 57) ∷ []) b (cond v (cleared_all n R b) (filled_all m e N n F R b))
  filtered-is x y z v p q r s =
      λ i. after_tests ((p i, 41) ∷ (q i, 56) ∷ (r i, 57) ∷ []) b (cond (s i) (cleared_all n R b) (filled_all m e N n F R b))

  -- ---- 41, 56 and 57
  pub gives-short : suffices_all n R b ≡ false → Gives out b (Err Buffers)
  gives-short p =
      gives-by out (untouched 41 0 b) b (Err Buffers)
      (filtered-is false (fitting N m) (proper N e) (exceeds m N n F R) p refl refl refl) refl refl

  pub gives-unweighed : suffices_all n R b ≡ true → fitting N m ≡ false → Gives out b (Err Weights)
  gives-unweighed p q =
      gives-by out (untouched 56 0 b) b (Err Weights) (filtered-is true false (proper N e) (exceeds m N n F R) p q refl refl) refl refl

  pub gives-improper : suffices_all n R b ≡ true → fitting N m ≡ true → proper N e ≡ false → Gives out b (Err Excluded)
  gives-improper p q r =
      gives-by out (untouched 57 0 b) b (Err Excluded) (filtered-is true true false (exceeds m N n F R) p q r refl) refl refl

  -- ---- the tests are passed: 42, or done
  module _ (p : suffices_all n R b ≡ true) (q : fitting N m ≡ true) (r : proper N e ≡ true) (b' : Lent) (s : Bool → List ℕ)
      (k : Result ℕ Refusal) (x : FilteredExact m e N n F R b.nodes b' s k) where
    abbrev after : FilteredLent
    after = filtered_lent b' (s true ++ drop R b.positives) (s false ++ drop R b.negatives)

    -- by whether there are more terms than the capacity
    abbrev nodes_by : Bool → Lent
    nodes_by v = (cond v (cleared n R b.nodes) (filled m N n F R b.nodes)).after

    abbrev shown_by : Bool → Bool → List ℕ
    shown_by d v = cond v (replicate R 0) (shown_masks m e N n F R d)

    abbrev answer_by : Bool → Outcome ℕ
    answer_by v = cond v (refused 42 0) (answered (length (shown_primes m e N n F)))

    module _ (v : Bool) (t : exceeds m N n F R ≡ v) where
      answered-by : outcome k ≡ answer_by v
      answered-by = x.answer ∙ ap answer_by t

      left_by : after ≡ filtered_lent (nodes_by v) (shown_by true v ++ drop R b.positives) (shown_by false v ++ drop R b.negatives)
      left_by =
          λ i. filtered_lent ((x.nodes ∙ ap nodes_by t) i) ((x.shown true ∙ ap (shown_by true) t) i ++ drop R b.positives)
          ((x.shown false ∙ ap (shown_by false) t) i ++ drop R b.negatives)

    pub gives-exact : Gives out after k
    gives-exact = by (exceeds m N n F R) refl
      where
        by : (v : Bool) → exceeds m N n F R ≡ v → Gives out after k
        by true t =
            gives-by out (cleared_all n R b) after k (filtered-is true true true true p q r t) (answered-by true t) (left_by true t)
        by false t =
            gives-by out (filled_all m e N n F R b) after k (filtered-is true true true false p q r t) (answered-by false t)
            (left_by false t)

-- ---- any circuit
module _ (m : List ℕ) (e : Exclusions) (N n : ℕ) (w : List ℕ) (R : ℕ) (b : FilteredLent) where
  pub gives-refused : (r : Refusal) → refused_by r ≡ check N n w → Gives (filtered_table m e N n w R b) b (Err r)
  unfolding filtered_table
  gives-refused r h =
      gives-by (filtered_table m e N n w R b) (untouched (number_of r) (node_of r) b) b (Err r)
      (ap (filtered_checked m e N n (function w) R b) (sym h)) refl refl

  pub table_is : check N n w ≡ accepted → filtered_table m e N n w R b ≡ filtered_checked m e N n (function w) R b accepted
  unfolding filtered_table
  table_is acc = ap (filtered_checked m e N n (function w) R b) acc

  pub gives-accepted : check N n w ≡ accepted → (b' : FilteredLent) (r : Result ℕ Refusal)
      → Gives (filtered_checked m e N n (function w) R b accepted) b' r → Gives (filtered_table m e N n w R b) b' r
  gives-accepted acc b' r g =
      gives-by (filtered_table m e N n w R b) (filtered_checked m e N n (function w) R b accepted) b' r (table_is acc) g.answer g.after
