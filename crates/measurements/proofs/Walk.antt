-- The walk over the measurements: which are wrong, and the lowest of these.
use Prim.Native.Nat.{ℕ, zero, suc, min, ◌+◌, ◌≤◌, ◌<◌}
use mathlib.Core.Path.{◌≡◌, refl, sym, ap, ◌∙◌}
use mathlib.Core.Bool.{Bool, true, false, ◌||◌, cond, or-true, or-false, or_assoc}
use native.Mathlib.Nat.{le_trans, min-le_left, le-max_left}
use native.Mathlib.Numerals.{add-one}
use lib.Dec.{leb, eqb}
use lib.ListN.{length}
use lib.Signed.{lt_z}
use borrow.Author.Tests.{le-leb, lt-leb}
use Rattle.std.specs.Prelude.{Some, None}
use Rattle.masks.specs.Mask.{bit, put}
use Rattle.masks.specs.Numbers.{some, least}
use Rattle.masks.proofs.Least.{first-found, first-none}
use Rattle.masks.proofs.Masks.{bit-put}
use Rattle.terms.specs.declared.Term.{Term}
use Rattle.measurements.specs.Measurement.{complete, entries, variable_at, low_at, high_at, threshold_at, wrong, Measurements}
use Rattle.measurements.specs.Measurement.{with_measured, measured_term}
use Rattle.measurements.specs.Walk.{first_wrong, seen}

module _ (m : Measurements) where
  -- ---- a complete measurement has an entry in each list
  pub in-variables : complete m ≤ length m.variables
  in-variables = min-le_left (length m.variables) (min (length m.lows) (min (length m.highs) (length m.thresholds)))

  pub complete-le : complete m ≤ entries m
  complete-le = le_trans in-variables (le-max_left (length m.variables) _)

  -- ---- the literals added
  module _ (t : Term) where
    pub measured-start : t ≡ measured_term t m 0
    unfolding measured_term
    measured-start = refl

    pub measured-next : (k : ℕ) {u r : Term} → u ≡ measured_term t m k
        → r ≡ with_measured u (variable_at m k) (low_at m k) (high_at m k) (threshold_at m k) → r ≡ measured_term t m (k + 1)
    unfolding measured_term
    measured-next k e d =
        d ∙ ap (λ (z : Term). with_measured z (variable_at m k) (low_at m k) (high_at m k) (threshold_at m k)) e
        ∙ ap (measured_term t m) (sym (add-one k))

  -- ---- the variables seen
  module _ (v : ℕ) where
    pub seen_start : v ≡ seen v m 0
    unfolding seen
    seen_start = refl

    pub seen_next : (k : ℕ) {s r : ℕ} → s ≡ seen v m k → r ≡ put s (variable_at m k) true → r ≡ seen v m (k + 1)
    unfolding seen
    seen_next k e d = d ∙ ap (λ (z : ℕ). put z (variable_at m k) true) e ∙ ap (seen v m) (sym (add-one k))

    pub seen-bit : (k x : ℕ) → bit (seen v m k) x ≡ (bit v x || some k (λ j. eqb x (variable_at m j)))
    unfolding seen some
    seen-bit zero x = sym (or-false (bit v x))
    seen-bit (suc k) x =
        bit-put (seen v m k) (variable_at m k) x true
        ∙ go (bit v x) (some k (λ j. eqb x (variable_at m j))) (bit (seen v m k) x) (seen-bit k x) (eqb x (variable_at m k))
      where
        go : (a b c : Bool) → c ≡ (a || b) → (e : Bool) → cond e true c ≡ (a || (e || b))
        go a b c h true = sym (or-true a)
        go a b c h false = h

  -- ---- wrong measurements
  module _ (N v : ℕ) where
    -- the test of one
    pub wrong-test : (i : ℕ) {s : ℕ} {b : Bool} → i < complete m → s ≡ seen v m i
        → b ≡ (lt_z (high_at m i) (low_at m i) || leb N (variable_at m i) || bit s (variable_at m i)) → b ≡ wrong N v m i
    unfolding wrong
    wrong-test i l e d =
        d
        ∙ ap (λ (z : Bool). outside || z) (ap (λ (z : ℕ). bit z x) e ∙ seen-bit v i x)
        ∙ sym (or_assoc outside (bit v x) again)
        ∙ sym (ap (λ (z : Bool). z || lt_z (high_at m i) (low_at m i) || leb N x || bit v x || again) (lt-leb (complete m) i l))
      where
        x : ℕ
        x = variable_at m i

        outside : Bool
        outside = lt_z (high_at m i) (low_at m i) || leb N x

        again : Bool
        again = some i (λ j. eqb x (variable_at m j))

    incomplete-wrong : (i : ℕ) → complete m ≤ i → wrong N v m i ≡ true
    unfolding wrong
    incomplete-wrong i l =
        ap (λ (z : Bool).
        z || lt_z (high_at m i) (low_at m i) || leb N (variable_at m i) || bit v (variable_at m i)
        || some i (λ j. eqb (variable_at m i) (variable_at m j)))
        (le-leb (complete m) i l)

    -- no complete one is wrong: the lowest wrong one is the first that is incomplete, if there is one
    pub first-incomplete : (i : ℕ) → complete m ≤ i → i < entries m → least i (wrong N v m) ≡ i → Some i ≡ first_wrong N v m
    first-incomplete i k l e = first-found (wrong N v m) (entries m) i l e refl (incomplete-wrong i k)

    pub first-end : (i : ℕ) → i ≤ complete m → entries m ≤ i → least i (wrong N v m) ≡ i → None ≡ first_wrong N v m
    first-end i l k e = first-none (wrong N v m) (entries m) i (le_trans l complete-le) k e
