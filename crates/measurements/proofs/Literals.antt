-- The literals of the term that right measurements give: those of the term at the start, and what each measurement says.
use Prim.Native.Nat.{ℕ, zero, suc, ◌≤◌, ◌<◌}
use mathlib.Core.Path.{◌≡◌, refl, sym, ap, subst, ◌∙◌}
use mathlib.Core.Bool.{Bool, true, false, not, cond}
use mathlib.Core.Logic.{◌⊎◌, inl, inr, ⊎_elim, ◌≢◌}
use native.Mathlib.Nat.{not-suc-le-zero, le_refl}
use native.Mathlib.Omega.{arith}
use lib.Dec.{T, T_not, not_T, eqb}
use lib.Signed.{lt_z, lt_z_yes, le_z_yes, <ℤ-≤ℤ_trans}
use borrow.Author.Tests.{eq-eqb}
use Rattle.masks.specs.Mask.{bit}
use Rattle.masks.specs.Numbers.{some}
use Rattle.masks.proofs.Operators.{bit-or}
use Rattle.masks.proofs.Tests.{not-or, is_true, along, same?, below_suc}
use Rattle.terms.specs.Term.{has, variables, extend, IsTerm}
use Rattle.terms.specs.declared.Term.{Term}
use Rattle.terms.proofs.Terms.{Unmentioned, extend-here, extend-there, extend-only, mentions-i, extend-IsTerm}
use Rattle.measurements.specs.Measurement.{variable_at, low_at, high_at, threshold_at, says, measured_term, Measurements}
use Rattle.measurements.proofs.Right.{Right}

-- the term with the literal of x that a measurement gives, by what it says of true and of false
abbrev pub chosen : Term → ℕ → Bool → Bool → Term
chosen t x p q = cond p (extend t x true) (cond q (extend t x false) t)

-- ---- one measurement: S b where it says that y is b
module _ (u : Term) (y : ℕ) where
  chosen-there : (p q b : Bool) (x : ℕ) → x ≢ y → has (chosen u y p q) b x ≡ has u b x
  chosen-there true q b x n = extend-there u y x true b n
  chosen-there false true b x n = extend-there u y x false b n
  chosen-there false false b x n = refl

  module _ (fresh : Unmentioned u y) where
    chosen-IsTerm : (N : ℕ) (p q : Bool) → y < N → IsTerm N u → IsTerm N (chosen u y p q)
    chosen-IsTerm N true q l h = extend-IsTerm N u y true l h fresh
    chosen-IsTerm N false true l h = extend-IsTerm N u y false l h fresh
    chosen-IsTerm N false false l h = h

    chosen-kept : (p q b : Bool) (x : ℕ) → T (has u b x) → T (has (chosen u y p q) b x)
    chosen-kept p q b x h =
        ⊎_elim (λ (e : x ≡ y). absurd (fresh b (subst (λ (z : ℕ). T (has u b z)) e h)))
        (λ (n : x ≢ y). along (sym (chosen-there p q b x n)) h) (same? x y)

    chosen-here : (S : Bool → Bool) (p q b : Bool) → S true ≡ p → S false ≡ q → T (has (chosen u y p q) b y) → T (S b)
    chosen-here S true q b e d h = along (sym (ap S (extend-only u y true b fresh h) ∙ e)) tt
    chosen-here S false true b e d h = along (sym (ap S (extend-only u y false b fresh h) ∙ d)) tt
    chosen-here S false false b e d h = absurd (fresh b h)

    chosen-only : (S : Bool → Bool) (b : Bool) (x : ℕ) → T (has (chosen u y (S true) (S false)) b x)
        → T (has u b x) ⊎ ((y ≡ x) × T (S b))
    chosen-only S b x h =
        ⊎_elim
        (λ (e : x ≡ y).
        inr (
          sym e,
          chosen-here S (S true) (S false) b refl refl (subst (λ (z : ℕ). T (has (chosen u y (S true) (S false)) b z)) e h),
        ))
        (λ (n : x ≢ y). inl (along (chosen-there (S true) (S false) b x n) h)) (same? x y)

  chosen-added : (S : Bool → Bool) (b : Bool) → T (S b) → (T (S true) → T (not (S false)))
      → T (has (chosen u y (S true) (S false)) b y)
  chosen-added S true h apart =
      subst (λ (p : Bool). T (has (chosen u y p (S false)) true y)) (sym (is_true (S true) h)) (extend-here u y true)
  chosen-added S false h apart = by (S true) (S false) apart h
    where
      by : (p q : Bool) → (T p → T (not q)) → T q → T (has (chosen u y p q) false y)
      by true q a k = absurd (T_not q (a tt) k)
      by false true a k = extend-here u y false
      by false false a k = absurd k

-- ---- all of them
module _ (t : Term) (m : Measurements) where
  abbrev says_at : ℕ → Bool → Bool
  says_at i = says (low_at m i) (high_at m i) (threshold_at m i)

  unseen : (k x : ℕ) → T (not (bit (variables t) x)) → T (not (some k (λ j. eqb x (variable_at m j))))
      → Unmentioned (measured_term t m k) x
  unfolding measured_term some
  unseen zero x h g b p = T_not (bit (variables t) x) h (along (sym (bit-or t.positive t.negative x)) (mentions-i t b x p))
  unseen (suc k) x h g b p =
      let y : ℕ = variable_at m k in
      let (e, r) = not-or (eqb x y) (some k (λ j. eqb x (variable_at m j))) g in
      let n : x ≢ y = (λ d. T_not (eqb x y) e (along (sym (eq-eqb x y d)) tt)) in
      unseen k x h r b (along (chosen-there (measured_term t m k) y (says_at k true) (says_at k false) b x n) p)

  module _ (N K : ℕ) (right : (i : ℕ) → i < K → Right N (variables t) m i) where
    fresh : (k : ℕ) → k < K → Unmentioned (measured_term t m k) (variable_at m k)
    fresh k l = unseen k (variable_at m k) (right k l).unknown (right k l).once

    -- low at least the threshold and high below it would be high below low
    apart : (i : ℕ) → i < K → T (says_at i true) → T (not (says_at i false))
    apart i l h =
        not_T (says_at i false)
        (λ g.
        T_not (lt_z (high_at m i) (low_at m i)) (right i l).ordered
        (<ℤ-≤ℤ_trans {a = high_at m i} {b = threshold_at m i} {c = low_at m i} (lt_z_yes g) (le_z_yes h)).lt)

    pub measured-IsTerm : IsTerm N t → (k : ℕ) → k ≤ K → IsTerm N (measured_term t m k)
    unfolding measured_term
    measured-IsTerm h zero l = h
    measured-IsTerm h (suc k) l =
        chosen-IsTerm (measured_term t m k) (variable_at m k) (fresh k l) N (says_at k true) (says_at k false) (right k l).below
        (measured-IsTerm h k (omega arith))

    pub measured-kept : (b : Bool) (x : ℕ) → T (has t b x) → (k : ℕ) → k ≤ K → T (has (measured_term t m k) b x)
    unfolding measured_term
    measured-kept b x h zero l = h
    measured-kept b x h (suc k) l =
        chosen-kept (measured_term t m k) (variable_at m k) (fresh k l) (says_at k true) (says_at k false) b x
        (measured-kept b x h k (omega arith))

    pub measured-added : (i : ℕ) (b : Bool) → T (says_at i b) → (k : ℕ) → i < k → k ≤ K
        → T (has (measured_term t m k) b (variable_at m i))
    unfolding measured_term
    measured-added i b h zero j l = absurd (not-suc-le-zero j)
    measured-added i b h (suc k) j l =
        ⊎_elim
        (λ (e : i ≡ k).
        subst (λ (z : ℕ). T (has (measured_term t m (suc k)) b (variable_at m z))) (sym e)
        (chosen-added (measured_term t m k) (variable_at m k) (says_at k) b (subst (λ (z : ℕ). T (says_at z b)) e h) (apart k l)))
        (λ (n : i < k).
        chosen-kept (measured_term t m k) (variable_at m k) (fresh k l) (says_at k true) (says_at k false) b (variable_at m i)
        (measured-added i b h k n (omega arith)))
        (below_suc j)

    pub measured-only : (b : Bool) (x k : ℕ) → k ≤ K → T (has (measured_term t m k) b x)
        → T (has t b x) ⊎ ((i : ℕ) × (i < k) × (variable_at m i ≡ x) × T (says_at i b))
    unfolding measured_term
    measured-only b x zero l h = inl h
    measured-only b x (suc k) l h =
        ⊎_elim
        (λ (g : T (has (measured_term t m k) b x)).
        ⊎_elim inl
        (λ (g : (i : ℕ) × (i < k) × (variable_at m i ≡ x) × T (says_at i b)).
        let (i, j, e, s) = g in inr (i, omega arith, e, s)) (measured-only b x k (omega arith) g))
        (λ (g : (variable_at m k ≡ x) × T (says_at k b)). inr (k, le_refl (suc k), g.0, g.1))
        (chosen-only (measured_term t m k) (variable_at m k) (fresh k l) (says_at k) b x h)
