-- The completions of a partial assignment: how many there are, and the status by the two numbers of them.
use Prim.Native.Nat.{ℕ, ◌+◌, ◌*◌, ◌^◌, ◌≤◌}
use mathlib.Core.Path.{◌≡◌, refl, sym, ap, ap₂, ◌∙◌, fun_ext}
use mathlib.Core.Bool.{Bool, true, false, ◌&&◌, not, and-true, not-not}
use native.Mathlib.Nat.{eq_of_mul-eq-mul_right, mul_comm}
use native.Mathlib.Omega.{arith}
use lib.Dec.{T, T_not, not_T, eqb}
use lib.Pow.{pow-add, pow_pos}
use borrow.Author.Tests.{eqb-true, eq-eqb}
use Rattle.masks.specs.Numbers.{count}
use Rattle.masks.proofs.Numbers.{count-ext, count-all, count-not, count-split, every-count}
use Rattle.masks.proofs.Tests.{is_true, is_false, along}
use Rattle.terms.specs.Completions.{models_under, unknowns, status_by, status}
use Rattle.terms.specs.Prime.{implicant, Implicant}
use Rattle.terms.specs.Term.{mentions, agrees, IsTerm}
use Rattle.terms.specs.declared.Term.{Term}
use Rattle.terms.proofs.Counts.{count-agrees}
use Rattle.terms.proofs.Implicants.{implicant-e, implicant-i}
use Rattle.terms.proofs.Terms.{own-agrees}

module _ (N : ℕ) (t : Term) where
  -- every completion makes f true exactly if none makes it false
  implicant-count : (f : ℕ → Bool) → implicant N f t ≡ eqb (models_under N (λ s. not (f s)) t) 0
  unfolding implicant models_under
  implicant-count f = every-count (2 ^ N) (agrees N t) f

  negated-count : (f : ℕ → Bool) → implicant N (λ s. not (f s)) t ≡ eqb (models_under N f t) 0
  negated-count f =
      implicant-count (λ s. not (f s)) ∙ ap (λ (g : ℕ → Bool). eqb (models_under N g t) 0) (fun_ext (λ s. not-not (f s)))

  -- the status by the two numbers
  pub status-counts : (f : ℕ → Bool)
      → status N f t ≡ status_by (eqb (models_under N (λ s. not (f s)) t) 0) (eqb (models_under N f t) 0)
  unfolding status
  status-counts f = ap₂ status_by (implicant-count f) (negated-count f)

  module _ (h : IsTerm N t) where
    -- 2 to the power of the unknown variables
    completions : count (2 ^ N) (agrees N t) ≡ 2 ^ unknowns N t
    unfolding unknowns
    completions =
        eq_of_mul-eq-mul_right (2 ^ count N (mentions t)) (pow_pos (count N (mentions t))) (count (2 ^ N) (agrees N t))
        (2 ^ count N (λ x. not (mentions t x)))
        (ap (λ (k : ℕ). k * 2 ^ count N (mentions t))
        (count-ext (2 ^ N) (agrees N t) (λ s. agrees N t s && true) (λ s l. sym (and-true (agrees N t s))))
        ∙ count-agrees N t (λ s. true) h (λ x l p s b k. refl)
        ∙ count-all (2 ^ N)
        ∙ ap (λ (k : ℕ). 2 ^ k) (sym (count-not N (mentions t)))
        ∙ pow-add 2 (count N (mentions t)) (count N (λ x. not (mentions t x)))
        ∙ mul_comm (2 ^ count N (mentions t)) (2 ^ count N (λ x. not (mentions t x))))

    -- those that make f true and those that make it false are all
    pub completions-sum : (f : ℕ → Bool) → models_under N f t + models_under N (λ s. not (f s)) t ≡ 2 ^ unknowns N t
    unfolding models_under
    completions-sum f = count-split (2 ^ N) (agrees N t) f ∙ completions

    module _ (f : ℕ → Bool) where
      abbrev negated : ℕ → Bool
      negated s = not (f s)

      -- some completion there is, so that not both can be
      not-both : T (implicant N f t) → T (implicant N negated t) → ⊥
      not-both p q =
          let s : ℕ = t.positive in
          T_not (f s) (implicant-e N negated t q s (h.fits true) (own-agrees N t h))
          (implicant-e N f t p s (h.fits true) (own-agrees N t h))

      pub satisfied-e : status N f t ≡ 2 → Implicant N f t
      unfolding status
      satisfied-e = by (implicant N f t) (implicant N negated t) refl
        where
          by : (a b : Bool) → implicant N f t ≡ a → status_by a b ≡ 2 → Implicant N f t
          by true b e k = implicant-e N f t (along (sym e) tt)
          by false true e k = absurd (omega arith)
          by false false e k = absurd (omega arith)

      pub satisfied-i : Implicant N f t → status N f t ≡ 2
      unfolding status
      satisfied-i k =
          ap (λ (a : Bool). status_by a (implicant N negated t)) (is_true (implicant N f t) (implicant-i N f t h k))

      pub falsified-e : status N f t ≡ 0 → Implicant N negated t
      unfolding status
      falsified-e = by (implicant N f t) (implicant N negated t) refl
        where
          by : (a b : Bool) → implicant N negated t ≡ b → status_by a b ≡ 0 → Implicant N negated t
          by a true e k = implicant-e N negated t (along (sym e) tt)
          by true false e k = absurd (omega arith)
          by false false e k = absurd (omega arith)

      pub falsified-i : Implicant N negated t → status N f t ≡ 0
      unfolding status
      falsified-i k =
          let q : T (implicant N negated t) = implicant-i N negated t h k in
          ap₂ status_by
          (is_false (implicant N f t) (not_T (implicant N f t) (λ p. not-both p q))) (is_true (implicant N negated t) q)

      pub status-le : status N f t ≤ 2
      unfolding status
      status-le = by (implicant N f t) (implicant N negated t)
        where
          by : (a b : Bool) → status_by a b ≤ 2
          by true b = omega arith
          by false true = omega arith
          by false false = omega arith

      -- the status by one number
      pub no-false-e : status N f t ≡ 2 → models_under N negated t ≡ 0
      no-false-e e =
          eqb-true (models_under N negated t) 0
          (sym (implicant-count f) ∙ is_true (implicant N f t) (implicant-i N f t h (satisfied-e e)))

      pub no-false-i : models_under N negated t ≡ 0 → status N f t ≡ 2
      no-false-i e = satisfied-i (implicant-e N f t (along (sym (implicant-count f ∙ eq-eqb (models_under N negated t) 0 e)) tt))

      pub no-true-e : status N f t ≡ 0 → models_under N f t ≡ 0
      no-true-e e =
          eqb-true (models_under N f t) 0
          (sym (negated-count f) ∙ is_true (implicant N negated t) (implicant-i N negated t h (falsified-e e)))

      pub no-true-i : models_under N f t ≡ 0 → status N f t ≡ 0
      no-true-i e =
          falsified-i (implicant-e N negated t (along (sym (negated-count f ∙ eq-eqb (models_under N f t) 0 e)) tt))
