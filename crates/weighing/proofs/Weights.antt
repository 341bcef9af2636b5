-- Weights that fit, and what a term weighs at most.
use Prim.Native.Nat.{ℕ, zero, suc, ◌*◌, ◌<◌, ◌≤◌}
use mathlib.Core.Path.{◌≡◌, refl, sym, subst}
use mathlib.Core.Bool.{Bool, true, false, ◌&&◌, ◌||◌, not, cond, true≢false}
use mathlib.Core.List.{List, [], ◌∷◌}
use native.Mathlib.Omega.{arith}
use lib.Dec.{T, eqb, eqb→eq, eqb_refl, leb, leb→le, le→leb}
use lib.ListN.{length, get_or}
use Rattle.masks.proofs.Tests.{and_i, and_l, and_r, is_true, along}
use Rattle.masks.proofs.Totals.{total-most}
use Rattle.terms.specs.Lists.{all, any}
use Rattle.terms.specs.Order.{weight}
use Rattle.terms.specs.Term.{mentions}
use Rattle.terms.specs.declared.Term.{Term}
use Rattle.weighing.specs.Weights.{max_weight, fitting, Bounded}

module _ (N : ℕ) (m : List ℕ) (e : fitting N m ≡ true) where
  pub fitting-length : length m ≡ N
  unfolding fitting
  fitting-length = eqb→eq (length m) N (and_l (eqb (length m) N) (all (λ v. leb v max_weight) m) (along (sym e) tt))

  pub fitting-most : Bounded m
  unfolding fitting
  fitting-most = bounded m (and_r (eqb (length m) N) (all (λ v. leb v max_weight) m) (along (sym e) tt))
    where
      bounded : (l : List ℕ) → T (all (λ v. leb v max_weight) l) → Bounded l
      bounded [] h x = omega arith
      bounded (v ∷ l) h zero = leb→le v max_weight (and_l (leb v max_weight) (all (λ v. leb v max_weight) l) h)
      bounded (v ∷ l) h (suc x) = bounded l (and_r (leb v max_weight) (all (λ v. leb v max_weight) l) h) x

pub fitting-i : (N : ℕ) (m : List ℕ) → length m ≡ N → ((x : ℕ) → x < length m → get_or m x 0 ≤ max_weight) → fitting N m ≡ true
unfolding fitting
fitting-i N m e h =
    is_true (eqb (length m) N && all (λ v. leb v max_weight) m)
    (and_i (eqb (length m) N) (all (λ v. leb v max_weight) m) (subst (λ (k : ℕ). T (eqb (length m) k)) e (eqb_refl (length m))) (each m h))
  where
    each : (l : List ℕ) → ((x : ℕ) → x < length l → get_or l x 0 ≤ max_weight) → T (all (λ v. leb v max_weight) l)
    each [] h = tt
    each (v ∷ l) h =
        and_i (leb v max_weight) (all (λ v. leb v max_weight) l) (le→leb v max_weight (h 0 (omega arith)))
        (each l (λ x k. h (suc x) (omega (arith, k))))

pub chosen-most : {w c : ℕ} (b : Bool) → w ≤ c → cond b w 0 ≤ c
chosen-most true h = h
chosen-most false h = omega arith

pub weight-most : (m : List ℕ) → Bounded m → length m ≤ 40 → (t : Term) → weight m t ≤ 40000
unfolding weight
weight-most m h l t =
    let most : weight m t ≤ length m * max_weight =
    total-most (length m) max_weight (λ x. cond (mentions t x) (get_or m x 0) 0) (λ x k. chosen-most (mentions t x) (h x)) in
    omega arith

-- where no weight is not 0, each is
pub none-weighs : (m : List ℕ) → any (λ v. not (eqb v 0)) m ≡ false → (x : ℕ) → get_or m x 0 ≡ 0
none-weighs [] e x = refl
none-weighs (v ∷ m) e zero = go (eqb v 0) refl e
  where
    go : (b : Bool) → eqb v 0 ≡ b → (not b || any (λ v. not (eqb v 0)) m) ≡ false → v ≡ 0
    go true p q = eqb→eq v 0 (along (sym p) tt)
    go false p q = absurd (true≢false q)
none-weighs (v ∷ m) e (suc x) = none-weighs m (go (eqb v 0) e) x
  where
    go : (b : Bool) → (not b || any (λ v. not (eqb v 0)) m) ≡ false → any (λ v. not (eqb v 0)) m ≡ false
    go true q = q
    go false q = absurd (true≢false q)
