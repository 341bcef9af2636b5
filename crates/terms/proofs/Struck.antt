-- Striking down: what is left of a satisfying assignment is a prime implicant that agrees with it.
use Prim.Native.Nat.{ℕ, zero, suc, ◌^◌, ◌<◌, ◌≤◌}
use mathlib.Core.Path.{◌≡◌, sym, subst}
use mathlib.Core.Bool.{Bool}
use mathlib.Core.Logic.{⊎_elim, ◌≢◌}
use native.Mathlib.Nat.{not-suc-le-zero, le_refl, lt_irrefl}
use native.Mathlib.Omega.{arith}
use lib.Dec.{T}
use Rattle.masks.specs.Mask.{bit}
use Rattle.masks.proofs.Masks.{bit-ext}
use Rattle.masks.proofs.Tests.{along, below_suc}
use Rattle.terms.specs.Prime.{assignment_term, reduce, Prime}
use Rattle.terms.specs.Term.{has, is_term, extend, Agrees, IsTerm}
use Rattle.terms.proofs.Implicants.{reduce-prime}
use Rattle.terms.proofs.Terms.{Unmentioned, extend-here, extend-there, empty-has, agrees-inside}
use Rattle.terms.proofs.Terms.{has-below, empty-IsTerm, extend-IsTerm, is_term-i}

term-unmentioned : (s k x : ℕ) → k ≤ x → Unmentioned (assignment_term s k) x
unfolding assignment_term
term-unmentioned s zero x l b p = empty-has x b p
term-unmentioned s (suc k) x l b p =
    let n : x ≢ k = (λ e. lt_irrefl k (subst (λ (z : ℕ). k < z) e l)) in
    term-unmentioned s k x (omega arith) b (along (extend-there (assignment_term s k) k x (bit s k) b n) p)

term-IsTerm : (N s k : ℕ) → k ≤ N → IsTerm N (assignment_term s k)
unfolding assignment_term
term-IsTerm N s zero l = empty-IsTerm N
term-IsTerm N s (suc k) l =
    extend-IsTerm N (assignment_term s k) k (bit s k) l (term-IsTerm N s k (omega arith)) (term-unmentioned s k k (le_refl k))

pub assignment-IsTerm : (N s : ℕ) → T (is_term N (assignment_term s N))
assignment-IsTerm N s = is_term-i N (assignment_term s N) (term-IsTerm N s N (le_refl N))

-- it has the literal of each of them, as s has it
term-has : (s k x : ℕ) → x < k → T (has (assignment_term s k) (bit s x) x)
unfolding assignment_term
term-has s zero x l = absurd (not-suc-le-zero l)
term-has s (suc k) x l =
    ⊎_elim
    (λ (e : x ≡ k).
    subst (λ (z : ℕ). T (has (extend (assignment_term s k) k (bit s k)) (bit s z) z)) (sym e)
    (extend-here (assignment_term s k) k (bit s k)))
    (λ (m : x < k).
    along (sym (extend-there (assignment_term s k) k x (bit s k) (bit s x) (λ e. lt_irrefl k (subst (λ (z : ℕ). z < k) e m))))
    (term-has s k x m))
    (below_suc l)

module _ (N : ℕ) (f : ℕ → Bool) (s : ℕ) (l : s < 2 ^ N) where
  -- only s agrees with all of its literals
  term-only : (r : ℕ) → r < 2 ^ N → Agrees (assignment_term s N) r → r ≡ s
  term-only r k a = bit-ext N r s k l (λ x m. a x (bit s x) (term-has s N x m))

  term-agrees : Agrees (assignment_term s N) s
  term-agrees x b p =
      let t : IsTerm N (assignment_term s N) = term-IsTerm N s N (le_refl N) in
      t.once x (bit s x) b (term-has s N x (has-below N (assignment_term s N) t x b p)) p

  -- the term left is a prime implicant, and agrees with the assignment
  pub reduction-prime : T (f s) → Prime N f (reduce N f (assignment_term s N) N) × Agrees (reduce N f (assignment_term s N) N) s
  reduction-prime h =
      let (p, i) =
      reduce-prime N f (assignment_term s N) (term-IsTerm N s N (le_refl N))
      (λ r k a. subst (λ (z : ℕ). T (f z)) (sym (term-only r k a)) h) in
      (p, agrees-inside (reduce N f (assignment_term s N) N) (assignment_term s N) s i term-agrees)
