-- The terms of a list that pass a test, counted one by one; and the prime implicants without a conflict.
use Prim.Native.Nat.{ℕ, ◌+◌, ◌<◌, ◌≤◌}
use mathlib.Core.Path.{◌≡◌, ap, ap₂, ◌∙◌}
use mathlib.Core.Bool.{Bool, true, false, not, cond}
use mathlib.Core.List.{List, [], ◌∷◌}
use native.Mathlib.Omega.{arith}
use lib.ListN.{length, drop}
use Rattle.masks.specs.Numbers.{digit}
use Rattle.terms.specs.Lists.{keep}
use Rattle.terms.specs.Prime.{primes}
use Rattle.terms.specs.Term.{conflict}
use Rattle.terms.specs.declared.Term.{Term}
use Rattle.terms.proofs.Embeddings.{kept-length}
use Rattle.lists.specs.List.{nth, terms_in}
use Rattle.lists.specs.declared.list.TermList.{TermList}
use Rattle.lists.proofs.Parts.{drop-terms, drop-end}
use Rattle.walk.specs.Walk.{compatible}

module _ (p : Term → Bool) (l : TermList) where
  -- how many from term i on pass the test
  abbrev pub kept_from : ℕ → ℕ
  kept_from i = length (keep p (drop i (terms_in l)))

  module _ (i : ℕ) where
    pub kept_next : (b : Bool) → i < length l.positives.now → p (nth l i) ≡ b → kept_from i ≡ digit b + kept_from (i + 1)
    kept_next b below e =
        let rest : List Term = drop (i + 1) (terms_in l) in
        ap (λ (z : List Term). length (keep p z)) (drop-terms l.positives.now l.negatives.now l.same_length i below)
        ∙ ap (λ (c : Bool). length (cond c (nth l i ∷ keep p rest) (keep p rest))) e
        ∙ by b (keep p rest)
      where
        by : (b : Bool) (k : List Term) → length (cond b (nth l i ∷ k) k) ≡ digit b + length k
        by true k = omega arith
        by false k = omega arith

    pub kept-end : length l.positives.now ≤ i → kept_from i ≡ 0
    kept-end h = ap (λ (z : List Term). length (keep p z)) (drop-end l.positives.now l.negatives.now l.same_length i h)

-- ---- the terms are the prime implicants, in order by some weights: so many as were counted are compatible
pub listed-compatible : (m : List ℕ) (N : ℕ) (f : ℕ → Bool) {l : List Term} → l ≡ primes m N f → {t v : Term} {r : ℕ} → t ≡ v
    → r ≡ length (keep (λ u. not (conflict u t)) l) → r ≡ compatible N f v
unfolding compatible
listed-compatible m N f h {v = v} d e =
    e ∙ ap₂ (λ (t : Term) (l : List Term). length (keep (λ u. not (conflict u t)) l)) d h
    ∙ kept-length N m [] f (λ u. not (conflict u v))
