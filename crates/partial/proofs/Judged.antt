-- The judgement by the models under the term and the number of completions.
use Prim.Native.Nat.{ℕ, ◌+◌, ◌-◌, ◌^◌}
use mathlib.Core.Path.{◌≡◌, sym, ap, ap₂, ◌∙◌}
use mathlib.Core.Bool.{Bool, not}
use native.Mathlib.Omega.{arith}
use lib.Dec.{T, eqb}
use Rattle.masks.proofs.Numbers.{count-not}
use Rattle.table.specs.Outcome.{accepted}
use Rattle.terms.specs.Completions.{models_under, unknowns, status_by, status}
use Rattle.terms.specs.Term.{mentions, literals, is_term}
use Rattle.terms.specs.declared.Term.{Term}
use Rattle.terms.proofs.Completions.{status-counts, completions-sum}
use Rattle.terms.proofs.Terms.{is_term-e}
use Rattle.circuits.specs.Check.{check}
use Rattle.circuits.proofs.Accepted.{accepted-e, variables-wide}
use Rattle.passes.proofs.ModelPass.{literals-are}
use Rattle.partial.specs.Partial.{judgement}
use mathlib.Core.List.{List}

-- ---- an accepted circuit and a term over its variables
module _ (N n : ℕ) (w : List ℕ) (e : check N n w ≡ accepted) (t : Term) (h : T (is_term N t)) where
  pub unknown-rest : literals t + unknowns N t ≡ N
  unfolding unknowns
  unknown-rest =
      ap (λ (k : ℕ). k + unknowns N t) (literals-are N t (variables-wide (accepted-e N n w e)) (is_term-e N t h))
      ∙ count-not N (mentions t)

  module _ (f : ℕ → Bool) where
    -- all completions
    pub completions-are : 2 ^ (N - literals t) ≡ models_under N f t + models_under N (λ s. not (f s)) t
    completions-are =
        let k : N - literals t ≡ unknowns N t = omega (arith, unknown-rest) in
        ap (λ (z : ℕ). 2 ^ z) k ∙ sym (completions-sum N t (is_term-e N t h) f)

    pub judged-by : (v a b : ℕ) → v ≡ status_by (eqb b 0) (eqb a 0) → a ≡ models_under N f t → b ≡ models_under N (λ s. not (f s)) t
        → (v, (a, b)) ≡ judgement N f t
    unfolding judgement
    judged-by v a b d p q =
        let same : v ≡ status N f t =
        d ∙ ap₂ (λ (x y : ℕ). status_by (eqb y 0) (eqb x 0)) p q ∙ sym (status-counts N t f) in
        λ i. (same i, (p i, q i))
