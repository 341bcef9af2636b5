-- Where every weight is 0, the order is the one without weights.
use Prim.Native.Nat.{ℕ}
use mathlib.Core.Path.{◌≡◌, refl, sym, ap, fun_ext, ◌∙◌}
use mathlib.Core.Bool.{Bool, true, false, cond}
use mathlib.Core.List.{List, []}
use lib.ListN.{length, get_or}
use Rattle.masks.proofs.Totals.{total_ext, total-none}
use Rattle.terms.specs.Lists.{keep, sort}
use Rattle.terms.specs.Order.{weight, before}
use Rattle.terms.specs.Prime.{prime, candidates, primes}
use Rattle.terms.specs.Term.{mentions}
use Rattle.terms.specs.declared.Term.{Term}
use Rattle.terms.proofs.Leaves.{before-level}

module _ (m : List ℕ) (none : (x : ℕ) → get_or m x 0 ≡ 0) where
  weight-none : (t : Term) → weight m t ≡ 0
  unfolding weight
  weight-none t =
      total_ext (length m) (λ x. cond (mentions t x) (get_or m x 0) 0) (λ x. 0) (λ x l. either-none (mentions t x) (none x))
      ∙ total-none (length m)
    where
      either-none : (b : Bool) {v : ℕ} → v ≡ 0 → cond b v 0 ≡ 0
      either-none true e = e
      either-none false e = refl

  before-none : before m ≡ before []
  before-none = fun_ext (λ t. fun_ext (λ u. before-level t u m (weight-none t ∙ sym (weight-none u))))

  pub primes-none : (N : ℕ) (f : ℕ → Bool) → primes m N f ≡ primes [] N f
  unfolding primes
  primes-none N f = ap (λ (b : Term → Term → Bool). sort b (keep (prime N f) (candidates N))) before-none
