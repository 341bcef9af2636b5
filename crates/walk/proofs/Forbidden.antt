-- What is known is forbidden exactly where every prime implicant conflicts with it: the status is 0 exactly where the number of those
-- without a conflict is.
use Prim.Native.Nat.{ℕ, suc, ◌^◌, ◌<◌, ◌≤◌}
use mathlib.Core.Path.{◌≡◌, refl, sym, ◌∙◌}
use mathlib.Core.Bool.{Bool, not}
use mathlib.Core.List.Memᴰ
use mathlib.Core.List.{List, [], ◌∷◌, Memᴰ}
use native.Mathlib.Omega.{arith}
use lib.Dec.{T, not_T}
use lib.ListN.{length, get_or, take}
use Rattle.masks.specs.Mask.{width}
use Rattle.masks.proofs.Tests.{and_i, and_l, along}
use Rattle.steps.specs.declared.Step.{Step}
use Rattle.terms.specs.Completions.{status}
use Rattle.terms.specs.Lists.{keep}
use Rattle.terms.specs.Prime.{primes, assignment_term, reduce, Implicant, Prime}
use Rattle.terms.specs.Term.{agrees, join, conflict, Agrees, IsTerm}
use Rattle.terms.specs.declared.Term.{Term}
use Rattle.terms.proofs.Built.{conflict-free}
use Rattle.terms.proofs.Completions.{falsified-e, falsified-i}
use Rattle.terms.proofs.Duality.{signs-differ}
use Rattle.terms.proofs.Listed.{primes-lists}
use Rattle.terms.proofs.Sorted.{keep-in, keep_out}
use Rattle.terms.proofs.Struck.{reduction-prime}
use Rattle.terms.proofs.Terms.{agrees-i}
use Rattle.states.proofs.Joined.{join-means}
use Rattle.walk.specs.Known.{known}
use Rattle.walk.specs.Walk.{compatible, after_each}
use Rattle.walk.proofs.Entries.{after-at}
use Rattle.walk.proofs.Known.{known-IsTerm}

-- ---- a list without members
none-e : {A : Type 0} (l : List A) → length l ≡ 0 → (a : A) → Memᴰ a l → ⊥
none-e [] e a m = Memᴰ.not-nil m
none-e (b ∷ l) e a m = omega arith

none-i : {A : Type 0} (l : List A) → ((a : A) → Memᴰ a l → ⊥) → length l ≡ 0
none-i [] h = refl
none-i (b ∷ l) h = absurd (h b (Memᴰ.head refl))

module _ (N : ℕ) (wide : N ≤ width) (f : ℕ → Bool) where
  -- ---- a term over the variables
  module _ (t : Term) (h : IsTerm N t) where
    abbrev free : Term → Bool
    free u = not (conflict u t)

    -- where no completion makes f true, a prime implicant's signs differ from it somewhere
    every-conflicts : Implicant N (λ s. not (f s)) t → (u : Term) → Prime N f u → T (free u) → ⊥
    every-conflicts k u p n = signs-differ N f u t p.is_term h p.holds k (conflict-free N wide u t p.is_term n)

    -- where a completion does: a prime implicant agrees with it
    module _ (s : ℕ) (l : s < 2 ^ N) (a : Agrees t s) (m : T (f s)) where
      abbrev struck : Term
      struck = reduce N f (assignment_term s N) N

      struck-free : Prime N f struck → Agrees struck s → T (free struck)
      struck-free p b =
          and_l (free struck) (agrees N (join struck t) s)
          (along (join-means N struck t p.is_term h wide s)
          (and_i (agrees N struck s) (agrees N t s) (agrees-i N struck s b) (agrees-i N t s a)))

      some-free : compatible N f t ≡ 0 → ⊥
      unfolding compatible
      some-free e =
          let (p, b) = reduction-prime N f s l m in
          none-e (keep free (primes [] N f)) e struck
          (keep-in free (primes [] N f) struck ((primes-lists [] N f).every struck p) (struck-free p b))

    none_free : status N f t ≡ 0 → compatible N f t ≡ 0
    unfolding compatible
    none_free e =
        none-i (keep free (primes [] N f))
        (λ u m.
        let (q, n) = keep_out free (primes [] N f) u m in
        every-conflicts (falsified-e N t h f e) u ((primes-lists [] N f).only u q) n)

    is-forbidden : compatible N f t ≡ 0 → status N f t ≡ 0
    is-forbidden e = falsified-i N t h f (λ s l a. not_T (f s) (λ m. some-free s l a m e))

    pub forbidden-exactly : (status N f t ≡ 0 → compatible N f t ≡ 0) × (compatible N f t ≡ 0 → status N f t ≡ 0)
    forbidden-exactly = (none_free, is-forbidden)

  -- ---- the entries of any steps
  module _ (es : List Step) (k : ℕ) (l : k < length es) where
    abbrev status_at : ℕ
    status_at = get_or (after_each N (status N f) es) k 0

    abbrev compatible_at : ℕ
    compatible_at = get_or (after_each N (compatible N f) es) k 0

    pub forbidden-entries : (status_at ≡ 0 → compatible_at ≡ 0) × (compatible_at ≡ 0 → status_at ≡ 0)
    forbidden-entries =
        let p : status_at ≡ status N f (known N (take (suc k) es)) = after-at N (status N f) es k l in
        let q : compatible_at ≡ compatible N f (known N (take (suc k) es)) = after-at N (compatible N f) es k l in
        let (to, from) = forbidden-exactly (known N (take (suc k) es)) (known-IsTerm N (take (suc k) es)) in
        (λ e. q ∙ to (sym p ∙ e), λ e. p ∙ from (sym q ∙ e))
