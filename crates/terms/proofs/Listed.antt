-- T6: the list of all prime implicants rises, has exactly the prime implicants as members, and is the only such list, whatever the weights.
use Prim.Native.Nat.{ℕ, ◌^◌}
use mathlib.Core.Path.{◌≡◌, refl, sym, ap, subst, ◌∙◌}
use mathlib.Core.Bool.{Bool, true, false, true≢false}
use mathlib.Core.Logic.{⊎_elim}
use mathlib.Core.List.Memᴰ
use mathlib.Core.List.{List, [], ◌∷◌, map, Memᴰ}
use mathlib.Core.List.{head-eq_of_cons-eq, tail-eq_of_cons-eq}
use lib.Dec.{T}
use Rattle.masks.specs.Mask.{bit}
use Rattle.masks.specs.Numbers.{below}
use Rattle.masks.proofs.Numbers.{below-mem}
use Rattle.masks.proofs.Operators.{bit-or}
use Rattle.masks.proofs.Tests.{or_r, or_cases, along}
use Rattle.terms.specs.Lists.{keep, insert, sort, Rising}
use Rattle.terms.specs.Order.{key, before}
use Rattle.terms.specs.Prime.{prime, pairs, candidates, primes, Lists}
use Rattle.terms.specs.Term.{term, has, variables, IsTerm}
use Rattle.terms.specs.declared.Term.{Term}
use Rattle.terms.proofs.Implicants.{prime-e, prime-i}
use Rattle.terms.proofs.Sorted.{less-irrefl, less-trans, less-total, rising-unique, insert-rising, sort-rising, sort-out, sort-in}
use Rattle.terms.proofs.Sorted.{keep-in, keep_out, map-in}
use Rattle.terms.proofs.Terms.{Inside, term-ext}

pairs-mem : (t : Term) (ps ns : List ℕ) → Memᴰ t.positive ps → Memᴰ t.negative ns → Memᴰ t (pairs ps ns)
pairs-mem t [] ns m n = absurd (Memᴰ.not-nil m)
pairs-mem t (p ∷ ps) ns m n =
    ⊎_elim
    (λ (e : t.positive ≡ p).
    Memᴰ.append_left (pairs ps ns)
    (Memᴰ.cast (ap (λ (q : ℕ). term q t.negative) e) (map-in (term p) ns t.negative n)))
    (λ (k : Memᴰ t.positive ps). Memᴰ.append_right (map (term p) ns) (pairs-mem t ps ns k n))
    (Memᴰ.cases_cons m)

-- ---- the order, by any weights
module _ (m : List ℕ) where
  pub before-irrefl : (t : Term) → T (before m t t) → ⊥
  unfolding before
  before-irrefl t h = less-irrefl (key m t) h

  pub before-trans : (t u v : Term) → T (before m t u) → T (before m u v) → T (before m t v)
  unfolding before
  before-trans t u v p q = less-trans (key m t) (key m u) (key m v) p q

  pub terms-unique : (l k : List Term) → Rising (before m) l → Rising (before m) k → ((t : Term) → Memᴰ t l → Memᴰ t k)
      → ((t : Term) → Memᴰ t k → Memᴰ t l) → l ≡ k
  terms-unique = rising-unique (before m) before-irrefl before-trans

  pub inserted_rising : (t : Term) (l : List Term) → Rising (before m) l → Rising (before m) (insert (before m) t l)
  inserted_rising = insert-rising (before m) before-irrefl before-trans

  pub sorted-rising : (l : List Term) → Rising (before m) (sort (before m) l)
  sorted-rising = sort-rising (before m) before-irrefl before-trans

module _ (N : ℕ) where
  -- a term's literals are those of its mask of variables, positive where its positive mask has them
  same-literals : (t u : Term) → IsTerm N t → variables t ≡ variables u → t.positive ≡ u.positive → Inside t u
  same-literals t u h e d x true p = subst (λ (v : ℕ). T (bit v x)) d p
  same-literals t u h e d x false p =
      ⊎_elim
      (λ (q : T (has u true x)). absurd (true≢false (h.once x true false (subst (λ (v : ℕ). T (bit v x)) (sym d) q) p)))
      (λ (q : T (has u false x)). q)
      (or_cases (has u true x) (has u false x)
      (along (ap (λ (v : ℕ). bit v x) e ∙ bit-or u.positive u.negative x)
      (along (sym (bit-or t.positive t.negative x)) (or_r (has t true x) (has t false x) p))))

  candidates-mem : (t : Term) → IsTerm N t → Memᴰ t (candidates N)
  unfolding candidates
  candidates-mem t h =
      pairs-mem t (below (2 ^ N)) (below (2 ^ N)) (below-mem (2 ^ N) t.positive (h.fits true))
      (below-mem (2 ^ N) t.negative (h.fits false))

module _ (m : List ℕ) (N : ℕ) where
  pub before-total : (t u : Term) → IsTerm N t → IsTerm N u → (T (before m t u) → ⊥) → (T (before m u t) → ⊥) → t ≡ u
  unfolding before key
  before-total t u h k p q =
      let e : key m t ≡ key m u = less-total (key m t) (key m u) refl p q in
      let v : variables t ≡ variables u = head-eq_of_cons-eq (tail-eq_of_cons-eq (tail-eq_of_cons-eq e)) in
      let y : t.positive ≡ u.positive = head-eq_of_cons-eq (tail-eq_of_cons-eq (tail-eq_of_cons-eq (tail-eq_of_cons-eq e))) in
      term-ext N t u h k (same-literals N t u h v y) (same-literals N u t k (sym v) (sym y))

  -- sorting loses no term and adds none
  pub sorted-in : (l : List Term) → ((t : Term) → Memᴰ t l → IsTerm N t) → (t : Term) → Memᴰ t l
      → Memᴰ t (sort (before m) l)
  sorted-in l h = sort-in (before m) (IsTerm N) before-total l h

  -- a list in order with the members of another is that one, sorted
  pub sorted-only : (l k : List Term) → Rising (before m) l → ((t : Term) → Memᴰ t k → IsTerm N t)
      → ((t : Term) → Memᴰ t l → Memᴰ t k) → ((t : Term) → Memᴰ t k → Memᴰ t l) → l ≡ sort (before m) k
  sorted-only l k r h to from =
      terms-unique m l (sort (before m) k) r
      (sorted-rising m k) (λ t i. sorted-in k h t (to t i))
      (λ t i. from t (sort-out (before m) k t i))

  module _ (f : ℕ → Bool) where
    pub sort-lists : (l : List Term) → Lists N f l → Lists N f (sort (before m) l)
    sort-lists l h =
        record {
          only = λ t i. h.only t (sort-out (before m) l t i);
          every = λ t c. sorted-in l (λ u i. (h.only u i).is_term) t (h.every t c);
        }

    pub primes-lists : Lists N f (primes m N f)
    unfolding primes
    primes-lists =
        sort-lists (keep (prime N f) (candidates N))
        (record {
          only = λ t i. prime-e N f t (keep_out (prime N f) (candidates N) t i).1;
          every = λ t c. keep-in (prime N f) (candidates N) t (candidates-mem N t c.is_term) (prime-i N f t c);
        })

    pub primes-rising : Rising (before m) (primes m N f)
    unfolding primes
    primes-rising = sorted-rising m (keep (prime N f) (candidates N))

    pub primes-unique : (l : List Term) → Rising (before m) l → Lists N f l → l ≡ primes m N f
    primes-unique l r h =
        terms-unique m l (primes m N f) r primes-rising
        (λ t i. primes-lists.every t (h.only t i)) (λ t i. h.every t (primes-lists.only t i))

    -- a list of exactly the prime implicants, in order, is the list of all
    pub sort-primes : (l : List Term) → Lists N f l → sort (before m) l ≡ primes m N f
    sort-primes l h =
        primes-unique (sort (before m) l) (sorted-rising m l) (sort-lists l h)
