-- Implicants and prime implicants of any function of assignments, as statements; every implicant has a prime implicant inside.
use Prim.Native.Nat.{ℕ, zero, suc, ◌^◌, ◌<◌}
use mathlib.Core.Path.{◌≡◌, refl, sym, subst}
use mathlib.Core.Bool.{Bool, true, false, not, cond}
use mathlib.Core.Logic.{⊎_elim}
use native.Mathlib.Nat.{not-suc-le-zero}
use lib.Dec.{T, T_not, not_T}
use Rattle.masks.specs.Mask.{put}
use Rattle.masks.specs.Numbers.{implied, every}
use Rattle.masks.proofs.Masks.{put-lt}
use Rattle.masks.proofs.Numbers.{every-e, every-i}
use Rattle.masks.proofs.Tests.{and_i, and_l, and_r, or_cases, implied-i, implied-e, decide, along, below_suc}
use Rattle.terms.specs.Prime.{Prime, Implicant, implicant, prime, reduce}
use Rattle.terms.specs.Term.{has, mentions, is_term, agrees, without, IsTerm}
use Rattle.terms.specs.declared.Term.{Term}
use Rattle.terms.proofs.Terms.{Inside, Unmentioned, without-here, mentions-i, inside-refl, inside-trans, without-inside}
use Rattle.terms.proofs.Terms.{inside-without, without-mono, agrees-inside, put-agrees, has-below, term-ext, without-IsTerm}
use Rattle.terms.proofs.Terms.{is_term-e, is_term-i, agrees-e, agrees-i}

module _ (N : ℕ) where
  -- the value of x does not matter to f
  abbrev pub Free : (ℕ → Bool) → ℕ → Type 0
  Free f x = (s : ℕ) (b : Bool) → s < 2 ^ N → f (put s x b) ≡ f s

  -- ---- the tests say these statements
  pub implicant-e : (f : ℕ → Bool) (t : Term) → T (implicant N f t) → Implicant N f t
  unfolding implicant
  implicant-e f t h s l a =
      implied-e (agrees N t s) (f s) (every-e (2 ^ N) (λ s. implied (agrees N t s) (f s)) h s l) (agrees-i N t s a)

  pub implicant-i : (f : ℕ → Bool) (t : Term) → IsTerm N t → Implicant N f t → T (implicant N f t)
  unfolding implicant
  implicant-i f t w h =
      every-i (2 ^ N) (λ s. implied (agrees N t s) (f s))
      (λ s l. implied-i (agrees N t s) (f s) (λ a. h s l (agrees-e N t s w a)))

  minimal_at : (ℕ → Bool) → Term → ℕ → Bool
  minimal_at f t x = implied (mentions t x) (not (implicant N f (without t x)))

  pub prime-e : (f : ℕ → Bool) (t : Term) → T (prime N f t) → Prime N f t
  unfolding prime minimal_at
  prime-e f t h = record { is_term = term; holds = implicant-e f t (search (and_l, and_r)); minimal = minimal }
    where
      term : IsTerm N t
      term = is_term-e N t (search (and_l, and_r))

      all-minimal : T (every N (minimal_at f t))
      all-minimal = search (and_l, and_r)

      minimal : (x : ℕ) (b : Bool) → T (has t b x) → Implicant N f (without t x) → ⊥
      minimal x b p q =
          T_not (implicant N f (without t x))
          (implied-e (mentions t x) (not (implicant N f (without t x)))
          (every-e N (minimal_at f t) all-minimal x (has-below N t term x b p)) (mentions-i t b x p))
          (implicant-i f (without t x) (without-IsTerm N t x term) q)

  pub prime-i : (f : ℕ → Bool) (t : Term) → Prime N f t → T (prime N f t)
  unfolding prime minimal_at
  prime-i f t c =
      let a : T (is_term N t) = is_term-i N t c.is_term in
      let i : T (implicant N f t) = implicant-i f t c.is_term c.holds in
      let e : T (every N (minimal_at f t)) = every-i N (minimal_at f t) (λ x l. minimal x) in
      search and_i
    where
      struck : (x : ℕ) → T (mentions t x) → T (implicant N f (without t x)) → ⊥
      struck x m q =
          ⊎_elim (λ (p : T (has t true x)). c.minimal x true p (implicant-e f (without t x) q))
          (λ (p : T (has t false x)). c.minimal x false p (implicant-e f (without t x) q))
          (or_cases (has t true x) (has t false x) m)

      minimal : (x : ℕ) → T (minimal_at f t x)
      minimal x =
          implied-i (mentions t x) (not (implicant N f (without t x)))
          (λ m. not_T (implicant N f (without t x)) (struck x m))

  -- ---- more literals, fewer assignments
  pub implicant-more : (f : ℕ → Bool) (t u : Term) → Inside t u → Implicant N f t → Implicant N f u
  implicant-more f t u i h s l a = h s l (agrees-inside t u s i a)

  -- an implicant inside a prime implicant is all of it
  pub prime-least : (f : ℕ → Bool) (t u : Term) → Prime N f t → Inside u t → Implicant N f u → Inside t u
  prime-least f t u c i h x b p =
      ⊎_elim (λ (q : T (has u b x)). q)
      (λ (q : T (not (has u b x))).
      absurd
      (c.minimal x b p
      (implicant-more f u (without t x)
      (inside-without u t x i
      (λ d w. T_not (has u b x) q (subst (λ (e : Bool). T (has u e x)) (c.is_term.once x d b (i x d w) p) w))) h)))
      (decide (has u b x))

  pub least-same : (f : ℕ → Bool) (t u : Term) → Prime N f t → IsTerm N u → Inside u t → Implicant N f u → u ≡ t
  least-same f t u c k i h = term-ext N u t k c.is_term i (prime-least f t u c i h)

  -- ---- T1: reduction finds a prime implicant inside an implicant
  module _ (f : ℕ → Bool) (t : Term) where
    -- the term u after the literals of the variables below k were tried
    record Reduced (u : Term) (k : ℕ) : Type 0 where
      is_term : IsTerm N u
      holds : Implicant N f u
      inside : Inside u t
      minimal : (x : ℕ) (b : Bool) → x < k → T (has u b x) → Implicant N f (without u x) → ⊥

    struck : (u : Term) (k : ℕ) → Reduced u k → Implicant N f (without u k) → Reduced (without u k) (suc k)
    struck u k r h =
        record {
          is_term = without-IsTerm N u k r.is_term;
          holds = h;
          inside = inside-trans (without u k) u t (without-inside u k) r.inside;
          minimal = λ x b l p q. ⊎_elim
              (λ (e : x ≡ k). without-here u k b (subst (λ (y : ℕ). T (has (without u k) b y)) e p))
              (λ (m : x < k).
              r.minimal x b m (without-inside u k x b p)
              (implicant-more f (without (without u k) x) (without u x) (without-mono (without u k) u x (without-inside u k)) q))
              (below_suc l);
        }

    kept : (u : Term) (k : ℕ) → Reduced u k → (Implicant N f (without u k) → ⊥) → Reduced u (suc k)
    kept u k r h =
        record {
          is_term = r.is_term;
          holds = r.holds;
          inside = r.inside;
          minimal = λ x b l p q. ⊎_elim (λ (e : x ≡ k). h (subst (λ (y : ℕ). Implicant N f (without u y)) e q))
              (λ (m : x < k). r.minimal x b m p q)
              (below_suc l);
        }

    next : (u : Term) (k : ℕ) → Reduced u k → (b : Bool) → implicant N f (without u k) ≡ b
        → Reduced (cond b (without u k) u) (suc k)
    next u k r true e = struck u k r (implicant-e f (without u k) (along (sym e) tt))
    next u k r false e = kept u k r (λ q. along e (implicant-i f (without u k) (without-IsTerm N u k r.is_term) q))

    reduced : IsTerm N t → Implicant N f t → (k : ℕ) → Reduced (reduce N f t k) k
    unfolding reduce
    reduced h i zero =
        record { is_term = h; holds = i; inside = inside-refl t; minimal = λ x b l p q. absurd (not-suc-le-zero l) }
    reduced h i (suc k) = next (reduce N f t k) k (reduced h i k) (implicant N f (without (reduce N f t k) k)) refl

    pub reduce-prime : IsTerm N t → Implicant N f t → Prime N f (reduce N f t N) × Inside (reduce N f t N) t
    reduce-prime h i =
        let r : Reduced (reduce N f t N) N = reduced h i N in (
          record {
            is_term = r.is_term;
            holds = r.holds;
            minimal = λ x b p. r.minimal x b (has-below N (reduce N f t N) r.is_term x b p) p;
          },
          r.inside,
        )

  -- ---- T3: a variable that does not matter to f is in no prime implicant of f
  pub free-unmentioned : (f : ℕ → Bool) (x : ℕ) → Free f x → (t : Term) → Prime N f t → Unmentioned t x
  free-unmentioned f x free t c b p =
      let l : x < N = has-below N t c.is_term x b p in
      c.minimal x b p
      (λ s k a. along (free s b k)
      (c.holds (put s x b) (put-lt N s x b l k) (put-agrees t x b s (λ d q. c.is_term.once x d b q p) a)))
