-- T2, Proposition 3: the prime implicants of a conjunction are the least joined prime implicants of its sides;
-- where no variable matters to both sides, all joined ones.
use Prim.Native.Nat.{ℕ, ◌<◌}
use mathlib.Core.Path.{◌≡◌, refl, sym, subst}
use mathlib.Core.Bool.{Bool, ◌&&◌}
use mathlib.Core.Logic.{◌⊎◌, ⊎_elim}
use lib.Dec.{T}
use Rattle.masks.proofs.Tests.{and_i, and_l, and_r}
use Rattle.terms.specs.Prime.{reduce, Implicant, Prime}
use Rattle.terms.specs.Term.{has, without, join, IsTerm}
use Rattle.terms.specs.declared.Term.{Term}
use Rattle.terms.proofs.Implicants.{Free, implicant-more, prime-least, least-same, reduce-prime, free-unmentioned}
use Rattle.terms.proofs.Terms.{Inside, without-here, join-cases, inside-trans, without-inside, join-l, join-r, join-least}
use Rattle.terms.proofs.Terms.{has-below, without-IsTerm, join-IsTerm, join-within}

module _ (N : ℕ) where
  abbrev pub conj : (ℕ → Bool) → (ℕ → Bool) → ℕ → Bool
  conj f g s = f s && g s

  pub conj-l : (f g : ℕ → Bool) (t : Term) → Implicant N (conj f g) t → Implicant N f t
  conj-l f g t h s l a = and_l (f s) (g s) (h s l a)

  pub conj-r : (f g : ℕ → Bool) (t : Term) → Implicant N (conj f g) t → Implicant N g t
  conj-r f g t h s l a = and_r (f s) (g s) (h s l a)

  pub conj-i : (f g : ℕ → Bool) (t : Term) → Implicant N f t → Implicant N g t → Implicant N (conj f g) t
  conj-i f g t h k s l a = and_i (f s) (g s) (h s l a) (k s l a)

  module _ (f g : ℕ → Bool) where
    -- a prime implicant of f joined with one of g, to a term
    pub record Joined (t : Term) : Type 0 where
      pub left : Term
      pub right : Term
      pub left-prime : Prime N f left
      pub right-prime : Prime N g right
      pub is_term : IsTerm N (join left right)
      pub is : t ≡ join left right

    pub joined-IsTerm : (t : Term) → Joined t → IsTerm N t
    joined-IsTerm t j = subst (IsTerm N) (sym j.is) j.is_term

    pub joined-holds : (t : Term) → Joined t → Implicant N (conj f g) t
    joined-holds t j =
        let a : Term = j.left in
        let b : Term = j.right in
        subst (Implicant N (conj f g)) (sym j.is)
        (conj-i f g (join a b) (implicant-more N f a (join a b) (join-l a b) j.left-prime.holds)
        (implicant-more N g b (join a b) (join-r a b) j.right-prime.holds))

    -- an implicant of both has a joined term inside
    pub joined-inside : (t : Term) → IsTerm N t → Implicant N (conj f g) t → (u : Term) × Joined u × Inside u t
    joined-inside t h i =
        let a : Term = reduce N f t N in
        let b : Term = reduce N g t N in
        let (pa, ia) = reduce-prime N f t h (conj-l f g t i) in
        let (pb, ib) = reduce-prime N g t h (conj-r f g t i) in (
          join a b,
          record {
            left = a;
            right = b;
            left-prime = pa;
            right-prime = pb;
            is_term = join-within N a b t pa.is_term pb.is_term h ia ib;
            is = refl;
          },
          join-least a b t ia ib,
        )

    -- a prime implicant of both is the only joined term inside it
    pub joined-least : (t : Term) → Prime N (conj f g) t → (u : Term) → Joined u → Inside u t → u ≡ t
    joined-least t c u j i = least-same N (conj f g) t u c (joined-IsTerm u j) i (joined-holds u j)

    pub prime-joined : (t : Term) → Prime N (conj f g) t → Joined t
    prime-joined t c =
        let (u, j, i) = joined-inside t c.is_term c.holds in subst Joined (joined-least t c u j i) j

    -- a joined term with no smaller one inside is a prime implicant of both
    pub joined-prime : (t : Term) → Joined t → ((u : Term) → Joined u → Inside u t → Inside t u) → Prime N (conj f g) t
    joined-prime t j only =
        record {
          is_term = joined-IsTerm t j;
          holds = joined-holds t j;
          minimal = λ x b p h.
              let (u, k, i) = joined-inside (without t x) (without-IsTerm N t x (joined-IsTerm t j)) h in
              without-here t x b (i x b (only u k (inside-trans u (without t x) t i (without-inside t x)) x b p));
        }

  -- ---- functions to which no variable matters in common
  module _ (f g : ℕ → Bool) (apart : (x : ℕ) → x < N → Free N f x ⊎ Free N g x) where
    -- no variable has a literal both in a prime implicant of f and in one of g
    pub no-common : (t u : Term) → Prime N f t → Prime N g u → (x : ℕ) (b c : Bool) → T (has t b x) → T (has u c x) → ⊥
    no-common t u pt pu x b c p q =
        ⊎_elim (λ (h : Free N f x). free-unmentioned N f x h t pt b p)
        (λ (h : Free N g x). free-unmentioned N g x h u pu c q)
        (apart x (has-below N t pt.is_term x b p))

    -- a term of f inside a joined term is inside the side of f, and so for g
    pub inside-left : (t u v : Term) → Prime N g u → Prime N f v → Inside v (join t u) → Inside v t
    inside-left t u v pu pv i x b p =
        ⊎_elim (λ (q : T (has t b x)). q) (λ (q : T (has u b x)). absurd (no-common v u pv pu x b b p q))
        (join-cases t u b x (i x b p))

    pub inside-right : (t u v : Term) → Prime N f t → Prime N g v → Inside v (join t u) → Inside v u
    inside-right t u v pt pv i x b p =
        ⊎_elim (λ (q : T (has t b x)). absurd (no-common t v pt pv x b b q p)) (λ (q : T (has u b x)). q)
        (join-cases t u b x (i x b p))

    pub apart-IsTerm : (t u : Term) → Prime N f t → Prime N g u → IsTerm N (join t u)
    apart-IsTerm t u pt pu =
        join-IsTerm N t u pt.is_term pu.is_term (λ x b c p q. absurd (no-common t u pt pu x b c p q))

    pub apart-prime : (t u : Term) → Prime N f t → Prime N g u → Prime N (conj f g) (join t u)
    apart-prime t u pt pu =
        joined-prime f g (join t u)
        (record { left = t; right = u; left-prime = pt; right-prime = pu; is_term = apart-IsTerm t u pt pu; is = refl }) only
      where
        only : (v : Term) → Joined f g v → Inside v (join t u) → Inside (join t u) v
        only v j i =
            let a : Term = j.left in
            let b : Term = j.right in
            let k : Inside (join a b) (join t u) = subst (λ (z : Term). Inside z (join t u)) j.is i in
            let ia : Inside a t =
            inside-left t u a pu j.left-prime (inside-trans a (join a b) (join t u) (join-l a b) k) in
            let ib : Inside b u =
            inside-right t u b pt j.right-prime (inside-trans b (join a b) (join t u) (join-r a b) k) in
            subst (λ (z : Term). Inside (join t u) z) (sym j.is)
            (join-least t u (join a b)
            (inside-trans t a (join a b) (prime-least N f t a pt ia j.left-prime.holds) (join-l a b))
            (inside-trans u b (join a b) (prime-least N g u b pu ib j.right-prime.holds) (join-r a b)))
