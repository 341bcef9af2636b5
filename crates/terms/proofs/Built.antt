-- What Propositions 3 and 5 build from lists of terms is the prime implicants.
use Prim.Native.Nat.{ℕ, ◌<◌, ◌≤◌}
use mathlib.Core.Path.{◌≡◌, refl, sym, ap, subst, ◌∙◌}
use mathlib.Core.Bool.{Bool, true, false, ◌&&◌, not, cond, true≢false}
use mathlib.Core.Logic.{◌⊎◌, inl, inr, ⊎_elim}
use mathlib.Core.List.Memᴰ
use mathlib.Core.List.{List, [], ◌∷◌, ◌++◌, map, Memᴰ}
use native.Mathlib.Nat.{lt_of_lt_of_le}
use native.Mathlib.Omega.{arith}
use lib.Dec.{T, T_not, not_T, ltb, ltb→lt, nltb→le}
use lib.Pow.{pow_mono}
use Rattle.masks.specs.Mask.{width, bit, size, disjoint}
use Rattle.masks.specs.Numbers.{count}
use Rattle.masks.proofs.Numbers.{count-ext, count_less}
use Rattle.masks.proofs.Operators.{bit-or, disjoint-e, disjoint-i}
use Rattle.masks.proofs.Tests.{and_i, and_l, and_r, or_cases, not-not, decide}
use Rattle.terms.specs.Joins.{joins_with, holds_one, extended, joins, holds_shorter, least_of, decision_terms}
use Rattle.terms.specs.Lists.{keep}
use Rattle.terms.specs.Prime.{reduce, Implicant, Prime, Lists}
use Rattle.terms.specs.Term.{has, mentions, variables, literals, without, extend, join, inside, conflict, IsTerm}
use Rattle.terms.specs.declared.Term.{Term}
use Rattle.terms.proofs.Conjunctions.{conj, joined-IsTerm, joined-least, prime-joined, joined-prime, apart-prime, Joined}
use Rattle.terms.proofs.Decisions.{choice, with-literal, no-literal, meet-prime, one_side}
use Rattle.terms.proofs.Implicants.{Free, implicant-more, reduce-prime}
use Rattle.terms.proofs.Sorted.{keep_out, keep-in, any-i, any-e, map-in, map-out}
use Rattle.terms.proofs.Terms.{Inside, Unmentioned, mentions-i, join-l, join-r, has-below, join-IsTerm, extend-without, inside-e}
use Rattle.terms.proofs.Terms.{inside-i}

-- ---- the joins of a term with those of a list, one by one
pub with-step : (t u : Term) (l : List Term) → joins_with t (u ∷ l) ≡ joins_with t (u ∷ []) ++ joins_with t l
with-step t u l = go (conflict t u)
  where
    rest : List Term
    rest = keep (λ u. not (conflict t u)) l

    go : (p : Bool) → map (join t) (cond (not p) (u ∷ rest) rest) ≡ map (join t) (cond (not p) (u ∷ []) []) ++ map (join t) rest
    go true = refl
    go false = refl

-- one term of such a list
pub with-one : (t u : Term) (d : Bool) → conflict t u ≡ d → joins_with t (u ∷ []) ≡ cond d [] (join t u ∷ [])
with-one t u d e = ap (λ (z : Bool). map (join t) (cond (not z) (u ∷ []) [])) e ∙ go d
  where
    go : (d : Bool) → map (join t) (cond (not d) (u ∷ []) []) ≡ cond d [] (join t u ∷ [])
    go true = refl
    go false = refl

-- ---- the members of joined lists
pub joins-in : (us l : List Term) (r u t : Term) → Memᴰ r l → Memᴰ u us → T (not (conflict r u)) → t ≡ join r u
    → Memᴰ t (joins l us)
joins-in us [] r u t m n free e = absurd (Memᴰ.not-nil m)
joins-in us (q ∷ l) r u t m n free e =
    ⊎_elim
    (λ (d : r ≡ q).
    Memᴰ.append_left (joins l us)
    (Memᴰ.cast (e ∙ ap (λ (z : Term). join z u) d)
    (map-in (join q) (keep (λ u. not (conflict q u)) us) u
    (keep-in (λ u. not (conflict q u)) us u n (subst (λ (z : Term). T (not (conflict z u))) d free)))))
    (λ (k : Memᴰ r l). Memᴰ.append_right (joins_with q us) (joins-in us l r u t k n free e))
    (Memᴰ.cases_cons m)

-- a term of the one list and one of the other, without a conflict, that join to t
pub record JoinOf (l us : List Term) (t : Term) : Type 0 where
  pub left : Term
  pub right : Term
  pub in_left : Memᴰ left l
  pub in_right : Memᴰ right us
  pub free : T (not (conflict left right))
  pub is : t ≡ join left right

pub joins-out : (us l : List Term) (t : Term) → Memᴰ t (joins l us) → JoinOf l us t
joins-out us [] t m = absurd (Memᴰ.not-nil m)
joins-out us (r ∷ l) t m = go (Memᴰ.append_cases (joins_with r us) m) (joins-out us l t)
  where
    go : Memᴰ t (joins_with r us) ⊎ Memᴰ t (joins l us) → (Memᴰ t (joins l us) → JoinOf l us t) → JoinOf (r ∷ l) us t
    go (inl k) rest =
        let (u, n, e) = map-out (join r) (keep (λ u. not (conflict r u)) us) t k in
        let (n', free) = keep_out (λ u. not (conflict r u)) us u n in
        record { left = r; right = u; in_left = Memᴰ.head refl; in_right = n'; free = free; is = e }
    go (inr k) rest =
        let j : JoinOf l us t = rest k in
        record {
          left = j.left;
          right = j.right;
          in_left = Memᴰ.tail j.in_left;
          in_right = j.in_right;
          free = j.free;
          is = j.is;
        }

module _ (N : ℕ) (wide : N ≤ width) where
  -- ---- terms without a conflict join to a term
  pub conflict-free : (t u : Term) → IsTerm N t → T (not (conflict t u))
      → (x : ℕ) (b c : Bool) → T (has t b x) → T (has u c x) → b ≡ c
  unfolding conflict
  conflict-free t u h n x b c p q = go b c p q
    where
      free : T (disjoint t.positive u.negative && disjoint t.negative u.positive)
      free = not-not (disjoint t.positive u.negative && disjoint t.negative u.positive) n

      go : (b c : Bool) → T (has t b x) → T (has u c x) → b ≡ c
      go true true p q = refl
      go true false p q =
          absurd
          (disjoint-e t.positive u.negative (lt_of_lt_of_le (h.fits true) (pow_mono wide))
          (and_l (disjoint t.positive u.negative) (disjoint t.negative u.positive) free) x p q)
      go false true p q =
          absurd
          (disjoint-e t.negative u.positive (lt_of_lt_of_le (h.fits false) (pow_mono wide))
          (and_r (disjoint t.positive u.negative) (disjoint t.negative u.positive) free) x p q)
      go false false p q = refl

  pub joined_free : (t u : Term) → IsTerm N (join t u) → T (not (conflict t u))
  unfolding conflict
  joined_free t u h =
      not_T (not (disjoint t.positive u.negative && disjoint t.negative u.positive))
      (λ n. T_not (disjoint t.positive u.negative && disjoint t.negative u.positive) n
      (and_i (disjoint t.positive u.negative) (disjoint t.negative u.positive)
      (disjoint-i t.positive u.negative (λ x p q. true≢false (h.once x true false (join-l t u x true p) (join-r t u x false q))))
      (disjoint-i t.negative u.positive
      (λ x p q. true≢false (h.once x true false (join-r t u x true q) (join-l t u x false p))))))

  -- ---- a term inside another has fewer literals, or the same
  mentioned : (t : Term) → literals t ≡ count width (mentions t)
  unfolding size
  mentioned t = count-ext width (bit (variables t)) (mentions t) (λ x l. bit-or t.positive t.negative x)

  mentions-inside : (t u : Term) → Inside t u → (x : ℕ) → T (mentions t x) → T (mentions u x)
  mentions-inside t u i x h =
      ⊎_elim (λ (p : T (has t true x)). mentions-i u true x (i x true p))
      (λ (p : T (has t false x)). mentions-i u false x (i x false p))
      (or_cases (has t true x) (has t false x) h)

  pub as_long : (u t : Term) → IsTerm N t → Inside u t → literals t ≤ literals u → Inside t u
  as_long u t h i s x b p = ⊎_elim here gone (decide (mentions u x))
    where
      at : (c : Bool) → T (has u c x) → T (has u b x)
      at c q = subst (λ (d : Bool). T (has u d x)) (h.once x c b (i x c q) p) q

      here : T (mentions u x) → T (has u b x)
      here m = ⊎_elim (at true) (at false) (or_cases (has u true x) (has u false x) m)

      gone : T (not (mentions u x)) → T (has u b x)
      gone m =
          let l : x < width = lt_of_lt_of_le (has-below N t h x b p) wide in
          let fewer : count width (mentions u) < count width (mentions t) =
          count_less width (mentions u) (mentions t) (λ y k. mentions-inside u t i y) x l m (mentions-i t b x p) in
          absurd (omega (arith, mentioned u, mentioned t))

  -- ---- T7: a term is an implicant exactly if some prime implicant is inside it
  module _ (g : ℕ → Bool) (l : List Term) (h : Lists N g l) (t : Term) (w : IsTerm N t) where
    pub listed-implicant : Implicant N g t → T (holds_one l t)
    listed-implicant i =
        let (c, j) = reduce-prime N g t w i in
        any-i (λ u. inside u t) l (reduce N g t N) (h.every (reduce N g t N) c) (inside-i N (reduce N g t N) t j)

    pub implicant-listed : T (holds_one l t) → Implicant N g t
    implicant-listed s =
        let (u, m, i) = any-e (λ u. inside u t) l s in
        let c : Prime N g u = h.only u m in
        implicant-more N g u t (inside-e N wide u t c.is_term i) c.holds

  -- ---- Proposition 3
  module _ (f g : ℕ → Bool) (a b : List Term) (la : Lists N f a) (lb : Lists N g b) where
    joined-out : (t : Term) → Memᴰ t (joins a b) → Joined N f g t
    joined-out t m =
        let j : JoinOf a b t = joins-out b a t m in
        let pr : Prime N f j.left = la.only j.left j.in_left in
        let pu : Prime N g j.right = lb.only j.right j.in_right in
        record {
          left = j.left;
          right = j.right;
          left-prime = pr;
          right-prime = pu;
          is_term = join-IsTerm N j.left j.right pr.is_term pu.is_term
              (conflict-free j.left j.right pr.is_term j.free);
          is = j.is;
        }

    joined-mem : (t : Term) → Joined N f g t → Memᴰ t (joins a b)
    joined-mem t j =
        joins-in b a j.left j.right t (la.every j.left j.left-prime) (lb.every j.right j.right-prime)
        (joined_free j.left j.right j.is_term) j.is

    -- a joined term with none shorter inside has no other inside
    no-shorter : (t : Term) → Joined N f g t → T (not (holds_shorter (joins a b) t))
        → (u : Term) → Joined N f g u → Inside u t → Inside t u
    no-shorter t j n u k i =
        as_long u t (joined-IsTerm N f g t j) i
        (nltb→le (literals u) (literals t)
        (not_T (ltb (literals u) (literals t))
        (λ s. T_not (holds_shorter (joins a b) t) n
        (any-i (λ u. inside u t && ltb (literals u) (literals t)) (joins a b) u (joined-mem u k)
        (and_i (inside u t) (ltb (literals u) (literals t)) (inside-i N u t i) s)))))

    -- a prime implicant of both has none shorter inside
    shortest : (t : Term) → Prime N (conj N f g) t → T (holds_shorter (joins a b) t) → ⊥
    shortest t c s =
        let (u, m, h) = any-e (λ u. inside u t && ltb (literals u) (literals t)) (joins a b) s in
        let j : Joined N f g u = joined-out u m in
        let i : Inside u t =
        inside-e N wide u t (joined-IsTerm N f g u j) (and_l (inside u t) (ltb (literals u) (literals t)) h) in
        let l : literals u < literals t =
        ltb→lt (literals u) (literals t) (and_r (inside u t) (ltb (literals u) (literals t)) h) in
        let e : literals u ≡ literals t = ap literals (joined-least N f g t c u j i) in
        omega arith

    pub least-lists : Lists N (conj N f g) (least_of (joins a b))
    unfolding least_of
    least-lists =
        record {
          only = λ t m.
              let (k, n) = keep_out (λ t. not (holds_shorter (joins a b) t)) (joins a b) t m in
              let j : Joined N f g t = joined-out t k in
              joined-prime N f g t j (no-shorter t j n);
          every = λ t c. keep-in (λ t. not (holds_shorter (joins a b) t)) (joins a b) t
              (joined-mem t (prime-joined N f g t c))
              (not_T (holds_shorter (joins a b) t) (shortest t c));
        }

    -- where no variable matters to both, all joined terms
    pub joins-lists : ((x : ℕ) → x < N → Free N f x ⊎ Free N g x) → Lists N (conj N f g) (joins a b)
    joins-lists apart =
        record {
          only = λ t m.
              let j : Joined N f g t = joined-out t m in
              subst (Prime N (conj N f g)) (sym j.is)
              (apart-prime N f g apart j.left j.right j.left-prime j.right-prime);
          every = λ t c. joined-mem t (prime-joined N f g t c);
        }

  -- ---- Proposition 5
  module _ (F : Bool → ℕ → Bool) (x : ℕ) (l : x < N) (free : (b : Bool) → Free N (F b) x) where
    extended-out : (b : Bool) (k other : List Term) → Lists N (F b) k → Lists N (F (not b)) other
        → (t : Term) → Memᴰ t (extended x b other k) → Prime N (choice F x) t
    unfolding extended
    extended-out b k other lk lo t m =
        let (u, n, e) = map-out (λ t. extend t x b) (keep (λ t. not (holds_one other t)) k) t m in
        let (n', h) = keep_out (λ t. not (holds_one other t)) k u n in
        let c : Prime N (F b) u = lk.only u n' in
        subst (Prime N (choice F x)) (sym e)
        (one_side N F x l free b u c
        (λ i. T_not (holds_one other u) h (listed-implicant (F (not b)) other lo u c.is_term i)))

    extended-in : (b : Bool) (k other : List Term) → Lists N (F b) k → Lists N (F (not b)) other
        → (t : Term) → T (has t b x) → Prime N (choice F x) t → Memᴰ t (extended x b other k)
    unfolding extended
    extended-in b k other lk lo t p c =
        let (cr, n) = with-literal N F x l free t b p c in
        let rest : Term = without t x in
        Memᴰ.cast (sym (extend-without N t x b l c.is_term p))
        (map-in (λ t. extend t x b) (keep (λ t. not (holds_one other t)) k) rest
        (keep-in (λ t. not (holds_one other t)) k rest (lk.every rest cr)
        (not_T (holds_one other rest) (λ h. n (implicant-listed (F (not b)) other lo rest cr.is_term h)))))

    -- m lists the prime implicants of both sides
    pub decision-with : (a b m : List Term) → Lists N (F false) a → Lists N (F true) b → Lists N (conj N (F false) (F true)) m
        → Lists N (choice F x) (extended x false b a ++ (extended x true a b ++ m))
    decision-with a b m la lb lm = record { only = only; every = all }
      where
        only : (t : Term) → Memᴰ t (extended x false b a ++ (extended x true a b ++ m))
            → Prime N (choice F x) t
        only t n =
            ⊎_elim (λ (k : Memᴰ t (extended x false b a)). extended-out false a b la lb t k)
            (λ (k : Memᴰ t (extended x true a b ++ m)).
            ⊎_elim (λ (q : Memᴰ t (extended x true a b)). extended-out true b a lb la t q)
            (λ (q : Memᴰ t (m)). meet-prime N F x l free t (lm.only t q))
            (Memᴰ.append_cases (extended x true a b) k))
            (Memᴰ.append_cases (extended x false b a) n)

        none : (t : Term) → T (not (has t false x)) → T (not (has t true x)) → Unmentioned t x
        none t p q true h = T_not (has t true x) q h
        none t p q false h = T_not (has t false x) p h

        all : (t : Term) → Prime N (choice F x) t
            → Memᴰ t (extended x false b a ++ (extended x true a b ++ m))
        all t c =
            ⊎_elim
            (λ (p : T (has t false x)).
            Memᴰ.append_left (extended x true a b ++ m) (extended-in false a b la lb t p c))
            (λ (n : T (not (has t false x))).
            Memᴰ.append_right (extended x false b a)
            (⊎_elim
            (λ (p : T (has t true x)). Memᴰ.append_left (m) (extended-in true b a lb la t p c))
            (λ (n' : T (not (has t true x))).
            Memᴰ.append_right (extended x true a b) (lm.every t (no-literal N F x l free t (none t n n') c)))
            (decide (has t true x))))
            (decide (has t false x))

    pub decision-lists : (a b : List Term) → Lists N (F false) a → Lists N (F true) b
        → Lists N (choice F x) (decision_terms x a b)
    unfolding decision_terms
    decision-lists a b la lb = decision-with a b (least_of (joins a b)) la lb (least-lists (F false) (F true) a b la lb)
