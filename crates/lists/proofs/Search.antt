-- The code's search for a shorter join: that it finds a pair exactly if there is one.
use Prim.Native.Nat.{ℕ, ◌+◌, ◌<◌, ◌≤◌}
use mathlib.Core.Path.{◌≡◌, refl, sym, ap, ap₂, subst, ◌∙◌}
use mathlib.Core.Bool.{Bool, true, false, ◌&&◌, ◌||◌, not, cond}
use mathlib.Core.Logic.{⊎_elim}
use mathlib.Core.List.Memᴰ
use mathlib.Core.List.{List, [], ◌∷◌, Memᴰ}
use lib.Bits.{bit_and}
use lib.Dec.{T, T_not, not_T, ltb, lt→ltb}
use lib.ListN.{length, drop}
use Rattle.masks.specs.Mask.{bit}
use Rattle.masks.proofs.Masks.{bit-zero}
use Rattle.masks.proofs.Operators.{bit-and}
use Rattle.masks.proofs.Tests.{and_i, and_l, and_r, or_l, or_r, or_cases, is_true, along, same_test}
use Rattle.terms.specs.Lists.{any}
use Rattle.terms.specs.Term.{term, empty, has, join, inside, terms_of}
use Rattle.terms.specs.declared.Term.{Term}
use Rattle.terms.proofs.Sorted.{any-i, any-e}
use Rattle.terms.proofs.Terms.{Inside, inside-trans, join-l, join-r, join-least, inside-mono}
use Rattle.lists.specs.Entries.{term_at}
use Rattle.lists.specs.declared.list.TermList.{TermList}
use Rattle.lists.specs.Scans.{short, shorter, shorter_join, shorter_at, narrowed}
use Rattle.lists.proofs.Parts.{drop-terms, drop-end}

-- the literals of c that every term of the list inside t has
abbrev pub common_of : Term → Term → List Term → Term
common_of t c [] = c
common_of t c (b ∷ l) = common_of t (narrowed t c b) l

-- the search for a term a of the list l and one of k, both inside t, whose join lacks a literal of t. Where that of a with c does not,
-- the terms of k are not looked at; once all of them were, c is what those inside t have in common
abbrev pub shorter_from : Term → List Term → Term → List Term → Bool
shorter_from t k c [] = false
shorter_from t k c (a ∷ l) =
    cond (short t c a) (any (short t a) k || shorter_from t k (common_of t t k) l) (shorter_from t k c l)

-- ---- what the terms of a list have in common
narrowed-first : (t c b : Term) → Inside (narrowed t c b) c
unfolding narrowed
narrowed-first t c b = go (inside b t)
  where
    go : (q : Bool) → Inside (cond q (term (bit_and c.positive b.positive) (bit_and c.negative b.negative)) c) c
    go true x true h = and_l (bit c.positive x) (bit b.positive x) (along (bit-and c.positive b.positive x) h)
    go true x false h = and_l (bit c.negative x) (bit b.negative x) (along (bit-and c.negative b.negative x) h)
    go false x s h = h

narrowed-second : (t c b : Term) → T (inside b t) → Inside (narrowed t c b) b
unfolding narrowed
narrowed-second t c b i =
    subst (λ (q : Bool). Inside (cond q (term (bit_and c.positive b.positive) (bit_and c.negative b.negative)) c) b)
    (sym (is_true (inside b t) i)) go
  where
    go : Inside (term (bit_and c.positive b.positive) (bit_and c.negative b.negative)) b
    go x true h = and_r (bit c.positive x) (bit b.positive x) (along (bit-and c.positive b.positive x) h)
    go x false h = and_r (bit c.negative x) (bit b.negative x) (along (bit-and c.negative b.negative x) h)

common-first : (t c : Term) (l : List Term) → Inside (common_of t c l) c
common-first t c [] x s h = h
common-first t c (b ∷ l) x s h = narrowed-first t c b x s (common-first t (narrowed t c b) l x s h)

common-each : (t c : Term) (l : List Term) (b : Term) → Memᴰ b l → T (inside b t) → Inside (common_of t c l) b
common-each t c [] b m i x s h = absurd (Memᴰ.not-nil m)
common-each t c (d ∷ l) b m i x s h =
    ⊎_elim
    (λ (e : b ≡ d).
    let j : T (inside d t) = subst (λ (z : Term). T (inside z t)) e i in
    subst (λ (z : Term). T (has z s x)) (sym e) (narrowed-second t c d j x s (common-first t (narrowed t c d) l x s h)))
    (λ (n : Memᴰ b l). common-each t (narrowed t c d) l b n i x s h)
    (Memᴰ.cases_cons m)

-- ---- the search finds a pair, and where there is one
-- where a and b lack a literal of t, so do a and what is inside b
lacks : (t c a b : Term) → T (not (inside t (join a b))) → Inside c b → T (not (inside t (join c a)))
lacks t c a b n i =
    not_T (inside t (join c a))
    (λ s.
    let each : Inside (join c a) (join a b) =
    join-least c a (join a b) (inside-trans c b (join a b) i (join-r a b)) (join-l a b) in
    T_not (inside t (join a b)) n (inside-mono t (join c a) (join a b) s each))

-- the term with no literal is inside every term
none : (b : Term) → Inside empty b
none b x true h = absurd (along (bit-zero x) h)
none b x false h = absurd (along (bit-zero x) h)

module _ (t : Term) (k : List Term) where
  abbrev common : Term
  common = common_of t t k

  -- the pairs of a term inside t
  pairs_of : (a : Term) → T (inside a t) → T (any (short t a) k) → T (any (shorter t a) k)
  unfolding shorter
  pairs_of a i h =
      let (b, m, p) = any-e (short t a) k h in any-i (shorter t a) k b m (and_i (inside a t) (short t a b) i p)

  finds : (c : Term) (m : List Term) → T (shorter_from t k c m) → T (shorter_join m k t)
  unfolding short
  finds c [] s = s
  finds c (d ∷ m) s = go (short t c d) refl s (finds common m) (finds c m)
    where
      later : T (shorter_join m k t) → T (shorter_join (d ∷ m) k t)
      later h = or_r (any (shorter t d) k) (shorter_join m k t) h

      go : (q : Bool) → short t c d ≡ q → T (cond q (any (short t d) k || shorter_from t k common m) (shorter_from t k c m))
          → (T (shorter_from t k common m) → T (shorter_join m k t)) → (T (shorter_from t k c m) → T (shorter_join m k t))
          → T (shorter_join (d ∷ m) k t)
      go true e h then else =
          ⊎_elim
          (λ (p : T (any (short t d) k)).
          or_l (any (shorter t d) k) (shorter_join m k t)
          (pairs_of d (and_l (inside d t) (not (inside t (join c d))) (along (sym e) tt)) p))
          (λ (p : T (shorter_from t k common m)). later (then p))
          (or_cases (any (short t d) k) (shorter_from t k common m) h)
      go false e h then else = later (else h)

  module _ (a b : Term) (mb : Memᴰ b k) (ia : T (inside a t)) (h : T (short t a b)) where
    opens : (c : Term) → Inside c b → short t c a ≡ true
    unfolding short
    opens c i =
        is_true (short t c a)
        (and_i (inside a t) (not (inside t (join c a))) ia (lacks t c a b (and_r (inside b t) (not (inside t (join a b))) h) i))

    within : T (inside b t)
    unfolding short
    within = and_l (inside b t) (not (inside t (join a b))) h

    found : (c : Term) (m : List Term) → Inside c b → Memᴰ a m → T (shorter_from t k c m)
    found c [] i p = absurd (Memᴰ.not-nil p)
    found c (d ∷ m) i p =
        ⊎_elim here (λ (q : Memᴰ a m). go (short t c d) (found common m (common-each t t k b mb within) q) (found c m i q))
        (Memᴰ.cases_cons p)
      where
        here : a ≡ d → T (shorter_from t k c (d ∷ m))
        here e =
            subst (λ (z : Term). T (shorter_from t k c (z ∷ m))) e
            (along
            (sym (ap (λ (q : Bool). cond q (any (short t a) k || shorter_from t k common m) (shorter_from t k c m)) (opens c i)))
            (or_l (any (short t a) k) (shorter_from t k common m) (any-i (short t a) k b mb h)))

        go : (q : Bool) → T (shorter_from t k common m) → T (shorter_from t k c m)
            → T (cond q (any (short t d) k || shorter_from t k common m) (shorter_from t k c m))
        go true h g = or_r (any (short t d) k) (shorter_from t k common m) h
        go false h g = g

  -- the whole search
  pub search_is : (l : List Term) → shorter_from t k empty l ≡ shorter_join l k t
  unfolding shorter
  search_is l = same_test (shorter_from t k empty l) (shorter_join l k t) (finds empty l) back
    where
      back : T (shorter_join l k t) → T (shorter_from t k empty l)
      back s =
          let (a, ma, pa) = any-e (λ a. any (shorter t a) k) l s in
          let (b, mb, pb) = any-e (shorter t a) k pa in
          found a b mb (and_l (inside a t) (short t a b) pb) (and_r (inside a t) (short t a b) pb) empty l (none b) ma

-- ---- the search in what is left of two slices, by what its tests say of term k
module _ (ps ns : List ℕ) (e : length ns ≡ length ps) (k : ℕ) (t : Term) (l : List Term) (c : Term) where
  pub search-next : (p q : Bool) → k < length ps → short t c (term_at ps ns k) ≡ p → any (short t (term_at ps ns k)) l ≡ q
      → shorter_from t l c (drop k (terms_of ps ns))
      ≡ cond p (q || shorter_from t l (common_of t t l) (drop (k + 1) (terms_of ps ns)))
      (shorter_from t l c (drop (k + 1) (terms_of ps ns)))
  search-next p q h d f =
      ap (shorter_from t l c) (drop-terms ps ns e k h)
      ∙ ap₂
      (λ (x y : Bool).
      cond x (y || shorter_from t l (common_of t t l) (drop (k + 1) (terms_of ps ns)))
      (shorter_from t l c (drop (k + 1) (terms_of ps ns)))) d f

  pub search-end : length ps ≤ k → shorter_from t l c (drop k (terms_of ps ns)) ≡ false
  search-end h = ap (shorter_from t l c) (drop-end ps ns e k h)

-- a pair that passed both tests
pub shorter-at : (x y : TermList) (k l : ℕ) (t c a : Term) → k < length x.positives.now → l < length y.positives.now
    → a ≡ term_at x.positives.now x.negatives.now k → short t c a ≡ true
    → short t a (term_at y.positives.now y.negatives.now l) ≡ true → shorter_at x y k l t ≡ true
unfolding shorter short
shorter-at x y k l t c a hk hl e p q =
    let m : ℕ = length x.positives.now in
    let n : ℕ = length y.positives.now in
    let b : Term = term_at y.positives.now y.negatives.now l in
    let within : T (inside a t) = and_l (inside a t) (not (inside t (join c a))) (along (sym p) tt) in
    is_true (shorter_at x y k l t)
    (and_i (ltb k m && ltb l n) (shorter t (term_at x.positives.now x.negatives.now k) b)
    (and_i (ltb k m) (ltb l n) (lt→ltb k m hk) (lt→ltb l n hl))
    (subst (λ (z : Term). T (shorter t z b)) e (and_i (inside a t) (short t a b) within (along (sym q) tt))))
