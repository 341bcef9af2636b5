-- Terms by their literals: being a term, agreement and containment as statements, linked to the tests of the definitions.
use Prim.Native.Nat.{ℕ, ◌^◌, ◌<◌, ◌≤◌}
use mathlib.Core.Path.{◌≡◌, refl, sym, ap, subst, ◌∙◌}
use mathlib.Core.Bool.{Bool, true, false, ◌&&◌, ◌||◌, not, true≢false}
use mathlib.Core.Logic.{◌⊎◌, inl, inr, ⊎_elim, ◌≢◌}
use native.Mathlib.Nat.{lt_of_le_of_lt, lt_of_lt_of_le}
use lib.Dec.{T, T_not, not_T, ltb, ltb→lt, lt→ltb}
use lib.Bits.{bit_or, or_lt}
use lib.Pow.{pow_pos, pow_mono}
use Rattle.masks.specs.Mask.{width, bit, put, subset}
use Rattle.masks.specs.Numbers.{implied, every}
use Rattle.masks.proofs.Masks.{bit-ext, bit_below, bit-zero, put_same, put_other, put-lt, put-false-le}
use Rattle.masks.proofs.Numbers.{every-e, every-i}
use Rattle.masks.proofs.Operators.{bit-or, subset-e, subset-i, subset-mono}
use Rattle.masks.proofs.Tests.{and_i, and_l, and_r, or_l, or_r, or_cases, implied-i, implied-e, is_true, is_false, along, same_test}
use Rattle.masks.proofs.Tests.{same?}
use Rattle.terms.specs.Term.{IsTerm, Agrees, empty, mask, has, mentions, is_term, agrees_at, agrees, without, extend, join, inside}
use Rattle.terms.specs.declared.Term.{Term}

-- each literal of t is one of u
abbrev pub Inside : Term → Term → Type 0
Inside t u = (x : ℕ) (b : Bool) → T (has t b x) → T (has u b x)

-- no literal of x
abbrev pub Unmentioned : Term → ℕ → Type 0
Unmentioned t x = (b : Bool) → T (has t b x) → ⊥

-- both masks have bits below N only
abbrev pub MasksFit : ℕ → Term → Type 0
MasksFit N t = (b : Bool) → mask t b < 2 ^ N

-- ---- literals taken away, added and joined, of either sign
mask-without : (t : Term) (x : ℕ) (b : Bool) → mask (without t x) b ≡ put (mask t b) x false
mask-without t x true = refl
mask-without t x false = refl

mask-join : (t u : Term) (b : Bool) → mask (join t u) b ≡ bit_or (mask t b) (mask u b)
mask-join t u true = refl
mask-join t u false = refl

mask-extend : (t : Term) (x : ℕ) (b : Bool) → mask (extend t x b) b ≡ put (mask t b) x true
mask-extend t x true = refl
mask-extend t x false = refl

pub without-here : (t : Term) (x : ℕ) → Unmentioned (without t x) x
without-here t x b p = along (ap (λ (m : ℕ). bit m x) (mask-without t x b) ∙ put_same (mask t b) x false) p

pub without-there : (t : Term) (x y : ℕ) (b : Bool) → y ≢ x → has (without t x) b y ≡ has t b y
without-there t x y b n = ap (λ (m : ℕ). bit m y) (mask-without t x b) ∙ put_other (mask t b) x y false n

pub join-has : (t u : Term) (b : Bool) (x : ℕ) → has (join t u) b x ≡ (has t b x || has u b x)
join-has t u b x = ap (λ (m : ℕ). bit m x) (mask-join t u b) ∙ bit-or (mask t b) (mask u b) x

pub join-cases : (t u : Term) (b : Bool) (x : ℕ) → T (has (join t u) b x) → T (has t b x) ⊎ T (has u b x)
join-cases t u b x p = or_cases (has t b x) (has u b x) (along (join-has t u b x) p)

pub extend-here : (t : Term) (x : ℕ) (b : Bool) → T (has (extend t x b) b x)
extend-here t x b = along (sym (ap (λ (m : ℕ). bit m x) (mask-extend t x b) ∙ put_same (mask t b) x true)) tt

pub extend-there : (t : Term) (x y : ℕ) (b c : Bool) → y ≢ x → has (extend t x b) c y ≡ has t c y
extend-there t x y true true n = put_other t.positive x y true n
extend-there t x y true false n = refl
extend-there t x y false true n = refl
extend-there t x y false false n = put_other t.negative x y true n

pub extend-only : (t : Term) (x : ℕ) (b c : Bool) → Unmentioned t x → T (has (extend t x b) c x) → c ≡ b
extend-only t x true true u p = refl
extend-only t x true false u p = absurd (u false p)
extend-only t x false true u p = absurd (u true p)
extend-only t x false false u p = refl

pub empty-has : (x : ℕ) → Unmentioned empty x
empty-has x true p = along (bit-zero x) p
empty-has x false p = along (bit-zero x) p

pub mentions-i : (t : Term) (b : Bool) (x : ℕ) → T (has t b x) → T (mentions t x)
mentions-i t true x p = or_l (has t true x) (has t false x) p
mentions-i t false x p = or_r (has t true x) (has t false x) p

-- a fact about every literal, from the literals of x and the others
pub by-variable : (t : Term) (x : ℕ) (P : ℕ → Bool → Type 0) → ((b : Bool) → T (has t b x) → P x b)
    → ((y : ℕ) (b : Bool) → y ≢ x → T (has t b y) → P y b) → (y : ℕ) (b : Bool) → T (has t b y) → P y b
by-variable t x P here there y b p =
    ⊎_elim
    (λ (e : y ≡ x). subst (λ (z : ℕ). P z b) (sym e) (here b (subst (λ (z : ℕ). T (has t b z)) e p)))
    (λ (n : y ≢ x). there y b n p)
    (same? y x)

-- ---- containment
pub inside-refl : (t : Term) → Inside t t
inside-refl t x b p = p

pub inside-trans : (t u v : Term) → Inside t u → Inside u v → Inside t v
inside-trans t u v i j x b p = j x b (i x b p)

pub without-inside : (t : Term) (x : ℕ) → Inside (without t x) t
without-inside t x =
    by-variable (without t x) x (λ y b. T (has t b y)) (λ b p. absurd (without-here t x b p))
    (λ y b n p. along (without-there t x y b n) p)

pub inside-without : (t u : Term) (x : ℕ) → Inside t u → Unmentioned t x → Inside t (without u x)
inside-without t u x i none =
    by-variable t x (λ y b. T (has (without u x) b y)) (λ b p. absurd (none b p))
    (λ y b n p. along (sym (without-there u x y b n)) (i y b p))

pub without-mono : (t u : Term) (x : ℕ) → Inside t u → Inside (without t x) (without u x)
without-mono t u x i =
    inside-without (without t x) u x (inside-trans (without t x) t u (without-inside t x) i) (without-here t x)

-- the literals of x and y are struck in either order
pub without-swap : (t : Term) (x y : ℕ) → Inside (without (without t x) y) (without (without t y) x)
without-swap t x y =
    inside-without (without (without t x) y) (without t y) x (without-mono (without t x) t y (without-inside t x))
    (λ b p. without-here t x b (without-inside (without t x) y x b p))

pub join-l : (t u : Term) → Inside t (join t u)
join-l t u x b p = along (sym (join-has t u b x)) (or_l (has t b x) (has u b x) p)

pub join-r : (t u : Term) → Inside u (join t u)
join-r t u x b p = along (sym (join-has t u b x)) (or_r (has t b x) (has u b x) p)

pub join-least : (t u v : Term) → Inside t v → Inside u v → Inside (join t u) v
join-least t u v i j x b p = ⊎_elim (i x b) (j x b) (join-cases t u b x p)

-- an assignment that agrees with a term agrees with each term inside it
pub agrees-inside : (t u : Term) (s : ℕ) → Inside t u → Agrees u s → Agrees t s
agrees-inside t u s i a x b p = a x b (i x b p)

-- what agrees with the rest of a term agrees with the term once x is as its literal says
pub put-agrees : (t : Term) (x : ℕ) (b : Bool) (s : ℕ) → ((c : Bool) → T (has t c x) → c ≡ b)
    → Agrees (without t x) s → Agrees t (put s x b)
put-agrees t x b s only a =
    by-variable t x (λ y c. bit (put s x b) y ≡ c) (λ c p. put_same s x b ∙ sym (only c p))
    (λ y c n p. put_other s x y b n ∙ a y c (along (sym (without-there t x y c n)) p))

-- ---- terms over N variables
module _ (N : ℕ) where
  pub has-below : (t : Term) → IsTerm N t → (x : ℕ) (b : Bool) → T (has t b x) → x < N
  has-below t h x b p = bit_below N (mask t b) x (h.fits b) p

  -- masks with the same literals are the same
  pub masks-ext : (t u : Term) → MasksFit N t → MasksFit N u → ((x : ℕ) (b : Bool) → x < N → has t b x ≡ has u b x) → t ≡ u
  masks-ext t u h k same = λ d. record { positive = masks true d; negative = masks false d }
    where
      masks : (b : Bool) → mask t b ≡ mask u b
      masks b = bit-ext N (mask t b) (mask u b) (h b) (k b) (λ x l. same x b l)

  pub term-ext : (t u : Term) → IsTerm N t → IsTerm N u → Inside t u → Inside u t → t ≡ u
  term-ext t u h k i j = masks-ext t u h.fits k.fits (λ x b l. same_test (has t b x) (has u b x) (i x b) (j x b))

  pub empty-IsTerm : IsTerm N empty
  empty-IsTerm = record { fits = λ b. elim b as (λ b. mask empty b < 2 ^ N) [ true ↦ pow_pos N | false ↦ pow_pos N ]; once = λ x b c p q. absurd (empty-has x b p) }

  pub without-IsTerm : (t : Term) (x : ℕ) → IsTerm N t → IsTerm N (without t x)
  without-IsTerm t x h =
      record {
        fits =
            λ b. subst (λ (m : ℕ). m < 2 ^ N) (sym (mask-without t x b))
            (lt_of_le_of_lt (put-false-le (mask t b) x) (h.fits b));
        once = λ y b c p q. h.once y b c (without-inside t x y b p) (without-inside t x y c q);
      }

  pub extend-IsTerm : (t : Term) (x : ℕ) (b : Bool) → x < N → IsTerm N t → Unmentioned t x → IsTerm N (extend t x b)
  extend-IsTerm t x b l h u = record { fits = fits b; once = once }
    where
      fits : (b c : Bool) → mask (extend t x b) c < 2 ^ N
      fits true true = put-lt N t.positive x true l (h.fits true)
      fits true false = h.fits false
      fits false true = h.fits true
      fits false false = put-lt N t.negative x true l (h.fits false)

      once : (y : ℕ) (c d : Bool) → T (has (extend t x b) c y) → T (has (extend t x b) d y) → c ≡ d
      once y c d p q =
          by-variable (extend t x b) x (λ y c. T (has (extend t x b) d y) → c ≡ d)
          (λ c p q. extend-only t x b c u p ∙ sym (extend-only t x b d u q))
          (λ y c n p q. h.once y c d (along (extend-there t x y b c n) p) (along (extend-there t x y b d n) q))
          y c p q

  pub join-fits : (t u : Term) → MasksFit N t → MasksFit N u → MasksFit N (join t u)
  join-fits t u h k b = subst (λ (m : ℕ). m < 2 ^ N) (sym (mask-join t u b)) (or_lt N (mask t b) (mask u b) (h b) (k b))

  -- two terms join to a term where their signs do not differ
  pub join-IsTerm : (t u : Term) → IsTerm N t → IsTerm N u
      → ((x : ℕ) (b c : Bool) → T (has t b x) → T (has u c x) → b ≡ c) → IsTerm N (join t u)
  join-IsTerm t u h k same =
      record {
        fits = join-fits t u h.fits k.fits;
        once = λ x b c p q. go x b c (join-cases t u b x p) (join-cases t u c x q);
      }
    where
      go : (x : ℕ) (b c : Bool) → T (has t b x) ⊎ T (has u b x) → T (has t c x) ⊎ T (has u c x) → b ≡ c
      go x b c (inl p) (inl q) = h.once x b c p q
      go x b c (inl p) (inr q) = same x b c p q
      go x b c (inr p) (inl q) = sym (same x c b q p)
      go x b c (inr p) (inr q) = k.once x b c p q

  -- two terms inside one term join to a term
  pub join-within : (t u v : Term) → IsTerm N t → IsTerm N u → IsTerm N v → Inside t v → Inside u v → IsTerm N (join t u)
  join-within t u v h k w i j = join-IsTerm t u h k (λ x b c p q. w.once x b c (i x b p) (j x c q))

  -- a literal struck, and added again
  pub without-extend : (t : Term) (x : ℕ) (b : Bool) → x < N → IsTerm N t → Unmentioned t x → without (extend t x b) x ≡ t
  without-extend t x b l h u =
      term-ext (without (extend t x b) x) t (without-IsTerm (extend t x b) x (extend-IsTerm t x b l h u)) h
      (by-variable (without (extend t x b) x) x (λ y c. T (has t c y)) (λ c p. absurd (without-here (extend t x b) x c p))
      (λ y c n p. along (without-there (extend t x b) x y c n ∙ extend-there t x y b c n) p))
      (by-variable t x (λ y c. T (has (without (extend t x b) x) c y)) (λ c p. absurd (u c p))
      (λ y c n p. along (sym (without-there (extend t x b) x y c n ∙ extend-there t x y b c n)) p))

  pub extend-without : (t : Term) (x : ℕ) (b : Bool) → x < N → IsTerm N t → T (has t b x) → extend (without t x) x b ≡ t
  extend-without t x b l h p =
      term-ext (extend (without t x) x b) t
      (extend-IsTerm (without t x) x b l (without-IsTerm t x h) (without-here t x)) h
      (by-variable (extend (without t x) x b) x (λ y c. T (has t c y))
      (λ c q. subst (λ (d : Bool). T (has t d x)) (sym (extend-only (without t x) x b c (without-here t x) q)) p)
      (λ y c n q. along (extend-there (without t x) x y b c n ∙ without-there t x y c n) q))
      (by-variable t x (λ y c. T (has (extend (without t x) x b) c y))
      (λ c q. subst (λ (d : Bool). T (has (extend (without t x) x b) d x)) (h.once x b c p q) (extend-here (without t x) x b))
      (λ y c n q. along (sym (extend-there (without t x) x y b c n ∙ without-there t x y c n)) q))

  -- ---- the tests say these statements
  pub is_term-e : (t : Term) → T (is_term N t) → IsTerm N t
  unfolding is_term
  is_term-e t h = record { fits = fits; once = once }
    where
      apart : T (every N (λ x. not (has t true x && has t false x)))
      apart = search (and_l, and_r)

      fits : (b : Bool) → mask t b < 2 ^ N
      fits true = ltb→lt t.positive (2 ^ N) (search (and_l, and_r))
      fits false = ltb→lt t.negative (2 ^ N) (search (and_l, and_r))

      clash : (x : ℕ) → T (has t true x) → T (has t false x) → ⊥
      clash x p q =
          T_not (has t true x && has t false x)
          (every-e N (λ x. not (has t true x && has t false x)) apart x (bit_below N t.positive x (fits true) p))
          (and_i (has t true x) (has t false x) p q)

      once : (x : ℕ) (b c : Bool) → T (has t b x) → T (has t c x) → b ≡ c
      once x true true p q = refl
      once x true false p q = absurd (clash x p q)
      once x false true p q = absurd (clash x q p)
      once x false false p q = refl

  pub is_term-i : (t : Term) → IsTerm N t → T (is_term N t)
  unfolding is_term
  is_term-i t h =
      let p : T (ltb t.positive (2 ^ N)) = lt→ltb t.positive (2 ^ N) (h.fits true) in
      let n : T (ltb t.negative (2 ^ N)) = lt→ltb t.negative (2 ^ N) (h.fits false) in
      let e : T (every N (λ x. not (has t true x && has t false x))) =
      every-i N (λ x. not (has t true x && has t false x))
      (λ x l. not_T (has t true x && has t false x)
      (λ q. true≢false (h.once x true false (and_l (has t true x) (has t false x) q) (and_r (has t true x) (has t false x) q)))) in
      search and_i

  pub agrees-e : (t : Term) (s : ℕ) → IsTerm N t → T (agrees N t s) → Agrees t s
  unfolding agrees
  agrees-e t s h a x b p = go b p (every-e N (agrees_at t s) a x (has-below t h x b p))
    where
      go : (b : Bool) → T (has t b x) → T (agrees_at t s x) → bit s x ≡ b
      go true p a = is_true (bit s x) (implied-e (has t true x) (bit s x) (search (and_l, and_r)) p)
      go false p a = is_false (bit s x) (implied-e (has t false x) (not (bit s x)) (search (and_l, and_r)) p)

  pub agrees-i : (t : Term) (s : ℕ) → Agrees t s → T (agrees N t s)
  unfolding agrees
  agrees-i t s a =
      every-i N (agrees_at t s)
      (λ x l. and_i (implied (has t true x) (bit s x)) (implied (has t false x) (not (bit s x)))
      (implied-i (has t true x) (bit s x) (λ p. along (sym (a x true p)) tt))
      (implied-i (has t false x) (not (bit s x)) (λ p. along (sym (ap not (a x false p))) tt)))

  -- an assignment that agrees with the term
  pub own-agrees : (t : Term) → IsTerm N t → Agrees t t.positive
  own-agrees t h x true p = is_true (bit t.positive x) p
  own-agrees t h x false p = is_false (bit t.positive x) (not_T (bit t.positive x) (λ q. true≢false (h.once x true false q p)))

  module _ (wide : N ≤ width) where
    term-wide : (t : Term) → IsTerm N t → (b : Bool) → mask t b < 2 ^ width
    term-wide t h b = lt_of_lt_of_le (h.fits b) (pow_mono wide)

    pub inside-e : (t u : Term) → IsTerm N t → T (inside t u) → Inside t u
    unfolding inside
    inside-e t u h i x true p =
        subset-e t.positive u.positive (term-wide t h true)
        (and_l (subset t.positive u.positive) (subset t.negative u.negative) i) x p
    inside-e t u h i x false p =
        subset-e t.negative u.negative (term-wide t h false)
        (and_r (subset t.positive u.positive) (subset t.negative u.negative) i) x p

  pub inside-i : (t u : Term) → Inside t u → T (inside t u)
  unfolding inside
  inside-i t u i =
      and_i (subset t.positive u.positive) (subset t.negative u.negative)
      (subset-i t.positive u.positive (λ x. i x true)) (subset-i t.negative u.negative (λ x. i x false))

-- a term inside another is inside each that holds that one
pub inside-mono : (t u v : Term) → T (inside t u) → Inside u v → T (inside t v)
unfolding inside
inside-mono t u v h i =
    and_i (subset t.positive v.positive) (subset t.negative v.negative)
    (subset-mono t.positive u.positive v.positive
    (and_l (subset t.positive u.positive) (subset t.negative u.negative) h) (λ x. i x true))
    (subset-mono t.negative u.negative v.negative
    (and_r (subset t.positive u.positive) (subset t.negative u.negative) h) (λ x. i x false))
