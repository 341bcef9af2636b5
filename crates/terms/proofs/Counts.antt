-- C1 and C2: how many of the 2 ^ N assignments make a conjunction or a decision true.
use Prim.Native.Nat.{ℕ, zero, suc, ◌+◌, ◌*◌, ◌^◌, ◌<◌}
use mathlib.Core.Path.{◌≡◌, refl, sym, ap, ap₂, ◌∙◌, fun_ext}
use mathlib.Core.Bool.{Bool, true, false, ◌&&◌, ◌||◌, not, cond, true≢false}
use mathlib.Core.Logic.{◌⊎◌, inl, inr, ⊎_map}
use native.Mathlib.Nat.{not-suc-le-zero, add-zero, zero-add, mul_assoc, mul-one, pow-suc, add-mul}
use native.Mathlib.Omega.{arith}
use native.Mathlib.Numerals.{one-add}
use lib.Dec.{T}
use lib.Arith.{digits_div, digits_mod}
use Rattle.masks.specs.Mask.{bit, put}
use Rattle.masks.specs.Numbers.{digit, implied, every, count}
use Rattle.masks.proofs.Masks.{digit_lt, odd-digit, double-lt, bit-low, bit-rest}
use Rattle.masks.proofs.Numbers.{every_first, count-ext, count-first, count_none}
use Rattle.masks.proofs.Tests.{or_l, or_r, along}
use Rattle.terms.specs.Term.{has, mentions, agrees, IsTerm}
use Rattle.terms.specs.declared.Term.{Term}
use Rattle.terms.proofs.Conjunctions.{conj}
use Rattle.terms.proofs.Decisions.{choice}
use Rattle.terms.proofs.Implicants.{Free}

-- f at the assignments with variable 0 as b
abbrev half : (ℕ → Bool) → Bool → ℕ → Bool
half f b t = f (t * 2 + digit b)

count-halves : (n : ℕ) (f : ℕ → Bool) → count (n * 2) f ≡ count n (half f false) + count n (half f true)
unfolding count
count-halves zero f = refl
count-halves (suc n) f =
    let e : count (n * 2) f ≡ count n (half f false) + count n (half f true) = count-halves n f in
    let p : digit (f (n * 2)) ≡ digit (half f false n) = ap (λ (k : ℕ). digit (f k)) (omega arith) in
    let q : digit (f (suc (n * 2))) ≡ digit (half f true n) = ap (λ (k : ℕ). digit (f k)) (omega arith) in
    let s : suc n * 2 ≡ suc (suc (n * 2)) = omega arith in
    ap (λ (k : ℕ). count k f) s ∙ omega arith

count-pow : (N : ℕ) (f : ℕ → Bool) → count (2 ^ suc N) f ≡ count (2 ^ N) (half f false) + count (2 ^ N) (half f true)
count-pow N f = ap (λ (k : ℕ). count k f) (pow-suc 2 N) ∙ count-halves (2 ^ N) f

put_rest : (t x : ℕ) (b c : Bool) → put (t * 2 + digit b) (suc x) c ≡ put t x c * 2 + digit b
unfolding put
put_rest t x b c =
    ap₂ (λ (q r : ℕ). put q x c * 2 + r) (digits_div t (digit_lt b)) (digits_mod t (digit_lt b))

free-half : (N x : ℕ) (f : ℕ → Bool) (b : Bool) → Free (suc N) f (suc x) → Free N (half f b) x
free-half N x f b h t c l =
    ap f (sym (put_rest t x b c)) ∙ h (t * 2 + digit b) c (double-lt N t (digit b) l (digit_lt b))

free-zero : (N : ℕ) (f : ℕ → Bool) → Free (suc N) f 0 → count (2 ^ N) (half f false) ≡ count (2 ^ N) (half f true)
unfolding put
free-zero N f h =
    count-ext (2 ^ N) (half f false) (half f true)
    (λ t l. ap (λ (q : ℕ). f (q * 2 + digit false)) (sym (digits_div t (digit_lt true)))
    ∙ h (t * 2 + digit true) false (double-lt N t (digit true) l (digit_lt true)))

-- C1: functions with no variable in common
pub count-conjunction : (N : ℕ) (f g : ℕ → Bool) → ((x : ℕ) → x < N → Free N f x ⊎ Free N g x)
    → count (2 ^ N) (conj N f g) * 2 ^ N ≡ count (2 ^ N) f * count (2 ^ N) g
unfolding count
count-conjunction zero f g h = go (f 0) (g 0)
  where
    go : (p q : Bool) → (0 + digit (p && q)) * 1 ≡ (0 + digit p) * (0 + digit q)
    go true true = refl
    go true false = refl
    go false true = refl
    go false false = refl
count-conjunction (suc N) f g h =
    ap₂ ◌*◌ (count-pow N (conj N f g)) (pow-suc 2 N)
    ∙ sum (count (2 ^ N) (conj N (half f false) (half g false))) (count (2 ^ N) (conj N (half f true) (half g true))) (2 ^ N)
    (count (2 ^ N) (half f false)) (count (2 ^ N) (half f true)) (count (2 ^ N) (half g false)) (count (2 ^ N) (half g true))
    (count-conjunction N (half f false) (half g false) (free false))
    (count-conjunction N (half f true) (half g true) (free true))
    (⊎_map (free-zero N f) (free-zero N g) (h 0 (omega arith)))
    ∙ sym (ap₂ ◌*◌ (count-pow N f) (count-pow N g))
  where
    free : (b : Bool) (x : ℕ) → x < N → Free N (half f b) x ⊎ Free N (half g b) x
    free b x l = ⊎_map (free-half N x f b) (free-half N x g b) (h (suc x) (omega arith))

    sum : (c d P a a' b b' : ℕ) → c * P ≡ a * b → d * P ≡ a' * b' → (a ≡ a') ⊎ (b ≡ b')
        → (c + d) * (P * 2) ≡ (a + a') * (b + b')
    sum c d P a a' b b' p q (inl e) =
        let r : a * b' ≡ a' * b' = ap (λ (z : ℕ). z * b') e in
        let s : a * b ≡ a' * b = ap (λ (z : ℕ). z * b) e in
        omega arith
    sum c d P a a' b b' p q (inr e) =
        let r : a * b ≡ a * b' = ap (λ (z : ℕ). a * z) e in
        let s : a' * b ≡ a' * b' = ap (λ (z : ℕ). a' * z) e in
        omega arith

-- C2: a decision by x between functions to which x does not matter
pub count-decision : (N x : ℕ) (F : Bool → ℕ → Bool) → x < N → ((b : Bool) → Free N (F b) x)
    → count (2 ^ N) (choice F x) * 2 ≡ count (2 ^ N) (F false) + count (2 ^ N) (F true)
count-decision zero x F l h = absurd (not-suc-le-zero l)
count-decision (suc N) zero F l h =
    let c : count (2 ^ suc N) (choice F 0) ≡ count (2 ^ N) (half (F false) false) + count (2 ^ N) (half (F true) true) =
    count-pow N (choice F 0) ∙ ap₂ ◌+◌ (side false) (side true) in
    let p : count (2 ^ N) (half (F false) false) ≡ count (2 ^ N) (half (F false) true) = free-zero N (F false) (h false) in
    let q : count (2 ^ N) (half (F true) false) ≡ count (2 ^ N) (half (F true) true) = free-zero N (F true) (h true) in
    omega (arith, count-pow N (F false), count-pow N (F true))
  where
    side : (b : Bool) → count (2 ^ N) (half (choice F 0) b) ≡ count (2 ^ N) (half (F b) b)
    side b =
        count-ext (2 ^ N) (half (choice F 0) b) (half (F b) b)
        (λ t k. ap (λ (c : Bool). F c (t * 2 + digit b)) (bit-low t (digit b) (digit_lt b) ∙ odd-digit b))
count-decision (suc N) (suc x) F l h =
    let low : (b : Bool) → count (2 ^ N) (half (choice F (suc x)) b) * 2
    ≡ count (2 ^ N) (half (F false) b) + count (2 ^ N) (half (F true) b) =
    (λ b. ap (λ (k : ℕ). k * 2) (side b)
    ∙ count-decision N x (λ c. half (F c) b) (omega arith) (λ c. free-half N x (F c) b (h c))) in
    omega (arith, low false, low true, count-pow N (choice F (suc x)), count-pow N (F false), count-pow N (F true))
  where
    side : (b : Bool) → count (2 ^ N) (half (choice F (suc x)) b) ≡ count (2 ^ N) (choice (λ c. half (F c) b) x)
    side b =
        count-ext (2 ^ N) (half (choice F (suc x)) b) (choice (λ c. half (F c) b) x)
        (λ t k. ap (λ (c : Bool). F c (t * 2 + digit b)) (bit-rest t (digit b) x (digit_lt b)))

-- for k variables that do not matter, 2 ^ k divides the count
pub count-free : (N : ℕ) (f p : ℕ → Bool) → ((x : ℕ) → x < N → T (p x) → Free N f x)
    → (q : ℕ) × (count (2 ^ N) f ≡ q * 2 ^ count N p)
unfolding count
count-free zero f p h = (count (2 ^ 0) f, sym (mul-one (count (2 ^ 0) f)))
count-free (suc N) f p h =
    let rest : (b : Bool) → (q : ℕ) × (count (2 ^ N) (half f b) ≡ q * 2 ^ count N (λ x. p (suc x))) =
    (λ b. count-free N (half f b) (λ x. p (suc x)) (λ x l t. free-half N x f b (h (suc x) (omega arith) t))) in
    go (p 0) refl (rest false) (rest true)
  where
    k : ℕ
    k = count N (λ x. p (suc x))

    go : (b : Bool) → p 0 ≡ b → (q : ℕ) × (count (2 ^ N) (half f false) ≡ q * 2 ^ k)
        → (q : ℕ) × (count (2 ^ N) (half f true) ≡ q * 2 ^ k) → (q : ℕ) × (count (2 ^ suc N) f ≡ q * 2 ^ count (suc N) p)
    go true e (q, c) (r, d) =
        let same : count (2 ^ N) (half f false) ≡ count (2 ^ N) (half f true) = free-zero N f (h 0 (omega arith) (along (sym e) tt)) in
        let more : count (suc N) p ≡ suc k = count-first N p ∙ ap (λ (b : Bool). digit b + k) e ∙ one-add k in (
          q,
          omega (
            arith,
            count-pow N f,
            pow-suc 2 k,
            ap (λ (m : ℕ). 2 ^ m) more,
            ap (λ (m : ℕ). q * m)
                (ap (λ (m : ℕ). 2 ^ m) more ∙ pow-suc 2 k),
            mul_assoc q (2 ^ k) 2,
          ),
        )
    go false e (q, c) (r, d) =
        let more : count (suc N) p ≡ k = count-first N p ∙ ap (λ (b : Bool). digit b + k) e ∙ zero-add k in
        (q + r, count-pow N f ∙ ap₂ ◌+◌ c d ∙ sym (add-mul q r (2 ^ k)) ∙ ap (λ (m : ℕ). (q + r) * 2 ^ m) (sym more))

-- the assignments that agree with a term, where its variables do not matter: P and Q are its positive and negative literals
abbrev agree_at : (ℕ → Bool) → (ℕ → Bool) → ℕ → ℕ → Bool
agree_at P Q s x = implied (P x) (bit s x) && implied (Q x) (not (bit s x))

agree-half : (N : ℕ) (P Q : ℕ → Bool) (b : Bool) (s : ℕ) → every (suc N) (agree_at P Q (s * 2 + digit b))
    ≡ ((implied (P 0) b && implied (Q 0) (not b)) && every N (agree_at (λ x. P (suc x)) (λ x. Q (suc x)) s))
agree-half N P Q b s =
    every_first N (agree_at P Q (s * 2 + digit b))
    ∙ ap₂ ◌&&◌
    (ap (λ (v : Bool). implied (P 0) v && implied (Q 0) (not v)) (bit-low s (digit b) (digit_lt b) ∙ odd-digit b))
    (ap (every N)
    (fun_ext (λ x. ap (λ (v : Bool). implied (P (suc x)) v && implied (Q (suc x)) (not v)) (bit-rest s (digit b) x (digit_lt b)))))

-- the models that agree, with variable 0 as b, and the rest of the literals
module _ (N : ℕ) (P Q f : ℕ → Bool) where
  abbrev agreeing : Bool → ℕ
  agreeing b = count (2 ^ N) (λ s. every N (agree_at (λ x. P (suc x)) (λ x. Q (suc x)) s) && half f b s)

  abbrev literals-above : ℕ
  literals-above = count N (λ x. P (suc x) || Q (suc x))

  pick : (o b : Bool) → count (2 ^ N) (λ s. (o && every N (agree_at (λ x. P (suc x)) (λ x. Q (suc x)) s)) && half f b s)
      ≡ cond o (agreeing b) 0
  pick true b = refl
  pick false b = count_none (2 ^ N)

  side : (b : Bool) → count (2 ^ N) (half (λ s. every (suc N) (agree_at P Q s) && f s) b)
      ≡ cond (implied (P 0) b && implied (Q 0) (not b)) (agreeing b) 0
  side b =
      ap (count (2 ^ N)) (fun_ext (λ s. ap (λ (v : Bool). v && half f b s) (agree-half N P Q b s)))
      ∙ pick (implied (P 0) b && implied (Q 0) (not b)) b

  two : (c : ℕ) → c * 2 ^ (1 + literals-above) ≡ c * 2 ^ literals-above + c * 2 ^ literals-above
  two c =
      ap (λ (m : ℕ). c * 2 ^ m) (one-add literals-above)
      ∙ omega (arith, ap (λ (m : ℕ). c * m) (pow-suc 2 literals-above), mul_assoc c (2 ^ literals-above) 2)

  module _ (low : (b : Bool) → agreeing b * 2 ^ literals-above ≡ count (2 ^ N) (half f b)) (once : T (P 0) → T (Q 0) → ⊥)
      (same : T (P 0 || Q 0) → count (2 ^ N) (half f false) ≡ count (2 ^ N) (half f true)) where
    halves : (p : Bool) → P 0 ≡ p → (q : Bool) → Q 0 ≡ q
        → (cond (implied p false && implied q true) (agreeing false) 0 + cond (implied p true && implied q false) (agreeing true) 0)
        * 2 ^ (digit (p || q) + literals-above)
        ≡ count (2 ^ N) (half f false) + count (2 ^ N) (half f true)
    halves true d true e = absurd (once (along (sym d) tt) (along (sym e) tt))
    halves true d false e =
        ap (λ (m : ℕ). m * 2 ^ (1 + literals-above)) (zero-add (agreeing true))
        ∙ two (agreeing true)
        ∙ ap₂ ◌+◌ (low true ∙ sym (same (or_l (P 0) (Q 0) (along (sym d) tt)))) (low true)
    halves false d true e =
        ap (λ (m : ℕ). m * 2 ^ (1 + literals-above)) (add-zero (agreeing false))
        ∙ two (agreeing false)
        ∙ ap₂ ◌+◌ (low false) (low false ∙ same (or_r (P 0) (Q 0) (along (sym e) tt)))
    halves false d false e =
        ap (λ (m : ℕ). (agreeing false + agreeing true) * 2 ^ m) (zero-add literals-above)
        ∙ add-mul (agreeing false) (agreeing true) (2 ^ literals-above)
        ∙ ap₂ ◌+◌ (low false) (low true)

    agree-step : count (2 ^ suc N) (λ s. every (suc N) (agree_at P Q s) && f s) * 2 ^ count (suc N) (λ x. P x || Q x)
        ≡ count (2 ^ suc N) f
    agree-step =
        ap₂ ◌*◌ (count-pow N (λ s. every (suc N) (agree_at P Q s) && f s) ∙ ap₂ ◌+◌ (side false) (side true))
        (ap (λ (m : ℕ). 2 ^ m) (count-first N (λ x. P x || Q x)))
        ∙ halves (P 0) refl (Q 0) refl
        ∙ sym (count-pow N f)

agree-count : (N : ℕ) (P Q f : ℕ → Bool) → ((x : ℕ) → x < N → T (P x) → T (Q x) → ⊥)
    → ((x : ℕ) → x < N → T (P x || Q x) → Free N f x)
    → count (2 ^ N) (λ s. every N (agree_at P Q s) && f s) * 2 ^ count N (λ x. P x || Q x) ≡ count (2 ^ N) f
unfolding count every
agree-count zero P Q f once free = mul-one (count (2 ^ 0) f)
agree-count (suc N) P Q f once free =
    agree-step N P Q f
    (λ b. agree-count N (λ x. P (suc x)) (λ x. Q (suc x)) (half f b) (λ x l. once (suc x) (omega arith))
    (λ x l t. free-half N x f b (free (suc x) (omega arith) t)))
    (once 0 (omega arith)) (λ t. free-zero N f (free 0 (omega arith) t))

-- among the assignments that agree with a term, f holds at one of 2 ^ k, for the term's k literals
pub count-agrees : (N : ℕ) (t : Term) (f : ℕ → Bool) → IsTerm N t → ((x : ℕ) → x < N → T (mentions t x) → Free N f x)
    → count (2 ^ N) (λ s. agrees N t s && f s) * 2 ^ count N (mentions t) ≡ count (2 ^ N) f
unfolding agrees
count-agrees N t f w free =
    agree-count N (has t true) (has t false) f (λ x l p q. true≢false (w.once x true false p q)) free
