-- Laws of the tests of the numbers below a bound.
use Prim.Native.Nat.{ℕ, zero, suc, ◌+◌, ◌*◌, ◌<◌, ◌≤◌}
use mathlib.Core.Path.{◌≡◌, refl, sym, ap, ap₂, subst, ◌∙◌}
use mathlib.Core.Bool.{Bool, true, false, ◌&&◌, ◌||◌, not, cond, and_assoc, and_comm}
use mathlib.Core.Logic.{⊎_elim}
use mathlib.Core.List.Memᴰ
use mathlib.Core.List.{[], ◌∷◌, Memᴰ}
use native.Mathlib.Nat.{not-suc-le-zero, le_refl, add-zero, zero-add, le_trans, mul-le-mul_left, mul-le-mul_right}
use native.Mathlib.Omega.{arith}
use lib.Dec.{T, eqb, ltb, ltb→lt, nltb→le}
use borrow.Author.Tests.{ne_eqb}
use Rattle.masks.specs.Numbers.{digit, implied, every, some, count, least, below, Lowest}
use Rattle.masks.proofs.Tests.{and_i, and_l, and_r, or_l, or_r, or_cases, is_true, is_false, along, below_suc}

pub every-e : (n : ℕ) (p : ℕ → Bool) → T (every n p) → (i : ℕ) → i < n → T (p i)
unfolding every
every-e zero p h i l = absurd (not-suc-le-zero l)
every-e (suc n) p h i l =
    ⊎_elim (λ (e : i ≡ n). subst (λ (k : ℕ). T (p k)) (sym e) (and_l (p n) (every n p) h))
    (λ (k : i < n). every-e n p (and_r (p n) (every n p) h) i k)
    (below_suc l)

pub every-i : (n : ℕ) (p : ℕ → Bool) → ((i : ℕ) → i < n → T (p i)) → T (every n p)
unfolding every
every-i zero p h = tt
every-i (suc n) p h = and_i (p n) (every n p) (h n (le_refl (suc n))) (every-i n p (λ i l. h i (omega arith)))

pub every-fails : (n : ℕ) (p : ℕ → Bool) (i : ℕ) → i < n → p i ≡ false → every n p ≡ false
every-fails n p i l e = by (every n p) refl
  where
    by : (b : Bool) → every n p ≡ b → every n p ≡ false
    by true d = absurd (along e (every-e n p (along (sym d) tt) i l))
    by false d = d

-- the lowest number apart
pub every_first : (n : ℕ) (p : ℕ → Bool) → every (suc n) p ≡ (p 0 && every n (λ i. p (suc i)))
unfolding every
every_first zero p = refl
every_first (suc n) p =
    let low : Bool = every n (λ i. p (suc i)) in
    ap (λ (t : Bool). p (suc n) && t) (every_first n p)
    ∙ sym (and_assoc (p (suc n)) (p 0) low)
    ∙ ap (λ (t : Bool). t && low) (and_comm (p (suc n)) (p 0))
    ∙ and_assoc (p 0) (p (suc n)) low

pub some-e : (n : ℕ) (p : ℕ → Bool) → T (some n p) → (i : ℕ) × (i < n) × T (p i)
unfolding some
some-e zero p h = absurd h
some-e (suc n) p h =
    ⊎_elim {C = (i : ℕ) × (i < suc n) × T (p i)} (λ (q : T (p n)). (n, le_refl (suc n), q))
    (λ (q : T (some n p)). let (i, l, r) = some-e n p q in (i, omega arith, r))
    (or_cases (p n) (some n p) h)

pub some-i : (n : ℕ) (p : ℕ → Bool) (i : ℕ) → i < n → T (p i) → T (some n p)
unfolding some
some-i zero p i l h = absurd (not-suc-le-zero l)
some-i (suc n) p i l h =
    ⊎_elim (λ (e : i ≡ n). or_l (p n) (some n p) (subst (λ (k : ℕ). T (p k)) e h))
    (λ (k : i < n). or_r (p n) (some n p) (some-i n p i k h))
    (below_suc l)

pub some-ext : (n : ℕ) (p q : ℕ → Bool) → ((i : ℕ) → i < n → p i ≡ q i) → some n p ≡ some n q
unfolding some
some-ext zero p q h = refl
some-ext (suc n) p q h = ap₂ ◌||◌ (h n (le_refl (suc n))) (some-ext n p q (λ i l. h i (omega arith)))

-- ---- counting
pub count-ext : (n : ℕ) (p q : ℕ → Bool) → ((i : ℕ) → i < n → p i ≡ q i) → count n p ≡ count n q
unfolding count
count-ext zero p q h = refl
count-ext (suc n) p q h =
    ap₂ (λ (a : ℕ) (b : Bool). a + digit b) (count-ext n p q (λ i l. h i (omega arith))) (h n (le_refl (suc n)))

digit-mono : (p q : Bool) → (T p → T q) → digit p ≤ digit q
digit-mono true true h = omega arith
digit-mono true false h = absurd (h tt)
digit-mono false q h = omega arith

pub count-mono : (n : ℕ) (p q : ℕ → Bool) → ((i : ℕ) → i < n → T (p i) → T (q i)) → count n p ≤ count n q
unfolding count
count-mono zero p q h = omega arith
count-mono (suc n) p q h =
    omega (arith, count-mono n p q (λ i l. h i (omega arith)), digit-mono (p n) (q n) (h n (le_refl (suc n))))

-- q passes where p does, and at one number more
pub count_less : (n : ℕ) (p q : ℕ → Bool) → ((i : ℕ) → i < n → T (p i) → T (q i))
    → (i : ℕ) → i < n → T (not (p i)) → T (q i) → count n p < count n q
unfolding count
count_less zero p q h i l x y = absurd (not-suc-le-zero l)
count_less (suc n) p q h i l x y =
    ⊎_elim
    (λ (e : i ≡ n).
    let a : digit (p n) ≡ 0 = ap digit (is_false (p n) (subst (λ (k : ℕ). T (not (p k))) e x)) in
    let b : digit (q n) ≡ 1 = ap digit (is_true (q n) (subst (λ (k : ℕ). T (q k)) e y)) in
    omega (arith, count-mono n p q (λ i l. h i (omega arith))))
    (λ (k : i < n).
    omega (arith, count_less n p q (λ i l. h i (omega arith)) i k x y, digit-mono (p n) (q n) (h n (le_refl (suc n)))))
    (below_suc l)

-- the lowest number apart
pub count-first : (n : ℕ) (p : ℕ → Bool) → count (suc n) p ≡ digit (p 0) + count n (λ i. p (suc i))
unfolding count
count-first zero p = zero-add (digit (p 0)) ∙ sym (add-zero (digit (p 0)))
count-first (suc n) p =
    let e : count (suc n) p ≡ digit (p 0) + count n (λ i. p (suc i)) = count-first n p in omega arith

pub count-all : (n : ℕ) → count n (λ i. true) ≡ n
unfolding count
count-all zero = refl
count-all (suc n) = let e : count n (λ i. true) ≡ n = count-all n in omega arith

pub count_none : (n : ℕ) → count n (λ i. false) ≡ 0
unfolding count
count_none zero = refl
count_none (suc n) = let e : count n (λ i. false) ≡ 0 = count_none n in omega arith

-- of those that pass p, the ones that pass q and the ones that do not
pub count-split : (n : ℕ) (p q : ℕ → Bool) → count n (λ i. p i && q i) + count n (λ i. p i && not (q i)) ≡ count n p
unfolding count
count-split zero p q = refl
count-split (suc n) p q = go (p n) (q n) (count-split n p q)
  where
    go : (a b : Bool) → count n (λ i. p i && q i) + count n (λ i. p i && not (q i)) ≡ count n p
        → (count n (λ i. p i && q i) + digit (a && b)) + (count n (λ i. p i && not (q i)) + digit (a && not b)) ≡ count n p + digit a
    go true true e = omega arith
    go true false e = omega arith
    go false b e = omega arith

-- every number that passes p passes q exactly if none of them fails q
pub every-count : (n : ℕ) (p q : ℕ → Bool) → every n (λ i. implied (p i) (q i)) ≡ eqb (count n (λ i. p i && not (q i))) 0
unfolding every count
every-count zero p q = refl
every-count (suc n) p q = go (p n) (q n) (every-count n p q)
  where
    failing : ℕ
    failing = count n (λ i. p i && not (q i))

    go : (a b : Bool) → every n (λ i. implied (p i) (q i)) ≡ eqb failing 0
        → (implied a b && every n (λ i. implied (p i) (q i))) ≡ eqb (failing + digit (a && not b)) 0
    go true true e = e ∙ ap (λ (k : ℕ). eqb k 0) (sym (add-zero failing))
    go true false e = sym (ne_eqb (failing + 1) 0 (λ d. absurd (omega arith)))
    go false b e = e ∙ ap (λ (k : ℕ). eqb k 0) (sym (add-zero failing))

-- those that pass and those that do not are all
pub count-not : (n : ℕ) (p : ℕ → Bool) → count n p + count n (λ i. not (p i)) ≡ n
count-not n p = count-split n (λ i. true) p ∙ count-all n

-- ---- the least number that passes
pub least-ext : (n : ℕ) (p q : ℕ → Bool) → ((i : ℕ) → i < n → p i ≡ q i) → least n p ≡ least n q
unfolding least
least-ext zero p q h = refl
least-ext (suc n) p q h =
    ap₂ (λ (l : ℕ) (b : Bool). cond (ltb l n) l (cond b n (suc n))) (least-ext n p q (λ i l. h i (omega arith)))
    (h n (le_refl (suc n)))

pub least-none : (n : ℕ) (p : ℕ → Bool) → n ≤ least n p → (i : ℕ) → i < n → T (not (p i))
unfolding least
least-none zero p h i l = absurd (not-suc-le-zero l)
least-none (suc n) p h i l = go (ltb (least n p) n) refl (p n) refl h (least-none n p)
  where
    go : (a : Bool) → ltb (least n p) n ≡ a → (b : Bool) → p n ≡ b → suc n ≤ cond a (least n p) (cond b n (suc n))
        → (n ≤ least n p → (i : ℕ) → i < n → T (not (p i))) → T (not (p i))
    go true e b f h r = let q : least n p < n = ltb→lt (least n p) n (along (sym e) tt) in absurd (omega arith)
    go false e true f h r = absurd (omega arith)
    go false e false f h r =
        ⊎_elim (λ (d : i ≡ n). subst (λ (k : ℕ). T (not (p k))) (sym d) (along (ap not (sym f)) tt))
        (λ (k : i < n). r (nltb→le (least n p) n (along (ap not (sym e)) tt)) i k)
        (below_suc l)

-- the least number is one that passes, and none below it does
pub least-lowest : (n : ℕ) (p : ℕ → Bool) → least n p < n → Lowest p (least n p)
unfolding least
least-lowest zero p l = absurd (not-suc-le-zero l)
least-lowest (suc n) p l = by (ltb (least n p) n) refl (p n) refl (least-lowest n p) l
  where
    by : (b : Bool) → ltb (least n p) n ≡ b → (c : Bool) → p n ≡ c → (least n p < n → Lowest p (least n p))
        → let k : ℕ = cond b (least n p) (cond c n (suc n)) in k < suc n → Lowest p k
    by true e c d h l = h (ltb→lt (least n p) n (along (sym e) tt))
    by false e true d h l = (along (sym d) tt, least-none n p (nltb→le (least n p) n (along (ap not (sym e)) tt)))
    by false e false d h l = absurd (omega arith)

pub below-mem : (n i : ℕ) → i < n → Memᴰ i (below n)
unfolding below
below-mem zero i l = absurd (not-suc-le-zero l)
below-mem (suc n) i l =
    ⊎_elim (λ (e : i ≡ n). Memᴰ.append_right (below n) (Memᴰ.head e))
    (λ (k : i < n). Memᴰ.append_left (n ∷ []) (below-mem n i k))
    (below_suc l)

pub below_out : (n i : ℕ) → Memᴰ i (below n) → i < n
unfolding below
below_out zero i m = absurd (Memᴰ.not-nil m)
below_out (suc n) i m =
    ⊎_elim (λ (k : Memᴰ i (below n)). let l : i < n = below_out n i k in omega arith)
    (λ (k : Memᴰ i (n ∷ [])). let e : i ≡ n = Memᴰ.eq_of_singleton k in omega arith)
    (Memᴰ.append_cases (below n) m)

-- a product of smaller numbers
pub product_le : (a b m n : ℕ) → a ≤ m → b ≤ n → a * b ≤ m * n
product_le a b m n ha hb = le_trans (mul-le-mul_left a hb) (mul-le-mul_right n ha)
