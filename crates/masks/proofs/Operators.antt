-- The operators of the code, by bits: `&`, `|`, `^`, shifts, `count_ones` and comparisons of masks.
use Prim.Native.Nat.{ℕ, zero, suc, ◌+◌, ◌*◌, ◌/◌, ◌%◌, ◌^◌, ◌<◌, ◌≤◌, min, max}
use mathlib.Core.Path.{◌≡◌, refl, sym, ap, ap₂, ◌∙◌}
use mathlib.Core.Bool.{Bool, true, false, ◌&&◌, ◌||◌, not, cond, xor, or-true, or-false}
use mathlib.Core.Logic.{◌⊎◌, ⊎_elim}
use native.Mathlib.Nat.{mul_comm, one-mul, pow-suc, div-one, div-div-eq-div-mul, lt_of_le_of_lt, lt_of_lt_of_le}
use native.Mathlib.Nat.{not-suc-le-zero, le_of_suc-le-suc}
use native.Mathlib.Omega.{arith}
use native.Mathlib.Numerals.{one-add, add-one}
use lib.Dec.{T, T_not, not_T, eqb, eqb→eq, lit<, eqb-zero-suc, eqb-suc-zero, eqb-suc-suc}
use lib.Bits.{bit_and, bit_or, bit_xor, differ, and_step, or_step, xor_step, and_le_l, and_lt, or_lt, xor_lt}
use lib.Pow.{pow_pos, pow-lt, pow_mono, shl_exact, shr-shr, mod-pow-add}
use lib.Count.{ones, ones_step, count_trailing_zeros, under}
use lib.Arith.{lt-one, digits_div, digits_mod}
use borrow.Author.Tests.{eq-eqb}
use Rattle.masks.specs.Mask.{width, bit, put, size, subset, disjoint}
use Rattle.masks.specs.Numbers.{digit, implied, count, Lowest}
use Rattle.masks.proofs.Masks.{mod2, digits, half_lt, bit-low, bit-rest, bit-ext, bit_below, bit-zero, bit-put, put-lt}
use Rattle.masks.proofs.Numbers.{every-e, every-i, count-first}
use Rattle.masks.proofs.Tests.{and_i, and_l, and_r, not-and, implied-i, implied-e, is_true, is_false, along, same_test}

-- ---- an operator that works digit by digit, with `low` on the digits, works bit by bit with f
module _ (op low : ℕ → ℕ → ℕ) (f : Bool → Bool → Bool)
    (step : (a b : ℕ) → op a b ≡ op (a / 2) (b / 2) * 2 + low (a % 2) (b % 2))
    (low-lt : (x y : ℕ) → x < 2 → y < 2 → low x y < 2)
    (low-is : (x y : ℕ) → x < 2 → y < 2 → eqb (low x y) 1 ≡ f (eqb x 1) (eqb y 1)) where
  bit-op : (a b i : ℕ) → bit (op a b) i ≡ f (bit a i) (bit b i)
  unfolding bit
  bit-op a b zero =
      ap (λ (x : ℕ). bit x 0) (step a b)
      ∙ bit-low (op (a / 2) (b / 2)) (low (a % 2) (b % 2)) (low-lt (a % 2) (b % 2) (mod2 a) (mod2 b))
      ∙ low-is (a % 2) (b % 2) (mod2 a) (mod2 b)
  bit-op a b (suc i) =
      ap (λ (x : ℕ). bit x (suc i)) (step a b)
      ∙ bit-rest (op (a / 2) (b / 2)) (low (a % 2) (b % 2)) i (low-lt (a % 2) (b % 2) (mod2 a) (mod2 b))
      ∙ bit-op (a / 2) (b / 2) i

pub bit-and : (a b i : ℕ) → bit (bit_and a b) i ≡ (bit a i && bit b i)
bit-and =
    bit-op bit_and min ◌&&◌ and_step (λ x y h l. omega arith)
    (digits (λ x y. eqb (min x y) 1 ≡ (eqb x 1 && eqb y 1)) refl refl refl refl)

pub bit-or : (a b i : ℕ) → bit (bit_or a b) i ≡ (bit a i || bit b i)
bit-or =
    bit-op bit_or max ◌||◌ or_step (λ x y h l. omega arith)
    (digits (λ x y. eqb (max x y) 1 ≡ (eqb x 1 || eqb y 1)) refl refl refl refl)

pub bit-xor : (a b i : ℕ) → bit (bit_xor a b) i ≡ xor (bit a i) (bit b i)
unfolding xor
bit-xor =
    bit-op bit_xor differ xor xor_step (digits (λ x y. differ x y < 2) (lit< tt) (lit< tt) (lit< tt) (lit< tt))
    (digits (λ x y. eqb (differ x y) 1 ≡ xor (eqb x 1) (eqb y 1)) refl refl refl refl)

-- ---- shifts
-- `m >> i`, its lowest bit
pub bit-shift : (m i : ℕ) → bit m i ≡ eqb (m / 2 ^ i % 2) 1
unfolding bit
bit-shift m zero = ap (λ (x : ℕ). eqb (x % 2) 1) (sym (div-one m))
bit-shift m (suc i) =
    bit-shift (m / 2) i
    ∙ ap (λ (x : ℕ). eqb (x % 2) 1)
    (div-div-eq-div-mul m 2 (2 ^ i) ∙ ap (λ (x : ℕ). m / x) (mul_comm 2 (2 ^ i) ∙ sym (pow-suc 2 i)))

-- the bits from j on
pub bit-div : (m j i : ℕ) → bit (m / 2 ^ j) i ≡ bit m (j + i)
bit-div m j i = bit-shift (m / 2 ^ j) i ∙ ap (λ (x : ℕ). eqb (x % 2) 1) (shr-shr m j i) ∙ sym (bit-shift m (j + i))

-- the bits below n
mod-digits : (n m : ℕ) → m % 2 ^ suc n ≡ m / 2 % 2 ^ n * 2 + m % 2
mod-digits n m = ap (λ (k : ℕ). m % 2 ^ k) (sym (add-one n)) ∙ mod-pow-add m n 1

pub bit-mod : (n m i : ℕ) → i < n → bit (m % 2 ^ n) i ≡ bit m i
unfolding bit
bit-mod zero m i l = absurd (not-suc-le-zero l)
bit-mod (suc n) m zero l = ap (λ (x : ℕ). bit x 0) (mod-digits n m) ∙ bit-low (m / 2 % 2 ^ n) (m % 2) (mod2 m)
bit-mod (suc n) m (suc i) l =
    ap (λ (x : ℕ). bit x (suc i)) (mod-digits n m)
    ∙ bit-rest (m / 2 % 2 ^ n) (m % 2) i (mod2 m)
    ∙ bit-mod n (m / 2) i (le_of_suc-le-suc l)

-- bit n above a mask of n bits
module _ (n d : ℕ) (h : d < 2 ^ n) where
  pub added-below : (i : ℕ) → i < n → bit (2 ^ n + d) i ≡ bit d i
  added-below i l =
      sym (bit-mod n (2 ^ n + d) i l)
      ∙ ap (λ (x : ℕ). bit x i) (ap (λ (x : ℕ). (x + d) % 2 ^ n) (sym (one-mul (2 ^ n))) ∙ digits_mod 1 h)

  pub added-here : bit (2 ^ n + d) n ≡ true
  added-here =
      bit-shift (2 ^ n + d) n
      ∙ ap (λ (x : ℕ). eqb (x % 2) 1) (ap (λ (x : ℕ). (x + d) / 2 ^ n) (sym (one-mul (2 ^ n))) ∙ digits_div 1 h)

-- `1 << i` at k bits
pub one_shift : (k i : ℕ) → i < k → (1 * 2 ^ i) % 2 ^ k ≡ 2 ^ i
one_shift k i h = shl_exact {a = 1} 1 i k (lit< tt) (rw one-add h) ∙ one-mul (2 ^ i)

pub bit-pow : (x i : ℕ) → bit (2 ^ x) i ≡ eqb i x
unfolding bit
bit-pow zero zero = refl
bit-pow zero (suc i) = bit-zero i ∙ sym (eqb-suc-zero i)
bit-pow (suc x) zero =
    let even : 2 ^ suc x % 2 ≡ 0 = omega (arith, pow-suc 2 x) in
    ap (λ (r : ℕ). eqb r 1) even ∙ sym (eqb-zero-suc x)
bit-pow (suc x) (suc i) =
    let half : 2 ^ suc x / 2 ≡ 2 ^ x = omega (arith, pow-suc 2 x) in
    ap (λ (r : ℕ). bit r i) half ∙ bit-pow x i ∙ sym (eqb-suc-suc i x)

-- ---- `m | 1 << i` and `m ^ (m & 1 << i)` put bit i
module _ (k m i : ℕ) (h : m < 2 ^ k) (l : i < k) where
  is-put : (r : ℕ) (b : Bool) → r < 2 ^ k → ((j : ℕ) → bit r j ≡ cond (eqb j i) b (bit m j)) → r ≡ put m i b
  is-put r b hr e = bit-ext k r (put m i b) hr (put-lt k m i b l h) (λ j g. e j ∙ sym (bit-put m i j b))

  pub or_put : bit_or m (2 ^ i) ≡ put m i true
  or_put = is-put (bit_or m (2 ^ i)) true (or_lt k m (2 ^ i) h (pow-lt l)) (λ j. bit-or m (2 ^ i) j ∙ go j)
    where
      cases : (p q : Bool) → (p || q) ≡ cond q true p
      cases p true = or-true p
      cases p false = or-false p

      go : (j : ℕ) → (bit m j || bit (2 ^ i) j) ≡ cond (eqb j i) true (bit m j)
      go j = ap (λ (q : Bool). bit m j || q) (bit-pow i j) ∙ cases (bit m j) (eqb j i)

  pub xor-put : bit_xor m (bit_and m (2 ^ i)) ≡ put m i false
  unfolding xor
  xor-put =
      is-put (bit_xor m (bit_and m (2 ^ i))) false (xor_lt k m (bit_and m (2 ^ i)) h (and_lt k m (2 ^ i) h (pow-lt l)))
      (λ j. bit-xor m (bit_and m (2 ^ i)) j ∙ go j)
    where
      cases : (p q : Bool) → xor p (p && q) ≡ cond q false p
      cases true true = refl
      cases true false = refl
      cases false true = refl
      cases false false = refl

      go : (j : ℕ) → xor (bit m j) (bit (bit_and m (2 ^ i)) j) ≡ cond (eqb j i) false (bit m j)
      go j =
          ap (xor (bit m j)) (bit-and m (2 ^ i) j ∙ ap (λ (q : Bool). bit m j && q) (bit-pow i j))
          ∙ cases (bit m j) (eqb j i)

-- ---- `count_ones`
count_ones : (n m : ℕ) → m < 2 ^ n → count n (bit m) ≡ ones m
unfolding ones count bit
count_ones zero m h = sym (ap ones (lt-one h))
count_ones (suc n) m h =
    count-first n (bit m) ∙ ap₂ ◌+◌ (low (m % 2) 0 (mod2 m) (lit< tt)) (count_ones n (m / 2) (half_lt n m h)) ∙ sym (ones_step m)
  where
    low : (x y : ℕ) → x < 2 → y < 2 → digit (eqb x 1) ≡ x
    low = digits (λ x y. digit (eqb x 1) ≡ x) refl refl refl refl

pub ones-size : (m : ℕ) → m < 2 ^ width → ones m ≡ size m
unfolding size
ones-size m h = sym (count_ones width m h)

-- the bits of a mask of n variables, counted below n
pub size-within : (n m : ℕ) → n ≤ width → m < 2 ^ n → size m ≡ count n (bit m)
size-within n m l h = sym (ones-size m (lt_of_lt_of_le h (pow_mono l))) ∙ sym (count_ones n m h)

-- ---- `trailing_zeros`
pub trailing-lowest : (k m : ℕ) → m < 2 ^ k → 0 < m → Lowest (bit m) (count_trailing_zeros k m)
unfolding count_trailing_zeros bit
trailing-lowest zero m h pos = let e : m ≡ 0 = lt-one h in absurd (omega arith)
trailing-lowest (suc k) m h pos = by (m % 2) refl (mod2 m) (trailing-lowest k (m / 2) (half_lt k m h))
  where
    by : (d : ℕ) → m % 2 ≡ d → d < 2 → (0 < m / 2 → Lowest (bit (m / 2)) (count_trailing_zeros k (m / 2)))
        → Lowest (bit m) (under d (count_trailing_zeros k (m / 2)))
    by zero e l rest =
        let (here, none) = rest (omega (arith, pos, e)) in (
          here,
          λ i. elim i as (λ i. i < suc (count_trailing_zeros k (m / 2)) → T (not (bit m i))) [
            | zero ↦ λ below. along (sym (ap (λ (x : ℕ). not (eqb x 1)) e)) tt
            | suc i ↦ λ below. none i (le_of_suc-le-suc below)
          ],
        )
    by (suc d) e l rest =
        let one : m % 2 ≡ 1 = omega arith in
        (along (sym (ap (λ (x : ℕ). eqb x 1) one)) tt, λ i below. absurd (not-suc-le-zero below))

-- ---- masks as sets
pub subset-e : (a b : ℕ) → a < 2 ^ width → T (subset a b) → (i : ℕ) → T (bit a i) → T (bit b i)
unfolding subset
subset-e a b h t i p =
    implied-e (bit a i) (bit b i) (every-e width (λ i. implied (bit a i) (bit b i)) t i (bit_below width a i h p)) p

pub subset-i : (a b : ℕ) → ((i : ℕ) → T (bit a i) → T (bit b i)) → T (subset a b)
unfolding subset
subset-i a b h =
    every-i width (λ i. implied (bit a i) (bit b i)) (λ i l. implied-i (bit a i) (bit b i) (h i))

-- a set inside another is inside each that holds that one
pub subset-mono : (a b c : ℕ) → T (subset a b) → ((i : ℕ) → T (bit b i) → T (bit c i)) → T (subset a c)
unfolding subset
subset-mono a b c s h =
    every-i width (λ i. implied (bit a i) (bit c i))
    (λ i l.
    implied-i (bit a i) (bit c i)
    (λ p. h i (implied-e (bit a i) (bit b i) (every-e width (λ i. implied (bit a i) (bit b i)) s i l) p)))

pub disjoint-at : (a b : ℕ) → T (disjoint a b) → (i : ℕ) → i < width → T (not (bit a i)) ⊎ T (not (bit b i))
unfolding disjoint
disjoint-at a b t i l = not-and (bit a i) (bit b i) (every-e width (λ i. not (bit a i && bit b i)) t i l)

pub disjoint-e : (a b : ℕ) → a < 2 ^ width → T (disjoint a b) → (i : ℕ) → T (bit a i) → T (bit b i) → ⊥
disjoint-e a b h t i p q =
    ⊎_elim (λ (n : T (not (bit a i))). T_not (bit a i) n p) (λ (n : T (not (bit b i))). T_not (bit b i) n q)
    (disjoint-at a b t i (bit_below width a i h p))

pub disjoint-i : (a b : ℕ) → ((i : ℕ) → T (bit a i) → T (bit b i) → ⊥) → T (disjoint a b)
unfolding disjoint
disjoint-i a b h =
    every-i width (λ i. not (bit a i && bit b i))
    (λ i l. not_T (bit a i && bit b i) (λ p. h i (and_l (bit a i) (bit b i) p) (and_r (bit a i) (bit b i) p)))

-- `a & b == c` where the bits in common are those of c
and_is : (k a b c : ℕ) → a < 2 ^ k → c < 2 ^ k → ((i : ℕ) → (bit a i && bit b i) ≡ bit c i) → T (eqb (bit_and a b) c)
and_is k a b c h l e =
    along
    (sym (eq-eqb (bit_and a b) c
    (bit-ext k (bit_and a b) c (lt_of_le_of_lt (and_le_l a b) h) l (λ i g. bit-and a b i ∙ e i))))
    tt

is-and : (a b c i : ℕ) → T (eqb (bit_and a b) c) → (bit a i && bit b i) ≡ bit c i
is-and a b c i t = sym (bit-and a b i) ∙ ap (λ (x : ℕ). bit x i) (eqb→eq (bit_and a b) c t)

-- `a & b == a`
pub subset-test : (a b : ℕ) → a < 2 ^ width → eqb (bit_and a b) a ≡ subset a b
subset-test a b h =
    same_test (eqb (bit_and a b) a) (subset a b)
    (λ t. subset-i a b (λ i p. and_r (bit a i) (bit b i) (along (sym (is-and a b a i t)) p)))
    (λ t. and_is width a b a h h (λ i. keep (bit a i) (bit b i) (subset-e a b h t i)))
  where
    keep : (x y : Bool) → (T x → T y) → (x && y) ≡ x
    keep true y f = is_true y (f tt)
    keep false y f = refl

-- `a & b == 0`
pub disjoint-test : (a b : ℕ) → a < 2 ^ width → eqb (bit_and a b) 0 ≡ disjoint a b
disjoint-test a b h =
    same_test (eqb (bit_and a b) 0) (disjoint a b)
    (λ t. disjoint-i a b (λ i p q. along (is-and a b 0 i t ∙ bit-zero i) (and_i (bit a i) (bit b i) p q)))
    (λ t. and_is width a b 0 h (pow_pos width)
    (λ i. drop (bit a i) (bit b i) (disjoint-e a b h t i) ∙ sym (bit-zero i)))
  where
    drop : (x y : Bool) → (T x → T y → ⊥) → (x && y) ≡ false
    drop true y f = is_false y (not_T y (f tt))
    drop false y f = refl
