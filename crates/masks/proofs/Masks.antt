-- Masks by their bits.
use Prim.Native.Nat.{ℕ, zero, suc, ◌+◌, ◌*◌, ◌/◌, ◌%◌, ◌^◌, ◌<◌, ◌≤◌}
use mathlib.Core.Path.{◌≡◌, refl, sym, ap, ap₂, ◌∙◌}
use mathlib.Core.Bool.{Bool, true, false, cond}
use mathlib.Core.Logic.{⊎_elim, ◌≢◌}
use native.Mathlib.Nat.{pow-suc, mod-lt, zero-lt-suc, div-add-mod'}
use native.Mathlib.Omega.{arith}
use lib.Dec.{T, eqb}
use lib.Arith.{lt-one, digits_div, digits_mod}
use borrow.Author.Tests.{eq-eqb, ne_eqb}
use Rattle.masks.specs.Mask.{bit, put}
use Rattle.masks.specs.Numbers.{digit}
use Rattle.masks.proofs.Tests.{along, same?}

-- ---- binary digits
pub mod2 : (m : ℕ) → m % 2 < 2
mod2 m = mod-lt m (zero-lt-suc 1)

pub digit_lt : (b : Bool) → digit b < 2
digit_lt true = omega arith
digit_lt false = omega arith

pub odd-digit : (b : Bool) → eqb (digit b) 1 ≡ b
odd-digit true = refl
odd-digit false = refl

-- a law of two digits from its four cases
pub digits : (P : ℕ → ℕ → Type 0) → P 0 0 → P 0 1 → P 1 0 → P 1 1 → (x y : ℕ) → x < 2 → y < 2 → P x y
digits P a b c d zero zero h l = a
digits P a b c d zero (suc zero) h l = b
digits P a b c d (suc zero) zero h l = c
digits P a b c d (suc zero) (suc zero) h l = d
digits P a b c d zero (suc (suc y)) h l = absurd (omega arith)
digits P a b c d (suc zero) (suc (suc y)) h l = absurd (omega arith)
digits P a b c d (suc (suc x)) zero h l = absurd (omega arith)
digits P a b c d (suc (suc x)) (suc y) h l = absurd (omega arith)

pub half_lt : (n m : ℕ) → m < 2 ^ suc n → m / 2 < 2 ^ n
half_lt n m h = let e : 2 ^ suc n ≡ 2 ^ n * 2 = pow-suc 2 n in omega arith

pub double-lt : (n q c : ℕ) → q < 2 ^ n → c < 2 → q * 2 + c < 2 ^ suc n
double-lt n q c h l = let e : 2 ^ suc n ≡ 2 ^ n * 2 = pow-suc 2 n in omega arith

-- ---- a mask of a low digit c and the rest q
pub bit-low : (q c : ℕ) → c < 2 → bit (q * 2 + c) 0 ≡ eqb c 1
unfolding bit
bit-low q c h = ap (λ (x : ℕ). eqb x 1) (digits_mod q h)

pub bit-rest : (q c i : ℕ) → c < 2 → bit (q * 2 + c) (suc i) ≡ bit q i
unfolding bit
bit-rest q c i h = ap (λ (x : ℕ). bit x i) (digits_div q h)

-- masks below 2 ^ n with the same bits below n are the same
pub bit-ext : (n a b : ℕ) → a < 2 ^ n → b < 2 ^ n → ((i : ℕ) → i < n → bit a i ≡ bit b i) → a ≡ b
unfolding bit
bit-ext zero a b h l e = lt-one h ∙ sym (lt-one l)
bit-ext (suc n) a b h l e =
    sym (div-add-mod' a 2)
    ∙ ap₂ (λ (x y : ℕ). x * 2 + y)
    (bit-ext n (a / 2) (b / 2) (half_lt n a h) (half_lt n b l) (λ i k. e (suc i) (omega arith)))
    (low (a % 2) (b % 2) (mod2 a) (mod2 b) (e 0 (omega arith)))
    ∙ div-add-mod' b 2
  where
    low : (x y : ℕ) → x < 2 → y < 2 → eqb x 1 ≡ eqb y 1 → x ≡ y
    low =
        digits (λ x y. eqb x 1 ≡ eqb y 1 → x ≡ y) (λ e. refl) (λ e. absurd (along (sym e) tt)) (λ e. absurd (along e tt))
        (λ e. refl)

-- ---- no bit at n or above
pub bit-above : (n m i : ℕ) → m < 2 ^ n → n ≤ i → T (bit m i) → ⊥
unfolding bit
bit-above zero m zero h l p = along (ap (λ (x : ℕ). eqb (x % 2) 1) (lt-one h)) p
bit-above zero m (suc i) h l p =
    bit-above zero (m / 2) i (let e : m ≡ 0 = lt-one h in omega arith) (omega arith) p
bit-above (suc n) m zero h l p = absurd (omega arith)
bit-above (suc n) m (suc i) h l p = bit-above n (m / 2) i (half_lt n m h) (omega arith) p

pub bit_below : (n m i : ℕ) → m < 2 ^ n → T (bit m i) → i < n
bit_below n m i h p = let f : n ≤ i → ⊥ = (λ l. bit-above n m i h l p) in omega arith

pub bit-zero : (i : ℕ) → bit 0 i ≡ false
unfolding bit
bit-zero zero = refl
bit-zero (suc i) = bit-zero i

-- ---- a bit put
pub put_same : (m i : ℕ) (b : Bool) → bit (put m i b) i ≡ b
unfolding put
put_same m zero b = bit-low (m / 2) (digit b) (digit_lt b) ∙ odd-digit b
put_same m (suc i) b = bit-rest (put (m / 2) i b) (m % 2) i (mod2 m) ∙ put_same (m / 2) i b

pub put_other : (m i j : ℕ) (b : Bool) → j ≢ i → bit (put m i b) j ≡ bit m j
unfolding put bit
put_other m zero zero b h = absurd (h refl)
put_other m zero (suc j) b h = bit-rest (m / 2) (digit b) j (digit_lt b)
put_other m (suc i) zero b h = bit-low (put (m / 2) i b) (m % 2) (mod2 m)
put_other m (suc i) (suc j) b h =
    bit-rest (put (m / 2) i b) (m % 2) j (mod2 m) ∙ put_other (m / 2) i j b (λ e. h (ap suc e))

pub bit-put : (m i j : ℕ) (b : Bool) → bit (put m i b) j ≡ cond (eqb j i) b (bit m j)
bit-put m i j b =
    ⊎_elim
    (λ (e : j ≡ i).
    ap (bit (put m i b)) e ∙ put_same m i b ∙ ap (λ (t : Bool). cond t b (bit m j)) (sym (eq-eqb j i e)))
    (λ (n : j ≢ i). put_other m i j b n ∙ ap (λ (t : Bool). cond t b (bit m j)) (sym (ne_eqb j i n)))
    (same? j i)

-- a mask with a bit set has those that it had
pub put_keeps : (m i j : ℕ) → T (bit m j) → T (bit (put m i true) j)
put_keeps m i j h = along (sym (bit-put m i j true)) (by (eqb j i))
  where
    by : (e : Bool) → T (cond e true (bit m j))
    by true = tt
    by false = h

pub put-lt : (n m i : ℕ) (b : Bool) → i < n → m < 2 ^ n → put m i b < 2 ^ n
unfolding put
put-lt zero m i b l h = absurd (omega arith)
put-lt (suc n) m zero b l h = double-lt n (m / 2) (digit b) (half_lt n m h) (digit_lt b)
put-lt (suc n) m (suc i) b l h =
    double-lt n (put (m / 2) i b) (m % 2) (put-lt n (m / 2) i b (omega arith) (half_lt n m h)) (mod2 m)

-- a bit taken away makes no mask larger
pub put-false-le : (m i : ℕ) → put m i false ≤ m
unfolding put
put-false-le m zero = let d : m / 2 * 2 + m % 2 ≡ m = div-add-mod' m 2 in omega arith
put-false-le m (suc i) =
    let r : put (m / 2) i false ≤ m / 2 = put-false-le (m / 2) i in
    let d : m / 2 * 2 + m % 2 ≡ m = div-add-mod' m 2 in
    omega arith
