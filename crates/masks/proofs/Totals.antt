-- Sums over the numbers below a bound.
use Prim.Native.Nat.{ℕ, zero, suc, ◌+◌, ◌-◌, ◌*◌, ◌<◌, ◌≤◌}
use mathlib.Core.Path.{◌≡◌, refl, sym, ap, ap₂, ◌∙◌}
use native.Mathlib.Nat.{le_refl, add-zero, add-suc, add_assoc, mul-zero, mul-suc}
use native.Mathlib.Omega.{arith}
use Rattle.masks.specs.Numbers.{total}

pub total_ext : (n : ℕ) (f g : ℕ → ℕ) → ((i : ℕ) → i < n → f i ≡ g i) → total n f ≡ total n g
unfolding total
total_ext zero f g h = refl
total_ext (suc n) f g h = ap₂ ◌+◌ (total_ext n f g (λ i l. h i (omega arith))) (h n (le_refl (suc n)))

pub total-none : (n : ℕ) → total n (λ i. 0) ≡ 0
unfolding total
total-none zero = refl
total-none (suc n) = let e : total n (λ i. 0) ≡ 0 = total-none n in omega arith

-- the first m numbers, and the n after them
pub total-split : (m n : ℕ) (f : ℕ → ℕ) → total (m + n) f ≡ total m f + total n (λ i. f (m + i))
unfolding total
total-split m zero f = ap (λ (k : ℕ). total k f) (add-zero m) ∙ sym (add-zero (total m f))
total-split m (suc n) f =
    let e : total (m + n) f ≡ total m f + total n (λ i. f (m + i)) = total-split m n f in
    ap (λ (k : ℕ). total k f) (add-suc m n) ∙ ap (λ (k : ℕ). k + f (m + n)) e
    ∙ add_assoc (total m f) (total n (λ i. f (m + i))) (f (m + n))

-- from m on, f adds nothing
pub total-past : (m n : ℕ) (f : ℕ → ℕ) → m ≤ n → ((i : ℕ) → m ≤ i → f i ≡ 0) → total n f ≡ total m f
total-past m n f l h =
    let past : total (n - m) (λ i. f (m + i)) ≡ 0 =
    total_ext (n - m) (λ i. f (m + i)) (λ i. 0) (λ i k. h (m + i) (omega arith)) ∙ total-none (n - m) in
    let whole : m + (n - m) ≡ n = omega arith in
    ap (λ (k : ℕ). total k f) (sym whole) ∙ total-split m (n - m) f ∙ ap (λ (k : ℕ). total m f + k) past ∙ add-zero (total m f)

-- b numbers at a time
pub total-blocks : (b n : ℕ) (f : ℕ → ℕ) → total (b * n) f ≡ total n (λ k. total b (λ i. f (b * k + i)))
unfolding total
total-blocks b zero f = ap (λ (k : ℕ). total k f) (mul-zero b)
total-blocks b (suc n) f =
    ap (λ (k : ℕ). total k f) (mul-suc b n)
    ∙ total-split (b * n) b f
    ∙ ap (λ (k : ℕ). k + total b (λ i. f (b * n + i))) (total-blocks b n f)

pub total-most : (n c : ℕ) (f : ℕ → ℕ) → ((i : ℕ) → i < n → f i ≤ c) → total n f ≤ n * c
unfolding total
total-most zero c f h = omega arith
total-most (suc n) c f h =
    let rest : total n f ≤ n * c = total-most n c f (λ i l. h i (omega arith)) in
    let last : f n ≤ c = h n (le_refl (suc n)) in
    omega arith
