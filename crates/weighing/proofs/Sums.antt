-- The sums give the weight of a term.
use Prim.Native.Nat.{ℕ, ◌+◌, ◌*◌, ◌/◌, ◌%◌, ◌^◌, ◌<◌, ◌≤◌}
use mathlib.Core.Path.{◌≡◌, refl, sym, ap, ◌∙◌}
use mathlib.Core.Bool.{Bool, true, false, cond}
use mathlib.Core.List.{List}
use native.Mathlib.Nat.{zero-add, div-one, mod-lt, zero-lt-suc}
use lib.ListN.{length, get_or, get_or-eq_default}
use Rattle.masks.specs.Mask.{bit}
use Rattle.masks.specs.Numbers.{total}
use Rattle.masks.proofs.Operators.{bit-or, bit-div, bit-mod}
use Rattle.masks.proofs.Totals.{total_ext, total-past, total-blocks}
use Rattle.terms.specs.Order.{weight}
use Rattle.terms.specs.Term.{mentions, variables}
use Rattle.terms.specs.declared.Term.{Term}
use Rattle.weighing.specs.Sums.{byte_of, byte_weight, summed, Sums}

-- bit x of byte k is bit 8k + x
bit_byte : (v k x : ℕ) → x < 8 → bit (byte_of k v) x ≡ bit v (8 * k + x)
bit_byte v k x l = bit-mod 8 (v / 2 ^ (8 * k)) x l ∙ bit-div v (8 * k) x

module _ (m : List ℕ) (v : ℕ) where
  -- what variable x adds to the weight of the mask
  abbrev part : ℕ → ℕ
  part x = cond (bit v x) (get_or m x 0) 0

  byte-parts : (k : ℕ) → byte_weight m k (byte_of k v) ≡ total 8 (λ x. part (8 * k + x))
  byte-parts k =
      total_ext 8 (λ x. cond (bit (byte_of k v) x) (get_or m (8 * k + x) 0) 0) (λ x. part (8 * k + x))
      (λ x l. ap (λ (b : Bool). cond b (get_or m (8 * k + x) 0) 0) (bit_byte v k x l))

  -- a variable past the list adds nothing
  past : (x : ℕ) → length m ≤ x → part x ≡ 0
  past x l = ap (λ (w : ℕ). cond (bit v x) w 0) (get_or-eq_default m 0 l) ∙ nothing (bit v x)
    where
      nothing : (b : Bool) → ◌≡◌ {A = ℕ} (cond b 0 0) 0
      nothing true = refl
      nothing false = refl

pub summed-weight : {m s : List ℕ} → Sums m s → length m ≤ 40 → (t : Term) → summed s (variables t) ≡ weight m t
unfolding summed weight
summed-weight {m} {s} h l t =
    let bytes : summed s v ≡ total 5 (λ k. total 8 (λ x. part m v (8 * k + x))) =
    total_ext 5 (λ k. get_or s (256 * k + byte_of k v) 0) (λ k. total 8 (λ x. part m v (8 * k + x)))
    (λ k g. h.made k g (byte_of k v) (mod-lt (v / 2 ^ (8 * k)) (zero-lt-suc 255)) ∙ byte-parts m v k) in
    let forty : total 5 (λ k. total 8 (λ x. part m v (8 * k + x))) ≡ total 40 (part m v) = sym (total-blocks 8 5 (part m v)) in
    let listed : total 40 (part m v) ≡ total (length m) (part m v) = total-past (length m) 40 (part m v) l (past m v) in
    let mentioned : total (length m) (part m v) ≡ weight m t =
    total_ext (length m) (part m v) (λ x. cond (mentions t x) (get_or m x 0) 0)
    (λ x g. ap (λ (b : Bool). cond b (get_or m x 0) 0) (bit-or t.positive t.negative x)) in
    bytes ∙ forty ∙ listed ∙ mentioned
  where
    v : ℕ
    v = variables t

-- the entries for the five bytes, as the code has them
pub summed-bytes : (s : List ℕ) (v : ℕ)
    → get_or s (v % 256) 0
    + get_or s (256 + v / 2 ^ 8 % 256) 0
    + get_or s (512 + v / 2 ^ 16 % 256) 0
    + get_or s (768 + v / 2 ^ 24 % 256) 0
    + get_or s (1024 + v / 2 ^ 32 % 256) 0
    ≡ summed s v
unfolding summed total
summed-bytes s v =
    let place : 0 + v / 1 % 256 ≡ v % 256 = zero-add (v / 1 % 256) ∙ ap (λ (x : ℕ). x % 256) (div-one v) in
    let first : 0 + get_or s (0 + v / 1 % 256) 0 ≡ get_or s (v % 256) 0 =
    zero-add (get_or s (0 + v / 1 % 256) 0) ∙ ap (λ (i : ℕ). get_or s i 0) place in
    ap (λ (z : ℕ).
    z
    + get_or s (256 + v / 2 ^ 8 % 256) 0
    + get_or s (512 + v / 2 ^ 16 % 256) 0
    + get_or s (768 + v / 2 ^ 24 % 256) 0
    + get_or s (1024 + v / 2 ^ 32 % 256) 0)
    (sym first)
