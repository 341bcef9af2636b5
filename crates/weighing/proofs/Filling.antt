-- How the sums are made: byte by byte, and those of a byte by a doubling for each of its variables.
use Prim.Native.Nat.{ℕ, suc, ◌+◌, ◌-◌, ◌*◌, ◌^◌, ◌<◌, ◌≤◌}
use mathlib.Core.Path.{◌≡◌, refl, sym, ap, ap₂, ◌∙◌}
use mathlib.Core.Bool.{Bool, false, cond}
use mathlib.Core.List.{List}
use native.Mathlib.Decide.{dec_lt}
use native.Mathlib.Nat.{le_refl, add-zero, pow-suc}
use native.Mathlib.Numerals.{add-one}
use native.Mathlib.Omega.{arith}
use lib.Arith.{lt-one}
use lib.Dec.{not_T}
use lib.ListN.{length, get_or, set}
use lib.Seq.{get_or-set_same}
use Rattle.masks.specs.Mask.{bit}
use Rattle.masks.specs.Numbers.{total}
use Rattle.masks.proofs.Masks.{bit-above}
use Rattle.masks.proofs.Operators.{added-below, added-here}
use Rattle.masks.proofs.Tests.{is_false}
use Rattle.masks.proofs.Totals.{total_ext, total-most}
use Rattle.weighing.specs.Sums.{low_weight, byte_weight, Doubled, FilledByte}
use Rattle.weighing.specs.Weights.{max_weight, Bounded}
use Rattle.weighing.proofs.Weights.{chosen-most}

-- ---- what doubling makes
module _ (m : List ℕ) (k : ℕ) where
  -- the weight of variable x of the byte
  abbrev weight_at : ℕ → ℕ
  weight_at x = get_or m (8 * k + x) 0

  low-none : (d : ℕ) → 0 ≡ low_weight m k 0 d
  unfolding total
  low-none d = refl

  low-most : Bounded m → (b d : ℕ) → low_weight m k b d ≤ b * max_weight
  low-most h b d =
      total-most b max_weight (λ x. cond (bit d x) (weight_at x) 0) (λ x l. chosen-most (bit d x) (h (8 * k + x)))

  -- ---- with variable b, the sets without it keep their weights, and those with it weigh as much more as it does
  module _ (b d : ℕ) (h : d < 2 ^ b) where
    low-without : low_weight m k (suc b) d ≡ low_weight m k b d
    unfolding total
    low-without =
        let clear : bit d b ≡ false = is_false (bit d b) (not_T (bit d b) (bit-above b d b h (le_refl b))) in
        ap (λ (p : Bool). low_weight m k b d + cond p (weight_at b) 0) clear ∙ add-zero (low_weight m k b d)

    low-with : low_weight m k (suc b) (2 ^ b + d) ≡ low_weight m k b d + weight_at b
    unfolding total
    low-with =
        ap₂ (λ (s : ℕ) (p : Bool). s + cond p (weight_at b) 0)
        (total_ext b (λ x. cond (bit (2 ^ b + d) x) (weight_at x) 0) (λ x. cond (bit d x) (weight_at x) 0)
        (λ x l. ap (λ (p : Bool). cond p (weight_at x) 0) (added-below b d h x l)))
        (added-here b d h)

  -- ---- the loop over the variables of the byte
  pub filled-start : (s : List ℕ) → 256 * k < length s → FilledByte m k 0 (set s (256 * k) 0) (set s (256 * k) 0)
  filled-start s h = record { kept = λ i l. refl; made = λ d l. none d (lt-one l) }
    where
      none : (d : ℕ) → d ≡ 0 → get_or (set s (256 * k) 0) (256 * k + d) 0 ≡ low_weight m k 0 d
      none d e =
          let place : 256 * k + d ≡ 256 * k = omega arith in
          ap (λ (i : ℕ). get_or (set s (256 * k) 0) i 0) place ∙ get_or-set_same s (256 * k) 0 0 h ∙ low-none d

  module _ (b n w : ℕ) {s r : List ℕ} (e : n ≡ 2 ^ b) (q : w ≡ weight_at b) (f : FilledByte m k b s r) where
    -- the next sums fit their type
    pub filled-room : Bounded m → b < 8 → (d : ℕ) → d < n → get_or r (256 * k + d) 0 + w < 65536
    filled-room h l d g =
        let sum : get_or r (256 * k + d) 0 ≡ low_weight m k b d = f.made d (omega arith) in
        let low : low_weight m k b d ≤ b * max_weight = low-most h b d in
        let one : weight_at b ≤ max_weight = h (8 * k + b) in
        omega arith

    -- the sums of the first b variables, doubled, are those of the first b + 1
    pub filled_next : {z : List ℕ} → Doubled r (256 * k) n w n z → FilledByte m k (b + 1) s z
    filled_next {z} g =
        rw add-one
        (record {
          kept = λ i l. g.kept i (omega arith) ∙ f.kept i l;
          made = λ d l. by d (omega (arith, pow-suc 2 b)) (dec_lt d n);
        })
      where
        by : (d : ℕ) → d < n + n → Dec (d < n) → get_or z (256 * k + d) 0 ≡ low_weight m k (suc b) d
        by d l (yes h) =
            let j : d < 2 ^ b = omega arith in
            g.kept (256 * k + d) (omega arith) ∙ f.made d j ∙ sym (low-without b d j)
        by d l (no h) =
            let i : ℕ = d - n in
            let j : i < 2 ^ b = omega arith in
            let place : 256 * k + d ≡ 256 * k + n + i = omega arith in
            let whole : 2 ^ b + i ≡ d = omega arith in
            ap (λ (x : ℕ). get_or z x 0) place
            ∙ g.added i (omega arith)
            ∙ ap₂ ◌+◌ (f.made i j) q
            ∙ sym (low-with b i j)
            ∙ ap (low_weight m k (suc b)) whole

-- ---- the loop over the bytes: the sums of those below k are made
abbrev pub FilledBelow : List ℕ → ℕ → List ℕ → Type 0
FilledBelow m k s = (j : ℕ) → j < k → (d : ℕ) → d < 256 → get_or s (256 * j + d) 0 ≡ byte_weight m j d
