-- The sums in which the code looks the weight of a term up, a byte of its variables at a time. No public contract rests on these.
use Rattle.std.specs.Prelude.{ℕ, ◌+◌, ◌*◌, ◌/◌, ◌%◌, ◌^◌, ◌<◌, ◌≡◌, cond, List, length, get_or}
use Rattle.masks.specs.Mask.{bit}
use Rattle.masks.specs.Numbers.{total}

-- how many sums there are: one for each of the 256 values of each of the 5 bytes
abbrev pub sum_count : ℕ
sum_count = 1280

-- byte k of the mask v: its bits 8k to 8k + 7
abbrev pub byte_of : ℕ → ℕ → ℕ
byte_of k v = v / 2 ^ (8 * k) % 256

-- the sum of the weights of those of the first b variables of byte k whose bits are set in d
abbrev pub low_weight : List ℕ → ℕ → ℕ → ℕ → ℕ
low_weight m k b d = total b (λ x. cond (bit d x) (get_or m (8 * k + x) 0) 0)

-- the same for all eight of them
abbrev pub byte_weight : List ℕ → ℕ → ℕ → ℕ
byte_weight m k d = low_weight m k 8 d

-- the sum of the entries for the bytes of the mask v
unfoldable pub summed : List ℕ → ℕ → ℕ
summed s v = total 5 (λ k. get_or s (256 * k + byte_of k v) 0)

-- s has the sums of the weights m: entry 256k + d is the one for byte k at d
pub record Sums (m s : List ℕ) : Type 0 where
  pub size : length s ≡ sum_count
  pub made : (k : ℕ) → k < 5 → (d : ℕ) → d < 256 → get_or s (256 * k + d) 0 ≡ byte_weight m k d

-- ---- the steps that make them
-- the first d of the n sums from at + n on are made: those from at on, each with w added; what stands below is kept
pub record Doubled (before : List ℕ) (at n w d : ℕ) (after : List ℕ) : Type 0 where
  pub kept : (i : ℕ) → i < at + n → get_or after i 0 ≡ get_or before i 0
  pub added : (i : ℕ) → i < d → get_or after (at + n + i) 0 ≡ get_or before (at + i) 0 + w

-- the sums of the first b variables of byte k are made; what stands below them is kept
pub record FilledByte (m : List ℕ) (k b : ℕ) (before after : List ℕ) : Type 0 where
  pub kept : (i : ℕ) → i < 256 * k → get_or after i 0 ≡ get_or before i 0
  pub made : (d : ℕ) → d < 2 ^ b → get_or after (256 * k + d) 0 ≡ low_weight m k b d
