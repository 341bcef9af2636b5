-- What the walks over the measurements keep and take for granted. No public contract rests on these.
use Rattle.std.specs.Prelude.{ℕ, zero, suc, ◌<◌, true, Option}
use Rattle.masks.specs.Mask.{width, put}
use Rattle.masks.specs.Numbers.{first}
use Rattle.measurements.specs.Measurement.{complete, entries, variable_at, wrong, Measurements}

-- the mask v with the variables of the measurements 0 to k - 1
unfoldable pub seen : ℕ → Measurements → ℕ → ℕ
seen v m zero = v
seen v m (suc k) = put (seen v m k) (variable_at m k) true

-- the lowest wrong measurement, None where there is none
abbrev pub first_wrong : ℕ → ℕ → Measurements → Option ℕ
first_wrong N v m = first (entries m) (wrong N v m)

-- the first n are complete, and their variables have bits in a mask
abbrev pub Usable : ℕ → Measurements → Type 0
Usable n m = (i : ℕ) → i < n → (i < complete m) × (variable_at m i < width)
