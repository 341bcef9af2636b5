-- A mask: a set of variables as the bits of a number. Bit i says whether variable i is in the set.
use Rattle.std.specs.Prelude.{ℕ, zero, suc, ◌+◌, ◌*◌, ◌/◌, ◌%◌, ◌^◌, Bool, ◌&&◌, not, eqb, ltb}
use Rattle.masks.specs.Numbers.{digit, implied, every, count}

-- how many bits the code's masks have
abbrev pub width : ℕ
width = 64

-- bit i of the mask m, the lowest being bit 0
unfoldable pub bit : ℕ → ℕ → Bool
bit m zero = eqb (m % 2) 1
bit m (suc i) = bit (m / 2) i

-- m with its bit i made b
unfoldable pub put : ℕ → ℕ → Bool → ℕ
put m zero b = m / 2 * 2 + digit b
put m (suc i) b = put (m / 2) i b * 2 + m % 2

-- m has no bit at N or above
abbrev pub within : ℕ → ℕ → Bool
within N m = ltb m (2 ^ N)

-- how many bits of m are set
unfoldable pub size : ℕ → ℕ
size m = count width (bit m)

-- each bit of a is one of b
unfoldable pub subset : ℕ → ℕ → Bool
subset a b = every width (λ i. implied (bit a i) (bit b i))

-- no bit is in both a and b
unfoldable pub disjoint : ℕ → ℕ → Bool
disjoint a b = every width (λ i. not (bit a i && bit b i))
