-- The sizes of scratch. No public contract rests on these.
use Rattle.std.specs.Prelude.{ℕ, ◌+◌, ◌*◌, ◌/◌, ◌≤◌, List, length}
use Rattle.lists.specs.Capacity.{max_capacity}

-- how many terms stand in one word, a bit each
abbrev pub word_bits : ℕ
word_bits = 64

-- how many words the bits of the longest list take
abbrev pub max_words : ℕ
max_words = 64

-- how many words the bits of n terms take
abbrev pub bit_words : ℕ → ℕ
bit_words n = (n + 63) / word_bits

-- how many variables have columns
abbrev pub column_variables : ℕ
column_variables = 40

-- how many columns a list has: one for each literal
abbrev pub column_count : ℕ
column_count = 2 * column_variables

-- there is place for columns of so many words
abbrev pub HasColumns : ℕ → List ℕ → Type 0
HasColumns words columns = column_count * words ≤ length columns

-- each half of the columns has place for those of either list, which have m and n terms
abbrev pub HasHalves : ℕ → ℕ → List ℕ → Type 0
HasHalves m n columns = (column_count * bit_words m ≤ length columns / 2) × (column_count * bit_words n ≤ length columns / 2)

-- what a row costs at most: 1, and all words for each kept term
abbrev pub max_cost : ℕ
max_cost = 1 + max_words * max_capacity
