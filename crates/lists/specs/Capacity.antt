-- The most that a listing may be asked for.
use Rattle.std.specs.Prelude.{ℕ}

-- how many terms of a node there may be room for
abbrev pub max_capacity : ℕ
max_capacity = 4096
