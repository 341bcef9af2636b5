-- How long a short side is. No public contract rests on this.
use Rattle.std.specs.Prelude.{ℕ}

-- how many terms a short side has at most
abbrev pub short_side : ℕ
short_side = 64
