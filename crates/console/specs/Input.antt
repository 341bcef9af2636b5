-- What is promised of the bytes read.
use Rattle.std.specs.Prelude.{ℕ, ◌≡◌, ◌≤◌, List, length, take}

-- n is at most the length of the list, so that its first n items are there and are n of them
abbrev pub IsPrefixLen : ℕ → List ℕ → Type 0
IsPrefixLen n l = (n ≤ length l) × (n ≡ length (take n l))
