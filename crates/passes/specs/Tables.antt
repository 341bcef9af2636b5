-- What the inner functions take for granted of a table and of an array. No public contract rests on these.
use Rattle.std.specs.Prelude.{ℕ, ◌<◌, ◌≡◌, List, get_or}

-- the first n elements of the list are those that f gives
abbrev pub Holds : {A : Type 0} → A → (ℕ → A) → ℕ → List A → Type 0
Holds d f n l = (c : ℕ) → c < n → get_or l c d ≡ f c
