-- Where the refusals of a language's texts stand. The language: the trees that are Ok, each printed by `out`, with its faults, number and
-- place, in the order of their bytes.
use Rattle.std.specs.Prelude.{ℕ, ◌+◌, ◌<◌, ◌≤◌, ◌≡◌, List, ◌∷◌, ◌++◌, length, take}

module _ {X : Type 0} (Ok : X → Type 0) (out : X → List ℕ) where
  -- a text of the language
  abbrev pub IsOut : List ℕ → Type 0
  IsOut s = (t : X) × Ok t × (out t ≡ s)

  -- some text of the language begins with these bytes
  abbrev pub Begins : List ℕ → Type 0
  Begins s = (t : X) × (rest : List ℕ) × Ok t × (s ++ rest ≡ out t)

-- wrong shape: p is the first byte with which no text of the language goes on, or the end of what is none; and no fault stands before p
pub record WrongAt {X : Type 0} (Ok : X → Type 0) (out : X → List ℕ) (faults : X → List (ℕ × ℕ)) (s : List ℕ) (p : ℕ) : Type 0 where
  pub inside : p ≤ length s
  pub before : Begins Ok out (take p s)
  pub here : p < length s → Begins Ok out (take (p + 1) s) → ⊥
  pub none : IsOut Ok out s → ⊥
  pub lowest : (t : X) (rest : List ℕ) → Ok t → take p s ++ rest ≡ out t
      → (k q : ℕ) (fs : List (ℕ × ℕ)) → faults t ≡ (k, q) ∷ fs → p ≤ q

-- any other fault: the first of every text of the language that begins with the bytes up to p, and there is such a text
pub record FaultAt {X : Type 0} (Ok : X → Type 0) (out : X → List ℕ) (faults : X → List (ℕ × ℕ)) (s : List ℕ) (k p : ℕ) : Type 0 where
  pub inside : p < length s
  pub viable : Begins Ok out (take (p + 1) s)
  pub first : (t : X) (rest : List ℕ) → Ok t → take (p + 1) s ++ rest ≡ out t → (fs : List (ℕ × ℕ)) × (faults t ≡ (k, p) ∷ fs)
