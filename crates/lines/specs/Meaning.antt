-- What the reading of a text of lines about N variables is to answer, said by its language alone (`text/specs/Language`): exactly one
-- answer for each input. `shape` is the number of a wrong shape, and `value` what a tree stands for.
use Rattle.std.specs.Prelude.{ℕ, ◌≡◌, not, ◌⊎◌, ◌≢◌, List, [], T}
use Rattle.table.specs.Outcome.{Outcome, answered, refused}
use Rattle.table.specs.Words.{variables_fit}
use Rattle.text.specs.Language.{WrongAt, FaultAt}

-- a tree without a fault prints to s and stands for v
pub record Tells {A X : Type 0} (Ok : X → Type 0) (out : X → List ℕ) (faults : X → List (ℕ × ℕ)) (value : X → A) (s : List ℕ) (v : A)
    : Type 0 where
  pub tree : X
  pub ok : Ok tree
  pub clean : faults tree ≡ []
  pub prints : out tree ≡ s
  pub means : value tree ≡ v

module _ {A X : Type 0} (Ok : X → Type 0) (out : X → List ℕ) (faults : X → List (ℕ × ℕ)) (shape : ℕ) (value : X → A) where
  -- 21 is said before anything of the text
  abbrev pub LinesReadAs : ℕ → List ℕ → Outcome A → Type 0
  LinesReadAs N s (answered v) = T (variables_fit N) × Tells Ok out faults value s v
  LinesReadAs N s (refused k p) =
      ((k ≡ 21) × (p ≡ 0) × T (not (variables_fit N)))
      ⊎ (T (variables_fit N) × (((k ≡ shape) × WrongAt Ok out faults s p) ⊎ ((k ≢ shape) × FaultAt Ok out faults s k p)))
