-- Where a reading that goes on stands: past its start and inside the text.
use Rattle.std.specs.Prelude.{ℕ, ◌<◌, ◌≤◌, List, ◌≡◌, length}
use Rattle.table.specs.Layout.{words_for}
use Rattle.table.specs.Node.{max_nodes}
use Rattle.text.specs.Answers.{reading_of}
use Rattle.text.specs.Read.{Stepped, ReadOut}
use Rattle.text.specs.declared.head.Limits.{Limits}
use Rattle.text.specs.declared.head.Opening.{Opening}
use Rattle.text.specs.declared.head.Opening.TheVariants.{Leaf, Inner, Line}
use Rattle.text.specs.declared.head.Word.{Word}
use Rattle.std.specs.Prelude.{Option, Some, None, Result, Ok, Err}
use Rattle.text.specs.declared.answer.Misread.{Misread}
use Rattle.text.specs.declared.answer.Formed.{Formed}
use Rattle.text.specs.declared.answer.Circuit.{Circuit}

-- d is the digit of this value, or none where the value is 10
abbrev pub DigitIs : ℕ → Option ℕ → Type 0
DigitIs v None = v ≡ 10
DigitIs v (Some d) = (v ≡ d) × (d < 10)

abbrev pub NumeralRuns : List ℕ → ℕ → Option (ℕ × ℕ) → Type 0
NumeralRuns s at None = Unit
NumeralRuns s at (Some (v, p)) = (at < p) × (p ≤ length s) × (v < 10000)

abbrev pub MatchedRuns : List ℕ → ℕ → Result ℕ ℕ → Type 0
MatchedRuns s at (Ok p) = (at ≤ p) × (p ≤ length s)
MatchedRuns s at (Err p) = Unit

abbrev pub RangedRuns : List ℕ → ℕ → ℕ → Result (ℕ × ℕ) Misread → Type 0
RangedRuns s at high (Err e) = Unit
RangedRuns s at high (Ok (v, p)) = (at < p) × (p < length s) × (v < high)

abbrev pub HeaderRuns : List ℕ → Result (ℕ × ℕ) Misread → Type 0
HeaderRuns s (Err e) = Unit
HeaderRuns s (Ok (v, p)) = p ≤ length s

abbrev pub SpelledRuns : List ℕ → ℕ → Result (Word × ℕ) ℕ → Type 0
SpelledRuns s at (Err p) = Unit
SpelledRuns s at (Ok (w, p)) = (at ≤ p) × (p ≤ length s)

abbrev pub OpeningRuns : List ℕ → ℕ → ℕ → Result Opening Misread → Type 0
OpeningRuns s at earlier (Err e) = Unit
OpeningRuns s at earlier (Ok (Leaf k x p)) = (at ≤ p) × (p ≤ length s)
OpeningRuns s at earlier (Ok (Inner op p)) = (at ≤ p) × (p ≤ length s)
OpeningRuns s at earlier (Ok (Line k p)) = (at ≤ p) × (p < length s) × (k < earlier)

abbrev pub StepRuns : List ℕ → ℕ → Result Formed Misread → Type 0
StepRuns s at (Err e) = Unit
StepRuns s at (Ok d) = (at < d.past) × (d.past ≤ length s)

-- what the form reader needs of what it is lent
pub record Fit (words lines : List ℕ) (g : Limits) : Type 0 where
  pub enough : words_for g.room ≤ length words
  pub few : g.room ≤ max_nodes
  pub known : g.earlier ≤ length lines

-- the answer r and the words v are those that the definition gives
abbrev pub StepIs : List ℕ → ℕ → Result Formed Misread → List ℕ → Stepped → Type 0
StepIs s at r v d = (r ≡ d.step) × (v ≡ d.words) × StepRuns s at r

abbrev pub ReadIs : Result Circuit Misread → List ℕ → ReadOut → Type 0
ReadIs r v d = (reading_of r ≡ d.answer) × (v ≡ d.words)
