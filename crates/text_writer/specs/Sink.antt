-- What is written into a sink; bytes past its end are dropped, so that the same code run on an empty sink measures a text.
use Rattle.std.specs.Prelude.{ℕ, ◌+◌, List, Result, ◌≡◌, length}
use Rattle.std.proofs.lemmas.List.Edits.{sets}
use Rattle.text.specs.Write.{WriteOut}
use Rattle.text_writer.specs.Answers.{written_of}
use Rattle.text_writer.specs.declared.fault.WriteFault.{WriteFault}

-- e is d with the bytes xs from place `at` on, and p the place past them
pub record Wrote (d : List ℕ) (at : ℕ) (e : List ℕ) (p : ℕ) (xs : List ℕ) : Type 0 where
  pub sink : e ≡ sets d at xs
  pub place : p ≡ at + length xs

-- the answer r and the sink e are those that the definition gives
abbrev pub WriteIs : Result ℕ WriteFault → List ℕ → WriteOut → Type 0
WriteIs r e d = (written_of r ≡ d.answer) × (e ≡ d.sink)
