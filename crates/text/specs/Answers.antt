-- The answers of the operations on text, by the scope's numbers.
use Rattle.std.specs.Prelude.{ℕ, Result, Ok, Err}
use Rattle.table.specs.Outcome.{Outcome, answered, refused}
use Rattle.text.specs.declared.answer.Circuit.{Circuit}
use Rattle.text.specs.declared.answer.Fault.{Fault}
use Rattle.text.specs.declared.answer.Fault.TheVariants.{Length, Shape, Range, Reference, Depth, Nodes}
use Rattle.text.specs.declared.answer.Formed.{Formed}
use Rattle.text.specs.declared.answer.Misread.{Misread}

abbrev pub fault_number : Fault → ℕ
fault_number Length = 10
fault_number Shape = 11
fault_number Range = 12
fault_number Reference = 13
fault_number Depth = 14
fault_number Nodes = 15

-- a refusal: why, and at which place
abbrev pub misread : {A : Type 0} → Fault → ℕ → Result A Misread
misread f p = Err (record { 0 = f; 1 = p })

-- a form: the place past it, the number of nodes after it, and the node that it means
abbrev pub formed : ℕ → ℕ → ℕ → Result Formed Misread
formed p m a = Ok (record { past = p; nodes = m; node = a })

-- the numbers of variables and of nodes
abbrev pub reading_of : Result Circuit Misread → Outcome (ℕ × ℕ)
reading_of (Ok c) = answered (c.variables, c.nodes)
reading_of (Err e) = refused (fault_number e.0) e.1
