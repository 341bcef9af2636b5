-- Why a script is refused, by the scope's numbers.
use Rattle.std.specs.Prelude.{ℕ}
use Rattle.table.specs.Outcome.{Outcome, refused}
use Rattle.text.specs.declared.answer.Fault.{Fault}
use Rattle.text.specs.declared.answer.Misread.{Misread}
use Rattle.text_script.specs.declared.answer.ScriptFault.{ScriptFault}
use Rattle.text_script.specs.declared.answer.ScriptFault.TheVariants.{Sizes, Shape, Variable}

abbrev pub refusal_of : {A : Type 0} → ScriptFault → Outcome A
refusal_of Sizes = refused 21 0
refusal_of (Shape p) = refused 54 p
refusal_of (Variable p) = refused 55 p

-- a number that is no variable
abbrev pub unfit_as : Fault → ℕ → ScriptFault
unfit_as Fault.Length p = Shape p
unfit_as Fault.Shape p = Shape p
unfit_as Fault.Range p = Variable p
unfit_as Fault.Reference p = Shape p
unfit_as Fault.Depth p = Shape p
unfit_as Fault.Nodes p = Shape p

abbrev pub fault_of : Misread → ScriptFault
fault_of m = unfit_as m.0 m.1
