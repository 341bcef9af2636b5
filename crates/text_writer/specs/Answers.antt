-- The answer of the writing, by the scope's numbers.
use Rattle.std.specs.Prelude.{ℕ, Result, Ok, Err}
use Rattle.table.specs.Outcome.{refused_by, Outcome, answered, refused}
use Rattle.text_writer.specs.declared.fault.WriteFault.{WriteFault}
use Rattle.text_writer.specs.declared.fault.WriteFault.TheVariants.{Table, Sink}

-- the length
abbrev pub written_of : Result ℕ WriteFault → Outcome ℕ
written_of (Ok n) = answered n
written_of (Err (Table why)) = refused_by why
written_of (Err (Sink n)) = refused 16 n
