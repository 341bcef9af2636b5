-- What the program reads.
use Rattle.std.specs.Prelude.{ℕ, cond, List, ltb, length}
use Rattle.table.specs.Outcome.{Outcome, refused}
use Rattle.text.specs.Read.{read_text}

-- the program's limit on bytes, and the place of its 10: not those of circuit texts
abbrev pub program_bytes : ℕ
program_bytes = 40000

-- the answer to the text s with m words
abbrev pub program_answer : List ℕ → ℕ → Outcome (ℕ × ℕ)
program_answer s m = cond (ltb program_bytes (length s)) (refused 10 program_bytes) (read_text s m).answer
