-- `text_reader::lines::lines` meets its contract. The invariant: what is left to read from line k on is the whole reading.
use Prim.Native.Nat.{◌-◌, ◌≤◌}
use mathlib.Core.Path.{◌≡◌}
use lib.ListN.{length, replicate}
use Rattle.text.specs.Limits.{max_lines}
use Rattle.text.specs.Read.{lines_at}
use Rattle.text_reader.proofs.lines.lines.Given as goal

abbrev pub invariant-loop-k : goal.invariant-loop-k
invariant-loop-k l =
    (l.at ≤ length l.s) × (length l.words ≡ length l.initial.words) × (length l.known ≡ max_lines)
    × (lines_at max_lines l.s l.variables l.room (replicate max_lines 0) 0 l.start 0 l.initial.words
    ≡ lines_at (max_lines - l.k) l.s l.variables l.room l.known l.k l.at l.n l.words)
