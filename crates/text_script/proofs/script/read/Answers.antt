-- `text_script::script::read` meets its contract.
use Rattle.std.proofs.Common.{◌≡◌, ◌<◌, ℕ, min, ◌∙◌, arith}
use native.Mathlib.Decide.{dec_lt}
use borrow.Author.Tests.{lt-ltb, le-ltb}
use Rattle.text_script.specs.Script.{room_for}
use Rattle.text_script.proofs.Reading.{misfits, reads_all}
use Rattle.text_script.proofs.script.read.Goals as goal

room-is : (l : ℕ) → min l 256 ≡ room_for l
room-is l = by (dec_lt l 256)
  where
    by : Dec (l < 256) → min l 256 ≡ room_for l
    by (yes h) = rw (lt-ltb l 256 h) (omega arith)
    by (no h) = rw (le-ltb l 256 (omega arith)) (omega arith)

pub returns-then-variables-lt1 : goal.returns-then-variables-lt1
returns-then-variables-lt1 c = misfits _ _ _ c.then-variables-lt1.either

pub returns : goal.returns
returns c =
    reads_all _ _ _ _ c.if-variables-lt1.false c.if-variables-gt-MAX_VARIABLES.false _ (c.min.ensures ∙ room-is c.args.records)
    c.read_lines.ensures
