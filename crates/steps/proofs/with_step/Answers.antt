-- `steps::with_step` meets its contract: each arm returns what the test chooses.
use borrow.Author.Tests.{le-ltb, lt-ltb}
use Rattle.steps.proofs.with_step.Goals as goal

pub returns-then-i-lt256 : goal.returns-then-i-lt256
returns-then-i-lt256 c = simp (lt-ltb _ _ c.if-i-lt256.true)

pub returns-else-i-lt256 : goal.returns-else-i-lt256
returns-else-i-lt256 c = simp (le-ltb _ _ c.if-i-lt256.false)
