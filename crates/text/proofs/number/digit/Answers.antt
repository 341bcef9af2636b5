-- `text::number::digit` meets its contract.
use Rattle.std.proofs.Common.{◌≡◌, ◌≤◌, ◌<◌, ◌-◌, ℕ, List, sym, arith}
use borrow.Author.Tests.{lt-ltb, le-ltb}
use Rattle.text.specs.Read.{byte_at, digit_at}
use Rattle.text.proofs.Laws.{inside}
use Rattle.text.proofs.number.digit.Goals as goal

module _ (s : List ℕ) (at b : ℕ) (e : b ≡ byte_at s at) where
  below : b < 48 → digit_at s at ≡ 10
  unfolding digit_at
  below h = rw (← e, lt-ltb b 48 h)

  above : 57 < b → digit_at s at ≡ 10
  unfolding digit_at
  above h = rw (← e, le-ltb b 48 (omega arith), lt-ltb 57 b h)

  value : 48 ≤ b → b ≤ 57 → digit_at s at ≡ b - 48
  unfolding digit_at
  value l h = rw (← e, le-ltb b 48 l, le-ltb 57 b h)

pub returns-in-48-to-57 : goal.returns-in-48-to-57
returns-in-48-to-57 c =
    let l = inside c.args.s.now c.args.at (omega (arith, sym c.byte_at.ensures)) in
    ((value _ _ _ c.byte_at.ensures (omega arith) (omega arith), omega arith), l)

pub returns-in_default : goal.returns-in_default
returns-in_default c = (below _ _ _ c.byte_at.ensures (omega arith), tt)

pub returns-in_default-2 : goal.returns-in_default-2
returns-in_default-2 c = (above _ _ _ c.byte_at.ensures (omega arith), tt)
