-- `text::head::match_at` meets its contract: what is left to match from byte i on is the whole match.
use Rattle.std.proofs.Common.{◌≡◌, ◌+◌, ◌≤◌, length, drop}
use Rattle.text.specs.Read.{match_at}
use Rattle.text.proofs.head.match_at.Given as goal

abbrev pub invariant-loop-i : goal.invariant-loop-i
invariant-loop-i l = (l.at + l.i ≤ length l.s) × (match_at l.s l.at l.w ≡ match_at l.s (l.at + l.i) (drop l.i l.w))
