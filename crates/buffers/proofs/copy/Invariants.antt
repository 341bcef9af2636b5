-- `buffers::copy` meets its contract.
-- The loop's invariant: the first j entries are those from `at` on.
use Rattle.std.specs.Prelude.{◌≡◌, take, drop}
use Rattle.buffers.proofs.copy.Given as goal

abbrev pub invariant-loop-j : goal.invariant-loop-j
invariant-loop-j l = take l.j l.to ≡ take l.j (drop l.at l.from)
