-- `exclusions::violates` meets its contract. The loop's invariant: of no first variable but those left is a pair in the term.
use Rattle.exclusions.proofs.Folding.{Left}
use Rattle.exclusions.proofs.violates.Given as goal

abbrev pub invariant-loop-rest : goal.invariant-loop-rest
invariant-loop-rest l = Left l.partners l.heads l.t l.rest

abbrev pub decreases-loop-rest : goal.decreases-loop-rest
decreases-loop-rest l = l.rest
