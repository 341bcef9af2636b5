-- `hints::mark` meets its contract.
use Rattle.hints.proofs.mark.Given as goal

abbrev pub decreases-loop-v : goal.decreases-loop-v
decreases-loop-v l = l.rest
