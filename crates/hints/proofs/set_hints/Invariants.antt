-- `hints::set_hints` meets its contract.
use Rattle.hints.proofs.set_hints.Given as goal

abbrev pub decreases-loop-v : goal.decreases-loop-v
decreases-loop-v l = l.rest
