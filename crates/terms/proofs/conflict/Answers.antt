-- `terms::conflict` meets its contract.
use Rattle.terms.specs.Term.{conflict}
use Rattle.terms.proofs.conflict.Goals as goal

pub returns : goal.returns
unfolding conflict
returns c = rw (c.before.is_disjoint.ensures, c.is_disjoint-2.ensures)
