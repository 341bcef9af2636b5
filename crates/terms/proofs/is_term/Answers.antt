-- `terms::is_term` meets its contract.
use native.Mathlib.Omega.{arith}
use Rattle.terms.proofs.Leaves.{is_term-test}
use Rattle.terms.proofs.is_term.Goals as goal

pub returns : goal.returns
returns c = rw (c.before.before.is_within.ensures, c.before.is_within-2.ensures, c.is_disjoint.ensures)
    (is_term-test c.before.before.before.args.n c.before.before.before.args.t (omega arith))
