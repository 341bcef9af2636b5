use Rattle.queries.proofs.Accepted.{term-start, term-next}
use Rattle.queries.proofs.primes.term_of.Goals as goal

pub loop-k-init : goal.loop-k-init
loop-k-init c = term-start c.args.assignment

pub loop-k-preserved : goal.loop-k-preserved
loop-k-preserved c =
    term-next c.args.assignment c.loop-k.k c.loop-k.t c.extend-t.result c.has_bit.result c.loop-k.invariant
    c.has_bit.ensures c.extend-t.ensures
