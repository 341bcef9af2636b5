-- `weighing::sum_bytes` meets its contract.
use Rattle.weighing.proofs.Sums.{summed-bytes}
use Rattle.weighing.proofs.sum_bytes.Goals as goal

pub returns : goal.returns
returns c =
    let x = c.before.before.before.before.before.before.args in
    cc (summed-bytes x.sums.now x.v)
