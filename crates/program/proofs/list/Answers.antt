-- `program::list` meets its contract.
use Rattle.listing.specs.Listing.{lent}
use Rattle.filtered.specs.Filtered.{filtered_lent}
use Rattle.program.proofs.Limits.{given, enough}
use Rattle.program.proofs.list.Goals as goal

pub returns : goal.returns
returns c =
    let x = c.args in
    let l = c.list.new in
    let g =
    given x.variables x.nodes x.words.now (lent x.positives.now x.negatives.now x.counts.now) c.front.ensures c.front-2.ensures
    c.front-3.ensures {b' = filtered_lent (lent l.positives l.negatives l.counts) l.shown_positives l.shown_negatives} c.list.ensures in
    record {
      result_value = g.0;
      counts_after = g.1;
      counts_value = enough x.positives.now x.negatives.now x.counts.now c.told-positives c.told-negatives c.told-counts;
    }
