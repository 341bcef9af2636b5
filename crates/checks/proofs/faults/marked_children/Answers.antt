use mathlib.Core.Bool.{false}
use lib.ListN.{length-replicate}
use Rattle.table.specs.Gate.{child_list}
use Rattle.table.specs.Node.{max_nodes}
use Rattle.passes.proofs.Readable.{read-bounds, reading}
use Rattle.checks.proofs.Rules.{marks-start, marks-next, read-list}
use Rattle.checks.proofs.faults.marked_children.Goals as goal

pub loop-j-init : goal.loop-j-init
loop-j-init c = (length-replicate max_nodes false, marks-start c.args.words.now)

pub mark-requires : goal.mark-requires
mark-requires c = (c.loop-j.invariant.0, read-bounds (reading c.requires c.loop-j-test.true c.decode_at-node.ensures))

pub loop-j-preserved : goal.loop-j-preserved
loop-j-preserved c =
    let read = reading c.requires c.loop-j-test.true c.decode_at-node.ensures in (
      c.mark.ensures.long,
      marks-next c.args.words.now c.loop-j.j (child_list c.decode_at-node.result.children) c.loop-j.marked _ (read-list read)
          c.loop-j.invariant.1 c.mark.ensures,
    )
