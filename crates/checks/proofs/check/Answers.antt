-- `checks::check` meets its contract.
use mathlib.Core.Path.{sym, ◌∙◌}
use Rattle.table.specs.Words.{first_fault}
use Rattle.table.proofs.Checking.{words-sound}
use Rattle.table.proofs.Outcomes.{goes_on, after-accepted}
use Rattle.circuits.specs.Check.{node_rules}
use Rattle.circuits.proofs.Accepted.{check-after}
use Rattle.checks.proofs.Refusals.{refusal-handed}
use Rattle.checks.proofs.check.Goals as goal

pub returns-in_err-check_words : goal.returns-in_err-check_words
returns-in_err-check_words c =
    refusal-handed c.check_words.ensures c.in_err-check_words.was _ c.from_residual.ensures
    (first_fault c.args.nodes (node_rules c.args.nodes c.args.words.now))
    ∙ sym (check-after c.args.variables c.args.nodes c.args.words.now)

pub check_nodes-requires : goal.check_nodes-requires
check_nodes-requires c =
    (_, words-sound c.args.variables c.args.nodes c.args.words.now (goes_on c.check_words.ensures c.in_ok-check_words.was))

pub returns : goal.returns
returns c =
    c.check_nodes.ensures
    ∙ after-accepted (goes_on c.check_words.ensures c.in_ok-check_words.was) (first_fault c.args.nodes (node_rules c.args.nodes c.args.words.now))
    ∙ sym (check-after c.args.variables c.args.nodes c.args.words.now)
