-- `queries::reduce` meets its contract.
use mathlib.Core.Path.{◌≡◌, sym, ap, subst, ◌∙◌}
use lib.Dec.{T}
use Rattle.table.specs.Outcome.{answered, refused}
use Rattle.table.proofs.Outcomes.{goes_on, test-passed, test-failed}
use Rattle.terms.specs.Prime.{assignment_term, reduce}
use Rattle.terms.specs.Term.{is_term}
use Rattle.terms.specs.declared.Term.{Term}
use Rattle.terms.proofs.Struck.{assignment-IsTerm}
use Rattle.passes.proofs.ModelPass.{accepted-readable}
use Rattle.checks.proofs.Arguments.{assignment-e}
use Rattle.checks.proofs.Refusals.{refusal-handed}
use Rattle.queries.specs.Queries.{circuit, reduction}
use Rattle.queries.proofs.Accepted.{accepted-narrow}
use Rattle.queries.proofs.reduce.Goals as goal

pub value-requires : goal.value-requires
value-requires c =
    let e = goes_on c.check_assignment.ensures c.in_ok-check_assignment.was in accepted-readable _ _ _ (assignment-e _ _ _ _ e).0

pub returns-then-not-value : goal.returns-then-not-value
unfolding reduction
returns-then-not-value c =
    let e = goes_on c.check_assignment.ensures c.in_ok-check_assignment.was in
    test-failed e (answered (reduce c.args.variables (circuit c.args.nodes c.args.words.now)
    (assignment_term c.args.assignment c.args.variables) c.args.variables)) (refused 33 0)
    (sym c.value.ensures ∙ c.if-not-value.true)

pub term_of-all-requires : goal.term_of-all-requires
term_of-all-requires c =
    let e = goes_on c.check_assignment.ensures c.in_ok-check_assignment.was in
    accepted-narrow _ _ _ (assignment-e _ _ _ _ e).0

pub reduced-requires : goal.reduced-requires
reduced-requires c =
    let e = goes_on c.check_assignment.ensures c.in_ok-check_assignment.was in (
      (assignment-e _ _ _ _ e).0,
      subst (λ (t : Term). T (is_term c.args.variables t)) (sym c.term_of-all.ensures)
          (assignment-IsTerm c.args.variables c.args.assignment),
    )

pub returns-in_err-check_assignment : goal.returns-in_err-check_assignment
unfolding reduction
returns-in_err-check_assignment c = refusal-handed c.check_assignment.ensures c.in_err-check_assignment.was _ c.from_residual.ensures _

pub returns : goal.returns
unfolding reduction
returns c =
    let e = goes_on c.check_assignment.ensures c.in_ok-check_assignment.was in
    let r : c.reduced.result ≡ (reduce c.args.variables (circuit c.args.nodes c.args.words.now)
    (assignment_term c.args.assignment c.args.variables) c.args.variables) =
    c.reduced.ensures
    ∙ ap (λ (t : Term). reduce c.args.variables (circuit c.args.nodes c.args.words.now) t c.args.variables)
    c.term_of-all.ensures in
    ap answered r
    ∙ test-passed e (answered (reduce c.args.variables (circuit c.args.nodes c.args.words.now)
    (assignment_term c.args.assignment c.args.variables) c.args.variables)) (refused 33 0)
    (sym c.value.ensures ∙ c.if-not-value.false)
