-- `partial::evaluate_partial` meets its contract.
use Prim.Native.Nat.{ℕ, ◌≤◌}
use mathlib.Core.Path.{◌≡◌, sym, ap, subst, ◌∙◌}
use mathlib.Core.List.{List}
use native.Mathlib.Nat.{le_refl}
use native.Mathlib.Omega.{arith}
use lib.Dec.{T}
use borrow.Author.Rules.{rules}
use Rattle.std.specs.Prelude.{Ok, Err}
use Rattle.table.specs.Outcome.{accepted, after, Outcome, answered}
use Rattle.table.proofs.Outcomes.{refusal-stands, goes_on, after-accepted}
use Rattle.terms.specs.Term.{is_term}
use Rattle.terms.specs.declared.Term.{Term}
use Rattle.terms.proofs.Terms.{is_term-e, is_term-i}
use Rattle.measurements.specs.Answers.{measured_outcome}
use Rattle.measurements.specs.List.{measurements_in}
use Rattle.measurements.specs.Measurement.{entries, measured_term, check_measurements, Measurements}
use Rattle.measurements.proofs.Literals.{measured-IsTerm}
use Rattle.measurements.proofs.Right.{known-passed, wrong-stands, passed-right}
use Rattle.checks.proofs.Arguments.{term-e}
use Rattle.queries.specs.Queries.{circuit}
use Rattle.queries.proofs.Accepted.{accepted-narrow}
use Rattle.partial.specs.Answers.{partial_outcome}
use Rattle.partial.specs.declared.PartialRefusal.{PartialRefusal}
use Rattle.checks.proofs.Refusals.{handed}
use Rattle.partial.specs.Partial.{judgement, partial_evaluation}
use Rattle.partial.proofs.evaluate_partial.Goals as goal

-- what the measurements add to a term over V variables leaves it one
over : (V : ℕ) (t : Term) (m : Measurements) {u : Term} → T (is_term V t)
    → (check_measurements V t m ≡ accepted) × (measured_term t m (entries m) ≡ u) → T (is_term V u)
over V t m given known =
    subst (λ (v : Term). T (is_term V v)) known.1
    (is_term-i V (measured_term t m (entries m))
    (measured-IsTerm t m V (entries m) (passed-right V t m known.0) (is_term-e V t given) (entries m) (le_refl (entries m))))

-- the answer where no measurement is wrong, and what comes after the term's check
abbrev last : ℕ → ℕ → List ℕ → Term → Measurements → Outcome (ℕ × (ℕ × ℕ))
last V n w t m = answered (judgement V (circuit n w) (measured_term t m (entries m)))

abbrev rest : ℕ → ℕ → List ℕ → Term → Measurements → Outcome (ℕ × (ℕ × ℕ))
rest V n w t m = after (check_measurements V t m) (last V n w t m)

pub returns-in_err-check_term : goal.returns-in_err-check_term
unfolding partial_evaluation
returns-in_err-check_term c =
    let x = c.args in
    let m = measurements_in x.list in
    ap partial_outcome (handed _ _ c.from_residual.ensures)
    ∙ refusal-stands c.check_term.ensures (rest x.variables x.nodes x.words.now x.t m) c.in_err-check_term.was

pub measure-requires : goal.measure-requires
measure-requires c =
    let x = c.args in
    let passed = goes_on c.check_term.ensures c.in_ok-check_term.was in
    let narrow : x.variables ≤ 40 =
    accepted-narrow x.variables x.nodes x.words.now (term-e x.variables x.nodes x.words.now x.t passed).0 in
    omega arith

pub judge-requires : goal.judge-requires
judge-requires c =
    let x = c.args in
    let m = measurements_in x.list in
    let e = term-e x.variables x.nodes x.words.now x.t (goes_on c.check_term.ensures c.in_ok-check_term.was) in
    let k : c.measure.result ≡ Ok c.in_ok-known.known = search rules in
    let known = known-passed x.variables x.t m c.in_ok-known.known (sym c.measure.ensures ∙ ap measured_outcome k) in
    (e.0, over x.variables x.t m e.1 known)

pub returns-in_err-known : goal.returns-in_err-known
unfolding partial_evaluation
returns-in_err-known c =
    let x = c.args in
    let m = measurements_in x.list in
    let k : (i : ℕ) × (c.measure.result ≡ Err i) × (c.in_err-known.field-0.0 ≡ PartialRefusal.Measurement i) = search rules in
    ap partial_outcome (handed _ _ c.from_residual-in_err-known.ensures)
    ∙ ap (λ (p : PartialRefusal). partial_outcome (Err p)) k.2
    ∙ wrong-stands x.variables x.t m (last x.variables x.nodes x.words.now x.t m) 53 k.0 (sym c.measure.ensures ∙ ap measured_outcome k.1)
    ∙ after-accepted (goes_on c.check_term.ensures c.in_ok-check_term.was) (rest x.variables x.nodes x.words.now x.t m)

pub returns : goal.returns
unfolding partial_evaluation
returns c =
    let x = c.args in
    let m = measurements_in x.list in
    let k : c.measure.result ≡ Ok c.in_ok-known.known = search rules in
    let known = known-passed x.variables x.t m c.in_ok-known.known (sym c.measure.ensures ∙ ap measured_outcome k) in
    ap answered (c.judge.ensures ∙ ap (judgement x.variables (circuit x.nodes x.words.now)) (sym known.1))
    ∙ after-accepted known.0 (last x.variables x.nodes x.words.now x.t m)
    ∙ after-accepted (goes_on c.check_term.ensures c.in_ok-check_term.was) (rest x.variables x.nodes x.words.now x.t m)
