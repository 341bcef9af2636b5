use Prim.Native.Nat.{ℕ, ◌+◌, ◌<◌, ◌≤◌}
use mathlib.Core.Path.{◌≡◌, refl, sym, ap, ap₂, subst, ◌∙◌}
use mathlib.Core.Bool.{Bool}
use mathlib.Core.List.{List}
use native.Mathlib.Omega.{arith}
use lib.Dec.{T}
use lib.ListN.{length, get_or}
use Rattle.steps.specs.Steps.{max_steps, step_of, steps_in}
use Rattle.steps.specs.declared.Step.{Step}
use Rattle.steps.proofs.ColumnLaws.{steps-none}
use Rattle.terms.specs.Completions.{status}
use Rattle.terms.specs.Term.{is_term}
use Rattle.terms.specs.declared.Term.{Term}
use Rattle.terms.proofs.Terms.{is_term-i}
use Rattle.states.specs.Joining.{with_state}
use Rattle.states.specs.declared.State.{State}
use Rattle.queries.specs.Queries.{circuit}
use Rattle.queries.proofs.Accepted.{accepted-narrow}
use Rattle.walk.specs.Known.{known}
use Rattle.walk.specs.Walk.{compatible}
use Rattle.walk.proofs.Compatible.{listed-compatible}
use Rattle.walk.proofs.Entries.{written_none, written-more, written_all}
use Rattle.walk.proofs.Known.{known-IsTerm, known-none, known_more}
use Rattle.walk.proofs.Steps.{step-here, step-inside, variable-inside}
use Rattle.walk.proofs.judge_steps.Goals as goal
use Rattle.walk.proofs.judge_steps.Goals.{In-loop-i, After-with_state-known}

-- the step of a turn
module _ (c : In-loop-i) where
  held : c.loop-i.i < max_steps
  held = step-inside c.args.plan.variables c.args.plan.columns (length c.args.statuses.now) c.loop-i.i
      (omega (arith, c.loop-i-test.true)) c.requires.steps.good

  named : (step_of c.args.plan.columns c.loop-i.i).variable < c.args.plan.variables
  named = variable-inside c.args.plan.variables c.args.plan.columns (length c.args.statuses.now) c.loop-i.i
      (omega (arith, c.loop-i-test.true)) c.requires.steps.good

-- what is known after it
next : (c : After-with_state-known) → c.with_state-known.result ≡ known c.args.plan.variables (steps_in c.args.plan.columns (c.loop-i.i + 1))
next c =
    let x = c.args.plan in
    let l = (goal.at.After-with_state-known c).In-loop-i in
    c.with_state-known.ensures
    ∙ ap₂ (λ (t : Term) (s : State). with_state t (get_or x.columns.variables c.loop-i.i 0) s) c.loop-i.invariant.1 c.act_state.ensures
    ∙ known_more x.variables x.columns c.loop-i.i (held l) (named l)

pub loop-i-init : goal.loop-i-init
loop-i-init c =
    let x = c.args in
    let N : ℕ = x.plan.variables in
    let f : ℕ → Bool = circuit x.plan.nodes x.words.now in (
      omega arith,
      sym (ap (known N) (steps-none x.plan.columns) ∙ known-none N),
      written_none N (status N f) x.plan.columns x.statuses.now,
      written_none N (compatible N f) x.plan.columns x.compatibles.now,
    )

pub bounds-columns-i : goal.bounds-columns-i
bounds-columns-i c = held (goal.at.bounds-columns-i c).In-loop-i

pub bounds-columns-i-in-loop-i : goal.bounds-columns-i-in-loop-i
bounds-columns-i-in-loop-i c = held (goal.at.bounds-columns-i-in-loop-i c).In-loop-i

pub with_state-known-requires : goal.with_state-known-requires
with_state-known-requires c =
    let l = (goal.at.with_state-known-requires c).In-loop-i in
    let x = c.args.plan in
    let narrow : x.variables ≤ 40 = accepted-narrow x.variables x.nodes c.args.words.now c.requires.steps.accepts in
    let v : (step_of x.columns c.loop-i.i).variable ≡ get_or x.columns.variables c.loop-i.i 0 =
    ap (λ (e : Step). e.variable) (step-here x.columns c.loop-i.i (held l)) in
    omega (arith, named l)

pub status_under-requires : goal.status_under-requires
status_under-requires c =
    let d = (goal.at.status_under-requires c).After-with_state-known in
    let N : ℕ = c.args.plan.variables in
    let es : List Step = steps_in c.args.plan.columns (c.loop-i.i + 1) in (
      c.requires.steps.accepts,
      subst (λ (t : Term). T (is_term N t)) (sym (next d)) (is_term-i N (known N es) (known-IsTerm N es)),
    )

pub loop-i-preserved : goal.loop-i-preserved
loop-i-preserved c =
    let d = (goal.at.loop-i-preserved c).After-with_state-known in
    let x = c.args in
    let N : ℕ = x.plan.variables in
    let f : ℕ → Bool = circuit x.plan.nodes x.words.now in
    let i : ℕ = c.loop-i.i in
    let lt : i < length x.statuses.now = omega (arith, c.loop-i-test.true) in
    let lt' : i < length x.compatibles.now = omega (arith, c.loop-i-test.true, c.requires.steps.even) in
    let judged : c.status_under.result ≡ status N f (known N (steps_in x.plan.columns (i + 1))) =
    ◌∙◌ {b = status N f c.with_state-known.result} c.status_under.ensures (ap (status N f) (next d)) in
    let counted = listed-compatible c.requires.weights N f c.requires.terms (next d) c.count_compatible.ensures in (
      omega arith,
      next d,
      written-more N (status N f) x.plan.columns x.statuses.now i c.status_under.result c.loop-i.statuses lt c.loop-i.invariant.2 judged,
      written-more N (compatible N f) x.plan.columns x.compatibles.now i c.count_compatible.result c.loop-i.compatibles lt'
          c.loop-i.invariant.3 counted,
    )

pub returns : goal.returns
returns c =
    let x = c.args in
    let N : ℕ = x.plan.variables in
    let f : ℕ → Bool = circuit x.plan.nodes x.words.now in
    let k : ℕ = length x.statuses.now in
    let e : c.loop-i.i ≡ k = omega (arith, c.loop-i-test.false) in
    record {
      statuses = written_all N (status N f) x.plan.columns x.statuses.now c.loop-i.i k c.loop-i.statuses e refl c.loop-i.invariant.2;
      compatibles =
          written_all N (compatible N f) x.plan.columns x.compatibles.now c.loop-i.i k c.loop-i.compatibles e c.requires.steps.even
          c.loop-i.invariant.3;
    }
