-- `table::words::is_unfit` meets its contract.
use mathlib.Core.Path.{◌≡◌, ap, ◌∙◌}
use mathlib.Core.Bool.{Bool, true, false, ◌&&◌, not}
use Rattle.table.specs.Node.{kind, Kind, constant_kind, literal_kind, decision_kind, conjunction_kind, unknown_kind}
use Rattle.table.specs.Words.{is_known, uses_variable, word_fits, count_fits, well_formed}
use Rattle.table.proofs.Decoding.{fits_by, kind-above}
use Rattle.table.proofs.words.is_unfit.Goals as goal
use Rattle.table.proofs.words.is_unfit.Goals.{After-children_fit-fit}

abbrev Place : Type 0
Place = After-children_fit-fit

-- what the code tests of a kind, with the test of the children
unfit : (p : Place) (k : Kind) → kind p.before.before.args.node.kind ≡ k
    → let a = p.before.before.args in
    not (is_known k && word_fits (uses_variable k) a.variables a.node.variable && count_fits k a.node.children.count
    && p.children_fit-fit.result)
    ≡ not (well_formed a.variables a.parent a.node)
unfit p k e =
    let a = p.before.before.args in
    ap (λ (t : Bool).
    not (is_known k && word_fits (uses_variable k) a.variables a.node.variable && count_fits k a.node.children.count && t))
    p.children_fit-fit.ensures
    ∙ fits_by a.variables a.parent a.node k e

pub returns-in-0 : goal.returns-in-0
returns-in-0 c = unfit c.before (constant_kind false) (ap kind c.in-0.is)

pub returns-in-1 : goal.returns-in-1
returns-in-1 c = unfit c.before (constant_kind true) (ap kind c.in-1.is)

pub returns-in-2 : goal.returns-in-2
returns-in-2 c = unfit c.before (literal_kind true) (ap kind c.in-2.is)

pub returns-in-3 : goal.returns-in-3
returns-in-3 c = unfit c.before (literal_kind false) (ap kind c.in-3.is)

pub returns-in-4 : goal.returns-in-4
returns-in-4 c = unfit c.before decision_kind (ap kind c.in-4.is)

pub returns-in-5 : goal.returns-in-5
returns-in-5 c = unfit c.before conjunction_kind (ap kind c.in-5.is)

pub returns-in-6-to-4294967295 : goal.returns-in-6-to-4294967295
returns-in-6-to-4294967295 c =
    let r = c.in-6-to-4294967295.in-6-to-4294967295-own.rest in
    unfit c.before unknown_kind
    (kind-above c.before.before.before.args.node.kind
    r.0.0.0.0.0.1 r.0.0.0.0.1 r.0.0.0.1 r.0.0.1 r.0.1 r.1)
