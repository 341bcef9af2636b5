-- `table::gates::gate_of` meets its contract.
use mathlib.Core.Path.{ap}
use mathlib.Core.Bool.{true, false}
use Rattle.table.specs.Node.{kind, constant_kind, literal_kind, decision_kind, conjunction_kind, unknown_kind}
use Rattle.table.proofs.Decoding.{gate-by, kind-above}
use Rattle.table.proofs.gates.gate_of.Goals as goal

pub returns-in-0 : goal.returns-in-0
returns-in-0 c =
    let x = c.before.args in gate-by x.kind x.variable x.low x.high (constant_kind false) (ap kind c.in-0.is)

pub returns-in-1 : goal.returns-in-1
returns-in-1 c =
    let x = c.before.args in gate-by x.kind x.variable x.low x.high (constant_kind true) (ap kind c.in-1.is)

pub returns-in-2 : goal.returns-in-2
returns-in-2 c =
    let x = c.before.args in gate-by x.kind x.variable x.low x.high (literal_kind true) (ap kind c.in-2.is)

pub returns-in-3 : goal.returns-in-3
returns-in-3 c =
    let x = c.before.args in gate-by x.kind x.variable x.low x.high (literal_kind false) (ap kind c.in-3.is)

pub returns-in-4 : goal.returns-in-4
returns-in-4 c =
    let x = c.before.args in gate-by x.kind x.variable x.low x.high decision_kind (ap kind c.in-4.is)

pub returns-in-5 : goal.returns-in-5
returns-in-5 c =
    let x = c.before.args in gate-by x.kind x.variable x.low x.high conjunction_kind (ap kind c.in-5.is)

pub returns-in-6-to-4294967295 : goal.returns-in-6-to-4294967295
returns-in-6-to-4294967295 c =
    let x = c.before.args in
    let r = c.in-6-to-4294967295.in-6-to-4294967295-own.rest in
    gate-by x.kind x.variable x.low x.high unknown_kind
    (kind-above x.kind r.0.0.0.0.0.1 r.0.0.0.0.1 r.0.0.0.1 r.0.0.1 r.0.1 r.1)
