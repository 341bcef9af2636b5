use Prim.Native.Nat.{ℕ, ◌<◌}
use mathlib.Core.Path.{◌≡◌, ap, ◌∙◌}
use mathlib.Core.Bool.{Bool, true, ◌||◌}
use native.Mathlib.Nat.{lt_of_lt_of_le}
use native.Mathlib.Omega.{arith}
use lib.Dec.{leb}
use lib.Signed.{lt_z}
use borrow.Author.Rules.{rules}
use Rattle.std.specs.Prelude.{Some}
use Rattle.masks.specs.Mask.{bit, put}
use Rattle.masks.proofs.Least.{search-start, search-next, first-found}
use Rattle.terms.specs.Term.{variables}
use Rattle.measurements.specs.List.{measurements_in}
use Rattle.measurements.specs.Measurement.{complete, entries, wrong}
use Rattle.measurements.specs.declared.list.Measurement.{Measurement}
use Rattle.measurements.proofs.Walk.{complete-le, seen_start, seen_next, wrong-test, first-incomplete, first-end}
use Rattle.measurements.proofs.first_wrong.Goals as goal

-- what the code tests of a measurement
abbrev test : ℕ → ℕ → Measurement → Bool
test N s r = lt_z r.high r.low || leb N r.variable || bit s r.variable

pub loop-i-init : goal.loop-i-init
loop-i-init c =
    let m = measurements_in c.args.list in
    let v = variables c.args.t in
    (c.variables-seen.ensures ∙ seen_start m v, search-start (wrong c.args.variables v m))

pub returns-then-is_wrong : goal.returns-then-is_wrong
returns-then-is_wrong c =
    let m = measurements_in c.args.list in
    let v = variables c.args.t in
    let i = c.loop-i.i in
    let here : i < complete m = search rules in
    first-found (wrong c.args.variables v m) (entries m) i (lt_of_lt_of_le here (complete-le m)) c.loop-i.invariant.1
    (wrong-test m c.args.variables v i here c.loop-i.invariant.0
    (c.is_wrong.ensures ∙ ap (test c.args.variables c.loop-i.seen) c.at-m.ensures)) c.if-is_wrong.true

pub loop-i-preserved : goal.loop-i-preserved
loop-i-preserved c =
    let m = measurements_in c.args.list in
    let v = variables c.args.t in
    let i = c.loop-i.i in
    let here : i < complete m = search rules in (
      seen_next m v i c.loop-i.invariant.0
          (c.with_bit-seen.ensures ∙ ap (λ (r : Measurement). put c.loop-i.seen r.variable true) c.at-m.ensures),
      search-next (wrong c.args.variables v m) i c.loop-i.invariant.1
          (wrong-test m c.args.variables v i here c.loop-i.invariant.0
          (c.is_wrong.ensures ∙ ap (test c.args.variables c.loop-i.seen) c.at-m.ensures)) c.if-is_wrong.false,
    )

pub returns-then-complete-entries : goal.returns-then-complete-entries
returns-then-complete-entries c =
    let m = measurements_in c.args.list in
    let e : c.complete-complete.result ≡ c.loop-i.i = omega arith in
    ap Some e ∙ first-incomplete m c.args.variables (variables c.args.t) c.loop-i.i (omega arith) (omega arith) c.loop-i.invariant.1

pub returns : goal.returns
returns c =
    first-end (measurements_in c.args.list) c.args.variables (variables c.args.t) c.loop-i.i (omega arith) (omega arith)
    c.loop-i.invariant.1
