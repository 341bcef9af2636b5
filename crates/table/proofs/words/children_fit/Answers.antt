use Prim.Native.Nat.{ℕ}
use mathlib.Core.Path.{◌≡◌, refl, sym, subst, ◌∙◌}
use mathlib.Core.Bool.{true, false}
use native.Mathlib.Omega.{arith}
use native.Mathlib.Numerals.{add-one}
use Rattle.masks.specs.Numbers.{every}
use Rattle.masks.proofs.Numbers.{every-fails}
use Rattle.table.specs.Layout.{max_children}
use Rattle.table.specs.Words.{children_fit}
use Rattle.table.proofs.words.children_fit.Invariants.{place_fits}
use Rattle.table.proofs.words.children_fit.Goals as goal

pub loop-k-init : goal.loop-k-init
unfolding every
loop-k-init c = (omega arith, refl)

pub returns-then-not-word_fits : goal.returns-then-not-word_fits
unfolding children_fit
returns-then-not-word_fits c =
    let call = c.before in
    let l = call.before.before in
    let a = l.before.before.before.args in
    let fails : place_fits a.parent a.children.count a.children.nodes l.loop-k.k ≡ false =
    sym call.word_fits.ensures ∙ c.if-not-word_fits.true in
    sym (every-fails max_children (place_fits a.parent a.children.count a.children.nodes) l.loop-k.k (omega arith) fails)

pub loop-k-preserved : goal.loop-k-preserved
unfolding every
loop-k-preserved c =
    let call = c.before in
    let l = call.before.before in
    let a = l.before.before.before.args in
    let fits : place_fits a.parent a.children.count a.children.nodes l.loop-k.k ≡ true =
    sym call.word_fits.ensures ∙ c.if-not-word_fits.false in
    (omega arith, rw (add-one l.loop-k.k, fits, l.loop-k.invariant.1))

pub returns : goal.returns
unfolding children_fit
returns c =
    let l = c.before in
    let a = l.before.before.before.args in
    let whole : l.loop-k.k ≡ max_children = omega arith in
    sym (subst (λ (k : ℕ). every k (place_fits a.parent a.children.count a.children.nodes) ≡ true) whole l.loop-k.invariant.1)
