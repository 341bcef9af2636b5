use Prim.Native.Nat.{◌<◌}
use mathlib.Core.Path.{◌≡◌, sym, ap₂, subst, ◌∙◌}
use mathlib.Core.Bool.{true}
use mathlib.Core.List.{List, Memᴰ}
use Rattle.terms.specs.Joins.{joins}
use Rattle.terms.specs.Term.{literals, join, inside}
use Rattle.terms.specs.declared.Term.{Term}
use Rattle.lists.specs.List.{terms_in}
use Rattle.lists.specs.Scans.{Found}
use Rattle.settling.proofs.Down.{starts, ends, next-join, next-less, next-inside}
use Rattle.settling.proofs.strike.strike.Goals as goal

pub loop-k-init : goal.loop-k-init
loop-k-init c = (c.requires.fact, starts c.requires.sides_at _)

pub loop-k-smaller : goal.loop-k-smaller
loop-k-smaller c =
    subst (λ (t : Term). literals t < literals c.loop-k.t) (sym (c.join-t.ensures ∙ ap₂ join c.at.ensures c.at-in-Some.ensures))
    (next-less c.requires.sides_at _ c.loop-k.invariant.0 _ _ c.in-Some.ensures)

pub loop-k-preserved : goal.loop-k-preserved
loop-k-preserved c =
    let x = c.args in
    let h = c.requires.sides_at in
    let l = c.loop-k in
    let f = c.in-Some.ensures in
    let all : List Term = joins (terms_in x.a) (terms_in x.b) in
    subst (λ (t : Term). Memᴰ t all × (inside t x.q ≡ true))
    (sym (c.join-t.ensures ∙ ap₂ join c.at.ensures c.at-in-Some.ensures))
    (next-join h _ l.invariant.0 _ _ f, next-inside h _ l.invariant.0 _ _ f _ l.invariant.1)

pub returns : goal.returns
returns c =
    let x = c.args in
    let l = c.loop-k in
    let f = subst (Found x.a x.b l.t) c.in_default.is c.find_shorter.ensures in
    (ends c.requires.sides_at _ l.invariant.0 f, l.invariant.1)
