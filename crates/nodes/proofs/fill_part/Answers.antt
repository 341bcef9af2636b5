-- `nodes::fill_part` meets its contract.
use Prim.Native.Nat.{ℕ, ◌+◌, ◌-◌}
use mathlib.Core.Path.{◌≡◌, sym, ap, ap₂, subst, ◌∙◌}
use mathlib.Core.Bool.{Bool, true, false}
use mathlib.Core.List.{List, ◌++◌}
use native.Mathlib.Omega.{arith}
use lib.ListN.{take, drop}
use Rattle.terms.specs.declared.Term.{Term}
use Rattle.lists.specs.List.{by_sign, terms_in}
use Rattle.insertion.specs.Filled.{Filled}
use Rattle.nodes.specs.Part.{gate_made, PairGiven, terms_at}
use Rattle.nodes.proofs.Parts.{part_filled, given-lent}
use Rattle.nodes.proofs.fill_part.Goals as goal

pub make_in-requires-clause-given : goal.make_in-requires-clause-given
make_in-requires-clause-given c =
    let x = c.args in
    let low : terms_in c.front.result ≡ terms_at (by_sign x.positives.now x.negatives.now) x.part.low =
    c.front.ensures.terms ∙ c.copy_terms.ensures.copied in
    let high : terms_in c.front-2.result ≡ terms_at (by_sign x.positives.now x.negatives.now) x.part.high =
    c.front-2.ensures.terms ∙ c.copy_terms-2.ensures.copied in
    given-lent x.part.gate c.front.result c.front-2.result (omega (arith, c.front.ensures.size)) (omega (arith, c.front-2.ensures.size))
    (subst (λ (l : List Term). PairGiven x.part.gate l (terms_in c.front-2.result)) (sym low)
    (subst (PairGiven x.part.gate (terms_at (by_sign x.positives.now x.negatives.now) x.part.low)) (sym high) c.requires.given))

pub returns-clause-made : goal.returns-clause-made
returns-clause-made c =
    let x = c.args in
    let at : ℕ = x.part.at in
    let whole : Bool → List ℕ = by_sign x.positives.now x.negatives.now in
    let low : terms_in c.front.result ≡ terms_at whole x.part.low = c.front.ensures.terms ∙ c.copy_terms.ensures.copied in
    let high : terms_in c.front-2.result ≡ terms_at whole x.part.high = c.front-2.ensures.terms ∙ c.copy_terms-2.ensures.copied in
    let size : at + x.part.capacity - at ≡ x.part.capacity = omega arith in
    let part : Bool → List ℕ =
    by_sign (take (at + x.part.capacity - at) (drop at x.positives.now)) (take (at + x.part.capacity - at) (drop at x.negatives.now)) in
    let after : Bool → List ℕ = by_sign c.make_in.new.positives c.make_in.new.negatives in
    let laid : Bool → List ℕ =
    by_sign (take at x.positives.now ++ (c.make_in.new.positives ++ drop (at + x.part.capacity - at) (drop at x.positives.now)))
    (take at x.negatives.now ++ (c.make_in.new.negatives ++ drop (at + x.part.capacity - at) (drop at x.negatives.now))) in
    let laid-is : (b : Bool) → laid b ≡ take at (whole b) ++ (after b ++ drop x.part.capacity (drop at (whole b))) =
    λ b. elim b as (λ b. laid b ≡ take at (whole b) ++ (after b ++ drop x.part.capacity (drop at (whole b)))) [
      | true ↦ ap (λ (k : ℕ). take at (whole true) ++ (after true ++ drop k (drop at (whole true)))) size
      | false ↦ ap (λ (k : ℕ). take at (whole false) ++ (after false ++ drop k (drop at (whole false)))) size
    ] in
    let part-is : (b : Bool) → part b ≡ take x.part.capacity (drop at (whole b)) =
    λ b. elim b as (λ b. part b ≡ take x.part.capacity (drop at (whole b))) [
      | true ↦ ap (λ (k : ℕ). take k (drop at (whole true))) size
      | false ↦ ap (λ (k : ℕ). take k (drop at (whole false))) size
    ] in
    part_filled (gate_made x.part.sign x.part.gate (terms_at whole x.part.low) (terms_at whole x.part.high)) at x.part.capacity whole part
    after laid c.make_in.result (omega arith) part-is laid-is
    (subst (λ (l : List Term). Filled l part after c.make_in.result) (ap₂ (gate_made x.part.sign x.part.gate) low high) c.make_in.ensures)
