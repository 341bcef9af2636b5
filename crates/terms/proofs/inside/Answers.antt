-- `terms::inside` meets its contract.
use mathlib.Core.Path.{◌≡◌, sym, ap, ◌∙◌}
use mathlib.Core.Bool.{Bool, ◌&&◌}
use Rattle.masks.specs.Mask.{subset}
use Rattle.terms.specs.Term.{inside}
use Rattle.terms.specs.declared.Term.{Term}
use Rattle.terms.proofs.inside.Goals as goal

-- what the definition gives, by what the first test said
told : (t u : Term) {r : Bool} (q : Bool) → r ≡ subset t.positive u.positive → r ≡ q
    → inside t u ≡ (q && subset t.negative u.negative)
unfolding inside
told t u q d e = ap (λ (r : Bool). r && subset t.negative u.negative) (sym d ∙ e)

pub returns-then-is_subset : goal.returns-then-is_subset
returns-then-is_subset c =
    c.is_subset-then-is_subset.ensures ∙ sym (told c.args.t c.args.u _ c.is_subset.ensures c.if-is_subset.true)

pub returns-else-is_subset : goal.returns-else-is_subset
returns-else-is_subset c = c.if-is_subset.false ∙ sym (told c.args.t c.args.u _ c.is_subset.ensures c.if-is_subset.false)
