use Prim.Native.Nat.{ℕ, ◌+◌}
use mathlib.Core.Path.{refl, ◌≡◌, sym, ap, ◌∙◌}
use mathlib.Core.Bool.{Bool, true, false}
use mathlib.Core.List.{List, ◌∷◌}
use native.Mathlib.Omega.{arith}
use lib.ListN.{length, drop, set, length-set}
use Rattle.masks.proofs.Tests.{was-true, was-false, either}
use Rattle.terms.specs.Term.{mask}
use Rattle.terms.specs.declared.Term.{Term}
use Rattle.lists.proofs.Parts.{drop-terms, drop-end}
use Rattle.lists.specs.List.{slots, terms_in}
use Rattle.exclusions.specs.Exclusions.{respects, Exclusions}
use Rattle.exclusions.specs.Partners.{Folded}
use Rattle.exclusions.proofs.Filtering.{filtering-start, filtering-end, filtering-skip, filtering-keep}
use Rattle.exclusions.proofs.filter.Goals as goal
use Rattle.exclusions.proofs.filter.Goals.{then-not-violates, else-not-violates}
use Rattle.exclusions.proofs.filter.Goals.{After-violates}

pub loop-k-init : goal.loop-k-init
loop-k-init c =
    let x = c.args in (
      omega arith,
      λ e f.
          filtering-start e (terms_in x.list) (length x.kept.now.positives.now) (slots x.kept.now) c.requires.zeros,
      (refl, refl, refl),
    )

-- the term of a turn, which is the first of what is left
module _ (c : After-violates) where
  abbrev list : List Term
  list = terms_in c.args.list

  abbrev own : Term
  own = c.at-t.result

  first : drop c.loop-k.k list ≡ own ∷ drop (c.loop-k.k + 1) list
  first =
      drop-terms c.args.list.positives.now c.args.list.negatives.now c.args.list.same_length c.loop-k.k (omega arith)
      ∙ ap (λ (t : Term). t ∷ drop (c.loop-k.k + 1) list) (sym c.at-t.ensures)

  -- what the test says
  module _ (e : Exclusions) (f : Folded e (length e.firsts) c.args.partners.now c.args.heads) where
    passes : c.violates.result ≡ false → respects e own ≡ true
    passes h = was-true (respects e own) (sym (c.violates.ensures e f) ∙ h)

    fails : c.violates.result ≡ true → respects e own ≡ false
    fails h = was-false (respects e own) (sym (c.violates.ensures e f) ∙ h)

pub loop-k-preserved : goal.loop-k-preserved
loop-k-preserved c =
    let d = (goal.at.loop-k-preserved c).After-violates in
    let l = c.loop-k in
    let s : Bool → List ℕ = slots l.kept in
    let s' : Bool → List ℕ = slots c.if-not-violates.kept in
    elim c.if-not-violates.branch [
      | then-not-violates w ↦ (
        omega arith,
        λ e f.
            filtering-keep e (list d) (length c.args.kept.now.positives.now) s l.count (own d) (first d) (l.invariant.1 e f) s'
            c.if-not-violates.count (passes d e f w.if-not-violates.true) (omega arith)
            (either (λ b. s' b ≡ set (s b) l.count (mask (own d) b)) true (ap (λ z. z.positives.now) w.kept-is) (ap (λ z. z.negatives.now) w.kept-is)) w.count-is,
        (
          ap (λ z. z.positives.ghost_name) w.kept-is ∙ l.invariant.2.0,
          ap (λ z. z.negatives.ghost_name) w.kept-is ∙ l.invariant.2.1,
          ap (λ z. length z.positives.now) w.kept-is ∙ length-set _ _ _ ∙ l.invariant.2.2,
        ),
      )
      | else-not-violates w ↦ (
        omega arith,
        λ e f.
            filtering-skip e (list d) (length c.args.kept.now.positives.now) s l.count (own d) (first d) (l.invariant.1 e f) s'
            c.if-not-violates.count (fails d e f w.if-not-violates.false)
            (either (λ b. s' b ≡ s b) true (ap (λ z. z.positives.now) w.kept-is) (ap (λ z. z.negatives.now) w.kept-is)) w.count-is,
        (
          ap (λ z. z.positives.ghost_name) w.kept-is ∙ l.invariant.2.0,
          ap (λ z. z.negatives.ghost_name) w.kept-is ∙ l.invariant.2.1,
          ap (λ z. length z.positives.now) w.kept-is ∙ l.invariant.2.2,
        ),
      )
    ]

pub returns-clause-filtered : goal.returns-clause-filtered
returns-clause-filtered c e f =
    let l = c.loop-k in
    let x = c.args in
    filtering-end e (terms_in x.list) (length x.kept.now.positives.now) (slots l.kept) l.count
    (drop-end x.list.positives.now x.list.negatives.now x.list.same_length l.k (omega arith)) (l.invariant.1 e f)
