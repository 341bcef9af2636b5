-- The search for a term inside t: where t is not in the list, those that are stand before `end`.
use Prim.Native.Nat.{ℕ, zero, suc, ◌<◌}
use mathlib.Core.Path.{◌≡◌, refl, ap₂, subst}
use mathlib.Core.Bool.{Bool, false, ◌||◌, not}
use mathlib.Core.Logic.{⊎_elim}
use mathlib.Core.List.{List, [], ◌∷◌, Memᴰ}
use native.Mathlib.Omega.{arith}
use lib.Dec.{T, not_T, ltb, ltb→lt, nltb→le}
use lib.ListN.{length}
use Rattle.std.specs.Prelude.{Option, Some, None, Ok, Err}
use Rattle.masks.proofs.Tests.{is_true, is_false, along, decide}
use Rattle.terms.specs.Lists.{any}
use Rattle.terms.specs.Term.{inside, terms_of}
use Rattle.terms.specs.declared.Term.{Term}
use Rattle.terms.proofs.Listed.{before-total}
use Rattle.terms.proofs.Terms.{inside-refl, inside-i}
use Rattle.lists.specs.Entries.{term_at}
use Rattle.lists.specs.List.{nth, terms_in}
use Rattle.lists.specs.declared.list.TermList.{TermList}
use Rattle.lists.proofs.Parts.{length-terms, term_in}
use Rattle.insertion.specs.Filled.{Level, Placed}
use Rattle.insertion.proofs.Inserted.{entry-terms, absent}
use Rattle.subsumption.specs.Ahead.{ahead, OverSome, Searchable, FoundBefore, FoundInside}
use Rattle.subsumption.proofs.Ahead.{inside-ahead}

-- a test that fails at every place fails in the list
none_passes : (p : Term → Bool) (ps ns : List ℕ) → ((k : ℕ) → k < length ps → p (term_at ps ns k) ≡ false)
    → any p (terms_of ps ns) ≡ false
none_passes p [] ns h = refl
none_passes p (m ∷ ps) [] h = refl
none_passes p (m ∷ ps) (n ∷ ns) h =
    ap₂ ◌||◌ (h zero (omega arith)) (none_passes p ps ns (λ k l. h (suc k) (omega arith)))

module _ (l : TermList) (end : ℕ) (t : Term) (q : Searchable l end t) where
  abbrev o : OverSome t (terms_in l)
  o = q.terms

  -- where t is found, t itself stands
  pub found-itself : (k : ℕ) → Placed t (terms_in l) (Ok k) → FoundInside l t (Some k)
  found-itself k p =
      let u : Term = nth l k in
      let below : k < length l.positives.now = omega (arith, p.0, length-terms l.positives.now l.negatives.now l.same_length) in
      let level : Level t u = subst (Level t) (entry-terms l.positives.now l.negatives.now k l.same_length below) p.1 in
      let same : t ≡ u =
      before-total [] o.over t u o.is_term (o.terms u (term_in l.positives.now l.negatives.now k l.same_length below)) (along level.0) (along level.1) in
      (below, is_true (inside u t) (subst (λ (z : Term). T (inside z t)) same (inside-i o.over t t (inside-refl t))))

  module _ (j : ℕ) (p : Placed t (terms_in l) (Err j)) where
    -- where t is not in the list, a term that is not ahead of t is not inside it
    missed : (k : ℕ) → k < length l.positives.now → ahead (nth l k) t ≡ false → inside (nth l k) t ≡ false
    missed k below a =
        let u : Term = nth l k in
        let m : Memᴰ u (terms_in l) = term_in l.positives.now l.negatives.now k l.same_length below in
        let other : u ≡ t → ⊥ =
        λ d. absent t (terms_in l) j q.rising p (subst (λ (z : Term). Memᴰ z (terms_in l)) d m) in
        is_false (inside u t)
        (not_T (inside u t) (λ s. along a (inside-ahead o.over o.wide u t (o.terms u m) o.is_term s other)))

    -- so a search before `end` is enough
    pub found_before : (f : Option ℕ) → FoundBefore l end t f → FoundInside l t f
    found_before (Some k) h = (omega (arith, h.0, q.within), h.1)
    found_before None h =
        none_passes (λ u. inside u t) l.positives.now l.negatives.now
        (λ k below.
        ⊎_elim (λ (b : T (ltb k end)). h k (ltb→lt k end b))
        (λ (b : T (not (ltb k end))). missed k below (q.none k (nltb→le k end b) below))
        (decide (ltb k end)))
