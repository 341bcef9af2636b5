use Prim.Native.Nat.{ℕ, ◌+◌, ◌<◌, ◌≤◌}
use mathlib.Core.Path.{◌≡◌, refl, sym, ap, subst, ◌∙◌}
use mathlib.Core.Bool.{Bool, true, false, ◌||◌, cond}
use mathlib.Core.List.{List}
use native.Mathlib.Omega.{arith}
use lib.ListN.{length, drop}
use Rattle.terms.specs.Lists.{any}
use Rattle.lists.specs.List.{terms_in}
use Rattle.terms.specs.declared.Term.{Term}
use Rattle.lists.specs.Entries.{term_at}
use Rattle.lists.specs.declared.list.TermList.{TermList}
use Rattle.lists.specs.Scans.{short, shorter_join, narrowed, Found}
use Rattle.lists.proofs.Parts.{drop-terms, drop-end, any-miss, any-end}
use Rattle.lists.proofs.Search.{common_of, shorter_from, search_is, search-next, search-end, shorter-at}
use Rattle.lists.proofs.find_shorter.Goals as goal
use Rattle.lists.proofs.find_shorter.Goals.{then-is_short+else-loop-l-test, else-is_short}

-- the terms of a list, none of which is over a term from place k on
module _ (y : TermList) (t : Term) where
  none-from : (a : Term) (k : ℕ) → length y.positives.now ≤ k → any (short t a) (drop k (terms_in y)) ≡ any (short t a) (terms_in y)
      → any (short t a) (terms_in y) ≡ false
  none-from a k e i = sym i ∙ any-end y.positives.now y.negatives.now y.same_length k (short t a) e

  common-from : (next : Term) (k : ℕ) → length y.positives.now ≤ k → common_of t next (drop k (terms_in y)) ≡ common_of t t (terms_in y)
      → next ≡ common_of t t (terms_in y)
  common-from next k e i = sym (ap (common_of t next) (drop-end y.positives.now y.negatives.now y.same_length k e)) ∙ i

  -- one term more that is not short
  miss : (a b : Term) (k : ℕ) → k < length y.positives.now → b ≡ term_at y.positives.now y.negatives.now k → short t a b ≡ false
      → any (short t a) (drop k (terms_in y)) ≡ any (short t a) (terms_in y)
      → any (short t a) (drop (k + 1) (terms_in y)) ≡ any (short t a) (terms_in y)
  miss a b k h e f i =
      any-miss y.positives.now y.negatives.now y.same_length k (short t a) h (sym (ap (short t a) e) ∙ f) ∙ i

  common-next : (next b n : Term) (k : ℕ) → k < length y.positives.now → b ≡ term_at y.positives.now y.negatives.now k → n ≡ narrowed t next b
      → common_of t next (drop k (terms_in y)) ≡ common_of t t (terms_in y)
      → common_of t n (drop (k + 1) (terms_in y)) ≡ common_of t t (terms_in y)
  common-next next b n k h e f i =
      ap (λ (z : Term). common_of t z (drop (k + 1) (terms_in y))) (f ∙ ap (narrowed t next) e)
      ∙ sym (ap (common_of t next) (drop-terms y.positives.now y.negatives.now y.same_length k h))
      ∙ i

  -- the search from term k on, by both tests
  next : (x : TermList) (shared a : Term) (k : ℕ) (b d p : Bool) → k < length x.positives.now
      → a ≡ term_at x.positives.now x.negatives.now k → p ≡ short t shared a → p ≡ b → any (short t a) (terms_in y) ≡ d
      → shorter_from t (terms_in y) shared (drop k (terms_in x)) ≡ shorter_join (terms_in x) (terms_in y) t
      → cond b (d || shorter_from t (terms_in y) (common_of t t (terms_in y)) (drop (k + 1) (terms_in x)))
      (shorter_from t (terms_in y) shared (drop (k + 1) (terms_in x)))
      ≡ shorter_join (terms_in x) (terms_in y) t
  next x shared a k b d p h r q g f i =
      sym (search-next x.positives.now x.negatives.now x.same_length k t (terms_in y) shared b d h (sym (ap (short t shared) r) ∙ sym q ∙ g)
      (sym (ap (λ (z : Term). any (short t z) (terms_in y)) r) ∙ f))
      ∙ i

pub pairs-init : goal.pairs-init
pairs-init c = (refl, search_is c.args.t (terms_in c.args.second) (terms_in c.args.first))

pub loop-l-preserved : goal.loop-l-preserved
loop-l-preserved c =
    let x = c.args in
    let i = c.loop-l.invariant in
    let tested : short x.t c.at-a.result c.at-b.result ≡ false = sym c.is_short-in-loop-l.ensures ∙ c.if-is_short-2.false in (
      i.0,
      miss x.second x.t c.at-a.result c.at-b.result c.loop-l.l (omega arith) c.at-b.ensures tested i.1,
      common-next x.second x.t c.loop-l.next c.at-b.result c.narrow-next.result c.loop-l.l (omega arith) c.at-b.ensures c.narrow-next.ensures i.2,
    )

pub pairs-preserved : goal.pairs-preserved
pairs-preserved c =
    let x = c.args in
    let rest : List Term = drop (c.pairs.k + 1) (terms_in x.first) in
    let a : Term = c.at-a.result in
    elim c.if-is_short.branch [
      | then-is_short+else-loop-l-test w ↦
          let i = w.loop-l.invariant in
          let end : length x.second.positives.now ≤ w.loop-l.l = omega (arith, w.loop-l-test.false, w.len-l-end.ensures) in
          let shared = common-from x.second x.t w.loop-l.next w.loop-l.l end i.2 in (
            w.found-is ∙ i.0,
            ap (λ (z : Term). shorter_from x.t (terms_in x.second) z rest) (w.shared-is ∙ shared)
                ∙ next x.second x.t x.first c.pairs.shared a c.pairs.k true false c.is_short.result (omega arith) c.at-a.ensures
                c.is_short.ensures w.if-is_short.true (none-from x.second x.t a w.loop-l.l end i.1) c.pairs.invariant.1,
          )
      | else-is_short w ↦ (
        w.found-is ∙ c.pairs.invariant.0,
        ap (λ (z : Term). shorter_from x.t (terms_in x.second) z rest) w.shared-is
            ∙ next x.second x.t x.first c.pairs.shared a c.pairs.k false (any (short x.t a) (terms_in x.second)) c.is_short.result
            (omega arith) c.at-a.ensures c.is_short.ensures w.if-is_short.false refl c.pairs.invariant.1,
      )
    ]

pub returns-after-pairs : goal.returns-after-pairs
returns-after-pairs c =
    let x = c.args in
    subst (Found x.first x.second x.t) (sym c.pairs.invariant.0)
    (sym c.pairs.invariant.1
    ∙ search-end x.first.positives.now x.first.negatives.now x.first.same_length c.pairs.k x.t (terms_in x.second) c.pairs.shared (omega arith))

pub returns-then-is_short-2 : goal.returns-then-is_short-2
returns-then-is_short-2 c =
    let x = c.args in
    let a : Term = c.at-a.result in
    shorter-at x.first x.second c.pairs.k c.loop-l.l x.t c.pairs.shared a (omega arith) (omega arith)
    c.at-a.ensures
    (sym c.is_short.ensures ∙ c.if-is_short.true)
    (sym (ap (short x.t a) c.at-b.ensures) ∙ sym c.is_short-in-loop-l.ensures ∙ c.if-is_short-2.true)
