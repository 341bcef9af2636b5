-- Terms ahead of t: each term inside t is one, but t itself; and in a list in order there is none after one that is not. Only
-- `inside-ahead` and `ahead-back` know what the order's key begins with.
use Prim.Native.Nat.{ℕ, ◌≤◌}
use mathlib.Core.Path.{◌≡◌, sym, ap, ◌∙◌}
use mathlib.Core.Bool.{false, not}
use mathlib.Core.Logic.{⊎_elim, ◌≢◌}
use mathlib.Core.List.{[]}
use native.Mathlib.Nat.{le_of_eq, le_of_lt}
use native.Mathlib.Omega.{arith}
use lib.Dec.{T, not_T, ltb, ltb→lt, lt→ltb, nltb→le}
use Rattle.masks.specs.Mask.{width}
use Rattle.masks.proofs.Tests.{decide, is_false, along, same?}
use Rattle.terms.specs.Lists.{Rising}
use Rattle.terms.specs.Order.{before}
use Rattle.terms.specs.Term.{literals, inside, IsTerm}
use Rattle.terms.specs.declared.Term.{Term}
use Rattle.terms.proofs.Built.{as_long}
use Rattle.terms.proofs.Leaves.{before-literals}
use Rattle.terms.proofs.Terms.{Inside, inside-e, term-ext}
use Rattle.lists.specs.List.{nth, terms_in}
use Rattle.lists.specs.declared.list.TermList.{TermList}
use Rattle.lists.proofs.Parts.{rising-at}
use Rattle.subsumption.specs.Ahead.{ahead, NoneAhead}

-- a term inside t that is not t is ahead of t
pub inside-ahead : (N : ℕ) → N ≤ width → (u t : Term) → IsTerm N u → IsTerm N t → T (inside u t) → (u ≡ t → ⊥) → T (ahead u t)
unfolding ahead
inside-ahead N wide u t h k s other =
    let i : Inside u t = inside-e N wide u t h s in
    ⊎_elim (λ (l : T (ltb (literals u) (literals t))). l)
    (λ (l : T (not (ltb (literals u) (literals t)))).
    absurd (other (term-ext N u t h k i (as_long N wide u t k i (nltb→le (literals u) (literals t) l)))))
    (decide (ltb (literals u) (literals t)))

-- what comes before a term ahead of t is ahead of t
ahead-back : (u v t : Term) → T (before [] u v) → T (ahead v t) → T (ahead u t)
unfolding ahead
ahead-back u v t b a =
    let le : literals u ≤ literals v =
    ⊎_elim (λ (e : literals u ≡ literals v). le_of_eq e)
    (λ (n : literals u ≢ literals v).
    le_of_lt (ltb→lt (literals u) (literals v) (along (before-literals u v n) b)))
    (same? (literals u) (literals v)) in
    lt→ltb (literals u) (literals t) (omega (arith, le, ltb→lt (literals v) (literals t) a))

-- from a term that is not ahead of t on, none is
pub none_ahead : (l : TermList) → Rising (before []) (terms_in l) → (t : Term) (k : ℕ) → ahead (nth l k) t ≡ false → NoneAhead l t k
none_ahead l r t k h i le below =
    is_false (ahead (nth l i) t)
    (not_T (ahead (nth l i) t)
    (λ a.
    ⊎_elim (λ (d : k ≡ i). along (ap (λ (j : ℕ). ahead (nth l j) t) (sym d) ∙ h) a)
    (λ d.
    along h
    (ahead-back (nth l k) (nth l i) t (rising-at [] l.positives.now l.negatives.now l.same_length r k i (omega arith) below) a))
    (same? k i)))
