-- The loops: each goes over a list of terms, and inserts some terms for each.
use Prim.Native.Nat.{ℕ, ◌+◌, ◌<◌, ◌≤◌}
use mathlib.Core.Path.{◌≡◌, refl, sym, ap, subst, ◌∙◌}
use mathlib.Core.Bool.{Bool, true}
use mathlib.Core.List.{List, [], ◌∷◌, ◌++◌}
use lib.ListN.{length, drop}
use Rattle.std.specs.Prelude.{Some, None}
use Rattle.terms.specs.Joins.{joins_with, joins}
use Rattle.terms.specs.Lists.{Rising}
use Rattle.terms.specs.Order.{before}
use Rattle.terms.specs.Term.{terms_of}
use Rattle.terms.specs.declared.Term.{Term}
use Rattle.terms.proofs.Built.{with-step}
use Rattle.lists.specs.Entries.{term_at}
use Rattle.lists.proofs.Parts.{drop-terms, drop-end}
use Rattle.lists.specs.List.{held}
use Rattle.insertion.specs.Filled.{Filled}
use Rattle.insertion.proofs.Again.{filled-length, filled-fits, filled-held}
use Rattle.insertion.proofs.Parts.{Even, filled_none}
use Rattle.joins.specs.Added.{insert_all, Added}
use Rattle.joins.proofs.Adding.{insert_all-append, rises, added_then, added_full}

-- a list that is made of another one term by term: for each term t the terms `one t`
pub record Steps : Type 0 where
  pub all : List Term → List Term
  pub one : Term → List Term
  pub none : all [] ≡ []
  pub more : (t : Term) (l : List Term) → all (t ∷ l) ≡ one t ++ all l

-- turn k of the loop: the slices, which were s₀, hold count terms in their front, and what is left to insert makes the whole
pub record Turn (m : Steps) (ps ns : List ℕ) (whole : List Term) (s₀ s : Bool → List ℕ) (count k : ℕ) : Type 0 where
  pub holds : Filled (held s count) s₀ s (Some count)
  pub rising : Rising (before []) (held s count)
  pub left : insert_all (m.all (drop k (terms_of ps ns))) (held s count) ≡ whole

-- all terms of the list inserted into those that s held
abbrev pub all_made : Steps → List ℕ → List ℕ → (Bool → List ℕ) → ℕ → List Term
all_made m ps ns s start = insert_all (m.all (terms_of ps ns)) (held s start)

pub turn-start : (m : Steps) (ps ns : List ℕ) (s : Bool → List ℕ) → Even s → (start : ℕ) → start ≤ length (s true)
    → Rising (before []) (held s start) → Turn m ps ns (all_made m ps ns s start) s s start 0
turn-start m ps ns s ev start h r = record { holds = filled_none s ev start h; rising = r; left = refl }

module _ (m : Steps) (ps ns : List ℕ) (e : length ns ≡ length ps) (whole : List Term) (s₀ s : Bool → List ℕ) (ev : Even s₀)
    (count k : ℕ) (now : Turn m ps ns whole s₀ s count k) where
  pub turn-length : (b : Bool) → length (s b) ≡ length (s₀ b)
  turn-length = filled-length (held s count) s₀ s ev count now.holds

  pub turn-fits : count ≤ length (s true)
  turn-fits = filled-fits (held s count) s₀ s ev count now.holds

  -- nothing is left
  pub turn_end : length ps ≤ k → Filled whole s₀ s (Some count)
  turn_end le =
      subst (λ (z : List Term). Filled z s₀ s (Some count))
      (sym (ap (λ (z : List Term). insert_all z (held s count)) (ap m.all (drop-end ps ns e k le) ∙ m.none)) ∙ now.left)
      now.holds

  module _ (lt : k < length ps) (s' : Bool → List ℕ) where
    abbrev rest : List Term
    rest = drop (k + 1) (terms_of ps ns)

    next : List Term
    next = insert_all (m.one (term_at ps ns k)) (held s count)

    left-next : insert_all (m.all rest) next ≡ whole
    unfolding next
    left-next =
        sym (ap (λ (z : List Term). insert_all z (held s count))
        (ap m.all (drop-terms ps ns e k lt) ∙ m.more (term_at ps ns k) rest)
        ∙ insert_all-append (m.one (term_at ps ns k)) (m.all rest) (held s count))
        ∙ now.left

    pub turn-full : (s'' : Bool → List ℕ) → Added (m.one (term_at ps ns k)) s count s' None → Filled whole s₀ s'' None
    unfolding next
    turn-full s'' a =
        subst (λ (z : List Term). Filled z s₀ s'' None) left-next
        (added_full (held s count) s₀ s ev count now.holds (m.one (term_at ps ns k)) s' (m.all rest) s'' a)

    pub turn-next : (c : ℕ) → Added (m.one (term_at ps ns k)) s count s' (Some c) → Turn m ps ns whole s₀ s' c (k + 1)
    unfolding next
    turn-next c a =
        let made : Filled next s₀ s' (Some c) =
        added_then (held s count) s₀ s ev count now.holds (m.one (term_at ps ns k)) s' (Some c) a in
        let is : held s' c ≡ next = filled-held next s₀ s' ev c made in
        record {
          holds = subst (λ (z : List Term). Filled z s₀ s' (Some c)) (sym is) made;
          rising = subst (Rising (before [])) (sym is) (rises (m.one (term_at ps ns k)) (held s count) now.rising);
          left = ap (insert_all (m.all rest)) is ∙ left-next;
        }

-- ---- the lists that the loops make
abbrev pub joining_one : Term → Steps
joining_one t = record { all = joins_with t; one = λ u. joins_with t (u ∷ []); none = refl; more = with-step t }

abbrev pub joining_all : List Term → Steps
joining_all a = record { all = λ l. joins l a; one = λ t. joins_with t a; none = refl; more = λ t l. refl }
