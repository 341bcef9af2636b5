-- The terms of one side in the list: kept as they are, or with the literal of the decision's variable.
use Prim.Native.Nat.{ℕ, ◌+◌, ◌*◌, ◌≤◌, ◌<◌}
use mathlib.Core.Path.{◌≡◌, sym, subst, ◌∙◌}
use mathlib.Core.Bool.{Bool, true, false, not, true≢false}
use mathlib.Core.Logic.{⊎_elim}
use mathlib.Core.List.{List, [], Memᴰ}
use native.Mathlib.Nat.{lt_of_lt_of_le, not-suc-le-zero}
use native.Mathlib.Numerals.{add-one}
use lib.Dec.{T}
use lib.ListN.{length}
use Rattle.std.specs.Prelude.{Option, Some, None}
use Rattle.masks.proofs.Tests.{along, is_true, is_false, below_suc}
use Rattle.terms.specs.Joins.{holds_one, extended}
use Rattle.terms.specs.Lists.{insert, keep}
use Rattle.terms.specs.Order.{before}
use Rattle.terms.specs.Term.{extend, inside, IsTerm}
use Rattle.terms.specs.declared.Term.{Term}
use Rattle.terms.proofs.Sorted.{any-i, keep-in, keep_out, map-in, map-out}
use Rattle.terms.proofs.Terms.{extend-IsTerm}
use Rattle.lists.specs.List.{held, nth, terms_in}
use Rattle.lists.specs.declared.list.TermList.{TermList}
use Rattle.lists.specs.Capacity.{max_capacity}
use Rattle.insertion.specs.Filled.{Filled}
use Rattle.decisions.specs.Extended.{Extending, side_terms, ListsOne, ListsSide}
use Rattle.settling.specs.Growth.{Grew, Overflow, Keeps, Grown}
use Rattle.settling.specs.Sides.{least_between, KeptIn}
use Rattle.settling.specs.declared.counts.Counts.{Counts}
use Rattle.settling.proofs.Down.{low-in, high-in}
use Rattle.settling.proofs.Growth.{grew_none, grew-length, grew-front, grew_then, grew-insert, over-then, over-insert}
use Rattle.settling.proofs.Grows.{kept-grown}
use Rattle.settling.proofs.KeptTerms.{kept_more}
use Rattle.settling.proofs.Least.{place_of, low-terms, least-terms, alone}

module _ {x : ℕ} {a b : TermList} {s : Bool → List ℕ} {kept : List ℕ} {c : Counts} (g : Extending x a b s kept c)
    (sign : Bool) where
  -- the terms that may be listed are terms
  pub side-terms : (t : Term) → Memᴰ t (side_terms x sign (terms_in a) (terms_in b)) → IsTerm g.growing.at.sides.variables t
  unfolding extended
  side-terms t m =
      ⊎_elim
      (λ (n : Memᴰ t (extended x sign (terms_in b) (terms_in a))).
      let (u, k, e) = map-out (λ t. extend t x sign) (keep (λ t. not (holds_one (terms_in b) t)) (terms_in a)) t n in
      let (o, p) = keep_out (λ t. not (holds_one (terms_in b) t)) (terms_in a) u k in
      subst (IsTerm g.growing.at.sides.variables) (sym e)
      (extend-IsTerm g.growing.at.sides.variables u x sign g.below (low-terms g.growing.at.sides u o) (g.free u o)))
      (λ (n : Memᴰ t (least_between a b)). least-terms g.growing.at.sides t n)
      (mathlib.Core.List.Memᴰ.append_cases (extended x sign (terms_in b) (terms_in a)) m)

  module _ (i : ℕ) (l : i < length a.positives.now) where
    -- a term of the other side is inside it
    pub one_kept : (s' : Bool → List ℕ) (kept' : List ℕ) (r : Option Counts) (p : ℕ)
        → (p < length b.positives.now) × (inside (nth b p) (nth a i) ≡ true) → Keeps (nth a i) s kept c s' kept' r
        → Grown (side_terms x sign (terms_in a) (terms_in b)) (least_between a b)
        (ListsOne x sign (terms_in b) (nth a i)) s c.listed s' kept' r
    one_kept s' kept' r p (lt, inner) k =
        let h = g.growing.at in
        let one : T (holds_one (terms_in b) (nth a i)) =
        any-i (λ u. inside u (nth a i)) (terms_in b) (nth b p) (high-in h p lt) (along (sym inner) tt) in
        let n : Memᴰ (nth a i) (least_between a b) =
        alone h.sides (nth a i) (low-in h i l) one in
        kept-grown g.growing (side_terms x sign (terms_in a) (terms_in b)) (nth a i)
        (mathlib.Core.List.Memᴰ.append_right (extended x sign (terms_in b) (terms_in a)) n) n s' kept'
        (ListsOne x sign (terms_in b) (nth a i)) r
        (λ l m e. absurd (true≢false (sym (is_true (holds_one (terms_in b) (nth a i)) one) ∙ e))) k

    -- none is
    module _ (none : holds_one (terms_in b) (nth a i) ≡ false) where
      member : Memᴰ (extend (nth a i) x sign) (side_terms x sign (terms_in a) (terms_in b))
      unfolding extended
      member =
          mathlib.Core.List.Memᴰ.append_left (least_between a b)
          (map-in (λ t. extend t x sign) (keep (λ t. not (holds_one (terms_in b) t)) (terms_in a)) (nth a i)
          (keep-in (λ t. not (holds_one (terms_in b) t)) (terms_in a) (nth a i) (low-in g.growing.at i l)
          (subst (λ (z : Bool). T (not z)) (sym none) tt)))

      pub one-extended : (s' : Bool → List ℕ) (u : Term) (n cost : ℕ) → u ≡ extend (nth a i) x sign
          → Filled (insert (before []) u (held s c.listed)) s s' (Some n)
          → Grown (side_terms x sign (terms_in a) (terms_in b)) (least_between a b)
          (ListsOne x sign (terms_in b) (nth a i)) s c.listed s' kept
          (Some (record { listed = n; kept = c.kept; cost = cost }))
      one-extended s' u n cost e f =
          let m = subst (λ (z : Term). Memᴰ z (side_terms x sign (terms_in a) (terms_in b))) (sym e) member in
          let (grew, listed) = grew-insert g.growing.front u (side-terms u m) m f in (
            grew,
            kept_more g.growing.keeps grew.keeps,
            g.growing.room,
            λ _. subst (λ (z : Term). Memᴰ z (held s' n)) e listed,
          )

      pub one-over : (s' : Bool → List ℕ) (u : Term) → u ≡ extend (nth a i) x sign
          → Filled (insert (before []) u (held s c.listed)) s s' None
          → Overflow (side_terms x sign (terms_in a) (terms_in b)) s c.listed
      one-over s' u e f =
          let m = subst (λ (z : Term). Memᴰ z (side_terms x sign (terms_in a) (terms_in b))) (sym e) member in
          over-insert g.growing.front u (side-terms u m) m f

-- ---- the terms of the side up to k are listed, by a list that was s₀
pub record SideDone (x : ℕ) (sign : Bool) (a b : TermList) (s₀ : Bool → List ℕ) (count₀ : ℕ) (s : Bool → List ℕ) (kept : List ℕ)
    (c : Counts) (k : ℕ) : Type 0 where
  pub grew : Grew (side_terms x sign (terms_in a) (terms_in b)) s₀ count₀ s c.listed
  pub keeps : KeptIn (least_between a b) (held s c.listed) kept c.kept
  pub room : length kept ≤ 2 * max_capacity
  pub done : (i : ℕ) → i < k → ListsOne x sign (terms_in b) (nth a i) (held s c.listed)

module _ {x : ℕ} {a b : TermList} {s₀ : Bool → List ℕ} {kept₀ : List ℕ} {c₀ : Counts} (g : Extending x a b s₀ kept₀ c₀)
    (sign : Bool) where
  pub side-start : SideDone x sign a b s₀ c₀.listed s₀ kept₀ c₀ 0
  side-start =
      record {
        grew = grew_none g.growing.front;
        keeps = g.growing.keeps;
        room = g.growing.room;
        done = λ i l. absurd (not-suc-le-zero l);
      }

  module _ {s : Bool → List ℕ} {kept : List ℕ} {c : Counts} {k : ℕ} (h : SideDone x sign a b s₀ c₀.listed s kept c k) where
    pub side-length : (d : Bool) → length (s d) ≡ length (s₀ d)
    side-length = grew-length g.growing.front h.grew

    pub side-extending : Extending x a b s kept c
    side-extending =
        record {
          growing = record {
            at = g.growing.at;
            front = grew-front g.growing.front h.grew (side-terms g sign);
            keeps = h.keeps;
            room = h.room;
          };
          below = g.below;
          free = g.free;
        }

    pub side-next : {s' : Bool → List ℕ} {kept' : List ℕ} {d : Counts}
        → Grew (side_terms x sign (terms_in a) (terms_in b)) s c.listed s' d.listed
        → KeptIn (least_between a b) (held s' d.listed) kept' d.kept
        → length kept' ≤ 2 * max_capacity
        → ListsOne x sign (terms_in b) (nth a k) (held s' d.listed)
        → SideDone x sign a b s₀ c₀.listed s' kept' d (k + 1)
    side-next {s'} {kept'} {d} more keeps room one =
        record {
          grew = grew_then g.growing.front h.grew more;
          keeps = keeps;
          room = room;
          done = λ i l e. ⊎_elim (λ (q : i ≡ k). subst (λ (z : ℕ). now z) (sym q) one e)
              (λ (m : i < k). more.keeps _ (h.done i m e)) (below_suc (rw (sym (add-one k)) l));
        }
      where
        now : ℕ → Type 0
        now i = ListsOne x sign (terms_in b) (nth a i) (held s' d.listed)

    pub side-over : Overflow (side_terms x sign (terms_in a) (terms_in b)) s c.listed
        → Overflow (side_terms x sign (terms_in a) (terms_in b)) s₀ c₀.listed
    side-over o = over-then g.growing.front h.grew o

    pub side-end : length a.positives.now ≤ k
        → Grown (side_terms x sign (terms_in a) (terms_in b)) (least_between a b)
        (ListsSide x sign (terms_in a) (terms_in b)) s₀ c₀.listed s kept (Some c)
    unfolding extended
    side-end le = (h.grew, h.keeps, h.room, all)
      where
        all : ListsSide x sign (terms_in a) (terms_in b) (held s c.listed)
        all t m =
            let (u, n, e) = map-out (λ t. extend t x sign) (keep (λ t. not (holds_one (terms_in b) t)) (terms_in a)) t m in
            let (o, p) = keep_out (λ t. not (holds_one (terms_in b) t)) (terms_in a) u n in
            let (i, l, d) = place_of a.positives.now a.negatives.now u a.same_length o in
            subst (λ (z : Term). Memᴰ z (held s c.listed)) (sym (e ∙ (λ j. extend (d j) x sign)))
            (h.done i (lt_of_lt_of_le l le) (is_false _ (subst (λ (z : Term). T (not (holds_one (terms_in b) z))) d p)))
