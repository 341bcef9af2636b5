-- A list that grows by least joins.
use Prim.Native.Nat.{ℕ, ◌+◌, ◌*◌, ◌≤◌, ◌<◌}
use mathlib.Core.Path.{◌≡◌, sym, subst}
use mathlib.Core.Bool.{Bool}
use mathlib.Core.Logic.{⊎_elim}
use mathlib.Core.List.{List, Memᴰ}
use native.Mathlib.Nat.{lt_irrefl, lt_of_lt_of_le}
use native.Mathlib.Numerals.{add-one}
use lib.ListN.{length}
use Rattle.std.specs.Prelude.{Option, Some, None}
use Rattle.masks.proofs.Tests.{below_suc}
use Rattle.terms.specs.declared.Term.{Term}
use Rattle.lists.specs.List.{held, nth}
use Rattle.lists.specs.declared.list.TermList.{TermList}
use Rattle.lists.specs.Capacity.{max_capacity}
use Rattle.settling.specs.Growth.{Grew, Overflow, Keeps, Growing, Grown}
use Rattle.settling.specs.Sides.{least_between, KeptIn, Settled, SettledFrom}
use Rattle.settling.specs.declared.counts.Counts.{Counts}
use Rattle.settling.proofs.Growth.{grew_none, grew-length, grew-front, grew_then, grew-insert, over-then, over-insert}
use Rattle.settling.proofs.KeptTerms.{kept_in}
use Rattle.settling.proofs.Least.{least-terms, settled-more}

-- a term of `more` that is a least join was to be listed and kept
module _ {a b : TermList} {s : Bool → List ℕ} {kept : List ℕ} {c : Counts} (g : Growing a b s kept c)
    (more : List Term) (t : Term) (m : Memᴰ t more) (n : Memᴰ t (least_between a b)) where
  pub kept-grown : (s' : Bool → List ℕ) (kept' : List ℕ) (done : List Term → Type 0) (r : Option Counts)
      → ((l : List Term) → Memᴰ t l → done l) → Keeps t s kept c s' kept' r
      → Grown more (least_between a b) done s c.listed s' kept' r
  kept-grown s' kept' done (Some d) h k =
      let (grew, listed) = grew-insert g.front t (least-terms g.at.sides t n) m k.0 in (
        grew,
        kept_in g.keeps k.1 grew.keeps listed n,
        rw k.1.same g.room,
        h _ listed,
      )
  kept-grown s' kept' done None h k = over-insert g.front t (least-terms g.at.sides t n) m k

-- what a row cost does not matter
pub recounted : {a b : TermList} {s : Bool → List ℕ} {kept : List ℕ} {c : Counts} → Growing a b s kept c → (cost : ℕ)
    → Growing a b s kept (record { listed = c.listed; kept = c.kept; cost = cost })
recounted g cost = record { at = g.at; front = g.front; keeps = g.keeps; room = g.room }

-- what holds of the list may be said otherwise
pub grown-so : (more least : List Term) (done done' : List Term → Type 0) (s : Bool → List ℕ) (count : ℕ) (s' : Bool → List ℕ)
    (kept' : List ℕ) (r : Option Counts) → ((l : List Term) → done l → done' l) → Grown more least done s count s' kept' r
    → Grown more least done' s count s' kept' r
grown-so more least done done' s count s' kept' (Some d) h g = (g.0, g.1, g.2, h _ g.3)
grown-so more least done done' s count s' kept' None h g = g

-- ---- a row: t was settled with the terms of b from a place on up to j, by a list that was s₀
pub record SoFar (a b : TermList) (t : Term) (from : ℕ) (s₀ : Bool → List ℕ) (count₀ : ℕ) (s : Bool → List ℕ) (kept : List ℕ)
    (c : Counts) (j : ℕ) : Type 0 where
  pub grew : Grew (least_between a b) s₀ count₀ s c.listed
  pub keeps : KeptIn (least_between a b) (held s c.listed) kept c.kept
  pub room : length kept ≤ 2 * max_capacity
  pub done : (i : ℕ) → from ≤ i → i < j
      → Settled (least_between a b) (held s c.listed) t (nth b i)

module _ {a b : TermList} {s₀ : Bool → List ℕ} {kept₀ : List ℕ} {c₀ : Counts} (g : Growing a b s₀ kept₀ c₀) where
  pub so-far-start : (t : Term) (from cost : ℕ)
      → SoFar a b t from s₀ c₀.listed s₀ kept₀ (record { listed = c₀.listed; kept = c₀.kept; cost = cost }) from
  so-far-start t from cost =
      record {
        grew = grew_none g.front;
        keeps = g.keeps;
        room = g.room;
        done = λ i l m. absurd (lt_irrefl i (lt_of_lt_of_le m l));
      }

  module _ {t : Term} {from : ℕ} {s : Bool → List ℕ} {kept : List ℕ} {c : Counts} {j : ℕ}
      (h : SoFar a b t from s₀ c₀.listed s kept c j) where
    pub so-far-length : (d : Bool) → length (s d) ≡ length (s₀ d)
    so-far-length = grew-length g.front h.grew

    pub so-far-growing : Growing a b s kept c
    so-far-growing =
        record { at = g.at; front = grew-front g.front h.grew (least-terms g.at.sides); keeps = h.keeps; room = h.room }

    pub so-far-next : {s' : Bool → List ℕ} {kept' : List ℕ} {d : Counts}
        → Grew (least_between a b) s c.listed s' d.listed
        → KeptIn (least_between a b) (held s' d.listed) kept' d.kept
        → length kept' ≤ 2 * max_capacity
        → Settled (least_between a b) (held s' d.listed) t (nth b j)
        → SoFar a b t from s₀ c₀.listed s' kept' d (j + 1)
    so-far-next {s'} {kept'} {d} more keeps room one =
        record {
          grew = grew_then g.front h.grew more;
          keeps = keeps;
          room = room;
          done = λ i l m. ⊎_elim (λ (e : i ≡ j). subst (λ (z : ℕ). now z) (sym e) one)
              (λ (k : i < j). settled-more t (nth b i) more.keeps (h.done i l k)) (below_suc (rw (sym (add-one j)) m));
        }
      where
        now : ℕ → Type 0
        now i = Settled (least_between a b) (held s' d.listed) t (nth b i)

    pub so-far-over : Overflow (least_between a b) s c.listed
        → Overflow (least_between a b) s₀ c₀.listed
    so-far-over o = over-then g.front h.grew o

    pub so-far-end : length b.positives.now ≤ j
        → Grown (least_between a b) (least_between a b)
        (λ l. SettledFrom (least_between a b) l t b from) s₀ c₀.listed s kept (Some c)
    so-far-end le = (h.grew, h.keeps, h.room, λ i l m. h.done i l (lt_of_lt_of_le m le))
