-- Steps through the pairs of two sides, from either side.
use Prim.Native.Nat.{ℕ, ◌+◌, ◌*◌, ◌≤◌, ◌<◌}
use mathlib.Core.Path.{◌≡◌, sym, subst}
use mathlib.Core.Bool.{Bool}
use mathlib.Core.Logic.{◌⊎◌, inl, inr, ⊎_elim, ⊎_map}
use mathlib.Core.List.{List, Memᴰ}
use native.Mathlib.Nat.{lt_of_lt_of_le}
use native.Mathlib.Numerals.{add-one}
use native.Mathlib.Omega.{arith}
use lib.Dec.{ltb, ltb→lt, nltb→le}
use lib.ListN.{length}
use Rattle.std.specs.Prelude.{Some}
use Rattle.masks.proofs.Tests.{below_suc, decide}
use Rattle.terms.specs.declared.Term.{Term}
use Rattle.lists.specs.List.{held, nth}
use Rattle.lists.specs.declared.list.TermList.{TermList}
use Rattle.lists.specs.Capacity.{max_capacity}
use Rattle.settling.specs.Growth.{Grew, Overflow, Growing, Grown}
use Rattle.settling.specs.Sides.{SidesAt, least_between, Settled, SettledFrom, AllSettled, KeptIn, Stepped}
use Rattle.pairing.specs.Pairs.{Paired}
use Rattle.settling.specs.declared.counts.Counts.{Counts}
use Rattle.settling.proofs.Down.{low-in, high-in}
use Rattle.pairing.specs.declared.pairs.Side.{Side}
use Rattle.pairing.specs.declared.pairs.Turn.{Turn}
use Rattle.settling.proofs.Growth.{grew_none, grew-length, grew-front, grew_then, over-then}
use Rattle.settling.proofs.Least.{turned, least-terms, least-turned, settled-turned, settled-more}

-- ---- from fewer terms to more
pub grew-wider : {more more' : List Term} {s s' : Bool → List ℕ} {count c : ℕ} → ((t : Term) → Memᴰ t more → Memᴰ t more')
    → Grew more s count s' c → Grew more' s count s' c
grew-wider h g =
    record { holds = g.holds; rising = g.rising; only = λ t m. ⊎_map (λ n. n) (h t) (g.only t m); keeps = g.keeps }

pub over-wider : {more more' : List Term} {s : Bool → List ℕ} {count : ℕ} → ((t : Term) → Memᴰ t more → Memᴰ t more')
    → Overflow more s count → Overflow more' s count
over-wider h o =
    record { list = o.list; rising = o.rising; only = λ t m. ⊎_map (λ n. n) (h t) (o.only t m); over = o.over }

pub kept-wider : {least least' l : List Term} {kept : List ℕ} {k : ℕ} → ((t : Term) → Memᴰ t least → Memᴰ t least')
    → KeptIn least l kept k → KeptIn least' l kept k
kept-wider h k = record { room = k.room; are-listed = k.are-listed; are-least = λ j i. h _ (k.are-least j i) }

-- ---- the sides the other way round
abbrev pub at-turned : {a b : TermList} → SidesAt a b → SidesAt b a
at-turned h =
    record {
      few-low = h.few-high;
      few-high = h.few-low;
      sides = turned h.sides;
    }

abbrev pub growing-turned : {a b : TermList} {s : Bool → List ℕ} {kept : List ℕ} {c : Counts} → Growing a b s kept c
    → Growing b a s kept c
growing-turned g =
    record {
      at = at-turned g.at;
      front = g.front;
      keeps = kept-wider (least-turned (turned g.at.sides)) g.keeps;
      room = g.room;
    }

-- ---- one row more
abbrev Done : TermList → TermList → ℕ → ℕ → List Term → ℕ → ℕ → Type 0
Done a b low high l i j =
    ((i < low) ⊎ (j < high)) ⊎ Settled (least_between a b) l (nth a i) (nth b j)

module _ {a b : TermList} (h : SidesAt a b) {low high : ℕ} {l : List Term} where
  pub stepped-low : low < length a.positives.now → high ≤ length b.positives.now
      → SettledFrom (least_between a b) l (nth a low) b high
      → Stepped (least_between a b) a b low high l (low + 1) high
  stepped-low m n done =
      record { one = omega arith; within_low = omega arith; within-high = n; settles = settles }
    where
      here : (j : ℕ) → j < length b.positives.now → Done a b low high l low j
      here j k =
          ⊎_elim (λ t. inl (inr (ltb→lt j high t))) (λ t. inr (done j (nltb→le j high t) k)) (decide (ltb j high))

      settles : (i j : ℕ) → i < length a.positives.now → j < length b.positives.now → (i < low + 1) ⊎ (j < high) → Done a b low high l i j
      settles i j p q (inl k) =
          ⊎_elim (λ (e : i ≡ low). subst (λ (z : ℕ). Done a b low high l z j) (sym e) (here j q)) (λ (o : i < low). inl (inl o))
          (below_suc (rw (sym (add-one low)) k))
      settles i j p q (inr k) = inl (inr k)

  pub stepped-high : low ≤ length a.positives.now → high < length b.positives.now
      → SettledFrom (least_between b a) l (nth b high) a low
      → Stepped (least_between a b) a b low high l low (high + 1)
  stepped-high m n done =
      record { one = omega arith; within_low = m; within-high = omega arith; settles = settles }
    where
      here : (i : ℕ) → i < length a.positives.now → Done a b low high l i high
      here i k =
          ⊎_elim (λ t. inl (inl (ltb→lt i low t)))
          (λ t. inr (settled-turned h.sides (nth a i) (nth b high) (low-in h i k) (high-in h high n)
          (done i (nltb→le i low t) k)))
          (decide (ltb i low))

      settles : (i j : ℕ) → i < length a.positives.now → j < length b.positives.now → (i < low) ⊎ (j < high + 1) → Done a b low high l i j
      settles i j p q (inl k) = inl (inl k)
      settles i j p q (inr k) =
          ⊎_elim (λ (e : j ≡ high). subst (λ (z : ℕ). Done a b low high l i z) (sym e) (here i p)) (λ (o : j < high). inl (inr o))
          (below_suc (rw (sym (add-one high)) k))

-- ---- the pairs of the rows that are settled, by a list that was s₀
pub record PairsDone (a b : TermList) (s₀ : Bool → List ℕ) (count₀ : ℕ) (s : Bool → List ℕ) (kept : List ℕ) (t : Turn) : Type 0 where
  pub grew : Grew (least_between a b) s₀ count₀ s t.listed
  pub keeps : KeptIn (least_between a b) (held s t.listed) kept t.kept
  pub room : length kept ≤ 2 * max_capacity
  pub within_low : t.low.at ≤ length a.positives.now
  pub within-high : t.high.at ≤ length b.positives.now
  pub settles : (i j : ℕ) → i < length a.positives.now → j < length b.positives.now → (i < t.low.at) ⊎ (j < t.high.at)
      → Settled (least_between a b) (held s t.listed) (nth a i) (nth b j)

module _ {a b : TermList} {s₀ : Bool → List ℕ} {kept₀ : List ℕ} {c₀ : Counts} (g : Growing a b s₀ kept₀ c₀) where
  pub pairs_start : (low high : Side) → low.at ≡ 0 → high.at ≡ 0
      → PairsDone a b s₀ c₀.listed s₀ kept₀ (record { listed = c₀.listed; kept = c₀.kept; low = low; high = high })
  pairs_start low high e d =
      record {
        grew = grew_none g.front;
        keeps = g.keeps;
        room = g.room;
        within_low = omega (arith, e);
        within-high = omega (arith, d);
        settles = λ i j p q k. ⊎_elim (λ m. absurd (omega (arith, m, e))) (λ m. absurd (omega (arith, m, d))) k;
      }

  module _ {s : Bool → List ℕ} {kept : List ℕ} {t : Turn} (h : PairsDone a b s₀ c₀.listed s kept t) where
    pub pairs-length : (d : Bool) → length (s d) ≡ length (s₀ d)
    pairs-length = grew-length g.front h.grew

    pub pairs-left : t.low.at < length a.positives.now → t.high.at < length b.positives.now → Paired a b s kept t
    pairs-left l m =
        record {
          growing = record {
            at = g.at;
            front = grew-front g.front h.grew (least-terms g.at.sides);
            keeps = h.keeps;
            room = h.room;
          };
          low-left = l;
          high-left = m;
        }

    pub pairs_next : {s' : Bool → List ℕ} {kept' : List ℕ} {u : Turn}
        → Grew (least_between a b) s t.listed s' u.listed
        → KeptIn (least_between a b) (held s' u.listed) kept' u.kept
        → length kept' ≤ 2 * max_capacity
        → Stepped (least_between a b) a b t.low.at t.high.at (held s' u.listed) u.low.at
        u.high.at
        → PairsDone a b s₀ c₀.listed s' kept' u
    pairs_next more keeps room one =
        record {
          grew = grew_then g.front h.grew more;
          keeps = keeps;
          room = room;
          within_low = one.within_low;
          within-high = one.within-high;
          settles = λ i j p q k. ⊎_elim
              (λ (before : (i < t.low.at) ⊎ (j < t.high.at)).
              settled-more (nth a i) (nth b j) more.keeps (h.settles i j p q before))
              (λ now. now) (one.settles i j p q k);
        }

    pub pairs-over : Overflow (least_between a b) s t.listed
        → Overflow (least_between a b) s₀ c₀.listed
    pairs-over o = over-then g.front h.grew o

    pub pairs_end : (cost : ℕ) → (length a.positives.now ≤ t.low.at) ⊎ (length b.positives.now ≤ t.high.at)
        → Grown (least_between a b) (least_between a b)
        (λ l. AllSettled (least_between a b) l a b) s₀ c₀.listed s kept
        (Some (record { listed = t.listed; kept = t.kept; cost = cost }))
    pairs_end cost k = (
      h.grew,
      h.keeps,
      h.room,
      λ i j p q. h.settles i j p q (⊎_map (λ (e : length a.positives.now ≤ t.low.at). lt_of_lt_of_le p e)
          (λ (e : length b.positives.now ≤ t.high.at). lt_of_lt_of_le q e) k),
    )
