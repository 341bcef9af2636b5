-- The terms of both sides and all least joins make the decision's list.
use Prim.Native.Nat.{ℕ, ◌*◌, ◌≤◌, zero-le}
use mathlib.Core.Path.{◌≡◌, refl, sym, subst}
use mathlib.Core.Bool.{Bool, true, false}
use mathlib.Core.Logic.{⊎_elim}
use mathlib.Core.List.Memᴰ
use mathlib.Core.List.{List, [], ◌++◌, Memᴰ}
use native.Mathlib.Nat.{not-suc-le-zero}
use lib.ListN.{length}
use Rattle.std.specs.Prelude.{Some, None}
use Rattle.terms.specs.Joins.{extended, decision_terms}
use Rattle.terms.specs.Lists.{sort}
use Rattle.terms.specs.Order.{before}
use Rattle.terms.specs.Term.{IsTerm}
use Rattle.terms.specs.declared.Term.{Term}
use Rattle.lists.specs.List.{held, nth, terms_in}
use Rattle.lists.specs.declared.list.TermList.{TermList}
use Rattle.lists.specs.Capacity.{max_capacity}
use Rattle.insertion.specs.Filled.{Filled}
use Rattle.decisions.specs.Extended.{Extending, side_terms, ListsSide}
use Rattle.settling.specs.Growth.{Grew, Overflow, Growing, Grown}
use Rattle.settling.specs.Sides.{DecidedAt, least_joins, AllSettled, Settled}
use Rattle.settling.specs.declared.counts.Counts.{Counts}
use Rattle.settling.proofs.Growth.{grew-front, grew_then, grew-whole, over-then, over-whole}
use Rattle.settling.proofs.Least.{least-terms, least-turned, all_listed, place_of}
use Rattle.decisions.proofs.OneSide.{side-terms}
use Rattle.pairing.proofs.Steps.{growing-turned, grew-wider, over-wider}

module _ {x : ℕ} {p q : TermList} (h : DecidedAt x p q) where
  abbrev a : List Term
  a = terms_in p

  abbrev b : List Term
  b = terms_in q

  abbrev whole : List Term
  whole = decision_terms x a b

  -- ---- what each step may list is of the whole
  low-more : (t : Term) → Memᴰ t (side_terms x false a b) → Memᴰ t whole
  unfolding decision_terms
  low-more t m =
      ⊎_elim (λ (n : Memᴰ t (extended x false b a)). Memᴰ.append_left (extended x true a b ++ least_joins a b) n)
      (λ (n : Memᴰ t (least_joins a b)).
      Memᴰ.append_right (extended x false b a) (Memᴰ.append_right (extended x true a b) n))
      (Memᴰ.append_cases (extended x false b a) m)

  least_more : (t : Term) → Memᴰ t (least_joins a b) → Memᴰ t whole
  least_more t m = low-more t (Memᴰ.append_right (extended x false b a) m)

  high-more : (t : Term) → Memᴰ t (side_terms x true b a) → Memᴰ t whole
  unfolding decision_terms
  high-more t m =
      ⊎_elim
      (λ (n : Memᴰ t (extended x true a b)).
      Memᴰ.append_right (extended x false b a) (Memᴰ.append_left (least_joins a b) n))
      (λ (n : Memᴰ t (least_joins b a)). least_more t (least-turned h.at.sides t n))
      (Memᴰ.append_cases (extended x true a b) m)

  -- ---- the first side
  pub first : (s₀ : Bool → List ℕ) (kept₀ : List ℕ) → length (s₀ false) ≡ length (s₀ true) → length kept₀ ≤ 2 * max_capacity
      → Extending x p q s₀ kept₀ (record { listed = 0; kept = 0; cost = 0 })
  first s₀ kept₀ ev room =
      record {
        growing = record {
          at = h.at;
          front = record { fits = zero-le; even = ev; rising = tt; terms = λ t m. absurd (Memᴰ.not-nil m) };
          keeps = record {
            room = zero-le;
            are-listed = λ k l. absurd (not-suc-le-zero l);
            are-least = λ k l. absurd (not-suc-le-zero l);
          };
          room = room;
        };
        below = h.below;
        free = h.not_low;
      }

  module _ {s₀ : Bool → List ℕ} {kept₀ : List ℕ} (f : Extending x p q s₀ kept₀ (record { listed = 0; kept = 0; cost = 0 })) where
    -- the same list, the sides the other way round
    abbrev other : Extending x q p s₀ kept₀ (record { listed = 0; kept = 0; cost = 0 })
    other = record { growing = growing-turned f.growing; below = f.below; free = h.not-high }

    whole-terms : (t : Term) → Memᴰ t whole → IsTerm f.growing.at.sides.variables t
    unfolding decision_terms
    whole-terms t m =
        ⊎_elim (λ (n : Memᴰ t (extended x false b a)). side-terms f false t (Memᴰ.append_left (least_joins a b) n))
        (λ (n : Memᴰ t (extended x true a b ++ least_joins a b)).
        ⊎_elim (λ (k : Memᴰ t (extended x true a b)). side-terms other true t (Memᴰ.append_left (least_joins b a) k))
        (λ (k : Memᴰ t (least_joins a b)). least-terms f.growing.at.sides t k)
        (Memᴰ.append_cases (extended x true a b) n))
        (Memᴰ.append_cases (extended x false b a) m)

    pub over₁ : {s' : Bool → List ℕ} → Overflow (side_terms x false a b) s₀ 0 → Filled (sort (before []) whole) s₀ s' None
    over₁ o = over-whole f.growing.front refl whole-terms (over-wider low-more o)

    -- ---- then the second
    module _ (s₁ : Bool → List ℕ) (kept₁ : List ℕ) (c : Counts)
        (g₁ : Grown (side_terms x false a b) (least_joins a b) (ListsSide x false a b) s₀ 0 s₁ kept₁ (Some c)) where
      abbrev pub second : Extending x q p s₁ kept₁ c
      second =
          record {
            growing = growing-turned
                (record {
                  at = f.growing.at;
                  front = grew-front f.growing.front g₁.0 (side-terms f false);
                  keeps = g₁.1;
                  room = g₁.2;
                });
            below = f.below;
            free = h.not-high;
          }

      pub over₂ : {s' : Bool → List ℕ} → Overflow (side_terms x true b a) s₁ c.listed → Filled (sort (before []) whole) s₀ s' None
      over₂ o =
          over-whole f.growing.front refl whole-terms
          (over-then f.growing.front (grew-wider low-more g₁.0) (over-wider high-more o))

      so-far₁ : Grew whole s₀ 0 s₁ c.listed
      so-far₁ = grew-wider low-more g₁.0

      -- ---- then the joins
      module _ (s₂ : Bool → List ℕ) (kept₂ : List ℕ) (d : Counts)
          (g₂ : Grown (side_terms x true b a) (least_joins b a) (ListsSide x true b a) s₁ c.listed s₂ kept₂ (Some d)) where
        pub third : Growing p q s₂ kept₂ d
        third =
            growing-turned
            (record {
              at = second.growing.at;
              front = grew-front second.growing.front g₂.0 (side-terms second true);
              keeps = g₂.1;
              room = g₂.2;
            })

        so-far₂ : Grew whole s₀ 0 s₂ d.listed
        so-far₂ = grew_then f.growing.front so-far₁ (grew-wider high-more g₂.0)

        pub over₃ : {s' : Bool → List ℕ} → Overflow (least_joins a b) s₂ d.listed → Filled (sort (before []) whole) s₀ s' None
        over₃ o = over-whole f.growing.front refl whole-terms (over-then f.growing.front so-far₂ (over-wider least_more o))

        -- ---- and that is all
        pub ends : (s₃ : Bool → List ℕ) (kept₃ : List ℕ) (e : Counts)
            → Grown (least_joins a b) (least_joins a b) (λ l. AllSettled (least_joins a b) l p q) s₂ d.listed s₃ kept₃ (Some e)
            → Filled (sort (before []) whole) s₀ s₃ (Some e.listed)
        unfolding decision_terms
        ends s₃ kept₃ e g₃ =
            grew-whole f.growing.front refl whole-terms
            (grew_then f.growing.front so-far₂ (grew-wider least_more g₃.0)) all
          where
            settled : (t u : Term) → Memᴰ t a → Memᴰ u b → Settled (least_joins a b) (held s₃ e.listed) t u
            settled t u m n =
                let (i, l, d) = place_of p.positives.now p.negatives.now t p.same_length m in
                let (j, k, f) = place_of q.positives.now q.negatives.now u q.same_length n in
                subst (λ (v : Term). Settled (least_joins a b) (held s₃ e.listed) v u) (sym d)
                (subst (Settled (least_joins a b) (held s₃ e.listed) (nth p i)) (sym f) (g₃.3 i j l k))

            all : (t : Term) → Memᴰ t whole → Memᴰ t (held s₃ e.listed)
            all t m =
                ⊎_elim
                (λ (n : Memᴰ t (extended x false b a)). g₃.0.keeps t (g₂.0.keeps t (g₁.3 t n)))
                (λ (n : Memᴰ t (extended x true a b ++ least_joins a b)).
                ⊎_elim (λ (k : Memᴰ t (extended x true a b)). g₃.0.keeps t (g₂.3 t k))
                (λ (k : Memᴰ t (least_joins a b)). all_listed h.at.sides settled t k)
                (Memᴰ.append_cases (extended x true a b) n))
                (Memᴰ.append_cases (extended x false b a) m)
