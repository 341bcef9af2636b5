-- A list that grows in the front of two slices: one term more, one growth after another, and what fills it whole.
use Prim.Native.Nat.{ℕ, ◌≤◌, ◌<◌}
use mathlib.Core.Path.{◌≡◌, refl, sym, subst, ◌∙◌}
use mathlib.Core.Bool.{Bool, true, false}
use mathlib.Core.Logic.{◌⊎◌, inl, inr, ⊎_elim}
use mathlib.Core.List.Memᴰ
use mathlib.Core.List.{List, [], Memᴰ}
use native.Mathlib.Nat.{lt_of_lt_of_le}
use lib.ListN.{length}
use Rattle.std.specs.Prelude.{Some, None}
use Rattle.terms.specs.Lists.{insert, sort, Rising}
use Rattle.terms.specs.Order.{before}
use Rattle.terms.specs.Term.{IsTerm}
use Rattle.terms.specs.declared.Term.{Term}
use Rattle.terms.proofs.Embeddings.{rising-length}
use Rattle.terms.proofs.Listed.{before-total, inserted_rising, sorted-in, sorted-only}
use Rattle.terms.proofs.Sorted.{insert-out, insert-in}
use Rattle.lists.specs.List.{held}
use Rattle.insertion.specs.Filled.{Filled}
use Rattle.insertion.proofs.Again.{filled-length, filled-fits, filled-held, filled-then}
use Rattle.insertion.proofs.Parts.{Even, kept_full, filled_none, filled-full}
use Rattle.settling.specs.Growth.{Front, Grew, Overflow}

-- both slices are as long
evens : {N : ℕ} {s : Bool → List ℕ} {count : ℕ} → Front N s count → Even s
evens f true = refl
evens f false = f.even

module _ {N : ℕ} {s : Bool → List ℕ} {count : ℕ} (f : Front N s count) {more : List Term} where
  -- nothing more
  pub grew_none : Grew more s count s count
  grew_none =
      record {
        holds = filled_none s (evens f) count f.fits;
        rising = f.rising;
        only = λ t m. inl m;
        keeps = λ t m. m;
      }

  module _ {s' : Bool → List ℕ} {c : ℕ} (g : Grew more s count s' c) where
    pub grew-length : (d : Bool) → length (s' d) ≡ length (s d)
    grew-length = filled-length (held s' c) s s' (evens f) c g.holds

    pub grew-front : ((t : Term) → Memᴰ t more → IsTerm N t) → Front N s' c
    grew-front terms =
        record {
          fits = filled-fits (held s' c) s s' (evens f) c g.holds;
          even = grew-length false ∙ f.even ∙ sym (grew-length true);
          rising = g.rising;
          terms = λ t m. ⊎_elim (f.terms t) (terms t) (g.only t m);
        }

    -- one growth after another
    pub grew_then : {s'' : Bool → List ℕ} {d : ℕ} → Grew more s' c s'' d → Grew more s count s'' d
    grew_then {s''} {d} h =
        record {
          holds = filled-then (held s' c) s s' (evens f) c g.holds (held s'' d) s'' (Some d) (longer h) h.holds;
          rising = h.rising;
          only = λ t m. ⊎_elim (g.only t) inr (h.only t m);
          keeps = λ t m. h.keeps t (g.keeps t m);
        }
      where
        longer : Grew more s' c s'' d → length (held s' c) ≤ length (held s'' d)
        longer h = rising-length [] (held s' c) (held s'' d) g.rising h.keeps

    pub over-then : Overflow more s' c → Overflow more s count
    over-then o =
        record {
          list = o.list;
          rising = o.rising;
          only = λ t m. ⊎_elim (g.only t) inr (o.only t m);
          over = subst (λ (n : ℕ). n < length o.list) (grew-length true) o.over;
        }

  -- one term more
  module _ (t : Term) (k : IsTerm N t) (m : Memᴰ t more) where
    only-these : (u : Term) → Memᴰ u (insert (before []) t (held s count)) → Memᴰ u (held s count) ⊎ Memᴰ u more
    only-these u n =
        ⊎_elim (λ (e : u ≡ t). inr (subst (λ (z : Term). Memᴰ z more) (sym e) m)) inl
        (insert-out (before []) t (held s count) u n)

    into : (u : Term) → (u ≡ t) ⊎ Memᴰ u (held s count) → Memᴰ u (insert (before []) t (held s count))
    into = insert-in (before []) (IsTerm N) (before-total [] N) t (held s count) k f.terms

    pub grew-insert : {s' : Bool → List ℕ} {c : ℕ} → Filled (insert (before []) t (held s count)) s s' (Some c)
        → Grew more s count s' c × Memᴰ t (held s' c)
    grew-insert {s'} {c} h =
        let e : held s' c ≡ insert (before []) t (held s count) =
        filled-held (insert (before []) t (held s count)) s s' (evens f) c h in (
          record {
            holds = subst (λ (l : List Term). Filled l s s' (Some c)) (sym e) h;
            rising = subst (Rising (before [])) (sym e) (inserted_rising [] t (held s count) f.rising);
            only = λ u n. only-these u (subst (λ (l : List Term). Memᴰ u l) e n);
            keeps = λ u n. subst (λ (l : List Term). Memᴰ u l) (sym e) (into u (inr n));
          },
          subst (λ (l : List Term). Memᴰ t l) (sym e) (into t (inl refl)),
        )

    pub over-insert : {s' : Bool → List ℕ} → Filled (insert (before []) t (held s count)) s s' None → Overflow more s count
    over-insert h =
        record {
          list = insert (before []) t (held s count);
          rising = inserted_rising [] t (held s count) f.rising;
          only = only-these;
          over = kept_full (length (s true)) (insert (before []) t (held s count)) h.answer;
        }

  -- ---- from the empty list: the whole of `more`, or more than the slices hold
  module _ (none : count ≡ 0) (terms : (t : Term) → Memᴰ t more → IsTerm N t) where
    empty-only : {l : List Term} → ((t : Term) → Memᴰ t l → Memᴰ t (held s count) ⊎ Memᴰ t more)
        → (t : Term) → Memᴰ t l → Memᴰ t more
    empty-only h t m =
        ⊎_elim (λ (n : Memᴰ t (held s count)). absurd (nothing-held t n)) (λ (n : Memᴰ t more). n) (h t m)
      where
        nothing-held : (t : Term) → Memᴰ t (held s count) → ⊥
        nothing-held t n = Memᴰ.not-nil (subst (λ (k : ℕ). Memᴰ t (held s k)) none n)

    pub grew-whole : {s' : Bool → List ℕ} {c : ℕ} → Grew more s count s' c
        → ((t : Term) → Memᴰ t more → Memᴰ t (held s' c)) → Filled (sort (before []) more) s s' (Some c)
    grew-whole {s'} {c} g all =
        subst (λ (l : List Term). Filled l s s' (Some c))
        (sorted-only [] N (held s' c) more g.rising terms (empty-only g.only) all)
        g.holds

    pub over-whole : {s' : Bool → List ℕ} → Overflow more s count → Filled (sort (before []) more) s s' None
    over-whole {s'} o =
        filled-full (sort (before []) more) s s'
        (lt_of_lt_of_le o.over (rising-length [] o.list (sort (before []) more) o.rising
        (λ t m. sorted-in [] N more terms t (empty-only o.only t m))))
