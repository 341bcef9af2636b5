-- What a look for a kept term says, case by case.
use Prim.Native.Nat.{ℕ, ◌<◌}
use mathlib.Core.Path.{◌≡◌, sym, subst, ◌∙◌}
use mathlib.Core.Bool.{Bool, true, false, true≢false}
use mathlib.Core.Logic.{◌⊎◌, inl, inr}
use mathlib.Core.List.{List}
use Rattle.std.specs.Prelude.{Option, Some}
use Rattle.masks.proofs.Tests.{along, is_true}
use Rattle.terms.specs.Term.{join, inside, conflict}
use Rattle.terms.specs.declared.Term.{Term}
use Rattle.terms.proofs.Terms.{join-l, inside-mono}
use Rattle.lists.specs.List.{nth}
use Rattle.lists.specs.declared.list.TermList.{TermList}
use Rattle.hints.specs.Kept.{kept_at}
use Rattle.settling.specs.Sides.{KeptIn, Settled, SettledFrom}
use Rattle.settling.specs.Tries.{Tries}
use Rattle.settling.specs.declared.rows.Tried.{Tried}

module _ {kept : List ℕ} {k : ℕ} {t u : Term} {r : Tried} (v : Term) (e : v ≡ u) where
  pub tries-conflict : conflict t v ≡ true → r.settled ≡ true → Tries kept k t u r
  tries-conflict c s =
      record {
        yes = λ _. inl (subst (λ (z : Term). conflict t z ≡ true) e c);
        no = λ n. absurd (true≢false (sym s ∙ n));
      }

  -- there is no conflict, and the answer is that of a test for a kept term
  pub tries-kept : (q : Term) (hint : Option ℕ) (b : Bool) → conflict t v ≡ false → q ≡ join t v
      → (b ≡ true → (h : ℕ) × (hint ≡ Some h) × (h < k) × (inside (kept_at kept h) q ≡ true)) → r.settled ≡ b → Tries kept k t u r
  tries-kept q hint b c d found s =
      record {
        yes = λ y. let (h, n, l, i) = found (sym s ∙ y) in
            let one = subst (λ (z : Term). inside (kept_at kept h) z ≡ true) d i in
            inr (h, l, subst (λ (z : Term). inside (kept_at kept h) (join t z) ≡ true) e one);
        no = λ n. subst (λ (z : Term). conflict t z ≡ false) e c;
      }

  pub tries-not : conflict t v ≡ false → r.settled ≡ false → Tries kept k t u r
  tries-not c s =
      record {
        yes = λ y. absurd (true≢false (sym y ∙ s));
        no = λ n. subst (λ (z : Term). conflict t z ≡ false) e c;
      }

-- a kept term settles the pair
pub tried-settled : {least l : List Term} {kept : List ℕ} {k : ℕ} (t u : Term) {r : Tried} → KeptIn least l kept k → Tries kept k t u r
    → r.settled ≡ true → Settled least l t u
tried-settled {least} {l} {kept} {k} t u h p e = go (p.yes e)
  where
    go : (conflict t u ≡ true) ⊎ ((j : ℕ) × (j < k) × (inside (kept_at kept j) (join t u) ≡ true)) → Settled least l t u
    go (inl c) = inl c
    go (inr (j, m, i)) =
        inr (record { term = kept_at kept j; is-listed = h.are-listed j m; is-least = h.are-least j m; is-inside = i })

-- a kept term inside t settles all of its pairs
pub row-covered : {least l : List Term} {kept : List ℕ} {k : ℕ} (t : Term) (b : TermList) (from : ℕ) (hint : Option ℕ)
    → KeptIn least l kept k → (h : ℕ) × (hint ≡ Some h) × (h < k) × (inside (kept_at kept h) t ≡ true)
    → SettledFrom least l t b from
row-covered {least} {l} {kept} {k} t b from hint keeps (h, n, m, i) j le lt =
    inr
    (record {
      term = kept_at kept h;
      is-listed = keeps.are-listed h m;
      is-least = keeps.are-least h m;
      is-inside = is_true (inside (kept_at kept h) (join t (nth b j)))
          (inside-mono (kept_at kept h) t (join t (nth b j)) (along (sym i) tt) (join-l t (nth b j)));
    })
