-- T4, Propositions 4 and 5: the prime implicants of a decision by x between two functions to which x does not matter.
use Prim.Native.Nat.{ℕ, ◌^◌, ◌<◌}
use mathlib.Core.Path.{◌≡◌, sym, ap₂, subst}
use mathlib.Core.Bool.{Bool, true, false, ◌&&◌, not}
use mathlib.Core.Logic.{◌≢◌}
use lib.Dec.{T}
use Rattle.masks.specs.Mask.{bit, put}
use Rattle.masks.proofs.Masks.{put_same, put-lt}
use Rattle.masks.proofs.Tests.{along, either}
use Rattle.terms.specs.Prime.{Implicant, Prime}
use Rattle.terms.specs.Term.{has, without, extend, IsTerm}
use Rattle.terms.specs.declared.Term.{Term}
use Rattle.terms.proofs.Conjunctions.{conj, conj-l, conj-r, conj-i}
use Rattle.terms.proofs.Implicants.{Free, implicant-more, free-unmentioned}
use Rattle.terms.proofs.Terms.{Unmentioned, without-here, without-there, extend-here, by-variable, without-inside, without-swap}
use Rattle.terms.proofs.Terms.{agrees-inside, put-agrees, without-IsTerm, extend-IsTerm, without-extend}

-- the side F false where x is no, the side F true where x is yes
abbrev pub choice : (Bool → ℕ → Bool) → ℕ → ℕ → Bool
choice F x s = F (bit s x) s

module _ (N : ℕ) (F : Bool → ℕ → Bool) (x : ℕ) (l : x < N) (free : (b : Bool) → Free N (F b) x) where
  abbrev meet : ℕ → Bool
  meet = conj N (F false) (F true)

  side-of : (b : Bool) (s : ℕ) → s < 2 ^ N → T (choice F x (put s x b)) → T (F b s)
  side-of b s k h = along (free b s b k) (subst (λ (c : Bool). T (F c (put s x b))) (put_same s x b) h)

  -- ---- implicants: with no literal of x, of both sides; with one, its rest of that side
  pub to-sides : (t : Term) → Unmentioned t x → Implicant N (choice F x) t → (b : Bool) → Implicant N (F b) t
  to-sides t none h b s k a =
      side-of b s k
      (h (put s x b) (put-lt N s x b l k)
      (put-agrees t x b s (λ c p. absurd (none c p)) (agrees-inside (without t x) t s (without-inside t x) a)))

  pub from-sides : (t : Term) → ((b : Bool) → Implicant N (F b) t) → Implicant N (choice F x) t
  from-sides t h s k a = h (bit s x) s k a

  pub to-rest : (t : Term) (b : Bool) → IsTerm N t → T (has t b x) → Implicant N (choice F x) t → Implicant N (F b) (without t x)
  to-rest t b w p h s k a =
      side-of b s k (h (put s x b) (put-lt N s x b l k) (put-agrees t x b s (λ c q. w.once x c b q p) a))

  pub from-rest : (t : Term) (b : Bool) → T (has t b x) → Implicant N (F b) (without t x) → Implicant N (choice F x) t
  from-rest t b p h s k a =
      subst (λ (c : Bool). T (F c s)) (sym (a x b p)) (h s k (agrees-inside (without t x) t s (without-inside t x) a))

  to-meet : (t : Term) → Unmentioned t x → Implicant N (choice F x) t → Implicant N meet t
  to-meet t none h = conj-i N (F false) (F true) t (to-sides t none h false) (to-sides t none h true)

  from-meet : (t : Term) → Implicant N meet t → Implicant N (choice F x) t
  from-meet t h =
      from-sides t
      (either (λ b. Implicant N (F b) t) false (conj-l N (F false) (F true) t h) (conj-r N (F false) (F true) t h))

  -- ---- Proposition 5, the prime implicants with a literal of x
  pub with-literal : (t : Term) (b : Bool) → T (has t b x) → Prime N (choice F x) t
      → Prime N (F b) (without t x) × (Implicant N (F (not b)) (without t x) → ⊥)
  with-literal t b p c = (
    record {
      is_term = without-IsTerm N t x c.is_term;
      holds = rest;
      minimal = λ y d q h.
          let n : x ≢ y = (λ e. without-here t x d (subst (λ (z : ℕ). T (has (without t x) d z)) (sym e) q)) in
          c.minimal y d (without-inside t x y d q)
          (from-rest (without t y) b (along (sym (without-there t y x b n)) p)
          (implicant-more N (F b) (without (without t x) y) (without (without t y) x) (without-swap t x y) h));
    },
    λ h. c.minimal x b p (from-sides (without t x) (either (λ d. Implicant N (F d) (without t x)) b rest h)),
  )
    where
      rest : Implicant N (F b) (without t x)
      rest = to-rest t b c.is_term p c.holds

  pub literal-with : (t : Term) (b : Bool) → IsTerm N t → T (has t b x) → Prime N (F b) (without t x)
      → (Implicant N (F (not b)) (without t x) → ⊥) → Prime N (choice F x) t
  literal-with t b w p c other =
      record {
        is_term = w;
        holds = from-rest t b p c.holds;
        minimal =
            by-variable t x (λ y d. Implicant N (choice F x) (without t y) → ⊥)
            (λ d q h. other (to-sides (without t x) (without-here t x) h (not b)))
            (λ y d n q h.
            c.minimal y d (along (sym (without-there t x y d n)) q)
            (implicant-more N (F b) (without (without t y) x) (without (without t x) y) (without-swap t y x)
            (to-rest (without t y) b (without-IsTerm N t y w) (along (sym (without-there t y x b (λ e. n (sym e)))) p) h)));
      }

  -- ---- Proposition 5, the prime implicants with no literal of x
  pub no-literal : (t : Term) → Unmentioned t x → Prime N (choice F x) t → Prime N meet t
  no-literal t none c =
      record {
        is_term = c.is_term;
        holds = to-meet t none c.holds;
        minimal = λ y d p h. c.minimal y d p (from-meet (without t y) h);
      }

  pub meet-prime : (t : Term) → Prime N meet t → Prime N (choice F x) t
  meet-prime t c =
      record {
        is_term = c.is_term;
        holds = from-meet t c.holds;
        minimal = λ y d p h. c.minimal y d p (to-meet (without t y) (λ b q. none b (without-inside t y x b q)) h);
      }
    where
      none : Unmentioned t x
      none = free-unmentioned N meet x (λ s b k. ap₂ ◌&&◌ (free false s b k) (free true s b k)) t c

  -- ---- Proposition 4: a side's prime implicant is one of the decision, with the literal of x if the other side lacks it
  pub side-unmentioned : (b : Bool) (t : Term) → Prime N (F b) t → Unmentioned t x
  side-unmentioned b t c = free-unmentioned N (F b) x (free b) t c

  pub both-sides : (b : Bool) (t : Term) → Prime N (F b) t → Implicant N (F (not b)) t → Prime N (choice F x) t
  both-sides b t c h =
      record {
        is_term = c.is_term;
        holds = from-sides t (either (λ d. Implicant N (F d) t) b c.holds h);
        minimal = λ y d p q. c.minimal y d p
            (to-sides (without t y) (λ e r. side-unmentioned b t c e (without-inside t y x e r)) q b);
      }

  pub one_side : (b : Bool) (t : Term) → Prime N (F b) t → (Implicant N (F (not b)) t → ⊥) → Prime N (choice F x) (extend t x b)
  one_side b t c other =
      let bare : Unmentioned t x = side-unmentioned b t c in
      let e : without (extend t x b) x ≡ t = without-extend N t x b l c.is_term bare in
      literal-with (extend t x b) b (extend-IsTerm N t x b l c.is_term bare) (extend-here t x b)
      (subst (Prime N (F b)) (sym e) c) (λ q. other (subst (Implicant N (F (not b))) e q))
