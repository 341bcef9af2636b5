-- The prime implicants of any function of assignments against those of its negation.
use Prim.Native.Nat.{ℕ, ◌^◌, ◌<◌}
use mathlib.Core.Path.{◌≡◌, refl, sym, ◌∙◌}
use mathlib.Core.Bool.{Bool, true, false, ◌&&◌, ◌||◌, not, true≢false}
use mathlib.Core.List.{List, Memᴰ}
use mathlib.Core.Logic.{◌⊎◌, inl, inr, ⊎_elim}
use lib.Dec.{T, T_not}
use Rattle.masks.specs.Numbers.{some}
use Rattle.masks.proofs.Numbers.{some-e, some-i}
use Rattle.masks.proofs.Tests.{and_i, and_l, and_r, or_cases, or_l, or_r, decide}
use Rattle.terms.specs.Duality.{Opposite, AgreesWithOne, Dual}
use Rattle.terms.specs.Prime.{assignment_term, reduce, Implicant, Prime, Lists}
use Rattle.terms.specs.Term.{has, join, Agrees, IsTerm}
use Rattle.terms.specs.declared.Term.{Term}
use Rattle.terms.proofs.Struck.{reduction-prime}
use Rattle.terms.proofs.Terms.{join-l, join-r, agrees-inside, has-below, join-IsTerm, own-agrees}

not_itself : (b : Bool) → b ≡ not b → ⊥
not_itself true e = true≢false e
not_itself false e = true≢false (sym e)

-- an assignment has one value of the variable, so it agrees with one of the two only
pub opposite-apart : (t u : Term) (x s : ℕ) → Opposite t u x → Agrees t s → Agrees u s → ⊥
opposite-apart t u x s (b, p, q) a c = not_itself b (sym (a x b p) ∙ c x (not b) q)

-- an assignment that makes f true agrees with what striking down leaves of it
agreeing : (N : ℕ) (f : ℕ → Bool) (l : List Term) → Lists N f l → (s : ℕ) → s < 2 ^ N → T (f s) → AgreesWithOne l s
agreeing N f l p s k v =
    let (c, a) = reduction-prime N f s k v in
    let t : Term = reduce N f (assignment_term s N) N in
    (t, p.every t c, a)

module _ (N : ℕ) (f : ℕ → Bool) where
  abbrev negated : ℕ → Bool
  negated s = not (f s)

  -- ---- an implicant of f and one of its negation
  module _ (t u : Term) (h : IsTerm N t) (k : IsTerm N u) (p : Implicant N f t) (q : Implicant N negated u) where
    abbrev SameSigns : Type 0
    SameSigns = (x : ℕ) (b c : Bool) → T (has t b x) → T (has u c x) → b ≡ c

    -- if no signs differed, some assignment would agree with both
    pub signs-differ : SameSigns → ⊥
    signs-differ same =
        let j : IsTerm N (join t u) = join-IsTerm N t u h k same in
        let s : ℕ = (join t u).positive in
        let l : s < 2 ^ N = j.fits true in
        let a : Agrees (join t u) s = own-agrees N (join t u) j in
        T_not (f s) (q s l (agrees-inside u (join t u) s (join-r t u) a)) (p s l (agrees-inside t (join t u) s (join-l t u) a))

    -- whether x has the literal of sign b in t and the other one in u
    abbrev differs : Bool → ℕ → Bool
    differs b x = has t b x && has u (not b) x

    abbrev opposite_at : ℕ → Bool
    opposite_at x = differs true x || differs false x

    -- the test says so; where it finds none of the N variables, no signs differ
    found : (x : ℕ) → T (opposite_at x) → Opposite t u x
    found x d = ⊎_elim (literals true) (literals false) (or_cases (differs true x) (differs false x) d)
      where
        literals : (b : Bool) → T (differs b x) → Opposite t u x
        literals b e = (b, and_l (has t b x) (has u (not b) x) e, and_r (has t b x) (has u (not b) x) e)

    none : T (not (some N opposite_at)) → SameSigns
    none n x b c = by b c
      where
        clash : T (opposite_at x) → x < N → ⊥
        clash d l = T_not (some N opposite_at) n (some-i N opposite_at x l d)

        by : (b c : Bool) → T (has t b x) → T (has u c x) → b ≡ c
        by true true i j = refl
        by true false i j =
            absurd (clash (or_l (differs true x) (differs false x) (and_i (has t true x) (has u false x) i j)) (has-below N t h x true i))
        by false true i j =
            absurd (clash (or_r (differs true x) (differs false x) (and_i (has t false x) (has u true x) i j)) (has-below N t h x false i))
        by false false i j = refl

    pub implicants-opposite : (x : ℕ) × (x < N) × Opposite t u x
    implicants-opposite =
        ⊎_elim {C = (x : ℕ) × (x < N) × Opposite t u x}
        (λ (d : T (some N opposite_at)). let (x, l, e) = some-e N opposite_at d in (x, l, found x e))
        (λ (n : T (not (some N opposite_at))). absurd (signs-differ (none n)))
        (decide (some N opposite_at))

  -- ---- lists of all prime implicants of f and of its negation
  module _ (ts us : List Term) (p : Lists N f ts) (q : Lists N negated us) where
    opposite : (t u : Term) → Memᴰ t ts → Memᴰ u us → (x : ℕ) × (x < N) × Opposite t u x
    opposite t u i j =
        let c : Prime N f t = p.only t i in
        let d : Prime N negated u = q.only u j in
        implicants-opposite t u c.is_term d.is_term c.holds d.holds

    covered : (s : ℕ) → s < 2 ^ N → AgreesWithOne ts s ⊎ AgreesWithOne us s
    covered s l =
        ⊎_elim {C = AgreesWithOne ts s ⊎ AgreesWithOne us s}
        (λ (v : T (f s)). inl (agreeing N f ts p s l v))
        (λ (v : T (not (f s))). inr (agreeing N negated us q s l v))
        (decide (f s))

    apart : (s : ℕ) → AgreesWithOne ts s → AgreesWithOne us s → ⊥
    apart s (t, i, a) (u, j, b) = let (x, l, o) = opposite t u i j in opposite-apart t u x s o a b

    pub lists-dual : Dual N ts us
    lists-dual = record { opposite = opposite; covered = covered; apart = apart }
