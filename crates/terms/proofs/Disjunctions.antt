-- The prime implicants of a disjunction of two functions to which no variable matters in common: where neither is always true,
-- those of the one and those of the other.
use Prim.Native.Nat.{ℕ, zero, suc, ◌^◌, ◌<◌, ◌≤◌}
use mathlib.Core.Path.{◌≡◌, refl, sym, ap, subst, ◌∙◌, fun_ext}
use mathlib.Core.Bool.{Bool, ◌&&◌, ◌||◌, not, or_comm}
use mathlib.Core.Logic.{◌⊎◌, inl, inr, ⊎_elim, ⊎_map, ⊎_swap, ◌≢◌}
use mathlib.Core.List.Memᴰ
use mathlib.Core.List.{List, ◌++◌, Memᴰ}
use native.Mathlib.Nat.{le_refl}
use native.Mathlib.Omega.{arith}
use lib.Dec.{T, T_not}
use Rattle.masks.specs.Mask.{bit, put}
use Rattle.masks.specs.Numbers.{some}
use Rattle.masks.proofs.Masks.{bit-ext, put_same, put_other, put-lt}
use Rattle.masks.proofs.Numbers.{some-e, some-i}
use Rattle.masks.proofs.Tests.{and_i, and_l, and_r, or_l, or_r, or_cases, decide, along, same?}
use Rattle.terms.specs.Prime.{reduce, Implicant, Prime, Lists}
use Rattle.terms.specs.Term.{agrees, without, Agrees, IsTerm}
use Rattle.terms.specs.declared.Term.{Term}
use Rattle.terms.proofs.Conjunctions.{no-common}
use Rattle.terms.proofs.Embeddings.{Embeds}
use Rattle.terms.proofs.Implicants.{Free, reduce-prime}
use Rattle.terms.proofs.Terms.{Inside, inside-trans, without-inside, agrees-inside, put-agrees, without-IsTerm}
use Rattle.terms.proofs.Terms.{agrees-e, agrees-i}

-- an assignment stays in agreement with a term when it takes the value of x from another that agrees
copy-agrees : (t : Term) (x s u : ℕ) → Agrees t s → Agrees t u → Agrees t (put s x (bit u x))
copy-agrees t x s u a d =
    put-agrees t x (bit u x) s (λ c p. sym (d x c p)) (agrees-inside (without t x) t s (without-inside t x) a)

module _ (N : ℕ) where
  -- f or g is true
  abbrev pub disj : (ℕ → Bool) → (ℕ → Bool) → ℕ → Bool
  disj f g s = f s || g s

  -- an implicant of a side is one of the disjunction
  pub disj-l : (f g : ℕ → Bool) (t : Term) → Implicant N f t → Implicant N (disj f g) t
  disj-l f g t h s l a = or_l (f s) (g s) (h s l a)

  pub disj-r : (f g : ℕ → Bool) (t : Term) → Implicant N g t → Implicant N (disj f g) t
  disj-r f g t h s l a = or_r (f s) (g s) (h s l a)

  -- f is false at an assignment that agrees with the term
  abbrev pub Fails : (ℕ → Bool) → Term → Type 0
  Fails f t = (s : ℕ) × (s < 2 ^ N) × Agrees t s × T (not (f s))

  -- a term implies f or fails to
  pub implies-or-fails : (f : ℕ → Bool) (t : Term) → IsTerm N t → Implicant N f t ⊎ Fails f t
  implies-or-fails f t w = go (decide (some (2 ^ N) fails))
    where
      fails : ℕ → Bool
      fails s = agrees N t s && not (f s)

      go : T (some (2 ^ N) fails) ⊎ T (not (some (2 ^ N) fails)) → Implicant N f t ⊎ Fails f t
      go (inl h) =
          let (s, l, p) = some-e (2 ^ N) fails h in
          inr (s, l, agrees-e N t s w (and_l (agrees N t s) (not (f s)) p), and_r (agrees N t s) (not (f s)) p)
      go (inr h) =
          inl
          (λ s l a. ⊎_elim (λ (p : T (f s)). p)
          (λ (n : T (not (f s))).
          absurd (T_not (some (2 ^ N) fails) h (some-i (2 ^ N) fails s l (and_i (agrees N t s) (not (f s)) (agrees-i N t s a) n))))
          (decide (f s)))

  -- two assignments that are the same at the variables above k are so at k too when the one takes the value of k from the other
  copy-same : (s u k : ℕ) → ((x : ℕ) → k < x → x < N → bit s x ≡ bit u x)
      → (x : ℕ) → k ≤ x → x < N → bit (put s k (bit u k)) x ≡ bit u x
  copy-same s u k e x h l =
      ⊎_elim (λ (d : x ≡ k). ap (bit (put s k (bit u k))) d ∙ put_same s k (bit u k) ∙ ap (bit u) (sym d))
      (λ (n : x ≢ k). put_other s k x (bit u k) n ∙ e x (omega arith) l)
      (same? x k)

  -- ---- functions to which no variable matters in common
  module _ (f g : ℕ → Bool) (apart : (x : ℕ) → x < N → Free N f x ⊎ Free N g x) where
    -- an assignment that agrees with t, with f as at s and g as at u
    pub record Mixed (t : Term) (s u : ℕ) : Type 0 where
      pub at : ℕ
      pub fits : at < 2 ^ N
      pub agrees : Agrees t at
      pub left : f at ≡ f s
      pub right : g at ≡ g u

    -- made from the last variable down: at each, the assignment to whose function it does not matter takes the other's value
    mix : (t : Term) (k : ℕ) → k ≤ N → (s u : ℕ) → s < 2 ^ N → u < 2 ^ N → Agrees t s → Agrees t u
        → ((x : ℕ) → k ≤ x → x < N → bit s x ≡ bit u x) → Mixed t s u
    mix t zero h s u l m a d e =
        record {
          at = s;
          fits = l;
          agrees = a;
          left = refl;
          right = ap g (bit-ext N s u l m (λ x q. e x (omega arith) q));
        }
    mix t (suc k) h s u l m a d e =
        ⊎_elim {C = Mixed t s u}
        (λ (free : Free N f k).
        let v : ℕ = put s k (bit u k) in
        let r : Mixed t v u =
        mix t k (omega arith) v u (put-lt N s k (bit u k) h l) m (copy-agrees t k s u a d) d (copy-same s u k e) in
        record { at = r.at; fits = r.fits; agrees = r.agrees; left = r.left ∙ free s (bit u k) l; right = r.right })
        (λ (free : Free N g k).
        let v : ℕ = put u k (bit s k) in
        let r : Mixed t s v =
        mix t k (omega arith) s v l (put-lt N u k (bit s k) h m) a (copy-agrees t k u s d a)
        (λ x p q. sym (copy-same u s k (λ y i j. sym (e y i j)) x p q)) in
        record { at = r.at; fits = r.fits; agrees = r.agrees; left = r.left; right = r.right ∙ free u (bit s k) m })
        (apart k h)

    -- two assignments that agree with a term mix to one that agrees with it
    pub mixed : (t : Term) (s u : ℕ) → s < 2 ^ N → u < 2 ^ N → Agrees t s → Agrees t u → Mixed t s u
    mixed t s u l m a d = mix t N (le_refl N) s u l m a d (λ x h k. absurd (omega arith))

    -- an implicant of the disjunction is one of f or one of g
    pub either-implicant : (t : Term) → IsTerm N t → Implicant N (disj f g) t → Implicant N f t ⊎ Implicant N g t
    either-implicant t w h = go (implies-or-fails f t w)
      where
        go : Implicant N f t ⊎ Fails f t → Implicant N f t ⊎ Implicant N g t
        go (inl i) = inl i
        go (inr (s, l, a, n)) =
            inr
            (λ u m d.
            let r : Mixed t s u = mixed t s u l m a d in
            ⊎_elim (λ (p : T (f r.at)). absurd (T_not (f s) n (along r.left p)))
            (λ (p : T (g r.at)). along r.right p)
            (or_cases (f r.at) (g r.at) (h r.at r.fits r.agrees)))

    -- a prime implicant of the disjunction is one of f or one of g
    pub disj-prime : (t : Term) → Prime N (disj f g) t → Prime N f t ⊎ Prime N g t
    disj-prime t c =
        ⊎_map
        (λ (i : Implicant N f t).
        record { is_term = c.is_term; holds = i; minimal = λ x b p h. c.minimal x b p (disj-l f g (without t x) h) })
        (λ (i : Implicant N g t).
        record { is_term = c.is_term; holds = i; minimal = λ x b p h. c.minimal x b p (disj-r f g (without t x) h) })
        (either-implicant t c.is_term c.holds)

    -- no term inside a prime implicant of f implies g, where g is false somewhere: it would have no literal that matters to g
    none_inside : (u : ℕ) → u < 2 ^ N → T (not (g u)) → (t v : Term) → Prime N f t → IsTerm N v → Inside v t
        → Implicant N g v → ⊥
    none_inside u l n t v c w i h =
        let (d, j) = reduce-prime N g v w h in
        T_not (g u) n
        (d.holds u l
        (λ x b p. absurd (no-common N f g apart t (reduce N g v N) c d x b b (inside-trans (reduce N g v N) v t j i x b p) p)))

    -- where g is false somewhere, a prime implicant of f is one of the disjunction
    pub left-disj : (u : ℕ) → u < 2 ^ N → T (not (g u)) → (t : Term) → Prime N f t → Prime N (disj f g) t
    left-disj u l n t c =
        record {
          is_term = c.is_term;
          holds = disj-l f g t c.holds;
          minimal = λ x b p h.
              let w : IsTerm N (without t x) = without-IsTerm N t x c.is_term in
              ⊎_elim (c.minimal x b p) (none_inside u l n t (without t x) c w (without-inside t x))
              (either-implicant (without t x) w h);
        }

  module _ (f g : ℕ → Bool) (apart : (x : ℕ) → x < N → Free N f x ⊎ Free N g x) where
    -- where f is false somewhere, a prime implicant of g is one of the disjunction
    pub right-disj : (u : ℕ) → u < 2 ^ N → T (not (f u)) → (t : Term) → Prime N g t → Prime N (disj f g) t
    right-disj u l n t c =
        subst (λ (h : ℕ → Bool). Prime N h t) (fun_ext (λ s. or_comm (g s) (f s)))
        (left-disj g f (λ x k. ⊎_swap (apart x k)) u l n t c)

    -- ---- f is false at u, g at v: the lists of both, one after the other
    pub union-lists : (u : ℕ) → u < 2 ^ N → T (not (f u)) → (v : ℕ) → v < 2 ^ N → T (not (g v))
        → (a b : List Term) → Lists N f a → Lists N g b → Lists N (disj f g) (a ++ b)
    union-lists u l p v m q a b la lb =
        record {
          only = λ t k. ⊎_elim (λ (i : Memᴰ t a). left-disj f g apart v m q t (la.only t i))
              (λ (i : Memᴰ t b). right-disj u l p t (lb.only t i))
              (Memᴰ.append_cases a k);
          every = λ t c. ⊎_elim (λ (d : Prime N f t). Memᴰ.append_left b (la.every t d))
              (λ (d : Prime N g t). Memᴰ.append_right a (lb.every t d))
              (disj-prime f g apart t c);
        }

    -- the prime implicants of a side go into those of the disjunction as they are, where the other side is false somewhere
    pub left-within : (u : ℕ) → u < 2 ^ N → T (not (g u)) → Embeds N f (disj f g)
    left-within u l n = record { to = λ t. t; keeps = left-disj f g apart u l n; apart = λ t v c d e. e }

    pub right-within : (u : ℕ) → u < 2 ^ N → T (not (f u)) → Embeds N g (disj f g)
    right-within u l n = record { to = λ t. t; keeps = right-disj u l n; apart = λ t v c d e. e }
