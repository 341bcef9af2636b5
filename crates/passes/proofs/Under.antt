-- An assignment with a term's literals forced upon it, and the models of a function under the term.
-- s with the literals of t forced
use Prim.Native.Nat.{ℕ, ◌+◌, ◌-◌, ◌*◌, ◌/◌, ◌^◌, ◌<◌, ◌≤◌}
use mathlib.Core.Path.{◌≡◌, refl, sym, ap, ap₂, subst, ◌∙◌}
use mathlib.Core.Bool.{Bool, true, false, ◌&&◌, ◌||◌, not, cond, xor, true≢false}
use mathlib.Core.Logic.{◌⊎◌, inl, inr, ⊎_elim, ◌≢◌}
use native.Mathlib.Nat.{mul-div_cancel, eq_of_mul-eq-mul_right, mul-pos, mul-mul-mul_comm}
use native.Mathlib.Omega.{arith}
use lib.Dec.{T, not_T}
use lib.Bits.{bit_and, bit_or, bit_xor, and_lt, or_lt, xor_lt}
use lib.Pow.{pow-add, pow_pos}
use Rattle.masks.specs.Mask.{bit, put}
use Rattle.masks.specs.Numbers.{count}
use Rattle.masks.proofs.Masks.{bit-ext, put_same, put_other, put-lt}
use Rattle.masks.proofs.Numbers.{count-ext, count-mono, count-all, count_none, count-not}
use Rattle.masks.proofs.Operators.{bit-and, bit-or, bit-xor}
use Rattle.masks.proofs.Tests.{decide, is_true, is_false, along, same?}
use Rattle.terms.specs.Term.{has, mentions, agrees, Agrees, IsTerm}
use Rattle.terms.specs.declared.Term.{Term}
use Rattle.terms.proofs.Conjunctions.{conj}
use Rattle.terms.proofs.Counts.{count-conjunction, count-decision, count-free, count-agrees}
use Rattle.terms.proofs.Decisions.{choice}
use Rattle.terms.proofs.Implicants.{Free}
use Rattle.terms.proofs.Terms.{agrees-e}

under : Term → ℕ → ℕ
under t s = bit_or t.positive (bit_xor s (bit_and s t.negative))

-- a variable's value v, forced by a positive literal p or a negative one q
abbrev force : Bool → Bool → Bool → Bool
force p q v = p || xor v (v && q)

force-none : (p q v : Bool) → T (not p) → T (not q) → force p q v ≡ v
unfolding xor
force-none true q v a b = absurd a
force-none false true v a b = absurd b
force-none false false true a b = refl
force-none false false false a b = refl

force-some : (p q v u : Bool) → T (p || q) → force p q v ≡ force p q u
unfolding xor
force-some true q v u h = refl
force-some false true true true h = refl
force-some false true true false h = refl
force-some false true false true h = refl
force-some false true false false h = refl
force-some false false v u h = absurd h

module _ (N : ℕ) (t : Term) (w : IsTerm N t) where
  under-bit : (s x : ℕ) → bit (under t s) x ≡ force (has t true x) (has t false x) (bit s x)
  unfolding under
  under-bit s x =
      bit-or t.positive (bit_xor s (bit_and s t.negative)) x
      ∙ ap (λ (v : Bool). has t true x || v)
      (bit-xor s (bit_and s t.negative) x ∙ ap (xor (bit s x)) (bit-and s t.negative x))

  under-lt : (s : ℕ) → s < 2 ^ N → under t s < 2 ^ N
  unfolding under
  under-lt s l =
      or_lt N t.positive (bit_xor s (bit_and s t.negative)) (w.fits true)
      (xor_lt N s (bit_and s t.negative) l (and_lt N s t.negative l (w.fits false)))

  under-has : (s x : ℕ) (b : Bool) → T (has t b x) → bit (under t s) x ≡ b
  unfolding xor
  under-has s x true h = under-bit s x ∙ ap (λ (p : Bool). force p (has t false x) (bit s x)) (is_true (has t true x) h)
  under-has s x false h =
      under-bit s x
      ∙ ap₂ (λ (p q : Bool). force p q (bit s x))
      (is_false (has t true x) (not_T (has t true x) (λ q. true≢false (w.once x true false q h)))) (is_true (has t false x) h)
      ∙ go (bit s x)
    where
      go : (v : Bool) → xor v (v && true) ≡ false
      go true = refl
      go false = refl

  under-other : (s x : ℕ) → T (not (has t true x)) → T (not (has t false x)) → bit (under t s) x ≡ bit s x
  under-other s x a b = under-bit s x ∙ force-none (has t true x) (has t false x) (bit s x) a b

  -- an assignment that agrees is left as it is
  under-agrees : (s : ℕ) → s < 2 ^ N → Agrees t s → under t s ≡ s
  under-agrees s l a = bit-ext N (under t s) s (under-lt s l) l (λ x k. go x (decide (has t true x)) (decide (has t false x)))
    where
      go : (x : ℕ) → T (has t true x) ⊎ T (not (has t true x)) → T (has t false x) ⊎ T (not (has t false x))
          → bit (under t s) x ≡ bit s x
      go x (inl p) q = under-has s x true p ∙ sym (a x true p)
      go x (inr p) (inl q) = under-has s x false q ∙ sym (a x false q)
      go x (inr p) (inr q) = under-other s x p q

  -- a variable changed before and after
  under-put : (s x : ℕ) (b : Bool) → x < N → s < 2 ^ N
      → under t (put s x b) ≡ put (under t s) x (force (has t true x) (has t false x) b)
  under-put s x b k l =
      bit-ext N (under t (put s x b)) (put (under t s) x v) (under-lt (put s x b) (put-lt N s x b k l))
      (put-lt N (under t s) x v k (under-lt s l))
      (λ y h. under-bit (put s x b) y ∙ ⊎_elim (same y) (other y) (same? y x))
    where
      v : Bool
      v = force (has t true x) (has t false x) b

      same : (y : ℕ) → y ≡ x → force (has t true y) (has t false y) (bit (put s x b) y) ≡ bit (put (under t s) x v) y
      same y e =
          subst (λ (z : ℕ). force (has t true z) (has t false z) (bit (put s x b) z) ≡ bit (put (under t s) x v) z) (sym e)
          (ap (force (has t true x) (has t false x)) (put_same s x b) ∙ sym (put_same (under t s) x v))

      other : (y : ℕ) → y ≢ x → force (has t true y) (has t false y) (bit (put s x b) y) ≡ bit (put (under t s) x v) y
      other y n =
          ap (force (has t true y) (has t false y)) (put_other s x y b n)
          ∙ sym (put_other (under t s) x y v n ∙ under-bit s y)

  -- what does not matter to f does not matter to f under t, nor does a variable of the term
  free-under : (f : ℕ → Bool) (x : ℕ) → x < N → Free N f x → Free N (λ s. f (under t s)) x
  free-under f x k free s b l = ap f (under-put s x b k l) ∙ free (under t s) (force (has t true x) (has t false x) b) (under-lt s l)

  free-mentioned : (f : ℕ → Bool) (x : ℕ) → x < N → T (mentions t x) → Free N (λ s. f (under t s)) x
  free-mentioned f x k m s b l =
      ap f
      (bit-ext N (under t (put s x b)) (under t s) (under-lt (put s x b) (put-lt N s x b k l)) (under-lt s l)
      (λ y h. under-bit (put s x b) y ∙ ⊎_elim (same y) (other y) (same? y x) ∙ sym (under-bit s y)))
    where
      same : (y : ℕ) → y ≡ x
          → force (has t true y) (has t false y) (bit (put s x b) y) ≡ force (has t true y) (has t false y) (bit s y)
      same y e =
          force-some (has t true y) (has t false y) (bit (put s x b) y) (bit s y)
          (subst (λ (z : ℕ). T (mentions t z)) (sym e) m)

      other : (y : ℕ) → y ≢ x
          → force (has t true y) (has t false y) (bit (put s x b) y) ≡ force (has t true y) (has t false y) (bit s y)
      other y n = ap (force (has t true y) (has t false y)) (put_other s x y b n)

  -- ---- how many assignments make f true under t
  pub models : (ℕ → Bool) → ℕ
  models f = count (2 ^ N) (λ s. f (under t s))

  pub models-le : (f : ℕ → Bool) → models f ≤ 2 ^ N
  unfolding models
  models-le f =
      subst (λ (m : ℕ). models f ≤ m) (count-all (2 ^ N)) (count-mono (2 ^ N) (λ s. f (under t s)) (λ s. true) (λ i l h. tt))

  pub models-constant : (b : Bool) → models (λ s. b) ≡ cond b (2 ^ N) 0
  unfolding models
  models-constant true = count-all (2 ^ N)
  models-constant false = count_none (2 ^ N)

  -- the models of the function that agree with the term, times 2 for each literal
  pub models-agree : (f : ℕ → Bool) → count (2 ^ N) (λ s. agrees N t s && f s) * 2 ^ count N (mentions t) ≡ models f
  unfolding models
  models-agree f =
      ap (λ (m : ℕ). m * 2 ^ count N (mentions t))
      (count-ext (2 ^ N) (λ s. agrees N t s && f s) (λ s. agrees N t s && f (under t s)) (λ s l. go s l (decide (agrees N t s))))
      ∙ count-agrees N t (λ s. f (under t s)) w (λ x l m. free-mentioned f x l m)
    where
      go : (s : ℕ) → s < 2 ^ N → T (agrees N t s) ⊎ T (not (agrees N t s))
          → (agrees N t s && f s) ≡ (agrees N t s && f (under t s))
      go s l (inl a) = ap (λ (z : ℕ). agrees N t s && f z) (sym (under-agrees s l (agrees-e N t s w a)))
      go s l (inr a) =
          ap (λ (v : Bool). v && f s) (is_false (agrees N t s) a) ∙ sym
          (ap (λ (v : Bool). v && f (under t s)) (is_false (agrees N t s) a))

  -- a decision by x between functions to which x does not matter
  pub models-choice : (F : Bool → ℕ → Bool) (x : ℕ) → x < N → ((b : Bool) → Free N (F b) x)
      → models (choice F x)
      ≡ cond (has t true x) (models (F true)) (cond (has t false x) (models (F false)) ((models (F false) + models (F true)) / 2))
  unfolding models
  models-choice F x k free = go (has t true x) refl (has t false x) refl
    where
      forced : (b : Bool) → T (has t b x) → models (choice F x) ≡ models (F b)
      forced b h =
          count-ext (2 ^ N) (λ s. choice F x (under t s)) (λ s. F b (under t s))
          (λ s l. ap (λ (c : Bool). F c (under t s)) (under-has s x b h))

      open' : T (not (has t true x)) → T (not (has t false x)) → models (choice F x) * 2 ≡ models (F false) + models (F true)
      open' a b =
          ap (λ (m : ℕ). m * 2)
          (count-ext (2 ^ N) (λ s. choice F x (under t s)) (choice (λ c s. F c (under t s)) x)
          (λ s l. ap (λ (c : Bool). F c (under t s)) (under-other s x a b)))
          ∙ count-decision N x (λ c s. F c (under t s)) k (λ c. free-under (F c) x k (free c))

      go : (p : Bool) → has t true x ≡ p → (q : Bool) → has t false x ≡ q
          → models (choice F x) ≡ cond p (models (F true)) (cond q (models (F false)) ((models (F false) + models (F true)) / 2))
      go true d q e = forced true (along (sym d) tt)
      go false d true e = forced false (along (sym e) tt)
      go false d false e =
          let h : models (choice F x) * 2 ≡ models (F false) + models (F true) =
          open' (along (ap not (sym d)) tt) (along (ap not (sym e)) tt) in
          omega arith

  -- a conjunction of functions with no variable in common: m holds those that may matter to f only
  pub models-conjunction : (f g : ℕ → Bool) (m : ℕ → Bool) → ((x : ℕ) → x < N → T (not (m x)) → Free N f x)
      → ((x : ℕ) → x < N → T (m x) → Free N g x)
      → models (conj N f g) ≡ models f / 2 ^ (N - count N m) * (models g / 2 ^ count N m)
  unfolding models
  models-conjunction f g m ff gg =
      let (q, e) = count-free N (λ s. f (under t s)) (λ x. not (m x)) (λ x l h. free-under f x l (ff x l h)) in
      let (r, d) = count-free N (λ s. g (under t s)) m (λ x l h. free-under g x l (gg x l h)) in
      let all : count N m + count N (λ x. not (m x)) ≡ N = count-not N m in
      let rest : count N (λ x. not (m x)) ≡ N - count N m = omega arith in
      quotient (models (conj N f g)) (models f) (models g) q r (2 ^ (N - count N m)) (2 ^ count N m) (pow_pos (N - count N m))
      (pow_pos (count N m)) (e ∙ ap (λ (z : ℕ). q * 2 ^ z) rest) d
      (ap (λ (z : ℕ). models (conj N f g) * z)
      (sym (pow-add 2 (N - count N m) (count N m)) ∙ ap (λ (z : ℕ). 2 ^ z) (omega arith))
      ∙ count-conjunction N (λ s. f (under t s)) (λ s. g (under t s)) apart)
    where
      apart : (x : ℕ) → x < N → Free N (λ s. f (under t s)) x ⊎ Free N (λ s. g (under t s)) x
      apart x l =
          ⊎_elim (λ (h : T (m x)). inr (free-under g x l (gg x l h))) (λ (h : T (not (m x))). inl (free-under f x l (ff x l h)))
          (decide (m x))

      quotient : (c a b q r F O : ℕ) → 0 < F → 0 < O → a ≡ q * F → b ≡ r * O → c * (F * O) ≡ a * b → c ≡ a / F * (b / O)
      quotient c a b q r F O hF hO ea eb e =
          let qa : a / F ≡ q = ap (λ (z : ℕ). z / F) ea ∙ mul-div_cancel q hF in
          let rb : b / O ≡ r = ap (λ (z : ℕ). z / O) eb ∙ mul-div_cancel r hO in
          eq_of_mul-eq-mul_right (F * O) (mul-pos hF hO) c (q * r) (e ∙ ap₂ ◌*◌ ea eb ∙ mul-mul-mul_comm q F r O)
          ∙ sym (ap₂ ◌*◌ qa rb)
