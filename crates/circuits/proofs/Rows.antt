-- The lists that are made of each kind of node are prime implicants in order, of its function or of its negation.
use Prim.Native.Nat.{ℕ, ◌<◌}
use mathlib.Core.Path.{◌≡◌, refl, sym, ap, subst, ◌∙◌, fun_ext}
use mathlib.Core.Bool.{Bool, true, false, not, cond, and-true}
use mathlib.Core.Logic.{⊎_elim}
use mathlib.Core.List.Memᴰ
use mathlib.Core.List.{List, [], ◌∷◌}
use lib.Dec.{T, T_not}
use Rattle.masks.specs.Mask.{bit, put}
use Rattle.masks.proofs.Masks.{put_same, put-lt}
use Rattle.masks.proofs.Tests.{decide, along}
use Rattle.table.specs.Node.{node_at, constant, literal, decision, conjunction}
use Rattle.terms.specs.Joins.{decision_terms}
use Rattle.terms.specs.Lists.{sort}
use Rattle.terms.specs.Order.{before}
use Rattle.terms.specs.Prime.{primes, Implicant, Prime, Lists}
use Rattle.terms.specs.Term.{empty, has, without, extend, IsTerm}
use Rattle.terms.specs.declared.Term.{Term}
use Rattle.terms.proofs.Built.{decision-lists}
use Rattle.terms.proofs.Decisions.{choice}
use Rattle.terms.proofs.Implicants.{least-same}
use Rattle.terms.proofs.Listed.{primes-lists, sort-primes}
use Rattle.terms.proofs.Terms.{Inside, extend-there, extend-only, empty-has, by-variable, without-inside, agrees-inside, put-agrees}
use Rattle.terms.proofs.Terms.{own-agrees}
use Rattle.circuits.specs.Function.{signed, function, signed_function}
use Rattle.circuits.proofs.Accepted.{variables-wide, Accepted}
use Rattle.circuits.proofs.Nodes.{node-fits, true-prime, signed-not, literal-prime}
use Rattle.circuits.proofs.Signed.{signed_sides, signed_all, signed-signed, signed_is, side-free}

-- ---- the leaves
module _ (N : ℕ) where
  none-lists : Lists N (λ s. false) []
  none-lists =
      record {
        only = λ t m. absurd (Memᴰ.not-nil m);
        every = λ t c. absurd (c.holds t.positive (c.is_term.fits true) (own-agrees N t c.is_term));
      }

  -- one prime implicant that is inside every other
  one-lists : (f : ℕ → Bool) (t : Term) → Prime N f t → ((u : Term) → Prime N f u → Inside t u) → Lists N f (t ∷ [])
  one-lists f t c h =
      record {
        only = λ u m. subst (Prime N f) (sym (Memᴰ.eq_of_singleton m)) c;
        every = λ u d. Memᴰ.head (sym (least-same N f u t d c.is_term (h u d) c.holds));
      }

  constant-lists : (b : Bool) → Lists N (λ s. b) (cond b (empty ∷ []) [])
  constant-lists true = one-lists (λ s. true) empty (true-prime N) (λ u d x b p. absurd (empty-has x b p))
  constant-lists false = none-lists

  -- an implicant of a literal has it
  literal-in : (b : Bool) (x : ℕ) → x < N → (t : Term) → IsTerm N t → Implicant N (λ s. signed b (bit s x)) t → T (has t b x)
  literal-in b x l t h i =
      ⊎_elim (λ (p : T (has t b x)). p)
      (λ (n : T (not (has t b x))).
      absurd
      (signed-not N b
      (along (ap (signed b) (put_same t.positive x (not b)))
      (i (put t.positive x (not b)) (put-lt N t.positive x (not b) l (h.fits true))
      (put-agrees t x (not b) t.positive (λ c q. other b c (λ e. T_not (has t b x) n (subst (λ (d : Bool). T (has t d x)) e q)))
      (agrees-inside (without t x) t t.positive (without-inside t x) (own-agrees N t h)))))))
      (decide (has t b x))
    where
      other : (b c : Bool) → (c ≡ b → ⊥) → c ≡ not b
      other true true f = absurd (f refl)
      other true false f = refl
      other false true f = refl
      other false false f = absurd (f refl)

  literal-lists : (b : Bool) (x : ℕ) → x < N → Lists N (λ s. signed b (bit s x)) (extend empty x b ∷ [])
  literal-lists b x l =
      one-lists (λ s. signed b (bit s x)) (extend empty x b) (literal-prime N b x l)
      (λ u d. by-variable (extend empty x b) x (λ y c. T (has u c y))
      (λ c p. subst (λ (e : Bool). T (has u e x)) (sym (extend-only empty x b c (empty-has x) p))
      (literal-in b x l u d.is_term d.holds))
      (λ y c n p. absurd (empty-has y c (along (extend-there empty x y b c n) p))))

  -- a list of one or none is in order as it stands
  sort-constant : (m : List ℕ) (b : Bool) → sort (before m) (cond b (empty ∷ []) []) ≡ cond b (empty ∷ []) []
  unfolding sort
  sort-constant m true = refl
  sort-constant m false = refl

  sort-one : (m : List ℕ) (t : Term) → sort (before m) (t ∷ []) ≡ t ∷ []
  unfolding sort
  sort-one m t = refl

  -- the terms of the leaves are their prime implicants
  constant-primes : (m : List ℕ) (b : Bool) → cond b (empty ∷ []) [] ≡ primes m N (λ s. b)
  constant-primes m b = sym (sort-constant m b) ∙ sort-primes m N (λ s. b) (cond b (empty ∷ []) []) (constant-lists b)

  literal-primes : (m : List ℕ) (b : Bool) (x : ℕ) → x < N → extend empty x b ∷ [] ≡ primes m N (λ s. signed b (bit s x))
  literal-primes m b x l =
      sym (sort-one m (extend empty x b)) ∙ sort-primes m N (λ s. signed b (bit s x)) (extend empty x b ∷ []) (literal-lists b x l)

-- ---- the nodes of an accepted table: the terms that are made are the prime implicants of the node's function, or of its negation
module _ {N n : ℕ} {w : List ℕ} (acc : Accepted N n w) (m : List ℕ) (c : Bool) where
  abbrev rows : ℕ → List Term
  rows i = primes m N (signed_function c w i)

  -- a constant, a literal
  pub constant-rows : (i : ℕ) (b : Bool) → i < n → node_at w i ≡ constant b → cond (signed c b) (empty ∷ []) [] ≡ rows i
  constant-rows i b l e = constant-primes N m (signed c b) ∙ ap (primes m N) (sym (signed_is acc c i (constant b) l e))

  pub literal-rows : (i : ℕ) (b : Bool) (x : ℕ) → i < n → node_at w i ≡ literal b x → extend empty x (signed c b) ∷ [] ≡ rows i
  literal-rows i b x l e =
      literal-primes N m (signed c b) x (node-fits acc i (literal b x) l e)
      ∙ ap (primes m N) (fun_ext (λ s. signed-signed c b (bit s x)) ∙ sym (signed_is acc c i (literal b x) l e))

  -- a decision, from its sides' (Proposition 5)
  pub decision-rows : (i x a b : ℕ) → i < n → node_at w i ≡ decision x a b → sort (before m) (decision_terms x (rows a) (rows b)) ≡ rows i
  decision-rows i x a b l e =
      let F : Bool → ℕ → Bool = signed_sides c w a b in
      sort-primes m N (choice F x) (decision_terms x (rows a) (rows b))
      (decision-lists N (variables-wide acc) F x (node-fits acc i (decision x a b) l e).0 (side-free acc c i x a b l e) (rows a) (rows b)
      (primes-lists m N (F false)) (primes-lists m N (F true)))
      ∙ ap (primes m N) (sym (signed_is acc c i (decision x a b) l e))

  -- a conjunction of one child, and of several
  pub alone-rows : (d : ℕ) → rows d ≡ primes m N (signed_all c w (d ∷ []))
  alone-rows d = ap (primes m N) (fun_ext (λ s. ap (signed c) (sym (and-true (function w d s)))))

  pub conjunction-rows : (i : ℕ) (ds : List ℕ) → i < n → node_at w i ≡ conjunction ds → primes m N (signed_all c w ds) ≡ rows i
  conjunction-rows i ds l e = ap (primes m N) (sym (signed_is acc c i (conjunction ds) l e))
