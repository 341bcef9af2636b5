-- The implicant pass says of each node of an accepted table whether the term is an implicant of its function.
use Prim.Native.Nat.{ℕ, ◌<◌}
use mathlib.Core.Path.{◌≡◌, refl, sym, ap, subst, ◌∙◌}
use mathlib.Core.Bool.{Bool, true, false, ◌&&◌, not, cond}
use mathlib.Core.Logic.{⊎_elim}
use mathlib.Core.List.{List, [], ◌∷◌}
use lib.Dec.{T, T_not, not_T}
use Rattle.masks.specs.Mask.{bit, put}
use Rattle.masks.proofs.Masks.{put_same, put_other, put-lt}
use Rattle.masks.proofs.Tests.{and_i, and_l, and_r, decide, is_true, is_false, along, same_test, either}
use Rattle.table.specs.Node.{node_at, Node, constant, literal, decision, conjunction, unknown}
use Rattle.table.proofs.Encoding.{Fits}
use Rattle.terms.specs.Lists.{all}
use Rattle.terms.specs.Prime.{implicant, Implicant}
use Rattle.terms.specs.Term.{has, Agrees, IsTerm}
use Rattle.terms.specs.declared.Term.{Term}
use Rattle.terms.proofs.Conjunctions.{conj, conj-l, conj-r, conj-i}
use Rattle.terms.proofs.Decisions.{choice, to-sides, from-sides}
use Rattle.terms.proofs.Implicants.{Free, implicant-e, implicant-i}
use Rattle.terms.proofs.Terms.{Unmentioned, by-variable, own-agrees}
use Rattle.circuits.specs.Function.{signed, node_value, function}
use Rattle.circuits.proofs.Accepted.{Accepted}
use Rattle.circuits.proofs.BottomUp.{from-children}
use Rattle.circuits.proofs.Nodes.{sides, all_of, function-is, decision-free, signed-not}
use Rattle.circuits.proofs.Tables.{fits, children-below, node-induction}
use Rattle.passes.specs.Implied.{node_implied, implied_at}
use Rattle.passes.proofs.Readable.{implied-local}

-- an assignment that agrees with the term and has x against the sign b, where the term has no such literal
against : (N : ℕ) (t : Term) (x : ℕ) (b : Bool) → IsTerm N t → T (not (has t b x)) → Agrees t (put t.positive x (not b))
against N t x b h n =
    by-variable t x (λ y c. bit (put t.positive x (not b)) y ≡ c)
    (λ c p. put_same t.positive x (not b)
    ∙ other b c (λ e. T_not (has t b x) n (subst (λ (d : Bool). T (has t d x)) e p)))
    (λ y c m p. put_other t.positive x y (not b) m ∙ own-agrees N t h y c p)
  where
    other : (b c : Bool) → (c ≡ b → ⊥) → not b ≡ c
    other true true f = absurd (f refl)
    other true false f = refl
    other false true f = refl
    other false false f = absurd (f refl)

module _ (N : ℕ) (t : Term) (w : IsTerm N t) where
  constant-implied : (b : Bool) → b ≡ implicant N (λ s. b) t
  constant-implied true = sym (is_true (implicant N (λ s. true) t) (implicant-i N (λ s. true) t w (λ s l a. tt)))
  constant-implied false =
      sym
      (is_false (implicant N (λ s. false) t)
      (not_T (implicant N (λ s. false) t)
      (λ h. implicant-e N (λ s. false) t h t.positive (w.fits true) (own-agrees N t w))))

  literal-implied : (b : Bool) (x : ℕ) → x < N → has t b x ≡ implicant N (λ s. signed b (bit s x)) t
  literal-implied b x l =
      same_test (has t b x) (implicant N f t)
      (λ p. implicant-i N f t w (λ s k a. subst (λ (v : Bool). T (signed b v)) (sym (a x b p)) (own b)))
      (λ q. ⊎_elim (λ (p : T (has t b x)). p)
      (λ (n : T (not (has t b x))).
      absurd
      (signed-not N b
      (subst (λ (v : Bool). T (signed b v)) (put_same t.positive x (not b))
      (implicant-e N f t q (put t.positive x (not b)) (put-lt N t.positive x (not b) l (w.fits true)) (against N t x b w n)))))
      (decide (has t b x)))
    where
      f : ℕ → Bool
      f s = signed b (bit s x)

      own : (b : Bool) → T (signed b b)
      own true = tt
      own false = tt

  both-implied : (f g : ℕ → Bool) → (implicant N f t && implicant N g t) ≡ implicant N (conj N f g) t
  both-implied f g =
      same_test (implicant N f t && implicant N g t) (implicant N (conj N f g) t)
      (λ p. implicant-i N (conj N f g) t w
      (conj-i N f g t (implicant-e N f t (and_l (implicant N f t) (implicant N g t) p))
      (implicant-e N g t (and_r (implicant N f t) (implicant N g t) p))))
      (λ p. let h : Implicant N (conj N f g) t = implicant-e N (conj N f g) t p in
      and_i (implicant N f t) (implicant N g t) (implicant-i N f t w (conj-l N f g t h)) (implicant-i N g t w (conj-r N f g t h)))

  -- with a literal of x, the side that it takes
  forced-implied : (F : Bool → ℕ → Bool) (x : ℕ) (b : Bool) → T (has t b x) → implicant N (F b) t ≡ implicant N (choice F x) t
  forced-implied F x b p =
      same_test (implicant N (F b) t) (implicant N (choice F x) t)
      (λ q. implicant-i N (choice F x) t w
      (λ s k a. subst (λ (c : Bool). T (F c s)) (sym (a x b p)) (implicant-e N (F b) t q s k a)))
      (λ q. implicant-i N (F b) t w
      (λ s k a. subst (λ (c : Bool). T (F c s)) (a x b p) (implicant-e N (choice F x) t q s k a)))

  -- with none, both sides
  open-implied : (F : Bool → ℕ → Bool) (x : ℕ) → x < N → ((b : Bool) → Free N (F b) x) → Unmentioned t x
      → (implicant N (F false) t && implicant N (F true) t) ≡ implicant N (choice F x) t
  open-implied F x l free none =
      same_test (implicant N (F false) t && implicant N (F true) t) (implicant N (choice F x) t)
      (λ h. implicant-i N (choice F x) t w
      (from-sides N F x l free t
      (either (λ b. Implicant N (F b) t) false
      (implicant-e N (F false) t (and_l (implicant N (F false) t) (implicant N (F true) t) h))
      (implicant-e N (F true) t (and_r (implicant N (F false) t) (implicant N (F true) t) h)))))
      (λ h. let d : (b : Bool) → Implicant N (F b) t = to-sides N F x l free t none (implicant-e N (choice F x) t h) in
      and_i (implicant N (F false) t) (implicant N (F true) t) (implicant-i N (F false) t w (d false))
      (implicant-i N (F true) t w (d true)))

  choice-implied : (F : Bool → ℕ → Bool) (x : ℕ) → x < N → ((b : Bool) → Free N (F b) x)
      → cond (has t true x) (implicant N (F true) t)
      (cond (has t false x) (implicant N (F false) t) (implicant N (F false) t && implicant N (F true) t))
      ≡ implicant N (choice F x) t
  choice-implied F x l free = go (has t true x) refl (has t false x) refl
    where
      none : has t true x ≡ false → has t false x ≡ false → Unmentioned t x
      none d e true p = along d p
      none d e false p = along e p

      go : (p : Bool) → has t true x ≡ p → (q : Bool) → has t false x ≡ q
          → cond p (implicant N (F true) t)
          (cond q (implicant N (F false) t) (implicant N (F false) t && implicant N (F true) t))
          ≡ implicant N (choice F x) t
      go true d q e = forced-implied F x true (along (sym d) tt)
      go false d true e = forced-implied F x false (along (sym e) tt)
      go false d false e = open-implied F x l free (none d e)

module _ {N n : ℕ} {w : List ℕ} (acc : Accepted N n w) (t : Term) (is_t : IsTerm N t) where
  all-implied : (cs : List ℕ) → all (λ c. implicant N (function w c) t) cs ≡ implicant N (all_of w cs) t
  all-implied [] = constant-implied N t is_t true
  all-implied (c ∷ cs) =
      ap (λ (v : Bool). implicant N (function w c) t && v) (all-implied cs) ∙ both-implied N t is_t (function w c) (all_of w cs)

  node-implied : (i : ℕ) → i < n → (y : Node) → node_at w i ≡ y → Fits N i y
      → node_implied t y (λ c. implicant N (function w c) t) ≡ implicant N (λ s. node_value s y (λ c. function w c s)) t
  node-implied i l (constant b) e f = constant-implied N t is_t b
  node-implied i l (literal b x) e f = literal-implied N t is_t b x f
  node-implied i l (decision x a b) e f =
      choice-implied N t is_t (sides w a b) x f.0 (decision-free acc i x a b l e)
  node-implied i l (conjunction cs) e f = all-implied cs
  node-implied i l unknown e f = absurd f

  -- the pass is the implicant test
  pub implied-is : (i : ℕ) → i < n → implied_at w t i ≡ implicant N (function w i) t
  unfolding implied_at
  implied-is =
      node-induction N n w acc.well (λ i. implied_at w t i ≡ implicant N (function w i) t)
      (λ i l below.
      from-children false (node_implied t) w (implied-local t) i (children-below N n w acc.well i l)
      ∙ implied-local t (node_at w i) (implied_at w t) (λ c. implicant N (function w c) t) below
      ∙ node-implied i l (node_at w i) refl (fits N n w acc.well i l)
      ∙ ap (λ (g : ℕ → Bool). implicant N g t) (sym (function-is acc i (node_at w i) l refl)))
