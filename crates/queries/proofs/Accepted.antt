-- An accepted circuit: the implicant test, the model count and the literals struck.
use Prim.Native.Nat.{ℕ, pred, ◌+◌, ◌^◌, ◌≤◌}
use mathlib.Core.Path.{◌≡◌, refl, sym, ap, ap₂, subst, ◌∙◌}
use mathlib.Core.Bool.{Bool, true, false, ◌&&◌, not, cond}
use mathlib.Core.List.{List}
use native.Mathlib.Numerals.{add-one}
use lib.Dec.{T}
use Rattle.masks.specs.Mask.{bit}
use Rattle.masks.specs.Numbers.{implied, every, count}
use Rattle.masks.proofs.Numbers.{count-ext}
use Rattle.masks.proofs.Operators.{bit-or}
use Rattle.masks.proofs.Tests.{is_true}
use Rattle.table.specs.Outcome.{accepted}
use Rattle.terms.specs.Completions.{models_under}
use Rattle.terms.specs.Prime.{implicant, prime, assignment_term, reduce}
use Rattle.terms.specs.Term.{empty, mentions, variables, is_term, agrees, without, extend}
use Rattle.terms.specs.declared.Term.{Term}
use Rattle.terms.proofs.Terms.{empty-has, without-IsTerm, is_term-e, is_term-i, agrees-i}
use Rattle.circuits.specs.Check.{check}
use Rattle.circuits.proofs.Accepted.{accepted-e, variables-le, last-below, Accepted}
use Rattle.passes.specs.Implied.{implied_at}
use Rattle.passes.proofs.ImplicantPass.{implied-is}
use Rattle.queries.specs.Queries.{circuit}

-- ---- an accepted circuit
module _ (N n : ℕ) (w : List ℕ) (e : check N n w ≡ accepted) where
  pub accepted-narrow : N ≤ 40
  accepted-narrow = variables-le (accepted-e N n w e)

  -- the implicant pass, for the whole circuit
  pub implied-circuit : (t : Term) → T (is_term N t) → implied_at w t (pred n) ≡ implicant N (circuit n w) t
  implied-circuit t h =
      let a : Accepted N n w = accepted-e N n w e in
      implied-is a t (is_term-e N t h) (pred n) (last-below a)

-- the models under the empty term are all models
pub models-empty : (N : ℕ) (f : ℕ → Bool) → models_under N f empty ≡ count (2 ^ N) f
unfolding models_under
models-empty N f =
    count-ext (2 ^ N) (λ s. agrees N empty s && f s) f
    (λ s l. ap (λ (b : Bool). b && f s) (is_true (agrees N empty s) (agrees-i N empty s (λ x b p. absurd (empty-has x b p)))))

-- ---- the literals struck
mentions-bit : (t : Term) (x : ℕ) → bit (variables t) x ≡ mentions t x
mentions-bit t x = bit-or t.positive t.negative x

module _ (N n : ℕ) (w : List ℕ) (e : check N n w ≡ accepted) (t : Term) (h : T (is_term N t)) (x : ℕ) where
  pub struck-IsTerm : T (is_term N (without t x))
  struck-IsTerm = is_term-i N (without t x) (without-IsTerm N t x (is_term-e N t h))

  -- the test of the term u with the literal struck
  pub struck-implied : {b : Bool} {u : Term} → u ≡ without t x → b ≡ implied_at w u (pred n)
      → b ≡ implicant N (circuit n w) (without t x)
  struck-implied d i =
      i ∙ ap (λ (v : Term). implied_at w v (pred n)) d ∙ implied-circuit N n w e (without t x) struck-IsTerm

  pub can-strike : {b : Bool} {u : Term} {m : ℕ} → m ≡ variables t → bit m x ≡ true → u ≡ without t x
      → b ≡ implied_at w u (pred n) → b ≡ (mentions t x && implicant N (circuit n w) (without t x))
  can-strike m l d i =
      struck-implied d i
      ∙ sym
      (ap (λ (p : Bool). p && implicant N (circuit n w) (without t x))
      (sym (ap (λ (z : ℕ). bit z x) m ∙ mentions-bit t x) ∙ l))

  pub cannot-strike : {m : ℕ} → m ≡ variables t → bit m x ≡ false
      → false ≡ (mentions t x && implicant N (circuit n w) (without t x))
  cannot-strike m l =
      sym
      (ap (λ (p : Bool). p && implicant N (circuit n w) (without t x))
      (sym (ap (λ (z : ℕ). bit z x) m ∙ mentions-bit t x) ∙ l))

-- ---- the prime test
module _ (p : ℕ → Bool) where
  pub every-start : every 0 p ≡ true
  unfolding every
  every-start = refl

  pub every-next : (x : ℕ) → every x p ≡ true → p x ≡ true → every (x + 1) p ≡ true
  unfolding every
  every-next x e h = rw add-one (ap₂ ◌&&◌ h e)

-- a literal that can be struck, as b, and the test of the definition
pub kept_test : (a c : Bool) {b v : Bool} → b ≡ (a && c) → b ≡ v → implied a (not c) ≡ not v
kept_test true c e d = ap not (sym e ∙ d)
kept_test false c e d = ap not (sym e ∙ d)

pub prime-test : (N : ℕ) (f : ℕ → Bool) (t : Term) {b : Bool} (v : Bool) → T (is_term N t) → b ≡ implicant N f t → b ≡ v
    → prime N f t ≡ (v && every N (λ x. implied (mentions t x) (not (implicant N f (without t x)))))
unfolding prime
prime-test N f t v h e d =
    ap₂ (λ (p q : Bool). p && q && every N (λ x. implied (mentions t x) (not (implicant N f (without t x)))))
    (is_true (is_term N t) h) (sym e ∙ d)

-- ---- reduction
pub reduce-start : (N : ℕ) (f : ℕ → Bool) (t : Term) → t ≡ reduce N f t 0
unfolding reduce
reduce-start N f t = refl

pub reduce-next : (N : ℕ) (f : ℕ → Bool) (t : Term) (k : ℕ) (u v : Term) → u ≡ reduce N f t k
    → v ≡ cond (implicant N f (without u k)) (without u k) u → v ≡ reduce N f t (k + 1)
unfolding reduce
reduce-next N f t k u v e d =
    d ∙ ap (λ (z : Term). cond (implicant N f (without z k)) (without z k) z) e ∙ ap (reduce N f t) (sym (add-one k))

pub struck-or-not : (N : ℕ) (t : Term) (k : ℕ) (b : Bool) {v : Term} → T (is_term N t) → v ≡ cond b (without t k) t → T (is_term N v)
struck-or-not N t k b {v} h e = subst (λ (z : Term). T (is_term N z)) (sym e) (go b)
  where
    go : (b : Bool) → T (is_term N (cond b (without t k) t))
    go true = is_term-i N (without t k) (without-IsTerm N t k (is_term-e N t h))
    go false = h

pub term-start : (s : ℕ) → empty ≡ assignment_term s 0
unfolding assignment_term
term-start s = refl

pub term-next : (s k : ℕ) (t u : Term) (b : Bool) → t ≡ assignment_term s k → b ≡ bit s k → u ≡ extend t k b
    → u ≡ assignment_term s (k + 1)
unfolding assignment_term
term-next s k t u b e d h = h ∙ ap₂ (λ (z : Term) (c : Bool). extend z k c) e d ∙ ap (assignment_term s) (sym (add-one k))
