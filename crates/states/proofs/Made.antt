-- Terms made of states, on any two masks: they have the states that they are made of, and masks are made again of the states that they
-- have, unless a variable is in both.
use Rattle.std.specs.Prelude.{Option, None, Some}
use Prim.Native.Nat.{ℕ, zero, suc, ◌+◌, ◌<◌, ◌≤◌}
use mathlib.Core.Path.{◌≡◌, refl, sym, ap, ap₂, subst, ◌∙◌}
use mathlib.Core.Bool.{Bool, true, false, not, cond}
use mathlib.Core.Logic.{⊎_elim, ◌≢◌}
use native.Mathlib.Nat.{not-suc-le-zero, le_refl}
use native.Mathlib.Numerals.{add-one}
use native.Mathlib.Omega.{arith}
use lib.Dec.{T, T_not, not_T}
use Rattle.masks.specs.Numbers.{some}
use Rattle.masks.proofs.Masks.{bit_below}
use Rattle.masks.proofs.Numbers.{some-e, some-i}
use Rattle.masks.proofs.Tests.{along, below_suc, decide, is_true, same_test}
use Rattle.terms.specs.Term.{empty, mask, has, is_term, IsTerm}
use Rattle.terms.specs.declared.Term.{Term}
use Rattle.terms.proofs.Terms.{MasksFit, masks-ext, empty-IsTerm, is_term-e, is_term-i}
use Rattle.states.specs.Joining.{with_state, of_states, with_said, made}
use Rattle.states.specs.States.{is_conflict, state_by, state_at}
use Rattle.states.specs.declared.State.{State}
use Rattle.states.proofs.States.{with-here, with-there, with-IsTerm, term-state}

-- ---- the states of a variable tell its bits
abbrev bit_in : Option State → Bool → Bool
bit_in (Some State.Absent) b = false
bit_in (Some State.Negative) b = not b
bit_in (Some State.Positive) b = b
bit_in None b = true

state-bit : (t : Term) (x : ℕ) (b : Bool) → has t b x ≡ bit_in (state_at t x) b
state-bit t x true = by (has t true x) (has t false x)
  where
    by : (p n : Bool) → p ≡ bit_in (state_by p n) true
    by true true = refl
    by true false = refl
    by false true = refl
    by false false = refl
state-bit t x false = by (has t true x) (has t false x)
  where
    by : (p n : Bool) → n ≡ bit_in (state_by p n) false
    by true true = refl
    by true false = refl
    by false true = refl
    by false false = refl

-- masks with the same states are the same
pub same-states : (N : ℕ) (t u : Term) → MasksFit N t → MasksFit N u → ((x : ℕ) → x < N → state_at t x ≡ state_at u x) → t ≡ u
same-states N t u h k same =
    masks-ext N t u h k
    (λ x b l. state-bit t x b ∙ ap (λ (s : Option State). bit_in s b) (same x l) ∙ sym (state-bit u x b))

-- ---- made of states, variable by variable
module _ (f : ℕ → Option State) where
  pub made-start : made 0 f ≡ Some empty
  unfolding made
  made-start = refl

  pub made-next : (x : ℕ) {t : Term} {s : State} → made x f ≡ Some t → f x ≡ Some s
      → made (x + 1) f ≡ Some (with_state t x s)
  unfolding made
  made-next x e d = rw add-one (ap₂ (λ (m : Option Term) (s : Option State). with_said m x s) e d)

  pub made-ext : (g : ℕ → Option State) (n : ℕ) → ((x : ℕ) → f x ≡ g x) → made n f ≡ made n g
  unfolding made
  made-ext g zero e = refl
  made-ext g (suc n) e = ap₂ (λ (m : Option Term) (s : Option State). with_said m n s) (made-ext g n e) (e n)

  pub made-conflict : (n x : ℕ) → x < n → f x ≡ None → made n f ≡ None
  unfolding made
  made-conflict zero x l e = absurd (not-suc-le-zero l)
  made-conflict (suc n) x l e =
      ⊎_elim
      (λ (d : x ≡ n).
      ap (with_said (made n f) n) (subst (λ (y : ℕ). f y ≡ None) d e) ∙ stays (made n f))
      (λ (k : x < n). ap (λ (m : Option Term). with_said m n (f n)) (made-conflict n x k e))
      (below_suc l)
    where
      stays : (m : Option Term) → with_said m n None ≡ None
      stays (Some t) = refl
      stays None = refl

  -- a term over N variables made of n states, in which they are read again
  pub record MadeOf (N n : ℕ) : Type 0 where
    pub term : Term
    pub is : made n f ≡ Some term
    pub is_term : IsTerm N term
    pub reads : (x : ℕ) → x < n → state_at term x ≡ f x

  pub made_of : (N n : ℕ) → n ≤ N → ((x : ℕ) → x < n → (s : State) × (f x ≡ Some s)) → MadeOf N n
  made_of N zero l h = record { term = empty; is = made-start; is_term = empty-IsTerm N; reads = λ x l. absurd (not-suc-le-zero l) }
  made_of N (suc n) l h = next (made_of N n (omega arith) (λ x k. h x (omega arith))) (h n (le_refl (suc n)))
    where
      next : MadeOf N n → (s : State) × (f n ≡ Some s) → MadeOf N (suc n)
      next m (s, e) =
          record {
            term = with_state m.term n s;
            is = subst (λ (k : ℕ). made k f ≡ Some (with_state m.term n s)) (add-one n) (made-next n m.is e);
            is_term = with-IsTerm N m.term n s l m.is_term;
            reads = reads;
          }
        where
          there : (x : ℕ) → x < n → x ≢ n → state_at (with_state m.term n s) x ≡ f x
          there x k d =
              ap₂ state_by (with-there m.term n x s true d) (with-there m.term n x s false d) ∙ m.reads x k

          reads : (x : ℕ) → x < suc n → state_at (with_state m.term n s) x ≡ f x
          reads x k =
              ⊎_elim
              (λ (d : x ≡ n).
              subst (λ (y : ℕ). state_at (with_state m.term n s) y ≡ f y) (sym d) (with-here m.term n s ∙ sym e))
              (λ (k : x < n). there x k (λ d. omega arith))
              (below_suc k)

-- ---- made of states alone, so that there is no conflict
module _ (f : ℕ → State) where
  abbrev said : ℕ → Option State
  said x = Some (f x)

  made-states : (n : ℕ) → made n said ≡ Some (of_states n f)
  unfolding made of_states
  made-states zero = refl
  made-states (suc n) = ap (λ (m : Option Term). with_said m n (said n)) (made-states n)

  module _ (N : ℕ) where
    states-made : MadeOf said N N
    states-made = made_of said N N (le_refl N) (λ x l. (f x, refl))

    states-term : states-made.term ≡ of_states N f
    states-term =
        let e : Some states-made.term ≡ Some (of_states N f) = sym states-made.is ∙ made-states N in
        cc

    pub states-IsTerm : IsTerm N (of_states N f)
    states-IsTerm = subst (IsTerm N) states-term states-made.is_term

    -- the states are read again
    pub states-read : (x : ℕ) → x < N → state_at (of_states N f) x ≡ Some (f x)
    states-read x l = subst (λ (t : Term). state_at t x ≡ Some (f x)) states-term (states-made.reads x l)

-- ---- the states of any two masks
-- they are a term exactly if no variable reads as a conflict
module _ (N : ℕ) (t : Term) (h : MasksFit N t) where
  abbrev conflict_at : ℕ → Bool
  conflict_at x = is_conflict (state_at t x)

  both_read : (x : ℕ) → T (has t true x) → T (has t false x) → T (some N conflict_at)
  both_read x p q =
      let e : state_at t x ≡ None = ap₂ state_by (is_true (has t true x) p) (is_true (has t false x) q) in
      some-i N conflict_at x (bit_below N (mask t true) x (h true) p) (along (sym (ap is_conflict e)) tt)

  free-IsTerm : T (not (some N conflict_at)) → IsTerm N t
  free-IsTerm n = record { fits = h; once = once }
    where
      once : (x : ℕ) (b c : Bool) → T (has t b x) → T (has t c x) → b ≡ c
      once x true true p q = refl
      once x true false p q = absurd (T_not (some N conflict_at) n (both_read x p q))
      once x false true p q = absurd (T_not (some N conflict_at) n (both_read x q p))
      once x false false p q = refl

  is_term-free : IsTerm N t → T (some N conflict_at) → ⊥
  is_term-free k c =
      let (x, l, p) = some-e N conflict_at c in
      let (s, e) = term-state N t x k in
      along (ap is_conflict e) p

  pub reads-conflict : some N conflict_at ≡ not (is_term N t)
  reads-conflict =
      same_test (some N conflict_at) (not (is_term N t)) (λ c. not_T (is_term N t) (λ k. is_term-free (is_term-e N t k) c))
      (λ n.
      ⊎_elim (λ (c : T (some N conflict_at)). c)
      (λ (u : T (not (some N conflict_at))). absurd (T_not (is_term N t) n (is_term-i N t (free-IsTerm u))))
      (decide (some N conflict_at)))

  -- made of their states they are themselves, or there is a conflict
  pub made_again : made N (state_at t) ≡ cond (some N conflict_at) None (Some t)
  made_again = by (some N conflict_at) refl
    where
      a-state : some N conflict_at ≡ false → (x : ℕ) → x < N → (s : State) × (state_at t x ≡ Some s)
      a-state e x l = term-state N t x (free-IsTerm (along (ap not (sym e)) tt))

      is : (r : Option State) → T (is_conflict r) → r ≡ None
      is (Some s) c = absurd c
      is None c = refl

      by : (b : Bool) → some N conflict_at ≡ b → made N (state_at t) ≡ cond b None (Some t)
      by true e =
          let (x, l, p) = some-e N conflict_at (along (sym e) tt) in
          made-conflict (state_at t) N x l (is (state_at t x) p)
      by false e =
          let m : MadeOf (state_at t) N N = made_of (state_at t) N N (le_refl N) (a-state e) in
          m.is ∙ ap Some (same-states N m.term t m.is_term.fits h m.reads)
