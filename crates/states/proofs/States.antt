-- Laws of states, on any two masks: what a variable is put into is read again, and the join of the masks has at each variable what the
-- nine cases give.
use Rattle.std.specs.Prelude.{Some}
use Prim.Native.Nat.{ℕ, ◌<◌}
use mathlib.Core.Path.{◌≡◌, refl, sym, ap₂, ◌∙◌}
use mathlib.Core.Bool.{Bool, true, false, ◌||◌, true≢false}
use mathlib.Core.Logic.{◌≢◌}
use lib.Dec.{not_T}
use Rattle.masks.proofs.Tests.{is_true, is_false, along}
use Rattle.terms.specs.Term.{has, without, extend, join, IsTerm}
use Rattle.terms.specs.declared.Term.{Term}
use Rattle.terms.proofs.Terms.{Unmentioned, without-here, without-there, join-has, extend-here, extend-there, extend-only}
use Rattle.terms.proofs.Terms.{without-IsTerm, extend-IsTerm}
use Rattle.states.specs.Joining.{with_state}
use Rattle.states.specs.States.{state_by, state_at, join_said, case_at}
use Rattle.states.specs.declared.State.{State}

-- ---- the join of the masks
-- the bits in either are those of the case
either-bit : (p n q m : Bool) → state_by (p || q) (n || m) ≡ join_said (state_by p n) (state_by q m)
either-bit true true q m = refl
either-bit true false true true = refl
either-bit true false true false = refl
either-bit true false false true = refl
either-bit true false false false = refl
either-bit false true true true = refl
either-bit false true true false = refl
either-bit false true false true = refl
either-bit false true false false = refl
either-bit false false true true = refl
either-bit false false true false = refl
either-bit false false false true = refl
either-bit false false false false = refl

pub join-state : (t u : Term) (x : ℕ) → state_at (join t u) x ≡ case_at t u x
join-state t u x =
    ap₂ state_by (join-has t u true x) (join-has t u false x)
    ∙ either-bit (has t true x) (has t false x) (has u true x) (has u false x)

-- ---- a variable put into a state
-- the state of a variable with no literal, and with those of one sign only
unmentioned-state : (t : Term) (x : ℕ) → Unmentioned t x → state_at t x ≡ Some State.Absent
unmentioned-state t x u =
    ap₂ state_by (is_false (has t true x) (not_T (has t true x) (u true)))
    (is_false (has t false x) (not_T (has t false x) (u false)))

pub with-here : (t : Term) (x : ℕ) (s : State) → state_at (with_state t x s) x ≡ Some s
with-here t x State.Absent = unmentioned-state (without t x) x (without-here t x)
with-here t x State.Negative =
    let rest : Term = without t x in
    let r : Term = extend rest x false in
    ap₂ state_by
    (is_false (has r true x)
    (not_T (has r true x) (λ p. true≢false (extend-only rest x false true (without-here t x) p))))
    (is_true (has r false x) (extend-here rest x false))
with-here t x State.Positive =
    let rest : Term = without t x in
    let r : Term = extend rest x true in
    ap₂ state_by (is_true (has r true x) (extend-here rest x true))
    (is_false (has r false x)
    (not_T (has r false x) (λ p. true≢false (sym (extend-only rest x true false (without-here t x) p)))))

pub with-there : (t : Term) (x y : ℕ) (s : State) (b : Bool) → y ≢ x → has (with_state t x s) b y ≡ has t b y
with-there t x y State.Absent b n = without-there t x y b n
with-there t x y State.Negative b n = extend-there (without t x) x y false b n ∙ without-there t x y b n
with-there t x y State.Positive b n = extend-there (without t x) x y true b n ∙ without-there t x y b n

pub with-IsTerm : (N : ℕ) (t : Term) (x : ℕ) (s : State) → x < N → IsTerm N t → IsTerm N (with_state t x s)
with-IsTerm N t x State.Absent l h = without-IsTerm N t x h
with-IsTerm N t x State.Negative l h = extend-IsTerm N (without t x) x false l (without-IsTerm N t x h) (without-here t x)
with-IsTerm N t x State.Positive l h = extend-IsTerm N (without t x) x true l (without-IsTerm N t x h) (without-here t x)

-- ---- each variable of a term has a state
pub term-state : (N : ℕ) (t : Term) (x : ℕ) → IsTerm N t → (s : State) × (state_at t x ≡ Some s)
term-state N t x h = by (has t true x) refl (has t false x) refl
  where
    by : (p : Bool) → has t true x ≡ p → (n : Bool) → has t false x ≡ n → (s : State) × (state_by p n ≡ Some s)
    by true e true f = absurd (true≢false (h.once x true false (along (sym e) tt) (along (sym f) tt)))
    by true e false f = (State.Positive, refl)
    by false e true f = (State.Negative, refl)
    by false e false f = (State.Absent, refl)
