-- What a computed test says, and how tests combine.
use Prim.Native.Nat.{ℕ, suc, ◌<◌}
use mathlib.Core.Path.{◌≡◌, refl, sym, ap, subst}
use mathlib.Core.Bool.{Bool, true, false, ◌&&◌, ◌||◌, not}
use mathlib.Core.Logic.{◌⊎◌, inl, inr, ◌≢◌}
use native.Mathlib.Nat.{eq-or-lt_of_le, le_of_suc-le-suc}
use native.Mathlib.Decide.{ℕ_discrete}
use lib.Dec.{T}
use Rattle.masks.specs.Numbers.{implied}

pub and_i : (a b : Bool) → T a → T b → T (a && b)
and_i true b p q = q
and_i false b p q = p

pub and_l : (a b : Bool) → T (a && b) → T a
and_l true b h = tt
and_l false b h = h

pub and_r : (a b : Bool) → T (a && b) → T b
and_r true b h = h
and_r false b h = absurd h

pub or_l : (a b : Bool) → T a → T (a || b)
or_l true b h = tt
or_l false b h = absurd h

pub or_r : (a b : Bool) → T b → T (a || b)
or_r true b h = tt
or_r false b h = h

pub or_cases : (a b : Bool) → T (a || b) → T a ⊎ T b
or_cases true b h = inl tt
or_cases false b h = inr h

pub not-or : (a b : Bool) → T (not (a || b)) → T (not a) × T (not b)
not-or true b h = absurd h
not-or false b h = (tt, h)

pub not-and : (a b : Bool) → T (not (a && b)) → T (not a) ⊎ T (not b)
not-and true b h = inr h
not-and false b h = inl tt

pub not-not : (b : Bool) → T (not (not b)) → T b
not-not true h = tt
not-not false h = h

pub implied-i : (a b : Bool) → (T a → T b) → T (implied a b)
implied-i true b h = h tt
implied-i false b h = tt

pub implied-e : (a b : Bool) → T (implied a b) → T a → T b
implied-e true b h p = h
implied-e false b h p = absurd p

-- a test passes or fails
pub decide : (b : Bool) → T b ⊎ T (not b)
decide true = inl tt
decide false = inr tt

pub is_true : (b : Bool) → T b → b ≡ true
is_true true h = refl
is_true false h = absurd h

pub is_false : (b : Bool) → T (not b) → b ≡ false
is_false true h = absurd h
is_false false h = refl

-- from an equation of tests, the fact
pub along : {a b : Bool} → a ≡ b → T a → T b
along e h = subst T e h

-- what a negated test says
pub was-false : (b : Bool) → not b ≡ true → b ≡ false
was-false b e = is_false b (along (sym e) tt)

pub was-true : (b : Bool) → not b ≡ false → b ≡ true
was-true b e = is_true b (not-not b (along (ap not (sym e)) tt))

-- two tests that give each other are the same
pub same_test : (a b : Bool) → (T a → T b) → (T b → T a) → a ≡ b
same_test true true f g = refl
same_test true false f g = absurd (f tt)
same_test false true f g = absurd (g tt)
same_test false false f g = refl

-- what holds of a truth value and of its negation holds of each
pub either : (P : Bool → Type 0) (b : Bool) → P b → P (not b) → (c : Bool) → P c
either P true p q true = p
either P true p q false = q
either P false p q true = q
either P false p q false = p

-- two numbers are equal or not
pub same? : (x y : ℕ) → (x ≡ y) ⊎ (x ≢ y)
same? x y = go (ℕ_discrete x y)
  where
    go : Dec (x ≡ y) → (x ≡ y) ⊎ (x ≢ y)
    go (yes e) = inl e
    go (no n) = inr n

pub below_suc : {i n : ℕ} → i < suc n → (i ≡ n) ⊎ (i < n)
below_suc h = eq-or-lt_of_le (le_of_suc-le-suc h)
