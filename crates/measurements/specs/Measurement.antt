-- Measurements ("readings"): a quantity that is known to lie from low to high, held against a threshold, says what a variable is.
use Rattle.std.specs.Prelude.{ℕ, zero, suc, min, max, Bool, true, false, ◌||◌, cond, List, [], ◌∷◌, eqb, leb, ℤ, pos, length, get_or}
use Rattle.std.specs.Int.Signed.{le_z, lt_z}
use Rattle.masks.specs.Mask.{bit}
use Rattle.masks.specs.Numbers.{some}
use Rattle.table.specs.Outcome.{after, Outcome, answered}
use Rattle.table.specs.Words.{first_fault}
use Rattle.terms.specs.Term.{variables, extend}
use Rattle.terms.specs.declared.Term.{Term}

-- parallel lists: entry i of each belongs to measurement i
pub record Measurements : Type 0 where
  pub variables : List ℕ
  pub lows : List ℤ
  pub highs : List ℤ
  pub thresholds : List ℤ

abbrev pub measurements : List ℕ → List ℤ → List ℤ → List ℤ → Measurements
measurements vs ls hs ts = record { variables = vs; lows = ls; highs = hs; thresholds = ts }

-- how many measurements are complete, and how many have an entry in some list
abbrev pub complete : Measurements → ℕ
complete m = min (length m.variables) (min (length m.lows) (min (length m.highs) (length m.thresholds)))

abbrev pub entries : Measurements → ℕ
entries m = max (length m.variables) (max (length m.lows) (max (length m.highs) (length m.thresholds)))

-- the parts of measurement i
abbrev pub variable_at : Measurements → ℕ → ℕ
variable_at m i = get_or m.variables i 0

abbrev pub low_at : Measurements → ℕ → ℤ
low_at m i = get_or m.lows i (pos 0)

abbrev pub high_at : Measurements → ℕ → ℤ
high_at m i = get_or m.highs i (pos 0)

abbrev pub threshold_at : Measurements → ℕ → ℤ
threshold_at m i = get_or m.thresholds i (pos 0)

-- the quantity is low to high: true ("yes") where low is at least the threshold, false ("no") where high is below it, else unknown
abbrev pub says : ℤ → ℤ → ℤ → Bool → Bool
says low high threshold true = le_z threshold low
says low high threshold false = lt_z high threshold

-- the term with the literal of x that this gives, if it gives one
abbrev pub with_measured : Term → ℕ → ℤ → ℤ → ℤ → Term
with_measured t x low high threshold =
    cond (says low high threshold true) (extend t x true) (cond (says low high threshold false) (extend t x false) t)

-- the term with the literals of the measurements 0 to k - 1 ("the readings' marks added")
unfoldable pub measured_term : Term → Measurements → ℕ → Term
measured_term t m zero = t
measured_term t m (suc k) = with_measured (measured_term t m k) (variable_at m k) (low_at m k) (high_at m k) (threshold_at m k)

-- measurement i is incomplete, its low is above its high, or its variable is not below N, is in the mask v, or was measured before
unfoldable pub wrong : ℕ → ℕ → Measurements → ℕ → Bool
wrong N v m i =
    leb (complete m) i
    || lt_z (high_at m i) (low_at m i)
    || leb N (variable_at m i)
    || bit v (variable_at m i)
    || some i (λ j. eqb (variable_at m i) (variable_at m j))

-- 53 with the lowest wrong measurement; the term's variables are known without one
unfoldable pub check_measurements : ℕ → Term → Measurements → Outcome (Unit {0})
check_measurements N t m = first_fault (entries m) ((53, wrong N (variables t) m) ∷ [])

-- the term with the literals of all measurements, after 53
unfoldable pub with_measurements : ℕ → Term → Measurements → Outcome Term
with_measurements N t m = after (check_measurements N t m) (answered (measured_term t m (entries m)))
