-- `output::refusals::table_refusal_line` meets its contract.
use Prim.Native.Nat.{ℕ}
use mathlib.Core.Path.{◌≡◌, refl}
use mathlib.Core.Bool.{false}
use lib.Dec.{eqb}
use Rattle.table.specs.Outcome.{number_of, node_of}
use Rattle.table.specs.declared.Refusal.{Refusal}
use Rattle.table.specs.declared.Refusal.TheVariants.{Sizes, Malformed, Parentless, Undecomposable, Unreduced, Assignment}
use Rattle.table.specs.declared.Refusal.TheVariants.{NotTerm, Unsatisfied, Buffers, Weights, Exclusions, Capacity}
use Rattle.text_writer.proofs.Sinks.{same}
use Rattle.output.specs.Lines.{refusal_line, number_line, table_refusal_line}
use Rattle.output.proofs.refusals.table_refusal_line.Goals as goal

-- 42 is the capacity's number alone
other : (why : Refusal) → (why ≡ Capacity → ⊥) → eqb (number_of why) 42 ≡ false
other Sizes h = refl
other (Malformed i) h = refl
other (Parentless i) h = refl
other (Undecomposable i) h = refl
other (Unreduced i) h = refl
other Assignment h = refl
other NotTerm h = refl
other Unsatisfied h = refl
other Buffers h = refl
other Weights h = refl
other Exclusions h = refl
other Capacity h = absurd (h refl)

plain : (why : Refusal) (k : ℕ) → k ≡ number_of why → why ≡ Capacity → number_line k ≡ table_refusal_line (number_of why) (node_of why)
unfolding table_refusal_line
plain why k e c = rw (e, c) refl

placed : (why : Refusal) (k i : ℕ) → k ≡ number_of why → i ≡ node_of why → (why ≡ Capacity → ⊥)
    → refusal_line k i ≡ table_refusal_line (number_of why) (node_of why)
unfolding table_refusal_line
placed why k i e f h = rw (e, f, other why h) refl

pub returns-in-Capacity : goal.returns-in-Capacity
returns-in-Capacity c = same (plain c.args.why _ c.number_of-k.ensures c.in-Capacity.is) c.number_line.ensures

pub returns-in_default : goal.returns-in_default
returns-in_default c =
    same (placed c.args.why _ _ c.number_of-k.ensures c.node_of.ensures c.in_default.not-Capacity) c.refusal_line.ensures
