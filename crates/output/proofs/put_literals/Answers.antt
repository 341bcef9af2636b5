use Prim.Native.Nat.{ℕ, ◌+◌}
use mathlib.Core.Path.{◌≡◌, ap}
use mathlib.Core.Bool.{Bool}
use mathlib.Core.List.{List}
use native.Mathlib.Omega.{arith}
use native.Mathlib.Numerals.{add-one}
use Rattle.masks.specs.Mask.{bit}
use Rattle.text.specs.Ascii.{ascii}
use Rattle.text_writer.specs.Sink.{Wrote}
use Rattle.text_writer.proofs.Sinks.{after, nothing, same}
use Rattle.terms.specs.declared.Term.{Term}
use Rattle.output.specs.Lines.{mark_text, literals_text}
use Rattle.output.proofs.put_literals.Goals as goal

-- the literals of one variable more
one_more : {d e f g : List ℕ} {at p q r : ℕ} {b c : Bool} (t : Term) (v : ℕ) → b ≡ bit t.positive v → c ≡ bit t.negative v
    → Wrote d at e p (literals_text t v) → Wrote e p f q (mark_text b (ascii " +") v) → Wrote f q g r (mark_text c (ascii " -") v)
    → Wrote d at g r (literals_text t (v + 1))
unfolding literals_text
one_more t v h k x y z =
    rw add-one
    (after (after x (same (ap (λ (b : Bool). mark_text b (ascii " +") v) h) y))
    (same (ap (λ (b : Bool). mark_text b (ascii " -") v) k) z))

pub loop-v-init : goal.loop-v-init
unfolding literals_text
loop-v-init c = (omega arith, nothing)

pub loop-v-preserved : goal.loop-v-preserved
loop-v-preserved c = (
  omega (arith, c.put_mark-p.ensures.1, c.put_mark-q.ensures.1, c.loop-v.invariant.0),
  one_more c.args.t c.loop-v.v c.has_bit.ensures c.has_bit-in-loop-v.ensures c.loop-v.invariant.1 c.put_mark-q.ensures.0
      c.put_mark-p.ensures.0,
)
