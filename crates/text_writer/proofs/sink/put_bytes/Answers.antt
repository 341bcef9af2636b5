use Prim.Native.Nat.{ℕ, ◌+◌, ◌<◌}
use mathlib.Core.List.{List, [], ◌∷◌}
use mathlib.Core.Path.{sym, ap, ◌∙◌}
use native.Mathlib.Numerals.{add-one}
use native.Mathlib.Omega.{arith}
use lib.ListN.{length, get_or, take}
use lib.Seq.{take-suc}
use Rattle.text_writer.specs.Sink.{Wrote}
use Rattle.text_writer.proofs.Sinks.{after, same}
use Rattle.text_writer.proofs.sink.put_bytes.Goals as goal

one_more : {d e f : List ℕ} {at p q : ℕ} (w : List ℕ) (i : ℕ) → i < length w → Wrote d at e p (take i w)
    → Wrote e p f q (get_or w i 0 ∷ []) → Wrote d at f q (take (i + 1) w)
one_more w i h a b = same (sym (take-suc w i 0 h) ∙ ap (λ (n : ℕ). take n w) (sym (add-one i))) (after a b)

pub loop-b-preserved : goal.loop-b-preserved
loop-b-preserved c = (
  omega (arith, c.put-p.ensures.1, c.loop-b.invariant.0),
  one_more _ _ c.loop-b-test.true c.loop-b.invariant.1 c.put-p.ensures.0,
)
