use Rattle.std.proofs.Common.{◌≡◌, ◌+◌, ◌<◌, ℕ, List, Ok, Err, length, get_or, drop, sym, ◌∙◌, add_assoc, add-one, arith}
use lib.Seq.{drop-cons, drop-length}
use borrow.Author.Tests.{eq-eqb, ne_eqb}
use Rattle.text.specs.Read.{byte_at, match_at}
use Rattle.text.proofs.Laws.{inside}
use Rattle.text.proofs.head.match_at.Goals as goal

module _ (s w : List ℕ) (at i b : ℕ) (h : i < length w) (e : b ≡ byte_at s (at + i)) where
  miss : (b ≡ get_or w i 0 → ⊥) → Err (at + i) ≡ match_at s (at + i) (drop i w)
  unfolding match_at
  miss n = rw (drop-cons w i 0 h, ← e, ne_eqb b (get_or w i 0) n)

  hit : b ≡ get_or w i 0 → match_at s (at + i) (drop i w) ≡ match_at s (at + (i + 1)) (drop (i + 1) w)
  unfolding match_at
  hit n = rw (drop-cons w i 0 h, ← e, eq-eqb b (get_or w i 0) n, add_assoc, add-one)

done : (s w : List ℕ) (at i : ℕ) → i ≡ length w → match_at s at w ≡ match_at s (at + i) (drop i w) → Ok (at + length w) ≡ match_at s at w
unfolding match_at
done s w at i e m = rw (m, e, drop-length w)

pub returns-then-byte_at-w : goal.returns-then-byte_at-w
returns-then-byte_at-w c =
    (miss _ _ _ _ _ c.loop-i-test.true c.byte_at.ensures c.if-byte_at-w.true ∙ sym c.loop-i.invariant.1, tt)

pub loop-i-preserved : goal.loop-i-preserved
loop-i-preserved c =
    let b = c.type_inv.w c.loop-i.i in
    let l = inside c.args.s.now (c.args.at + c.loop-i.i) (omega (arith, sym c.byte_at.ensures)) in
    (omega arith, c.loop-i.invariant.1 ∙ hit _ _ _ _ _ c.loop-i-test.true c.byte_at.ensures c.if-byte_at-w.false)

pub returns : goal.returns
returns c =
    (done _ _ _ _ (omega (arith, c.loop-i.auto.i-end, c.loop-i-test.false)) c.loop-i.invariant.1, (omega arith, omega arith))
