-- `text_script::line::sign_at` meets its contract.
use Rattle.text_script.proofs.Reading.{yes-reads, no_reads, unsigned_reads}
use Rattle.text_script.proofs.line.sign_at.Goals as goal

pub returns-then-c-eq-SMALL_Y : goal.returns-then-c-eq-SMALL_Y
returns-then-c-eq-SMALL_Y c =
    (yes-reads _ _ _ _ c.byte_at-c.ensures c.if-c-eq-SMALL_Y.true c.ending.ensures.0, c.ending.ensures.1)

pub returns-then-c-eq-SMALL_N : goal.returns-then-c-eq-SMALL_N
returns-then-c-eq-SMALL_N c = (
  no_reads _ _ _ _ c.byte_at-c.ensures c.if-c-eq-SMALL_N.true c.ending-then-c-eq-SMALL_N.ensures.0,
  c.ending-then-c-eq-SMALL_N.ensures.1,
)

pub returns : goal.returns
returns c =
    (unsigned_reads _ _ _ _ c.byte_at-c.ensures c.if-c-eq-SMALL_Y.false c.if-c-eq-SMALL_N.false, tt)
