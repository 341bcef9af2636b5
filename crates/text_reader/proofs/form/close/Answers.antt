-- `text_reader::form::close` meets its contract.
use Rattle.std.proofs.Common.{rules, sym, arith}
use Rattle.text.specs.Read.{close_at}
use Rattle.text.proofs.Laws.{inside}
use Rattle.text_reader.proofs.form.close.Goals as goal

pub returns-then-byte_at-ne-CLOSE : goal.returns-then-byte_at-ne-CLOSE
unfolding close_at
returns-then-byte_at-ne-CLOSE c = search rules

pub returns-then-room-n : goal.returns-then-room-n
unfolding close_at
returns-then-room-n c = search rules

pub returns : goal.returns
unfolding close_at
returns c = let l = inside c.args.s.now c.args.at (omega (arith, sym c.byte_at.ensures)) in search rules
