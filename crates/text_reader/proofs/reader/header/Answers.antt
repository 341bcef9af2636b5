-- `text_reader::reader::header` meets its contract.
use Rattle.std.proofs.Common.{rules, ◌+◌, sym, arith}
use Rattle.text.specs.Read.{header_at}
use Rattle.text.proofs.Laws.{inside}
use Rattle.text_reader.proofs.reader.header.Goals as goal

pub returns-in_err-p : goal.returns-in_err-p
unfolding header_at
returns-in_err-p c = search rules

pub returns-in_err-v : goal.returns-in_err-v
unfolding header_at
returns-in_err-v c = search rules

pub returns-then-byte_at-ne-NEWLINE : goal.returns-then-byte_at-ne-NEWLINE
unfolding header_at
returns-then-byte_at-ne-NEWLINE c = search rules

pub returns : goal.returns
unfolding header_at
returns c =
    let l = inside c.args.s.now (c.in_ok-v.q + 1) (omega (arith, sym c.byte_at.ensures)) in search rules
