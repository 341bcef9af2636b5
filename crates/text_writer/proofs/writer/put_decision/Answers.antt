-- `text_writer::writer::put_decision` meets its contract.
use native.Mathlib.Omega.{arith}
use mathlib.Core.List.{◌++◌}
use Rattle.text.specs.Ascii.{ascii}
use Rattle.text.specs.Syntax.{decimal, print_form, line_form}
use Rattle.text_writer.proofs.Printing.{two-children}
use Rattle.text_writer.proofs.Sinks.{after, same}
use Rattle.text_writer.proofs.writer.put_decision.Goals as goal

pub returns : goal.returns
unfolding print_form
returns c = let x = c.args in (
  same
      (two-children (ascii "(pick " ++ decimal x.x) (ascii " " ++ print_form (line_form x.low))
      (ascii " " ++ print_form (line_form x.high)) (ascii ")"))
      (after (after (after (after c.put_bytes-p.ensures.0 c.put_number-q.ensures.0) c.put_child-t.ensures.0)
      c.put_child-u.ensures.0) c.put_bytes.ensures.0),
  omega (
    arith,
    c.put_bytes-p.ensures.1,
    c.put_number-q.ensures.1,
    c.put_child-t.ensures.1,
    c.put_child-u.ensures.1,
    c.put_bytes.ensures.1,
  ),
)
