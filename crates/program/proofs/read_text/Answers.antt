-- `program::read_text` meets its contract.
use mathlib.Core.Path.{ap, ◌∙◌}
use Rattle.text.specs.Read.{ReadOut}
use Rattle.program.proofs.Limits.{long, short}
use Rattle.program.proofs.read_text.Goals as goal

pub returns-then-text-gt-BYTES : goal.returns-then-text-gt-BYTES
returns-then-text-gt-BYTES c =
    let e = long c.args.text.now c.args.words.now c.if-text-gt-BYTES.true in
    record { result_value = ap (λ (z : ReadOut). z.answer) e; words_after = ap (λ (z : ReadOut). z.words) e }

pub returns : goal.returns
returns c =
    let e = short c.args.text.now c.args.words.now c.if-text-gt-BYTES.false c.told-words in
    let h = c.read.ensures in
    record { result_value = h.0 ∙ ap (λ (z : ReadOut). z.answer) e; words_after = h.1 ∙ ap (λ (z : ReadOut). z.words) e }
