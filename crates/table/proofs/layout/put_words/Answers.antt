-- `table::layout::put_words` meets its contract.
use Prim.Native.Nat.{ℕ}
use mathlib.Core.Path.{◌∙◌}
use native.Mathlib.Omega.{arith}
use native.Mathlib.Numerals.{add-one, add-two, add-three}
use lib.ListN.{length-set}
use Rattle.table.specs.Layout.{words_for, put_words}
use Rattle.table.proofs.layout.put_words.Goals as goal

pub bounds-words-at-2 : goal.bounds-words-at-2
bounds-words-at-2 c = simp length-set (omega arith)

pub bounds-words-at-3 : goal.bounds-words-at-3
bounds-words-at-3 c = simp length-set (omega arith)

pub put_eight-requires : goal.put_eight-requires
put_eight-requires c = simp length-set (omega arith)

pub shape_of-words : goal.shape_of-words
shape_of-words c = c.before.before.put_eight.auto.words ∙ simp length-set

pub returns : goal.returns
unfolding put_words
returns c =
    let at : ℕ = words_for c.before.before.before.before.before.before.before.args.i in
    c.before.before.put_eight.ensures ∙ rw (add-one at, add-two at, add-three at)
