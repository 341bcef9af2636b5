use Prim.Native.Nat.{ℕ, ◌+◌, ◌<◌}
use mathlib.Core.Path.{◌≡◌, sym, ap, ◌∙◌}
use mathlib.Core.List.{List, [], ◌∷◌, ◌++◌}
use native.Mathlib.Numerals.{add-one}
use native.Mathlib.Omega.{arith}
use lib.ListN.{length, get_or, take}
use lib.Seq.{take-suc}
use Rattle.table.specs.Layout.{max_children}
use Rattle.text.specs.Ascii.{ascii}
use Rattle.text.specs.Syntax.{print_form, print_forms, line_form}
use Rattle.text.specs.Write.{line_forms}
use Rattle.text.proofs.WrittenLines.{lines_snoc}
use Rattle.text_writer.specs.Sink.{Wrote}
use Rattle.text_writer.proofs.Sinks.{after, nothing, same}
use borrow.Author.Rules.{rules}
use Rattle.text_writer.proofs.writer.put_children.Goals as goal

one_more : {d e f : List ℕ} {at p q : ℕ} (cs : List ℕ) (k : ℕ) → k < length cs → Wrote d at e p (print_forms (line_forms (take k cs)))
    → Wrote e p f q (ascii " " ++ print_form (line_form (get_or cs k 0))) → Wrote d at f q (print_forms (line_forms (take (k + 1) cs)))
one_more cs k h a b =
    let more : take k cs ++ (get_or cs k 0 ∷ []) ≡ take (k + 1) cs =
    sym (take-suc cs k 0 h) ∙ ap (λ (n : ℕ). take n cs) (sym (add-one k)) in
    same (sym (lines_snoc (take k cs) (get_or cs k 0)) ∙ ap (λ (z : List ℕ). print_forms (line_forms z)) more) (after a b)

pub loop-k-init : goal.loop-k-init
unfolding print_form
loop-k-init c = (omega arith, nothing)

pub loop-k-preserved : goal.loop-k-preserved
loop-k-preserved c = let cs = c.args.children in
    let long : length cs.nodes ≡ max_children = search rules in
    let few = c.requires.1 in
    let less : c.loop-k.k < length cs.nodes = omega arith in (
      omega (arith, c.put_child-p.ensures.1, c.loop-k.invariant.0),
      one_more _ _ less c.loop-k.invariant.1 c.put_child-p.ensures.0,
    )
