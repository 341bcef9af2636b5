use Prim.Native.Nat.{ℕ, ◌+◌, ◌<◌, ◌≤◌}
use mathlib.Core.Path.{◌≡◌, refl, sym, ap, subst}
use mathlib.Core.List.{List, ◌++◌, append_assoc}
use native.Mathlib.Omega.{arith}
use Rattle.masks.specs.Numbers.{below}
use Rattle.table.specs.Gate.{gate_node, decoded_at}
use Rattle.table.specs.Layout.{max_children}
use Rattle.table.specs.Node.{Node}
use Rattle.table.specs.Words.{Readable}
use Rattle.table.specs.declared.gates.Decoded.{Decoded}
use Rattle.table.proofs.Decoding.{node-read}
use Rattle.table.proofs.Encoding.{node-children}
use Rattle.text.specs.Ascii.{ascii}
use Rattle.text.specs.Syntax.{decimal, print_form, print_lines, print}
use Rattle.text.specs.Write.{node_form, table_text}
use Rattle.text_writer.specs.Sink.{Wrote}
use Rattle.text_writer.proofs.Printing.{node_lines, line-more}
use Rattle.text_writer.proofs.Sinks.{after, nothing, same}
use Rattle.text_writer.proofs.writer.put_table.Goals as goal

-- what is written of node i, as it was read
module _ (w : List ℕ) (i : ℕ) (r : Decoded) (is : r ≡ decoded_at w i) where
  one_more : {d e f : List ℕ} {at p q : ℕ} → Wrote d at e p (node_lines w i)
      → Wrote e p f q (print_form (node_form (gate_node r.gate r.children)) ++ ascii "\n") → Wrote d at f q (node_lines w (i + 1))
  one_more a b =
      same (sym (line-more w i)) (after a (same (ap (λ (y : Node). print_form (node_form y) ++ ascii "\n") (node-read w i r is refl)) b))

few : (n : ℕ) (w : List ℕ) (i : ℕ) (r : Decoded) → Readable n w → i < n → r ≡ decoded_at w i → r.children.count ≤ max_children
few n w i r (N, s) l is =
    subst (λ (z : Decoded). z.children.count ≤ max_children) (sym is) (node-children N i w (s.well i l)).few

pub loop-i-init : goal.loop-i-init
unfolding below print_lines
loop-i-init c = (omega (arith, c.put_numbered-h.ensures.1, c.put_bytes-p.ensures.1), nothing)

pub put_line-p-requires : goal.put_line-p-requires
put_line-p-requires c =
    let s = c.requires.1 in
    (omega (arith, c.loop-i.invariant.0), few _ _ _ _ c.requires c.loop-i-test.true c.decode_at.ensures)

pub loop-i-preserved : goal.loop-i-preserved
loop-i-preserved c = (
  omega (arith, c.put_line-p.ensures.1, c.loop-i.invariant.0),
  one_more _ _ _ c.decode_at.ensures c.loop-i.invariant.1 c.put_line-p.ensures.0,
)

pub returns : goal.returns
unfolding table_text print
returns c =
    let x = c.args in
    let e : c.loop-i.i ≡ x.nodes = omega (arith, c.loop-i-test.false, c.loop-i.auto.i-end) in
    after (same (append_assoc (ascii "(circuit " ++ decimal x.variables) (ascii ")") (ascii "\n"))
    (after c.put_numbered-h.ensures.0 c.put_bytes-p.ensures.0))
    (same (ap (node_lines x.words.now) e) c.loop-i.invariant.1)
