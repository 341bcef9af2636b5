use Rattle.std.proofs.Common.{◌≡◌, sym, ap, ◌∙◌, ◌+◌, ◌-◌, ◌≤◌, ◌++◌, drop, take, arith, rules, length, ℕ, List}
use mathlib.Core.List.{append_assoc}
use borrow.Rule.Slice.PartMut.{Post-is, put_mid, post_of}
use Rattle.std.proofs.lemmas.List.Edits.{sets, sets-eq}
use Rattle.table.proofs.layout.put_eight.Goals as goal

part-sets : (at n : ℕ) (ws ns : List ℕ) → n ≡ length ns → at + length ns ≤ length ws → put_mid at (at + n - at) ws ns ≡ sets ws at ns
part-sets at n ws ns e l =
    rw (sets-eq ns ws at l)
    (sym (append_assoc (take at ws) ns (post_of at (at + n - at) ws))
    ∙ ap (λ (z : List ℕ). take at ws ++ ns ++ z) (Post-is at (at + n) ws (omega arith) ∙ ap (λ (m : ℕ). drop (at + m) ws) e))

pub returns : goal.returns
returns c =
    let x = c.args in
    let long : 8 ≡ length x.nodes = search rules in
    rw c.copy_from_slice.ensures.after (part-sets x.at 8 x.words.now x.nodes long (omega (arith, c.requires)))
