-- Laws on what is written into a sink.
use Prim.Native.Nat.{ℕ}
use mathlib.Core.Path.{◌≡◌, refl, sym, ap₂, subst, ◌∙◌}
use mathlib.Core.List.{List, [], ◌++◌}
use native.Mathlib.Nat.{add-zero}
use native.Mathlib.Omega.{arith}
use lib.ListN.{length-append}
use lib.Seq.{sets}
use Rattle.table.proofs.NodePlaces.{sets-append}
use Rattle.text_writer.specs.Sink.{Wrote}

-- what is written after what was written
pub after : {d e f xs ys : List ℕ} {at p q : ℕ} → Wrote d at e p xs → Wrote e p f q ys → Wrote d at f q (xs ++ ys)
after {d = d} {xs = xs} {ys = ys} {at = at} a b =
    record {
      sink = b.sink ∙ ap₂ (λ (z : List ℕ) (k : ℕ). sets z k ys) a.sink a.place ∙ sym (sets-append d at xs ys);
      place = simp length-append (omega (arith, a.place, b.place));
    }

pub nothing : {d : List ℕ} {at : ℕ} → Wrote d at d at []
nothing {at = at} = record { sink = refl; place = sym (add-zero at) }

-- the same bytes
pub same : {d e xs ys : List ℕ} {at p : ℕ} → xs ≡ ys → Wrote d at e p xs → Wrote d at e p ys
same {d = d} {e = e} {at = at} {p = p} h w = subst (Wrote d at e p) h w
