-- The entries of both listings of a circuit, each done with its own weights, capacity and buffers, against each other.
use Prim.Native.Nat.{ℕ, pred, ◌<◌}
use mathlib.Core.Path.{◌≡◌, sym, subst}
use mathlib.Core.Bool.{true, false, not}
use mathlib.Core.List.{List}
use Rattle.table.specs.Outcome.{answered}
use Rattle.terms.specs.Duality.{Dual}
use Rattle.terms.specs.Prime.{Lists}
use Rattle.terms.proofs.Duality.{lists-dual}
use Rattle.exclusions.specs.Exclusions.{Exclusions}
use Rattle.circuits.specs.Function.{function}
use Rattle.circuits.proofs.Accepted.{accepted-e, last-below}
use Rattle.listing.specs.Listing.{list_table, Lent, ListOut}
use Rattle.filtered.specs.Filtered.{filtered_table, FilteredLent, FilteredOut}
use Rattle.demands.specs.Demands.{entries_at, Duality}
use Rattle.demands.proofs.Entries.{entries-list}
use Rattle.demands.proofs.Filtering.{filter-done}
use Rattle.demands.proofs.Listing.{list_done}

module _ (N n : ℕ) (w m m' : List ℕ) (e : Exclusions) (R R' : ℕ) (b : FilteredLent) (b' : Lent) (c : ℕ) where
  abbrev out : FilteredOut
  out = filtered_table m e N n w R b

  abbrev out' : ListOut
  out' = list_table false m' N n w R' b'

  module _ (h : out.answer ≡ answered c) (h' : out'.answer ≡ answered tt) where
    functions : (i : ℕ) → i < n → Lists N (function w i) (entries_at R out.after.nodes i)
    functions i l =
        let (acc, fits, is) = filter-done m e N n w R b c h in
        subst (λ (o : FilteredOut). Lists N (function w i) (entries_at R o.after.nodes i)) (sym is)
        (entries-list true m N n w R b.nodes acc fits i l)

    negations : (i : ℕ) → i < n → Lists N (λ s. not (function w i s)) (entries_at R' out'.after i)
    negations i l =
        let (acc, fits, is) = list_done false m' N n w R' b' h' in
        subst (λ (o : ListOut). Lists N (λ s. not (function w i s)) (entries_at R' o.after i)) (sym is)
        (entries-list false m' N n w R' b' acc fits i l)

    dual : (i : ℕ) → i < n → Dual N (entries_at R out.after.nodes i) (entries_at R' out'.after i)
    dual i l =
        lists-dual N (function w i) (entries_at R out.after.nodes i) (entries_at R' out'.after i) (functions i l) (negations i l)

    last : pred n < n
    last = let (acc, fits, is) = list_done false m' N n w R' b' h' in last-below (accepted-e N n w acc)

pub duality : Duality
duality =
    record {
      circuits = λ N n w m m' e R R' b b' c h h'.
          dual N n w m m' e R R' b b' c h h' (pred n) (last N n w m m' e R R' b b' c h h');
      nodes = dual;
    }
