-- Steps of the way down from a join to a least one inside it.
use Prim.Native.Nat.{ℕ, ◌<◌}
use mathlib.Core.Path.{◌≡◌, sym}
use mathlib.Core.Bool.{true, ◌&&◌}
use mathlib.Core.List.{Memᴰ}
use lib.Dec.{T, ltb, ltb→lt}
use lib.ListN.{length}
use Rattle.std.specs.Prelude.{Some, None}
use Rattle.masks.proofs.Tests.{and_l, and_r, along, is_true}
use Rattle.terms.specs.Joins.{joins}
use Rattle.terms.specs.Term.{literals, join, inside}
use Rattle.terms.specs.declared.Term.{Term}
use Rattle.terms.proofs.Terms.{inside-refl, inside-i}
use Rattle.lists.specs.List.{nth, terms_in}
use Rattle.lists.specs.declared.list.TermList.{TermList}
use Rattle.lists.specs.Scans.{shorter, Found}
use Rattle.lists.proofs.Least.{shorter-down}
use Rattle.lists.proofs.Parts.{term_in}
use Rattle.settling.specs.Sides.{SidesAt, least_between}
use Rattle.settling.proofs.Least.{low-terms, high-terms, joins-terms, struck, inside-then}

module _ {a b : TermList} (h : SidesAt a b) where
  pub starts : (q : Term) → inside q q ≡ true
  starts q = is_true (inside q q) (inside-i h.sides.variables q q (inside-refl q))

  -- the terms of the sides by their places
  pub low-in : (i : ℕ) → i < length a.positives.now → Memᴰ (nth a i) (terms_in a)
  low-in i l = term_in a.positives.now a.negatives.now i a.same_length l

  pub high-in : (j : ℕ) → j < length b.positives.now → Memᴰ (nth b j) (terms_in b)
  high-in j l = term_in b.positives.now b.negatives.now j b.same_length l

  -- no shorter join was found
  pub ends : (t : Term) → Memᴰ t (joins (terms_in a) (terms_in b)) → Found a b t None
      → Memᴰ t (least_between a b)
  ends t m f = struck h.sides t m f

  -- one was found
  module _ (t : Term) (m : Memᴰ t (joins (terms_in a) (terms_in b))) (k l : ℕ) (f : Found a b t (Some (k, l))) where
    abbrev next : Term
    next = join (nth a k) (nth b l)

    found : T ((ltb k (length a.positives.now) && ltb l (length b.positives.now)) && shorter t (nth a k) (nth b l))
    found = along (sym f) tt

    there : T (ltb k (length a.positives.now) && ltb l (length b.positives.now))
    there = and_l (ltb k (length a.positives.now) && ltb l (length b.positives.now)) (shorter t (nth a k) (nth b l)) found

    pub first-there : k < length a.positives.now
    first-there = ltb→lt k (length a.positives.now) (and_l (ltb k (length a.positives.now)) (ltb l (length b.positives.now)) there)

    pub second-there : l < length b.positives.now
    second-there = ltb→lt l (length b.positives.now) (and_r (ltb k (length a.positives.now)) (ltb l (length b.positives.now)) there)

    down : Memᴰ next (joins (terms_in a) (terms_in b)) × T (inside next t) × T (ltb (literals next) (literals t))
    down =
        shorter-down h.sides.variables h.sides.wide (terms_in a) (terms_in b) (low-terms h.sides) (high-terms h.sides) t
        (joins-terms h.sides t m) (nth a k) (nth b l) (low-in k first-there) (high-in l second-there)
        (and_r (ltb k (length a.positives.now) && ltb l (length b.positives.now)) (shorter t (nth a k) (nth b l)) found)

    pub next-join : Memᴰ next (joins (terms_in a) (terms_in b))
    next-join = down.0

    pub next-less : literals next < literals t
    next-less = ltb→lt (literals next) (literals t) down.2

    pub next-inside : (q : Term) → inside t q ≡ true → inside next q ≡ true
    next-inside q i =
        is_true (inside next q)
        (inside-then h.sides next t q (joins-terms h.sides next next-join) (joins-terms h.sides t m) down.1 (along (sym i) tt))
