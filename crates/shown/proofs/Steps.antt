-- A listing, step by step: what it does at a place is decided by what is read there.
use mathlib.Core.Path.{◌≡◌, refl, sym, ap, ap₂, ◌∙◌}
use mathlib.Core.Logic.{◌⊎◌, inl, inr}
use mathlib.Core.List.{List, [], ◌∷◌}
use Prim.Native.Nat.{ℕ, zero, suc, ◌+◌, ◌-◌, ◌≤◌, ◌<◌}
use native.Mathlib.Nat.{sub-zero}
use native.Mathlib.Omega.{arith}
use lib.ListN.{length}
use Rattle.medium.specs.declared.geometry.Geometry.{Geometry}
use Rattle.medium.specs.Granularity.{header}
use Rattle.medium.specs.Geometry.{check_of}
use Rattle.medium.specs.Operation.{Answer, done, refused}
use Rattle.objects.specs.declared.header.ObjectHeader.{ObjectHeader}
use Rattle.objects.specs.declared.iterator.ObjectIterator.{ObjectIterator}
use Rattle.objects.specs.Info.{Info, found, none, info_at}
use Rattle.objects.specs.Listing.{placed, next_in, Visit, end, free, broken, Listing, stopped, visited, list_by, list_from, Met}
use Rattle.medium.proofs.Runs.{leb_is}
use Rattle.shown.proofs.Walk.{place, span_at, next-in, next_end, Walked}

module _ (g : Geometry) (b : ℕ) (m : List ℕ) (fine : check_of g (length m) ≡ 0) where
  -- no header fits here any more
  pub at_end_lem : (n o : ℕ) → g.size ≤ o + header g.granularity g.s → list_from (suc n) g (placed b o) m ≡ stopped (placed b o) end
  unfolding list_from
  at_end_lem n o h = ap (λ (x : Answer Met). list_by x (placed b o) (λ j. list_from n g j m)) (next_end g b m fine o h)

  module _ (n o : ℕ) (fits : o + header g.granularity g.s < g.size) where
    -- an object is visited, and the listing goes on behind it
    pub at_object : (h : ObjectHeader) → info_at g (place g b o) m ≡ done (found h) → list_from (suc n) g (placed b o) m ≡ visited (placed b o) h (list_from n g (placed b (o + span_at g b h)) m)
    unfolding list_from
    at_object h i = ap (λ (x : Answer Met). list_by x (placed b o) (λ j. list_from n g j m)) (next-in g b m fine o fits ∙ ap (next_in g (placed b o)) i)

    -- a free place, or bytes that are no header, ends it
    pub at-free : info_at g (place g b o) m ≡ done none → list_from (suc n) g (placed b o) m ≡ stopped (placed b o) free
    unfolding list_from
    at-free i = ap (λ (x : Answer Met). list_by x (placed b o) (λ j. list_from n g j m)) (next-in g b m fine o fits ∙ ap (next_in g (placed b o)) i)

    pub at-broken : (k : ℕ) → info_at g (place g b o) m ≡ refused k → list_from (suc n) g (placed b o) m ≡ stopped (placed b o) (broken k)
    unfolding list_from
    at-broken k i = ap (λ (x : Answer Met). list_by x (placed b o) (λ j. list_from n g j m)) (next-in g b m fine o fits ∙ ap (next_in g (placed b o)) i)

  -- where a listing stops at a free place, a header fits
  pub free_fits : (n o : ℕ) → (list_from n g (placed b o) m).stop ≡ free → (list_from n g (placed b o) m).last + header g.granularity g.s < g.size
  unfolding list_from
  free_fits zero o s = let z : ◌≡◌ {A = ℕ} 0 1 = cc in absurd (omega arith)
  free_fits (suc n) o s = go (leb_is g.size (o + header g.granularity g.s)) (λ y t. free_fits n y t)
    where
      seen : o + header g.granularity g.s < g.size → (a : Answer Info) → info_at g (place g b o) m ≡ a → ((y : ℕ) → (list_from n g (placed b y) m).stop ≡ free → (list_from n g (placed b y) m).last + header g.granularity g.s < g.size)
          → (list_from (suc n) g (placed b o) m).last + header g.granularity g.s < g.size
      seen f (done (found h)) i rec =
          let l : list_from (suc n) g (placed b o) m ≡ visited (placed b o) h (list_from n g (placed b (o + span_at g b h)) m) = at_object n o f h i in
          let t : (list_from n g (placed b (o + span_at g b h)) m).stop ≡ free = ap (λ (x : Listing). x.stop) (sym l) ∙ s in
          rw (ap (λ (x : Listing). x.last) l) (rec (o + span_at g b h) t)
      seen f (done none) i rec = rw (ap (λ (x : Listing). x.last) (at-free n o f i)) f
      seen f (refused k) i rec =
          let t : broken k ≡ free = ap (λ (x : Listing). x.stop) (sym (at-broken n o f k i)) ∙ s in
          let z : ◌≡◌ {A = ℕ} 0 1 = cc in absurd (omega arith)

      go : (g.size ≤ o + header g.granularity g.s) ⊎ (o + header g.granularity g.s < g.size) → ((y : ℕ) → (list_from n g (placed b y) m).stop ≡ free → (list_from n g (placed b y) m).last + header g.granularity g.s < g.size)
          → (list_from (suc n) g (placed b o) m).last + header g.granularity g.s < g.size
      go (inl c) rec =
          let t : end ≡ free = ap (λ (x : Listing). x.stop) (sym (at_end_lem n o c)) ∙ s in
          let z : ◌≡◌ {A = ℕ} 0 1 = cc in absurd (omega arith)
      go (inr c) rec = seen c (info_at g (place g b o) m) refl rec

  -- what does not change by a visit is, of a listing that goes over a walk, what it is from the end of the walk
  behind : {A : Type 0} (f : Listing → A) → ((i : ObjectIterator) (h : ObjectHeader) (l : Listing) → f (visited i h l) ≡ f l) → (vs : List Visit) (o e n : ℕ) → Walked g b m o vs e → length vs ≤ n
      → f (list_from n g (placed b o) m) ≡ f (list_from (n - length vs) g (placed b e) m)
  behind f keeps [] o e n w h = ap₂ (λ (k x : ℕ). f (list_from k g (placed b x) m)) (sym (sub-zero n)) w
  behind f keeps (v ∷ vs) o e zero w h = absurd (omega arith)
  behind f keeps (v ∷ vs) o e (suc n) w h =
      let k : n - length vs ≡ suc n - suc (length vs) = omega arith in
      ap f (at_object n o w.2 v.object w.1)
      ∙ keeps (placed b o) v.object (list_from n g (placed b (o + span_at g b v.object)) m)
      ∙ behind f keeps vs (o + span_at g b v.object) e n w.3 (omega arith)
      ∙ ap (λ (x : ℕ). f (list_from x g (placed b e) m)) k

  pub stop_behind : (vs : List Visit) (o e n : ℕ) → Walked g b m o vs e → length vs ≤ n → (list_from n g (placed b o) m).stop ≡ (list_from (n - length vs) g (placed b e) m).stop
  stop_behind = behind (λ x. x.stop) (λ i h l. refl)

  pub last_behind : (vs : List Visit) (o e n : ℕ) → Walked g b m o vs e → length vs ≤ n → (list_from n g (placed b o) m).last ≡ (list_from (n - length vs) g (placed b e) m).last
  last_behind = behind (λ x. x.last) (λ i h l. refl)
