-- Listing: what one step tells, that each step moves on by at least a header, and that more fuel changes nothing.
use mathlib.Core.Path.{◌≡◌, refl, sym, ap, ◌∙◌}
use Prim.Native.Nat.{ℕ, zero, suc, ◌+◌, ◌≤◌, ◌<◌}
use native.Mathlib.Omega.{arith}
use mathlib.Core.Bool.{Bool, true, false}
use mathlib.Core.List.{List}
use lib.ListN.{length}
use lib.Dec.{leb}
use borrow.Author.Tests.{leb-false, le-leb}
use Rattle.medium.specs.declared.granularity.Granularity.{Granularity}
use Rattle.medium.specs.declared.granularity.Granularity.TheVariants.{Bit, Word1, Word4}
use Rattle.medium.specs.declared.geometry.Geometry.{Geometry}
use Rattle.medium.specs.Granularity.{pick, width_of, header}
use Rattle.medium.specs.Geometry.{check_of}
use Rattle.medium.specs.Operation.{Answer, done, refused, or_refuse}
use Rattle.medium.proofs.Bytes.{fits_up}
use Rattle.medium.proofs.Places.{width_is}
use Rattle.objects.specs.declared.header.ObjectHeader.{ObjectHeader}
use Rattle.objects.specs.declared.iterator.ObjectIterator.{ObjectIterator}
use Rattle.objects.specs.Header.{payload_of}
use Rattle.objects.specs.Info.{Info, found, none, info_at, total_of, span_of}
use Rattle.objects.specs.Listing.{behind, Met, object, free_place, block_end, next_in, at_end, next_of, Listing, visited, list_by, list_from}

-- a header has at least two bytes
pub header_some : (k : Granularity) (s : ℕ) → 2 ≤ header k s
header_some Bit s = omega arith
header_some Word1 s = omega arith
header_some Word4 s = omega arith

-- an object takes at least its header
pub span_least : (k : Granularity) (s : ℕ) (h : ObjectHeader) → header k s ≤ span_of k s h
unfolding total_of
span_least k s h = omega (arith, fits_up (width_of k) (width_is k).0 (header k s + payload_of s h))

-- ---- one step

-- an object was found here: a header fits, the object is the one that stands here, and the next place is behind it
pub record Found (g : Geometry) (i : ObjectIterator) (img : List ℕ) (h : ObjectHeader) (j : ObjectIterator) : Type 0 where
  pub checked : or_refuse (check_of g (length img)) ≡ done tt
  pub fits : i.location.offset + header g.granularity g.s < g.size
  pub object : info_at g i.location img ≡ done (found h)
  pub then : j ≡ behind g i h

pub next_found : (g : Geometry) (i : ObjectIterator) (img : List ℕ) (h : ObjectHeader) (j : ObjectIterator) → next_of g i img ≡ done (object h j) → Found g i img h j
unfolding next_of
next_found g i img h j e = go (or_refuse (check_of g (length img))) refl e
  where
    info : (x : Answer Info) → or_refuse (check_of g (length img)) ≡ done tt → i.location.offset + header g.granularity g.s < g.size
        → info_at g i.location img ≡ x → next_in g i x ≡ done (object h j) → Found g i img h j
    info (done (found v)) c f q p =
        let a : v ≡ h = cc in
        let b : behind g i v ≡ j = cc in
        record { checked = c; fits = f; object = q ∙ ap (λ (z : ObjectHeader). done (found z)) a; then = sym b ∙ ap (λ (z : ObjectHeader). behind g i z) a }
    info (done none) c f q p = let z : ◌≡◌ {A = ℕ} 0 1 = cc in absurd (omega arith)
    info (refused n) c f q p = let z : ◌≡◌ {A = ℕ} 0 1 = cc in absurd (omega arith)

    room : (t : Bool) → or_refuse (check_of g (length img)) ≡ done tt → leb g.size (i.location.offset + header g.granularity g.s) ≡ t
        → pick t (done block_end) (next_in g i (info_at g i.location img)) ≡ done (object h j) → Found g i img h j
    room true c q p = let z : ◌≡◌ {A = ℕ} 0 1 = cc in absurd (omega arith)
    room false c q p = info (info_at g i.location img) c (leb-false _ _ q) refl p

    go : (a : Answer (Unit {0})) → or_refuse (check_of g (length img)) ≡ a → at_end g i a img ≡ done (object h j) → Found g i img h j
    go (done u) q p = room (leb g.size (i.location.offset + header g.granularity g.s)) q refl p
    go (refused n) q p = let z : ◌≡◌ {A = ℕ} 0 1 = cc in absurd (omega arith)

-- each step moves on by at least the header, in the same block
pub record Moves (g : Geometry) (i j : ObjectIterator) : Type 0 where
  pub forward : i.location.offset + header g.granularity g.s ≤ j.location.offset
  pub within : i.location.offset + header g.granularity g.s < g.size
  pub block : j.location.block ≡ i.location.block

pub next_moves : (g : Geometry) (i : ObjectIterator) (img : List ℕ) (h : ObjectHeader) (j : ObjectIterator) → next_of g i img ≡ done (object h j) → Moves g i j
next_moves g i img h j e =
    let v = next_found g i img h j e in
    let o : j.location.offset ≡ i.location.offset + span_of g.granularity g.s h = ap (λ (x : ObjectIterator). x.location.offset) v.then in
    record {
      forward = omega (arith, span_least g.granularity g.s h);
      within = v.fits;
      block = ap (λ (x : ObjectIterator). x.location.block) v.then;
    }

-- where no header fits, listing ends
pub next_end : (g : Geometry) (i : ObjectIterator) (img : List ℕ) → or_refuse (check_of g (length img)) ≡ done tt → g.size ≤ i.location.offset + header g.granularity g.s
    → next_of g i img ≡ done block_end
unfolding next_of
next_end g i img c h = rw (c, le-leb _ _ h)

-- ---- fuel

-- the fuel is enough where it reaches the block's end
pub enough : (m n : ℕ) (g : Geometry) (i : ObjectIterator) (img : List ℕ) → or_refuse (check_of g (length img)) ≡ done tt
    → g.size ≤ i.location.offset + m → g.size ≤ i.location.offset + n → list_from m g i img ≡ list_from n g i img
unfolding list_from
enough zero zero g i img c hm hn = refl
enough zero (suc n) g i img c hm hn = rw (next_end g i img c (omega (arith, header_some g.granularity g.s)))
enough (suc m) zero g i img c hm hn = rw (next_end g i img c (omega (arith, header_some g.granularity g.s)))
enough (suc m) (suc n) g i img c hm hn = go (next_of g i img) refl (λ j a b. enough m n g j img c a b)
  where
    go : (x : Answer Met) → next_of g i img ≡ x
        → ((j : ObjectIterator) → g.size ≤ j.location.offset + m → g.size ≤ j.location.offset + n → list_from m g j img ≡ list_from n g j img)
        → list_by x i (λ j. list_from m g j img) ≡ list_by x i (λ j. list_from n g j img)
    go (done (object h j)) e more =
        let v = next_moves g i img h j e in
        let s = header_some g.granularity g.s in
        ap (λ (l : Listing). visited i h l) (more j (omega (arith, v.forward)) (omega (arith, v.forward)))
    go (done free_place) e more = refl
    go (done block_end) e more = refl
    go (refused k) e more = refl

-- so a listing with the block size as its fuel is its first step and a listing with the same fuel
pub unroll : (g : Geometry) (i : ObjectIterator) (img : List ℕ) → or_refuse (check_of g (length img)) ≡ done tt → 1 ≤ g.size
    → list_from g.size g i img ≡ list_by (next_of g i img) i (λ j. list_from g.size g j img)
unfolding list_from
unroll g i img c h = enough g.size (suc g.size) g i img c (omega arith) (omega arith)

-- ---- how many visits there can be

few : (n : ℕ) (i : ObjectIterator) (x : Answer Met) (more : ObjectIterator → Listing) → ((j : ObjectIterator) → length (more j).visits ≤ n)
    → length (list_by x i more).visits ≤ suc n
few n i (done (object h j)) more f = omega (arith, f j)
few n i (done free_place) more f = omega arith
few n i (done block_end) more f = omega arith
few n i (refused k) more f = omega arith

-- no listing has more visits than its fuel, so none of a block more than the block has bytes
pub few_visits : (n : ℕ) (g : Geometry) (i : ObjectIterator) (img : List ℕ) → length (list_from n g i img).visits ≤ n
unfolding list_from
few_visits zero g i img = omega arith
few_visits (suc n) g i img = few n i (next_of g i img) (λ j. list_from n g j img) (λ j. few_visits n g j img)
