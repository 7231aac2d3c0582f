-- Over erased bytes stands the data: an erased block reads FF, and bytes that were stored over FF read as they were stored.
use mathlib.Core.Path.{◌≡◌, refl, sym, ap, ◌∙◌}
use mathlib.Core.List.{List, [], ◌∷◌, ◌++◌, append-nil}
use Prim.Native.Nat.{ℕ, zero, suc, ◌+◌, ◌≤◌, ◌<◌}
use native.Mathlib.Nat.{zero-add, suc-add, not-suc-le-zero, le_of_suc-le-suc}
use native.Mathlib.Omega.{arith}
use lib.ListN.{length, get_or, replicate, length-replicate, get_or-replicate}
use lib.Bits.{bit_and}
use lib.Dec.{ltb, leb}
use mathlib.Core.Bool.{◌&&◌}
use borrow.Author.Tests.{lt-ltb, le-leb}
use Rattle.medium.specs.All.{All}
use Rattle.medium.specs.declared.fuse.Fuse.TheVariants.{Absent}
use Rattle.medium.specs.declared.geometry.Geometry.{Geometry}
use Rattle.medium.specs.Granularity.{pick, width_of}
use Rattle.medium.specs.Geometry.{address, check_of}
use Rattle.medium.specs.Units.{FlashUnit, blank, under, units_of}
use Rattle.medium.specs.Operation.{apply, done, putting, run}
use Rattle.medium.specs.Medium.{part, readable, writable, storable, read_at, write}
use Rattle.medium.proofs.Bytes.{ff_and, fits_up, Misses, stored, length-apply, length_erased, part_is, get_d_part}
use Rattle.medium.proofs.Padding.{AreBytes}
use Rattle.medium.proofs.Places.{width_is}
use Rattle.medium.proofs.Checks.{write_at, admit_pass, check_of_write}
use Rattle.medium.proofs.Strict.{storable_range}

-- ---- an erased block

blank_at : (n : ℕ) (xs : List ℕ) (i d : ℕ) → i < n → i < length xs → get_or (blank n xs) i d ≡ 255
blank_at zero xs i d h k = absurd (not-suc-le-zero h)
blank_at (suc n) [] i d h k = absurd (not-suc-le-zero k)
blank_at (suc n) (x ∷ xs) zero d h k = refl
blank_at (suc n) (x ∷ xs) (suc i) d h k = blank_at n xs i d (le_of_suc-le-suc h) (le_of_suc-le-suc k)

-- each byte of it is FF
pub erased_at : (a n : ℕ) (img : List ℕ) (i d : ℕ) → i < n → a + i < length img → get_or (under a (blank n) img) (a + i) d ≡ 255
erased_at zero n img i d h k = rw zero-add (blank_at n img i d h (omega arith))
erased_at (suc a) n [] i d h k = absurd (not-suc-le-zero k)
erased_at (suc a) n (x ∷ xs) i d h k = rw suc-add (erased_at a n xs i d h (omega arith))

-- so the part is all FF
pub erased_part : (a n : ℕ) (img : List ℕ) → a + n ≤ length img → part a n (under a (blank n) img) ≡ replicate n 255
erased_part a n img h =
    part_is a n (under a (blank n) img) (replicate n 255) (rw length_erased h) (length-replicate n 255)
    (λ i k. erased_at a n img i 0 k (omega arith) ∙ sym (get_or-replicate n i 255 0 k))

-- and a part that is all FF is FF at each byte
pub ff_at : (a n : ℕ) (img : List ℕ) → part a n img ≡ replicate n 255 → (i : ℕ) → i < n → get_or img (a + i) 0 ≡ 255
ff_at a n img e i h = sym (get_d_part a n img i 0 h) ∙ ap (λ (l : List ℕ). get_or l i 0) e ∙ get_or-replicate n i 255 0 h

-- ---- a store over it

module _ (w : ℕ) (hw : 0 < w) (a : ℕ) (bs img : List ℕ) (bytes : AreBytes bs) (ends : a + length bs ≤ length img) (ff : part a (length bs) img ≡ replicate (length bs) 255) where
  -- in the midst of units that miss it
  pub stands_among : (us vs : List FlashUnit)
      → ((i : ℕ) → i < length bs → All (Misses (a + i)) us) → ((i : ℕ) → i < length bs → All (Misses (a + i)) vs)
      → part a (length bs) (apply (us ++ (units_of w a bs ++ vs)) img) ≡ bs
  stands_among us vs hu hv =
      part_is a (length bs) (apply (us ++ (units_of w a bs ++ vs)) img) bs (rw length-apply ends) refl
      (λ i h. stored w hw us vs a bs i img (hu i h) (hv i h) h (omega arith)
      ∙ ap (λ (x : ℕ). bit_and x (get_or bs i 0)) (ff_at a (length bs) img ff i h)
      ∙ ff_and (get_or bs i 0) (bytes i))

  -- and alone
  pub stands : part a (length bs) (apply (units_of w a bs) img) ≡ bs
  stands =
      ap (λ (us : List FlashUnit). part a (length bs) (apply us img)) (sym (append-nil (units_of w a bs)))
      ∙ stands_among [] [] (λ _ _. tt) (λ _ _. tt)

-- ---- the same for the calls: a write that is done over FF reads back

-- what a write may store, a read may read
pub readable_written : (g : Geometry) (room b o n : ℕ) → writable g room b o n ≡ 0 → readable g room b o n ≡ 0
unfolding readable
readable_written g room b o n e =
    let l = write_at g room b o n (writable g room b o n) refl e in
    let h : o + n ≤ g.size = omega (arith, l.inside, fits_up (width_of g.granularity) (width_is g.granularity).0 n) in
    admit_pass g room (pick (ltb b g.count && leb (o + n) g.size) 0 3) (check_of g room) refl (check_of_write g room b o n e)
    ∙ rw (lt-ltb _ _ l.below, le-leb _ _ h)

-- with power, a write over FF reads as it was written
pub written_reads : (g : Geometry) (b o : ℕ) (bs img : List ℕ) → storable g b o bs img ≡ 0 → AreBytes bs
    → part (address g b o) (length bs) img ≡ replicate (length bs) 255
    → read_at g b o (length bs) (run Absent (write g b o bs) img).state ≡ done bs
unfolding read_at write run putting
written_reads g b o bs img t h ff =
    let e = storable_range g b o bs img t in
    let w = width_of g.granularity in
    let hw = (width_is g.granularity).0 in
    let l = write_at g (length img) b o (length bs) (writable g (length img) b o (length bs)) refl e in
    let k : address g b o + length bs ≤ length img = omega (arith, l.ends, fits_up w hw (length bs)) in
    rw (t, length-apply (units_of w (address g b o) bs) img, readable_written g (length img) b o (length bs) e)
    (ap done (stands w hw (address g b o) bs img h k ff))
