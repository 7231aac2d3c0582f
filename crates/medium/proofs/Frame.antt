-- Bytes outside are untouched: of a store's units, of any first units of it, of an erase, and of a whole run under a fuse.
use mathlib.Core.Path.{◌≡◌, refl, sym, ◌∙◌}
use mathlib.Core.Logic.{◌⊎◌, inl, inr}
use mathlib.Core.Bool.{Bool, true, false}
use mathlib.Core.List.{List, [], ◌∷◌}
use Prim.Native.Nat.{ℕ, suc, ◌+◌, ◌*◌, ◌≤◌, ◌<◌}
use native.Mathlib.Nat.{mul-le-mul_right, suc-mul}
use native.Mathlib.Omega.{arith}
use lib.ListN.{length, take, get_or}
use lib.Dec.{leb, eqb}
use borrow.Author.Tests.{eqb-true}
use Rattle.medium.specs.All.{All}
use Rattle.medium.specs.declared.fuse.Fuse.{Fuse}
use Rattle.medium.specs.declared.fuse.Fuse.TheVariants.{Absent, Units}
use Rattle.medium.specs.declared.geometry.Geometry.{Geometry}
use Rattle.medium.specs.Granularity.{pick, width_of, align_of}
use Rattle.medium.specs.Geometry.{address}
use Rattle.medium.specs.Units.{FlashUnit, erased, units_of}
use Rattle.medium.specs.Operation.{flash, apply, cost, Op, ask, putting, cut_by, run}
use Rattle.medium.specs.Medium.{part, writable, storable, erasable, write, erase}
use Rattle.medium.proofs.Runs.{prefix_flash, leb_is}
use Rattle.medium.proofs.Bytes.{Off, Misses, All-take, frame, store_miss, length-apply, part_is, get_d_part, length_part}
use Rattle.medium.proofs.Places.{width_is}
use Rattle.medium.proofs.Checks.{write_at}
use Rattle.medium.proofs.Strict.{storable_range}

-- ---- one byte

module _ (w : ℕ) (hw : 0 < w) where
  -- the first k units of a store leave a byte outside its whole units
  pub cut_frame : (k a : ℕ) (bs img : List ℕ) (j d : ℕ) → Off a (align_of w (length bs)) j → get_or (apply (take k (units_of w a bs)) img) j d ≡ get_or img j d
  cut_frame k a bs img j d h = frame j d (take k (units_of w a bs)) img (All-take (Misses j) k (units_of w a bs) (store_miss w hw a bs j h))

  -- and so do all of them
  pub store_frame : (a : ℕ) (bs img : List ℕ) (j d : ℕ) → Off a (align_of w (length bs)) j → get_or (apply (units_of w a bs) img) j d ≡ get_or img j d
  store_frame a bs img j d h = frame j d (units_of w a bs) img (store_miss w hw a bs j h)

-- an erase leaves a byte outside
pub erase_frame : (a n : ℕ) (img : List ℕ) (j d : ℕ) → Off a n j → get_or (apply (erased a n ∷ []) img) j d ≡ get_or img j d
erase_frame a n img j d h = frame j d (erased a n ∷ []) img (h, tt)

-- what is outside a range is outside each range within it
pub inner : (a n o m j : ℕ) → o + m ≤ n → Off a n j → Off (a + o) m j
inner a n o m j h (inl x) = inl (omega arith)
inner a n o m j h (inr x) = inr (omega arith)

-- ---- a part

-- two images that agree byte for byte have the same part
pub part_same : (a n : ℕ) (img other : List ℕ) → length other ≡ length img → a + n ≤ length img
    → ((j : ℕ) → a ≤ j → j < a + n → get_or other j 0 ≡ get_or img j 0) → part a n other ≡ part a n img
part_same a n img other e h f =
    part_is a n other (part a n img) (omega arith) (length_part a n img h)
    (λ i hi. f (a + i) (omega arith) (omega arith) ∙ sym (get_d_part a n img i 0 hi))

-- units that miss every byte of a part leave it
pub part_frame : (us : List FlashUnit) (a n : ℕ) (img : List ℕ) → a + n ≤ length img → ((j : ℕ) → a ≤ j → j < a + n → All (Misses j) us)
    → part a n (apply us img) ≡ part a n img
part_frame us a n img h f = part_same a n img (apply us img) (length-apply us img) h (λ j b c. frame j 0 us img (f j b c))

-- ---- a run under a fuse, however it ends

-- a byte that every unit misses stays
pub run_frame : {A : Type 0} (f : Fuse) (o : Op A) (img : List ℕ) (j d : ℕ) → All (Misses j) (o img).events → get_or (run f o img).state j d ≡ get_or img j d
unfolding run
run_frame Absent o img j d h = frame j d (o img).events img h
run_frame {A} (Units k) o img j d h = go (leb (cost flash (o img).events) k)
  where
    go : (b : Bool) → get_or (cut_by {W = flash} b k (o img) img).state j d ≡ get_or img j d
    go true = frame j d (o img).events img h
    go false = rw (prefix_flash k (o img).events) (frame j d (take k (o img).events) img (All-take (Misses j) k (o img).events h))

-- and with power the image keeps its length
pub run_long : {A : Type 0} (o : Op A) (img : List ℕ) → length (run Absent o img).state ≡ length img
unfolding run
run_long o img = length-apply (o img).events img

-- ---- no call touches a byte outside the block that it names

-- what both branches of a test miss is missed
either : (j : ℕ) (t : Bool) (put none : Op (Unit {0})) (img : List ℕ) → (t ≡ true → All (Misses j) (put img).events) → All (Misses j) (none img).events
    → All (Misses j) (pick t put none img).events
either j true put none img h k = h refl
either j false put none img h k = k

-- the units of a write miss it
pub write_misses : (g : Geometry) (b o : ℕ) (bs img : List ℕ) (j : ℕ) → Off (b * g.size) g.size j → All (Misses j) (write g b o bs img).events
unfolding write putting ask
write_misses g b o bs img j h = either j (eqb (storable g b o bs img) 0) _ _ img (λ e. units e h) tt
  where
    units : eqb (storable g b o bs img) 0 ≡ true → Off (b * g.size) g.size j → All (Misses j) (units_of (width_of g.granularity) (address g b o) bs)
    units e off =
        let l = write_at g (length img) b o (length bs) (writable g (length img) b o (length bs)) refl (storable_range g b o bs img (eqb-true _ _ e)) in
        store_miss (width_of g.granularity) (width_is g.granularity).0 (address g b o) bs j
        (inner (b * g.size) g.size o (align_of (width_of g.granularity) (length bs)) j l.inside off)

-- and those of an erase
pub erase_misses : (g : Geometry) (b : ℕ) (img : List ℕ) (j : ℕ) → Off (b * g.size) g.size j → All (Misses j) (erase g b img).events
unfolding erase putting ask
erase_misses g b img j h = either j (eqb (erasable g (length img) b) 0) _ _ img (λ _. (h, tt)) tt

-- so a byte outside the block stays, at every fuse and in every end of a write
pub write_outside : (f : Fuse) (g : Geometry) (b o : ℕ) (bs img : List ℕ) (j d : ℕ) → Off (b * g.size) g.size j → get_or (run f (write g b o bs) img).state j d ≡ get_or img j d
write_outside f g b o bs img j d h = run_frame f (write g b o bs) img j d (write_misses g b o bs img j h)

-- and of an erase
pub erase_outside : (f : Fuse) (g : Geometry) (b : ℕ) (img : List ℕ) (j d : ℕ) → Off (b * g.size) g.size j → get_or (run f (erase g b) img).state j d ≡ get_or img j d
erase_outside f g b img j d h = run_frame f (erase g b) img j d (erase_misses g b img j h)

-- a byte of one block is outside every other
pub other_block : (size b c i : ℕ) → (b ≡ c → ⊥) → i < size → Off (b * size) size (c * size + i)
other_block size b c i n h = go (leb_is (suc b) c)
  where
    go : (suc b ≤ c) ⊎ (c < suc b) → Off (b * size) size (c * size + i)
    go (inl x) = inr (omega (arith, mul-le-mul_right size x, suc-mul b size))
    go (inr x) = inl (omega (arith, mul-le-mul_right size (less (leb_is b c)), suc-mul c size))
      where
        less : (b ≤ c) ⊎ (c < b) → suc c ≤ b
        less (inl y) = absurd (n (omega arith))
        less (inr y) = y

-- ---- nor one beside its own units

-- the units of a write miss every byte but theirs
write_units_miss : (g : Geometry) (b o : ℕ) (bs img : List ℕ) (j : ℕ) → Off (address g b o) (align_of (width_of g.granularity) (length bs)) j
    → All (Misses j) (write g b o bs img).events
unfolding write putting ask
write_units_miss g b o bs img j h =
    either j (eqb (storable g b o bs img) 0) _ _ img
    (λ _. store_miss (width_of g.granularity) (width_is g.granularity).0 (address g b o) bs j h) tt

-- so they leave it
pub write_beside : (f : Fuse) (g : Geometry) (b o : ℕ) (bs img : List ℕ) (j d : ℕ) → Off (address g b o) (align_of (width_of g.granularity) (length bs)) j
    → get_or (run f (write g b o bs) img).state j d ≡ get_or img j d
write_beside f g b o bs img j d h = run_frame f (write g b o bs) img j d (write_units_miss g b o bs img j h)
