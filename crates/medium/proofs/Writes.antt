-- The laws of a store that the crates above cite: how it ran, what it stores, which bytes it misses, and that it programs only. No proof above
-- opens `write` or `erase`.
use mathlib.Core.Path.{◌≡◌, refl, sym, ap, ◌∙◌}
use mathlib.Core.Bool.{Bool, true, false, ◌&&◌, and-true}
use mathlib.Core.List.{List, [], ◌∷◌, ◌++◌, append-nil}
use Prim.Native.Nat.{ℕ, ◌+◌, ◌*◌, ◌%◌, ◌≤◌, ◌<◌}
use native.Mathlib.Nat.{add_assoc, add-mul, add-mul-mod_self_right, zero-mul}
use native.Mathlib.Omega.{arith}
use lib.ListN.{length, get_or, length-append}
use lib.Dec.{leb, ltb, eqb}
use lib.Bits.{bit_and}
use borrow.Author.Tests.{eqb-true, eqb-false, leb-true, leb-false, le-leb, lt-ltb, eq-eqb}
use Rattle.medium.specs.All.{All}
use Rattle.medium.specs.declared.geometry.Geometry.{Geometry}
use Rattle.medium.specs.Granularity.{pick, width_of, units_in, align_of}
use Rattle.medium.specs.Geometry.{geometry_ok, admit, check_of, address}
use Rattle.medium.specs.Units.{FlashUnit, programmed, erased, units_of}
use Rattle.medium.specs.Operation.{apply, done, refused, Op, ◌>>=◌, ask, refuse, putting}
use Rattle.medium.specs.Strict.{any_again, not_erased}
use Rattle.medium.specs.Medium.{units_at, writable, storable, erasable, write, erase}
use Rattle.medium.proofs.Bytes.{Off, Misses, store_miss, length-apply, stored, fits_up}
use Rattle.medium.proofs.Places.{width_is}
use Rattle.medium.proofs.Checks.{admit_pass, write_at}
use Rattle.medium.proofs.Split.{units_split, units_even, units_more, units_none, none_stored}
use Rattle.medium.proofs.Programs.{Programs, store_each}
use Rattle.medium.proofs.Strict.{unmarked, storable_range, storable_yes}
use Rattle.medium.proofs.Traced.{ran}

-- ---- how it ran

-- let pass by its tests with 0, or refused with another number
pub write_is : (g : Geometry) (b o r : ℕ) (bs img : List ℕ) (t : Bool) → storable g b o bs img ≡ r → eqb r 0 ≡ t
    → write g b o bs img ≡ pick {A = Op (Unit {0})} t (putting (units_at g b o bs) tt) (refuse r) img
unfolding write
write_is g b o r bs img true e q = rw (e, q)
write_is g b o r bs img false e q = rw (e, q)

-- let pass
pub write_passed : (g : Geometry) (b o : ℕ) (bs img : List ℕ) → storable g b o bs img ≡ 0 → write g b o bs img ≡ ran (units_at g b o bs) tt
unfolding putting
write_passed g b o bs img e = write_is g b o 0 bs img true e refl

-- the range of such a place
range_passed : (g : Geometry) (b o : ℕ) (bs img : List ℕ) → check_of g (length img) ≡ 0 → b < g.count → o % width_of g.granularity ≡ 0
    → o + align_of (width_of g.granularity) (length bs) ≤ g.size → writable g (length img) b o (length bs) ≡ 0
unfolding writable
range_passed g b o bs img f h k r =
    rw (admit_pass g (length img) (pick (ltb b g.count && eqb (o % width_of g.granularity) 0 && leb (o + align_of (width_of g.granularity) (length bs)) g.size) 0 3) (check_of g (length img)) refl f, lt-ltb b g.count h, eq-eqb (o % width_of g.granularity) 0 k, le-leb (o + align_of (width_of g.granularity) (length bs)) g.size r)

-- by a valid geometry, a block that is there, and an aligned place with room that under the mark has no programmed unit in the way
pub write_ran : (g : Geometry) (b o : ℕ) (bs img : List ℕ) → check_of g (length img) ≡ 0 → b < g.count → o % width_of g.granularity ≡ 0
    → o + align_of (width_of g.granularity) (length bs) ≤ g.size → (g.strict ≡ 1 → any_again (units_at g b o bs) img ≡ false) → write g b o bs img ≡ ran (units_at g b o bs) tt
write_ran g b o bs img f h k r c = write_passed g b o bs img (storable_yes g b o bs img (range_passed g b o bs img f h k r) c)

-- where it is done its tests were passed
pub write_tested : (g : Geometry) (b o : ℕ) (bs img : List ℕ) (u : Unit {0}) → (write g b o bs img).answer ≡ done u → storable g b o bs img ≡ 0
unfolding write putting ask
write_tested g b o bs img u e = go (eqb (storable g b o bs img) 0) refl e
  where
    go : (t : Bool) → eqb (storable g b o bs img) 0 ≡ t
        → (pick {A = Op (Unit {0})} t (λ i. putting (units_at g b o bs) tt i) (refuse (storable g b o bs img)) img).answer ≡ done u
        → storable g b o bs img ≡ 0
    go true q h = eqb-true _ _ q
    go false q h = let z : ◌≡◌ {A = ℕ} 0 1 = cc in absurd (omega arith)

-- and all its units are stored
pub write_stored : (g : Geometry) (b o : ℕ) (bs img : List ℕ) (u : Unit {0}) → (write g b o bs img).answer ≡ done u → write g b o bs img ≡ ran (units_at g b o bs) tt
write_stored g b o bs img u e = write_passed g b o bs img (write_tested g b o bs img u e)

-- an erase that its tests let pass
pub erase_passed : (g : Geometry) (b : ℕ) (img : List ℕ) → erasable g (length img) b ≡ 0 → erase g b img ≡ ran (erased (b * g.size) g.size ∷ []) tt
unfolding erase putting
erase_passed g b img e = rw e

-- whatever its answer: no units, or all of them
pub write_cases : (Q : List FlashUnit → Type 0) (g : Geometry) (b o : ℕ) (bs img : List ℕ) → Q [] → Q (units_at g b o bs) → Q (write g b o bs img).events
unfolding write putting ask
write_cases Q g b o bs img none all = go (eqb (storable g b o bs img) 0)
  where
    go : (t : Bool) → Q (pick {A = Op (Unit {0})} t (λ i. putting (units_at g b o bs) tt i) (refuse (storable g b o bs img)) img).events
    go true = all
    go false = none

-- ---- what it stores

-- each byte of a store that is done becomes old AND new
pub write_byte : (g : Geometry) (b o : ℕ) (bs img : List ℕ) (u : Unit {0}) (i : ℕ) → (write g b o bs img).answer ≡ done u → i < length bs
    → get_or (apply (write g b o bs img).events img) (address g b o + i) 0 ≡ bit_and (get_or img (address g b o + i) 0) (get_or bs i 0)
write_byte g b o bs img u i e h =
    let hw : 0 < width_of g.granularity = (width_is g.granularity).0 in
    let l = write_at g (length img) b o (length bs) (writable g (length img) b o (length bs)) refl (storable_range g b o bs img (write_tested g b o bs img u e)) in
    rw (write_stored g b o bs img u e)
    (ap (λ (us : List FlashUnit). get_or (apply us img) (address g b o + i) 0) (sym (append-nil (units_at g b o bs)))
    ∙ stored (width_of g.granularity) hw [] [] (address g b o) bs i img tt tt h (omega (arith, l.ends, fits_up (width_of g.granularity) hw (length bs))))

-- no bytes store nothing
pub write_nothing : (g : Geometry) (b o : ℕ) (img : List ℕ) → (write g b o [] img).events ≡ []
write_nothing g b o img = write_cases (λ us. us ≡ []) g b o [] img refl (none_stored (width_of g.granularity) (width_is g.granularity).0 (address g b o))

-- a place where no bytes can be stored takes none
none_refused : (g : Geometry) (room b o n : ℕ) → (writable g room b o 0 ≡ 0 → ⊥) → writable g room b o n ≡ writable g room b o 0
unfolding writable admit
none_refused g room b o n h =
    go (geometry_ok g) (eqb (g.size * g.count) room) (ltb b g.count) (eqb (o % width_of g.granularity) 0) (leb (o + align_of (width_of g.granularity) 0) g.size)
    (leb (o + align_of (width_of g.granularity) n) g.size) refl refl h
  where
    go : (x y t u v z : Bool) → leb (o + align_of (width_of g.granularity) 0) g.size ≡ v → leb (o + align_of (width_of g.granularity) n) g.size ≡ z
        → (pick {A = ℕ} x (pick y (pick (t && u && v) 0 3) 7) 6 ≡ 0 → ⊥)
        → pick {A = ℕ} x (pick y (pick (t && u && z) 0 3) 7) 6 ≡ pick x (pick y (pick (t && u && v) 0 3) 7) 6
    go true true true true true z p q k = absurd (k refl)
    go true true true true false true p q k =
        let a : align_of (width_of g.granularity) 0 ≡ 0 = ap (λ (i : ℕ). i * width_of g.granularity) (units_none (width_of g.granularity) (width_is g.granularity).0) ∙ zero-mul (width_of g.granularity) in
        let l : g.size < o + align_of (width_of g.granularity) 0 = leb-false _ _ p in
        let m : o + align_of (width_of g.granularity) n ≤ g.size = leb-true _ _ q in
        absurd (omega arith)
    go true true true true false false p q k = refl
    go true true true false v z p q k = refl
    go true true false u v z p q k = refl
    go true false t u v z p q k = refl
    go false y t u v z p q k = refl

-- so storing none first changes nothing
pub none_first : (g : Geometry) (b o : ℕ) (bs img : List ℕ) → (write g b o [] >>= λ _. write g b o bs) img ≡ write g b o bs img
unfolding ◌>>=◌ putting ask storable not_erased
none_first g b o bs img = go (eqb (writable g (length img) b o 0) 0) refl
  where
    us : units_at g b o [] ≡ []
    us = none_stored (width_of g.granularity) (width_is g.granularity).0 (address g b o)

    go : (t : Bool) → eqb (writable g (length img) b o 0) 0 ≡ t → (write g b o [] >>= λ _. write g b o bs) img ≡ write g b o bs img
    go true q =
        let c : storable g b o [] img ≡ 0 = storable_yes g b o [] img (eqb-true _ _ q) (λ _. rw us) in
        rw (write_passed g b o [] img c, us)
    go false q =
        let n : writable g (length img) b o 0 ≡ 0 → ⊥ = λ z. eqb-false _ _ q z in
        let e : write g b o [] img ≡ record { events = []; answer = refused (writable g (length img) b o 0) } = write_is g b o (writable g (length img) b o 0) [] img false (rw q) q in
        let f : write g b o bs img ≡ record { events = []; answer = refused (writable g (length img) b o 0) } =
        write_is g b o (writable g (length img) b o 0) bs img false (rw (none_refused g (length img) b o (length bs) n, q)) q in
        rw (e, f)

-- ---- what it misses, and that it programs only

-- a byte outside its whole units
pub write_miss : (g : Geometry) (b o : ℕ) (bs img : List ℕ) (j : ℕ) → Off (address g b o) (align_of (width_of g.granularity) (length bs)) j → All (Misses j) (write g b o bs img).events
write_miss g b o bs img j h = write_cases (All (Misses j)) g b o bs img tt (store_miss (width_of g.granularity) (width_is g.granularity).0 (address g b o) bs j h)

-- what holds of every unit that programs
pub write_each : (P : FlashUnit → Type 0) → ((a : ℕ) (ds : List ℕ) → P (programmed a ds)) → (g : Geometry) (b o : ℕ) (bs img : List ℕ) → All P (write g b o bs img).events
write_each P h g b o bs img = write_cases (All P) g b o bs img tt (store_each P h (width_of g.granularity) (address g b o) bs)

pub write_programs : (g : Geometry) (b o : ℕ) (bs img : List ℕ) → All Programs (write g b o bs img).events
write_programs g b o bs img = write_each Programs (λ _ _. tt) g b o bs img

-- ---- one store in two

-- the tests of a store that ends within the block
abbrev placed : Geometry → ℕ → ℕ → ℕ → ℕ
placed g room b o = admit g room (pick (ltb b g.count && eqb (o % width_of g.granularity) 0) 0 3)

placed_is : (g : Geometry) (room b o n : ℕ) → o + align_of (width_of g.granularity) n ≤ g.size → writable g room b o n ≡ placed g room b o
unfolding writable
placed_is g room b o n h = rw (le-leb _ _ h, and-true)

-- whole words first and then the rest: without the mark unit for unit the one store, refusals included
pub write_split : (g : Geometry) (b o m : ℕ) (xs ys img : List ℕ) → (g.strict ≡ 1 → ⊥) → length xs ≡ m * width_of g.granularity
    → o + (length xs + align_of (width_of g.granularity) (length ys)) ≤ g.size
    → write g b o (xs ++ ys) img ≡ (write g b o xs >>= λ _. write g b (o + m * width_of g.granularity) ys) img
unfolding ◌>>=◌ ask putting
write_split g b o m xs ys img off e h = go (eqb (placed g (length img) b o) 0) refl
  where
    hk : 0 < width_of g.granularity
    hk = (width_is g.granularity).0

    whole : align_of (width_of g.granularity) (length (xs ++ ys)) ≡ length xs + align_of (width_of g.granularity) (length ys)
    whole =
        ap (align_of (width_of g.granularity)) (length-append xs ys ∙ ap (λ (n : ℕ). n + length ys) e)
        ∙ ap (λ (n : ℕ). n * width_of g.granularity) (units_more (width_of g.granularity) hk m (length ys))
        ∙ add-mul m (units_in (width_of g.granularity) (length ys)) (width_of g.granularity)
        ∙ ap (λ (n : ℕ). n + align_of (width_of g.granularity) (length ys)) (sym e)

    first : align_of (width_of g.granularity) (length xs) ≡ length xs
    first = ap (align_of (width_of g.granularity)) e ∙ ap (λ (n : ℕ). n * width_of g.granularity) (units_even (width_of g.granularity) hk m) ∙ sym e

    us : List FlashUnit
    us = units_of (width_of g.granularity) (address g b o) xs

    vs : List FlashUnit
    vs = units_of (width_of g.granularity) (address g b (o + m * width_of g.granularity)) ys

    both : units_of (width_of g.granularity) (address g b o) (xs ++ ys) ≡ us ++ vs
    both =
        units_split (width_of g.granularity) hk m (address g b o) xs ys e
        ∙ ap (λ (a : ℕ). units_of (width_of g.granularity) (address g b o) xs ++ units_of (width_of g.granularity) a ys) (add_assoc (b * g.size) o (m * width_of g.granularity))

    all_placed : storable g b o (xs ++ ys) img ≡ placed g (length img) b o
    all_placed = unmarked g b o (xs ++ ys) img off ∙ placed_is g (length img) b o (length (xs ++ ys)) (rw whole h)

    first-placed : storable g b o xs img ≡ placed g (length img) b o
    first-placed = unmarked g b o xs img off ∙ placed_is g (length img) b o (length xs) (rw first (omega arith))

    rest-placed : storable g b (o + m * width_of g.granularity) ys (apply us img) ≡ placed g (length img) b o
    rest-placed =
        unmarked g b (o + m * width_of g.granularity) ys (apply us img) off
        ∙ placed_is g (length (apply us img)) b (o + m * width_of g.granularity) (length ys) (omega arith)
        ∙ rw (length-apply us img, add-mul-mod_self_right o m (width_of g.granularity))

    go : (t : Bool) → eqb (placed g (length img) b o) 0 ≡ t → write g b o (xs ++ ys) img ≡ (write g b o xs >>= λ _. write g b (o + m * width_of g.granularity) ys) img
    go true q =
        write_is g b o (placed g (length img) b o) (xs ++ ys) img true all_placed q
        ∙ rw (write_is g b o (placed g (length img) b o) xs img true first-placed q, write_is g b (o + m * width_of g.granularity) (placed g (length img) b o) ys (apply us img) true rest-placed q, both)
    go false q =
        write_is g b o (placed g (length img) b o) (xs ++ ys) img false all_placed q
        ∙ rw (write_is g b o (placed g (length img) b o) xs img false first-placed q)
