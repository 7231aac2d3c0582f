-- "Read: block below the count, offset plus length at most the block size, else Io. Write: the same; under Word(4) the offset is a multiple
-- of 4 and the data is padded with FF to whole words that must also fit. Lengths of 0 follow the same tests and program nothing."
use Rattle.std.specs.Prelude.{ℕ, zero, suc, ◌+◌, ◌*◌, ◌%◌, List, [], ◌∷◌, ◌&&◌, length, take, drop, ltb, leb, eqb}
use Rattle.std.specs.Int.Bits.{bit_and}
use Rattle.medium.specs.declared.geometry.Geometry.{Geometry}
use Rattle.medium.specs.Granularity.{pick, width_of, align_of}
use Rattle.medium.specs.Geometry.{admit, fit_of, address}
use Rattle.medium.specs.Units.{FlashUnit, erased, units_of}
use Rattle.medium.specs.Strict.{not_erased}
use Rattle.medium.specs.Operation.{Answer, done, refused, Op, refuse, putting}

abbrev pub part : ℕ → ℕ → List ℕ → List ℕ
part a n img = take n (drop a img)

-- the units of bytes that are stored at a place of a block
abbrev pub units_at : Geometry → ℕ → ℕ → List ℕ → List FlashUnit
units_at g b o bs = units_of (width_of g.granularity) (address g b o) bs

-- the first n bytes programmed, as a loop does it: the data first and then FF
abbrev pub onto : ℕ → List ℕ → List ℕ → List ℕ
onto zero d xs = xs
onto (suc n) d [] = []
onto (suc n) [] (x ∷ xs) = bit_and x 255 ∷ onto n [] xs
onto (suc n) (b ∷ d) (x ∷ xs) = bit_and x b ∷ onto n d xs

-- ---- refusals: 6, then 7, then 3; or 0

unfoldable pub readable : Geometry → ℕ → ℕ → ℕ → ℕ → ℕ
readable g room b o n = admit g room (pick (ltb b g.count && leb (o + n) g.size) 0 3)

unfoldable pub writable : Geometry → ℕ → ℕ → ℕ → ℕ → ℕ
writable g room b o n =
    admit g room
    (pick
    (ltb b g.count && eqb (o % width_of g.granularity) 0
    && leb (o + align_of (width_of g.granularity) n) g.size)
    0
    3)

unfoldable pub erasable : Geometry → ℕ → ℕ → ℕ
erasable g room b = admit g room (pick (ltb b g.count) 0 3)

-- "aligned up"; a call with no image can give 6 but not 7
unfoldable pub aligned_of : Geometry → ℕ → Answer ℕ
aligned_of g n = pick (eqb (fit_of g) 0) (done (align_of (width_of g.granularity) n)) (refused (fit_of g))

-- and under the strict mark 10, after 3: the tests of one store
unfoldable pub storable : Geometry → ℕ → ℕ → List ℕ → List ℕ → ℕ
storable g b o bs img =
    let r = writable g (length img) b o (length bs) in
    pick (eqb r 0) (not_erased g.strict (units_at g b o bs) img) r

-- ---- the operations

unfoldable pub read_at : Geometry → ℕ → ℕ → ℕ → List ℕ → Answer (List ℕ)
read_at g b o n img =
    let r = readable g (length img) b o n in
    let bs = part (address g b o) n img in
    pick (eqb r 0) (done bs) (refused r)

-- what is lent of a read's bytes: all, or none where it is refused
abbrev pub lent : Answer (List ℕ) → List ℕ
lent (done bs) = bs
lent (refused n) = []

unfoldable pub write : Geometry → ℕ → ℕ → List ℕ → Op (Unit {0})
write g b o bs img =
    let r = storable g b o bs img in
    pick (eqb r 0) (λ i. putting (units_of (width_of g.granularity) (address g b o) bs) tt i) (refuse r) img

unfoldable pub erase : Geometry → ℕ → Op (Unit {0})
erase g b img =
    let r = erasable g (length img) b in
    pick (eqb r 0) (putting (erased (b * g.size) g.size ∷ []) tt) (refuse r) img
