-- The rows of a batch: its order of refusals, what is done at each cut, and ranges and types that look right.
use Rattle.std.specs.Prelude.{Bool, ◌&&◌, List, [], ◌∷◌, ◌++◌, ℕ, replicate}
use Rattle.medium.specs.declared.granularity.Granularity.TheVariants.{Bit, Word4}
use Rattle.medium.specs.declared.geometry.Geometry.{Geometry}
use Rattle.medium.specs.declared.fuse.Fuse.{Fuse}
use Rattle.medium.specs.declared.fuse.Fuse.TheVariants.{Absent, Units}
use Rattle.medium.specs.Operation.{run}
use Rattle.medium.specs.Beside.{both}
use Rattle.medium.specs.Bench.{blocks, holding, same, ends}
use Rattle.batch.specs.Batch.{write_all}

-- one block of 64 bytes, and the payload ABC
abbrev chip : Geometry
chip = blocks 1 Bit

abbrev erased : List ℕ
erased = replicate 64 255

abbrev abc : List ℕ
abc = 0x41 ∷ 0x42 ∷ 0x43 ∷ []

-- ABC at 8, and B at 14: six units, and four
abbrev first : List ℕ
first = 0x8E ∷ 8 ∷ 0 ∷ 3 ∷ []

abbrev second : List ℕ
second = 0x8E ∷ 14 ∷ 1 ∷ 1 ∷ []

abbrev written : List ℕ → List ℕ
written bs = holding 64 8 ((0x8E ∷ 0xF0 ∷ 3 ∷ 0x41 ∷ 0x42 ∷ 0x43 ∷ []) ++ bs)

-- a call: its number, the fuse that is left, the records done, the image
abbrev gives : Geometry → List ℕ → ℕ → List ℕ → Fuse → ℕ → Fuse → ℕ → List ℕ → Bool
gives g img b records f n left count after = ends (run f (write_all g b records abc) (both img (0 ∷ []))) n left (λ s. same s.image after && same s.table (count ∷ []))

-- one that stores nothing
abbrev refuses : List ℕ → ℕ → Bool
refuses records n = gives chip erased 0 records Absent n Absent 0 erased

-- ---- two records at each cut: one counts right after its last unit

abbrev pub cuts : List Bool
cuts =
    gives chip erased 0 (first ++ second) Absent 0 Absent 2 (written (0x8E ∷ 0xF0 ∷ 1 ∷ 0x42 ∷ []))
    ∷ gives chip erased 0 (first ++ second) (Units 10) 0 (Units 0) 2 (written (0x8E ∷ 0xF0 ∷ 1 ∷ 0x42 ∷ []))
    ∷ gives chip erased 0 (first ++ second) (Units 5) 8 (Units 0) 0 (holding 64 8 (0x8E ∷ 0xFF ∷ 3 ∷ 0x41 ∷ 0x42 ∷ 0x43 ∷ []))
    ∷ gives chip erased 0 (first ++ second) (Units 6) 8 (Units 0) 1 (written [])
    ∷ gives chip erased 0 (first ++ second) (Units 7) 8 (Units 0) 1 (written (0x8E ∷ []))
    ∷ []

-- ---- each record is tested at its turn: the first is written, whatever the second is

abbrev pub turns : List Bool
turns =
    gives chip erased 0 (first ++ (0x8C ∷ 14 ∷ 0 ∷ 1 ∷ [])) Absent 4 Absent 1 (written [])
    ∷ gives chip erased 0 (first ++ (0x8E ∷ 14 ∷ 2 ∷ 2 ∷ [])) Absent 7 Absent 1 (written [])
    ∷ gives chip erased 0 (first ++ (0x8E ∷ 64 ∷ 0 ∷ 1 ∷ [])) Absent 3 Absent 1 (written [])
    ∷ gives chip erased 0 (first ++ first) Absent 4 Absent 1 (written [])
    ∷ []

-- ---- ranges and types: the range comes first, over numbers that do not wrap; the type is the whole number

abbrev pub readings : List Bool
readings =
    refuses (0x8E ∷ 8 ∷ 4294967295 ∷ 2 ∷ []) 7
    ∷ refuses (0x8E ∷ 8 ∷ 4 ∷ 0 ∷ []) 7
    ∷ refuses (0x18F ∷ 8 ∷ 0 ∷ 1 ∷ []) 4
    ∷ refuses (0x18F ∷ 8 ∷ 3 ∷ 1 ∷ []) 7
    ∷ refuses (0xFF ∷ 8 ∷ 0 ∷ 1 ∷ []) 4
    ∷ gives chip erased 0 (0x8E ∷ 8 ∷ 3 ∷ 0 ∷ []) Absent 0 Absent 1 (holding 64 8 (0x8E ∷ 0xF0 ∷ 0 ∷ []))
    ∷ []

-- ---- before any store: 6, 7 for the image, 7 for the list. An empty one looks at nothing else

abbrev pub lists : List Bool
lists =
    refuses (first ++ (0x8E ∷ [])) 7
    ∷ refuses (replicate 260 0) 7
    ∷ gives chip erased 9 [] (Units 0) 0 (Units 0) 0 erased
    ∷ gives chip (0 ∷ erased) 0 [] Absent 7 Absent 0 (0 ∷ erased)
    ∷ gives (blocks 0 Bit) (0 ∷ erased) 0 (0 ∷ []) Absent 6 Absent 0 (0 ∷ erased)
    ∷ gives (blocks 1 Word4) erased 0 (0x8E ∷ 13 ∷ 0 ∷ 1 ∷ []) Absent 3 Absent 0 erased
    ∷ []
