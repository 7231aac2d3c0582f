-- The rows of a sweep: which one of a street's twins stays and what is no twin, what counts as referred to, the order of refusals and of stores, and
-- what is left at a cut.
use Rattle.std.specs.Prelude.{Bool, ◌&&◌, List, [], ◌∷◌, ◌++◌, ℕ, ◌+◌, ◌*◌, length}
use Rattle.medium.specs.declared.granularity.Granularity.TheVariants.{Bit}
use Rattle.medium.specs.declared.geometry.Geometry.{Geometry}
use Rattle.medium.specs.declared.fuse.Fuse.{Fuse}
use Rattle.medium.specs.declared.fuse.Fuse.TheVariants.{Absent, Units}
use Rattle.medium.specs.Operation.{Answer, done, refused, run}
use Rattle.medium.specs.Beside.{both}
use Rattle.medium.specs.Bench.{blocks, holding, same, ends}
use Rattle.objects.specs.declared.location.ObjectLocation.{ObjectLocation}
use Rattle.storage.specs.Lookup.{lookup}
use Rattle.sweep.specs.Sweep.{sweep, words_fit, sweep_with, words_after}

-- ---- the store: a Metadata block, a Data block, and a third one

abbrev chip : Geometry
chip = blocks 3 Bit

abbrev block : ℕ → List ℕ → List ℕ
block type bs = holding 64 0 ((0xBA ∷ 0x01 ∷ 0x44 ∷ type ∷ 0 ∷ 0 ∷ 0 ∷ 0 ∷ []) ++ bs)

-- finished, and deleted
abbrev fin : ℕ
fin = 0xF0

abbrev del : ℕ
del = 0x00

-- in the Data block: at 8 the name A, at 12 its data ab, at 17 the name B, at 21 its data c, with these marks
abbrev held : ℕ → ℕ → ℕ → ℕ → List ℕ
held a b c d =
    block 0xAA ((0x8D ∷ a ∷ 1 ∷ 0x41 ∷ []) ++ (0x8E ∷ b ∷ 2 ∷ 0x61 ∷ 0x62 ∷ []) ++ (0x8D ∷ c ∷ 1 ∷ 0x42 ∷ []) ++ (0x8E ∷ d ∷ 1 ∷ 0x63 ∷ []))

abbrev places_at : List ℕ → List ℕ
places_at [] = []
places_at (o ∷ os) = 1 ∷ o ∷ places_at os

-- a metadata object by its type and mark: hash 7, the offset of the name and those of the data
abbrev object : ℕ → ℕ → ℕ → List ℕ → List ℕ
object type mark at os = type ∷ mark ∷ (6 + 2 * length os) ∷ 7 ∷ 0 ∷ 0 ∷ 0 ∷ 1 ∷ at ∷ places_at os

-- the streets A and B, eleven bytes each
abbrev file_a : ℕ → List ℕ
file_a mark = object 0x8F mark 8 (12 ∷ [])

abbrev file_b : ℕ → List ℕ
file_b mark = object 0x8F mark 17 (21 ∷ [])

-- a store of three blocks, the third a Metadata block
abbrev store : List ℕ → List ℕ → List ℕ → List ℕ
store first names third = block 0x55 first ++ names ++ block 0x55 third

abbrev all_held : List ℕ
all_held = held fin fin fin fin

-- a call: its number, the fuse that is left, the twins and the others deleted, the image
abbrev gives : List ℕ → Fuse → ℕ → Fuse → ℕ → ℕ → List ℕ → Bool
gives img f n left ts us after = ends (run f (sweep chip) (both img (0 ∷ 0 ∷ []))) n left (λ s. same s.image after && same s.table (ts ∷ us ∷ []))

abbrev leaves : List ℕ → ℕ → ℕ → List ℕ → Bool
leaves img ts us after = gives img Absent 0 Absent ts us after

-- one that stores nothing
abbrev refuses : List ℕ → ℕ → Bool
refuses img n = gives img Absent n Absent 0 0 img

-- ---- of twins the first in lookup order stays, by block and then by offset, however many there are; and it is the first of its like, not of all

abbrev pub firsts : List Bool
firsts =
    leaves (store (file_a fin ++ file_b fin) all_held []) 0 0 (store (file_a fin ++ file_b fin) all_held [])
    ∷ leaves (store (file_a fin ++ file_a fin ++ file_b fin) all_held (file_a fin)) 2 0 (store (file_a fin ++ file_a del ++ file_b fin) all_held (file_a del))
    ∷ leaves (store (file_b fin ++ file_a fin) all_held (file_b fin ++ file_a fin)) 2 0 (store (file_b fin ++ file_a fin) all_held (file_b del ++ file_a del))
    ∷ leaves (store (file_a del ++ file_b fin) all_held (file_a fin)) 0 0 (store (file_a del ++ file_b fin) all_held (file_a fin))
    ∷ []

-- ---- no twins: the same hash and name with other data, or with more of it; another type; a payload that another one begins with; two data objects
-- with the same bytes

abbrev pub apart : List Bool
apart =
    leaves (store (object 0x8F fin 8 (12 ∷ []) ++ object 0x8F fin 8 (21 ∷ []) ++ object 0x8F fin 17 []) all_held []) 0 0
    (store (object 0x8F fin 8 (12 ∷ []) ++ object 0x8F fin 8 (21 ∷ []) ++ object 0x8F fin 17 []) all_held [])
    ∷ leaves (store (object 0x8F fin 8 (12 ∷ []) ++ object 0x8E fin 8 (12 ∷ []) ++ file_b fin) all_held []) 0 0 (store (object 0x8F fin 8 (12 ∷ []) ++ object 0x8E fin 8 (12 ∷ []) ++ file_b fin) all_held [])
    ∷ leaves (store (object 0x8F fin 8 [] ++ object 0x8F fin 8 (12 ∷ []) ++ file_b fin) all_held []) 0 0 (store (object 0x8F fin 8 [] ++ object 0x8F fin 8 (12 ∷ []) ++ file_b fin) all_held [])
    ∷ []

-- ---- what nothing refers to goes, names and data; what a Deleted street alone refers to does not count as referred to; what two refer to stays

abbrev pub loose : List Bool
loose =
    leaves (store (file_a fin) all_held []) 0 2 (store (file_a fin) (held fin fin del del) [])
    ∷ leaves (store (file_a fin ++ file_b del) all_held []) 0 2 (store (file_a fin ++ file_b del) (held fin fin del del) [])
    ∷ leaves (store [] all_held []) 0 4 (store [] (held del del del del) [])
    ∷ leaves (store (file_a fin) (held fin fin del fin) []) 0 1 (store (file_a fin) (held fin fin del del) [])
    ∷ leaves (store (file_a fin ++ object 0x8F fin 8 (12 ∷ 21 ∷ [])) all_held []) 0 1 (store (file_a fin ++ object 0x8F fin 8 (12 ∷ 21 ∷ [])) (held fin fin del fin) [])
    ∷ []

-- ---- first the twins and then the others, one unit each; a run behind a cut ends as the uncut one

abbrev twice : List ℕ
twice = store (file_a fin ++ file_a fin) all_held (file_a fin)

abbrev pub cuts : List Bool
cuts =
    gives twice Absent 0 Absent 2 2 (store (file_a fin ++ file_a del) (held fin fin del del) (file_a del))
    ∷ gives twice (Units 0) 8 (Units 0) 0 0 twice
    ∷ gives twice (Units 1) 8 (Units 0) 1 0 (store (file_a fin ++ file_a del) all_held (file_a fin))
    ∷ gives twice (Units 2) 8 (Units 0) 2 0 (store (file_a fin ++ file_a del) all_held (file_a del))
    ∷ gives twice (Units 3) 8 (Units 0) 2 1 (store (file_a fin ++ file_a del) (held fin fin del fin) (file_a del))
    ∷ gives twice (Units 4) 0 (Units 0) 2 2 (store (file_a fin ++ file_a del) (held fin fin del del) (file_a del))
    ∷ gives twice (Units 9) 0 (Units 5) 2 2 (store (file_a fin ++ file_a del) (held fin fin del del) (file_a del))
    ∷ gives (store (file_a fin ++ file_a del) all_held (file_a fin)) Absent 0 Absent 1 2 (store (file_a fin ++ file_a del) (held fin fin del del) (file_a del))
    ∷ []

-- ---- 14, with no twin deleted before it: a size that was never stored, a payload too short or with part of a location, one that runs past its block;
-- a name or data that is Deleted, a place inside an object, one of a Metadata block, one outside the store

abbrev pub danglings : List Bool
danglings =
    refuses (store (file_a fin ++ file_a fin ++ (0x8F ∷ fin ∷ 0xFF ∷ [])) all_held []) 14
    ∷ refuses (store (file_a fin ++ file_a fin ++ (0x8F ∷ fin ∷ 5 ∷ 7 ∷ 0 ∷ 0 ∷ 0 ∷ 1 ∷ [])) all_held []) 14
    ∷ refuses (store (file_a fin ++ (0x8F ∷ fin ∷ 7 ∷ 7 ∷ 0 ∷ 0 ∷ 0 ∷ 1 ∷ 8 ∷ 1 ∷ [])) all_held []) 14
    ∷ refuses (store (file_a fin ++ (0x8F ∷ fin ∷ 44 ∷ 7 ∷ 0 ∷ 0 ∷ 0 ∷ 1 ∷ 8 ∷ [])) all_held []) 14
    ∷ refuses (store (file_a fin ++ file_a fin ++ file_b fin) (held fin fin del fin) []) 14
    ∷ refuses (store (file_a fin ++ file_a fin ++ file_b fin) (held fin fin fin del) []) 14
    ∷ refuses (store (file_a fin ++ object 0x8F fin 9 []) all_held []) 14
    ∷ refuses (store (object 0x8F fin 8 (12 ∷ []) ++ (0x8F ∷ fin ∷ 6 ∷ 7 ∷ 0 ∷ 0 ∷ 0 ∷ 0 ∷ 8 ∷ [])) all_held []) 14
    ∷ refuses (store ((0x8F ∷ fin ∷ 6 ∷ 7 ∷ 0 ∷ 0 ∷ 0 ∷ 3 ∷ 8 ∷ [])) all_held []) 14
    ∷ []

-- ---- a listing comes first, also that of a later block; blocks of other kinds are not looked at, whatever they hold; 7 and 6 before all

abbrev pub listed : List Bool
listed =
    refuses (store (object 0x8F fin 9 []) all_held (0x8C ∷ [])) 2
    ∷ refuses (store (object 0x8F fin 9 []) (block 0xAA (0x8C ∷ [])) []) 2
    ∷ refuses (block 0x55 (file_a fin ++ file_a fin) ++ all_held ++ block 0xAA (0x8C ∷ [])) 2
    ∷ leaves (block 0x55 (file_a fin ++ file_b fin) ++ all_held ++ block 0xFF (0x8C ∷ [])) 0 0 (block 0x55 (file_a fin ++ file_b fin) ++ all_held ++ block 0xFF (0x8C ∷ []))
    ∷ leaves (block 0x55 (file_a fin ++ file_b fin) ++ all_held ++ block 0xFF (file_a fin)) 0 0 (block 0x55 (file_a fin ++ file_b fin) ++ all_held ++ block 0xFF (file_a fin))
    ∷ refuses (block 0x55 (0x8C ∷ [])) 7
    ∷ []

-- ---- two streets of one name and of other data: a move of the second to the block before them changes which one a lookup finds, cut or not. So what is
-- promised of a cut move and a sweep (crates/mended) has a condition for the name that was moved

abbrev other : ℕ → List ℕ
other mark = object 0x8F mark 8 (21 ∷ [])

abbrev place_in : Answer ObjectLocation → List ℕ
place_in (done l) = l.block ∷ l.offset ∷ []
place_in (refused n) = n ∷ []

abbrev finds : List ℕ → ℕ → ℕ → Bool
finds img b o = same (place_in (lookup chip (0x41 ∷ []) 7 img)) (b ∷ o ∷ [])

abbrev pub one_name : List Bool
one_name =
    finds (store [] all_held (file_a fin ++ other fin)) 2 8
    ∷ leaves (store (other fin) all_held (file_a fin ++ other fin)) 1 1 (store (other fin) (held fin fin del fin) (file_a fin ++ other del))
    ∷ finds (store (other fin) (held fin fin del fin) (file_a fin ++ other del)) 0 8
    ∷ []

-- ---- with words for notes it is the same, also at a cut; 7 for one word too few or too many, and for as many bytes as the image has. The words come
-- back as 0, and where their number was refused as they were

abbrev with : List ℕ → ℕ → Fuse → ℕ → Fuse → ℕ → ℕ → List ℕ → Bool
with img words f n left ts us after = ends (run f (sweep_with chip words) (both img (0 ∷ 0 ∷ []))) n left (λ s. same s.image after && same s.table (ts ∷ us ∷ []))

abbrev pub lent : List Bool
lent =
    with twice 192 Absent 0 Absent 2 2 (store (file_a fin ++ file_a del) (held fin fin del del) (file_a del))
    ∷ with twice 192 (Units 3) 8 (Units 0) 2 1 (store (file_a fin ++ file_a del) (held fin fin del fin) (file_a del))
    ∷ with (store (object 0x8F fin 9 []) all_held []) 192 Absent 14 Absent 0 0 (store (object 0x8F fin 9 []) all_held [])
    ∷ with twice 191 Absent 7 Absent 0 0 twice
    ∷ with twice 193 Absent 7 Absent 0 0 twice
    ∷ with twice 48 Absent 7 Absent 0 0 twice
    ∷ same (words_after (words_fit chip 3 3) (5 ∷ 6 ∷ 7 ∷ [])) (5 ∷ 6 ∷ 7 ∷ [])
    ∷ same (words_after (words_fit chip 192 3) (5 ∷ 6 ∷ 7 ∷ [])) (5 ∷ 6 ∷ 7 ∷ [])
    ∷ same (words_after (words_fit chip 192 192) (5 ∷ 6 ∷ 7 ∷ [])) (0 ∷ 0 ∷ 0 ∷ [])
    ∷ []
