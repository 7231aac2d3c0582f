-- The rows of files by their names: which object a lookup finds, what a read joins and what it leaves, and how the list of names ends.
use Rattle.std.specs.Prelude.{Bool, ◌&&◌, List, [], ◌∷◌, ◌++◌, ℕ, ◌+◌, ◌*◌, length, replicate, eqb}
use Rattle.medium.specs.declared.granularity.Granularity.TheVariants.{Bit}
use Rattle.medium.specs.declared.geometry.Geometry.{Geometry}
use Rattle.medium.specs.Operation.{Answer, done, refused, number_of}
use Rattle.medium.specs.Bench.{blocks, holding, same}
use Rattle.objects.specs.declared.location.ObjectLocation.{ObjectLocation}
use Rattle.objects.specs.Listing.{placed}
use Rattle.storage.specs.Lookup.{lookup}
use Rattle.storage.specs.File.{read_file, put_into, file_size}
use Rattle.storage.specs.Names.{Named, name, nameless, next_name}

-- ---- the store: a Metadata block, and a Data block with names and data

abbrev chip : Geometry
chip = blocks 2 Bit

abbrev block : ℕ → List ℕ → List ℕ
block type bs = holding 64 0 ((0xBA ∷ 0x01 ∷ 0x44 ∷ type ∷ 0 ∷ 0 ∷ 0 ∷ 0 ∷ []) ++ bs)

-- at 8 the name A, at 12 the name B, at 16 an empty one, at 19 an A that is not finished; at 23 the data ab, at 28 the data cde; at 34 data that is
-- Deleted, at 38 empty data; at 41 a name of 21 bytes N, of which the block has 20
abbrev held : List ℕ
held =
    (0x8D ∷ 0xF0 ∷ 1 ∷ 0x41 ∷ []) ++ (0x8D ∷ 0xF0 ∷ 1 ∷ 0x42 ∷ []) ++ (0x8D ∷ 0xF0 ∷ 0 ∷ []) ++ (0x8D ∷ 0xFF ∷ 1 ∷ 0x41 ∷ [])
    ++ (0x8E ∷ 0xF0 ∷ 2 ∷ 0x61 ∷ 0x62 ∷ []) ++ (0x8E ∷ 0xF0 ∷ 3 ∷ 0x63 ∷ 0x64 ∷ 0x65 ∷ []) ++ (0x8E ∷ 0x00 ∷ 1 ∷ 0x7A ∷ []) ++ (0x8E ∷ 0xF0 ∷ 0 ∷ [])
    ++ (0x8D ∷ 0xF0 ∷ 21 ∷ replicate 20 0x4E)

abbrev store : List ℕ → List ℕ
store bs = block 0x55 bs ++ block 0xAA held

abbrev places_at : List ℕ → List ℕ
places_at [] = []
places_at (o ∷ os) = 1 ∷ o ∷ places_at os

-- a metadata object by its type and mark: a hash, the offset of the name and those of the data
abbrev object : ℕ → ℕ → ℕ → ℕ → List ℕ → List ℕ
object type mark hash at os = type ∷ mark ∷ (6 + 2 * length os) ∷ hash ∷ 0 ∷ 0 ∷ 0 ∷ 1 ∷ at ∷ places_at os

abbrev file : ℕ → ℕ → List ℕ → List ℕ
file hash at os = object 0x8F 0xF0 hash at os

-- the files A and B, nine bytes each
abbrev file_a : List ℕ
file_a = file 7 8 []

abbrev file_b : List ℕ
file_b = file 7 12 []

-- a second Metadata block, which has its names itself, and a file A at 16
abbrev with_names : List ℕ
with_names = block 0x55 ((0x8D ∷ 0xF0 ∷ 1 ∷ 0x41 ∷ []) ++ (0x8D ∷ 0xF0 ∷ 1 ∷ 0x42 ∷ []) ++ file_a)

-- a file A whose payload is said to have 5 bytes, one less than hash and name take
abbrev short : List ℕ
short = 0x8F ∷ 0xF0 ∷ 5 ∷ 7 ∷ 0 ∷ 0 ∷ 0 ∷ 1 ∷ 8 ∷ []

-- one with a place of data, whose size was never stored
abbrev unset : List ℕ
unset = 0x8F ∷ 0xF0 ∷ 0xFF ∷ 7 ∷ 0 ∷ 0 ∷ 0 ∷ 1 ∷ 8 ∷ 1 ∷ 23 ∷ []

-- a header at 60, with one byte of the block behind it
abbrev at_the_end : List ℕ
at_the_end = (0x8F ∷ 0x00 ∷ 49 ∷ replicate 49 0) ++ (0x8F ∷ 0xF0 ∷ 0 ∷ [])

-- ---- tests

abbrev place_in : Answer ObjectLocation → List ℕ
place_in (done l) = l.block ∷ l.offset ∷ []
place_in (refused n) = n ∷ []

abbrev finds : List ℕ → List ℕ → ℕ → List ℕ → Bool
finds img path hash place = same (place_in (lookup chip path hash img)) place

abbrev path_a : List ℕ
path_a = 0x41 ∷ []

abbrev path_b : List ℕ
path_b = 0x42 ∷ []

-- a read of the file at 8 from a position on, into n bytes 2E: its number, and the buffer
abbrev reads : List ℕ → ℕ → ℕ → ℕ → List ℕ → Bool
reads bs position n number buffer =
    let a = read_file chip (record { block = 0; offset = 8 }) position n (store bs) in
    eqb (number_of a) number && same (put_into a (replicate n 0x2E)) buffer

abbrev count_in : Answer ℕ → List ℕ
count_in (done n) = 0 ∷ n ∷ []
count_in (refused n) = n ∷ []

abbrev sized : List ℕ → List ℕ → Bool
sized bs size = same (count_in (file_size chip (record { block = 0; offset = 8 }) (store bs))) size

-- a name's length and bytes, the place of its metadata object and the one to go on from; nothing at the end
abbrev name_in : Answer Named → List ℕ
name_in (done (name bs at i)) = (length bs ∷ bs) ++ (at.block ∷ at.offset ∷ i.place.location.block ∷ i.place.location.offset ∷ [])
name_in (done nameless) = []
name_in (refused n) = n ∷ []

abbrev lists : List ℕ → ℕ → ℕ → ℕ → List ℕ → Bool
lists bs b o n out = same (name_in (next_name chip (record { place = placed b o }) n (store bs))) out

-- ---- which object is found: the first by block and offset, not the one that was written last; by hash and name, not by one of them, and by all
-- four bytes of the hash

abbrev pub firsts : List Bool
firsts =
    finds (store (file_a ++ file_a)) path_a 7 (0 ∷ 8 ∷ [])
    ∷ finds (store (file_b ++ file_a)) path_a 7 (0 ∷ 17 ∷ [])
    ∷ finds (store (file 8 8 [])) path_a 7 (13 ∷ [])
    ∷ finds (store (file 8 8 [] ++ file_a)) path_a 7 (0 ∷ 17 ∷ [])
    ∷ finds (store file_a) path_a 263 (13 ∷ [])
    ∷ finds (block 0x55 file_a ++ with_names) path_a 7 (0 ∷ 8 ∷ [])
    ∷ finds (block 0x55 file_b ++ with_names) path_a 7 (1 ∷ 16 ∷ [])
    ∷ []

-- ---- a path of 0 bytes: an empty name only, although every name begins with it

abbrev pub empties : List Bool
empties =
    finds (store file_a) [] 7 (13 ∷ [])
    ∷ finds (store (file_a ++ file 7 16 [])) [] 7 (0 ∷ 17 ∷ [])
    ∷ finds (store (file 7 16 [])) path_a 7 (13 ∷ [])
    ∷ []

-- ---- which objects are looked at: the Finalized ones of Metadata blocks, not only those that say FileMetadata; none of a Data block, whatever it
-- has; one with a payload too short for its name, too

abbrev pub looked : List Bool
looked =
    finds (store (object 0x8F 0x00 7 8 [])) path_a 7 (13 ∷ [])
    ∷ finds (store (object 0x8F 0x00 7 8 [] ++ file_a)) path_a 7 (0 ∷ 17 ∷ [])
    ∷ finds (store (object 0x8F 0xFF 7 8 [])) path_a 7 (13 ∷ [])
    ∷ finds (store (object 0x8E 0xF0 7 8 [])) path_a 7 (0 ∷ 8 ∷ [])
    ∷ finds (block 0xAA file_a ++ block 0xAA held) path_a 7 (13 ∷ [])
    ∷ finds (block 0xAA (0x8C ∷ []) ++ block 0x55 []) path_a 7 (13 ∷ [])
    ∷ finds (store short) path_a 7 (0 ∷ 8 ∷ [])
    ∷ []

-- ---- what is refused on the way ends a lookup, and is not passed over; but bytes behind the file, the name of another hash, and the far end of a
-- name that differs in its first 16 bytes are never come to

abbrev pub refusals : List Bool
refusals =
    finds (store (file_a ++ (0x8C ∷ []))) path_a 7 (0 ∷ 8 ∷ [])
    ∷ finds (store (file_a ++ (0x8C ∷ []))) path_b 7 (2 ∷ [])
    ∷ finds (store at_the_end) path_a 7 (3 ∷ [])
    ∷ finds (store (file 7 19 [] ++ file_a)) path_a 7 (2 ∷ [])
    ∷ finds (store (file 8 19 [] ++ file_a)) path_a 7 (0 ∷ 17 ∷ [])
    ∷ finds (store (file 7 41 [])) (replicate 15 0x4E ++ replicate 6 0x4F) 7 (13 ∷ [])
    ∷ finds (store (file 7 41 [])) (replicate 16 0x4E ++ replicate 5 0x4F) 7 (3 ∷ [])
    ∷ finds (store (file 7 41 [])) (replicate 21 0x4E) 7 (3 ∷ [])
    ∷ []

-- ---- a move that is cut inside its payload: a listing steps over the copy's header alone, and finds in the bytes 8E F0 00 of the hash a finished
-- object at 58, whose own hash runs past the block. Both blocks can be listed, and the lookup is refused; with another hash the listing is refused
-- there, and with FF first it ends there

abbrev begun : List ℕ → List ℕ
begun bs = block 0x55 ((0x8F ∷ 0x00 ∷ 44 ∷ replicate 44 0) ++ (0x8F ∷ 0xFF ∷ 0xFF ∷ bs))

abbrev original : List ℕ → List ℕ
original hash = block 0x55 ((0x8D ∷ 0xF0 ∷ 1 ∷ 0x41 ∷ []) ++ (0x8F ∷ 0xF0 ∷ 6 ∷ hash) ++ (1 ∷ 8 ∷ []))

abbrev pub phantoms : List Bool
phantoms =
    finds (begun [] ++ original (0x8E ∷ 0xF0 ∷ 0x00 ∷ 7 ∷ [])) path_a 0x0700F08E (1 ∷ 12 ∷ [])
    ∷ finds (begun (0x8E ∷ 0xF0 ∷ 0x00 ∷ []) ++ original (0x8E ∷ 0xF0 ∷ 0x00 ∷ 7 ∷ [])) path_a 0x0700F08E (3 ∷ [])
    ∷ finds (begun (0x41 ∷ 0xF0 ∷ 0x00 ∷ []) ++ original (0x41 ∷ 0xF0 ∷ 0x00 ∷ 7 ∷ [])) path_a 0x0700F041 (2 ∷ [])
    ∷ finds (begun (0xFF ∷ 0xF0 ∷ 0x00 ∷ []) ++ original (0xFF ∷ 0xF0 ∷ 0x00 ∷ 7 ∷ [])) path_a 0x0700F0FF (1 ∷ 12 ∷ [])
    ∷ []

-- ---- a read joins payloads from a position on: it is taken off once, not in each object, and a place that comes again is read again; behind what
-- is read the buffer stays as it was, and nothing is read at the end. A Deleted metadata object is read where it is not found

abbrev pub joins : List Bool
joins =
    reads (file 7 8 (23 ∷ 28 ∷ [])) 0 7 0 (0x61 ∷ 0x62 ∷ 0x63 ∷ 0x64 ∷ 0x65 ∷ 0x2E ∷ 0x2E ∷ [])
    ∷ reads (file 7 8 (23 ∷ 28 ∷ [])) 1 3 0 (0x62 ∷ 0x63 ∷ 0x64 ∷ [])
    ∷ reads (file 7 8 (23 ∷ 38 ∷ 28 ∷ [])) 3 2 0 (0x64 ∷ 0x65 ∷ [])
    ∷ reads (file 7 8 (23 ∷ 23 ∷ [])) 1 4 0 (0x62 ∷ 0x61 ∷ 0x62 ∷ 0x2E ∷ [])
    ∷ reads (file 7 8 (23 ∷ 28 ∷ [])) 5 2 0 (0x2E ∷ 0x2E ∷ [])
    ∷ reads (file 7 8 (23 ∷ 28 ∷ [])) 18446744073709551615 2 0 (0x2E ∷ 0x2E ∷ [])
    ∷ reads (object 0x8F 0x00 7 8 (23 ∷ [])) 0 2 0 (0x61 ∷ 0x62 ∷ [])
    ∷ sized (file 7 8 (23 ∷ 23 ∷ 28 ∷ 41 ∷ [])) (0 ∷ 28 ∷ [])
    ∷ []

-- ---- what a read refuses: what it comes to, before a byte is copied, so that the first object's bytes are not in the buffer. One that is full asks
-- for nothing more, also one of 0 bytes; an object that is skipped is opened, and not read; a size that was never stored is no list of places

abbrev pub stops : List Bool
stops =
    reads (file 7 8 (23 ∷ 41 ∷ [])) 0 22 0 (0x61 ∷ 0x62 ∷ replicate 20 0x4E)
    ∷ reads (file 7 8 (23 ∷ 41 ∷ [])) 0 23 3 (replicate 23 0x2E)
    ∷ reads (file 7 8 (41 ∷ 23 ∷ [])) 21 2 0 (0x61 ∷ 0x62 ∷ [])
    ∷ reads (file 7 8 (23 ∷ 34 ∷ [])) 0 2 0 (0x61 ∷ 0x62 ∷ [])
    ∷ reads (file 7 8 (23 ∷ 34 ∷ [])) 0 3 2 (0x2E ∷ 0x2E ∷ 0x2E ∷ [])
    ∷ reads (file 7 8 (34 ∷ 23 ∷ [])) 1 2 2 (0x2E ∷ 0x2E ∷ [])
    ∷ reads short 0 0 0 []
    ∷ reads short 0 1 9 (0x2E ∷ [])
    ∷ reads unset 0 1 0 (0x2E ∷ [])
    ∷ reads [] 0 0 2 []
    ∷ sized short (9 ∷ [])
    ∷ []

-- ---- the list of names: its end is done with none, not 13; a refusal gives no place to go on from, so that it is not passed over; a place in another
-- block or past the store is the end, and not 3

abbrev pub names : List Bool
names =
    lists (file_a ++ file_b) 0 8 1 (1 ∷ 0x41 ∷ 0 ∷ 8 ∷ 0 ∷ 17 ∷ [])
    ∷ lists (file_a ++ file_b) 0 17 1 (1 ∷ 0x42 ∷ 0 ∷ 17 ∷ 0 ∷ 26 ∷ [])
    ∷ lists (file_a ++ file_b) 0 26 1 []
    ∷ lists (object 0x8F 0x00 7 8 [] ++ file_b) 0 8 1 (1 ∷ 0x42 ∷ 0 ∷ 17 ∷ 0 ∷ 26 ∷ [])
    ∷ lists file_a 0 8 0 (7 ∷ [])
    ∷ lists (file 7 16 []) 0 8 0 (0 ∷ 0 ∷ 8 ∷ 0 ∷ 17 ∷ [])
    ∷ lists (file 7 19 []) 0 8 1 (2 ∷ [])
    ∷ lists (file 7 41 []) 0 8 20 (7 ∷ [])
    ∷ lists (file 7 41 []) 0 8 21 (3 ∷ [])
    ∷ lists at_the_end 0 8 1 (3 ∷ [])
    ∷ lists file_a 1 8 1 []
    ∷ lists file_a 4294967295 0 1 []
    ∷ []
