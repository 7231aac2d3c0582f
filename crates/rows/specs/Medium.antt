-- The rows of the medium: images of 1,024 bytes, blocks of 256.
use Rattle.std.specs.Prelude.{Bool, List, [], ◌∷◌, ℕ, replicate, eqb}
use Rattle.medium.specs.declared.granularity.Granularity.TheVariants.{Bit, Word1, Word4}
use Rattle.medium.specs.declared.geometry.Geometry.{Geometry}
use Rattle.medium.specs.declared.fuse.Fuse.TheVariants.{Absent, Units}
use Rattle.medium.specs.Operation.{Answer, done, refused}
use Rattle.medium.specs.Medium.{aligned_of, read_at, lent, write, erase}
use Rattle.medium.specs.Bench.{four, filled, holding, same, row}

abbrev sized : ℕ → Geometry
sized n = record { granularity = Bit; s = 1; c = 1; strict = 0; size = n; count = 4 }

abbrev plain : ℕ → List ℕ
plain x = replicate 1024 x

abbrev bytes_in : Answer (List ℕ) → List ℕ
bytes_in (done bs) = bs
bytes_in (refused n) = n ∷ []

abbrev count_in : Answer ℕ → ℕ
count_in (done n) = n
count_in (refused n) = n

abbrev three : List ℕ
three = 0x41 ∷ 0x42 ∷ 0x43 ∷ []

abbrev five : List ℕ
five = 0x11 ∷ 0x22 ∷ 0x33 ∷ 0x44 ∷ 0x55 ∷ []

abbrev pub table : List Bool
table =
    -- a byte a unit, and what there is power for: 8 with the first two
    row (Units 5) (write (four Bit) 1 8 three) (plain 0xFF) 0 (Units 2) (holding 1024 264 three)
    ∷ row (Units 2) (write (four Word1) 1 8 three) (plain 0xFF) 8 (Units 0) (holding 1024 264 (0x41 ∷ 0x42 ∷ []))
    ∷ row (Units 0) (write (four Bit) 1 8 three) (plain 0xFF) 8 (Units 0) (plain 0xFF)
    -- old AND new
    ∷ row Absent (write (four Bit) 0 0 (0xF0 ∷ 0x3C ∷ [])) (plain 0x5A) 0 Absent (filled 0x5A 1024 0 (0x50 ∷ 0x18 ∷ []))
    -- under Word(4) a word a unit, padded with FF, which leaves what stands there
    ∷ row (Units 5) (write (four Word4) 1 12 three) (plain 0xFF) 0 (Units 4) (holding 1024 268 three)
    ∷ row (Units 5) (write (four Word4) 1 12 three) (plain 0x0F) 0 (Units 4) (filled 0x0F 1024 268 (0x01 ∷ 0x02 ∷ 0x03 ∷ []))
    ∷ row (Units 1) (write (four Word4) 1 12 five) (plain 0xFF) 8 (Units 0) (holding 1024 268 (0x11 ∷ 0x22 ∷ 0x33 ∷ 0x44 ∷ []))
    -- an erase is one unit
    ∷ row (Units 1) (erase (four Bit) 2) (plain 0) 0 (Units 0) (filled 0 1024 512 (replicate 256 0xFF))
    ∷ row (Units 0) (erase (four Bit) 2) (plain 0) 8 (Units 0) (plain 0)
    -- refused, whatever the fuse, with nothing stored: 3 past the block, for a word that is not whole, and for a block that is not there
    ∷ row (Units 0) (write (four Bit) 1 254 three) (plain 0xFF) 3 (Units 0) (plain 0xFF)
    ∷ row (Units 9) (write (four Word4) 1 14 three) (plain 0xFF) 3 (Units 9) (plain 0xFF)
    ∷ row (Units 9) (write (four Word4) 1 252 five) (plain 0xFF) 3 (Units 9) (plain 0xFF)
    ∷ row (Units 9) (erase (four Bit) 4) (plain 0) 3 (Units 9) (plain 0)
    -- 6 before 7 before 3
    ∷ row (Units 9) (write (sized 62) 9 0 three) (plain 0xFF) 6 (Units 9) (plain 0xFF)
    ∷ row (Units 9) (write (sized 128) 9 0 three) (plain 0xFF) 7 (Units 9) (plain 0xFF)
    -- an empty store needs no power, and follows the same tests
    ∷ row (Units 0) (write (four Word4) 1 256 []) (plain 0xFF) 0 (Units 0) (plain 0xFF)
    ∷ row (Units 0) (write (four Word4) 1 2 []) (plain 0xFF) 3 (Units 0) (plain 0xFF)
    -- reading, lending, and aligning up
    ∷ same (bytes_in (read_at (four Word4) 1 13 2 (holding 1024 268 three))) (0x42 ∷ 0x43 ∷ [])
    ∷ same (bytes_in (read_at (four Word4) 1 255 2 (plain 0xFF))) (3 ∷ [])
    ∷ same (lent (read_at (four Word4) 1 13 2 (holding 1024 268 three))) (0x42 ∷ 0x43 ∷ [])
    ∷ same (lent (read_at (four Word4) 1 255 2 (plain 0xFF))) []
    ∷ eqb (count_in (aligned_of (four Word4) 4294967295)) 4294967296
    ∷ eqb (count_in (aligned_of (four Word1) 19)) 19
    ∷ eqb (count_in (aligned_of (sized 257) 19)) 6
    ∷ []
