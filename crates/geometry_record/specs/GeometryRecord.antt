-- "one 16-byte record: granularity 0, 1 or 4; s; c; 0; block size u32; block count u32; four zero bytes; low byte first".
-- "The mark takes the first zero byte of the geometry record, 0 or 1."
use Rattle.std.specs.Prelude.{ℕ, ◌+◌, ◌*◌, List, [], ◌∷◌, Bool, ◌&&◌, length, get_or, eqb}
use Rattle.medium.specs.declared.geometry.Geometry.{Geometry}
use Rattle.medium.specs.Granularity.{pick}
use Rattle.medium.specs.Geometry.{geometry_of}
use Rattle.medium.specs.Operation.{Answer, refused}

-- a u32 from byte i on, low byte first
unfoldable pub word_at : List ℕ → ℕ → ℕ
word_at raw i = get_or raw i 0 + 256 * (get_or raw (i + 1) 0 + 256 * (get_or raw (i + 2) 0 + 256 * get_or raw (i + 3) 0))

-- sixteen bytes, with the last four 0
unfoldable pub well_formed : List ℕ → Bool
well_formed raw = eqb (length raw) 16 && eqb (word_at raw 12) 0

-- granularity, s, c, strict mark, block size, block count
abbrev pub numbers_of : List ℕ → List ℕ
numbers_of raw = get_or raw 0 0 ∷ get_or raw 1 0 ∷ get_or raw 2 0 ∷ get_or raw 3 0 ∷ word_at raw 4 ∷ word_at raw 8 ∷ []

-- "A wrong record or geometry prints `refused 6`"
unfoldable pub recorded : List ℕ → Answer Geometry
recorded raw = pick (well_formed raw) (geometry_of (numbers_of raw)) (refused 6)
