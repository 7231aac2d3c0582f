-- "Block size is 64 to 65,536, a multiple of 4. The block count is at least 1; size times count is at most 16,777,216 (else 6) and equals
-- the image length (else 7). The size width s and count width c are given, 1 to 3 each, with block size at most 256^s and block count at
-- most 256^c." "6 for a mark above 1 or a mark of 1 with Bit."
use Rattle.std.specs.Prelude.{ℕ, ◌+◌, ◌*◌, ◌%◌, ◌^◌, Bool, ◌&&◌, List, get_or, leb, eqb}
use Rattle.medium.specs.declared.granularity.Granularity.{Granularity}
use Rattle.medium.specs.declared.geometry.Geometry.{Geometry}
use Rattle.medium.specs.Granularity.{pick, granularity_of, most_strict}
use Rattle.medium.specs.Answer.{Answer, done, refused, and_then}

-- 256^w for a width that is allowed, and 0 for any other
abbrev pub limit_of : ℕ → ℕ
limit_of w = pick (leb 1 w && leb w 3) (256 ^ w) 0

unfoldable pub geometry_ok : Geometry → Bool
geometry_ok g =
    leb 64 g.size && leb g.size 65536 && eqb (g.size % 4) 0 && leb g.size (limit_of g.s) && leb 1 g.count
    && leb g.count (limit_of g.c)
    && leb (g.size * g.count) 16777216
    && leb g.strict (most_strict g.granularity)

-- 6 for the geometry, 7 for the room, else what comes next
unfoldable pub admit : Geometry → ℕ → ℕ → ℕ
admit g room next = pick (geometry_ok g) (pick (eqb (g.size * g.count) room) next 7) 6

abbrev pub check_of : Geometry → ℕ → ℕ
check_of g room = admit g room 0

-- a call with no image can give 6 but not 7
unfoldable pub fit_of : Geometry → ℕ
fit_of g = pick (geometry_ok g) 0 6

-- where a place of a block stands in the image
abbrev pub address : Geometry → ℕ → ℕ → ℕ
address g b o = b * g.size + o

-- ---- a geometry in six numbers, as the geometry record has them: granularity, s, c, strict mark, block size, block count

-- the first four are bytes
unfoldable pub fields_hold : List ℕ → Bool
fields_hold ns = leb (get_or ns 0 0) 255 && leb (get_or ns 1 0) 255 && leb (get_or ns 2 0) 255 && leb (get_or ns 3 0) 255

abbrev pub geometry_with : List ℕ → Granularity → Geometry
geometry_with ns k = record { granularity = k; s = get_or ns 1 0; c = get_or ns 2 0; strict = get_or ns 3 0; size = get_or ns 4 0; count = get_or ns 5 0 }

-- 6 for a number that its field cannot hold, and for a granularity that is none
unfoldable pub geometry_of : List ℕ → Answer Geometry
geometry_of ns = pick (fields_hold ns) (and_then (granularity_of (get_or ns 0 0)) (λ k. done (geometry_with ns k))) (refused 6)
