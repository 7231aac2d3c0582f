-- "BA 01, layout byte (s·64 + c·4 + 1 for either Word, 0 for Bit), then type at byte 3, or at byte 8 under Word(4) with byte 3 FF. Erase
-- count in bytes 4 to 7, low first. Length 8, under Word(4) 12; unnamed bytes FF. Types: Metadata 55, Data AA, Undefined FF. Kind ignores
-- the erase count; an all-FF rest is Empty, anything else Unknown."
use Rattle.std.specs.Prelude.{ℕ, zero, suc, ◌+◌, ◌-◌, ◌*◌, List, [], ◌∷◌, ◌++◌, Bool, true, false, ◌&&◌, ◌||◌, take, get_or, replicate, ltb, leb, eqb}
use Rattle.medium.specs.declared.granularity.Granularity.{Granularity}
use Rattle.medium.specs.declared.geometry.Geometry.{Geometry}
use Rattle.medium.specs.Granularity.{pick, longest_block_header, block_header, type_at, layout_bit}
use Rattle.medium.specs.Operation.{Answer, done, and_then, Op}
use Rattle.medium.specs.Medium.{read_at, write}
use Rattle.objects.specs.Numbers.{number, bytes}
use Rattle.blocks.specs.declared.header.BlockType.{BlockType}
use Rattle.blocks.specs.declared.header.BlockType.TheVariants.{Metadata, Data, Undefined}
use Rattle.blocks.specs.declared.header.BlockHeaderKind.{BlockHeaderKind}
use Rattle.blocks.specs.declared.header.BlockHeaderKind.TheVariants.{Empty, Unknown, Known}
use Rattle.blocks.specs.declared.header.BlockHeader.{BlockHeader}

-- ---- types and kinds

abbrev pub type_byte : BlockType → ℕ
type_byte Metadata = 0x55
type_byte Data = 0xAA
type_byte Undefined = 0xFF

-- "kind (0 Empty, 1 Unknown, 2 Metadata, 3 Data, 4 Undefined)"
abbrev pub type_number : BlockType → ℕ
type_number Metadata = 2
type_number Data = 3
type_number Undefined = 4

abbrev pub kind_number : BlockHeaderKind → ℕ
kind_number Empty = 0
kind_number Unknown = 1
kind_number (Known t) = type_number t

abbrev pub is_empty_kind : BlockHeaderKind → Bool
is_empty_kind Empty = true
is_empty_kind Unknown = false
is_empty_kind (Known t) = false

abbrev pub is_unknown : BlockHeaderKind → Bool
is_unknown Empty = false
is_unknown Unknown = true
is_unknown (Known t) = false

abbrev pub is_known : BlockHeaderKind → Bool
is_known Empty = false
is_known Unknown = false
is_known (Known t) = true

-- an empty kind and no erase count either: the header is FF throughout
abbrev pub is_empty : BlockHeader → Bool
is_empty h = is_empty_kind h.kind && eqb h.erase_count 4294967295

-- ---- the bytes of a header

abbrev pub layout_byte : Geometry → ℕ
layout_byte g = g.s * 64 + g.c * 4 + layout_bit g.granularity

-- the type at its place, and FF at the other one that a type can have
abbrev pub type_if : Granularity → ℕ → BlockType → ℕ
type_if k at t = pick (eqb (type_at k) at) (type_byte t) 0xFF

-- four bytes, the erase count, the far type, and FF up to the longest header
abbrev pub around : ℕ → ℕ → ℕ → ℕ → ℕ → ℕ → List ℕ
around first second layout near n far =
    (first ∷ second ∷ layout ∷ near ∷ []) ++ (bytes 4 n ++ (far ∷ replicate (longest_block_header - 9) 0xFF))

-- of which each granularity takes the first
abbrev pub wide_bytes : Geometry → BlockHeaderKind → ℕ → List ℕ
wide_bytes g (Known t) n = around 0xBA 0x01 (layout_byte g) (type_if g.granularity 3 t) n (type_if g.granularity 8 t)
wide_bytes g Empty n = around 0xFF 0xFF 0xFF 0xFF n 0xFF
wide_bytes g Unknown n = around 0xFF 0xFF 0xFF 0xFF n 0xFF

unfoldable pub header_bytes : Geometry → BlockHeader → List ℕ
header_bytes g h = take (block_header g.granularity) (wide_bytes g h.kind h.erase_count)

unfoldable pub write_header : Geometry → ℕ → BlockHeader → Op (Unit {0})
write_header g b h = write g b 0 (header_bytes g h)

-- ---- what bytes say

-- the bytes that a rule names: BA 01 and the layout, the type, and "Erase count in bytes 4 to 7"
abbrev pub named : Granularity → ℕ → Bool
named k i = ltb i 3 || (eqb i (type_at k) || (leb 4 i && ltb i 8))

-- of n bytes from i on, those that no rule names are FF
abbrev pub padded_from : Granularity → ℕ → ℕ → List ℕ → Bool
padded_from k i zero bs = true
padded_from k i (suc n) bs = (named k i || eqb (get_or bs i 0) 0xFF) && padded_from k (i + 1) n bs

-- "unnamed bytes FF"
unfoldable pub padded : Granularity → List ℕ → Bool
padded k bs = padded_from k 0 (block_header k) bs

unfoldable pub marked : ℕ → List ℕ → Bool
marked layout bs = eqb (get_or bs 0 0) 0xBA && eqb (get_or bs 1 0) 0x01 && eqb (get_or bs 2 0) layout

unfoldable pub blank : List ℕ → ℕ → Bool
blank bs t = eqb (get_or bs 0 0) 0xFF && eqb (get_or bs 1 0) 0xFF && eqb (get_or bs 2 0) 0xFF && eqb t 0xFF

unfoldable pub kind_of_type : ℕ → BlockHeaderKind
kind_of_type b =
    pick (eqb b 0x55) (Known Metadata)
    (pick (eqb b 0xAA) (Known Data)
    (pick (eqb b 0xFF) (Known Undefined) Unknown))

unfoldable pub named_kind : ℕ → ℕ → List ℕ → BlockHeaderKind
named_kind layout t bs = pick (marked layout bs) (kind_of_type t) (pick (blank bs t) Empty Unknown)

unfoldable pub kind_in : Geometry → List ℕ → BlockHeaderKind
kind_in g bs = pick (padded g.granularity bs) (named_kind (layout_byte g) (get_or bs (type_at g.granularity) 0) bs) Unknown

abbrev pub erase_count_in : List ℕ → ℕ
erase_count_in bs = number (get_or bs 4 0 ∷ get_or bs 5 0 ∷ get_or bs 6 0 ∷ get_or bs 7 0 ∷ [])

abbrev pub header_in : Geometry → List ℕ → BlockHeader
header_in g bs = record { kind = kind_in g bs; erase_count = erase_count_in bs }

-- ---- reading

-- as many bytes are read as the longest header has
unfoldable pub block_header_at : Geometry → ℕ → List ℕ → Answer BlockHeader
block_header_at g b img = and_then (read_at g b 0 longest_block_header img) (λ bs. done (header_in g bs))
