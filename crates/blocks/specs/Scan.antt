-- A scan reads a block's record off its bytes: "NotFormatted" for an Empty kind; an Unknown block by its last written byte; a Known one by
-- its listing. Used bytes, allow mark and freeable space are read off the one definition of a listing.
use Rattle.std.specs.Prelude.{ℕ, zero, suc, ◌+◌, ◌-◌, List, [], ◌∷◌, Bool, false, not, ◌||◌, length, leb, eqb}
use Rattle.medium.specs.declared.granularity.Granularity.{Granularity}
use Rattle.medium.specs.declared.geometry.Geometry.{Geometry}
use Rattle.medium.specs.Granularity.{pick}
use Rattle.medium.specs.Geometry.{check_of}
use Rattle.medium.specs.Operation.{Answer, done, refused, and_then, or_refuse}
use Rattle.medium.specs.Medium.{read_at}
use Rattle.objects.specs.declared.header.ObjectHeader.{ObjectHeader}
use Rattle.objects.specs.Types.{rank_of}
use Rattle.objects.specs.Info.{total_of}
use Rattle.objects.specs.Listing.{Visit, Stop, end, free, broken, Listing, listing}
use Rattle.blocks.specs.declared.header.BlockHeaderKind.{BlockHeaderKind}
use Rattle.blocks.specs.declared.header.BlockHeaderKind.TheVariants.{Empty, Unknown, Known}
use Rattle.blocks.specs.declared.header.BlockHeader.{BlockHeader}
use Rattle.blocks.specs.declared.record.BlockInfo.{BlockInfo}
use Rattle.blocks.specs.BlockHeader.{block_header_at}

-- ---- an Unknown block: the place behind its last written byte

abbrev pub behind_written : ℕ → ℕ → ℕ
behind_written b zero = pick (eqb b 0xFF) 0 1
behind_written b (suc n) = suc (suc n)

abbrev pub written_in : List ℕ → ℕ
written_in [] = 0
written_in (b ∷ bs) = behind_written b (written_in bs)

abbrev pub record_of : BlockHeader → ℕ → Bool → BlockInfo
record_of h used allow = record { header = h; used_bytes = used; allow_alloc = allow }

unfoldable pub scan_unknown : Geometry → ℕ → BlockHeader → List ℕ → Answer BlockInfo
scan_unknown g b h img = and_then (read_at g b 0 g.size img) (λ bs. done (record_of h (written_in bs) false))

-- ---- a Known block: where its listing ends, and whether the last object is to be trusted

abbrev pub is_allocated : ObjectHeader → Bool
is_allocated h = eqb (rank_of h.state) 1

-- of the last visit, or a where there is none
abbrev pub last_allocated : Bool → List Visit → Bool
last_allocated a [] = a
last_allocated a (v ∷ vs) = last_allocated (is_allocated v.object) vs

-- a listing that ends gives a value; one that meets bytes that are no header gives their refusal
abbrev pub unless_broken : {A : Type 0} → Stop → A → Answer A
unless_broken end a = done a
unless_broken free a = done a
unless_broken (broken n) a = refused n

abbrev pub listed : BlockHeader → Bool → Listing → Answer BlockInfo
listed h a l = unless_broken l.stop (record_of h l.last (not (last_allocated a l.visits)))

-- ---- the scan

abbrev pub scan_by : Geometry → ℕ → BlockHeader → List ℕ → BlockHeaderKind → Answer BlockInfo
scan_by g b h img Empty = refused 1
scan_by g b h img Unknown = scan_unknown g b h img
scan_by g b h img (Known t) = listed h false (listing g b img)

unfoldable pub scan_block : Geometry → ℕ → List ℕ → Answer BlockInfo
scan_block g b img = and_then (block_header_at g b img) (λ h. scan_by g b h img h.kind)

-- ---- "`calculate_freeable_space`": total sizes of Allocated and Deleted objects, and what is free behind the last

abbrev pub is_freeable : ObjectHeader → Bool
is_freeable h = eqb (rank_of h.state) 1 || eqb (rank_of h.state) 3

abbrev pub freeable_in : Granularity → ℕ → List Visit → ℕ
freeable_in k s [] = 0
freeable_in k s (v ∷ vs) = pick (is_freeable v.object) (total_of k s v.object) 0 + freeable_in k s vs

-- n bytes so far
abbrev pub freeable : Geometry → ℕ → Listing → Answer ℕ
freeable g n l =
    and_then (unless_broken l.stop l.last)
    (λ last. pick (leb last g.size) (done (g.size - last + (n + freeable_in g.granularity g.s l.visits))) (refused 9))

unfoldable pub calculate_freeable_space : Geometry → ℕ → List ℕ → Answer ℕ
calculate_freeable_space g b img = and_then (or_refuse (check_of g (length img))) (λ _. freeable g 0 (listing g b img))
