-- What is given can be met: ABC at 8 and B at 14 of an empty Data block, as in the rows of a batch.
use mathlib.Core.Path.{◌≡◌, refl, ap, ◌∙◌}
use mathlib.Core.List.{List, [], ◌∷◌}
use Prim.Native.Nat.{ℕ, ◌+◌, ◌-◌, ◌≤◌, ◌<◌}
use native.Mathlib.Omega.{arith}
use lib.ListN.{get_or}
use lib.Dec.{lit<, lit≤}
use Rattle.medium.specs.declared.granularity.Granularity.TheVariants.{Bit}
use Rattle.medium.specs.declared.geometry.Geometry.{Geometry}
use Rattle.medium.specs.Geometry.{geometry_ok, admit, address}
use Rattle.medium.specs.Operation.{done}
use Rattle.medium.specs.Medium.{readable, read_at}
use Rattle.medium.specs.Bench.{blocks, holding}
use Rattle.medium.proofs.Computed.{bytes_by, blank_by}
use Rattle.objects.specs.Types.{type_of, object_type_of, mark_of, marks_of, state_in}
use Rattle.objects.specs.Header.{state_at, sized_at, header_at}
use Rattle.objects.specs.Info.{info_at}
use Rattle.objects.specs.Listing.{next_of, list_from, listing}
use Rattle.blocks.specs.declared.header.BlockType.TheVariants.{Data}
use Rattle.blocks.specs.declared.header.BlockHeaderKind.TheVariants.{Known}
use Rattle.blocks.specs.declared.header.BlockHeader.{BlockHeader}
use Rattle.blocks.specs.BlockHeader.{padded, marked, blank, kind_of_type, named_kind, kind_in, block_header_at}
use Rattle.fresh.specs.Scans.{FreeEnd}
use Rattle.batch.specs.Batch.{records_in, batchable}
use Rattle.batch.specs.Laws.{Takes}
use Rattle.batch.specs.Cut.{Rising, Ready, CutAt, BatchCuts}
use Rattle.batch.specs.Scanned.{Adjoining, place_at, Scanned, BatchScans}
use Rattle.batch.proofs.Cut.{batch_cuts}
use Rattle.batch.proofs.Scanned.{batch_scans}

abbrev chip : Geometry
chip = blocks 1 Bit

abbrev image : List ℕ
image = holding 64 0 (0xBA ∷ 0x01 ∷ 0x44 ∷ 0xAA ∷ 0 ∷ 0 ∷ 0 ∷ 0 ∷ [])

abbrev payload : List ℕ
payload = 0x41 ∷ 0x42 ∷ 0x43 ∷ []

abbrev records : List ℕ
records = 0x8E ∷ 8 ∷ 0 ∷ 3 ∷ 0x8E ∷ 14 ∷ 1 ∷ 1 ∷ []

takes : Takes chip records image
unfolding geometry_ok admit batchable
takes = refl

erased_from : (o : ℕ) → 8 ≤ o → o < 64 → get_or image (address chip 0 o) 0 ≡ 255
erased_from o h l =
    let e : address chip 0 o ≡ 8 + (o - 8) = omega arith in
    ap (λ (j : ℕ). get_or image j 0) e ∙ blank_by 8 56 image refl (o - 8) (omega arith)

ready : Ready chip 0 8 payload image
unfolding geometry_ok admit
ready = record { fine = refl; block = lit< tt; bytes = λ i _. bytes_by payload tt i; erased = erased_from }

rising : Rising chip payload 8 (records_in records)
unfolding records_in type_of object_type_of
rising = (record { typed = refl; lent = lit≤ tt; from = lit≤ tt; aligned = refl; in_block = lit≤ tt }, (record { typed = refl; lent = lit≤ tt; from = lit≤ tt; aligned = refl; in_block = lit≤ tt }, tt))

adjoining : Adjoining chip payload 8 (records_in records)
unfolding records_in
adjoining = (refl, lit< tt, (refl, lit< tt, tt))

free_end : FreeEnd chip (place_at 0 8) image
unfolding geometry_ok admit readable read_at type_of mark_of marks_of state_in state_at sized_at header_at info_at next_of list_from listing
free_end = record { last = refl; stop = refl; erased = λ i h. let e : address chip 0 8 + i ≡ address chip 0 (8 + i) = omega arith in ap (λ (j : ℕ). get_or image j 0) e ∙ erased_from (8 + i) (omega arith) h }

abbrev header : BlockHeader
header = record { kind = Known Data; erase_count = 0 }

header_read : block_header_at chip 0 image ≡ done header
unfolding geometry_ok admit readable read_at padded marked blank kind_of_type named_kind kind_in block_header_at
header_read = refl

pub cuts : (k : ℕ) → CutAt chip 0 records payload image k
unfolding BatchCuts
cuts = batch_cuts chip 0 8 records payload image takes ready rising

pub scans : Scanned chip 0 8 header records payload image
unfolding BatchScans
scans = batch_scans chip 0 8 records payload image takes ready rising adjoining free_end header Data header_read refl
