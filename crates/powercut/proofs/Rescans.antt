-- A scan of the destination's block at each cut: the move does not touch the block's header.
use mathlib.Core.Path.{◌≡◌, sym, ap, ◌∙◌, subst}
use mathlib.Core.Bool.{false, not}
use mathlib.Core.List.{List}
use Prim.Native.Nat.{ℕ, ◌+◌, ◌≤◌}
use native.Mathlib.Omega.{arith}
use Rattle.medium.specs.declared.geometry.Geometry.{Geometry}
use Rattle.medium.specs.Operation.{done}
use Rattle.objects.specs.declared.types.ObjectType.{ObjectType}
use Rattle.objects.specs.declared.location.ObjectLocation.{ObjectLocation}
use Rattle.objects.specs.declared.header.ObjectHeader.{ObjectHeader}
use Rattle.objects.specs.Listing.{Stop, listing}
use Rattle.blocks.specs.declared.header.BlockType.{BlockType}
use Rattle.blocks.specs.declared.header.BlockHeaderKind.TheVariants.{Known}
use Rattle.blocks.specs.declared.header.BlockHeader.{BlockHeader}
use Rattle.blocks.specs.BlockHeader.{block_header_at}
use Rattle.blocks.specs.Scan.{record_of, last_allocated, unless_broken, listed, scan_block}
use Rattle.fresh.specs.Fresh.{after}
use Rattle.fresh.specs.Scans as fresh
use Rattle.fresh.proofs.Scans as cut
use Rattle.powercut.specs.Demand.{payload_in, Movable, units_to}
use Rattle.powercut.specs.Listed.{Listable}
use Rattle.powercut.specs.Again.{left_by}
use Rattle.powercut.specs.Scans.{Scans}
use Rattle.powercut.specs.Rescans.{Rescanned, Rescans}
use Rattle.powercut.proofs.Scans.{room_is, end_is, n_is, p_is, as_new, scans}

module _ (g : Geometry) (h : ObjectHeader) (to : ObjectLocation) (room : ℕ) (t : ObjectType) (img : List ℕ) (v : Movable g h to room t img) (w : Listable g h to room img)
    (b : BlockHeader) (kind : BlockType) (there : block_header_at g to.block img ≡ done b) (known : b.kind ≡ Known kind) where
  scan_reads : (k : ℕ) → k ≤ units_to g h + 1 → scan_block g to.block (left_by g h to img k) ≡ listed b false (listing g to.block (left_by g h to img k))
  unfolding fresh.CutScans
  scan_reads k c =
      let e : left_by g h to img k ≡ after g to t (payload_in g h img) img k = as_new g h to room t img v w k (omega (arith, n_is g h to room t img v w)) in
      subst (λ (m : List ℕ). scan_block g to.block m ≡ listed b false (listing g to.block m)) (sym e)
      (cut.cut_scans g to t (payload_in g h img) img (room_is g h to room t img v w) (end_is g h to room t img v w) b kind there known k)

  rescanned : Rescanned g h to img b
  unfolding Scans
  rescanned =
      record {
        reads = scan_reads;
        text = λ x second k a c.
            scan_reads k (omega (arith, p_is g h to room t img v w, n_is g h to room t img v w))
            ∙ ap (λ (s : Stop). unless_broken s (record_of b (listing g to.block (left_by g h to img k)).last (not (last_allocated false (listing g to.block (left_by g h to img k)).visits))))
            ((scans g h to room t img v w).text x second k a c);
      }

pub rescans : Rescans
unfolding Rescans
rescans g h to room t img v w b kind there known = rescanned g h to room t img v w b kind there known
