-- At which cuts the block of a new object can be listed, and so cut_listed, where the object goes to the free end of its block.
--
-- An unfinished object has no size until all of its payload is stored. A listing steps over its header alone, and reads the payload as headers.
use Rattle.std.specs.Prelude.{◌≡◌, ◌⊎◌, ◌≢◌, false, List, [], ◌∷◌, ◌++◌, ℕ, ◌+◌, ◌≤◌, ◌<◌, length, get_or, leb}
use Rattle.medium.specs.declared.geometry.Geometry.{Geometry}
use Rattle.medium.specs.Granularity.{pick, width_of, units_in, header}
use Rattle.medium.specs.Operation.{done}
use Rattle.objects.specs.declared.types.ObjectType.{ObjectType}
use Rattle.objects.specs.declared.location.ObjectLocation.{ObjectLocation}
use Rattle.objects.specs.declared.header.ObjectHeader.{ObjectHeader}
use Rattle.objects.specs.Numbers.{unset_of}
use Rattle.objects.specs.Types.{rank_of}
use Rattle.objects.specs.Info.{found, info_at}
use Rattle.objects.specs.Listing.{placed, Visit, Stop, end, free, broken, Listing, list_from, listing}
use Rattle.blocks.specs.declared.header.BlockType.{BlockType}
use Rattle.blocks.specs.declared.header.BlockHeaderKind.TheVariants.{Known}
use Rattle.blocks.specs.declared.header.BlockHeader.{BlockHeader}
use Rattle.blocks.specs.BlockHeader.{block_header_at}
use Rattle.blocks.specs.Scan.{listed, scan_block}
use Rattle.fresh.specs.Units.{address_of, span}
use Rattle.fresh.specs.Fresh.{after, new_header, marks_after, Room}

-- why the listing of the object's block stops after a cut at k units
abbrev pub stop_at : Geometry → ObjectLocation → ObjectType → List ℕ → List ℕ → ℕ → Stop
stop_at g at t pay img k = (listing g at.block (after g at t pay img k)).stop

-- a listing that is not refused
abbrev pub Ended : Stop → Type 0
Ended s = (s ≡ end) ⊎ (s ≡ free)

-- some bytes, of which the first is no type and not FF
pub record Text (bs : List ℕ) : Type 0 where
  pub some : 0 < length bs
  pub no_metadata : get_or bs 0 0 ≢ 0x8F
  pub no_data : get_or bs 0 0 ≢ 0x8E
  pub no_name : get_or bs 0 0 ≢ 0x8D
  pub no_blank : get_or bs 0 0 ≢ 0xFF

-- whether a second header fits behind the object's
abbrev pub Second : Geometry → ObjectLocation → Type 0
Second g at = at.offset + header g.granularity g.s + header g.granularity g.s < g.size

-- a place where a listing of its block stops, with nothing but erased bytes up to the block's end
pub record FreeEnd (g : Geometry) (at : ObjectLocation) (img : List ℕ) : Type 0 where
  pub last : (listing g at.block img).last ≡ at.offset
  pub stop : (listing g at.block img).stop ≡ free
  pub erased : (i : ℕ) → at.offset + i < g.size → get_or img (address_of g at + i) 0 ≡ 255

pub record CutListed (g : Geometry) (at : ObjectLocation) (t : ObjectType) (pay img : List ℕ) : Type 0 where
  -- nothing is stored, or the type alone
  pub begun : (k : ℕ) → k ≤ 1 → Ended (stop_at g at t pay img k)
  -- from the first unit of the payload to its last: refused 2
  pub text : Text pay → Second g at → (k : ℕ) → 2 ≤ k → k ≤ 1 + units_in (width_of g.granularity) (length pay) → stop_at g at t pay img k ≡ broken 2
  -- the size is stored, the finish mark or not
  pub sized : (k : ℕ) → marks_after g pay ≤ k → Ended (stop_at g at t pay img k)
  -- while the bytes of a size of two or three bytes are stored: as long as it reads unset, refused 2, and not after that
  pub unset : Text pay → Second g at → (k : ℕ) (o : ObjectHeader) → 2 ≤ k → k ≤ marks_after g pay → info_at g at (after g at t pay img k) ≡ done (found o)
      → o.size ≡ unset_of g.s → stop_at g at t pay img k ≡ broken 2
  pub set : (k : ℕ) (o : ObjectHeader) → k ≤ marks_after g pay → info_at g at (after g at t pay img k) ≡ done (found o) → o.size ≢ unset_of g.s → Ended (stop_at g at t pay img k)
  -- where no second header fits, never
  pub narrow : g.size ≤ at.offset + header g.granularity g.s + header g.granularity g.s → (k : ℕ) → Ended (stop_at g at t pay img k)

unfoldable pub CutListings : Type 0
CutListings = (g : Geometry) (at : ObjectLocation) (t : ObjectType) (pay img : List ℕ) → Room g at pay img → FreeEnd g at img → CutListed g at t pay img

-- ---- what such a listing shows: with a payload that does not begin with a type, nothing finished at the object's place or behind it before its
-- finish mark

-- some bytes, of which the first is no type
pub record Untyped (bs : List ℕ) : Type 0 where
  pub some : 0 < length bs
  pub no_metadata : get_or bs 0 0 ≢ 0x8F
  pub no_data : get_or bs 0 0 ≢ 0x8E
  pub no_name : get_or bs 0 0 ≢ 0x8D

abbrev pub NoneFinished : List Visit → Type 0
NoneFinished [] = Unit {0}
NoneFinished (v ∷ vs) = (rank_of v.object.state ≢ 2) × NoneFinished vs

unfoldable pub CutShows : Type 0
CutShows =
    (g : Geometry) (at : ObjectLocation) (t : ObjectType) (pay img : List ℕ) → Room g at pay img → FreeEnd g at img → Untyped pay → (k n : ℕ) → k ≤ marks_after g pay
    → NoneFinished (list_from n g (placed at.block at.offset) (after g at t pay img k)).visits

-- ---- the whole object is one visit more, and the listing ends behind it: at a free place where a header fits there, or at the block's end

abbrev pub grown : Geometry → ObjectLocation → ObjectType → List ℕ → List ℕ → Listing
grown g at t pay img =
    let behind = at.offset + span g.granularity g.s (length pay) in
    record {
      visits = (listing g at.block img).visits ++ (record { offset = at.offset; object = new_header at t pay } ∷ []);
      last = behind;
      stop = pick (leb g.size (behind + header g.granularity g.s)) end free;
    }

unfoldable pub Grows : Type 0
Grows =
    (g : Geometry) (at : ObjectLocation) (t : ObjectType) (pay img : List ℕ) → Room g at pay img → FreeEnd g at img → (k : ℕ) → marks_after g pay + 1 ≤ k
    → listing g at.block (after g at t pay img k) ≡ grown g at t pay img

-- the place behind it
abbrev pub behind_it : Geometry → ObjectLocation → List ℕ → ObjectLocation
behind_it g at pay = record { block = at.block; offset = at.offset + span g.granularity g.s (length pay) }

-- where a header fits there, it is a free end again
unfoldable pub GoesOn : Type 0
GoesOn =
    (g : Geometry) (at : ObjectLocation) (t : ObjectType) (pay img : List ℕ) → Room g at pay img → FreeEnd g at img → (k : ℕ) → marks_after g pay + 1 ≤ k
    → (behind_it g at pay).offset + header g.granularity g.s < g.size → FreeEnd g (behind_it g at pay) (after g at t pay img k)

-- ---- the same of a scan, in a block of a known kind: its header is as it was, and the scan is read off the listing

unfoldable pub CutScans : Type 0
CutScans =
    (g : Geometry) (at : ObjectLocation) (t : ObjectType) (pay img : List ℕ) → Room g at pay img → FreeEnd g at img
    → (b : BlockHeader) (kind : BlockType) → block_header_at g at.block img ≡ done b → b.kind ≡ Known kind
    → (k : ℕ) → scan_block g at.block (after g at t pay img k) ≡ listed b false (listing g at.block (after g at t pay img k))
