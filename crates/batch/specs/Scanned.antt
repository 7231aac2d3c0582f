-- What a scan of the block gives after a cut of a batch whose records stand one right behind the other, from the free end of the block on.
use Rattle.std.specs.Prelude.{◌≡◌, false, List, [], ◌∷◌, ◌++◌, ℕ, ◌+◌, ◌≤◌, ◌<◌, leb}
use Rattle.medium.specs.declared.geometry.Geometry.{Geometry}
use Rattle.medium.specs.Granularity.{pick, header}
use Rattle.medium.specs.Operation.{done}
use Rattle.objects.specs.declared.location.ObjectLocation.{ObjectLocation}
use Rattle.objects.specs.Listing.{Visit, end, free, Listing, listing}
use Rattle.blocks.specs.declared.header.BlockType.{BlockType}
use Rattle.blocks.specs.declared.header.BlockHeaderKind.TheVariants.{Known}
use Rattle.blocks.specs.declared.header.BlockHeader.{BlockHeader}
use Rattle.blocks.specs.BlockHeader.{block_header_at}
use Rattle.blocks.specs.Scan.{listed, scan_block}
use Rattle.fresh.specs.Fresh.{after}
use Rattle.fresh.specs.Scans.{FreeEnd, CutListed}
use Rattle.batch.specs.declared.record.Record.{Record}
use Rattle.batch.specs.Batch.{place_of, records_in}
use Rattle.batch.specs.Laws.{Takes}
use Rattle.batch.specs.Cut.{type_in, bytes_of, header_for, behind_one, units_for_one, units_for_all, Rising, Ready, left_at}

-- each right behind the one before, the first at e, with more room than a header takes: a listing does not look at less
abbrev pub Adjoining : Geometry → List ℕ → ℕ → List Record → Type 0
Adjoining g payload e [] = Unit {0}
Adjoining g payload e (r ∷ rs) = (r.offset ≡ e) × (e + header g.granularity g.s < g.size) × Adjoining g payload (behind_one g payload r) rs

-- the offset behind the last of them
abbrev pub behind_all : Geometry → List ℕ → ℕ → List Record → ℕ
behind_all g payload e [] = e
behind_all g payload e (r ∷ rs) = behind_all g payload (behind_one g payload r) rs

abbrev pub visits_of : ℕ → List ℕ → List Record → List Visit
visits_of b payload [] = []
visits_of b payload (r ∷ rs) = record { offset = r.offset; object = header_for b payload r } ∷ visits_of b payload rs

-- a listing with them behind what it showed: it ends at a free place where a header fits there, or at the block's end
abbrev pub grown_by : Geometry → ℕ → List ℕ → ℕ → List Record → List ℕ → Listing
grown_by g b payload e rs img =
    record {
      visits = (listing g b img).visits ++ visits_of b payload rs;
      last = behind_all g payload e rs;
      stop = pick (leb g.size (behind_all g payload e rs + header g.granularity g.s)) end free;
    }

abbrev pub place_at : ℕ → ℕ → ObjectLocation
place_at b e = record { block = b; offset = e }

pub record Scanned (g : Geometry) (b e : ℕ) (h : BlockHeader) (records payload img : List ℕ) : Type 0 where
  -- at every cut the scan is what the listing gives
  pub scans : (k : ℕ) → scan_block g b (left_at g b records payload img k) ≡ listed h false (listing g b (left_at g b records payload img k))
  -- before the first record, between two, and behind the last: the records that are written are listed, and nothing else is new
  pub between : (xs ys : List Record) → records_in records ≡ xs ++ ys
      → listing g b (left_at g b records payload img (units_for_all g payload xs)) ≡ grown_by g b payload e xs img
  -- within a record: what a cut leaves of an object that is written new there
  pub within : (xs ys : List Record) (r : Record) → records_in records ≡ xs ++ (r ∷ ys) → (k : ℕ) → k ≤ units_for_one g payload r
      → left_at g b records payload img (units_for_all g payload xs + k) ≡ after g (place_of b r) (type_in r) (bytes_of payload r) (left_at g b records payload img (units_for_all g payload xs)) k
  -- and so at which of those cuts the block can be listed
  pub cut_listed : (xs ys : List Record) (r : Record) → records_in records ≡ xs ++ (r ∷ ys)
      → CutListed g (place_of b r) (type_in r) (bytes_of payload r) (left_at g b records payload img (units_for_all g payload xs))

unfoldable pub BatchScans : Type 0
BatchScans =
    (g : Geometry) (b e : ℕ) (records payload img : List ℕ) → Takes g records img → Ready g b e payload img → Rising g payload e (records_in records)
    → Adjoining g payload e (records_in records) → FreeEnd g (place_at b e) img
    → (h : BlockHeader) (kind : BlockType) → block_header_at g b img ≡ done h → h.kind ≡ Known kind → Scanned g b e h records payload img
