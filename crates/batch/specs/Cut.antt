-- What a cut leaves of a batch whose records go to erased room of one block in rising order: every record that was wholly written before the cut
-- reads finished and whole, no other reads as finished, and no byte changes elsewhere.
use Rattle.std.specs.Prelude.{◌≡◌, List, [], ◌∷◌, ◌++◌, ℕ, ◌+◌, ◌-◌, ◌%◌, ◌≤◌, ◌<◌, length, get_or, leb}
use Rattle.medium.specs.declared.geometry.Geometry.{Geometry}
use Rattle.medium.specs.declared.fuse.Fuse.TheVariants.{Absent, Units}
use Rattle.medium.specs.All.{All}
use Rattle.medium.specs.Granularity.{pick, width_of}
use Rattle.medium.specs.Geometry.{check_of, address}
use Rattle.medium.specs.Operation.{Answer, done, refused}
use Rattle.medium.specs.Medium.{part}
use Rattle.objects.specs.declared.types.ObjectType.{ObjectType}
use Rattle.objects.specs.declared.types.ObjectType.TheVariants.{FileData}
use Rattle.objects.specs.declared.header.ObjectHeader.{ObjectHeader}
use Rattle.objects.specs.Types.{object_type_of}
use Rattle.shown.specs.Whole.{Whole, Unfinished}
use Rattle.fresh.specs.Units.{address_of, span, Clear}
use Rattle.fresh.specs.Fresh.{new_header, marks_after}
use Rattle.batch.specs.declared.record.Record.{Record}
use Rattle.batch.specs.Batch.{place_of, records_in}
use Rattle.batch.specs.Laws.{end_of, batch, Takes}

-- ---- what a record writes

abbrev pub type_by : Answer ObjectType → ObjectType
type_by (done t) = t
type_by (refused n) = FileData

-- its type (of one that says none, any)
abbrev pub type_in : Record → ObjectType
type_in r = type_by (object_type_of r.kind)

abbrev pub bytes_of : List ℕ → Record → List ℕ
bytes_of payload r = part r.start r.length payload

abbrev pub header_for : ℕ → List ℕ → Record → ObjectHeader
header_for b payload r = new_header (place_of b r) (type_in r) (bytes_of payload r)

-- the offset behind its object
abbrev pub behind_one : Geometry → List ℕ → Record → ℕ
behind_one g payload r = r.offset + span g.granularity g.s (length (bytes_of payload r))

-- its units: the finish mark is the last of them
abbrev pub units_for_one : Geometry → List ℕ → Record → ℕ
units_for_one g payload r = marks_after g (bytes_of payload r) + 1

abbrev pub units_for_all : Geometry → List ℕ → List Record → ℕ
units_for_all g payload [] = 0
units_for_all g payload (r ∷ rs) = units_for_one g payload r + units_for_all g payload rs

-- how many records k units are enough for
abbrev pub enough_for : Geometry → List ℕ → List Record → ℕ → ℕ
enough_for g payload [] k = 0
enough_for g payload (r ∷ rs) k = pick (leb (units_for_one g payload r) k) (enough_for g payload rs (k - units_for_one g payload r) + 1) 0

-- ---- what is given

-- a record that can be written behind the offset e
pub record Fits (g : Geometry) (payload : List ℕ) (e : ℕ) (r : Record) : Type 0 where
  pub typed : object_type_of r.kind ≡ done (type_in r)
  pub lent : r.start + r.length ≤ length payload
  pub from : e ≤ r.offset
  pub aligned : r.offset % width_of g.granularity ≡ 0
  pub in_block : behind_one g payload r ≤ g.size

-- each of them behind the one before
abbrev pub Rising : Geometry → List ℕ → ℕ → List Record → Type 0
Rising g payload e [] = Unit {0}
Rising g payload e (r ∷ rs) = Fits g payload e r × Rising g payload (behind_one g payload r) rs

-- a valid geometry and an image of its length, a payload of bytes, and a block that is erased from e on
pub record Ready (g : Geometry) (b e : ℕ) (payload img : List ℕ) : Type 0 where
  pub fine : check_of g (length img) ≡ 0
  pub block : b < g.count
  pub bytes : (i : ℕ) → i < length payload → get_or payload i 0 < 256
  pub erased : (o : ℕ) → e ≤ o → o < g.size → get_or img (address g b o) 0 ≡ 255

-- ---- what a cut leaves

-- the image that a cut after k units leaves
abbrev pub left_at : Geometry → ℕ → List ℕ → List ℕ → List ℕ → ℕ → List ℕ
left_at g b records payload img k = (batch (Units k) g b records payload img).state.image

-- a byte that is none of a record's object
abbrev pub OffOne : Geometry → ℕ → List ℕ → ℕ → Record → Type 0
OffOne g b payload j r = Clear (address_of g (place_of b r)) (address_of g (place_of b r) + span g.granularity g.s (length (bytes_of payload r))) j

pub record CutAt (g : Geometry) (b : ℕ) (records payload img : List ℕ) (k : ℕ) : Type 0 where
  pub all_done : units_for_all g payload (records_in records) ≤ k → (batch (Units k) g b records payload img).answer ≡ done tt
  pub cut_short : k < units_for_all g payload (records_in records) → (batch (Units k) g b records payload img).answer ≡ refused 8
  pub number : (batch (Units k) g b records payload img).state.table ≡ enough_for g payload (records_in records) k ∷ []
  pub whole : (xs ys : List Record) (r : Record) → records_in records ≡ xs ++ (r ∷ ys) → units_for_all g payload xs + units_for_one g payload r ≤ k
      → Whole g (header_for b payload r) (type_in r) (bytes_of payload r) (left_at g b records payload img k)
  pub unfinished : (xs ys : List Record) (r : Record) → records_in records ≡ xs ++ (r ∷ ys) → k < units_for_all g payload xs + units_for_one g payload r
      → Unfinished g (place_of b r) (type_in r) (left_at g b records payload img k)
  pub long : length (left_at g b records payload img k) ≡ length img
  pub elsewhere : (j : ℕ) → All (OffOne g b payload j) (records_in records) → get_or (left_at g b records payload img k) j 0 ≡ get_or img j 0

unfoldable pub BatchCuts : Type 0
BatchCuts =
    (g : Geometry) (b e : ℕ) (records payload img : List ℕ) → Takes g records img → Ready g b e payload img → Rising g payload e (records_in records)
    → (k : ℕ) → CutAt g b records payload img k

-- with power it is done, and leaves what enough units leave
unfoldable pub BatchPowered : Type 0
BatchPowered =
    (g : Geometry) (b e : ℕ) (records payload img : List ℕ) → Takes g records img → Ready g b e payload img → Rising g payload e (records_in records)
    → batch Absent g b records payload img ≡ end_of (done tt) Absent (left_at g b records payload img (units_for_all g payload (records_in records))) (length (records_in records))
