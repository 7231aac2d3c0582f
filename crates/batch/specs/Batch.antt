-- "One call taking up to 64 records of four u32 (type, offset, start and length in a lent payload buffer) for one block": the records one by one
-- in order, up to the first refusal, "with the number done". The number stands beside the image and takes no power: a record counts right after
-- its last unit.
use Rattle.std.specs.Prelude.{ℕ, ◌+◌, ◌*◌, ◌%◌, List, [], ◌∷◌, ◌&&◌, length, get_or, leb, eqb}
use Rattle.medium.specs.declared.geometry.Geometry.{Geometry}
use Rattle.medium.specs.Granularity.{pick}
use Rattle.medium.specs.Geometry.{admit}
use Rattle.medium.specs.Operation.{Answer, done, refused, OpIn, Op, ◌>>=◌, ◌>>◌, ask, give, test, putting}
use Rattle.medium.specs.Medium.{part}
use Rattle.medium.specs.Beside.{beside, on_image, fields}
use Rattle.objects.specs.declared.location.ObjectLocation.{ObjectLocation}
use Rattle.objects.specs.Types.{object_type_of}
use Rattle.writer.specs.Writer.{write_to}
use Rattle.batch.specs.declared.record.Record.{Record}

-- ---- the records that a list of numbers holds

abbrev pub per_record : ℕ
per_record = 4

abbrev pub most_records : ℕ
most_records = 64

abbrev pub batch_record : ℕ → ℕ → ℕ → ℕ → Record
batch_record t o a n = record { kind = t; offset = o; start = a; length = n }

abbrev pub batch_record_at : List ℕ → ℕ → Record
batch_record_at ns i =
    batch_record (get_or ns (per_record * i) 0) (get_or ns (per_record * i + 1) 0) (get_or ns (per_record * i + 2) 0) (get_or ns (per_record * i + 3) 0)

-- a part of one is none
unfoldable pub records_in : List ℕ → List Record
records_in [] = []
records_in (t ∷ []) = []
records_in (t ∷ o ∷ []) = []
records_in (t ∷ o ∷ a ∷ []) = []
records_in (t ∷ o ∷ a ∷ n ∷ ns) = batch_record t o a n ∷ records_in ns

-- "more than 64 records, or part of one, give 7 before any store"
unfoldable pub batchable : Geometry → ℕ → ℕ → ℕ
batchable g room n = admit g room (pick (leb n (most_records * per_record) && eqb (n % per_record) 0) 0 7)

-- ---- one record at its turn: "a record whose payload range is outside the buffer gives 7, then one whose type is none of the three gives 4"

unfoldable pub lent_to : Record → List ℕ → Answer (List ℕ)
lent_to r buffer = pick (leb (r.start + r.length) (length buffer)) (done (part r.start r.length buffer)) (refused 7)

abbrev pub place_of : ℕ → Record → ObjectLocation
place_of b r = record { block = b; offset = r.offset }

unfoldable pub write_record : Geometry → ℕ → List ℕ → Record → Op ℕ
write_record g b payload r = do
  src ← ask (λ _. lent_to r payload)
  t ← ask (λ _. object_type_of r.kind)
  write_to g (place_of b r) t src

-- ---- all of them

abbrev pub Batch : Type 0 → Type 0
Batch A = OpIn beside A

-- the number done becomes i
abbrev pub count_to : ℕ → Batch (Unit {0})
count_to i = putting (fields 0 0 (i ∷ [])) tt

-- with i done before them
unfoldable pub writing : Geometry → ℕ → List ℕ → ℕ → List Record → Batch (Unit {0})
writing g b payload i [] = give tt
writing g b payload i (r ∷ rs) = do
  on_image (write_record g b payload r)
  count_to (i + 1)
  writing g b payload (i + 1) rs

unfoldable pub write_all : Geometry → ℕ → List ℕ → List ℕ → Batch (Unit {0})
write_all g b records payload = do
  test (λ s. batchable g (length s.image) (length records))
  writing g b payload 0 (records_in records)
