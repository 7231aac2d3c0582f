-- The three passes of a collection, each over blocks from 0 up. "The third pass raises [the erase count] even for an Undefined, empty
-- block, where `format_block` stores nothing."
use Rattle.std.specs.Prelude.{ℕ, zero, suc, ◌+◌, ◌-◌, List, [], ◌∷◌, Bool, true, false, Option, Some, None, length, leb, ltb, eqb}
use Rattle.medium.specs.declared.geometry.Geometry.{Geometry}
use Rattle.medium.specs.Granularity.{pick, header}
use Rattle.medium.specs.Operation.{Answer, done, refused, Op, ◌>>=◌, ◌>>◌, ask, give, refuse, test}
use Rattle.medium.specs.Beside.{on_image}
use Rattle.objects.specs.declared.state.ObjectState.TheVariants as state
use Rattle.objects.specs.declared.header.ObjectHeader.{ObjectHeader}
use Rattle.objects.specs.declared.iterator.ObjectIterator.{ObjectIterator}
use Rattle.objects.specs.Types.{rank_of}
use Rattle.objects.specs.Header.{payload_size_of, set_payload_size, update_state}
use Rattle.objects.specs.Payload.{payload_at}
use Rattle.objects.specs.Listing.{start_of, Met, object, free_place, block_end, next_of, Visit, Stop, Listing, listing}
use Rattle.blocks.specs.declared.header.BlockHeaderKind.{BlockHeaderKind}
use Rattle.blocks.specs.declared.header.BlockHeaderKind.TheVariants.{Empty, Unknown, Known}
use Rattle.blocks.specs.declared.record.BlockInfo.{BlockInfo}
use Rattle.blocks.specs.Format.{Planned, plan_at, format_block}
use Rattle.blocks.specs.Record.{erased_record}
use Rattle.blocks.specs.Scan.{unless_broken, is_allocated}
use Rattle.collector.specs.Table.{Pass, record_at, storing, allowing, collectable}

-- ---- the first pass: an unfinished object gets its size from the used bytes and is deleted, or is left where its size says the same

abbrev pub delete_object : Geometry → ObjectHeader → Op Bool
delete_object g h = do
  update_state g h state.Deleted
  give true

-- n is the payload that the used bytes leave for it
unfoldable pub repair_by : Geometry → ObjectHeader → ℕ → Option ℕ → Op Bool
repair_by g h n (Some m) = pick (eqb m n) (give false) (delete_object g h)
repair_by g h n None = do
  v ← set_payload_size g h n
  delete_object g v

-- whether it was deleted; 9 when the used bytes are smaller than offset plus header
unfoldable pub repairing : Geometry → ObjectHeader → ℕ → Op Bool
repairing g h used = do
  test (λ _. pick (ltb used (payload_at g h)) 9 0)
  repair_by g h (used - payload_at g h) (payload_size_of g.s h)

-- the allow mark is set and the listing goes on, or this block is done
unfoldable pub repaired : ℕ → Bool → Pass Bool
repaired b true = do
  allowing b
  give true
repaired b false = give false

-- whether the listing goes on behind an object
unfoldable pub visit_one : Geometry → ℕ → ℕ → ObjectHeader → Pass Bool
visit_one g b used h = pick (is_allocated h) (on_image (repairing g h used) >>= λ d. repaired b d) (give true)

abbrev pub go_on : Bool → Pass (Unit {0}) → Pass (Unit {0})
go_on true more = more
go_on false more = give tt

abbrev pub visiting : Geometry → ℕ → ℕ → Met → (ObjectIterator → Pass (Unit {0})) → Pass (Unit {0})
visiting g b used (object h j) more = visit_one g b used h >>= λ d. go_on d (more j)
visiting g b used free_place more = give tt
visiting g b used block_end more = give tt

-- with at most n visits; each next object is read off the image as the ones before it left it
unfoldable pub deleting : ℕ → Geometry → ℕ → ℕ → ObjectIterator → Pass (Unit {0})
deleting zero g b used i = give tt
deleting (suc n) g b used i = do
  x ← ask (λ s. next_of g i s.image)
  visiting g b used x (λ j. deleting n g b used j)

abbrev pub delete_by : Geometry → ℕ → BlockInfo → BlockHeaderKind → Pass (Unit {0})
delete_by g b r Empty = give tt
delete_by g b r Unknown = refuse 2
delete_by g b r (Known t) = deleting g.size g b r.used_bytes (start_of g b)

unfoldable pub delete_invalid_objects_in_block : Geometry → ℕ → BlockInfo → Pass (Unit {0})
delete_invalid_objects_in_block g b r = delete_by g b r r.header.kind

-- ---- a format, and the record after it

-- "gives, at any fuse, what `format_block` with power would refuse, otherwise 9": it refuses what its plan refuses
abbrev pub worn_by : Answer Planned → Answer (Unit {0})
worn_by (done _) = refused 9
worn_by (refused n) = refused n

unfoldable pub worn_out : Geometry → ℕ → Op (Unit {0})
worn_out g b = ask (λ img. worn_by (plan_at g b img))

unfoldable pub formatting : Geometry → ℕ → ℕ → Pass (Unit {0})
formatting g b n = do
  on_image (format_block g b)
  storing b (erased_record g.granularity n)

-- of a block that was erased n times
unfoldable pub renewing : Geometry → ℕ → ℕ → Pass (Unit {0})
renewing g b n = pick (eqb n 4294967295) (on_image (worn_out g b)) (formatting g b n)

abbrev pub erasing_by : Geometry → ℕ → BlockInfo → BlockHeaderKind → Pass (Unit {0})
erasing_by g b r Empty = refuse 2
erasing_by g b r Unknown = refuse 2
erasing_by g b r (Known t) = renewing g b r.header.erase_count

-- where a pass decided to erase: the kind is tested, and then the block formatted
unfoldable pub erasing : Geometry → ℕ → BlockInfo → Bool → Pass (Unit {0})
erasing g b r false = give tt
erasing g b r true = erasing_by g b r r.header.kind

-- ---- the second pass: no allocation there, and the first object that is not Deleted is an Allocated one, with nothing behind it

-- behind the Allocated object
abbrev pub last_of : List Visit → Stop → Answer Bool
last_of [] s = unless_broken s true
last_of (v ∷ vs) s = refused 2

-- by how far an object is: 1 Allocated, 2 Finalized, 3 Deleted
abbrev pub ends_unfinished : List Visit → Stop → Answer Bool
ends_unfinished [] s = unless_broken s false
ends_unfinished (v ∷ vs) s =
    pick (eqb (rank_of v.object.state) 3) (ends_unfinished vs s)
    (pick (eqb (rank_of v.object.state) 1) (last_of vs s) (done false))

abbrev pub last_in : Listing → Answer Bool
last_in l = last_of l.visits l.stop

abbrev pub unfinished_in : Listing → Answer Bool
unfinished_in l = ends_unfinished l.visits l.stop

unfoldable pub erase_invalid_finished_block : Geometry → ℕ → BlockInfo → Pass (Unit {0})
erase_invalid_finished_block g b r =
    pick r.allow_alloc (give tt)
    (do
      d ← ask (λ s. unfinished_in (listing g b s.image))
      erasing g b r d)

-- ---- the third pass: "It skips blocks whose used bytes are at least block size minus object header."

abbrev pub all_deleted : List Visit → Stop → Answer Bool
all_deleted [] s = unless_broken s true
all_deleted (v ∷ vs) s = pick (eqb (rank_of v.object.state) 3) (all_deleted vs s) (done false)

abbrev pub deleted_in : Listing → Answer Bool
deleted_in l = all_deleted l.visits l.stop

unfoldable pub erase_full_finished_block : Geometry → ℕ → BlockInfo → Pass (Unit {0})
erase_full_finished_block g b r =
    pick (leb (g.size - header g.granularity g.s) r.used_bytes) (give tt)
    (do
      d ← ask (λ s. deleted_in (listing g b s.image))
      erasing g b r d)

-- ---- a pass: the whole table is tested, and then what is done to a block is done to each

abbrev pub Step : Type 0
Step = Geometry → ℕ → BlockInfo → Pass (Unit {0})

unfoldable pub block_step : Step → Geometry → ℕ → Pass (Unit {0})
block_step step g b = do
  r ← ask (λ s. record_at s.table b)
  step g b r

-- n blocks from b up
unfoldable pub sweep : Step → ℕ → Geometry → ℕ → Pass (Unit {0})
sweep step zero g b = give tt
sweep step (suc n) g b = do
  block_step step g b
  sweep step n g (b + 1)

unfoldable pub pass : Step → Geometry → Pass (Unit {0})
pass step g = do
  test (λ s. collectable g (length s.image) s.table)
  sweep step g.count g 0

abbrev pub delete_invalid_objects : Geometry → Pass (Unit {0})
delete_invalid_objects g = pass delete_invalid_objects_in_block g

abbrev pub erase_invalid_finished_blocks : Geometry → Pass (Unit {0})
erase_invalid_finished_blocks g = pass erase_invalid_finished_block g

abbrev pub erase_full_finished_blocks : Geometry → Pass (Unit {0})
erase_full_finished_blocks g = pass erase_full_finished_block g

-- "the three passes of `run`, in order"
unfoldable pub collect : Geometry → Pass (Unit {0})
collect g = do
  delete_invalid_objects g
  erase_invalid_finished_blocks g
  erase_full_finished_blocks g
