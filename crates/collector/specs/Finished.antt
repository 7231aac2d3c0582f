-- What the passes do to finished objects: "no pass changes a byte of a Finalized object in a block that it does not format, and no pass
-- formats a block in which a listing shows a Finalized object". Listings here are of the image before the pass. An object whose size runs
-- past the end of its block (no writer makes one) is kept as far as its block goes: the row `overrun`.
use Rattle.std.specs.Prelude.{◌≡◌, ◌⊎◌, List, [], ◌∷◌, ℕ, ◌+◌, ◌≤◌, ◌<◌, get_or}
use Rattle.medium.specs.declared.granularity.Granularity.TheVariants.{Bit}
use Rattle.medium.specs.declared.geometry.Geometry.{Geometry}
use Rattle.medium.specs.declared.fuse.Fuse.{Fuse}
use Rattle.medium.specs.All.{All}
use Rattle.medium.specs.Geometry.{address}
use Rattle.medium.specs.Units.{programmed, erased}
use Rattle.medium.specs.Operation.{run}
use Rattle.medium.specs.Beside.{Event, unit, field, Both}
use Rattle.objects.specs.Numbers.{unset_of}
use Rattle.objects.specs.Types.{rank_of}
use Rattle.objects.specs.Info.{span_of}
use Rattle.objects.specs.Listing.{Visit, Stop, end, free, broken, Listing, listing}
use Rattle.collector.specs.Table.{record_length, word_at}
use Rattle.collector.specs.Passes.{delete_invalid_objects_in_block, erase_invalid_finished_block, erase_full_finished_block, Step, pass, delete_invalid_objects, collect}

-- ---- what a listing shows

abbrev pub Allocated : Visit → Type 0
Allocated v = rank_of v.object.state ≡ 1

abbrev pub Finalized : Visit → Type 0
Finalized v = rank_of v.object.state ≡ 2

-- a finished object is among the visits
abbrev pub Shows : List Visit → Type 0
Shows [] = ⊥
Shows (v ∷ vs) = Finalized v ⊎ Shows vs

-- the offset o of the block is a byte of one
abbrev pub Finished : Geometry → ℕ → List Visit → Type 0
Finished g o [] = ⊥
Finished g o (v ∷ vs) = (Finalized v × (v.offset ≤ o) × (o < v.offset + span_of g.granularity g.s v.object)) ⊎ Finished g o vs

-- one is among them, and each unfinished object before it has its size
abbrev pub Reached : Geometry → List Visit → Type 0
Reached g [] = ⊥
Reached g (v ∷ vs) = Finalized v ⊎ ((Allocated v → v.object.size ≡ unset_of g.s → ⊥) × Reached g vs)

-- the listing met bytes that are no header
abbrev pub Broken : Stop → Type 0
Broken end = ⊥
Broken free = ⊥
Broken (broken n) = Unit {0}

-- what no pass formats
abbrev pub Guarded : Listing → Type 0
Guarded l = Shows l.visits ⊎ Broken l.stop

-- ---- what stays

abbrev pub byte_at : Geometry → ℕ → ℕ → Both → ℕ
byte_at g b o s = get_or s.image (address g b o) 0

-- every byte of a block, what a listing shows of it, and its record in the table
pub record BlockKept (g : Geometry) (b : ℕ) (s t : Both) : Type 0 where
  pub bytes : (o : ℕ) → o < g.size → byte_at g b o t ≡ byte_at g b o s
  pub listed : listing g b t.image ≡ listing g b s.image
  pub fields : (i : ℕ) → i < record_length → word_at t.table b i ≡ word_at s.table b i

-- ---- events

-- not an erase
abbrev pub Programs : Event → Type 0
Programs (unit (programmed a bs)) = Unit {0}
Programs (unit (erased a n)) = ⊥
Programs (field i v) = Unit {0}

-- ---- one pass, at any fuse and in every end

-- the three by name, and what each does to a block
pub data PassKind : Type 0 where
  DeleteInvalidObjects : PassKind
  EraseInvalidFinishedBlocks : PassKind
  EraseFullFinishedBlocks : PassKind

abbrev pub step_of : PassKind → Step
step_of DeleteInvalidObjects = delete_invalid_objects_in_block
step_of EraseInvalidFinishedBlocks = erase_invalid_finished_block
step_of EraseFullFinishedBlocks = erase_full_finished_block

-- no pass changes a byte of a finished object that is shown
unfoldable pub PassSpares : Type 0
PassSpares =
    (k : PassKind) (f : Fuse) (g : Geometry) (s : Both) (b o : ℕ) → o < g.size → Finished g o (listing g b s.image).visits
    → byte_at g b o (run f (pass (step_of k) g) s).state ≡ byte_at g b o s

-- the passes that format
abbrev pub Formats : PassKind → Type 0
Formats DeleteInvalidObjects = ⊥
Formats EraseInvalidFinishedBlocks = Unit {0}
Formats EraseFullFinishedBlocks = Unit {0}

-- they leave the whole of a block in which a finished object is shown, and of one whose listing breaks off
unfoldable pub PassKeepsBlock : Type 0
PassKeepsBlock =
    (k : PassKind) → Formats k → (f : Fuse) (g : Geometry) (s : Both) (b : ℕ) → Guarded (listing g b s.image)
    → BlockKept g b s (run f (pass (step_of k) g) s).state

-- the first pass formats nothing
unfoldable pub FirstNeverErases : Type 0
FirstNeverErases = (g : Geometry) (s : Both) → All Programs (delete_invalid_objects g s).events

-- ---- a whole collection, at any fuse and in every end

-- no byte of a finished object is changed; under Bit, in a block where one is shown with no unfinished object before it that has no size.
-- (Such an object gets a size that reaches over what is behind it: the row `swallowed`. On a chip with words it cannot be read any more
-- once it is deleted, and the block is guarded.)
unfoldable pub RunSpares : Type 0
RunSpares =
    (f : Fuse) (g : Geometry) (s : Both) (b o : ℕ) → o < g.size → (g.granularity ≡ Bit → Reached g (listing g b s.image).visits)
    → Finished g o (listing g b s.image).visits → byte_at g b o (run f (collect g) s).state ≡ byte_at g b o s

-- a block in which a finished object is shown and no unfinished one is left whole
unfoldable pub RunKeepsBlock : Type 0
RunKeepsBlock =
    (f : Fuse) (g : Geometry) (s : Both) (b : ℕ) → All (λ v. Allocated v → ⊥) (listing g b s.image).visits
    → Shows (listing g b s.image).visits → BlockKept g b s (run f (collect g) s).state
