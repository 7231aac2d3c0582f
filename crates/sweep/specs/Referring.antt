-- "Premise: .. every Finalized metadata payload lies in its block and is a hash, a name location and whole further locations, and all of them
-- point to listed Finalized data or name objects, else refuse. Refusals: whatever a listing gives, then 14 Dangling, both checked over those
-- blocks before any store." "Metadata objects are those listed in Metadata blocks, data and name objects those listed in Data blocks; other blocks
-- are not looked at."
use Rattle.std.specs.Prelude.{ℕ, zero, suc, ◌+◌, ◌-◌, ◌%◌, Bool, ◌&&◌, not, List, [], ◌∷◌, length, leb, eqb}
use Rattle.medium.specs.declared.geometry.Geometry.{Geometry}
use Rattle.medium.specs.Granularity.{pick}
use Rattle.medium.specs.Geometry.{check_of}
use Rattle.medium.specs.Operation.{Answer, done, refused, and_then, or_refuse}
use Rattle.objects.specs.declared.location.ObjectLocation.{ObjectLocation}
use Rattle.objects.specs.declared.header.ObjectHeader.{ObjectHeader}
use Rattle.objects.specs.declared.metadata.MetadataObjectHeader.{MetadataObjectHeader}
use Rattle.objects.specs.Header.{payload_of}
use Rattle.objects.specs.Location.{location_length}
use Rattle.objects.specs.Payload.{payload_readable}
use Rattle.objects.specs.Metadata.{metadata_header, read_metadata}
use Rattle.objects.specs.Listing.{start_of}
use Rattle.blocks.specs.declared.header.BlockType.{BlockType}
use Rattle.blocks.specs.declared.header.BlockType.TheVariants.{Metadata, Data}
use Rattle.storage.specs.Order.{open_tour, is_of, tour_if, tour}
use Rattle.storage.specs.File.{places_of}
use Rattle.sweep.specs.Lists.{some, every}

-- the objects that a sweep looks at, in lookup order: the Finalized ones that are listed
abbrev pub metadata_in : Geometry → List ℕ → List ObjectHeader
metadata_in g img = (tour g Metadata img).objects

abbrev pub data_in : Geometry → List ℕ → List ObjectHeader
data_in g img = (tour g Data img).objects

-- ---- what a metadata object refers to

abbrev pub same_at : ObjectLocation → ObjectLocation → Bool
same_at a b = eqb a.block b.block && eqb a.offset b.offset

abbrev pub is_among : ObjectLocation → List ObjectLocation → Bool
is_among l ls = some (same_at l) ls

-- the location of its name, and then those of its data objects
abbrev pub locations_by : Geometry → Answer MetadataObjectHeader → List ℕ → List ObjectLocation
locations_by g (done m) img = m.name ∷ (places_of g m img).at
locations_by g (refused n) img = []

unfoldable pub locations_of : Geometry → ObjectHeader → List ℕ → List ObjectLocation
locations_of g h img = locations_by g (read_metadata g h img) img

-- ---- the premise

-- its payload lies in its block, and is a hash, a name location and whole further locations; an unset size is no payload
unfoldable pub is_whole : Geometry → ObjectHeader → ℕ → Bool
is_whole g h room =
    eqb (payload_readable g h room) 0 && leb (metadata_header g) (payload_of g.s h)
    && eqb ((payload_of g.s h - metadata_header g) % location_length g) 0

-- a listed Finalized object stands there, in a Data block
unfoldable pub is_listed : Geometry → ObjectLocation → List ℕ → Bool
is_listed g l img = some (λ d. same_at l d.location) (data_in g img)

unfoldable pub is_sound : Geometry → ObjectHeader → List ℕ → Bool
is_sound g h img = is_whole g h (length img) && every (λ l. is_listed g l img) (locations_of g h img)

-- ---- what is refused before any store

-- what the listing of a block gives, where the block is of the type
abbrev pub listed_end : Geometry → BlockType → ℕ → List ℕ → Answer (Unit {0})
listed_end g t b img = (tour_if (is_of g t b img) (open_tour g (start_of g b) img)).end

-- of n blocks from b on, in block order
unfoldable pub listings : ℕ → Geometry → ℕ → List ℕ → Answer (Unit {0})
listings zero g b img = done tt
listings (suc n) g b img = and_then (listed_end g Metadata b img) (λ _. and_then (listed_end g Data b img) (λ _. listings n g (b + 1) img))

-- 6, 7, what a listing gives, and then 14 for the strict mark and over all metadata
unfoldable pub sweepable : Geometry → List ℕ → Answer (Unit {0})
sweepable g img =
    and_then (or_refuse (check_of g (length img))) (λ _.
    and_then (listings g.count g 0 img) (λ _.
    pick (not (eqb g.strict 1) && every (λ h. is_sound g h img) (metadata_in g img)) (done tt) (refused 14)))
