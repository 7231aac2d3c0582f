-- What a cut of a metadata move means for a street that is opened by its name.
--
-- The street's metadata object is moved to the free end of a Metadata block. Before the copy's finish mark a lookup finds the original, between
-- the marks the first of the two in block order, after the delete mark the copy; and what it finds reads as the file did before the move. Where
-- the copy's block comes first and cannot be listed, a lookup gets the refusal of that listing.
use Rattle.std.specs.Prelude.{◌≡◌, ◌≢◌, true, false, ◌&&◌, List, [], ◌∷◌, ℕ, ◌+◌, ◌-◌, ◌%◌, ◌≤◌, ◌<◌, leb, eqb}
use Rattle.medium.specs.declared.geometry.Geometry.{Geometry}
use Rattle.medium.specs.Granularity.{pick}
use Rattle.medium.specs.Operation.{done, refused}
use Rattle.objects.specs.declared.types.ObjectType.{ObjectType}
use Rattle.objects.specs.declared.location.ObjectLocation.{ObjectLocation}
use Rattle.objects.specs.declared.header.ObjectHeader.{ObjectHeader}
use Rattle.objects.specs.declared.metadata.MetadataObjectHeader.{MetadataObjectHeader}
use Rattle.objects.specs.Header.{payload_of}
use Rattle.objects.specs.Location.{location_length}
use Rattle.objects.specs.Payload.{equal}
use Rattle.objects.specs.Listing.{Visit, broken, listing}
use Rattle.objects.specs.Metadata.{metadata_header, read_metadata}
use Rattle.blocks.specs.declared.header.BlockType.TheVariants.{Metadata}
use Rattle.storage.specs.Order.{is_finished, is_of}
use Rattle.storage.specs.Lookup.{is_named, lookup}
use Rattle.storage.specs.File.{places_of, read_file}
use Rattle.storage.specs.Laws.{All, Entry, entries}
use Rattle.powercut.specs.Demand.{payload_in, Movable, units_to}
use Rattle.powercut.specs.Listed.{Listable}
use Rattle.powercut.specs.Again.{left_by}
use Rattle.powercut.specs.Scans.{stop_after, Ended}
use Rattle.fresh.specs.Scans.{Untyped}

-- ---- what is given besides the demand's conditions

-- a place outside the two blocks of the move
abbrev pub Outside : ObjectHeader → ObjectLocation → ObjectLocation → Type 0
Outside h to at = (at.block ≢ h.location.block) × (at.block ≢ to.block)

module _ (g : Geometry) (path : List ℕ) (hash : ℕ) (h : ObjectHeader) (to : ObjectLocation) (img : List ℕ) where
  -- where an object's hash is the one that is looked for, its name lies outside the two blocks
  abbrev pub NameOutside : ObjectHeader → Type 0
  NameOutside o = (m : MetadataObjectHeader) → read_metadata g o img ≡ done m → m.hash ≡ hash → Outside h to m.name

  -- another street: its hash and its name's location lie in its payload, and it answers that it is not the one
  pub record Other (o : ObjectHeader) : Type 0 where
    pub long : metadata_header g ≤ payload_of g.s o
    pub other : is_named g path hash o img ≡ done false
    pub outside : NameOutside o

  abbrev pub Others : List Visit → Type 0
  Others [] = Unit {0}
  Others (v ∷ vs) = (is_finished v.object ≡ true → Other v.object) × Others vs

  -- the object that is moved is the street, and every other finished object that is listed in a Metadata block is another
  pub record Street (room : ℕ) (w : Listable g h to room img) : Type 0 where
    pub kind : is_of g Metadata h.location.block img ≡ done true
    pub kind-to : is_of g Metadata to.block img ≡ done true
    pub listed : (b : ℕ) → b < g.count → is_of g Metadata b img ≡ done true → Ended (listing g b img).stop
    pub elsewhere : (b : ℕ) → b < g.count → is_of g Metadata b img ≡ done true → b ≢ h.location.block → Others (listing g b img).visits
    pub before : Others w.listed.before
    pub after : Others w.listed.after
    pub long : metadata_header g ≤ payload_of g.s h
    pub named : is_named g path hash h img ≡ done true
    pub outside : NameOutside h

-- ---- what a lookup finds at each cut

abbrev pub look_after : Geometry → List ℕ → ℕ → ObjectHeader → ObjectLocation → List ℕ → ℕ → Rattle.medium.specs.Answer.Answer ObjectLocation
look_after g path hash h to img k = lookup g path hash (left_by g h to img k)

pub record Looked (g : Geometry) (path : List ℕ) (hash : ℕ) (h : ObjectHeader) (to : ObjectLocation) (img : List ℕ) : Type 0 where
  -- as long as the copy has no finish mark the original, where its block comes first or is the same
  pub before_mark : (k : ℕ) → k ≤ units_to g h → h.location.block ≤ to.block → look_after g path hash h to img k ≡ done h.location
  -- where the copy's block comes first: the original too if that block can be listed, and else its refusal
  pub before_mark_listed : Untyped (payload_in g h img) → (k : ℕ) → k ≤ units_to g h → to.block < h.location.block → Ended (stop_after g h to img k)
      → look_after g path hash h to img k ≡ done h.location
  pub before_mark_broken : Untyped (payload_in g h img) → (k n : ℕ) → k ≤ units_to g h → to.block < h.location.block → stop_after g h to img k ≡ broken n
      → look_after g path hash h to img k ≡ refused n
  -- between the marks the first of the two, and then the copy
  pub between_marks : look_after g path hash h to img (units_to g h + 1) ≡ done (pick (leb h.location.block to.block) h.location to)
  pub after_marks : (k : ℕ) → units_to g h + 2 ≤ k → look_after g path hash h to img k ≡ done to

unfoldable pub FoundAtEveryCut : Type 0
FoundAtEveryCut =
    (g : Geometry) (path : List ℕ) (hash : ℕ) (h : ObjectHeader) (to : ObjectLocation) (room : ℕ) (t : ObjectType) (img : List ℕ)
    → Movable g h to room t img → (w : Listable g h to room img) → Street g path hash h to img room w → Looked g path hash h to img

-- ---- and that it reads as before

-- the list of data objects is whole, and they lie outside the two blocks
pub record Contents (g : Geometry) (h : ObjectHeader) (to : ObjectLocation) (img : List ℕ) : Type 0 where
  pub long : metadata_header g ≤ payload_of g.s h
  pub whole : (payload_of g.s h - metadata_header g) % location_length g ≡ 0
  pub metadata : MetadataObjectHeader
  pub opens : read_metadata g h img ≡ done metadata
  pub outside : All (Outside h to) (places_of g metadata img).at

pub record SameFile (g : Geometry) (h : ObjectHeader) (to : ObjectLocation) (img : List ℕ) (k : ℕ) : Type 0 where
  pub original : k ≤ units_to g h + 1 → (p n : ℕ) → read_file g h.location p n (left_by g h to img k) ≡ read_file g h.location p n img
  pub copy : units_to g h + 1 ≤ k → (p n : ℕ) → read_file g to p n (left_by g h to img k) ≡ read_file g h.location p n img

unfoldable pub ReadsTheSame : Type 0
ReadsTheSame =
    (g : Geometry) (h : ObjectHeader) (to : ObjectLocation) (room : ℕ) (t : ObjectType) (img : List ℕ) → Movable g h to room t img → Contents g h to img → (k : ℕ)
    → SameFile g h to img k

-- ---- how often the names iterator gives the street's name, with the hash that is looked for: where it lists all names

abbrev pub times_listed : List ℕ → ℕ → List Entry → ℕ
times_listed path hash [] = 0
times_listed path hash (x ∷ xs) = pick (eqb x.hash hash && equal x.name path) 1 0 + times_listed path hash xs

pub record Times (g : Geometry) (path : List ℕ) (hash : ℕ) (h : ObjectHeader) (to : ObjectLocation) (img : List ℕ) : Type 0 where
  pub before_mark : Untyped (payload_in g h img) → (k n : ℕ) (xs : List Entry) → k ≤ units_to g h → entries g n (left_by g h to img k) ≡ done xs → times_listed path hash xs ≡ 1
  pub between_marks : (n : ℕ) (xs : List Entry) → entries g n (left_by g h to img (units_to g h + 1)) ≡ done xs → times_listed path hash xs ≡ 2
  pub after_marks : (k n : ℕ) (xs : List Entry) → units_to g h + 2 ≤ k → entries g n (left_by g h to img k) ≡ done xs → times_listed path hash xs ≡ 1

unfoldable pub TwiceBetween : Type 0
TwiceBetween =
    (g : Geometry) (path : List ℕ) (hash : ℕ) (h : ObjectHeader) (to : ObjectLocation) (room : ℕ) (t : ObjectType) (img : List ℕ)
    → Movable g h to room t img → (w : Listable g h to room img) → Street g path hash h to img room w → Times g path hash h to img
