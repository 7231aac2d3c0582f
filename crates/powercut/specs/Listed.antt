-- What listings of the two blocks show at each cut: how many finished objects of that type and payload there are.
--
-- An unfinished copy has no size yet, so a listing steps over its header only and reads the payload as headers. Whatever the payload says there,
-- none of it counts.
use Rattle.std.specs.Prelude.{◌≡◌, Bool, false, ◌&&◌, List, [], ◌∷◌, ◌++◌, ℕ, suc, ◌+◌, ◌≤◌, eqb}
use Rattle.medium.specs.declared.geometry.Geometry.{Geometry}
use Rattle.medium.specs.declared.fuse.Fuse.{Fuse}
use Rattle.medium.specs.declared.fuse.Fuse.TheVariants.{Absent, Units}
use Rattle.medium.specs.Granularity.{pick}
use Rattle.medium.specs.Operation.{Answer, done, refused, and_then, run}
use Rattle.objects.specs.declared.types.ObjectType.{ObjectType}
use Rattle.objects.specs.declared.state.CompositeObjectState.{CompositeObjectState}
use Rattle.objects.specs.declared.state.CompositeObjectState.TheVariants.{Free, Allocated}
use Rattle.objects.specs.declared.location.ObjectLocation.{ObjectLocation}
use Rattle.objects.specs.declared.header.ObjectHeader.{ObjectHeader}
use Rattle.objects.specs.Types.{type_byte, rank_to}
use Rattle.objects.specs.Payload.{equal}
use Rattle.objects.specs.Reader.{reader_at, read_some}
use Rattle.objects.specs.Listing.{Visit, free, listing}
use Rattle.moving.specs.Moving.{move_object}
use Rattle.powercut.specs.Demand.{payload_in, Movable, units_to}

-- ---- counting

-- the payload of the object at a place, through a reader, in one read: none is longer than a block
unfoldable pub payload_read : Geometry → ObjectLocation → List ℕ → Answer (List ℕ)
payload_read g at img = and_then (reader_at g at false img) (λ r. and_then (read_some g r 65536 img) (λ k. done k.bytes))

abbrev pub is_payload : Answer (List ℕ) → List ℕ → Bool
is_payload (done bs) payload = equal bs payload
is_payload (refused n) payload = false

-- finished, and of this type
abbrev pub finished_as : CompositeObjectState → ObjectType → Bool
finished_as Free t = false
finished_as (Allocated u d) t = eqb (rank_to d) 2 && eqb (type_byte u) (type_byte t)

-- whether a visit is a finished object of this type and payload
unfoldable pub is_copy : Geometry → ℕ → ObjectType → List ℕ → List ℕ → Visit → Bool
is_copy g b t payload img v = finished_as v.object.state t && is_payload (payload_read g (record { block = b; offset = v.offset }) img) payload

abbrev pub count_in : Geometry → ℕ → ObjectType → List ℕ → List ℕ → List Visit → ℕ
count_in g b t payload img [] = 0
count_in g b t payload img (v ∷ vs) = pick (is_copy g b t payload img v) 1 0 + count_in g b t payload img vs

-- in one block, and in two, which may be the same
abbrev pub copies_in : Geometry → ℕ → ObjectType → List ℕ → List ℕ → ℕ
copies_in g b t payload img = count_in g b t payload img (listing g b img).visits

abbrev pub copies : Geometry → ℕ → ℕ → ObjectType → List ℕ → List ℕ → ℕ
copies g a b t payload img = pick (eqb a b) (copies_in g a t payload img) (copies_in g a t payload img + copies_in g b t payload img)

-- ---- what is given besides: the original is listed, and the destination is the free end of its block, where a listing stops

pub record Among (v : Visit) (vs : List Visit) : Type 0 where
  pub before : List Visit
  pub after : List Visit
  pub is : vs ≡ before ++ v ∷ after

pub record Listable (g : Geometry) (h : ObjectHeader) (to : ObjectLocation) (room : ℕ) (img : List ℕ) : Type 0 where
  pub listed : Among (record { offset = h.location.offset; object = h }) (listing g h.location.block img).visits
  pub to_end : to.offset + room ≡ g.size
  pub last : (listing g to.block img).last ≡ to.offset
  pub stop : (listing g to.block img).stop ≡ free

-- ---- what they show: as many as before the move, one more at one number of units, and as many as before again

-- the copies that the two blocks show after a move under a fuse
abbrev pub copies_after : Geometry → ObjectHeader → ObjectLocation → ObjectType → List ℕ → Fuse → ℕ
copies_after g h to t img f = copies g h.location.block to.block t (payload_in g h img) (run f (move_object g h to) img).state

abbrev pub copies_before : Geometry → ObjectHeader → ObjectLocation → ObjectType → List ℕ → ℕ
copies_before g h to t img = copies g h.location.block to.block t (payload_in g h img) img

pub record Counted (g : Geometry) (h : ObjectHeader) (to : ObjectLocation) (t : ObjectType) (img : List ℕ) : Type 0 where
  pub some : 1 ≤ copies_before g h to t img
  pub before_mark : (k : ℕ) → k ≤ units_to g h → copies_after g h to t img (Units k) ≡ copies_before g h to t img
  pub between_marks : copies_after g h to t img (Units (units_to g h + 1)) ≡ suc (copies_before g h to t img)
  pub after_marks : (k : ℕ) → units_to g h + 2 ≤ k → copies_after g h to t img (Units k) ≡ copies_before g h to t img
  pub with_power : copies_after g h to t img Absent ≡ copies_before g h to t img

unfoldable pub Listings : Type 0
Listings =
    (g : Geometry) (h : ObjectHeader) (to : ObjectLocation) (room : ℕ) (t : ObjectType) (img : List ℕ) → Movable g h to room t img → Listable g h to room img
    → Counted g h to t img
