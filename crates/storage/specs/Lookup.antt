-- "Given a path and its hash, find the first Finalized object of any type, in block and offset order over Metadata blocks, whose hash and name
-- bytes match." As in the Rust, a name is looked at only where the hash is equal: its object is opened, its length compared, and then its bytes,
-- 16 a turn. Whatever is refused on the way ends the lookup.
use Rattle.std.specs.Prelude.{ℕ, zero, suc, ◌+◌, min, Bool, true, false, List, [], ◌∷◌, length, take, drop, eqb}
use Rattle.medium.specs.declared.geometry.Geometry.{Geometry}
use Rattle.medium.specs.Granularity.{pick}
use Rattle.medium.specs.Geometry.{check_of}
use Rattle.medium.specs.Operation.{Answer, done, refused, and_then, or_refuse}
use Rattle.medium.specs.Medium.{read_at}
use Rattle.objects.specs.declared.location.ObjectLocation.{ObjectLocation}
use Rattle.objects.specs.declared.header.ObjectHeader.{ObjectHeader}
use Rattle.objects.specs.Header.{payload_of}
use Rattle.objects.specs.Payload.{payload_at, equal}
use Rattle.objects.specs.Reader.{reader_at}
use Rattle.objects.specs.Metadata.{read_metadata}
use Rattle.blocks.specs.declared.header.BlockType.TheVariants.{Metadata}
use Rattle.storage.specs.Order.{tour}

-- ---- when a name matches

-- the bytes of a path and those from a place of a block on, 16 a turn; n turns are enough
unfoldable pub same_from : ℕ → Geometry → ℕ → ℕ → List ℕ → List ℕ → Answer Bool
same_from zero g b at path img = done true
same_from (suc n) g b at [] img = done true
same_from (suc n) g b at (p ∷ ps) img =
    let path = p ∷ ps in
    and_then (read_at g b at (min 16 (length path)) img) (λ bs. pick (equal bs (take 16 path)) (same_from n g b (at + 16) (drop 16 path) img) (done false))

abbrev pub same_name : Geometry → ObjectHeader → List ℕ → List ℕ → Answer Bool
same_name g h path img = same_from (length path) g h.location.block (payload_at g h) path img

-- the name object at a place is opened, and its length comes first: a path of 0 bytes matches an empty name only
unfoldable pub is_name : Geometry → List ℕ → ObjectLocation → List ℕ → Answer Bool
is_name g path at img =
    and_then (reader_at g at false img) (λ r. pick (eqb (payload_of g.s r.object) (length path)) (same_name g r.object path img) (done false))

unfoldable pub is_named : Geometry → List ℕ → ℕ → ObjectHeader → List ℕ → Answer Bool
is_named g path hash h img = and_then (read_metadata g h img) (λ m. pick (eqb m.hash hash) (is_name g path m.name img) (done false))

-- ---- the first that matches

abbrev pub first_named : (ObjectHeader → Answer Bool) → List ObjectHeader → Answer (Unit {0}) → Answer ObjectLocation
first_named named [] e = and_then e (λ _. refused 13)
first_named named (h ∷ hs) e = and_then (named h) (λ yes. pick yes (done h.location) (first_named named hs e))

unfoldable pub lookup : Geometry → List ℕ → ℕ → List ℕ → Answer ObjectLocation
lookup g path hash img =
    and_then (or_refuse (check_of g (length img))) (λ _. first_named (λ h. is_named g path hash h img) (tour g Metadata img).objects (tour g Metadata img).end)
