-- A metadata payload: "a hash, a name location and whole further locations". A payload below 4+c+s gives 9 where the next location is asked for.
use Rattle.std.specs.Prelude.{ℕ, ◌+◌, ◌-◌, List, length, leb, Option, Some, None, Result, Ok, Err}
use Rattle.medium.specs.declared.geometry.Geometry.{Geometry}
use Rattle.medium.specs.Granularity.{pick}
use Rattle.medium.specs.Geometry.{check_of}
use Rattle.medium.specs.declared.refusal.Refusal.{Refusal}
use Rattle.medium.specs.Refusal.{refusal_number}
use Rattle.medium.specs.Operation.{Answer, done, refused, and_then, or_refuse}
use Rattle.medium.specs.Medium.{read_at}
use Rattle.objects.specs.declared.location.ObjectLocation.{ObjectLocation}
use Rattle.objects.specs.declared.header.ObjectHeader.{ObjectHeader}
use Rattle.objects.specs.declared.metadata.MetadataObjectHeader.{MetadataObjectHeader}
use Rattle.objects.specs.Numbers.{number}
use Rattle.objects.specs.Location.{location_length, location_in}
use Rattle.objects.specs.Header.{payload_size_of}
use Rattle.objects.specs.Info.{Info, found, none, info_at}
use Rattle.objects.specs.Payload.{payload_at}
use Rattle.objects.specs.Reader.{possible}

-- the hash stands first in the payload
abbrev pub hash_at : Geometry → ObjectHeader → ℕ
hash_at g h = payload_at g h

-- the number of n bytes, and the location, at a place of a block
unfoldable pub number_at : Geometry → ℕ → ℕ → ℕ → List ℕ → Answer ℕ
number_at g b at n img = and_then (read_at g b at n img) (λ bs. done (number bs))

unfoldable pub location_at : Geometry → ℕ → ℕ → List ℕ → Answer ObjectLocation
location_at g b at img = and_then (read_at g b at (location_length g) img) (λ bs. done (location_in g bs))

unfoldable pub read_metadata : Geometry → ObjectHeader → List ℕ → Answer MetadataObjectHeader
read_metadata g h img =
    and_then (number_at g h.location.block (hash_at g h) 4 img) (λ hash.
    and_then (location_at g h.location.block (hash_at g h + 4) img) (λ name.
    done (record { object = h; hash = hash; name = name; cursor = 0 })))

-- of the object at a place; a free one gives 2
abbrev pub metadata_of : Geometry → List ℕ → Info → Answer MetadataObjectHeader
metadata_of g img (found h) = read_metadata g h img
metadata_of g img none = refused 2

unfoldable pub metadata_at : Geometry → ObjectLocation → List ℕ → Answer MetadataObjectHeader
metadata_at g at img = and_then (info_at g at img) (metadata_of g img)

-- ---- the data objects' locations, one a call

-- hash and name location
abbrev pub metadata_header : Geometry → ℕ
metadata_header g = 4 + g.c + g.s

-- whether the cursor is at the end of the list: an unset size has none
abbrev pub list_end : Geometry → Option ℕ → Answer ℕ
list_end g None = done 0
list_end g (Some n) = pick (leb (metadata_header g) n) (done (n - metadata_header g)) (refused 9)

abbrev pub past_location : Geometry → MetadataObjectHeader → MetadataObjectHeader
past_location g m = record { object = m.object; hash = m.hash; name = m.name; cursor = m.cursor + location_length g }

abbrev pub listed_at : Geometry → MetadataObjectHeader → ℕ
listed_at g m = hash_at g m.object + metadata_header g + m.cursor

-- what one step of the list meets: a location, with the header behind it, or the list's end
pub data Listed : Type 0 where
  location : ObjectLocation → MetadataObjectHeader → Listed
  no_more : Listed

abbrev pub next_location_answer : Result (Option (ObjectLocation × MetadataObjectHeader)) Refusal → Answer Listed
next_location_answer (Ok (Some x)) = done (location x.0 x.1)
next_location_answer (Ok None) = done no_more
next_location_answer (Err e) = refused (refusal_number e)

abbrev pub next_listed : Geometry → MetadataObjectHeader → List ℕ → Answer Listed
next_listed g m img = and_then (location_at g m.object.location.block (listed_at g m) img) (λ l. done (location l (past_location g m)))

unfoldable pub listable : Geometry → MetadataObjectHeader → ℕ → Answer ℕ
listable g m room =
    and_then (or_refuse (check_of g room)) (λ _.
    and_then (or_refuse (possible m.cursor)) (λ _.
    list_end g (payload_size_of g.s m.object)))

unfoldable pub next_location : Geometry → MetadataObjectHeader → List ℕ → Answer Listed
next_location g m img = and_then (listable g m (length img)) (λ e. pick (leb e m.cursor) (done no_more) (next_listed g m img))

abbrev pub reset_of : MetadataObjectHeader → MetadataObjectHeader
reset_of m = record { object = m.object; hash = m.hash; name = m.name; cursor = 0 }
