-- "A listing of all file names, one a call": the name of the next object that a lookup would look at. "7 for a name longer than its buffer";
-- then the place stays, as after any refusal. The end is no refusal.
use Rattle.std.specs.Prelude.{ℕ, false, List, [], ◌++◌, Option, Some, None, Result, Ok, Err, length, drop, leb, eqb}
use Rattle.medium.specs.declared.geometry.Geometry.{Geometry}
use Rattle.medium.specs.Granularity.{pick}
use Rattle.medium.specs.Operation.{Answer, done, refused, and_then}
use Rattle.medium.specs.declared.refusal.Refusal.{Refusal}
use Rattle.medium.specs.Refusal.{refusal_number}
use Rattle.objects.specs.declared.location.ObjectLocation.{ObjectLocation}
use Rattle.objects.specs.declared.header.ObjectHeader.{ObjectHeader}
use Rattle.objects.specs.Header.{payload_of}
use Rattle.objects.specs.Payload.{read_payload}
use Rattle.objects.specs.Reader.{reader_at}
use Rattle.objects.specs.Metadata.{read_metadata}
use Rattle.objects.specs.Listing.{start_of}
use Rattle.blocks.specs.declared.header.BlockType.TheVariants.{Metadata}
use Rattle.storage.specs.declared.names.Names.{Names}
use Rattle.storage.specs.declared.names.NextName.{NextName}
use Rattle.storage.specs.Order.{Seen, object, store_end, next_visit}

-- the bytes of a name's object; an empty one is not read, as a lookup does not
abbrev pub name_bytes : Geometry → ObjectHeader → List ℕ → Answer (List ℕ)
name_bytes g h img = pick (eqb (payload_of g.s h) 0) (done []) (read_payload g h img)

-- the name of a metadata object, into n bytes: its object is opened, then its length compared, then it is read
unfoldable pub name_at : Geometry → ObjectLocation → ℕ → List ℕ → Answer (List ℕ)
name_at g at n img = and_then (reader_at g at false img) (λ r. pick (leb (payload_of g.s r.object) n) (name_bytes g r.object img) (refused 7))

unfoldable pub name_of : Geometry → ObjectHeader → ℕ → List ℕ → Answer (List ℕ)
name_of g h n img = and_then (read_metadata g h img) (λ m. name_at g m.name n img)

-- ---- one name a call

-- a name, the place of its metadata object, and the names behind it; or the end
pub data Named : Type 0 where
  name : List ℕ → ObjectLocation → Names → Named
  nameless : Named

abbrev pub names_from : Geometry → Names
names_from g = record { place = start_of g 0 }

abbrev pub name_seen : Geometry → ℕ → List ℕ → Seen → Answer Named
name_seen g n img (object h v) = and_then (name_of g h n img) (λ bs. done (name bs h.location (record { place = v.place })))
name_seen g n img store_end = done nameless

unfoldable pub next_name : Geometry → Names → ℕ → List ℕ → Answer Named
next_name g i n img = and_then (next_visit g Metadata (record { place = i.place; opened = false }) img) (name_seen g n img)

-- ---- what goes out: how many bytes, and the buffer

pub data NameOut : Type 0 where
  named : ℕ → ObjectLocation → Names → NameOut
  none : NameOut

abbrev pub name_answer : Result (Option NextName) Refusal → Answer NameOut
name_answer (Ok (Some n)) = done (named n.length n.location n.names)
name_answer (Ok None) = done none
name_answer (Err e) = refused (refusal_number e)

abbrev pub length_out : Named → Answer NameOut
length_out (name bs at i) = done (named (length bs) at i)
length_out nameless = done none

abbrev pub name_into : Answer Named → List ℕ → List ℕ
name_into (done (name bs at i)) buffer = bs ++ drop (length bs) buffer
name_into (done nameless) buffer = buffer
name_into (refused n) buffer = buffer
