-- "Read the file as the joined payloads of its data objects in list order, from a position, into a lent buffer." "A repeated location is read
-- as written; once the buffer is full no more is opened. A position at or past the file's end reads 0 bytes."
use Rattle.std.specs.Prelude.{ℕ, zero, suc, ◌+◌, ◌-◌, min, false, List, [], ◌∷◌, ◌++◌, length, drop, leb}
use Rattle.medium.specs.declared.geometry.Geometry.{Geometry}
use Rattle.medium.specs.Granularity.{pick}
use Rattle.medium.specs.Operation.{Answer, done, refused, and_then}
use Rattle.medium.specs.Medium.{read_at}
use Rattle.objects.specs.declared.location.ObjectLocation.{ObjectLocation}
use Rattle.objects.specs.declared.header.ObjectHeader.{ObjectHeader}
use Rattle.objects.specs.declared.metadata.MetadataObjectHeader.{MetadataObjectHeader}
use Rattle.objects.specs.Header.{payload_of}
use Rattle.objects.specs.Payload.{payload_at}
use Rattle.objects.specs.Reader.{reader_at}
use Rattle.objects.specs.Metadata.{Listed, location, no_more, next_location, metadata_at}

-- ---- where the data objects are: the locations of the list, in order, and what comes behind the last

pub record Places : Type 0 where
  pub at : List ObjectLocation
  pub end : Answer (Unit {0})

abbrev pub after_place : ObjectLocation → Places → Places
after_place l p = record { at = l ∷ p.at; end = p.end }

abbrev pub places_by : Answer Listed → (MetadataObjectHeader → Places) → Places
places_by (done (location l m)) more = after_place l (more m)
places_by (done no_more) more = record { at = []; end = done tt }
places_by (refused n) more = record { at = []; end = refused n }

-- at most n of them; a block has fewer than it has bytes
unfoldable pub places_from : ℕ → Geometry → MetadataObjectHeader → List ℕ → Places
places_from zero g m img = record { at = []; end = done tt }
places_from (suc n) g m img = places_by (next_location g m img) (λ k. places_from n g k img)

abbrev pub places_of : Geometry → MetadataObjectHeader → List ℕ → Places
places_of g m img = places_from g.size g m img

-- ---- what is read

-- up to n bytes of an object's payload, from a position in it on
abbrev pub some_of : Geometry → ObjectHeader → ℕ → ℕ → List ℕ → Answer (List ℕ)
some_of g h p n img = read_at g h.location.block (payload_at g h + p) (min n (payload_of g.s h - p)) img

-- once n bytes are read, no more is asked
abbrev pub unless_full : ℕ → Answer (List ℕ) → Answer (List ℕ)
unless_full zero a = done []
unless_full (suc n) a = a

-- up to n bytes of the objects at these places, from position p on. An object that has nothing to give is opened, and not read.
unfoldable pub gather : Geometry → List ObjectLocation → Answer (Unit {0}) → ℕ → ℕ → List ℕ → Answer (List ℕ)
gather g [] e p n img = unless_full n (and_then e (λ _. done []))
gather g (l ∷ ls) e p n img =
    unless_full n
    (and_then (reader_at g l false img) (λ r.
    pick (leb (payload_of g.s r.object) p)
    (gather g ls e (p - payload_of g.s r.object) n img)
    (and_then (some_of g r.object p n img) (λ bs. and_then (gather g ls e 0 (n - length bs) img) (λ more. done (bs ++ more))))))

abbrev pub gather_at : Geometry → Places → ℕ → ℕ → List ℕ → Answer (List ℕ)
gather_at g l p n img = gather g l.at l.end p n img

-- up to n bytes of the file whose metadata object is at a place
unfoldable pub read_file : Geometry → ObjectLocation → ℕ → ℕ → List ℕ → Answer (List ℕ)
read_file g at p n img = and_then (metadata_at g at img) (λ m. gather_at g (places_of g m img) p n img)

-- the buffer afterwards: its first bytes are those read, and a refused read leaves the whole of it
abbrev pub put_into : Answer (List ℕ) → List ℕ → List ℕ
put_into (done bs) buffer = bs ++ drop (length bs) buffer
put_into (refused n) buffer = buffer

abbrev pub count_of : Answer (List ℕ) → Answer ℕ
count_of a = and_then a (λ bs. done (length bs))

-- ---- how long the file is: every data object is opened, and none is read

unfoldable pub sizes : Geometry → List ObjectLocation → Answer (Unit {0}) → List ℕ → Answer ℕ
sizes g [] e img = and_then e (λ _. done 0)
sizes g (l ∷ ls) e img = and_then (reader_at g l false img) (λ r. and_then (sizes g ls e img) (λ n. done (payload_of g.s r.object + n)))

unfoldable pub file_size : Geometry → ObjectLocation → List ℕ → Answer ℕ
file_size g at img = and_then (metadata_at g at img) (λ m. sizes g (places_of g m img).at (places_of g m img).end img)
