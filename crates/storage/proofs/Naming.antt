-- A name into the first bytes of a lent buffer.
use mathlib.Core.Path.{◌≡◌, refl}
use mathlib.Core.Bool.{false}
use mathlib.Core.List.{List, ◌++◌}
use Prim.Native.Nat.{ℕ, ◌≤◌}
use lib.ListN.{length, take, drop, take-append-drop}
use borrow.Author.Tests.{le-leb, ne_eqb}
use Rattle.medium.specs.declared.geometry.Geometry.{Geometry}
use Rattle.medium.specs.Operation.{done, refused}
use Rattle.medium.specs.Medium.{read_at}
use Rattle.objects.specs.declared.location.ObjectLocation.{ObjectLocation}
use Rattle.objects.specs.declared.reader.ObjectReader.{ObjectReader}
use Rattle.objects.specs.Header.{payload_of}
use Rattle.objects.specs.Payload.{payload_at, read_payload}
use Rattle.objects.specs.Reader.{reader_at}
use Rattle.storage.specs.File.{put_into, count_of}
use Rattle.storage.specs.Names.{name_at}
use Rattle.objects.proofs.Reading.{read_length}

module _ (g : Geometry) (at : ObjectLocation) (img buffer : List ℕ) (r : ObjectReader) (e : reader_at g at false img ≡ done r) (n : ℕ) (m : n ≡ payload_of g.s r.object) where
  module _ (h : n ≤ length buffer) (z : n ≡ 0 → ⊥) (part : List ℕ) where
    pub name-read : read_at g r.object.location.block (payload_at g r.object) n img ≡ done part
        → (done n ≡ count_of (name_at g at (length buffer) img)) × (part ++ drop n buffer ≡ put_into (name_at g at (length buffer) img) buffer)
    unfolding name_at read_payload
    name-read q = rw (e, ← m, le-leb n (length buffer) h, ne_eqb n 0 z, q, read_length g r.object.location.block (payload_at g r.object) n img part q) (refl, refl)

    pub name_refused : {k : ℕ} → read_at g r.object.location.block (payload_at g r.object) n img ≡ refused k → part ≡ take n buffer
        → (refused k ≡ count_of (name_at g at (length buffer) img)) × (part ++ drop n buffer ≡ put_into (name_at g at (length buffer) img) buffer)
    unfolding name_at read_payload
    name_refused q p = rw (e, ← m, le-leb n (length buffer) h, ne_eqb n 0 z, q, p) (refl, take-append-drop n buffer)
