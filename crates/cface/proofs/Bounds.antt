-- Cursors that go out fit the 32 bits of their place: none passes the size of its object by more than a location.
use mathlib.Core.Path.{◌≡◌, refl, sym, ap}
use mathlib.Core.Bool.{Bool, true, false}
use mathlib.Core.List.{List}
use Prim.Native.Nat.{ℕ, zero, suc, ◌+◌, ◌-◌, ◌≤◌, min}
use native.Mathlib.Omega.{arith}
use lib.ListN.{length}
use lib.Dec.{leb}
use borrow.Author.Tests.{leb-true}
use Rattle.medium.specs.declared.geometry.Geometry.{Geometry}
use Rattle.medium.specs.Granularity.{pick}
use Rattle.medium.specs.Geometry.{check_of}
use Rattle.medium.specs.Operation.{Answer, done, refused, and_then, or_refuse}
use Rattle.medium.specs.Medium.{read_at}
use Rattle.medium.proofs.Checks.{Sound}
use Rattle.objects.specs.declared.location.ObjectLocation.{ObjectLocation}
use Rattle.objects.specs.declared.header.ObjectHeader.{ObjectHeader}
use Rattle.objects.specs.declared.reader.ObjectReader.{ObjectReader}
use Rattle.std.specs.Prelude.{Ok}
use Rattle.objects.specs.declared.metadata.MetadataObjectHeader.{MetadataObjectHeader}
use Rattle.objects.specs.Types.{rank_of}
use Rattle.objects.specs.Header.{header_at, payload_of, payload_size_of}
use Rattle.objects.specs.Info.{Info, found, none, info_at}
use Rattle.objects.specs.Reader.{Chunk, possible, readable, reader_at, remaining_of, left_of, cursor_at, moved, read_some, Counting, reading_answer, counting}
use Rattle.objects.specs.Metadata.{hash_at, number_at, location_at, read_metadata, metadata_of, metadata_at, list_end, listable, listed_at, past_location, Listed, location, no_more, next_listed, next_location}
use Rattle.objects.proofs.Reading.{passed, payload_le}
use Rattle.cface.specs.Objects.{SmallReader, SmallMetadata, SmallNext}

-- behind two tests that were passed stands the answer
two_gates : {A : Type 0} (m n : ℕ) (k : Answer A) (x : A) → and_then (or_refuse m) (λ _. and_then (or_refuse n) (λ _. k)) ≡ done x → k ≡ done x
two_gates zero zero k x e = e
two_gates zero (suc n) k x e = let z : ◌≡◌ {A = ℕ} 0 1 = cc in absurd (omega arith)
two_gates (suc m) n k x e = let z : ◌≡◌ {A = ℕ} 0 1 = cc in absurd (omega arith)

-- ---- readers

new_cursor : (g : Geometry) (at : ObjectLocation) (unfinished : Bool) (img : List ℕ) (r : ObjectReader) → reader_at g at unfinished img ≡ done r → r.cursor ≡ 0
unfolding reader_at
new_cursor g at unfinished img r e = go (header_at g at img) e
  where
    more : (h : ObjectHeader) (t : Bool) → pick t (done (record { object = h; cursor = 0 })) (refused 2) ≡ done r → r.cursor ≡ 0
    more h true q = let z : ◌≡◌ {A = ObjectReader} (record { object = h; cursor = 0 }) r = cc in ap (λ (x : ObjectReader). x.cursor) (sym z)
    more h false q = let z : ◌≡◌ {A = ℕ} 0 1 = cc in absurd (omega arith)

    go : (a : Answer ObjectHeader) → and_then a (λ h. pick (readable unfinished (rank_of h.state)) (done (record { object = h; cursor = 0 })) (refused 2)) ≡ done r → r.cursor ≡ 0
    go (done h) q = more h (readable unfinished (rank_of h.state)) q
    go (refused n) q = let z : ◌≡◌ {A = ℕ} 0 1 = cc in absurd (omega arith)

pub new_small : (g : Geometry) (at : ObjectLocation) (unfinished : Bool) (img : List ℕ) (a : Answer ObjectReader) → a ≡ reader_at g at unfinished img → SmallReader a
new_small g at unfinished img (done x) h = omega (arith, new_cursor g at unfinished img x (sym h))
new_small g at unfinished img (refused n) h = tt

left_fits : (s : ℕ) (r : ObjectReader) (n : ℕ) → remaining_of s r ≡ done n → r.cursor + n ≤ r.object.size
unfolding remaining_of
left_fits s r n e = go (leb r.cursor (payload_of s r.object)) refl e
  where
    go : (t : Bool) → leb r.cursor (payload_of s r.object) ≡ t → pick t (done (payload_of s r.object - r.cursor)) (refused 9) ≡ done n → r.cursor + n ≤ r.object.size
    go true q h =
        let z : payload_of s r.object - r.cursor ≡ n = cc in
        omega (arith, leb-true r.cursor (payload_of s r.object) q, payload_le s r.object)
    go false q h = let z : ◌≡◌ {A = ℕ} 0 1 = cc in absurd (omega arith)

read_small : (g : Geometry) (r : ObjectReader) (n : ℕ) (img : List ℕ) (k : Chunk) → read_some g r n img ≡ done k → k.reader.cursor ≤ r.object.size
unfolding read_some left_of
read_small g r n img k e = go (left_of g r (length img)) refl e
  where
    more : (left : ℕ) (a : Answer (List ℕ)) → r.cursor + left ≤ r.object.size
        → and_then a (λ bs. done (record { bytes = bs; reader = moved r (min n left) })) ≡ done k → k.reader.cursor ≤ r.object.size
    more left (done bs) f h =
        let z : moved r (min n left) ≡ k.reader = cc in
        omega (arith, ap (λ (x : ObjectReader). x.cursor) z)
    more left (refused m) f h = let z : ◌≡◌ {A = ℕ} 0 1 = cc in absurd (omega arith)

    go : (a : Answer ℕ) → left_of g r (length img) ≡ a
        → and_then a (λ left. and_then (read_at g r.object.location.block (cursor_at g r) (min n left) img) (λ bs. done (record { bytes = bs; reader = moved r (min n left) }))) ≡ done k
        → k.reader.cursor ≤ r.object.size
    go (done left) q h =
        more left (read_at g r.object.location.block (cursor_at g r) (min n left) img)
        (left_fits g.s r left (two_gates (check_of g (length img)) (possible r.cursor) (remaining_of g.s r) left q)) h
    go (refused m) q h = let z : ◌≡◌ {A = ℕ} 0 1 = cc in absurd (omega arith)

-- the reader that a read hands out
pub read_fits : (g : Geometry) (r : ObjectReader) (n : ℕ) (img : List ℕ) (x : ℕ × ObjectReader) → reading_answer (Ok x) ≡ and_then (read_some g r n img) counting
    → x.1.cursor ≤ r.object.size
read_fits g r n img x e = go (read_some g r n img) refl e
  where
    go : (a : Answer Chunk) → read_some g r n img ≡ a → reading_answer (Ok x) ≡ and_then a counting → x.1.cursor ≤ r.object.size
    go (done k) d h =
        let w : ◌≡◌ {A = Counting} (record { count = x.0; reader = x.1 }) (record { count = length k.bytes; reader = k.reader }) = cc in
        omega (arith, read_small g r n img k d, ap (λ (y : Counting). y.reader.cursor) w)
    go (refused k) d h = let z : ◌≡◌ {A = ℕ} 0 1 = cc in absurd (omega arith)

-- ---- metadata headers

read_cursor : (g : Geometry) (h : ObjectHeader) (img : List ℕ) (m : MetadataObjectHeader) → read_metadata g h img ≡ done m → m.cursor ≡ 0
unfolding read_metadata
read_cursor g h img m e = go (number_at g h.location.block (hash_at g h) 4 img) e
  where
    more : (hash : ℕ) (a : Answer ObjectLocation) → and_then a (λ name. done (record { object = h; hash = hash; name = name; cursor = 0 })) ≡ done m → m.cursor ≡ 0
    more hash (done name) q =
        let z : ◌≡◌ {A = MetadataObjectHeader} (record { object = h; hash = hash; name = name; cursor = 0 }) m = cc in
        ap (λ (x : MetadataObjectHeader). x.cursor) (sym z)
    more hash (refused n) q = let z : ◌≡◌ {A = ℕ} 0 1 = cc in absurd (omega arith)

    go : (a : Answer ℕ)
        → and_then a (λ hash. and_then (location_at g h.location.block (hash_at g h + 4) img) (λ name. done (record { object = h; hash = hash; name = name; cursor = 0 }))) ≡ done m
        → m.cursor ≡ 0
    go (done hash) q = more hash (location_at g h.location.block (hash_at g h + 4) img) q
    go (refused n) q = let z : ◌≡◌ {A = ℕ} 0 1 = cc in absurd (omega arith)

at_cursor : (g : Geometry) (at : ObjectLocation) (img : List ℕ) (m : MetadataObjectHeader) → metadata_at g at img ≡ done m → m.cursor ≡ 0
unfolding metadata_at
at_cursor g at img m e = go (info_at g at img) e
  where
    go : (a : Answer Info) → and_then a (metadata_of g img) ≡ done m → m.cursor ≡ 0
    go (done (found h)) q = read_cursor g h img m q
    go (done none) q = let z : ◌≡◌ {A = ℕ} 0 1 = cc in absurd (omega arith)
    go (refused n) q = let z : ◌≡◌ {A = ℕ} 0 1 = cc in absurd (omega arith)

small_metadata : (a b : Answer MetadataObjectHeader) → a ≡ b → ((m : MetadataObjectHeader) → b ≡ done m → m.cursor ≡ 0) → SmallMetadata a
small_metadata (done x) b h k = omega (arith, k x (sym h))
small_metadata (refused n) b h k = tt

pub metadata_small : (g : Geometry) (h : ObjectHeader) (img : List ℕ) (a : Answer MetadataObjectHeader) → a ≡ read_metadata g h img → SmallMetadata a
metadata_small g h img a e = small_metadata a (read_metadata g h img) e (read_cursor g h img)

pub metadata_at_small : (g : Geometry) (at : ObjectLocation) (img : List ℕ) (a : Answer MetadataObjectHeader) → a ≡ metadata_at g at img → SmallMetadata a
metadata_at_small g at img a e = small_metadata a (metadata_at g at img) e (at_cursor g at img)

-- the metadata header behind a location
past_fits : (g : Geometry) (m : MetadataObjectHeader) (img : List ℕ) {l : ObjectLocation} {next : MetadataObjectHeader} → next_location g m img ≡ done (location l next)
    → next.cursor ≤ 65542
unfolding next_location listable
past_fits g m img {l} {next} e = go (listable g m (length img)) refl e
  where
    named : (a : Answer ObjectLocation) → m.cursor ≤ 65536 → Sound g → and_then a (λ x. done (location x (past_location g m))) ≡ done (location l next) → next.cursor ≤ 65542
    named (done x) f v h =
        let z : next ≡ past_location g m = cc in
        omega (arith, v.s_most, v.c_most, ap (λ (x : MetadataObjectHeader). x.cursor) z)
    named (refused n) f v h = let z : ◌≡◌ {A = ℕ} 0 1 = cc in absurd (omega arith)

    more : (end : ℕ) (t : Bool) → m.cursor ≤ 65536 → Sound g
        → pick t (done no_more) (next_listed g m img) ≡ done (location l next) → next.cursor ≤ 65542
    more end true f v h = let z : ◌≡◌ {A = ℕ} 0 1 = cc in absurd (omega arith)
    more end false f v h = named (location_at g m.object.location.block (listed_at g m) img) f v h

    go : (a : Answer ℕ) → listable g m (length img) ≡ a → and_then a (λ e. pick (leb e m.cursor) (done no_more) (next_listed g m img)) ≡ done (location l next) → next.cursor ≤ 65542
    go (done end) q h =
        let p = passed g (length img) m.cursor (list_end g (payload_size_of g.s m.object)) end q in
        more end (leb end m.cursor) p.0.cursor_small p.0.fine.sound h
    go (refused n) q h = let z : ◌≡◌ {A = ℕ} 0 1 = cc in absurd (omega arith)

pub next_small : (g : Geometry) (m : MetadataObjectHeader) (img : List ℕ) (a : Answer Listed) → a ≡ next_location g m img → SmallNext a
next_small g m img (done (location l next)) h = omega (arith, past_fits g m img (sym h))
next_small g m img (done no_more) h = tt
next_small g m img (refused n) h = tt
