-- A read, an object at a time: the locations of the list, what an object gives, and what is left to read.
use mathlib.Core.Path.{◌≡◌, refl, sym, ap, ap₂, ◌∙◌, subst}
use mathlib.Core.Bool.{Bool, true, false}
use mathlib.Core.List.{List, [], ◌∷◌, ◌++◌, append_assoc}
use Prim.Native.Nat.{ℕ, zero, suc, ◌+◌, ◌-◌, ◌*◌, ◌≤◌, ◌<◌, min}
use native.Mathlib.Omega.{arith}
use lib.ListN.{length, take, drop, length-append, length-drop, take-append-drop}
use lib.Seq.{length-take-le, drop-drop, take_at, drop_at}
use lib.Dec.{leb, eqb}
use Rattle.std.specs.Prelude.{Some, Ok}
use borrow.Author.Tests.{eqb-true, le-leb, lt-leb}
use Rattle.medium.specs.declared.geometry.Geometry.{Geometry}
use Rattle.medium.specs.Granularity.{pick, size_at}
use Rattle.medium.specs.Geometry.{check_of, address}
use Rattle.medium.specs.Operation.{Answer, done, refused, and_then}
use Rattle.medium.specs.Medium.{part, readable, read_at, lent}
use Rattle.objects.specs.declared.location.ObjectLocation.{ObjectLocation}
use Rattle.objects.specs.declared.header.ObjectHeader.{ObjectHeader}
use Rattle.objects.specs.declared.reader.ObjectReader.{ObjectReader}
use Rattle.objects.specs.declared.metadata.MetadataObjectHeader.{MetadataObjectHeader}
use Rattle.objects.specs.Types.{rank_of, state_in}
use Rattle.objects.specs.Header.{state_at, sized_at, header_at, payload_of, payload_size_of}
use Rattle.objects.specs.Info.{Info, found, none, info_at}
use Rattle.objects.specs.Location.{location_length, location_in}
use Rattle.objects.specs.Payload.{payload_at}
use Rattle.objects.specs.Reader.{reader_at}
use Rattle.objects.specs.Metadata.{Listed, location, no_more, hash_at, number_at, read_metadata, metadata_of, metadata_at, location_at, listed_at, list_end, listable, past_location, next_listed, next_location}
use Rattle.storage.specs.declared.file.Piece.{Piece}
use Rattle.storage.specs.File.{Places, after_place, places_by, places_from, places_of, some_of, unless_full, gather, gather_at, put_into, count_of, sizes}
use Rattle.storage.specs.Pieces.{piece_bytes, bytes_then, FitsAt, Fits, IsDone}
use Rattle.medium.proofs.Ranges.{Reached, reached, readable_within, read_part}
use Rattle.medium.proofs.Checks.{Fine, fine_of_check}
use Rattle.objects.proofs.Reading.{Passed, passed, read_length, fine_of_number}
use Rattle.shown.specs.Whole.{reader_of}
use Rattle.shown.proofs.Reading.{and_back, Told, header_back}

-- a range that was read could be reached
pub read_reached : (g : Geometry) (b o n : ℕ) (img bs : List ℕ) → read_at g b o n img ≡ done bs → Reached g (length img) b o n
unfolding read_at
read_reached g b o n img bs e = go (eqb (readable g (length img) b o n) 0) refl e
  where
    go : (t : Bool) → eqb (readable g (length img) b o n) 0 ≡ t → pick t (done (part (address g b o) n img)) (refused (readable g (length img) b o n)) ≡ done bs → Reached g (length img) b o n
    go true q r = reached g (length img) b o n (readable g (length img) b o n) refl (eqb-true _ _ q)
    go false q r = let z : ◌≡◌ {A = ℕ} 0 1 = cc in absurd (omega arith)

-- ---- the locations of the list

-- a location that was given lies in its block, so the cursor is small, and it goes on
pub record Step (g : Geometry) (m k : MetadataObjectHeader) (img : List ℕ) : Type 0 where
  pub checked : check_of g (length img) ≡ 0
  pub small : m.cursor < g.size
  pub forward : m.cursor + 2 ≤ k.cursor
  pub short : k.cursor ≤ m.cursor + 6

pub step_of : (g : Geometry) (m : MetadataObjectHeader) (img : List ℕ) (l : ObjectLocation) (k : MetadataObjectHeader) → next_location g m img ≡ done (location l k) → Step g m k img
unfolding next_location listable location_at
step_of g m img l k e =
    let x = and_back (listable g m (length img)) (λ n. pick (leb n m.cursor) (done no_more) (next_listed g m img)) (location l k) e in
    let p : Passed g (length img) m.cursor = (passed g (length img) m.cursor (list_end g (payload_size_of g.s m.object)) x.value x.first).0 in
    go (leb x.value m.cursor) x.second p
  where
    last : past_location g m ≡ k → (bs : List ℕ) → read_at g m.object.location.block (listed_at g m) (location_length g) img ≡ done bs → Passed g (length img) m.cursor → Step g m k img
    last q bs r p =
        let w : Reached g (length img) m.object.location.block (listed_at g m) (location_length g) = read_reached g m.object.location.block (listed_at g m) (location_length g) img bs r in
        let c : m.cursor + location_length g ≡ k.cursor = ap (λ (y : MetadataObjectHeader). y.cursor) q in
        record {
          checked = w.checked;
          small = omega (arith, w.inside);
          forward = omega (arith, w.fine.sound.s_least, w.fine.sound.c_least);
          short = omega (arith, w.fine.sound.s_most, w.fine.sound.c_most);
        }

    go : (b : Bool) → pick b (done no_more) (next_listed g m img) ≡ done (location l k) → Passed g (length img) m.cursor → Step g m k img
    go true q p = let z : ◌≡◌ {A = ℕ} 0 1 = cc in absurd (omega arith)
    go false q p =
        let y = and_back (location_at g m.object.location.block (listed_at g m) img) (λ a. done (location a (past_location g m))) (location l k) q in
        let z = and_back (read_at g m.object.location.block (listed_at g m) (location_length g) img) (λ bs. done (location_in g bs)) y.value y.first in
        let w : location y.value (past_location g m) ≡ location l k = cc in
        let v : past_location g m ≡ k = cc in
        last v z.value z.first p

pub step_small : (g : Geometry) (m k : MetadataObjectHeader) (img : List ℕ) → Step g m k img → g.size ≤ 65536
step_small g m k img s = (fine_of_check g (length img) (check_of g (length img)) refl s.checked).sound.small

-- and what an object gives at the first of its locations leaves the list behind it
pub fits_on : (g : Geometry) (img : List ℕ) (m rest : MetadataObjectHeader) (n : ℕ) (p : Piece) (l : ObjectLocation) → next_location g m img ≡ done (location l rest) → FitsAt g img n (Ok p) → Fits g img m n (Ok (Some (p, rest)))
fits_on g img m rest n p l e f = let s : Step g m rest img = step_of g m img l rest e in (f.0, f.1, omega (arith, s.forward), s.small)

-- more fuel than is needed changes nothing
places_enough : (m n : ℕ) (g : Geometry) (x : MetadataObjectHeader) (img : List ℕ) → 1 ≤ m → g.size + 2 ≤ x.cursor + 2 * m → 1 ≤ n → g.size + 2 ≤ x.cursor + 2 * n
    → places_from m g x img ≡ places_from n g x img
unfolding places_from
places_enough zero n g x img pm hm pn hn = absurd (omega arith)
places_enough (suc m) zero g x img pm hm pn hn = absurd (omega arith)
places_enough (suc m) (suc n) g x img pm hm pn hn = go (next_location g x img) refl (λ k a b c d. places_enough m n g k img a b c d)
  where
    go : (y : Answer Listed) → next_location g x img ≡ y
        → ((k : MetadataObjectHeader) → 1 ≤ m → g.size + 2 ≤ k.cursor + 2 * m → 1 ≤ n → g.size + 2 ≤ k.cursor + 2 * n → places_from m g k img ≡ places_from n g k img)
        → places_by y (λ k. places_from m g k img) ≡ places_by y (λ k. places_from n g k img)
    go (done (location l k)) e more =
        let s : Step g x k img = step_of g x img l k e in
        ap (after_place l) (more k (omega (arith, s.small)) (omega (arith, s.forward)) (omega (arith, s.small)) (omega (arith, s.forward)))
    go (done no_more) e more = refl
    go (refused k) e more = refl

-- what the test tells of the read
pub count_done : (n : ℕ) (a : Answer (List ℕ)) → done n ≡ count_of a → IsDone a
count_done n (done bs) e = tt
count_done n (refused m) e = let z : ◌≡◌ {A = ℕ} 0 1 = cc in absurd (omega arith)

pub count_refused : (k : ℕ) (a : Answer (List ℕ)) (buffer : List ℕ) → refused k ≡ count_of a → buffer ≡ put_into a buffer
count_refused k (done bs) buffer e = let z : ◌≡◌ {A = ℕ} 0 1 = cc in absurd (omega arith)
count_refused k (refused m) buffer e = refl

module _ (g : Geometry) (img : List ℕ) where
  -- so a list with the block size as its fuel is its first location and a list with the same fuel
  pub places_by_lem : (x : MetadataObjectHeader) (y : Answer Listed) → y ≡ next_location g x img → 2 ≤ g.size → places_of g x img ≡ places_by y (λ k. places_of g k img)
  unfolding places_from
  places_by_lem x y e h = go g.size refl h
    where
      go : (n : ℕ) → g.size ≡ n → 2 ≤ n → places_from n g x img ≡ places_by y (λ k. places_from n g k img)
      go zero q p = absurd (omega arith)
      go (suc n) q p = places_enough (suc n) (suc (suc n)) g x img (omega arith) (omega arith) (omega arith) (omega arith) ∙ rw (← e)

  -- ---- what was opened

  -- a metadata object that was read: the geometry is sound
  pub metadata_fine : (at : ObjectLocation) (m : MetadataObjectHeader) → metadata_at g at img ≡ done m → Fine g (length img)
  unfolding metadata_at read_metadata
  metadata_fine at m e = go (info_at g at img) e
    where
      go : (x : Answer Info) → and_then x (metadata_of g img) ≡ done m → Fine g (length img)
      go (done (found h)) q =
          let y = and_back (number_at g h.location.block (hash_at g h) 4 img) _ m q in
          fine_of_number g h.location.block (hash_at g h) 4 img y.value y.first
      go (done none) q = let z : ◌≡◌ {A = ℕ} 0 1 = cc in absurd (omega arith)
      go (refused n) q = let z : ◌≡◌ {A = ℕ} 0 1 = cc in absurd (omega arith)

  pub metadata_big : (at : ObjectLocation) (m : MetadataObjectHeader) → done m ≡ metadata_at g at img → 2 ≤ g.size
  metadata_big at m e = omega (arith, (metadata_fine at m (sym e)).sound.least)

  header_check : (at : ObjectLocation) (h : ObjectHeader) → header_at g at img ≡ done h → check_of g (length img) ≡ 0
  unfolding header_at state_at
  header_check at h q =
      let x = and_back (state_at g at img) (λ st. sized_at g at st img) h q in
      let y = and_back (read_at g at.block at.offset (size_at g.granularity) img) (λ bs. state_in g.granularity bs) x.value x.first in
      (read_reached g at.block at.offset (size_at g.granularity) img y.value y.first).checked

  -- an object that was opened stands in a block that there is, so no bytes of it can be read
  pub opened_none : (at : ObjectLocation) (r : ObjectReader) → reader_at g at false img ≡ done r → read_at g r.object.location.block 0 0 img ≡ done []
  unfolding reader_at
  opened_none at r e =
      let x = and_back (header_at g at img) (λ h. pick (Rattle.objects.specs.Reader.readable false (rank_of h.state)) (done (reader_of h 0)) (refused 2)) r e in
      let t : Told g at img x.value = header_back g at img x.value x.first in
      let o : r.object ≡ x.value = go (Rattle.objects.specs.Reader.readable false (rank_of x.value.state)) x.value x.second in
      let b : r.object.location.block < g.count = rw (o, t.located) t.block in
      let c : check_of g (length img) ≡ 0 = header_check at x.value x.first in
      read_part g r.object.location.block 0 0 img _ refl (readable_within g (length img) r.object.location.block 0 0 c b (omega arith))
    where
      go : (b : Bool) (h : ObjectHeader) → pick b (done (reader_of h 0)) (refused 2) ≡ done r → r.object ≡ h
      go true h q = let z : reader_of h 0 ≡ r = cc in ap (λ (y : ObjectReader). y.object) (sym z)
      go false h q = let z : ◌≡◌ {A = ℕ} 0 1 = cc in absurd (omega arith)

  -- ---- what an object gives

  some_left : (n : ℕ) (a : Answer (List ℕ)) → 0 < n → unless_full n a ≡ a
  some_left zero a h = absurd (omega arith)
  some_left (suc n) a h = refl

  -- once all is read, nothing is asked
  pub gather_full : (l : Places) (p : ℕ) → gather_at g l p 0 img ≡ done []
  unfolding gather
  gather_full l p = go l.at
    where
      go : (ls : List ObjectLocation) → gather g ls l.end p 0 img ≡ done []
      go [] = refl
      go (a ∷ ls) = refl

  pub gather_end : (l : Places) (p n : ℕ) → 0 < n → l.at ≡ [] → gather_at g l p n img ≡ and_then l.end (λ _. done [])
  unfolding gather
  gather_end l p n h e = rw e (some_left n (and_then l.end (λ _. done [])) h)

  same_then : (a : Answer (List ℕ)) → a ≡ and_then a (λ x. done x)
  same_then (done x) = refl
  same_then (refused n) = refl

  module _ (at : ObjectLocation) (rest : Places) (p n : ℕ) (some : 0 < n) where
    pub piece-stop : (k : ℕ) → reader_at g at false img ≡ refused k → gather_at g (after_place at rest) p n img ≡ refused k
    unfolding gather
    piece-stop k e = some_left n _ some ∙ rw e

    module _ (r : ObjectReader) (e : reader_at g at false img ≡ done r) where
      pub piece-skip : payload_of g.s r.object ≤ p → gather_at g (after_place at rest) p n img ≡ gather_at g rest (p - payload_of g.s r.object) n img
      unfolding gather
      piece-skip h = some_left n _ some ∙ rw (e, le-leb (payload_of g.s r.object) p h)

      pub piece-none : payload_of g.s r.object ≤ p
          → and_then (gather_at g rest (p - payload_of g.s r.object) (n - 0) img) (λ more. done ([] ++ more)) ≡ gather_at g (after_place at rest) p n img
      piece-none h = let z : n - 0 ≡ n = omega arith in rw z (sym (piece-skip h ∙ same_then (gather_at g rest (p - payload_of g.s r.object) n img)))

      pub piece-gives : p < payload_of g.s r.object
          → gather_at g (after_place at rest) p n img ≡ and_then (some_of g r.object p n img) (λ bs. and_then (gather_at g rest 0 (n - length bs) img) (λ more. done (bs ++ more)))
      unfolding gather
      piece-gives h = some_left n _ some ∙ rw (e, lt-leb (payload_of g.s r.object) p h)

      module _ (len : ℕ) (l : len ≡ min n (payload_of g.s r.object - p)) (h : p < payload_of g.s r.object) where
        pub piece-refused : (k : ℕ) → read_at g r.object.location.block (payload_at g r.object + p) len img ≡ refused k → gather_at g (after_place at rest) p n img ≡ refused k
        piece-refused k q = piece-gives h ∙ rw (← l, q)

        pub piece-some : (bs : List ℕ) → read_at g r.object.location.block (payload_at g r.object + p) len img ≡ done bs
            → and_then (gather_at g rest 0 (n - len) img) (λ more. done (bs ++ more)) ≡ gather_at g (after_place at rest) p n img
        piece-some bs q = sym (piece-gives h ∙ rw (← l, q, read_length g r.object.location.block (payload_at g r.object + p) len img bs q))

  -- ---- a piece, and the rest of n bytes

  -- what is counted so far, and the rest
  abbrev pub counting : ℕ → Answer (List ℕ) → Answer ℕ
  counting k a = and_then a (λ bs. done (k + length bs))

  pub count_more : (k n : ℕ) (p : Piece) (a : Answer (List ℕ)) → length (piece_bytes g p img) ≡ p.len → counting k (and_then a (λ more. done (piece_bytes g p img ++ more))) ≡ counting (k + p.len) a
  count_more k n p (done bs) e = let q : k + length (piece_bytes g p img ++ bs) ≡ k + p.len + length bs = omega (arith, length-append (piece_bytes g p img) bs) in ap done q
  count_more k n p (refused m) e = refl

  -- what is filled so far, and the rest
  abbrev pub filling : ℕ → List ℕ → Answer (List ℕ) → List ℕ
  filling k buffer a = take k buffer ++ put_into a (drop k buffer)

  pub fill_more : (k e : ℕ) (buffer bs : List ℕ) (a : Answer (List ℕ)) → k + length bs ≡ e → e ≤ length buffer → IsDone a
      → filling k buffer (and_then a (λ more. done (bs ++ more))) ≡ filling e (take k buffer ++ (bs ++ drop e buffer)) a
  fill_more k e buffer bs (done more) q h d =
      let kl : k ≤ length buffer = omega arith in
      let t : length (take k buffer) ≡ k = length-take-le k buffer kl in
      let j : length (take k buffer ++ bs) ≡ e = omega (arith, length-append (take k buffer) bs) in
      let w : take k buffer ++ (bs ++ drop e buffer) ≡ (take k buffer ++ bs) ++ drop e buffer = sym (append_assoc (take k buffer) bs (drop e buffer)) in
      let u : length (bs ++ more) ≡ length bs + length more = length-append bs more in
      let v : drop (length (bs ++ more)) (drop k buffer) ≡ drop (length more) (drop e buffer) = ap (λ (x : ℕ). drop x (drop k buffer)) u ∙ drop-drop (length bs + length more) k buffer ∙ split (omega arith) ∙ sym (drop-drop (length more) e buffer) in
      ap (λ (x : List ℕ). take k buffer ++ ((bs ++ more) ++ x)) v
      ∙ ap (λ (x : List ℕ). take k buffer ++ x) (append_assoc bs more (drop (length more) (drop e buffer)))
      ∙ sym (append_assoc (take k buffer) bs (more ++ drop (length more) (drop e buffer)))
      ∙ ap₂ (λ (x y : List ℕ). x ++ (more ++ drop (length more) y)) (sym (ap (take e) w ∙ take_at (take k buffer ++ bs) (drop e buffer) e j)) (sym (ap (drop e) w ∙ drop_at (take k buffer ++ bs) (drop e buffer) e j))
    where
      split : k + (length bs + length more) ≡ e + length more → drop (k + (length bs + length more)) buffer ≡ drop (e + length more) buffer
      split x = ap (λ (y : ℕ). drop y buffer) x
  fill_more k e buffer bs (refused n) q h d = absurd d

  pub rest_done : (bs : List ℕ) (a : Answer (List ℕ)) → IsDone (and_then a (λ more. done (bs ++ more))) → IsDone a
  rest_done bs (done more) d = tt
  rest_done bs (refused n) d = d

  -- ---- a test pass, and a pass that copies

  module _ (k n : ℕ) (p : Piece) (m : MetadataObjectHeader) (a : Answer (List ℕ)) (e : bytes_then g img (n - k) (places_of g m img) p ≡ a)
      (f : read_at g p.block p.at p.len img ≡ done (piece_bytes g p img)) where
    bytes-long : length (piece_bytes g p img) ≡ p.len
    bytes-long = read_length g p.block p.at p.len img (piece_bytes g p img) f

    fewer : n - k - p.len ≡ n - (k + p.len)
    fewer = omega arith

    pub measure-more : counting k a ≡ counting (k + p.len) (gather_at g (places_of g m img) p.skip (n - (k + p.len)) img)
    measure-more =
        ap (counting k) (sym e) ∙ count_more k n p (gather_at g (places_of g m img) p.skip (n - k - p.len) img) bytes-long
        ∙ ap (λ (x : ℕ). counting (k + p.len) (gather_at g (places_of g m img) p.skip x img)) fewer

    pub copy_done : IsDone a → IsDone (gather_at g (places_of g m img) p.skip (n - (k + p.len)) img)
    copy_done d = subst (λ (x : ℕ). IsDone (gather_at g (places_of g m img) p.skip x img)) fewer (rest_done (piece_bytes g p img) (gather_at g (places_of g m img) p.skip (n - k - p.len) img) (subst IsDone (sym e) d))

    pub copy_more : (buffer : List ℕ) → k + p.len ≤ length buffer → IsDone a
        → filling k buffer a ≡ filling (k + p.len) (take k buffer ++ (piece_bytes g p img ++ drop (k + p.len) buffer)) (gather_at g (places_of g m img) p.skip (n - (k + p.len)) img)
    copy_more buffer h d =
        let b : length (piece_bytes g p img) ≡ p.len = bytes-long in
        ap (filling k buffer) (sym e)
        ∙ fill_more k (k + p.len) buffer (piece_bytes g p img) (gather_at g (places_of g m img) p.skip (n - k - p.len) img) (omega arith) h (rest_done (piece_bytes g p img) (gather_at g (places_of g m img) p.skip (n - k - p.len) img) (subst IsDone (sym e) d))
        ∙ ap (λ (x : ℕ). filling (k + p.len) (take k buffer ++ (piece_bytes g p img ++ drop (k + p.len) buffer)) (gather_at g (places_of g m img) p.skip x img)) fewer

  -- there is as much room in the middle of the buffer as bytes are lent
  pub room_for : (k : ℕ) (p : Piece) (buffer : List ℕ) → read_at g p.block p.at p.len img ≡ done (piece_bytes g p img) → k + p.len ≤ length buffer
      → length (take (k + p.len - k) (drop k buffer)) ≡ length (lent (read_at g p.block p.at p.len img))
  room_for k p buffer f h =
      let z : k + p.len - k ≡ p.len = omega arith in
      let d : p.len ≤ length (drop k buffer) = omega (arith, length-drop k buffer) in
      ap (λ (x : ℕ). length (take x (drop k buffer))) z ∙ length-take-le p.len (drop k buffer) d
      ∙ sym (ap (λ (x : Answer (List ℕ)). length (lent x)) f ∙ read_length g p.block p.at p.len img (piece_bytes g p img) f)

  -- what a read left in the middle of the buffer, and what the next turn finds
  module _ (k : ℕ) (p : Piece) (m : MetadataObjectHeader) (a : Answer (List ℕ)) (buffer : List ℕ) (e : bytes_then g img (length buffer - k) (places_of g m img) p ≡ a)
      (f : read_at g p.block p.at p.len img ≡ done (piece_bytes g p img)) (h : k + p.len ≤ length buffer) where
    pub copied : (ys : List ℕ) → ys ≡ lent (read_at g p.block p.at p.len img) → IsDone a
        → (k + p.len ≤ length (take k buffer ++ (ys ++ drop (k + p.len - k) (drop k buffer))))
        × (length (take k buffer ++ (ys ++ drop (k + p.len - k) (drop k buffer))) ≡ length buffer)
        × IsDone (gather_at g (places_of g m img) p.skip (length (take k buffer ++ (ys ++ drop (k + p.len - k) (drop k buffer))) - (k + p.len)) img)
        × (filling k buffer a
        ≡ filling (k + p.len) (take k buffer ++ (ys ++ drop (k + p.len - k) (drop k buffer))) (gather_at g (places_of g m img) p.skip (length (take k buffer ++ (ys ++ drop (k + p.len - k) (drop k buffer))) - (k + p.len)) img))
    copied ys q d =
        let z : k + (k + p.len - k) ≡ k + p.len = omega arith in
        let bs : length (piece_bytes g p img) ≡ p.len = bytes-long k (length buffer) p m a e f in
        let w : take k buffer ++ (ys ++ drop (k + p.len - k) (drop k buffer)) ≡ take k buffer ++ (piece_bytes g p img ++ drop (k + p.len) buffer) =
        ap₂ (λ (x y : List ℕ). take k buffer ++ (x ++ y)) (q ∙ ap lent f) (drop-drop (k + p.len - k) k buffer ∙ ap (λ (x : ℕ). drop x buffer) z) in
        let l : length (take k buffer ++ (piece_bytes g p img ++ drop (k + p.len) buffer)) ≡ length buffer =
        length-append (take k buffer) (piece_bytes g p img ++ drop (k + p.len) buffer) ∙ ap₂ (λ (x y : ℕ). x + y) (length-take-le k buffer (omega arith)) (length-append (piece_bytes g p img) (drop (k + p.len) buffer) ∙ ap₂ (λ (x y : ℕ). x + y) bs (length-drop (k + p.len) buffer)) ∙ whole in
        rw w (omega (arith, l), l, rw l (copy_done k (length buffer) p m a e f d), rw l (copy_more k (length buffer) p m a e f buffer h d))
      where
        whole : k + (p.len + (length buffer - (k + p.len))) ≡ length buffer
        whole = omega arith

  -- nothing more comes
  pub fill_none : (k : ℕ) (buffer : List ℕ) (a : Answer (List ℕ)) → a ≡ done [] → filling k buffer a ≡ buffer
  fill_none k buffer a e = rw e (take-append-drop k buffer)

  pub fill_full : (k : ℕ) (buffer : List ℕ) (l : Places) (p : ℕ) → length buffer ≤ k → filling k buffer (gather_at g l p (length buffer - k) img) ≡ buffer
  fill_full k buffer l p h = let z : length buffer - k ≡ 0 = omega arith in fill_none k buffer (gather_at g l p (length buffer - k) img) (ap (λ (x : ℕ). gather_at g l p x img) z ∙ gather_full l p)

  pub measure_full : (k n : ℕ) (l : Places) (p : ℕ) → n ≤ k → counting k (gather_at g l p (n - k) img) ≡ done k
  measure_full k n l p h = let z : n - k ≡ 0 = omega arith in let y : k + 0 ≡ k = omega arith in rw (z, gather_full l p, y)

  -- ---- the length of a file

  abbrev pub size_from : MetadataObjectHeader → Answer ℕ
  size_from m = sizes g (places_of g m img).at (places_of g m img).end img

  abbrev pub adding : ℕ → Answer ℕ → Answer ℕ
  adding k a = and_then a (λ n. done (k + n))

  module _ (m : MetadataObjectHeader) (big : 2 ≤ g.size) where
    pub size-refused : (k : ℕ) → refused k ≡ next_location g m img → size_from m ≡ refused k
    unfolding sizes
    size-refused k e = rw (places_by_lem m (refused k) e big)

    pub size-end : done no_more ≡ next_location g m img → size_from m ≡ done 0
    unfolding sizes
    size-end e = rw (places_by_lem m (done no_more) e big)

    module _ (l : ObjectLocation) (k : MetadataObjectHeader) (e : done (location l k) ≡ next_location g m img) where
      pub size-stop : (n : ℕ) → refused n ≡ reader_at g l false img → size_from m ≡ refused n
      unfolding sizes
      size-stop n q = rw (places_by_lem m (done (location l k)) e big, ← q)

      pub size-more : (t : ℕ) (r : ObjectReader) → done r ≡ reader_at g l false img → adding t (size_from m) ≡ adding (t + payload_of g.s r.object) (size_from k)
      unfolding sizes
      size-more t r q = rw (places_by_lem m (done (location l k)) e big, ← q) (go (size_from k))
        where
          go : (a : Answer ℕ) → adding t (and_then a (λ n. done (payload_of g.s r.object + n))) ≡ adding (t + payload_of g.s r.object) a
          go (done n) = let z : t + (payload_of g.s r.object + n) ≡ t + payload_of g.s r.object + n = omega arith in ap done z
          go (refused n) = refl
