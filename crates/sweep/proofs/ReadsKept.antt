-- What metadata and files read as is decided by the bytes of their objects: where those are kept, all reads as before.
use mathlib.Core.Path.{◌≡◌, refl, sym, ap, ap₂, ◌∙◌, subst}
use mathlib.Core.Bool.{Bool, true, false, ◌&&◌, false≢true}
use mathlib.Core.List.{List, [], ◌∷◌, ◌++◌}
use Prim.Native.Nat.{ℕ, zero, suc, ◌+◌, ◌-◌, ◌*◌, ◌/◌, ◌%◌, ◌≤◌, ◌<◌, min}
use native.Mathlib.Nat.{suc-mul, mul-one, mul-le-mul_left, mod-add-div'}
use native.Mathlib.Omega.{arith}
use lib.ListN.{length, take, drop, length-drop}
use lib.Dec.{leb, eqb}
use borrow.Author.Tests.{eqb-true, leb-true, leb-false, le-leb, lt-leb}
use Rattle.medium.specs.declared.geometry.Geometry.{Geometry}
use Rattle.medium.specs.Granularity.{pick, size_at, header}
use Rattle.medium.specs.Geometry.{check_of}
use Rattle.medium.specs.Operation.{Answer, done, refused, and_then}
use Rattle.medium.specs.Medium.{part, read_at, lent}
use Rattle.objects.specs.declared.location.ObjectLocation.{ObjectLocation}
use Rattle.objects.specs.declared.header.ObjectHeader.{ObjectHeader}
use Rattle.std.specs.Prelude.{Option, Some, None}
use Rattle.objects.specs.declared.metadata.MetadataObjectHeader.{MetadataObjectHeader}
use Rattle.objects.specs.Numbers.{number, unset_of}
use Rattle.objects.specs.Header.{state_at, sized_at, header_at, payload_of, payload_size_of}
use Rattle.objects.specs.Info.{Info, found, info_in, info_at, span_of}
use Rattle.objects.specs.Location.{location_length, location_in}
use Rattle.objects.specs.Payload.{payload_at, payload_readable, read_payload, equal}
use Rattle.objects.specs.Reader.{reader_at}
use Rattle.objects.specs.Metadata.{Listed, location, no_more, metadata_header, hash_at, number_at, location_at, read_metadata, metadata_of, metadata_at, listable, listed_at, next_location}
use Rattle.storage.specs.Order.{is_finished}
use Rattle.storage.specs.Lookup.{same_from, is_name, is_named}
use Rattle.storage.specs.File.{Places, after_place, places_by, places_from, places_of, some_of, unless_full, gather, read_file, sizes, file_size}
use Rattle.storage.specs.Laws.{All}
use Rattle.medium.proofs.Checks.{fine_of_check}
use Rattle.medium.proofs.Places.{laid}
use Rattle.medium.proofs.Ranges.{readable_within}
use Rattle.objects.proofs.Payloads.{payload_lent}
use Rattle.objects.proofs.Reading.{read_length}
use Rattle.shown.specs.Whole.{reader_of}
use Rattle.shown.proofs.Agreeing.{short_size}
use Rattle.shown.proofs.Reading.{Got, read_back, header_back}
use Rattle.shown.proofs.Walk.{span_least}
use Rattle.storage.proofs.Ranges.{halves}
use Rattle.sweep.specs.Referring.{locations_of, is_whole}
use Rattle.sweep.proofs.Kept.{Kept, range_kept, payload_kept}

-- ---- a metadata object by its payload: all that it tells is read off these bytes

-- they are a hash, a name location and k further locations
pub record Filled (g : Geometry) (h : ObjectHeader) (img bs : List ℕ) (k : ℕ) : Type 0 where
  pub fine : check_of g (length img) ≡ 0
  pub reads : read_payload g h img ≡ done bs
  pub long : length bs ≡ metadata_header g + k * location_length g

abbrev pub hash_in : List ℕ → ℕ
hash_in bs = number (part 0 4 bs)

abbrev pub name_in : Geometry → List ℕ → ObjectLocation
name_in g bs = location_in g (part 4 (location_length g) bs)

-- k locations, from the c-th byte behind that of the name on
abbrev pub further_in : Geometry → List ℕ → ℕ → ℕ → List ObjectLocation
further_in g bs c zero = []
further_in g bs c (suc k) = location_in g (part (metadata_header g + c) (location_length g) bs) ∷ further_in g bs (c + location_length g) k

-- the metadata that they make, with the cursor c bytes behind the name location
abbrev pub metadata_by : Geometry → ObjectHeader → List ℕ → ℕ → MetadataObjectHeader
metadata_by g h bs c = record { object = h; hash = hash_in bs; name = name_in g bs; cursor = c }

module _ (g : Geometry) (h : ObjectHeader) (img bs : List ℕ) (k : ℕ) (f : Filled g h img bs k) where
  pub as_long : payload_of g.s h ≡ length bs
  unfolding read_payload
  as_long = sym (read_length g h.location.block (payload_at g h) (payload_of g.s h) img bs f.reads)

  got : Got g h.location.block (payload_at g h) (payload_of g.s h) img bs
  unfolding read_payload
  got = read_back g h.location.block (payload_at g h) (payload_of g.s h) img bs f.reads

  -- the payload lies in its block
  pub in_reach : payload_readable g h (length img) ≡ 0
  unfolding payload_readable
  in_reach = readable_within g (length img) h.location.block (payload_at g h) (payload_of g.s h) f.fine got.block got.fits

  small : length bs ≤ g.size
  small = omega (arith, as_long, got.fits)

  -- n bytes of it
  part_read : (x n : ℕ) → x + n ≤ length bs → read_at g h.location.block (payload_at g h + x) n img ≡ done (part x n bs)
  unfolding read_payload
  part_read x n l =
      let e : payload_of g.s h ≡ x + (n + (length bs - (x + n))) = omega (arith, as_long) in
      let a : read_at g h.location.block (payload_at g h) (x + (n + (length bs - (x + n)))) img ≡ done bs = ap (λ (y : ℕ). read_at g h.location.block (payload_at g h) y img) (sym e) ∙ f.reads in
      (halves g h.location.block (payload_at g h + x) n (length bs - (x + n)) img (drop x bs)
      (halves g h.location.block (payload_at g h) x (n + (length bs - (x + n))) img bs a).second).first

  pub metadata_of_lem : read_metadata g h img ≡ done (metadata_by g h bs 0)
  unfolding read_metadata number_at location_at
  metadata_of_lem =
      let z : hash_at g h ≡ payload_at g h + 0 = omega arith in
      rw (ap (λ (x : ℕ). read_at g h.location.block x 4 img) z ∙ part_read 0 4 (omega (arith, f.long)), part_read 4 (location_length g) (omega (arith, f.long)))

  -- ---- the list of further locations

  sized : payload_size_of g.s h ≡ Some (length bs)
  unfolding payload_size_of payload_of
  sized = go (eqb h.size (unset_of g.s)) as_long
    where
      go : (b : Bool) → pick b 0 h.size ≡ length bs → ◌≡◌ {A = Option ℕ} (pick b None (Some h.size)) (Some (length bs))
      go true e = absurd (omega (arith, f.long))
      go false e = ap Some e

  listable_at : (c : ℕ) → metadata_header g + c ≤ length bs → listable g (metadata_by g h bs c) (length img) ≡ done (length bs - metadata_header g)
  unfolding listable
  listable_at c l =
      let s : g.size ≤ 65536 = (fine_of_check g (length img) (check_of g (length img)) refl f.fine).sound.small in
      rw (f.fine, le-leb c 65536 (omega (arith, small)), sized, le-leb (metadata_header g) (length bs) (omega arith))

  next_end : (c : ℕ) → length bs ≡ metadata_header g + c → next_location g (metadata_by g h bs c) img ≡ done no_more
  unfolding next_location
  next_end c e = rw (listable_at c (omega arith), le-leb (length bs - metadata_header g) c (omega arith))

  next_on : (c : ℕ) → metadata_header g + c + location_length g ≤ length bs
      → next_location g (metadata_by g h bs c) img ≡ done (location (location_in g (part (metadata_header g + c) (location_length g) bs)) (metadata_by g h bs (c + location_length g)))
  unfolding next_location location_at
  next_on c l =
      let s : 1 ≤ g.s = (fine_of_check g (length img) (check_of g (length img)) refl f.fine).sound.s_least in
      let at : listed_at g (metadata_by g h bs c) ≡ payload_at g h + (metadata_header g + c) = omega arith in
      rw (listable_at c (omega arith), lt-leb (length bs - metadata_header g) c (omega arith), ap (λ (x : ℕ). read_at g h.location.block x (location_length g) img) at ∙ part_read (metadata_header g + c) (location_length g) (omega arith))

  -- j of them are left, and the fuel is enough
  places_from_lem : (n c j : ℕ) → j ≤ n → length bs ≡ metadata_header g + c + j * location_length g
      → places_from n g (metadata_by g h bs c) img ≡ record { at = further_in g bs c j; end = done tt }
  unfolding places_from
  places_from_lem zero c zero l e = refl
  places_from_lem zero c (suc j) l e = absurd (omega arith)
  places_from_lem (suc n) c zero l e = ap (λ (x : Answer Listed). places_by x (λ m. places_from n g m img)) (next_end c (omega arith))
  places_from_lem (suc n) c (suc j) l e =
      ap (λ (x : Answer Listed). places_by x (λ m. places_from n g m img)) (next_on c (omega (arith, suc-mul j (location_length g))))
      ∙ ap (after_place (location_in g (part (metadata_header g + c) (location_length g) bs))) (places_from_lem n (c + location_length g) j (omega arith) (omega (arith, suc-mul j (location_length g))))

  pub places_of_lem : places_of g (metadata_by g h bs 0) img ≡ record { at = further_in g bs 0 k; end = done tt }
  places_of_lem =
      let s : 1 ≤ g.s = (fine_of_check g (length img) (check_of g (length img)) refl f.fine).sound.s_least in
      let o : 1 ≤ location_length g = omega arith in
      places_from_lem g.size 0 k (omega (arith, f.long, small, mul-one k, mul-le-mul_left k o)) (omega (arith, f.long))

  -- ---- so two of the same bytes refer to the same places, and have the same name

  pub locations_of_lem : locations_of g h img ≡ name_in g bs ∷ further_in g bs 0 k
  unfolding locations_of
  locations_of_lem = rw (metadata_of_lem, places_of_lem)

  pub named_of : (path : List ℕ) (hash : ℕ) → is_named g path hash h img ≡ pick (eqb (hash_in bs) hash) (is_name g path (name_in g bs) img) (done false)
  unfolding is_named
  named_of path hash = rw metadata_of_lem

-- ---- one that is whole

abbrev pub bytes_of : Geometry → ObjectHeader → List ℕ → List ℕ
bytes_of g h img = lent (read_payload g h img)

abbrev pub further_of : Geometry → ObjectHeader → ℕ
further_of g h = (payload_of g.s h - metadata_header g) / location_length g

pub filled_whole : (g : Geometry) (h : ObjectHeader) (img : List ℕ) → check_of g (length img) ≡ 0 → is_whole g h (length img) ≡ true → Filled g h img (bytes_of g h img) (further_of g h)
unfolding is_whole read_payload
filled_whole g h img fine w =
    let t = three (eqb (payload_readable g h (length img)) 0) (leb (metadata_header g) (payload_of g.s h)) (eqb ((payload_of g.s h - metadata_header g) % location_length g) 0) w in
    let r : read_payload g h img ≡ done (bytes_of g h img) = payload_lent g h img (payload_readable g h (length img)) refl (bytes_of g h img) refl (eqb-true _ _ t.0) in
    let l : length (bytes_of g h img) ≡ payload_of g.s h = read_length g h.location.block (payload_at g h) (payload_of g.s h) img (bytes_of g h img) r in
    let a : metadata_header g ≤ payload_of g.s h = leb-true _ _ t.1 in
    let d : (payload_of g.s h - metadata_header g) % location_length g ≡ 0 = eqb-true _ _ t.2 in
    record { fine = fine; reads = r; long = omega (arith, mod-add-div' (payload_of g.s h - metadata_header g) (location_length g)) }
  where
    three : (a b c : Bool) → (a && b && c) ≡ true → (a ≡ true) × (b ≡ true) × (c ≡ true)
    three true true c e = (refl, refl, e)
    three true false c e = absurd (false≢true e)
    three false b c e = absurd (false≢true e)

-- what it reads as
pub record Opened (g : Geometry) (h : ObjectHeader) (img : List ℕ) : Type 0 where
  pub metadata : MetadataObjectHeader
  pub reads : read_metadata g h img ≡ done metadata

same_done : {A : Type 0} {a b : A} → ◌≡◌ {A = Answer A} (done a) (done b) → a ≡ b
same_done e = cc

module _ (g : Geometry) (h : ObjectHeader) (img : List ℕ) (fine : check_of g (length img) ≡ 0) (w : is_whole g h (length img) ≡ true) where
  reads_so : read_metadata g h img ≡ done (metadata_by g h (bytes_of g h img) 0)
  reads_so = metadata_of_lem g h img (bytes_of g h img) (further_of g h) (filled_whole g h img fine w)

  pub opened : Opened g h img
  opened = record { metadata = metadata_by g h (bytes_of g h img) 0; reads = reads_so }

  lists_so : places_of g (metadata_by g h (bytes_of g h img) 0) img ≡ record { at = further_in g (bytes_of g h img) 0 (further_of g h); end = done tt }
  lists_so = places_of_lem g h img (bytes_of g h img) (further_of g h) (filled_whole g h img fine w)

  module _ (m : MetadataObjectHeader) (e : read_metadata g h img ≡ done m) where
    metadata_is : m ≡ metadata_by g h (bytes_of g h img) 0
    metadata_is = same_done (sym e ∙ reads_so)

    pub places-end : (places_of g m img).end ≡ done tt
    places-end = rw metadata_is (ap (λ (x : Places). x.end) lists_so)

-- ---- an object that a location points to, and that stays

pub record Stays (g : Geometry) (img other : List ℕ) (l : ObjectLocation) : Type 0 where
  pub object : ObjectHeader
  pub header_is : header_at g l img ≡ done object
  pub finished : is_finished object ≡ true
  pub kept : Kept g img other object

-- what a file gives from a reader of its first object on
abbrev given : Geometry → List ObjectLocation → Answer (Unit {0}) → ℕ → ℕ → List ℕ → ObjectHeader → Bool → Answer (List ℕ)
given g ls e p n img d b = pick b (gather g ls e (p - payload_of g.s d) n img) (and_then (some_of g d p n img) (λ bs. and_then (gather g ls e 0 (n - length bs) img) (λ more. done (bs ++ more))))

module _ (g : Geometry) (img other : List ℕ) (fine : check_of g (length img) ≡ 0) (long : length other ≡ length img) where
  fine_then : check_of g (length other) ≡ 0
  fine_then = ap (check_of g) long ∙ fine

  -- ---- a kept object: its header, and each range of its payload; past the end of its block a range is refused as before

  module _ (d : ObjectHeader) (v : Kept g img other d) where
    least : header g.granularity g.s + payload_of g.s d ≤ span_of g.granularity g.s d
    least = (span_least g d.location.block img fine d).0

    own-header : header_at g d.location other ≡ header_at g d.location img
    unfolding header_at state_at sized_at
    own-header =
        let plain : size_at g.granularity + g.s ≤ header g.granularity g.s = (laid g.granularity g.s 0 (short_size g (length img) fine)).size_plain in
        rw (range_kept g img other fine d d.location.offset (size_at g.granularity) v (omega arith) (omega (arith, least)), range_kept g img other fine d (d.location.offset + size_at g.granularity) g.s v (omega arith) (omega (arith, least)))

    pub inside-kept : (o n : ℕ) → payload_at g d ≤ o → o + n ≤ payload_at g d + payload_of g.s d → read_at g d.location.block o n other ≡ read_at g d.location.block o n img
    inside-kept o n a b = range_kept g img other fine d o n v (omega arith) (omega (arith, least))

    -- its bytes and those of a path, 16 a turn
    turns-kept : (n a : ℕ) (path : List ℕ) → payload_at g d ≤ a → (0 < length path → a + length path ≤ payload_at g d + payload_of g.s d)
        → same_from n g d.location.block a path other ≡ same_from n g d.location.block a path img
    unfolding same_from
    turns-kept zero a path l h = refl
    turns-kept (suc n) a [] l h = refl
    turns-kept (suc n) a (p ∷ ps) l h =
        let r : a + length (p ∷ ps) ≤ payload_at g d + payload_of g.s d = h (omega arith) in
        ap₂ (λ (x : Answer (List ℕ)) (y : Answer Bool). and_then x (λ bs. pick (equal bs (take 16 (p ∷ ps))) y (done false)))
        (inside-kept a (min 16 (length (p ∷ ps))) l (omega arith))
        (turns-kept n (a + 16) (drop 16 (p ∷ ps)) (omega arith) (λ s. omega (arith, length-drop 16 (p ∷ ps))))

  module _ (l : ObjectLocation) (s : Stays g img other l) where
    located : s.object.location ≡ l
    located = (header_back g l img s.object s.header_is).located

    -- it is found and opened as before
    pub header-kept : header_at g l other ≡ done s.object
    header-kept = subst (λ (x : ObjectLocation). header_at g x other ≡ header_at g x img) located (own-header s.object s.kept) ∙ s.header_is

    reader-is : (m : List ℕ) → header_at g l m ≡ done s.object → reader_at g l false m ≡ done (reader_of s.object 0)
    unfolding reader_at
    reader-is m e = rw (e, s.finished)

    pub reader-then : reader_at g l false other ≡ done (reader_of s.object 0)
    reader-then = reader-is other header-kept

    pub reader-before : reader_at g l false img ≡ done (reader_of s.object 0)
    reader-before = reader-is img s.header_is

    pub reader-kept : reader_at g l false other ≡ reader_at g l false img
    reader-kept = reader-then ∙ sym reader-before

    -- and compared with a path as before
    pub name-kept : (path : List ℕ) → is_name g path l other ≡ is_name g path l img
    unfolding is_name
    name-kept path = rw (reader-then, reader-before) (go (eqb (payload_of g.s s.object) (length path)) refl)
      where
        go : (b : Bool) → eqb (payload_of g.s s.object) (length path) ≡ b
            → pick b (same_from (length path) g s.object.location.block (payload_at g s.object) path other) (done false)
            ≡ pick b (same_from (length path) g s.object.location.block (payload_at g s.object) path img) (done false)
        go true q = turns-kept s.object s.kept (length path) (payload_at g s.object) path (omega arith) (λ _. omega (arith, eqb-true (payload_of g.s s.object) (length path) q))
        go false q = refl

  -- ---- the objects of a file

  pub gather_kept : (ls : List ObjectLocation) (e : Answer (Unit {0})) → All (Stays g img other) ls → (p n : ℕ) → gather g ls e p n other ≡ gather g ls e p n img
  unfolding gather
  gather_kept [] e a p n = refl
  gather_kept (l ∷ ls) e a p n = rw (reader-then l a.0, reader-before l a.0) (ap (unless_full n) (go (leb (payload_of g.s a.0.object) p) refl (λ q k. gather_kept ls e a.1 q k)))
    where
      Rest : Type 0
      Rest = (q k : ℕ) → gather g ls e q k other ≡ gather g ls e q k img

      tail : (x : Answer (List ℕ)) → Rest → and_then x (λ bs. and_then (gather g ls e 0 (n - length bs) other) (λ more. done (bs ++ more))) ≡ and_then x (λ bs. and_then (gather g ls e 0 (n - length bs) img) (λ more. done (bs ++ more)))
      tail (done bs) rest = ap (λ (y : Answer (List ℕ)). and_then y (λ more. done (bs ++ more))) (rest 0 (n - length bs))
      tail (refused k) rest = refl

      go : (b : Bool) → leb (payload_of g.s a.0.object) p ≡ b → Rest → given g ls e p n other a.0.object b ≡ given g ls e p n img a.0.object b
      go true q rest = rest (p - payload_of g.s a.0.object) n
      go false q rest =
          let lt : p < payload_of g.s a.0.object = leb-false _ _ q in
          ap (λ (x : Answer (List ℕ)). and_then x (λ bs. and_then (gather g ls e 0 (n - length bs) other) (λ more. done (bs ++ more))))
          (inside-kept a.0.object a.0.kept (payload_at g a.0.object + p) (min n (payload_of g.s a.0.object - p)) (omega arith) (omega arith))
          ∙ tail (some_of g a.0.object p n img) rest

  pub sizes_kept : (ls : List ObjectLocation) (e : Answer (Unit {0})) → All (Stays g img other) ls → sizes g ls e other ≡ sizes g ls e img
  unfolding sizes
  sizes_kept [] e a = refl
  sizes_kept (l ∷ ls) e a = rw (reader-then l a.0, reader-before l a.0, sizes_kept ls e a.1)

  -- ---- a metadata object that is whole and kept

  module _ (h : ObjectHeader) where
    pub whole-kept : is_whole g h (length other) ≡ is_whole g h (length img)
    whole-kept = ap (is_whole g h) long

    module _ (w : is_whole g h (length img) ≡ true) (v : Kept g img other h) where
      filled-then : Filled g h other (bytes_of g h img) (further_of g h)
      filled-then = let f = filled_whole g h img fine w in record { fine = fine_then; reads = payload_kept g img other fine h v ∙ f.reads; long = f.long }

      pub metadata-kept : read_metadata g h other ≡ read_metadata g h img
      metadata-kept = metadata_of_lem g h other (bytes_of g h img) (further_of g h) filled-then ∙ sym (reads_so g h img fine w)

      lists-then : places_of g (metadata_by g h (bytes_of g h img) 0) other ≡ places_of g (metadata_by g h (bytes_of g h img) 0) img
      lists-then = places_of_lem g h other (bytes_of g h img) (further_of g h) filled-then ∙ sym (lists_so g h img fine w)

      pub places-kept : (m : MetadataObjectHeader) → read_metadata g h img ≡ done m → places_of g m other ≡ places_of g m img
      places-kept m e = rw (metadata_is g h img fine w m e) lists-then

      pub locations-kept : locations_of g h other ≡ locations_of g h img
      locations-kept = locations_of_lem g h other (bytes_of g h img) (further_of g h) filled-then ∙ sym (locations_of_lem g h img (bytes_of g h img) (further_of g h) (filled_whole g h img fine w))

      -- ---- and so are the objects that it refers to

      module _ (i : info_at g h.location img ≡ done (found h)) (a : All (Stays g img other) (locations_of g h img)) where
        stay : Stays g img other (name_in g (bytes_of g h img)) × All (Stays g img other) (places_of g (metadata_by g h (bytes_of g h img) 0) img).at
        stay =
            let e : locations_of g h img ≡ name_in g (bytes_of g h img) ∷ (places_of g (metadata_by g h (bytes_of g h img) 0) img).at =
            locations_of_lem g h img (bytes_of g h img) (further_of g h) (filled_whole g h img fine w) ∙ ap (λ (x : Places). name_in g (bytes_of g h img) ∷ x.at) (sym (lists_so g h img fine w)) in
            subst (All (Stays g img other)) e a

        pub named-kept : (path : List ℕ) (hash : ℕ) → is_named g path hash h other ≡ is_named g path hash h img
        named-kept path hash =
            named_of g h other (bytes_of g h img) (further_of g h) filled-then path hash
            ∙ ap (λ (x : Answer Bool). pick (eqb (hash_in (bytes_of g h img)) hash) x (done false)) (name-kept (name_in g (bytes_of g h img)) stay.0 path)
            ∙ sym (named_of g h img (bytes_of g h img) (further_of g h) (filled_whole g h img fine w) path hash)

        at_before : metadata_at g h.location img ≡ done (metadata_by g h (bytes_of g h img) 0)
        unfolding metadata_at
        at_before = ap (λ (x : Answer Info). and_then x (metadata_of g img)) i ∙ reads_so g h img fine w

        at-then : metadata_at g h.location other ≡ done (metadata_by g h (bytes_of g h img) 0)
        unfolding metadata_at info_at
        at-then =
            ap (λ (x : Answer ObjectHeader). and_then (and_then x (λ d. done (info_in d.state d))) (metadata_of g other)) (own-header h v) ∙ ap (λ (x : Answer Info). and_then x (metadata_of g other)) i
            ∙ metadata_of_lem g h other (bytes_of g h img) (further_of g h) filled-then

        pub read_kept : (p n : ℕ) → read_file g h.location p n other ≡ read_file g h.location p n img
        unfolding read_file
        read_kept p n = rw (at-then, at_before, lists-then) (gather_kept (places_of g (metadata_by g h (bytes_of g h img) 0) img).at (places_of g (metadata_by g h (bytes_of g h img) 0) img).end stay.1 p n)

        pub size-kept : file_size g h.location other ≡ file_size g h.location img
        unfolding file_size
        size-kept = rw (at-then, at_before, lists-then) (sizes_kept (places_of g (metadata_by g h (bytes_of g h img) 0) img).at (places_of g (metadata_by g h (bytes_of g h img) 0) img).end stay.1)
