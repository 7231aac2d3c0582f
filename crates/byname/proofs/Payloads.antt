-- What a metadata object that reads whole tells is decided by its payload: its hash, where its name is, and where its data objects are.
use mathlib.Core.Path.{◌≡◌, refl, sym, ap, ap₂, ◌∙◌}
use mathlib.Core.Bool.{Bool, true, false}
use mathlib.Core.List.{List}
use Prim.Native.Nat.{ℕ, zero, suc, ◌+◌, ◌-◌, ◌*◌, ◌≤◌, ◌<◌, min}
use native.Mathlib.Nat.{suc-mul, mul-le-mul_right}
use native.Mathlib.Omega.{arith}
use lib.ListN.{length}
use lib.Dec.{leb, eqb}
use borrow.Author.Tests.{leb-true, leb-false, le-leb, lt-leb}
use Rattle.medium.specs.declared.geometry.Geometry.{Geometry}
use Rattle.medium.specs.Granularity.{pick}
use Rattle.medium.specs.Geometry.{check_of}
use Rattle.medium.specs.Operation.{Answer, done, refused, and_then}
use Rattle.medium.specs.Medium.{part, read_at}
use Rattle.objects.specs.declared.types.ObjectType.{ObjectType}
use Rattle.objects.specs.declared.header.ObjectHeader.{ObjectHeader}
use Rattle.std.specs.Prelude.{Option, Some, None}
use Rattle.objects.specs.declared.metadata.MetadataObjectHeader.{MetadataObjectHeader}
use Rattle.objects.specs.Numbers.{number, unset_of}
use Rattle.objects.specs.Header.{payload_of, payload_size_of}
use Rattle.objects.specs.Info.{Info}
use Rattle.objects.specs.Location.{location_length, location_in}
use Rattle.objects.specs.Payload.{payload_at}
use Rattle.objects.specs.Reader.{Chunk, remaining_of, left_of, cursor_at, moved, read_some}
use Rattle.objects.specs.Metadata.{Listed, location, no_more, metadata_header, hash_at, number_at, location_at, read_metadata, metadata_of, metadata_at, list_end, listable, listed_at, past_location, next_listed, next_location}
use Rattle.storage.specs.Lookup.{is_name, is_named}
use Rattle.storage.specs.File.{after_place, places_by, places_from, places_of, gather_at, read_file}
use Rattle.shown.specs.Whole.{reader_of, Whole}
use Rattle.medium.proofs.Checks.{fine_of_check}
use Rattle.objects.proofs.Reading.{passed}
use Rattle.shown.proofs.Reading.{and_back}

-- how long a payload is that hash and name location, and then q whole locations
pub record Shape (g : Geometry) (pay : List ℕ) : Type 0 where
  pub locations : ℕ
  pub long : length pay ≡ metadata_header g + locations * location_length g
  pub short : length pay ≤ 65536

module _ (g : Geometry) (o : ObjectHeader) (t : ObjectType) (pay y : List ℕ) (w : Whole g o t pay y) where
  left_of_lem : (x n : ℕ) → left_of g (reader_of o x) (length y) ≡ done n → n ≡ length pay - x
  unfolding left_of remaining_of
  left_of_lem x n e = go (leb x (payload_of g.s o)) (passed g (length y) x (remaining_of g.s (reader_of o x)) n e).1
    where
      go : (b : Bool) → pick b (done (payload_of g.s o - x)) (refused 9) ≡ done n → n ≡ length pay - x
      go true q = let z : payload_of g.s o - x ≡ n = cc in sym z ∙ ap (λ (k : ℕ). k - x) w.size
      go false q = let z : ◌≡◌ {A = ℕ} 0 1 = cc in absurd (omega arith)

  -- a part of the payload
  pub part_read : (x n : ℕ) → x + n ≤ length pay → read_at g o.location.block (payload_at g o + x) n y ≡ done (part x n pay)
  unfolding read_some
  part_read x n h =
      let a = and_back (left_of g (reader_of o x) (length y)) (λ left. and_then (read_at g o.location.block (cursor_at g (reader_of o x)) (min n left) y) (λ bs. done (record { bytes = bs; reader = moved (reader_of o x) (min n left) }))) (record { bytes = part x n pay; reader = reader_of o (x + min n (length pay - x)) }) (w.reads x n (omega arith)) in
      let b = and_back (read_at g o.location.block (cursor_at g (reader_of o x)) (min n a.value) y) (λ bs. done (record { bytes = bs; reader = moved (reader_of o x) (min n a.value) })) (record { bytes = part x n pay; reader = reader_of o (x + min n (length pay - x)) }) a.second in
      let l : a.value ≡ length pay - x = left_of_lem x a.value a.first in
      let m : min n a.value ≡ n = omega arith in
      let c : b.value ≡ part x n pay = bytes_of b.value (part x n pay) (moved (reader_of o x) (min n a.value)) (reader_of o (x + min n (length pay - x))) b.second in
      ap (λ (k : ℕ). read_at g o.location.block (payload_at g o + x) k y) (sym m) ∙ b.first ∙ ap done c
    where
      bytes_of : (bs cs : List ℕ) (r s : Rattle.objects.specs.declared.reader.ObjectReader.ObjectReader) → ◌≡◌ {A = Answer Chunk} (done (record { bytes = bs; reader = r })) (done (record { bytes = cs; reader = s })) → bs ≡ cs
      bytes_of bs cs r s q = let z : ◌≡◌ {A = Chunk} (record { bytes = bs; reader = r }) (record { bytes = cs; reader = s }) = cc in ap (λ (k : Chunk). k.bytes) z

  -- ---- hash and name

  abbrev pub metadata_in : ℕ → MetadataObjectHeader
  metadata_in c = record { object = o; hash = number (part 0 4 pay); name = location_in g (part 4 (location_length g) pay); cursor = c }

  pub metadata_of_lem : metadata_header g ≤ length pay → read_metadata g o y ≡ done (metadata_in 0)
  unfolding read_metadata number_at location_at
  metadata_of_lem h =
      let z : hash_at g o ≡ payload_at g o + 0 = omega arith in
      ap₂ (λ (a b : Answer (List ℕ)). and_then (and_then a (λ bs. done (number bs))) (λ hash. and_then (and_then b (λ bs. done (location_in g bs))) (λ name. done (record { object = o; hash = hash; name = name; cursor = 0 }))))
      (ap (λ (k : ℕ). read_at g o.location.block k 4 y) z ∙ part_read 0 4 (omega arith)) (part_read 4 (location_length g) (omega arith))

  pub named_by : (path : List ℕ) (hash : ℕ) → metadata_header g ≤ length pay
      → is_named g path hash o y ≡ pick (eqb (number (part 0 4 pay)) hash) (is_name g path (location_in g (part 4 (location_length g) pay)) y) (done false)
  unfolding is_named
  named_by path hash h = ap (λ (a : Answer MetadataObjectHeader). and_then a (λ m. pick (eqb m.hash hash) (is_name g path m.name y) (done false))) (metadata_of_lem h)

  -- ---- the data objects' locations

  module _ (fine : check_of g (length y) ≡ 0) (s : Shape g pay) where
    sized : payload_size_of g.s o ≡ Some (length pay)
    unfolding payload_size_of payload_of
    sized = go (eqb o.size (unset_of g.s)) w.size
      where
        go : (b : Bool) → pick b 0 o.size ≡ length pay → ◌≡◌ {A = Option ℕ} (pick b None (Some o.size)) (Some (length pay))
        go true e = absurd (omega (arith, s.long))
        go false e = ap Some e

    list-end : list_end g (payload_size_of g.s o) ≡ done (s.locations * location_length g)
    list-end =
        let z : length pay - metadata_header g ≡ s.locations * location_length g = omega (arith, s.long) in
        ap (list_end g) sized ∙ rw (le-leb (metadata_header g) (length pay) (omega (arith, s.long)), z)

    listable_at : (c : ℕ) → c ≤ 65536 → listable g (metadata_in c) (length y) ≡ done (s.locations * location_length g)
    unfolding listable
    listable_at c h = rw (fine, le-leb c 65536 h) list-end

    -- the j-th of them, or the end
    pub next_of : (j : ℕ) → j ≤ s.locations
        → next_location g (metadata_in (j * location_length g)) y
        ≡ pick (leb s.locations j) (done no_more) (done (location (location_in g (part (metadata_header g + j * location_length g) (location_length g) pay)) (metadata_in (suc j * location_length g))))
    unfolding next_location location_at
    next_of j h =
        let m : j * location_length g ≤ s.locations * location_length g = mul-le-mul_right (location_length g) h in
        ap (λ (a : Answer ℕ). and_then a (λ e. pick (leb e (j * location_length g)) (done no_more) (next_listed g (metadata_in (j * location_length g)) y))) (listable_at (j * location_length g) (omega (arith, s.long, s.short)))
        ∙ go (leb s.locations j) refl
      where
        go : (b : Bool) → leb s.locations j ≡ b
            → pick (leb (s.locations * location_length g) (j * location_length g)) (done no_more) (next_listed g (metadata_in (j * location_length g)) y)
            ≡ pick b (done no_more) (done (location (location_in g (part (metadata_header g + j * location_length g) (location_length g) pay)) (metadata_in (suc j * location_length g))))
        go true e = rw (le-leb (s.locations * location_length g) (j * location_length g) (mul-le-mul_right (location_length g) (leb-true _ _ e)))
        go false e =
            let k : suc j ≤ s.locations = leb-false _ _ e in
            let m : suc j * location_length g ≤ s.locations * location_length g = mul-le-mul_right (location_length g) k in
            let z : suc j * location_length g ≡ j * location_length g + location_length g = suc-mul j (location_length g) in
            let some : 0 < location_length g = omega (arith, (fine_of_check g (length y) (check_of g (length y)) refl fine).sound.s_least) in
            let at : listed_at g (metadata_in (j * location_length g)) ≡ payload_at g o + (metadata_header g + j * location_length g) = omega arith in
            rw (lt-leb (s.locations * location_length g) (j * location_length g) (omega arith))
            (ap (λ (a : Answer (List ℕ)). and_then (and_then a (λ bs. done (location_in g bs))) (λ l. done (location l (past_location g (metadata_in (j * location_length g)))))) (ap (λ (x : ℕ). read_at g o.location.block x (location_length g) y) at ∙ part_read (metadata_header g + j * location_length g) (location_length g) (omega (arith, s.long)))
            ∙ ap (λ (x : ℕ). done (location (location_in g (part (metadata_header g + j * location_length g) (location_length g) pay)) (metadata_in x))) (sym z))

  pub file_of : (p n : ℕ) → metadata_header g ≤ length pay → read_file g o.location p n y ≡ gather_at g (places_of g (metadata_in 0) y) p n y
  unfolding read_file metadata_at
  file_of p n h =
      ap (λ (a : Answer Info). and_then (and_then a (metadata_of g y)) (λ m. gather_at g (places_of g m y) p n y)) w.info
      ∙ ap (λ (a : Answer MetadataObjectHeader). and_then a (λ m. gather_at g (places_of g m y) p n y)) (metadata_of_lem h)

-- two whole objects of one payload have one list
module _ (g : Geometry) (t : ObjectType) (pay : List ℕ) (s : Shape g pay) (a : ObjectHeader) (x : List ℕ) (u : Whole g a t pay x) (fu : check_of g (length x) ≡ 0)
    (b : ObjectHeader) (y : List ℕ) (w : Whole g b t pay y) (fw : check_of g (length y) ≡ 0) where
  places_at_lem : (n j : ℕ) → j ≤ s.locations
      → places_from n g (metadata_in g a t pay x u (j * location_length g)) x ≡ places_from n g (metadata_in g b t pay y w (j * location_length g)) y
  unfolding places_from
  places_at_lem zero j h = refl
  places_at_lem (suc n) j h =
      ap (λ (l : Answer Listed). places_by l (λ k. places_from n g k x)) (next_of g a t pay x u fu s j h)
      ∙ go (leb s.locations j) refl (λ k. places_at_lem n (suc j) k)
      ∙ sym (ap (λ (l : Answer Listed). places_by l (λ k. places_from n g k y)) (next_of g b t pay y w fw s j h))
    where
      go : (c : Bool) → leb s.locations j ≡ c
          → (suc j ≤ s.locations → places_from n g (metadata_in g a t pay x u (suc j * location_length g)) x ≡ places_from n g (metadata_in g b t pay y w (suc j * location_length g)) y)
          → places_by (pick c (done no_more) (done (location (location_in g (part (metadata_header g + j * location_length g) (location_length g) pay)) (metadata_in g a t pay x u (suc j * location_length g))))) (λ k. places_from n g k x)
          ≡ places_by (pick c (done no_more) (done (location (location_in g (part (metadata_header g + j * location_length g) (location_length g) pay)) (metadata_in g b t pay y w (suc j * location_length g))))) (λ k. places_from n g k y)
      go true e more = refl
      go false e more = ap (after_place (location_in g (part (metadata_header g + j * location_length g) (location_length g) pay))) (more (leb-false _ _ e))

  pub places_same : places_of g (metadata_in g a t pay x u 0) x ≡ places_of g (metadata_in g b t pay y w 0) y
  places_same = let z : 0 * location_length g ≡ 0 = omega arith in subst_both z
    where
      subst_both : 0 * location_length g ≡ 0 → places_from g.size g (metadata_in g a t pay x u 0) x ≡ places_from g.size g (metadata_in g b t pay y w 0) y
      subst_both z =
          ap (λ (c : ℕ). places_from g.size g (metadata_in g a t pay x u c) x) (sym z) ∙ places_at_lem g.size 0 (omega arith)
          ∙ ap (λ (c : ℕ). places_from g.size g (metadata_in g b t pay y w c) y) z
