-- An unfinished copy is stepped over by its header alone, so that a listing reads its payload as headers. Nothing that it finds there is a
-- finished object of the copy's own payload: such a payload would be all FF, and so would be the byte of its type.
use mathlib.Core.Path.{◌≡◌, refl, sym, ap, ap₂, ◌∙◌, subst}
use mathlib.Core.Logic.{inl, inr}
use mathlib.Core.Bool.{Bool, true, false, ◌&&◌, and-false}
use mathlib.Core.List.{List}
use Prim.Native.Nat.{ℕ, zero, suc, ◌+◌, ◌-◌, ◌*◌, ◌≤◌, ◌<◌, min}
use native.Mathlib.Omega.{arith}
use lib.ListN.{length, get_or}
use lib.Dec.{eqb}
use borrow.Author.Tests.{le-leb}
use Rattle.medium.specs.declared.geometry.Geometry.{Geometry}
use Rattle.medium.specs.Granularity.{pick, header}
use Rattle.medium.specs.Geometry.{check_of, address}
use Rattle.medium.specs.Operation.{Answer, done, refused, and_then}
use Rattle.medium.specs.Medium.{read_at}
use Rattle.objects.specs.declared.types.ObjectType.{ObjectType}
use Rattle.objects.specs.declared.state.ObjectDataState.TheVariants.{Untrusted, Valid, Deleted}
use Rattle.objects.specs.declared.state.CompositeObjectState.{CompositeObjectState}
use Rattle.objects.specs.declared.state.CompositeObjectState.TheVariants.{Free, Allocated}
use Rattle.objects.specs.declared.location.ObjectLocation.{ObjectLocation}
use Rattle.objects.specs.declared.header.ObjectHeader.{ObjectHeader}
use Rattle.objects.specs.declared.iterator.ObjectIterator.{ObjectIterator}
use Rattle.objects.specs.Types.{type_byte}
use Rattle.objects.specs.Header.{header_at, payload_of}
use Rattle.objects.specs.Payload.{equal}
use Rattle.objects.specs.Info.{Info, found, none, info_at}
use Rattle.objects.specs.Reader.{Chunk, reader_at, remaining_of, left_of, read_some}
use Rattle.objects.specs.Listing.{placed, Met, object, free_place, block_end, next_of, list_by, list_from}
use Rattle.powercut.specs.Demand.{reader_of}
use Rattle.powercut.specs.Listed.{payload_read, is_payload, is_copy, count_in}
use Rattle.medium.proofs.Bytes.{get_d_part, length_part}
use Rattle.medium.proofs.Programs.{Partly}
use Rattle.medium.proofs.Places.{Laid, laid}
use Rattle.medium.proofs.Checks.{within, fine_of_check}
use Rattle.objects.proofs.Equal.{equal_is}
use Rattle.shown.proofs.Reading.{seen_free, Got, read_back, header_back, header_read, header_of}
use Rattle.shown.proofs.Walk.{place, visit, span_at, Stepped, next_back, info_back}

-- ---- a payload found further on in itself is all FF

module _ (pay : List ℕ) (X : ℕ → ℕ) (d end : ℕ) (hd : 0 < d) (some : (j : ℕ) → j < end → Partly pay j (X j)) (inside : d + length pay ≤ end)
    (found-again : (i : ℕ) → i < length pay → X (d + i) ≡ get_or pay i 0) where
  all_blank : (n i : ℕ) → length pay ≤ i + n → i < length pay → get_or pay i 0 ≡ 255
  all_blank zero i h k = absurd (omega arith)
  all_blank (suc n) i h k = go (some (d + i) (omega arith)) (λ c. all_blank n (d + i) (omega arith) c)
    where
      go : Partly pay (d + i) (X (d + i)) → (d + i < length pay → get_or pay (d + i) 0 ≡ 255) → get_or pay i 0 ≡ 255
      go (inl e) rec = sym (found-again i k) ∙ e
      go (inr e) rec = sym (found-again i k) ∙ e.1 ∙ rec e.0

  pub blank_before : (j : ℕ) → j < end → X j ≡ 255
  blank_before j h = go (some j h)
    where
      go : Partly pay j (X j) → X j ≡ 255
      go (inl e) = e
      go (inr e) = e.1 ∙ all_blank (length pay) j (omega arith) e.0

module _ (g : Geometry) (b : ℕ) (m : List ℕ) (fine : check_of g (length m) ≡ 0) (hb : b < g.count) (t : ObjectType) (pay : List ℕ) where
  -- one read gives the payload of a finished object
  pub read_forward : (o : ℕ) (u : ObjectType) (size : ℕ) → header_at g (place g b o) m ≡ done (header_of (Allocated u Valid) size (place g b o))
      → payload_read g (place g b o) m ≡ and_then (read_at g b (o + header g.granularity g.s + 0) (min 65536 (payload_of g.s (header_of (Allocated u Valid) size (place g b o)) - 0)) m) (λ bs. done bs)
  unfolding payload_read reader_at read_some remaining_of left_of
  read_forward o u size e =
      rw (e, fine, le-leb 0 (payload_of g.s (header_of (Allocated u Valid) size (place g b o))) (omega arith))
      (go (read_at g b (o + header g.granularity g.s + 0) (min 65536 (payload_of g.s (header_of (Allocated u Valid) size (place g b o)) - 0)) m))
    where
      go : (a : Answer (List ℕ)) → and_then {A = Chunk} (and_then {B = Chunk} a (λ bs. done (record { bytes = bs; reader = reader_of (header_of (Allocated u Valid) size (place g b o)) (0 + min 65536 (payload_of g.s (header_of (Allocated u Valid) size (place g b o)) - 0)) }))) (λ k. done k.bytes)
          ≡ and_then a (λ bs. done bs)
      go (done bs) = refl
      go (refused n) = refl

  -- behind an unfinished copy at an offset
  module _ (to : ℕ) (fits : to + header g.granularity g.s < g.size)
      (some : (j : ℕ) → to + header g.granularity g.s + j < g.size → Partly pay j (get_or m (address g b to + header g.granularity g.s + j) 0)) where
    -- no finished object there has the copy's payload
    no_such : (o n : ℕ) (h : ObjectHeader) (bs : List ℕ) → to + header g.granularity g.s ≤ o → info_at g (place g b o) m ≡ done (found h)
        → o + header g.granularity g.s < g.size → read_at g b (o + header g.granularity g.s + 0) n m ≡ done bs → bs ≡ pay → ⊥
    unfolding info_at
    no_such o n h bs ho info ho2 r e =
        let c : Got g b (o + header g.granularity g.s + 0) n m bs = read_back g b (o + header g.granularity g.s + 0) n m bs r in
        let whole : g.size * g.count ≡ length m = (fine_of_check g (length m) (check_of g (length m)) refl fine).whole in
        let l : Laid g.granularity g.s 0 = laid g.granularity g.s 0 (fine_of_check g (length m) (check_of g (length m)) refl fine).sound.s_most in
        let room : b * g.size + (o + header g.granularity g.s + 0) + n ≤ length m = within b (o + header g.granularity g.s + 0) n g.size g.count (length m) hb c.fits whole in
        let ln : n ≡ length pay = sym (length_part (address g b (o + header g.granularity g.s + 0)) n m room) ∙ ap length (sym c.bytes_are ∙ e) in
        let again : (i : ℕ) → i < length pay → get_or m (address g b to + header g.granularity g.s + (o - to + i)) 0 ≡ get_or pay i 0 =
        λ i k.
        let x : address g b to + header g.granularity g.s + (o - to + i) ≡ address g b (o + header g.granularity g.s + 0) + i = omega arith in
        ap (λ (y : ℕ). get_or m y 0) x ∙ sym (get_d_part (address g b (o + header g.granularity g.s + 0)) n m i 0 (omega arith)) ∙ ap (λ (ys : List ℕ). get_or ys i 0) (sym c.bytes_are ∙ e) in
        let type_at : address g b to + header g.granularity g.s + (o - to - header g.granularity g.s) ≡ address g b o = omega arith in
        let type_byte_lem : get_or m (address g b o) 0 ≡ 255 =
        ap (λ (y : ℕ). get_or m y 0) (sym type_at)
        ∙ blank_before pay (λ j. get_or m (address g b to + header g.granularity g.s + j) 0) (o - to) (g.size - (to + header g.granularity g.s)) (omega (arith, l))
        (λ j k. some j (omega arith)) (omega (arith, c.fits)) again (o - to - header g.granularity g.s) (omega arith) in
        let free-there : info_at g (place g b o) m ≡ done none =
        rw (header_read g (place g b o) m Free _ fine hb (omega (arith, l)) (seen_free g.granularity (address g b o) m type_byte_lem) refl) in
        let clash : ◌≡◌ {A = Answer Info} (done none) (done (found h)) = sym free-there ∙ info in
        let z : ◌≡◌ {A = ℕ} 0 1 = cc in absurd (omega arith)

    not-copy : (o : ℕ) (st : CompositeObjectState) (size : ℕ) → to + header g.granularity g.s ≤ o → info_at g (place g b o) m ≡ done (found (header_of st size (place g b o)))
        → o + header g.granularity g.s < g.size → is_copy g b t pay m (visit g b o (header_of st size (place g b o))) ≡ false
    unfolding is_copy
    not-copy o Free size ho info ho2 = refl
    not-copy o (Allocated u Untrusted) size ho info ho2 = refl
    not-copy o (Allocated u Deleted) size ho info ho2 = refl
    not-copy o (Allocated u Valid) size ho info ho2 =
        ap (λ (x : Answer (List ℕ)). eqb (type_byte u) (type_byte t) && is_payload x pay) (read_forward o u size (info_back g b o m (header_of (Allocated u Valid) size (place g b o)) info))
        ∙ go (read_at g b (o + header g.granularity g.s + 0) (min 65536 (payload_of g.s (header_of (Allocated u Valid) size (place g b o)) - 0)) m) refl
      where
        same-no : (bs : List ℕ) → read_at g b (o + header g.granularity g.s + 0) (min 65536 (payload_of g.s (header_of (Allocated u Valid) size (place g b o)) - 0)) m ≡ done bs
            → (x : Bool) → equal bs pay ≡ x → x ≡ false
        same-no bs r true e = absurd (no_such o _ (header_of (Allocated u Valid) size (place g b o)) bs ho info ho2 r (equal_is bs pay e))
        same-no bs r false e = refl

        go : (a : Answer (List ℕ)) → read_at g b (o + header g.granularity g.s + 0) (min 65536 (payload_of g.s (header_of (Allocated u Valid) size (place g b o)) - 0)) m ≡ a
            → (eqb (type_byte u) (type_byte t) && is_payload (and_then a (λ bs. done bs)) pay) ≡ false
        go (done bs) r = ap (λ (x : Bool). eqb (type_byte u) (type_byte t) && x) (same-no bs r (equal bs pay) refl) ∙ and-false (eqb (type_byte u) (type_byte t))
        go (refused n) r = and-false (eqb (type_byte u) (type_byte t))

    pub none-behind : (n o : ℕ) → to + header g.granularity g.s ≤ o → count_in g b t pay m (list_from n g (placed b o) m).visits ≡ 0
    unfolding list_from
    none-behind zero o h = refl
    none-behind (suc n) o h = go (next_of g (placed b o) m) refl (λ y k. none-behind n y k)
      where
        go : (x : Answer Met) → next_of g (placed b o) m ≡ x → ((y : ℕ) → to + header g.granularity g.s ≤ y → count_in g b t pay m (list_from n g (placed b y) m).visits ≡ 0)
            → count_in g b t pay m (list_by x (placed b o) (λ j. list_from n g j m)).visits ≡ 0
        go (done (object k j)) q rec =
            let d : Stepped g b o m k j = next_back g b o m k j q in
            let at : k ≡ header_of k.state k.size (place g b o) = ap (λ (x : ObjectLocation). header_of k.state k.size x) (header_back g (place g b o) m k (info_back g b o m k d.info)).located in
            let no : is_copy g b t pay m (visit g b o k) ≡ false =
            ap (λ (x : ObjectHeader). is_copy g b t pay m (visit g b o x)) at ∙ not-copy o k.state k.size h (d.info ∙ ap (λ (x : ObjectHeader). done (found x)) at) d.fits in
            ap₂ (λ (x : Bool) (i : ℕ). pick x 1 0 + i) no
            (subst (λ (x : ObjectIterator). count_in g b t pay m (list_from n g x m).visits ≡ 0) d.behind (rec (o + span_at g b k) (omega arith)))
        go (done free_place) q rec = refl
        go (done block_end) q rec = refl
        go (refused k) q rec = refl
