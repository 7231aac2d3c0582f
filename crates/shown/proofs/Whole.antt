-- A finished object that stands in a block reads whole, an unfinished one is no reader's, and a deleted one is gone.
use mathlib.Core.Path.{◌≡◌, refl, sym, ap, ◌∙◌}
use mathlib.Core.Logic.{◌⊎◌, inl, inr}
use mathlib.Core.List.{List}
use Prim.Native.Nat.{ℕ, ◌+◌, ◌-◌, ◌≤◌, ◌<◌, min}
use native.Mathlib.Omega.{arith}
use lib.ListN.{length, get_or, length-take, length-drop}
use borrow.Author.Tests.{le-leb}
use Rattle.medium.specs.declared.geometry.Geometry.{Geometry}
use Rattle.medium.specs.Granularity.{size_at, header}
use Rattle.medium.specs.Geometry.{check_of, address}
use Rattle.medium.specs.Operation.{done}
use Rattle.medium.specs.Medium.{part}
use Rattle.objects.specs.declared.types.ObjectType.{ObjectType}
use Rattle.objects.specs.declared.state.ObjectDataState.TheVariants.{Untrusted, Valid, Deleted}
use Rattle.objects.specs.declared.state.CompositeObjectState.TheVariants.{Free, Allocated}
use Rattle.objects.specs.declared.location.ObjectLocation.{ObjectLocation}
use Rattle.objects.specs.declared.header.ObjectHeader.{ObjectHeader}
use Rattle.objects.specs.Header.{header_at, payload_of}
use Rattle.objects.specs.Info.{info_at}
use Rattle.objects.specs.Reader.{reader_at, remaining_of, left_of, read_some}
use Rattle.shown.specs.Whole.{reader_of, Whole, Unfinished, Gone}
use Rattle.medium.proofs.Bytes.{part_is, get_d_part}
use Rattle.medium.proofs.Places.{Laid, laid}
use Rattle.medium.proofs.Checks.{Sound, within, fine_of_check}
use Rattle.shown.proofs.Reading.{state_seen, size_seen, Stands, read_yes, header_read}

-- a read of a payload that stands in the image
part_of : (a c n : ℕ) (pay m : List ℕ) → part a (length pay) m ≡ pay → a + length pay ≤ length m → c ≤ length pay → part (a + c) (min n (length pay - c)) m ≡ part c n pay
part_of a c n pay m e l h =
    part_is (a + c) (min n (length pay - c)) m (part c n pay) (omega arith) (simp (length-take, length-drop))
    (λ i k. let j : a + c + i ≡ a + (c + i) = omega arith in
    ap (λ (x : ℕ). get_or m x 0) j ∙ sym (get_d_part a (length pay) m (c + i) 0 (omega arith)) ∙ ap (λ (bs : List ℕ). get_or bs (c + i) 0) e ∙ sym (get_d_part c n pay i 0 (omega arith)))

module _ (g : Geometry) (m : List ℕ) (f : check_of g (length m) ≡ 0) where
  -- a finished object that stands in a block reads whole
  module _ (h : ObjectHeader) (t : ObjectType) (pay : List ℕ) (fin : h.state ≡ Allocated t Valid) (size : payload_of g.s h ≡ length pay) (block : h.location.block < g.count)
      (fits : h.location.offset + header g.granularity g.s + length pay ≤ g.size)
      (st : Stands g.granularity g.s (address g h.location.block h.location.offset) (Allocated t Valid) h.size pay m) where
    sound : Sound g
    sound = (fine_of_check g (length m) (check_of g (length m)) refl f).sound

    l : Laid g.granularity g.s (length pay)
    l = laid g.granularity g.s (length pay) sound.s_most

    header_is : header_at g h.location m ≡ done h
    header_is = header_read g h.location m h.state h.size f block (omega (arith, l)) (st.state ∙ ap done (sym fin)) st.size_is

    read_is : (c n : ℕ) → c ≤ length pay
        → read_some g (reader_of h c) n m ≡ done (record { bytes = part c n pay; reader = reader_of h (c + min n (length pay - c)) })
    unfolding read_some remaining_of left_of
    read_is c n k =
        let a : address g h.location.block (h.location.offset + header g.granularity g.s + c) ≡ address g h.location.block h.location.offset + header g.granularity g.s + c = omega arith in
        let room : address g h.location.block h.location.offset + header g.granularity g.s + length pay ≤ length m =
        omega (arith, within h.location.block h.location.offset (header g.granularity g.s + length pay) g.size g.count (length m) block (omega arith) (fine_of_check g (length m) (check_of g (length m)) refl f).whole) in
        let small : c ≤ 65536 = omega (arith, sound.small) in
        rw (f, le-leb c 65536 small, size, le-leb c (length pay) k, read_yes g h.location.block (h.location.offset + header g.granularity g.s + c) (min n (length pay - c)) m f block (omega arith))
        (ap (λ (bs : List ℕ). done (record { bytes = bs; reader = reader_of h (c + min n (length pay - c)) }))
        (ap (λ (x : ℕ). part x (min n (length pay - c)) m) a ∙ part_of (address g h.location.block h.location.offset + header g.granularity g.s) c n pay m st.bytes_are room k))

    pub whole_of : Whole g h t pay m
    unfolding info_at reader_at
    whole_of =
        record {
          finished = fin;
          header = header_is;
          info = rw (header_is, fin);
          size = size;
          reader = rw (header_is, fin);
          reads = read_is;
        }

  module _ (at : ObjectLocation) (t : ObjectType) (block : at.block < g.count) (fits : at.offset + size_at g.granularity + g.s ≤ g.size) where
    pub unfinished-of : (state_seen g.granularity (address g at.block at.offset) m ≡ done Free) ⊎ (state_seen g.granularity (address g at.block at.offset) m ≡ done (Allocated t Untrusted))
        → Unfinished g at t m
    unfolding info_at reader_at
    unfinished-of (inl e) =
        let r = header_read g at m Free (size_seen g.granularity g.s (address g at.block at.offset) m) f block fits e refl in
        record { size = 0; info = inl (rw r); reader = rw r }
    unfinished-of (inr e) =
        let r = header_read g at m (Allocated t Untrusted) (size_seen g.granularity g.s (address g at.block at.offset) m) f block fits e refl in
        record { size = size_seen g.granularity g.s (address g at.block at.offset) m; info = inr (rw r); reader = rw r }

  pub gone_of_lem : (h : ObjectHeader) (t : ObjectType) → h.location.block < g.count → h.location.offset + size_at g.granularity + g.s ≤ g.size
      → state_seen g.granularity (address g h.location.block h.location.offset) m ≡ done (Allocated t Deleted)
      → size_seen g.granularity g.s (address g h.location.block h.location.offset) m ≡ h.size → Gone g h t m
  unfolding info_at reader_at
  gone_of_lem h t block fits e n =
      let r = header_read g h.location m (Allocated t Deleted) h.size f block fits e n in
      record { info = rw r; reader = rw r }
