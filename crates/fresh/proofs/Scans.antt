-- At which cuts the block of a new object is listed to its end. The listing comes to the object's place as before; what stands there then decides:
-- with no size its payload is read as headers, with one all behind it is FF.
use mathlib.Core.Path.{◌≡◌, refl, sym, ap, ap₂, ◌∙◌, subst}
use mathlib.Core.Logic.{◌⊎◌, inl, inr, ◌≢◌}
use mathlib.Core.Bool.{Bool, true, false}
use mathlib.Core.List.{List}
use Prim.Native.Nat.{ℕ, zero, suc, ◌+◌, ◌-◌, ◌%◌, ◌≤◌, ◌<◌}
use native.Mathlib.Nat.{add-zero}
use native.Mathlib.Omega.{arith}
use lib.ListN.{length, take, get_or}
use lib.Dec.{eqb}
use borrow.Author.Tests.{eqb-true, eqb-false, ne_eqb, eq-eqb}
use Rattle.medium.specs.declared.granularity.Granularity.{Granularity}
use Rattle.medium.specs.declared.geometry.Geometry.{Geometry}
use Rattle.medium.specs.Granularity.{width_of, units_in, align_of, size_at, header, block_header}
use Rattle.medium.specs.Geometry.{check_of, address}
use Rattle.medium.specs.Units.{FlashUnit}
use Rattle.medium.specs.Operation.{apply, done, refused}
use Rattle.objects.specs.declared.types.ObjectType.{ObjectType}
use Rattle.objects.specs.declared.state.ObjectDataState.TheVariants.{Untrusted}
use Rattle.objects.specs.declared.state.CompositeObjectState.TheVariants.{Free, Allocated}
use Rattle.objects.specs.declared.location.ObjectLocation.{ObjectLocation}
use Rattle.objects.specs.declared.header.ObjectHeader.{ObjectHeader}
use Rattle.objects.specs.Numbers.{unset_of}
use Rattle.objects.specs.Types.{type_of}
use Rattle.objects.specs.Header.{header_at, payload_of}
use Rattle.objects.specs.Info.{found, none, info_at, total_of}
use Rattle.objects.specs.Listing.{placed, Visit, Stop, end, free, broken, Listing, stopped, list_from, listing}
use Rattle.blocks.specs.declared.header.BlockType.{BlockType}
use Rattle.blocks.specs.declared.header.BlockHeaderKind.TheVariants.{Known}
use Rattle.blocks.specs.declared.header.BlockHeader.{BlockHeader}
use Rattle.blocks.specs.BlockHeader.{block_header_at}
use Rattle.blocks.specs.Scan.{listed, scan_block}
use Rattle.fresh.specs.Units.{address_of, span, Clear, before}
use Rattle.fresh.specs.Fresh.{after, new_header, marks_after, Room}
use Rattle.fresh.specs.Scans.{stop_at, Ended, Text, Second, FreeEnd, CutListed, CutListings, Untyped, NoneFinished, CutShows, CutScans}
use Rattle.medium.proofs.Runs.{leb_is}
use Rattle.medium.proofs.Bytes.{fits_up}
use Rattle.medium.proofs.Places.{Laid, width_is, align_even, align_least, even_align}
use Rattle.blocks.proofs.Seen.{header_seen}
use Rattle.blocks.proofs.Scans.{scan_by_lem}
use Rattle.shown.proofs.Reading.{state_seen, size_seen, state_read, seen_free, header_of, header_read, header_back}
use Rattle.shown.proofs.Agreeing.{agree_of_lem}
use Rattle.shown.proofs.Walk.{place, span_at, span_least, info_back, Walked, walk-le, ended, walk_same}
use Rattle.shown.proofs.Steps.{at_end_lem, at_object, at-free, at-broken, free_fits, stop_behind}
use Rattle.fresh.proofs.Written.{New, begun, framed, cut_before}
use Rattle.fresh.proofs.Parts.{first_stored, first_kept, size_unset, size_least, size_stored}
use Rattle.fresh.proofs.Fresh.{laid_out, new_of, long, still, whole_with_mark}

no_type : (bs : List ℕ) → Text bs → type_of (get_or bs 0 0) ≡ refused 2
unfolding type_of
no_type bs x = rw (ne_eqb (get_or bs 0 0) 0x8F x.no_metadata, ne_eqb (get_or bs 0 0) 0x8E x.no_data, ne_eqb (get_or bs 0 0) 0x8D x.no_name, ne_eqb (get_or bs 0 0) 0xFF x.no_blank)

-- a place whose first byte is no type
broken_info : (g : Geometry) (b o : ℕ) (m : List ℕ) → check_of g (length m) ≡ 0 → b < g.count → o + size_at g.granularity ≤ g.size → type_of (get_or m (address g b o) 0) ≡ refused 2
    → info_at g (place g b o) m ≡ refused 2
unfolding info_at header_at
broken_info g b o m f hb fits e = rw (state_read g (place g b o) m f hb fits, e)

-- an FF byte is a free place
pub free_info : (g : Geometry) (b o : ℕ) (m : List ℕ) → check_of g (length m) ≡ 0 → b < g.count → o + size_at g.granularity + g.s ≤ g.size → get_or m (address g b o) 0 ≡ 255 → info_at g (place g b o) m ≡ done none
unfolding info_at
free_info g b o m f hb fits e = rw (header_read g (place g b o) m Free _ f hb fits (seen_free g.granularity (address g b o) m e) refl)

-- ---- the spans of headers

span_unset : (g : Geometry) (b s : ℕ) (o : ObjectHeader) → g.s ≡ s → o.size ≡ unset_of s → header g.granularity s % width_of g.granularity ≡ 0 → span_at g b o ≡ header g.granularity s
unfolding total_of payload_of
span_unset g b s o es e even =
    let z : eqb o.size (unset_of s) ≡ true = eq-eqb o.size (unset_of s) e in
    rw (es, z, add-zero (header g.granularity s)) (even_align g.granularity (header g.granularity s) even)

span_set : (g : Geometry) (b n : ℕ) (o : ObjectHeader) → o.size ≢ unset_of g.s → n ≤ o.size → span g.granularity g.s n ≤ span_at g b o
unfolding total_of payload_of
span_set g b n o ne c =
    rw (ne_eqb o.size (unset_of g.s) ne)
    (align_least g.granularity (header g.granularity g.s + n) (align_of (width_of g.granularity) (header g.granularity g.s + o.size))
    (omega (arith, fits_up (width_of g.granularity) (width_is g.granularity).0 (header g.granularity g.s + o.size))) (align_even g.granularity (header g.granularity g.s + o.size)))

-- ---- the listing of the object's block

module _ (g : Geometry) (at : ObjectLocation) (t : ObjectType) (pay img : List ℕ) (v : Room g at pay img) (w : FreeEnd g at img) where
  abbrev gr : Granularity
  gr = g.granularity

  abbrev H : ℕ
  H = header g.granularity g.s

  abbrev q : ℕ
  q = address_of g at

  abbrev dst : ℕ
  dst = at.block

  abbrev start : ℕ
  start = block_header g.granularity

  abbrev sp : ℕ
  sp = span g.granularity g.s (length pay)

  abbrev N : ℕ
  N = marks_after g pay

  new : New g.granularity g.s (address_of g at) pay img
  new = new_of g at pay img v

  ld : Laid g.granularity g.s (length pay)
  ld = laid_out g at pay img v

  abbrev last : ℕ → List ℕ
  last k = after g at t pay img k

  fine : (k : ℕ) → check_of g (length (last k)) ≡ 0
  fine k = still g at pay img v t k

  pub fits : at.offset + H < g.size
  unfolding listing
  fits = subst (λ (e : ℕ). e + H < g.size) w.last (free_fits g dst img v.fine g.size start w.stop)

  -- a listing that steps over what stands there, and finds a free place behind it where a header fits, ends there or at the block's end
  pub over_it : (m : List ℕ) (f : check_of g (length m) ≡ 0) (n : ℕ) (o : ObjectHeader) → info_at g at m ≡ done (found o)
      → (at.offset + span_at g dst o + H < g.size → info_at g (place g dst (at.offset + span_at g dst o)) m ≡ done none)
      → Ended (list_from (suc (suc n)) g (placed dst at.offset) m).stop
  over_it m f n o i blank = subst (λ (x : Listing). Ended x.stop) (sym (at_object g dst m f (suc n) at.offset fits o i)) (go (leb_is g.size (at.offset + span_at g dst o + H)))
    where
      go : (g.size ≤ at.offset + span_at g dst o + H) ⊎ (at.offset + span_at g dst o + H < g.size) → Ended (list_from (suc n) g (placed dst (at.offset + span_at g dst o)) m).stop
      go (inl b) = inl (ap (λ (x : Listing). x.stop) (at_end_lem g dst m f n (at.offset + span_at g dst o) b))
      go (inr b) = inr (ap (λ (x : Listing). x.stop) (at-free g dst m f n (at.offset + span_at g dst o) b (blank b)))

  -- ---- up to the object

  abbrev pub visits : List Visit
  visits = (listing g at.block img).visits

  pub walked : Walked g dst img start visits at.offset
  unfolding listing
  walked = ended g dst g.size img start at.offset w.stop w.last

  pub few : start + length visits ≤ at.offset
  few = walk-le g dst img v.fine visits start at.offset walked

  -- how many more headers may be read
  abbrev more : ℕ
  more = g.size - length visits - 2

  fuel : g.size - length visits ≡ suc (suc more)
  fuel = omega (arith, few, fits, ld)

  -- off the object's span a cut leaves every byte
  pub off_object : (k j : ℕ) → Clear q (q + sp) j → get_or (last k) j 0 ≡ get_or img j 0
  off_object k j d = framed gr g.s t q pay img new k j d

  abbrev from_there : ℕ → Listing
  from_there k = list_from (suc (suc more)) g (placed at.block at.offset) (last k)

  there : (k : ℕ) → stop_at g at t pay img k ≡ (from_there k).stop
  unfolding listing
  there k =
      stop_behind g dst (last k) (fine k) visits start at.offset g.size
      (walk_same g dst img (last k) v.fine visits start at.offset walked (agree_of_lem g dst start at.offset img (last k) (long g at pay img v t k) (λ j a b. off_object k j (inl b)))) (omega (arith, few, fits))
      ∙ ap (λ (n : ℕ). (list_from n g (placed dst at.offset) (last k)).stop) fuel

  -- ---- behind it

  -- a place behind the object's span is free
  pub behind_free : (k x : ℕ) → sp ≤ x → at.offset + x + H < g.size → info_at g (place g dst (at.offset + x)) (last k) ≡ done none
  behind_free k x a b =
      let ad : address g dst (at.offset + x) ≡ q + x = omega arith in
      free_info g dst (at.offset + x) (last k) (fine k) v.block (omega (arith, ld))
      (ap (λ (j : ℕ). get_or (last k) j 0) ad ∙ off_object k (q + x) (inr (omega arith)) ∙ w.erased x (omega arith))

  -- so a listing that steps over the object ends there, or at the block's end
  behind_it_lem : (k : ℕ) (o : ObjectHeader) → info_at g at (last k) ≡ done (found o) → sp ≤ span_at g dst o → Ended (from_there k).stop
  behind_it_lem k o i a = over_it (last k) (fine k) more o i (λ b. behind_free k (span_at g dst o) a b)

  -- where no second header fits, any object is the last
  no_second : (k : ℕ) (o : ObjectHeader) → info_at g at (last k) ≡ done (found o) → g.size ≤ at.offset + H + H → Ended (from_there k).stop
  no_second k o i b = over_it (last k) (fine k) more o i (λ c. absurd (omega (arith, span_least g dst (last k) (fine k) o)))

  -- with no size the listing goes on behind the header
  after_header : (k : ℕ) (o : ObjectHeader) → info_at g at (last k) ≡ done (found o) → o.size ≡ unset_of g.s → (from_there k).stop ≡ (list_from (suc more) g (placed dst (at.offset + H)) (last k)).stop
  after_header k o i e =
      ap (λ (x : Listing). x.stop) (at_object g dst (last k) (fine k) (suc more) at.offset fits o i)
      ∙ ap (λ (x : ℕ). (list_from (suc more) g (placed dst (at.offset + x)) (last k)).stop) (span_unset g dst g.s o refl e ld.header_even)

  -- ---- what stands there before the finish mark

  as_begun : (k : ℕ) → k ≤ N → last k ≡ apply (take k (before gr g.s t pay q)) img
  as_begun k c = ap (λ (u : List FlashUnit). apply u img) (cut_before gr g.s t q pay k c)

  begun_info : (k : ℕ) → suc k ≤ N → info_at g at (last (suc k)) ≡ done (found (header_of (Allocated t Untrusted) (size_seen gr g.s q (last (suc k))) at))
  unfolding info_at
  begun_info k c =
      rw (header_read g at (last (suc k)) (Allocated t Untrusted) (size_seen gr g.s q (last (suc k))) (fine (suc k)) v.block (omega (arith, ld, fits))
      (ap (state_seen gr q) (as_begun (suc k) c) ∙ begun gr g.s t q pay img new k) refl)

  -- the size that its header has is the one seen
  size_of : (k : ℕ) (o : ObjectHeader) → info_at g at (last k) ≡ done (found o) → size_seen gr g.s q (last k) ≡ o.size
  size_of k o i = (header_back g at (last k) o (info_back g dst at.offset (last k) o i)).size_is

  -- ---- the phases

  unset_at : Text pay → Second g at → (k : ℕ) (o : ObjectHeader) → 2 ≤ k → k ≤ N → info_at g at (last k) ≡ done (found o) → o.size ≡ unset_of g.s → (from_there k).stop ≡ broken 2
  unset_at x second k o a c i e =
      let ad : address g dst (at.offset + H) ≡ q + H = omega arith in
      let byte : get_or (last k) (address g dst (at.offset + H)) 0 ≡ get_or pay 0 0 =
      ap₂ (λ (m : List ℕ) (j : ℕ). get_or m j 0) (as_begun k c) ad ∙ first_stored gr g.s t q pay img new k a x.some in
      after_header k o i e
      ∙ ap (λ (y : Listing). y.stop)
      (at-broken g dst (last k) (fine k) more (at.offset + H) second 2
      (broken_info g dst (at.offset + H) (last k) (fine k) v.block (omega (arith, ld)) (ap type_of byte ∙ no_type pay x)))

  set_at : (k : ℕ) (o : ObjectHeader) → k ≤ N → info_at g at (last k) ≡ done (found o) → o.size ≢ unset_of g.s → Ended (from_there k).stop
  set_at k o c i ne =
      let least : length pay ≤ size_seen gr g.s q (last k) = subst (λ (m : List ℕ). length pay ≤ size_seen gr g.s q m) (sym (as_begun k c)) (size_least gr g.s t q pay img new k) in
      behind_it_lem k o i (span_set g dst (length pay) o ne (omega (arith, size_of k o i)))

  type_alone : (k : ℕ) → k ≡ 1 → Ended (from_there k).stop
  type_alone zero e = absurd (omega arith)
  type_alone (suc k) e =
      let c : suc k ≤ N = omega arith in
      let unset : size_seen gr g.s q (last (suc k)) ≡ unset_of g.s = ap (size_seen gr g.s q) (as_begun (suc k) c) ∙ size_unset gr g.s t q pay img new (suc k) (omega arith) in
      subst Ended (sym (after_header (suc k) (header_of (Allocated t Untrusted) (size_seen gr g.s q (last (suc k))) at) (begun_info k c) unset)) (go (leb_is g.size (at.offset + H + H)))
    where
      go : (g.size ≤ at.offset + H + H) ⊎ (at.offset + H + H < g.size) → Ended (list_from (suc more) g (placed dst (at.offset + H)) (last (suc k))).stop
      go (inl b) = inl (ap (λ (x : Listing). x.stop) (at_end_lem g dst (last (suc k)) (fine (suc k)) more (at.offset + H) b))
      go (inr b) =
          let ad : address g dst (at.offset + H) ≡ q + H = omega arith in
          let byte : get_or (last (suc k)) (address g dst (at.offset + H)) 0 ≡ 255 =
          ap₂ (λ (m : List ℕ) (j : ℕ). get_or m j 0) (as_begun (suc k) (omega arith)) ad ∙ first_kept gr g.s t q pay img new (suc k) (omega arith)
          ∙ w.erased H (omega arith) in
          inr (ap (λ (x : Listing). x.stop)
          (at-free g dst (last (suc k)) (fine (suc k)) more (at.offset + H) b (free_info g dst (at.offset + H) (last (suc k)) (fine (suc k)) v.block (omega (arith, ld)) byte)))

  text_at : Text pay → Second g at → (k : ℕ) → 2 ≤ k → k ≤ 1 + units_in (width_of gr) (length pay) → (from_there k).stop ≡ broken 2
  text_at x second zero a b = absurd (omega arith)
  text_at x second (suc k) a b =
      let c : suc k ≤ N = omega arith in
      let unset : size_seen gr g.s q (last (suc k)) ≡ unset_of g.s = ap (size_seen gr g.s q) (as_begun (suc k) c) ∙ size_unset gr g.s t q pay img new (suc k) (omega arith) in
      unset_at x second (suc k) (header_of (Allocated t Untrusted) (size_seen gr g.s q (last (suc k))) at) a c (begun_info k c) unset

  -- the object with its finish mark
  finished_info : (k : ℕ) → N + 1 ≤ k → info_at g at (last k) ≡ done (found (new_header at t pay))
  finished_info k c = (whole_with_mark g at pay img v t k c).info

  pub finished_span : sp ≤ span_at g dst (new_header at t pay)
  finished_span = span_set g dst (length pay) (new_header at t pay) (λ e. omega (arith, new.small)) (omega arith)

  sized_at_lem : (k : ℕ) → N ≤ k → Ended (from_there k).stop
  sized_at_lem zero a = absurd (omega arith)
  sized_at_lem (suc k) a = go (leb_is (suc k) N)
    where
      go : (suc k ≤ N) ⊎ (N < suc k) → Ended (from_there (suc k)).stop
      go (inl c) =
          let stored : size_seen gr g.s q (last (suc k)) ≡ length pay = ap (size_seen gr g.s q) (as_begun (suc k) c) ∙ size_stored gr g.s t q pay img new (suc k) (omega arith) in
          set_at (suc k) (header_of (Allocated t Untrusted) (size_seen gr g.s q (last (suc k))) at) c (begun_info k c) (λ e. omega (arith, stored, new.small))
      go (inr c) = behind_it_lem (suc k) (new_header at t pay) (finished_info (suc k) (omega arith)) finished_span

  narrow_at : g.size ≤ at.offset + H + H → (k : ℕ) → Ended (from_there (suc k)).stop
  narrow_at b k = go (leb_is (suc k) N)
    where
      go : (suc k ≤ N) ⊎ (N < suc k) → Ended (from_there (suc k)).stop
      go (inl d) = no_second (suc k) (header_of (Allocated t Untrusted) (size_seen gr g.s q (last (suc k))) at) (begun_info k d) b
      go (inr d) = no_second (suc k) (new_header at t pay) (finished_info (suc k) (omega arith)) b

  ended_at : (k : ℕ) → Ended (from_there k).stop → Ended (stop_at g at t pay img k)
  ended_at k e = subst Ended (sym (there k)) e

  begun_all : (k : ℕ) → k ≤ 1 → Ended (stop_at g at t pay img k)
  begun_all zero c = inr w.stop
  begun_all (suc k) c = ended_at (suc k) (type_alone (suc k) (omega arith))

  narrow_all : g.size ≤ at.offset + H + H → (k : ℕ) → Ended (stop_at g at t pay img k)
  narrow_all b zero = inr w.stop
  narrow_all b (suc k) = ended_at (suc k) (narrow_at b k)

  cut_listed : CutListed g at t pay img
  cut_listed =
      record {
        begun = begun_all;
        text = λ x second k a b. there k ∙ text_at x second k a b;
        sized = λ k a. ended_at k (sized_at_lem k a);
        unset = λ x second k o a b i e. there k ∙ unset_at x second k o a b i e;
        set = λ k o b i ne. ended_at k (set_at k o b i ne);
        narrow = narrow_all;
      }

  -- ---- nothing finished is shown before the mark

  none_shown : (l : Listing) (o : ℕ) (s : Stop) → l ≡ stopped (placed dst o) s → NoneFinished l.visits
  none_shown l o s e = subst (λ (x : Listing). NoneFinished x.visits) (sym e) tt

  -- behind the object's span, or its header where it has no size yet
  shown_behind : (k n x : ℕ) → (at.offset + x + H < g.size → (info_at g (place g dst (at.offset + x)) (last k) ≡ done none) ⊎ (info_at g (place g dst (at.offset + x)) (last k) ≡ refused 2))
      → NoneFinished (list_from n g (placed dst (at.offset + x)) (last k)).visits
  unfolding list_from
  shown_behind k zero x f = tt
  shown_behind k (suc n) x f = go (leb_is g.size (at.offset + x + H))
    where
      met : at.offset + x + H < g.size → (info_at g (place g dst (at.offset + x)) (last k) ≡ done none) ⊎ (info_at g (place g dst (at.offset + x)) (last k) ≡ refused 2)
          → NoneFinished (list_from (suc n) g (placed dst (at.offset + x)) (last k)).visits
      met b (inl i) = none_shown _ (at.offset + x) free (at-free g dst (last k) (fine k) n (at.offset + x) b i)
      met b (inr i) = none_shown _ (at.offset + x) (broken 2) (at-broken g dst (last k) (fine k) n (at.offset + x) b 2 i)

      go : (g.size ≤ at.offset + x + H) ⊎ (at.offset + x + H < g.size) → NoneFinished (list_from (suc n) g (placed dst (at.offset + x)) (last k)).visits
      go (inl b) = none_shown _ (at.offset + x) end (at_end_lem g dst (last k) (fine k) n (at.offset + x) b)
      go (inr b) = met b (f b)

  -- the first byte of the payload is not stored, or is no type
  first_byte : Untyped pay → (k : ℕ) → suc k ≤ N → at.offset + H + H < g.size
      → (info_at g (place g dst (at.offset + H)) (last (suc k)) ≡ done none) ⊎ (info_at g (place g dst (at.offset + H)) (last (suc k)) ≡ refused 2)
  first_byte x k c b = go (leb_is 2 (suc k))
    where
      ad : address g dst (at.offset + H) ≡ q + H
      ad = omega arith

      go : (2 ≤ suc k) ⊎ (suc k < 2) → (info_at g (place g dst (at.offset + H)) (last (suc k)) ≡ done none) ⊎ (info_at g (place g dst (at.offset + H)) (last (suc k)) ≡ refused 2)
      go (inl a) = stored (ap₂ (λ (m : List ℕ) (j : ℕ). get_or m j 0) (as_begun (suc k) c) ad ∙ first_stored gr g.s t q pay img new (suc k) a x.some) (eqb (get_or pay 0 0) 255) refl
        where
          -- FF reads as a free place
          stored : get_or (last (suc k)) (address g dst (at.offset + H)) 0 ≡ get_or pay 0 0 → (f : Bool) → eqb (get_or pay 0 0) 255 ≡ f
              → (info_at g (place g dst (at.offset + H)) (last (suc k)) ≡ done none) ⊎ (info_at g (place g dst (at.offset + H)) (last (suc k)) ≡ refused 2)
          stored byte true e = inl (free_info g dst (at.offset + H) (last (suc k)) (fine (suc k)) v.block (omega (arith, ld)) (byte ∙ eqb-true (get_or pay 0 0) 255 e))
          stored byte false e =
              let text : Text pay = record { some = x.some; no_metadata = x.no_metadata; no_data = x.no_data; no_name = x.no_name; no_blank = eqb-false (get_or pay 0 0) 255 e } in
              inr (broken_info g dst (at.offset + H) (last (suc k)) (fine (suc k)) v.block (omega (arith, ld)) (ap type_of byte ∙ no_type pay text))
      go (inr a) =
          let byte : get_or (last (suc k)) (address g dst (at.offset + H)) 0 ≡ 255 =
          ap₂ (λ (m : List ℕ) (j : ℕ). get_or m j 0) (as_begun (suc k) c) ad ∙ first_kept gr g.s t q pay img new (suc k) (omega arith) ∙ w.erased H (omega arith) in
          inl (free_info g dst (at.offset + H) (last (suc k)) (fine (suc k)) v.block (omega (arith, ld)) byte)

  cut_shows_at : Untyped pay → (k n : ℕ) → k ≤ N → NoneFinished (list_from n g (placed dst at.offset) (last k)).visits
  unfolding list_from
  cut_shows_at x k zero c = tt
  cut_shows_at x zero (suc n) c =
      none_shown _ at.offset free
      (at-free g dst (last zero) (fine zero) n at.offset fits
      (free_info g dst at.offset (last zero) (fine zero) v.block (omega (arith, ld, fits)) blank-there))
    where
      blank-there : get_or (last zero) (address g dst at.offset) 0 ≡ 255
      blank-there = let z : address g dst at.offset ≡ q + 0 = omega arith in ap (λ (j : ℕ). get_or img j 0) z ∙ w.erased 0 (omega (arith, fits))
  cut_shows_at x (suc k) (suc n) c =
      let o : ObjectHeader = header_of (Allocated t Untrusted) (size_seen gr g.s q (last (suc k))) at in
      let i : info_at g at (last (suc k)) ≡ done (found o) = begun_info k c in
      subst (λ (l : Listing). NoneFinished l.visits) (sym (at_object g dst (last (suc k)) (fine (suc k)) n at.offset fits o i))
      ((λ e. omega arith), go (eqb (size_seen gr g.s q (last (suc k))) (unset_of g.s)) refl)
    where
      go : (s : Bool) → eqb (size_seen gr g.s q (last (suc k))) (unset_of g.s) ≡ s
          → NoneFinished (list_from n g (placed dst (at.offset + span_at g dst (header_of (Allocated t Untrusted) (size_seen gr g.s q (last (suc k))) at))) (last (suc k))).visits
      go true e =
          subst (λ (y : ℕ). NoneFinished (list_from n g (placed dst (at.offset + y)) (last (suc k))).visits)
          (sym (span_unset g dst g.s (header_of (Allocated t Untrusted) (size_seen gr g.s q (last (suc k))) at) refl (eqb-true _ _ e) ld.header_even))
          (shown_behind (suc k) n H (λ b. first_byte x k c b))
      go false e =
          let least : length pay ≤ size_seen gr g.s q (last (suc k)) = subst (λ (m : List ℕ). length pay ≤ size_seen gr g.s q m) (sym (as_begun (suc k) c)) (size_least gr g.s t q pay img new (suc k)) in
          let far : sp ≤ span_at g dst (header_of (Allocated t Untrusted) (size_seen gr g.s q (last (suc k))) at) = span_set g dst (length pay) (header_of (Allocated t Untrusted) (size_seen gr g.s q (last (suc k))) at) (eqb-false _ _ e) least in
          shown_behind (suc k) n (span_at g dst (header_of (Allocated t Untrusted) (size_seen gr g.s q (last (suc k))) at)) (λ b. inl (behind_free (suc k) (span_at g dst (header_of (Allocated t Untrusted) (size_seen gr g.s q (last (suc k))) at)) far b))

  -- ---- a scan

  cut_scanned : (b : BlockHeader) (kind : BlockType) → block_header_at g at.block img ≡ done b → b.kind ≡ Known kind → (k : ℕ) → scan_block g at.block (last k) ≡ listed b false (listing g at.block (last k))
  cut_scanned b kind h known k =
      scan_by_lem g at.block b (last k) (Known kind)
      (header_seen g at.block img (last k) (long g at pay img v t k) (λ o d. off_object k (address g at.block o) (inl (omega (arith, few)))) ∙ h) known

pub cut_listings : CutListings
unfolding CutListings
cut_listings g at t pay img v w = cut_listed g at t pay img v w

pub cut_scans : CutScans
unfolding CutScans
cut_scans g at t pay img v w b kind h known k = cut_scanned g at t pay img v w b kind h known k

pub cut_shows : CutShows
unfolding CutShows
cut_shows g at t pay img v w x k n c = cut_shows_at g at t pay img v w x k n c
