-- The strict mark at objects: it changes no answer that is read off the image, and a store of a state or a size it can only stop.
use mathlib.Core.Path.{◌≡◌, refl}
use mathlib.Core.List.{List, ◌∷◌, []}
use mathlib.Core.Bool.{Bool, true, false}
use Prim.Native.Nat.{ℕ, zero, suc, ◌+◌}
use lib.ListN.{length}
use lib.Dec.{leb, ltb, eqb}
use Rattle.medium.specs.declared.geometry.Geometry.{Geometry}
use Rattle.medium.specs.Granularity.{pick, size_at, header}
use Rattle.medium.specs.Geometry.{check_of}
use Rattle.medium.specs.Operation.{flash, done, refused, Answer, and_then, or_refuse}
use Rattle.medium.specs.Marked.{Fresh, UnderMark, with_strict, Beside}
use Rattle.medium.proofs.Marked.{kept_under, test_under, bind_under, pick_under, admit_same, read_same, write_under}
use Rattle.objects.specs.declared.types.ObjectType.{ObjectType}
use Rattle.objects.specs.declared.state.ObjectDataState.{ObjectDataState}
use Rattle.objects.specs.declared.state.ObjectDataState.TheVariants.{Valid, Deleted}
use Rattle.objects.specs.declared.state.CompositeObjectState.{CompositeObjectState}
use Rattle.objects.specs.declared.state.CompositeObjectState.TheVariants as comp
use Rattle.objects.specs.declared.state.ObjectState.{ObjectState}
use Rattle.objects.specs.declared.state.ObjectState.TheVariants as state
use Rattle.objects.specs.declared.location.ObjectLocation.{ObjectLocation}
use Rattle.objects.specs.declared.header.ObjectHeader.{ObjectHeader}
use Rattle.objects.specs.declared.iterator.ObjectIterator.{ObjectIterator}
use Rattle.objects.specs.Numbers.{bytes}
use Rattle.objects.specs.Types.{rank_to, mark_at, mark_byte}
use Rattle.objects.specs.Header.{state_at, sized_at, header_at, marking, step_to, set_state, stayed, staying, update_state, sizable_of, set_payload_size}
use Rattle.objects.specs.Info.{Info, found, none, info_at}
use Rattle.objects.specs.Reader.{reader_at}
use Rattle.objects.specs.Listing.{Met, object, free_place, block_end, start_of, next_in, next_of, at_end, list_by, list_from, listing}

module _ (g : Geometry) (m : ℕ) (v : Beside g m) where
  -- ---- what is read off the image

  pub state_same : (at : ObjectLocation) (img : List ℕ) → state_at g at img ≡ state_at (with_strict g m) at img
  unfolding state_at
  state_same at img = rw (read_same g m v at.block at.offset (size_at g.granularity) img)

  sized_same : (at : ObjectLocation) (st : CompositeObjectState) (img : List ℕ) → sized_at g at st img ≡ sized_at (with_strict g m) at st img
  unfolding sized_at
  sized_same at st img = rw (read_same g m v at.block (at.offset + size_at g.granularity) g.s img)

  pub header_same : (at : ObjectLocation) (img : List ℕ) → header_at g at img ≡ header_at (with_strict g m) at img
  unfolding header_at
  header_same at img = rw (state_same at img) (go (state_at (with_strict g m) at img))
    where
      go : (a : Answer CompositeObjectState) → and_then a (λ st. sized_at g at st img) ≡ and_then a (λ st. sized_at (with_strict g m) at st img)
      go (done st) = sized_same at st img
      go (refused n) = refl

  pub reader_same : (at : ObjectLocation) (unfinished : Bool) (img : List ℕ) → reader_at g at unfinished img ≡ reader_at (with_strict g m) at unfinished img
  unfolding reader_at
  reader_same at unfinished img = rw (header_same at img)

  info_same : (at : ObjectLocation) (img : List ℕ) → info_at g at img ≡ info_at (with_strict g m) at img
  unfolding info_at
  info_same at img = rw (header_same at img)

  pub check_same : (room : ℕ) → check_of g room ≡ check_of (with_strict g m) room
  check_same room = admit_same g m v room 0

  pub next_same : (i : ObjectIterator) (img : List ℕ) → next_of g i img ≡ next_of (with_strict g m) i img
  unfolding next_of
  next_same i img = rw (check_same (length img)) (go (or_refuse (check_of (with_strict g m) (length img))))
    where
      met : (a : Answer Info) → next_in g i a ≡ next_in (with_strict g m) i a
      met (done (found h)) = refl
      met (done none) = refl
      met (refused n) = refl

      end : (t : Bool) → pick t (done block_end) (next_in g i (info_at g i.location img)) ≡ pick t (done block_end) (next_in (with_strict g m) i (info_at (with_strict g m) i.location img))
      end true = refl
      end false = rw (info_same i.location img) (met (info_at (with_strict g m) i.location img))

      go : (a : Answer (Unit {0})) → at_end g i a img ≡ at_end (with_strict g m) i a img
      go (done _) = end (leb g.size (i.location.offset + header g.granularity g.s))
      go (refused n) = refl

  list_same : (n : ℕ) (i : ObjectIterator) (img : List ℕ) → list_from n g i img ≡ list_from n (with_strict g m) i img
  unfolding list_from
  list_same zero i img = refl
  list_same (suc n) i img = rw (next_same i img) (go (next_of (with_strict g m) i img) (λ j. list_same n j img))
    where
      go : (a : Answer Met) → ((j : ObjectIterator) → list_from n g j img ≡ list_from n (with_strict g m) j img)
          → list_by a i (λ j. list_from n g j img) ≡ list_by a i (λ j. list_from n (with_strict g m) j img)
      go (done (object h j)) k = rw (k j)
      go (done free_place) k = refl
      go (done block_end) k = refl
      go (refused n) k = refl

  pub listing_same : (b : ℕ) (img : List ℕ) → listing g b img ≡ listing (with_strict g m) b img
  unfolding listing
  listing_same b img = list_same g.size (start_of g b) img

  -- ---- stores

  marking_under : (h : ObjectHeader) (t : ObjectType) (to : ObjectDataState) → UnderMark (marking g h t to) (marking (with_strict g m) h t to)
  unfolding marking
  marking_under h t to =
      bind_under flash Fresh _ _ _ _ (write_under g m v h.location.block (h.location.offset + mark_at g.granularity to) (mark_byte g.granularity to ∷ [])) (λ _. kept_under flash Fresh _)

  step_under : (h : ObjectHeader) (to : ObjectDataState) (st : CompositeObjectState) → UnderMark (step_to g h to st) (step_to (with_strict g m) h to st)
  step_under h to comp.Free = kept_under flash Fresh _
  step_under h to (comp.Allocated t d) =
      pick_under flash Fresh (eqb (rank_to d) (rank_to to)) _ _ _ _ (kept_under flash Fresh _)
      (pick_under flash Fresh (ltb (rank_to to) (rank_to d)) _ _ _ _ (kept_under flash Fresh _) (marking_under h t to))

  pub set_state_under : (h : ObjectHeader) (to : ObjectDataState) → UnderMark (set_state g h to) (set_state (with_strict g m) h to)
  unfolding set_state
  set_state_under h to = bind_under flash Fresh _ _ _ _ (test_under flash Fresh _ _ (λ img. check_same (length img))) (λ _. step_under h to h.state)

  staying_under : (h : ObjectHeader) (to : ℕ) → UnderMark (staying g h to) (staying (with_strict g m) h to)
  unfolding staying
  staying_under h to = bind_under flash Fresh _ _ _ _ (test_under flash Fresh _ _ (λ img. admit_same g m v (length img) (stayed h to))) (λ _. kept_under flash Fresh _)

  pub update_state_under : (h : ObjectHeader) (to : ObjectState) → UnderMark (update_state g h to) (update_state (with_strict g m) h to)
  unfolding update_state
  update_state_under h state.Free = staying_under h 0
  update_state_under h state.Allocated = staying_under h 1
  update_state_under h state.Finalized = set_state_under h Valid
  update_state_under h state.Deleted = set_state_under h Deleted

  pub set_payload_size_under : (h : ObjectHeader) (n : ℕ) → UnderMark (set_payload_size g h n) (set_payload_size (with_strict g m) h n)
  unfolding set_payload_size sizable_of
  set_payload_size_under h n =
      bind_under flash Fresh _ _ _ _ (test_under flash Fresh _ _ (λ img. admit_same g m v (length img) _))
      (λ _. bind_under flash Fresh _ _ _ _ (write_under g m v h.location.block (h.location.offset + size_at g.granularity) (bytes g.s n)) (λ _. kept_under flash Fresh _))
