-- What each step of a pass stores: a property that its writes, erases and fields have is one of all its events.
use mathlib.Core.Path.{◌≡◌, refl}
use mathlib.Core.Bool.{Bool, true, false}
use mathlib.Core.List.{List, [], ◌∷◌}
use Prim.Native.Nat.{ℕ, ◌+◌, ◌-◌, ◌*◌, ◌<◌}
use native.Mathlib.Omega.{arith}
use lib.Dec.{leb, ltb, eqb}
use lib.ListN.{length}
use borrow.Author.Tests.{eqb-true}
use Rattle.medium.specs.declared.geometry.Geometry.{Geometry}
use Rattle.medium.specs.All.{All}
use Rattle.medium.specs.Granularity.{pick, size_at, delete_at, header}
use Rattle.medium.specs.Geometry.{check_of}
use Rattle.medium.specs.Units.{FlashUnit}
use Rattle.medium.specs.Operation.{flash, happen, Answer, done, refused, Op, ◌>>=◌, ask, test, give, refuse, putting}
use Rattle.medium.specs.Medium.{write, erase}
use Rattle.medium.specs.Beside.{Event, unit, field, Both, beside, on_image}
use Rattle.medium.proofs.Runs.{bound}
use Rattle.medium.proofs.Beside.{image_each, fields_each}
use Rattle.medium.proofs.Events.{bind_each, ask_each, test_each, asked_each}
use Rattle.objects.specs.declared.state.CompositeObjectState.{CompositeObjectState}
use Rattle.objects.specs.declared.state.CompositeObjectState.TheVariants as comp
use Rattle.objects.specs.declared.state.ObjectDataState.TheVariants as data-state
use Rattle.objects.specs.declared.state.ObjectState.TheVariants as object-state
use Rattle.objects.specs.declared.types.ObjectType.{ObjectType}
use Rattle.objects.specs.declared.location.ObjectLocation.{ObjectLocation}
use Rattle.objects.specs.declared.header.ObjectHeader.{ObjectHeader}
use Rattle.std.specs.Prelude.{Option, Some, None}
use Rattle.objects.specs.Numbers.{bytes}
use Rattle.objects.specs.Types.{rank_of, rank_to}
use Rattle.objects.specs.Payload.{payload_at}
use Rattle.objects.specs.Header.{payload_size_of, marking, step_to, set_state, update_state, sizable_of, with_size, set_payload_size}
use Rattle.objects.specs.Listing.{listing}
use Rattle.blocks.specs.declared.header.BlockHeaderKind.{BlockHeaderKind}
use Rattle.blocks.specs.declared.header.BlockHeaderKind.TheVariants.{Empty, Unknown, Known}
use Rattle.blocks.specs.declared.record.BlockInfo.{BlockInfo}
use Rattle.blocks.specs.BlockHeader.{header_bytes, write_header}
use Rattle.blocks.specs.Format.{Planned, keep, label, renew, plan_at, undefined, labelling, carry_out, format_block}
use Rattle.blocks.specs.Format as format
use Rattle.blocks.specs.Record.{erased_record, record_numbers}
use Rattle.blocks.specs.Scan.{is_allocated}
use Rattle.collector.specs.Table.{Pass, allow_mark, record_length, field_at, storing, allowing}
use Rattle.collector.specs.Passes.{delete_object, repair_by, repairing, repaired, visit_one, worn_by, worn_out, formatting, renewing, erasing_by, erasing, unfinished_in, deleted_in, erase_invalid_finished_block, erase_full_finished_block}

-- ---- the repair of an unfinished object: its delete mark, and its size where it has none

-- the stores of the two at a place have the property
pub record Marks (P : FlashUnit → Type 0) (g : Geometry) (at : ObjectLocation) : Type 0 where
  pub mark : (img : List ℕ) → All P (write g at.block (at.offset + delete_at g.granularity) (0 ∷ []) img).events

pub record Sizes (P : FlashUnit → Type 0) (g : Geometry) (at : ObjectLocation) : Type 0 where
  pub size : (n : ℕ) (img : List ℕ) → All P (write g at.block (at.offset + size_at g.granularity) (bytes g.s n) img).events

-- the header that comes back from a store of the size
pub sized_as : (g : Geometry) (h v : ObjectHeader) (n : ℕ) (img : List ℕ) → (set_payload_size g h n img).answer ≡ done v → v ≡ with_size h n
unfolding set_payload_size ask
sized_as g h v n img e =
    let x = bound (test (λ i. sizable_of g h (length i))) (λ _. write g h.location.block (h.location.offset + size_at g.granularity) (bytes g.s n) >>= λ _. give (with_size h n)) img v e in
    let y = bound (write g h.location.block (h.location.offset + size_at g.granularity) (bytes g.s n)) (λ _. give (with_size h n)) (happen flash (test {W = flash} (λ i. sizable_of g h (length i)) img).events img) v x.second in
    let q : ◌≡◌ {A = Answer ObjectHeader} (done (with_size h n)) (done v) = y.second in
    cc

module _ (P : FlashUnit → Type 0) (g : Geometry) where
  marking_units : (h : ObjectHeader) (t : ObjectType) (img : List ℕ) → Marks P g h.location → All P (marking g h t data-state.Deleted img).events
  unfolding marking
  marking_units h t img k =
      bind_each flash P (write g h.location.block (h.location.offset + delete_at g.granularity) (0 ∷ []))
      (λ _. give (record { state = comp.Allocated t data-state.Deleted; size = h.size; location = h.location })) img
      (k.mark img) (λ _ _. ask_each flash P _ _)

  step_units : (h : ObjectHeader) (st : CompositeObjectState) (img : List ℕ) → Marks P g h.location → All P (step_to g h data-state.Deleted st img).events
  step_units h comp.Free img k = ask_each flash P _ img
  step_units h (comp.Allocated t d) img k = go (eqb (rank_to d) 3) (ltb 3 (rank_to d))
    where
      go : (x y : Bool) → All P (pick {A = Op ObjectHeader} x (give h) (pick {A = Op ObjectHeader} y (refuse 4) (marking g h t data-state.Deleted)) img).events
      go true y = ask_each flash P _ img
      go false true = ask_each flash P _ img
      go false false = marking_units h t img k

  state_units : (h : ObjectHeader) (img : List ℕ) → Marks P g h.location → All P (update_state g h object-state.Deleted img).events
  unfolding update_state set_state
  state_units h img k =
      bind_each flash P (test (λ i. check_of g (length i))) (λ _. step_to g h data-state.Deleted h.state) img (test_each flash P (λ i. check_of g (length i)) img)
      (λ _ _. step_units h h.state _ k)

  delete_units_lem : (h : ObjectHeader) (img : List ℕ) → Marks P g h.location → All P (delete_object g h img).events
  delete_units_lem h img k = bind_each flash P (update_state g h object-state.Deleted) (λ _. give true) img (state_units h img k) (λ _ _. ask_each flash P _ _)

  size_units_lem : (h : ObjectHeader) (n : ℕ) (img : List ℕ) → Sizes P g h.location → All P (set_payload_size g h n img).events
  unfolding set_payload_size
  size_units_lem h n img k =
      bind_each flash P (test (λ i. sizable_of g h (length i)))
      (λ _. write g h.location.block (h.location.offset + size_at g.granularity) (bytes g.s n) >>= λ _. give (with_size h n)) img
      (test_each flash P (λ i. sizable_of g h (length i)) img)
      (λ _ _. bind_each flash P (write g h.location.block (h.location.offset + size_at g.granularity) (bytes g.s n)) (λ _. give (with_size h n)) _
      (k.size n _) (λ _ _. ask_each flash P _ _))

  repair_by_units : (h : ObjectHeader) (n : ℕ) (p : Option ℕ) (img : List ℕ) → Marks P g h.location → (p ≡ None → Sizes P g h.location)
      → All P (repair_by g h n p img).events
  unfolding repair_by
  repair_by_units h n (Some m) img k z = go (eqb m n)
    where
      go : (t : Bool) → All P (pick {A = Op Bool} t (give false) (delete_object g h) img).events
      go true = ask_each flash P _ img
      go false = delete_units_lem h img k
  repair_by_units h n None img k z =
      bind_each flash P (set_payload_size g h n) (λ v. delete_object g v) img (size_units_lem h n img (z refl))
      (λ v e. delete_units_lem v _ (rw (sized_as g h v n img e) k))

  repair_units : (h : ObjectHeader) (used : ℕ) (img : List ℕ) → Marks P g h.location → (payload_size_of g.s h ≡ None → Sizes P g h.location)
      → All P (repairing g h used img).events
  unfolding repairing
  repair_units h used img k z =
      bind_each flash P (test (λ _. pick (ltb used (payload_at g h)) 9 0)) (λ _. repair_by g h (used - payload_at g h) (payload_size_of g.s h)) img
      (test_each flash P (λ _. pick (ltb used (payload_at g h)) 9 0) img)
      (λ _ _. repair_by_units h (used - payload_at g h) (payload_size_of g.s h) _ k z)

-- ---- a visit: the repair and the allow mark, for an unfinished object alone

pub record Visited (P : Event → Type 0) (g : Geometry) (b : ℕ) (h : ObjectHeader) : Type 0 where
  pub marks : Marks (λ u. P (unit u)) g h.location
  pub sizes : payload_size_of g.s h ≡ None → Sizes (λ u. P (unit u)) g h.location
  pub allows : P (field (field_at b allow_mark) 1)

module _ (P : Event → Type 0) (g : Geometry) (b : ℕ) where
  repaired_each : (d : Bool) (s : Both) → P (field (field_at b allow_mark) 1) → All P (repaired b d s).events
  unfolding repaired allowing putting ask ◌>>=◌
  repaired_each true s h = (h, tt)
  repaired_each false s h = tt

  pub visit_each : (used : ℕ) (h : ObjectHeader) (s : Both) → (rank_of h.state ≡ 1 → Visited P g b h) → All P (visit_one g b used h s).events
  unfolding visit_one
  visit_each used h s k = go (is_allocated h) refl
    where
      go : (t : Bool) → is_allocated h ≡ t → All P (pick {A = Pass Bool} t (on_image (repairing g h used) >>= λ d. repaired b d) (give true) s).events
      go true e =
          let v = k (eqb-true _ _ e) in
          bind_each beside P (on_image (repairing g h used)) (λ d. repaired b d) s
          (image_each P (repairing g h used) s (repair_units (λ u. P (unit u)) g h used s.image v.marks v.sizes))
          (λ d _. repaired_each d (happen beside (on_image (repairing g h used) s).events s) v.allows)
      go false e = ask_each beside P (λ _. done true) s

-- ---- a step on a block: writes and erases of the block, and fields of its record

pub record Own (P : Event → Type 0) (g : Geometry) (b : ℕ) : Type 0 where
  pub writes : (o : ℕ) (bs img : List ℕ) → All (λ u. P (unit u)) (write g b o bs img).events
  pub words : (i v : ℕ) → i < record_length → P (field (field_at b i) v)

module _ (P : Event → Type 0) (g : Geometry) (b : ℕ) (own : Own P g b) where
  -- an object of the block
  pub own_visited : (h : ObjectHeader) → h.location.block ≡ b → Visited P g b h
  own_visited h e =
      record {
        marks = record { mark = λ img. rw e (own.writes (h.location.offset + delete_at g.granularity) (0 ∷ []) img) };
        sizes = λ _. record { size = λ n img. rw e (own.writes (h.location.offset + size_at g.granularity) (bytes g.s n) img) };
        allows = own.words allow_mark 1 (omega arith);
      }

  module _ (erases : (img : List ℕ) → All (λ u. P (unit u)) (erase g b img).events) where
    label-units : (n : ℕ) (img : List ℕ) → All (λ u. P (unit u)) (labelling g b n img).events
    unfolding labelling write_header
    label-units n img = own.writes 0 (header_bytes g (undefined n)) img

    carry-units : (p : Planned) (img : List ℕ) → All (λ u. P (unit u)) (carry_out g b p img).events
    unfolding format.renewing
    carry-units keep img = ask_each flash (λ u. P (unit u)) _ img
    carry-units label img = label-units 0 img
    carry-units (renew n) img = bind_each flash (λ u. P (unit u)) (erase g b) (λ _. labelling g b n) img (erases img) (λ _ _. label-units n _)

    format-units : (img : List ℕ) → All (λ u. P (unit u)) (format_block g b img).events
    unfolding format_block
    format-units img =
        bind_each flash (λ u. P (unit u)) (ask (λ i. plan_at g b i)) (λ p. carry_out g b p) img (ask_each flash (λ u. P (unit u)) (λ i. plan_at g b i) img)
        (λ p _. carry-units p _)

    formatting-each : (n : ℕ) (s : Both) → All P (formatting g b n s).events
    unfolding formatting storing putting
    formatting-each n s =
        bind_each beside P (on_image (format_block g b)) (λ _. storing b (erased_record g.granularity n)) s (image_each P (format_block g b) s (format-units s.image))
        (λ _ _. fields_each P (record_length * b) 0 (record_numbers (erased_record g.granularity n)) (λ j v h. own.words j v h))

    renewing-each : (n : ℕ) (s : Both) → All P (renewing g b n s).events
    unfolding renewing worn_out
    renewing-each n s = go (eqb n 4294967295)
      where
        go : (t : Bool) → All P (pick {A = Pass (Unit {0})} t (on_image (ask (λ img. worn_by (plan_at g b img)))) (formatting g b n) s).events
        go true = image_each P (ask (λ img. worn_by (plan_at g b img))) s (ask_each flash (λ u. P (unit u)) _ s.image)
        go false = formatting-each n s

    erasing-each : (r : BlockInfo) (d : Bool) (s : Both) → All P (erasing g b r d s).events
    unfolding erasing
    erasing-each r false s = ask_each beside P (λ _. done (tt {0})) s
    erasing-each r true s = go r.header.kind
      where
        go : (k : BlockHeaderKind) → All P (erasing_by g b r k s).events
        go Empty = ask_each beside P {A = Unit {0}} (λ _. refused 2) s
        go Unknown = ask_each beside P {A = Unit {0}} (λ _. refused 2) s
        go (Known t) = renewing-each r.header.erase_count s

    -- the second pass and the third
    pub invalid-each : (r : BlockInfo) (s : Both) → All P (erase_invalid_finished_block g b r s).events
    unfolding erase_invalid_finished_block
    invalid-each r s = go r.allow_alloc
      where
        go : (t : Bool) → All P (pick {A = Pass (Unit {0})} t (give tt) (ask (λ (x : Both). unfinished_in (listing g b x.image)) >>= λ d. erasing g b r d) s).events
        go true = ask_each beside P (λ _. done (tt {0})) s
        go false = asked_each beside P (λ (x : Both). unfinished_in (listing g b x.image)) (λ d. erasing g b r d) s (λ d _. erasing-each r d s)

    pub full-each : (r : BlockInfo) (s : Both) → All P (erase_full_finished_block g b r s).events
    unfolding erase_full_finished_block
    full-each r s = go (leb (g.size - header g.granularity g.s) r.used_bytes)
      where
        go : (t : Bool) → All P (pick {A = Pass (Unit {0})} t (give tt) (ask (λ (x : Both). deleted_in (listing g b x.image)) >>= λ d. erasing g b r d) s).events
        go true = ask_each beside P (λ _. done (tt {0})) s
        go false = asked_each beside P (λ (x : Both). deleted_in (listing g b x.image)) (λ d. erasing g b r d) s (λ d _. erasing-each r d s)
