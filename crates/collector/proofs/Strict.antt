-- The strict mark at a collection: it can only stop it.
use mathlib.Core.Path.{refl}
use mathlib.Core.Bool.{Bool, true, false}
use mathlib.Core.List.{[], ◌∷◌}
use Prim.Native.Nat.{ℕ, zero, suc, ◌+◌, ◌-◌, ◌*◌}
use lib.ListN.{length}
use lib.Dec.{leb, eqb}
use Rattle.medium.specs.declared.geometry.Geometry.{Geometry}
use Rattle.medium.specs.Granularity.{header}
use Rattle.medium.specs.Operation.{flash}
use Rattle.medium.specs.Beside.{beside}
use Rattle.medium.specs.Marked.{Fresh, FreshBeside, UnderMark, UnderMarkBeside, with_strict, Beside}
use Rattle.medium.proofs.Marked.{ask_under, kept_under, test_under, bind_under, pick_under, image_under, fields_under, admit_same}
use Rattle.objects.specs.declared.state.ObjectState.TheVariants as state
use Rattle.objects.specs.declared.header.ObjectHeader.{ObjectHeader}
use Rattle.std.specs.Prelude.{Option, Some, None}
use Rattle.objects.specs.declared.iterator.ObjectIterator.{ObjectIterator}
use Rattle.objects.specs.Header.{payload_size_of}
use Rattle.objects.specs.Payload.{payload_at}
use Rattle.objects.specs.Listing.{start_of, Met, object, free_place, block_end}
use Rattle.objects.proofs.Strict.{next_same, listing_same, update_state_under, set_payload_size_under}
use Rattle.blocks.specs.declared.header.BlockHeaderKind.{BlockHeaderKind}
use Rattle.blocks.specs.declared.header.BlockHeaderKind.TheVariants.{Empty, Unknown, Known}
use Rattle.blocks.specs.declared.record.BlockInfo.{BlockInfo}
use Rattle.blocks.specs.Record.{erased_record, record_numbers}
use Rattle.blocks.specs.Scan.{is_allocated}
use Rattle.blocks.proofs.Strict.{plan_same, format_under}
use Rattle.collector.specs.Table.{Pass, record_length, allow_mark, storing, allowing, collectable}
use Rattle.collector.specs.Passes.{delete_object, repair_by, repairing, repaired, visit_one, go_on, visiting, deleting, delete_by, delete_invalid_objects_in_block, worn_out, formatting, renewing, erasing_by, erasing, erase_invalid_finished_block, erase_full_finished_block, Step, block_step, sweep, pass, collect}

module _ (g : Geometry) (m : ℕ) (v : Beside g m) where
  -- ---- the first pass

  delete_object_under : (h : ObjectHeader) → UnderMark (delete_object g h) (delete_object (with_strict g m) h)
  delete_object_under h = bind_under flash Fresh _ _ _ _ (update_state_under g m v h state.Deleted) (λ _. kept_under flash Fresh _)

  repair_by_under : (h : ObjectHeader) (n : ℕ) (p : Option ℕ) → UnderMark (repair_by g h n p) (repair_by (with_strict g m) h n p)
  unfolding repair_by
  repair_by_under h n (Some k) = pick_under flash Fresh (eqb k n) _ _ _ _ (kept_under flash Fresh _) (delete_object_under h)
  repair_by_under h n None = bind_under flash Fresh _ _ _ _ (set_payload_size_under g m v h n) (λ w. delete_object_under w)

  repairing_under : (h : ObjectHeader) (used : ℕ) → UnderMark (repairing g h used) (repairing (with_strict g m) h used)
  unfolding repairing
  repairing_under h used =
      bind_under flash Fresh _ _ _ _ (test_under flash Fresh _ _ (λ _. refl)) (λ _. repair_by_under h (used - payload_at g h) (payload_size_of g.s h))

  repaired_under : (b : ℕ) (d : Bool) → UnderMarkBeside (repaired b d) (repaired b d)
  unfolding repaired allowing
  repaired_under b true = bind_under beside FreshBeside _ _ _ _ (fields_under (record_length * b) allow_mark (1 ∷ []) tt) (λ _. kept_under beside FreshBeside _)
  repaired_under b false = kept_under beside FreshBeside _

  visit_under : (b used : ℕ) (h : ObjectHeader) → UnderMarkBeside (visit_one g b used h) (visit_one (with_strict g m) b used h)
  unfolding visit_one
  visit_under b used h =
      pick_under beside FreshBeside (is_allocated h) _ _ _ _
      (bind_under beside FreshBeside _ _ _ _ (image_under _ _ (repairing_under h used)) (λ d. repaired_under b d)) (kept_under beside FreshBeside _)

  deleting_under : (n b used : ℕ) (i : ObjectIterator) → UnderMarkBeside (deleting n g b used i) (deleting n (with_strict g m) b used i)
  unfolding deleting
  deleting_under zero b used i = kept_under beside FreshBeside _
  deleting_under (suc n) b used i =
      bind_under beside FreshBeside _ _ _ _ (ask_under beside FreshBeside _ _ (λ s. next_same g m v i s.image)) (λ x. met x (λ j. deleting_under n b used j))
    where
      on : (d : Bool) (o o' : Pass (Unit {0})) → UnderMarkBeside o o' → UnderMarkBeside (go_on d o) (go_on d o')
      on true o o' h = h
      on false o o' h = kept_under beside FreshBeside _

      met : (x : Met) → ((j : ObjectIterator) → UnderMarkBeside (deleting n g b used j) (deleting n (with_strict g m) b used j))
          → UnderMarkBeside (visiting g b used x (λ j. deleting n g b used j)) (visiting (with_strict g m) b used x (λ j. deleting n (with_strict g m) b used j))
      met (object h j) k = bind_under beside FreshBeside _ _ _ _ (visit_under b used h) (λ d. on d _ _ (k j))
      met free_place k = kept_under beside FreshBeside _
      met block_end k = kept_under beside FreshBeside _

  first_under : (b : ℕ) (r : BlockInfo) → UnderMarkBeside (delete_invalid_objects_in_block g b r) (delete_invalid_objects_in_block (with_strict g m) b r)
  unfolding delete_invalid_objects_in_block
  first_under b r = go r.header.kind
    where
      go : (k : BlockHeaderKind) → UnderMarkBeside (delete_by g b r k) (delete_by (with_strict g m) b r k)
      go Empty = kept_under beside FreshBeside _
      go Unknown = kept_under beside FreshBeside _
      go (Known t) = deleting_under g.size b r.used_bytes (start_of g b)

  -- ---- the erasing passes

  renewing_under : (b n : ℕ) → UnderMarkBeside (renewing g b n) (renewing (with_strict g m) b n)
  unfolding renewing worn_out formatting storing
  renewing_under b n =
      pick_under beside FreshBeside (eqb n 4294967295) _ _ _ _ (image_under _ _ (ask_under flash Fresh _ _ (λ img. rw (plan_same g m v b img))))
      (bind_under beside FreshBeside _ _ _ _ (image_under _ _ (format_under g m v b)) (λ _. fields_under (record_length * b) 0 (record_numbers (erased_record g.granularity n)) tt))

  erasing_under : (b : ℕ) (r : BlockInfo) (d : Bool) → UnderMarkBeside (erasing g b r d) (erasing (with_strict g m) b r d)
  unfolding erasing
  erasing_under b r false = kept_under beside FreshBeside _
  erasing_under b r true = go r.header.kind
    where
      go : (k : BlockHeaderKind) → UnderMarkBeside (erasing_by g b r k) (erasing_by (with_strict g m) b r k)
      go Empty = kept_under beside FreshBeside _
      go Unknown = kept_under beside FreshBeside _
      go (Known t) = renewing_under b r.header.erase_count

  second_under : (b : ℕ) (r : BlockInfo) → UnderMarkBeside (erase_invalid_finished_block g b r) (erase_invalid_finished_block (with_strict g m) b r)
  unfolding erase_invalid_finished_block
  second_under b r =
      pick_under beside FreshBeside r.allow_alloc _ _ _ _ (kept_under beside FreshBeside _)
      (bind_under beside FreshBeside _ _ _ _ (ask_under beside FreshBeside _ _ (λ s. rw (listing_same g m v b s.image))) (λ d. erasing_under b r d))

  third_under : (b : ℕ) (r : BlockInfo) → UnderMarkBeside (erase_full_finished_block g b r) (erase_full_finished_block (with_strict g m) b r)
  unfolding erase_full_finished_block
  third_under b r =
      pick_under beside FreshBeside (leb (g.size - header g.granularity g.s) r.used_bytes) _ _ _ _ (kept_under beside FreshBeside _)
      (bind_under beside FreshBeside _ _ _ _ (ask_under beside FreshBeside _ _ (λ s. rw (listing_same g m v b s.image))) (λ d. erasing_under b r d))

  -- ---- passes

  module _ (step : Step) (each : (b : ℕ) (r : BlockInfo) → UnderMarkBeside (step g b r) (step (with_strict g m) b r)) where
    sweep-under : (n b : ℕ) → UnderMarkBeside (sweep step n g b) (sweep step n (with_strict g m) b)
    unfolding sweep block_step
    sweep-under zero b = kept_under beside FreshBeside _
    sweep-under (suc n) b =
        bind_under beside FreshBeside _ _ _ _ (bind_under beside FreshBeside _ _ _ _ (kept_under beside FreshBeside _) (λ r. each b r)) (λ _. sweep-under n (b + 1))

    pass-under : UnderMarkBeside (pass step g) (pass step (with_strict g m))
    unfolding pass collectable
    pass-under =
        bind_under beside FreshBeside _ _ _ _ (test_under beside FreshBeside _ _ (λ s. admit_same g m v (length s.image) _)) (λ _. sweep-under g.count 0)

  pub first_pass_under : UnderMarkBeside (pass delete_invalid_objects_in_block g) (pass delete_invalid_objects_in_block (with_strict g m))
  first_pass_under = pass-under delete_invalid_objects_in_block first_under

  pub second_pass_under : UnderMarkBeside (pass erase_invalid_finished_block g) (pass erase_invalid_finished_block (with_strict g m))
  second_pass_under = pass-under erase_invalid_finished_block second_under

  pub third_pass_under : UnderMarkBeside (pass erase_full_finished_block g) (pass erase_full_finished_block (with_strict g m))
  third_pass_under = pass-under erase_full_finished_block third_under

  pub collect_under : UnderMarkBeside (collect g) (collect (with_strict g m))
  unfolding collect
  collect_under =
      bind_under beside FreshBeside _ _ _ _ first_pass_under
      (λ _. bind_under beside FreshBeside _ _ _ _ second_pass_under (λ _. third_pass_under))
