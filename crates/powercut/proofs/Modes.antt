-- What a copy and a move store with power, under the strict mark and without it.
use mathlib.Core.Path.{◌≡◌, sym, ap, subst, ◌∙◌}
use mathlib.Core.Bool.{true}
use mathlib.Core.List.{List, [], ◌∷◌, ◌++◌, append_assoc}
use Prim.Native.Nat.{ℕ, ◌+◌, ◌<◌}
use native.Mathlib.Omega.{arith}
use lib.ListN.{length}
use Rattle.medium.specs.declared.granularity.Granularity.{Granularity}
use Rattle.medium.specs.declared.geometry.Geometry.{Geometry}
use Rattle.medium.specs.All.{All}
use Rattle.medium.specs.Granularity.{width_of, align_of, delete_at}
use Rattle.medium.specs.Geometry.{geometry_ok, address}
use Rattle.medium.specs.Units.{FlashUnit}
use Rattle.medium.specs.Operation.{apply}
use Rattle.medium.specs.Marked.{Once, with_strict, Beside}
use Rattle.objects.specs.declared.types.ObjectType.{ObjectType}
use Rattle.objects.specs.declared.state.ObjectDataState.TheVariants.{Valid, Deleted}
use Rattle.objects.specs.declared.state.CompositeObjectState.TheVariants.{Allocated}
use Rattle.objects.specs.declared.location.ObjectLocation.{ObjectLocation}
use Rattle.objects.specs.declared.header.ObjectHeader.{ObjectHeader}
use Rattle.objects.specs.Header.{set_state}
use Rattle.moving.specs.Moving.{copy_object, move_object}
use Rattle.medium.proofs.Bytes.{Misses, frame, length-apply}
use Rattle.medium.proofs.Traced.{ran}
use Rattle.medium.proofs.Places.{Laid, laid}
use Rattle.objects.proofs.Strict.{check_same, header_same, set_state_under}
use Rattle.moving.proofs.Strict.{copy_under, move_under}
use Rattle.fresh.specs.Units.{span, before, new_units}
use Rattle.fresh.proofs.Places.{far_from}
use Rattle.fresh.proofs.Written.{new_clear}
use Rattle.fresh.proofs.Marked.{next_once, new_once, sound_of_lem, either_ran}
use Rattle.shown.proofs.Reading.{header_of}
use Rattle.powercut.specs.Stores.{type_units, pay_units, size_units, mark_units, delete_units, move_units}
use Rattle.powercut.proofs.Ran.{Ready, able, deleted_ran, copied_ran, moved_ran}

module _ (g : Geometry) (h : ObjectHeader) (to : ObjectLocation) (t : ObjectType) (pay img : List ℕ) (r : Ready g h to t pay img) where
  abbrev gr : Granularity
  gr = g.granularity

  abbrev w : ℕ
  w = width_of g.granularity

  abbrev p : ℕ
  p = address g h.location.block h.location.offset

  abbrev q : ℕ
  q = address g to.block to.offset

  abbrev copy : ObjectHeader
  copy = header_of (Allocated t Valid) (length pay) to

  abbrev gone : ObjectHeader
  gone = header_of (Allocated t Deleted) h.size h.location

  l : Laid g.granularity g.s (length pay)
  l = laid g.granularity g.s (length pay) r.given.new.width_3

  sound : geometry_ok g ≡ true
  sound = sound_of_lem g (length img) r.fine

  -- it is ready without the mark too
  plain : Beside g 0 → Ready (with_strict g 0) h to t pay img
  plain b =
      record {
        fine = sym (check_same g 0 b (length img)) ∙ r.fine;
        just_read = sym (header_same g 0 b h.location img) ∙ r.just_read;
        finished = r.finished;
        payload = r.payload;
        block = r.block;
        aligned = r.aligned;
        in_block = r.in_block;
        block_to = r.block_to;
        aligned_to = r.aligned_to;
        in_block_to = r.in_block_to;
        given = r.given;
        free_mark = λ z. absurd (omega arith);
      }

  -- the copy's units are an object's that is new
  copy_units_lem : type_units gr t q ++ (pay_units gr g.s pay q ++ (size_units gr g.s (length pay) q ++ mark_units gr q)) ≡ new_units gr g.s t pay q
  copy_units_lem = simp append_assoc

  pub copy_ran : copy_object g h to img ≡ ran (new_units gr g.s t pay q) copy
  copy_ran =
      either_ran g (λ k. copy_object k h to) (λ m b. copy_under g m b h to) sound img (new_units gr g.s t pay q) copy
      (λ off. copied_ran g h to t pay img (able g h to t pay img r) off ∙ ap (λ (us : List FlashUnit). ran us copy) copy_units_lem)
      (λ b. copied_ran (with_strict g 0) h to t pay img (able (with_strict g 0) h to t pay img (plain b)) (λ z. omega arith) ∙ ap (λ (us : List FlashUnit). ran us copy) copy_units_lem)
      (λ _. new_once gr g.s t q pay img r.given.new)

  -- the delete mark's unit is clear of the copy
  mark_clear : (i : ℕ) → i < align_of w 1 → All (Misses (p + delete_at gr + i)) (new_units gr g.s t pay q)
  mark_clear i k =
      new_clear gr g.s t q pay r.given.new.width_3 (p + delete_at gr + i)
      (far_from p q (span gr g.s (length pay)) (p + delete_at gr + i) r.given.apart (omega arith) (omega (arith, l)))

  move_once : g.strict ≡ 1 → Once (move_units gr g.s t pay p q) img
  move_once on =
      subst (λ (us : List FlashUnit). Once us img) (append_assoc (before gr g.s t pay q) (mark_units gr q) (delete_units gr p))
      (next_once w (new_units gr g.s t pay q) (p + delete_at gr) (0 ∷ []) img (new_once gr g.s t q pay img r.given.new) (omega (arith, l, r.given.original_fits))
      (λ i k. r.free_mark on i (omega (arith, l))) mark_clear)

  pub move_ran : move_object g h to img ≡ ran (move_units gr g.s t pay p q) copy
  move_ran =
      either_ran g (λ k. move_object k h to) (λ m b. move_under g m b h to) sound img (move_units gr g.s t pay p q) copy
      (λ off. moved_ran g h to t pay img (able g h to t pay img r) off)
      (λ b. moved_ran (with_strict g 0) h to t pay img (able (with_strict g 0) h to t pay img (plain b)) (λ z. omega arith))
      move_once

  -- the delete alone, after the copy
  pub delete_ran : set_state g h Deleted (apply (new_units gr g.s t pay q) img) ≡ ran (delete_units gr p) gone
  delete_ran =
      let m : List ℕ = apply (new_units gr g.s t pay q) img in
      let e : length (apply (new_units gr g.s t pay q) img) ≡ length img = length-apply (new_units gr g.s t pay q) img in
      either_ran g (λ k. set_state k h Deleted) (λ m b. set_state_under g m b h Deleted) sound (apply (new_units gr g.s t pay q) img) (delete_units gr p) gone
      (λ off. deleted_ran g h to t pay img (able g h to t pay img r) off m e)
      (λ b. deleted_ran (with_strict g 0) h to t pay img (able (with_strict g 0) h to t pay img (plain b)) (λ z. omega arith) m e)
      (λ on. next_once w [] (p + delete_at gr) (0 ∷ []) m tt (omega (arith, l, r.given.original_fits, e))
      (λ i k. frame (p + delete_at gr + i) 0 (new_units gr g.s t pay q) img (mark_clear i k) ∙ r.free_mark on i (omega (arith, l))) (λ _ _. tt))
