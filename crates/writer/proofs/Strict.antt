-- The strict mark at the writer: each of its calls it can only stop.
use mathlib.Core.Path.{◌≡◌}
use mathlib.Core.List.{List, [], ◌∷◌}
use Prim.Native.Nat.{ℕ, zero, suc, ◌+◌, ◌-◌}
use lib.ListN.{length, take}
use lib.Dec.{eqb}
use Rattle.medium.specs.declared.geometry.Geometry.{Geometry}
use Rattle.medium.specs.Granularity.{width_of}
use Rattle.medium.specs.Operation.{flash}
use Rattle.medium.specs.Medium.{part}
use Rattle.medium.specs.Marked.{Fresh, UnderMark, with_strict, Beside}
use Rattle.medium.proofs.Marked.{ask_under, kept_under, test_under, bind_under, pick_under, admit_same, write_under}
use Rattle.objects.specs.declared.types.ObjectType.{ObjectType}
use Rattle.objects.specs.declared.state.ObjectDataState.{ObjectDataState}
use Rattle.objects.specs.declared.state.ObjectDataState.TheVariants.{Valid, Deleted}
use Rattle.objects.specs.declared.location.ObjectLocation.{ObjectLocation}
use Rattle.objects.specs.Types.{type_byte, rank_of}
use Rattle.objects.proofs.Strict.{state_same, set_state_under, set_payload_size_under}
use Rattle.writer.specs.declared.writer.ObjectWriter.{ObjectWriter}
use Rattle.writer.specs.Writer.{data_at, sound_of, allocate, may_write, pending_of, put_bytes, whole_of, filling_of, write_some, may_finish, flush, close, finalize, deleting, delete, write_to}

module _ (g : Geometry) (m : ℕ) (v : Beside g m) where
  -- ---- its tests

  sound_same : (w : ObjectWriter) (room : ℕ) → sound_of w g room ≡ sound_of w (with_strict g m) room
  unfolding sound_of
  sound_same w room = rw (admit_same g m v room _)

  may_write_same : (w : ObjectWriter) (room n : ℕ) → may_write w g room n ≡ may_write w (with_strict g m) room n
  unfolding may_write
  may_write_same w room n = rw (sound_same w room)

  may_finish_same : (w : ObjectWriter) (room : ℕ) → may_finish w g room ≡ may_finish w (with_strict g m) room
  unfolding may_finish
  may_finish_same w room = rw (sound_same w room)

  -- ---- its stores

  pub allocate_under : (at : ObjectLocation) (t : ObjectType) → UnderMark (allocate g at t) (allocate (with_strict g m) at t)
  unfolding allocate
  allocate_under at t =
      bind_under flash Fresh _ _ _ _ (ask_under flash Fresh _ _ (λ img. state_same g m v at img))
      (λ st. bind_under flash Fresh _ _ _ _ (kept_under flash Fresh _)
      (λ _. bind_under flash Fresh _ _ _ _ (write_under g m v at.block at.offset (type_byte t ∷ [])) (λ _. kept_under flash Fresh _)))

  put_under : (w : ObjectWriter) (k n : ℕ) (bs : List ℕ) → UnderMark (put_bytes g w k n bs) (put_bytes (with_strict g m) w k n bs)
  unfolding put_bytes
  put_under w k n bs =
      bind_under flash Fresh _ _ _ _ (write_under g m v w.object.location.block (data_at g w) (take k bs))
      (λ _. bind_under flash Fresh _ _ _ _ (write_under g m v w.object.location.block (data_at g w + k) (part k (n - k) bs)) (λ _. kept_under flash Fresh _))

  pub write_some_under : (w : ObjectWriter) (src : List ℕ) → UnderMark (write_some g w src) (write_some (with_strict g m) w src)
  unfolding write_some
  write_some_under w src =
      bind_under flash Fresh _ _ _ _ (test_under flash Fresh _ _ (λ img. may_write_same w (length img) (length src)))
      (λ _. put_under w (filling_of w (width_of g.granularity) (whole_of (width_of g.granularity) (length (pending_of w src)))) (whole_of (width_of g.granularity) (length (pending_of w src))) (pending_of w src))

  flush_under : (w : ObjectWriter) → UnderMark (flush g w) (flush (with_strict g m) w)
  unfolding flush
  flush_under w =
      pick_under flash Fresh (eqb w.held 0) _ _ _ _ (kept_under flash Fresh _)
      (bind_under flash Fresh _ _ _ _ (write_under g m v w.object.location.block (data_at g w) (take w.held w.tail)) (λ _. kept_under flash Fresh _))

  close_under : (to : ObjectDataState) (w : ObjectWriter) → UnderMark (close g to w) (close (with_strict g m) to w)
  unfolding close
  close_under to w =
      bind_under flash Fresh _ _ _ _ (flush_under w)
      (λ w₁. bind_under flash Fresh _ _ _ _ (set_payload_size_under g m v w₁.object w₁.cursor)
      (λ h. bind_under flash Fresh _ _ _ _ (set_state_under g m v h to) (λ _. kept_under flash Fresh _)))

  pub finalize_under : (w : ObjectWriter) → UnderMark (finalize g w) (finalize (with_strict g m) w)
  unfolding finalize
  finalize_under w = bind_under flash Fresh _ _ _ _ (test_under flash Fresh _ _ (λ img. may_finish_same w (length img))) (λ _. close_under Valid w)

  deleting_under : (w : ObjectWriter) (n : ℕ) → UnderMark (deleting g w n) (deleting (with_strict g m) w n)
  deleting_under w zero = kept_under flash Fresh _
  deleting_under w (suc zero) = close_under Deleted w
  deleting_under w (suc (suc zero)) = bind_under flash Fresh _ _ _ _ (set_state_under g m v w.object Deleted) (λ _. kept_under flash Fresh _)
  deleting_under w (suc (suc (suc n))) = kept_under flash Fresh _

  pub delete_under : (w : ObjectWriter) → UnderMark (delete g w) (delete (with_strict g m) w)
  unfolding delete
  delete_under w = bind_under flash Fresh _ _ _ _ (test_under flash Fresh _ _ (λ img. sound_same w (length img))) (λ _. deleting_under w (rank_of w.object.state))

  pub write_to_under : (at : ObjectLocation) (t : ObjectType) (src : List ℕ) → UnderMark (write_to g at t src) (write_to (with_strict g m) at t src)
  unfolding write_to
  write_to_under at t src =
      bind_under flash Fresh _ _ _ _ (allocate_under at t)
      (λ w. bind_under flash Fresh _ _ _ _ (write_some_under w src)
      (λ w₁. bind_under flash Fresh _ _ _ _ (finalize_under w₁) (λ _. kept_under flash Fresh _)))
