-- The strict mark at a copy and a move: it can only stop them.
use mathlib.Core.Path.{◌≡◌}
use mathlib.Core.List.{List}
use Prim.Native.Nat.{ℕ, zero, suc, ◌+◌, ◌-◌, min}
use Rattle.medium.specs.declared.geometry.Geometry.{Geometry}
use Rattle.medium.specs.Operation.{flash}
use Rattle.medium.specs.Marked.{Fresh, UnderMark, with_strict, Beside}
use Rattle.medium.proofs.Marked.{ask_under, kept_under, bind_under, read_same}
use Rattle.objects.specs.declared.state.ObjectDataState.TheVariants.{Deleted}
use Rattle.objects.specs.declared.location.ObjectLocation.{ObjectLocation}
use Rattle.objects.specs.declared.header.ObjectHeader.{ObjectHeader}
use Rattle.objects.specs.Payload.{payload_at}
use Rattle.objects.proofs.Strict.{reader_same, set_state_under}
use Rattle.writer.specs.declared.writer.ObjectWriter.{ObjectWriter}
use Rattle.writer.proofs.Strict.{allocate_under, write_some_under, finalize_under}
use Rattle.moving.specs.Moving.{source_at, chunk, turns_of, copying, copy_object, move_object}

module _ (g : Geometry) (m : ℕ) (v : Beside g m) where
  source_same : (h : ObjectHeader) (img : List ℕ) → source_at g h img ≡ source_at (with_strict g m) h img
  unfolding source_at
  source_same h img = rw (reader_same g m v h.location _ img)

  chunk_under : (b at n : ℕ) (w : ObjectWriter) → UnderMark (chunk g b at n w) (chunk (with_strict g m) b at n w)
  unfolding chunk
  chunk_under b at n w = bind_under flash Fresh _ _ _ _ (ask_under flash Fresh _ _ (λ img. read_same g m v b at n img)) (λ bs. write_some_under g m v w bs)

  copying_under : (k b at n : ℕ) (w : ObjectWriter) → UnderMark (copying k g b at n w) (copying k (with_strict g m) b at n w)
  unfolding copying
  copying_under zero b at n w = kept_under flash Fresh _
  copying_under (suc k) b at n w = bind_under flash Fresh _ _ _ _ (chunk_under b at (min 16 n) w) (λ w₁. copying_under k b (at + 16) (n - 16) w₁)

  pub copy_under : (h : ObjectHeader) (to : ObjectLocation) → UnderMark (copy_object g h to) (copy_object (with_strict g m) h to)
  unfolding copy_object
  copy_under h to =
      bind_under flash Fresh _ _ _ _ (ask_under flash Fresh _ _ (λ img. source_same h img))
      (λ src. bind_under flash Fresh _ _ _ _ (allocate_under g m v to src.kind)
      (λ w. bind_under flash Fresh _ _ _ _ (copying_under (turns_of src.size) h.location.block (payload_at g h) src.size w)
      (λ w₁. bind_under flash Fresh _ _ _ _ (finalize_under g m v w₁) (λ _. kept_under flash Fresh _))))

  pub move_under : (h : ObjectHeader) (to : ObjectLocation) → UnderMark (move_object g h to) (move_object (with_strict g m) h to)
  unfolding move_object
  move_under h to =
      bind_under flash Fresh _ _ _ _ (copy_under h to)
      (λ new. bind_under flash Fresh _ _ _ _ (set_state_under g m v h Deleted) (λ _. kept_under flash Fresh _))
