-- The strict mark at a batch: it stops at 10 as at any refusal.
use mathlib.Core.List.{List, [], ◌∷◌}
use Prim.Native.Nat.{ℕ, ◌+◌}
use lib.ListN.{length}
use Rattle.medium.specs.declared.geometry.Geometry.{Geometry}
use Rattle.medium.specs.Operation.{flash}
use Rattle.medium.specs.Beside.{beside}
use Rattle.medium.specs.Marked.{Fresh, FreshBeside, UnderMark, UnderMarkBeside, with_strict, Beside}
use Rattle.medium.proofs.Marked.{kept_under, test_under, bind_under, image_under, fields_under, admit_same}
use Rattle.writer.proofs.Strict.{write_to_under}
use Rattle.batch.specs.declared.record.Record.{Record}
use Rattle.batch.specs.Batch.{batchable, records_in, place_of, write_record, writing, write_all}

module _ (g : Geometry) (m : ℕ) (v : Beside g m) where
  pub record_under : (b : ℕ) (payload : List ℕ) (r : Record) → UnderMark (write_record g b payload r) (write_record (with_strict g m) b payload r)
  unfolding write_record
  record_under b payload r =
      bind_under flash Fresh _ _ _ _ (kept_under flash Fresh _)
      (λ src. bind_under flash Fresh _ _ _ _ (kept_under flash Fresh _) (λ t. write_to_under g m v (place_of b r) t src))

  writing_under : (b : ℕ) (payload : List ℕ) (i : ℕ) (rs : List Record) → UnderMarkBeside (writing g b payload i rs) (writing (with_strict g m) b payload i rs)
  unfolding writing
  writing_under b payload i [] = kept_under beside FreshBeside _
  writing_under b payload i (r ∷ rs) =
      bind_under beside FreshBeside _ _ _ _ (image_under _ _ (record_under b payload r))
      (λ _. bind_under beside FreshBeside _ _ _ _ (fields_under 0 0 ((i + 1) ∷ []) tt) (λ _. writing_under b payload (i + 1) rs))

  pub write_all_under : (b : ℕ) (records payload : List ℕ) → UnderMarkBeside (write_all g b records payload) (write_all (with_strict g m) b records payload)
  unfolding write_all batchable
  write_all_under b records payload =
      bind_under beside FreshBeside _ _ _ _ (test_under beside FreshBeside _ _ (λ s. admit_same g m v (length s.image) _)) (λ _. writing_under b payload 0 (records_in records))
