-- The strict mark at blocks: a header, a type and a format it can only stop.
use mathlib.Core.Path.{◌≡◌, refl}
use mathlib.Core.List.{List, [], ◌∷◌}
use Prim.Native.Nat.{ℕ, zero, suc, ◌+◌}
use lib.ListN.{length}
use Rattle.medium.specs.declared.geometry.Geometry.{Geometry}
use Rattle.medium.specs.Granularity.{longest_block_header, block_header, type_at}
use Rattle.medium.specs.Operation.{flash}
use Rattle.medium.specs.Marked.{Fresh, UnderMark, with_strict, Beside}
use Rattle.medium.proofs.Marked.{ask_under, kept_under, test_under, bind_under, read_same, write_under, erase_under}
use Rattle.objects.proofs.Strict.{check_same}
use Rattle.blocks.specs.declared.header.BlockType.{BlockType}
use Rattle.blocks.specs.declared.header.BlockHeaderKind.{BlockHeaderKind}
use Rattle.blocks.specs.declared.header.BlockHeader.{BlockHeader}
use Rattle.blocks.specs.declared.header.BlockHeaderKind.TheVariants.{Empty, Unknown, Known}
use Rattle.blocks.specs.BlockHeader.{type_byte, wide_bytes, header_bytes, write_header, kind_in, block_header_at}
use Rattle.blocks.specs.Format.{data_length, data_empty_at, Planned, keep, label, renew, plan_at, undefined, labelling, renewing, carry_out, format_block, format_from, format_storage, set_block_type}

module _ (g : Geometry) (m : ℕ) (v : Beside g m) where
  -- ---- what is read off the image

  pub block_header_same : (b : ℕ) (img : List ℕ) → block_header_at g b img ≡ block_header_at (with_strict g m) b img
  unfolding block_header_at kind_in
  block_header_same b img = rw (read_same g m v b 0 longest_block_header img)

  data_empty_same : (b : ℕ) (img : List ℕ) → data_empty_at g b img ≡ data_empty_at (with_strict g m) b img
  unfolding data_empty_at
  data_empty_same b img = rw (read_same g m v b (block_header g.granularity) (data_length g) img)

  pub plan_same : (b : ℕ) (img : List ℕ) → plan_at g b img ≡ plan_at (with_strict g m) b img
  unfolding plan_at
  plan_same b img = rw (block_header_same b img, data_empty_same b img)

  -- ---- stores

  -- the bytes of a header do not tell the mark
  bytes_same : (h : BlockHeader) → header_bytes g h ≡ header_bytes (with_strict g m) h
  unfolding header_bytes
  bytes_same h = rw (go h.kind)
    where
      go : (k : BlockHeaderKind) → wide_bytes g k h.erase_count ≡ wide_bytes (with_strict g m) k h.erase_count
      go (Known t) = refl
      go Empty = refl
      go Unknown = refl

  pub write_header_under : (b : ℕ) (h : BlockHeader) → UnderMark (write_header g b h) (write_header (with_strict g m) b h)
  unfolding write_header
  write_header_under b h = rw (← bytes_same h) (write_under g m v b 0 (header_bytes g h))

  labelling_under : (b n : ℕ) → UnderMark (labelling g b n) (labelling (with_strict g m) b n)
  unfolding labelling
  labelling_under b n = write_header_under b (undefined n)

  carry_under : (b : ℕ) (p : Planned) → UnderMark (carry_out g b p) (carry_out (with_strict g m) b p)
  unfolding renewing
  carry_under b keep = kept_under flash Fresh _
  carry_under b label = labelling_under b 0
  carry_under b (renew n) = bind_under flash Fresh _ _ _ _ (erase_under g m v b) (λ _. labelling_under b n)

  pub format_under : (b : ℕ) → UnderMark (format_block g b) (format_block (with_strict g m) b)
  unfolding format_block
  format_under b = bind_under flash Fresh _ _ _ _ (ask_under flash Fresh _ _ (λ img. plan_same b img)) (λ p. carry_under b p)

  format_from_under : (n b : ℕ) → UnderMark (format_from n g b) (format_from n (with_strict g m) b)
  unfolding format_from
  format_from_under zero b = kept_under flash Fresh _
  format_from_under (suc n) b = bind_under flash Fresh _ _ _ _ (format_under b) (λ _. format_from_under n (b + 1))

  pub format_storage_under : UnderMark (format_storage g) (format_storage (with_strict g m))
  unfolding format_storage
  format_storage_under = bind_under flash Fresh _ _ _ _ (test_under flash Fresh _ _ (λ img. check_same g m v (length img))) (λ _. format_from_under g.count 0)

  pub set_block_type_under : (b : ℕ) (t : BlockType) → UnderMark (set_block_type g b t) (set_block_type (with_strict g m) b t)
  unfolding set_block_type
  set_block_type_under b t = write_under g m v b (type_at g.granularity) (type_byte t ∷ [])
