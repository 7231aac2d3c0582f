-- One block's record: "kind .., erase count, used bytes, allow mark", and its own arithmetic. "`free_space` or `calculate_freeable_space`
-- when listing ran past the block" give 9. A call with no image can give 6 but not 7.
use Rattle.std.specs.Prelude.{ℕ, ◌+◌, ◌-◌, Bool, true, false, List, [], ◌∷◌, leb, eqb}
use Rattle.medium.specs.declared.granularity.Granularity.{Granularity}
use Rattle.medium.specs.declared.geometry.Geometry.{Geometry}
use Rattle.medium.specs.Granularity.{pick, width_of, align_of, block_header}
use Rattle.medium.specs.Geometry.{fit_of}
use Rattle.medium.specs.Operation.{Answer, done, refused, and_then, or_refuse}
use Rattle.blocks.specs.declared.header.BlockType.TheVariants.{Metadata, Data, Undefined}
use Rattle.blocks.specs.declared.header.BlockHeaderKind.{BlockHeaderKind}
use Rattle.blocks.specs.declared.header.BlockHeaderKind.TheVariants.{Empty, Unknown, Known}
use Rattle.blocks.specs.declared.record.BlockInfo.{BlockInfo}
use Rattle.blocks.specs.BlockHeader.{kind_number}

abbrev pub new_unknown : BlockInfo
new_unknown = record { header = record { kind = Unknown; erase_count = 0 }; used_bytes = 0; allow_alloc = false }

-- ---- four numbers: "kind .., erase count, used bytes, allow mark". Impossible is "a table kind above 4 or allow mark above 1".

unfoldable pub kind_of : ℕ → Answer BlockHeaderKind
kind_of n =
    pick (eqb n 0) (done Empty)
    (pick (eqb n 1) (done Unknown)
    (pick (eqb n 2) (done (Known Metadata))
    (pick (eqb n 3) (done (Known Data))
    (pick (eqb n 4) (done (Known Undefined)) (refused 4)))))

abbrev pub allow_of : ℕ → Answer Bool
allow_of n = pick (eqb n 0) (done false) (pick (eqb n 1) (done true) (refused 4))

abbrev pub allow_number : Bool → ℕ
allow_number true = 1
allow_number false = 0

unfoldable pub info_of : ℕ → ℕ → ℕ → ℕ → Answer BlockInfo
info_of kind count used allow =
    and_then (kind_of kind)
    (λ k. and_then (allow_of allow) (λ a. done (record { header = record { kind = k; erase_count = count }; used_bytes = used; allow_alloc = a })))

-- the same numbers of a record, in their order
abbrev pub record_numbers : BlockInfo → List ℕ
record_numbers r = kind_number r.header.kind ∷ r.header.erase_count ∷ r.used_bytes ∷ allow_number r.allow_alloc ∷ []

-- ---- with a sound geometry

unfoldable pub free_space : Geometry → BlockInfo → Answer ℕ
free_space g r = and_then (or_refuse (fit_of g)) (λ _. pick (leb r.used_bytes g.size) (done (g.size - r.used_bytes)) (refused 9))

unfoldable pub record_empty : Geometry → BlockInfo → Answer Bool
record_empty g r = and_then (or_refuse (fit_of g)) (λ _. done (leb r.used_bytes (block_header g.granularity)))

abbrev pub with_used : BlockInfo → ℕ → BlockInfo
with_used r n = record { header = r.header; used_bytes = n; allow_alloc = r.allow_alloc }

-- the total size aligned up; 9 where the sum passes 4,294,967,295
unfoldable pub add_used_bytes : Geometry → BlockInfo → ℕ → Answer BlockInfo
add_used_bytes g r n =
    let m = r.used_bytes + align_of (width_of g.granularity) n in
    and_then (or_refuse (fit_of g)) (λ _. pick (leb m 4294967295) (done (with_used r m)) (refused 9))

-- a block that was just formatted, n erases before
abbrev pub erased_record : Granularity → ℕ → BlockInfo
erased_record k n =
    record {
      header = record { kind = Known Undefined; erase_count = n + 1 };
      used_bytes = block_header k;
      allow_alloc = true;
    }

unfoldable pub update_stats_after_erase : Geometry → BlockInfo → Answer BlockInfo
update_stats_after_erase g r =
    let n = r.header.erase_count in
    and_then (or_refuse (fit_of g)) (λ _. pick (eqb n 4294967295) (refused 9) (done (erased_record g.granularity n)))
