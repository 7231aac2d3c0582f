-- What src/lib.rt calls always true: "a block that was formatted with power scans as Undefined, with only its header used". For every
-- geometry, image of bytes and fuse where the format is done; and below it, that the bytes of a header read back.
use Rattle.std.specs.Prelude.{ℕ, ◌<◌, ◌≡◌, true, List, ◌++◌, get_or}
use Rattle.medium.specs.declared.granularity.Granularity.{Granularity}
use Rattle.medium.specs.declared.geometry.Geometry.{Geometry}
use Rattle.medium.specs.declared.fuse.Fuse.{Fuse}
use Rattle.medium.specs.Granularity.{block_header}
use Rattle.medium.specs.Operation.{Answer, done, refused, run}
use Rattle.blocks.specs.declared.header.BlockHeaderKind.{BlockHeaderKind}
use Rattle.blocks.specs.declared.header.BlockHeaderKind.TheVariants.{Empty, Unknown, Known}
use Rattle.blocks.specs.declared.header.BlockHeader.{BlockHeader}
use Rattle.blocks.specs.declared.record.BlockInfo.{BlockInfo}
use Rattle.blocks.specs.BlockHeader.{header_bytes, header_in, block_header_at}
use Rattle.blocks.specs.Format.{Planned, keep, label, renew, plan_at, undefined, format_block}
use Rattle.blocks.specs.Scan.{scan_block}

-- ---- a header's bytes read back, for every granularity and whatever stands behind them

-- only a Known kind has bytes of its own
abbrev pub reads_as : BlockHeaderKind → BlockHeaderKind
reads_as Empty = Empty
reads_as Unknown = Empty
reads_as (Known t) = Known t

unfoldable pub HeaderReadsBack : Type 0
HeaderReadsBack =
    (g : Geometry) (h : BlockHeader) (rest : List ℕ) → h.erase_count < 4294967296
    → header_in g (header_bytes g h ++ rest) ≡ record { kind = reads_as h.kind; erase_count = h.erase_count }

-- ---- a formatted block

-- the erase count that a plan leaves where n was read
abbrev pub count_by : Answer Planned → ℕ → ℕ
count_by (done keep) n = n
count_by (done label) n = 0
count_by (done (renew m)) n = m
count_by (refused k) n = n

abbrev pub count_in : Answer BlockHeader → ℕ
count_in (done h) = h.erase_count
count_in (refused k) = 0

abbrev pub planned_count : Geometry → ℕ → List ℕ → ℕ
planned_count g b img = count_by (plan_at g b img) (count_in (block_header_at g b img))

-- Undefined, only the header used, and objects may be allocated
abbrev pub fresh_record : Granularity → ℕ → BlockInfo
fresh_record k n = record { header = undefined n; used_bytes = block_header k; allow_alloc = true }

unfoldable pub FormattedScans : Type 0
FormattedScans =
    (f : Fuse) (g : Geometry) (b : ℕ) (img : List ℕ) → ((j : ℕ) → get_or img j 0 < 256) → (run f (format_block g b) img).answer ≡ done tt
    → scan_block g b (run f (format_block g b) img).state ≡ done (fresh_record g.granularity (planned_count g b img))
