-- Where a format is planned it is done, under the strict mark too, and leaves a block to begin with: behind the header every byte is FF, and so
-- is the unit of the type.
use mathlib.Core.Path.{◌≡◌, refl, sym, ap, subst, ◌∙◌}
use mathlib.Core.Logic.{◌⊎◌, inl, inr}
use mathlib.Core.Bool.{Bool, true, false, false≢true}
use mathlib.Core.List.{List}
use Prim.Native.Nat.{ℕ, zero, suc, ◌+◌, ◌*◌, ◌≤◌, ◌<◌}
use native.Mathlib.Omega.{arith}
use lib.ListN.{length, get_or}
use lib.Dec.{eqb}
use borrow.Author.Tests.{eqb-true}
use Rattle.medium.specs.declared.granularity.Granularity.{Granularity}
use Rattle.medium.specs.declared.granularity.Granularity.TheVariants.{Bit, Word1, Word4}
use Rattle.medium.specs.declared.geometry.Geometry.{Geometry}
use Rattle.medium.specs.declared.fuse.Fuse.TheVariants.{Absent}
use Rattle.medium.specs.Granularity.{pick, width_of, block_header, type_at}
use Rattle.medium.specs.Geometry.{address}
use Rattle.medium.specs.Units.{under, blank}
use Rattle.medium.specs.Operation.{flash, Answer, done, refused, Run, End, run}
use Rattle.medium.specs.Medium.{erasable, write, erase}
use Rattle.medium.proofs.Runs.{run_bind, run_ask}
use Rattle.medium.proofs.Bytes.{length_erased}
use Rattle.medium.proofs.Padding.{AreBytes, erased_bytes, apply_bytes}
use Rattle.medium.proofs.Stores.{erase_run}
use Rattle.medium.proofs.Erased.{erased_at}
use Rattle.medium.proofs.Places.{headed}
use Rattle.medium.proofs.Checks.{erase_at}
use Rattle.medium.proofs.Writes.{write_passed}
use Rattle.blocks.specs.declared.header.BlockType.TheVariants.{Metadata, Data, Undefined}
use Rattle.blocks.specs.declared.header.BlockHeaderKind.{BlockHeaderKind}
use Rattle.blocks.specs.declared.header.BlockHeaderKind.TheVariants.{Empty, Unknown, Known}
use Rattle.blocks.specs.declared.header.BlockHeader.{BlockHeader}
use Rattle.blocks.specs.BlockHeader.{layout_byte, header_bytes, write_header, named, padded, marked, kind_of_type, named_kind, kind_in, block_header_at}
use Rattle.blocks.specs.BlockHeader as head
use Rattle.blocks.specs.Format.{data_empty_at, Planned, keep, label, renew, plan_at, undefined, labelling, renewing, carry_out, format_block}
use Rattle.blocks.proofs.Formats.{planned, format_on}
use Rattle.blocks.proofs.ReadBack.{padded_at}
use Rattle.blocks.proofs.Formatted.{data_ff, Blank, label_stores, labelled_header, labelled_empty, Told, plan_tells, raw, read_is, raw_at, count_small, blank_by, plan_is, plan_stops}

pub record Begun (g : Geometry) (b : ℕ) (img : List ℕ) : Type 0 where
  pub behind : (o : ℕ) → block_header g.granularity ≤ o → o < g.size → get_or img (address g b o) 0 ≡ 255
  pub type : (i : ℕ) → i < width_of g.granularity → get_or img (address g b (type_at g.granularity + i)) 0 ≡ 255

-- ---- the unit of the type of an Undefined header

-- its bytes behind the type have no name
unnamed : (k : Granularity) (i : ℕ) → 0 < i → i < width_of k → named k (type_at k + i) ≡ true → ⊥
unnamed Bit i h l e = omega arith
unnamed Word1 i h l e = omega arith
unnamed Word4 zero h l e = omega arith
unnamed Word4 (suc zero) h l e = false≢true e
unnamed Word4 (suc (suc zero)) h l e = false≢true e
unnamed Word4 (suc (suc (suc zero))) h l e = false≢true e
unnamed Word4 (suc (suc (suc (suc i)))) h l e = omega arith

type_undefined : (t : ℕ) → kind_of_type t ≡ Known Undefined → t ≡ 255
unfolding kind_of_type
type_undefined t e = go (eqb t 0x55) (eqb t 0xAA) (eqb t 0xFF) refl e
  where
    go : (x y z : Bool) → eqb t 0xFF ≡ z → pick x (Known Metadata) (pick y (Known Data) (pick z (Known Undefined) Unknown)) ≡ Known Undefined → t ≡ 255
    go true y z q h = let n : ◌≡◌ {A = ℕ} 0 1 = cc in absurd (omega arith)
    go false true z q h = let n : ◌≡◌ {A = ℕ} 0 1 = cc in absurd (omega arith)
    go false false true q h = eqb-true _ _ q
    go false false false q h = let n : ◌≡◌ {A = ℕ} 0 1 = cc in absurd (omega arith)

kind_undefined : (g : Geometry) (bs : List ℕ) → kind_in g bs ≡ Known Undefined → (padded g.granularity bs ≡ true) × (get_or bs (type_at g.granularity) 0 ≡ 255)
unfolding kind_in named_kind
kind_undefined g bs e =
    go (padded g.granularity bs) (marked (layout_byte g) bs) (head.blank bs (get_or bs (type_at g.granularity) 0)) (get_or bs (type_at g.granularity) 0) e
  where
    go : (x y z : Bool) (t : ℕ) → pick x (pick y (kind_of_type t) (pick z Empty Unknown)) Unknown ≡ Known Undefined → (x ≡ true) × (t ≡ 255)
    go true true z t h = (refl, type_undefined t h)
    go true false true t h = let n : ◌≡◌ {A = ℕ} 0 1 = cc in absurd (omega arith)
    go true false false t h = let n : ◌≡◌ {A = ℕ} 0 1 = cc in absurd (omega arith)
    go false y z t h = let n : ◌≡◌ {A = ℕ} 0 1 = cc in absurd (omega arith)

type_unit : (g : Geometry) (bs : List ℕ) → kind_in g bs ≡ Known Undefined → (i : ℕ) → i < width_of g.granularity → get_or bs (type_at g.granularity + i) 0 ≡ 255
unfolding padded
type_unit g bs e zero h = let z : type_at g.granularity + 0 ≡ type_at g.granularity = omega arith in ap (λ (j : ℕ). get_or bs j 0) z ∙ (kind_undefined g bs e).1
type_unit g bs e (suc i) h =
    go (padded_at g.granularity bs (block_header g.granularity) 0 (type_at g.granularity + suc i) (kind_undefined g bs e).0 (omega arith) (omega (arith, (headed g.granularity).type_header)))
  where
    go : (named g.granularity (type_at g.granularity + suc i) ≡ true) ⊎ (eqb (get_or bs (type_at g.granularity + suc i) 0) 0xFF ≡ true) → get_or bs (type_at g.granularity + suc i) 0 ≡ 255
    go (inl p) = absurd (unnamed g.granularity (suc i) (omega arith) h p)
    go (inr p) = eqb-true _ _ p

-- ---- an Undefined header with nothing behind it

begun : (g : Geometry) (b n : ℕ) (img : List ℕ) → AreBytes img → block_header_at g b img ≡ done (undefined n) → data_empty_at g b img ≡ done true → Begun g b img
begun g b n img byte hd empty =
    let kind : kind_in g (raw g b img byte (undefined n) hd) ≡ Known Undefined = sym (ap (λ (x : BlockHeader). x.kind) (read_is g b img byte (undefined n) hd).0) in
    record {
      behind = data_ff g b img empty;
      type =
          λ i h. sym (raw_at g b img byte (undefined n) hd (type_at g.granularity + i) (omega (arith, (headed g.granularity).type_header, (headed g.granularity).block_short)))
          ∙ type_unit g (raw g b img byte (undefined n) hd) kind i h;
    }

-- ---- a plan is carried out

-- done, and the block begins
pub record Made (g : Geometry) (b : ℕ) (e : End (Unit {0})) : Type 0 where
  pub is_done : e.answer ≡ done tt
  pub begins : Begun g b e.state

-- a header that is stored over an erased block
labelled : (g : Geometry) (b n : ℕ) (img : List ℕ) → AreBytes img → erasable g (length img) b ≡ 0 → Blank g b img → n < 4294967296 → Made g b (run Absent (labelling g b n) img)
unfolding labelling write_header run
labelled g b n img byte reach ff small =
    record {
      is_done = ap (λ (r : Run flash (Unit {0})). r.answer) (write_passed g b 0 (header_bytes g (undefined n)) img (label_stores g b n img reach ff small));
      begins =
          begun g b n (run Absent (write g b 0 (header_bytes g (undefined n))) img).state
          (apply_bytes (write g b 0 (header_bytes g (undefined n)) img).events img byte)
          (labelled_header g b n img reach ff small) (labelled_empty g b n img reach ff small);
    }

renewed : (g : Geometry) (b n : ℕ) (img : List ℕ) → AreBytes img → erasable g (length img) b ≡ 0 → n < 4294967296 → Made g b (run Absent (renewing g b n) img)
unfolding renewing
renewed g b n img byte e small =
    let l : length (under (b * g.size) (blank g.size) img) ≡ length img = length_erased (b * g.size) g.size img in
    let ends : b * g.size + g.size ≤ length img = erase_at g (length img) b (erasable g (length img) b) refl e in
    rw (run_bind Absent (erase g b) (λ _. labelling g b n) img, erase_run g b img e)
    (labelled g b n (under (b * g.size) (blank g.size) img) (erased_bytes (b * g.size) g.size img byte) (rw l e) (λ o h. erased_at (b * g.size) g.size img o 0 h (omega arith)) small)

module _ (g : Geometry) (b : ℕ) (img : List ℕ) (byte : AreBytes img) where
  carried : (h : BlockHeader) → block_header_at g b img ≡ done h → (p : Planned) → Told h.kind h.erase_count (data_empty_at g b img) (done p) → erasable g (length img) b ≡ 0
      → Made g b (run Absent (carry_out g b p) img)
  carried h hd keep t e =
      let q : h ≡ undefined h.erase_count = ap (λ (x : BlockHeaderKind). record { kind = x; erase_count = h.erase_count }) t.0 in
      rw (run_ask {A = Unit {0}} Absent (λ _. done tt) img)
      (record { is_done = refl; begins = begun g b h.erase_count img byte (hd ∙ ap (λ (x : BlockHeader). done x) q) t.1 })
  carried h hd label t e = labelled g b 0 img byte e (blank_by g b img byte h hd t.0 t.1 t.2) (omega arith)
  carried h hd (renew m) t e = renewed g b m img byte e (t (count_small g b img byte h hd))

  -- THE LAW
  pub format_made : (p : Planned) → plan_at g b img ≡ done p → Made g b (run Absent (format_block g b) img)
  format_made p e = rw (format_on Absent g b img p (sym e)) (go (block_header_at g b img) refl)
    where
      go : (a : Answer BlockHeader) → block_header_at g b img ≡ a → Made g b (run Absent (carry_out g b p) img)
      go (done h) q =
          carried h q p
          (subst (λ (a : Answer Planned). Told h.kind h.erase_count (data_empty_at g b img) a) (sym (plan_is g b img h q) ∙ e) (plan_tells h.kind h.erase_count (data_empty_at g b img)))
          (planned g b img p e)
      go (refused r) q = let w : ◌≡◌ {A = Answer Planned} (done p) (refused r) = sym e ∙ plan_stops g b img r q in let z : ◌≡◌ {A = ℕ} 0 1 = cc in absurd (omega arith)
