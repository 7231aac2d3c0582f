-- A block that was formatted scans as Undefined, with only its header used.
use mathlib.Core.Path.{◌≡◌, refl, sym, ap, ◌∙◌}
use mathlib.Core.Logic.{◌⊎◌, inl, inr}
use mathlib.Core.Bool.{Bool, true, false}
use mathlib.Core.List.{List, ◌∷◌, ◌++◌}
use Prim.Native.Nat.{ℕ, ◌+◌, ◌-◌, ◌*◌, ◌≤◌, ◌<◌}
use native.Mathlib.Omega.{arith}
use lib.ListN.{length, get_or, replicate, length-replicate, get_or-replicate}
use lib.Dec.{eqb}
use borrow.Author.Tests.{eqb-true, eqb-false, lt-leb}
use Rattle.medium.specs.declared.granularity.Granularity.{Granularity}
use Rattle.medium.specs.declared.geometry.Geometry.{Geometry}
use Rattle.medium.specs.declared.fuse.Fuse.TheVariants.{Absent}
use Rattle.medium.specs.Granularity.{pick, longest_block_header, width_of, align_of, size_at, header, block_header}
use Rattle.medium.specs.Geometry.{check_of, address}
use Rattle.medium.specs.Units.{under, blank}
use Rattle.medium.specs.Operation.{Answer, done, refused, and_then, End, run}
use Rattle.medium.specs.Strict.{all_ff}
use Rattle.medium.specs.Medium.{part, readable, erasable, read_at, write, erase, storable}
use Rattle.medium.proofs.Runs.{run_bind, run_ask, run_done, leb_is}
use Rattle.medium.proofs.Bytes.{length_part, get_d_part, part_is, length_erased}
use Rattle.medium.proofs.Split.{part_add}
use Rattle.medium.proofs.Padding.{AreBytes, cons_bytes, append_bytes, take_bytes, ff_bytes}
use Rattle.medium.proofs.Frame.{run_long, write_beside}
use Rattle.medium.proofs.Stores.{erase_run}
use Rattle.medium.proofs.Strict.{ff_all, all_ff_lem, free_store, storable_yes}
use Rattle.medium.proofs.Erased.{erased_at, written_reads}
use Rattle.medium.proofs.Places.{headed, laid, even_align}
use Rattle.medium.proofs.Checks.{Fine, fine_of_check}
use Rattle.medium.proofs.Ranges.{reached, readable_within, read_part}
use Rattle.objects.specs.declared.location.ObjectLocation.{ObjectLocation}
use Rattle.objects.specs.declared.state.CompositeObjectState.TheVariants as comp
use Rattle.objects.specs.Numbers.{bytes}
use Rattle.objects.specs.Types.{type_of, state_in}
use Rattle.objects.specs.Header.{state_at, sized_at, header_at}
use Rattle.objects.specs.Info.{none, info_at}
use Rattle.objects.specs.Listing.{free_place, start_of, next_of, listing}
use Rattle.objects.proofs.Numbers.{byte_bytes}
use Rattle.objects.proofs.Places.{places}
use Rattle.objects.proofs.Answers.{or_on}
use Rattle.blocks.specs.declared.header.BlockType.TheVariants.{Metadata, Data, Undefined}
use Rattle.blocks.specs.declared.header.BlockHeaderKind.{BlockHeaderKind}
use Rattle.blocks.specs.declared.header.BlockHeaderKind.TheVariants.{Empty, Unknown, Known}
use Rattle.blocks.specs.declared.header.BlockHeader.{BlockHeader}
use Rattle.blocks.specs.BlockHeader.{type_if, layout_byte, around, wide_bytes, header_bytes, write_header, kind_in, erase_count_in, header_in, block_header_at}
use Rattle.blocks.specs.Format.{data_length, data_empty_at, Planned, keep, label, renew, again, plan_empty, plan_undefined, plan_known, plan_of, plan_at, undefined, labelling, renewing, carry_out, format_block}
use Rattle.blocks.specs.Scan.{scan_block}
use Rattle.blocks.specs.Formatted.{HeaderReadsBack, count_by, planned_count, fresh_record, FormattedScans}
use Rattle.blocks.proofs.Headers.{bit_small, readable_of, check_of_header}
use Rattle.blocks.proofs.Formats.{reach_fine, reach_checked, reach_below, length_header, label_writes, planned, format_on, format_stop}
use Rattle.blocks.proofs.Scans.{scan_by_lem, scan_stopped}
use Rattle.blocks.proofs.ReadBack.{header_back, header_ff}

-- ---- an Undefined block with nothing behind its header

-- what stands behind a header is FF
pub data_ff : (g : Geometry) (b : ℕ) (img : List ℕ) → data_empty_at g b img ≡ done true → (o : ℕ) → block_header g.granularity ≤ o → o < g.size → get_or img (address g b o) 0 ≡ 255
unfolding data_empty_at
data_ff g b img e o lo hi = go (read_at g b (block_header g.granularity) (data_length g) img) refl e
  where
    bh : ℕ
    bh = block_header g.granularity

    go : (a : Answer (List ℕ)) → read_at g b bh (data_length g) img ≡ a → and_then a (λ bs. done (all_ff bs)) ≡ done true → get_or img (address g b o) 0 ≡ 255
    go (done bs) q h =
        let z = readable_of g b bh (data_length g) img bs q in
        let r = reached g (length img) b bh (data_length g) (readable g (length img) b bh (data_length g)) refl z in
        let same : bs ≡ part (address g b bh) (data_length g) img = let p = read_part g b bh (data_length g) img (readable g (length img) b bh (data_length g)) refl z in cc in
        let ff : all_ff (part (address g b bh) (data_length g) img) ≡ true = let w : all_ff bs ≡ true = cc in rw same at w in
        let l : length (part (address g b bh) (data_length g) img) ≡ data_length g = length_part (address g b bh) (data_length g) img r.ends in
        let k : o - bh < data_length g = omega arith in
        let m : address g b bh + (o - bh) ≡ address g b o = omega arith in
        ap (λ (j : ℕ). get_or img j 0) (sym m) ∙ sym (get_d_part (address g b bh) (data_length g) img (o - bh) 0 k)
        ∙ ff_all (part (address g b bh) (data_length g) img) (o - bh) ff (omega arith)
    go (refused n) q h = let z : ◌≡◌ {A = ℕ} 0 1 = cc in absurd (omega arith)

state_free : (k : Granularity) (bs : List ℕ) → get_or bs 0 0 ≡ 255 → state_in k bs ≡ done comp.Free
unfolding state_in type_of
state_free k bs e = rw e

module _ (g : Geometry) (b : ℕ) (img : List ℕ) (n : ℕ) (hd : block_header_at g b img ≡ done (undefined n)) (below : b < g.count) (empty : data_empty_at g b img ≡ done true) where
  fine : Fine g (length img)
  fine = fine_of_check g (length img) (check_of g (length img)) refl (check_of_header g b img (undefined n) hd)

  -- where the first object would be
  abbrev first : ObjectLocation
  first = record { block = b; offset = block_header g.granularity }

  reads : (o m : ℕ) → o + m ≤ g.size → read_at g b o m img ≡ done (part (address g b o) m img)
  reads o m h = read_part g b o m img (readable g (length img) b o m) refl (readable_within g (length img) b o m (check_of_header g b img (undefined n) hd) below h)

  free_state : state_at g first img ≡ done comp.Free
  unfolding state_at
  free_state =
      let f = fine in
      let l = laid g.granularity g.s 0 f.sound.s_most in
      let w = places g.granularity in
      let h : block_header g.granularity + size_at g.granularity ≤ g.size = omega (arith, f.sound.least, (headed g.granularity).block_short, w.most) in
      let z : address g b (block_header g.granularity) + 0 ≡ address g b (block_header g.granularity) = omega arith in
      let q : get_or (part (address g b (block_header g.granularity)) (size_at g.granularity) img) 0 0 ≡ 255 =
      get_d_part (address g b (block_header g.granularity)) (size_at g.granularity) img 0 0 (omega (arith, w.least))
      ∙ ap (λ (j : ℕ). get_or img j 0) z
      ∙ data_ff g b img empty (block_header g.granularity) (omega arith) (omega (arith, f.sound.least, (headed g.granularity).block_short)) in
      rw (reads (block_header g.granularity) (size_at g.granularity) h) (state_free g.granularity _ q)

  no_object : info_at g first img ≡ done none
  unfolding info_at header_at sized_at
  no_object =
      let f = fine in
      let w = places g.granularity in
      let h : block_header g.granularity + size_at g.granularity + g.s ≤ g.size = omega (arith, f.sound.least, f.sound.s_most, (headed g.granularity).block_short, w.most) in
      rw (free_state, reads (block_header g.granularity + size_at g.granularity) g.s h)

  next_free : next_of g (start_of g b) img ≡ done free_place
  unfolding next_of
  next_free =
      let f = fine in
      let l = laid g.granularity g.s 0 f.sound.s_most in
      let c = or_on (check_of g (length img)) (check_of g (length img)) refl (check_of_header g b img (undefined n) hd) in
      let h : block_header g.granularity + header g.granularity g.s < g.size = omega (arith, f.sound.least, (headed g.granularity).block_short, l.short) in
      rw (c, lt-leb _ _ h, no_object)

  pub fresh_scans : scan_block g b img ≡ done (fresh_record g.granularity n)
  unfolding listing
  fresh_scans =
      scan_by_lem g b (undefined n) img (Known Undefined) hd refl
      ∙ scan_stopped g img (check_of_header g b img (undefined n) hd) (start_of g b) (undefined n) false free_place tt (sym next_free)

-- ---- a header over an erased block

-- the bytes of a header are bytes
type_byte_lem : (k : Granularity) (at : ℕ) → type_if k at Undefined < 256
type_byte_lem k at = go (eqb (Rattle.medium.specs.Granularity.type_at k) at)
  where
    go : (t : Bool) → pick {A = ℕ} t 0xFF 0xFF < 256
    go true = omega arith
    go false = omega arith

around_bytes : (first second layout near n far : ℕ) → first < 256 → second < 256 → layout < 256 → near < 256 → far < 256 → AreBytes (around first second layout near n far)
around_bytes first second layout near n far a b c d e =
    cons_bytes first (second ∷ layout ∷ near ∷ (bytes 4 n ++ (far ∷ replicate (longest_block_header - 9) 255))) a
    (cons_bytes second (layout ∷ near ∷ (bytes 4 n ++ (far ∷ replicate (longest_block_header - 9) 255))) b
    (cons_bytes layout (near ∷ (bytes 4 n ++ (far ∷ replicate (longest_block_header - 9) 255))) c
    (cons_bytes near (bytes 4 n ++ (far ∷ replicate (longest_block_header - 9) 255)) d
    (append_bytes (bytes 4 n) (far ∷ replicate (longest_block_header - 9) 255) (byte_bytes 4 n)
    (cons_bytes far (replicate (longest_block_header - 9) 255) e (ff_bytes (longest_block_header - 9)))))))

header_bytes_lem : (g : Geometry) (n : ℕ) → g.s ≤ 3 → g.c ≤ 3 → AreBytes (header_bytes g (undefined n))
unfolding header_bytes
header_bytes_lem g n hs hc =
    let l : layout_byte g < 256 = omega (arith, bit_small g.granularity) in
    take_bytes (block_header g.granularity) (wide_bytes g (Known Undefined) n)
    (around_bytes 0xBA 0x01 (layout_byte g) (type_if g.granularity 3 Undefined) n (type_if g.granularity 8 Undefined)
    (omega arith) (omega arith) l (type_byte_lem g.granularity 3) (type_byte_lem g.granularity 8))

-- each byte of a block is FF
abbrev pub Blank : Geometry → ℕ → List ℕ → Type 0
Blank g b img = (o : ℕ) → o < g.size → get_or img (address g b o) 0 ≡ 255

module _ (g : Geometry) (b n : ℕ) (img : List ℕ) (reach : erasable g (length img) b ≡ 0) (ff : Blank g b img) (small : n < 4294967296) where
  abbrev after : List ℕ
  after = (run Absent (write g b 0 (header_bytes g (undefined n))) img).state

  sound : Fine g (length img)
  sound = reach_fine g (length img) b (erasable g (length img) b) refl reach

  long : length after ≡ length img
  long = run_long (write g b 0 (header_bytes g (undefined n))) img

  within : (o m : ℕ) → o + m ≤ g.size → read_at g b o m after ≡ done (part (address g b o) m after)
  within o m h =
      let c : check_of g (length after) ≡ 0 = rw long (reach_checked g (length img) b reach) in
      read_part g b o m after (readable g (length after) b o m) refl
      (readable_within g (length after) b o m c (reach_below g (length img) b (erasable g (length img) b) refl reach) h)

  reaches : (o m : ℕ) → o + m ≤ g.size → address g b o + m ≤ length img
  reaches o m h =
      (reached g (length img) b o m (readable g (length img) b o m) refl
      (readable_within g (length img) b o m (reach_checked g (length img) b reach) (reach_below g (length img) b (erasable g (length img) b) refl reach) h)).ends

  header_whole : align_of (width_of g.granularity) (length (header_bytes g (undefined n))) ≡ block_header g.granularity
  header_whole = ap (align_of (width_of g.granularity)) (length_header g n) ∙ even_align g.granularity (block_header g.granularity) (headed g.granularity).block_even

  room : block_header g.granularity ≤ g.size
  room = omega (arith, sound.sound.least, (headed g.granularity).block_short)

  -- its bytes are FF, so the header can be stored there under the mark too
  pub label_stores : storable g b 0 (header_bytes g (undefined n)) img ≡ 0
  label_stores =
      storable_yes g b 0 (header_bytes g (undefined n)) img (label_writes g b n (length img) reach)
      (λ _. free_store (width_of g.granularity) (address g b 0) (header_bytes g (undefined n)) img
      (λ i k. let q : address g b 0 + i ≡ address g b i = omega arith in ap (λ (j : ℕ). get_or img j 0) q ∙ ff i (omega (arith, header_whole, room)))
      (reaches 0 (align_of (width_of g.granularity) (length (header_bytes g (undefined n)))) (omega (arith, header_whole, room))))

  header_part : part (address g b 0) (block_header g.granularity) after ≡ header_bytes g (undefined n)
  header_part =
      let l = length_header g n in
      let h : 0 + length (header_bytes g (undefined n)) ≤ g.size = omega (arith, l, room) in
      let e : part (address g b 0) (length (header_bytes g (undefined n))) img ≡ replicate (length (header_bytes g (undefined n))) 255 =
      part_is (address g b 0) (length (header_bytes g (undefined n))) img (replicate (length (header_bytes g (undefined n))) 255) (reaches 0 _ h) (length-replicate _ 255)
      (λ i k. let q : address g b 0 + i ≡ address g b i = omega arith in ap (λ (j : ℕ). get_or img j 0) q ∙ ff i (omega (arith, h)) ∙ sym (get_or-replicate _ i 255 0 k)) in
      let r = written_reads g b 0 (header_bytes g (undefined n)) img label_stores (header_bytes_lem g n sound.sound.s_most sound.sound.c_most) e in
      let w = within 0 (length (header_bytes g (undefined n))) h in
      let z : part (address g b 0) (length (header_bytes g (undefined n))) after ≡ header_bytes g (undefined n) = cc in
      rw l at z

  pub labelled_header : block_header_at g b after ≡ done (undefined n)
  unfolding block_header_at HeaderReadsBack
  labelled_header =
      let bh = block_header g.granularity in
      let m : block_header g.granularity + (longest_block_header - block_header g.granularity) ≡ longest_block_header = omega (arith, (headed g.granularity).block_short) in
      let s : part (address g b 0) longest_block_header after ≡ header_bytes g (undefined n) ++ part (address g b 0 + block_header g.granularity) (longest_block_header - block_header g.granularity) after =
      ap (λ (x : ℕ). part (address g b 0) x after) (sym m)
      ∙ part_add (address g b 0) (block_header g.granularity) (longest_block_header - block_header g.granularity) after
      ∙ ap (λ (l : List ℕ). l ++ part (address g b 0 + block_header g.granularity) (longest_block_header - block_header g.granularity) after) header_part in
      rw (within 0 longest_block_header (omega (arith, sound.sound.least)), s)
      (ap (λ (h : BlockHeader). done h) (header_back g (undefined n) (part (address g b 0 + block_header g.granularity) (longest_block_header - block_header g.granularity) after) small))

  pub labelled_empty : data_empty_at g b after ≡ done true
  unfolding data_empty_at
  labelled_empty =
      let bh = block_header g.granularity in
      let h : block_header g.granularity + data_length g ≤ g.size = omega (arith, room) in
      let a : align_of (width_of g.granularity) (length (header_bytes g (undefined n))) ≡ block_header g.granularity = header_whole in
      let stays : (i : ℕ) → i < data_length g → get_or after (address g b (block_header g.granularity) + i) 0 ≡ 255 =
      λ i k. let q : address g b (block_header g.granularity) + i ≡ address g b (block_header g.granularity + i) = omega arith in
      write_beside Absent g b 0 (header_bytes g (undefined n)) img (address g b (block_header g.granularity) + i) 0 (inr (omega (arith, a)))
      ∙ ap (λ (j : ℕ). get_or img j 0) q ∙ ff (block_header g.granularity + i) (omega (arith, h)) in
      let e : part (address g b (block_header g.granularity)) (data_length g) after ≡ replicate (data_length g) 255 =
      part_is (address g b (block_header g.granularity)) (data_length g) after (replicate (data_length g) 255)
      (omega (arith, long, reaches (block_header g.granularity) (data_length g) h)) (length-replicate (data_length g) 255)
      (λ i k. stays i k ∙ sym (get_or-replicate (data_length g) i 255 0 k)) in
      rw (within (block_header g.granularity) (data_length g) h, e) (ap (λ (t : Bool). done t) (all_ff_lem (data_length g)))

  -- a header that was stored over an erased block
  labelled_scans : scan_block g b (run Absent (labelling g b n) img).state ≡ done (fresh_record g.granularity n)
  unfolding labelling write_header
  labelled_scans = fresh_scans g b after n labelled_header (reach_below g (length img) b (erasable g (length img) b) refl reach) labelled_empty

-- an erase, and then a header
renewed_scans : (g : Geometry) (b n : ℕ) (img : List ℕ) → erasable g (length img) b ≡ 0 → n < 4294967296
    → scan_block g b (run Absent (renewing g b n) img).state ≡ done (fresh_record g.granularity n)
unfolding renewing
renewed_scans g b n img e small =
    let gone : List ℕ = under (b * g.size) (blank g.size) img in
    let l : length (under (b * g.size) (blank g.size) img) ≡ length img = length_erased (b * g.size) g.size img in
    let f = reach_fine g (length img) b (erasable g (length img) b) refl e in
    let below = reach_below g (length img) b (erasable g (length img) b) refl e in
    let ends : (o : ℕ) → o < g.size → b * g.size + o < length img =
    λ o h. omega (arith, (reached g (length img) b o 1 (readable g (length img) b o 1) refl (readable_within g (length img) b o 1 (reach_checked g (length img) b e) below (omega arith))).ends) in
    rw (run_bind Absent (erase g b) (λ _. labelling g b n) img, erase_run g b img e)
    (labelled_scans g b n (under (b * g.size) (blank g.size) img) (rw l e) (λ o h. erased_at (b * g.size) g.size img o 0 h (ends o h)) small)

-- ---- what a plan tells of what was read

abbrev pub Told : BlockHeaderKind → ℕ → Answer Bool → Answer Planned → Type 0
Told k n e (done keep) = (k ≡ Known Undefined) × (e ≡ done true)
Told k n e (done label) = (k ≡ Empty) × (n ≡ 4294967295) × (e ≡ done true)
Told k n e (done (renew m)) = n < 4294967296 → m < 4294967296
Told k n e (refused r) = Unit {0}

again_tells : (k : BlockHeaderKind) (n : ℕ) (e : Answer Bool) → Told k n e (again n)
unfolding again
again_tells k n e = go (eqb n 4294967295) refl
  where
    go : (t : Bool) → eqb n 4294967295 ≡ t → Told k n e (pick t (refused 2) (done (renew (n + 1))))
    go true q = tt
    go false q = λ h. more (leb_is n 4294967294) h
      where
        more : (n ≤ 4294967294) ⊎ (4294967294 < n) → n < 4294967296 → n + 1 < 4294967296
        more (inl x) h = omega arith
        more (inr x) h = absurd (eqb-false n 4294967295 q (omega arith))

pub plan_tells : (k : BlockHeaderKind) (n : ℕ) (e : Answer Bool) → Told k n e (plan_of k n e)
unfolding plan_of plan_known
plan_tells Empty n e = go (eqb n 4294967295) refl
  where
    last : (a : Answer Bool) → n ≡ 4294967295 → Told Empty n a (plan_empty a)
    last (done true) q = (refl, q, refl)
    last (done false) q = λ _. omega arith
    last (refused r) q = tt

    go : (t : Bool) → eqb n 4294967295 ≡ t → Told Empty n e (pick t (plan_empty e) (done (renew 0)))
    go true q = last e (eqb-true _ _ q)
    go false q = λ _. omega arith
plan_tells Unknown n e = λ _. omega arith
plan_tells (Known Metadata) n e = again_tells (Known Metadata) n e
plan_tells (Known Data) n e = again_tells (Known Data) n e
plan_tells (Known Undefined) n e = go e
  where
    go : (a : Answer Bool) → Told (Known Undefined) n a (plan_undefined n a)
    go (done true) = (refl, refl)
    go (done false) = again_tells (Known Undefined) n (done false)
    go (refused r) = tt

-- ---- a format

module _ (g : Geometry) (b : ℕ) (img : List ℕ) (bytes : AreBytes img) (h : BlockHeader) (hd : block_header_at g b img ≡ done h) where
  abbrev pub raw : List ℕ
  raw = part (address g b 0) longest_block_header img

  checked : check_of g (length img) ≡ 0
  checked = check_of_header g b img h hd

  -- what was read
  pub read_is : (h ≡ header_in g raw) × (readable g (length img) b 0 longest_block_header ≡ 0)
  unfolding block_header_at
  read_is = go (read_at g b 0 longest_block_header img) refl hd
    where
      go : (a : Answer (List ℕ)) → read_at g b 0 longest_block_header img ≡ a → and_then a (λ bs. done (header_in g bs)) ≡ done h
          → (h ≡ header_in g raw) × (readable g (length img) b 0 longest_block_header ≡ 0)
      go (done bs) q p =
          let z = readable_of g b 0 longest_block_header img bs q in
          let s : bs ≡ raw = let w = read_part g b 0 longest_block_header img (readable g (length img) b 0 longest_block_header) refl z in cc in
          let x : header_in g bs ≡ h = cc in
          (sym x ∙ ap (λ (l : List ℕ). header_in g l) s, z)
      go (refused r) q p = let z : ◌≡◌ {A = ℕ} 0 1 = cc in absurd (omega arith)

  there : b < g.count
  there = (reached g (length img) b 0 longest_block_header (readable g (length img) b 0 longest_block_header) refl read_is.1).below

  pub raw_at : (i : ℕ) → i < longest_block_header → get_or raw i 0 ≡ get_or img (address g b i) 0
  raw_at i k = let q : address g b 0 + i ≡ address g b i = omega arith in get_d_part (address g b 0) longest_block_header img i 0 k ∙ ap (λ (j : ℕ). get_or img j 0) q

  raw_byte : (i : ℕ) → 4 ≤ i → i < 8 → get_or raw i 0 < 256
  raw_byte i lo hi = rw (raw_at i (omega arith)) (bytes (address g b i))

  pub count_small : h.erase_count < 4294967296
  count_small =
      let c : h.erase_count ≡ erase_count_in raw = ap (λ (x : BlockHeader). x.erase_count) read_is.0 in
      rw c
      (omega (arith, raw_byte 4 (omega arith) (omega arith), raw_byte 5 (omega arith) (omega arith), raw_byte 6 (omega arith) (omega arith), raw_byte 7 (omega arith) (omega arith)))

  -- an erased header over erased data is an erased block
  pub blank_by : h.kind ≡ Empty → h.erase_count ≡ 4294967295 → data_empty_at g b img ≡ done true → Blank g b img
  blank_by ek en ed o ho = go (leb_is (block_header g.granularity) o)
    where
      kind-is : kind_in g raw ≡ Empty
      kind-is = sym (ap (λ (x : BlockHeader). x.kind) read_is.0) ∙ ek

      count_is_lem : erase_count_in raw ≡ 4294967295
      count_is_lem = sym (ap (λ (x : BlockHeader). x.erase_count) read_is.0) ∙ en

      go : (block_header g.granularity ≤ o) ⊎ (o < block_header g.granularity) → get_or img (address g b o) 0 ≡ 255
      go (inl lo) = data_ff g b img ed o lo ho
      go (inr hi) = sym (raw_at o (omega (arith, (headed g.granularity).block_short))) ∙ header_ff g raw raw_byte kind-is count_is_lem o hi

  carried : (p : Planned) → Told h.kind h.erase_count (data_empty_at g b img) (done p) → erasable g (length img) b ≡ 0
      → scan_block g b (run Absent (carry_out g b p) img).state ≡ done (fresh_record g.granularity (count_by (done p) h.erase_count))
  carried keep t e =
      let q : h ≡ undefined h.erase_count = ap (λ (x : BlockHeaderKind). record { kind = x; erase_count = h.erase_count }) t.0 in
      rw (run_ask {A = Unit {0}} Absent (λ _. done tt) img) (fresh_scans g b img h.erase_count (hd ∙ ap (λ (x : BlockHeader). done x) q) there t.1)
  carried label t e = labelled_scans g b 0 img e (blank_by t.0 t.1 t.2) (omega arith)
  carried (renew m) t e = renewed_scans g b m img e (t count_small)

pub plan_is : (g : Geometry) (b : ℕ) (img : List ℕ) (h : BlockHeader) → block_header_at g b img ≡ done h → plan_at g b img ≡ plan_of h.kind h.erase_count (data_empty_at g b img)
unfolding plan_at
plan_is g b img h q = rw q

pub plan_stops : (g : Geometry) (b : ℕ) (img : List ℕ) (r : ℕ) → block_header_at g b img ≡ refused r → plan_at g b img ≡ refused r
unfolding plan_at
plan_stops g b img r q = rw q

pub formatted_scans : FormattedScans
unfolding FormattedScans
formatted_scans f g b img bytes e = go (block_header_at g b img) refl
  where
    planned-done : (r : ℕ) → plan_at g b img ≡ refused r → ⊥
    planned-done r q =
        let w : (run f (format_block g b) img).answer ≡ refused r = ap (λ (x : End (Unit {0})). x.answer) (format_stop f g b img r (sym q)) in
        let z : ◌≡◌ {A = ℕ} 0 1 = cc in omega arith

    by-plan : (h : BlockHeader) → block_header_at g b img ≡ done h → (a : Answer Planned) → plan_at g b img ≡ a → Told h.kind h.erase_count (data_empty_at g b img) a
        → scan_block g b (run f (format_block g b) img).state ≡ done (fresh_record g.granularity (count_by a h.erase_count))
    by-plan h q (done p) w t =
        let s : (run f (format_block g b) img).state ≡ (run Absent (carry_out g b p) img).state = run_done f (format_block g b) img tt e ∙ ap (λ (x : End (Unit {0})). x.state) (format_on Absent g b img p (sym w)) in
        rw s (carried g b img bytes h q p t (planned g b img p w))
    by-plan h q (refused r) w t = absurd (planned-done r w)

    go : (a : Answer BlockHeader) → block_header_at g b img ≡ a
        → scan_block g b (run f (format_block g b) img).state ≡ done (fresh_record g.granularity (planned_count g b img))
    go (done h) q =
        let c : planned_count g b img ≡ count_by (plan_at g b img) h.erase_count = rw q in
        rw c (by-plan h q (plan_at g b img) refl (rw (plan_is g b img h q) (plan_tells h.kind h.erase_count (data_empty_at g b img))))
    go (refused r) q = absurd (planned-done r (plan_stops g b img r q))
