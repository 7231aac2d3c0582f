-- What listings of the two blocks show of a move: the visits before the two places are as they were, and only these two places count otherwise.
use mathlib.Core.Path.{◌≡◌, refl, sym, ap, ap₂, ◌∙◌, subst}
use mathlib.Core.Logic.{◌⊎◌, inl, inr, ◌≢◌}
use mathlib.Core.Bool.{Bool, true, false}
use mathlib.Core.List.{List, [], ◌∷◌, ◌++◌}
use Prim.Native.Nat.{ℕ, zero, suc, ◌+◌, ◌-◌, ◌*◌, ◌≤◌, ◌<◌}
use native.Mathlib.Nat.{mul-le-mul_right, suc-mul, add_assoc, zero-add}
use native.Mathlib.Omega.{arith}
use lib.ListN.{length, take, get_or}
use lib.Seq.{take_all}
use lib.Dec.{eqb}
use borrow.Author.Tests.{eqb-true, eqb-false, eq-eqb}
use Rattle.medium.specs.declared.geometry.Geometry.{Geometry}
use Rattle.medium.specs.declared.fuse.Fuse.TheVariants.{Absent, Units}
use Rattle.medium.specs.Granularity.{pick, delete_at, header, block_header}
use Rattle.medium.specs.Geometry.{check_of, address}
use Rattle.medium.specs.Units.{FlashUnit}
use Rattle.medium.specs.Operation.{Answer, apply, done, run}
use Rattle.medium.specs.Medium.{part}
use Rattle.objects.specs.declared.types.ObjectType.{ObjectType}
use Rattle.objects.specs.declared.state.ObjectDataState.TheVariants.{Untrusted, Deleted}
use Rattle.objects.specs.declared.state.CompositeObjectState.TheVariants.{Allocated}
use Rattle.objects.specs.declared.location.ObjectLocation.{ObjectLocation}
use Rattle.objects.specs.declared.header.ObjectHeader.{ObjectHeader}
use Rattle.objects.specs.Types.{type_byte}
use Rattle.objects.specs.Header.{payload_of}
use Rattle.objects.specs.Payload.{equal}
use Rattle.objects.specs.Info.{found, none, info_at, total_of, span_of}
use Rattle.objects.specs.Listing.{placed, Met, next_in, next_of, Visit, list_by, list_from, listing}
use Rattle.moving.specs.Moving.{move_object}
use Rattle.powercut.specs.Demand.{Whole, Unfinished, Gone, address_of, payload_in, copy_of, Clear, Movable, units_to, Framed, Survives, Moved, Demand}
use Rattle.powercut.specs.Listed.{payload_read, is_copy, count_in, copies_in, copies, Listable, copies_after, copies_before, Counted, Listings}
use Rattle.medium.proofs.Runs.{leb_is}
use Rattle.medium.proofs.Bytes.{get_d_part}
use Rattle.medium.proofs.Places.{Laid, laid}
use Rattle.medium.proofs.Checks.{within}
use Rattle.objects.proofs.Equal.{equal_refl}
use Rattle.medium.proofs.Traced.{state_cut}
use Rattle.powercut.proofs.Ran.{Ready}
use Rattle.powercut.proofs.Survive.{us, units_are, cut_before, move_traced, copy_size, span_is, fine_is, told, long, apart_plain, ready, demand}
use Rattle.shown.proofs.Walk.{place, visit, span_at, next-in, next_end, next-object, span_least, Walked, walk-le, unwalk, Reached, reached, ended, walk_same}
use Rattle.shown.proofs.Agreeing.{Agree, agree_of_lem}
use Rattle.powercut.proofs.Counting.{walk_count, list_count}
use Rattle.shown.proofs.Steps.{free_fits}
use Rattle.medium.proofs.Programs.{Partly}
use Rattle.fresh.proofs.Parts.{payload_partly}
use Rattle.fresh.proofs.Scans.{free_info}
use Rattle.powercut.proofs.Phantom.{none-behind}

count_append : (g : Geometry) (b : ℕ) (t : ObjectType) (pay m : List ℕ) (xs ys : List Visit) → count_in g b t pay m (xs ++ ys) ≡ count_in g b t pay m xs + count_in g b t pay m ys
count_append g b t pay m [] ys = sym (zero-add (count_in g b t pay m ys))
count_append g b t pay m (x ∷ xs) ys =
    ap (λ (n : ℕ). pick (is_copy g b t pay m x) 1 0 + n) (count_append g b t pay m xs ys)
    ∙ sym (add_assoc (pick (is_copy g b t pay m x) 1 0) (count_in g b t pay m xs) (count_in g b t pay m ys))

-- an object that reads whole counts
whole_counts : (g : Geometry) (h : ObjectHeader) (t : ObjectType) (pay m : List ℕ) → length pay ≤ 65536 → Whole g h t pay m
    → is_copy g h.location.block t pay m (record { offset = h.location.offset; object = h }) ≡ true
unfolding is_copy payload_read
whole_counts g h t pay m small w =
    let all : part 0 65536 pay ≡ pay = take_all 65536 pay small in
    rw (w.finished, eq-eqb (type_byte t) (type_byte t) refl, w.reader, w.reads 0 65536 (omega arith)) (ap (λ (bs : List ℕ). equal bs pay) all ∙ equal_refl pay)

gone_counts : (g : Geometry) (b o size : ℕ) (at : ObjectLocation) (t : ObjectType) (pay m : List ℕ)
    → is_copy g b t pay m (record { offset = o; object = record { state = Allocated t Deleted; size = size; location = at } }) ≡ false
unfolding is_copy
gone_counts g b o size at t pay m = refl

begun_counts : (g : Geometry) (b o size : ℕ) (at : ObjectLocation) (t : ObjectType) (pay m : List ℕ)
    → is_copy g b t pay m (record { offset = o; object = record { state = Allocated t Untrusted; size = size; location = at } }) ≡ false
unfolding is_copy
begun_counts g b o size at t pay m = refl

span_size : (g : Geometry) (h k : ObjectHeader) → payload_of g.s h ≡ payload_of g.s k → span_of g.granularity g.s h ≡ span_of g.granularity g.s k
unfolding total_of
span_size g h k e = rw e

payload_size_lem : (s : ℕ) (h k : ObjectHeader) → h.size ≡ k.size → payload_of s h ≡ payload_of s k
unfolding payload_of
payload_size_lem s h k e = rw e

blocks_apart : (a b size : ℕ) → a < b → a * size + size ≤ b * size
blocks_apart a b size h = omega (arith, mul-le-mul_right size h, suc-mul a size)

module _ (g : Geometry) (h : ObjectHeader) (to : ObjectLocation) (room : ℕ) (t : ObjectType) (img : List ℕ) (v : Movable g h to room t img) (w : Listable g h to room img) where
  abbrev pay : List ℕ
  pay = payload_in g h img

  abbrev src : ℕ
  src = h.location.block

  abbrev off : ℕ
  off = h.location.offset

  abbrev dst : ℕ
  dst = to.block

  abbrev p : ℕ
  p = address_of g h.location

  abbrev q : ℕ
  q = address_of g to

  abbrev sp : ℕ
  sp = span_of g.granularity g.s h

  abbrev start : ℕ
  start = block_header g.granularity

  hs : h.location.block < g.count
  hs = (told g h to room t img v).block

  l : Laid g.granularity g.s (payload_of g.s h)
  l = laid g.granularity g.s (payload_of g.s h) (fine_is g h to room t img v).sound.s_most

  -- the listing stops free at the destination, so a header fits there
  header_fits : to.offset + header g.granularity g.s < g.size
  unfolding listing
  header_fits = subst (λ (e : ℕ). e + header g.granularity g.s < g.size) w.last (free_fits g to.block img v.fine g.size start w.stop)

  near : header g.granularity g.s + payload_of g.s h ≤ sp
  near = (span_least g src img v.fine h).0

  -- ---- an image that a move may leave: how much the original counts in it, and what stands at the destination

  record Left (last : List ℕ) (x y : ℕ) : Type 0 where
    len : length last ≡ length img
    framed : (j : ℕ) → Clear q (q + sp) j → j ≢ p + delete_at g.granularity → get_or last j 0 ≡ get_or img j 0
    object : ObjectHeader
    info : info_at g h.location last ≡ done (found object)
    size-kept : object.size ≡ h.size
    counts : pick (is_copy g src t pay last (visit g src off object)) 1 0 ≡ x
    tail : (n : ℕ) → count_in g dst t pay last (list_from (suc n) g (placed dst to.offset) last).visits ≡ y

  -- the original in the listing of its block
  original_at : Reached g src g.size img start w.listed.before w.listed.after (visit g src off h)
  unfolding listing
  original_at = reached g src g.size img start w.listed.before w.listed.after (visit g src off h) w.listed.is

  abbrev left : ℕ
  left = original_at.left

  -- what is listed before the original does not change, and then the original is visited
  module _ (last : List ℕ) (x y : ℕ) (m : Left last x y) where
    fine-last : check_of g (length last) ≡ 0
    fine-last = ap (check_of g) m.len ∙ v.fine

    object-span : span_at g src m.object ≡ sp
    object-span = span_size g m.object h (payload_size_lem g.s m.object h m.size-kept)

    from-original : Agree g src start off img last
        → copies_in g src t pay last ≡ count_in g src t pay img w.listed.before + (x + count_in g src t pay last (list_from left g (placed src (off + sp)) last).visits)
    unfolding listing list_from
    from-original f =
        let r : Reached g src g.size img start w.listed.before w.listed.after (visit g src off h) = original_at in
        let n : g.size - length w.listed.before ≡ suc left = omega (arith, original_at.fuel) in
        let visits : (list_from g.size g (placed src start) last).visits ≡ w.listed.before ++ (list_from (suc left) g (placed src off) last).visits =
        unwalk g src last fine-last w.listed.before start off g.size (walk_same g src img last v.fine w.listed.before start off r.walked f) (omega (arith, original_at.fuel))
        ∙ ap (λ (k : ℕ). w.listed.before ++ (list_from k g (placed src off) last).visits) n in
        let step : (list_from (suc left) g (placed src off) last).visits ≡ visit g src off m.object ∷ (list_from left g (placed src (off + sp)) last).visits =
        ap (λ (k : Answer Met). (list_by k (placed src off) (λ j. list_from left g j last)).visits) (next-object g src last fine-last off m.object r.fits m.info)
        ∙ ap (λ (k : ℕ). visit g src off m.object ∷ (list_from left g (placed src (off + k)) last).visits) object-span in
        ap (count_in g src t pay last) (visits ∙ ap (λ (k : List Visit). w.listed.before ++ k) step)
        ∙ count_append g src t pay last w.listed.before (visit g src off m.object ∷ (list_from left g (placed src (off + sp)) last).visits)
        ∙ ap₂ (λ (i j : ℕ). i + (j + count_in g src t pay last (list_from left g (placed src (off + sp)) last).visits))
        (walk_count g src img last v.fine t pay w.listed.before start off r.walked f) m.counts

    -- a walk to the destination, and then what stands there
    to_end : (b n o : ℕ) (vs : List Visit) → b ≡ dst → Walked g b img o vs to.offset → length vs < n → Agree g b o to.offset img last
        → count_in g b t pay last (list_from n g (placed b o) last).visits ≡ count_in g b t pay img vs + y
    to_end b n o vs e k lt f =
        let i : n - length vs ≡ suc (n - length vs - 1) = omega arith in
        ap (count_in g b t pay last) (unwalk g b last fine-last vs o to.offset n (walk_same g b img last v.fine vs o to.offset k f) (omega arith))
        ∙ count_append g b t pay last vs (list_from (n - length vs) g (placed b to.offset) last).visits
        ∙ ap₂ (λ (c d : ℕ). c + d) (walk_count g b img last v.fine t pay vs o to.offset k f)
        (ap₂ (λ (c a : ℕ). count_in g a t pay last (list_from c g (placed a to.offset) last).visits) i e ∙ m.tail (n - length vs - 1))

  -- ---- in two blocks, or in one

  abbrev before_count : ℕ
  before_count = count_in g h.location.block t (payload_in g h img) img w.listed.before

  abbrev behind_visits : List Visit
  behind_visits = (list_from original_at.left g (placed h.location.block (h.location.offset + span_of g.granularity g.s h)) img).visits

  abbrev behind_count : ℕ
  behind_count = count_in g h.location.block t (payload_in g h img) img behind_visits

  abbrev to_count : ℕ
  to_count = count_in g to.block t (payload_in g h img) img (listing g to.block img).visits

  mark_inside : delete_at g.granularity < sp
  mark_inside = omega (arith, l, near)

  whole_in : off + sp ≤ g.size
  whole_in =
      let r : Ready g h to t (payload_in g h img) img = ready g h to room t img v in
      omega (arith, r.in_block, span_is g h to t (payload_in g h img) img r)

  module _ (last : List ℕ) (x y : ℕ) (m : Left last x y) where
    clear-block : (j : ℕ) → src ≢ dst → src * g.size ≤ j → j < src * g.size + g.size → Clear q (q + sp) j
    clear-block j ne a c = go (leb_is (suc src) dst) (leb_is (suc dst) src)
      where
        go : (suc src ≤ dst) ⊎ (dst < suc src) → (suc dst ≤ src) ⊎ (src < suc dst) → Clear q (q + sp) j
        go (inl d) e = inl (omega (arith, blocks_apart src dst g.size d))
        go (inr d) (inl e) = inr (omega (arith, blocks_apart dst src g.size e, v.in_block, v.large))
        go (inr d) (inr e) = absurd (ne (omega arith))

    apart-counts : src ≢ dst → copies_in g src t pay last + copies_in g dst t pay last ≡ before_count + behind_count + to_count + (x + y)
    unfolding listing
    apart-counts ne =
        let a : copies_in g src t pay last ≡ before_count + (x + count_in g src t pay last (list_from left g (placed src (off + sp)) last).visits) =
        from-original last x y m (agree_of_lem g src start off img last m.len (λ j c d. m.framed j (clear-block j ne (omega arith) (omega (arith, whole_in))) (λ e. omega arith))) in
        let b : count_in g src t pay last (list_from left g (placed src (off + sp)) last).visits ≡ behind_count =
        list_count g src img last v.fine t pay left (off + sp)
        (agree_of_lem g src (off + sp) g.size img last m.len (λ j c d. m.framed j (clear-block j ne (omega arith) (omega arith)) (λ e. omega (arith, mark_inside)))) in
        let k : Walked g dst img start (listing g dst img).visits to.offset = ended g dst g.size img start to.offset w.stop w.last in
        let c : copies_in g dst t pay last ≡ to_count + y =
        to_end last x y m dst g.size start (listing g dst img).visits refl k (omega (arith, walk-le g dst img v.fine (listing g dst img).visits start to.offset k, header_fits))
        (agree_of_lem g dst start to.offset img last m.len (λ j c d. m.framed j (inl d) (λ e. other_block j ne c (omega (arith, header_fits)) (omega (arith, mark_inside, whole_in)) e))) in
        omega (arith, a, b, c)
      where
        other_block : (j : ℕ) → src ≢ dst → address g dst start ≤ j → j < dst * g.size + g.size → p + delete_at g.granularity < src * g.size + g.size → j ≡ p + delete_at g.granularity → ⊥
        other_block j ne c d f e = go (leb_is (suc src) dst) (leb_is (suc dst) src)
          where
            go : (suc src ≤ dst) ⊎ (dst < suc src) → (suc dst ≤ src) ⊎ (src < suc dst) → ⊥
            go (inl a) b = omega (arith, blocks_apart src dst g.size a)
            go (inr a) (inl b) = omega (arith, blocks_apart dst src g.size b)
            go (inr a) (inr b) = ne (omega arith)

    -- with the destination in the original's own block, which then lies behind it
    within-counts : src ≡ dst → copies_in g src t pay last ≡ before_count + behind_count + (x + y)
    unfolding listing
    within-counts e =
        let k : Walked g src img (off + sp) behind_visits to.offset =
        ended g src left img (off + sp) to.offset (original_at.stop ∙ ap (λ (b : ℕ). (listing g b img).stop) e ∙ w.stop) (original_at.last ∙ ap (λ (b : ℕ). (listing g b img).last) e ∙ w.last) in
        let i : off + sp + length behind_visits ≤ to.offset = walk-le g src img v.fine behind_visits (off + sp) to.offset k in
        let j : start + length w.listed.before ≤ off = walk-le g src img v.fine w.listed.before start off original_at.walked in
        let s : src * g.size ≡ dst * g.size = ap (λ (b : ℕ). b * g.size) e in
        let a : copies_in g src t pay last ≡ before_count + (x + count_in g src t pay last (list_from left g (placed src (off + sp)) last).visits) =
        from-original last x y m (agree_of_lem g src start off img last m.len (λ j c d. m.framed j (inl (omega arith)) (λ n. omega arith))) in
        let b : count_in g src t pay last (list_from left g (placed src (off + sp)) last).visits ≡ behind_count + y =
        to_end last x y m src left (off + sp) behind_visits e k (omega (arith, original_at.fuel, header_fits, mark_inside))
        (agree_of_lem g src (off + sp) to.offset img last m.len (λ j c d. m.framed j (inl (omega arith)) (λ n. omega (arith, mark_inside)))) in
        omega (arith, a, b)

    -- what does not change, and what the two places count
    total : copies g src dst t pay last ≡ pick (eqb src dst) (before_count + behind_count) (before_count + behind_count + to_count) + (x + y)
    total = go (eqb src dst) refl
      where
        go : (c : Bool) → eqb src dst ≡ c → pick c (copies_in g src t pay last) (copies_in g src t pay last + copies_in g dst t pay last)
            ≡ pick c (before_count + behind_count) (before_count + behind_count + to_count) + (x + y)
        go true e = within-counts (eqb-true src dst e)
        go false e = apart-counts (eqb-false src dst e)

  -- ---- the images that a move leaves

  abbrev r : Ready g h to t (payload_in g h img) img
  r = ready g h to room t img v

  left_at : (k : ℕ) → (run (Units k) (move_object g h to) img).state ≡ apply (take k (us g h to t pay img r)) img
  left_at k = state_cut (move_object g h to) (us g h to t pay img r) (copy_of g h to) img (move_traced g h to t pay img r) k

  small : length pay ≤ 65536
  small = omega (arith, long g h to room t img v, near, whole_in, (fine_is g h to room t img v).sound.small)

  pay_byte : (i : ℕ) → i < length pay → get_or pay i 0 < 256
  pay_byte i c = subst (λ (n : ℕ). n < 256) (sym (get_d_part (address g src (off + header g.granularity g.s)) (payload_of g.s h) img i 0 (omega (arith, long g h to room t img v)))) (v.bytes _)

  -- every byte from the destination on to its block's end was FF
  free_byte : (j : ℕ) → to.offset + j < g.size → get_or img (q + j) 0 ≡ 255
  free_byte j c = v.erased j (omega (arith, w.to_end))

  in_image : (j : ℕ) → to.offset + j < g.size → q + j < length img
  in_image j c = omega (arith, within to.block (to.offset + j) 1 g.size g.count (length img) v.block (omega arith) (fine_is g h to room t img v).whole)

  -- before the mark, none at the destination
  begun_tail : (k : ℕ) (last : List ℕ) → k ≤ units_to g h → last ≡ apply (take k (us g h to t pay img r)) img → length last ≡ length img → Unfinished g to t last
      → (n : ℕ) → count_in g dst t pay last (list_from (suc n) g (placed dst to.offset) last).visits ≡ 0
  unfolding list_from
  begun_tail k last hk e len u n = go u.info
    where
      fine : check_of g (length last) ≡ 0
      fine = ap (check_of g) len ∙ v.fine

      some : (j : ℕ) → to.offset + header g.granularity g.s + j < g.size → Partly pay j (get_or last (address g dst to.offset + header g.granularity g.s + j) 0)
      some j c =
          let x : q + (header g.granularity g.s + j) ≡ q + header g.granularity g.s + j = omega arith in
          subst (λ (m : List ℕ). Partly pay j (get_or m (address g dst to.offset + header g.granularity g.s + j) 0))
          (sym (e ∙ ap (λ (u : List FlashUnit). apply u img) (cut_before g h to t pay img r k (omega (arith, units_are g h to t pay img r)))))
          (payload_partly g.granularity g.s t q pay img r.given.new k j (omega (arith, in_image (header g.granularity g.s + j) (omega arith)))
          (ap (λ (i : ℕ). get_or img i 0) (sym x) ∙ free_byte (header g.granularity g.s + j) (omega arith)))

      go : (info_at g to last ≡ done none) ⊎ (info_at g to last ≡ done (found (record { state = Allocated t Untrusted; size = u.size; location = to })))
          → count_in g dst t pay last (list_by (next_of g (placed dst to.offset) last) (placed dst to.offset) (λ j. list_from n g j last)).visits ≡ 0
      go (inl i) =
          ap (λ (x : Answer Met). count_in g dst t pay last (list_by x (placed dst to.offset) (λ j. list_from n g j last)).visits)
          (next-in g dst last fine to.offset (header_fits) ∙ ap (next_in g (placed dst to.offset)) i)
      go (inr i) =
          let o : ObjectHeader = record { state = Allocated t Untrusted; size = u.size; location = to } in
          ap (λ (x : Answer Met). count_in g dst t pay last (list_by x (placed dst to.offset) (λ j. list_from n g j last)).visits) (next-object g dst last fine to.offset o (header_fits) i)
          ∙ ap₂ (λ (x : Bool) (c : ℕ). pick x 1 0 + c) (begun_counts g dst to.offset u.size to t pay last)
          (none-behind g dst last fine v.block t pay to.offset (header_fits) some n (to.offset + span_at g dst o) (omega (arith, span_least g dst last fine o)))

  -- after it, one
  copied_tail : (last : List ℕ) → length last ≡ length img → ((j : ℕ) → Clear q (q + sp) j → j ≢ p + delete_at g.granularity → get_or last j 0 ≡ get_or img j 0)
      → Whole g (copy_of g h to) t pay last → (n : ℕ) → count_in g dst t pay last (list_from (suc n) g (placed dst to.offset) last).visits ≡ 1
  unfolding list_from
  copied_tail last len framed c n =
      ap (λ (x : Answer Met). count_in g dst t pay last (list_by x (placed dst to.offset) (λ j. list_from n g j last)).visits) (next-object g dst last fine to.offset (copy_of g h to) (header_fits) c.info)
      ∙ ap₂ (λ (x : Bool) (i : ℕ). pick x 1 0 + i) (whole_counts g (copy_of g h to) t pay last small c)
      (ap (λ (i : ℕ). count_in g dst t pay last (list_from n g (placed dst (to.offset + i)) last).visits) copy_span ∙ nothing n)
    where
      fine : check_of g (length last) ≡ 0
      fine = ap (check_of g) len ∙ v.fine

      copy_span : span_at g dst (copy_of g h to) ≡ sp
      copy_span = span_size g (copy_of g h to) h (copy_size g h to t pay img r ∙ long g h to room t img v)

      total-in : (p + (header g.granularity g.s + payload_of g.s h) ≤ q) ⊎ (q + room ≤ p)
      total-in = apart_plain g h to room t img v

      nothing : (n : ℕ) → count_in g dst t pay last (list_from n g (placed dst (to.offset + sp)) last).visits ≡ 0
      nothing zero = refl
      nothing (suc n) = at (leb_is g.size (to.offset + sp + header g.granularity g.s)) total-in
        where
          at : (g.size ≤ to.offset + sp + header g.granularity g.s) ⊎ (to.offset + sp + header g.granularity g.s < g.size)
              → (p + (header g.granularity g.s + payload_of g.s h) ≤ q) ⊎ (q + room ≤ p)
              → count_in g dst t pay last (list_by (next_of g (placed dst (to.offset + sp)) last) (placed dst (to.offset + sp)) (λ j. list_from n g j last)).visits ≡ 0
          at (inl x) d = ap (λ (y : Answer Met). count_in g dst t pay last (list_by y (placed dst (to.offset + sp)) (λ j. list_from n g j last)).visits) (next_end g dst last fine (to.offset + sp) x)
          at (inr x) d =
              let ad : address g dst (to.offset + sp) ≡ q + sp = omega arith in
              let byte : get_or last (address g dst (to.offset + sp)) 0 ≡ 255 =
              ap (λ (i : ℕ). get_or last i 0) ad ∙ framed (q + sp) (inr (omega arith)) (apart d) ∙ free_byte sp (omega arith) in
              let none-there : info_at g (place g dst (to.offset + sp)) last ≡ done none = free_info g dst (to.offset + sp) last fine v.block (omega (arith, l)) byte in
              ap (λ (y : Answer Met). count_in g dst t pay last (list_by y (placed dst (to.offset + sp)) (λ j. list_from n g j last)).visits)
              (next-in g dst last fine (to.offset + sp) x ∙ ap (next_in g (placed dst (to.offset + sp))) none-there)
            where
              apart : (p + (header g.granularity g.s + payload_of g.s h) ≤ q) ⊎ (q + room ≤ p) → q + sp ≢ p + delete_at g.granularity
              apart (inl y) e = omega (arith, l)
              apart (inr y) e = omega (arith, w.to_end)

  -- ---- each phase

  whole_left : (last : List ℕ) (y : ℕ) → Framed g h to img last → Whole g h t pay last → ((n : ℕ) → count_in g dst t pay last (list_from (suc n) g (placed dst to.offset) last).visits ≡ y) → Left last 1 y
  whole_left last y f o tl =
      record {
        len = f.long;
        framed = f.elsewhere;
        object = h;
        info = o.info;
        size-kept = refl;
        counts = ap (λ (c : Bool). pick c 1 0) (whole_counts g h t pay last small o);
        tail = tl;
      }

  gone_left : (last : List ℕ) → Framed g h to img last → Gone g h t last → Whole g (copy_of g h to) t pay last → Left last 0 1
  gone_left last f o c =
      record {
        len = f.long;
        framed = f.elsewhere;
        object = record { state = Allocated t Deleted; size = h.size; location = h.location };
        info = o.info;
        size-kept = refl;
        counts = ap (λ (c : Bool). pick c 1 0) (gone_counts g src off h.size h.location t pay last);
        tail = copied_tail last f.long f.elsewhere c;
      }

  abbrev others : ℕ
  others = pick (eqb src dst) (before_count + behind_count) (before_count + behind_count + to_count)

  survives : (k : ℕ) → Survives g h to t pay img k (run (Units k) (move_object g h to) img)
  unfolding Demand
  survives k = (demand g h to room t img v).1 k

  before_is : (k : ℕ) → k ≤ units_to g h → copies_after g h to t img (Units k) ≡ others + 1
  before_is k c =
      let d : Survives g h to t pay img k (run (Units k) (move_object g h to) img) = survives k in
      let last : List ℕ = (run (Units k) (move_object g h to) img).state in
      total last 1 0 (whole_left last 0 d.framed (d.before_mark c).0 (begun_tail k last c (left_at k) d.framed.long (d.before_mark c).1))

  between_is : copies_after g h to t img (Units (units_to g h + 1)) ≡ others + 2
  between_is =
      let k : ℕ = units_to g h + 1 in
      let d : Survives g h to t pay img k (run (Units k) (move_object g h to) img) = survives k in
      let last : List ℕ = (run (Units k) (move_object g h to) img).state in
      total last 1 1 (whole_left last 1 d.framed (d.between_marks refl).0 (copied_tail last d.framed.long d.framed.elsewhere (d.between_marks refl).1))

  after_is : (k : ℕ) → units_to g h + 2 ≤ k → copies_after g h to t img (Units k) ≡ others + 1
  after_is k c =
      let d : Survives g h to t pay img k (run (Units k) (move_object g h to) img) = survives k in
      let last : List ℕ = (run (Units k) (move_object g h to) img).state in
      total last 0 1 (gone_left last d.framed (d.after_marks c).0 (d.after_marks c).1)

  power_is : copies_after g h to t img Absent ≡ others + 1
  unfolding Demand
  power_is =
      let d : Moved g h to t pay img (run Absent (move_object g h to) img) = (demand g h to room t img v).0 in
      let last : List ℕ = (run Absent (move_object g h to) img).state in
      total last 0 1 (gone_left last d.framed d.original d.copy)

  -- no unit at all is the image as it was
  img_is : copies_before g h to t img ≡ others + 1
  img_is = ap (λ (m : List ℕ). copies g src dst t pay m) (sym (left_at 0)) ∙ before_is 0 (omega arith)

  counted : Counted g h to t img
  counted =
      record {
        some = omega (arith, img_is);
        before_mark = λ k c. before_is k c ∙ sym img_is;
        between_marks = omega (arith, between_is, img_is);
        after_marks = λ k c. after_is k c ∙ sym img_is;
        with_power = power_is ∙ sym img_is;
      }

pub listings : Listings
unfolding Listings
listings g h to room t img v w = counted g h to room t img v w
