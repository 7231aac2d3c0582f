-- What a copy and a move store with power: type, payload, size, finish mark, and then the original's delete mark; nothing else.
use mathlib.Core.Path.{◌≡◌, refl, sym, ap, ap₂, ◌∙◌}
use mathlib.Core.Logic.{◌⊎◌, inl, inr}
use mathlib.Core.Bool.{false}
use mathlib.Core.List.{List, [], ◌∷◌, ◌++◌, append_assoc, append-nil}
use Prim.Native.Nat.{ℕ, zero, suc, ◌+◌, ◌-◌, ◌*◌, ◌/◌, ◌%◌, ◌≤◌, ◌<◌, min}
use native.Mathlib.Nat.{zero-mod}
use native.Mathlib.Omega.{arith}
use lib.ListN.{length, take, drop, get_or, length-append, length-take, length-drop, take-append-drop}
use Rattle.medium.specs.declared.granularity.Granularity.{Granularity}
use Rattle.medium.specs.declared.geometry.Geometry.{Geometry}
use Rattle.medium.specs.Granularity.{width_of, units_in, align_of, delete_at, header}
use Rattle.medium.specs.Geometry.{check_of, address}
use Rattle.medium.specs.Units.{FlashUnit, units_of}
use Rattle.medium.specs.Operation.{flash, apply, Answer, done, and_then, ◌>>=◌, ◌>>◌, give, test}
use Rattle.medium.specs.Medium.{part, read_at, write}
use Rattle.objects.specs.declared.types.ObjectType.{ObjectType}
use Rattle.objects.specs.declared.state.ObjectDataState.TheVariants.{Valid, Deleted}
use Rattle.objects.specs.declared.state.CompositeObjectState.{CompositeObjectState}
use Rattle.objects.specs.declared.state.CompositeObjectState.TheVariants.{Free, Allocated}
use Rattle.objects.specs.declared.location.ObjectLocation.{ObjectLocation}
use Rattle.objects.specs.declared.header.ObjectHeader.{ObjectHeader}
use Rattle.objects.specs.declared.reader.ObjectReader.{ObjectReader}
use Rattle.objects.specs.Types.{type_byte}
use Rattle.objects.specs.Header.{header_at, payload_of, allocatable_of, marking, step_to, set_state}
use Rattle.objects.specs.Reader.{reader_at}
use Rattle.writer.specs.declared.writer.ObjectWriter.{ObjectWriter}
use Rattle.writer.specs.Writer.{allocate, write_some, finalize}
use Rattle.moving.specs.Moving.{source_in, source_at, chunk, turns_of, copying, copy_object, move_object}
use Rattle.medium.proofs.Runs.{leb_is}
use Rattle.medium.proofs.Bytes.{length_part, frame, length-apply}
use Rattle.medium.proofs.Frame.{part_same}
use Rattle.medium.proofs.Traced.{ran, bind_ran, ask_ran, store_ran, tested, asked}
use Rattle.medium.proofs.Writes.{write_ran}
use Rattle.medium.proofs.Split.{units_split, part_add}
use Rattle.medium.proofs.Places.{Laid, laid, even_add}
use Rattle.medium.proofs.Checks.{Fine, within, fine_of_check}
use Rattle.fresh.specs.Units.{span}
use Rattle.fresh.proofs.Places.{Floored, floored, far_from}
use Rattle.shown.proofs.Reading.{state_seen, read_yes, header_of}
use Rattle.powercut.specs.Stores.{type_units, pay_units, size_units, mark_units, delete_units, move_units}
use Rattle.fresh.proofs.Written.{inside, still_free}
use Rattle.fresh.proofs.Ran.{Place}
use Rattle.fresh.proofs.Ran as fresh
use Rattle.powercut.proofs.Crash.{Given}

-- a reader of a finished object
reader_of_lem : (g : Geometry) (h : ObjectHeader) (t : ObjectType) (m : List ℕ) → header_at g h.location m ≡ done h → h.state ≡ Allocated t Valid
    → reader_at g h.location false m ≡ done (record { object = h; cursor = 0 })
unfolding reader_at
reader_of_lem g h t m just_read finished = rw (just_read, finished)

-- what is to be copied of it
pub source_of : (g : Geometry) (h : ObjectHeader) (t : ObjectType) (n : ℕ) (m : List ℕ) → header_at g h.location m ≡ done h → h.state ≡ Allocated t Valid → payload_of g.s h ≡ n
    → source_at g h m ≡ done (record { kind = t; size = n })
unfolding source_at
source_of g h t n m just_read finished payload =
    ap (λ (x : Answer ObjectReader). and_then x (λ r. source_in h.state (payload_of g.s r.object))) (reader_of_lem g h t m just_read finished)
    ∙ ap₂ source_in finished payload

-- ---- the move of an object: what is given

pub record Ready (g : Geometry) (h : ObjectHeader) (to : ObjectLocation) (t : ObjectType) (pay img : List ℕ) : Type 0 where
  pub fine : check_of g (length img) ≡ 0
  pub just_read : header_at g h.location img ≡ done h
  pub finished : h.state ≡ Allocated t Valid
  pub payload : payload_of g.s h ≡ length pay
  pub block : h.location.block < g.count
  pub aligned : h.location.offset % width_of g.granularity ≡ 0
  pub in_block : h.location.offset + span g.granularity g.s (length pay) ≤ g.size
  pub block_to : to.block < g.count
  pub aligned_to : to.offset % width_of g.granularity ≡ 0
  pub in_block_to : to.offset + span g.granularity g.s (length pay) ≤ g.size
  pub given : Given g.granularity g.s t (address g h.location.block h.location.offset) (address g to.block to.offset) h.size pay img
  pub free_mark : g.strict ≡ 1 → (i : ℕ) → i < width_of g.granularity → get_or img (address g h.location.block h.location.offset + delete_at g.granularity + i) 0 ≡ 255

-- an image that has the original's header and payload as a ready one has them, and a state at the destination that can be allocated over
pub record Able (g : Geometry) (h : ObjectHeader) (to : ObjectLocation) (t : ObjectType) (pay img : List ℕ) : Type 0 where
  pub first : List ℕ
  pub ready : Ready g h to t pay first
  pub long : length img ≡ length first
  pub just_read : header_at g h.location img ≡ done h
  pub bytes_are : part (address g h.location.block h.location.offset + header g.granularity g.s) (length pay) img ≡ pay
  pub there : CompositeObjectState
  pub state_there : state_seen g.granularity (address g to.block to.offset) img ≡ done there
  pub allocatable : allocatable_of t there ≡ done tt

-- a ready one is such an image
pub able : (g : Geometry) (h : ObjectHeader) (to : ObjectLocation) (t : ObjectType) (pay img : List ℕ) → Ready g h to t pay img → Able g h to t pay img
unfolding allocatable_of
able g h to t pay img v =
    record {
      first = img;
      ready = v;
      long = refl;
      just_read = v.just_read;
      bytes_are = v.given.original.bytes_are;
      there = Free;
      state_there = still_free g.granularity g.s t (address g to.block to.offset) pay img v.given.new;
      allocatable = refl;
    }

-- ---- without the strict mark

module _ (g : Geometry) (h : ObjectHeader) (to : ObjectLocation) (t : ObjectType) (pay img : List ℕ) (v : Able g h to t pay img) (plain : g.strict ≡ 1 → ⊥) where
  abbrev gr : Granularity
  gr = g.granularity

  abbrev w : ℕ
  w = width_of g.granularity

  abbrev H : ℕ
  H = header g.granularity g.s

  abbrev b : ℕ
  b = h.location.block

  abbrev off : ℕ
  off = h.location.offset

  abbrev p : ℕ
  p = address g h.location.block h.location.offset

  abbrev q : ℕ
  q = address g to.block to.offset

  abbrev sp : ℕ
  sp = span g.granularity g.s (length pay)

  fine_now : check_of g (length img) ≡ 0
  fine_now = ap (check_of g) v.long ∙ v.ready.fine

  fine_is : Fine g (length img)
  fine_is = fine_of_check g (length img) (check_of g (length img)) refl (fine_now)

  l : Laid g.granularity g.s (length pay)
  l = laid g.granularity g.s (length pay) v.ready.given.new.width_3

  -- the destination, for the writer of the copy
  place_to : Place g to (length pay) (length img)
  place_to = record { fine = fine_now; block = v.ready.block_to; aligned = v.ready.aligned_to; in_block = v.ready.in_block_to }

  abbrev writer : ℕ → List ℕ → ObjectWriter
  writer cur tl = fresh.writer g to t pay (length img) place_to plain cur tl

  abbrev whole : List ℕ → List ℕ → ℕ
  whole tl c = fresh.whole g to t pay (length img) place_to plain tl c

  abbrev copy : ObjectHeader
  copy = header_of (Allocated t Valid) (length pay) to

  abbrev closing : List FlashUnit
  closing = size_units g.granularity g.s (length pay) q ++ mark_units g.granularity q

  abbrev closed : ObjectWriter
  closed = fresh.closed g to t pay (length img) place_to plain

  still : (m : List ℕ) → length m ≡ length img → check_of g (length m) ≡ 0
  still m e = ap (check_of g) e ∙ fine_now

  in_image : p + sp ≤ length img
  in_image = within h.location.block h.location.offset sp g.size g.count (length img) v.ready.block v.ready.in_block fine_is.whole

  -- a store into the original's block
  put_original : (m : List ℕ) (x : ℕ) (bs : List ℕ) → length m ≡ length img → x % w ≡ 0 → x + align_of w (length bs) ≤ sp → write g b (off + x) bs m ≡ ran (units_of w (p + x) bs) tt
  put_original m x bs e a r =
      let ad : address g h.location.block (h.location.offset + x) ≡ p + x = omega arith in
      write_ran g h.location.block (h.location.offset + x) bs m (still m e) v.ready.block (even_add g.granularity h.location.offset x v.ready.aligned a) (omega (arith, v.ready.in_block)) (λ on. absurd (plain on))
      ∙ ap (λ (i : ℕ). ran (units_of w i bs) tt) ad

  -- a turn's units and those of the later turns are those of one store
  joined : (cur : ℕ) (tl c : List ℕ) (from n r : ℕ) → c ≡ part (address g b from) n img
      → units_of w (q + H + cur) (take (whole tl c) (tl ++ c)) ++ units_of w (q + H + (cur + whole tl c)) (drop (whole tl c) (tl ++ c) ++ part (address g b (from + n)) r img)
      ≡ units_of w (q + H + cur) (tl ++ part (address g b from) (n + r) img)
  joined cur tl c from n r ec =
      let wh : ℕ = whole tl c in
      let A : ℕ = q + H + cur in
      let f : Floored g.granularity (length (tl ++ c)) = floored g.granularity (length (tl ++ c)) in
      let xs : List ℕ = take wh (tl ++ c) in
      let y : List ℕ = part (address g b (from + n)) r img in
      let ys : List ℕ = drop wh (tl ++ c) ++ y in
      let lw : length xs ≡ wh / w * w = simp length-take (omega (arith, f.even_count)) in
      let a1 : q + H + (cur + wh) ≡ A + wh / w * w = omega (arith, f.even_count) in
      let a2 : address g b (from + n) ≡ address g b from + n = omega arith in
      let z1 : xs ++ ys ≡ (tl ++ c) ++ y = sym (append_assoc xs (drop wh (tl ++ c)) y) ∙ ap (λ (r : List ℕ). r ++ y) (take-append-drop wh (tl ++ c)) in
      let z2 : c ++ y ≡ part (address g b from) (n + r) img =
      ap₂ (λ (x : List ℕ) (a : ℕ). x ++ part a r img) ec a2 ∙ sym (part_add (address g b from) n r img) in
      ap (λ (a : ℕ). units_of w A xs ++ units_of w a ys) a1
      ∙ sym (units_split w l.pos (wh / w) A xs ys lw)
      ∙ ap (units_of w A) (z1 ∙ append_assoc tl c y ∙ ap (λ (r : List ℕ). tl ++ r) z2)

  -- an image that has the original's bytes still
  record Holds (m : List ℕ) : Type 0 where
    length-kept : length m ≡ length img
    bytes-kept : (j : ℕ) → p ≤ j → j < p + sp → get_or m j 0 ≡ get_or img j 0

  kept_on : (a : ℕ) (bs m : List ℕ) → q ≤ a → a + units_in w (length bs) * w ≤ q + sp → Holds m → Holds (apply (units_of w a bs) m)
  kept_on a bs m h1 h2 k =
      record {
        length-kept = length-apply (units_of w a bs) m ∙ k.length-kept;
        bytes-kept = λ j x y. frame j 0 (units_of w a bs) m
            (inside w l.pos a bs q (q + sp) j h1 h2 (far_from p q sp j v.ready.given.apart x y))
            ∙ k.bytes-kept j x y;
      }

  chunk_long : (from n : ℕ) (m : List ℕ) → from + n ≤ off + sp → Holds m → length (part (address g b from) n m) ≡ n
  chunk_long from n m r kept = length_part (address g b from) n m (omega (arith, kept.length-kept, in_image))

  chunk_same : (from n : ℕ) (m : List ℕ) → off ≤ from → from + n ≤ off + sp → Holds m → part (address g b from) n m ≡ part (address g b from) n img
  chunk_same from n m h1 h2 kept =
      part_same (address g b from) n img m kept.length-kept (omega (arith, in_image)) (λ j x y. kept.bytes-kept j (omega arith) (omega arith))

  -- what the copying loop leaves: its units, and a writer whose tail completes the payload
  record Looped (k cur : ℕ) (tl : List ℕ) (from rest : ℕ) (m : List ℕ) : Type 0 where
    us : List FlashUnit
    last-cur : ℕ
    last-tl : List ℕ
    ran-is : copying k g b from rest (writer cur tl) m ≡ ran us (writer last-cur last-tl)
    units_are : us ++ units_of w (q + H + last-cur) last-tl ≡ units_of w (q + H + cur) (tl ++ part (address g b from) rest img)
    total : last-cur + length last-tl ≡ length pay
    on_word : last-cur % w ≡ 0
    short : length last-tl < w

  turn_total : (cur : ℕ) (tl : List ℕ) (rest n : ℕ) (c : List ℕ) → n ≡ min 16 rest → length c ≡ n → cur + length tl + rest ≡ length pay
      → cur + whole tl c + length (drop (whole tl c) (tl ++ c)) + (rest - 16) ≡ length pay
  turn_total cur tl rest n c hn lc e = simp length-drop (omega (arith, length-append tl c))

  turn_kept : (cur : ℕ) (tl : List ℕ) (rest n : ℕ) (c m : List ℕ) → n ≤ rest → length c ≡ n → cur + length tl + rest ≡ length pay → Holds m
      → Holds (apply (units_of w (q + H + cur) (take (whole tl c) (tl ++ c))) m)
  turn_kept cur tl rest n c m hn lc e kept =
      let lw : length (take (whole tl c) (tl ++ c)) ≡ whole tl c = simp length-take (omega arith) in
      kept_on (q + H + cur) (take (whole tl c) (tl ++ c)) m (omega arith)
      (rw lw (omega (arith, l, (floored g.granularity (length (tl ++ c))).even_units, length-append tl c))) kept

  turn_short : (tl c : List ℕ) → length (drop (whole tl c) (tl ++ c)) < w
  turn_short tl c = simp length-drop (floored g.granularity (length (tl ++ c))).rest

  -- what is read from 16 on is what is read behind the chunk
  rest_same : (from rest n : ℕ) → n ≡ min 16 rest → part (address g b (from + 16)) (rest - 16) img ≡ part (address g b (from + n)) (rest - n) img
  rest_same from rest n hn = go (leb_is 16 rest)
    where
      go : (16 ≤ rest) ⊎ (rest < 16) → part (address g b (from + 16)) (rest - 16) img ≡ part (address g b (from + n)) (rest - n) img
      go (inl x) = let e : 16 ≡ n = omega arith in ap (λ (i : ℕ). part (address g b (from + i)) (rest - i) img) e
      go (inr x) =
          let e : rest - 16 ≡ 0 = omega arith in
          let f : rest - n ≡ 0 = omega arith in
          ap (λ (i : ℕ). part (address g b (from + 16)) i img) e ∙ ap (λ (i : ℕ). part (address g b (from + n)) i img) (sym f)

  turn_units : (cur : ℕ) (tl : List ℕ) (from rest n : ℕ) (c : List ℕ) → n ≡ min 16 rest → c ≡ part (address g b from) n img → (us last : List FlashUnit)
      → us ++ last ≡ units_of w (q + H + (cur + whole tl c)) (drop (whole tl c) (tl ++ c) ++ part (address g b (from + 16)) (rest - 16) img)
      → (units_of w (q + H + cur) (take (whole tl c) (tl ++ c)) ++ us) ++ last ≡ units_of w (q + H + cur) (tl ++ part (address g b from) rest img)
  turn_units cur tl from rest n c hn ec us last e =
      let en : n + (rest - n) ≡ rest = omega arith in
      append_assoc (units_of w (q + H + cur) (take (whole tl c) (tl ++ c))) us last
      ∙ ap (λ (x : List FlashUnit). units_of w (q + H + cur) (take (whole tl c) (tl ++ c)) ++ x)
      (e ∙ ap (λ (x : List ℕ). units_of w (q + H + (cur + whole tl c)) (drop (whole tl c) (tl ++ c) ++ x)) (rest_same from rest n hn))
      ∙ joined cur tl c from n (rest - n) ec
      ∙ ap (λ (x : ℕ). units_of w (q + H + cur) (tl ++ part (address g b from) x img)) en

  chunk_ran : (cur : ℕ) (tl : List ℕ) (from n : ℕ) (c m : List ℕ) → length m ≡ length img → from + n ≤ g.size → c ≡ part (address g b from) n m → length tl < w
      → cur + length tl + length c ≤ length pay → cur % w ≡ 0
      → chunk g b from n (writer cur tl) m ≡ ran (units_of w (q + H + cur) (take (whole tl c) (tl ++ c))) (writer (cur + whole tl c) (drop (whole tl c) (tl ++ c)))
  unfolding chunk
  chunk_ran cur tl from n c m e r hc lt hl z =
      asked (read_at g b from n) (λ bs. write_some g (writer cur tl) bs) m (units_of w (q + H + cur) (take (whole tl c) (tl ++ c))) c (writer (cur + whole tl c) (drop (whole tl c) (tl ++ c)))
      (read_yes g b from n m (still m e) v.ready.block r ∙ ap done (sym hc)) (fresh.some_ran g to t pay (length img) place_to plain cur tl c m e lt hl z)

  -- one turn, from what the later turns leave; the chunk and the count are variables here, so that nothing is written out
  turn : (k cur : ℕ) (tl : List ℕ) (from rest : ℕ) (m : List ℕ) (n : ℕ) (c : List ℕ) → n ≡ min 16 rest → c ≡ part (address g b from) n m → c ≡ part (address g b from) n img
      → length c ≡ n → length m ≡ length img → cur + length tl + rest ≡ length pay → cur % w ≡ 0 → length tl < w → from + n ≤ g.size
      → Looped k (cur + whole tl c) (drop (whole tl c) (tl ++ c)) (from + 16) (rest - 16) (apply (units_of w (q + H + cur) (take (whole tl c) (tl ++ c))) m)
      → Looped (suc k) cur tl from rest m
  unfolding copying
  turn k cur tl from rest m n c hn hc ec lc lm e z lt r ih =
      record {
        us = units_of w (q + H + cur) (take (whole tl c) (tl ++ c)) ++ ih.us;
        last-cur = ih.last-cur;
        last-tl = ih.last-tl;
        ran-is =
            ap (λ (x : ℕ). (chunk g b from x (writer cur tl) >>= λ y. copying k g b (from + 16) (rest - 16) y) m) (sym hn)
            ∙ bind_ran (chunk g b from n (writer cur tl)) (λ y. copying k g b (from + 16) (rest - 16) y) m
            (units_of w (q + H + cur) (take (whole tl c) (tl ++ c))) ih.us (writer (cur + whole tl c) (drop (whole tl c) (tl ++ c))) (writer ih.last-cur ih.last-tl)
            (chunk_ran cur tl from n c m lm r hc lt (omega arith) z) ih.ran-is;
        units_are = turn_units cur tl from rest n c hn ec ih.us (units_of w (q + H + ih.last-cur) ih.last-tl) ih.units_are;
        total = ih.total;
        on_word = ih.on_word;
        short = ih.short;
      }

  none_left : (cur : ℕ) (tl : List ℕ) (from rest : ℕ) (m : List ℕ) → rest ≡ 0 → cur + length tl + rest ≡ length pay → cur % w ≡ 0 → length tl < w → Looped zero cur tl from rest m
  unfolding copying
  none_left cur tl from rest m r e z lt =
      record {
        us = [];
        last-cur = cur;
        last-tl = tl;
        ran-is = ask_ran (λ _. done (writer cur tl)) m (writer cur tl) refl;
        units_are = rw (r, append-nil);
        total = omega arith;
        on_word = z;
        short = lt;
      }

  loop : (k cur : ℕ) (tl : List ℕ) (from rest : ℕ) (m : List ℕ) → turns_of rest ≡ k → cur + length tl + rest ≡ length pay → cur % w ≡ 0 → length tl < w
      → off ≤ from → (0 < rest → from + rest ≤ off + sp) → Holds m → Looped k cur tl from rest m
  loop zero cur tl from rest m hk e z lt h1 h2 kept = none_left cur tl from rest m (omega arith) e z lt
  loop (suc k) cur tl from rest m hk e z lt h1 h2 kept =
      let r : from + rest ≤ off + sp = h2 (omega arith) in
      let c : List ℕ = part (address g b from) (min 16 rest) m in
      let lc : length (part (address g b from) (min 16 rest) m) ≡ min 16 rest = chunk_long from (min 16 rest) m (omega arith) kept in
      turn k cur tl from rest m (min 16 rest) c refl refl (chunk_same from (min 16 rest) m h1 (omega arith) kept) lc kept.length-kept e z lt (omega (arith, v.ready.in_block))
      (loop k (cur + whole tl c) (drop (whole tl c) (tl ++ c)) (from + 16) (rest - 16) (apply (units_of w (q + H + cur) (take (whole tl c) (tl ++ c))) m)
      (omega arith)
      (turn_total cur tl rest (min 16 rest) c refl lc e)
      (even_add g.granularity cur (whole tl c) z (floored g.granularity (length (tl ++ c))).even_mod)
      (turn_short tl c)
      (omega arith) (λ x. omega arith)
      (turn_kept cur tl rest (min 16 rest) c m (omega arith) lc e kept))

  pub deleted_ran : (m : List ℕ) → length m ≡ length img → set_state g h Deleted m ≡ ran (delete_units gr p) (header_of (Allocated t Deleted) h.size h.location)
  unfolding set_state marking
  deleted_ran m e =
      ap (λ (st : CompositeObjectState). (test {W = flash} (λ i. check_of g (length i)) >> step_to g h Deleted st) m) v.ready.finished
      ∙ tested (λ i. check_of g (length i)) (marking g h t Deleted) m (delete_units gr p) (header_of (Allocated t Deleted) h.size h.location) (still m e)
      (store_ran (write g b (off + delete_at gr) (0 ∷ [])) m (delete_units gr p) (header_of (Allocated t Deleted) h.size h.location)
      (put_original m (delete_at gr) (0 ∷ []) e l.delete_even (omega (arith, l))))

  -- ---- the whole

  source_ran : source_at g h img ≡ done (record { kind = t; size = length pay })
  source_ran = source_of g h t (length pay) img v.just_read v.ready.finished v.ready.payload

  first_kept : Holds (apply (type_units gr t q) img)
  first_kept = kept_on q (type_byte t ∷ []) img (omega arith) (omega (arith, l)) (record { length-kept = refl; bytes-kept = λ j x y. refl })

  copied_all : Looped (turns_of (length pay)) 0 [] (off + H) (length pay) (apply (type_units gr t q) img)
  copied_all =
      loop (turns_of (length pay)) 0 [] (off + H) (length pay) (apply (type_units gr t q) img) refl (omega arith) (zero-mod w) (omega (arith, l)) (omega arith) (λ x. omega (arith, l)) first_kept

  -- payload as one store, then the size, then the mark
  rest_ran : Looped (turns_of (length pay)) 0 [] (off + H) (length pay) (apply (type_units gr t q) img)
      → (copying (turns_of (length pay)) g b (off + H) (length pay) (writer 0 []) >>= λ x. finalize g x >>= λ y. give y.object) (apply (type_units gr t q) img)
      ≡ ran (pay_units gr g.s pay q ++ closing) copy
  rest_ran x =
      let m : List ℕ = apply (type_units gr t q) img in
      let i : List ℕ = apply x.us (apply (type_units gr t q) img) in
      let u : List FlashUnit = units_of w (q + H + x.last-cur) x.last-tl in
      let e : length (apply x.us (apply (type_units gr t q) img)) ≡ length img = length-apply x.us m ∙ length-apply (type_units gr t q) img in
      let a2 : q + H + 0 ≡ q + H = omega arith in
      let a3 : address g b (off + H) ≡ p + H = omega arith in
      let pays : part (address g b (off + H)) (length pay) img ≡ pay = ap (λ (a : ℕ). part a (length pay) img) a3 ∙ v.bytes_are in
      bind_ran (copying (turns_of (length pay)) g b (off + H) (length pay) (writer 0 [])) (λ x. finalize g x >>= λ y. give y.object) m
      x.us (u ++ closing) (writer x.last-cur x.last-tl) copy x.ran-is
      (bind_ran (finalize g (writer x.last-cur x.last-tl)) (λ y. give y.object) i (u ++ closing) [] closed copy
      (fresh.finalize_ran g to t pay (length img) place_to plain x.last-cur x.last-tl i e x.total x.on_word x.short) (ask_ran (λ _. done copy) (apply (u ++ closing) i) copy refl)
      ∙ ap (λ (us : List FlashUnit). ran us copy) (append-nil (u ++ closing)))
      ∙ ap (λ (us : List FlashUnit). ran us copy)
      (sym (append_assoc x.us u closing) ∙ ap (λ (us : List FlashUnit). us ++ closing) (x.units_are ∙ ap₂ (units_of w) a2 pays))

  -- all that a copy stores
  abbrev pub copy_units : List FlashUnit
  copy_units = type_units gr t q ++ (pay_units gr g.s pay q ++ closing)

  pub copied_ran : copy_object g h to img ≡ ran copy_units copy
  unfolding copy_object
  copied_ran =
      asked (source_at g h) (λ src. allocate g to src.kind >>= λ x. copying (turns_of src.size) g b (off + H) src.size x >>= λ y. finalize g y >>= λ z. give z.object) img
      copy_units (record { kind = t; size = length pay }) copy source_ran
      (bind_ran (allocate g to t) (λ x. copying (turns_of (length pay)) g b (off + H) (length pay) x >>= λ y. finalize g y >>= λ z. give z.object) img
      (type_units gr t q) (pay_units gr g.s pay q ++ closing) (writer 0 []) copy (fresh.allocate_ran g to t pay (length img) place_to plain img refl v.there v.state_there v.allocatable) (rest_ran copied_all))

  pub moved_ran : move_object g h to img ≡ ran (move_units gr g.s t pay p q) copy
  unfolding move_object
  moved_ran =
      let gone : ObjectHeader = header_of (Allocated t Deleted) h.size h.location in
      bind_ran (copy_object g h to) (λ new. set_state g h Deleted >>= λ _. give new) img copy_units (delete_units gr p) copy copy copied_ran
      (bind_ran (set_state g h Deleted) (λ _. give copy) (apply copy_units img) (delete_units gr p) [] gone copy
      (deleted_ran (apply copy_units img) (length-apply copy_units img)) (ask_ran (λ _. done copy) (apply (delete_units gr p) (apply copy_units img)) copy refl)
      ∙ ap (λ (us : List FlashUnit). ran us copy) (append-nil (delete_units gr p)))
      ∙ ap (λ (us : List FlashUnit). ran us copy) (simp append_assoc)
