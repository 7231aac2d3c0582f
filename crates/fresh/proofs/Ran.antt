-- What the writer's steps store with power at an aligned place with room in one block: the type, the whole words of what it is given, and at the
-- end what is held, the size and the mark. Without the strict mark; Marked.antt has it for an erased place under the mark too.
use mathlib.Core.Path.{◌≡◌, refl, sym, ap, ap₂, ◌∙◌, subst}
use mathlib.Core.Bool.{false, ◌&&◌}
use mathlib.Core.List.{List, [], ◌∷◌, ◌++◌, append_assoc, append-nil}
use Prim.Native.Nat.{ℕ, ◌+◌, ◌-◌, ◌*◌, ◌/◌, ◌%◌, ◌≤◌, ◌<◌}
use native.Mathlib.Nat.{zero-mod, zero-add, add-mul, add-mul-mod_self_right}
use native.Mathlib.Omega.{arith}
use lib.ListN.{length, take, drop, length-append, length-take, length-drop, take-append-drop}
use lib.Seq.{length-take-le, take-add}
use lib.Dec.{leb, ltb, eqb}
use borrow.Author.Tests.{le-leb, lt-ltb, eq-eqb, ne_eqb}
use Rattle.medium.specs.declared.granularity.Granularity.{Granularity}
use Rattle.medium.specs.declared.geometry.Geometry.{Geometry}
use Rattle.medium.specs.Granularity.{pick, width_of, units_in, align_of, finish_at, finish_mark, size_at, header}
use Rattle.medium.specs.Geometry.{check_of, address}
use Rattle.medium.specs.Units.{FlashUnit, units_of}
use Rattle.medium.specs.Operation.{apply, done, ◌>>=◌, ◌>>◌, ask, give}
use Rattle.medium.specs.Medium.{part, write}
use Rattle.objects.specs.declared.types.ObjectType.{ObjectType}
use Rattle.objects.specs.declared.state.ObjectDataState.TheVariants.{Untrusted, Valid}
use Rattle.objects.specs.declared.state.CompositeObjectState.{CompositeObjectState}
use Rattle.objects.specs.declared.state.CompositeObjectState.TheVariants.{Allocated}
use Rattle.objects.specs.declared.location.ObjectLocation.{ObjectLocation}
use Rattle.objects.specs.declared.header.ObjectHeader.{ObjectHeader}
use Rattle.objects.specs.Numbers.{bytes, unset_of}
use Rattle.objects.specs.Types.{type_byte}
use Rattle.objects.specs.Header.{state_at, allocatable_of, marking, set_state, sizable_of, with_size, set_payload_size}
use Rattle.objects.specs.Info.{total_of}
use Rattle.writer.specs.declared.writer.ObjectWriter.{ObjectWriter}
use Rattle.writer.specs.Writer.{with_header, sound_of, allocate, may_write, pending_of, tail_of, filling_of, put_bytes, put_pending, write_some, may_finish, flush, close, finalize, write_to}
use Rattle.fresh.specs.Units.{span, type_units, pay_units, size_units, mark_units, new_units}
use Rattle.medium.proofs.Bytes.{length-apply, length_part}
use Rattle.medium.proofs.Traced.{ran, bind_ran, ask_ran, store_ran, tested, asked}
use Rattle.medium.proofs.Writes.{write_ran}
use Rattle.medium.proofs.Split.{units_split, units_even, units_more, none_stored}
use Rattle.medium.proofs.Places.{width_is, Laid, laid, even_add}
use Rattle.medium.proofs.Checks.{Fine, admit_pass, fine_of_check}
use Rattle.objects.proofs.Numbers.{length_bytes}
use Rattle.shown.proofs.Reading.{state_seen, state_read, header_of}
use Rattle.writer.proofs.Units.{tail_back}
use Rattle.writer.proofs.Steps.{filled}
use Rattle.fresh.proofs.Places.{tail_room, Floored, floored}

-- a place of a block for n bytes of payload, in an image of some length
pub record Place (g : Geometry) (at : ObjectLocation) (n room : ℕ) : Type 0 where
  pub fine : check_of g room ≡ 0
  pub block : at.block < g.count
  pub aligned : at.offset % width_of g.granularity ≡ 0
  pub in_block : at.offset + span g.granularity g.s n ≤ g.size

module _ (g : Geometry) (at : ObjectLocation) (t : ObjectType) (pay : List ℕ) (room : ℕ) (v : Place g at (length pay) room) (off : g.strict ≡ 1 → ⊥) where
  abbrev gr : Granularity
  gr = g.granularity

  abbrev w : ℕ
  w = width_of g.granularity

  abbrev H : ℕ
  H = header g.granularity g.s

  abbrev q : ℕ
  q = address g at.block at.offset

  abbrev sp : ℕ
  sp = span g.granularity g.s (length pay)

  fine_is : Fine g room
  fine_is = fine_of_check g room (check_of g room) refl v.fine

  l : Laid g.granularity g.s (length pay)
  l = laid g.granularity g.s (length pay) fine_is.sound.s_most

  small : g.size ≤ 65536
  small = fine_is.sound.small

  narrow : width_of g.granularity ≤ 4
  narrow = (width_is g.granularity).1

  still : (m : List ℕ) → length m ≡ room → check_of g (length m) ≡ 0
  still m e = ap (check_of g) e ∙ v.fine

  -- a store into the object's block
  put : (m : List ℕ) (x : ℕ) (bs : List ℕ) → length m ≡ room → x % w ≡ 0 → x + align_of w (length bs) ≤ sp → write g at.block (at.offset + x) bs m ≡ ran (units_of w (q + x) bs) tt
  put m x bs e a r =
      let ad : address g at.block (at.offset + x) ≡ q + x = omega arith in
      write_ran g at.block (at.offset + x) bs m (still m e) v.block (even_add g.granularity at.offset x v.aligned a) (omega (arith, v.in_block)) (λ on. absurd (off on))
      ∙ ap (λ (i : ℕ). ran (units_of w i bs) tt) ad

  -- ---- its writer

  abbrev begun : ObjectHeader
  begun = header_of (Allocated t Untrusted) (unset_of g.s) at

  abbrev pub writer : ℕ → List ℕ → ObjectWriter
  writer cur tl = record { object = begun; cursor = cur; tail = tail_of tl; held = length tl; spent = false }

  -- the last of it: nothing is held, and the header is the finished object's
  abbrev pub finished : ObjectHeader
  finished = header_of (Allocated t Valid) (length pay) at

  sound_ran : (cur : ℕ) (tl m : List ℕ) → length m ≡ room → length tl < w → cur ≤ g.size → sound_of (writer cur tl) g (length m) ≡ 0
  unfolding sound_of
  sound_ran cur tl m e lt c =
      let c2 : cur ≤ 65536 = omega (arith, small) in
      rw (admit_pass g (length m) (pick (ltb (length tl) w && leb cur 65536) 0 4) (check_of g (length m)) refl (still m e), lt-ltb (length tl) w lt, le-leb cur 65536 c2)

  -- ---- payload

  some_test : (cur : ℕ) (tl c m : List ℕ) → length m ≡ room → length tl < w → cur + length tl + length c ≤ length pay → may_write (writer cur tl) g (length m) (length c) ≡ 0
  unfolding may_write
  some_test cur tl c m e lt r =
      let n1 : at.offset + H + cur + length tl ≤ g.size = omega (arith, l, v.in_block) in
      let n2 : at.offset + H + cur + length tl + length c ≤ g.size = omega (arith, l, v.in_block) in
      let n3 : cur ≤ g.size = omega (arith, l, v.in_block) in
      rw (sound_ran cur tl m e lt n3, le-leb _ _ n1, le-leb _ _ n2)

  abbrev pub whole : List ℕ → List ℕ → ℕ
  whole tl c = length (tl ++ c) - length (tl ++ c) % w

  -- the first k of n bytes and then the others, where both are whole words: the units of one store
  pair_ran : {A : Type 0} (x k j n : ℕ) (bs m : List ℕ) (z : A) → length m ≡ room → x % w ≡ 0 → k ≡ j * w → k ≤ n → n ≤ length bs → align_of w n ≡ n → x + n ≤ sp
      → (write g at.block (at.offset + x) (take k bs) >>= λ _. write g at.block (at.offset + x + k) (part k (n - k) bs) >>= λ _. give z) m ≡ ran (units_of w (q + x) (take n bs)) z
  pair_ran x k j n bs m z e a hk le ln en r =
      let lk : length (take k bs) ≡ k = length-take-le k bs (omega arith) in
      let lr : length (part k (n - k) bs) ≡ n - k = length_part k (n - k) bs (omega arith) in
      let ak : align_of w k ≡ k = ap (align_of w) hk ∙ ap (λ (i : ℕ). i * w) (units_even w l.pos j) ∙ sym hk in
      let z1 : k + (n - k) ≡ n = omega arith in
      let more : k + align_of w (n - k) ≡ n =
      ap (λ (i : ℕ). i + align_of w (n - k)) hk ∙ sym (add-mul j (units_in w (n - k)) w) ∙ ap (λ (i : ℕ). i * w) (sym (units_more w l.pos j (n - k)))
      ∙ ap (λ (i : ℕ). align_of w (i + (n - k))) (sym hk) ∙ ap (align_of w) z1 ∙ en in
      let ev : k % w ≡ 0 = ap (λ (i : ℕ). i % w) (hk ∙ sym (zero-add (j * w))) ∙ add-mul-mod_self_right 0 j w ∙ zero-mod w in
      let us : List FlashUnit = units_of w (q + x) (take k bs) in
      let ad : at.offset + x + k ≡ at.offset + (x + k) = omega arith in
      let aq : q + (x + k) ≡ q + x + j * w = omega arith in
      let st : write g at.block (at.offset + x + k) (part k (n - k) bs) (apply (units_of w (q + x) (take k bs)) m) ≡ ran (units_of w (q + (x + k)) (part k (n - k) bs)) tt =
      ap (λ (i : ℕ). write g at.block i (part k (n - k) bs) (apply (units_of w (q + x) (take k bs)) m)) ad
      ∙ put (apply (units_of w (q + x) (take k bs)) m) (x + k) (part k (n - k) bs) (length-apply (units_of w (q + x) (take k bs)) m ∙ e) (even_add g.granularity x k a ev) (rw lr (omega arith)) in
      bind_ran (write g at.block (at.offset + x) (take k bs)) (λ _. write g at.block (at.offset + x + k) (part k (n - k) bs) >>= λ _. give z) m
      (units_of w (q + x) (take k bs)) (units_of w (q + (x + k)) (part k (n - k) bs)) tt z
      (put m x (take k bs) e a (rw (lk, ak) (omega arith)))
      (store_ran (write g at.block (at.offset + x + k) (part k (n - k) bs)) (apply (units_of w (q + x) (take k bs)) m) (units_of w (q + (x + k)) (part k (n - k) bs)) z st)
      ∙ ap (λ (us : List FlashUnit). ran us z)
      (ap (λ (i : ℕ). units_of w (q + x) (take k bs) ++ units_of w i (part k (n - k) bs)) aq
      ∙ sym (units_split w l.pos j (q + x) (take k bs) (part k (n - k) bs) (lk ∙ hk))
      ∙ ap (units_of w (q + x)) (sym (take-add k (n - k) bs) ∙ ap (λ (i : ℕ). take i bs) z1))

  pub some_ran : (cur : ℕ) (tl c m : List ℕ) → length m ≡ room → length tl < w → cur + length tl + length c ≤ length pay → cur % w ≡ 0
      → write_some g (writer cur tl) c m ≡ ran (units_of w (q + H + cur) (take (whole tl c) (tl ++ c))) (writer (cur + whole tl c) (drop (whole tl c) (tl ++ c)))
  unfolding write_some put_bytes
  some_ran cur tl c m e lt r z =
      let wh : ℕ = whole tl c in
      let f : Floored g.granularity (length (tl ++ c)) = floored g.granularity (length (tl ++ c)) in
      let la : length (tl ++ c) ≡ length tl + length c = length-append tl c in
      let n4 : length tl ≤ 4 = omega (arith, narrow) in
      let ad : at.offset + H + cur ≡ at.offset + (H + cur) = omega arith in
      let aq : q + (H + cur) ≡ q + H + cur = omega arith in
      let even-at : (H + cur) % w ≡ 0 = even_add g.granularity H cur l.header_even z in
      let k : ℕ = filling_of (writer cur tl) w (whole tl c) in
      let fl = filled (writer cur tl) w (whole tl c) (whole tl c / w) (sym f.even_count) in
      tested (λ i. may_write (writer cur tl) g (length i) (length c)) (put_pending g (writer cur tl) (pending_of (writer cur tl) c)) m
      (units_of w (q + H + cur) (take (whole tl c) (tl ++ c))) (writer (cur + whole tl c) (drop (whole tl c) (tl ++ c))) (some_test cur tl c m e lt r)
      (ap (λ (x : List ℕ). put_pending g (writer cur tl) (x ++ c) m) (tail_back tl n4)
      ∙ ap (λ (o : ℕ). (write g at.block o (take k (tl ++ c)) >>= λ _. write g at.block (o + k) (part k (wh - k) (tl ++ c)) >>= λ _. give (writer (cur + wh) (drop wh (tl ++ c)))) m) ad
      ∙ pair_ran (H + cur) k fl.0 wh (tl ++ c) m (writer (cur + wh) (drop wh (tl ++ c))) e even-at fl.1 fl.2 (omega arith) f.even_units (omega (arith, l))
      ∙ ap (λ (i : ℕ). ran (units_of w i (take wh (tl ++ c))) (writer (cur + wh) (drop wh (tl ++ c)))) aq)

  -- ---- the held tail, the size, the mark

  abbrev pub closing : List FlashUnit
  closing = size_units g.granularity g.s (length pay) q ++ mark_units g.granularity q

  flush_ran : (cur : ℕ) (tl m : List ℕ) → length m ≡ room → cur + length tl ≡ length pay → cur % w ≡ 0 → length tl < w
      → flush g (writer cur tl) m ≡ ran (units_of w (q + H + cur) tl) (writer (cur + length tl) [])
  unfolding flush
  flush_ran cur [] m e total z lt =
      ask_ran (λ _. done (writer (cur + 0) [])) m (writer (cur + 0) []) refl
      ∙ ap (λ (us : List FlashUnit). ran us (writer (cur + 0) [])) (sym (none_stored w l.pos (q + H + cur)))
  flush_ran cur (x ∷ xs) m e total z lt =
      let n4 : length (x ∷ xs) ≤ 4 = omega (arith, narrow) in
      let ad : at.offset + H + cur ≡ at.offset + (H + cur) = omega arith in
      let aq : q + (H + cur) ≡ q + H + cur = omega arith in
      let fits : H + cur + align_of w (length (x ∷ xs)) ≤ sp =
      subst (λ (n : ℕ). H + cur + align_of w (length (x ∷ xs)) ≤ span g.granularity g.s n) total (tail_room g.granularity g.s cur (length (x ∷ xs)) z) in
      let st : write g at.block (at.offset + H + cur) (take (length (x ∷ xs)) (tail_of (x ∷ xs))) m ≡ ran (units_of w (q + H + cur) (x ∷ xs)) tt =
      ap₂ (λ (i : ℕ) (bs : List ℕ). write g at.block i bs m) ad (tail_back (x ∷ xs) n4)
      ∙ put m (H + cur) (x ∷ xs) e (even_add g.granularity H cur l.header_even z) fits
      ∙ ap (λ (i : ℕ). ran (units_of w i (x ∷ xs)) tt) aq in
      let held : length (x ∷ xs) ≡ 0 → ⊥ = λ n. omega arith in
      rw (ne_eqb (length (x ∷ xs)) 0 held)
      (store_ran (write g at.block (at.offset + H + cur) (take (length (x ∷ xs)) (tail_of (x ∷ xs)))) m (units_of w (q + H + cur) (x ∷ xs)) (writer (cur + length (x ∷ xs)) []) st)

  size_ran : (n : ℕ) (m : List ℕ) → length m ≡ room → set_payload_size g begun n m ≡ ran (units_of w (q + size_at gr) (bytes g.s n)) (with_size begun n)
  unfolding set_payload_size sizable_of
  size_ran n m e =
      tested (λ i. sizable_of g begun (length i)) (write g at.block (at.offset + size_at gr) (bytes g.s n) >> give (with_size begun n)) m
      (units_of w (q + size_at gr) (bytes g.s n)) (with_size begun n)
      (rw (admit_pass g (length m) (pick (eqb (unset_of g.s) (unset_of g.s)) 0 4) (check_of g (length m)) refl (still m e), eq-eqb (unset_of g.s) (unset_of g.s) refl))
      (store_ran (write g at.block (at.offset + size_at gr) (bytes g.s n)) m (units_of w (q + size_at gr) (bytes g.s n)) (with_size begun n)
      (put m (size_at gr) (bytes g.s n) e l.size_even (rw (length_bytes g.s n) (omega (arith, l)))))

  mark_ran : (n : ℕ) (m : List ℕ) → length m ≡ room → set_state g (with_size begun n) Valid m ≡ ran (mark_units gr q) (header_of (Allocated t Valid) n at)
  unfolding set_state marking
  mark_ran n m e =
      tested (λ i. check_of g (length i)) (marking g (with_size begun n) t Valid) m (mark_units gr q) (header_of (Allocated t Valid) n at) (still m e)
      (store_ran (write g at.block (at.offset + finish_at gr) (finish_mark gr ∷ [])) m (mark_units gr q) (header_of (Allocated t Valid) n at)
      (put m (finish_at gr) (finish_mark gr ∷ []) e l.finish_even (omega (arith, l))))

  -- the writer at last
  abbrev pub closed : ObjectWriter
  closed = with_header (writer (length pay) []) finished

  close_ran : (cur : ℕ) (tl m : List ℕ) → length m ≡ room → cur + length tl ≡ length pay → cur % w ≡ 0 → length tl < w
      → close g Valid (writer cur tl) m ≡ ran (units_of w (q + H + cur) tl ++ closing) closed
  unfolding close
  close_ran cur tl m e total z lt =
      let u : List FlashUnit = units_of w (q + H + cur) tl in
      let us : List FlashUnit = size_units g.granularity g.s (length pay) q in
      let e1 : length (apply u m) ≡ room = length-apply u m ∙ e in
      let e2 : length (apply us (apply u m)) ≡ room = length-apply us (apply u m) ∙ e1 in
      bind_ran (flush g (writer cur tl)) (λ x. set_payload_size g x.object x.cursor >>= λ y. set_state g y Valid >>= λ d. give (with_header x d)) m
      u closing (writer (length pay) []) closed
      (flush_ran cur tl m e total z lt ∙ ap (λ (n : ℕ). ran u (writer n [])) total)
      (bind_ran (set_payload_size g begun (length pay)) (λ y. set_state g y Valid >>= λ d. give (with_header (writer (length pay) []) d)) (apply u m)
      us (mark_units gr q) (with_size begun (length pay)) closed (size_ran (length pay) (apply u m) e1)
      (bind_ran (set_state g (with_size begun (length pay)) Valid) (λ d. give (with_header (writer (length pay) []) d)) (apply us (apply u m))
      (mark_units gr q) [] finished closed (mark_ran (length pay) (apply us (apply u m)) e2) (ask_ran (λ _. done closed) (apply (mark_units gr q) (apply us (apply u m))) closed refl)
      ∙ ap (λ (x : List FlashUnit). ran x closed) (append-nil (mark_units gr q))))

  finish_test : (cur : ℕ) (tl m : List ℕ) → length m ≡ room → length tl < w → cur ≤ g.size → may_finish (writer cur tl) g (length m) ≡ 0
  unfolding may_finish
  finish_test cur tl m e lt c = rw (sound_ran cur tl m e lt c)

  pub finalize_ran : (cur : ℕ) (tl m : List ℕ) → length m ≡ room → cur + length tl ≡ length pay → cur % w ≡ 0 → length tl < w
      → finalize g (writer cur tl) m ≡ ran (units_of w (q + H + cur) tl ++ closing) closed
  unfolding finalize
  finalize_ran cur tl m e total z lt =
      tested (λ i. may_finish (writer cur tl) g (length i)) (close g Valid (writer cur tl)) m (units_of w (q + H + cur) tl ++ closing) closed
      (finish_test cur tl m e lt (omega (arith, l, v.in_block))) (close_ran cur tl m e total z lt)

  -- ---- the type, over a place where it can be allocated

  pub allocate_ran : (m : List ℕ) → length m ≡ room → (there : CompositeObjectState) → state_seen g.granularity q m ≡ done there → allocatable_of t there ≡ done tt
      → allocate g at t m ≡ ran (type_units g.granularity t q) (writer 0 [])
  unfolding allocate
  allocate_ran m e there seen can =
      let ad : at.offset ≡ at.offset + 0 = omega arith in
      let aq : q + 0 ≡ q = omega arith in
      let st : write g at.block at.offset (type_byte t ∷ []) m ≡ ran (type_units gr t q) tt =
      ap (λ (i : ℕ). write g at.block i (type_byte t ∷ []) m) ad ∙ put m 0 (type_byte t ∷ []) e (zero-mod w) (omega (arith, l))
      ∙ ap (λ (i : ℕ). ran (units_of w i (type_byte t ∷ [])) tt) aq in
      asked (state_at g at) (λ st. ask (λ _. allocatable_of t st) >> (write g at.block at.offset (type_byte t ∷ []) >> give (writer 0 []))) m (type_units gr t q) there (writer 0 [])
      (state_read g at m (still m e) v.block (omega (arith, l, v.in_block)) ∙ seen)
      (asked (λ _. allocatable_of t there) (λ _. write g at.block at.offset (type_byte t ∷ []) >> give (writer 0 [])) m (type_units gr t q) tt (writer 0 []) can
      (store_ran (write g at.block at.offset (type_byte t ∷ [])) m (type_units gr t q) (writer 0 []) st))

  -- ---- an object that is written whole

  -- how many bytes of the payload are whole words
  abbrev most : ℕ
  most = whole [] pay

  halves : units_of w (q + H + 0) (take most pay) ++ units_of w (q + H + (0 + most)) (drop most pay) ≡ pay_units g.granularity g.s pay q
  halves =
      let f : Floored g.granularity (length pay) = floored g.granularity (length pay) in
      let lw : length (take most pay) ≡ most / w * w = simp length-take (omega (arith, f.even_count)) in
      let a0 : q + H + 0 ≡ q + H = omega arith in
      let a1 : q + H + (0 + most) ≡ q + H + most / w * w = omega (arith, f.even_count) in
      ap₂ (λ (a b : ℕ). units_of w a (take most pay) ++ units_of w b (drop most pay)) a0 a1
      ∙ sym (units_split w l.pos (most / w) (q + H) (take most pay) (drop most pay) lw)
      ∙ ap (units_of w (q + H)) (take-append-drop most pay)

  pub written_ran : (m : List ℕ) → length m ≡ room → (there : CompositeObjectState) → state_seen g.granularity q m ≡ done there → allocatable_of t there ≡ done tt
      → write_to g at t pay m ≡ ran (new_units g.granularity g.s t pay q) (total_of g.granularity g.s finished)
  unfolding write_to
  written_ran m e there seen can =
      let T : List FlashUnit = type_units gr t q in
      let u : List FlashUnit = units_of w (q + H + 0) (take most pay) in
      let d : List FlashUnit = units_of w (q + H + (0 + most)) (drop most pay) in
      let total : ℕ = total_of gr g.s finished in
      let i : List ℕ = apply T m in
      let j : List ℕ = apply u (apply T m) in
      let ei : length (apply T m) ≡ room = length-apply T m ∙ e in
      let ej : length (apply u (apply T m)) ≡ room = length-apply u (apply T m) ∙ ei in
      let f : Floored g.granularity (length pay) = floored g.granularity (length pay) in
      let all : 0 + most + length (drop most pay) ≡ length pay = simp length-drop (omega arith) in
      let short : length (drop most pay) < w = simp length-drop f.rest in
      bind_ran (allocate g at t) (λ x. write_some g x pay >>= λ y. finalize g y >>= λ z. give (total_of gr g.s z.object)) m T (u ++ (d ++ closing)) (writer 0 []) total
      (allocate_ran m e there seen can)
      (bind_ran (write_some g (writer 0 []) pay) (λ y. finalize g y >>= λ z. give (total_of gr g.s z.object)) i u (d ++ closing) (writer (0 + most) (drop most pay)) total
      (some_ran 0 [] pay i ei l.pos (omega arith) (zero-mod w))
      (bind_ran (finalize g (writer (0 + most) (drop most pay))) (λ z. give (total_of gr g.s z.object)) j (d ++ closing) [] closed total
      (finalize_ran (0 + most) (drop most pay) j ej all (even_add g.granularity 0 most (zero-mod w) f.even_mod) short) (ask_ran (λ _. done total) (apply (d ++ closing) j) total refl)
      ∙ ap (λ (us : List FlashUnit). ran us total) (append-nil (d ++ closing))))
      ∙ ap (λ (us : List FlashUnit). ran us total) (ap (λ (us : List FlashUnit). T ++ us) (sym (append_assoc u d closing) ∙ ap (λ (us : List FlashUnit). us ++ closing) halves) ∙ simp append_assoc)
