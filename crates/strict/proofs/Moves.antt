-- What the strict mark means for a move.
use mathlib.Core.Path.{◌≡◌, refl, sym, ap, ◌∙◌}
use mathlib.Core.Bool.{true, ◌&&◌}
use mathlib.Core.List.{List, [], ◌∷◌}
use Prim.Native.Nat.{ℕ, zero, suc, ◌+◌, ◌-◌, ◌*◌, ◌%◌, ◌≤◌, ◌<◌}
use native.Mathlib.Omega.{arith}
use lib.ListN.{length, get_or, take, replicate}
use lib.Seq.{drop-cons}
use lib.Dec.{leb, ltb, eqb}
use borrow.Author.Tests.{eq-eqb, ne_eqb, le-leb, lt-ltb}
use Rattle.medium.specs.declared.granularity.Granularity.{Granularity}
use Rattle.medium.specs.declared.geometry.Geometry.{Geometry}
use Rattle.medium.specs.declared.fuse.Fuse.{Fuse}
use Rattle.medium.specs.Granularity.{pick, width_of, units_in, align_of, most_strict, finish_at, delete_at}
use Rattle.medium.specs.Geometry.{check_of}
use Rattle.medium.specs.Units.{FlashUnit, programmed, padded, words, units_of}
use Rattle.medium.specs.Operation.{flash, apply, done, refused, End, next, run, ◌>>=◌, ◌>>◌, ask, give}
use Rattle.medium.specs.Strict.{again, any_again}
use Rattle.medium.specs.Medium.{units_at, writable, write}
use Rattle.medium.proofs.Runs.{run_bind, ask_on}
use Rattle.medium.proofs.Bytes.{length-apply}
use Rattle.medium.proofs.Checks.{sound_is, admit_pass}
use Rattle.medium.proofs.Places.{Laid, laid}
use Rattle.medium.proofs.Strict.{units_turn}
use Rattle.objects.specs.declared.types.ObjectType.{ObjectType}
use Rattle.objects.specs.declared.types.ObjectType.TheVariants.{FileMetadata, FileData, FileName}
use Rattle.objects.specs.declared.state.ObjectDataState.TheVariants.{Untrusted, Valid, Deleted}
use Rattle.objects.specs.declared.state.CompositeObjectState.TheVariants.{Allocated}
use Rattle.objects.specs.declared.location.ObjectLocation.{ObjectLocation}
use Rattle.objects.specs.declared.header.ObjectHeader.{ObjectHeader}
use Rattle.objects.specs.Types.{type_byte}
use Rattle.objects.specs.Header.{state_at, allocatable_of, set_state}
use Rattle.objects.specs.Payload.{payload_at}
use Rattle.writer.specs.declared.writer.ObjectWriter.{ObjectWriter}
use Rattle.writer.specs.Writer.{fresh_of, allocate, finalize}
use Rattle.moving.specs.Moving.{source_at, turns_of, copying, copy_object, move_object}
use Rattle.shown.proofs.Reading.{shown, state_read, header_back, finished_free}
use Rattle.fresh.specs.Units.{address_of, before}
use Rattle.fresh.proofs.Written.{begun}
use Rattle.fresh.proofs.Again.{over_begun}
use Rattle.powercut.specs.Demand.{payload_in}
use Rattle.powercut.specs.Again.{left_by}
use Rattle.powercut.proofs.Crash.{original_before}
use Rattle.powercut.proofs.Ran.{Ready, source_of}
use Rattle.powercut.proofs.Survive.{cut_before, units_are, original_whole, ready}
use Rattle.powercut.proofs.Again.{left_is}
use Rattle.strict.specs.Laws.{TenExactly}
use Rattle.strict.specs.Moves.{FreeByBytes, SameMoveRefused}
use Rattle.strict.proofs.Theorems.{ten_exactly}

-- ---- units of one byte

pub free_by_bytes : FreeByBytes
unfolding FreeByBytes
free_by_bytes g h t img ok on one e st i hi =
    let p : ℕ = address_of g h.location in
    let k : Granularity = g.granularity in
    let s = shown g.granularity (get_or img p 0) (get_or img (p + finish_at k) 0) (get_or img (p + delete_at k) 0) t Valid ((header_back g h.location img h e).state ∙ ap done st) in
    let z : address_of g h.location + delete_at g.granularity + i ≡ address_of g h.location + delete_at g.granularity = omega arith in
    let m : 1 ≤ most_strict g.granularity = omega (arith, (sound_is g ok).mark) in
    ap (λ (j : ℕ). get_or img j 0) z ∙ finished_free g.granularity (get_or img (p + finish_at k) 0) (get_or img (p + delete_at k) 0) m s.mark_is

-- ---- the same move again

type_not_ff : (t : ObjectType) → type_byte t ≡ 255 → ⊥
type_not_ff FileMetadata e = omega arith
type_not_ff FileData e = omega arith
type_not_ff FileName e = omega arith

-- a unit whose first byte is programmed, and its data's first byte is not FF
again_first : (w q x : ℕ) (rest m : List ℕ) → 0 < w → (x ≡ 255 → ⊥) → q < length m → (get_or m q 0 ≡ 255 → ⊥) → again (programmed q (take w (x ∷ rest))) m ≡ true
again_first zero q x rest m hw nx hq nm = absurd (omega arith)
again_first (suc w) q x rest m hw nx hq nm = rw (ne_eqb x 255 nx, drop-cons m q 0, ne_eqb _ _ nm)

first_again : (n w q x : ℕ) (rest m : List ℕ) → 0 < w → (x ≡ 255 → ⊥) → q < length m → (get_or m q 0 ≡ 255 → ⊥) → any_again (words (suc n) w q (x ∷ rest)) m ≡ true
first_again n w q x rest m hw nx hq nm = rw (again_first w q x rest m hw nx hq nm)

any_first : (w q x : ℕ) (m : List ℕ) → 0 < w → (x ≡ 255 → ⊥) → q < length m → (get_or m q 0 ≡ 255 → ⊥) → any_again (units_of w q (x ∷ [])) m ≡ true
any_first w q x m hw nx hq nm =
    ap (λ (n : ℕ). any_again (words n w q (padded w (x ∷ []))) m) (units_turn w 1 hw (omega arith))
    ∙ first_again (units_in w (1 - w)) w q x (replicate (units_in w 1 * w - 1) 255) m hw nx hq nm

module _ (g : Geometry) (h : ObjectHeader) (to : ObjectLocation) (t : ObjectType) (pay img : List ℕ) (r : Ready g h to t pay img) (on : g.strict ≡ 1) (j : ℕ) (f : Fuse) where
  abbrev gr : Granularity
  gr = g.granularity

  abbrev q : ℕ
  q = address_of g to

  abbrev us : List FlashUnit
  us = before g.granularity g.s t pay (address_of g to)

  abbrev m : List ℕ
  m = apply (take (suc j) us) img

  long : length m ≡ length img
  long = length-apply (take (suc j) us) img

  fine : check_of g (length m) ≡ 0
  fine = ap (check_of g) long ∙ r.fine

  l : Laid g.granularity g.s (length pay)
  l = laid g.granularity g.s (length pay) r.given.new.width_3

  there : state_at g to m ≡ done (Allocated t Untrusted)
  there = state_read g to m fine r.block_to (omega (arith, l, r.in_block_to)) ∙ begun gr g.s t q pay img r.given.new j

  source : source_at g h m ≡ done (record { kind = t; size = length pay })
  source =
      source_of g h t (length pay) m
      (original_whole g h to t pay img r (take (suc j) us) (original_before gr g.s t (address_of g h.location) q h.size pay img r.given (suc j))).header r.finished r.payload

  in_range : writable g (length m) to.block to.offset 1 ≡ 0
  unfolding writable
  in_range =
      let a : to.offset + align_of (width_of gr) 1 ≤ g.size = omega (arith, l, r.in_block_to) in
      rw (admit_pass g (length m) (pick (ltb to.block g.count && eqb (to.offset % width_of gr) 0 && leb (to.offset + align_of (width_of gr) 1) g.size) 0 3) (check_of g (length m)) refl fine, lt-ltb _ _ r.block_to, eq-eqb _ _ r.aligned_to, le-leb _ _ a)

  type_there : get_or m q 0 ≡ type_byte t
  type_there = (shown gr (get_or m q 0) (get_or m (q + finish_at gr) 0) (get_or m (q + delete_at gr) 0) t Untrusted (begun gr g.s t q pay img r.given.new j)).type_is

  in_way : any_again (units_at g to.block to.offset (type_byte t ∷ [])) m ≡ true
  in_way = any_first (width_of gr) q (type_byte t) m l.pos (type_not_ff t) (omega (arith, l, r.given.new.fits, long)) (λ e. type_not_ff t (sym type_there ∙ e))

  allocate_ten : run f (allocate g to t) m ≡ record { answer = refused 10; fuse = f; state = m }
  unfolding allocate TenExactly
  allocate_ten =
      ask_on {W = flash} f (state_at g to) (λ st. ask (λ _. allocatable_of t st) >> (write g to.block to.offset (type_byte t ∷ []) >> give (fresh_of g to t))) m there
      ∙ ask_on {W = flash} f (λ _. allocatable_of t (Allocated t Untrusted)) (λ _. write g to.block to.offset (type_byte t ∷ []) >> give (fresh_of g to t)) m (over_begun t)
      ∙ run_bind f (write g to.block to.offset (type_byte t ∷ [])) (λ _. give (fresh_of g to t)) m
      ∙ ap (λ (e : End (Unit {0})). next e (λ _ u i. run {W = flash} u (give (fresh_of g to t)) i)) ((ten_exactly g to.block to.offset (type_byte t ∷ []) m).when (record { marked = on; in_range = in_range; again = in_way }) f)

  copy_ten : run f (copy_object g h to) m ≡ record { answer = refused 10; fuse = f; state = m }
  unfolding copy_object
  copy_ten =
      ask_on {W = flash} f (source_at g h) (λ src. allocate g to src.kind >>= λ w. copying (turns_of src.size) g h.location.block (payload_at g h) src.size w >>= λ y. finalize g y >>= λ z. give z.object) m source
      ∙ run_bind f (allocate g to t) (λ w. copying (turns_of (length pay)) g h.location.block (payload_at g h) (length pay) w >>= λ y. finalize g y >>= λ z. give z.object) m
      ∙ ap (λ (e : End ObjectWriter). next e (λ w u i. run u (copying (turns_of (length pay)) g h.location.block (payload_at g h) (length pay) w >>= λ y. finalize g y >>= λ z. give z.object) i)) allocate_ten

  move_ten : run f (move_object g h to) m ≡ record { answer = refused 10; fuse = f; state = m }
  unfolding move_object
  move_ten =
      run_bind f (copy_object g h to) (λ new. set_state g h Deleted >> give new) m
      ∙ ap (λ (e : End ObjectHeader). next e (λ new u i. run u (set_state g h Deleted >> give new) i)) copy_ten

pub same_move_refused : SameMoveRefused
unfolding SameMoveRefused
same_move_refused g h to room t img v on zero some c f = absurd (omega arith)
same_move_refused g h to room t img v on (suc j) some c f =
    let r : Ready g h to t (payload_in g h img) img = ready g h to room t img v in
    let e : left_by g h to img (suc j) ≡ apply (take (suc j) (before g.granularity g.s t (payload_in g h img) (address_of g to))) img =
    left_is g h to t (payload_in g h img) img r (suc j)
    ∙ ap (λ (vs : List FlashUnit). apply vs img) (cut_before g h to t (payload_in g h img) img r (suc j) (omega (arith, units_are g h to t (payload_in g h img) img r))) in
    rw e (move_ten g h to t (payload_in g h img) img r on j f)
