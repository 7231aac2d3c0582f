-- The numbers of a writer fit their places: bytes and a flag where they come in, 32 bits where they go out.
use mathlib.Core.Path.{◌≡◌, refl, sym, ap, ◌∙◌}
use mathlib.Core.Bool.{Bool, true, false, ◌&&◌}
use mathlib.Core.List.{List}
use Prim.Native.Nat.{ℕ, zero, suc, ◌+◌, ◌≤◌, ◌<◌}
use native.Mathlib.Omega.{arith}
use lib.ListN.{length, take, drop, length-append, length-take, length-drop}
use lib.Dec.{leb}
use borrow.Author.Tests.{leb-true}
use Rattle.medium.specs.declared.geometry.Geometry.{Geometry}
use Rattle.medium.specs.declared.fuse.Fuse.{Fuse}
use Rattle.std.specs.Prelude.{Ok, Err}
use Rattle.medium.specs.Fuse.{Stored}
use Rattle.medium.specs.Granularity.{pick}
use Rattle.medium.specs.Operation.{done, Op, ◌>>=◌, ask, give, test, run, ended_by}
use Rattle.medium.proofs.Places.{width_is}
use Rattle.medium.proofs.Runs.{value_of, bound}
use Rattle.objects.specs.declared.types.ObjectType.{ObjectType}
use Rattle.objects.specs.declared.state.ObjectDataState.{ObjectDataState}
use Rattle.objects.specs.declared.state.ObjectDataState.TheVariants.{Valid, Deleted}
use Rattle.objects.specs.declared.location.ObjectLocation.{ObjectLocation}
use Rattle.objects.specs.declared.header.ObjectHeader.{ObjectHeader}
use Rattle.objects.specs.Types.{rank_of}
use Rattle.objects.specs.Header.{set_state, set_payload_size}
use Rattle.writer.specs.declared.writer.ObjectWriter.{ObjectWriter}
use Rattle.writer.specs.Writer.{fresh_of, with_header, emptied, allocate, sound_of, may_write, whole_of, pending_of, held_back, put_pending, write_some, may_finish, flush, close, finalize, deleting, delete}
use Rattle.writer.proofs.Laws.{width, Possible, sound_is, has_room, finish_is}
use Rattle.writer.proofs.Steps.{whole_le}
use Rattle.writer.proofs.Stored.{gave, none_refused, allocate_stores, some_stores, flush_stores}
use Rattle.cface.specs.Writers.{sayable_of, Small, SmallBy}

-- ---- what a passed test of the numbers tells

pub record Sayable (a b c d spent : ℕ) : Type 0 where
  pub a_byte : a ≤ 255
  pub b_byte : b ≤ 255
  pub c_byte : c ≤ 255
  pub d_byte : d ≤ 255

pub sayable_is : (a b c d spent r : ℕ) → r ≡ sayable_of a b c d spent → r ≡ 0 → Sayable a b c d spent
unfolding sayable_of
sayable_is a b c d spent r e z = go (leb a 255) (leb b 255) (leb c 255) (leb d 255) refl refl refl refl (leb spent 1) (sym e ∙ z)
  where
    go : (v w x y : Bool) → leb a 255 ≡ v → leb b 255 ≡ w → leb c 255 ≡ x → leb d 255 ≡ y → (t : Bool) → pick {A = ℕ} (v && w && x && y && t) 0 4 ≡ 0 → Sayable a b c d spent
    go true true true true p q s u t h = record { a_byte = leb-true _ _ p; b_byte = leb-true _ _ q; c_byte = leb-true _ _ s; d_byte = leb-true _ _ u }
    go true true true false p q s u t h = absurd (omega arith)
    go true true false y p q s u t h = absurd (omega arith)
    go true false x y p q s u t h = absurd (omega arith)
    go false w x y p q s u t h = absurd (omega arith)

-- a test that was passed, and then what came behind it
tested : {B : Type 0} (q : List ℕ → ℕ) (p : Op B) (img : List ℕ) (b : B) → ((test q >>= λ _. p) img).answer ≡ done b → (q img ≡ 0) × ((p img).answer ≡ done b)
unfolding test ask
tested q p img b e = let c = bound (test q) (λ _. p) img b e in (none_refused (q img) c.value c.first, c.second)

module _ (g : Geometry) (w : ObjectWriter) (img : List ℕ) (v : ObjectWriter) where
  pub some_small : (src : List ℕ) → (write_some g w src img).answer ≡ done v → Small v
  unfolding write_some
  some_small src e =
      let t = tested (λ i. may_write w g (length i) (length src)) (put_pending g w bs) img v e in
      let a = has_room w g (length img) (length src) 0 (sym t.0) refl in
      let q : v ≡ held_back w n (drop n bs) = gave (write_some g w src) img _ _ v (some_stores g w img src) e in
      let l : length bs ≡ length (take w.held w.tail) + length src = length-append (take w.held w.tail) src in
      rw q (
        omega (arith, l, length-take w.held w.tail, whole_le (width g) (length bs), a.fits, a.sound.fine.sound.small),
        omega (arith, l, length-take w.held w.tail, length-drop n bs, a.fits, a.sound.fine.sound.small),
      )
    where
      bs : List ℕ
      bs = pending_of w src

      n : ℕ
      n = whole_of (width g) (length bs)

  came : (x : ObjectWriter) → x.cursor < 4294967296 → x.held < 4294967296 → done x ≡ done v → Small v
  came x p q h = let z : x ≡ v = cc in rw (← z) (p, q)

  close_small : (to : ObjectDataState) → Possible w g → (close g to w img).answer ≡ done v → Small v
  unfolding close ask
  close_small to p e =
      let a = bound (flush g w) (λ x. set_payload_size g x.object x.cursor >>= λ h. set_state g h to >>= λ k. give (with_header x k)) img v e in
      let f : a.value ≡ emptied w = gave (flush g w) img _ (emptied w) a.value (flush_stores g w img) a.first in
      let b = bound (set_payload_size g a.value.object a.value.cursor) (λ h. set_state g h to >>= λ k. give (with_header a.value k)) _ v a.second in
      let c = bound (set_state g b.value to) (λ k. give (with_header a.value k)) _ v b.second in
      let x : a.value.cursor ≡ w.cursor + w.held = ap (λ (y : ObjectWriter). y.cursor) f in
      let y : a.value.held ≡ 0 = ap (λ (y : ObjectWriter). y.held) f in
      came (with_header a.value c.value) (omega (arith, p.cursor, p.held, width_is g.granularity)) (omega arith) c.second

  pub finalize_small : (finalize g w img).answer ≡ done v → Small v
  unfolding finalize
  finalize_small e =
      let t = tested (λ i. may_finish w g (length i)) (close g Valid w) img v e in
      close_small Valid (finish_is w g (length img) 0 (sym t.0) refl).possible t.1

  pub delete_small : (delete g w img).answer ≡ done v → Small v
  unfolding delete ask
  delete_small e =
      let t = tested (λ i. sound_of w g (length i)) (deleting g w (rank_of w.object.state)) img v e in
      go (rank_of w.object.state) (sound_is w g (length img) 0 (sym t.0) refl).possible t.1
    where
      same : (h : ObjectHeader) → Possible w g → done (with_header w h) ≡ done v → Small v
      same h s q = came (with_header w h) (omega (arith, s.cursor)) (omega (arith, s.held, width_is g.granularity)) q

      go : (n : ℕ) → Possible w g → (deleting g w n img).answer ≡ done v → Small v
      go zero s h = same w.object s h
      go (suc zero) s h = close_small Deleted s h
      go (suc (suc zero)) s h =
          let b = bound (set_state g w.object Deleted) (λ k. give (with_header w k)) img v h in
          same b.value s b.second
      go (suc (suc (suc n))) s h = same w.object s h

pub allocate_small : (g : Geometry) (at : ObjectLocation) (t : ObjectType) (img : List ℕ) (v : ObjectWriter) → (allocate g at t img).answer ≡ done v → Small v
allocate_small g at t img v e = rw (gave (allocate g at t) img _ (fresh_of g at t) v (allocate_stores g at t img) e) (omega arith, omega arith)

-- and so beside its answer
pub small_by : (f : Fuse) (o : Op ObjectWriter) (img i : List ℕ) (r : Stored) (v : ObjectWriter) → ended_by r v i ≡ run f o img
    → ((o img).answer ≡ done v → Small v) → SmallBy r v
small_by f o img i (Ok k) v e h = h (value_of f o img i (Ok k) v k e refl)
small_by f o img i (Err z) v e h = tt
