-- An object that is written whole stores type, payload, size and mark, in that order and nothing else.
use mathlib.Core.Path.{◌≡◌, refl, sym, ap, ap₂, ◌∙◌}
use mathlib.Core.List.{List, [], ◌∷◌, ◌++◌, append_assoc}
use Prim.Native.Nat.{ℕ, ◌+◌, ◌*◌, ◌/◌, ◌≤◌}
use native.Mathlib.Omega.{arith}
use lib.ListN.{length, take, drop, length-append, length-drop, take-append-drop}
use lib.Seq.{take-take, take-append_seam, length-take-le}
use borrow.Author.Tests.{ne_eqb}
use Rattle.medium.specs.declared.granularity.Granularity.{Granularity}
use Rattle.medium.specs.declared.granularity.Granularity.TheVariants.{Bit, Word1, Word4}
use Rattle.medium.specs.declared.geometry.Geometry.{Geometry}
use Rattle.medium.specs.Granularity.{width_of, units_in, header, size_at, finish_at, finish_mark}
use Rattle.medium.specs.Geometry.{address}
use Rattle.medium.specs.Units.{FlashUnit, units_of}
use Rattle.medium.specs.Operation.{flash, apply, done, Run, ◌>>=◌, ask, give, test}
use Rattle.medium.specs.Medium.{units_at}
use Rattle.objects.specs.declared.types.ObjectType.{ObjectType}
use Rattle.objects.specs.declared.state.ObjectDataState.TheVariants.{Valid}
use Rattle.objects.specs.declared.state.CompositeObjectState.TheVariants as comp
use Rattle.objects.specs.declared.location.ObjectLocation.{ObjectLocation}
use Rattle.objects.specs.declared.header.ObjectHeader.{ObjectHeader}
use Rattle.objects.specs.Numbers.{bytes, unset_of}
use Rattle.objects.specs.Types.{type_byte}
use Rattle.objects.specs.Header.{payload_of}
use Rattle.objects.specs.Info.{total_of}
use Rattle.medium.proofs.Runs.{bound}
use Rattle.medium.proofs.Bytes.{length_units, length-apply}
use Rattle.medium.proofs.Places.{width_is}
use Rattle.medium.proofs.Split.{units_split}
use Rattle.objects.proofs.Numbers.{length_bytes}
use Rattle.writer.specs.declared.writer.ObjectWriter.{ObjectWriter}
use Rattle.writer.specs.Writer.{fresh_of, data_at, no_tail, tail_of, may_write, allocate, whole_of, pending_of, put_pending, held_back, write_some, finalize, write_to}
use Rattle.writer.specs.Units.{object_units, unit_count, Written}
use Rattle.writer.proofs.Laws.{width, HasRoom, has_room}
use Rattle.writer.proofs.Steps.{whole_le, whole_even, rest_few}
use Rattle.writer.proofs.Stored.{Stores, then, then_give, gave, none_refused, allocate_stores, some_stores, finalize_stores}

-- ---- the payload: the whole words and then the tail are all of it

pub tail_back : (bs : List ℕ) → length bs ≤ 4 → take (length bs) (tail_of bs) ≡ bs
tail_back bs h = take-take (length bs) 4 (bs ++ no_tail) h ∙ take-append_seam bs no_tail

payload_whole : (g : Geometry) (b o : ℕ) (src : List ℕ)
    → units_at g b o (take (whole_of (width g) (length src)) src)
    ++ units_at g b (o + whole_of (width g) (length src)) (drop (whole_of (width g) (length src)) src)
    ≡ units_at g b o src
payload_whole g b o src =
    let q : whole_of (width g) (length src) ≡ length src / width g * width g = whole_even (width g) (length src) in
    let l : length (take (whole_of (width g) (length src)) src) ≡ whole_of (width g) (length src) =
    length-take-le (whole_of (width g) (length src)) src (whole_le (width g) (length src)) in
    let a : address g b (o + whole_of (width g) (length src)) ≡ address g b o + length src / width g * width g = omega arith in
    ap (λ (x : ℕ). units_at g b o (take (whole_of (width g) (length src)) src) ++ units_of (width g) x (drop (whole_of (width g) (length src)) src)) a
    ∙ sym (units_split (width g) (width_is g.granularity).0 (length src / width g) (address g b o) (take (whole_of (width g) (length src)) src) (drop (whole_of (width g) (length src)) src) (l ∙ q))
    ∙ ap (units_at g b o) (take-append-drop (whole_of (width g) (length src)) src)

-- ---- an object that is written whole

regroup : (xs ys zs us vs ws : List FlashUnit) → ys ++ zs ≡ ws → xs ++ (ys ++ (zs ++ (us ++ vs))) ≡ xs ++ ws ++ us ++ vs
regroup xs ys zs us vs ws e = rw (← e) (simp append_assoc)

module _ (g : Geometry) (at : ObjectLocation) (t : ObjectType) (src : List ℕ) where
  -- how many bytes of the payload are whole words
  abbrev whole : ℕ
  whole = whole_of (width g) (length src)

  -- the writer behind the payload
  abbrev behind : ObjectWriter
  behind = held_back (fresh_of g at t) whole (drop whole src)

  behind_size : behind.cursor + behind.held ≡ length src
  behind_size = rw (length-drop whole src) (omega (arith, whole_le (width g) (length src)))

  behind_tail : take behind.held behind.tail ≡ drop whole src
  behind_tail = tail_back (drop whole src) (rw (length-drop whole src) (omega (arith, rest_few (width g) (length src) (width_is g.granularity).0, width_is g.granularity)))

  abbrev object : ObjectHeader
  object = record { state = comp.Allocated t Valid; size = length src; location = at }

  events : units_at g at.block at.offset (type_byte t ∷ [])
      ++ (units_at g at.block (data_at g (fresh_of g at t)) (take whole src)
      ++ (units_at g at.block (data_at g behind) (take behind.held behind.tail)
      ++ (units_at g at.block (at.offset + size_at g.granularity) (bytes g.s (behind.cursor + behind.held))
      ++ units_at g at.block (at.offset + finish_at g.granularity) (finish_mark g.granularity ∷ []))))
      ≡ object_units g at t src
  events =
      let p : data_at g (fresh_of g at t) ≡ at.offset + header g.granularity g.s = omega arith in
      let q : data_at g behind ≡ at.offset + header g.granularity g.s + whole = omega arith in
      rw (p, q, behind_tail, behind_size)
      (regroup (units_at g at.block at.offset (type_byte t ∷ []))
      (units_at g at.block (at.offset + header g.granularity g.s) (take whole src))
      (units_at g at.block (at.offset + header g.granularity g.s + whole) (drop whole src))
      (units_at g at.block (at.offset + size_at g.granularity) (bytes g.s (length src)))
      (units_at g at.block (at.offset + finish_at g.granularity) (finish_mark g.granularity ∷ []))
      (units_at g at.block (at.offset + header g.granularity g.s) src)
      (payload_whole g at.block (at.offset + header g.granularity g.s) src))

  pub object_stores : (img : List ℕ) → Stores (write_to g at t src) img (object_units g at t src) (total_of g.granularity g.s object)
  unfolding write_to
  object_stores img x e =
      then (allocate g at t) (λ w. write_some g w src >>= λ v. finalize g v >>= λ u. give (total_of g.granularity g.s u.object)) img _ _ (fresh_of g at t) _ (allocate_stores g at t img)
      (then (write_some g (fresh_of g at t) src) (λ v. finalize g v >>= λ u. give (total_of g.granularity g.s u.object)) _ _ _ behind _ (some_stores g (fresh_of g at t) _ src)
      (then_give (finalize g behind) (λ u. total_of g.granularity g.s u.object) _ _ _ (finalize_stores g behind t _ refl))) x e
      ∙ ap₂ (λ (us : List FlashUnit) (n : ℕ). record { events = us; answer = done (total_of g.granularity g.s (record { state = comp.Allocated t Valid; size = n; location = at })) }) events behind_size

-- ---- how many they are

count_is_lem : (k : Granularity) (s n : ℕ) → 1 ≤ s → s ≤ 3
    → units_in (width_of k) 1 + units_in (width_of k) n + units_in (width_of k) s + units_in (width_of k) 1 ≡ unit_count k s n
count_is_lem Bit s n h l = omega arith
count_is_lem Word1 s n h l = omega arith
count_is_lem Word4 s n h l = omega arith

length_four : (xs ys zs us : List FlashUnit) → length (xs ++ ys ++ zs ++ us) ≡ length xs + length ys + length zs + length us
length_four xs ys zs us = simp length-append

pub object_count : (g : Geometry) (at : ObjectLocation) (t : ObjectType) (src : List ℕ) → 1 ≤ g.s → g.s ≤ 3
    → length (object_units g at t src) ≡ unit_count g.granularity g.s (length src)
object_count g at t src h l =
    length_four (units_at g at.block at.offset (type_byte t ∷ []))
    (units_at g at.block (at.offset + header g.granularity g.s) src)
    (units_at g at.block (at.offset + size_at g.granularity) (bytes g.s (length src)))
    (units_at g at.block (at.offset + finish_at g.granularity) (finish_mark g.granularity ∷ []))
    ∙ rw (length_units, length_units, length_units, length_units, length_bytes) (count_is_lem g.granularity g.s (length src) h l)

-- ---- of one that was not refused

-- what its payload's test told
pub object_fits : (g : Geometry) (at : ObjectLocation) (t : ObjectType) (src img : List ℕ) (n : ℕ) → (write_to g at t src img).answer ≡ done n → HasRoom (fresh_of g at t) g (length img) (length src)
unfolding write_to write_some test ask
object_fits g at t src img n e =
    let a = bound (allocate g at t) (λ w. write_some g w src >>= λ v. finalize g v >>= λ u. give (total_of g.granularity g.s u.object)) img n e in
    let i = apply (allocate g at t img).events img in
    let f : a.value ≡ fresh_of g at t = gave (allocate g at t) img _ (fresh_of g at t) a.value (allocate_stores g at t img) a.first in
    let b = bound (write_some g a.value src) (λ v. finalize g v >>= λ u. give (total_of g.granularity g.s u.object)) i n a.second in
    let c = bound (test (λ i. may_write a.value g (length i) (length src))) (λ _. put_pending g a.value (pending_of a.value src)) i b.value b.first in
    let z : may_write a.value g (length i) (length src) ≡ 0 = none_refused (may_write a.value g (length i) (length src)) c.value c.first in
    has_room (fresh_of g at t) g (length img) (length src) 0 (sym (rw (f, length-apply (allocate g at t img).events img) at z)) refl

header_least : (k : Granularity) (s : ℕ) → 1 ≤ s → 3 ≤ header k s
header_least Bit s h = omega arith
header_least Word1 s h = omega arith
header_least Word4 s h = omega arith

-- THE THEOREM
pub written : (g : Geometry) (at : ObjectLocation) (t : ObjectType) (src img : List ℕ) (n : ℕ) → (write_to g at t src img).answer ≡ done n → Written g at t src img n
unfolding total_of payload_of
written g at t src img n e =
    let a = object_fits g at t src img n e in
    let r : write_to g at t src img ≡ record { events = object_units g at t src; answer = done (total_of g.granularity g.s (object g at t src)) } = object_stores g at t src img n e in
    let q : (write_to g at t src img).events ≡ object_units g at t src = ap (λ (r : Run flash ℕ). r.events) r in
    let p : n ≡ total_of g.granularity g.s (object g at t src) = gave (write_to g at t src) img _ _ n (object_stores g at t src img) e in
    let h = header_least g.granularity g.s a.sound.fine.sound.s_least in
    let u : length src ≡ unset_of g.s → ⊥ = λ z. omega (arith, a.fits, a.sound.fine.sound.s_holds, h, z) in
    record {
      stores = q;
      takes = ap length q ∙ object_count g at t src a.sound.fine.sound.s_least a.sound.fine.sound.s_most;
      total = p ∙ rw (ne_eqb _ _ u);
    }
