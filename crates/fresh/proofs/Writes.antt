-- The units of `write_to` are those of a new object.
use mathlib.Core.Path.{◌≡◌, refl, ap, ap₂, ◌∙◌}
use mathlib.Core.Bool.{true}
use mathlib.Core.List.{List, append_assoc}
use Prim.Native.Nat.{ℕ, ◌+◌, ◌-◌, ◌%◌}
use native.Mathlib.Omega.{arith}
use lib.ListN.{length, take}
use Rattle.medium.specs.declared.geometry.Geometry.{Geometry}
use Rattle.medium.specs.declared.fuse.Fuse.{Fuse}
use Rattle.medium.specs.declared.fuse.Fuse.TheVariants.{Units}
use Rattle.medium.specs.Granularity.{width_of, header, size_at, finish_at}
use Rattle.medium.specs.Geometry.{geometry_ok, address}
use Rattle.medium.specs.Marked.{with_strict}
use Rattle.medium.specs.Units.{FlashUnit}
use Rattle.medium.specs.Operation.{flash, apply, cost, Answer, done, refused, Run, End, cut, run}
use Rattle.objects.specs.declared.types.ObjectType.{ObjectType}
use Rattle.objects.specs.declared.state.CompositeObjectState.TheVariants.{Free}
use Rattle.objects.specs.declared.location.ObjectLocation.{ObjectLocation}
use Rattle.objects.specs.Header.{allocatable_of}
use Rattle.writer.specs.Writer.{write_to}
use Rattle.writer.specs.Units.{object_units}
use Rattle.fresh.specs.Units.{address_of, new_units}
use Rattle.fresh.specs.Fresh.{after, marks_after, Room}
use Rattle.fresh.specs.Writes.{Writes, WriteDone, Fused, WriteFused}
use Rattle.medium.proofs.Traced.{ran, state_cut, power_cut}
use Rattle.medium.proofs.Runs.{cost_flash, leb_yes, leb_no}
use Rattle.writer.proofs.Units.{object_stores, written}
use Rattle.fresh.proofs.Written.{still_free, length_new}
use Rattle.fresh.proofs.Fresh.{new_of}
use Rattle.writer.proofs.Strict.{write_to_under}
use Rattle.fresh.proofs.Ran.{written_ran}
use Rattle.fresh.proofs.Marked.{new_once, either_ran, sound_of_lem, unmarked_fine}

pub units_new : (g : Geometry) (at : ObjectLocation) (t : ObjectType) (src : List ℕ) → object_units g at t src ≡ new_units g.granularity g.s t src (address_of g at)
units_new g at t src =
    let p : address g at.block (at.offset + header g.granularity g.s) ≡ address_of g at + header g.granularity g.s = omega arith in
    let q : address g at.block (at.offset + size_at g.granularity) ≡ address_of g at + size_at g.granularity = omega arith in
    let r : address g at.block (at.offset + finish_at g.granularity) ≡ address_of g at + finish_at g.granularity = omega arith in
    rw (p, q, r) (simp append_assoc)

-- an end by its parts
with_state : (e : End ℕ) (a : Answer ℕ) (f : Fuse) (s : List ℕ) → e.answer ≡ a → e.fuse ≡ f → e.state ≡ s → e ≡ record { answer = a; fuse = f; state = s }
with_state e a f s p q r = ap₂ (λ (x : Answer ℕ) (y : Fuse × List ℕ). record { answer = x; fuse = y.0; state = y.1 }) p (ap₂ (λ (y : Fuse) (z : List ℕ). (y, z)) q r)

pub writes : Writes
unfolding Writes
writes g at t src img n e =
    let r = object_stores g at t src img n e in
    record {
      with_power =
          ap (λ (x : End ℕ). x.state) (power_cut (write_to g at t src) (object_units g at t src) _ img r)
          ∙ ap (λ (us : List FlashUnit). apply us img) (units_new g at t src);
      cut_at = λ k. state_cut (write_to g at t src) (object_units g at t src) _ img r k ∙ ap (λ (us : List FlashUnit). apply (take k us) img) (units_new g at t src);
    }

pub write_done : WriteDone
unfolding WriteDone allocatable_of
write_done g at t src img v a =
    let ok : geometry_ok g ≡ true = sound_of_lem g (length img) v.fine in
    let new = new_of g at src img v in
    let free = still_free g.granularity g.s t (address_of g at) src img (new_of g at src img v) in
    let r = either_ran g (λ k. write_to k at t src) (λ m b. write_to_under g m b at t src) ok img (new_units g.granularity g.s t src (address_of g at)) _
    (λ off. written_ran g at t src (length img) (record { fine = v.fine; block = v.block; aligned = a; in_block = v.in_block }) off img refl Free free refl)
    (λ b. written_ran (with_strict g 0) at t src (length img)
    (record { fine = unmarked_fine g (length img) v.fine; block = v.block; aligned = a; in_block = v.in_block }) (λ z. omega arith) img refl Free free refl)
    (λ _. new_once g.granularity g.s t (address_of g at) src img new) in
    let e = ap (λ (x : Run flash ℕ). x.answer) r in
    e ∙ ap done (written g at t src img _ e).total

module _ (g : Geometry) (at : ObjectLocation) (t : ObjectType) (src img : List ℕ) (v : Room g at src img) (a : at.offset % width_of g.granularity ≡ 0) where
  abbrev total : ℕ
  total = header g.granularity g.s + length src

  abbrev us : List FlashUnit
  us = new_units g.granularity g.s t src (address_of g at)

  pub stores : write_to g at t src img ≡ ran us total
  unfolding WriteDone
  stores =
      let e = write_done g at t src img v a in
      let w = written g at t src img total e in
      ap₂ (λ (vs : List FlashUnit) (x : Answer ℕ). record { events = vs; answer = x }) (w.stores ∙ units_new g at t src) e

  many : cost flash us ≡ marks_after g src + 1
  many = cost_flash us ∙ length_new g.granularity g.s t (address_of g at) src

  fused : Fused g at t src img
  unfolding run Writes WriteDone
  fused =
      let e = write_done g at t src img v a in
      record {
        enough = λ k c. with_state (run (Units k) (write_to g at t src) img) (done total) (Units (k - (marks_after g src + 1))) (after g at t src img k)
            (ap (λ (r : Run flash ℕ). (cut {W = flash} (Units k) r img).answer) stores ∙ rw (leb_yes {m = cost flash us} {n = k} (omega (arith, many))))
            (ap (λ (r : Run flash ℕ). (cut {W = flash} (Units k) r img).fuse) stores ∙ rw (leb_yes {m = cost flash us} {n = k} (omega (arith, many))) (ap (λ (n : ℕ). Units (k - n)) many)) ((writes g at t src img total e).cut_at k);
        short = λ k c. with_state (run (Units k) (write_to g at t src) img) (refused 8) (Units 0) (after g at t src img k)
            (ap (λ (r : Run flash ℕ). (cut {W = flash} (Units k) r img).answer) stores ∙ rw (leb_no {m = cost flash us} {n = k} (omega (arith, many))))
            (ap (λ (r : Run flash ℕ). (cut {W = flash} (Units k) r img).fuse) stores ∙ rw (leb_no {m = cost flash us} {n = k} (omega (arith, many)))) ((writes g at t src img total e).cut_at k);
      }

pub write_fused : WriteFused
unfolding WriteFused
write_fused g at t src img v a = fused g at t src img v a
