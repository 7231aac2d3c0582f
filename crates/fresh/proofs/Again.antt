-- The same `write_to` again after a cut: it stores the same units, and a unit programmed twice is as good as once.
use mathlib.Core.Path.{◌≡◌, refl, sym, ap, ◌∙◌}
use mathlib.Core.Logic.{◌⊎◌, inl, inr}
use mathlib.Core.List.{List, [], ◌∷◌, ◌++◌}
use Prim.Native.Nat.{ℕ, ◌+◌, ◌%◌, ◌≤◌, max}
use native.Mathlib.Omega.{arith}
use lib.ListN.{length, take}
use lib.Seq.{take_all}
use borrow.Author.Tests.{eq-eqb}
use Rattle.medium.specs.All.{All}
use Rattle.medium.specs.declared.granularity.Granularity.{Granularity}
use Rattle.medium.specs.declared.geometry.Geometry.{Geometry}
use Rattle.medium.specs.declared.fuse.Fuse.TheVariants.{Absent}
use Rattle.medium.specs.Granularity.{width_of, size_at, header, finish_at, finish_mark}
use Rattle.medium.specs.Units.{FlashUnit}
use Rattle.medium.specs.Operation.{flash, apply, done, Run, run}
use Rattle.objects.specs.declared.types.ObjectType.{ObjectType}
use Rattle.objects.specs.declared.state.ObjectDataState.TheVariants.{Untrusted}
use Rattle.objects.specs.declared.state.CompositeObjectState.{CompositeObjectState}
use Rattle.objects.specs.declared.state.CompositeObjectState.TheVariants.{Free, Allocated}
use Rattle.objects.specs.declared.location.ObjectLocation.{ObjectLocation}
use Rattle.objects.specs.Numbers.{bytes}
use Rattle.objects.specs.Types.{type_byte}
use Rattle.objects.specs.Header.{allocatable_of}
use Rattle.writer.specs.Writer.{write_to}
use Rattle.fresh.specs.Units.{address_of, type_units, pay_units, size_units, mark_units, before, new_units}
use Rattle.fresh.specs.Fresh.{after, marks_after, Room}
use Rattle.fresh.specs.Writes.{WriteAgain}
use Rattle.medium.proofs.Bytes.{All-append}
use Rattle.medium.proofs.Programs.{Programs, store_programs, cut_twice}
use Rattle.medium.proofs.Traced.{ran, power_cut}
use Rattle.shown.proofs.Reading.{state_seen}
use Rattle.writer.proofs.Units.{written}
use Rattle.fresh.proofs.Written.{unfinished, length_new, cut_before}
use Rattle.fresh.proofs.Fresh.{new_of, long}
use Rattle.fresh.proofs.Ran.{written_ran}

-- an unfinished object of the same type can be allocated over, and so can a free place
pub over_begun : (t : ObjectType) → allocatable_of t (Allocated t Untrusted) ≡ done tt
unfolding allocatable_of
over_begun t = rw (eq-eqb (type_byte t) (type_byte t) refl)

pub over_free : (t : ObjectType) → allocatable_of t Free ≡ done tt
unfolding allocatable_of
over_free t = refl

-- all its units program
module _ (g : Granularity) (s : ℕ) (t : ObjectType) (pay : List ℕ) (q : ℕ) where
  pub before_programs : All Programs (before g s t pay q)
  before_programs =
      All-append Programs (type_units g t q) (pay_units g s pay q ++ size_units g s (length pay) q) (store_programs (width_of g) q (type_byte t ∷ []))
      (All-append Programs (pay_units g s pay q) (size_units g s (length pay) q) (store_programs (width_of g) (q + header g s) pay) (store_programs (width_of g) (q + size_at g) (bytes s (length pay))))

  pub mark_programs : All Programs (mark_units g q)
  mark_programs = store_programs (width_of g) (q + finish_at g) (finish_mark g ∷ [])

  new_programs : All Programs (new_units g s t pay q)
  new_programs = All-append Programs (before g s t pay q) (mark_units g q) before_programs mark_programs

module _ (g : Geometry) (at : ObjectLocation) (t : ObjectType) (src img : List ℕ) (v : Room g at src img) (a : at.offset % width_of g.granularity ≡ 0) (off : g.strict ≡ 1 → ⊥) (k : ℕ) (c : k ≤ marks_after g src) where
  abbrev us : List FlashUnit
  us = new_units g.granularity g.s t src (address_of g at)

  abbrev m : List ℕ
  m = after g at t src img k

  abbrev N : ℕ
  N = marks_after g src + 1

  abbrev total : ℕ
  total = header g.granularity g.s + length src

  -- the place is free or begun, so the call stores the units of the first
  traced : write_to g at t src m ≡ ran us total
  traced = go (unfinished g.granularity g.s t (address_of g at) src img (new_of g at src img v) k)
    where
      seen : (there : CompositeObjectState) → state_seen g.granularity (address_of g at) (apply (take k (before g.granularity g.s t src (address_of g at))) img) ≡ done there
          → state_seen g.granularity (address_of g at) m ≡ done there
      seen there e = ap (λ (vs : List FlashUnit). state_seen g.granularity (address_of g at) (apply vs img)) (cut_before g.granularity g.s t (address_of g at) src k c) ∙ e

      on : (there : CompositeObjectState) → state_seen g.granularity (address_of g at) m ≡ done there → allocatable_of t there ≡ done tt → write_to g at t src m ≡ ran us total
      on there e can =
          let r = written_ran g at t src (length img) (record { fine = v.fine; block = v.block; aligned = a; in_block = v.in_block }) off m (long g at src img v t k) there e can in
          r ∙ ap (ran us) (written g at t src m _ (ap (λ (x : Run flash ℕ). x.answer) r)).total

      go : (state_seen g.granularity (address_of g at) (apply (take k (before g.granularity g.s t src (address_of g at))) img) ≡ done Free)
          ⊎ (state_seen g.granularity (address_of g at) (apply (take k (before g.granularity g.s t src (address_of g at))) img) ≡ done (Allocated t Untrusted))
          → write_to g at t src m ≡ ran us total
      go (inl e) = on Free (seen Free e) (over_free t)
      go (inr e) = on (Allocated t Untrusted) (seen (Allocated t Untrusted) e) (over_begun t)

  ends_alike : apply us m ≡ after g at t src img N
  ends_alike =
      let l = length_new g.granularity g.s t (address_of g at) src in
      let n : max k N ≡ N = omega arith in
      ap (λ (vs : List FlashUnit). apply vs m) (sym (take_all N us (omega (arith, l)))) ∙ cut_twice us k N img (new_programs g.granularity g.s t src (address_of g at))
      ∙ ap (λ (i : ℕ). apply (take i us) img) n

  written_again : run Absent (write_to g at t src) m ≡ record { answer = done total; fuse = Absent; state = after g at t src img N }
  written_again = power_cut (write_to g at t src) us total m traced ∙ ap (λ (i : List ℕ). record { answer = done total; fuse = Absent; state = i }) ends_alike

pub write_again : WriteAgain
unfolding WriteAgain
write_again g at t src img v a off k c = written_again g at t src img v a off k c
