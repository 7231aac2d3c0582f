-- What a move leaves as it was: the original before the move, and every block that it does not touch.
use mathlib.Core.Path.{◌≡◌, refl, sym, subst}
use mathlib.Core.Logic.{inl, inr, ◌≢◌}
use mathlib.Core.List.{List}
use Prim.Native.Nat.{ℕ, ◌+◌, ◌*◌, ◌≤◌, ◌<◌}
use native.Mathlib.Omega.{arith}
use lib.ListN.{length, get_or}
use Rattle.medium.specs.declared.geometry.Geometry.{Geometry}
use Rattle.medium.specs.Granularity.{delete_at}
use Rattle.medium.specs.Geometry.{check_of, address}
use Rattle.objects.specs.declared.types.ObjectType.{ObjectType}
use Rattle.objects.specs.declared.location.ObjectLocation.{ObjectLocation}
use Rattle.objects.specs.declared.header.ObjectHeader.{ObjectHeader}
use Rattle.objects.specs.Info.{span_of}
use Rattle.powercut.specs.Demand.{Whole, address_of, payload_in, Clear, Movable, Framed, Demand}
use Rattle.medium.proofs.Bytes.{Off}
use Rattle.medium.proofs.Frame.{other_block}
use Rattle.shown.proofs.Agreeing.{Agree}
use Rattle.shown.proofs.Walk.{span_least}
use Rattle.medium.proofs.Checks.{fine_of_check}
use Rattle.medium.proofs.Places.{laid}
use Rattle.powercut.proofs.Ran.{Ready}
use Rattle.powercut.proofs.Survive.{span_is, ready, demand}
use Rattle.powercut.proofs.Again.{left_is}

-- the mark lies in the original's span, and that in its block
module _ (g : Geometry) (h : ObjectHeader) (to : ObjectLocation) (room : ℕ) (t : ObjectType) (img : List ℕ) (v : Movable g h to room t img) where
  pub mark_inside : delete_at g.granularity < span_of g.granularity g.s h
  mark_inside =
      omega (arith, laid g.granularity g.s 0 (fine_of_check g (length img) (check_of g (length img)) refl v.fine).sound.s_most, span_least g h.location.block img v.fine h)

  -- before the move the original reads whole
  pub whole_img : Whole g h t (payload_in g h img) img
  unfolding Demand
  whole_img = subst (λ (x : List ℕ). Whole g h t (payload_in g h img) x) (left_is g h to t (payload_in g h img) img (ready g h to room t img v) 0) (((demand g h to room t img v).1 0).before_mark (omega arith)).0

  pub original_inside : h.location.offset + span_of g.granularity g.s h ≤ g.size
  original_inside =
      let r : Ready g h to t (payload_in g h img) img = ready g h to room t img v in
      omega (arith, r.in_block, span_is g h to t (payload_in g h img) img r)

  -- a block that the move does not touch is as it was
  module _ (m : List ℕ) (fr : Framed g h to img m) where
    kept_byte : (b o : ℕ) → b ≢ h.location.block → b ≢ to.block → o < g.size → get_or m (address g b o) 0 ≡ get_or img (address g b o) 0
    kept_byte b o ns nd lt =
        fr.elsewhere (address g b o) (clear (other_block g.size to.block b o (λ e. nd (sym e)) lt)) (λ e. mark e (other_block g.size h.location.block b o (λ e. ns (sym e)) lt))
      where
        clear : Off (to.block * g.size) g.size (b * g.size + o) → Clear (address_of g to) (address_of g to + span_of g.granularity g.s h) (address g b o)
        clear (inl k) = inl (omega arith)
        clear (inr k) = inr (omega (arith, v.large, v.in_block))

        mark : address g b o ≡ address_of g h.location + delete_at g.granularity → Off (h.location.block * g.size) g.size (b * g.size + o) → ⊥
        mark e (inl k) = omega arith
        mark e (inr k) = omega (arith, mark_inside, original_inside)

    pub block-agrees : (b : ℕ) → b ≢ h.location.block → b ≢ to.block → Agree g b 0 g.size img m
    block-agrees b ns nd = record { long = fr.long; same = λ o _ k. kept_byte b o ns nd k }
