-- `stumpchoir_move_object` meets the demand on a move.
use mathlib.Core.Path.{◌≡◌, refl, ap}
use mathlib.Core.Bool.{Bool}
use mathlib.Core.List.{List}
use Prim.Native.Nat.{ℕ}
use Rattle.medium.specs.declared.geometry.Geometry.{Geometry}
use Rattle.medium.specs.Geometry.{geometry_of}
use Rattle.medium.specs.Operation.{done, run}
use Rattle.objects.specs.declared.location.ObjectLocation.{ObjectLocation}
use Rattle.objects.specs.declared.header.ObjectHeader.{ObjectHeader}
use Rattle.moving.specs.Moving.{move_object}
use Rattle.powercut.proofs.Survive.{call_survives}
use Rattle.crossing.specs.Crossing.{geometry_in, given, fuse_of, CrossingWith, crossed_with, crossing_with}
use Rattle.crossing.specs.Values.{located, header_of, header_numbers}
use Rattle.crossing.proofs.Crossings.{says, given_on}
use Rattle.cface.proofs.moving_calls.stumpchoir_move_object.Reads as move
use Rattle.answered.specs.Move.{HandedBack, Every}

module _ (gs hs : List ℕ) (g : Geometry) (h : ObjectHeader) (to : ObjectLocation) (fused : Bool) (u : ℕ) (img copy : List ℕ) where
  answers : (n v : ℕ) (after copied : List ℕ) → geometry_of gs ≡ done g → header_of hs ≡ done h
      → crossed_with n v after copied ≡ crossing_with header_numbers u copy (run (fuse_of fused u) (given (geometry_in gs) (header_of hs) (λ g h. move_object g h to)) img)
      → HandedBack g h to fused u img copy n v after copied
  unfolding crossing_with
  answers n v after copied d e q =
      let w = rw (says gs g d, given_on g (header_of hs) (λ g h. move_object g h to) (fuse_of fused u) img e) at q in
      record {
        end = run (fuse_of fused u) (move_object g h to) img;
        survived = call_survives g h to img (fuse_of fused u) _ refl;
        numbered = ap (λ (z : CrossingWith (List ℕ) (List ℕ)). z.number) w;
        left_of_units = ap (λ (z : CrossingWith (List ℕ) (List ℕ)). z.units) w;
        image_left = ap (λ (z : CrossingWith (List ℕ) (List ℕ)). z.state) w;
        copy_told = ap (λ (z : CrossingWith (List ℕ) (List ℕ)). z.out) w;
      }

-- THE COROLLARY: whatever outcome the contract of the C function allows, for geometry numbers that say g and header numbers that say h
pub move_object_answered : Every move.Post (λ _ a r e. (g : Geometry) (h : ObjectHeader) → geometry_of a.0.now ≡ done g → header_of a.1.1.1.1.0.now ≡ done h
    → HandedBack g h (located a.1.1.1.1.1.0 a.1.1.1.1.1.1.0) a.1.1.0 a.1.1.1.0.now a.1.0.now a.1.1.1.1.1.1.1.0.now r e.1.1.1.0.now e.1.0.now e.1.1.1.1.1.1.1.0.now)
move_object_answered _ a r e p g h d q = answers a.0.now a.1.1.1.1.0.now g h _ _ _ _ _ _ _ _ _ d q p
