-- What a call of `stumpchoir_move_object` handed back, where its numbers say a geometry g and a header h: the end of a move, as its number, its
-- units, its image and the numbers of the copy; and that end meets the demand on a move, cut at the units that were handed in.
use Rattle.std.specs.Prelude.{◌≡◌, Bool, List, ℕ}
use Rattle.medium.specs.declared.geometry.Geometry.{Geometry}
use Rattle.medium.specs.Operation.{End, number_of}
use Rattle.objects.specs.declared.location.ObjectLocation.{ObjectLocation}
use Rattle.objects.specs.declared.header.ObjectHeader.{ObjectHeader}
use Rattle.powercut.specs.Call.{Survived}
use Rattle.crossing.specs.Crossing.{fuse_of, units_left, kept_as}
use Rattle.crossing.specs.Values.{header_numbers}

pub record HandedBack (g : Geometry) (h : ObjectHeader) (to : ObjectLocation) (fused : Bool) (units : ℕ) (image copy : List ℕ) (number left : ℕ) (after copied : List ℕ) : Type 0 where
  pub end : End ObjectHeader
  pub survived : Survived g h to image (fuse_of fused units) end
  pub numbered : number ≡ number_of end.answer
  pub left_of_units : left ≡ units_left end.fuse units
  pub image_left : after ≡ end.state
  pub copy_told : copied ≡ kept_as header_numbers end.answer copy

-- what holds of every outcome that a contract allows: post, of the lifetimes, the arguments, the result and the parameters at exit
abbrev pub Every : {L : Type 0} {A R E : L → Type 0} → ((κ : L) → A κ → R κ → E κ → Type 0) → ((κ : L) → A κ → R κ → E κ → Type 0) → Type 0
Every {L} {A} {R} {E} post claim = (κ : L) (a : A κ) (r : R κ) (e : E κ) → post κ a r e → claim κ a r e
