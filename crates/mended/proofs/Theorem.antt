-- The theorem of specs/Mended.antt: what holds between the marks, and then what a sweep keeps of it.
use mathlib.Core.Path.{◌≡◌, sym, ◌∙◌, subst}
use mathlib.Core.Bool.{true}
use mathlib.Core.List.{List}
use Prim.Native.Nat.{ℕ}
use Rattle.medium.specs.declared.geometry.Geometry.{Geometry}
use Rattle.medium.specs.declared.fuse.Fuse.{Fuse}
use Rattle.medium.specs.Operation.{done}
use Rattle.objects.specs.declared.types.ObjectType.{ObjectType}
use Rattle.objects.specs.declared.location.ObjectLocation.{ObjectLocation}
use Rattle.objects.specs.declared.header.ObjectHeader.{ObjectHeader}
use Rattle.blocks.specs.declared.header.BlockType.TheVariants.{Metadata}
use Rattle.storage.specs.Order.{is_of}
use Rattle.powercut.specs.Demand.{Movable}
use Rattle.powercut.specs.Listed.{Listable}
use Rattle.sweep.specs.Laws.{left_by, SameStreets, NoStreetLost, NoTwinLeft}
use Rattle.mended.specs.Mended.{first_of, OtherSame, OwnSame, LikeSame, Mended, CutMoveMended}
use Rattle.sweep.proofs.Ready.{Ready, ready_of, ready_ok}
use Rattle.sweep.proofs.Theorems.{no_street_lost, no_twin_left}
use Rattle.mended.proofs.Copied.{copied, as_copied, ready_still}
use Rattle.mended.proofs.Streets.{other-same, own_same, like-same}
use Rattle.mended.proofs.One.{one_left}

-- ---- what a street is is kept by what keeps every street

module _ (g : Geometry) (path : List ℕ) (hash : ℕ) (img between left : List ℕ) (s : SameStreets g between left) where
  other_kept : OtherSame g path hash img between → OtherSame g path hash img left
  other_kept o =
      record {
        found = s.found path hash ∙ o.found;
        reads = λ at e p n. s.reads path hash at (o.found ∙ e) p n ∙ o.reads at e p n;
        size = λ at e. s.sizes path hash at (o.found ∙ e) ∙ o.size at e;
      }

  own_kept : (h : ObjectHeader) (to : ObjectLocation) → OwnSame g path hash h to img between → OwnSame g path hash h to img left
  own_kept h to o =
      record {
        found = s.found path hash ∙ o.found;
        reads = λ p n. s.reads path hash (first_of h to) o.found p n ∙ o.reads p n;
        size = s.sizes path hash (first_of h to) o.found ∙ o.size;
      }

  like_kept : (h : ObjectHeader) → LikeSame g path hash h img between → LikeSame g path hash h img left
  like_kept h o =
      record {
        at = o.at;
        found = s.found path hash ∙ o.found;
        reads = λ p n. s.reads path hash o.at o.found p n ∙ o.reads p n;
        size = s.sizes path hash o.at o.found ∙ o.size;
      }

module _ (g : Geometry) (h : ObjectHeader) (to : ObjectLocation) (room : ℕ) (t : ObjectType) (img : List ℕ) (v : Movable g h to room t img) (w : Listable g h to room img)
    (kind : is_of g Metadata h.location.block img ≡ done true) (kind-to : is_of g Metadata to.block img ≡ done true) (r : Ready g img) where
  abbrev m : List ℕ
  m = copied g h to t img

  ready : Ready g (copied g h to t img)
  ready = ready_still g h to room t img v w kind kind-to r

  streets : (f : Fuse) → SameStreets g m (left_by f g m)
  unfolding NoStreetLost
  streets f = no_street_lost f g m ready.bytes

  mended : Mended g h to img (copied g h to t img)
  unfolding NoTwinLeft
  mended =
      record {
        ready = ready_ok g m ready;
        clean = no_twin_left g m ready.bytes (ready_ok g m ready);
        one = one_left g h to room t img v w kind kind-to r;
        others = λ f path hash e. other_kept g path hash img m (left_by f g m) (streets f) (other-same g h to room t img v w kind kind-to r path hash e);
        own = λ f path hash e a. own_kept g path hash img m (left_by f g m) (streets f) h to (own_same g h to room t img v w kind kind-to r path hash e a);
        alike = λ f path hash e a. like_kept g path hash img m (left_by f g m) (streets f) h (like-same g h to room t img v w kind kind-to r path hash e a);
      }

pub cut_move_mended : CutMoveMended
unfolding CutMoveMended
cut_move_mended g h to room t img v w kind kind-to e =
    subst (Mended g h to img) (sym (as_copied g h to room t img v w)) (mended g h to room t img v w kind kind-to (ready_of g img v.bytes e))
