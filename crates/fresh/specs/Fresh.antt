-- An object that is written new at an erased place of a block, cut after any number of units: before its finish mark nothing finished reads
-- there, from then on the object, whole; and no byte changes elsewhere.
use Rattle.std.specs.Prelude.{◌≡◌, List, ℕ, ◌+◌, ◌≤◌, ◌<◌, length, take, get_or}
use Rattle.medium.specs.declared.geometry.Geometry.{Geometry}
use Rattle.medium.specs.Geometry.{check_of}
use Rattle.medium.specs.Operation.{apply}
use Rattle.objects.specs.declared.types.ObjectType.{ObjectType}
use Rattle.objects.specs.declared.state.ObjectDataState.TheVariants.{Valid}
use Rattle.objects.specs.declared.state.CompositeObjectState.TheVariants.{Allocated}
use Rattle.objects.specs.declared.location.ObjectLocation.{ObjectLocation}
use Rattle.objects.specs.declared.header.ObjectHeader.{ObjectHeader}
use Rattle.shown.specs.Whole.{Whole, Unfinished}
use Rattle.fresh.specs.Units.{address_of, span, Clear, new_units, units_before}

-- the image after k of its units
abbrev pub after : Geometry → ObjectLocation → ObjectType → List ℕ → List ℕ → ℕ → List ℕ
after g at t pay img k = apply (take k (new_units g.granularity g.s t pay (address_of g at))) img

-- the header that it is to have
abbrev pub new_header : ObjectLocation → ObjectType → List ℕ → ObjectHeader
new_header at t pay = record { state = Allocated t Valid; size = length pay; location = at }

-- how many of its units come before the finish mark
abbrev pub marks_after : Geometry → List ℕ → ℕ
marks_after g pay = units_before g.granularity g.s (length pay)

-- what is given: a valid geometry and an image of its length, a payload of bytes, and erased room for it in one block
pub record Room (g : Geometry) (at : ObjectLocation) (pay img : List ℕ) : Type 0 where
  pub fine : check_of g (length img) ≡ 0
  pub bytes : (i : ℕ) → i < length pay → get_or pay i 0 < 256
  pub block : at.block < g.count
  pub in_block : at.offset + span g.granularity g.s (length pay) ≤ g.size
  pub erased : (i : ℕ) → i < span g.granularity g.s (length pay) → get_or img (address_of g at + i) 0 ≡ 255

pub record Cut (g : Geometry) (at : ObjectLocation) (t : ObjectType) (pay img : List ℕ) : Type 0 where
  pub before_mark : (k : ℕ) → k ≤ marks_after g pay → Unfinished g at t (after g at t pay img k)
  pub whole_with_mark : (k : ℕ) → marks_after g pay + 1 ≤ k → Whole g (new_header at t pay) t pay (after g at t pay img k)
  -- and so it stays, whatever changes elsewhere
  pub stays : (k : ℕ) → marks_after g pay + 1 ≤ k → (other : List ℕ) → length other ≡ length img
      → ((j : ℕ) → address_of g at ≤ j → j < address_of g at + span g.granularity g.s (length pay) → get_or other j 0 ≡ get_or (after g at t pay img k) j 0)
      → Whole g (new_header at t pay) t pay other
  pub long : (k : ℕ) → length (after g at t pay img k) ≡ length img
  pub elsewhere : (k j : ℕ) → Clear (address_of g at) (address_of g at + span g.granularity g.s (length pay)) j
      → get_or (after g at t pay img k) j 0 ≡ get_or img j 0

unfoldable pub Fresh : Type 0
Fresh = (g : Geometry) (at : ObjectLocation) (t : ObjectType) (pay img : List ℕ) → Room g at pay img → Cut g at t pay img
