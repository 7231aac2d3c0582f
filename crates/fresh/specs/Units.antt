-- What an object that is written new stores, by the address of its first byte: "The writer stores type, then payload, then size, then mark."
use Rattle.std.specs.Prelude.{◌⊎◌, List, [], ◌∷◌, ◌++◌, ℕ, ◌+◌, ◌≤◌, ◌<◌, length}
use Rattle.medium.specs.declared.granularity.Granularity.{Granularity}
use Rattle.medium.specs.declared.geometry.Geometry.{Geometry}
use Rattle.medium.specs.Granularity.{width_of, units_in, align_of, finish_at, delete_at, finish_mark, size_at, header}
use Rattle.medium.specs.Geometry.{address}
use Rattle.medium.specs.Units.{FlashUnit, units_of}
use Rattle.objects.specs.declared.types.ObjectType.{ObjectType}
use Rattle.objects.specs.declared.location.ObjectLocation.{ObjectLocation}
use Rattle.objects.specs.Numbers.{bytes}
use Rattle.objects.specs.Types.{type_byte}

-- the address of an object's first byte in the image
abbrev pub address_of : Geometry → ObjectLocation → ℕ
address_of g at = address g at.block at.offset

-- the bytes that an object with n bytes of payload takes, aligned up
abbrev pub span : Granularity → ℕ → ℕ → ℕ
span g s n = align_of (width_of g) (header g s + n)

-- an index outside an interval
abbrev pub Clear : ℕ → ℕ → ℕ → Type 0
Clear from to j = (j < from) ⊎ (to ≤ j)

-- ---- its units

abbrev pub type_units : Granularity → ObjectType → ℕ → List FlashUnit
type_units g t q = units_of (width_of g) q (type_byte t ∷ [])

abbrev pub pay_units : Granularity → ℕ → List ℕ → ℕ → List FlashUnit
pay_units g s pay q = units_of (width_of g) (q + header g s) pay

abbrev pub size_units : Granularity → ℕ → ℕ → ℕ → List FlashUnit
size_units g s n q = units_of (width_of g) (q + size_at g) (bytes s n)

abbrev pub mark_units : Granularity → ℕ → List FlashUnit
mark_units g q = units_of (width_of g) (q + finish_at g) (finish_mark g ∷ [])

-- all that is stored before the finish mark, and with it
abbrev pub before : Granularity → ℕ → ObjectType → List ℕ → ℕ → List FlashUnit
before g s t pay q = type_units g t q ++ (pay_units g s pay q ++ size_units g s (length pay) q)

abbrev pub new_units : Granularity → ℕ → ObjectType → List ℕ → ℕ → List FlashUnit
new_units g s t pay q = before g s t pay q ++ mark_units g q

-- how many come before the finish mark, which is one more
abbrev pub units_before : Granularity → ℕ → ℕ → ℕ
units_before k s n = 1 + units_in (width_of k) n + units_in (width_of k) s

-- the delete mark of an object
abbrev pub delete_units : Granularity → ℕ → List FlashUnit
delete_units g p = units_of (width_of g) (p + delete_at g) (0 ∷ [])
