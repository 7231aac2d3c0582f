-- The world of the image with a table of numbers beside it. Both change in one sequence: a unit of the image needs power, a field of the
-- table needs none, so a cut falls just before a unit. What the numbers mean is for the crate that has such a table.
use Rattle.std.specs.Prelude.{Bool, true, false, List, [], ◌∷◌, ℕ, suc, ◌+◌, set}
use Rattle.medium.specs.Units.{FlashUnit, step}
use Rattle.medium.specs.Operation.{World, OpIn, Op}

pub data Event : Type 0 where
  unit : FlashUnit → Event
  field : ℕ → ℕ → Event

pub record Both : Type 0 where
  pub image : List ℕ
  pub table : List ℕ

abbrev pub both : List ℕ → List ℕ → Both
both i t = record { image = i; table = t }

abbrev pub happens : Event → Both → Both
happens (unit u) s = both (step u s.image) s.table
happens (field i v) s = both s.image (set s.table i v)

abbrev pub powered : Event → Bool
powered (unit u) = true
powered (field i v) = false

abbrev pub beside : World
beside = record { State = Both; Event = Event; step = happens; power = powered }

-- ---- an operation on the image alone

abbrev pub units : List FlashUnit → List Event
units [] = []
units (u ∷ us) = unit u ∷ units us

unfoldable pub on_image : {A : Type 0} → Op A → OpIn beside A
on_image o s = let r = o s.image in record { events = units r.events; answer = r.answer }

-- ---- numbers that are stored in a row: from field a + i on

abbrev pub fields : ℕ → ℕ → List ℕ → List Event
fields a i [] = []
fields a i (v ∷ vs) = field (a + i) v ∷ fields a (suc i) vs

-- the table then
abbrev pub stored : ℕ → ℕ → List ℕ → List ℕ → List ℕ
stored a i [] t = t
stored a i (v ∷ vs) t = stored a (suc i) vs (set t (a + i) v)
