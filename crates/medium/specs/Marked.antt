-- What the strict mark makes of a run: the run without the mark, in which no unit is programmed twice; or 10 after some of its first
-- events, where it would program one twice. So whatever is promised of a call without the mark holds under it where the call does not give 10.
use Rattle.std.specs.Prelude.{◌≡◌, List, [], ◌∷◌, ◌++◌, false, ℕ}
use Rattle.medium.specs.declared.geometry.Geometry.{Geometry}
use Rattle.medium.specs.Units.{FlashUnit}
use Rattle.medium.specs.Geometry.{geometry_ok}
use Rattle.medium.specs.Operation.{World, flash, refused, Run, OpIn}
use Rattle.medium.specs.Beside.{Event, unit, field, Both, beside}
use Rattle.medium.specs.Strict.{again}

-- ---- no unit is programmed twice

-- each event has a property of the state that the ones before it leave
abbrev pub Along : (W : World) → (W.Event → W.State → Type 0) → List W.Event → W.State → Type 0
Along W P [] s = Unit {0}
Along W P (e ∷ es) s = P e s × Along W P es (W.step e s)

-- "each programmed event with data not all FF meets a unit that is all FF"
abbrev pub Fresh : FlashUnit → List ℕ → Type 0
Fresh u img = again u img ≡ false

abbrev pub Once : List FlashUnit → List ℕ → Type 0
Once us img = Along flash Fresh us img

-- the same with a table beside the image
abbrev pub FreshBeside : Event → Both → Type 0
FreshBeside (unit u) s = Fresh u s.image
FreshBeside (field i v) s = Unit {0}

abbrev pub OnceBeside : List Event → Both → Type 0
OnceBeside es s = Along beside FreshBeside es s

-- ---- a run under the mark beside the run without it

-- 10 after the first of its events
pub record Stopped (W : World) (P : W.Event → W.State → Type 0) {A : Type 0} (r plain : Run W A) (s : W.State) : Type 0 where
  pub number : r.answer ≡ refused 10
  pub rest : List W.Event
  pub first : plain.events ≡ r.events ++ rest
  pub once : Along W P r.events s
  pub twice : Along W P plain.events s → ⊥

pub data Marked (W : World) (P : W.Event → W.State → Type 0) {A : Type 0} (r plain : Run W A) (s : W.State) : Type 0 where
  same : r ≡ plain → Along W P plain.events s → Marked W P r plain s
  stopped : Stopped W P r plain s → Marked W P r plain s

-- an operation under the mark beside the one without it, on every state
abbrev pub Under : (W : World) → (W.Event → W.State → Type 0) → {A : Type 0} → OpIn W A → OpIn W A → Type 0
Under W P o plain = (s : W.State) → Marked W P (o s) (plain s) s

abbrev pub UnderMark : {A : Type 0} → OpIn flash A → OpIn flash A → Type 0
UnderMark o plain = Under flash Fresh o plain

abbrev pub UnderMarkBeside : {A : Type 0} → OpIn beside A → OpIn beside A → Type 0
UnderMarkBeside o plain = Under beside FreshBeside o plain

-- ---- a geometry with the mark beside one without it, which is as sound

abbrev pub with_strict : Geometry → ℕ → Geometry
with_strict g m = record { granularity = g.granularity; s = g.s; c = g.c; strict = m; size = g.size; count = g.count }

pub record Beside (g : Geometry) (m : ℕ) : Type 0 where
  pub on : g.strict ≡ 1
  pub off : m ≡ 1 → ⊥
  pub sound : geometry_ok (with_strict g m) ≡ geometry_ok g
