-- The chip that refuses a second programming: what the strict mark promises, for every call that stores.
use Rattle.std.specs.Prelude.{◌≡◌, true, List, ℕ, ◌<◌, length, get_or, eqb}
use Rattle.medium.specs.declared.geometry.Geometry.{Geometry}
use Rattle.medium.specs.declared.fuse.Fuse.{Fuse}
use Rattle.medium.specs.Granularity.{pick}
use Rattle.medium.specs.Geometry.{geometry_ok, check_of}
use Rattle.medium.specs.Operation.{done, refused, Op, refuse, putting, run}
use Rattle.medium.specs.Strict.{any_again}
use Rattle.medium.specs.Medium.{units_at, writable, write}
use Rattle.medium.specs.Beside.{Both}
use Rattle.medium.specs.Marked.{OnceBeside, with_strict}
use Rattle.sweep.specs.Referring.{listings, sweepable}
use Rattle.sweep.specs.Laws.{sweep_by}
use Rattle.strict.specs.Calls.{Call, does, Spared}

-- ---- one store

-- "Without the mark nothing changes": the range is tested, and the units are stored
unfoldable pub plain_write : Geometry → ℕ → ℕ → List ℕ → Op (Unit {0})
plain_write g b o bs img = let r = writable g (length img) b o (length bs) in pick (eqb r 0) (putting (units_at g b o bs) tt) (refuse r) img

unfoldable pub Unchanged : Type 0
Unchanged = (g : Geometry) (b o : ℕ) (bs img : List ℕ) → (g.strict ≡ 1 → ⊥) → write g b o bs img ≡ plain_write g b o bs img

-- 10 exactly when: the mark is set, the range is good, and a unit would be programmed again
pub record Refuses (g : Geometry) (b o : ℕ) (bs img : List ℕ) : Type 0 where
  pub marked : g.strict ≡ 1
  pub in_range : writable g (length img) b o (length bs) ≡ 0
  pub again : any_again (units_at g b o bs) img ≡ true

pub record TenIff (g : Geometry) (b o : ℕ) (bs img : List ℕ) : Type 0 where
  -- and then nothing is stored and the fuse is as it was
  pub when : Refuses g b o bs img → (f : Fuse) → run f (write g b o bs) img ≡ record { answer = refused 10; fuse = f; state = img }
  pub only_then : (f : Fuse) → (run f (write g b o bs) img).answer ≡ refused 10 → Refuses g b o bs img

unfoldable pub TenExactly : Type 0
TenExactly = (g : Geometry) (b o : ℕ) (bs img : List ℕ) → TenIff g b o bs img

-- ---- every call

-- no unit is programmed twice
unfoldable pub OnlyOnce : Type 0
OnlyOnce = (g : Geometry) → g.strict ≡ 1 → (c : Call) (s : Both) → OnceBeside (does g c s).events s

-- a call under the mark is the call without it where that programs no unit twice, and gives 10 where it would
pub record AsPlain (g : Geometry) (c : Call) (s : Both) : Type 0 where
  pub same : OnceBeside (does (with_strict g 0) c s).events s → does g c s ≡ does (with_strict g 0) c s
  pub ten : (OnceBeside (does (with_strict g 0) c s).events s → ⊥) → (does g c s).answer ≡ refused 10
  -- so what it gives, if it is not 10, it gives without the mark too, at every fuse
  pub unless : ((does g c s).answer ≡ refused 10 → ⊥) → (f : Fuse) → run f (does g c) s ≡ run f (does (with_strict g 0) c) s

unfoldable pub OnlyStops : Type 0
OnlyStops = (g : Geometry) → g.strict ≡ 1 → geometry_ok g ≡ true → (c : Call) (s : Both) → AsPlain g c s

-- ---- who never meets it, on an image of bytes

unfoldable pub NeverTen : Type 0
NeverTen = (f : Fuse) (g : Geometry) (c : Call) → Spared c → (s : Both) → ((j : ℕ) → get_or s.image j 0 < 256) → (run f (does g c) s).answer ≡ refused 10 → ⊥

-- ---- the sweep

-- 14 once the listings are done, and nothing stored, whatever they give
pub record Kept (g : Geometry) (img : List ℕ) : Type 0 where
  pub number : listings g.count g 0 img ≡ done tt → check_of g (length img) ≡ 0 → sweepable g img ≡ refused 14
  pub nothing : (f : Fuse) → (sweep_by f g img).state.image ≡ img

unfoldable pub SweepRefuses : Type 0
SweepRefuses = (g : Geometry) (img : List ℕ) → g.strict ≡ 1 → Kept g img
