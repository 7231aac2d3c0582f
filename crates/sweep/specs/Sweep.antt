-- The sweep: what is refused is refused before any store; then the twins are deleted, and then what nothing refers to. Both numbers of objects
-- deleted stand beside the image and take no power: an object counts right after its mark.
use Rattle.std.specs.Prelude.{ℕ, ◌+◌, List, [], ◌∷◌, length, replicate, eqb}
use Rattle.medium.specs.declared.geometry.Geometry.{Geometry}
use Rattle.medium.specs.Granularity.{pick}
use Rattle.medium.specs.Geometry.{admit}
use Rattle.medium.specs.Operation.{done, OpIn, ◌>>=◌, ◌>>◌, ask, test, give, putting}
use Rattle.medium.specs.Beside.{beside, on_image, fields}
use Rattle.objects.specs.declared.state.ObjectState.TheVariants as state
use Rattle.objects.specs.declared.header.ObjectHeader.{ObjectHeader}
use Rattle.objects.specs.Header.{update_state}
use Rattle.sweep.specs.Referring.{sweepable}
use Rattle.sweep.specs.Twins.{twins, unreferred}

abbrev pub Sweeping : Type 0 → Type 0
Sweeping A = OpIn beside A

-- the numbers: 0 that of the twins, 1 that of the objects that nothing refers to
abbrev pub count_to : ℕ → ℕ → Sweeping (Unit {0})
count_to which n = putting (fields which 0 (n ∷ [])) tt

-- with n deleted before them
unfoldable pub deleting : Geometry → ℕ → ℕ → List ObjectHeader → Sweeping (Unit {0})
deleting g which n [] = give tt
deleting g which n (h ∷ hs) = do
  on_image (update_state g h state.Deleted)
  count_to which (n + 1)
  deleting g which (n + 1) hs

unfoldable pub deleting_twins : Geometry → Sweeping (Unit {0})
deleting_twins g = do
  ts ← ask (λ s. done (twins g s.image))
  deleting g 0 0 ts

unfoldable pub deleting_unreferred : Geometry → Sweeping (Unit {0})
deleting_unreferred g = do
  ds ← ask (λ s. done (unreferred g s.image))
  deleting g 1 0 ds

-- THE SWEEP
unfoldable pub sweep : Geometry → Sweeping (Unit {0})
sweep g = do
  ask (λ s. sweepable g s.image)
  deleting_twins g
  deleting_unreferred g

-- ---- with words lent for notes: one for each byte of the image, else 7 behind 6 and 7. It gives what the sweep gives, and the words come back as 0

abbrev pub words_fit : Geometry → ℕ → ℕ → ℕ
words_fit g room words = admit g room (pick (eqb words room) 0 7)

unfoldable pub sweep_with : Geometry → ℕ → Sweeping (Unit {0})
sweep_with g words = do
  test (λ s. words_fit g (length s.image) words)
  sweep g

abbrev pub words_after : ℕ → List ℕ → List ℕ
words_after refused ws = pick (eqb refused 0) (replicate (length ws) 0) ws
