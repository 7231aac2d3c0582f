-- A well formed record has sixteen bytes.
use Prim.Native.Nat.{ℕ}
use mathlib.Core.Path.{◌≡◌, refl}
use mathlib.Core.List.{List}
use mathlib.Core.Bool.{Bool, true, false, ◌&&◌, false≢true}
use lib.ListN.{length}
use borrow.Author.Tests.{eqb-true}
use Rattle.geometry_record.specs.GeometryRecord.{well_formed}

first : (a b : Bool) → (a && b) ≡ true → a ≡ true
first true b e = refl
first false b e = absurd (false≢true e)

pub sixteen : (raw : List ℕ) → well_formed raw ≡ true → length raw ≡ 16
unfolding well_formed
sixteen raw e = eqb-true _ _ (first _ _ e)
