-- A record is refused with 6; an image with 6 or 7; and a loaded pair is what both say.
use mathlib.Core.Path.{◌≡◌, refl}
use mathlib.Core.Logic.{inl, inr}
use mathlib.Core.Bool.{Bool, true, false}
use mathlib.Core.List.{List}
use Prim.Native.Nat.{ℕ, ◌*◌}
use native.Mathlib.Omega.{arith}
use lib.ListN.{get_or}
use lib.Dec.{eqb}
use Rattle.medium.specs.declared.granularity.Granularity.{Granularity}
use Rattle.medium.specs.declared.granularity.Granularity.TheVariants.{Bit, Word1, Word4}
use Rattle.medium.specs.declared.geometry.Geometry.{Geometry}
use Rattle.medium.specs.Granularity.{pick, granularity_of}
use Rattle.medium.specs.Geometry.{geometry_ok, admit, fit_of, check_of, fields_hold, geometry_with, geometry_of}
use Rattle.medium.specs.Operation.{Answer, done, refused, and_then}
use Rattle.geometry_record.specs.GeometryRecord.{well_formed, numbers_of, recorded}
use Rattle.files.specs.Files.{sound_by, sound_of, SixOrSeven}

-- a refusal is 6
abbrev Six : Answer Geometry → Type 0
Six (done g) = Unit {0}
Six (refused k) = k ≡ 6

fit_six : (g : Geometry) → Six (pick (eqb (fit_of g) 0) (done g) (refused (fit_of g)))
unfolding fit_of
fit_six g = go (geometry_ok g)
  where
    go : (t : Bool) → Six (pick (eqb (pick {A = ℕ} t 0 6) 0) (done g) (refused (pick t 0 6)))
    go true = tt
    go false = refl

granularity_six : (b n : ℕ) → granularity_of b ≡ refused n → n ≡ 6
unfolding granularity_of
granularity_six b n e = go (eqb b 0) (eqb b 1) (eqb b 4) e
  where
    go : (x y z : Bool) → pick x (done Bit) (pick y (done Word1) (pick z (done Word4) (refused 6))) ≡ refused n → n ≡ 6
    go true y z h = let w : ◌≡◌ {A = ℕ} 0 1 = cc in absurd (omega arith)
    go false true z h = let w : ◌≡◌ {A = ℕ} 0 1 = cc in absurd (omega arith)
    go false false true h = let w : ◌≡◌ {A = ℕ} 0 1 = cc in absurd (omega arith)
    go false false false h = cc

-- a geometry of a granularity, or that one's refusal
with_six : (ns : List ℕ) (a : Answer Granularity) → ((n : ℕ) → a ≡ refused n → n ≡ 6) → Six (sound_by (and_then a (λ k. done (geometry_with ns k))))
with_six ns (done k) h = fit_six (geometry_with ns k)
with_six ns (refused n) h = h n refl

numbers_six : (ns : List ℕ) → Six (sound_by (geometry_of ns))
unfolding geometry_of
numbers_six ns = go (fields_hold ns)
  where
    go : (t : Bool) → Six (sound_by (pick t (and_then (granularity_of (get_or ns 0 0)) (λ k. done (geometry_with ns k))) (refused 6)))
    go true = with_six ns (granularity_of (get_or ns 0 0)) (λ n e. granularity_six (get_or ns 0 0) n e)
    go false = refl

sound_six : (raw : List ℕ) → Six (sound_of raw)
unfolding sound_of recorded
sound_six raw = go (well_formed raw)
  where
    go : (t : Bool) → Six (sound_by (pick t (geometry_of (numbers_of raw)) (refused 6)))
    go true = numbers_six (numbers_of raw)
    go false = refl

-- what the bytes of a record give
pub refuses : (raw : List ℕ) (k : ℕ) → refused k ≡ sound_of raw → k ≡ 6
refuses raw k e = rw (← e) at (sound_six raw)

-- a check that refuses gives 6 or 7
pub check_refuses : (g : Geometry) (room r : ℕ) → r ≡ check_of g room → (r ≡ 0 → ⊥) → SixOrSeven r
unfolding admit
check_refuses g room r e n = go (geometry_ok g) (eqb (g.size * g.count) room) e
  where
    go : (a b : Bool) → r ≡ pick {A = ℕ} a (pick {A = ℕ} b 0 7) 6 → SixOrSeven r
    go true true h = absurd (n h)
    go true false h = inr h
    go false b h = inl h
