-- What bench rows are made of: small geometries and images, and tests that compute to true or false.
use Rattle.std.specs.Prelude.{Bool, true, false, ◌&&◌, List, [], ◌∷◌, ◌++◌, ℕ, ◌+◌, ◌-◌, length, replicate, eqb}
use Rattle.medium.specs.declared.granularity.Granularity.{Granularity}
use Rattle.medium.specs.declared.geometry.Geometry.{Geometry}
use Rattle.medium.specs.declared.fuse.Fuse.{Fuse}
use Rattle.medium.specs.declared.fuse.Fuse.TheVariants.{Absent, Units}
use Rattle.medium.specs.Operation.{World, Run, EndIn, Op, run, number_of}

-- ---- geometries and images

-- "A: Bit, 256-byte blocks, 4 of them, s=c=1. B: Word(4), C: Word(1), otherwise the same."
abbrev pub four : Granularity → Geometry
four k = record { granularity = k; s = 1; c = 1; strict = 0; size = 256; count = 4 }

-- n blocks of 64 bytes
abbrev pub blocks : ℕ → Granularity → Geometry
blocks n k = record { granularity = k; s = 1; c = 1; strict = 0; size = 64; count = n }

-- n bytes x, but for some at an address
abbrev pub filled : ℕ → ℕ → ℕ → List ℕ → List ℕ
filled x n a bs = replicate a x ++ bs ++ replicate (n - (a + length bs)) x

-- n erased bytes, but for some at an address
abbrev pub holding : ℕ → ℕ → List ℕ → List ℕ
holding n a bs = filled 0xFF n a bs

-- ---- tests

abbrev pub all : List Bool → Bool
all [] = true
all (b ∷ bs) = b && all bs

abbrev pub same : List ℕ → List ℕ → Bool
same [] [] = true
same [] (y ∷ ys) = false
same (x ∷ xs) [] = false
same (x ∷ xs) (y ∷ ys) = eqb x y && same xs ys

abbrev pub same_fuse : Fuse → Fuse → Bool
same_fuse Absent Absent = true
same_fuse Absent (Units k) = false
same_fuse (Units k) Absent = false
same_fuse (Units k) (Units n) = eqb k n

-- an end: its number, the fuse that is left, and a test of the state
abbrev pub ends : {S A : Type 0} → EndIn S A → ℕ → Fuse → (S → Bool) → Bool
ends e n left state = eqb (number_of e.answer) n && same_fuse e.fuse left && state e.state

-- an operation on an image: its number, the fuse that is left, the image
abbrev pub row : {A : Type 0} → Fuse → Op A → List ℕ → ℕ → Fuse → List ℕ → Bool
row f o img n left after = ends (run f o img) n left (same after)

-- what gives a number and stores nothing
abbrev pub quiet : {W : World} {A : Type 0} → Run W A → ℕ → Bool
quiet r n = eqb (number_of r.answer) n && eqb (length r.events) 0
