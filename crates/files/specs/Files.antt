-- What is promised of a file that was read: no contract can say which bytes it had. They fit; a geometry is what some bytes of a record say
-- and keeps the medium's rules; an image is as long as its geometry says; and what is refused is refused with 6 or 7.
use Rattle.std.specs.Prelude.{ℕ, ◌≤◌, ◌≡◌, ◌⊎◌, List, eqb, Result, Ok, Err}
use Rattle.medium.specs.declared.geometry.Geometry.{Geometry}
use Rattle.medium.specs.Granularity.{pick}
use Rattle.medium.specs.Geometry.{fit_of, check_of}
use Rattle.medium.specs.Refusal.{refusal_number}
use Rattle.medium.specs.Operation.{Answer, done, refused}
use Rattle.geometry_record.specs.GeometryRecord.{recorded}
use Rattle.files.specs.declared.whole.ReadError.{ReadError}
use Rattle.files.specs.declared.pair.LoadError.{LoadError}
use Rattle.files.specs.declared.pair.LoadError.TheVariants.{Refused, Failed}

-- ---- bytes that fit

abbrev pub FileFits : Result ℕ ReadError → ℕ → Type 0
FileFits (Ok n) room = n ≤ room
FileFits (Err e) room = Unit {0}

-- ---- the record: what its bytes say, and then the medium's rules

abbrev pub sound_by : Answer Geometry → Answer Geometry
sound_by (done g) = pick (eqb (fit_of g) 0) (done g) (refused (fit_of g))
sound_by (refused n) = refused n

unfoldable pub sound_of : List ℕ → Answer Geometry
sound_of raw = sound_by (recorded raw)

-- some bytes say this geometry
pub record Said (g : Geometry) : Type 0 where
  pub raw : List ℕ
  pub sound : sound_of raw ≡ done g

abbrev pub RecordFits : Result Geometry LoadError → Type 0
RecordFits (Ok g) = Said g
RecordFits (Err (Refused k)) = refusal_number k ≡ 6
RecordFits (Err Failed) = Unit {0}

-- ---- the image

abbrev pub SixOrSeven : ℕ → Type 0
SixOrSeven k = (k ≡ 6) ⊎ (k ≡ 7)

-- for a geometry that was handed in
abbrev pub ImageFits : Geometry → Result ℕ LoadError → ℕ → Type 0
ImageFits g (Ok n) room = (n ≤ room) × (check_of g n ≡ 0)
ImageFits g (Err (Refused k)) room = SixOrSeven (refusal_number k)
ImageFits g (Err Failed) room = Unit {0}

abbrev pub LoadedFits : Result (Geometry × ℕ) LoadError → ℕ → Type 0
LoadedFits (Ok x) room = (x.1 ≤ room) × (check_of x.0 x.1 ≡ 0) × Said x.0
LoadedFits (Err (Refused k)) room = SixOrSeven (refusal_number k)
LoadedFits (Err Failed) room = Unit {0}
