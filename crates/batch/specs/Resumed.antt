-- Without the strict mark: after a cut, what is left of a batch, from the number done on and with power, ends as the uncut batch does, byte for byte.
use Rattle.std.specs.Prelude.{◌≡◌, List, ℕ, ◌-◌, ◌*◌, length, drop}
use Rattle.medium.specs.declared.geometry.Geometry.{Geometry}
use Rattle.medium.specs.declared.fuse.Fuse.TheVariants.{Absent, Units}
use Rattle.medium.specs.Operation.{done}
use Rattle.batch.specs.Batch.{per_record, records_in}
use Rattle.batch.specs.Laws.{end_of, batch, number_done, Takes}
use Rattle.batch.specs.Cut.{Rising, Ready}

abbrev pub rest_of : List ℕ → ℕ → List ℕ
rest_of records n = drop (per_record * n) records

unfoldable pub BatchResumes : Type 0
BatchResumes =
    (g : Geometry) (b e : ℕ) (records payload img : List ℕ) → Takes g records img → Ready g b e payload img → Rising g payload e (records_in records) → (g.strict ≡ 1 → ⊥) → (k : ℕ)
    → let cut = batch (Units k) g b records payload img in
    batch Absent g b (rest_of records (number_done cut)) payload cut.state.image
    ≡ end_of (done tt) Absent (batch Absent g b records payload img).state.image (length (records_in records) - number_done cut)
