-- Some, all and those of a list, by a test.
use Rattle.std.specs.Prelude.{Bool, true, false, ◌&&◌, ◌||◌, List, [], ◌∷◌}
use Rattle.medium.specs.Granularity.{pick}

abbrev pub some : {A : Type 0} → (A → Bool) → List A → Bool
some p [] = false
some p (x ∷ xs) = p x || some p xs

abbrev pub every : {A : Type 0} → (A → Bool) → List A → Bool
every p [] = true
every p (x ∷ xs) = p x && every p xs

-- those for which the test fails
abbrev pub except : {A : Type 0} → (A → Bool) → List A → List A
except p [] = []
except p (x ∷ xs) = pick (p x) (except p xs) (x ∷ except p xs)
