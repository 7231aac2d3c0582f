-- What crosses of names: a place to list from, as two numbers, and what a name hands out.
use Rattle.std.specs.Prelude.{List, ℕ, length}
use Rattle.crossing.specs.Crossing.{Two, two, over_first}
use Rattle.crossing.specs.Values.{iterator_of, iterator_numbers, location_numbers}
use Rattle.storage.specs.declared.names.Names.{Names}
use Rattle.storage.specs.Names.{Named, name, nameless}

abbrev pub names_of : List ℕ → Names
names_of ns = record { place = iterator_of ns }

abbrev pub names_numbers : Names → List ℕ
names_numbers i = iterator_numbers i.place

-- the names behind it, its bytes over the first of the buffer, 1, the place of its metadata object, and how many bytes; or 0 at the end
abbrev pub name_out : Named → Two (List ℕ) (Two (List ℕ) (Two ℕ (Two (List ℕ) ℕ))) → Two (List ℕ) (Two (List ℕ) (Two ℕ (Two (List ℕ) ℕ)))
name_out (name bs at i) old = two (names_numbers i) (two (over_first bs old.second.first) (two 1 (two (location_numbers at) (length bs))))
name_out nameless old = two old.first (two old.second.first (two 0 old.second.second.second))
