-- "Of Finalized metadata objects with identical payload bytes and type, the first in lookup order stays and the others are deleted. Then every
-- listed Finalized data or name object that no Finalized metadata object refers to is deleted."
use Rattle.std.specs.Prelude.{ℕ, Bool, ◌&&◌, List, [], ◌∷◌, ◌++◌, eqb}
use Rattle.medium.specs.declared.geometry.Geometry.{Geometry}
use Rattle.medium.specs.Granularity.{pick}
use Rattle.objects.specs.declared.location.ObjectLocation.{ObjectLocation}
use Rattle.objects.specs.declared.header.ObjectHeader.{ObjectHeader}
use Rattle.objects.specs.Types.{type_number}
use Rattle.objects.specs.Payload.{same_payload}
use Rattle.sweep.specs.Lists.{some, except}
use Rattle.sweep.specs.Referring.{metadata_in, data_in, same_at, is_among, locations_of}

-- ---- twins

-- equal type and payload bytes
unfoldable pub is_twin : Geometry → List ℕ → ObjectHeader → ObjectHeader → Bool
is_twin g img a b = eqb (type_number a.state) (type_number b.state) && same_payload g a b img

-- those that have their like before them
abbrev pub twins_in : (ObjectHeader → ObjectHeader → Bool) → List ObjectHeader → List ObjectHeader → List ObjectHeader
twins_in like before [] = []
twins_in like before (h ∷ hs) = pick (some (like h) before) (h ∷ twins_in like (before ++ h ∷ []) hs) (twins_in like (before ++ h ∷ []) hs)

unfoldable pub twins : Geometry → List ℕ → List ObjectHeader
twins g img = twins_in (is_twin g img) [] (metadata_in g img)

-- what stands before the object at a place: how the code finds whether one has its like before it
abbrev pub before : ObjectLocation → List ObjectHeader → List ObjectHeader
before l [] = []
before l (h ∷ hs) = pick (same_at l h.location) [] (h ∷ before l hs)

-- ---- objects that nothing refers to

unfoldable pub is_referred : Geometry → List ℕ → ObjectLocation → Bool
is_referred g img l = some (λ h. is_among l (locations_of g h img)) (metadata_in g img)

unfoldable pub unreferred : Geometry → List ℕ → List ObjectHeader
unreferred g img = except (λ d. is_referred g img d.location) (data_in g img)
