-- Notes in lent words, so that what was met once need not be searched for: a 1 for each place that is in a list.
use Rattle.std.specs.Prelude.{ℕ, ◌<◌, Bool, false, not, List, [], ◌∷◌, ◌++◌, get_or, set, replicate, leb, eqb}
use Rattle.medium.specs.declared.geometry.Geometry.{Geometry}
use Rattle.medium.specs.Granularity.{pick}
use Rattle.medium.specs.Geometry.{address}
use Rattle.objects.specs.declared.location.ObjectLocation.{ObjectLocation}
use Rattle.objects.specs.declared.header.ObjectHeader.{ObjectHeader}
use Rattle.sweep.specs.Referring.{metadata_in, locations_of}

-- the word of a place is that of its byte in the image; an offset outside the block has none
unfoldable pub note : Geometry → ObjectLocation → List ℕ → List ℕ
note g l ws = pick (leb g.size l.offset) ws (set ws (address g l.block l.offset) 1)

unfoldable pub is_noted : Geometry → ObjectLocation → List ℕ → Bool
is_noted g l ws = pick (leb g.size l.offset) false (not (eqb (get_or ws (address g l.block l.offset) 0) 0))

-- a place in its block, in an image of n bytes
pub record Inside (g : Geometry) (n : ℕ) (l : ObjectLocation) : Type 0 where
  pub low : l.offset < g.size
  pub near : address g l.block l.offset < n

abbrev pub note_all : Geometry → List ObjectLocation → List ℕ → List ℕ
note_all g [] ws = ws
note_all g (l ∷ ls) ws = note_all g ls (note g l ws)

-- in n words
abbrev pub noted : Geometry → List ObjectLocation → ℕ → List ℕ
noted g ls n = note_all g ls (replicate n 0)

-- ---- what is noted: where objects stand, and what metadata refers to

abbrev pub places_in : List ObjectHeader → List ObjectLocation
places_in [] = []
places_in (h ∷ hs) = h.location ∷ places_in hs

abbrev pub referred_by : Geometry → List ℕ → List ObjectHeader → List ObjectLocation
referred_by g img [] = []
referred_by g img (h ∷ hs) = locations_of g h img ++ referred_by g img hs

abbrev pub referred_in : Geometry → List ℕ → List ObjectLocation
referred_in g img = referred_by g img (metadata_in g img)
