-- What a user can rely on: no street is lost by a sweep, at no cut of it; no twin is left; nothing but delete marks changes; and a sweep that was cut
-- is finished by the next one. For every geometry and every image of bytes, with no further premise.
use Rattle.std.specs.Prelude.{◌≡◌, ◌⊎◌, Bool, true, false, List, [], ◌∷◌, ◌++◌, ℕ, ◌+◌, ◌<◌, length, get_or}
use Rattle.medium.specs.declared.geometry.Geometry.{Geometry}
use Rattle.medium.specs.declared.fuse.Fuse.{Fuse}
use Rattle.medium.specs.declared.fuse.Fuse.TheVariants.{Absent, Units}
use Rattle.medium.specs.Granularity.{delete_at}
use Rattle.medium.specs.Geometry.{address}
use Rattle.medium.specs.Operation.{done, refused, EndIn, run}
use Rattle.medium.specs.Beside.{Both, both}
use Rattle.objects.specs.declared.types.ObjectType.{ObjectType}
use Rattle.objects.specs.declared.state.ObjectDataState.TheVariants.{Valid, Deleted}
use Rattle.objects.specs.declared.state.CompositeObjectState.TheVariants.{Allocated}
use Rattle.objects.specs.declared.location.ObjectLocation.{ObjectLocation}
use Rattle.objects.specs.declared.header.ObjectHeader.{ObjectHeader}
use Rattle.objects.specs.Listing.{Visit, Listing, listing}
use Rattle.storage.specs.Lookup.{lookup}
use Rattle.storage.specs.File.{read_file, file_size}
use Rattle.storage.specs.Names.{names_from}
use Rattle.storage.specs.Laws.{All, Line, list_names}
use Rattle.sweep.specs.Referring.{metadata_in, data_in, sweepable}
use Rattle.sweep.specs.Twins.{is_twin, twins, is_referred, unreferred}
use Rattle.sweep.specs.Notes.{places_in}
use Rattle.sweep.specs.Sweep.{sweep}

-- an image is bytes
abbrev pub Bytes : List ℕ → Type 0
Bytes img = (j : ℕ) → get_or img j 0 < 256

-- a sweep with this fuse: with no fuse, or cut after any number of units
abbrev pub sweep_by : Fuse → Geometry → List ℕ → EndIn Both (Unit {0})
sweep_by f g img = run f (sweep g) (both img (0 ∷ 0 ∷ []))

-- the image that it leaves
abbrev pub left_by : Fuse → Geometry → List ℕ → List ℕ
left_by f g img = (sweep_by f g img).state.image

-- ---- no street is lost

-- every lookup, of any path and hash, gives the same answer and place; and what it found reads the same, and is as long
pub record SameStreets (g : Geometry) (img other : List ℕ) : Type 0 where
  pub found : (path : List ℕ) (hash : ℕ) → lookup g path hash other ≡ lookup g path hash img
  pub reads : (path : List ℕ) (hash : ℕ) (at : ObjectLocation) → lookup g path hash img ≡ done at → (p n : ℕ) → read_file g at p n other ≡ read_file g at p n img
  pub sizes : (path : List ℕ) (hash : ℕ) (at : ObjectLocation) → lookup g path hash img ≡ done at → file_size g at other ≡ file_size g at img

-- with power throughout and at every cut
unfoldable pub NoStreetLost : Type 0
NoStreetLost = (f : Fuse) (g : Geometry) (img : List ℕ) → Bytes img → SameStreets g img (left_by f g img)

-- ---- no twin is left

-- none is like one before it
abbrev pub NoTwo : (ObjectHeader → ObjectHeader → Bool) → List ObjectHeader → Type 0
NoTwo like [] = Unit {0}
NoTwo like (h ∷ hs) = All (λ e. like e h ≡ false) hs × NoTwo like hs

pub record Clean (g : Geometry) (img : List ℕ) : Type 0 where
  pub alone : NoTwo (is_twin g img) (metadata_in g img)
  pub referred : All (λ d. is_referred g img d.location ≡ true) (data_in g img)

unfoldable pub NoTwinLeft : Type 0
NoTwinLeft = (g : Geometry) (img : List ℕ) → Bytes img → sweepable g img ≡ done tt → Clean g (left_by Absent g img)

-- so each name that is listed comes from one of these objects, in their order, and no two from identical metadata
abbrev pub line_places : List Line → List ObjectLocation
line_places [] = []
line_places (x ∷ xs) = x.at ∷ line_places xs

pub record Apart (g : Geometry) (img : List ℕ) (names : List Line) : Type 0 where
  pub places : line_places names ≡ places_in (metadata_in g img)
  pub alone : NoTwo (is_twin g img) (metadata_in g img)

-- of names of up to n bytes, by more calls than there are objects
unfoldable pub NamesApart : Type 0
NamesApart =
    (g : Geometry) (img : List ℕ) (n k : ℕ) (names : List Line) → Bytes img → sweepable g img ≡ done tt → length (metadata_in g (left_by Absent g img)) < k
    → list_names k g (names_from g) n (left_by Absent g img) ≡ done names → Apart g (left_by Absent g img) names

-- ---- only delete marks change

-- the objects that are deleted, in order
abbrev pub plan : Geometry → List ℕ → List ObjectHeader
plan g img = twins g img ++ unreferred g img

abbrev pub mark_place : Geometry → ObjectHeader → ℕ
mark_place g h = address g h.location.block (h.location.offset + delete_at g.granularity)

abbrev pub AnyOf : {A : Type 0} → (A → Type 0) → List A → Type 0
AnyOf P [] = ⊥
AnyOf P (x ∷ xs) = P x ⊎ AnyOf P xs

-- a byte is as it was, or is the delete mark of an object of the list
abbrev pub Only : Geometry → List ObjectHeader → List ℕ → List ℕ → Type 0
Only g hs img other = (j : ℕ) → (get_or other j 0 ≡ get_or img j 0) ⊎ (AnyOf (λ h. j ≡ mark_place g h) hs × (get_or other j 0 ≡ 0))

-- a visit is as it was, or its object was Finalized and is Deleted
pub record NowDeleted (h e : ObjectHeader) : Type 0 where
  pub type : ObjectType
  pub was : h.state ≡ Allocated type Valid
  pub is : e ≡ record { state = Allocated type Deleted; size = h.size; location = h.location }

abbrev pub SameVisits : List Visit → List Visit → Type 0
SameVisits [] [] = Unit {0}
SameVisits [] (w ∷ ws) = ⊥
SameVisits (v ∷ vs) [] = ⊥
SameVisits (v ∷ vs) (w ∷ ws) = (w.offset ≡ v.offset) × ((w.object ≡ v.object) ⊎ NowDeleted v.object w.object) × SameVisits vs ws

pub record SameListing (a b : Listing) : Type 0 where
  pub visits : SameVisits a.visits b.visits
  pub last : b.last ≡ a.last
  pub stop : b.stop ≡ a.stop

pub record OnlyMarked (g : Geometry) (hs : List ObjectHeader) (img other : List ℕ) : Type 0 where
  pub long : length other ≡ length img
  pub only : Only g hs img other
  pub listings : (b : ℕ) → SameListing (listing g b img) (listing g b other)

unfoldable pub OnlyMarksChange : Type 0
OnlyMarksChange = (f : Fuse) (g : Geometry) (img : List ℕ) → Bytes img → OnlyMarked g (plan g img) img (left_by f g img)

-- ---- a sweep that was cut is finished by the next

unfoldable pub Resumes : Type 0
Resumes = (k : ℕ) (g : Geometry) (img : List ℕ) → Bytes img → left_by Absent g (left_by (Units k) g img) ≡ left_by Absent g img

-- and one that was not cut leaves nothing to do: a further one is answered the same and stores nothing, under any fuse
unfoldable pub NothingLeft : Type 0
NothingLeft =
    (f : Fuse) (g : Geometry) (img : List ℕ) → Bytes img → sweepable g img ≡ done tt
    → sweep_by f g (left_by Absent g img) ≡ record { answer = done tt; fuse = f; state = both (left_by Absent g img) (0 ∷ 0 ∷ []) }

-- ---- a refused sweep stores nothing

unfoldable pub RefusedStoresNothing : Type 0
RefusedStoresNothing = (f : Fuse) (g : Geometry) (img : List ℕ) (n : ℕ) → sweepable g img ≡ refused n → sweep_by f g img ≡ record { answer = refused n; fuse = f; state = both img (0 ∷ 0 ∷ []) }
