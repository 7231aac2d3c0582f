-- What a caller can rely on: what a lookup finds, what the list of names has to do with it, and that a file read in pieces is the file.
use Rattle.std.specs.Prelude.{◌≡◌, true, false, ◌&&◌, List, [], ◌∷◌, ◌++◌, ℕ, zero, suc, ◌+◌, ◌-◌, ◌≤◌, ◌<◌, min, length, eqb}
use Rattle.medium.specs.declared.geometry.Geometry.{Geometry}
use Rattle.medium.specs.declared.fuse.Fuse.{Fuse}
use Rattle.medium.specs.Granularity.{pick}
use Rattle.medium.specs.Geometry.{check_of}
use Rattle.medium.specs.Operation.{Answer, done, refused, and_then, or_refuse, flash, ask, run}
use Rattle.objects.specs.declared.location.ObjectLocation.{ObjectLocation}
use Rattle.objects.specs.declared.header.ObjectHeader.{ObjectHeader}
use Rattle.objects.specs.declared.metadata.MetadataObjectHeader.{MetadataObjectHeader}
use Rattle.objects.specs.Payload.{equal}
use Rattle.objects.specs.Metadata.{read_metadata, metadata_at}
use Rattle.blocks.specs.declared.header.BlockType.TheVariants.{Metadata}
use Rattle.storage.specs.declared.names.Names.{Names}
use Rattle.storage.specs.Order.{tour}
use Rattle.storage.specs.Lookup.{is_named, lookup}
use Rattle.storage.specs.File.{read_file, file_size}
use Rattle.storage.specs.Names.{name_of, Named, name, nameless, names_from, next_name}

-- ---- a lookup finds the first that matches

abbrev pub All : {A : Type 0} → (A → Type 0) → List A → Type 0
All P [] = Unit {0}
All P (x ∷ xs) = P x × All P xs

-- this object has the hash and the name; those before it in block and offset order were looked at, and have not
pub record FirstAt (g : Geometry) (path : List ℕ) (hash : ℕ) (img : List ℕ) (at : ObjectLocation) : Type 0 where
  pub fine : check_of g (length img) ≡ 0
  pub before : List ObjectHeader
  pub object : ObjectHeader
  pub after : List ObjectHeader
  pub order : (tour g Metadata img).objects ≡ before ++ object ∷ after
  pub others : All (λ h. is_named g path hash h img ≡ done false) before
  pub named : is_named g path hash object img ≡ done true
  pub place : object.location ≡ at

unfoldable pub FindsFirst : Type 0
FindsFirst =
    (g : Geometry) (path : List ℕ) (hash : ℕ) (img : List ℕ) (at : ObjectLocation)
    → (lookup g path hash img ≡ done at → FirstAt g path hash img at) × (FirstAt g path hash img at → lookup g path hash img ≡ done at)

-- 13 where nothing on the way is refused, and none matches
unfoldable pub FindsNone : Type 0
FindsNone =
    (g : Geometry) (path : List ℕ) (hash : ℕ) (img : List ℕ) → check_of g (length img) ≡ 0 → All (λ h. is_named g path hash h img ≡ done false) (tour g Metadata img).objects
    → (tour g Metadata img).end ≡ done tt → lookup g path hash img ≡ refused 13

-- what a lookup found opens, with the hash that was looked for
pub record Opens (g : Geometry) (hash : ℕ) (img : List ℕ) (at : ObjectLocation) : Type 0 where
  pub metadata : MetadataObjectHeader
  pub opens : metadata_at g at img ≡ done metadata
  pub hash_is : metadata.hash ≡ hash

unfoldable pub FoundOpens : Type 0
FoundOpens = (g : Geometry) (path : List ℕ) (hash : ℕ) (img : List ℕ) (at : ObjectLocation) → lookup g path hash img ≡ done at → Opens g hash img at

-- it stores nothing, and needs no power: under every fuse
unfoldable pub Quiet : Type 0
Quiet =
    (g : Geometry) (path : List ℕ) (hash : ℕ) (img : List ℕ) (f : Fuse)
    → run f (ask {W = flash} (lookup g path hash)) img ≡ record { answer = lookup g path hash img; fuse = f; state = img }

-- ---- the list of names

-- what there is of a file before it is read: hash, name, and the place of its metadata object
pub record Entry : Type 0 where
  pub hash : ℕ
  pub name : List ℕ
  pub at : ObjectLocation

-- of one object, whose name may have n bytes
unfoldable pub entry_of : Geometry → ObjectHeader → ℕ → List ℕ → Answer Entry
entry_of g h n img = and_then (read_metadata g h img) (λ m. and_then (name_of g h n img) (λ bs. done (record { hash = m.hash; name = bs; at = h.location })))

-- of all, in the order
abbrev pub entries_in : Geometry → List ObjectHeader → Answer (Unit {0}) → ℕ → List ℕ → Answer (List Entry)
entries_in g [] e n img = and_then e (λ _. done [])
entries_in g (h ∷ hs) e n img = and_then (entry_of g h n img) (λ x. and_then (entries_in g hs e n img) (λ xs. done (x ∷ xs)))

unfoldable pub entries : Geometry → ℕ → List ℕ → Answer (List Entry)
entries g n img = and_then (or_refuse (check_of g (length img))) (λ _. entries_in g (tour g Metadata img).objects (tour g Metadata img).end n img)

-- what calls of `next` list, one after the other: at most k names, each into n bytes
pub record Line : Type 0 where
  pub name : List ℕ
  pub at : ObjectLocation

abbrev pub line_by : Named → (Names → Answer (List Line)) → Answer (List Line)
line_by (name bs at i) more = and_then (more i) (λ xs. done (record { name = bs; at = at } ∷ xs))
line_by nameless more = done []

unfoldable pub list_names : ℕ → Geometry → Names → ℕ → List ℕ → Answer (List Line)
list_names zero g i n img = done []
list_names (suc k) g i n img = and_then (next_name g i n img) (λ x. line_by x (λ j. list_names k g j n img))

abbrev pub lines_of : List Entry → List Line
lines_of [] = []
lines_of (x ∷ xs) = record { name = x.name; at = x.at } ∷ lines_of xs

-- they are the names and places of the entries; one call more than there are objects comes to the end
unfoldable pub AllNames : Type 0
AllNames =
    (g : Geometry) (n k : ℕ) (img : List ℕ) → length (tour g Metadata img).objects < k
    → list_names k g (names_from g) n img ≡ and_then (entries g n img) (λ xs. done (lines_of xs))

-- and a lookup is the first entry of this hash and name: what is listed is what can be found
abbrev pub first_entry : List ℕ → ℕ → List Entry → Answer ObjectLocation
first_entry path hash [] = refused 13
first_entry path hash (x ∷ xs) = pick (eqb x.hash hash && equal x.name path) (done x.at) (first_entry path hash xs)

unfoldable pub ByTheList : Type 0
ByTheList = (g : Geometry) (n : ℕ) (path : List ℕ) (hash : ℕ) (img : List ℕ) (xs : List Entry) → entries g n img ≡ done xs → lookup g path hash img ≡ first_entry path hash xs

-- ---- reading

-- n bytes and then m from where they end are n + m bytes, refusals too
unfoldable pub InPieces : Type 0
InPieces =
    (g : Geometry) (at : ObjectLocation) (p n m : ℕ) (img : List ℕ)
    → read_file g at p (n + m) img ≡ and_then (read_file g at p n img) (λ a. and_then (read_file g at (p + length a) m img) (λ b. done (a ++ b)))

-- at or past the end there is nothing; before it, as much as there is room for
unfoldable pub PastTheEnd : Type 0
PastTheEnd = (g : Geometry) (at : ObjectLocation) (p n size : ℕ) (img : List ℕ) → file_size g at img ≡ done size → size ≤ p → read_file g at p n img ≡ done []

unfoldable pub AsLong : Type 0
AsLong =
    (g : Geometry) (at : ObjectLocation) (p n size : ℕ) (img bs : List ℕ) → file_size g at img ≡ done size → read_file g at p n img ≡ done bs → length bs ≡ min n (size - p)
