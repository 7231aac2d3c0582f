-- What metadata refers to is read off its own block: an object that is deleted in another block changes none of it.
use mathlib.Core.Path.{◌≡◌, refl, sym, ap, ap₂, ◌∙◌}
use mathlib.Core.Bool.{Bool, true, false}
use mathlib.Core.List.{List, ◌∷◌}
use Prim.Native.Nat.{ℕ, zero, suc, ◌+◌}
use native.Mathlib.Omega.{arith}
use lib.ListN.{length}
use lib.Dec.{leb}
use Rattle.medium.specs.declared.geometry.Geometry.{Geometry}
use Rattle.medium.specs.Granularity.{pick}
use Rattle.medium.specs.Operation.{Answer, done, refused, and_then}
use Rattle.medium.specs.Medium.{read_at}
use Rattle.objects.specs.declared.location.ObjectLocation.{ObjectLocation}
use Rattle.objects.specs.declared.header.ObjectHeader.{ObjectHeader}
use Rattle.objects.specs.declared.metadata.MetadataObjectHeader.{MetadataObjectHeader}
use Rattle.objects.specs.Numbers.{number}
use Rattle.objects.specs.Location.{location_length, location_in}
use Rattle.objects.specs.Metadata.{hash_at, number_at, location_at, read_metadata, Listed, location, no_more, past_location, listed_at, next_listed, listable, next_location}
use Rattle.storage.specs.File.{Places, places_by, places_from, after_place}
use Rattle.shown.proofs.Agreeing.{Agree, read_agree}
use Rattle.sweep.specs.Referring.{locations_by, locations_of}

-- the object of a metadata header is the one that was read, and stays it
object_of : (g : Geometry) (h : ObjectHeader) (img : List ℕ) (m : MetadataObjectHeader) → read_metadata g h img ≡ done m → m.object ≡ h
unfolding read_metadata
object_of g h img m e = go (number_at g h.location.block (hash_at g h) 4 img) (location_at g h.location.block (hash_at g h + 4) img) e
  where
    go : (x : Answer ℕ) (y : Answer ObjectLocation) → and_then x (λ hash. and_then y (λ name. done (record { object = h; hash = hash; name = name; cursor = 0 }))) ≡ done m → m.object ≡ h
    go (done n) (done l) q = let z : record { object = h; hash = n; name = l; cursor = 0 } ≡ m = cc in ap (λ (k : MetadataObjectHeader). k.object) (sym z)
    go (done n) (refused k) q = let z : ◌≡◌ {A = ℕ} 0 1 = cc in absurd (omega arith)
    go (refused k) y q = let z : ◌≡◌ {A = ℕ} 0 1 = cc in absurd (omega arith)

same_object : (g : Geometry) (m : MetadataObjectHeader) (img : List ℕ) (l : ObjectLocation) (k : MetadataObjectHeader) → next_location g m img ≡ done (location l k) → k.object ≡ m.object
unfolding next_location
same_object g m img l k e = listed (listable g m (length img)) e
  where
    at : (y : Answer ObjectLocation) → and_then y (λ x. done (location x (past_location g m))) ≡ done (location l k) → k.object ≡ m.object
    at (done x) q = let z : past_location g m ≡ k = cc in ap (λ (j : MetadataObjectHeader). j.object) (sym z)
    at (refused n) q = let z : ◌≡◌ {A = ℕ} 0 1 = cc in absurd (omega arith)

    ended : (t : Bool) → pick t (done no_more) (next_listed g m img) ≡ done (location l k) → k.object ≡ m.object
    ended true q = let z : ◌≡◌ {A = ℕ} 0 1 = cc in absurd (omega arith)
    ended false q = at (location_at g m.object.location.block (listed_at g m) img) q

    listed : (x : Answer ℕ) → and_then x (λ n. pick (leb n m.cursor) (done no_more) (next_listed g m img)) ≡ done (location l k) → k.object ≡ m.object
    listed (done n) q = ended (leb n m.cursor) q
    listed (refused n) q = let z : ◌≡◌ {A = ℕ} 0 1 = cc in absurd (omega arith)

module _ (g : Geometry) (b : ℕ) (img other : List ℕ) (v : Agree g b 0 g.size img other) where
  read_same : (o n : ℕ) → read_at g b o n other ≡ read_at g b o n img
  read_same o n = read_agree g b 0 g.size o n img other v (omega arith) (λ h. h)

  location_same : (o : ℕ) → location_at g b o other ≡ location_at g b o img
  unfolding location_at
  location_same o = ap (λ (x : Answer (List ℕ)). and_then x (λ bs. done (location_in g bs))) (read_same o (location_length g))

  -- the block by its number
  in_block : {A : Type 0} (f : ℕ → List ℕ → A) (c : ℕ) → c ≡ b → f b other ≡ f b img → f c other ≡ f c img
  in_block f c e q = ap (λ (x : ℕ). f x other) e ∙ q ∙ ap (λ (x : ℕ). f x img) (sym e)

  metadata_same : (h : ObjectHeader) → h.location.block ≡ b → read_metadata g h other ≡ read_metadata g h img
  unfolding read_metadata number_at
  metadata_same h e =
      ap₂ (λ (x : Answer (List ℕ)) (y : Answer ObjectLocation). and_then (and_then x (λ bs. done (number bs))) (λ hash. and_then y (λ name. done (record { object = h; hash = hash; name = name; cursor = 0 }))))
      (in_block (λ c i. read_at g c (hash_at g h) 4 i) h.location.block e (read_same (hash_at g h) 4)) (in_block (λ c i. location_at g c (hash_at g h + 4) i) h.location.block e (location_same (hash_at g h + 4)))

  next_same : (m : MetadataObjectHeader) → m.object.location.block ≡ b → next_location g m other ≡ next_location g m img
  unfolding next_location
  next_same m e =
      let q : location_at g m.object.location.block (listed_at g m) other ≡ location_at g m.object.location.block (listed_at g m) img =
      in_block (λ c i. location_at g c (listed_at g m) i) m.object.location.block e (location_same (listed_at g m)) in
      ap₂ (λ (n : ℕ) (l : Answer ObjectLocation). and_then (listable g m n) (λ x. pick (leb x m.cursor) (done no_more) (and_then l (λ y. done (location y (past_location g m))))))
      v.long q

  places_same : (n : ℕ) (m : MetadataObjectHeader) → m.object.location.block ≡ b → places_from n g m other ≡ places_from n g m img
  unfolding places_from
  places_same zero m e = refl
  places_same (suc n) m e = ap (λ (x : Answer Listed). places_by x (λ k. places_from n g k other)) (next_same m e) ∙ go (next_location g m img) refl (λ k q. places_same n k q)
    where
      go : (x : Answer Listed) → next_location g m img ≡ x → ((k : MetadataObjectHeader) → k.object.location.block ≡ b → places_from n g k other ≡ places_from n g k img)
          → places_by x (λ k. places_from n g k other) ≡ places_by x (λ k. places_from n g k img)
      go (done (location l k)) q more = ap (after_place l) (more k (ap (λ (y : ObjectHeader). y.location.block) (same_object g m img l k q) ∙ e))
      go (done no_more) q more = refl
      go (refused j) q more = refl

  pub locations_same : (h : ObjectHeader) → h.location.block ≡ b → locations_of g h other ≡ locations_of g h img
  unfolding locations_of
  locations_same h e = ap (λ (x : Answer MetadataObjectHeader). locations_by g x other) (metadata_same h e) ∙ go (read_metadata g h img) refl
    where
      go : (x : Answer MetadataObjectHeader) → read_metadata g h img ≡ x → locations_by g x other ≡ locations_by g x img
      go (done m) q = ap (λ (p : Places). m.name ∷ p.at) (places_same g.size m (ap (λ (y : ObjectHeader). y.location.block) (object_of g h img m q) ∙ e))
      go (refused n) q = refl
