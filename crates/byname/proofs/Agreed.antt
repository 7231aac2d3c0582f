-- What a name and a metadata object read as is decided by the bytes of their blocks: images that agree there say the same.
use mathlib.Core.Path.{◌≡◌, refl, sym, ap, ap₂, ◌∙◌}
use mathlib.Core.Bool.{Bool, true, false}
use mathlib.Core.List.{List, [], ◌∷◌, ◌++◌}
use Prim.Native.Nat.{ℕ, zero, suc, ◌+◌, ◌-◌, ◌≤◌, min}
use native.Mathlib.Nat.{le_refl}
use native.Mathlib.Omega.{arith}
use lib.ListN.{length, take, drop}
use lib.Dec.{eqb, leb}
use borrow.Author.Tests.{eqb-true}
use Rattle.medium.specs.declared.geometry.Geometry.{Geometry}
use Rattle.medium.specs.Granularity.{pick}
use Rattle.medium.specs.Operation.{Answer, done, refused, and_then}
use Rattle.medium.specs.Medium.{read_at}
use Rattle.objects.specs.declared.location.ObjectLocation.{ObjectLocation}
use Rattle.objects.specs.declared.header.ObjectHeader.{ObjectHeader}
use Rattle.objects.specs.declared.reader.ObjectReader.{ObjectReader}
use Rattle.objects.specs.declared.metadata.MetadataObjectHeader.{MetadataObjectHeader}
use Rattle.objects.specs.Numbers.{number}
use Rattle.objects.specs.Types.{rank_of}
use Rattle.objects.specs.Header.{header_at, payload_of}
use Rattle.objects.specs.Location.{location_length, location_in}
use Rattle.objects.specs.Payload.{payload_at, equal}
use Rattle.objects.specs.Reader.{reader_at}
use Rattle.objects.specs.Reader as reader
use Rattle.objects.specs.Metadata.{metadata_header, hash_at, number_at, location_at, read_metadata}
use Rattle.storage.specs.Lookup.{same_from, same_name, is_name, is_named}
use Rattle.storage.specs.File.{some_of, unless_full, gather}
use Rattle.storage.specs.Laws.{All}
use Rattle.shown.specs.Whole.{reader_of}
use Rattle.shown.proofs.Reading.{and_back, header_back}
use Rattle.shown.proofs.Agreeing.{Agree, agree_less, read_agree, header_agree}

-- a reader stands where it was opened
reader_at_lem : (g : Geometry) (at : ObjectLocation) (unfinished : Bool) (img : List ℕ) (r : ObjectReader) → reader_at g at unfinished img ≡ done r → r.object.location ≡ at
unfolding reader_at
reader_at_lem g at unfinished img r e =
    let x = and_back (header_at g at img) (λ h. pick (reader.readable unfinished (rank_of h.state)) (done (reader_of h 0)) (refused 2)) r e in
    go (reader.readable unfinished (rank_of x.value.state)) x.value x.second (header_back g at img x.value x.first).located
  where
    go : (b : Bool) (h : ObjectHeader) → pick b (done (reader_of h 0)) (refused 2) ≡ done r → h.location ≡ at → r.object.location ≡ at
    go true h q l = let z : reader_of h 0 ≡ r = cc in ap (λ (y : ObjectReader). y.object.location) (sym z) ∙ l
    go false h q l = let z : ◌≡◌ {A = ℕ} 0 1 = cc in absurd (omega arith)

-- ---- a block that is the same throughout

module _ (g : Geometry) (b : ℕ) (img other : List ℕ) (v : Agree g b 0 g.size img other) where
  read_same : (o n : ℕ) → read_at g b o n other ≡ read_at g b o n img
  read_same o n = read_agree g b 0 g.size o n img other v (omega arith) (λ h. h)

  pub opened_same : (at : ObjectLocation) (unfinished : Bool) → at.block ≡ b → reader_at g at unfinished other ≡ reader_at g at unfinished img
  unfolding reader_at
  opened_same at unfinished e =
      ap (λ (x : Answer ObjectHeader). and_then x (λ h. pick (reader.readable unfinished (rank_of h.state)) (done (record { object = h; cursor = 0 })) (refused 2)))
      (header_agree g at g.size img other (rw e (agree_less g b 0 g.size at.offset g.size img other v (omega arith) (le_refl g.size))) (λ h. h) (λ h. h))

  turns_same : (n a : ℕ) (path : List ℕ) → same_from n g b a path other ≡ same_from n g b a path img
  unfolding same_from
  turns_same zero a path = refl
  turns_same (suc n) a [] = refl
  turns_same (suc n) a (p ∷ ps) =
      ap₂ (λ (x : Answer (List ℕ)) (y : Answer Bool). and_then x (λ bs. pick (equal bs (take 16 (p ∷ ps))) y (done false))) (read_same a (min 16 (length (p ∷ ps)))) (turns_same n (a + 16) (drop 16 (p ∷ ps)))

  pub name_same : (path : List ℕ) (at : ObjectLocation) → at.block ≡ b → is_name g path at other ≡ is_name g path at img
  unfolding is_name
  name_same path at e =
      ap (λ (x : Answer ObjectReader). and_then x (λ r. pick (eqb (payload_of g.s r.object) (length path)) (same_name g r.object path other) (done false))) (opened_same at false e)
      ∙ go (reader_at g at false img) refl
    where
      go : (x : Answer ObjectReader) → reader_at g at false img ≡ x
          → and_then x (λ r. pick (eqb (payload_of g.s r.object) (length path)) (same_name g r.object path other) (done false))
          ≡ and_then x (λ r. pick (eqb (payload_of g.s r.object) (length path)) (same_name g r.object path img) (done false))
      go (done r) q =
          let l : r.object.location.block ≡ b = ap (λ (x : ObjectLocation). x.block) (reader_at_lem g at false img r q) ∙ e in
          ap (λ (y : Answer Bool). pick (eqb (payload_of g.s r.object) (length path)) y (done false))
          (ap (λ (c : ℕ). same_from (length path) g c (payload_at g r.object) path other) l ∙ turns_same (length path) (payload_at g r.object) path ∙ ap (λ (c : ℕ). same_from (length path) g c (payload_at g r.object) path img) (sym l))
      go (refused n) q = refl

  pub some_same : (at : ObjectLocation) (r : ObjectReader) (p n : ℕ) → at.block ≡ b → reader_at g at false img ≡ done r → some_of g r.object p n other ≡ some_of g r.object p n img
  some_same at r p n e q =
      let l : r.object.location.block ≡ b = ap (λ (x : ObjectLocation). x.block) (reader_at_lem g at false img r q) ∙ e in
      ap (λ (c : ℕ). read_at g c (payload_at g r.object + p) (min n (payload_of g.s r.object - p)) other) l
      ∙ read_same (payload_at g r.object + p) (min n (payload_of g.s r.object - p))
      ∙ ap (λ (c : ℕ). read_at g c (payload_at g r.object + p) (min n (payload_of g.s r.object - p)) img) (sym l)

-- ---- a metadata object whose hash and name location lie in a part that is the same

pub metadata_same : (g : Geometry) (o : ObjectHeader) (e : ℕ) (img other : List ℕ) → Agree g o.location.block o.location.offset e img other
    → ((x : ℕ) → x ≤ metadata_header g → payload_at g o + x ≤ g.size → payload_at g o + x ≤ e) → read_metadata g o other ≡ read_metadata g o img
unfolding read_metadata number_at location_at
metadata_same g o e img other v reach =
    let z : hash_at g o + 4 + location_length g ≡ payload_at g o + metadata_header g = omega arith in
    ap₂ (λ (x y : Answer (List ℕ)). and_then (and_then x (λ bs. done (number bs))) (λ hash. and_then (and_then y (λ bs. done (location_in g bs))) (λ name. done (record { object = o; hash = hash; name = name; cursor = 0 }))))
    (read_agree g o.location.block o.location.offset e (hash_at g o) 4 img other v (omega arith) (λ k. reach 4 (omega arith) k))
    (read_agree g o.location.block o.location.offset e (hash_at g o + 4) (location_length g) img other v (omega arith) (λ k. omega (arith, reach (metadata_header g) (omega arith) (omega arith))))

-- whether it is named so, where its name's block is the same too
pub named_same : (g : Geometry) (path : List ℕ) (hash : ℕ) (o : ObjectHeader) (img other : List ℕ) → read_metadata g o other ≡ read_metadata g o img
    → ((m : MetadataObjectHeader) → read_metadata g o img ≡ done m → m.hash ≡ hash → Agree g m.name.block 0 g.size img other)
    → is_named g path hash o other ≡ is_named g path hash o img
unfolding is_named
named_same g path hash o img other e f =
    ap (λ (x : Answer MetadataObjectHeader). and_then x (λ m. pick (eqb m.hash hash) (is_name g path m.name other) (done false))) e ∙ go (read_metadata g o img) refl
  where
    by : (m : MetadataObjectHeader) → read_metadata g o img ≡ done m → (t : Bool) → eqb m.hash hash ≡ t
        → pick t (is_name g path m.name other) (done false) ≡ pick t (is_name g path m.name img) (done false)
    by m q true r = name_same g m.name.block img other (f m q (eqb-true _ _ r)) path m.name refl
    by m q false r = refl

    go : (x : Answer MetadataObjectHeader) → read_metadata g o img ≡ x
        → and_then x (λ m. pick (eqb m.hash hash) (is_name g path m.name other) (done false)) ≡ and_then x (λ m. pick (eqb m.hash hash) (is_name g path m.name img) (done false))
    go (done m) q = by m q (eqb m.hash hash) refl
    go (refused n) q = refl

-- ---- the data objects of a file, in blocks that are the same

pub gather_same : (g : Geometry) (img other : List ℕ) (ls : List ObjectLocation) (e : Answer (Unit {0})) → All (λ l. Agree g l.block 0 g.size img other) ls → (p n : ℕ)
    → gather g ls e p n other ≡ gather g ls e p n img
unfolding gather
gather_same g img other [] e a p n = refl
gather_same g img other (l ∷ ls) e a p n =
    ap (unless_full n)
    (ap (λ (x : Answer ObjectReader). and_then x (λ r. pick (leb (payload_of g.s r.object) p) (gather g ls e (p - payload_of g.s r.object) n other) (and_then (some_of g r.object p n other) (λ bs. and_then (gather g ls e 0 (n - length bs) other) (λ more. done (bs ++ more)))))) (opened_same g l.block img other a.0 l false refl)
    ∙ go (reader_at g l false img) refl (λ q k. gather_same g img other ls e a.1 q k))
  where
    Rest : Type 0
    Rest = (q k : ℕ) → gather g ls e q k other ≡ gather g ls e q k img

    tail : (x : Answer (List ℕ)) → Rest → and_then x (λ bs. and_then (gather g ls e 0 (n - length bs) other) (λ more. done (bs ++ more))) ≡ and_then x (λ bs. and_then (gather g ls e 0 (n - length bs) img) (λ more. done (bs ++ more)))
    tail (done bs) rest = ap (λ (y : Answer (List ℕ)). and_then y (λ more. done (bs ++ more))) (rest 0 (n - length bs))
    tail (refused k) rest = refl

    go : (x : Answer ObjectReader) → reader_at g l false img ≡ x → Rest
        → and_then x (λ r. pick (leb (payload_of g.s r.object) p) (gather g ls e (p - payload_of g.s r.object) n other) (and_then (some_of g r.object p n other) (λ bs. and_then (gather g ls e 0 (n - length bs) other) (λ more. done (bs ++ more)))))
        ≡ and_then x (λ r. pick (leb (payload_of g.s r.object) p) (gather g ls e (p - payload_of g.s r.object) n img) (and_then (some_of g r.object p n img) (λ bs. and_then (gather g ls e 0 (n - length bs) img) (λ more. done (bs ++ more)))))
    go (done r) q rest =
        ap₂ (λ (x y : Answer (List ℕ)). pick (leb (payload_of g.s r.object) p) x y) (rest (p - payload_of g.s r.object) n)
        (ap (λ (x : Answer (List ℕ)). and_then x (λ bs. and_then (gather g ls e 0 (n - length bs) other) (λ more. done (bs ++ more)))) (some_same g l.block img other a.0 l r p n refl q)
        ∙ tail (some_of g r.object p n img) rest)
    go (refused k) q rest = refl
