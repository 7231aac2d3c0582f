-- Headers, payloads and listings see only what stands from their place on in their block: images that agree there show the same.
use mathlib.Core.Path.{◌≡◌, refl, sym, ap, ◌∙◌}
use mathlib.Core.Bool.{Bool, true, false, ◌&&◌, false≢true}
use mathlib.Core.List.{List}
use Prim.Native.Nat.{ℕ, zero, suc, ◌+◌, ◌-◌, ◌*◌, ◌≤◌, ◌<◌, min}
use native.Mathlib.Nat.{le_refl}
use native.Mathlib.Omega.{arith}
use lib.ListN.{length, get_or}
use lib.Dec.{leb, ltb, eqb}
use borrow.Author.Tests.{eqb-true, leb-true}
use Rattle.medium.specs.declared.geometry.Geometry.{Geometry}
use Rattle.medium.specs.All.{All}
use Rattle.medium.specs.Granularity.{pick, size_at, header}
use Rattle.medium.specs.Geometry.{check_of, address}
use Rattle.medium.specs.Operation.{happen, Answer, done, refused, and_then, or_refuse}
use Rattle.medium.specs.Medium.{part, readable, read_at}
use Rattle.medium.specs.Beside.{Event, Both, beside}
use Rattle.medium.proofs.Frame.{part_same}
use Rattle.medium.proofs.Checks.{admitted, picked, read_at_lem, fine_of_check}
use Rattle.medium.proofs.Beside.{Misses-event, bytes_stay, length_stays}
use Rattle.objects.specs.declared.state.CompositeObjectState.{CompositeObjectState}
use Rattle.objects.specs.declared.state.CompositeObjectState.TheVariants as comp
use Rattle.objects.specs.declared.location.ObjectLocation.{ObjectLocation}
use Rattle.objects.specs.declared.header.ObjectHeader.{ObjectHeader}
use Rattle.objects.specs.declared.iterator.ObjectIterator.{ObjectIterator}
use Rattle.objects.specs.Numbers.{number}
use Rattle.objects.specs.Types.{state_in}
use Rattle.objects.specs.Header.{state_at, sized_at, header_at, payload_of}
use Rattle.objects.specs.Info.{Info, found, info_in, info_at}
use Rattle.objects.specs.Listing.{start_of, next_in, at_end, next_of, Listing, visited, list_by, list_from, listing, Met, object, free_place, block_end}
use Rattle.objects.specs.Reader.{Chunk, remaining_of, left_of, moved, read_some}
use Rattle.objects.proofs.Reading.{left_small}
use Rattle.objects.proofs.Listing.{next_found, next_moves}

-- the other image agrees with this one on the bytes of a block from one offset to another
pub record Agree (g : Geometry) (b from to : ℕ) (img other : List ℕ) : Type 0 where
  pub long : length other ≡ length img
  pub same : (o : ℕ) → from ≤ o → o < to → get_or other (address g b o) 0 ≡ get_or img (address g b o) 0

pub agree_self : (g : Geometry) (b from to : ℕ) (img : List ℕ) → Agree g b from to img img
agree_self g b from to img = record { long = refl; same = λ _ _ _. refl }

-- the same from the addresses of those bytes
pub agree_of_lem : (g : Geometry) (b from to : ℕ) (img other : List ℕ) → length other ≡ length img
    → ((j : ℕ) → address g b from ≤ j → j < address g b to → get_or other j 0 ≡ get_or img j 0) → Agree g b from to img other
agree_of_lem g b from to img other e f = record { long = e; same = λ o h k. f (address g b o) (omega arith) (omega arith) }

pub agree_less : (g : Geometry) (b from to low high : ℕ) (img other : List ℕ) → Agree g b from to img other → from ≤ low → high ≤ to → Agree g b low high img other
agree_less g b from to low high img other v h k = record { long = v.long; same = λ o x y. v.same o (omega arith) (omega arith) }

-- events that miss those bytes leave the agreement
pub agree_on : (g : Geometry) (b from to : ℕ) (img : List ℕ) (es : List Event) (s : Both) → Agree g b from to img s.image
    → ((o : ℕ) → from ≤ o → o < to → All (Misses-event (address g b o)) es) → Agree g b from to img (happen beside es s).image
agree_on g b from to img es s v h =
    record {
      long = length_stays es s ∙ v.long;
      same = λ o x y. bytes_stay (address g b o) 0 es s (h o x y) ∙ v.same o x y;
    }

-- ---- what a passed check tells

pub zero_of : (n : ℕ) (u : Unit {0}) → or_refuse n ≡ done u → n ≡ 0
zero_of zero u e = refl
zero_of (suc n) u e = let z : ◌≡◌ {A = ℕ} 0 1 = cc in absurd (omega arith)

-- the size field is short
pub short_size : (g : Geometry) (room : ℕ) → check_of g room ≡ 0 → g.s ≤ 3
short_size g room e = (fine_of_check g room (check_of g room) refl e).sound.s_most

-- ---- reading

and_true : (a b : Bool) → (a && b) ≡ true → (a ≡ true) × (b ≡ true)
and_true true true e = (refl, refl)
and_true true false e = absurd (false≢true e)
and_true false b e = absurd (false≢true e)

read_inside : (g : Geometry) (room b o n : ℕ) → readable g room b o n ≡ 0 → o + n ≤ g.size
unfolding readable
read_inside g room b o n e =
    let q = admitted g room (pick (ltb b g.count && leb (o + n) g.size) 0 3) e in
    let p = picked (ltb b g.count && leb (o + n) g.size) 0 2 q.1 in
    leb-true _ _ (and_true (ltb b g.count) (leb (o + n) g.size) p.0).1

pub read_agree : (g : Geometry) (b from to o n : ℕ) (img other : List ℕ) → Agree g b from to img other → from ≤ o → (o + n ≤ g.size → o + n ≤ to)
    → read_at g b o n other ≡ read_at g b o n img
unfolding read_at
read_agree g b from to o n img other v h m = rw v.long (go (eqb (readable g (length img) b o n) 0) refl)
  where
    go : (t : Bool) → eqb (readable g (length img) b o n) 0 ≡ t
        → pick t (done (part (address g b o) n other)) (refused (readable g (length img) b o n)) ≡ pick t (done (part (address g b o) n img)) (refused (readable g (length img) b o n))
    go true e =
        let z = eqb-true _ _ e in
        let i = m (read_inside g (length img) b o n z) in
        let l = read_at_lem g (length img) b o n (readable g (length img) b o n) refl z in
        ap (λ (x : List ℕ). done x)
        (part_same (address g b o) n img other v.long l
        (λ j lo hi. let q : j ≡ address g b (j - b * g.size) = omega arith in rw q (v.same (j - b * g.size) (omega arith) (omega arith))))
    go false e = refl

module _ (g : Geometry) (at : ObjectLocation) (to : ℕ) (img other : List ℕ) (v : Agree g at.block at.offset to img other)
    (state_in_lem : at.offset + size_at g.granularity ≤ g.size → at.offset + size_at g.granularity ≤ to)
    (size_in : at.offset + size_at g.granularity + g.s ≤ g.size → at.offset + size_at g.granularity + g.s ≤ to) where
  state_agree : state_at g at other ≡ state_at g at img
  unfolding state_at
  state_agree =
      ap (λ (x : Answer (List ℕ)). and_then x (λ bs. state_in g.granularity bs))
      (read_agree g at.block at.offset to at.offset (size_at g.granularity) img other v (le_refl at.offset) state_in_lem)

  sized_agree : (st : CompositeObjectState) → sized_at g at st other ≡ sized_at g at st img
  unfolding sized_at
  sized_agree st =
      ap (λ (x : Answer (List ℕ)). and_then x (λ bs. done (record { state = st; size = number bs; location = at })))
      (read_agree g at.block at.offset to (at.offset + size_at g.granularity) g.s img other v (omega arith) size_in)

  pub header_agree : header_at g at other ≡ header_at g at img
  unfolding header_at
  header_agree = rw state_agree (go (state_at g at img))
    where
      go : (x : Answer CompositeObjectState) → and_then x (λ st. sized_at g at st other) ≡ and_then x (λ st. sized_at g at st img)
      go (done st) = sized_agree st
      go (refused n) = refl

  pub info_agree : info_at g at other ≡ info_at g at img
  unfolding info_at
  info_agree = ap (λ (x : Answer ObjectHeader). and_then x (λ h. done (info_in h.state h))) header_agree

-- ---- payload

-- a read from the start of an object's payload, where all of the object that lies in its block lies in that part
pub some_agree : (g : Geometry) (h : ObjectHeader) (to : ℕ) (img other : List ℕ) → Agree g h.location.block h.location.offset to img other
    → ((x : ℕ) → x ≤ header g.granularity g.s + payload_of g.s h → h.location.offset + x ≤ g.size → h.location.offset + x ≤ to) → (n : ℕ)
    → read_some g (record { object = h; cursor = 0 }) n other ≡ read_some g (record { object = h; cursor = 0 }) n img
unfolding read_some left_of
some_agree g h to img other v reach n = rw v.long (go (or_refuse (check_of g (length img))) (remaining_of g.s (record { object = h; cursor = 0 })) refl)
  where
    read : (left : ℕ) → left ≤ payload_of g.s h
        → read_at g h.location.block (h.location.offset + header g.granularity g.s + 0) (min n left) other ≡ read_at g h.location.block (h.location.offset + header g.granularity g.s + 0) (min n left) img
    read left c =
        read_agree g h.location.block h.location.offset to (h.location.offset + header g.granularity g.s + 0) (min n left) img other v (omega arith)
        (λ f. omega (arith, reach (header g.granularity g.s + min n left) (omega arith) (omega arith)))

    go : (a : Answer (Unit {0})) (b : Answer ℕ) → remaining_of g.s (record { object = h; cursor = 0 }) ≡ b
        → and_then (and_then a (λ _. b)) (λ left. and_then {B = Chunk} (read_at g h.location.block (h.location.offset + header g.granularity g.s + 0) (min n left) other) (λ bs. done (record { bytes = bs; reader = moved (record { object = h; cursor = 0 }) (min n left) })))
        ≡ and_then (and_then a (λ _. b)) (λ left. and_then {B = Chunk} (read_at g h.location.block (h.location.offset + header g.granularity g.s + 0) (min n left) img) (λ bs. done (record { bytes = bs; reader = moved (record { object = h; cursor = 0 }) (min n left) })))
    go (done u) (done left) e =
        ap (λ (x : Answer (List ℕ)). and_then {B = Chunk} x (λ bs. done (record { bytes = bs; reader = moved (record { object = h; cursor = 0 }) (min n left) })))
        (read left (left_small g.s (record { object = h; cursor = 0 }) left e))
    go (done u) (refused k) e = refl
    go (refused k) b e = refl

-- ---- listing

pub next_by_lem : (g : Geometry) (i : ObjectIterator) (img other : List ℕ) → length other ≡ length img → info_at g i.location other ≡ info_at g i.location img → next_of g i other ≡ next_of g i img
unfolding next_of
next_by_lem g i img other l e = rw l (go (or_refuse (check_of g (length img))))
  where
    go : (x : Answer (Unit {0})) → at_end g i x other ≡ at_end g i x img
    go (done u) = ap (λ (y : Answer Info). pick (leb g.size (i.location.offset + header g.granularity g.s)) (done block_end) (next_in g i y)) e
    go (refused n) = refl

pub next_agree : (g : Geometry) (i : ObjectIterator) (img other : List ℕ) → Agree g i.location.block i.location.offset g.size img other → next_of g i other ≡ next_of g i img
next_agree g i img other v = next_by_lem g i img other v.long (info_agree g i.location g.size img other v (λ h. h) (λ h. h))

pub list_agree : (n : ℕ) (g : Geometry) (i : ObjectIterator) (img other : List ℕ) → Agree g i.location.block i.location.offset g.size img other
    → list_from n g i other ≡ list_from n g i img
unfolding list_from
list_agree zero g i img other v = refl
list_agree (suc n) g i img other v = rw (next_agree g i img other v) (go (next_of g i img) refl (λ j w. list_agree n g j img other w))
  where
    go : (x : Answer Met) → next_of g i img ≡ x
        → ((j : ObjectIterator) → Agree g j.location.block j.location.offset g.size img other → list_from n g j other ≡ list_from n g j img)
        → list_by x i (λ j. list_from n g j other) ≡ list_by x i (λ j. list_from n g j img)
    go (done (object h j)) e more =
        let m = next_moves g i img h j e in
        ap (λ (l : Listing). visited i h l)
        (more j (rw m.block (agree_less g i.location.block i.location.offset g.size j.location.offset g.size img other v (omega (arith, m.forward)) (le_refl g.size))))
    go (done free_place) e more = refl
    go (done block_end) e more = refl
    go (refused k) e more = refl

-- of a whole block
pub listing_agree : (g : Geometry) (b : ℕ) (img other : List ℕ) → Agree g b 0 g.size img other → listing g b other ≡ listing g b img
unfolding listing
listing_agree g b img other v = list_agree g.size g (start_of g b) img other (agree_less g b 0 g.size _ g.size img other v (omega arith) (le_refl g.size))

-- where an object is shown the check was passed
pub found_short : (g : Geometry) (i : ObjectIterator) (img : List ℕ) (h : ObjectHeader) (j : ObjectIterator) → next_of g i img ≡ done (object h j) → g.s ≤ 3
found_short g i img h j e = short_size g (length img) (zero_of (check_of g (length img)) tt (next_found g i img h j e).checked)

-- an object that was found is at the place where it was looked for
pub found_at : (g : Geometry) (at : ObjectLocation) (img : List ℕ) (h : ObjectHeader) → info_at g at img ≡ done (found h) → h.location ≡ at
unfolding info_at header_at sized_at
found_at g at img h e = go (state_at g at img) e
  where
    kind : (st : CompositeObjectState) (n : ℕ) → ◌≡◌ {A = Answer Info} (done (info_in st (record { state = st; size = n; location = at }))) (done (found h)) → h.location ≡ at
    kind comp.Free n p = let z : ◌≡◌ {A = ℕ} 0 1 = cc in absurd (omega arith)
    kind (comp.Allocated t d) n p =
        let q : record { state = comp.Allocated t d; size = n; location = at } ≡ h = cc in
        ap (λ (z : ObjectHeader). z.location) (sym q)

    size : (st : CompositeObjectState) (x : Answer (List ℕ)) → and_then (and_then x (λ bs. done (record { state = st; size = number bs; location = at }))) (λ v. done (info_in v.state v)) ≡ done (found h) → h.location ≡ at
    size st (done bs) p = kind st (number bs) p
    size st (refused n) p = let z : ◌≡◌ {A = ℕ} 0 1 = cc in absurd (omega arith)

    go : (x : Answer CompositeObjectState) → and_then (and_then x (λ st. and_then (read_at g at.block (at.offset + size_at g.granularity) g.s img) (λ bs. done (record { state = st; size = number bs; location = at })))) (λ v. done (info_in v.state v)) ≡ done (found h) → h.location ≡ at
    go (done st) p = size st (read_at g at.block (at.offset + size_at g.granularity) g.s img) p
    go (refused n) p = let z : ◌≡◌ {A = ℕ} 0 1 = cc in absurd (omega arith)
