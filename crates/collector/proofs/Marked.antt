-- A listing after the first pass: an unfinished object that has its size keeps type and size, so the listing goes on behind it as before,
-- or breaks off at its marks. What is finished behind such objects alone is still shown, or the listing is broken.
use mathlib.Core.Path.{◌≡◌, refl, sym, ap, ◌∙◌, subst}
use mathlib.Core.Logic.{inl, inr}
use mathlib.Core.Bool.{Bool, true, false}
use mathlib.Core.List.{List}
use Prim.Native.Nat.{ℕ, zero, suc, ◌+◌, ◌≤◌, ◌<◌}
use native.Mathlib.Nat.{le_refl}
use native.Mathlib.Omega.{arith}
use lib.ListN.{length, get_or}
use lib.Dec.{eqb}
use borrow.Author.Tests.{lt-leb}
use Rattle.medium.specs.declared.geometry.Geometry.{Geometry}
use Rattle.medium.specs.Granularity.{pick, size_at, delete_at, header, finish_at}
use Rattle.medium.specs.Geometry.{check_of, address}
use Rattle.medium.specs.Operation.{Answer, done, refused, and_then, or_refuse}
use Rattle.medium.specs.Medium.{part, readable, read_at}
use Rattle.medium.proofs.Bytes.{get_d_part}
use Rattle.medium.proofs.Places.{laid}
use Rattle.objects.specs.declared.types.ObjectType.{ObjectType}
use Rattle.objects.specs.declared.state.ObjectDataState.{ObjectDataState}
use Rattle.objects.specs.declared.state.CompositeObjectState.{CompositeObjectState}
use Rattle.objects.specs.declared.state.CompositeObjectState.TheVariants as comp
use Rattle.objects.specs.declared.location.ObjectLocation.{ObjectLocation}
use Rattle.objects.specs.declared.header.ObjectHeader.{ObjectHeader}
use Rattle.objects.specs.declared.iterator.ObjectIterator.{ObjectIterator}
use Rattle.objects.specs.Numbers.{number}
use Rattle.objects.specs.Types.{type_of, marks_of, with_mark, composite_of, state_in, TypeSaid, typed, untyped}
use Rattle.objects.specs.Header.{state_at, sized_at, header_at, payload_of}
use Rattle.objects.specs.Info.{Info, found, info_in, info_at, total_of}
use Rattle.objects.specs.Listing.{start_of, behind, Met, object, free_place, block_end, next_in, next_of, Visit, list_by, list_from, listing}
use Rattle.objects.proofs.Listing.{next_found, next_moves}
use Rattle.objects.proofs.Places.{places}
use Rattle.collector.specs.Finished.{Reached, Guarded}
use Rattle.shown.proofs.Agreeing.{Agree, found_short, read_agree, info_agree, next_by_lem}
use Rattle.collector.proofs.Untouched.{header_avoids, Outside, ahead}

-- ---- a header of which the type and the size stay

-- what can be read in one image can be read in another of the same length
pub record Both-read (g : Geometry) (b o n : ℕ) (img other bs : List ℕ) : Type 0 where
  pub this : bs ≡ part (address g b o) n img
  pub that : read_at g b o n other ≡ done (part (address g b o) n other)

pub both_read : (g : Geometry) (b o n : ℕ) (img other bs : List ℕ) → length other ≡ length img → read_at g b o n img ≡ done bs → Both-read g b o n img other bs
unfolding read_at
both_read g b o n img other bs l q = go (eqb (readable g (length img) b o n) 0) refl q
  where
    go : (t : Bool) → eqb (readable g (length img) b o n) 0 ≡ t → pick t (done (part (address g b o) n img)) (refused (readable g (length img) b o n)) ≡ done bs
        → Both-read g b o n img other bs
    go true z p = record { this = cc; that = rw (l, z) }
    go false z p = let x : ◌≡◌ {A = ℕ} 0 1 = cc in absurd (omega arith)

-- a byte of the part that is the same in both
pub same_byte : (g : Geometry) (b o n i : ℕ) (img other : List ℕ) → i < n → get_or other (address g b (o + i)) 0 ≡ get_or img (address g b (o + i)) 0
    → get_or (part (address g b o) n other) i 0 ≡ get_or (part (address g b o) n img) i 0
same_byte g b o n i img other h e =
    let p : address g b o + i ≡ address g b (o + i) = omega arith in
    get_d_part (address g b o) n other i 0 h ∙ rw p e ∙ sym (get_d_part (address g b o) n img i 0 h)

-- an object of this size, or marks that nothing can read
pub data Marked (g : Geometry) (at : ObjectLocation) (n : ℕ) (other : List ℕ) : Type 0 where
  readable_as : (h : ObjectHeader) → h.size ≡ n → info_at g at other ≡ done (found h) → Marked g at n other
  unreadable : (k : ℕ) → info_at g at other ≡ refused k → Marked g at n other

-- the state that another image has for a type: with any mark, or with marks that nothing can read
data Remarked (g : Geometry) (at : ObjectLocation) (t : ObjectType) (other : List ℕ) : Type 0 where
  legible : (d : ObjectDataState) → state_at g at other ≡ done (comp.Allocated t d) → Remarked g at t other
  illegible : (k : ℕ) → state_at g at other ≡ refused k → Remarked g at t other

-- an object that was found: its state and its size were read
pub record Parts (g : Geometry) (at : ObjectLocation) (img : List ℕ) (h : ObjectHeader) : Type 0 where
  pub type : ObjectType
  pub mark : ObjectDataState
  pub state : state_at g at img ≡ done (comp.Allocated type mark)
  pub sized : sized_at g at (comp.Allocated type mark) img ≡ done h

pub state_sized : (g : Geometry) (at : ObjectLocation) (img : List ℕ) (st : CompositeObjectState) (v : ObjectHeader) → sized_at g at st img ≡ done v → v.state ≡ st
unfolding sized_at
state_sized g at img st v e = go (read_at g at.block (at.offset + size_at g.granularity) g.s img) e
  where
    go : (x : Answer (List ℕ)) → and_then x (λ bs. done (record { state = st; size = number bs; location = at })) ≡ done v → v.state ≡ st
    go (done bs) p = let r : record { state = st; size = number bs; location = at } ≡ v = cc in ap (λ (z : ObjectHeader). z.state) (sym r)
    go (refused n) p = let z : ◌≡◌ {A = ℕ} 0 1 = cc in absurd (omega arith)

pub parts : (g : Geometry) (at : ObjectLocation) (img : List ℕ) (h : ObjectHeader) → info_at g at img ≡ done (found h) → Parts g at img h
unfolding info_at header_at
parts g at img h e = go (state_at g at img) refl e
  where
    allocated : (st : CompositeObjectState) (v : ObjectHeader) → state_at g at img ≡ done st → sized_at g at st img ≡ done v → done (info_in st v) ≡ done (found h) → Parts g at img h
    allocated comp.Free v q r p = let z : ◌≡◌ {A = ℕ} 0 1 = cc in absurd (omega arith)
    allocated (comp.Allocated t d) v q r p =
        let s : v ≡ h = cc in
        record { type = t; mark = d; state = q; sized = r ∙ ap (λ (z : ObjectHeader). done z) s }

    sized : (st : CompositeObjectState) (x : Answer ObjectHeader) → state_at g at img ≡ done st → sized_at g at st img ≡ x
        → and_then x (λ v. done (info_in v.state v)) ≡ done (found h) → Parts g at img h
    sized st (done v) q r p = allocated st v q r (subst (λ (x : CompositeObjectState). done (info_in x v) ≡ done (found h)) (state_sized g at img st v r) p)
    sized st (refused n) q r p = let z : ◌≡◌ {A = ℕ} 0 1 = cc in absurd (omega arith)

    go : (x : Answer CompositeObjectState) → state_at g at img ≡ x → and_then (and_then x (λ st. sized_at g at st img)) (λ v. done (info_in v.state v)) ≡ done (found h) → Parts g at img h
    go (done st) q p = sized st (sized_at g at st img) q refl p
    go (refused n) q p = let z : ◌≡◌ {A = ℕ} 0 1 = cc in absurd (omega arith)

module _ (g : Geometry) (at : ObjectLocation) (img other : List ℕ) (l : length other ≡ length img)
    (type-same : get_or other (address g at.block at.offset) 0 ≡ get_or img (address g at.block at.offset) 0)
    (size_same : read_at g at.block (at.offset + size_at g.granularity) g.s other ≡ read_at g at.block (at.offset + size_at g.granularity) g.s img) where
  remarked : (t : ObjectType) (d : ObjectDataState) → state_at g at img ≡ done (comp.Allocated t d) → Remarked g at t other
  unfolding state_at state_in
  remarked t d e = go (read_at g at.block at.offset (size_at g.granularity) img) refl e
    where
      type_is : (x : Answer TypeSaid) (m : Answer ObjectDataState) → composite_of x m ≡ done (comp.Allocated t d) → x ≡ done (typed t)
      type_is (done (typed u)) (done c) p = cc
      type_is (done (typed u)) (refused k) p = let z : ◌≡◌ {A = ℕ} 0 1 = cc in absurd (omega arith)
      type_is (done untyped) m p = let z : ◌≡◌ {A = ℕ} 0 1 = cc in absurd (omega arith)
      type_is (refused k) m p = let z : ◌≡◌ {A = ℕ} 0 1 = cc in absurd (omega arith)

      whole_with_mark : (m : Answer ObjectDataState) → state_at g at other ≡ with_mark t m → Remarked g at t other
      whole_with_mark (done c) q = legible c q
      whole_with_mark (refused k) q = illegible k q

      go : (x : Answer (List ℕ)) → read_at g at.block at.offset (size_at g.granularity) img ≡ x
          → and_then x (λ bs. composite_of (type_of (get_or bs 0 0)) (marks_of g.granularity (get_or bs (finish_at g.granularity) 0) (get_or bs (delete_at g.granularity) 0))) ≡ done (comp.Allocated t d)
          → Remarked g at t other
      go (refused n) q p = let z : ◌≡◌ {A = ℕ} 0 1 = cc in absurd (omega arith)
      go (done bs) q p =
          let v = both_read g at.block at.offset (size_at g.granularity) img other bs l q in
          let z : at.offset + 0 ≡ at.offset = omega arith in
          let s : get_or (part (address g at.block at.offset) (size_at g.granularity) other) 0 0 ≡ get_or bs 0 0 =
          same_byte g at.block at.offset (size_at g.granularity) 0 img other (omega (arith, (places g.granularity).least)) (rw z type-same) ∙ ap (λ (x : List ℕ). get_or x 0 0) (sym v.this) in
          let y = type_is (type_of (get_or bs 0 0)) _ p in
          whole_with_mark (marks_of g.granularity (get_or (part (address g at.block at.offset) (size_at g.granularity) other) (finish_at g.granularity) 0) (get_or (part (address g at.block at.offset) (size_at g.granularity) other) (delete_at g.granularity) 0))
          (rw (v.that, s, y))

  resized : (st new : CompositeObjectState) (h : ObjectHeader) → sized_at g at st img ≡ done h → sized_at g at new other ≡ done (record { state = new; size = h.size; location = at })
  unfolding sized_at
  resized st new h e = rw size_same (go (read_at g at.block (at.offset + size_at g.granularity) g.s img) e)
    where
      go : (x : Answer (List ℕ)) → and_then x (λ bs. done (record { state = st; size = number bs; location = at })) ≡ done h
          → and_then {B = ObjectHeader} x (λ bs. done (record { state = new; size = number bs; location = at })) ≡ done (record { state = new; size = h.size; location = at })
      go (done bs) p =
          let r : record { state = st; size = number bs; location = at } ≡ h = cc in
          ap (λ (z : ObjectHeader). done (record { state = new; size = z.size; location = at })) r
      go (refused n) p = let z : ◌≡◌ {A = ℕ} 0 1 = cc in absurd (omega arith)

  -- so it is an object of the same size, or nothing can be read
  pub marked : (h : ObjectHeader) → info_at g at img ≡ done (found h) → Marked g at h.size other
  unfolding info_at header_at
  marked h e = let p = parts g at img h e in go p.type (remarked p.type p.mark p.state) (λ c. resized (comp.Allocated p.type p.mark) (comp.Allocated p.type c) h p.sized)
    where
      go : (t : ObjectType) → Remarked g at t other
          → ((c : ObjectDataState) → sized_at g at (comp.Allocated t c) other ≡ done (record { state = comp.Allocated t c; size = h.size; location = at })) → Marked g at h.size other
      go t (legible c q) s = readable_as (record { state = comp.Allocated t c; size = h.size; location = at }) refl (rw (q, s c))
      go t (illegible k q) s = unreadable k (rw q)

-- ---- the listing

-- the other image has each byte of the block from the place on that avoids the unfinished objects
pub record Spared (n : ℕ) (g : Geometry) (i : ObjectIterator) (img other : List ℕ) : Type 0 where
  pub long : length other ≡ length img
  pub same : (o : ℕ) → i.location.offset ≤ o → o < g.size → Outside g o (list_from n g i img).visits
      → get_or other (address g i.location.block o) 0 ≡ get_or img (address g i.location.block o) 0

behind_same : (g : Geometry) (i : ObjectIterator) (v h : ObjectHeader) → v.size ≡ h.size → behind g i v ≡ behind g i h
unfolding total_of payload_of
behind_same g i v h e = rw e

pub next_is : (g : Geometry) (i : ObjectIterator) (img other : List ℕ) (x : Answer Info) → length other ≡ length img → or_refuse (check_of g (length img)) ≡ done tt
    → i.location.offset + header g.granularity g.s < g.size → info_at g i.location other ≡ x → next_of g i other ≡ next_in g i x
unfolding next_of
next_is g i img other x l c f e = rw (l, c, lt-leb _ _ f, e)

-- what was reached is shown, or the listing breaks off
still : (n : ℕ) (g : Geometry) (i : ObjectIterator) (img other : List ℕ) → Spared n g i img other → Reached g (list_from n g i img).visits
    → Guarded (list_from n g i other)
unfolding list_from
still zero g i img other v r = absurd r
still (suc n) g i img other v r = go (next_of g i img) refl v.same r (λ j w q. still n g j img other w q)
  where
    b : ℕ
    b = i.location.block

    from : ℕ
    from = i.location.offset

    Same : List Visit → Type 0
    Same vs = (o : ℕ) → from ≤ o → o < g.size → Outside g o vs → get_or other (address g b o) 0 ≡ get_or img (address g b o) 0

    onward : (h : ObjectHeader) (j : ObjectIterator) → next_of g i other ≡ done (object h j) → Guarded (list_from n g j other) → Guarded (list_by (next_of g i other) i (λ j. list_from n g j other))
    onward h j e (inl s) = rw e (inl (inr s))
    onward h j e (inr s) = rw e (inr s)

    go : (x : Answer Met) → next_of g i img ≡ x → Same (list_by x i (λ j. list_from n g j img)).visits → Reached g (list_by x i (λ j. list_from n g j img)).visits
        → ((j : ObjectIterator) → Spared n g j img other → Reached g (list_from n g j img).visits → Guarded (list_from n g j other))
        → Guarded (list_by (next_of g i other) i (λ j. list_from n g j other))
    go (done free_place) e s q more = absurd q
    go (done block_end) e s q more = absurd q
    go (refused k) e s q more = absurd q
    go (done (object h j)) e s (inl two) more =
        let f = next_found g i img h j e in
        let m = next_moves g i img h j e in
        let a = laid g.granularity g.s 0 (found_short g i img h j e) in
        let w : Agree g b from (from + header g.granularity g.s) img other =
        record { long = v.long; same = λ o lo hi. s o lo (omega (arith, f.fits)) ((λ one. absurd (omega (arith, two, one))), ahead n g o j img (omega (arith, m.forward))) } in
        let p = next_by_lem g i img other v.long (info_agree g i.location (from + header g.granularity g.s) img other w (λ _. omega (arith, a.size_plain)) (λ _. omega (arith, a.size_plain))) in
        rw (p, e) (inl (inl two))
    go (done (object h j)) e s (inr q) more =
        let f = next_found g i img h j e in
        let m = next_moves g i img h j e in
        let a = laid g.granularity g.s 0 (found_short g i img h j e) in
        let w : Agree g b (from + size_at g.granularity) (from + size_at g.granularity + g.s) img other =
        record { long = v.long; same = λ o lo hi. s o (omega arith) (omega (arith, f.fits, a.size_plain)) ((λ one. (inr (omega (arith, a.delete_size)), (λ z. absurd (q.0 one z)))), ahead n g o j img (omega (arith, m.forward, a.size_plain))) } in
        let y = s from (le_refl from) (omega (arith, f.fits)) ((λ one. (inl (omega (arith, a.pos, a.type_delete)), (λ z. absurd (q.0 one z)))), ahead n g from j img (omega (arith, m.forward, a.size_plain, a.delete_size, a.pos))) in
        let z = read_agree g b (from + size_at g.granularity) (from + size_at g.granularity + g.s) (from + size_at g.granularity) g.s img other w (le_refl (from + size_at g.granularity)) (λ _. le_refl (from + size_at g.granularity + g.s)) in
        let t : Spared n g j img other = record { long = v.long; same = λ o lo hi u. rw m.block (s o (omega (arith, m.forward)) hi ((λ _. header_avoids g (found_short g i img h j e) o (record { offset = from; object = h }) (inr (omega (arith, m.forward)))), u)) } in
        by h f.then f.checked f.fits (marked g i.location img other v.long y z h f.object) (more j t q.1)
      where
        by : (h : ObjectHeader) → j ≡ behind g i h → or_refuse (check_of g (length img)) ≡ done tt → from + header g.granularity g.s < g.size
            → Marked g i.location h.size other → Guarded (list_from n g j other) → Guarded (list_by (next_of g i other) i (λ j. list_from n g j other))
        by h p c f (readable_as u x y) k =
            let l : next_of g i other ≡ done (object u (behind g i u)) = next_is g i img other (done (found u)) v.long c f y in
            onward u j (l ∙ ap (λ (z : ObjectIterator). done (object u z)) (behind_same g i u h x ∙ sym p)) k
        by h p c f (unreadable d y) k = rw (next_is g i img other (refused d) v.long c f y) (inr tt)

-- in a block
pub still_guarded : (g : Geometry) (b : ℕ) (img other : List ℕ) → length other ≡ length img
    → ((o : ℕ) → o < g.size → Outside g o (listing g b img).visits → get_or other (address g b o) 0 ≡ get_or img (address g b o) 0)
    → Reached g (listing g b img).visits → Guarded (listing g b other)
unfolding listing
still_guarded g b img other l s r = still g.size g (start_of g b) img other (record { long = l; same = λ o _ h w. s o h w }) r
