-- On a chip with words an unfinished object that was deleted has the marks FF 00, which nothing can read: the listing of its block breaks
-- off there. So where the first pass is done it leaves a block as it was, or with a listing that breaks off.
use mathlib.Core.Path.{◌≡◌, refl, sym, ap, ◌∙◌, subst}
use mathlib.Core.Logic.{◌⊎◌, inl, inr}
use mathlib.Core.Bool.{Bool, true, false, false≢true}
use mathlib.Core.List.{List, []}
use Prim.Native.Nat.{ℕ, zero, suc, ◌+◌, ◌≤◌}
use native.Mathlib.Omega.{arith}
use lib.ListN.{length, get_or}
use lib.Dec.{eqb}
use borrow.Author.Tests.{eqb-true}
use Rattle.medium.specs.declared.granularity.Granularity.{Granularity}
use Rattle.medium.specs.declared.granularity.Granularity.TheVariants.{Bit, Word1, Word4}
use Rattle.medium.specs.declared.geometry.Geometry.{Geometry}
use Rattle.medium.specs.Granularity.{pick, width_of, size_at, finish_at, delete_at, header}
use Rattle.medium.specs.Geometry.{address}
use Rattle.medium.specs.Operation.{happen, Answer, done, refused, and_then, ◌>>=◌, ask, give, refuse}
use Rattle.medium.specs.Medium.{part, read_at}
use Rattle.medium.specs.Beside.{Event, Both, beside}
use Rattle.medium.proofs.Runs.{bound}
use Rattle.medium.proofs.Bytes.{get_d_part}
use Rattle.medium.proofs.Places.{laid}
use Rattle.medium.proofs.Beside.{Misses-event, bytes_stay, length_stays}
use Rattle.medium.proofs.Left.{answered, left, bind_left, bind_events, ask_events}
use Rattle.objects.specs.declared.types.ObjectType.{ObjectType}
use Rattle.objects.specs.declared.state.ObjectDataState.{ObjectDataState}
use Rattle.objects.specs.declared.state.ObjectDataState.TheVariants as data-state
use Rattle.objects.specs.declared.state.CompositeObjectState.TheVariants as comp
use Rattle.objects.specs.declared.location.ObjectLocation.{ObjectLocation}
use Rattle.objects.specs.declared.header.ObjectHeader.{ObjectHeader}
use Rattle.objects.specs.declared.iterator.ObjectIterator.{ObjectIterator}
use Rattle.objects.specs.Types.{rank_to, rank_of, type_of, pair_of, marks_of, composite_of, state_in, TypeSaid, typed, untyped}
use Rattle.objects.specs.Header.{state_at, header_at}
use Rattle.objects.specs.Info.{found, info_at}
use Rattle.objects.specs.Listing.{start_of, Met, object, free_place, block_end, next_of, list_by, list_from, listing}
use Rattle.objects.proofs.Listing.{next_found, Moves, next_moves}
use Rattle.objects.proofs.Places.{places}
use Rattle.blocks.specs.declared.header.BlockHeaderKind.{BlockHeaderKind}
use Rattle.blocks.specs.declared.header.BlockHeaderKind.TheVariants.{Empty, Unknown, Known}
use Rattle.blocks.specs.declared.record.BlockInfo.{BlockInfo}
use Rattle.collector.specs.Table.{Pass}
use Rattle.collector.specs.Passes.{visit_one, go_on, visiting, deleting, delete_by, delete_invalid_objects_in_block}
use Rattle.collector.specs.Finished.{Allocated, Broken, Guarded}
use Rattle.shown.proofs.Agreeing.{Agree, agree_self, agree_on, info_agree, next_by_lem, found_at}
use Rattle.collector.proofs.Touched.{visit_each}
use Rattle.collector.proofs.Untouched.{Avoids, avoids_visited, deleting_each, ahead}
use Rattle.collector.proofs.Marked.{both_read, same_byte, state_sized, parts, next_is}
use Rattle.collector.proofs.Deleted.{Visit-left, visit_left}

refuse_done : (k : ℕ) (s : Both) → (refuse {W = beside} {A = Unit {0}} k s).answer ≡ done tt → ⊥
unfolding ask
refuse_done k s e = let z : ◌≡◌ {A = ℕ} 0 1 = cc in omega arith

-- ---- the marks FF 00

pair_ff : (x y z w : Bool)
    → pick x (pick y (done data-state.Untrusted) (refused 2)) (pick z (pick y (done data-state.Valid) (pick w (done data-state.Deleted) (refused 2))) (refused 2)) ≡ done data-state.Untrusted
    → x ≡ true
pair_ff true y z w e = refl
pair_ff false true true w e = let o : ◌≡◌ {A = ℕ} 0 1 = cc in absurd (omega arith)
pair_ff false false true true e = let o : ◌≡◌ {A = ℕ} 0 1 = cc in absurd (omega arith)
pair_ff false false true false e = let o : ◌≡◌ {A = ℕ} 0 1 = cc in absurd (omega arith)
pair_ff false y false w e = let o : ◌≡◌ {A = ℕ} 0 1 = cc in absurd (omega arith)

-- an unfinished object has the finish mark FF
unfinished_ff : (k : Granularity) → (k ≡ Bit → ⊥) → (a b : ℕ) → marks_of k a b ≡ done data-state.Untrusted → a ≡ 255
unfolding marks_of pair_of
unfinished_ff Bit n a b e = absurd (n refl)
unfinished_ff Word1 n a b e = eqb-true a 255 (pair_ff (eqb a 255) (eqb b 255) (eqb a 0) (eqb b 0) e)
unfinished_ff Word4 n a b e = eqb-true a 255 (pair_ff (eqb a 255) (eqb b 255) (eqb a 0) (eqb b 0) e)

lost_marks : (k : Granularity) → (k ≡ Bit → ⊥) → marks_of k 255 0 ≡ refused 2
unfolding marks_of pair_of
lost_marks Bit n = absurd (n refl)
lost_marks Word1 n = refl
lost_marks Word4 n = refl

module _ (g : Geometry) (word : g.granularity ≡ Bit → ⊥) (at : ObjectLocation) (img other : List ℕ) (l : length other ≡ length img)
    (type-same : get_or other (address g at.block (at.offset + 0)) 0 ≡ get_or img (address g at.block (at.offset + 0)) 0)
    (finish-same : get_or other (address g at.block (at.offset + finish_at g.granularity)) 0 ≡ get_or img (address g at.block (at.offset + finish_at g.granularity)) 0)
    (deleted : get_or other (address g at.block (at.offset + delete_at g.granularity)) 0 ≡ 0) where
  state_lost : (t : ObjectType) → state_at g at img ≡ done (comp.Allocated t data-state.Untrusted) → state_at g at other ≡ refused 2
  unfolding state_at state_in
  state_lost t e = go (read_at g at.block at.offset (size_at g.granularity) img) refl e
    where
      both : (x : Answer TypeSaid) (m : Answer ObjectDataState) → composite_of x m ≡ done (comp.Allocated t data-state.Untrusted) → (x ≡ done (typed t)) × (m ≡ done data-state.Untrusted)
      both (done (typed u)) (done c) p = ((cc), (cc))
      both (done (typed u)) (refused k) p = let z : ◌≡◌ {A = ℕ} 0 1 = cc in absurd (omega arith)
      both (done untyped) m p = let z : ◌≡◌ {A = ℕ} 0 1 = cc in absurd (omega arith)
      both (refused k) m p = let z : ◌≡◌ {A = ℕ} 0 1 = cc in absurd (omega arith)

      read : List ℕ → List ℕ
      read i = part (address g at.block at.offset) (size_at g.granularity) i

      go : (x : Answer (List ℕ)) → read_at g at.block at.offset (size_at g.granularity) img ≡ x
          → and_then x (λ bs. composite_of (type_of (get_or bs 0 0)) (marks_of g.granularity (get_or bs (finish_at g.granularity) 0) (get_or bs (delete_at g.granularity) 0))) ≡ done (comp.Allocated t data-state.Untrusted)
          → and_then (read_at g at.block at.offset (size_at g.granularity) other) (λ bs. composite_of (type_of (get_or bs 0 0)) (marks_of g.granularity (get_or bs (finish_at g.granularity) 0) (get_or bs (delete_at g.granularity) 0))) ≡ refused 2
      go (refused n) q p = let z : ◌≡◌ {A = ℕ} 0 1 = cc in absurd (omega arith)
      go (done bs) q p =
          let v = both_read g at.block at.offset (size_at g.granularity) img other bs l q in
          let k = places g.granularity in
          let y = both (type_of (get_or bs 0 0)) (marks_of g.granularity (get_or bs (finish_at g.granularity) 0) (get_or bs (delete_at g.granularity) 0)) p in
          let f = unfinished_ff g.granularity word (get_or bs (finish_at g.granularity) 0) (get_or bs (delete_at g.granularity) 0) y.1 in
          let s : get_or (read other) 0 0 ≡ get_or bs 0 0 = same_byte g at.block at.offset (size_at g.granularity) 0 img other (omega (arith, k.least)) type-same ∙ ap (λ (x : List ℕ). get_or x 0 0) (sym v.this) in
          let m : get_or (read other) (finish_at g.granularity) 0 ≡ 255 =
          same_byte g at.block at.offset (size_at g.granularity) (finish_at g.granularity) img other k.finish finish-same ∙ ap (λ (x : List ℕ). get_or x (finish_at g.granularity) 0) (sym v.this) ∙ f in
          let a : address g at.block at.offset + delete_at g.granularity ≡ address g at.block (at.offset + delete_at g.granularity) = omega arith in
          let d : get_or (read other) (delete_at g.granularity) 0 ≡ 0 = get_d_part (address g at.block at.offset) (size_at g.granularity) other (delete_at g.granularity) 0 k.delete ∙ rw a deleted in
          rw (v.that, s, m, d, y.0, lost_marks g.granularity word)

  -- so it is no object any more
  info_lost : (h : ObjectHeader) → rank_of h.state ≡ 1 → info_at g at img ≡ done (found h) → info_at g at other ≡ refused 2
  unfolding info_at header_at
  info_lost h one e =
      let p = parts g at img h e in
      let s = state_sized g at img (comp.Allocated p.type p.mark) h p.sized in
      rw (state_lost p.type (p.state ∙ ap (λ (d : ObjectDataState). done (comp.Allocated p.type d)) (untrusted p.mark (rw s at one))))
    where
      untrusted : (d : ObjectDataState) → rank_to d ≡ 1 → d ≡ data-state.Untrusted
      untrusted data-state.Untrusted q = refl
      untrusted data-state.Valid q = absurd (omega arith)
      untrusted data-state.Deleted q = absurd (omega arith)

-- where the finish mark and the delete mark are apart
word_places : (k : Granularity) → (k ≡ Bit → ⊥) → finish_at k + width_of k ≤ delete_at k
word_places Bit n = absurd (n refl)
word_places Word1 n = omega arith
word_places Word4 n = omega arith

-- ---- the first pass in a block

module _ (g : Geometry) (few : g.s ≤ 3) (word : g.granularity ≡ Bit → ⊥) (b used : ℕ) where
  -- from a place on, it leaves what is before the place
  header_stays : (n : ℕ) (i j : ObjectIterator) (s : Both) → j.location.block ≡ b → i.location.offset + header g.granularity g.s ≤ j.location.offset
      → Agree g b i.location.offset (i.location.offset + header g.granularity g.s) s.image (left (deleting n g b used j) s).image
  header_stays n i j s c m =
      agree_on g b i.location.offset (i.location.offset + header g.granularity g.s) s.image (deleting n g b used j s).events s
      (agree_self g b i.location.offset (i.location.offset + header g.granularity g.s) s.image)
      (λ o x y. deleting_each g few b used (Misses-event (address g b o)) (λ v. Allocated v → Avoids g o v) (λ h e k one. avoids_visited g few b o h e (k one)) n j s s.image c
      (agree_self g b j.location.offset g.size s.image) (ahead n g o j s.image (omega arith)))

  -- a visit leaves the type and the finish mark
  visit_stays : (h : ObjectHeader) (s : Both) (p : ℕ) → h.location.block ≡ b → p + 1 ≤ delete_at g.granularity
      → get_or (left (visit_one g b used h) s).image (address g b (h.location.offset + p)) 0 ≡ get_or s.image (address g b (h.location.offset + p)) 0
  visit_stays h s p c m =
      let l = laid g.granularity g.s 0 few in
      bytes_stay (address g b (h.location.offset + p)) 0 (visit_one g b used h s).events s
      (visit_each (Misses-event (address g b (h.location.offset + p))) g b used h s
      (λ _. avoids_visited g few b (h.location.offset + p) h c (inl (omega arith), (λ _. inl (omega (arith, l.delete_size))))))

  breaks : (n : ℕ) (i : ObjectIterator) (s : Both) → i.location.block ≡ b → (deleting n g b used i s).answer ≡ done tt
      → ((deleting n g b used i s).events ≡ []) ⊎ Broken (list_from n g i (left (deleting n g b used i) s).image).stop
  unfolding deleting list_from
  breaks zero i s c e = inl (ask_events beside (λ _. done (tt {0})) s)
  breaks (suc n) i s c e =
      let x = answered {W = beside} (λ (x : Both). next_of g i x.image) (λ x. visiting g b used x (λ j. deleting n g b used j)) s tt e in
      rw x.same (go x.value x.told (rw x.same at e) (λ j t. breaks n j t))
    where
      Tail : Pass (Unit {0}) → Type 0
      Tail o = ((o s).events ≡ []) ⊎ Broken (list_by (next_of g i (left o s).image) i (λ j. list_from n g j (left o s).image)).stop

      seen : (h : ObjectHeader) (j : ObjectIterator) → next_of g i s.image ≡ done (object h j) → (d : Bool) → (visit_one g b used h s).answer ≡ done d
          → (go_on d (deleting n g b used j) (left (visit_one g b used h) s)).answer ≡ done tt → Visit-left g b used h s d
          → ((t : Both) → (deleting n g b used j t).answer ≡ done tt → ((deleting n g b used j t).events ≡ []) ⊎ Broken (list_from n g j (left (deleting n g b used j) t).image).stop)
          → Tail (visit_one g b used h >>= λ d. go_on d (deleting n g b used j))
      seen h j p false f r (inl q) more = inl (rw (bind_events (visit_one g b used h) (λ d. go_on d (deleting n g b used j)) s false f, q.0) (ask_events beside (λ _. done (tt {0})) s))
      seen h j p false f r (inr q) more = absurd (false≢true q.1)
      seen h j p true f r (inl q) more = passed (more (left (visit_one g b used h) s) r)
        where
          m : Moves g i j
          m = next_moves g i s.image h j p

          passed : ((deleting n g b used j (left (visit_one g b used h) s)).events ≡ []) ⊎ Broken (list_from n g j (left (deleting n g b used j) (left (visit_one g b used h) s)).image).stop
              → Tail (visit_one g b used h >>= λ d. go_on d (deleting n g b used j))
          passed (inl z) = inl (rw (bind_events (visit_one g b used h) (λ d. go_on d (deleting n g b used j)) s true f, z, q.0))
          passed (inr z) =
              let w = header_stays n i j (left (visit_one g b used h) s) (m.block ∙ c) m.forward in
              let o = laid g.granularity g.s 0 few in
              let a = next_by_lem g i (left (visit_one g b used h) s).image (left (deleting n g b used j) (left (visit_one g b used h) s)).image w.long
              (info_agree g i.location (i.location.offset + header g.granularity g.s) _ _ (rw c w) (λ _. omega (arith, o.size_plain)) (λ _. omega (arith, o.size_plain))) in
              let y : next_of g i (left (visit_one g b used h) s).image ≡ next_of g i s.image = ap (λ (es : List Event). next_of g i (happen beside es s).image) q.0 in
              inr (rw (bind_left (visit_one g b used h) (λ d. go_on d (deleting n g b used j)) s true f, a, y, p) z)
      seen h j p true f r (inr q) more =
          let fd = next_found g i s.image h j p in
          let m = next_moves g i s.image h j p in
          let l = found_at g i.location s.image h fd.object in
          let w = header_stays n i j (left (visit_one g b used h) s) (m.block ∙ c) m.forward in
          let o = laid g.granularity g.s 0 few in
          let k = word_places g.granularity word in
          let same : (p : ℕ) → p + 1 ≤ delete_at g.granularity → get_or (left (deleting n g b used j) (left (visit_one g b used h) s)).image (address g b (i.location.offset + p)) 0 ≡ get_or s.image (address g b (i.location.offset + p)) 0 =
          λ p z. w.same (i.location.offset + p) (omega arith) (omega (arith, o.delete_size, o.size_plain)) ∙ subst (λ (x : ObjectLocation). get_or (left (visit_one g b used h) s).image (address g b (x.offset + p)) 0 ≡ get_or s.image (address g b (x.offset + p)) 0) l (visit_stays h s p (rw l c) z) in
          let d : get_or (left (deleting n g b used j) (left (visit_one g b used h) s)).image (address g b (i.location.offset + delete_at g.granularity)) 0 ≡ 0 =
          w.same (i.location.offset + delete_at g.granularity) (omega arith) (omega (arith, o.pos, o.delete_size, o.size_plain)) ∙ (rw c at (subst (λ (x : ObjectLocation). get_or (left (visit_one g b used h) s).image (address g x.block (x.offset + delete_at g.granularity)) 0 ≡ 0) l q.2)) in
          let u = info_lost g word i.location s.image (left (deleting n g b used j) (left (visit_one g b used h) s)).image (w.long ∙ length_stays (visit_one g b used h s).events s)
          (rw c (same 0 (omega (arith, o.pos, o.type_delete)))) (rw c (same (finish_at g.granularity) (omega (arith, o.pos, k)))) (rw c d) h q.0 fd.object in
          let a = next_is g i s.image (left (deleting n g b used j) (left (visit_one g b used h) s)).image (refused 2) (w.long ∙ length_stays (visit_one g b used h s).events s) fd.checked fd.fits u in
          inr (rw (bind_left (visit_one g b used h) (λ d. go_on d (deleting n g b used j)) s true f, a) tt)

      go : (x : Met) → next_of g i s.image ≡ done x → (visiting g b used x (λ j. deleting n g b used j) s).answer ≡ done tt
          → ((j : ObjectIterator) (t : Both) → j.location.block ≡ b → (deleting n g b used j t).answer ≡ done tt
          → ((deleting n g b used j t).events ≡ []) ⊎ Broken (list_from n g j (left (deleting n g b used j) t).image).stop)
          → Tail (visiting g b used x (λ j. deleting n g b used j))
      go free_place p r more = inl (ask_events beside (λ _. done (tt {0})) s)
      go block_end p r more = inl (ask_events beside (λ _. done (tt {0})) s)
      go (object h j) p r more =
          let x = bound (visit_one g b used h) (λ d. go_on d (deleting n g b used j)) s tt r in
          seen h j p x.value x.first x.second (visit_left g b used h s x.value x.first) (λ t. more j t ((next_moves g i s.image h j p).block ∙ c))

-- a block that is guarded stays so
pub block_guards : (g : Geometry) → g.s ≤ 3 → (g.granularity ≡ Bit → ⊥) → (b : ℕ) (r : BlockInfo) (s : Both) → Guarded (listing g b s.image)
    → (delete_invalid_objects_in_block g b r s).answer ≡ done tt → Guarded (listing g b (left (delete_invalid_objects_in_block g b r) s).image)
unfolding delete_invalid_objects_in_block listing
block_guards g few word b r s h e = go r.header.kind e
  where
    by : (o : Pass (Unit {0})) → ((o s).events ≡ []) ⊎ Broken (list_from g.size g (start_of g b) (left o s).image).stop → Guarded (list_from g.size g (start_of g b) (left o s).image)
    by o (inl q) = rw q h
    by o (inr z) = inr z

    go : (k : BlockHeaderKind) → (delete_by g b r k s).answer ≡ done tt → Guarded (list_from g.size g (start_of g b) (left (delete_by g b r k) s).image)
    go Empty q = by (give tt) (inl (ask_events beside (λ _. done (tt {0})) s))
    go Unknown q = absurd (refuse_done 2 s q)
    go (Known t) q = by (deleting g.size g b r.used_bytes (start_of g b)) (breaks g few word b r.used_bytes g.size (start_of g b) s refl q)
