-- The first pass stores only in the headers of unfinished objects that the listing of its block shows; of one that has its size, only the
-- delete mark. The objects of a listing do not overlap, so no byte of a finished one is among them.
use mathlib.Core.Path.{◌≡◌, refl, sym, ap, ◌∙◌, subst}
use mathlib.Core.Logic.{inl, inr}
use mathlib.Core.Bool.{Bool, true, false}
use mathlib.Core.List.{List, [], ◌∷◌}
use Prim.Native.Nat.{ℕ, zero, suc, ◌+◌, ◌≤◌, ◌<◌}
use native.Mathlib.Nat.{le_refl}
use native.Mathlib.Omega.{arith}
use lib.Dec.{eqb}
use borrow.Author.Tests.{eqb-true}
use Rattle.medium.specs.declared.geometry.Geometry.{Geometry}
use Rattle.medium.specs.All.{All}
use Rattle.medium.specs.Granularity.{pick, width_of, align_of, size_at, delete_at, header}
use Rattle.medium.specs.Geometry.{address}
use Rattle.medium.specs.Operation.{Answer, happen, done, refused}
use Rattle.medium.specs.Beside.{Event, Both, beside}
use Rattle.medium.proofs.Writes.{write_miss}
use Rattle.medium.proofs.Bytes.{Off}
use Rattle.medium.proofs.Frame.{inner}
use Rattle.medium.proofs.Places.{laid}
use Rattle.medium.proofs.Beside.{Misses-event}
use Rattle.medium.proofs.Events.{bind_each, ask_each, asked_each}
use Rattle.objects.proofs.Numbers.{length_bytes}
use Rattle.objects.specs.declared.location.ObjectLocation.{ObjectLocation}
use Rattle.objects.specs.declared.header.ObjectHeader.{ObjectHeader}
use Rattle.std.specs.Prelude.{Some, None}
use Rattle.objects.specs.declared.iterator.ObjectIterator.{ObjectIterator}
use Rattle.objects.specs.Numbers.{bytes, unset_of}
use Rattle.objects.specs.Types.{rank_of}
use Rattle.objects.specs.Header.{payload_size_of}
use Rattle.objects.specs.Info.{span_of}
use Rattle.objects.specs.Listing.{start_of, Met, object, free_place, block_end, next_of, Visit, list_by, list_from, listing}
use Rattle.objects.proofs.Listing.{next_found, next_moves}
use Rattle.blocks.specs.declared.header.BlockHeaderKind.{BlockHeaderKind}
use Rattle.blocks.specs.declared.header.BlockHeaderKind.TheVariants.{Empty, Unknown, Known}
use Rattle.blocks.specs.declared.record.BlockInfo.{BlockInfo}
use Rattle.collector.specs.Passes.{visit_one, go_on, visiting, deleting, delete_by, delete_invalid_objects_in_block}
use Rattle.collector.specs.Finished.{Allocated, Finished}
use Rattle.shown.proofs.Agreeing.{Agree, agree_self, agree_less, agree_on, next_agree, found_at, found_short}
use Rattle.collector.proofs.Touched.{Visited, visit_each}

-- ---- a byte that the repair of an object misses

-- outside a range of a block, by addresses
off_at : (g : Geometry) (b from n o : ℕ) → Off from n o → Off (address g b from) n (address g b o)
off_at g b from n o (inl h) = inl (omega arith)
off_at g b from n o (inr h) = inr (omega arith)

-- outside what the repair of an object stores: its delete mark, and its size where it has none
abbrev pub Avoids : Geometry → ℕ → Visit → Type 0
Avoids g o v =
    Off (v.offset + delete_at g.granularity) (width_of g.granularity) o
    × (v.object.size ≡ unset_of g.s → Off (v.offset + size_at g.granularity) (align_of (width_of g.granularity) g.s) o)

-- what is outside the header
pub header_avoids : (g : Geometry) → g.s ≤ 3 → (o : ℕ) (v : Visit) → Off v.offset (header g.granularity g.s) o → Avoids g o v
header_avoids g few o v k =
    let l = laid g.granularity g.s 0 few in (
      inner v.offset (header g.granularity g.s) (delete_at g.granularity) (width_of g.granularity) o (omega (arith, l.delete_size, l.size_plain)) k,
      (λ _. inner v.offset (header g.granularity g.s) (size_at g.granularity) (align_of (width_of g.granularity) g.s) o l.size_header k),
    )

unset_is : (s : ℕ) (h : ObjectHeader) → payload_size_of s h ≡ None → h.size ≡ unset_of s
unfolding payload_size_of
unset_is s h e = go (eqb h.size (unset_of s)) refl e
  where
    go : (t : Bool) → eqb h.size (unset_of s) ≡ t → pick t None (Some h.size) ≡ None → h.size ≡ unset_of s
    go true q p = eqb-true _ _ q
    go false q p = let z : ◌≡◌ {A = ℕ} 0 1 = cc in absurd (omega arith)

abbrev pub visit_of : ObjectHeader → Visit
visit_of h = record { offset = h.location.offset; object = h }

-- such a byte is missed
pub avoids_visited : (g : Geometry) → g.s ≤ 3 → (b o : ℕ) (h : ObjectHeader) → h.location.block ≡ b → Avoids g o (visit_of h) → Visited (Misses-event (address g b o)) g b h
avoids_visited g few b o h e v =
    record {
      marks =
          record { mark = λ img. rw e (write_miss g b (h.location.offset + delete_at g.granularity) (0 ∷ []) img (address g b o) (rw (laid g.granularity g.s 0 few).one (off_at g b _ _ o v.0))) };
      sizes =
          λ u. record { size = λ n img. rw e (write_miss g b (h.location.offset + size_at g.granularity) (bytes g.s n) img (address g b o) (rw (length_bytes g.s n) (off_at g b _ _ o (v.1 (unset_is g.s h u))))) };
      allows = tt;
    }

-- ---- the first pass in a block visits what the listing shows, and stores nothing behind the place where it is

module _ (g : Geometry) (few : g.s ≤ 3) (b used : ℕ) (P : Event → Type 0) (W : Visit → Type 0)
    (ok : (h : ObjectHeader) → h.location.block ≡ b → W (visit_of h) → rank_of h.state ≡ 1 → Visited P g b h) where
  visit_agree : (h : ObjectHeader) (i j : ObjectIterator) (s : Both) (img : List ℕ) → h.location ≡ i.location → i.location.block ≡ b
      → i.location.offset + header g.granularity g.s ≤ j.location.offset → Agree g b i.location.offset g.size img s.image
      → Agree g b j.location.offset g.size img (happen beside (visit_one g b used h s).events s).image
  visit_agree h i j s img e c m v =
      agree_on g b j.location.offset g.size img (visit_one g b used h s).events s
      (agree_less g b i.location.offset g.size j.location.offset g.size img s.image v (omega arith) (le_refl g.size))
      (λ o x y. visit_each (Misses-event (address g b o)) g b used h s (λ _. avoids_visited g few b o h (rw e c) (header_avoids g few o (visit_of h) (rw e (inr (omega arith))))))

  pub deleting_each : (n : ℕ) (i : ObjectIterator) (s : Both) (img : List ℕ) → i.location.block ≡ b → Agree g b i.location.offset g.size img s.image
      → All W (list_from n g i img).visits → All P (deleting n g b used i s).events
  unfolding deleting list_from
  deleting_each zero i s img c v w = ask_each beside P (λ _. done (tt {0})) s
  deleting_each (suc n) i s img c v w =
      asked_each beside P (λ (x : Both). next_of g i x.image) (λ x. visiting g b used x (λ j. deleting n g b used j)) s
      (λ x e. go x (sym (next_agree g i img s.image (rw c v)) ∙ e) w (λ j t. deleting_each n j t img))
    where
      go : (x : Met) → next_of g i img ≡ done x → All W (list_by (next_of g i img) i (λ j. list_from n g j img)).visits
          → ((j : ObjectIterator) (t : Both) → j.location.block ≡ b → Agree g b j.location.offset g.size img t.image → All W (list_from n g j img).visits → All P (deleting n g b used j t).events)
          → All P (visiting g b used x (λ j. deleting n g b used j) s).events
      go free_place e p more = ask_each beside P (λ _. done (tt {0})) s
      go block_end e p more = ask_each beside P (λ _. done (tt {0})) s
      go (object h j) e p more =
          let f = next_found g i img h j e in
          let m = next_moves g i img h j e in
          let l = found_at g i.location img h f.object in
          let w : All W (list_by (done (object h j)) i (λ j. list_from n g j img)).visits = rw e at p in
          let x : W (visit_of h) = subst (λ (z : ObjectLocation). W (record { offset = z.offset; object = h })) (sym l) w.0 in
          bind_each beside P (visit_one g b used h) (λ d. go_on d (deleting n g b used j)) s
          (visit_each P g b used h s (ok h (rw l c) x))
          (λ d _. onward d (m.block ∙ c) (visit_agree h i j s img l c m.forward v) w.1)
        where
          onward : (d : Bool) → j.location.block ≡ b
              → Agree g b j.location.offset g.size img (happen beside (visit_one g b used h s).events s).image → All W (list_from n g j img).visits
              → All P (go_on d (deleting n g b used j) (happen beside (visit_one g b used h s).events s)).events
          onward false q a r = ask_each beside P (λ _. done (tt {0})) (happen beside (visit_one g b used h s).events s)
          onward true q a r = more j (happen beside (visit_one g b used h s).events s) q a r

-- in a block
module _ (g : Geometry) (few : g.s ≤ 3) (b : ℕ) (P : Event → Type 0) (W : Visit → Type 0)
    (ok : (h : ObjectHeader) → h.location.block ≡ b → W (visit_of h) → rank_of h.state ≡ 1 → Visited P g b h) where
  pub first_each : (r : BlockInfo) (s : Both) → All W (listing g b s.image).visits → All P (delete_invalid_objects_in_block g b r s).events
  unfolding delete_invalid_objects_in_block listing
  first_each r s w = go r.header.kind
    where
      go : (k : BlockHeaderKind) → All P (delete_by g b r k s).events
      go Empty = ask_each beside P (λ _. done (tt {0})) s
      go Unknown = ask_each beside P {A = Unit {0}} (λ _. refused 2) s
      go (Known t) = deleting_each g few b r.used_bytes P W ok g.size (start_of g b) s s.image refl (agree_self g b _ g.size s.image) w

-- a byte of the block that avoids each unfinished object
abbrev pub Outside : Geometry → ℕ → List Visit → Type 0
Outside g o vs = All (λ v. Allocated v → Avoids g o v) vs

-- ---- the objects of a listing do not overlap

-- every visit is at the listing's place or behind it
pub ahead : (n : ℕ) (g : Geometry) (o : ℕ) (i : ObjectIterator) (img : List ℕ) → o < i.location.offset → Outside g o (list_from n g i img).visits
unfolding list_from
ahead zero g o i img h = tt
ahead (suc n) g o i img h = go (next_of g i img) refl (λ j k. ahead n g o j img k)
  where
    go : (x : Answer Met) → next_of g i img ≡ x → ((j : ObjectIterator) → o < j.location.offset → Outside g o (list_from n g j img).visits)
        → Outside g o (list_by x i (λ j. list_from n g j img)).visits
    go (done (object v j)) e more = let m = next_moves g i img v j e in ((λ _. header_avoids g (found_short g i img v j e) o (record { offset = i.location.offset; object = v }) (inl h)), more j (omega (arith, m.forward)))
    go (done free_place) e more = tt
    go (done block_end) e more = tt
    go (refused k) e more = tt

finished_ahead : (n : ℕ) (g : Geometry) (o : ℕ) (i : ObjectIterator) (img : List ℕ) → Finished g o (list_from n g i img).visits → i.location.offset ≤ o
unfolding list_from
finished_ahead zero g o i img h = absurd h
finished_ahead (suc n) g o i img h = go (next_of g i img) refl h (λ j k. finished_ahead n g o j img k)
  where
    go : (x : Answer Met) → next_of g i img ≡ x → Finished g o (list_by x i (λ j. list_from n g j img)).visits
        → ((j : ObjectIterator) → Finished g o (list_from n g j img).visits → j.location.offset ≤ o) → i.location.offset ≤ o
    go (done (object v j)) e (inl t) more = t.1
    go (done (object v j)) e (inr r) more = let m = next_moves g i img v j e in let k = more j r in omega (arith, m.forward)
    go (done free_place) e r more = absurd r
    go (done block_end) e r more = absurd r
    go (refused k) e r more = absurd r

-- a byte of a finished one is outside the headers of the unfinished
pub finished_outside : (n : ℕ) (g : Geometry) (o : ℕ) (i : ObjectIterator) (img : List ℕ) → Finished g o (list_from n g i img).visits → Outside g o (list_from n g i img).visits
unfolding list_from
finished_outside zero g o i img h = tt
finished_outside (suc n) g o i img h = go (next_of g i img) refl h (λ j k. finished_outside n g o j img k)
  where
    go : (x : Answer Met) → next_of g i img ≡ x → Finished g o (list_by x i (λ j. list_from n g j img)).visits
        → ((j : ObjectIterator) → Finished g o (list_from n g j img).visits → Outside g o (list_from n g j img).visits) → Outside g o (list_by x i (λ j. list_from n g j img)).visits
    go (done (object v j)) e (inl t) more =
        let f = next_found g i img v j e in
        let p : j.location.offset ≡ i.location.offset + span_of g.granularity g.s v = ap (λ (x : ObjectIterator). x.location.offset) f.then in
        ((λ one. absurd (omega (arith, t.0, one))), ahead n g o j img (omega (arith, t.2, p)))
    go (done (object v j)) e (inr r) more =
        let m = next_moves g i img v j e in
        let k = finished_ahead n g o j img r in
        ((λ _. header_avoids g (found_short g i img v j e) o (record { offset = i.location.offset; object = v }) (inr (omega (arith, m.forward)))), more j r)
    go (done free_place) e r more = tt
    go (done block_end) e r more = tt
    go (refused k) e r more = tt

pub finished_apart : (g : Geometry) (b o : ℕ) (img : List ℕ) → Finished g o (listing g b img).visits → Outside g o (listing g b img).visits
unfolding listing
finished_apart g b o img h = finished_outside g.size g o (start_of g b) img h
