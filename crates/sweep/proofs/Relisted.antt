-- A listing with one delete mark more: the same objects at the same places, the marked one Deleted. Bytes of other objects are as they were.
use mathlib.Core.Path.{◌≡◌, refl, sym, ap, ◌∙◌}
use mathlib.Core.Logic.{◌⊎◌, inl, inr, ◌≢◌}
use mathlib.Core.Bool.{Bool, true, false}
use mathlib.Core.List.{List, [], ◌∷◌, ◌++◌, append_assoc}
use Prim.Native.Nat.{ℕ, suc, ◌+◌, ◌-◌, ◌*◌, ◌≤◌, ◌<◌}
use native.Mathlib.Nat.{le_refl}
use native.Mathlib.Omega.{arith}
use lib.ListN.{length}
use lib.Dec.{eqb}
use borrow.Author.Tests.{eqb-true, eqb-false}
use Rattle.medium.specs.declared.geometry.Geometry.{Geometry}
use Rattle.medium.specs.Granularity.{pick, delete_at, block_header}
use Rattle.medium.specs.Geometry.{check_of, address}
use Rattle.medium.specs.Operation.{Answer, done, and_then}
use Rattle.objects.specs.declared.types.ObjectType.{ObjectType}
use Rattle.objects.specs.declared.state.ObjectDataState.TheVariants.{Untrusted, Valid, Deleted}
use Rattle.objects.specs.declared.state.CompositeObjectState.{CompositeObjectState}
use Rattle.objects.specs.declared.state.CompositeObjectState.TheVariants.{Free, Allocated}
use Rattle.objects.specs.declared.location.ObjectLocation.{ObjectLocation}
use Rattle.objects.specs.declared.header.ObjectHeader.{ObjectHeader}
use Rattle.objects.specs.Types.{rank_of}
use Rattle.objects.specs.Header.{payload_of}
use Rattle.objects.specs.Info.{total_of, span_of}
use Rattle.objects.specs.Listing.{placed, Visit, Listing, visited, list_from, listing}
use Rattle.blocks.specs.declared.header.BlockType.{BlockType}
use Rattle.blocks.specs.declared.header.BlockHeader.{BlockHeader}
use Rattle.blocks.specs.declared.header.BlockHeaderKind.TheVariants.{Known}
use Rattle.blocks.specs.BlockHeader.{kind_number}
use Rattle.storage.specs.Order.{is_finished, finished_in, is_of}
use Rattle.storage.specs.Laws.{All}
use Rattle.medium.proofs.Bytes.{Off}
use Rattle.medium.proofs.Frame.{other_block}
use Rattle.blocks.proofs.Seen.{header_seen}
use Rattle.shown.proofs.Agreeing.{Agree, found_at, list_agree, listing_agree}
use Rattle.shown.proofs.Walk.{place, visit, span_at, Walked, walk-le, walk_same, unwalk, Reached, reached}
use Rattle.shown.proofs.Steps.{at_object, stop_behind, last_behind}
use Rattle.sweep.specs.Laws.{mark_place}
use Rattle.sweep.proofs.Marks.{Listed, gone_of, Marked, fine_then, info-then, mark_span}
use Rattle.sweep.proofs.Marks as marks

-- ---- the finished objects of a listing are listed

pub record Finished (h : ObjectHeader) : Type 0 where
  pub type : ObjectType
  pub state : h.state ≡ Allocated type Valid

pub finished_of : (h : ObjectHeader) → is_finished h ≡ true → Finished h
finished_of h e = go h.state refl (eqb-true (rank_of h.state) 2 e)
  where
    go : (s : CompositeObjectState) → h.state ≡ s → rank_of s ≡ 2 → Finished h
    go Free q r = absurd (omega arith)
    go (Allocated t Untrusted) q r = absurd (omega arith)
    go (Allocated t Valid) q r = record { type = t; state = q }
    go (Allocated t Deleted) q r = absurd (omega arith)

module _ (g : Geometry) (t : BlockType) (img : List ℕ) where
  -- of a block of the type, those behind any part of its listing
  pub all_listed_in : (b : ℕ) → is_of g t b img ≡ done true → (front vs : List Visit) → (listing g b img).visits ≡ front ++ vs → All (λ h. Listed g t h img) (finished_in vs)
  unfolding listing
  all_listed_in b k front [] e = tt
  all_listed_in b k front (v ∷ vs) e = go (is_finished v.object) refl (all_listed_in b k (front ++ v ∷ []) vs (e ∙ sym (append_assoc front (v ∷ []) vs)))
    where
      one : is_finished v.object ≡ true → Listed g t v.object img
      one f =
          let r : Reached g b g.size img (block_header g.granularity) front vs v = reached g b g.size img (block_header g.granularity) front vs v e in
          let at : v.object.location ≡ place g b v.offset = found_at g (place g b v.offset) img v.object r.info in
          let c : v.object.location.block ≡ b = ap (λ (x : ObjectLocation). x.block) at in
          let o : v.object.location.offset ≡ v.offset = ap (λ (x : ObjectLocation). x.offset) at in
          let d : Finished v.object = finished_of v.object f in
          record {
            kind = ap (λ (x : ℕ). is_of g t x img) c ∙ k;
            type = d.type;
            state = d.state;
            before = front;
            after = vs;
            is = ap (λ (x : ℕ). (listing g x img).visits) c ∙ e ∙ ap (λ (x : ℕ). front ++ record { offset = x; object = v.object } ∷ vs) (sym o);
          }

      go : (f : Bool) → is_finished v.object ≡ f → All (λ h. Listed g t h img) (finished_in vs) → All (λ h. Listed g t h img) (pick f (v.object ∷ finished_in vs) (finished_in vs))
      go true f rest = (one f, rest)
      go false f rest = rest

-- ---- with the mark

module _ (g : Geometry) (t : BlockType) (h : ObjectHeader) (img : List ℕ) (fine : check_of g (length img) ≡ 0) (v : Listed g t h img) (other : List ℕ) (m : Marked g h img other) where
  abbrev b : ℕ
  b = h.location.block

  abbrev off : ℕ
  off = h.location.offset

  abbrev sp : ℕ
  sp = span_of g.granularity g.s h

  abbrev here : Reached g b g.size img (block_header g.granularity) v.before v.after (visit g b off h)
  here = marks.at_object g t h img fine v

  now_fine : check_of g (length other) ≡ 0
  now_fine = fine_then g t h img fine v other m

  in_span : delete_at g.granularity < sp
  in_span = omega (arith, mark_span g t h img fine v, marks.mark_wide g t h img fine v)

  -- what ends before the object, or starts behind it, agrees
  pub agree_aside : (from to : ℕ) → (to ≤ off) ⊎ (off + sp ≤ from) → Agree g b from to img other
  agree_aside from to d = record { long = m.long; same = λ o x y. m.elsewhere (address g b o) (λ e. go d x y e) }
    where
      go : {o : ℕ} → (to ≤ off) ⊎ (off + sp ≤ from) → from ≤ o → o < to → address g b o ≡ mark_place g h → ⊥
      go (inl c) x y e = omega arith
      go (inr c) x y e = omega (arith, in_span)

  -- and so does every other block
  pub agree_else : (c : ℕ) → c ≢ b → Agree g c 0 g.size img other
  agree_else c n = record { long = m.long; same = λ o _ y. m.elsewhere (address g c o) (λ e. go o e (other_block g.size b c o (λ q. n (sym q)) y)) }
    where
      go : (o : ℕ) → address g c o ≡ mark_place g h → Off (b * g.size) g.size (c * g.size + o) → ⊥
      go o e (inl k) = omega arith
      go o e (inr k) = omega (arith, here.fits, marks.mark_header g t h img fine v)

  pub kind_then : (u : BlockType) (c : ℕ) → is_of g u c other ≡ is_of g u c img
  unfolding is_of
  kind_then u c =
      ap (λ (x : Answer BlockHeader). and_then x (λ k. done (eqb (kind_number k.kind) (kind_number (Known u)))))
      (header_seen g c img other m.long (λ o y. m.elsewhere (address g c o) (λ e. go o y e)))
    where
      start : block_header g.granularity ≤ off
      start = omega (arith, walk-le g b img fine v.before (block_header g.granularity) off here.walked)

      small : block_header g.granularity < g.size
      small = omega (arith, start, here.fits)

      by-block : (o : ℕ) → o < block_header g.granularity → address g c o ≡ mark_place g h → (x : Bool) → eqb c b ≡ x → ⊥
      by-block o y e true q = omega (arith, ap (λ (x : ℕ). x * g.size) (eqb-true c b q), start)
      by-block o y e false q = off-block (other_block g.size b c o (λ z. eqb-false c b q (sym z)) (omega (arith, small)))
        where
          off-block : Off (b * g.size) g.size (c * g.size + o) → ⊥
          off-block (inl k) = omega arith
          off-block (inr k) = omega (arith, here.fits, marks.mark_header g t h img fine v)

      go : (o : ℕ) → o < block_header g.granularity → address g c o ≡ mark_place g h → ⊥
      go o y e = by-block o y e (eqb c b) refl

  gone_span : span_at g b (gone_of h v.type) ≡ sp
  unfolding total_of payload_of
  gone_span = refl

  walked_then : Walked g b other (block_header g.granularity) v.before off
  walked_then = walk_same g b img other fine v.before (block_header g.granularity) off here.walked (agree_aside (block_header g.granularity) off (inl (le_refl off)))

  few : length v.before ≤ g.size
  few = omega (arith, here.fuel)

  left_is : g.size - length v.before ≡ suc here.left
  left_is = omega (arith, here.fuel)

  rest_then : list_from (suc here.left) g (placed b off) other ≡ visited (placed b off) (gone_of h v.type) (list_from here.left g (placed b (off + sp)) img)
  rest_then =
      at_object g b other now_fine here.left off here.fits (gone_of h v.type) (info-then g t h img fine v other m)
      ∙ ap (λ (n : ℕ). visited (placed b off) (gone_of h v.type) (list_from here.left g (placed b (off + n)) other)) gone_span
      ∙ ap (visited (placed b off) (gone_of h v.type)) (list_agree here.left g (placed b (off + sp)) img other (agree_aside (off + sp) g.size (inr (le_refl (off + sp)))))

  pub visits_then : (listing g b other).visits ≡ v.before ++ visit g b off (gone_of h v.type) ∷ v.after
  unfolding listing
  visits_then =
      unwalk g b other now_fine v.before (block_header g.granularity) off g.size walked_then few
      ∙ ap (λ (n : ℕ). v.before ++ (list_from n g (placed b off) other).visits) left_is
      ∙ ap (λ (x : Listing). v.before ++ x.visits) rest_then
      ∙ ap (λ (x : List Visit). v.before ++ visit g b off (gone_of h v.type) ∷ x) here.rest

  pub stop_then : (listing g b other).stop ≡ (listing g b img).stop
  unfolding listing
  stop_then =
      stop_behind g b other now_fine v.before (block_header g.granularity) off g.size walked_then few
      ∙ ap (λ (n : ℕ). (list_from n g (placed b off) other).stop) left_is
      ∙ ap (λ (x : Listing). x.stop) rest_then
      ∙ here.stop

  pub last_then : (listing g b other).last ≡ (listing g b img).last
  unfolding listing
  last_then =
      last_behind g b other now_fine v.before (block_header g.granularity) off g.size walked_then few
      ∙ ap (λ (n : ℕ). (list_from n g (placed b off) other).last) left_is
      ∙ ap (λ (x : Listing). x.last) rest_then
      ∙ here.last

  pub else_then : (c : ℕ) → c ≢ b → listing g c other ≡ listing g c img
  else_then c n = listing_agree g c img other (agree_else c n)
