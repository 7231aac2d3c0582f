-- A finished object that is written new at the free end of a block: the tour of the block's type has it besides, every other tour is as it was, and so
-- is every byte outside its span.
use mathlib.Core.Path.{◌≡◌, refl, sym, ap, ap₂, ◌∙◌, subst}
use mathlib.Core.Logic.{◌⊎◌, inl, inr, ◌≢◌}
use mathlib.Core.Bool.{Bool, true, false}
use mathlib.Core.List.{List, [], ◌∷◌, ◌++◌, append_assoc, append-nil}
use Prim.Native.Nat.{ℕ, zero, suc, ◌+◌, ◌-◌, ◌*◌, ◌≤◌, ◌<◌}
use native.Mathlib.Nat.{sub-zero}
use native.Mathlib.Omega.{arith}
use lib.ListN.{length, get_or}
use lib.Dec.{leb, eqb}
use borrow.Author.Tests.{eqb-true, eqb-false}
use Rattle.medium.specs.declared.geometry.Geometry.{Geometry}
use Rattle.medium.specs.Granularity.{pick, header, block_header}
use Rattle.medium.specs.Geometry.{address}
use Rattle.medium.specs.Operation.{Answer, done, refused, and_then}
use Rattle.objects.specs.declared.types.ObjectType.{ObjectType}
use Rattle.objects.specs.declared.location.ObjectLocation.{ObjectLocation}
use Rattle.objects.specs.declared.header.ObjectHeader.{ObjectHeader}
use Rattle.objects.specs.Listing.{end, free, Listing, listing}
use Rattle.blocks.specs.declared.header.BlockType.{BlockType}
use Rattle.blocks.specs.declared.header.BlockHeader.{BlockHeader}
use Rattle.blocks.specs.declared.header.BlockHeaderKind.TheVariants.{Known}
use Rattle.blocks.specs.BlockHeader.{kind_number}
use Rattle.blocks.specs.Scan.{unless_broken}
use Rattle.storage.specs.Order.{Tour, tour_by, joined, finished_in, listed_tour, open_tour, is_of, tour_if, start_visit, open_of, blocks_tour, tour_from, tour}
use Rattle.fresh.specs.Units.{address_of, span, Clear}
use Rattle.fresh.specs.Fresh.{after, new_header, marks_after, Room}
use Rattle.fresh.specs.Scans.{FreeEnd, grown, Grows}
use Rattle.sweep.specs.Laws.{AnyOf}
use Rattle.medium.proofs.Bytes.{Off}
use Rattle.medium.proofs.Frame.{other_block}
use Rattle.blocks.proofs.Seen.{header_seen}
use Rattle.shown.proofs.Agreeing.{Agree, listing_agree}
use Rattle.fresh.proofs.Fresh.{long}
use Rattle.fresh.proofs.Scans.{fits, few, off_object}
use Rattle.fresh.proofs.Grows.{grows}
use Rattle.storage.proofs.Lists.{finished_append}
use Rattle.sweep.proofs.Toured.{block_tour, Dropped, left_first}
use Rattle.sweep.proofs.Blocks.{joined_done}
use Rattle.mended.proofs.Lists.{any_left, any_right}

-- an object that is left out behind a tour that comes to its end
behind_ended : (h : ObjectHeader) (x a b : Tour) → (joined x b).end ≡ done tt → Dropped h a b → Dropped h (joined x a) (joined x b)
behind_ended h x a b e d = go x.end e
  where
    go : (y : Answer (Unit {0})) → (tour_by x.objects y b).end ≡ done tt → Dropped h (tour_by x.objects y a) (tour_by x.objects y b)
    go (done u) q =
        record {
          front = x.objects ++ d.front;
          back = d.back;
          was = ap (λ (l : List ObjectHeader). x.objects ++ l) d.was ∙ sym (append_assoc x.objects d.front (h ∷ d.back));
          is = ap (λ (l : List ObjectHeader). x.objects ++ l) d.is ∙ sym (append_assoc x.objects d.front d.back);
          end = d.end;
        }
    go (refused n) q = let z : ◌≡◌ {A = ℕ} 0 1 = cc in absurd (omega arith)

-- ---- what is in a block of the type is in the tour of the store

module _ (g : Geometry) (u : BlockType) (img : List ℕ) (P : ObjectHeader → Type 0) (b : ℕ) (a : AnyOf P (block_tour g u img b).objects) where
  blocks_have : (n c : ℕ) → c ≤ b → b < c + n → (blocks_tour n g u (start_visit g c) img).end ≡ done tt → AnyOf P (blocks_tour n g u (start_visit g c) img).objects
  unfolding blocks_tour open_of
  blocks_have zero c l k e = absurd (omega arith)
  blocks_have (suc n) c l k e = go (eqb c b) refl (λ l k q. blocks_have n (c + 1) l k q)
    where
      ended : ((joined (block_tour g u img c) (blocks_tour n g u (start_visit g (c + 1)) img)).objects ≡ (block_tour g u img c).objects ++ (blocks_tour n g u (start_visit g (c + 1)) img).objects)
          × ((blocks_tour n g u (start_visit g (c + 1)) img).end ≡ done tt)
      ended = joined_done (block_tour g u img c) (blocks_tour n g u (start_visit g (c + 1)) img) e

      go : (x : Bool) → eqb c b ≡ x → (c + 1 ≤ b → b < c + 1 + n → (blocks_tour n g u (start_visit g (c + 1)) img).end ≡ done tt → AnyOf P (blocks_tour n g u (start_visit g (c + 1)) img).objects)
          → AnyOf P (joined (block_tour g u img c) (blocks_tour n g u (start_visit g (c + 1)) img)).objects
      go true q more =
          subst (AnyOf P) (sym ended.0)
          (any_left P (block_tour g u img c).objects (blocks_tour n g u (start_visit g (c + 1)) img).objects (subst (λ (d : ℕ). AnyOf P (block_tour g u img d).objects) (sym (eqb-true c b q)) a))
      go false q more =
          let ne : c ≢ b = eqb-false c b q in
          subst (AnyOf P) (sym ended.0) (any_right P (block_tour g u img c).objects (blocks_tour n g u (start_visit g (c + 1)) img).objects (more (strict ne) (omega arith) ended.1))
        where
          strict : c ≢ b → c + 1 ≤ b
          strict n = omega arith

  pub tour_has : b < g.count → (tour g u img).end ≡ done tt → AnyOf P (tour g u img).objects
  unfolding tour_from
  tour_has l e = blocks_have (g.count - 0) 0 (omega arith) (omega (arith, sub-zero g.count)) e

-- ---- the image with the object

module _ (g : Geometry) (at : ObjectLocation) (t : ObjectType) (pay img : List ℕ) (v : Room g at pay img) (w : FreeEnd g at img) (k : ℕ) (c : marks_after g pay + 1 ≤ k) where
  abbrev m : List ℕ
  m = after g at t pay img k

  abbrev new : ObjectHeader
  new = new_header at t pay

  abbrev dst : ℕ
  dst = at.block

  abbrev sp : ℕ
  sp = span g.granularity g.s (length pay)

  kept_else : (b o : ℕ) → b ≢ dst → o < g.size → get_or m (address g b o) 0 ≡ get_or img (address g b o) 0
  kept_else b o n l = off_object g at t pay img v w k (address g b o) (go (other_block g.size dst b o (λ e. n (sym e)) l))
    where
      go : Off (dst * g.size) g.size (b * g.size + o) → Clear (address_of g at) (address_of g at + sp) (address g b o)
      go (inl x) = inl (omega arith)
      go (inr x) = inr (omega (arith, v.in_block))

  pub agree_else : (b : ℕ) → b ≢ dst → Agree g b 0 g.size img m
  agree_else b n = record { long = long g at pay img v t k; same = λ o _ l. kept_else b o n l }

  -- in its own block, what ends before it or starts behind it
  pub agree_aside : (from to : ℕ) → (to ≤ at.offset) ⊎ (at.offset + sp ≤ from) → Agree g dst from to img m
  agree_aside from to d = record { long = long g at pay img v t k; same = λ o x y. off_object g at t pay img v w k (address g dst o) (go o d x y) }
    where
      go : (o : ℕ) → (to ≤ at.offset) ⊎ (at.offset + sp ≤ from) → from ≤ o → o < to → Clear (address_of g at) (address_of g at + sp) (address g dst o)
      go o (inl e) x y = inl (omega arith)
      go o (inr e) x y = inr (omega arith)

  kind_same : (u : BlockType) (b : ℕ) → is_of g u b m ≡ is_of g u b img
  unfolding is_of
  kind_same u b =
      ap (λ (x : Answer BlockHeader). and_then x (λ h. done (eqb (kind_number h.kind) (kind_number (Known u)))))
      (header_seen g b img m (long g at pay img v t k) (λ o y. by-block o y (eqb b dst) refl))
    where
      by-block : (o : ℕ) → o < block_header g.granularity → (x : Bool) → eqb b dst ≡ x → get_or m (address g b o) 0 ≡ get_or img (address g b o) 0
      by-block o y true q = off_object g at t pay img v w k (address g b o) (inl (omega (arith, few g at t pay img v w, ap (λ (z : ℕ). z * g.size) (eqb-true b dst q))))
      by-block o y false q = kept_else b o (eqb-false b dst q) (omega (arith, few g at t pay img v w, fits g at t pay img v w))

  -- ---- one block, of any type

  block_else : (u : BlockType) (b : ℕ) → b ≢ dst → block_tour g u m b ≡ block_tour g u img b
  unfolding open_tour listing
  block_else u b n = ap₂ (λ (a : Answer Bool) (l : Listing). tour_if a (listed_tour l)) (kind_same u b) (listing_agree g b img m (agree_else b n))

  block_shut : (u : BlockType) (b : ℕ) → is_of g u b img ≡ done false → block_tour g u m b ≡ block_tour g u img b
  block_shut u b e = let q : is_of g u b m ≡ done false = kind_same u b ∙ e in rw (q, e)

  block_open : (u : BlockType) → is_of g u dst img ≡ done true → Dropped new (block_tour g u m dst) (block_tour g u img dst)
  unfolding open_tour listing Grows
  block_open u e =
      let is-img : block_tour g u img dst ≡ listed_tour (listing g dst img) = rw e in
      let is_m : block_tour g u m dst ≡ listed_tour (grown g at t pay img) =
      ap (λ (a : Answer Bool). tour_if a (listed_tour (listing g dst m))) (kind_same u dst ∙ e) ∙ ap listed_tour (grows g at t pay img v w k c) in
      record {
        front = finished_in (listing g dst img).visits;
        back = [];
        was = ap (λ (x : Tour). x.objects) is_m ∙ finished_append (listing g dst img).visits (record { offset = at.offset; object = new } ∷ []);
        is = ap (λ (x : Tour). x.objects) is-img ∙ sym (append-nil (finished_in (listing g dst img).visits));
        end = ap (λ (x : Tour). x.end) is-img ∙ rw w.stop (sym (ap (λ (x : Tour). x.end) is_m ∙ not-broken (leb g.size (at.offset + sp + header g.granularity g.s))));
      }
    where
      not-broken : (b : Bool) → unless_broken {A = Unit {0}} (pick b end free) tt ≡ done tt
      not-broken true = refl
      not-broken false = refl

  -- ---- blocks in a row

  blocks_same : (u : BlockType) (n b : ℕ) → ((d : ℕ) → b ≤ d → block_tour g u m d ≡ block_tour g u img d) → blocks_tour n g u (start_visit g b) m ≡ blocks_tour n g u (start_visit g b) img
  unfolding blocks_tour open_of
  blocks_same u zero b f = refl
  blocks_same u (suc n) b f = ap₂ joined (f b (omega arith)) (blocks_same u n (b + 1) (λ d l. f d (omega arith)))

  blocks_open : (u : BlockType) → is_of g u dst img ≡ done true → (n b : ℕ) → b ≤ dst → dst < b + n → (blocks_tour n g u (start_visit g b) img).end ≡ done tt
      → Dropped new (blocks_tour n g u (start_visit g b) m) (blocks_tour n g u (start_visit g b) img)
  unfolding blocks_tour open_of
  blocks_open u o zero b l r e = absurd (omega arith)
  blocks_open u o (suc n) b l r e = go (eqb b dst) refl (λ l r q. blocks_open u o n (b + 1) l r q)
    where
      go : (x : Bool) → eqb b dst ≡ x
          → (b + 1 ≤ dst → dst < b + 1 + n → (blocks_tour n g u (start_visit g (b + 1)) img).end ≡ done tt → Dropped new (blocks_tour n g u (start_visit g (b + 1)) m) (blocks_tour n g u (start_visit g (b + 1)) img))
          → Dropped new (joined (block_tour g u m b) (blocks_tour n g u (start_visit g (b + 1)) m)) (joined (block_tour g u img b) (blocks_tour n g u (start_visit g (b + 1)) img))
      go true q more =
          let s : b ≡ dst = eqb-true b dst q in
          subst (λ (x : Tour). Dropped new (joined (block_tour g u m b) x) (joined (block_tour g u img b) (blocks_tour n g u (start_visit g (b + 1)) img))) (sym (blocks_same u n (b + 1) (λ d l. block_else u d (λ z. omega arith))))
          (left_first new (block_tour g u m b) (block_tour g u img b) (blocks_tour n g u (start_visit g (b + 1)) img)
          (subst (λ (d : ℕ). Dropped new (block_tour g u m d) (block_tour g u img d)) (sym s) (block_open u o)))
      go false q more =
          let ne : b ≢ dst = eqb-false b dst q in
          subst (λ (x : Tour). Dropped new (joined x (blocks_tour n g u (start_visit g (b + 1)) m)) (joined (block_tour g u img b) (blocks_tour n g u (start_visit g (b + 1)) img))) (sym (block_else u b ne))
          (behind_ended new (block_tour g u img b) (blocks_tour n g u (start_visit g (b + 1)) m) (blocks_tour n g u (start_visit g (b + 1)) img) e
          (more (strict ne) (omega arith) (joined_done (block_tour g u img b) (blocks_tour n g u (start_visit g (b + 1)) img) e).1))
        where
          strict : b ≢ dst → b + 1 ≤ dst
          strict n = omega arith

  -- ---- the tours of the store

  -- of another type
  pub tour_other : (u : BlockType) → is_of g u dst img ≡ done false → tour g u m ≡ tour g u img
  unfolding tour_from
  tour_other u e = blocks_same u (g.count - 0) 0 (λ d _. one d (eqb d dst) refl)
    where
      one : (d : ℕ) (x : Bool) → eqb d dst ≡ x → block_tour g u m d ≡ block_tour g u img d
      one d true q = block_shut u d (ap (λ (b : ℕ). is_of g u b img) (eqb-true d dst q) ∙ e)
      one d false q = block_else u d (eqb-false d dst q)

  -- of its own type, where that came to its end: it without the object is what it was
  pub tour_own : (u : BlockType) → is_of g u dst img ≡ done true → (tour g u img).end ≡ done tt → Dropped new (tour g u m) (tour g u img)
  unfolding tour_from
  tour_own u e q = blocks_open u e (g.count - 0) 0 (omega arith) (omega (arith, v.block, sub-zero g.count)) q
