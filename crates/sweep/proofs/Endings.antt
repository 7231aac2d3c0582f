-- What can end a tour: only bytes that are no header, which are 2. So the ends of the Metadata tour and then of the Data tour are those of
-- all blocks in order.
use mathlib.Core.Path.{◌≡◌, refl, sym, ap, ap₂, ◌∙◌}
use mathlib.Core.Bool.{Bool, true, false, ◌&&◌, not}
use mathlib.Core.List.{List}
use Prim.Native.Nat.{ℕ, zero, suc, ◌+◌, ◌≤◌, ◌<◌}
use native.Mathlib.Nat.{sub-zero}
use native.Mathlib.Omega.{arith}
use lib.Dec.{eqb}
use lib.ListN.{length}
use Rattle.medium.specs.declared.geometry.Geometry.{Geometry}
use Rattle.medium.specs.Granularity.{pick, longest_block_header}
use Rattle.medium.specs.Geometry.{check_of}
use Rattle.medium.specs.Operation.{Answer, done, refused, and_then}
use Rattle.medium.proofs.Checks.{fine_of_check}
use Rattle.objects.specs.Listing.{start_of, Stop, end, free, broken, list_from}
use Rattle.objects.proofs.Answers.{gate_on, gate_stop}
use Rattle.blocks.specs.declared.header.BlockType.{BlockType}
use Rattle.blocks.specs.declared.header.BlockType.TheVariants.{Metadata, Data}
use Rattle.blocks.specs.BlockHeader.{block_header_at}
use Rattle.blocks.specs.Scan.{unless_broken}
use Rattle.storage.specs.Order.{tour_by, open_tour, is_of, tour_if, start_visit, open_of, blocks_tour, tour_from, tour}
use Rattle.sweep.specs.Lists.{every}
use Rattle.sweep.specs.Referring.{metadata_in, is_sound, listed_end, listings, sweepable}
use Rattle.shown.proofs.Refused.{Two, given, again, and_two, stopped, read_two, list_two}

regroup : (a b k : Answer (Unit {0})) → and_then (and_then a (λ _. b)) (λ _. k) ≡ and_then a (λ _. and_then b (λ _. k))
regroup (done u) b k = refl
regroup (refused n) b k = refl

-- ---- blocks and their listings

module _ (g : Geometry) (img : List ℕ) (c : check_of g (length img) ≡ 0) where
  kind_two : (t : BlockType) (b : ℕ) → b < g.count → Two (is_of g t b img)
  unfolding is_of block_header_at
  kind_two t b h =
      let f = fine_of_check g (length img) (check_of g (length img)) refl c in
      and_two _ _ (and_two _ _ (read_two g img c b 0 longest_block_header h (omega (arith, f.sound.least))) (λ bs. given _)) (λ k. given _)

  block_two : (t : BlockType) (b : ℕ) → b < g.count → Two (listed_end g t b img)
  unfolding open_tour
  block_two t b h = go (is_of g t b img) (kind_two t b h)
    where
      stop-two : (x : Stop) → Two (stopped x) → Two (unless_broken {A = Unit {0}} x tt)
      stop-two end p = p
      stop-two free p = p
      stop-two (broken n) p = p

      go : (a : Answer Bool) → Two a → Two (tour_if a (open_tour g (start_of g b) img)).end
      go (done true) p = stop-two (list_from g.size g (start_of g b) img).stop (list_two g img c g.size (start_of g b) h)
      go (done false) p = given _
      go (refused n) p = again n p

  -- ---- tours and their blocks

  blocks_end : (n : ℕ) (t : BlockType) (b : ℕ) → (blocks_tour (suc n) g t (start_visit g b) img).end ≡ and_then (listed_end g t b img) (λ _. (blocks_tour n g t (start_visit g (b + 1)) img).end)
  unfolding blocks_tour open_of
  blocks_end n t b = go (listed_end g t b img)
    where
      go : (e : Answer (Unit {0})) → (tour_by (tour_if (is_of g t b img) (open_tour g (start_of g b) img)).objects e (blocks_tour n g t (start_visit g (b + 1)) img)).end
          ≡ and_then e (λ _. (blocks_tour n g t (start_visit g (b + 1)) img).end)
      go (done u) = refl
      go (refused k) = refl

  blocks_two : (n : ℕ) (t : BlockType) (b : ℕ) → b + n ≤ g.count → Two (blocks_tour n g t (start_visit g b) img).end
  unfolding blocks_tour
  blocks_two zero t b h = given _
  blocks_two (suc n) t b h = rw (blocks_end n t b) (and_two (listed_end g t b img) _ (block_two t b (omega arith)) (λ _. blocks_two n t (b + 1) (omega arith)))

  -- two refusals that are the same may be met in either order
  swap : (d m e : Answer (Unit {0})) → Two d → Two m → and_then d (λ _. and_then m (λ _. e)) ≡ and_then m (λ _. and_then d (λ _. e))
  swap (done u) (done w) e p q = refl
  swap (done u) (refused n) e p q = refl
  swap (refused k) (done w) e p q = refl
  swap (refused k) (refused n) e p q = ap refused (p.is k refl ∙ sym (q.is n refl))

  listings_are : (n b : ℕ) → b + n ≤ g.count → listings n g b img ≡ and_then (blocks_tour n g Metadata (start_visit g b) img).end (λ _. (blocks_tour n g Data (start_visit g b) img).end)
  unfolding listings blocks_tour
  listings_are zero b h = refl
  listings_are (suc n) b h =
      ap (λ (x : Answer (Unit {0})). and_then (listed_end g Metadata b img) (λ _. and_then (listed_end g Data b img) (λ _. x))) (listings_are n (b + 1) (omega arith))
      ∙ go (listed_end g Metadata b img)
      ∙ sym (ap₂ (λ (x y : Answer (Unit {0})). and_then x (λ _. y)) (blocks_end n Metadata b) (blocks_end n Data b))
    where
      go : (m : Answer (Unit {0}))
          → and_then m (λ _. and_then (listed_end g Data b img) (λ _. and_then (blocks_tour n g Metadata (start_visit g (b + 1)) img).end (λ _. (blocks_tour n g Data (start_visit g (b + 1)) img).end)))
          ≡ and_then (and_then m (λ _. (blocks_tour n g Metadata (start_visit g (b + 1)) img).end)) (λ _. and_then (listed_end g Data b img) (λ _. (blocks_tour n g Data (start_visit g (b + 1)) img).end))
      go (done u) =
          swap (listed_end g Data b img) (blocks_tour n g Metadata (start_visit g (b + 1)) img).end (blocks_tour n g Data (start_visit g (b + 1)) img).end
          (block_two Data b (omega arith)) (blocks_two n Metadata (b + 1) (omega arith))
      go (refused k) = refl

  -- what a sweep refuses, as it is found: by one walk, by the other, and then by the metadata
  pub sweepable_by : sweepable g img
      ≡ and_then (tour g Metadata img).end (λ _. and_then (tour g Data img).end (λ _. pick (not (eqb g.strict 1) && every (λ h. is_sound g h img) (metadata_in g img)) (done tt) (refused 14)))
  unfolding sweepable tour_from
  sweepable_by =
      gate_on _ (check_of g (length img)) (check_of g (length img)) refl c
      ∙ rw (sub-zero g.count, listings_are g.count 0 (omega arith))
      (regroup (blocks_tour g.count g Metadata (start_visit g 0) img).end (blocks_tour g.count g Data (start_visit g 0) img).end _)

pub sweepable_stop : (g : Geometry) (img : List ℕ) (r : ℕ) → r ≡ check_of g (length img) → (r ≡ 0 → ⊥) → sweepable g img ≡ refused r
unfolding sweepable
sweepable_stop g img r e n = gate_stop _ r (check_of g (length img)) e n
