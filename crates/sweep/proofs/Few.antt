-- A tour has no more objects than the image has bytes.
use mathlib.Core.Path.{◌≡◌, refl, ap}
use mathlib.Core.Bool.{Bool, true, false}
use mathlib.Core.List.{List, [], ◌∷◌}
use Prim.Native.Nat.{ℕ, zero, suc, ◌+◌, ◌-◌, ◌*◌, ◌≤◌}
use native.Mathlib.Nat.{suc-mul, sub-zero, mul_comm}
use native.Mathlib.Omega.{arith}
use lib.ListN.{length, length-append}
use Rattle.medium.specs.declared.geometry.Geometry.{Geometry}
use Rattle.medium.specs.Granularity.{pick}
use Rattle.medium.specs.Geometry.{check_of}
use Rattle.medium.specs.Operation.{Answer, done, refused}
use Rattle.objects.specs.Listing.{start_of, Visit, list_from}
use Rattle.blocks.specs.declared.header.BlockType.{BlockType}
use Rattle.storage.specs.Order.{tour_by, is_finished, finished_in, open_tour, is_of, tour_if, open_of, start_visit, blocks_tour, tour_from, tour}
use Rattle.medium.proofs.Checks.{fine_of_check}
use Rattle.objects.proofs.Listing.{few_visits}
use Rattle.sweep.proofs.Toured.{block_tour}

finished_few : (vs : List Visit) → length (finished_in vs) ≤ length vs
finished_few [] = omega arith
finished_few (v ∷ vs) = go (is_finished v.object) (finished_few vs)
  where
    go : (b : Bool) → length (finished_in vs) ≤ length vs → length (pick b (v.object ∷ finished_in vs) (finished_in vs)) ≤ suc (length vs)
    go true h = omega arith
    go false h = omega arith

module _ (g : Geometry) (t : BlockType) (img : List ℕ) where
  block_few : (c : ℕ) → length (block_tour g t img c).objects ≤ g.size
  unfolding open_tour
  block_few c = go (is_of g t c img)
    where
      go : (a : Answer Bool) → length (tour_if a (open_tour g (start_of g c) img)).objects ≤ g.size
      go (done true) = omega (arith, finished_few (list_from g.size g (start_of g c) img).visits, few_visits g.size g (start_of g c) img)
      go (done false) = omega arith
      go (refused n) = omega arith

  blocks_few : (n c : ℕ) → length (blocks_tour n g t (start_visit g c) img).objects ≤ n * g.size
  unfolding blocks_tour open_of
  blocks_few zero c = omega arith
  blocks_few (suc n) c = go (block_tour g t img c).end (block_few c) (blocks_few n (c + 1))
    where
      go : (e : Answer (Unit {0})) → length (block_tour g t img c).objects ≤ g.size → length (blocks_tour n g t (start_visit g (c + 1)) img).objects ≤ n * g.size
          → length (tour_by (block_tour g t img c).objects e (blocks_tour n g t (start_visit g (c + 1)) img)).objects ≤ suc n * g.size
      go (done u) a b = omega (arith, length-append (block_tour g t img c).objects (blocks_tour n g t (start_visit g (c + 1)) img).objects, suc-mul n g.size)
      go (refused k) a b = omega (arith, suc-mul n g.size)

  pub tour_few : check_of g (length img) ≡ 0 → length (tour g t img).objects ≤ 16777216
  unfolding tour_from
  tour_few fine =
      let f = fine_of_check g (length img) (check_of g (length img)) refl fine in
      omega (arith, blocks_few (g.count - 0) 0, ap (λ (n : ℕ). n * g.size) (sub-zero g.count), mul_comm g.count g.size, f.sound.bound)
