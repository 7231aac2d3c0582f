-- A tour block by block: each object stands in the block that lists it, so what stands in a block is found from that block on.
use mathlib.Core.Path.{◌≡◌, refl, sym, ap, ◌∙◌, subst}
use mathlib.Core.Logic.{◌⊎◌, inl, inr}
use mathlib.Core.Bool.{Bool, true, false, ◌||◌, false≢true}
use mathlib.Core.List.{List, [], ◌∷◌, ◌++◌, append_assoc}
use Prim.Native.Nat.{ℕ, zero, suc, ◌+◌, ◌≤◌, ◌<◌}
use native.Mathlib.Omega.{arith}
use lib.ListN.{length}
use Rattle.medium.specs.declared.geometry.Geometry.{Geometry}
use Rattle.medium.specs.Granularity.{pick}
use Rattle.medium.specs.Geometry.{check_of}
use Rattle.medium.specs.Operation.{Answer, done, refused}
use Rattle.medium.proofs.Runs.{leb_is}
use Rattle.objects.specs.declared.location.ObjectLocation.{ObjectLocation}
use Rattle.objects.specs.declared.header.ObjectHeader.{ObjectHeader}
use Rattle.objects.specs.declared.iterator.ObjectIterator.{ObjectIterator}
use Rattle.objects.specs.Listing.{start_of, Met, object, free_place, block_end, next_of, list_by, list_from}
use Rattle.objects.proofs.Listing.{next_found, next_moves}
use Rattle.blocks.specs.declared.header.BlockType.{BlockType}
use Rattle.shown.proofs.Agreeing.{found_at}
use Rattle.storage.specs.Order.{Tour, tour_by, joined, is_finished, finished_in, open_tour, is_of, tour_if, start_visit, open_of, tour_from, tour}
use Rattle.storage.specs.Laws.{All}
use Rattle.storage.proofs.Lists.{all_append}
use Rattle.storage.proofs.Order.{tour_end, tour_on}
use Rattle.storage.proofs.Heads.{Ahead, Before, Sorted, sorted}
use Rattle.sweep.specs.Lists.{some}
use Rattle.sweep.specs.Referring.{same_at}
use Rattle.sweep.specs.Twins.{before}
use Rattle.sweep.proofs.Toured.{block_tour}
use Rattle.sweep.proofs.Alike.{some_append}
use Rattle.sweep.proofs.Lists.{all_map, some_behind, some_not, other_block}

-- the test whether an object stands at a place
abbrev pub stands_at : ObjectLocation → ObjectHeader → Bool
stands_at l d = same_at l d.location

abbrev pub InBlock : ℕ → ObjectHeader → Type 0
InBlock b h = h.location.block ≡ b

-- two tours that are joined, and nothing ends them
pub joined_done : (a b : Tour) → (joined a b).end ≡ done tt → ((joined a b).objects ≡ a.objects ++ b.objects) × (b.end ≡ done tt)
joined_done a b = go a.end
  where
    go : (e : Answer (Unit {0})) → (tour_by a.objects e b).end ≡ done tt → ((tour_by a.objects e b).objects ≡ a.objects ++ b.objects) × (b.end ≡ done tt)
    go (done u) q = (refl, q)
    go (refused n) q = let z : ◌≡◌ {A = ℕ} 0 1 = cc in absurd (omega arith)

module _ (g : Geometry) (img : List ℕ) where
  first_in : (b : ℕ) (f : Bool) (h : ObjectHeader) (hs : List ObjectHeader) → InBlock b h → All (InBlock b) hs → All (InBlock b) (pick f (h ∷ hs) hs)
  first_in b true h hs i a = (i, a)
  first_in b false h hs i a = a

  -- what is listed from a place on says the place's block
  listed_in : (n : ℕ) (i : ObjectIterator) → All (InBlock i.location.block) (finished_in (list_from n g i img).visits)
  unfolding list_from
  listed_in zero i = tt
  listed_in (suc n) i = go (next_of g i img) refl (λ j. listed_in n j)
    where
      go : (m : Answer Met) → next_of g i img ≡ m → ((j : ObjectIterator) → All (InBlock j.location.block) (finished_in (list_from n g j img).visits))
          → All (InBlock i.location.block) (finished_in (list_by m i (λ j. list_from n g j img)).visits)
      go (done (object h j)) e more =
          let l : h.location ≡ i.location = found_at g i.location img h (next_found g i img h j e).object in
          first_in i.location.block (is_finished h) h (finished_in (list_from n g j img).visits) (ap (λ (x : ObjectLocation). x.block) l)
          (subst (λ (b : ℕ). All (InBlock b) (finished_in (list_from n g j img).visits)) (next_moves g i img h j e).block (more j))
      go (done free_place) e more = tt
      go (done block_end) e more = tt
      go (refused k) e more = tt

  module _ (t : BlockType) where
    block-says : (b : ℕ) → All (InBlock b) (block_tour g t img b).objects
    unfolding open_tour
    block-says b = go (is_of g t b img)
      where
        go : (a : Answer Bool) → All (InBlock b) (tour_if a (open_tour g (start_of g b) img)).objects
        go (done true) = listed_in g.size (start_of g b)
        go (done false) = tt
        go (refused n) = tt

    block_on : (b : ℕ) → b < g.count → tour_from g t (start_visit g b) img ≡ joined (block_tour g t img b) (tour_from g t (start_visit g (b + 1)) img)
    unfolding open_of
    block_on b h = tour_on g t img (start_visit g b) h

    -- ---- the blocks before one

    -- what stands in them, and then the tour from there on
    pub record Passed (b : ℕ) : Type 0 where
      pub front : List ObjectHeader
      pub low : All (λ d. d.location.block < b) front
      pub order : (tour g t img).objects ≡ front ++ (tour_from g t (start_visit g b) img).objects
      pub end : (tour_from g t (start_visit g b) img).end ≡ done tt

    module _ (f : (tour g t img).end ≡ done tt) where
      pub passed : (b : ℕ) → b ≤ g.count → Passed b
      passed zero h = record { front = []; low = tt; order = refl; end = f }
      passed (suc b) h =
          let p = passed b (omega arith) in
          let j : tour_from g t (start_visit g b) img ≡ joined (block_tour g t img b) (tour_from g t (start_visit g (b + 1)) img) = block_on b (omega arith) in
          let s = joined_done (block_tour g t img b) (tour_from g t (start_visit g (b + 1)) img) (ap (λ (x : Tour). x.end) (sym j) ∙ p.end) in
          let y : b + 1 ≡ suc b = omega arith in
          record {
            front = p.front ++ (block_tour g t img b).objects;
            low = all_append (λ d. d.location.block < suc b) p.front (block_tour g t img b).objects
                (all_map (λ d. d.location.block < b) (λ d. d.location.block < suc b) (λ d k. omega arith) p.front p.low) (all_map (InBlock b) (λ d. d.location.block < suc b) (λ d k. omega arith) (block_tour g t img b).objects (block-says b));
            order =
                p.order ∙ ap (λ (x : Tour). p.front ++ x.objects) j ∙ ap (λ (hs : List ObjectHeader). p.front ++ hs) s.0
                ∙ sym (append_assoc p.front (block_tour g t img b).objects (tour_from g t (start_visit g (b + 1)) img).objects)
                ∙ ap (λ (n : ℕ). (p.front ++ (block_tour g t img b).objects) ++ (tour_from g t (start_visit g n) img).objects) y;
            end = ap (λ (n : ℕ). (tour_from g t (start_visit g n) img).end) (sym y) ∙ s.1;
          }

      -- no block from the last one on has any
      past_end : (b : ℕ) → g.count ≤ b → tour_from g t (start_visit g b) img ≡ tour_from g t (start_visit g g.count) img
      past_end b h = tour_end g t img (start_visit g b) h ∙ sym (tour_end g t img (start_visit g g.count) (omega arith))

      pub passed-any : (b : ℕ) → Passed b
      passed-any b = go (leb_is b g.count)
        where
          go : (b ≤ g.count) ⊎ (g.count < b) → Passed b
          go (inl h) = passed b h
          go (inr h) =
              let p = passed g.count (omega arith) in
              let e = past_end b (omega arith) in
              record {
                front = p.front;
                low = all_map (λ d. d.location.block < g.count) (λ d. d.location.block < b) (λ d k. omega arith) p.front p.low;
                order = p.order ∙ ap (λ (x : Tour). p.front ++ x.objects) (sym e);
                end = ap (λ (x : Tour). x.end) e ∙ p.end;
              }

      -- what stands at a place is found from its block on
      pub from_block : (l : ObjectLocation) → some (stands_at l) (tour g t img).objects ≡ some (stands_at l) (tour_from g t (start_visit g l.block) img).objects
      from_block l =
          let p = passed-any l.block in
          ap (some (stands_at l)) p.order
          ∙ some_behind (stands_at l) p.front (tour_from g t (start_visit g l.block) img).objects (all_map (λ d. d.location.block < l.block) (λ d. stands_at l d ≡ false) (λ d k. other_block l d.location (λ e. omega arith)) p.front p.low)

      -- and so is what stands before it, if anywhere
      pub from-earlier : (q : ObjectHeader → Bool) (l : ObjectLocation) (b : ℕ) → b ≤ l.block → some q (before l (tour_from g t (start_visit g b) img).objects) ≡ true
          → some q (before l (tour g t img).objects) ≡ true
      from-earlier q l b h e =
          let p = passed-any b in
          ap (λ (hs : List ObjectHeader). some q (before l hs)) p.order ∙ ap (some q) (behind p.front p.low)
          ∙ some_append q p.front (before l (tour_from g t (start_visit g b) img).objects) ∙ ap (λ (x : Bool). some q p.front || x) e ∙ or-true (some q p.front)
        where
          or-true : (x : Bool) → (x || true) ≡ true
          or-true true = refl
          or-true false = refl

          behind : (xs : List ObjectHeader) → All (λ d. d.location.block < b) xs
              → before l (xs ++ (tour_from g t (start_visit g b) img).objects) ≡ xs ++ before l (tour_from g t (start_visit g b) img).objects
          behind [] a = refl
          behind (x ∷ xs) a = rw (other_block l x.location (λ e. omega (arith, a.0))) (ap (λ (hs : List ObjectHeader). x ∷ hs) (behind xs a.1))

    -- ---- and once one of a later block is met, all are of later ones

    module _ (c : check_of g (length img) ≡ 0) (l : ObjectLocation) where
      abbrev pub Onward : List ObjectHeader → Type 0
      Onward hs = All (λ e. l.block ≤ e.location.block) hs × Sorted g t img c hs

      pub onward-start : Onward (tour_from g t (start_visit g l.block) img).objects
      onward-start =
          let s = sorted g t img c (tour_from g t (start_visit g l.block) img).objects (start_visit g l.block) (λ o. absurd (false≢true o)) refl in
          (all_map (λ e. Ahead g t img c (start_visit g l.block) e.location) (λ e. l.block ≤ e.location.block) (λ e a. ahead e.location a) (tour_from g t (start_visit g l.block) img).objects s.0, s.1)
        where
          ahead : (k : ObjectLocation) → Ahead g t img c (start_visit g l.block) k → l.block ≤ k.block
          ahead k (inl x) = omega arith
          ahead k (inr x) = omega (arith, x.0)

      module _ (hs : List ObjectHeader) (h : ObjectHeader) (rest : List ObjectHeader) (e : hs ≡ h ∷ rest) (o : Onward hs) where
        here : Onward (h ∷ rest)
        here = subst Onward e o

        pub onward-rest : Onward rest
        onward-rest = (here.0.1, here.1.1)

        pub onward-past : (h.location.block ≡ l.block → ⊥) → some (stands_at l) hs ≡ false
        onward-past n =
            ap (some (stands_at l)) e
            ∙ some_not (stands_at l) (h ∷ rest) (other_block l h.location n, all_map (Before g t img c h) (λ d. stands_at l d ≡ false) later rest here.1.0)
          where
            later : (d : ObjectHeader) → Before g t img c h d → stands_at l d ≡ false
            later d (inl x) = other_block l d.location (λ q. omega (arith, x, q, here.0.0))
            later d (inr x) = other_block l d.location (λ q. n (x.0 ∙ q))
