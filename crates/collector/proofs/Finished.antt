-- Finished objects: the second and the third pass find no reason to format a block in which a listing shows one, or whose listing breaks
-- off, and store nothing at all there.
use mathlib.Core.Path.{◌≡◌, refl}
use mathlib.Core.Logic.{◌⊎◌, inl, inr}
use mathlib.Core.Bool.{Bool, true, false}
use mathlib.Core.List.{List, [], ◌∷◌}
use Prim.Native.Nat.{ℕ, ◌-◌}
use native.Mathlib.Omega.{arith}
use lib.Dec.{leb, eqb}
use borrow.Author.Tests.{eqb-true}
use Rattle.medium.specs.declared.geometry.Geometry.{Geometry}
use Rattle.medium.specs.Granularity.{pick, header}
use Rattle.medium.specs.Operation.{Answer, done, refused, ask, give, follow, ◌>>=◌}
use Rattle.medium.specs.Beside.{Both, beside}
use Rattle.objects.specs.Types.{rank_of}
use Rattle.objects.specs.Listing.{Visit, Stop, end, free, broken, listing}
use Rattle.blocks.specs.declared.record.BlockInfo.{BlockInfo}
use Rattle.blocks.specs.Scan.{unless_broken}
use Rattle.collector.specs.Table.{Pass}
use Rattle.collector.specs.Passes.{last_of, ends_unfinished, unfinished_in, all_deleted, deleted_in, erasing, erase_invalid_finished_block, erase_full_finished_block}
use Rattle.collector.specs.Finished.{Finalized, Shows, Finished, Broken, Guarded}

pub finished_shows : (g : Geometry) (o : ℕ) (vs : List Visit) → Finished g o vs → Shows vs
finished_shows g o [] h = h
finished_shows g o (v ∷ vs) (inl h) = inl h.0
finished_shows g o (v ∷ vs) (inr h) = inr (finished_shows g o vs h)

-- ---- what the passes find there: no reason to erase

-- behind an object that is not finished
rest : (v : Visit) (vs : List Visit) (s : Stop) → (Finalized v → ⊥) → Shows (v ∷ vs) ⊎ Broken s → Shows vs ⊎ Broken s
rest v vs s n (inl (inl two)) = absurd (n two)
rest v vs s n (inl (inr h)) = inl h
rest v vs s n (inr h) = inr h

-- a listing that breaks off gives no value
broken_off : (s : Stop) → Shows [] ⊎ Broken s → unless_broken s true ≡ done true → ⊥
broken_off s (inl h) e = h
broken_off end (inr h) e = h
broken_off free (inr h) e = h
broken_off (broken n) (inr h) e = let z : ◌≡◌ {A = ℕ} 0 1 = cc in omega arith

unfinished_spares : (vs : List Visit) (s : Stop) → Shows vs ⊎ Broken s → ends_unfinished vs s ≡ done true → ⊥
unfinished_spares [] s h e = none s e
  where
    none : (t : Stop) → unless_broken t false ≡ done true → ⊥
    none end p = let z : ◌≡◌ {A = ℕ} 0 1 = cc in omega arith
    none free p = let z : ◌≡◌ {A = ℕ} 0 1 = cc in omega arith
    none (broken n) p = let z : ◌≡◌ {A = ℕ} 0 1 = cc in omega arith
unfinished_spares (v ∷ vs) s h e = go (eqb (rank_of v.object.state) 3) (eqb (rank_of v.object.state) 1) refl refl e (λ k. unfinished_spares vs s k)
  where
    last : (ws : List Visit) → Shows ws ⊎ Broken s → last_of ws s ≡ done true → ⊥
    last [] k p = broken_off s k p
    last (w ∷ ws) k p = let z : ◌≡◌ {A = ℕ} 0 1 = cc in omega arith

    go : (b c : Bool) → eqb (rank_of v.object.state) 3 ≡ b → eqb (rank_of v.object.state) 1 ≡ c
        → pick b (ends_unfinished vs s) (pick c (last_of vs s) (done false)) ≡ done true → (Shows vs ⊎ Broken s → ends_unfinished vs s ≡ done true → ⊥) → ⊥
    go true c q r p more = more (rest v vs s (λ two. omega (arith, eqb-true (rank_of v.object.state) 3 q, two)) h) p
    go false true q r p more = last vs (rest v vs s (λ two. omega (arith, eqb-true (rank_of v.object.state) 1 r, two)) h) p
    go false false q r p more = let z : ◌≡◌ {A = ℕ} 0 1 = cc in omega arith

deleted_spares : (vs : List Visit) (s : Stop) → Shows vs ⊎ Broken s → all_deleted vs s ≡ done true → ⊥
deleted_spares [] s h e = broken_off s h e
deleted_spares (v ∷ vs) s h e = go (eqb (rank_of v.object.state) 3) refl e (λ k. deleted_spares vs s k)
  where
    go : (b : Bool) → eqb (rank_of v.object.state) 3 ≡ b → pick b (all_deleted vs s) (done false) ≡ done true → (Shows vs ⊎ Broken s → all_deleted vs s ≡ done true → ⊥) → ⊥
    go true q p more = more (rest v vs s (λ two. omega (arith, eqb-true (rank_of v.object.state) 3 q, two)) h) p
    go false q p more = let z : ◌≡◌ {A = ℕ} 0 1 = cc in omega arith

-- ---- so nothing is stored, not a unit and not a field

module _ (g : Geometry) (b : ℕ) (r : BlockInfo) (s : Both) (h : Guarded (listing g b s.image)) where
  silent : (a : Answer Bool) → (a ≡ done true → ⊥) → (follow {W = beside} [] a (λ d. erasing g b r d) s).events ≡ []
  unfolding erasing ask
  silent (done true) n = absurd (n refl)
  silent (done false) n = refl
  silent (refused k) n = refl

  pub invalid_spares : (erase_invalid_finished_block g b r s).events ≡ []
  unfolding erase_invalid_finished_block ◌>>=◌ ask
  invalid_spares = go r.allow_alloc
    where
      go : (t : Bool) → (pick {A = Pass (Unit {0})} t (give tt) (ask (λ (x : Both). unfinished_in (listing g b x.image)) >>= λ d. erasing g b r d) s).events ≡ []
      go true = refl
      go false = silent (unfinished_in (listing g b s.image)) (unfinished_spares (listing g b s.image).visits (listing g b s.image).stop h)

  pub full_spares : (erase_full_finished_block g b r s).events ≡ []
  unfolding erase_full_finished_block ◌>>=◌ ask
  full_spares = go (leb (g.size - header g.granularity g.s) r.used_bytes)
    where
      go : (t : Bool) → (pick {A = Pass (Unit {0})} t (give tt) (ask (λ (x : Both). deleted_in (listing g b x.image)) >>= λ d. erasing g b r d) s).events ≡ []
      go true = refl
      go false = silent (deleted_in (listing g b s.image)) (deleted_spares (listing g b s.image).visits (listing g b s.image).stop h)
