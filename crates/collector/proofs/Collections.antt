-- Finished objects under a whole collection: what the first pass leaves of a block decides whether the other two format it.
use mathlib.Core.Path.{◌≡◌, refl, sym, ◌∙◌}
use mathlib.Core.Logic.{inl, inr}
use mathlib.Core.Bool.{Bool, true, false}
use mathlib.Core.List.{List, [], ◌∷◌}
use Prim.Native.Nat.{ℕ, zero, suc, ◌+◌, ◌≤◌, ◌<◌}
use native.Mathlib.Omega.{arith}
use lib.ListN.{length}
use lib.Dec.{eqb}
use borrow.Author.Tests.{eqb-true, eqb-false}
use Rattle.medium.specs.declared.granularity.Granularity.{Granularity}
use Rattle.medium.specs.declared.granularity.Granularity.TheVariants.{Bit, Word1, Word4}
use Rattle.medium.specs.declared.geometry.Geometry.{Geometry}
use Rattle.medium.specs.All.{All}
use Rattle.medium.specs.Geometry.{address}
use Rattle.medium.specs.Operation.{happen, done, ◌>>=◌, ask, test}
use Rattle.medium.specs.Beside.{Event, Both, beside}
use Rattle.medium.proofs.Runs.{bound}
use Rattle.medium.proofs.Beside.{Misses-event, Skips-event, byte_run, bytes_stay, length_stays}
use Rattle.medium.proofs.Events.{bind_each}
use Rattle.medium.proofs.Left.{left, bind_left, asked, tested, ask_events}
use Rattle.objects.specs.Listing.{Visit, listing}
use Rattle.collector.specs.Table.{record_at, collectable, field_at}
use Rattle.collector.specs.Passes.{delete_invalid_objects_in_block, block_step, sweep, pass, delete_invalid_objects, erase_invalid_finished_blocks, erase_full_finished_blocks, collect}
use Rattle.collector.specs.Finished.{PassKind, DeleteInvalidObjects, EraseInvalidFinishedBlocks, EraseFullFinishedBlocks, step_of, Allocated, Shows, Reached, Guarded, Formats, RunSpares, RunKeepsBlock}
use Rattle.shown.proofs.Agreeing.{agree_self, agree_on, listing_agree}
use Rattle.collector.proofs.Untouched.{Outside, finished_apart}
use Rattle.collector.proofs.Finished.{finished_shows}
use Rattle.collector.proofs.Marked.{still_guarded}
use Rattle.collector.proofs.Unreadable.{block_guards}
use Rattle.collector.proofs.Whole.{step_misses, step_skips, block_each, tested_short, kept_by_lem, first_pass, first_pass_misses, format_pass_misses, format_pass_skips}

-- image and table behind the first pass
abbrev after : Geometry → Both → Both
after g s = happen beside (delete_invalid_objects g s).events s

module _ (g : Geometry) (s : Both) (b : ℕ) where
  -- the block is guarded behind the first pass, and so behind the second
  collect_each : (P : Event → Type 0) → All P (delete_invalid_objects g s).events → ((delete_invalid_objects g s).answer ≡ done tt → Guarded (listing g b (after g s).image))
      → ((k : PassKind) → Formats k → (t : Both) → Guarded (listing g b t.image) → All P (pass (step_of k) g t).events) → All P (collect g s).events
  unfolding collect
  collect_each P first guard others =
      bind_each beside P (delete_invalid_objects g) (λ _. erase_invalid_finished_blocks g >>= λ _. erase_full_finished_blocks g) s first
      (λ _ e. bind_each beside P (erase_invalid_finished_blocks g) (λ _. erase_full_finished_blocks g) (after g s) (others EraseInvalidFinishedBlocks tt (after g s) (guard e))
      (λ _ _. others EraseFullFinishedBlocks tt (happen beside (erase_invalid_finished_blocks g (after g s)).events (after g s)) (rw (same (guard e)) (guard e))))
    where
      same : Guarded (listing g b (after g s).image) → listing g b (happen beside (erase_invalid_finished_blocks g (after g s)).events (after g s)).image ≡ listing g b (after g s).image
      same h =
          listing_agree g b (after g s).image (happen beside (erase_invalid_finished_blocks g (after g s)).events (after g s)).image
          (agree_on g b 0 g.size (after g s).image (erase_invalid_finished_blocks g (after g s)).events (after g s) (agree_self g b 0 g.size (after g s).image)
          (λ o _ l. format_pass_misses EraseInvalidFinishedBlocks tt g (after g s) b h o l))

  collect_misses : (o : ℕ) → o < g.size → Outside g o (listing g b s.image).visits → ((delete_invalid_objects g s).answer ≡ done tt → Guarded (listing g b (after g s).image)) → All (Misses-event (address g b o)) (collect g s).events
  collect_misses o l w guard = collect_each (Misses-event (address g b o)) (first_pass_misses g s b o l w) guard (λ k p t h. format_pass_misses k p g t b h o l)

-- a finished object that is reached guards the block
reached_guards : (g : Geometry) (s : Both) (b : ℕ) → Reached g (listing g b s.image).visits → Guarded (listing g b (after g s).image)
reached_guards g s b r =
    still_guarded g b s.image (after g s).image (length_stays (delete_invalid_objects g s).events s)
    (λ o l w. bytes_stay (address g b o) 0 (delete_invalid_objects g s).events s (first_pass_misses g s b o l w)) r

-- ---- on a chip with words a block that is guarded stays so

module _ (g : Geometry) (few : g.s ≤ 3) (word : g.granularity ≡ Bit → ⊥) (b : ℕ) where
  own_guards : (s : Both) (u : Unit {0}) → Guarded (listing g b s.image) → (block_step delete_invalid_objects_in_block g b s).answer ≡ done u
      → Guarded (listing g b (left (block_step delete_invalid_objects_in_block g b) s).image)
  unfolding block_step ask
  own_guards s u h e =
      let x = bound (ask (λ (x : Both). record_at x.table b)) (λ r. delete_invalid_objects_in_block g b r) s u e in
      rw (asked {W = beside} (λ (x : Both). record_at x.table b) (λ r. delete_invalid_objects_in_block g b r) s x.value x.first) (block_guards g few word b x.value s h x.second)

  step_guards : (c : ℕ) (s : Both) (u : Unit {0}) → Guarded (listing g b s.image) → (block_step delete_invalid_objects_in_block g c s).answer ≡ done u
      → Guarded (listing g b (left (block_step delete_invalid_objects_in_block g c) s).image)
  step_guards c s u h e = go (eqb c b) refl e
    where
      go : (t : Bool) → eqb c b ≡ t → (block_step delete_invalid_objects_in_block g c s).answer ≡ done u → Guarded (listing g b (left (block_step delete_invalid_objects_in_block g c) s).image)
      go true q = rw (eqb-true c b q) (own_guards s u h)
      go false q =
          let n = eqb-false c b q in
          rw (listing_agree g b s.image (left (block_step delete_invalid_objects_in_block g c) s).image
          (agree_on g b 0 g.size s.image (block_step delete_invalid_objects_in_block g c s).events s (agree_self g b 0 g.size s.image)
          (λ o _ l. block_each delete_invalid_objects_in_block g (Misses-event (address g b o)) c s (λ r. step_misses DeleteInvalidObjects g few b o c l n r s)))) (λ _. h)

  sweep_guards : (n c : ℕ) (s : Both) → Guarded (listing g b s.image) → (sweep delete_invalid_objects_in_block n g c s).answer ≡ done tt
      → Guarded (listing g b (left (sweep delete_invalid_objects_in_block n g c) s).image)
  unfolding sweep
  sweep_guards zero c s h e = rw (ask_events beside (λ _. done (tt {0})) s) h
  sweep_guards (suc n) c s h e =
      let x = bound (block_step delete_invalid_objects_in_block g c) (λ _. sweep delete_invalid_objects_in_block n g (c + 1)) s tt e in
      rw (bind_left (block_step delete_invalid_objects_in_block g c) (λ _. sweep delete_invalid_objects_in_block n g (c + 1)) s x.value x.first)
      (sweep_guards n (c + 1) (left (block_step delete_invalid_objects_in_block g c) s) (step_guards c s x.value h x.first) x.second)

word_guards : (g : Geometry) (s : Both) (b : ℕ) → (g.granularity ≡ Bit → ⊥) → Guarded (listing g b s.image) → (delete_invalid_objects g s).answer ≡ done tt → Guarded (listing g b (after g s).image)
unfolding pass test ask
word_guards g s b word h e =
    let x = bound (test (λ (x : Both). collectable g (length x.image) x.table)) (λ _. sweep delete_invalid_objects_in_block g.count g 0) s tt e in
    let y = tested {W = beside} (λ (x : Both). collectable g (length x.image) x.table) (λ _. sweep delete_invalid_objects_in_block g.count g 0) s tt e in
    rw y (sweep_guards g (tested_short g s x.value x.first) word b g.count 0 s h (rw y at e))

-- ---- the theorems of a collection

pub run_spares : RunSpares
unfolding RunSpares
run_spares f g s b o l r h =
    byte_run f (collect g) s (address g b o) 0
    (collect_misses g s b o l (finished_apart g b o s.image h) (guard g.granularity refl))
  where
    guard : (k : Granularity) → g.granularity ≡ k → (delete_invalid_objects g s).answer ≡ done tt → Guarded (listing g b (after g s).image)
    guard Bit e d = reached_guards g s b (r e)
    guard Word1 e d = word_guards g s b (λ z. let q : ◌≡◌ {A = Granularity} Word1 Bit = sym e ∙ z in let o : ◌≡◌ {A = ℕ} 0 1 = cc in omega arith) (inl (finished_shows g o (listing g b s.image).visits h)) d
    guard Word4 e d = word_guards g s b (λ z. let q : ◌≡◌ {A = Granularity} Word4 Bit = sym e ∙ z in let o : ◌≡◌ {A = ℕ} 0 1 = cc in omega arith) (inl (finished_shows g o (listing g b s.image).visits h)) d

none_outside : (g : Geometry) (o : ℕ) (vs : List Visit) → All (λ v. Allocated v → ⊥) vs → Outside g o vs
none_outside g o [] h = tt
none_outside g o (v ∷ vs) h = ((λ one. absurd (h.0 one)), none_outside g o vs h.1)

shows_reached : (g : Geometry) (vs : List Visit) → All (λ v. Allocated v → ⊥) vs → Shows vs → Reached g vs
shows_reached g [] h s = s
shows_reached g (v ∷ vs) h (inl two) = inl two
shows_reached g (v ∷ vs) h (inr s) = inr ((λ one. absurd (h.0 one)), shows_reached g vs h.1 s)

pub run_keeps_block : RunKeepsBlock
unfolding RunKeepsBlock
run_keeps_block f g s b n h =
    let guard : (delete_invalid_objects g s).answer ≡ done tt → Guarded (listing g b (after g s).image) = λ _. reached_guards g s b (shows_reached g (listing g b s.image).visits n h) in
    kept_by_lem f (collect g) g b s (λ o l. collect_misses g s b o l (none_outside g o (listing g b s.image).visits n) guard)
    (λ i l. collect_each g s b (Skips-event (field_at b i))
    (first_pass g s b (Skips-event (field_at b i)) (λ v. Allocated v → ⊥) (λ few c r t m. step_skips DeleteInvalidObjects g few b i c l m r t) (λ _ _ _ k one. absurd (k one)) n)
    guard (λ k p t q. format_pass_skips k p g t b q i l))
