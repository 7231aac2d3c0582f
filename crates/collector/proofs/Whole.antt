-- Finished objects under a whole pass. A step touches only its own block and record, so a block is as it was when
-- the sweep comes to it, and stays as its own step left it.
use mathlib.Core.Path.{◌≡◌, refl}
use mathlib.Core.Logic.{inl}
use mathlib.Core.Bool.{Bool, true, false}
use mathlib.Core.List.{List, [], ◌∷◌}
use Prim.Native.Nat.{ℕ, zero, suc, ◌+◌, ◌≤◌, ◌<◌}
use native.Mathlib.Omega.{arith}
use lib.ListN.{length}
use lib.Dec.{eqb}
use borrow.Author.Tests.{eqb-true, eqb-false}
use Rattle.medium.specs.declared.geometry.Geometry.{Geometry}
use Rattle.medium.specs.declared.fuse.Fuse.{Fuse}
use Rattle.medium.specs.All.{All}
use Rattle.medium.specs.Geometry.{address}
use Rattle.medium.specs.Units.{FlashUnit}
use Rattle.medium.specs.Operation.{happen, done, or_refuse, ◌>>=◌, test, run}
use Rattle.medium.specs.Medium.{write, erase}
use Rattle.medium.specs.Beside.{Event, unit, Both, beside}
use Rattle.medium.proofs.Writes.{write_each}
use Rattle.medium.proofs.Frame.{other_block, write_misses, erase_misses}
use Rattle.medium.proofs.Beside.{Misses-event, Skips-event, byte_run, field_run, length_run}
use Rattle.medium.proofs.Events.{bind_each, asked_each, ask_each}
use Rattle.objects.specs.declared.header.ObjectHeader.{ObjectHeader}
use Rattle.objects.specs.Types.{rank_of}
use Rattle.objects.specs.Listing.{Visit, listing}
use Rattle.blocks.specs.declared.record.BlockInfo.{BlockInfo}
use Rattle.collector.specs.Table.{Pass, record_length, field_at, record_at, collectable}
use Rattle.collector.specs.Passes.{Step, block_step, sweep, pass, delete_invalid_objects}
use Rattle.collector.proofs.Tables.{collect_checked}
use Rattle.collector.specs.Finished.{PassKind, DeleteInvalidObjects, EraseInvalidFinishedBlocks, EraseFullFinishedBlocks, step_of, Allocated, Guarded, BlockKept, Programs, PassSpares, Formats, PassKeepsBlock, FirstNeverErases}
use Rattle.shown.proofs.Agreeing.{Agree, zero_of, short_size, agree_self, agree_on, listing_agree}
use Rattle.collector.proofs.Touched.{Visited, Own, own_visited, invalid-each, full-each}
use Rattle.collector.proofs.Untouched.{visit_of, Avoids, avoids_visited, first_each, Outside, finished_apart}
use Rattle.collector.proofs.Finished.{finished_shows, invalid_spares, full_spares}

-- ---- a step touches only its own block and record

every_none : (vs : List Visit) → All (λ _. Unit {0}) vs
every_none [] = tt
every_none (v ∷ vs) = (tt, every_none vs)

first_own : (g : Geometry) → g.s ≤ 3 → (P : Event → Type 0) (c : ℕ) → Own P g c → (r : BlockInfo) (s : Both) → All P (step_of DeleteInvalidObjects g c r s).events
first_own g few P c own r s = first_each g few c P (λ _. Unit {0}) (λ h e _ _. own_visited P g c own h e) r s (every_none (listing g c s.image).visits)

own_each : (k : PassKind) (g : Geometry) → g.s ≤ 3 → (P : Event → Type 0) (c : ℕ) → Own P g c → ((img : List ℕ) → All (λ u. P (unit u)) (erase g c img).events)
    → (r : BlockInfo) (s : Both) → All P (step_of k g c r s).events
own_each DeleteInvalidObjects g few P c own erases r s = first_own g few P c own r s
own_each EraseInvalidFinishedBlocks g few P c own erases r s = invalid-each P g c own erases r s
own_each EraseFullFinishedBlocks g few P c own erases r s = full-each P g c own erases r s

-- so a step on another block misses every byte of this one
pub step_misses : (k : PassKind) (g : Geometry) → g.s ≤ 3 → (b o c : ℕ) → o < g.size → (c ≡ b → ⊥) → (r : BlockInfo) (s : Both) → All (Misses-event (address g b o)) (step_of k g c r s).events
step_misses k g few b o c h n r s =
    let off = other_block g.size c b o n h in
    own_each k g few (Misses-event (address g b o)) c
    (record { writes = λ p bs img. write_misses g c p bs img (address g b o) off; words = λ _ _ _. tt })
    (λ img. erase_misses g c img (address g b o) off) r s

-- and every field of its record
pub step_skips : (k : PassKind) (g : Geometry) → g.s ≤ 3 → (b i c : ℕ) → i < record_length → (c ≡ b → ⊥) → (r : BlockInfo) (s : Both) → All (Skips-event (field_at b i)) (step_of k g c r s).events
step_skips k g few b i c h n r s =
    own_each k g few (Skips-event (field_at b i)) c
    (record { writes = λ p bs img. skipped (write g c p bs img).events; words = λ j v x e. n (omega arith) })
    (λ img. skipped (erase g c img).events) r s
  where
    skipped : (us : List FlashUnit) → All (λ u. Skips-event (field_at b i) (unit u)) us
    skipped [] = tt
    skipped (u ∷ us) = (tt, skipped us)

-- ---- sweeps

module _ (step : Step) (g : Geometry) (P : Event → Type 0) where
  pub block_each : (c : ℕ) (s : Both) → ((r : BlockInfo) → All P (step g c r s).events) → All P (block_step step g c s).events
  unfolding block_step
  block_each c s h = asked_each beside P (λ (x : Both). record_at x.table c) (λ r. step g c r) s (λ r _. h r)

  -- from block m on
  sweep_from : (m : ℕ) → ((c : ℕ) (r : BlockInfo) (s : Both) → m ≤ c → All P (step g c r s).events) → (n c : ℕ) (s : Both) → m ≤ c → All P (sweep step n g c s).events
  unfolding sweep
  sweep_from m h zero c s l = ask_each beside P (λ _. done (tt {0})) s
  sweep_from m h (suc n) c s l =
      bind_each beside P (block_step step g c) (λ _. sweep step n g (c + 1)) s (block_each c s (λ r. h c r s l))
      (λ _ _. sweep_from m h n (c + 1) (happen beside (block_step step g c s).events s) (omega arith))

module _ (k : PassKind) (g : Geometry) (few : g.s ≤ 3) (P : Event → Type 0) (b : ℕ) (img : List ℕ)
    (others : (c : ℕ) (r : BlockInfo) (s : Both) → (c ≡ b → ⊥) → All P (step_of k g c r s).events)
    (this : (r : BlockInfo) (s : Both) → Agree g b 0 g.size img s.image → All P (step_of k g b r s).events) where
  sweep_each : (n c : ℕ) (s : Both) → Agree g b 0 g.size img s.image → All P (sweep (step_of k) n g c s).events
  unfolding sweep
  sweep_each zero c s v = ask_each beside P (λ _. done (tt {0})) s
  sweep_each (suc n) c s v = go (eqb c b) refl (λ t w. sweep_each n (c + 1) t w)
    where
      go : (q : Bool) → eqb c b ≡ q → ((t : Both) → Agree g b 0 g.size img t.image → All P (sweep (step_of k) n g (c + 1) t).events)
          → All P ((block_step (step_of k) g c >>= λ _. sweep (step_of k) n g (c + 1)) s).events
      go true q more =
          let e = eqb-true c b q in
          bind_each beside P (block_step (step_of k) g c) (λ _. sweep (step_of k) n g (c + 1)) s
          (block_each (step_of k) g P c s (λ r. rw e (this r s v)))
          (λ _ _. sweep_from (step_of k) g P (suc b) (λ d r t l. others d r t (λ z. omega arith)) n (c + 1) (happen beside (block_step (step_of k) g c s).events s) (omega arith))
      go false q more =
          let ne = eqb-false c b q in
          bind_each beside P (block_step (step_of k) g c) (λ _. sweep (step_of k) n g (c + 1)) s
          (block_each (step_of k) g P c s (λ r. others c r s ne))
          (λ _ _. more (happen beside (block_step (step_of k) g c s).events s)
          (agree_on g b 0 g.size img (block_step (step_of k) g c s).events s v
          (λ o x y. block_each (step_of k) g (Misses-event (address g b o)) c s (λ r. step_misses k g few b o c y ne r s))))

-- ---- a pass

-- the test of the table passed, so the size field is short
pub tested_short : (g : Geometry) (s : Both) (u : Unit {0}) → or_refuse (collectable g (length s.image) s.table) ≡ done u → g.s ≤ 3
tested_short g s u e =
    short_size g (length s.image)
    (collect_checked g (length s.image) (collectable g (length s.image) s.table) s.table refl (zero_of (collectable g (length s.image) s.table) u e))

pass_each : (step : Step) (g : Geometry) (P : Event → Type 0) (s : Both) → (g.s ≤ 3 → All P (sweep step g.count g 0 s).events) → All P (pass step g s).events
unfolding pass test
pass_each step g P s h =
    asked_each beside P (λ (x : Both). or_refuse (collectable g (length x.image) x.table)) (λ _. sweep step g.count g 0) s (λ u e. h (tested_short g s u e))

-- a block of which a pass misses every byte and skips every field
pub kept_by_lem : {A : Type 0} (f : Fuse) (p : Pass A) (g : Geometry) (b : ℕ) (s : Both) → ((o : ℕ) → o < g.size → All (Misses-event (address g b o)) (p s).events)
    → ((i : ℕ) → i < record_length → All (Skips-event (field_at b i)) (p s).events) → BlockKept g b s (run f p s).state
kept_by_lem f p g b s m k =
    record {
      bytes = λ o h. byte_run f p s (address g b o) 0 (m o h);
      listed = listing_agree g b s.image (run f p s).state.image (record { long = length_run f p s; same = λ o _ h. byte_run f p s (address g b o) 0 (m o h) });
      fields = λ i h. field_run f p s (field_at b i) 0 (k i h);
    }

-- ---- the first pass

module _ (g : Geometry) (s : Both) (b : ℕ) where
  -- where each visit that the listing shows is so that the events of its repair have the property
  pub first_pass : (P : Event → Type 0) (W : Visit → Type 0)
      → (g.s ≤ 3 → (c : ℕ) (r : BlockInfo) (t : Both) → (c ≡ b → ⊥) → All P (step_of DeleteInvalidObjects g c r t).events)
      → (g.s ≤ 3 → (h : ObjectHeader) → h.location.block ≡ b → W (visit_of h) → rank_of h.state ≡ 1 → Visited P g b h)
      → All W (listing g b s.image).visits → All P (delete_invalid_objects g s).events
  first_pass P W others ok w =
      pass_each (step_of DeleteInvalidObjects) g P s
      (λ few. sweep_each DeleteInvalidObjects g few P b s.image (others few)
      (λ r t v. first_each g few b P W (ok few) r t (rw (listing_agree g b s.image t.image v) w))
      g.count 0 s (agree_self g b 0 g.size s.image))

  pub first_pass_misses : (o : ℕ) → o < g.size → Outside g o (listing g b s.image).visits → All (Misses-event (address g b o)) (delete_invalid_objects g s).events
  first_pass_misses o l w =
      first_pass (Misses-event (address g b o)) (λ v. Allocated v → Avoids g o v) (λ few c r t n. step_misses DeleteInvalidObjects g few b o c l n r t)
      (λ few h e k one. avoids_visited g few b o h e (k one)) w

-- ---- the second and the third

-- nothing is stored in a block that is guarded
guarded_each : (k : PassKind) → Formats k → (g : Geometry) (P : Event → Type 0) (b : ℕ) (r : BlockInfo) (s : Both) → Guarded (listing g b s.image) → All P (step_of k g b r s).events
guarded_each DeleteInvalidObjects p g P b r s h = absurd p
guarded_each EraseInvalidFinishedBlocks p g P b r s h = rw (invalid_spares g b r s h) tt
guarded_each EraseFullFinishedBlocks p g P b r s h = rw (full_spares g b r s h) tt

module _ (k : PassKind) (p : Formats k) (g : Geometry) (s : Both) (b : ℕ) (h : Guarded (listing g b s.image)) where
  format_pass : (P : Event → Type 0) → (g.s ≤ 3 → (c : ℕ) (r : BlockInfo) (t : Both) → (c ≡ b → ⊥) → All P (step_of k g c r t).events) → All P (pass (step_of k) g s).events
  format_pass P others =
      pass_each (step_of k) g P s
      (λ few. sweep_each k g few P b s.image (others few)
      (λ r t v. guarded_each k p g P b r t (rw (listing_agree g b s.image t.image v) h))
      g.count 0 s (agree_self g b 0 g.size s.image))

  pub format_pass_misses : (o : ℕ) → o < g.size → All (Misses-event (address g b o)) (pass (step_of k) g s).events
  format_pass_misses o l = format_pass (Misses-event (address g b o)) (λ few c r t n. step_misses k g few b o c l n r t)

  pub format_pass_skips : (i : ℕ) → i < record_length → All (Skips-event (field_at b i)) (pass (step_of k) g s).events
  format_pass_skips i l = format_pass (Skips-event (field_at b i)) (λ few c r t n. step_skips k g few b i c l n r t)

-- ---- the theorems of a pass

pub pass_keeps_block : PassKeepsBlock
unfolding PassKeepsBlock
pass_keeps_block k p f g s b h = kept_by_lem f (pass (step_of k) g) g b s (format_pass_misses k p g s b h) (format_pass_skips k p g s b h)

pub pass_spares : PassSpares
unfolding PassSpares
pass_spares k f g s b o l h = byte_run f (pass (step_of k) g) s (address g b o) 0 (go k)
  where
    shown : Guarded (listing g b s.image)
    shown = inl (finished_shows g o (listing g b s.image).visits h)

    go : (k : PassKind) → All (Misses-event (address g b o)) (pass (step_of k) g s).events
    go DeleteInvalidObjects = first_pass_misses g s b o l (finished_apart g b o s.image h)
    go EraseInvalidFinishedBlocks = format_pass_misses EraseInvalidFinishedBlocks tt g s b shown o l
    go EraseFullFinishedBlocks = format_pass_misses EraseFullFinishedBlocks tt g s b shown o l

pub first_never_erases : FirstNeverErases
unfolding FirstNeverErases
first_never_erases g s =
    pass_each (step_of DeleteInvalidObjects) g Programs s
    (λ few. sweep_from (step_of DeleteInvalidObjects) g Programs 0
    (λ c r t _. first_own g few Programs c (record { writes = λ o bs img. write_each (λ u. Programs (unit u)) (λ _ _. tt) g c o bs img; words = λ _ _ _. tt }) r t)
    g.count 0 s (omega arith))
