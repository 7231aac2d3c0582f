-- A pass over all blocks.
use mathlib.Core.Path.{◌≡◌}
use Prim.Native.Nat.{ℕ, suc, ◌+◌, ◌-◌, ◌≤◌, ◌<◌}
use native.Mathlib.Omega.{arith}
use Rattle.std.specs.Prelude.{Result, Ok, Err}
use Rattle.medium.specs.declared.geometry.Geometry.{Geometry}
use Rattle.medium.specs.declared.fuse.Fuse.{Fuse}
use Rattle.medium.specs.declared.fuse.Stopped.{Stopped}
use Rattle.medium.specs.declared.refusal.Refusal.{Refusal}
use Rattle.medium.specs.Refusal.{refusal_number, answer_of}
use Rattle.medium.specs.Fuse.{kept_by}
use Rattle.medium.specs.Operation.{done, refused, run, ◌>>=◌}
use Rattle.medium.specs.Beside.{Both, beside}
use Rattle.medium.proofs.Runs.{run_ask_in}
use Rattle.objects.proofs.Tested.{asked_on, asked_stop}
use Rattle.blocks.specs.declared.record.BlockInfo.{BlockInfo}
use Rattle.collector.specs.Table.{record_at}
use Rattle.collector.specs.Passes.{Step, block_step, sweep}

module _ (step : Step) (g : Geometry) where
  pub sweep_step : (n b : ℕ) (f : Fuse) (s : Both) → b < n → run f (sweep step (n - b) g b) s ≡ run f (block_step step g b >>= λ _. sweep step (n - (b + 1)) g (b + 1)) s
  unfolding sweep
  sweep_step n b f s h = let e : n - b ≡ suc (n - (b + 1)) = omega arith in rw e

  pub sweep_end : (n b : ℕ) (f : Fuse) (s : Both) → n ≤ b → run f (sweep step (n - b) g b) s ≡ record { answer = done tt; fuse = f; state = s }
  unfolding sweep
  sweep_end n b f s h = let e : n - b ≡ 0 = omega arith in rw e (run_ask_in beside f (λ _. done tt) s)

  -- the record is taken out first: with it comes the step, and its refusal is the block's
  module _ (b : ℕ) (f : Fuse) (s : Both) (r : Result BlockInfo Refusal) (e : answer_of r ≡ record_at s.table b) where
    pub block_on : {x : BlockInfo} → Ok x ≡ kept_by f r → run f (block_step step g b) s ≡ run f (step g b x) s
    unfolding block_step
    block_on h = asked_on f _ _ s r e h

    pub block_stop : {t : Stopped} → Err t ≡ kept_by f r → run f (block_step step g b) s ≡ record { answer = refused (refusal_number t.refusal); fuse = t.fuse; state = s }
    unfolding block_step
    block_stop h = asked_stop f _ _ s r e h
