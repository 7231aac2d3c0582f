-- The state that an operation leaves with power, step by step: what a value between two steps tells. In any world.
use mathlib.Core.Path.{◌≡◌, refl}
use mathlib.Core.List.{[], ◌++◌}
use Prim.Native.Nat.{ℕ}
use native.Mathlib.Omega.{arith}
use Rattle.medium.specs.Operation.{World, happen, Answer, done, refused, or_refuse, OpIn, follow, ◌>>=◌, ask, test}
use Rattle.medium.proofs.Runs.{happen_append}

abbrev pub left : {W : World} {A : Type 0} → OpIn W A → W.State → W.State
left {W} o s = happen W (o s).events s

pub bind_left : {W : World} {A B : Type 0} (o : OpIn W A) (p : A → OpIn W B) (s : W.State) (x : A) → (o s).answer ≡ done x → left (o >>= p) s ≡ left (p x) (left o s)
unfolding ◌>>=◌
bind_left {W} o p s x e = rw e (happen_append W (o s).events (p x (left o s)).events s)

-- the events of both
pub bind_events : {W : World} {A B : Type 0} (o : OpIn W A) (p : A → OpIn W B) (s : W.State) (x : A) → (o s).answer ≡ done x → ((o >>= p) s).events ≡ (o s).events ++ (p x (left o s)).events
unfolding ◌>>=◌
bind_events o p s x e = rw e

-- behind a test that was passed comes the rest
pub tested : {W : World} {B : Type 0} (q : W.State → ℕ) (p : Unit {0} → OpIn W B) (s : W.State) (b : B) → ((test q >>= p) s).answer ≡ done b → (test q >>= p) s ≡ p tt s
unfolding ◌>>=◌ test ask
tested {W} {B} q p s b e = go (or_refuse (q s)) e
  where
    go : (x : Answer (Unit {0})) → (follow {W = W} [] x p s).answer ≡ done b → follow {W = W} [] x p s ≡ p tt s
    go (done tt) h = refl
    go (refused n) h = let z : ◌≡◌ {A = ℕ} 0 1 = cc in absurd (omega arith)

-- and behind a question that was answered
pub asked : {W : World} {A B : Type 0} (q : W.State → Answer A) (p : A → OpIn W B) (s : W.State) (x : A) → q s ≡ done x → (ask q >>= p) s ≡ p x s
unfolding ◌>>=◌ ask
asked q p s x e = rw e

pub record Answered {W : World} {A B : Type 0} (q : W.State → Answer A) (p : A → OpIn W B) (s : W.State) : Type 0 where
  pub value : A
  pub told : q s ≡ done value
  pub same : (ask q >>= p) s ≡ p value s

pub answered : {W : World} {A B : Type 0} (q : W.State → Answer A) (p : A → OpIn W B) (s : W.State) (b : B) → ((ask q >>= p) s).answer ≡ done b → Answered {W = W} q p s
unfolding ◌>>=◌ ask
answered {W} {A} {B} q p s b e = go (q s) refl e
  where
    go : (x : Answer A) → q s ≡ x → (follow {W = W} [] x p s).answer ≡ done b → Answered {W = W} q p s
    go (done x) r h = record { value = x; told = r; same = rw r }
    go (refused n) r h = let z : ◌≡◌ {A = ℕ} 0 1 = cc in absurd (omega arith)

-- a question stores nothing
pub ask_events : (W : World) {A : Type 0} (q : W.State → Answer A) (s : W.State) → (ask {W = W} q s).events ≡ []
unfolding ask
ask_events W q s = refl
