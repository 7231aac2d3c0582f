-- Events that all have a property, in any world: in sequences, and before a cut.
use mathlib.Core.Path.{◌≡◌, refl}
use mathlib.Core.Bool.{Bool, true, false}
use mathlib.Core.List.{List, [], ◌∷◌}
use Prim.Native.Nat.{ℕ, zero, suc}
use lib.Dec.{leb}
use Rattle.medium.specs.declared.fuse.Fuse.{Fuse}
use Rattle.medium.specs.declared.fuse.Fuse.TheVariants.{Absent, Units}
use Rattle.medium.specs.All.{All}
use Rattle.medium.specs.Granularity.{pick}
use Rattle.medium.specs.Operation.{World, happen, cost, prefix, Answer, done, refused, OpIn, follow, ◌>>=◌, ask, test, cut_by, run}
use Rattle.medium.proofs.Bytes.{All-append}

module _ (W : World) (P : W.Event → Type 0) where
  each_prefix : (k : ℕ) (es : List W.Event) → All P es → All P (prefix W k es)
  each_prefix zero [] h = tt
  each_prefix (suc k) [] h = tt
  each_prefix zero (e ∷ es) h = go (W.power e) (each_prefix zero es h.1)
    where
      go : (t : Bool) → All P (prefix W zero es) → All P (pick t [] (e ∷ prefix W zero es))
      go true r = tt
      go false r = (h.0, r)
  each_prefix (suc k) (e ∷ es) h = (h.0, go (W.power e) (λ m. each_prefix m es h.1))
    where
      go : (t : Bool) → ((m : ℕ) → All P (prefix W m es)) → All P (prefix W (pick t k (suc k)) es)
      go true r = r k
      go false r = r (suc k)

  pub bind_each : {A B : Type 0} (o : OpIn W A) (p : A → OpIn W B) (s : W.State) → All P (o s).events
      → ((x : A) → (o s).answer ≡ done x → All P (p x (happen W (o s).events s)).events) → All P ((o >>= p) s).events
  unfolding ◌>>=◌
  bind_each {A} {B} o p s h k = go (o s).answer refl
    where
      go : (x : Answer A) → (o s).answer ≡ x → All P (follow {W = W} (o s).events x p s).events
      go (done x) e = All-append P (o s).events (p x (happen W (o s).events s)).events h (k x e)
      go (refused n) e = h

  -- what is only asked stores nothing, and the state is the same
  pub ask_each : {A : Type 0} (q : W.State → Answer A) (s : W.State) → All P (ask {W = W} q s).events
  unfolding ask
  ask_each q s = tt

  pub test_each : (q : W.State → ℕ) (s : W.State) → All P (test {W = W} q s).events
  unfolding test ask
  test_each q s = tt

  pub asked_each : {A B : Type 0} (q : W.State → Answer A) (p : A → OpIn W B) (s : W.State) → ((x : A) → q s ≡ done x → All P (p x s).events)
      → All P ((ask {W = W} q >>= p) s).events
  unfolding ask
  asked_each q p s k = bind_each (ask {W = W} q) p s tt k

  -- ---- under a fuse: the state after some of the events

  pub record Happened (s t : W.State) : Type 0 where
    pub some : List W.Event
    pub each : All P some
    pub state : t ≡ happen W some s

  pub run_each : {A : Type 0} (f : Fuse) (o : OpIn W A) (s : W.State) → All P (o s).events → Happened s (run {W = W} f o s).state
  unfolding run
  run_each Absent o s h = record { some = (o s).events; each = h; state = refl }
  run_each {A} (Units k) o s h = go (leb (cost W (o s).events) k)
    where
      go : (t : Bool) → Happened s (cut_by {W = W} t k (o s) s).state
      go true = record { some = (o s).events; each = h; state = refl }
      go false = record { some = prefix W k (o s).events; each = each_prefix k (o s).events h; state = refl }
