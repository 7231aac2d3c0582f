-- Sequences of operations, in any world: their parts may be grouped either way, and replaced by what does the same.
use mathlib.Core.Path.{◌≡◌, refl, ap}
use mathlib.Core.List.{◌++◌, append_assoc}
use Rattle.medium.specs.Operation.{World, happen, Answer, done, refused, Run, OpIn, follow, ◌>>=◌, ask, give}
use Rattle.medium.proofs.Runs.{happen_append}

pub bind_same : {W : World} {A B : Type 0} (o : OpIn W A) (p q : A → OpIn W B) (s : W.State) → ((a : A) (t : W.State) → p a t ≡ q a t) → (o >>= p) s ≡ (o >>= q) s
unfolding ◌>>=◌
bind_same {W} {A} {B} o p q s h = go (o s).answer
  where
    go : (a : Answer A) → follow {W = W} (o s).events a p s ≡ follow (o s).events a q s
    go (done a) = ap (λ (r : Run W B). record { events = (o s).events ++ r.events; answer = r.answer }) (h a (happen W (o s).events s))
    go (refused n) = refl

pub bind_assoc : {W : World} {A B C : Type 0} (o : OpIn W A) (p : A → OpIn W B) (q : B → OpIn W C) (s : W.State) → ((o >>= p) >>= q) s ≡ (o >>= λ a. p a >>= q) s
unfolding ◌>>=◌
bind_assoc {W} {A} {B} {C} o p q s = go (o s).answer
  where
    more : (a : A) (b : Answer B) → (p a (happen W (o s).events s)).answer ≡ b
        → follow {W = W} ((o s).events ++ (p a (happen W (o s).events s)).events) b q s
        ≡ record { events = (o s).events ++ (follow {W = W} (p a (happen W (o s).events s)).events b q (happen W (o s).events s)).events; answer = (follow {W = W} (p a (happen W (o s).events s)).events b q (happen W (o s).events s)).answer }
    more a (done b) e = rw (happen_append W (o s).events (p a (happen W (o s).events s)).events s, append_assoc)
    more a (refused n) e = refl

    go : (a : Answer A)
        → follow {W = W} (follow {W = W} (o s).events a p s).events (follow {W = W} (o s).events a p s).answer q s
        ≡ follow {W = W} (o s).events a (λ x t. follow {W = W} (p x t).events (p x t).answer q t) s
    go (done a) = more a (p a (happen W (o s).events s)).answer refl
    go (refused n) = refl

pub give_bind : {W : World} {A B : Type 0} (a : A) (p : A → OpIn W B) (s : W.State) → (give a >>= p) s ≡ p a s
unfolding ◌>>=◌ ask
give_bind a p s = refl

pub bind_first : {W : World} {A B : Type 0} (o p : OpIn W A) (q : A → OpIn W B) (s : W.State) → o s ≡ p s → (o >>= q) s ≡ (p >>= q) s
unfolding ◌>>=◌
bind_first {W} {A} o p q s e = ap (λ (r : Run W A). follow {W = W} r.events r.answer q s) e
