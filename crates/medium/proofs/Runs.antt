-- The prefix law: running two operations one after the other under a fuse is running their sequence. And what callers cite of it.
use mathlib.Core.Path.{◌≡◌, refl, sym, ap, ◌∙◌, subst}
use mathlib.Core.Bool.{Bool, true, false, not}
use mathlib.Core.Logic.{◌⊎◌, inl, inr}
use mathlib.Core.List.{List, [], ◌∷◌, ◌++◌}
use Prim.Native.Nat.{ℕ, zero, suc, ◌+◌, ◌-◌, ◌≤◌, ◌<◌}
use native.Mathlib.Nat.{sub-add-eq, sub-zero, zero-add}
use native.Mathlib.Omega.{arith}
use lib.ListN.{length, take}
use Rattle.medium.specs.Granularity.{pick}
use Rattle.medium.specs.Units.{FlashUnit, step}
use Rattle.medium.specs.Operation.{apply, World, flash, happen, cost, prefix, OpIn, EndIn, or_refuse, Answer, done, refused, Run, follow, ◌>>=◌, ask, test, cut_by, cut, run, next, ended_by, ended_with}
use lib.Dec.{leb, T, leb→le, le→leb, nleb→lt}
use Rattle.medium.specs.declared.fuse.Fuse.{Fuse}
use Rattle.medium.specs.declared.fuse.Fuse.TheVariants.{Absent, Units}
use Rattle.medium.specs.Fuse.{Stored}
use Rattle.medium.specs.declared.fuse.Stopped.{Stopped}
use Rattle.medium.specs.Refusal.{refusal_number}
use Rattle.std.specs.Prelude.{Result, Ok, Err}

-- two lists of units, one after the other
pub apply-append : (us vs : List FlashUnit) (img : List ℕ) → apply (us ++ vs) img ≡ apply vs (apply us img)
apply-append [] vs img = refl
apply-append (u ∷ us) vs img = apply-append us vs (step u img)

-- a test of order that holds
pub leb_yes : {m n : ℕ} → m ≤ n → leb m n ≡ true
leb_yes {m} {n} h = go (leb m n) (le→leb m n h)
  where
    go : (b : Bool) → T b → b ≡ true
    go true t = refl
    go false t = absurd t

-- and one that does not
pub leb_no : {m n : ℕ} → n < m → leb m n ≡ false
leb_no {m} {n} h = go (leb m n) refl
  where
    go : (b : Bool) → leb m n ≡ b → b ≡ false
    go true e = let q : m ≤ n = leb→le m n (subst T (sym e) tt) in absurd (omega arith)
    go false e = refl

-- one of the two
pub leb_is : (m n : ℕ) → (m ≤ n) ⊎ (n < m)
leb_is m n = go (leb m n) refl
  where
    go : (b : Bool) → leb m n ≡ b → (m ≤ n) ⊎ (n < m)
    go true e = inl (leb→le m n (subst T (sym e) tt))
    go false e = inr (nleb→lt m n (subst (λ (b : Bool). T (not b)) (sym e) tt))

-- events one after the other
pub happen_append : (W : World) (us vs : List W.Event) (s : W.State) → happen W (us ++ vs) s ≡ happen W vs (happen W us s)
happen_append W [] vs s = refl
happen_append W (u ∷ us) vs s = happen_append W us vs (W.step u s)

-- what they cost together
pub cost_append : (W : World) (us vs : List W.Event) → cost W (us ++ vs) ≡ cost W us + cost W vs
cost_append W [] vs = sym (zero-add (cost W vs))
cost_append W (u ∷ us) vs = go (W.power u) (cost_append W us vs)
  where
    go : (b : Bool) → cost W (us ++ vs) ≡ cost W us + cost W vs → pick b (suc (cost W (us ++ vs))) (cost W (us ++ vs)) ≡ pick b (suc (cost W us)) (cost W us) + cost W vs
    go true h = omega (arith, h)
    go false h = h

-- a cut that falls behind the first events leaves them whole
pub prefix_over : (W : World) (k : ℕ) (us vs : List W.Event) → cost W us ≤ k → us ++ prefix W (k - cost W us) vs ≡ prefix W k (us ++ vs)
prefix_over W k [] vs h = rw (sub-zero k)
prefix_over W zero (u ∷ us) vs h = go (W.power u) h (λ j. prefix_over W j us vs)
  where
    go : (b : Bool) → pick b (suc (cost W us)) (cost W us) ≤ 0 → ((j : ℕ) → cost W us ≤ j → us ++ prefix W (j - cost W us) vs ≡ prefix W j (us ++ vs))
        → (u ∷ us) ++ prefix W (0 - pick b (suc (cost W us)) (cost W us)) vs ≡ pick b [] (u ∷ prefix W 0 (us ++ vs))
    go true h i = absurd (omega arith)
    go false h i = ap (λ (l : List W.Event). u ∷ l) (i 0 h)
prefix_over W (suc k) (u ∷ us) vs h = go (W.power u) h (λ j. prefix_over W j us vs)
  where
    go : (b : Bool) → pick b (suc (cost W us)) (cost W us) ≤ suc k → ((j : ℕ) → cost W us ≤ j → us ++ prefix W (j - cost W us) vs ≡ prefix W j (us ++ vs))
        → (u ∷ us) ++ prefix W (suc k - pick b (suc (cost W us)) (cost W us)) vs ≡ u ∷ prefix W (pick b k (suc k)) (us ++ vs)
    go true h i =
        let q : suc k - suc (cost W us) ≡ k - cost W us = omega arith in
        rw q (ap (λ (l : List W.Event). u ∷ l) (i k (omega arith)))
    go false h i = ap (λ (l : List W.Event). u ∷ l) (i (suc k) h)

-- a cut that falls within the first events drops the others
pub prefix_under : (W : World) (k : ℕ) (us vs : List W.Event) → k < cost W us → prefix W k (us ++ vs) ≡ prefix W k us
prefix_under W k [] vs h = absurd (omega arith)
prefix_under W zero (u ∷ us) vs h = go (W.power u) h (λ j. prefix_under W j us vs)
  where
    go : (b : Bool) → 0 < pick b (suc (cost W us)) (cost W us) → ((j : ℕ) → j < cost W us → prefix W j (us ++ vs) ≡ prefix W j us)
        → pick b [] (u ∷ prefix W 0 (us ++ vs)) ≡ pick b [] (u ∷ prefix W 0 us)
    go true h i = refl
    go false h i = ap (λ (l : List W.Event). u ∷ l) (i 0 h)
prefix_under W (suc k) (u ∷ us) vs h = go (W.power u) h (λ j. prefix_under W j us vs)
  where
    go : (b : Bool) → suc k < pick b (suc (cost W us)) (cost W us) → ((j : ℕ) → j < cost W us → prefix W j (us ++ vs) ≡ prefix W j us)
        → u ∷ prefix W (pick b k (suc k)) (us ++ vs) ≡ u ∷ prefix W (pick b k (suc k)) us
    go true h i = ap (λ (l : List W.Event). u ∷ l) (i k (omega arith))
    go false h i = ap (λ (l : List W.Event). u ∷ l) (i (suc k) h)

-- in flash every event is a unit
pub cost_flash : (us : List FlashUnit) → cost flash us ≡ length us
cost_flash [] = refl
cost_flash (u ∷ us) = ap (λ (n : ℕ). suc n) (cost_flash us)

-- so a cut takes the first k of them
pub prefix_flash : (k : ℕ) (us : List FlashUnit) → prefix flash k us ≡ take k us
prefix_flash zero [] = refl
prefix_flash (suc k) [] = refl
prefix_flash zero (u ∷ us) = refl
prefix_flash (suc k) (u ∷ us) = ap (λ (l : List FlashUnit). u ∷ l) (prefix_flash k us)

on_events : {W : World} {B : Type 0} (k : ℕ) (us : List W.Event) (r : Run W B) (s : W.State) → cost W us ≤ k
    → cut {W = W} (Units k) (record { events = us ++ r.events; answer = r.answer }) s ≡ cut (Units (k - cost W us)) r (happen W us s)
on_events {W} {B} k us r s h = go (leb_is (cost W r.events) (k - cost W us))
  where
    go : (cost W r.events ≤ k - cost W us) ⊎ (k - cost W us < cost W r.events)
        → cut {W = W} (Units k) (record { events = us ++ r.events; answer = r.answer }) s ≡ cut (Units (k - cost W us)) r (happen W us s)
    go (inl c) =
        let e : cost W (us ++ r.events) ≡ cost W us + cost W r.events = cost_append W us r.events in
        let c' : cost W (us ++ r.events) ≤ k = omega arith in
        rw (leb_yes c, leb_yes c', happen_append, cost_append, sub-add-eq)
    go (inr c) =
        let e : cost W (us ++ r.events) ≡ cost W us + cost W r.events = cost_append W us r.events in
        let c' : k < cost W (us ++ r.events) = omega arith in
        rw (leb_no c, leb_no c', sym (prefix_over W k us r.events h), happen_append)

stopped : {W : World} {B : Type 0} (k : ℕ) (us : List W.Event) (r : Run W B) (s : W.State) → k < cost W us
    → cut {W = W} (Units k) (record { events = us ++ r.events; answer = r.answer }) s ≡ record { answer = refused 8; fuse = Units 0; state = happen W (prefix W k us) s }
stopped {W} k us r s h =
    let e : cost W (us ++ r.events) ≡ cost W us + cost W r.events = cost_append W us r.events in
    let h' : k < cost W (us ++ r.events) = omega arith in
    rw (leb_no h', prefix_under W k us r.events h)

seq_cut : {W : World} {A B : Type 0} (f : Fuse) (us : List W.Event) (a : Answer A) (p : A → OpIn W B) (s : W.State)
    → cut {W = W} f (follow us a p s) s ≡ next (cut {W = W} f (record { events = us; answer = a }) s) (λ x f' i. run f' (p x) i)
unfolding run
seq_cut {W = W} Absent us (done x) p s = rw happen_append
seq_cut Absent us (refused n) p s = refl
seq_cut {W = W} {A = A} {B} (Units k) us (done x) p s = go (leb_is (cost W us) k)
  where
    go : (cost W us ≤ k) ⊎ (k < cost W us)
        → cut {W = W} (Units k) (follow us (done x) p s) s ≡ next (cut {W = W} (Units k) (record { events = us; answer = done x }) s) (λ x f' i. run f' (p x) i)
    go (inl h) = rw (leb_yes h) (on_events {W = W} k us (p x (happen W us s)) s h)
    go (inr h) = rw (leb_no h) (stopped {W = W} k us (p x (happen W us s)) s h)
seq_cut {W = W} {A = A} {B} (Units k) us (refused n) p s = go (leb (cost W us) k)
  where
    go : (b : Bool) → cut_by {W = W} {A = B} b k (record { events = us; answer = refused n }) s
        ≡ next (cut_by {W = W} {A = A} b k (record { events = us; answer = refused n }) s) (λ x f' i. run f' (p x) i)
    go true = refl
    go false = refl

-- THE LAW: the sequence under a fuse is the first under it and, if that gave a value, the second under what is left
pub run_bind : {W : World} {A B : Type 0} (f : Fuse) (o : OpIn W A) (p : A → OpIn W B) (img : W.State) → run f (o >>= p) img ≡ next (run f o img) (λ x f' i. run f' (p x) i)
unfolding run ◌>>=◌
run_bind f o p img = seq_cut f (o img).events (o img).answer p img

-- a question stores nothing and spends nothing, in any world
pub run_ask_in : (W : World) {A : Type 0} (f : Fuse) (q : W.State → Answer A) (img : W.State) → run {W = W} f (ask q) img ≡ record { answer = q img; fuse = f; state = img }
unfolding run ask
run_ask_in W Absent q img = refl
run_ask_in W (Units k) q img = rw (leb_yes {m = 0} {n = k} (omega arith), sub-zero)

-- and on the image
pub run_ask : {A : Type 0} (f : Fuse) (q : List ℕ → Answer A) (img : List ℕ) → run {W = flash} f (ask q) img ≡ record { answer = q img; fuse = f; state = img }
run_ask f q img = run_ask_in flash f q img

-- ---- a caller's steps, for a store

module _ {W : World} {A B : Type 0} (f : Fuse) (o : OpIn W A) (k : A → OpIn W B) (img i : W.State) (r : Stored) (a : A) (f' : Fuse) (e : ended_by r a i ≡ run f o img) where
  -- the step was done: go on with its value, its fuse and its state
  pub on : r ≡ Ok f' → run f (o >>= k) img ≡ run f' (k a) i
  on d = run_bind f o k img ∙ rw (← e, d)

  -- it was refused: so is the whole
  pub stop : {s : Stopped} → r ≡ Err s → run f (o >>= k) img ≡ record { answer = refused (refusal_number s.refusal); fuse = s.fuse; state = i }
  stop d = run_bind f o k img ∙ rw (← e, d)

-- ---- and for a store that hands a value on

module _ {W : World} {A B : Type 0} (f : Fuse) (o : OpIn W A) (k : A → OpIn W B) (img i : W.State) (r : Result (A × Fuse) Stopped) (e : ended_with r i ≡ run f o img) where
  pub on_with : {x : A × Fuse} → r ≡ Ok x → run f (o >>= k) img ≡ run x.1 (k x.0) i
  on_with d = run_bind f o k img ∙ rw (← e, d)

  pub stop_with : {s : Stopped} → r ≡ Err s → run f (o >>= k) img ≡ record { answer = refused (refusal_number s.refusal); fuse = s.fuse; state = i }
  stop_with d = run_bind f o k img ∙ rw (← e, d)

-- ---- and for a question that is asked of the image

module _ {W : World} {A B : Type 0} (f : Fuse) (q : W.State → Answer A) (k : A → OpIn W B) (img : W.State) where
  -- the question was answered: go on with the value
  pub ask_on : {a : A} → q img ≡ done a → run {W = W} f (ask q >>= k) img ≡ run f (k a) img
  ask_on d = run_bind {W = W} f (ask q) k img ∙ rw (run_ask_in W f q img, d)

  -- it was refused: so is the whole
  pub ask_stop : {n : ℕ} → q img ≡ refused n → run {W = W} f (ask q >>= k) img ≡ record { answer = refused n; fuse = f; state = img }
  ask_stop d = run_bind {W = W} f (ask q) k img ∙ rw (run_ask_in W f q img, d)

-- ---- and for a test that gives a number

or_done : (r : ℕ) → r ≡ 0 → or_refuse r ≡ done tt
or_done zero e = refl
or_done (suc n) e = absurd (omega arith)

or_stop : (r : ℕ) → (r ≡ 0 → ⊥) → or_refuse r ≡ refused r
or_stop zero e = absurd (e refl)
or_stop (suc n) e = refl

module _ {W : World} {B : Type 0} (f : Fuse) (q : W.State → ℕ) (k : Unit {0} → OpIn W B) (img : W.State) (r : ℕ) (e : r ≡ q img) where
  -- the test gave 0: go on
  pub test_on : r ≡ 0 → run {W = W} f (test q >>= k) img ≡ run f (k tt) img
  unfolding test
  test_on z = ask_on {W = W} f (λ i. or_refuse (q i)) k img (ap or_refuse (sym e) ∙ or_done r z)

  -- it gave another number: that is the refusal
  pub test_stop : (r ≡ 0 → ⊥) → run {W = W} f (test q >>= k) img ≡ record { answer = refused r; fuse = f; state = img }
  unfolding test
  test_stop z = ask_stop {W = W} f (λ i. or_refuse (q i)) k img (ap or_refuse (sym e) ∙ or_stop r z)

-- ---- the value that a run gave is the operation's

-- where the call is done, its value is the answer of the operation
pub value_of : {W : World} {A : Type 0} (f : Fuse) (o : OpIn W A) (img i : W.State) (r : Stored) (a : A) (f' : Fuse) → ended_by r a i ≡ run f o img → r ≡ Ok f' → (o img).answer ≡ done a
unfolding run
value_of {W} {A} f o img i r a f' e d = go f (sym (rw d at e))
  where
    lost : (b : Bool) (k : ℕ) → cut_by b k (o img) img ≡ record { answer = done a; fuse = f'; state = i } → (o img).answer ≡ done a
    lost true k h = ap (λ (x : EndIn W.State A). x.answer) h
    lost false k h = let q : ◌≡◌ {A = Answer A} (refused 8) (done a) = ap (λ (x : EndIn W.State A). x.answer) h in let z : ◌≡◌ {A = ℕ} 0 1 = cc in absurd (omega arith)

    go : (g : Fuse) → cut g (o img) img ≡ record { answer = done a; fuse = f'; state = i } → (o img).answer ≡ done a
    go Absent h = ap (λ (x : EndIn W.State A). x.answer) h
    go (Units k) h = lost (leb (cost W (o img).events) k) k h

-- and a run that is done leaves what all its events leave
pub run_done : {W : World} {A : Type 0} (f : Fuse) (o : OpIn W A) (s : W.State) (a : A) → (run f o s).answer ≡ done a → (run f o s).state ≡ (run Absent o s).state
unfolding run
run_done Absent o s a e = refl
run_done {W} (Units k) o s a e = go (leb (cost W (o s).events) k) e
  where
    go : (t : Bool) → (cut_by {W = W} t k (o s) s).answer ≡ done a → (cut_by {W = W} t k (o s) s).state ≡ happen W (o s).events s
    go true h = refl
    go false h = let z : ◌≡◌ {A = ℕ} 0 1 = cc in absurd (omega arith)

-- a sequence that gave b: the value between its steps
pub record Bound {W : World} {A B : Type 0} (o : OpIn W A) (p : A → OpIn W B) (img : W.State) (b : B) : Type 0 where
  pub value : A
  pub first : (o img).answer ≡ done value
  pub second : (p value (happen W (o img).events img)).answer ≡ done b

-- a sequence that gave a value gave one at each step
pub bound : {W : World} {A B : Type 0} (o : OpIn W A) (p : A → OpIn W B) (img : W.State) (b : B) → ((o >>= p) img).answer ≡ done b → Bound o p img b
unfolding ◌>>=◌
bound {W} {A} {B} o p img b e = go (o img).answer refl e
  where
    go : (a : Answer A) → (o img).answer ≡ a → (follow (o img).events a p img).answer ≡ done b → Bound o p img b
    go (done a) q h = record { value = a; first = q; second = h }
    go (refused n) q h = let z : ◌≡◌ {A = ℕ} 0 1 = cc in absurd (omega arith)
