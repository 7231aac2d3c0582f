-- Steps that are done, one after the other: what a sequence stored and gave, and what a fuse leaves of it at each cut.
use mathlib.Core.Path.{◌≡◌, refl, sym, ap, ◌∙◌}
use mathlib.Core.Logic.{◌⊎◌, inl, inr}
use mathlib.Core.Bool.{Bool, true, false}
use mathlib.Core.List.{List, [], ◌++◌, append-nil}
use Prim.Native.Nat.{ℕ, ◌≤◌, ◌<◌}
use native.Mathlib.Omega.{arith}
use lib.ListN.{length, take}
use lib.Seq.{take_all}
use lib.Dec.{leb}
use Rattle.medium.specs.declared.fuse.Fuse.TheVariants.{Absent, Units}
use Rattle.medium.specs.Units.{FlashUnit}
use Rattle.medium.specs.Operation.{flash, apply, cost, Answer, done, or_refuse, Run, Op, End, follow, ◌>>=◌, ◌>>◌, ask, give, test, cut_by, cut, run}
use Rattle.medium.proofs.Runs.{prefix_flash, cost_flash, leb_is, leb_yes, leb_no}

-- ---- steps that are done

-- a run that stored these units and gave this value
abbrev pub ran : {A : Type 0} → List FlashUnit → A → Run flash A
ran us x = record { events = us; answer = done x }

pub bind_ran : {A B : Type 0} (o : Op A) (p : A → Op B) (img : List ℕ) (us vs : List FlashUnit) (x : A) (y : B)
    → o img ≡ ran us x → p x (apply us img) ≡ ran vs y → (o >>= p) img ≡ ran (us ++ vs) y
unfolding ◌>>=◌
bind_ran {A} {B} o p img us vs x y e f =
    ap (λ (r : Run flash A). follow {W = flash} r.events r.answer p img) e
    ∙ ap (λ (r : Run flash B). record { events = us ++ r.events; answer = r.answer }) f

pub ask_ran : {A : Type 0} (q : List ℕ → Answer A) (m : List ℕ) (x : A) → q m ≡ done x → ask {W = flash} q m ≡ ran [] x
unfolding ask
ask_ran q m x e = rw e

pub test_ran : (q : List ℕ → ℕ) (m : List ℕ) → q m ≡ 0 → test {W = flash} q m ≡ ran [] tt
unfolding test
test_ran q m e = ask_ran (λ i. or_refuse (q i)) m tt (rw e)

-- a step that stores and then gives a value
pub store_ran : {A : Type 0} (o : Op (Unit {0})) (m : List ℕ) (us : List FlashUnit) (x : A) → o m ≡ ran us tt → (o >> give x) m ≡ ran us x
store_ran o m us x e = bind_ran o (λ _. give x) m us [] tt x e (ask_ran (λ _. done x) (apply us m) x refl) ∙ ap (λ (l : List FlashUnit). ran l x) (append-nil us)

-- a test, and then the rest
pub tested : {A : Type 0} (q : List ℕ → ℕ) (p : Op A) (m : List ℕ) (us : List FlashUnit) (x : A) → q m ≡ 0 → p m ≡ ran us x → (test q >> p) m ≡ ran us x
tested q p m us x e f = bind_ran (test q) (λ _. p) m [] us tt x (test_ran q m e) f

pub asked : {A B : Type 0} (q : List ℕ → Answer A) (p : A → Op B) (m : List ℕ) (us : List FlashUnit) (x : A) (y : B) → q m ≡ done x → p x m ≡ ran us y → (ask q >>= p) m ≡ ran us y
asked q p m us x y e f = bind_ran (ask q) p m [] us x y (ask_ran q m x e) f

-- ---- a traced run under a fuse

module _ {A : Type 0} (o : Op A) (vs : List FlashUnit) (x : A) (m : List ℕ) (e : o m ≡ ran vs x) where
  -- the image at each cut
  pub state_cut : (k : ℕ) → (run (Units k) o m).state ≡ apply (take k vs) m
  unfolding run
  state_cut k = ap (λ (r : Run flash A). (cut {W = flash} (Units k) r m).state) e ∙ go (leb_is (length vs) k)
    where
      go : (length vs ≤ k) ⊎ (k < length vs) → (cut {W = flash} (Units k) (ran vs x) m).state ≡ apply (take k vs) m
      go (inl c) = let d : cost flash vs ≤ k = omega (arith, cost_flash vs) in rw (leb_yes d) (ap (λ (u : List FlashUnit). apply u m) (sym (take_all k vs c)))
      go (inr c) = let d : k < cost flash vs = omega (arith, cost_flash vs) in rw (leb_no d) (ap (λ (u : List FlashUnit). apply u m) (prefix_flash k vs))

  pub power_cut : run Absent o m ≡ record { answer = done x; fuse = Absent; state = apply vs m }
  unfolding run
  power_cut = ap (λ (r : Run flash A). cut {W = flash} Absent r m) e

  -- on another image with the same units the same answer and fuse
  pub same_cut : (left : List ℕ) → o left ≡ ran vs x → (k : ℕ)
      → run (Units k) o left ≡ record { answer = (run (Units k) o m).answer; fuse = (run (Units k) o m).fuse; state = (run (Units k) o left).state }
  unfolding run
  same_cut left f k =
      ap (λ (r : Run flash A). record { answer = (cut {W = flash} (Units k) r left).answer; fuse = (cut {W = flash} (Units k) r left).fuse; state = (cut {W = flash} (Units k) (o left) left).state }) f
      ∙ go (leb (cost flash vs) k)
      ∙ ap (λ (r : Run flash A). record { answer = (cut {W = flash} (Units k) r m).answer; fuse = (cut {W = flash} (Units k) r m).fuse; state = (cut {W = flash} (Units k) (o left) left).state }) (sym e)
    where
      go : (b : Bool) → ◌≡◌ {A = End A} (record { answer = (cut_by {W = flash} b k (ran vs x) left).answer; fuse = (cut_by {W = flash} b k (ran vs x) left).fuse; state = (cut {W = flash} (Units k) (o left) left).state })
          (record { answer = (cut_by {W = flash} b k (ran vs x) m).answer; fuse = (cut_by {W = flash} b k (ran vs x) m).fuse; state = (cut {W = flash} (Units k) (o left) left).state })
      go true = refl
      go false = refl
