-- A test or a question beside the fuse, in front of a store: on where it passed, or its refusal with the fuse as it was.
use mathlib.Core.Path.{◌≡◌, sym, ap, ◌∙◌}
use Prim.Native.Nat.{ℕ}
use native.Mathlib.Omega.{arith}
use Rattle.std.specs.Prelude.{Result, Ok, Err}
use Rattle.medium.specs.declared.fuse.Fuse.{Fuse}
use Rattle.medium.specs.declared.fuse.Stopped.{Stopped}
use Rattle.medium.specs.declared.refusal.Refusal.{Refusal}
use Rattle.medium.specs.Refusal.{refusal_number, answer_of, code_of}
use Rattle.medium.specs.Fuse.{kept_by}
use Rattle.medium.specs.Operation.{World, OpIn, Answer, done, refused, ◌>>=◌, ask, test, run, answered}
use Rattle.medium.proofs.Refusals.{not_done, kept_err, kept_ok}
use Rattle.medium.proofs.Runs.{test_on, test_stop, ask_on, ask_stop}

-- what passed has the number 0
pub kept_zero : {A : Type 0} (f : Fuse) (r : Result A Refusal) (a : A) → Ok a ≡ kept_by f r → code_of r ≡ 0
kept_zero f r a h = ap code_of (kept_ok f r a h)

-- and is the answer
pub kept_done : {A : Type 0} (f : Fuse) (r : Result A Refusal) (a : A) → Ok a ≡ kept_by f r → answer_of r ≡ done a
kept_done f r a h = ap answer_of (kept_ok f r a h)

module _ {W : World} {A B : Type 0} (f : Fuse) (q : W.State → ℕ) (k : Unit {0} → OpIn W B) (img : W.State) (r : Result A Refusal) (e : code_of r ≡ q img) where
  pub tested_on : {a : A} → Ok a ≡ kept_by f r → run {W = W} f (test q >>= k) img ≡ run f (k tt) img
  tested_on {a} h = test_on {W = W} f q k img (code_of r) e (kept_zero f r a h)

  pub tested_stop : {s : Stopped} → Err s ≡ kept_by f r → run {W = W} f (test q >>= k) img ≡ record { answer = refused (refusal_number s.refusal); fuse = s.fuse; state = img }
  tested_stop {s} h =
      let v = kept_err f r s h in
      rw (v.fuse, v.code) (test_stop {W = W} f q k img (code_of r) e (λ z. not_done s.refusal (v.code ∙ z)))

module _ {W : World} {A B : Type 0} (f : Fuse) (q : W.State → Answer A) (k : A → OpIn W B) (img : W.State) (r : Result A Refusal) (e : answer_of r ≡ q img) where
  pub asked_on : {a : A} → Ok a ≡ kept_by f r → run {W = W} f (ask q >>= k) img ≡ run f (k a) img
  asked_on {a} h = ask_on {W = W} f q k img (sym e ∙ kept_done f r a h)

  pub asked_stop : {s : Stopped} → Err s ≡ kept_by f r → run {W = W} f (ask q >>= k) img ≡ record { answer = refused (refusal_number s.refusal); fuse = s.fuse; state = img }
  asked_stop {s} h =
      let v = kept_err f r s h in
      rw v.fuse (ask_stop {W = W} f q k img (sym e ∙ sym v.refused))

-- ---- a read into a lent buffer

heard_refused : {A : Type 0} (r : Result (Unit {0}) Refusal) (a : A) (n : ℕ) → refused n ≡ answer_of r → refused n ≡ answered r a
heard_refused (Ok u) a n h = let z : ◌≡◌ {A = ℕ} 0 1 = cc in absurd (omega arith)
heard_refused {A} (Err e) a n h = let q : n ≡ refusal_number e = cc in ap {B = Answer A} refused q

module _ {W : World} {A B : Type 0} (f : Fuse) (q : W.State → Answer A) (k : A → OpIn W B) (img : W.State) (r : Result (Unit {0}) Refusal) (a : A) (e : answered r a ≡ q img) where
  pub heard_on : {u : Unit {0}} → Ok u ≡ kept_by f r → run {W = W} f (ask q >>= k) img ≡ run f (k a) img
  heard_on {u} h = ask_on {W = W} f q k img (sym e ∙ ap (λ (x : Result (Unit {0}) Refusal). answered x a) (kept_ok f r u h))

  pub heard_stop : {s : Stopped} → Err s ≡ kept_by f r → run {W = W} f (ask q >>= k) img ≡ record { answer = refused (refusal_number s.refusal); fuse = s.fuse; state = img }
  heard_stop {s} h =
      let v = kept_err f r s h in
      rw v.fuse (ask_stop {W = W} f q k img (sym e ∙ sym (heard_refused r a (refusal_number s.refusal) v.refused)))
