-- A test in front of an answer: on with 0, or the refusal.
use mathlib.Core.Path.{◌≡◌, refl, sym, ap, ◌∙◌}
use Prim.Native.Nat.{ℕ, zero, suc}
use native.Mathlib.Omega.{arith}
use Rattle.medium.specs.Operation.{Answer, done, refused, and_then, or_refuse}

module _ {B : Type 0} (k : Unit {0} → Answer B) (r n : ℕ) (e : r ≡ n) where
  pub gate_on : r ≡ 0 → and_then (or_refuse n) k ≡ k tt
  gate_on z = go n (sym e ∙ z)
    where
      go : (m : ℕ) → m ≡ 0 → and_then (or_refuse m) k ≡ k tt
      go zero h = refl
      go (suc m) h = absurd (omega arith)

  pub gate_stop : (r ≡ 0 → ⊥) → and_then (or_refuse n) k ≡ refused r
  gate_stop z = go n e
    where
      go : (m : ℕ) → r ≡ m → and_then (or_refuse m) k ≡ refused r
      go zero h = absurd (z h)
      go (suc m) h = ap refused (sym h)

-- a value in front of an answer
pub then_on : {A B : Type 0} (a : Answer A) (k : A → Answer B) (x : A) → a ≡ done x → and_then a k ≡ k x
then_on a k x e = rw e

pub then_stop : {A B : Type 0} (a : Answer A) (k : A → Answer B) (n : ℕ) → a ≡ refused n → and_then a k ≡ refused n
then_stop a k n e = rw e

-- the test itself
pub or_on : (r n : ℕ) → r ≡ n → r ≡ 0 → or_refuse n ≡ done tt
or_on r zero e z = refl
or_on r (suc n) e z = absurd (omega arith)

pub or_stop : (r n : ℕ) → r ≡ n → (r ≡ 0 → ⊥) → or_refuse n ≡ refused r
or_stop r zero e z = absurd (z e)
or_stop r (suc n) e z = ap refused (sym e)
