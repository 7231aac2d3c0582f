-- What a call answers: a value, or one of 01's numbers for a refusal.
use Rattle.std.specs.Prelude.{ℕ, zero, suc}

pub data Answer (A : Type 0) : Type 0 where
  done : A → Answer A
  refused : ℕ → Answer A

-- on with the value, or the refusal
abbrev pub and_then : {A B : Type 0} → Answer A → (A → Answer B) → Answer B
and_then (done a) k = k a
and_then (refused n) k = refused n

-- 0 goes on, any other number is a refusal
abbrev pub or_refuse : ℕ → Answer (Unit {0})
or_refuse zero = done tt
or_refuse (suc n) = refused (suc n)

-- 01's number
abbrev pub number_of : {A : Type 0} → Answer A → ℕ
number_of (done a) = 0
number_of (refused n) = n
