-- Where an object's bytes lie, for all three granularities at once: after this file nothing splits on the granularity but one-liners.
use mathlib.Core.Path.{◌≡◌, sym, ap, ◌∙◌}
use mathlib.Core.Bool.{Bool, true, false}
use mathlib.Core.Logic.{◌⊎◌, inl, inr}
use Prim.Native.Nat.{ℕ, ◌+◌, ◌-◌, ◌*◌, ◌/◌, ◌%◌, ◌≤◌, ◌<◌}
use native.Mathlib.Nat.{mul_assoc}
use native.Mathlib.Omega.{arith}
use Rattle.medium.specs.declared.granularity.Granularity.{Granularity}
use Rattle.medium.specs.declared.granularity.Granularity.TheVariants.{Bit, Word1, Word4}
use Rattle.medium.specs.declared.geometry.Geometry.{Geometry}
use lib.Dec.{eqb}
use Rattle.medium.specs.Granularity.{pick, width_of, units_in, align_of, most_strict, finish_at, delete_at, header}
use Rattle.medium.specs.Geometry.{address}
use Rattle.medium.specs.Operation.{done, refused}
use Rattle.objects.specs.declared.state.ObjectDataState.TheVariants.{Untrusted, Valid, Deleted}
use Rattle.objects.specs.Types.{mark_of, pair_of, marks_of}
use Rattle.medium.proofs.Places.{even_add, quad_even}
use Rattle.fresh.specs.Units.{span, Clear}

-- ---- alignment

-- a held tail, padded, ends within the span
pub tail_room : (g : Granularity) (s cur n : ℕ) → cur % width_of g ≡ 0 → header g s + cur + units_in (width_of g) n * width_of g ≤ span g s (cur + n)
tail_room Bit s cur n h = omega arith
tail_room Word1 s cur n h = omega arith
tail_room Word4 s cur n h = omega arith

-- what is stored at once is whole words
pub record Floored (g : Granularity) (n : ℕ) : Type 0 where
  pub even_mod : (n - n % width_of g) % width_of g ≡ 0
  pub even_units : units_in (width_of g) (n - n % width_of g) * width_of g ≡ n - n % width_of g
  pub even_count : (n - n % width_of g) / width_of g * width_of g ≡ n - n % width_of g
  pub rest : n - (n - n % width_of g) < width_of g

pub floored : (g : Granularity) (n : ℕ) → Floored g n
floored Bit n = omega arith
floored Word1 n = omega arith
floored Word4 n = omega arith

-- ---- an aligned place and what ends before another

-- what ends before an aligned place ends before it when aligned up
pub up_to : (g : Granularity) (p n q : ℕ) → p % width_of g ≡ 0 → q % width_of g ≡ 0 → p + n ≤ q → p + align_of (width_of g) n ≤ q
up_to Bit p n q h k r = omega arith
up_to Word1 p n q h k r = omega arith
up_to Word4 p n q h k r = omega arith

-- an address of an aligned offset is aligned
pub address_even : (g : Geometry) (b off : ℕ) → g.size % 4 ≡ 0 → off % width_of g.granularity ≡ 0 → address g b off % width_of g.granularity ≡ 0
address_even g b off h k = even_add g.granularity (b * g.size) off (quad_even g.granularity (b * g.size) (omega (arith, four))) k
  where
    four : b * g.size ≡ b * (g.size / 4) * 4
    four =
        let e : g.size ≡ g.size / 4 * 4 = omega arith in
        ap (λ (x : ℕ). b * x) e ∙ sym (mul_assoc b (g.size / 4) 4)

-- ---- the marks of an object

-- where the strict mark can be set, the delete mark has a unit of its own
pub marks_apart : (g : Granularity) → 1 ≤ most_strict g → finish_at g + width_of g ≤ delete_at g
marks_apart Bit h = absurd (omega arith)
marks_apart Word1 h = omega arith
marks_apart Word4 h = omega arith

-- ---- two intervals of n bytes apart

pub far_from : (p q n j : ℕ) → (p + n ≤ q) ⊎ (q + n ≤ p) → p ≤ j → j < p + n → Clear q (q + n) j
far_from p q n j (inl h) a b = inl (omega arith)
far_from p q n j (inr h) a b = inr (omega arith)

-- ---- what holds of every granularity besides

-- the strict mark is 1 at most
pub mark_most : (g : Granularity) → most_strict g ≤ 1
mark_most Bit = omega arith
mark_most Word1 = omega arith
mark_most Word4 = omega arith

pair_two : (a b n : ℕ) → pair_of a b ≡ refused n → n ≡ 2
unfolding pair_of
pair_two a b n e = go (eqb a 0xFF) (eqb a 0x00) (eqb b 0xFF) (eqb b 0x00) e
  where
    go : (x y u v : Bool) → pick x (pick u (done Untrusted) (refused 2)) (pick y (pick u (done Valid) (pick v (done Deleted) (refused 2))) (refused 2)) ≡ refused n → n ≡ 2
    go true y true v e = let z : ◌≡◌ {A = ℕ} 0 1 = cc in absurd (omega arith)
    go true y false v e = cc
    go false true true v e = let z : ◌≡◌ {A = ℕ} 0 1 = cc in absurd (omega arith)
    go false true false true e = let z : ◌≡◌ {A = ℕ} 0 1 = cc in absurd (omega arith)
    go false true false false e = cc
    go false false u v e = cc

mark_two : (a n : ℕ) → mark_of a ≡ refused n → n ≡ 2
unfolding mark_of
mark_two a n e = go (eqb a 0xFF) (eqb a 0xF0) (eqb a 0x00) e
  where
    go : (x y u : Bool) → pick x (done Untrusted) (pick y (done Valid) (pick u (done Deleted) (refused 2))) ≡ refused n → n ≡ 2
    go true y u e = let z : ◌≡◌ {A = ℕ} 0 1 = cc in absurd (omega arith)
    go false true u e = let z : ◌≡◌ {A = ℕ} 0 1 = cc in absurd (omega arith)
    go false false true e = let z : ◌≡◌ {A = ℕ} 0 1 = cc in absurd (omega arith)
    go false false false e = cc

-- marks that say nothing give 2
pub marks_two : (g : Granularity) (a b n : ℕ) → marks_of g a b ≡ refused n → n ≡ 2
unfolding marks_of
marks_two Bit a b n e = mark_two a n e
marks_two Word1 a b n e = pair_two a b n e
marks_two Word4 a b n e = pair_two a b n e
