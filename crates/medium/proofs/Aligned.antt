-- The line that aligns up, `(n + w - 1) / w * w`, for every width from 1 on.
use mathlib.Core.Path.{◌≡◌, sym, ap, ◌∙◌}
use Prim.Native.Nat.{ℕ, zero, suc, ◌+◌, ◌-◌, ◌*◌, ◌/◌, ◌%◌, ◌≤◌, ◌<◌}
use native.Mathlib.Nat.{div-add-mod', div-lt_iff_lt-mul, div-eq_of_lt-le, mod-lt, mul-mod_left, mul-le-mul_right, add-mul}
use native.Mathlib.Omega.{arith}
use lib.Dec.{eqb, eqb-suc-zero}
use Rattle.medium.specs.Granularity.{pick, units_in, align_of}
use Rattle.medium.specs.Aligned.{OneLine, Bit, Word, AsTheRust, Least}
use Rattle.medium.proofs.Bytes.{fits_up}
use Rattle.medium.proofs.Split.{units_more, units_even}

pub one_line : OneLine
unfolding OneLine
one_line w n h = let e : n + w - 1 ≡ n + (w - 1) = omega arith in rw e

module _ (w : ℕ) (hw : 1 ≤ w) where
  -- one unit takes what is no longer than it
  units_one : (r : ℕ) → 1 ≤ r → r ≤ w → units_in w r ≡ 1
  units_one r h k = div-eq_of_lt-le {k = 1} w (omega arith) (omega arith)

  -- the Rust's branches, by quotient and remainder
  branches : (n q r : ℕ) → q * w + r ≡ n → r < w → align_of w n ≡ pick (eqb r 0) n (n + w - r)
  branches n q zero e h = let d : n ≡ q * w = omega arith in ap (align_of w) d ∙ ap (λ (u : ℕ). u * w) (units_even w hw q) ∙ sym d
  branches n q (suc r) e h =
      let u : units_in w n ≡ q + 1 = ap (units_in w) (sym e) ∙ units_more w hw q (suc r) ∙ ap (λ (x : ℕ). q + x) (units_one (suc r) (omega arith) (omega arith)) in
      rw (u, eqb-suc-zero) (omega (arith, add-mul q 1 w))

  -- a multiple that is not below n is not below n aligned up
  least : (n x : ℕ) → x % w ≡ 0 → n ≤ x → align_of w n ≤ x
  least n x z h =
      let d = div-add-mod' x w in
      let u : units_in w n < x / w + 1 = (div-lt_iff_lt-mul hw).1 (omega (arith, add-mul (x / w) 1 w)) in
      omega (arith, mul-le-mul_right {m = units_in w n} {n = x / w} w (omega arith))

pub as_the_rust : AsTheRust
unfolding AsTheRust OneLine
as_the_rust Bit n h = omega arith
as_the_rust (Word w) n h = one_line w n h ∙ branches w h n (n / w) (n % w) (div-add-mod' n w) (mod-lt n h)

pub least_multiple : Least
unfolding Least OneLine
least_multiple w n h =
    rw (one_line w n h) (record { multiple = mul-mod_left (units_in w n) w; not_below = fits_up w h n; least = least w h n })
