-- Reading a decimal argument, a digit a step.
use native.Mathlib.Omega.{arith}
use Prim.Native.Nat.{ℕ, zero, suc, ◌+◌, ◌≤◌, ◌<◌}
use mathlib.Core.Path.{◌≡◌, refl, ◌∙◌}
use mathlib.Core.List.{List, [], ◌∷◌}
use native.Mathlib.Numerals.{add-one}
use lib.ListN.{length, drop, get_or}
use lib.Seq.{drop-cons}
use mathlib.Core.Bool.{and-false}
use mathlib.Core.Logic.{⊎_elim}
use Rattle.std.specs.Char.{IsAsciiDigit, IsNotAsciiDigit}
use borrow.Author.Tests.{le-leb, lt-leb}
use Rattle.std.specs.Prelude.{Some, None}
use Rattle.lines.specs.Argument.{with_digit, number_from, number_of}

-- with no digit
pub none : (s : List ℕ) → length s ≡ 0 → number_of s ≡ None
unfolding number_of
none [] h = refl
none (b ∷ bs) h = absurd (omega arith)

-- with one digit or more
pub some : (s : List ℕ) → 1 ≤ length s → number_of s ≡ number_from 0 (drop 0 s)
unfolding number_of
some [] h = absurd (omega arith)
some (b ∷ bs) h = refl

module _ (n : ℕ) (s : List ℕ) (i : ℕ) (h : i < length s) where
  next : number_from n (drop i s) ≡ number_from n (get_or s i 0 ∷ drop (suc i) s)
  next = rw (drop-cons s i 0)

  below : get_or s i 0 < 48 → number_from n (drop i s) ≡ None
  unfolding number_from
  below l = next ∙ simp (lt-leb _ _ l)

  above : 57 < get_or s i 0 → number_from n (drop i s) ≡ None
  unfolding number_from
  above l = next ∙ simp (lt-leb _ _ l, and-false)

  pub no_digit : IsNotAsciiDigit (get_or s i 0) → number_from n (drop i s) ≡ None
  no_digit l = ⊎_elim below above l

  pub large : IsAsciiDigit (get_or s i 0) → 4294967295 < with_digit n (get_or s i 0) → number_from n (drop i s) ≡ None
  unfolding number_from
  large d k = next ∙ simp (le-leb _ _ d.0, le-leb _ _ d.1, lt-leb _ _ k)

  pub step : IsAsciiDigit (get_or s i 0) → with_digit n (get_or s i 0) ≤ 4294967295 → number_from n (drop i s) ≡ number_from (with_digit n (get_or s i 0)) (drop (i + 1) s)
  unfolding number_from
  step d k = next ∙ simp (le-leb _ _ d.0, le-leb _ _ d.1, le-leb _ _ k) (rw (add-one i))

pub whole : (n : ℕ) (s : List ℕ) (i : ℕ) → length s ≤ i → number_from n (drop i s) ≡ Some n
unfolding number_from
whole n [] zero h = refl
whole n [] (suc i) h = refl
whole n (b ∷ s) zero h = absurd (omega arith)
whole n (b ∷ s) (suc i) h = whole n s i (omega arith)
