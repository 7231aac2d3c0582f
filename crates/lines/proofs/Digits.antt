-- The digits of a number: the last one apart, and no more of them than ten.
use native.Mathlib.Omega.{arith}
use Prim.Native.Nat.{ℕ, zero, suc, ◌+◌, ◌*◌, ◌/◌, ◌%◌, ◌^◌, ◌≤◌, ◌<◌}
use mathlib.Core.Path.{◌≡◌, refl, sym, ◌∙◌, ap}
use mathlib.Core.Bool.{Bool, true, false}
use mathlib.Core.List.{List, [], ◌∷◌, ◌++◌}
use lib.ListN.{length, length-append}
use lib.Dec.{ltb}
use borrow.Author.Tests.{lt-ltb, le-ltb, ltb-true, ltb-false}
use Rattle.lines.specs.Digits.{digit, digits_in, digits}

-- ten to the power of k + 1, as a number that omega reads
abbrev ten : ℕ → ℕ
ten zero = 10
ten (suc k) = 10 * ten k

more : (k n : ℕ) → 10 ≤ n → digits_in (suc k) n ≡ digits_in k (n / 10) ++ (digit (n % 10) ∷ [])
unfolding digits_in
more k n h = simp (le-ltb _ _ h)

last : (k n : ℕ) → n < 10 → digits_in (suc k) n ≡ digit n ∷ []
unfolding digits_in
last k n h = simp (lt-ltb _ _ h)

by_ten : {A : Type 0} (n : ℕ) (b : Bool) → ltb n 10 ≡ b → (n < 10 → A) → (10 ≤ n → A) → A
by_ten n true e f g = f (ltb-true n 10 e)
by_ten n false e f g = g (ltb-false n 10 e)

-- room for one digit more changes nothing
enough : (k n : ℕ) → n < ten k → digits_in (suc (suc k)) n ≡ digits_in (suc k) n
enough zero n h = last 1 n h ∙ sym (last 0 n h)
enough (suc k) n h =
    by_ten n (ltb n 10) refl
    (λ l. last (suc (suc k)) n l ∙ sym (last (suc k) n l))
    (λ g.
    more (suc (suc k)) n g
    ∙ ap (λ (l : List ℕ). l ++ (digit (n % 10) ∷ [])) (enough k (n / 10) (omega arith))
    ∙ sym (more (suc k) n g))

pub one : (n : ℕ) → n < 10 → digits n ≡ digit n ∷ []
unfolding digits
one n h = last 9 n h

pub split : (n : ℕ) → 10 ≤ n → n < 2 ^ 32 → digits n ≡ digits (n / 10) ++ (digit (n % 10) ∷ [])
unfolding digits
split n g h = more 9 n g ∙ ap (λ (l : List ℕ). l ++ (digit (n % 10) ∷ [])) (sym (enough 8 (n / 10) (omega arith)))

pub one_long : (n : ℕ) → n < 10 → length (digits n) ≡ 1
one_long n h = ap length (one n h)

pub split_long : (n : ℕ) → 10 ≤ n → n < 2 ^ 32 → length (digits n) ≡ length (digits (n / 10)) + 1
split_long n g h = ap length (split n g h) ∙ length-append (digits (n / 10)) (digit (n % 10) ∷ [])

none : (n : ℕ) → digits_in 0 n ≡ []
unfolding digits_in
none n = refl

short_in : (k n : ℕ) → length (digits_in (suc k) n) ≤ suc k
short_in zero n =
    by_ten n (ltb n 10) refl
    (λ l. omega (arith, ap length (last 0 n l)))
    (λ g. omega (arith, ap length (more 0 n g), length-append (digits_in 0 (n / 10)) (digit (n % 10) ∷ []), ap length (none (n / 10))))
short_in (suc k) n =
    by_ten n (ltb n 10) refl
    (λ l. omega (arith, ap length (last (suc k) n l)))
    (λ g. omega (arith, ap length (more (suc k) n g), length-append (digits_in (suc k) (n / 10)) (digit (n % 10) ∷ []), short_in k (n / 10)))

pub short : (n : ℕ) → length (digits n) ≤ 10
unfolding digits
short n = short_in 9 n
