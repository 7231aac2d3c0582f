-- Whether two lists are equal.
use Prim.Native.Nat.{ℕ, suc}
use mathlib.Core.Path.{◌≡◌, refl, ap, ap₂}
use mathlib.Core.Bool.{Bool, true, false, ◌&&◌, and-false, false≢true}
use mathlib.Core.List.{List, [], ◌∷◌}
use lib.ListN.{length}
use lib.Dec.{eqb}
use borrow.Author.Tests.{eqb-true, eq-eqb}
use lib.Pointwise.{pointwise}
use Rattle.objects.specs.Payload.{equal}

pub other_length : (a b : List ℕ) → (length a ≡ length b → ⊥) → equal a b ≡ false
unfolding equal
other_length [] [] h = absurd (h refl)
other_length [] (y ∷ b) h = refl
other_length (x ∷ a) [] h = refl
other_length (x ∷ a) (y ∷ b) h = rw (other_length a b (λ e. h (ap suc e)), and-false)

-- it is the library's comparison
pub equal_pointwise : (a b : List ℕ) → pointwise eqb a b ≡ equal a b
unfolding equal
equal_pointwise [] [] = refl
equal_pointwise [] (y ∷ b) = refl
equal_pointwise (x ∷ a) [] = refl
equal_pointwise (x ∷ a) (y ∷ b) = rw (equal_pointwise a b)

pub equal_refl : (xs : List ℕ) → equal xs xs ≡ true
unfolding equal
equal_refl [] = refl
equal_refl (x ∷ xs) = rw (eq-eqb x x refl) (equal_refl xs)

pub equal_is : (xs ys : List ℕ) → equal xs ys ≡ true → xs ≡ ys
unfolding equal
equal_is [] [] e = refl
equal_is [] (y ∷ ys) e = absurd (false≢true e)
equal_is (x ∷ xs) [] e = absurd (false≢true e)
equal_is (x ∷ xs) (y ∷ ys) e = go (eqb x y) refl e (λ r. equal_is xs ys r)
  where
    go : (c : Bool) → eqb x y ≡ c → (c && equal xs ys) ≡ true → (equal xs ys ≡ true → xs ≡ ys) → x ∷ xs ≡ y ∷ ys
    go true q r more = ap₂ (λ (a : ℕ) (l : List ℕ). a ∷ l) (eqb-true x y q) (more r)
    go false q r more = absurd (false≢true r)
