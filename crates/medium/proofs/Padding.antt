-- FF padding changes nothing: an image of bytes stays one, and a store of the padded bytes is a store of the data.
use mathlib.Core.Path.{◌≡◌, refl, sym, ap, ap₂, ◌∙◌}
use mathlib.Core.List.{List, [], ◌∷◌, ◌++◌}
use Prim.Native.Nat.{ℕ, zero, suc, ◌+◌, ◌-◌, ◌*◌, ◌<◌}
use native.Mathlib.Omega.{arith}
use lib.ListN.{length, get_or, take, replicate}
use lib.Bits.{and_le_l}
use Rattle.medium.specs.Granularity.{units_in}
use Rattle.medium.specs.Units.{FlashUnit, programmed, erased, over, program, blank, under, padded, units_of}
use Rattle.medium.specs.Operation.{apply}
use Rattle.medium.proofs.Bytes.{and_ff, program_next, store_whole}

-- every element is below 256
abbrev pub AreBytes : List ℕ → Type 0
AreBytes l = (j : ℕ) → get_or l j 0 < 256

-- ---- lists of bytes

pub cons_bytes : (x : ℕ) (xs : List ℕ) → x < 256 → AreBytes xs → AreBytes (x ∷ xs)
cons_bytes x xs h k zero = h
cons_bytes x xs h k (suc j) = k j

pub append_bytes : (xs ys : List ℕ) → AreBytes xs → AreBytes ys → AreBytes (xs ++ ys)
append_bytes [] ys h k = k
append_bytes (x ∷ xs) ys h k = cons_bytes x (xs ++ ys) (h 0) (append_bytes xs ys (λ j. h (suc j)) k)

pub take_bytes : (n : ℕ) (xs : List ℕ) → AreBytes xs → AreBytes (take n xs)
take_bytes zero xs h j = omega arith
take_bytes (suc n) [] h j = omega arith
take_bytes (suc n) (x ∷ xs) h j = cons_bytes x (take n xs) (h 0) (take_bytes n xs (λ i. h (suc i))) j

pub ff_bytes : (n : ℕ) → AreBytes (replicate n 255)
ff_bytes zero j = omega arith
ff_bytes (suc n) j = cons_bytes 255 (replicate n 255) (omega arith) (ff_bytes n) j

-- ---- whatever is stored, an image of bytes stays one

over_bytes : (img bs : List ℕ) → AreBytes img → AreBytes (over img bs)
over_bytes img [] h j = h j
over_bytes [] (b ∷ bs) h j = h j
over_bytes (x ∷ xs) (b ∷ bs) h zero = omega (arith, and_le_l x b, h 0)
over_bytes (x ∷ xs) (b ∷ bs) h (suc j) = over_bytes xs bs (λ i. h (suc i)) j

-- after one unit that was programmed
pub program_bytes : (a : ℕ) (bs img : List ℕ) → AreBytes img → AreBytes (program a bs img)
program_bytes zero bs img h j = over_bytes img bs h j
program_bytes (suc a) bs [] h j = h j
program_bytes (suc a) bs (x ∷ xs) h zero = h 0
program_bytes (suc a) bs (x ∷ xs) h (suc j) = program_bytes a bs xs (λ i. h (suc i)) j

blank_bytes : (n : ℕ) (img : List ℕ) → AreBytes img → AreBytes (blank n img)
blank_bytes zero img h j = h j
blank_bytes (suc n) [] h j = h j
blank_bytes (suc n) (x ∷ xs) h zero = omega arith
blank_bytes (suc n) (x ∷ xs) h (suc j) = blank_bytes n xs (λ i. h (suc i)) j

-- after an erase
pub erased_bytes : (a n : ℕ) (img : List ℕ) → AreBytes img → AreBytes (under a (blank n) img)
erased_bytes zero n img h j = blank_bytes n img h j
erased_bytes (suc a) n [] h j = h j
erased_bytes (suc a) n (x ∷ xs) h zero = h 0
erased_bytes (suc a) n (x ∷ xs) h (suc j) = erased_bytes a n xs (λ i. h (suc i)) j

-- after any units
pub apply_bytes : (us : List FlashUnit) (img : List ℕ) → AreBytes img → AreBytes (apply us img)
apply_bytes [] img h = h
apply_bytes (programmed a bs ∷ us) img h = apply_bytes us (program a bs img) (program_bytes a bs img h)
apply_bytes (erased a n ∷ us) img h = apply_bytes us (under a (blank n) img) (erased_bytes a n img h)

-- ---- programming FF changes nothing

over_ff : (n : ℕ) (img : List ℕ) → AreBytes img → over img (replicate n 255) ≡ img
over_ff zero img h = refl
over_ff (suc n) [] h = refl
over_ff (suc n) (x ∷ xs) h = ap₂ (λ (y : ℕ) (r : List ℕ). y ∷ r) (and_ff x (h 0)) (over_ff n xs (λ j. h (suc j)))

-- FF over any bytes
pub program_ff : (a n : ℕ) (img : List ℕ) → AreBytes img → program a (replicate n 255) img ≡ img
program_ff zero n img h = over_ff n img h
program_ff (suc a) n [] h = refl
program_ff (suc a) n (x ∷ xs) h = ap {B = List ℕ} (λ r. x ∷ r) (program_ff a n xs (λ j. h (suc j)))

-- FF behind the data
pub pad_nothing : (a n : ℕ) (bs img : List ℕ) → AreBytes img → program a (bs ++ replicate n 255) img ≡ program a bs img
pad_nothing a n bs img h =
    sym (program_next a bs (replicate n 255) img) ∙ program_ff (a + length bs) n (program a bs img) (program_bytes a bs img h)

module _ (w : ℕ) (hw : 0 < w) where
  -- programming the padded bytes is programming the data
  pub padding_nothing : (a : ℕ) (bs img : List ℕ) → AreBytes img → program a (padded w bs) img ≡ program a bs img
  padding_nothing a bs img h = pad_nothing a (units_in w (length bs) * w - length bs) bs img h

  -- so the units of a store, at any width, leave what one store of the data leaves
  pub store_data : (a : ℕ) (bs img : List ℕ) → AreBytes img → apply (units_of w a bs) img ≡ program a bs img
  store_data a bs img h = store_whole w hw a bs img ∙ padding_nothing a bs img h
