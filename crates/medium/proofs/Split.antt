-- A store of whole words and then the rest is one store, unit for unit, with the width as a parameter.
use mathlib.Core.Path.{◌≡◌, sym, ap, ap₂, ◌∙◌}
use mathlib.Core.List.{List, [], ◌∷◌, ◌++◌, append_assoc, append-nil}
use Prim.Native.Nat.{ℕ, zero, suc, ◌+◌, ◌-◌, ◌*◌, ◌/◌, ◌≤◌, ◌<◌}
use native.Mathlib.Nat.{zero-add, suc-add, add_assoc, add-zero, div-eq_of_lt, mul-add-div_right}
use native.Mathlib.Omega.{arith}
use lib.ListN.{length, take, drop, replicate, length-append, length-drop}
use lib.Seq.{take-append-le, drop-append-le, take-add, drop-drop}
use Rattle.medium.specs.Granularity.{units_in}
use Rattle.medium.specs.Units.{FlashUnit, programmed, padded, words, units_of}
use Rattle.medium.specs.Medium.{part}

-- m words and then k words
pub words_split : (m k w a : ℕ) (xs ys : List ℕ) → length xs ≡ m * w → words (m + k) w a (xs ++ ys) ≡ words m w a xs ++ words k w (a + m * w) ys
words_split zero k w a [] ys e = let z : a ≡ a + 0 * w = omega arith in ap₂ (λ (n b : ℕ). words n w b ys) (zero-add k) z
words_split zero k w a (x ∷ xs) ys e = absurd (omega arith)
words_split (suc m) k w a xs ys e =
    let h : w ≤ length xs = omega arith in
    let d : length (drop w xs) ≡ m * w = simp length-drop (omega arith) in
    let z : a + w + m * w ≡ a + suc m * w = omega arith in
    ap (λ (n : ℕ). words n w a (xs ++ ys)) (suc-add m k)
    ∙ ap₂ (λ (c r : List ℕ). programmed a c ∷ words (m + k) w (a + w) r) (take-append-le w xs ys h) (drop-append-le w xs ys h)
    ∙ ap (λ (us : List FlashUnit). programmed a (take w xs) ∷ us)
    (words_split m k w (a + w) (drop w xs) ys d ∙ ap (λ (b : ℕ). words m w (a + w) (drop w xs) ++ words k w b ys) z)

module _ (w : ℕ) (hw : 0 < w) where
  -- m whole units and n bytes more
  pub units_more : (m n : ℕ) → units_in w (m * w + n) ≡ m + units_in w n
  units_more m n = ap (λ (x : ℕ). x / w) (add_assoc (m * w) n (w - 1)) ∙ mul-add-div_right hw m (n + (w - 1))

  -- no bytes take no unit
  pub units_none : units_in w 0 ≡ 0
  units_none = div-eq_of_lt (omega arith)

  -- an empty store stores nothing
  pub none_stored : (a : ℕ) → units_of w a [] ≡ []
  none_stored a = rw units_none

  -- m whole units are m
  pub units_even : (m : ℕ) → units_in w (m * w) ≡ m
  units_even m = ap (units_in w) (sym (add-zero (m * w))) ∙ units_more m 0 ∙ ap (λ (x : ℕ). m + x) units_none ∙ add-zero m

  -- whole words need no padding
  pub padded_even : (m : ℕ) (xs : List ℕ) → length xs ≡ m * w → padded w xs ≡ xs
  padded_even m xs e =
      let l : units_in w (length xs) ≡ m = ap (units_in w) e ∙ units_even m in
      let n : units_in w (length xs) * w - length xs ≡ 0 = omega (arith, ap (λ (n : ℕ). n * w) l) in
      ap (λ (n : ℕ). xs ++ replicate n 255) n ∙ append-nil xs

  -- storing in two pieces, the first of whole words, is storing at once
  pub units_split : (m a : ℕ) (xs ys : List ℕ) → length xs ≡ m * w → units_of w a (xs ++ ys) ≡ units_of w a xs ++ units_of w (a + m * w) ys
  units_split m a xs ys e =
      let lx : units_in w (length xs) ≡ m = ap (units_in w) e ∙ units_even m in
      let ly : length (xs ++ ys) ≡ m * w + length ys = length-append xs ys ∙ ap (λ (n : ℕ). n + length ys) e in
      let lxy : units_in w (length (xs ++ ys)) ≡ m + units_in w (length ys) = ap (units_in w) ly ∙ units_more m (length ys) in
      let nxy : units_in w (length (xs ++ ys)) * w - length (xs ++ ys) ≡ units_in w (length ys) * w - length ys = omega (arith, ap (λ (n : ℕ). n * w) lxy) in
      let pxy : padded w (xs ++ ys) ≡ xs ++ padded w ys =
      ap (λ (n : ℕ). (xs ++ ys) ++ replicate n 255) nxy ∙ append_assoc xs ys (replicate (units_in w (length ys) * w - length ys) 255) in
      ap₂ (λ (n : ℕ) (bs : List ℕ). words n w a bs) lxy pxy
      ∙ words_split m (units_in w (length ys)) w a xs (padded w ys) e
      ∙ ap₂ (λ (n : ℕ) (bs : List ℕ). words n w a bs ++ units_of w (a + m * w) ys) (sym lx) (sym (padded_even m xs e))

-- a part is its first bytes and the rest
pub part_add : (a m n : ℕ) (img : List ℕ) → part a (m + n) img ≡ part a m img ++ part (a + m) n img
part_add a m n img = take-add m n (drop a img) ∙ ap (λ (r : List ℕ). take m (drop a img) ++ take n r) (drop-drop m a img)
