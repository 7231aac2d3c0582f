-- Programming is an AND, byte for byte: it may be done in any order, and twice is as good as once. With the width as a parameter.
use mathlib.Core.Path.{◌≡◌, refl, sym, ap, ap₂, ◌∙◌, subst}
use mathlib.Core.Logic.{◌⊎◌, inl, inr}
use mathlib.Core.List.{List, [], ◌∷◌, ◌++◌, append-nil}
use Prim.Native.Nat.{ℕ, zero, suc, ◌+◌, ◌-◌, ◌*◌, ◌/◌, ◌%◌, ◌≤◌, ◌<◌, min, max}
use native.Mathlib.Nat.{mul-le-mul_right}
use native.Mathlib.Omega.{arith}
use lib.ListN.{length, take, drop, get_or, take-append-drop}
use lib.Seq.{take-take, take_all, length-take-le, get_or-take}
use lib.Bits.{bit_and, and_step, and_self, and_comm}
use Rattle.medium.specs.All.{All}
use Rattle.medium.specs.Granularity.{units_in}
use Rattle.medium.specs.Units.{FlashUnit, programmed, erased, over, program, padded, words, units_of}
use Rattle.medium.specs.Operation.{apply}
use Rattle.medium.proofs.Runs.{apply-append, leb_is}
use Rattle.medium.proofs.Bytes.{and_ff, ff_and, Off, All-take, frame, store_miss, store_whole, program_off, program_at, length-padded, get_or-padded, get_or_pad, words_cut, length_units, stored}

-- ---- AND

-- the digits of an AND
halves : (a b : ℕ) → (bit_and a b / 2 ≡ bit_and (a / 2) (b / 2)) × (bit_and a b % 2 ≡ min (a % 2) (b % 2))
halves a b = let e = and_step a b in (omega arith, omega arith)

and_assoc_by : (n a b c : ℕ) → a ≤ n → bit_and (bit_and a b) c ≡ bit_and a (bit_and b c)
and_assoc_by zero zero b c h = refl
and_assoc_by zero (suc a) b c h = absurd (omega arith)
and_assoc_by (suc n) zero b c h = refl
and_assoc_by (suc n) (suc a) b c h =
    let i : bit_and (bit_and (suc a / 2) (b / 2)) (c / 2) ≡ bit_and (suc a / 2) (bit_and (b / 2) (c / 2)) = and_assoc_by n (suc a / 2) (b / 2) (c / 2) (omega arith) in
    let m : min (min (suc a % 2) (b % 2)) (c % 2) ≡ min (suc a % 2) (min (b % 2) (c % 2)) = omega arith in
    and_step (bit_and (suc a) b) c
    ∙ ap₂ (λ (x y : ℕ). bit_and x (c / 2) * 2 + min y (c % 2)) (halves (suc a) b).0 (halves (suc a) b).1
    ∙ ap₂ (λ (x y : ℕ). x * 2 + y) i m
    ∙ ap₂ (λ (x y : ℕ). bit_and (suc a / 2) x * 2 + min (suc a % 2) y) (sym (halves b c).0) (sym (halves b c).1)
    ∙ sym (and_step (suc a) (bit_and b c))

pub and_assoc : (a b c : ℕ) → bit_and (bit_and a b) c ≡ bit_and a (bit_and b c)
and_assoc a b c = and_assoc_by a a b c (omega arith)

-- two in either order, and one twice
pub and_swap : (x b d : ℕ) → bit_and (bit_and x b) d ≡ bit_and (bit_and x d) b
and_swap x b d = and_assoc x b d ∙ ap (bit_and x) (and_comm b d) ∙ sym (and_assoc x d b)

pub and_twice : (x b : ℕ) → bit_and (bit_and x b) b ≡ bit_and x b
and_twice x b = and_assoc x b b ∙ ap (bit_and x) (and_self b)

-- ---- one store of bytes

over_swap : (img bs ds : List ℕ) → over (over img bs) ds ≡ over (over img ds) bs
over_swap img [] ds = refl
over_swap [] (b ∷ bs) [] = refl
over_swap [] (b ∷ bs) (d ∷ ds) = refl
over_swap (x ∷ xs) (b ∷ bs) [] = refl
over_swap (x ∷ xs) (b ∷ bs) (d ∷ ds) = ap₂ (λ (y : ℕ) (ys : List ℕ). y ∷ ys) (and_swap x b d) (over_swap xs bs ds)

over_twice : (img bs : List ℕ) → over (over img bs) bs ≡ over img bs
over_twice img [] = refl
over_twice [] (b ∷ bs) = refl
over_twice (x ∷ xs) (b ∷ bs) = ap₂ (λ (y : ℕ) (ys : List ℕ). y ∷ ys) (and_twice x b) (over_twice xs bs)

over-program : (c : ℕ) (img bs ds : List ℕ) → over (program c ds img) bs ≡ program c ds (over img bs)
over-program zero img bs ds = over_swap img ds bs
over-program (suc c) img [] ds = refl
over-program (suc c) [] (b ∷ bs) ds = refl
over-program (suc c) (x ∷ xs) (b ∷ bs) ds = ap (λ (ys : List ℕ). bit_and x b ∷ ys) (over-program c xs bs ds)

program_swap : (a c : ℕ) (bs ds img : List ℕ) → program a bs (program c ds img) ≡ program c ds (program a bs img)
program_swap zero c bs ds img = over-program c img bs ds
program_swap (suc a) zero bs ds img = sym (over-program (suc a) img ds bs)
program_swap (suc a) (suc c) bs ds [] = refl
program_swap (suc a) (suc c) bs ds (x ∷ xs) = ap (λ (ys : List ℕ). x ∷ ys) (program_swap a c bs ds xs)

program_twice : (a : ℕ) (bs img : List ℕ) → program a bs (program a bs img) ≡ program a bs img
program_twice zero bs img = over_twice img bs
program_twice (suc a) bs [] = refl
program_twice (suc a) bs (x ∷ xs) = ap (λ (ys : List ℕ). x ∷ ys) (program_twice a bs xs)

-- ---- units that program, and erase nothing

abbrev pub Programs : FlashUnit → Type 0
Programs (programmed a bs) = Unit {0}
Programs (erased a n) = ⊥

words_each : (P : FlashUnit → Type 0) → ((a : ℕ) (bs : List ℕ) → P (programmed a bs)) → (n w a : ℕ) (bs : List ℕ) → All P (words n w a bs)
words_each P h zero w a bs = tt
words_each P h (suc n) w a bs = (h a (take w bs), words_each P h n w (a + w) (drop w bs))

-- what holds of every unit that programs holds of those of a store
pub store_each : (P : FlashUnit → Type 0) → ((a : ℕ) (bs : List ℕ) → P (programmed a bs)) → (w a : ℕ) (bs : List ℕ) → All P (units_of w a bs)
store_each P h w a bs = words_each P h (units_in w (length bs)) w a (padded w bs)

-- they program only
pub store_programs : (w a : ℕ) (bs : List ℕ) → All Programs (units_of w a bs)
store_programs w a bs = store_each Programs (λ _ _. tt) w a bs

apply-program : (a : ℕ) (bs : List ℕ) (us : List FlashUnit) (img : List ℕ) → All Programs us → apply us (program a bs img) ≡ program a bs (apply us img)
apply-program a bs [] img h = refl
apply-program a bs (programmed c ds ∷ us) img h =
    ap (apply us) (program_swap c a ds bs img) ∙ apply-program a bs us (program c ds img) h.1
apply-program a bs (erased c n ∷ us) img h = absurd h.0

-- two lists in either order
pub apply_swap : (us vs : List FlashUnit) (img : List ℕ) → All Programs us → All Programs vs → apply us (apply vs img) ≡ apply vs (apply us img)
apply_swap us [] img h k = refl
apply_swap us (programmed a bs ∷ vs) img h k = apply_swap us vs (program a bs img) h k.1 ∙ ap (apply vs) (apply-program a bs us img h)
apply_swap us (erased a n ∷ vs) img h k = absurd k.0

-- a list twice is as good as once
pub apply_twice : (us : List FlashUnit) (img : List ℕ) → All Programs us → apply us (apply us img) ≡ apply us img
apply_twice [] img h = refl
apply_twice (programmed a bs ∷ us) img h =
    ap (apply us) (sym (apply-program a bs us (program a bs img) h.1) ∙ ap (apply us) (program_twice a bs img))
    ∙ apply_twice us (program a bs img) h.1
apply_twice (erased a n ∷ us) img h = absurd h.0

-- the first units and the rest, over an image that has some of the first
apply_prefix : (us vs : List FlashUnit) (img : List ℕ) → All Programs us → apply (us ++ vs) (apply us img) ≡ apply (us ++ vs) img
apply_prefix us vs img h = apply-append us vs (apply us img) ∙ ap (apply vs) (apply_twice us img h) ∙ sym (apply-append us vs img)

-- THE LAW: a list that is cut twice leaves what it leaves when it is cut once, at the later of the two
pub cut_twice : (us : List FlashUnit) (k n : ℕ) (img : List ℕ) → All Programs us → apply (take n us) (apply (take k us) img) ≡ apply (take (max k n) us) img
cut_twice us k n img h = go (leb_is k n)
  where
    first : (i j : ℕ) → i ≤ j → take j us ≡ take i us ++ drop i (take j us)
    first i j c = sym (take-append-drop i (take j us)) ∙ ap (λ (x : List FlashUnit). x ++ drop i (take j us)) (take-take i j us c)

    later : (i j : ℕ) → i ≤ j → apply (take j us) (apply (take i us) img) ≡ apply (take j us) img
    later i j c =
        ap (λ (x : List FlashUnit). apply x (apply (take i us) img)) (first i j c)
        ∙ apply_prefix (take i us) (drop i (take j us)) img (All-take Programs i us h)
        ∙ ap (λ (x : List FlashUnit). apply x img) (sym (first i j c))

    go : (k ≤ n) ⊎ (n < k) → apply (take n us) (apply (take k us) img) ≡ apply (take (max k n) us) img
    go (inl c) = let e : n ≡ max k n = omega arith in later k n c ∙ ap (λ (i : ℕ). apply (take i us) img) e
    go (inr c) =
        let e : k ≡ max k n = omega arith in
        apply_swap (take n us) (take k us) img (All-take Programs n us h) (All-take Programs k us h)
        ∙ later n k (omega arith) ∙ ap (λ (i : ℕ). apply (take i us) img) e

-- ---- a store that is cut

-- a byte of the units that are stored is old AND new
pub cut_stored : (w : ℕ) (hw : 0 < w) (k a : ℕ) (bs img : List ℕ) (i : ℕ) → i < k * w → i < length bs → a + i < length img
    → get_or (apply (take k (units_of w a bs)) img) (a + i) 0 ≡ bit_and (get_or img (a + i) 0) (get_or bs i 0)
cut_stored w hw k a bs img i c d e = go (leb_is k (units_in w (length bs)))
  where
    go : (k ≤ units_in w (length bs)) ⊎ (units_in w (length bs) < k) → get_or (apply (take k (units_of w a bs)) img) (a + i) 0 ≡ bit_and (get_or img (a + i) 0) (get_or bs i 0)
    go (inl h) =
        let long : length (take (k * w) (padded w bs)) ≡ k * w = length-take-le (k * w) (padded w bs) (omega (arith, length-padded w hw bs, mul-le-mul_right w h)) in
        ap (λ (m : List ℕ). get_or m (a + i) 0) (words_cut k (units_in w (length bs)) w a (padded w bs) img h (length-padded w hw bs))
        ∙ program_at a (take (k * w) (padded w bs)) img i 0 (omega arith) e
        ∙ ap (bit_and (get_or img (a + i) 0)) (get_or-take (k * w) (padded w bs) i 0 c ∙ get_or-padded w hw bs i 0 d)
    go (inr h) =
        ap (λ (us : List FlashUnit). get_or (apply us img) (a + i) 0) (take_all k (units_of w a bs) (omega (arith, length_units w a bs)) ∙ sym (append-nil (units_of w a bs)))
        ∙ stored w hw [] [] a bs i img tt tt d e

-- FF, or the byte that is stored there
abbrev pub Partly : List ℕ → ℕ → ℕ → Type 0
Partly bs i x = (x ≡ 255) ⊎ ((i < length bs) × (x ≡ get_or bs i 0))

module _ (w : ℕ) (hw : 0 < w) (a : ℕ) (bs img : List ℕ) (i : ℕ) (hl : a + i < length img) (blank : get_or img (a + i) 0 ≡ 255) (small : i < length bs → get_or bs i 0 < 256) where
  stored_byte : (k : ℕ) → k ≤ units_in w (length bs) → Partly bs i (get_or (program a (take (k * w) (padded w bs)) img) (a + i) 0)
  stored_byte k h = go (leb_is (k * w) i) (leb_is (length bs) i)
    where
      long : length (take (k * w) (padded w bs)) ≡ k * w
      long = length-take-le (k * w) (padded w bs) (omega (arith, length-padded w hw bs, mul-le-mul_right w h))

      at : i < k * w → get_or (program a (take (k * w) (padded w bs)) img) (a + i) 0 ≡ bit_and 255 (get_or (padded w bs) i 0)
      at c =
          program_at a (take (k * w) (padded w bs)) img i 0 (omega (arith, long)) hl
          ∙ ap₂ bit_and blank (get_or-take (k * w) (padded w bs) i 0 c)

      go : (k * w ≤ i) ⊎ (i < k * w) → (length bs ≤ i) ⊎ (i < length bs) → Partly bs i (get_or (program a (take (k * w) (padded w bs)) img) (a + i) 0)
      go (inl c) d = inl (program_off a (take (k * w) (padded w bs)) img (a + i) 0 (inr (omega (arith, long))) ∙ blank)
      go (inr c) (inl d) = inl (at c ∙ ap (bit_and 255) (get_or_pad w hw bs i 0 d (omega (arith, mul-le-mul_right w h))))
      go (inr c) (inr d) = inr (d, at c ∙ ap (bit_and 255) (get_or-padded w hw bs i 0 d) ∙ ff_and (get_or bs i 0) (small d))

  pub partly : (k : ℕ) → Partly bs i (get_or (apply (take k (units_of w a bs)) img) (a + i) 0)
  partly k = go (leb_is k (units_in w (length bs)))
    where
      cut : (n : ℕ) → n ≤ units_in w (length bs) → Partly bs i (get_or (apply (take n (units_of w a bs)) img) (a + i) 0)
      cut n h = subst (λ (m : List ℕ). Partly bs i (get_or m (a + i) 0)) (sym (words_cut n (units_in w (length bs)) w a (padded w bs) img h (length-padded w hw bs))) (stored_byte n h)

      go : (k ≤ units_in w (length bs)) ⊎ (units_in w (length bs) < k) → Partly bs i (get_or (apply (take k (units_of w a bs)) img) (a + i) 0)
      go (inl h) = cut k h
      go (inr h) =
          let n : length (units_of w a bs) ≡ units_in w (length bs) = length_units w a bs in
          subst (λ (us : List FlashUnit). Partly bs i (get_or (apply us img) (a + i) 0))
          (take_all (units_in w (length bs)) (units_of w a bs) (omega arith) ∙ sym (take_all k (units_of w a bs) (omega arith))) (cut (units_in w (length bs)) (omega arith))

-- ---- what is padded stays

-- a store leaves every byte that it has no data for
pub pad_kept : (w : ℕ) (hw : 0 < w) (a : ℕ) (bs img : List ℕ) (j : ℕ) → Off a (length bs) j → a + units_in w (length bs) * w ≤ length img → get_or img j 0 < 256 → get_or (apply (units_of w a bs) img) j 0 ≡ get_or img j 0
pad_kept w hw a bs img j (inl h) l byte = frame j 0 (units_of w a bs) img (store_miss w hw a bs j (inl h))
pad_kept w hw a bs img j (inr h) l byte = go (leb_is (a + units_in w (length bs) * w) j)
  where
    go : (a + units_in w (length bs) * w ≤ j) ⊎ (j < a + units_in w (length bs) * w) → get_or (apply (units_of w a bs) img) j 0 ≡ get_or img j 0
    go (inl c) = frame j 0 (units_of w a bs) img (store_miss w hw a bs j (inr c))
    go (inr c) =
        let e : j ≡ a + (j - a) = omega arith in
        ap (λ (m : List ℕ). get_or m j 0) (store_whole w hw a bs img)
        ∙ ap (λ (x : ℕ). get_or (program a (padded w bs) img) x 0) e
        ∙ program_at a (padded w bs) img (j - a) 0 (omega (arith, length-padded w hw bs)) (omega arith)
        ∙ ap₂ bit_and (ap (λ (x : ℕ). get_or img x 0) (sym e)) (get_or_pad w hw bs (j - a) 0 (omega arith) (omega arith))
        ∙ and_ff (get_or img j 0) byte
