-- The bytes of a new object before its finish mark: each is FF or its own, the type first, then the payload from its first byte on, then the
-- size, which reads unset until its own units are stored.
use mathlib.Core.Path.{◌≡◌, refl, sym, ap, ap₂, ◌∙◌, subst}
use mathlib.Core.Logic.{inl, inr}
use mathlib.Core.List.{List, [], ◌∷◌, ◌++◌}
use Prim.Native.Nat.{ℕ, zero, suc, ◌+◌, ◌-◌, ◌^◌, ◌≤◌, ◌<◌}
use native.Mathlib.Nat.{add-zero, sub-zero, zero-sub, mul-le-mul_right, pow-succ'}
use native.Mathlib.Omega.{arith}
use lib.ListN.{length, take, get_or}
use lib.Seq.{take-nil}
use lib.Bits.{bit_and}
use Rattle.medium.specs.declared.granularity.Granularity.{Granularity}
use Rattle.medium.specs.Granularity.{width_of, units_in, size_at, header}
use Rattle.medium.specs.Units.{FlashUnit}
use Rattle.medium.specs.Operation.{apply}
use Rattle.medium.specs.Medium.{part}
use Rattle.objects.specs.declared.types.ObjectType.{ObjectType}
use Rattle.objects.specs.Numbers.{number, bytes, unset_of}
use Rattle.objects.specs.Types.{type_byte}
use Rattle.fresh.specs.Units.{span, Clear, type_units, pay_units, size_units, before}
use Rattle.medium.proofs.Runs.{apply-append}
use Rattle.medium.proofs.Bytes.{ff_and, Misses, All-take, frame, length-apply, get_d_part, length_part, length_units, part_is, fits_up}
use Rattle.medium.proofs.Programs.{cut_stored, Partly, partly}
use Rattle.medium.proofs.Places.{Laid, laid}
use Rattle.objects.proofs.Numbers.{length_bytes, byte_bytes}
use Rattle.shown.proofs.Reading.{size_seen, unset_is, size_says}
use Rattle.fresh.proofs.Written.{New, one_long, type_clear, pay_clear, size_clear}

-- ---- lists and numbers

pub take_both : {A : Type 0} (k : ℕ) (xs ys : List A) → take k (xs ++ ys) ≡ take k xs ++ take (k - length xs) ys
take_both k [] ys = ap₂ (λ n zs. zs ++ take n ys) (sym (sub-zero k)) (sym (take-nil k))
take_both zero (x ∷ xs) ys = ap (λ n. take n ys) (sym (zero-sub (suc (length xs))))
take_both (suc k) (x ∷ xs) ys = let n : k - length xs ≡ suc k - suc (length xs) = omega arith in ap (λ l. x ∷ l) (take_both k xs ys ∙ ap (λ (i : ℕ). take k xs ++ take i ys) n)

-- byte for byte no smaller, so no smaller
number_le : (xs ys : List ℕ) → length xs ≡ length ys → ((i : ℕ) → i < length xs → get_or xs i 0 ≤ get_or ys i 0) → number xs ≤ number ys
number_le [] ys e f = omega arith
number_le (x ∷ xs) [] e f = absurd (omega arith)
number_le (x ∷ xs) (y ∷ ys) e f = omega (arith, f 0 (omega arith), number_le xs ys (omega arith) (λ i c. f (suc i) (omega arith)))

-- all FF
number_ff : (xs : List ℕ) → ((i : ℕ) → i < length xs → get_or xs i 0 ≡ 255) → number xs + 1 ≡ 256 ^ length xs
number_ff [] f = refl
number_ff (x ∷ xs) f = omega (arith, pow-succ' 256 (length xs), f 0 (omega arith), number_ff xs (λ i c. f (suc i) (omega arith)))

module _ (g : Granularity) (s : ℕ) (t : ObjectType) (q : ℕ) (pay img : List ℕ) (v : New g s q pay img) where
  l : Laid g s (length pay)
  l = laid g s (length pay) v.width_3

  abbrev T : ℕ → List FlashUnit
  T k = take k (type_units g t q)

  abbrev P : ℕ → List FlashUnit
  P k = take (k - length (type_units g t q)) (pay_units g s pay q)

  abbrev Z : ℕ → List FlashUnit
  Z k = take (k - length (type_units g t q) - length (pay_units g s pay q)) (size_units g s (length pay) q)

  abbrev cut : ℕ → List ℕ
  cut k = apply (take k (before g s t pay q)) img

  -- a cut leaves some of each
  parts : (k : ℕ) → cut k ≡ apply (Z k) (apply (P k) (apply (T k) img))
  parts k =
      ap (λ (us : List FlashUnit). apply us img)
      (take_both k (type_units g t q) (pay_units g s pay q ++ size_units g s (length pay) q)
      ∙ ap (λ (us : List FlashUnit). T k ++ us) (take_both (k - length (type_units g t q)) (pay_units g s pay q) (size_units g s (length pay) q)))
      ∙ apply-append (T k) (P k ++ Z k) img ∙ apply-append (P k) (Z k) (apply (T k) img)

  T-miss : (k j : ℕ) (m : List ℕ) → Clear q (q + width_of g) j → get_or (apply (T k) m) j 0 ≡ get_or m j 0
  T-miss k j m c = frame j 0 (T k) m (All-take (Misses j) k (type_units g t q) (type_clear g s t q pay l j q (q + width_of g) (omega arith) (omega arith) c))

  P-miss : (k j : ℕ) (m : List ℕ) → Clear (q + header g s) (q + span g s (length pay)) j → get_or (apply (P k) m) j 0 ≡ get_or m j 0
  P-miss k j m c =
      frame j 0 (P k) m (All-take (Misses j) (k - length (type_units g t q)) (pay_units g s pay q) (pay_clear g s t q pay l j (q + header g s) (q + span g s (length pay)) (omega arith) (omega arith) c))

  Z-miss : (k j : ℕ) (m : List ℕ) → Clear (q + size_at g) (q + header g s) j → get_or (apply (Z k) m) j 0 ≡ get_or m j 0
  Z-miss k j m c =
      frame j 0 (Z k) m
      (All-take (Misses j) (k - length (type_units g t q) - length (pay_units g s pay q)) (size_units g s (length pay) q) (size_clear g s t q pay l j (q + size_at g) (q + header g s) (omega arith) (omega arith) c))

  one : length (type_units g t q) ≡ 1
  one = one_long g q (type_byte t)

  many : length (pay_units g s pay q) ≡ units_in (width_of g) (length pay)
  many = length_units (width_of g) (q + header g s) pay

  -- the first byte of the payload, from the second unit on
  pub first_stored : (k : ℕ) → 2 ≤ k → 0 < length pay → get_or (cut k) (q + header g s) 0 ≡ get_or pay 0 0
  first_stored k c some =
      let z : q + header g s + 0 ≡ q + header g s = add-zero (q + header g s) in
      let n : 1 ≤ k - length (type_units g t q) = omega (arith, one) in
      let blank : get_or (apply (T k) img) (q + header g s + 0) 0 ≡ 255 =
      ap (λ (j : ℕ). get_or (apply (T k) img) j 0) z ∙ T-miss k (q + header g s) img (inr (omega (arith, l))) ∙ v.blank (header g s) (omega (arith, l)) in
      ap (λ (m : List ℕ). get_or m (q + header g s) 0) (parts k)
      ∙ Z-miss k (q + header g s) (apply (P k) (apply (T k) img)) (inr (omega arith))
      ∙ ap (λ (j : ℕ). get_or (apply (P k) (apply (T k) img)) j 0) (sym z)
      ∙ cut_stored (width_of g) l.pos (k - length (type_units g t q)) (q + header g s) pay (apply (T k) img) 0 (omega (arith, l.pos, mul-le-mul_right (width_of g) n)) some
      (omega (arith, length-apply (T k) img, l, v.fits))
      ∙ ap (λ (x : ℕ). bit_and x (get_or pay 0 0)) blank
      ∙ ff_and (get_or pay 0 0) (v.byte 0 some)

  -- and before that as it was
  pub first_kept : (k : ℕ) → k ≤ 1 → get_or (cut k) (q + header g s) 0 ≡ get_or img (q + header g s) 0
  first_kept k c =
      let n : k - length (type_units g t q) ≡ 0 = omega (arith, one) in
      ap (λ (m : List ℕ). get_or m (q + header g s) 0) (parts k)
      ∙ Z-miss k (q + header g s) (apply (P k) (apply (T k) img)) (inr (omega arith))
      ∙ ap (λ (i : ℕ). get_or (apply (take i (pay_units g s pay q)) (apply (T k) img)) (q + header g s) 0) n
      ∙ T-miss k (q + header g s) img (inr (omega (arith, l)))

  -- ---- the size field

  size_fits : (k : ℕ) → q + size_at g + s ≤ length (cut k)
  size_fits k = omega (arith, length-apply (take k (before g s t pay q)) img, l, v.fits)

  -- its bytes before its own units
  size_before : (k i : ℕ) → i < s → get_or (apply (P k) (apply (T k) img)) (q + size_at g + i) 0 ≡ 255
  size_before k i c =
      let z : q + size_at g + i ≡ q + (size_at g + i) = omega arith in
      P-miss k (q + size_at g + i) (apply (T k) img) (inl (omega (arith, l)))
      ∙ T-miss k (q + size_at g + i) img (inr (omega (arith, l)))
      ∙ ap (λ (j : ℕ). get_or img j 0) z ∙ v.blank (size_at g + i) (omega (arith, l))

  -- unset while none of its units is stored
  pub size_unset : (k : ℕ) → k ≤ 1 + units_in (width_of g) (length pay) → size_seen g s q (cut k) ≡ unset_of s
  size_unset k c =
      let n : k - length (type_units g t q) - length (pay_units g s pay q) ≡ 0 = omega (arith, one, many) in
      let lp : length (part (q + size_at g) s (cut k)) ≡ s = length_part (q + size_at g) s (cut k) (size_fits k) in
      let ff : (i : ℕ) → i < length (part (q + size_at g) s (cut k)) → get_or (part (q + size_at g) s (cut k)) i 0 ≡ 255 =
      λ i d.
      get_d_part (q + size_at g) s (cut k) i 0 (omega arith)
      ∙ ap (λ (m : List ℕ). get_or m (q + size_at g + i) 0) (parts k ∙ ap (λ (x : ℕ). apply (take x (size_units g s (length pay) q)) (apply (P k) (apply (T k) img))) n)
      ∙ size_before k i (omega arith) in
      let e : 256 ^ length (part (q + size_at g) s (cut k)) ≡ 256 ^ s = ap (λ (x : ℕ). 256 ^ x) lp in
      omega (arith, number_ff (part (q + size_at g) s (cut k)) ff, e, unset_is s v.some_width v.width_3)

  -- each of its bytes is FF or the size's own, so what it says is no smaller
  pub size_least : (k : ℕ) → length pay ≤ size_seen g s q (cut k)
  size_least k =
      let lp : length (part (q + size_at g) s (cut k)) ≡ s = length_part (q + size_at g) s (cut k) (size_fits k) in
      subst (λ (n : ℕ). n ≤ size_seen g s q (cut k)) (size_says s (length pay) v.some_width v.width_3 v.small)
      (number_le (bytes s (length pay)) (part (q + size_at g) s (cut k)) (length_bytes s (length pay) ∙ sym lp)
      (λ i c. let d : i < s = omega (arith, length_bytes s (length pay)) in rw (get_d_part (q + size_at g) s (cut k) i 0 d) (byte i (some i d))))
    where
      some : (i : ℕ) → i < s → Partly (bytes s (length pay)) i (get_or (cut k) (q + size_at g + i) 0)
      some i c =
          subst (λ (m : List ℕ). Partly (bytes s (length pay)) i (get_or m (q + size_at g + i) 0)) (sym (parts k))
          (partly (width_of g) l.pos (q + size_at g) (bytes s (length pay)) (apply (P k) (apply (T k) img)) i
          (omega (arith, length-apply (P k) (apply (T k) img), length-apply (T k) img, l, v.fits)) (size_before k i c) (λ _. byte_bytes s (length pay) i)
          (k - length (type_units g t q) - length (pay_units g s pay q)))

      byte : (i : ℕ) → Partly (bytes s (length pay)) i (get_or (cut k) (q + size_at g + i) 0) → get_or (bytes s (length pay)) i 0 ≤ get_or (cut k) (q + size_at g + i) 0
      byte i (inl e) = omega (arith, byte_bytes s (length pay) i)
      byte i (inr e) = omega (arith, e.1)

  -- and the size's own once all of its units are stored
  pub size_stored : (k : ℕ) → 1 + units_in (width_of g) (length pay) + units_in (width_of g) s ≤ k → size_seen g s q (cut k) ≡ length pay
  size_stored k c =
      ap number (part_is (q + size_at g) s (cut k) (bytes s (length pay)) (size_fits k) (length_bytes s (length pay)) byte)
      ∙ size_says s (length pay) v.some_width v.width_3 v.small
    where
      byte : (i : ℕ) → i < s → get_or (cut k) (q + size_at g + i) 0 ≡ get_or (bytes s (length pay)) i 0
      byte i d =
          let n : units_in (width_of g) s ≤ k - length (type_units g t q) - length (pay_units g s pay q) = omega (arith, one, many) in
          ap (λ (m : List ℕ). get_or m (q + size_at g + i) 0) (parts k)
          ∙ cut_stored (width_of g) l.pos (k - length (type_units g t q) - length (pay_units g s pay q)) (q + size_at g) (bytes s (length pay)) (apply (P k) (apply (T k) img)) i
          (omega (arith, fits_up (width_of g) l.pos s, mul-le-mul_right (width_of g) n)) (omega (arith, length_bytes s (length pay)))
          (omega (arith, length-apply (P k) (apply (T k) img), length-apply (T k) img, l, v.fits))
          ∙ ap (λ (x : ℕ). bit_and x (get_or (bytes s (length pay)) i 0)) (size_before k i d)
          ∙ ff_and (get_or (bytes s (length pay)) i 0) (byte_bytes s (length pay) i)

  -- ---- the payload, as far as it is stored

  -- each byte behind the header is FF, or its own
  pub payload_partly : (k i : ℕ) → q + header g s + i < length img → get_or img (q + header g s + i) 0 ≡ 255 → Partly pay i (get_or (cut k) (q + header g s + i) 0)
  payload_partly k i hl blank =
      subst (λ (y : ℕ). Partly pay i y)
      (sym (ap (λ (m : List ℕ). get_or m (q + header g s + i) 0) (parts k) ∙ Z-miss k (q + header g s + i) (apply (P k) (apply (T k) img)) (inr (omega arith))))
      (partly (width_of g) l.pos (q + header g s) pay (apply (T k) img) i (omega (arith, length-apply (T k) img))
      (T-miss k (q + header g s + i) img (inr (omega (arith, l))) ∙ blank) (v.byte i) (k - length (type_units g t q)))
