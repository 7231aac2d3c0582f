-- Under the strict mark: units over erased bytes that they share with no other are programmed once, and an operation that stores such units
-- without the mark stores them under it.
use mathlib.Core.Path.{◌≡◌, refl, sym, ap, subst, ◌∙◌}
use mathlib.Core.Logic.{inl, inr}
use mathlib.Core.Bool.{Bool, true, false}
use mathlib.Core.List.{List, [], ◌∷◌, ◌++◌, append_assoc}
use Prim.Native.Nat.{ℕ, ◌+◌, ◌*◌, ◌≤◌, ◌<◌}
use native.Mathlib.Omega.{arith}
use lib.ListN.{length, get_or}
use lib.Dec.{eqb}
use borrow.Author.Tests.{eqb-true, eqb-false}
use Rattle.medium.specs.declared.granularity.Granularity.{Granularity}
use Rattle.medium.specs.declared.geometry.Geometry.{Geometry}
use Rattle.medium.specs.All.{All}
use Rattle.medium.specs.Granularity.{pick, width_of, units_in, align_of, finish_at, finish_mark, size_at, header}
use Rattle.medium.specs.Geometry.{geometry_ok, admit, check_of}
use Rattle.medium.specs.Units.{FlashUnit, padded, units_of}
use Rattle.medium.specs.Operation.{flash, apply, Op}
use Rattle.medium.specs.Marked.{Fresh, Once, UnderMark, with_strict, Beside}
use Rattle.medium.proofs.Bytes.{Misses, All-append, frame, length-apply}
use Rattle.medium.proofs.Checks.{sound_is, geometry_yes, picked}
use Rattle.medium.proofs.Places.{Laid, laid}
use Rattle.medium.proofs.Traced.{ran}
use Rattle.medium.proofs.Strict.{once_words, free_store}
use Rattle.medium.proofs.Marked.{along_append, same_under}
use Rattle.objects.specs.declared.types.ObjectType.{ObjectType}
use Rattle.objects.specs.Types.{type_byte}
use Rattle.objects.specs.Numbers.{bytes}
use Rattle.objects.proofs.Numbers.{length_bytes}
use Rattle.fresh.specs.Units.{span, type_units, pay_units, size_units, before, new_units}
use Rattle.fresh.proofs.Written.{New, type_clear, pay_clear, inside}

-- ---- a store behind units that miss it, over bytes that were FF

pub next_once : (w : ℕ) (us : List FlashUnit) (a : ℕ) (bs img : List ℕ) → Once us img → a + align_of w (length bs) ≤ length img
    → ((i : ℕ) → i < align_of w (length bs) → get_or img (a + i) 0 ≡ 255) → ((i : ℕ) → i < align_of w (length bs) → All (Misses (a + i)) us) → Once (us ++ units_of w a bs) img
next_once w us a bs img h fits ff miss =
    along_append flash Fresh us (units_of w a bs) img h
    (once_words (units_in w (length bs)) w a (padded w bs) (apply us img)
    (free_store w a bs (apply us img) (λ i k. frame (a + i) 0 us img (miss i k) ∙ ff i k) (rw (length-apply us img) fits)))

-- ---- an object that is written over erased bytes

module _ (g : Granularity) (s : ℕ) (t : ObjectType) (q : ℕ) (pay img : List ℕ) (v : New g s q pay img) where
  l : Laid g s (length pay)
  l = laid g s (length pay) v.width_3

  -- the bytes of a store that lies within the span
  erased_in : (x n : ℕ) → x + n ≤ span g s (length pay) → (i : ℕ) → i < n → get_or img (q + x + i) 0 ≡ 255
  erased_in x n h i k = let e : q + x + i ≡ q + (x + i) = omega arith in ap (λ (j : ℕ). get_or img j 0) e ∙ v.blank (x + i) (omega arith)

  type_once : Once (type_units g t q) img
  type_once =
      let e : q + 0 ≡ q = omega arith in
      next_once (width_of g) [] q (type_byte t ∷ []) img tt (omega (arith, l, v.fits)) (λ i k. v.blank i (omega (arith, l))) (λ _ _. tt)

  pay_once : Once (type_units g t q ++ pay_units g s pay q) img
  pay_once =
      next_once (width_of g) (type_units g t q) (q + header g s) pay img type_once (omega (arith, l, v.fits)) (erased_in (header g s) (align_of (width_of g) (length pay)) (omega (arith, l)))
      (λ i k. type_clear g s t q pay l (q + header g s + i) q (q + width_of g) (omega arith) (omega arith) (inr (omega (arith, l))))

  size_long : align_of (width_of g) (length (bytes s (length pay))) ≡ align_of (width_of g) s
  size_long = ap (align_of (width_of g)) (length_bytes s (length pay))

  before_once : Once (before g s t pay q) img
  before_once =
      subst (λ (us : List FlashUnit). Once us img) (append_assoc (type_units g t q) (pay_units g s pay q) (size_units g s (length pay) q))
      (next_once (width_of g) (type_units g t q ++ pay_units g s pay q) (q + size_at g) (bytes s (length pay)) img pay_once (omega (arith, l, v.fits, size_long))
      (erased_in (size_at g) (align_of (width_of g) (length (bytes s (length pay)))) (omega (arith, l, size_long)))
      (λ i k. All-append (Misses (q + size_at g + i)) (type_units g t q) (pay_units g s pay q)
      (type_clear g s t q pay l (q + size_at g + i) q (q + width_of g) (omega arith) (omega arith) (inr (omega (arith, l))))
      (pay_clear g s t q pay l (q + size_at g + i) (q + header g s) (q + span g s (length pay)) (omega arith) (omega arith) (inl (omega (arith, l, size_long))))))

  -- THE FACT: each of its units once
  pub new_once : Once (new_units g s t pay q) img
  new_once =
      next_once (width_of g) (before g s t pay q) (q + finish_at g) (finish_mark g ∷ []) img before_once (omega (arith, l, v.fits))
      (erased_in (finish_at g) (align_of (width_of g) 1) (omega (arith, l)))
      (λ i k. All-append (Misses (q + finish_at g + i)) (type_units g t q) (pay_units g s pay q ++ size_units g s (length pay) q)
      (type_clear g s t q pay l (q + finish_at g + i) q (q + width_of g) (omega arith) (omega arith) (inr (omega (arith, l))))
      (All-append (Misses (q + finish_at g + i)) (pay_units g s pay q) (size_units g s (length pay) q)
      (pay_clear g s t q pay l (q + finish_at g + i) (q + header g s) (q + span g s (length pay)) (omega arith) (omega arith) (inl (omega (arith, l))))
      (inside (width_of g) l.pos (q + size_at g) (bytes s (length pay)) (q + size_at g) (q + header g s) (q + finish_at g + i) (omega arith) (omega (arith, l, size_long)) (inl (omega (arith, l))))))

-- ---- both modes at once

-- a sound geometry is sound without its mark
pub unmarked_sound : (g : Geometry) → geometry_ok g ≡ true → geometry_ok (with_strict g 0) ≡ true
unmarked_sound g e =
    let v = sound_is g e in
    geometry_yes (with_strict g 0) v.least v.small v.quad v.s_holds v.some v.c_holds v.bound (omega arith)

pub sound_of_lem : (g : Geometry) (room : ℕ) → check_of g room ≡ 0 → geometry_ok g ≡ true
unfolding admit
sound_of_lem g room e = (picked (geometry_ok g) (pick (eqb (g.size * g.count) room) 0 7) 5 e).0

pub unmarked_fine : (g : Geometry) (room : ℕ) → check_of g room ≡ 0 → check_of (with_strict g 0) room ≡ 0
unfolding admit
unmarked_fine g room e = let t = picked (geometry_ok g) (pick (eqb (g.size * g.count) room) 0 7) 5 e in rw (unmarked_sound g t.0) t.1

-- a marked geometry beside itself without the mark
pub beside_plain : (g : Geometry) → geometry_ok g ≡ true → g.strict ≡ 1 → Beside g 0
beside_plain g e on = record { on = on; off = λ z. omega arith; sound = unmarked_sound g e ∙ sym e }

-- what stores these units without the mark stores them under it, where none is programmed twice
pub either_ran : {A : Type 0} (g : Geometry) (o : Geometry → Op A) → ((m : ℕ) → Beside g m → UnderMark (o g) (o (with_strict g m))) → geometry_ok g ≡ true
    → (img : List ℕ) (us : List FlashUnit) (x : A) → ((g.strict ≡ 1 → ⊥) → o g img ≡ ran us x) → (Beside g 0 → o (with_strict g 0) img ≡ ran us x) → (g.strict ≡ 1 → Once us img) → o g img ≡ ran us x
either_ran {A} g o under e img us x off plain once = go (eqb g.strict 1) refl
  where
    go : (t : Bool) → eqb g.strict 1 ≡ t → o g img ≡ ran us x
    go true q =
        let b : Beside g 0 = beside_plain g e (eqb-true _ _ q) in
        same_under flash Fresh (o g) (o (with_strict g 0)) (under 0 b) img (rw (plain b) (once (eqb-true _ _ q))) ∙ plain b
    go false q = off (eqb-false _ _ q)
