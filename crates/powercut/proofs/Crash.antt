-- The stores of a move, cut after any number of units: what stands at the original's place in each phase, and that the copy is a new object.
use mathlib.Core.Path.{◌≡◌, refl, sym, ap, ◌∙◌, subst}
use mathlib.Core.Logic.{◌⊎◌, inl, inr, ◌≢◌}
use mathlib.Core.List.{List, [], ◌∷◌, ◌++◌, append_assoc, append-nil}
use Prim.Native.Nat.{ℕ, ◌+◌, ◌≤◌, ◌<◌}
use native.Mathlib.Nat.{add-zero}
use native.Mathlib.Omega.{arith}
use lib.ListN.{length, take, get_or}
use lib.Bits.{and_zero_r}
use Rattle.medium.specs.declared.granularity.Granularity.{Granularity}
use Rattle.medium.specs.All.{All}
use Rattle.medium.specs.Granularity.{width_of, finish_at, delete_at, size_at}
use Rattle.medium.specs.Units.{FlashUnit}
use Rattle.medium.specs.Operation.{apply, done}
use Rattle.objects.specs.declared.types.ObjectType.{ObjectType}
use Rattle.objects.specs.declared.state.ObjectDataState.TheVariants.{Valid, Deleted}
use Rattle.objects.specs.declared.state.CompositeObjectState.TheVariants.{Allocated}
use Rattle.objects.specs.Numbers.{number}
use Rattle.objects.specs.Types.{type_byte}
use Rattle.fresh.specs.Units.{span, Clear, mark_units, delete_units, before, new_units}
use Rattle.powercut.specs.Stores.{move_units}
use Rattle.medium.proofs.Runs.{apply-append, leb_is}
use Rattle.medium.proofs.Bytes.{Off, Misses, All-append, All-take, frame, length-apply, stored}
use Rattle.medium.proofs.Programs.{pad_kept}
use Rattle.medium.proofs.Frame.{part_same}
use Rattle.medium.proofs.Places.{Laid, laid}
use Rattle.shown.proofs.Reading.{state_seen, size_seen, Stands, Shown, shown, seen_object, mark_deleted, stands_same}
use Rattle.fresh.proofs.Places.{far_from}
use Rattle.fresh.proofs.Written.{New, delete_clear, before_clear, new_clear, stands}

-- ---- the move of one object: what is given

pub record Given (g : Granularity) (s : ℕ) (t : ObjectType) (p q size : ℕ) (pay img : List ℕ) : Type 0 where
  pub new : New g s q pay img
  pub byte : (j : ℕ) → get_or img j 0 < 256
  pub original : Stands g s p (Allocated t Valid) size pay img
  pub original_fits : p + span g s (length pay) ≤ length img
  pub apart : (p + span g s (length pay) ≤ q) ⊎ (q + span g s (length pay) ≤ p)

swap : {A B : Type 0} → A ⊎ B → B ⊎ A
swap (inl a) = inr a
swap (inr b) = inl b

module _ (g : Granularity) (s : ℕ) (t : ObjectType) (p q size : ℕ) (pay img : List ℕ) (v : Given g s t p q size pay img) where
  l : Laid g s (length pay)
  l = laid g s (length pay) v.new.width_3

  -- a byte of the original, or one of the copy, is clear of the other's span
  far : (j : ℕ) → p ≤ j → j < p + span g s (length pay) → Clear q (q + span g s (length pay)) j
  far j = far_from p q (span g s (length pay)) j v.apart

  far_copy : (j : ℕ) → q ≤ j → j < q + span g s (length pay) → Clear p (p + span g s (length pay)) j
  far_copy j = far_from q p (span g s (length pay)) j (swap v.apart)

  type_known : Shown g (get_or img p 0) (get_or img (p + finish_at g) 0) (get_or img (p + delete_at g) 0) t Valid
  type_known = shown g (get_or img p 0) (get_or img (p + finish_at g) 0) (get_or img (p + delete_at g) 0) t Valid v.original.state

  -- units that stay inside the copy's span leave the original whole
  untouched : (us : List FlashUnit) → ((j : ℕ) → Clear q (q + span g s (length pay)) j → All (Misses j) us) → Stands g s p (Allocated t Valid) size pay (apply us img)
  untouched us h =
      stands_same img (apply us img) (length-apply us img) g s p (Allocated t Valid) size pay l (omega (arith, l, v.original_fits))
      (λ j a b. frame j 0 us img (h j (far j a (omega (arith, l)))))
      v.original

  -- ---- phase 1: before the finish mark

  pub original_before : (k : ℕ) → Stands g s p (Allocated t Valid) size pay (apply (take k (before g s t pay q)) img)
  original_before k = untouched (take k (before g s t pay q)) (λ j c. All-take (Misses j) k (before g s t pay q) (before_clear g s t q pay l j c))

  -- ---- phase 2: the copy's finish mark is programmed

  abbrev copied : List FlashUnit
  copied = new_units g s t pay q

  copied_clear : (j : ℕ) → Clear q (q + span g s (length pay)) j → All (Misses j) copied
  copied_clear j c = new_clear g s t q pay v.new.width_3 j c

  -- ---- phase 3: the original's delete mark is programmed

  delete_far : (j : ℕ) → q ≤ j → j < q + span g s (length pay) → All (Misses j) (delete_units g p)
  delete_far j a b = delete_clear g s t p pay l j p (p + span g s (length pay)) (omega arith) (omega (arith, l)) (far_copy j a b)

  delete_type : All (Misses p) (delete_units g p)
  delete_type = delete_clear g s t p pay l p (p + delete_at g) (p + delete_at g + width_of g) (omega arith) (omega arith) (inl (omega (arith, l)))

  abbrev pub everything : List FlashUnit
  everything = move_units g s t pay p q

  -- the list opened at the delete mark
  at_delete : everything ≡ copied ++ delete_units g p
  at_delete = sym (append_assoc (before g s t pay q) (mark_units g q) (delete_units g p))

  all_clear : (j : ℕ) → Clear q (q + span g s (length pay)) j → All (Misses j) (delete_units g p) → All (Misses j) everything
  all_clear j c d = subst (All (Misses j)) (sym at_delete) (All-append (Misses j) copied (delete_units g p) (copied_clear j c) d)

  after_type : get_or (apply everything img) p 0 ≡ type_byte t
  after_type =
      frame p 0 everything img (all_clear p (far p (omega arith) (omega (arith, l))) delete_type)
      ∙ type_known.type_is

  after_delete : get_or (apply everything img) (p + delete_at g) 0 ≡ 0
  after_delete =
      let j : ℕ = p + delete_at g in
      ap (λ (us : List FlashUnit). get_or (apply us img) (p + delete_at g) 0) (at_delete ∙ ap (λ (us : List FlashUnit). copied ++ us) (sym (append-nil (delete_units g p))))
      ∙ ap (λ (x : ℕ). get_or (apply (copied ++ (delete_units g p ++ [])) img) x 0) (sym (add-zero j))
      ∙ stored (width_of g) l.pos copied [] j (0 ∷ []) 0 img (rw (add-zero j) (copied_clear j (far j (omega arith) (omega (arith, l))))) tt (omega arith) (omega (arith, l, v.original_fits))
      ∙ and_zero_r (get_or img (j + 0) 0)

  after_finish : finish_at g + width_of g ≤ delete_at g → get_or (apply everything img) (p + finish_at g) 0 ≡ get_or img (p + finish_at g) 0
  after_finish h =
      let j : ℕ = p + finish_at g in
      frame j 0 everything img
      (all_clear j (far j (omega arith) (omega (arith, l)))
      (delete_clear g s t p pay l j (p + delete_at g) (p + delete_at g + width_of g) (omega arith) (omega arith) (inl (omega (arith, l)))))

  pub original_after : state_seen g p (apply everything img) ≡ done (Allocated t Deleted)
  original_after =
      seen_object g p (apply everything img) t (get_or (apply everything img) (p + finish_at g) 0) 0 Deleted after_type refl after_delete
      (mark_deleted g (get_or img (p + finish_at g) 0) (get_or img (p + delete_at g) 0) (get_or (apply everything img) (p + finish_at g) 0) type_known.mark_is after_finish
      (λ e. ap (λ (x : ℕ). get_or (apply everything img) (p + x) 0) e ∙ after_delete))

  -- its size field is as it was
  pub size_after : size_seen g s p (apply everything img) ≡ size
  size_after =
      ap number
      (part_same (p + size_at g) s img (apply everything img) (length-apply everything img) (omega (arith, l, v.original_fits))
      (λ j a b. frame j 0 everything img
      (all_clear j (far j (omega arith) (omega (arith, l)))
      (delete_clear g s t p pay l j (p + delete_at g) (p + delete_at g + width_of g) (omega arith) (omega arith) (inr (omega (arith, l)))))))
      ∙ v.original.size_is

  pub copy_after : Stands g s q (Allocated t Valid) (length pay) pay (apply everything img)
  copy_after = stands g s t q pay img v.new (delete_units g p) delete_far

  pub original_between : Stands g s p (Allocated t Valid) size pay (apply copied img)
  original_between = untouched copied copied_clear

  -- a copy that is cut leaves it too
  pub original_cut : (k : ℕ) → Stands g s p (Allocated t Valid) size pay (apply (take k copied) img)
  original_cut k = untouched (take k copied) (λ j c. All-take (Misses j) k copied (copied_clear j c))

  -- ---- no other byte changes

  delete_off : (j : ℕ) (m : List ℕ) → length m ≡ length img → get_or m j 0 < 256 → j ≢ p + delete_at g → get_or (apply (delete_units g p) m) j 0 ≡ get_or m j 0
  delete_off j m e hb ne =
      pad_kept (width_of g) l.pos (p + delete_at g) (0 ∷ []) m j (aside (leb_is (p + delete_at g) j) (leb_is (p + delete_at g + 1) j)) (omega (arith, l, e, v.original_fits)) hb
    where
      aside : (p + delete_at g ≤ j) ⊎ (j < p + delete_at g) → (p + delete_at g + 1 ≤ j) ⊎ (j < p + delete_at g + 1) → Off (p + delete_at g) 1 j
      aside (inr c) d = inl c
      aside (inl c) (inl d) = inr d
      aside (inl c) (inr d) = absurd (ne (omega arith))

  pub framed_moved : (j : ℕ) → Clear q (q + span g s (length pay)) j → j ≢ p + delete_at g → get_or (apply everything img) j 0 ≡ get_or img j 0
  framed_moved j c ne =
      let f : get_or (apply copied img) j 0 ≡ get_or img j 0 = frame j 0 copied img (copied_clear j c) in
      ap (λ (us : List FlashUnit). get_or (apply us img) j 0) at_delete
      ∙ ap (λ (i : List ℕ). get_or i j 0) (apply-append copied (delete_units g p) img)
      ∙ delete_off j (apply copied img) (length-apply copied img) (omega (arith, f, v.byte j)) ne
      ∙ f
