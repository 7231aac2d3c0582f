-- An object written new at an erased place, unit by unit: the type first, so that from then on it reads unfinished, and whole with the finish mark.
-- Units that miss its span may follow.
use mathlib.Core.Path.{◌≡◌, refl, sym, ap, ◌∙◌, subst}
use mathlib.Core.Logic.{◌⊎◌, inl, inr}
use mathlib.Core.List.{List, [], ◌∷◌, ◌++◌, append_assoc, append-nil}
use Prim.Native.Nat.{ℕ, zero, suc, ◌+◌, ◌-◌, ◌*◌, ◌≤◌, ◌<◌}
use native.Mathlib.Nat.{add-zero}
use native.Mathlib.Omega.{arith}
use lib.ListN.{length, take, get_or, length-append}
use lib.Seq.{take-append-add, take-append-le, take_all}
use lib.Bits.{bit_and}
use Rattle.medium.specs.declared.granularity.Granularity.{Granularity}
use Rattle.medium.specs.declared.granularity.Granularity.TheVariants.{Bit, Word1, Word4}
use Rattle.medium.specs.All.{All}
use Rattle.medium.specs.Granularity.{width_of, units_in, finish_at, delete_at, finish_mark, size_at, header}
use Rattle.medium.specs.Units.{FlashUnit, units_of}
use Rattle.medium.specs.Operation.{apply, done}
use Rattle.objects.specs.declared.types.ObjectType.{ObjectType}
use Rattle.objects.specs.declared.state.ObjectDataState.TheVariants.{Untrusted, Valid}
use Rattle.objects.specs.declared.state.CompositeObjectState.TheVariants.{Free, Allocated}
use Rattle.objects.specs.Numbers.{number, bytes, unset_of}
use Rattle.objects.specs.Types.{type_byte}
use Rattle.fresh.specs.Units.{span, Clear, type_units, pay_units, size_units, mark_units, before, new_units, units_before, delete_units}
use Rattle.medium.proofs.Bytes.{ff_and, Misses, All-append, All-take, frame, store_miss, length-apply, length_units, stored, part_is}
use Rattle.medium.proofs.Places.{Laid, laid}
use Rattle.objects.proofs.Numbers.{length_bytes, byte_bytes}
use Rattle.shown.proofs.Reading.{state_seen, size_seen, Stands, type_small, seen_object, seen_free, blank_marks, mark_valid, size_says}

-- ---- a byte clear of an interval

pub inside : (w : ℕ) (hw : 0 < w) (a : ℕ) (bs : List ℕ) (lo hi j : ℕ) → lo ≤ a → a + units_in w (length bs) * w ≤ hi → Clear lo hi j → All (Misses j) (units_of w a bs)
inside w hw a bs lo hi j h k (inl c) = store_miss w hw a bs j (inl (omega arith))
inside w hw a bs lo hi j h k (inr c) = store_miss w hw a bs j (inr (omega arith))

module _ (g : Granularity) (s : ℕ) (t : ObjectType) (q : ℕ) (pay : List ℕ) (l : Laid g s (length pay)) where
  pub type_clear : (j lo hi : ℕ) → lo ≤ q → q + width_of g ≤ hi → Clear lo hi j → All (Misses j) (type_units g t q)
  type_clear j lo hi h k c = inside (width_of g) l.pos q (type_byte t ∷ []) lo hi j h (omega (arith, l)) c

  pub pay_clear : (j lo hi : ℕ) → lo ≤ q + header g s → q + span g s (length pay) ≤ hi → Clear lo hi j → All (Misses j) (pay_units g s pay q)
  pay_clear j lo hi h k c = inside (width_of g) l.pos (q + header g s) pay lo hi j h (omega (arith, l)) c

  pub size_clear : (j lo hi : ℕ) → lo ≤ q + size_at g → q + header g s ≤ hi → Clear lo hi j → All (Misses j) (size_units g s (length pay) q)
  size_clear j lo hi h k c = inside (width_of g) l.pos (q + size_at g) (bytes s (length pay)) lo hi j h (rw (length_bytes s (length pay)) (omega (arith, l))) c

  pub mark_clear : (j lo hi : ℕ) → lo ≤ q + finish_at g → q + finish_at g + width_of g ≤ hi → Clear lo hi j → All (Misses j) (mark_units g q)
  mark_clear j lo hi h k c = inside (width_of g) l.pos (q + finish_at g) (finish_mark g ∷ []) lo hi j h (omega (arith, l)) c

  pub delete_clear : (j lo hi : ℕ) → lo ≤ q + delete_at g → q + delete_at g + width_of g ≤ hi → Clear lo hi j → All (Misses j) (delete_units g q)
  delete_clear j lo hi h k c = inside (width_of g) l.pos (q + delete_at g) (0 ∷ []) lo hi j h (omega (arith, l)) c

  -- no store before the mark touches anything outside the span
  pub before_clear : (j : ℕ) → Clear q (q + span g s (length pay)) j → All (Misses j) (before g s t pay q)
  before_clear j c =
      All-append (Misses j) (type_units g t q) (pay_units g s pay q ++ size_units g s (length pay) q)
      (type_clear j q (q + span g s (length pay)) (omega arith) (omega (arith, l)) c)
      (All-append (Misses j) (pay_units g s pay q) (size_units g s (length pay) q)
      (pay_clear j q (q + span g s (length pay)) (omega arith) (omega arith) c)
      (size_clear j q (q + span g s (length pay)) (omega arith) (omega (arith, l)) c))

  -- nor the places of the two marks
  before_marks : (m : ℕ) → width_of g ≤ m → m < size_at g → All (Misses (q + m)) (before g s t pay q)
  before_marks m h k =
      All-append (Misses (q + m)) (type_units g t q) (pay_units g s pay q ++ size_units g s (length pay) q)
      (type_clear (q + m) q (q + width_of g) (omega arith) (omega arith) (inr (omega arith)))
      (All-append (Misses (q + m)) (pay_units g s pay q) (size_units g s (length pay) q)
      (pay_clear (q + m) (q + header g s) (q + span g s (length pay)) (omega arith) (omega arith) (inl (omega (arith, l))))
      (size_clear (q + m) (q + size_at g) (q + header g s) (omega arith) (omega arith) (inl (omega arith))))

-- a store of one byte is one unit
one_in : (g : Granularity) → units_in (width_of g) 1 ≡ 1
one_in Bit = omega arith
one_in Word1 = omega arith
one_in Word4 = omega arith

mark_byte_lem : (g : Granularity) → finish_mark g < 256
mark_byte_lem Bit = omega arith
mark_byte_lem Word1 = omega arith
mark_byte_lem Word4 = omega arith

pub one_long : (g : Granularity) (a b : ℕ) → length (units_of (width_of g) a (b ∷ [])) ≡ 1
one_long g a b = length_units (width_of g) a (b ∷ []) ∙ one_in g

-- ---- what is given: the payload's bytes, and erased room in the image

pub record New (g : Granularity) (s q : ℕ) (pay img : List ℕ) : Type 0 where
  pub some_width : 0 < s
  pub width_3 : s ≤ 3
  pub byte : (i : ℕ) → i < length pay → get_or pay i 0 < 256
  pub small : length pay < unset_of s
  pub fits : q + span g s (length pay) ≤ length img
  pub blank : (i : ℕ) → i < span g s (length pay) → get_or img (q + i) 0 ≡ 255

-- ---- how many units there are, and which of them a cut leaves

module _ (g : Granularity) (s : ℕ) (t : ObjectType) (q : ℕ) (pay : List ℕ) where
  pub length_before : length (before g s t pay q) ≡ units_before g s (length pay)
  length_before =
      simp length-append
      (omega (arith, one_long g q (type_byte t), length_units (width_of g) (q + header g s) pay, length_units (width_of g) (q + size_at g) (bytes s (length pay)) ∙ ap (units_in (width_of g)) (length_bytes s (length pay))))

  pub length_new : length (new_units g s t pay q) ≡ units_before g s (length pay) + 1
  length_new = omega (arith, length-append (before g s t pay q) (mark_units g q), length_before, one_long g (q + finish_at g) (finish_mark g))

  pub cut_before : (k : ℕ) → k ≤ units_before g s (length pay) → take k (new_units g s t pay q) ≡ take k (before g s t pay q)
  cut_before k c = take-append-le k (before g s t pay q) (mark_units g q) (omega (arith, length_before))

  pub cut_all : (k : ℕ) → units_before g s (length pay) + 1 ≤ k → take k (new_units g s t pay q) ≡ new_units g s t pay q
  cut_all k c = take_all k (new_units g s t pay q) (omega (arith, length_new))

  pub new_clear : s ≤ 3 → (j : ℕ) → Clear q (q + span g s (length pay)) j → All (Misses j) (new_units g s t pay q)
  new_clear h j c =
      let l : Laid g s (length pay) = laid g s (length pay) h in
      All-append (Misses j) (before g s t pay q) (mark_units g q) (before_clear g s t q pay l j c)
      (mark_clear g s t q pay l j q (q + span g s (length pay)) (omega arith) (omega (arith, l)) c)

module _ (g : Granularity) (s : ℕ) (t : ObjectType) (q : ℕ) (pay img : List ℕ) (v : New g s q pay img) where
  l : Laid g s (length pay)
  l = laid g s (length pay) v.width_3

  -- ---- before the finish mark

  -- a mark's place is still FF
  blank_mark : (k m : ℕ) → width_of g ≤ m → m < size_at g → get_or (apply (take k (before g s t pay q)) img) (q + m) 0 ≡ 255
  blank_mark k m h i =
      frame (q + m) 0 (take k (before g s t pay q)) img (All-take (Misses (q + m)) k (before g s t pay q) (before_marks g s t q pay l m h i))
      ∙ v.blank m (omega (arith, l))

  blank_at : (j : ℕ) → q ≤ j → j < q + span g s (length pay) → get_or img j 0 ≡ 255
  blank_at j a b = let e : j ≡ q + (j - q) = omega arith in ap (λ (x : ℕ). get_or img x 0) e ∙ v.blank (j - q) (omega arith)

  -- a byte of a store into the object's span, among stores that miss it, reads as it was stored
  new : (us vs : List FlashUnit) (a : ℕ) (bs : List ℕ) (i : ℕ) → All (Misses (a + i)) us → All (Misses (a + i)) vs
      → i < length bs → q ≤ a → a + i < q + span g s (length pay) → get_or bs i 0 < 256
      → get_or (apply (us ++ (units_of (width_of g) a bs ++ vs)) img) (a + i) 0 ≡ get_or bs i 0
  new us vs a bs i hu hv hi ha hm hb =
      stored (width_of g) l.pos us vs a bs i img hu hv hi (omega (arith, v.fits))
      ∙ ap (λ (x : ℕ). bit_and x (get_or bs i 0)) (blank_at (a + i) (omega arith) hm)
      ∙ ff_and (get_or bs i 0) hb

  -- the same for a store of one byte
  new_byte : (us vs : List FlashUnit) (a b : ℕ) → All (Misses a) us → All (Misses a) vs → q ≤ a → a < q + span g s (length pay) → b < 256
      → get_or (apply (us ++ (units_of (width_of g) a (b ∷ []) ++ vs)) img) a 0 ≡ b
  new_byte us vs a b hu hv ha hm hb =
      subst (λ (x : ℕ). get_or (apply (us ++ (units_of (width_of g) a (b ∷ []) ++ vs)) img) x 0 ≡ b) (add-zero a)
      (new us vs a (b ∷ []) 0 (rw (add-zero a) hu) (rw (add-zero a) hv) (omega arith) ha (omega arith) hb)

  first_byte : (k : ℕ) → get_or (apply (take (suc k) (before g s t pay q)) img) q 0 ≡ type_byte t
  first_byte k =
      let rest : List FlashUnit = pay_units g s pay q ++ size_units g s (length pay) q in
      let n : suc k ≡ length (type_units g t q) + k = omega (arith, one_long g q (type_byte t)) in
      let e : take (suc k) (before g s t pay q) ≡ type_units g t q ++ take k rest =
      ap (λ (n : ℕ). take n (type_units g t q ++ rest)) n ∙ take-append-add (type_units g t q) rest k in
      let m : All (Misses q) rest =
      All-append (Misses q) (pay_units g s pay q) (size_units g s (length pay) q)
      (pay_clear g s t q pay l q (q + header g s) (q + span g s (length pay)) (omega arith) (omega arith) (inl (omega (arith, l))))
      (size_clear g s t q pay l q (q + size_at g) (q + header g s) (omega arith) (omega arith) (inl (omega (arith, l)))) in
      ap (λ (us : List FlashUnit). get_or (apply us img) q 0) e
      ∙ new_byte [] (take k rest) q (type_byte t) tt (All-take (Misses q) k rest m) (omega arith) (omega (arith, l)) (type_small t)

  pub still_free : state_seen g q img ≡ done Free
  still_free = seen_free g q img (blank_at q (omega arith) (omega (arith, l)))

  -- unfinished from the first unit on
  pub begun : (k : ℕ) → state_seen g q (apply (take (suc k) (before g s t pay q)) img) ≡ done (Allocated t Untrusted)
  begun k =
      seen_object g q (apply (take (suc k) (before g s t pay q)) img) t 255 255 Untrusted (first_byte k)
      (blank_mark (suc k) (finish_at g) l.type_finish (omega (arith, l)))
      (blank_mark (suc k) (delete_at g) l.type_delete (omega (arith, l)))
      (blank_marks g)

  pub unfinished : (k : ℕ)
      → (state_seen g q (apply (take k (before g s t pay q)) img) ≡ done Free) ⊎ (state_seen g q (apply (take k (before g s t pay q)) img) ≡ done (Allocated t Untrusted))
  unfinished zero = inl still_free
  unfinished (suc k) = inr (begun k)

  -- ---- the finish mark is programmed, and then some units that miss the object

  module _ (vs : List FlashUnit) (hv : (j : ℕ) → q ≤ j → j < q + span g s (length pay) → All (Misses j) vs) where
    abbrev typed : List FlashUnit
    typed = type_units g t q

    abbrev paid : List FlashUnit
    paid = pay_units g s pay q

    abbrev sized : List FlashUnit
    sized = size_units g s (length pay) q

    abbrev marked : List FlashUnit
    marked = mark_units g q

    abbrev writing : List FlashUnit
    writing = typed ++ (paid ++ (sized ++ (marked ++ vs)))

    abbrev last : List ℕ
    last = apply writing img

    in-T : (j : ℕ) → Clear q (q + width_of g) j → All (Misses j) typed
    in-T j = type_clear g s t q pay l j q (q + width_of g) (omega arith) (omega arith)

    in-P : (j : ℕ) → Clear (q + header g s) (q + span g s (length pay)) j → All (Misses j) paid
    in-P j = pay_clear g s t q pay l j (q + header g s) (q + span g s (length pay)) (omega arith) (omega arith)

    in-Z : (j : ℕ) → Clear (q + size_at g) (q + header g s) j → All (Misses j) sized
    in-Z j = size_clear g s t q pay l j (q + size_at g) (q + header g s) (omega arith) (omega arith)

    in-M : (j : ℕ) → Clear (q + finish_at g) (q + finish_at g + width_of g) j → All (Misses j) marked
    in-M j = mark_clear g s t q pay l j (q + finish_at g) (q + finish_at g + width_of g) (omega arith) (omega arith)

    from-M : (j : ℕ) → All (Misses j) marked → All (Misses j) vs → All (Misses j) (marked ++ vs)
    from-M j = All-append (Misses j) marked vs

    from-Z : (j : ℕ) → All (Misses j) sized → All (Misses j) (marked ++ vs) → All (Misses j) (sized ++ (marked ++ vs))
    from-Z j = All-append (Misses j) sized (marked ++ vs)

    from-P : (j : ℕ) → All (Misses j) paid → All (Misses j) (sized ++ (marked ++ vs)) → All (Misses j) (paid ++ (sized ++ (marked ++ vs)))
    from-P j = All-append (Misses j) paid (sized ++ (marked ++ vs))

    -- the same list, opened at the finish mark
    at_mark : writing ≡ before g s t pay q ++ (marked ++ vs)
    at_mark = simp append_assoc

    length-image : length last ≡ length img
    length-image = length-apply writing img

    new-type : get_or last q 0 ≡ type_byte t
    new-type =
        new_byte [] (paid ++ (sized ++ (marked ++ vs))) q (type_byte t) tt
        (from-P q (in-P q (inl (omega (arith, l)))) (from-Z q (in-Z q (inl (omega (arith, l)))) (from-M q (in-M q (inl (omega (arith, l)))) (hv q (omega arith) (omega (arith, l))))))
        (omega arith) (omega (arith, l)) (type_small t)

    new-pay : (i : ℕ) → i < length pay → get_or last (q + header g s + i) 0 ≡ get_or pay i 0
    new-pay i h =
        let j : ℕ = q + header g s + i in
        new typed (sized ++ (marked ++ vs)) (q + header g s) pay i (in-T j (inr (omega (arith, l))))
        (from-Z j (in-Z j (inr (omega arith))) (from-M j (in-M j (inr (omega (arith, l)))) (hv j (omega arith) (omega (arith, l)))))
        h (omega arith) (omega (arith, l)) (v.byte i h)

    new-size : (i : ℕ) → i < s → get_or last (q + size_at g + i) 0 ≡ get_or (bytes s (length pay)) i 0
    new-size i h =
        let j : ℕ = q + size_at g + i in
        ap (λ (us : List FlashUnit). get_or (apply us img) (q + size_at g + i) 0) (sym (append_assoc typed paid (sized ++ (marked ++ vs))))
        ∙ new (typed ++ paid) (marked ++ vs) (q + size_at g) (bytes s (length pay)) i
        (All-append (Misses j) typed paid (in-T j (inr (omega (arith, l)))) (in-P j (inl (omega (arith, l)))))
        (from-M j (in-M j (inr (omega (arith, l)))) (hv j (omega arith) (omega (arith, l))))
        (rw (length_bytes s (length pay)) h) (omega arith) (omega (arith, l)) (byte_bytes s (length pay) i)

    new-mark : get_or last (q + finish_at g) 0 ≡ finish_mark g
    new-mark =
        ap (λ (us : List FlashUnit). get_or (apply us img) (q + finish_at g) 0) at_mark
        ∙ new_byte (before g s t pay q) vs (q + finish_at g) (finish_mark g)
        (before_marks g s t q pay l (finish_at g) l.type_finish (omega (arith, l)))
        (hv (q + finish_at g) (omega arith) (omega (arith, l)))
        (omega arith) (omega (arith, l)) (mark_byte_lem g)

    new-delete : finish_at g + width_of g ≤ delete_at g → get_or last (q + delete_at g) 0 ≡ 255
    new-delete h =
        let j : ℕ = q + delete_at g in
        ap (λ (us : List FlashUnit). get_or (apply us img) (q + delete_at g) 0) at_mark
        ∙ frame j 0 (before g s t pay q ++ (marked ++ vs)) img
        (All-append (Misses j) (before g s t pay q) (marked ++ vs) (before_marks g s t q pay l (delete_at g) l.type_delete (omega (arith, l)))
        (from-M j (in-M j (inr (omega arith))) (hv j (omega arith) (omega (arith, l)))))
        ∙ v.blank (delete_at g) (omega (arith, l))

    size-read : size_seen g s q last ≡ length pay
    size-read =
        ap number (part_is (q + size_at g) s last (bytes s (length pay)) (omega (arith, l, length-image, v.fits)) (length_bytes s (length pay)) new-size)
        ∙ size_says s (length pay) v.some_width v.width_3 v.small

    stands-so : Stands g s q (Allocated t Valid) (length pay) pay last
    stands-so =
        record {
          state =
              seen_object g q last t (finish_mark g) (get_or last (q + delete_at g) 0) Valid new-type new-mark refl
              (mark_valid g (get_or last (q + delete_at g) 0) new-delete);
          size_is = size-read;
          bytes_are = part_is (q + header g s) (length pay) last pay (omega (arith, l, length-image, v.fits)) refl new-pay;
        }

    pub stands : Stands g s q (Allocated t Valid) (length pay) pay (apply (before g s t pay q ++ (mark_units g q ++ vs)) img)
    stands = subst (λ (us : List FlashUnit). Stands g s q (Allocated t Valid) (length pay) pay (apply us img)) at_mark stands-so

  -- with its own units alone
  pub stands_new : Stands g s q (Allocated t Valid) (length pay) pay (apply (new_units g s t pay q) img)
  stands_new =
      subst (λ (us : List FlashUnit). Stands g s q (Allocated t Valid) (length pay) pay (apply (before g s t pay q ++ us) img)) (append-nil (mark_units g q)) (stands [] (λ j a b. tt))

  -- no byte changes elsewhere
  pub framed : (k j : ℕ) → Clear q (q + span g s (length pay)) j → get_or (apply (take k (new_units g s t pay q)) img) j 0 ≡ get_or img j 0
  framed k j c = frame j 0 (take k (new_units g s t pay q)) img (All-take (Misses j) k (new_units g s t pay q) (new_clear g s t q pay v.width_3 j c))
