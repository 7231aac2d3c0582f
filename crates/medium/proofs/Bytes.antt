-- What a store does to each byte of the image, with the width as a parameter. Assumes nothing.
use mathlib.Core.Path.{◌≡◌, refl, sym, ap, ap₂, ◌∙◌}
use mathlib.Core.Logic.{◌⊎◌, inl, inr}
use mathlib.Core.List.{List, [], ◌∷◌, ◌++◌}
use Prim.Native.Nat.{ℕ, zero, suc, ◌+◌, ◌-◌, ◌*◌, ◌≤◌, ◌<◌}
use native.Mathlib.Nat.{not-suc-le-zero, le_of_suc-le-suc, mod-eq_of_lt, lt-div-mul-add, div-mul-le_self, suc-add, zero-add, mul-le-mul_right}
use native.Mathlib.Omega.{arith}
use lib.ListN.{length, take, drop, get_or, replicate, length-append, length-replicate, length-take, length-drop, take-append-drop, get_or-replicate, get_or-append}
use lib.Seq.{get_or-append-add, get_or-take, get_or-drop, ext_get_or, take-take, take-nil, length-take-le}
use lib.Bits.{bit_and, and_mask, and_comm}
use Rattle.medium.specs.All.{All}
use Rattle.medium.specs.Granularity.{units_in}
use Rattle.medium.specs.Units.{FlashUnit, programmed, erased, over, program, blank, under, step, padded, words, units_of}
use Rattle.medium.specs.Operation.{apply}
use Rattle.medium.specs.Medium.{part, onto}
use Rattle.medium.proofs.Runs.{apply-append}

-- ---- FF is what AND leaves alone

-- any byte and FF
pub and_ff : (b : ℕ) → b < 256 → bit_and b 255 ≡ b
and_ff b h = and_mask b 8 ∙ mod-eq_of_lt h

-- FF and any byte
pub ff_and : (b : ℕ) → b < 256 → bit_and 255 b ≡ b
ff_and b h = and_comm 255 b ∙ and_ff b h

-- ---- one store of bytes

over_nil : (img : List ℕ) → over img [] ≡ img
over_nil img = refl

length_over : (img bs : List ℕ) → length (over img bs) ≡ length img
length_over img [] = refl
length_over [] (b ∷ bs) = refl
length_over (x ∷ xs) (b ∷ bs) = ap suc (length_over xs bs)

-- a store keeps the length of the image
pub length-program : (a : ℕ) (bs img : List ℕ) → length (program a bs img) ≡ length img
length-program zero bs img = length_over img bs
length-program (suc a) bs [] = refl
length-program (suc a) bs (x ∷ xs) = ap suc (length-program a bs xs)

get_or-over_above : (img bs : List ℕ) (j d : ℕ) → length bs ≤ j → get_or (over img bs) j d ≡ get_or img j d
get_or-over_above img [] j d h = refl
get_or-over_above [] (b ∷ bs) j d h = refl
get_or-over_above (x ∷ xs) (b ∷ bs) zero d h = absurd (not-suc-le-zero h)
get_or-over_above (x ∷ xs) (b ∷ bs) (suc j) d h = get_or-over_above xs bs j d (le_of_suc-le-suc h)

get_or-over_in : (img bs : List ℕ) (j d : ℕ) → j < length bs → j < length img → get_or (over img bs) j d ≡ bit_and (get_or img j d) (get_or bs j d)
get_or-over_in img [] j d h k = absurd (not-suc-le-zero h)
get_or-over_in [] (b ∷ bs) j d h k = absurd (not-suc-le-zero k)
get_or-over_in (x ∷ xs) (b ∷ bs) zero d h k = refl
get_or-over_in (x ∷ xs) (b ∷ bs) (suc j) d h k = get_or-over_in xs bs j d (le_of_suc-le-suc h) (le_of_suc-le-suc k)

-- an index before or past the bytes
abbrev pub Off : ℕ → ℕ → ℕ → Type 0
Off a n j = (j < a) ⊎ (a + n ≤ j)

-- a byte outside stays
pub program_off : (a : ℕ) (bs img : List ℕ) (j d : ℕ) → Off a (length bs) j → get_or (program a bs img) j d ≡ get_or img j d
program_off zero bs img j d (inl h) = absurd (not-suc-le-zero h)
program_off zero bs img j d (inr h) = get_or-over_above img bs j d (omega arith)
program_off (suc a) bs [] j d h = refl
program_off (suc a) bs (x ∷ xs) zero d h = refl
program_off (suc a) bs (x ∷ xs) (suc j) d (inl h) = program_off a bs xs j d (inl (le_of_suc-le-suc h))
program_off (suc a) bs (x ∷ xs) (suc j) d (inr h) = program_off a bs xs j d (inr (omega arith))

-- a byte inside becomes old AND new
pub program_at : (a : ℕ) (bs img : List ℕ) (i d : ℕ) → i < length bs → a + i < length img
    → get_or (program a bs img) (a + i) d ≡ bit_and (get_or img (a + i) d) (get_or bs i d)
program_at zero bs img i d h k = rw zero-add (get_or-over_in img bs i d h (omega arith))
program_at (suc a) bs [] i d h k = absurd (not-suc-le-zero k)
program_at (suc a) bs (x ∷ xs) i d h k = rw suc-add (program_at a bs xs i d h (omega arith))

-- ---- the units of a store, all of them: one store of the padded bytes

-- no bytes change nothing
pub program_nil : (a : ℕ) (img : List ℕ) → program a [] img ≡ img
program_nil zero img = refl
program_nil (suc a) [] = refl
program_nil (suc a) (x ∷ xs) = ap {B = List ℕ} (λ r. x ∷ r) (program_nil a xs)

over-over : (img bs cs : List ℕ) → program (length bs) cs (over img bs) ≡ over img (bs ++ cs)
over-over img [] cs = refl
over-over [] (b ∷ bs) cs = refl
over-over (x ∷ xs) (b ∷ bs) cs = ap {B = List ℕ} (λ r. bit_and x b ∷ r) (over-over xs bs cs)

-- bytes and then those that follow are one store
pub program_next : (a : ℕ) (bs cs img : List ℕ) → program (a + length bs) cs (program a bs img) ≡ program a (bs ++ cs) img
program_next zero bs cs img = rw zero-add (over-over img bs cs)
program_next (suc a) bs cs [] = rw suc-add
program_next (suc a) bs cs (x ∷ xs) = rw suc-add (ap {B = List ℕ} (λ r. x ∷ r) (program_next a bs cs xs))

-- words one after the other are one store
pub words_whole : (n w a : ℕ) (bs img : List ℕ) → length bs ≡ n * w → apply (words n w a bs) img ≡ program a bs img
words_whole zero w a [] img e = sym (program_nil a img)
words_whole zero w a (b ∷ bs) img e = absurd (omega arith)
words_whole (suc n) w a bs img e =
    let t : length (take w bs) ≡ w = simp length-take (omega arith) in
    let d : length (drop w bs) ≡ n * w = simp length-drop (omega arith) in
    words_whole n w (a + w) (drop w bs) (program a (take w bs) img) d
    ∙ ap (λ (m : ℕ). program (a + m) (drop w bs) (program a (take w bs) img)) (sym t)
    ∙ program_next a (take w bs) (drop w bs) img
    ∙ ap (λ (r : List ℕ). program a r img) (take-append-drop w bs)

module _ (w : ℕ) (hw : 0 < w) where
  -- whole units take the bytes
  pub fits_up : (n : ℕ) → n ≤ units_in w n * w
  fits_up n = omega (arith, lt-div-mul-add {a = n + (w - 1)} hw)

  -- and less than a unit more
  pub fits_near : (n : ℕ) → units_in w n * w < n + w
  fits_near n = omega (arith, div-mul-le_self (n + (w - 1)) w)

  -- padded bytes fill whole units
  pub length-padded : (bs : List ℕ) → length (padded w bs) ≡ units_in w (length bs) * w
  length-padded bs = simp (length-append, length-replicate) (omega (arith, fits_up (length bs)))

  -- the units of a store leave what one store of the padded bytes leaves
  pub store_whole : (a : ℕ) (bs img : List ℕ) → apply (units_of w a bs) img ≡ program a (padded w bs) img
  store_whole a bs img = words_whole (units_in w (length bs)) w a (padded w bs) img (length-padded bs)

  -- the data stands first
  pub get_or-padded : (bs : List ℕ) (i d : ℕ) → i < length bs → get_or (padded w bs) i d ≡ get_or bs i d
  get_or-padded bs i d h = get_or-append bs (replicate (units_in w (length bs) * w - length bs) 255) d i h

  -- and then FF
  pub get_or_pad : (bs : List ℕ) (i d : ℕ) → length bs ≤ i → i < units_in w (length bs) * w → get_or (padded w bs) i d ≡ 255
  get_or_pad bs i d h k =
      let e : i ≡ length bs + (i - length bs) = omega arith in
      ap (λ (m : ℕ). get_or (padded w bs) m d) e
      ∙ get_or-append-add bs (replicate (units_in w (length bs) * w - length bs) 255) (i - length bs) d
      ∙ get_or-replicate (units_in w (length bs) * w - length bs) (i - length bs) 255 d (omega arith)

-- ---- erased bytes

length-blank : (n : ℕ) (xs : List ℕ) → length (blank n xs) ≡ length xs
length-blank zero xs = refl
length-blank (suc n) [] = refl
length-blank (suc n) (x ∷ xs) = ap suc (length-blank n xs)

-- an erase keeps the length of the image
pub length_erased : (a n : ℕ) (img : List ℕ) → length (under a (blank n) img) ≡ length img
length_erased zero n img = length-blank n img
length_erased (suc a) n [] = refl
length_erased (suc a) n (x ∷ xs) = ap suc (length_erased a n xs)

blank_above : (n : ℕ) (xs : List ℕ) (j d : ℕ) → n ≤ j → get_or (blank n xs) j d ≡ get_or xs j d
blank_above zero xs j d h = refl
blank_above (suc n) [] j d h = refl
blank_above (suc n) (x ∷ xs) zero d h = absurd (not-suc-le-zero h)
blank_above (suc n) (x ∷ xs) (suc j) d h = blank_above n xs j d (le_of_suc-le-suc h)

erased_off : (a n : ℕ) (img : List ℕ) (j d : ℕ) → Off a n j → get_or (under a (blank n) img) j d ≡ get_or img j d
erased_off zero n img j d (inl h) = absurd (not-suc-le-zero h)
erased_off zero n img j d (inr h) = blank_above n img j d (omega arith)
erased_off (suc a) n [] j d h = refl
erased_off (suc a) n (x ∷ xs) zero d h = refl
erased_off (suc a) n (x ∷ xs) (suc j) d (inl h) = erased_off a n xs j d (inl (le_of_suc-le-suc h))
erased_off (suc a) n (x ∷ xs) (suc j) d (inr h) = erased_off a n xs j d (inr (omega arith))

-- ---- frames: what no unit of a list touches

-- an index that a unit does not touch
abbrev pub Misses : ℕ → FlashUnit → Type 0
Misses j (programmed a bs) = Off a (length bs) j
Misses j (erased a n) = Off a n j

module _ {A : Type 0} (P : A → Type 0) where
  -- of two lists, so of both
  pub All-append : (us vs : List A) → All P us → All P vs → All P (us ++ vs)
  All-append [] vs h k = k
  All-append (u ∷ us) vs h k = (h.0, All-append us vs h.1 k)

  -- of a list, so of its first
  pub All-take : (n : ℕ) (us : List A) → All P us → All P (take n us)
  All-take zero us h = tt
  All-take (suc n) [] h = tt
  All-take (suc n) (u ∷ us) h = (h.0, All-take n us h.1)

step_frame : (j d : ℕ) (u : FlashUnit) (img : List ℕ) → Misses j u → get_or (step u img) j d ≡ get_or img j d
step_frame j d (programmed a bs) img h = program_off a bs img j d h
step_frame j d (erased a n) img h = erased_off a n img j d h

-- a byte that every unit misses stays
pub frame : (j d : ℕ) (us : List FlashUnit) (img : List ℕ) → All (Misses j) us → get_or (apply us img) j d ≡ get_or img j d
frame j d [] img h = refl
frame j d (u ∷ us) img h = frame j d us (step u img) h.1 ∙ step_frame j d u img h.0

words_miss : (n w a : ℕ) (bs : List ℕ) (j : ℕ) → length bs ≡ n * w → Off a (n * w) j → All (Misses j) (words n w a bs)
words_miss zero w a bs j e h = tt
words_miss (suc n) w a bs j e (inl h) =
    (inl h, words_miss n w (a + w) (drop w bs) j (simp length-drop (omega arith)) (inl (omega arith)))
words_miss (suc n) w a bs j e (inr h) =
    (inr (simp length-take (omega arith)), words_miss n w (a + w) (drop w bs) j (simp length-drop (omega arith)) (inr (omega arith)))

module _ (w : ℕ) (hw : 0 < w) where
  -- the units of a store miss what is outside their bytes
  pub store_miss : (a : ℕ) (bs : List ℕ) (j : ℕ) → Off a (units_in w (length bs) * w) j → All (Misses j) (units_of w a bs)
  store_miss a bs j h = words_miss (units_in w (length bs)) w a (padded w bs) j (length-padded w hw bs) h

-- units keep the length of the image
pub length-apply : (us : List FlashUnit) (img : List ℕ) → length (apply us img) ≡ length img
length-apply [] img = refl
length-apply (programmed a bs ∷ us) img = length-apply us (program a bs img) ∙ length-program a bs img
length-apply (erased a n ∷ us) img = length-apply us (under a (blank n) img) ∙ length_erased a n img

-- a byte of one store, in the midst of others that miss it, over an erased byte: it reads as it was stored
module _ (w : ℕ) (hw : 0 < w) where
  pub stored : (us vs : List FlashUnit) (a : ℕ) (bs : List ℕ) (i : ℕ) (img : List ℕ)
      → All (Misses (a + i)) us → All (Misses (a + i)) vs → i < length bs → a + i < length img
      → get_or (apply (us ++ (units_of w a bs ++ vs)) img) (a + i) 0 ≡ bit_and (get_or img (a + i) 0) (get_or bs i 0)
  stored us vs a bs i img hu hv hi hl =
      ap (λ (m : List ℕ). get_or m (a + i) 0) (apply-append us (units_of w a bs ++ vs) img ∙ apply-append (units_of w a bs) vs (apply us img))
      ∙ frame (a + i) 0 vs (apply (units_of w a bs) (apply us img)) hv
      ∙ ap (λ (m : List ℕ). get_or m (a + i) 0) (store_whole w hw a bs (apply us img))
      ∙ program_at a (padded w bs) (apply us img) i 0 (rw (length-padded w hw bs) (omega (arith, fits_up w hw (length bs)))) (rw (length-apply us img) hl)
      ∙ ap (λ (m : ℕ). bit_and m (get_or (padded w bs) i 0)) (frame (a + i) 0 us img hu)
      ∙ ap (bit_and (get_or img (a + i) 0)) (get_or-padded w hw bs i 0 hi)

-- ---- parts that agree byte by byte

-- a part within the image has its length
pub length_part : (a n : ℕ) (img : List ℕ) → a + n ≤ length img → length (part a n img) ≡ n
length_part a n img h = simp (length-take, length-drop) (omega arith)

-- a byte of a part is one of the image
pub get_d_part : (a n : ℕ) (img : List ℕ) (i d : ℕ) → i < n → get_or (part a n img) i d ≡ get_or img (a + i) d
get_d_part a n img i d h = get_or-take n (drop a img) i d h ∙ get_or-drop a img i d

-- a part is known by its bytes
pub part_is : (a n : ℕ) (img bs : List ℕ) → a + n ≤ length img → length bs ≡ n
    → ((i : ℕ) → i < n → get_or img (a + i) 0 ≡ get_or bs i 0) → part a n img ≡ bs
part_is a n img bs h e f =
    ext_get_or 0 (part a n img) bs (length_part a n img h ∙ sym e)
    (λ i hi. let k : i < n = omega (arith, length_part a n img h) in get_d_part a n img i 0 k ∙ f i k)

drop-take : (w m : ℕ) (l : List ℕ) → drop w (take (w + m) l) ≡ take m (drop w l)
drop-take zero m l = rw zero-add
drop-take (suc w) m [] = rw (suc-add, take-nil)
drop-take (suc w) m (x ∷ xs) = rw suc-add (drop-take w m xs)

-- the first k units of a store are the store of the first k words
words_take : (k n w a : ℕ) (bs : List ℕ) → k ≤ n → take k (words n w a bs) ≡ words k w a (take (k * w) bs)
words_take zero n w a bs h = refl
words_take (suc k) zero w a bs h = absurd (omega arith)
words_take (suc k) (suc n) w a bs h =
    let e : suc k * w ≡ w + k * w = omega arith in
    let t : take w (take (suc k * w) bs) ≡ take w bs = take-take w (suc k * w) bs (omega arith) in
    let d : drop w (take (suc k * w) bs) ≡ take (k * w) (drop w bs) = ap (λ (m : ℕ). drop w (take m bs)) e ∙ drop-take w (k * w) bs in
    ap₂ (λ (x : List ℕ) (us : List FlashUnit). programmed a x ∷ us) (sym t)
    (words_take k n w (a + w) (drop w bs) (omega arith) ∙ ap (words k w (a + w)) (sym d))

-- the first k words are one store of their bytes
pub words_cut : (k n w a : ℕ) (bs img : List ℕ) → k ≤ n → length bs ≡ n * w → apply (take k (words n w a bs)) img ≡ program a (take (k * w) bs) img
words_cut k n w a bs img h e =
    ap (λ (us : List FlashUnit). apply us img) (words_take k n w a bs h)
    ∙ words_whole k w a (take (k * w) bs) img (length-take-le (k * w) bs (omega (arith, mul-le-mul_right w h)))

length-words : (n w a : ℕ) (bs : List ℕ) → length (words n w a bs) ≡ n
length-words zero w a bs = refl
length-words (suc n) w a bs = ap suc (length-words n w (a + w) _)

-- as many units as the bytes take
pub length_units : (w a : ℕ) (bs : List ℕ) → length (units_of w a bs) ≡ units_in w (length bs)
length_units w a bs = length-words (units_in w (length bs)) w a (padded w bs)

-- ---- what a loop stores: the first k units

onto_is : (n m : ℕ) (d xs : List ℕ) → n ≤ length d + m → onto n d xs ≡ over xs (take n (d ++ replicate m 255))
onto_is zero m d xs h = refl
onto_is (suc n) zero [] [] h = refl
onto_is (suc n) (suc m) [] [] h = refl
onto_is (suc n) m (b ∷ d) [] h = refl
onto_is (suc n) zero [] (x ∷ xs) h = absurd (omega arith)
onto_is (suc n) (suc m) [] (x ∷ xs) h = ap {B = List ℕ} (λ r. bit_and x 255 ∷ r) (onto_is n m [] xs (omega arith))
onto_is (suc n) m (b ∷ d) (x ∷ xs) h = ap {B = List ℕ} (λ r. bit_and x b ∷ r) (onto_is n m d xs (omega arith))

under-onto : (a n m : ℕ) (d img : List ℕ) → n ≤ length d + m → under a (onto n d) img ≡ program a (take n (d ++ replicate m 255)) img
under-onto zero n m d img h = onto_is n m d img h
under-onto (suc a) n m d [] h = refl
under-onto (suc a) n m d (x ∷ xs) h = ap {B = List ℕ} (λ r. x ∷ r) (under-onto a n m d xs h)

-- the first k units of a store, as a loop over k units leaves them
pub units_cut : (w : ℕ) (hw : 0 < w) (a k : ℕ) (bs img : List ℕ) → k ≤ units_in w (length bs)
    → apply (take k (units_of w a bs)) img ≡ under a (onto (k * w) bs) img
units_cut w hw a k bs img h =
    let m : k * w ≤ length bs + (units_in w (length bs) * w - length bs) = omega (arith, mul-le-mul_right w h) in
    words_cut k (units_in w (length bs)) w a (padded w bs) img h (length-padded w hw bs)
    ∙ sym (under-onto a (k * w) (units_in w (length bs) * w - length bs) bs img m)
