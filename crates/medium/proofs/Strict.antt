-- The strict mark at one store: what its test says, that the units of one store meet the image as it was before the store, and the loop that
-- looks for a unit that would be programmed again.
use mathlib.Core.Path.{◌≡◌, refl, sym, ap, ◌∙◌}
use mathlib.Core.Logic.{◌⊎◌, inl, inr}
use mathlib.Core.Bool.{Bool, true, false, ◌&&◌, ◌||◌, false≢true, and-false}
use mathlib.Core.List.{List, [], ◌∷◌, ◌++◌}
use Prim.Native.Nat.{ℕ, zero, suc, ◌+◌, ◌-◌, ◌*◌, ◌/◌, ◌%◌, ◌≤◌, ◌<◌, min}
use native.Mathlib.Nat.{div-mul-le_self, lt-div-mul-add, mul-le-mul, le_of_suc-le-suc, mul-add-div_right, div-eq_of_lt, suc-mul, sub-zero, zero-add}
use native.Mathlib.Numerals.{add-one}
use native.Mathlib.Omega.{arith}
use lib.ListN.{length, get_or, take, drop, replicate, length-append, length-replicate, length-take, length-drop}
use lib.Seq.{take-nil, take-take, drop-cons, drop-length, drop-drop, drop-append-le, get_or-take, get_or-drop, length-take-le}
use lib.Dec.{leb, ltb, eqb}
use borrow.Author.Tests.{eqb-true, eq-eqb, ne_eqb}
use Rattle.medium.specs.declared.geometry.Geometry.{Geometry}
use Rattle.medium.specs.Granularity.{pick, width_of, units_in, align_of}
use Rattle.medium.specs.Geometry.{geometry_ok, admit, address}
use Rattle.medium.specs.Units.{programmed, over, program, padded, words, units_of}
use Rattle.medium.specs.Strict.{all_ff, again, any_again, again_at, not_erased}
use Rattle.medium.specs.Medium.{part, units_at, writable, storable}
use Rattle.medium.specs.Marked.{Once}
use Rattle.medium.proofs.Runs.{leb_is}
use Rattle.medium.proofs.Bytes.{fits_up}
use Rattle.medium.proofs.Split.{units_more, units_none}

-- ---- bytes that are all FF

pub erased_more : (l : List ℕ) (i : ℕ) → i < length l → get_or l i 0 ≡ 255 → all_ff (drop i l) ≡ all_ff (drop (i + 1) l)
erased_more l i h e = rw (drop-cons l i 0, e, add-one)

pub erased_not : (l : List ℕ) (i : ℕ) → i < length l → (get_or l i 0 ≡ 255 → ⊥) → all_ff (drop i l) ≡ false
erased_not l i h n = rw (drop-cons l i 0, ne_eqb _ _ n)

pub erased_end : (l : List ℕ) (i : ℕ) → i ≡ length l → all_ff (drop i l) ≡ true
erased_end l i e = rw (e, drop-length l)

-- bytes that are all FF are FF
pub ff_all : (l : List ℕ) (i : ℕ) → all_ff l ≡ true → i < length l → get_or l i 0 ≡ 255
ff_all [] i e h = absurd (omega arith)
ff_all (x ∷ l) i e h = go (eqb x 255) refl e i h (λ j p k. ff_all l j p k)
  where
    go : (t : Bool) → eqb x 255 ≡ t → (t && all_ff l) ≡ true → (i : ℕ) → i < suc (length l) → ((j : ℕ) → all_ff l ≡ true → j < length l → get_or l j 0 ≡ 255) → get_or (x ∷ l) i 0 ≡ 255
    go true q p zero k more = eqb-true _ _ q
    go true q p (suc j) k more = more j p (omega arith)
    go false q p j k more = absurd (false≢true p)

-- and the other way
pub ff_is : (l : List ℕ) → ((i : ℕ) → i < length l → get_or l i 0 ≡ 255) → all_ff l ≡ true
ff_is [] h = refl
ff_is (x ∷ l) h = rw (eq-eqb x 255 (h 0 (omega arith)), ff_is l (λ i k. h (suc i) (omega arith)))

pub all_ff_lem : (n : ℕ) → all_ff (replicate n 255) ≡ true
all_ff_lem zero = refl
all_ff_lem (suc n) = all_ff_lem n

-- ---- the test of a store

-- THE LAW: without the mark it is the test of the range, as it was
pub unmarked : (g : Geometry) (b o : ℕ) (bs img : List ℕ) → (g.strict ≡ 1 → ⊥) → storable g b o bs img ≡ writable g (length img) b o (length bs)
unfolding storable not_erased
unmarked g b o bs img n = rw (ne_eqb _ _ n) (go (eqb (writable g (length img) b o (length bs)) 0) refl)
  where
    go : (t : Bool) → eqb (writable g (length img) b o (length bs)) 0 ≡ t → pick t 0 (writable g (length img) b o (length bs)) ≡ writable g (length img) b o (length bs)
    go true q = sym (eqb-true _ _ q)
    go false q = refl

-- past the test of the range the mark decides
pub storable_next : (g : Geometry) (b o : ℕ) (bs img : List ℕ) → writable g (length img) b o (length bs) ≡ 0 → storable g b o bs img ≡ not_erased g.strict (units_at g b o bs) img
unfolding storable
storable_next g b o bs img e = rw e

-- what may be stored is in range
pub storable_range : (g : Geometry) (b o : ℕ) (bs img : List ℕ) → storable g b o bs img ≡ 0 → writable g (length img) b o (length bs) ≡ 0
unfolding storable
storable_range g b o bs img e = go (eqb (writable g (length img) b o (length bs)) 0) refl e
  where
    go : (t : Bool) → eqb (writable g (length img) b o (length bs)) 0 ≡ t → pick t (not_erased g.strict (units_at g b o bs) img) (writable g (length img) b o (length bs)) ≡ 0 → writable g (length img) b o (length bs) ≡ 0
    go true q h = eqb-true _ _ q
    go false q h = h

-- the same for a result
pub range_of : (g : Geometry) (b o : ℕ) (bs img : List ℕ) (r : ℕ) → r ≡ storable g b o bs img → r ≡ 0 → r ≡ writable g (length img) b o (length bs)
range_of g b o bs img r e z = z ∙ sym (storable_range g b o bs img (sym e ∙ z))

-- what is in range and meets no programmed unit may be stored, under the mark or without it
pub storable_yes : (g : Geometry) (b o : ℕ) (bs img : List ℕ) → writable g (length img) b o (length bs) ≡ 0 → (g.strict ≡ 1 → any_again (units_at g b o bs) img ≡ false) → storable g b o bs img ≡ 0
unfolding not_erased
storable_yes g b o bs img e h = storable_next g b o bs img e ∙ go (eqb g.strict 1) refl
  where
    go : (t : Bool) → eqb g.strict 1 ≡ t → pick {A = ℕ} (t && any_again (units_at g b o bs) img) 10 0 ≡ 0
    go true q = rw (h (eqb-true _ _ q))
    go false q = refl

-- ---- 10 exactly when

-- a test of the range never gives 10
range_other : (g : Geometry) (room b o n : ℕ) → writable g room b o n ≡ 10 → ⊥
unfolding writable admit
range_other g room b o n e = go (geometry_ok g) (eqb (g.size * g.count) room) (ltb b g.count && eqb (o % width_of g.granularity) 0 && leb (o + align_of (width_of g.granularity) n) g.size) e
  where
    go : (x y z : Bool) → pick {A = ℕ} x (pick y (pick z 0 3) 7) 6 ≡ 10 → ⊥
    go true true true h = omega arith
    go true true false h = omega arith
    go true false z h = omega arith
    go false y z h = omega arith

pub record Ten (g : Geometry) (b o : ℕ) (bs img : List ℕ) : Type 0 where
  pub marked : g.strict ≡ 1
  pub in_range : writable g (length img) b o (length bs) ≡ 0
  pub meets : any_again (units_at g b o bs) img ≡ true

pub ten_when : (g : Geometry) (b o : ℕ) (bs img : List ℕ) → Ten g b o bs img → storable g b o bs img ≡ 10
unfolding not_erased
ten_when g b o bs img t = storable_next g b o bs img t.in_range ∙ rw (eq-eqb _ _ t.marked, t.meets)

pub only_then : (g : Geometry) (b o : ℕ) (bs img : List ℕ) → storable g b o bs img ≡ 10 → Ten g b o bs img
unfolding storable not_erased
only_then g b o bs img e = go (eqb (writable g (length img) b o (length bs)) 0) (eqb g.strict 1) (any_again (units_at g b o bs) img) refl refl refl e
  where
    go : (t u v : Bool) → eqb (writable g (length img) b o (length bs)) 0 ≡ t → eqb g.strict 1 ≡ u → any_again (units_at g b o bs) img ≡ v
        → pick t (pick (u && v) 10 0) (writable g (length img) b o (length bs)) ≡ 10 → Ten g b o bs img
    go true true true p q r h = record { marked = eqb-true _ _ q; in_range = eqb-true _ _ p; meets = r }
    go true true false p q r h = absurd (omega arith)
    go true false v p q r h = absurd (omega arith)
    go false u v p q r h = absurd (range_other g (length img) b o (length bs) h)

-- ---- units of one store: each meets the image as it was before the store

over-drop : (img ds : List ℕ) (x : ℕ) → length ds ≤ x → drop x (over img ds) ≡ drop x img
over-drop img [] x h = refl
over-drop [] (d ∷ ds) x h = refl
over-drop (y ∷ ys) (d ∷ ds) zero h = absurd (omega arith)
over-drop (y ∷ ys) (d ∷ ds) (suc x) h = over-drop ys ds x (le_of_suc-le-suc h)

-- bytes that are programmed leave what stands behind them
program-drop : (a : ℕ) (ds img : List ℕ) (x : ℕ) → a + length ds ≤ x → drop x (program a ds img) ≡ drop x img
program-drop zero ds img x h = over-drop img ds x (omega arith)
program-drop (suc a) ds [] x h = refl
program-drop (suc a) ds (y ∷ ys) zero h = absurd (omega arith)
program-drop (suc a) ds (y ∷ ys) (suc x) h = program-drop a ds ys x (omega arith)

later : (n w x : ℕ) (bs : List ℕ) (a : ℕ) (ds img : List ℕ) → a + length ds ≤ x → any_again (words n w x bs) (program a ds img) ≡ any_again (words n w x bs) img
later zero w x bs a ds img h = refl
later (suc n) w x bs a ds img h = rw (program-drop a ds img x h, later n w (x + w) (drop w bs) a ds img (omega arith))

or_none_lem : (a b : Bool) → (a || b) ≡ false → (a ≡ false) × (b ≡ false)
or_none_lem true b e = absurd (false≢true (sym e))
or_none_lem false b e = (refl, e)

word_ends : (w a : ℕ) (bs : List ℕ) → a + length (take w bs) ≤ a + w
word_ends w a bs = simp length-take (omega arith)

pub once_words : (n w a : ℕ) (bs img : List ℕ) → any_again (words n w a bs) img ≡ false → Once (words n w a bs) img
once_words zero w a bs img e = tt
once_words (suc n) w a bs img e =
    let t = or_none_lem (again (programmed a (take w bs)) img) (any_again (words n w (a + w) (drop w bs)) img) e in
    (t.0, once_words n w (a + w) (drop w bs) (program a (take w bs) img) (later n w (a + w) (drop w bs) a (take w bs) img (word_ends w a bs) ∙ t.1))

pub twice_words : (n w a : ℕ) (bs img : List ℕ) → any_again (words n w a bs) img ≡ true → Once (words n w a bs) img → ⊥
twice_words zero w a bs img e h = false≢true e
twice_words (suc n) w a bs img e h =
    let r : any_again (words n w (a + w) (drop w bs)) img ≡ true = rw h.0 at e in
    twice_words n w (a + w) (drop w bs) (program a (take w bs) img) (later n w (a + w) (drop w bs) a (take w bs) img (word_ends w a bs) ∙ r) h.1

-- ---- erased room

-- over FF no unit is programmed again
free_words : (n w a : ℕ) (bs img : List ℕ) → ((i : ℕ) → i < n * w → get_or img (a + i) 0 ≡ 255) → a + n * w ≤ length img → any_again (words n w a bs) img ≡ false
free_words zero w a bs img ff h = refl
free_words (suc n) w a bs img ff h =
    let l : length (take w bs) ≤ w = simp length-take (omega arith) in
    let m : w ≤ suc n * w = omega (arith, suc-mul n w) in
    let met : all_ff (take (length (take w bs)) (drop a img)) ≡ true = ff_is (take (length (take w bs)) (drop a img)) (λ i k. first (length (take w bs)) i l m k) in
    let rest : any_again (words n w (a + w) (drop w bs)) img ≡ false =
    free_words n w (a + w) (drop w bs) img (λ i k. let e : a + w + i ≡ a + (w + i) = omega arith in ap (λ (x : ℕ). get_or img x 0) e ∙ ff (w + i) (omega (arith, suc-mul n w))) (omega (arith, suc-mul n w)) in
    simp (met, rest, and-false)
  where
    first : (c i : ℕ) → c ≤ w → w ≤ suc n * w → i < length (take c (drop a img)) → get_or (take c (drop a img)) i 0 ≡ 255
    first c i l m k =
        let z : length (take c (drop a img)) ≡ min c (length (drop a img)) = length-take c (drop a img) in
        let k2 : i < c = omega arith in
        get_or-take c (drop a img) i 0 k2 ∙ get_or-drop a img i 0 ∙ ff i (omega arith)

pub free_store : (w a : ℕ) (bs img : List ℕ) → ((i : ℕ) → i < align_of w (length bs) → get_or img (a + i) 0 ≡ 255) → a + align_of w (length bs) ≤ length img → any_again (units_of w a bs) img ≡ false
free_store w a bs img ff h = free_words (units_in w (length bs)) w a (padded w bs) img ff h

-- ---- a store within a part of the image

words_part : (n w a x k : ℕ) (bs img : List ℕ) → x + n * w ≤ k → any_again (words n w (a + x) bs) img ≡ any_again (words n w x bs) (part a k img)
words_part zero w a x k bs img h = refl
words_part (suc n) w a x k bs img h =
    let l : length (take w bs) ≤ w = simp length-take (omega arith) in
    let e : a + x + w ≡ a + (x + w) = omega arith in
    let r : any_again (words n w (a + x + w) (drop w bs)) img ≡ any_again (words n w (x + w) (drop w bs)) (part a k img) =
    ap (λ (y : ℕ). any_again (words n w y (drop w bs)) img) e ∙ words_part n w a (x + w) k (drop w bs) img (omega (arith, suc-mul n w)) in
    let m : take (length (take w bs)) (drop x (part a k img)) ≡ take (length (take w bs)) (drop (a + x) img) = met (length (take w bs)) a x k img (omega (arith, suc-mul n w)) in
    rw (m, r)
  where
    dropped : (x k : ℕ) (l : List ℕ) → drop x (take k l) ≡ take (k - x) (drop x l)
    dropped zero k l = ap (λ (m : ℕ). take m l) (sym (sub-zero k))
    dropped (suc x) zero l = let z : 0 - suc x ≡ 0 = omega arith in ap (λ (m : ℕ). take m (drop (suc x) l)) (sym z)
    dropped (suc x) (suc k) [] = sym (take-nil (suc k - suc x))
    dropped (suc x) (suc k) (y ∷ l) = let z : suc k - suc x ≡ k - x = omega arith in dropped x k l ∙ ap (λ (m : ℕ). take m (drop x l)) (sym z)

    met : (n a x k : ℕ) (img : List ℕ) → x + n ≤ k → take n (drop x (part a k img)) ≡ take n (drop (a + x) img)
    met n a x k img h = ap (take n) (dropped x k (drop a img)) ∙ take-take n (k - x) (drop x (drop a img)) (omega arith) ∙ ap (take n) (drop-drop x a img)

pub store_part : (w a : ℕ) (bs img : List ℕ) → any_again (units_of w a bs) img ≡ any_again (units_of w 0 bs) (part a (align_of w (length bs)) img)
store_part w a bs img =
    let e : a ≡ a + 0 = omega arith in
    ap (λ (x : ℕ). any_again (units_of w x bs) img) e ∙ words_part (units_in w (length bs)) w a 0 (align_of w (length bs)) (padded w bs) img (omega arith)

-- so looking through the part decides
pub storable_looked : (g : Geometry) (b o : ℕ) (bs img : List ℕ) (r w n : ℕ) (t : Bool) → r ≡ writable g (length img) b o (length bs) → r ≡ 0 → g.strict ≡ 1
    → w ≡ width_of g.granularity → n ≡ align_of w (length bs) → t ≡ any_again (units_of w 0 bs) (part (address g b o) n img) → storable g b o bs img ≡ pick t 10 0
unfolding not_erased
storable_looked g b o bs img r w n t e z on ew en et =
    let u : any_again (units_at g b o bs) img ≡ t =
    ap (λ (k : ℕ). any_again (units_of k (address g b o) bs) img) (sym ew) ∙ store_part w (address g b o) bs img
    ∙ ap (λ (k : ℕ). any_again (units_of w 0 bs) (part (address g b o) k img)) (sym en) ∙ sym et in
    storable_next g b o bs img (sym e ∙ z) ∙ rw (eq-eqb _ _ on, u)

-- ---- a turn of the loop

-- unit k of the bytes begins before their end
pub unit_within : (w n k : ℕ) → 0 < w → k < units_in w n → k * w < n
unit_within w n k hw h =
    let a : suc k * w ≤ units_in w n * w = mul-le-mul h (omega arith) in
    let b : units_in w n * w ≤ n + (w - 1) = div-mul-le_self (n + (w - 1)) w in
    let c : suc k * w ≡ k * w + w = suc-mul k w in
    omega arith

-- and behind the last unit there is nothing
pub unit_behind : (w n k : ℕ) → 0 < w → units_in w n ≤ k → n ≤ k * w
unit_behind w n k hw h =
    let a : units_in w n * w ≤ k * w = mul-le-mul h (omega arith) in
    let b : n + (w - 1) < units_in w n * w + w = lt-div-mul-add hw in
    omega arith

-- bytes of which there are some take a unit more than those behind the first unit
pub units_turn : (w n : ℕ) → 0 < w → 0 < n → units_in w n ≡ suc (units_in w (n - w))
units_turn w n hw h = go (leb_is w n)
  where
    go : (w ≤ n) ⊎ (n < w) → units_in w n ≡ suc (units_in w (n - w))
    go (inl x) =
        let e : n ≡ 1 * w + (n - w) = omega arith in
        let o : 1 + units_in w (n - w) ≡ suc (units_in w (n - w)) = omega arith in
        ap (units_in w) e ∙ units_more w hw 1 (n - w) ∙ o
    go (inr x) =
        let e : n + (w - 1) ≡ 1 * w + (n - 1) = omega arith in
        let z : n - w ≡ 0 = omega arith in
        let d : (n - 1) / w ≡ 0 = div-eq_of_lt (omega arith) in
        let o : 1 + (n - 1) / w ≡ suc 0 = omega arith in
        ap (λ (y : ℕ). y / w) e ∙ mul-add-div_right hw 1 (n - 1) ∙ o ∙ ap suc (sym (ap (units_in w) z ∙ units_none w hw))

-- the data of a unit is FF where its own bytes are: the padding is
ff_padded : (w r : ℕ) (l : List ℕ) → all_ff (take w (l ++ replicate r 255)) ≡ all_ff (take w l)
ff_padded zero r l = refl
ff_padded (suc w) zero [] = refl
ff_padded (suc w) (suc r) [] = ff_padded w r [] ∙ ap all_ff (take-nil w)
ff_padded (suc w) r (x ∷ l) = ap (λ (t : Bool). eqb x 255 && t) (ff_padded w r l)

module _ (w : ℕ) (hw : 0 < w) (old src : List ℕ) where
  -- what is left to look at from index i on
  abbrev pub look_from : ℕ → Bool
  look_from i = any_again (words (units_in w (length src - i)) w i (drop i (padded w src))) old

  pub look_start : (0 + units_in w (length src - 0) * w ≡ align_of w (length src)) × (any_again (units_of w 0 src) old ≡ look_from 0)
  look_start = (
    zero-add (units_in w (length src - 0) * w) ∙ ap (align_of w) (sub-zero (length src)),
    ap (λ (x : ℕ). any_again (words (units_in w x) w 0 (padded w src)) old) (sym (sub-zero (length src))),
  )

  -- the unit at i, and what is behind it
  record Turn (i : ℕ) : Type 0 where
    units : units_in w (length src - i) ≡ suc (units_in w (length src - (i + w)))
    data_is : all_ff (take w (drop i (padded w src))) ≡ all_ff (take w (drop i src))
    long : i + w ≤ length (padded w src) → length (take w (drop i (padded w src))) ≡ w
    rest : drop w (drop i (padded w src)) ≡ drop (i + w) (padded w src)

  turn : (i : ℕ) → i < length src → Turn i
  turn i h =
      let d : drop i (padded w src) ≡ drop i src ++ replicate (units_in w (length src) * w - length src) 255 = drop-append-le i src _ (omega arith) in
      let z : length src - i - w ≡ length src - (i + w) = omega arith in
      record {
        units = units_turn w (length src - i) hw (omega arith) ∙ ap (λ (x : ℕ). suc (units_in w x)) z;
        data_is =
            ap (λ (l : List ℕ). all_ff (take w l)) d ∙ ff_padded w (units_in w (length src) * w - length src) (drop i src);
        long = λ k. length-take-le w (drop i (padded w src)) (simp length-drop (omega arith));
        rest = drop-drop w i (padded w src);
      }

  padded_long : length (padded w src) ≡ align_of w (length src)
  padded_long = simp (length-append, length-replicate) (omega (arith, fits_up w hw (length src)))

  -- a unit more, and where it ends
  look_one : (i : ℕ) → i < length src → i + units_in w (length src - i) * w ≡ align_of w (length src) → i + (units_in w (length src - (i + w)) * w + w) ≡ align_of w (length src)
  look_one i h k =
      ap (λ (x : ℕ). i + x) (sym (suc-mul (units_in w (length src - (i + w))) w)) ∙ ap (λ (x : ℕ). i + x * w) (sym (turn i h).units) ∙ k

  pub look_next : (i : ℕ) → i < length src → i + units_in w (length src - i) * w ≡ align_of w (length src) → i + w + units_in w (length src - (i + w)) * w ≡ align_of w (length src)
  look_next i h k = let e : i + w + units_in w (length src - (i + w)) * w ≡ i + (units_in w (length src - (i + w)) * w + w) = omega arith in e ∙ look_one i h k

  pub look_within : (i : ℕ) → i < length src → i + units_in w (length src - i) * w ≡ align_of w (length src) → i + w ≤ align_of w (length src)
  look_within i h k = rw (sym (look_one i h k)) (omega arith)

  -- the turn's part, and then the rest
  pub look : (i : ℕ) → i < length src → i + units_in w (length src - i) * w ≡ align_of w (length src)
      → look_from i ≡ (again_at w old src i || look_from (i + w))
  look i h k =
      let t = turn i h in
      let m : i + w ≤ length (padded w src) = omega (arith, look_within i h k, padded_long) in
      rw (t.units, t.data_is, t.long m, t.rest)

  pub look_end : (i : ℕ) → length src ≤ i → look_from i ≡ false
  look_end i h =
      let z : length src - i ≡ 0 = omega arith in
      ap (λ (x : ℕ). any_again (words (units_in w x) w i (drop i (padded w src))) old) z
      ∙ ap (λ (x : ℕ). any_again (words x w i (drop i (padded w src))) old) (units_none w hw)
