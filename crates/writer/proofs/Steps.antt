-- A write's two stores, the tail's word and then the other words, as the code goes about them.
use mathlib.Core.Path.{◌≡◌, refl, sym, ap, ap₂, ◌∙◌}
use mathlib.Core.Bool.{Bool, true, false}
use mathlib.Core.Logic.{◌⊎◌, inl, inr}
use mathlib.Core.List.{List, [], ◌++◌, append_assoc}
use Prim.Native.Nat.{ℕ, zero, suc, ◌+◌, ◌-◌, ◌*◌, ◌/◌, ◌≤◌, ◌<◌, min}
use native.Mathlib.Nat.{mod-lt, mod-eq_of_lt, div-add-mod', mod-le, mod_self, add-mod_left, sub-zero, add-zero, zero-mul, suc-mul}
use native.Mathlib.Omega.{arith}
use lib.ListN.{length, take, drop, length-append, take-append-drop}
use lib.Seq.{take-length, take-append_seam, drop-append_seam, drop-append-add, drop-length, take-add, length-take-le}
use Rattle.medium.specs.declared.geometry.Geometry.{Geometry}
use Rattle.medium.specs.declared.fuse.Fuse.{Fuse}
use Rattle.medium.specs.Granularity.{pick}
use Rattle.medium.specs.Operation.{flash, Run, ◌>>=◌, give, cut, run}
use Rattle.medium.specs.Geometry.{address}
use Rattle.medium.specs.Units.{units_of}
use Rattle.medium.specs.Medium.{part, units_at, write}
use Rattle.medium.proofs.Places.{width_is}
use Rattle.medium.proofs.Runs.{leb_is}
use Rattle.medium.proofs.Split.{units_split}
use Rattle.medium.proofs.Writes.{none_first}
use lib.Dec.{eqb}
use borrow.Author.Tests.{ne_eqb}
use Rattle.writer.specs.declared.writer.ObjectWriter.{ObjectWriter}
use Rattle.writer.specs.Writer.{data_at, whole_of, tail_of, held_back, filling_of, put_bytes, put_pending, pending_of}
use Rattle.writer.specs.Steps.{store_words}
use Rattle.writer.proofs.Laws.{width}
use Rattle.medium.proofs.Sequence.{bind_same, bind_assoc, bind_first, give_bind}

-- ---- whole words

pub whole_le : (k n : ℕ) → whole_of k n ≤ n
whole_le k n = omega arith

whole_one : (k : ℕ) → whole_of k k ≡ k
whole_one k = omega (arith, mod_self k)

whole_more : (k n : ℕ) → whole_of k (k + n) ≡ k + whole_of k n
whole_more k n = omega (arith, add-mod_left k n, mod-le n k)

-- fewer than a word are left over
pub rest_few : (k n : ℕ) → 0 < k → n - whole_of k n < k
rest_few k n h = omega (arith, mod-lt n h, mod-le n k)

pub whole_even : (k n : ℕ) → whole_of k n ≡ n / k * k
whole_even k n = omega (arith, div-add-mod' n k)

-- the bytes that fill the tail's word are a word or none
pub filled : (w : ObjectWriter) (k n q : ℕ) → n ≡ q * k → (j : ℕ) × (filling_of w k n ≡ j * k) × (filling_of w k n ≤ n)
filled w k n q e = go (eqb w.held 0) (leb_is k n)
  where
    none : (q : ℕ) → n ≡ q * k → n < k → n ≡ 0
    none zero e c = e ∙ zero-mul k
    none (suc q) e c = absurd (omega (arith, suc-mul q k))

    go : (t : Bool) → (k ≤ n) ⊎ (n < k) → (j : ℕ) × (pick {A = ℕ} t 0 (min k n) ≡ j * k) × (pick {A = ℕ} t 0 (min k n) ≤ n)
    go true c = (0, omega arith, omega arith)
    go false (inl c) = (1, omega arith, omega arith)
    go false (inr c) = let y : n ≡ 0 = none q e c in (0, omega arith, omega arith)

-- the units of whole words, and then of those behind them
pub units_joined : (g : Geometry) (b o j m n : ℕ) (bs : List ℕ) → m ≡ j * width g → m ≤ n → n ≤ length bs
    → units_at g b o (take m bs) ++ units_at g b (o + m) (part m (n - m) bs) ≡ units_at g b o (take n bs)
units_joined g b o j m n bs e h k =
    let l : length (take m bs) ≡ j * width g = length-take-le m bs (omega arith) ∙ e in
    let a : address g b (o + m) ≡ address g b o + j * width g = omega arith in
    let z : m + (n - m) ≡ n = omega arith in
    let t : take m bs ++ part m (n - m) bs ≡ take n bs = sym (take-add m (n - m) bs) ∙ ap (λ (x : ℕ). take x bs) z in
    ap (λ (x : ℕ). units_at g b o (take m bs) ++ units_of (width g) x (part m (n - m) bs)) a
    ∙ sym (units_split (width g) (width_is g.granularity).0 j (address g b o) (take m bs) (part m (n - m) bs) l)
    ∙ ap (units_of (width g) (address g b o)) t

-- ---- a word and then more

module _ (g : Geometry) (w : ObjectWriter) (xs ys : List ℕ) (e : length xs ≡ width g) where
  all_whole : whole_of (width g) (length (xs ++ ys)) ≡ length xs + whole_of (width g) (length ys)
  all_whole =
      ap (whole_of (width g)) (length-append xs ys ∙ ap (λ (n : ℕ). n + length ys) e)
      ∙ whole_more (width g) (length ys)
      ∙ ap (λ (n : ℕ). n + whole_of (width g) (length ys)) (sym e)

  -- the store of the word, and that of the other words behind it
  pub store_join : (img : List ℕ) → put_bytes g w (length xs) (whole_of (width g) (length (xs ++ ys))) (xs ++ ys) img ≡ (store_words g w xs >>= λ v. store_words g v ys) img
  unfolding put_bytes store_words
  store_join img =
      let one : whole_of (width g) (length xs) ≡ length xs = ap (whole_of (width g)) e ∙ whole_one (width g) ∙ sym e in
      let k : length xs + m - length xs ≡ m = omega arith in
      rw (all_whole, take-append_seam xs ys, drop-append_seam xs ys, drop-append-add xs ys, one, take-length xs, drop-length xs, k)
      (bind_same (write g b o xs) (λ _. write g b (o + length xs) zs >>= λ _. give (held_back w (length xs + m) rest)) (λ _. give v >>= λ v. store_words g v ys) img (λ _ t. second t)
      ∙ sym (bind_assoc (write g b o xs) (λ _. give v) (λ v. store_words g v ys) img))
    where
      b : ℕ
      b = w.object.location.block

      o : ℕ
      o = data_at g w

      m : ℕ
      m = whole_of (width g) (length ys)

      zs : List ℕ
      zs = take m ys

      rest : List ℕ
      rest = drop m ys

      v : ObjectWriter
      v = held_back w (length xs) []

      second : (t : List ℕ) → (write g b (o + length xs) zs >>= λ _. give (held_back w (length xs + m) rest)) t ≡ (give v >>= λ v. store_words g v ys) t
      second t =
          let p : o + length xs ≡ data_at g v = omega arith in
          let q : w.cursor + (length xs + m) ≡ w.cursor + length xs + m = omega arith in
          ap₂ (λ (x c : ℕ). (write g b x zs >>= λ _. give (record { object = w.object; cursor = c; tail = tail_of rest; held = length rest; spent = w.spent })) t) p q
          ∙ sym (give_bind v (λ v. store_words g v ys) t)

-- where no word fills up there is the one store
pub store_one : (g : Geometry) (w : ObjectWriter) (bs img : List ℕ) → filling_of w (width g) (whole_of (width g) (length bs)) ≡ 0 → put_pending g w bs img ≡ store_words g w bs img
unfolding put_bytes store_words
store_one g w bs img e =
    let n : ℕ = whole_of (width g) (length bs) in
    let z : whole_of (width g) (length bs) - 0 ≡ whole_of (width g) (length bs) = sub-zero (whole_of (width g) (length bs)) in
    let a : data_at g w + 0 ≡ data_at g w = add-zero (data_at g w) in
    rw (e, z, a)
    (sym (bind_assoc (write g w.object.location.block (data_at g w) []) (λ _. write g w.object.location.block (data_at g w) (take n bs)) (λ _. give (held_back w n (drop n bs))) img)
    ∙ bind_first (write g w.object.location.block (data_at g w) [] >>= λ _. write g w.object.location.block (data_at g w) (take n bs)) (write g w.object.location.block (data_at g w) (take n bs)) (λ _. give (held_back w n (drop n bs))) img
    (none_first g w.object.location.block (data_at g w) (take n bs) img))

-- ---- the same for a writer: what it holds and the new bytes

pub pending_none : (w : ObjectWriter) (src : List ℕ) → w.held ≡ 0 → pending_of w src ≡ src
pending_none w src e = rw e

pub pending_length : (w : ObjectWriter) (src : List ℕ) → w.held ≤ length w.tail → length (pending_of w src) ≡ w.held + length src
pending_length w src h = length-append (take w.held w.tail) src ∙ ap (λ (n : ℕ). n + length src) (length-take-le w.held w.tail h)

-- nothing held, or too little for a word
pub pending_one : (g : Geometry) (w : ObjectWriter) (src : List ℕ) (f : Fuse) (img : List ℕ) → filling_of w (width g) (whole_of (width g) (length (pending_of w src))) ≡ 0
    → run f (put_pending g w (pending_of w src)) img ≡ run f (store_words g w (pending_of w src)) img
unfolding run
pending_one g w src f img e = ap (λ (r : Run flash ObjectWriter). cut f r img) (store_one g w (pending_of w src) img e)

-- nothing is held
pub fills_none : (w : ObjectWriter) (k n : ℕ) → w.held ≡ 0 → filling_of w k n ≡ 0
fills_none w k n e = rw e

-- what is held and src are less than a word
pub fills_not : (w : ObjectWriter) (k n : ℕ) → 0 < k → n < k → filling_of w k (whole_of k n) ≡ 0
fills_not w k n h l = go (eqb w.held 0)
  where
    z : whole_of k n ≡ 0
    z = omega (arith, mod-eq_of_lt l)

    go : (t : Bool) → pick {A = ℕ} t 0 (min k (whole_of k n)) ≡ 0
    go true = refl
    go false = rw z (omega arith)

-- a tail that src fills up, and then the rest of src
pub pending_join : (g : Geometry) (w : ObjectWriter) (src : List ℕ) (n : ℕ) (f : Fuse) (img : List ℕ) → w.held ≤ length w.tail → (w.held ≡ 0 → ⊥)
    → w.held + n ≡ width g → n ≤ length src
    → run f (put_pending g w (pending_of w src)) img ≡ run f (store_words g w (pending_of w (take n src)) >>= λ v. store_words g v (drop n src)) img
unfolding run
pending_join g w src n f img h some k l =
    let xs : List ℕ = pending_of w (take n src) in
    let e : length (pending_of w (take n src)) ≡ width g = pending_length w (take n src) h ∙ ap (λ (m : ℕ). w.held + m) (length-take-le n src l) ∙ k in
    let p : pending_of w src ≡ pending_of w (take n src) ++ drop n src =
    ap (λ (bs : List ℕ). take w.held w.tail ++ bs) (sym (take-append-drop n src)) ∙ sym (append_assoc (take w.held w.tail) (take n src) (drop n src)) in
    let m : filling_of w (width g) (whole_of (width g) (length (pending_of w (take n src) ++ drop n src))) ≡ length (pending_of w (take n src)) =
    rw (ne_eqb _ _ some, all_whole g w (pending_of w (take n src)) (drop n src) e) (omega arith) in
    ap (λ (r : Run flash ObjectWriter). cut f r img)
    (ap (λ (bs : List ℕ). put_pending g w bs img) p
    ∙ ap (λ (i : ℕ). put_bytes g w i (whole_of (width g) (length (pending_of w (take n src) ++ drop n src))) (pending_of w (take n src) ++ drop n src) img) m
    ∙ store_join g w (pending_of w (take n src)) (drop n src) e img)
