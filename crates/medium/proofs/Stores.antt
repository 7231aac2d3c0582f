-- What the calls leave, from what their callees left: the loops, the part that was lent, and the store under a fuse.
use mathlib.Core.Path.{◌≡◌, refl, sym, ap, ◌∙◌}
use mathlib.Core.Logic.{◌⊎◌, inl, inr}
use Prim.Native.Nat.{ℕ, zero, suc, ◌+◌, ◌-◌, ◌*◌, ◌≤◌, ◌<◌}
use native.Mathlib.Nat.{le_refl, not-suc-le-zero, le_of_suc-le-suc, mul-le-mul_right, one-mul, zero-mul}
use native.Mathlib.Numerals.{add-one}
use native.Mathlib.Omega.{arith}
use mathlib.Core.List.{List, [], ◌∷◌, ◌++◌, append-nil}
use mathlib.Core.Bool.{Bool, true, false}
use lib.ListN.{length, get_or, take, drop, set, length-take, length-drop, replicate}
use lib.Seq.{take-take, drop-length, take_all}
use lib.Dec.{leb}
use lib.Bits.{bit_and}
use borrow.Author.Tests.{leb-false, eq-eqb, ne_eqb}
use Rattle.medium.specs.declared.geometry.Geometry.{Geometry}
use Rattle.medium.specs.declared.fuse.Fuse.{Fuse}
use Rattle.medium.specs.declared.fuse.Fuse.TheVariants.{Absent, Units}
use Rattle.std.specs.Prelude.{Result, Ok, Err}
use Rattle.medium.specs.Granularity.{pick, width_of, units_in}
use Rattle.medium.specs.Fuse.{Stored, spend_of, granted_of, stored_of}
use Rattle.medium.specs.Units.{FlashUnit, under, blank, units_of, erased}
use Rattle.medium.specs.Operation.{flash, cost, apply, done, refused, putting, cut_by, cut, run, ended}
use Rattle.medium.specs.Medium.{part, onto, readable, erasable, writable, storable, read_at, write, erase}
use Rattle.medium.proofs.Runs.{cost_flash, prefix_flash, run_ask, leb_yes, leb_no, leb_is}
use Rattle.medium.proofs.Bytes.{units_cut, length_units}
use Rattle.medium.proofs.Places.{width_is}
use Rattle.medium.proofs.Checks.{write_at, erase_at}

-- within a list what stands past its end does not matter
pub get_or_in : (l : List ℕ) (i d e : ℕ) → i < length l → get_or l i d ≡ get_or l i e
get_or_in [] i d e h = absurd (not-suc-le-zero h)
get_or_in (x ∷ l) zero d e h = refl
get_or_in (x ∷ l) (suc i) d e h = get_or_in l i d e (le_of_suc-le-suc h)

-- ---- a turn of the loop that programs, and of the one that erases

-- one more byte programmed
pub onto_step : (n : ℕ) (d xs : List ℕ) → n < length xs → set (onto n d xs) n (bit_and (get_or (onto n d xs) n 0) (get_or d n 255)) ≡ onto (suc n) d xs
onto_step n d [] h = absurd (not-suc-le-zero h)
onto_step zero [] (x ∷ xs) h = refl
onto_step zero (b ∷ d) (x ∷ xs) h = refl
onto_step (suc n) [] (x ∷ xs) h = ap (λ (l : List ℕ). bit_and x 255 ∷ l) (onto_step n [] xs (le_of_suc-le-suc h))
onto_step (suc n) (b ∷ d) (x ∷ xs) h = ap (λ (l : List ℕ). bit_and x b ∷ l) (onto_step n d xs (le_of_suc-le-suc h))

-- one more byte erased
pub blank_step : (n : ℕ) (xs : List ℕ) → n < length xs → set (blank n xs) n 255 ≡ blank (suc n) xs
blank_step n [] h = absurd (not-suc-le-zero h)
blank_step zero (x ∷ xs) h = refl
blank_step (suc n) (x ∷ xs) h = ap (λ (l : List ℕ). 255 ∷ l) (blank_step n xs (le_of_suc-le-suc h))

-- the same as a loop's invariant and its store have it
pub onto_more : (n : ℕ) (d xs part : List ℕ) (b : ℕ) → n < length xs → part ≡ onto n d xs → b ≡ get_or d n 255 → set part n (bit_and (get_or part n 0) b) ≡ onto (n + 1) d xs
onto_more n d xs part b h e q = rw (e, q, add-one) (onto_step n d xs h)

-- and for the erase
pub blank_more : (n : ℕ) (xs part : List ℕ) → n < length xs → part ≡ blank n xs → set part n 255 ≡ blank (n + 1) xs
blank_more n xs part h e = rw (e, add-one) (blank_step n xs h)

-- ---- a part that was lent and came back

-- what stands before an index stays
pub under_split : (a : ℕ) (f : List ℕ → List ℕ) (xs : List ℕ) → a ≤ length xs → under a f xs ≡ take a xs ++ f (drop a xs)
under_split zero f xs h = refl
under_split (suc a) f [] h = absurd (not-suc-le-zero h)
under_split (suc a) f (x ∷ xs) h = ap (λ (l : List ℕ). x ∷ l) (under_split a f xs (le_of_suc-le-suc h))

-- what stands behind the first n bytes stays
pub onto_split : (n : ℕ) (d xs : List ℕ) → onto n d xs ≡ onto n d (take n xs) ++ drop n xs
onto_split zero d xs = refl
onto_split (suc n) d [] = refl
onto_split (suc n) [] (x ∷ xs) = ap (λ (l : List ℕ). bit_and x 255 ∷ l) (onto_split n [] xs)
onto_split (suc n) (b ∷ d) (x ∷ xs) = ap (λ (l : List ℕ). bit_and x b ∷ l) (onto_split n d xs)

-- of an erase too
pub blank_split : (n : ℕ) (xs : List ℕ) → blank n xs ≡ blank n (take n xs) ++ drop n xs
blank_split zero xs = refl
blank_split (suc n) [] = refl
blank_split (suc n) (x ∷ xs) = ap (λ (l : List ℕ). 255 ∷ l) (blank_split n xs)

-- all of it is as many bytes FF
pub blank_all : (xs : List ℕ) → blank (length xs) xs ≡ replicate (length xs) 255
blank_all [] = refl
blank_all (x ∷ xs) = ap (λ (l : List ℕ). 255 ∷ l) (blank_all xs)

-- ---- the part of the image that a call lends

-- no more units than were asked for
pub spent_le : (f : Fuse) (n : ℕ) → granted_of (spend_of f n) n ≤ n
unfolding spend_of
spent_le Absent n = omega arith
spent_le (Units k) n = go (leb n k) refl
  where
    go : (t : Bool) → leb n k ≡ t → granted_of (pick t (Ok (Units (k - n))) (Err k)) n ≤ n
    go true e = omega arith
    go false e = omega (arith, leb-false n k e)

-- the same for the results that the calls on the way gave
pub write_few : (g : Geometry) (room b o n r w k : ℕ) → r ≡ writable g room b o n → r ≡ 0 → w ≡ width_of g.granularity → k ≡ units_in w n → k ≤ 65536
write_few g room b o n r w k e z ew ek = rw (ek, ew) (write_at g room b o n r e z).few

-- the bytes of those units that there is power for lie within the image
pub write_part : (g : Geometry) (room b o n r w k : ℕ) (f : Fuse) (p : Result Fuse ℕ) (u : ℕ) → r ≡ writable g room b o n → r ≡ 0 → w ≡ width_of g.granularity → k ≡ units_in w n → p ≡ spend_of f k → u ≡ granted_of p k → b * g.size + o + u * w ≤ room
write_part g room b o n r w k f p u e z ew ek ep eu =
    let h = (write_at g room b o n r e z).ends in
    let m : u * w ≤ k * w = rw (eu, ep) (mul-le-mul_right w (spent_le f k)) in
    let q : b * g.size + o + k * w ≤ room = rw (ek, ew) h in
    omega arith

-- and so do those of an erase
pub erase_part : (g : Geometry) (room b r : ℕ) (f : Fuse) (p : Result Fuse ℕ) (u : ℕ) → r ≡ erasable g room b → r ≡ 0 → p ≡ spend_of f 1 → u ≡ granted_of p 1 → b * g.size + u * g.size ≤ room
erase_part g room b r f p u e z ep eu =
    let h = erase_at g room b r e z in
    let m : u * g.size ≤ 1 * g.size = rw (eu, ep) (mul-le-mul_right g.size (spent_le f 1)) in
    omega arith

-- ---- what the calls leave, from what their callees left

-- a part of n elements from index a was lent to what makes f n of it
pub put_under : (f : ℕ → List ℕ → List ℕ) → ((n : ℕ) (ys : List ℕ) → f n ys ≡ f n (take n ys) ++ drop n ys) → (a n k : ℕ) (xs last : List ℕ) → k ≡ n → a + n ≤ length xs → last ≡ f (length (take k (drop a xs))) (take k (drop a xs)) → take a xs ++ (last ++ drop k (drop a xs)) ≡ under a (f n) xs
put_under f split a n k xs last e h q =
    let l : length (take n (drop a xs)) ≡ n = simp (length-take, length-drop) (omega arith) in
    let h' : a ≤ length xs = omega arith in
    rw (q, e, l) (sym (under_split a (f n) xs h' ∙ ap (λ (t : List ℕ). take a xs ++ t) (split n (drop a xs))))

-- a test that refuses leaves the fuse and the image
pub write_refused : (g : Geometry) (image : List ℕ) (f : Fuse) (b o : ℕ) (d : List ℕ) (r : ℕ) → r ≡ storable g b o d image → (r ≡ 0 → ⊥) → record { answer = refused r; fuse = f; state = image } ≡ run f (write g b o d) image
unfolding write run
write_refused g image f b o d r e h = rw (← e, ne_eqb _ _ h) (sym (run_ask f (λ _. refused r) image))

-- of an erase too
pub erase_refused : (g : Geometry) (image : List ℕ) (f : Fuse) (b r : ℕ) → r ≡ erasable g (length image) b → (r ≡ 0 → ⊥) → record { answer = refused r; fuse = f; state = image } ≡ run f (erase g b) image
unfolding erase run
erase_refused g image f b r e h = rw (← e, ne_eqb _ _ h) (sym (run_ask f (λ _. refused r) image))

-- the store of all units under a fuse
pub put_run : (f : Fuse) (w : ℕ) (hw : 0 < w) (a : ℕ) (d img : List ℕ)
    → ended (stored_of (spend_of f (units_in w (length d)))) (under a (onto (granted_of (spend_of f (units_in w (length d))) (units_in w (length d)) * w) d) img)
    ≡ run {W = flash} f (putting (units_of w a d) tt) img
unfolding run putting spend_of
put_run Absent w hw a d img =
    let l : length (units_of w a d) ≡ units_in w (length d) = length_units w a d in
    ap (λ (i : List ℕ). record { answer = done tt; fuse = Absent; state = i })
    (sym (units_cut w hw a (units_in w (length d)) d img (le_refl (units_in w (length d)))) ∙ ap (λ (us : List FlashUnit). apply us img) (take_all (units_in w (length d)) (units_of w a d) (omega arith)))
put_run (Units k) w hw a d img = go (leb_is (units_in w (length d)) k)
  where
    n : ℕ
    n = units_in w (length d)

    go : (units_in w (length d) ≤ k) ⊎ (k < units_in w (length d))
        → ended (stored_of (pick (leb (units_in w (length d)) k) (Ok (Units (k - units_in w (length d)))) (Err k)))
        (under a (onto (granted_of (pick (leb (units_in w (length d)) k) (Ok (Units (k - units_in w (length d)))) (Err k)) (units_in w (length d)) * w) d) img)
        ≡ cut_by {W = flash} (leb (cost flash (units_of w a d)) k) k (record { events = units_of w a d; answer = done tt }) img
    go (inl h) =
        let l : length (units_of w a d) ≡ units_in w (length d) = length_units w a d in
        let t : apply (units_of w a d) img ≡ under a (onto (units_in w (length d) * w) d) img =
        sym (ap (λ (us : List FlashUnit). apply us img) (take_all (units_in w (length d)) (units_of w a d) (omega arith))) ∙ units_cut w hw a (units_in w (length d)) d img (le_refl (units_in w (length d))) in
        let m : cost flash (units_of w a d) ≡ units_in w (length d) = cost_flash (units_of w a d) ∙ l in
        rw (m, leb_yes h, t, m)
    go (inr h) =
        let l : length (units_of w a d) ≡ units_in w (length d) = length_units w a d in
        let t : apply (take k (units_of w a d)) img ≡ under a (onto (k * w) d) img = units_cut w hw a k d img (omega arith) in
        let m : cost flash (units_of w a d) ≡ units_in w (length d) = cost_flash (units_of w a d) ∙ l in
        rw (m, leb_no h, prefix_flash k (units_of w a d), t)

-- what a write leaves whose tests were passed
pub write_done : (g : Geometry) (image : List ℕ) (f : Fuse) (b o : ℕ) (d : List ℕ) (r w n : ℕ) (p : Result Fuse ℕ) (u : ℕ) (q : Stored) (after : List ℕ) → r ≡ storable g b o d image → r ≡ 0 → w ≡ width_of g.granularity → n ≡ units_in w (length d) → p ≡ spend_of f n → u ≡ granted_of p n → q ≡ stored_of p → after ≡ under (b * g.size + o) (onto (u * w) d) image → ended q after ≡ run f (write g b o d) image
unfolding write run
write_done g image f b o d r w n p u q after e z ew en ep eu eq ea =
    rw (← e, eq-eqb r 0 z, ea, eq, eu, ep, en, ew) (put_run f (width_of g.granularity) (width_is g.granularity).0 (b * g.size + o) d image)

-- what an erase leaves
pub erase_done : (g : Geometry) (image : List ℕ) (f : Fuse) (b r : ℕ) (p : Result Fuse ℕ) (u : ℕ) (q : Stored) (after : List ℕ) → r ≡ erasable g (length image) b → r ≡ 0 → p ≡ spend_of f 1 → u ≡ granted_of p 1 → q ≡ stored_of p → after ≡ under (b * g.size) (blank (u * g.size)) image → ended q after ≡ run f (erase g b) image
unfolding erase run putting spend_of
erase_done g image f b r p u q after e z ep eu eq ea = rw (← e, eq-eqb r 0 z, ea, eq, eu, ep) (go f)
  where
    one : under (b * g.size) (blank (1 * g.size)) image ≡ under (b * g.size) (blank g.size) image
    one = ap (λ (n : ℕ). under (b * g.size) (blank n) image) (one-mul g.size)

    none : (a : ℕ) (xs : List ℕ) → under a (blank 0) xs ≡ xs
    none zero xs = refl
    none (suc a) [] = refl
    none (suc a) (x ∷ xs) = ap (λ (l : List ℕ). x ∷ l) (none a xs)

    go : (f : Fuse) → ended (stored_of (spend_of f 1)) (under (b * g.size) (blank (granted_of (spend_of f 1) 1 * g.size)) image)
        ≡ cut {W = flash} f (record { events = erased (b * g.size) g.size ∷ []; answer = done tt }) image
    go Absent = ap (λ (i : List ℕ). record { answer = done tt; fuse = Absent; state = i }) one
    go (Units zero) = ap (λ (i : List ℕ). record { answer = refused 8; fuse = Units 0; state = i }) (ap (λ (n : ℕ). under (b * g.size) (blank n) image) (zero-mul g.size) ∙ none (b * g.size) image)
    go (Units (suc k)) = rw (leb_yes {m = 1} {n = suc k} (omega arith)) (ap (λ (i : List ℕ). record { answer = done tt; fuse = Units (suc k - 1); state = i }) one)

-- an erase with power
pub erase_run : (g : Geometry) (b : ℕ) (img : List ℕ) → erasable g (length img) b ≡ 0
    → run Absent (erase g b) img ≡ record { answer = done tt; fuse = Absent; state = under (b * g.size) (blank g.size) img }
unfolding erase run putting
erase_run g b img e = rw e

-- what a read gives
pub read_done : (g : Geometry) (image : List ℕ) (b o n r : ℕ) (after : List ℕ) → r ≡ readable g (length image) b o n → r ≡ 0 → after ≡ take n (drop (b * g.size + o) image) → done after ≡ read_at g b o n image
unfolding read_at
read_done g image b o n r after e z ea = rw (← e, eq-eqb r 0 z, ea)

-- the buffer that a read fills
pub copied : (a k : ℕ) (image buffer last : List ℕ) → k ≡ length buffer → a + length buffer ≤ length image → last ≡ take (length (take k (drop a image))) (take k (drop a image)) ++ drop (length (take k (drop a image))) buffer → last ≡ take (length buffer) (drop a image)
copied a k image buffer last e h q =
    let l : length (take (length buffer) (drop a image)) ≡ length buffer = simp (length-take, length-drop) (omega arith) in
    q ∙ rw (e, l, take-take (length buffer) (length buffer) (drop a image) (le_refl (length buffer)), drop-length buffer) (append-nil (take (length buffer) (drop a image)))
