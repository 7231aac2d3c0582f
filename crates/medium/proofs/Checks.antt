-- What a passed check tells: the geometry's rules, and that the range of a call lies within the image.
use mathlib.Core.Path.{◌≡◌, refl, sym, ◌∙◌}
use Prim.Native.Nat.{ℕ, zero, suc, ◌+◌, ◌*◌, ◌%◌, ◌≤◌, ◌<◌}
use native.Mathlib.Nat.{suc-mul, mul_comm, mul-le-mul_left, mul-le-mul_right, mul-one}
use native.Mathlib.Omega.{arith}
use mathlib.Core.List.{List}
use mathlib.Core.Bool.{Bool, true, false, ◌&&◌, false≢true, and-false}
use lib.ListN.{length, get_or}
use lib.Dec.{ltb, leb, eqb}
use borrow.Author.Tests.{ltb-true, leb-true, eqb-true, le-leb, lt-leb, eq-eqb}
use Rattle.medium.specs.declared.geometry.Geometry.{Geometry}
use Rattle.medium.specs.Granularity.{pick, width_of, units_in, align_of, most_strict}
use Rattle.medium.specs.Geometry.{limit_of, geometry_ok, admit, check_of, fit_of, address, fields_hold}
use Rattle.medium.specs.Operation.{done, refused}
use Rattle.medium.specs.Medium.{part, readable, erasable, writable, read_at}
use Rattle.medium.proofs.Places.{width_is}

ands : (a b c d e f h i : Bool) → (a && b && c && d && e && f && h && i) ≡ true
    → (a ≡ true) × (b ≡ true) × (c ≡ true) × (d ≡ true) × (e ≡ true) × (f ≡ true) × (h ≡ true) × (i ≡ true)
ands true true true true true true true i p = (refl, refl, refl, refl, refl, refl, refl, p)
ands true true true true true true false i p = absurd (false≢true p)
ands true true true true true false h i p = absurd (false≢true p)
ands true true true true false f h i p = absurd (false≢true p)
ands true true true false e f h i p = absurd (false≢true p)
ands true true false d e f h i p = absurd (false≢true p)
ands true false c d e f h i p = absurd (false≢true p)
ands false b c d e f h i p = absurd (false≢true p)

-- a test that gives 0 was passed, and so was the next
pub picked : (b : Bool) (x k : ℕ) → pick b x (suc k) ≡ 0 → (b ≡ true) × (x ≡ 0)
picked true x k e = (refl, e)
picked false x k e = absurd (omega arith)

-- the rules of a geometry that is not refused
pub record Sound (g : Geometry) : Type 0 where
  pub least : 64 ≤ g.size
  pub small : g.size ≤ 65536
  pub quad : g.size % 4 ≡ 0
  pub some : 1 ≤ g.count
  pub bound : g.size * g.count ≤ 16777216
  pub s_least : 1 ≤ g.s
  pub s_most : g.s ≤ 3
  pub s_holds : g.size ≤ limit_of g.s
  pub c_least : 1 ≤ g.c
  pub c_most : g.c ≤ 3
  pub c_holds : g.count ≤ limit_of g.c
  pub mark : g.strict ≤ most_strict g.granularity

-- and of one whose image has the right length
pub record Fine (g : Geometry) (room : ℕ) : Type 0 where
  pub sound : Sound g
  pub whole : g.size * g.count ≡ room

limit_some : (w : ℕ) → 1 ≤ limit_of w → (1 ≤ w) × (w ≤ 3)
limit_some zero h = absurd (omega arith)
limit_some (suc zero) h = omega arith
limit_some (suc (suc zero)) h = omega arith
limit_some (suc (suc (suc zero))) h = omega arith
limit_some (suc (suc (suc (suc w)))) h = let z : 1 ≤ 0 = rw (lt-leb (suc (suc (suc (suc w)))) 3 (omega arith), and-false) at h in absurd (omega arith)

-- a geometry that is not refused has its rules
pub sound_is : (g : Geometry) → geometry_ok g ≡ true → Sound g
unfolding geometry_ok
sound_is g e =
    let t = ands (leb 64 g.size) (leb g.size 65536) (eqb (g.size % 4) 0) (leb g.size (limit_of g.s)) (leb 1 g.count) (leb g.count (limit_of g.c)) (leb (g.size * g.count) 16777216) (leb g.strict (most_strict g.granularity)) e in
    let l : 64 ≤ g.size = leb-true _ _ t.0 in
    let m : g.size ≤ limit_of g.s = leb-true _ _ t.3 in
    let n : 1 ≤ g.count = leb-true _ _ t.4 in
    let o : g.count ≤ limit_of g.c = leb-true _ _ t.5 in
    let k = limit_some g.s (omega arith) in
    let j = limit_some g.c (omega arith) in
    record {
      least = l;
      small = leb-true _ _ t.1;
      quad = eqb-true _ _ t.2;
      some = n;
      bound = leb-true _ _ t.6;
      s_least = k.0;
      s_most = k.1;
      s_holds = m;
      c_least = j.0;
      c_most = j.1;
      c_holds = o;
      mark = leb-true _ _ t.7;
    }

-- neither 6 nor 7, and 0 from what comes next
pub admitted : (g : Geometry) (room next : ℕ) → admit g room next ≡ 0 → Fine g room × (next ≡ 0)
unfolding admit
admitted g room next e =
    let p = picked (geometry_ok g) (pick (eqb (g.size * g.count) room) next 7) 5 e in
    let q = picked (eqb (g.size * g.count) room) next 6 p.1 in
    (record { sound = sound_is g p.0; whole = eqb-true _ _ q.0 }, q.1)

-- what the test of the geometry alone tells
pub fit_sound : (g : Geometry) (r : ℕ) → r ≡ fit_of g → r ≡ 0 → Sound g
unfolding fit_of
fit_sound g r e z = sound_is g (picked (geometry_ok g) 0 5 (sym e ∙ z)).0

-- a geometry that is refused is so before the room is looked at
pub fit_stop : (g : Geometry) (room r : ℕ) → r ≡ fit_of g → (r ≡ 0 → ⊥) → r ≡ check_of g room
unfolding fit_of admit
fit_stop g room r e n = e ∙ go (geometry_ok g) (λ z. n (e ∙ z))
  where
    go : (a : Bool) → (pick {A = ℕ} a 0 6 ≡ 0 → ⊥) → pick {A = ℕ} a 0 6 ≡ pick a (pick (eqb (g.size * g.count) room) 0 7) 6
    go true h = absurd (h refl)
    go false h = refl

-- past it the room decides
pub fit_room : (g : Geometry) (room r : ℕ) → r ≡ fit_of g → r ≡ 0 → check_of g room ≡ pick (eqb (g.size * g.count) room) 0 7
unfolding fit_of admit
fit_room g room r e z = rw (picked (geometry_ok g) 0 5 (sym e ∙ z)).0

-- the geometry's rules, one by one
pub geometry_yes : (g : Geometry) → 64 ≤ g.size → g.size ≤ 65536 → g.size % 4 ≡ 0 → g.size ≤ limit_of g.s → 1 ≤ g.count → g.count ≤ limit_of g.c → g.size * g.count ≤ 16777216
    → g.strict ≤ most_strict g.granularity → geometry_ok g ≡ true
unfolding geometry_ok
geometry_yes g a b c d e f h i = simp (le-leb _ _ a, le-leb _ _ b, eq-eqb _ _ c, le-leb _ _ d, le-leb _ _ e, le-leb _ _ f, le-leb _ _ h, le-leb _ _ i)

-- past a check that gives 0 comes what is next, and a check that refuses is the answer
pub admit_pass : (g : Geometry) (room next r : ℕ) → r ≡ check_of g room → r ≡ 0 → admit g room next ≡ next
unfolding admit
admit_pass g room next r e z = go (geometry_ok g) (eqb (g.size * g.count) room) (sym e ∙ z)
  where
    go : (a b : Bool) → pick {A = ℕ} a (pick b 0 7) 6 ≡ 0 → pick a (pick b next 7) 6 ≡ next
    go true true h = refl
    go true false h = absurd (omega arith)
    go false b h = absurd (omega arith)

-- the refusal comes before what is next
pub admit_stop : (g : Geometry) (room next r : ℕ) → r ≡ check_of g room → (r ≡ 0 → ⊥) → r ≡ admit g room next
unfolding admit
admit_stop g room next r e n = e ∙ go (geometry_ok g) (eqb (g.size * g.count) room) (λ z. n (e ∙ z))
  where
    go : (a b : Bool) → (pick {A = ℕ} a (pick b 0 7) 6 ≡ 0 → ⊥) → pick {A = ℕ} a (pick b 0 7) 6 ≡ pick a (pick b next 7) 6
    go true true h = absurd (h refl)
    go true false h = refl
    go false b h = refl

-- where all that comes next passes, so does the check
pub passed : (g : Geometry) (room next : ℕ) → admit g room next ≡ 0 → check_of g room ≡ 0
unfolding admit
passed g room next e = go (geometry_ok g) (eqb (g.size * g.count) room) e
  where
    go : (a b : Bool) → pick a (pick b next 7) 6 ≡ 0 → pick {A = ℕ} a (pick {A = ℕ} b 0 7) 6 ≡ 0
    go true true h = refl
    go true false h = absurd (omega arith)
    go false b h = absurd (omega arith)

-- ---- a geometry that comes in as numbers

-- numbers that their fields hold: the first four are bytes
pub fields_are : (ns : List ℕ) → fields_hold ns ≡ true → (get_or ns 0 0 ≤ 255) × (get_or ns 1 0 ≤ 255) × (get_or ns 2 0 ≤ 255) × (get_or ns 3 0 ≤ 255)
unfolding fields_hold
fields_are ns e = go (leb (get_or ns 0 0) 255) (leb (get_or ns 1 0) 255) (leb (get_or ns 2 0) 255) (leb (get_or ns 3 0) 255) refl refl refl refl e
  where
    go : (a b c d : Bool) → leb (get_or ns 0 0) 255 ≡ a → leb (get_or ns 1 0) 255 ≡ b → leb (get_or ns 2 0) 255 ≡ c → leb (get_or ns 3 0) 255 ≡ d → (a && b && c && d) ≡ true
        → (get_or ns 0 0 ≤ 255) × (get_or ns 1 0 ≤ 255) × (get_or ns 2 0 ≤ 255) × (get_or ns 3 0 ≤ 255)
    go true true true true x y z v h = (leb-true _ _ x, leb-true _ _ y, leb-true _ _ z, leb-true _ _ v)
    go true true true false x y z v h = absurd (false≢true h)
    go true true false d x y z v h = absurd (false≢true h)
    go true false c d x y z v h = absurd (false≢true h)
    go false b c d x y z v h = absurd (false≢true h)

-- ---- where a range of a block lies

-- a range of a block ends within the image
pub within : (b o n size count room : ℕ) → b < count → o + n ≤ size → size * count ≡ room → b * size + o + n ≤ room
within b o n size count room h k e = omega (arith, mul-le-mul_right size h, suc-mul b size, mul_comm size count)

-- both of two tests
pub and_two : (a b : Bool) → pick {A = ℕ} (a && b) 0 3 ≡ 0 → (a ≡ true) × (b ≡ true)
and_two true true p = (refl, refl)
and_two true false p = absurd (omega arith)
and_two false b p = absurd (omega arith)

and_three : (a b c : Bool) → pick {A = ℕ} (a && b && c) 0 3 ≡ 0 → (a ≡ true) × (b ≡ true) × (c ≡ true)
and_three true true true p = (refl, refl, refl)
and_three true true false p = absurd (omega arith)
and_three true false c p = absurd (omega arith)
and_three false b c p = absurd (omega arith)

-- of a read that is not refused
pub read_at_lem : (g : Geometry) (room b o n r : ℕ) → r ≡ readable g room b o n → r ≡ 0 → b * g.size + o + n ≤ room
unfolding readable
read_at_lem g room b o n r e z =
    let a = admitted g room (pick (ltb b g.count && leb (o + n) g.size) 0 3) (sym e ∙ z) in
    let t = and_two (ltb b g.count) (leb (o + n) g.size) a.1 in
    within b o n g.size g.count room (ltb-true _ _ t.0) (leb-true _ _ t.1) a.0.whole

-- of an erase
pub erase_at : (g : Geometry) (room b r : ℕ) → r ≡ erasable g room b → r ≡ 0 → b * g.size + g.size ≤ room
unfolding erasable
erase_at g room b r e z =
    let a = admitted g room (pick (ltb b g.count) 0 3) (sym e ∙ z) in
    let t = picked (ltb b g.count) 0 2 a.1 in
    let h : b * g.size + 0 + g.size ≤ room = within b 0 g.size g.size g.count room (ltb-true _ _ t.0) (omega arith) a.0.whole in
    omega arith

-- of a write that is not refused: the units are few, and all of them lie within the image
pub record Lies (g : Geometry) (room b o n : ℕ) : Type 0 where
  pub few : units_in (width_of g.granularity) n ≤ 65536
  pub ends : b * g.size + o + align_of (width_of g.granularity) n ≤ room
  pub inside : o + align_of (width_of g.granularity) n ≤ g.size
  pub even : o % width_of g.granularity ≡ 0
  pub below : b < g.count

-- a write that is not refused lies so
pub write_at : (g : Geometry) (room b o n r : ℕ) → r ≡ writable g room b o n → r ≡ 0 → Lies g room b o n
unfolding writable
write_at g room b o n r e z =
    let w = width_of g.granularity in
    let a =
    admitted g room
    (pick (ltb b g.count && eqb (o % width_of g.granularity) 0 && leb (o + align_of (width_of g.granularity) n) g.size) 0 3)
    (sym e ∙ z) in
    let t =
    and_three (ltb b g.count) (eqb (o % width_of g.granularity) 0)
    (leb (o + align_of (width_of g.granularity) n) g.size)
    a.1 in
    let h : o + align_of w n ≤ g.size = leb-true _ _ t.2 in
    let m = (width_is g.granularity).0 in
    record {
      few = omega (arith, a.0.sound.small, mul-le-mul_left (units_in w n) m, mul-one (units_in w n));
      ends = within b o (align_of w n) g.size g.count room (ltb-true _ _ t.0) h a.0.whole;
      inside = h;
      even = eqb-true _ _ t.1;
      below = ltb-true _ _ t.0;
    }

-- ---- what a caller may take from an answer

-- of a check that gave 0
pub fine_of_check : (g : Geometry) (room r : ℕ) → r ≡ check_of g room → r ≡ 0 → Fine g room
fine_of_check g room r e z = (admitted g room 0 (sym e ∙ z)).0

-- of a read that is done
pub fine_of_read : (g : Geometry) (b o n : ℕ) (img bs : List ℕ) → read_at g b o n img ≡ done bs → Fine g (length img)
unfolding read_at readable
fine_of_read g b o n img bs e = go (eqb (readable g (length img) b o n) 0) refl e
  where
    go : (t : Bool) → eqb (readable g (length img) b o n) 0 ≡ t → pick t (done (part (address g b o) n img)) (refused (readable g (length img) b o n)) ≡ done bs → Fine g (length img)
    go true q h = (admitted g (length img) (pick (ltb b g.count && leb (o + n) g.size) 0 3) (eqb-true _ _ q)).0
    go false q h = let z : ◌≡◌ {A = ℕ} 0 1 = cc in absurd (omega arith)

-- a write that is not refused has passed the check
pub check_of_write : (g : Geometry) (room b o n : ℕ) → writable g room b o n ≡ 0 → check_of g room ≡ 0
unfolding writable
check_of_write g room b o n e = passed g room _ e
