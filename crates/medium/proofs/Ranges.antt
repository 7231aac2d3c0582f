-- A range that can be reached: where it lies, what is lent of it, and what a write asks besides.
use mathlib.Core.Path.{◌≡◌, refl, sym, ◌∙◌}
use Prim.Native.Nat.{ℕ, ◌+◌, ◌*◌, ◌%◌, ◌≤◌, ◌<◌}
use native.Mathlib.Omega.{arith}
use mathlib.Core.List.{List}
use mathlib.Core.Bool.{Bool, true, false, ◌&&◌, and-false}
use lib.ListN.{length}
use lib.Dec.{ltb, leb, eqb}
use borrow.Author.Tests.{ltb-true, leb-true, leb-false, lt-ltb, le-leb, lt-leb, eq-eqb, ne_eqb}
use Rattle.medium.specs.declared.geometry.Geometry.{Geometry}
use Rattle.medium.specs.Granularity.{pick, width_of, align_of}
use Rattle.medium.specs.Geometry.{geometry_ok, admit, check_of, address}
use Rattle.medium.specs.Operation.{done, refused}
use Rattle.medium.specs.Medium.{part, readable, writable, read_at, lent}
use Rattle.medium.proofs.Places.{width_is}
use Rattle.medium.proofs.Bytes.{fits_up}
use Rattle.medium.proofs.Checks.{Fine, admitted, passed, admit_pass, and_two, within}

-- a range that is not refused: the geometry is sound, and the range lies within its block and the image
pub record Reached (g : Geometry) (room b o n : ℕ) : Type 0 where
  pub fine : Fine g room
  pub checked : check_of g room ≡ 0
  pub below : b < g.count
  pub inside : o + n ≤ g.size
  pub ends : b * g.size + o + n ≤ room

pub reached : (g : Geometry) (room b o n r : ℕ) → r ≡ readable g room b o n → r ≡ 0 → Reached g room b o n
unfolding readable
reached g room b o n r e z =
    let a = admitted g room (pick (ltb b g.count && leb (o + n) g.size) 0 3) (sym e ∙ z) in
    let t = and_two (ltb b g.count) (leb (o + n) g.size) a.1 in
    let l : b < g.count = ltb-true _ _ t.0 in
    let h : o + n ≤ g.size = leb-true _ _ t.1 in
    record { fine = a.0; checked = passed g room _ (sym e ∙ z); below = l; inside = h; ends = within b o n g.size g.count room l h a.0.whole }

-- and a range within a block that there is can be reached
pub readable_within : (g : Geometry) (room b o n : ℕ) → check_of g room ≡ 0 → b < g.count → o + n ≤ g.size → readable g room b o n ≡ 0
unfolding readable
readable_within g room b o n e h k = admit_pass g room _ (check_of g room) refl e ∙ rw (lt-ltb _ _ h, le-leb _ _ k)

-- ---- what is lent

module _ (g : Geometry) (b o n : ℕ) (img : List ℕ) (r : ℕ) (e : r ≡ readable g (length img) b o n) where
  -- a read of such a range gives the part of the image
  pub read_part : r ≡ 0 → read_at g b o n img ≡ done (part (address g b o) n img)
  unfolding read_at
  read_part z = rw (← e, eq-eqb r 0 z)

  -- and what is lent are its bytes
  pub read_lent : (bs : List ℕ) → bs ≡ lent (read_at g b o n img) → r ≡ 0 → read_at g b o n img ≡ done bs
  read_lent bs q z = rw (q, read_part z)

  pub read_refused : (r ≡ 0 → ⊥) → read_at g b o n img ≡ refused r
  unfolding read_at
  read_refused h = rw (← e, ne_eqb r 0 h)

-- ---- a write asks for a range that can be read, on whole units, with room for the padding

-- so it is refused as a read of the range is
pub write_unreached : (g : Geometry) (room b o n r : ℕ) → r ≡ readable g room b o n → (r ≡ 0 → ⊥) → r ≡ writable g room b o n
unfolding readable writable admit
write_unreached g room b o n r e h = e ∙ go (geometry_ok g) (eqb (g.size * g.count) room) (ltb b g.count) (leb (o + n) g.size) refl (λ z. h (e ∙ z))
  where
    none : (t : Bool) → leb (o + n) g.size ≡ false → ◌≡◌ {A = ℕ} 3 (pick (t && eqb (o % width_of g.granularity) 0 && leb (o + align_of (width_of g.granularity) n) g.size) 0 3)
    none t q =
        let l : g.size < o + align_of (width_of g.granularity) n = omega (arith, leb-false (o + n) g.size q, fits_up (width_of g.granularity) (width_is g.granularity).0 n) in
        simp (lt-leb _ _ l, and-false)

    go : (x y t u : Bool) → leb (o + n) g.size ≡ u → (pick {A = ℕ} x (pick y (pick (t && u) 0 3) 7) 6 ≡ 0 → ⊥)
        → pick {A = ℕ} x (pick y (pick (t && u) 0 3) 7) 6
        ≡ pick x (pick y (pick (t && eqb (o % width_of g.granularity) 0 && leb (o + align_of (width_of g.granularity) n) g.size) 0 3) 7) 6
    go true true true true q f = absurd (f refl)
    go true true true false q f = none true q
    go true true false u q f = refl
    go true false t u q f = refl
    go false y t u q f = refl

-- and past that by its own tests
pub write_reached : (g : Geometry) (room b o n : ℕ) → Reached g room b o n
    → writable g room b o n ≡ pick (eqb (o % width_of g.granularity) 0 && leb (o + align_of (width_of g.granularity) n) g.size) 0 3
unfolding writable
write_reached g room b o n h = admit_pass g room _ (check_of g room) refl h.checked ∙ simp (lt-ltb _ _ h.below)
