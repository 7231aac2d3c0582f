-- A range that is read in two parts.
use mathlib.Core.Path.{◌≡◌, refl, sym, ap, ◌∙◌}
use mathlib.Core.Bool.{Bool, true, false, ◌&&◌}
use mathlib.Core.List.{List, ◌++◌}
use Prim.Native.Nat.{ℕ, ◌+◌, ◌*◌, ◌≤◌}
use native.Mathlib.Omega.{arith}
use lib.ListN.{length, take, drop}
use lib.Seq.{take-add, drop-drop, take_at, drop_at}
use lib.Dec.{ltb, leb, eqb}
use borrow.Author.Tests.{leb-true, le-leb}
use Rattle.medium.specs.declared.geometry.Geometry.{Geometry}
use Rattle.medium.specs.Granularity.{pick}
use Rattle.medium.specs.Geometry.{geometry_ok, admit, address}
use Rattle.medium.specs.Operation.{Answer, done, refused, and_then}
use Rattle.medium.specs.Medium.{part, readable, read_at}
use Rattle.objects.proofs.Reading.{read_length}
use Rattle.shown.proofs.Reading.{and_back}

module _ (g : Geometry) (b o x y : ℕ) (img : List ℕ) where
  abbrev in_two : Answer (List ℕ) → Answer (List ℕ) → Answer (List ℕ)
  in_two p q = and_then p (λ a. and_then q (λ c. done (a ++ c)))

  parts : part (address g b o) (x + y) img ≡ part (address g b o) x img ++ part (address g b (o + x)) y img
  parts =
      let a : address g b o + x ≡ address g b (o + x) = omega arith in
      take-add x y (drop (address g b o) img) ∙ ap (λ (l : List ℕ). part (address g b o) x img ++ take y l) (drop-drop x (address g b o) img ∙ ap (λ (k : ℕ). drop k img) a)

  abbrev ranged : Bool → ℕ → ℕ → Answer (List ℕ)
  ranged t p n = let r = pick {A = ℕ} t 0 3 in pick (eqb r 0) (done (part p n img)) (refused r)

  -- by whether both ends lie in the block
  by_ends : (t : Bool) → ranged (t && leb (o + (x + y)) g.size) (address g b o) (x + y)
      ≡ in_two (ranged (t && leb (o + x) g.size) (address g b o) x) (ranged (t && leb (o + x + y) g.size) (address g b (o + x)) y)
  by_ends false = refl
  by_ends true = go (leb (o + (x + y)) g.size) refl
    where
      far : leb (o + (x + y)) g.size ≡ false → (s : Bool) → leb (o + x) g.size ≡ s → refused 3 ≡ in_two (ranged s (address g b o) x) (ranged false (address g b (o + x)) y)
      far e true q = refl
      far e false q = refl

      go : (s : Bool) → leb (o + (x + y)) g.size ≡ s → ranged s (address g b o) (x + y) ≡ in_two (ranged (leb (o + x) g.size) (address g b o) x) (ranged (leb (o + x + y) g.size) (address g b (o + x)) y)
      go true e =
          let h : o + (x + y) ≤ g.size = leb-true _ _ e in
          let i : leb (o + x) g.size ≡ true = le-leb (o + x) g.size (omega arith) in
          let j : leb (o + x + y) g.size ≡ true = le-leb (o + x + y) g.size (omega arith) in
          rw (i, j) (ap done parts)
      go false e =
          let j : leb (o + x + y) g.size ≡ false = let z : o + x + y ≡ o + (x + y) = omega arith in ap (λ (k : ℕ). leb k g.size) z ∙ e in
          rw j (far e (leb (o + x) g.size) refl)

  pub read_join : read_at g b o (x + y) img ≡ and_then (read_at g b o x img) (λ a. and_then (read_at g b (o + x) y img) (λ c. done (a ++ c)))
  unfolding read_at readable admit
  read_join = go (geometry_ok g) (eqb (g.size * g.count) (length img))
    where
      tested : Bool → Bool → Bool → ℕ → ℕ → Answer (List ℕ)
      tested u v t p n = let r = pick {A = ℕ} u (pick v (pick t 0 3) 7) 6 in pick (eqb r 0) (done (part p n img)) (refused r)

      go : (u v : Bool) → tested u v (ltb b g.count && leb (o + (x + y)) g.size) (address g b o) (x + y)
          ≡ in_two (tested u v (ltb b g.count && leb (o + x) g.size) (address g b o) x) (tested u v (ltb b g.count && leb (o + x + y) g.size) (address g b (o + x)) y)
      go true true = by_ends (ltb b g.count)
      go true false = refl
      go false v = refl

-- the first x bytes of a range that was read, and those behind them
pub record Halves (g : Geometry) (b o x y : ℕ) (img bs : List ℕ) : Type 0 where
  pub first : read_at g b o x img ≡ done (take x bs)
  pub second : read_at g b (o + x) y img ≡ done (drop x bs)

pub halves : (g : Geometry) (b o x y : ℕ) (img bs : List ℕ) → read_at g b o (x + y) img ≡ done bs → Halves g b o x y img bs
halves g b o x y img bs e =
    let p = and_back (read_at g b o x img) (λ a. and_then (read_at g b (o + x) y img) (λ c. done (a ++ c))) bs (sym (read_join g b o x y img) ∙ e) in
    let q = and_back (read_at g b (o + x) y img) (λ c. done (p.value ++ c)) bs p.second in
    let l : length p.value ≡ x = read_length g b o x img p.value p.first in
    let w : p.value ++ q.value ≡ bs = cc in
    record {
      first = p.first ∙ ap done (sym (ap (take x) (sym w) ∙ take_at p.value q.value x l));
      second = q.first ∙ ap done (sym (ap (drop x) (sym w) ∙ drop_at p.value q.value x l));
    }
