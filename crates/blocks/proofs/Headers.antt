-- A block header: where its bytes lie, and what a store of one does.
use mathlib.Core.Path.{◌≡◌, refl, ◌∙◌}
use Prim.Native.Nat.{ℕ, suc, ◌+◌, ◌-◌, ◌≤◌, ◌<◌}
use native.Mathlib.Omega.{arith}
use mathlib.Core.List.{List}
use lib.ListN.{length, get_or}
use lib.Dec.{eqb, ltb, leb}
use mathlib.Core.Bool.{Bool, true, false, ◌&&◌, ◌||◌}
use borrow.Author.Tests.{eqb-true, ne_eqb}
use Rattle.medium.specs.declared.granularity.Granularity.{Granularity}
use Rattle.medium.specs.declared.granularity.Granularity.TheVariants.{Bit, Word1, Word4}
use Rattle.medium.specs.declared.geometry.Geometry.{Geometry}
use Rattle.medium.specs.declared.fuse.Fuse.{Fuse}
use Rattle.medium.specs.Granularity.{pick, longest_block_header, type_at, layout_bit}
use Rattle.medium.specs.Geometry.{check_of, address}
use Rattle.medium.specs.Operation.{Answer, done, refused, and_then, run}
use Rattle.medium.specs.Medium.{part, readable, writable, storable, read_at, write}
use Rattle.medium.proofs.Checks.{admit_stop, passed}
use Rattle.medium.proofs.Stores.{write_refused}
use Rattle.blocks.specs.declared.header.BlockHeader.{BlockHeader}
use Rattle.blocks.specs.BlockHeader.{named, padded_from, header_in, block_header_at}

-- the type lies within the longest header, the layout's last number is a bit,
pub type_within : (k : Granularity) → type_at k < longest_block_header
type_within Bit = omega arith
type_within Word1 = omega arith
type_within Word4 = omega arith

pub bit_small : (k : Granularity) → layout_bit k ≤ 1
bit_small Bit = omega arith
bit_small Word1 = omega arith
bit_small Word4 = omega arith

-- a store is refused as its range is
out_of_range : (g : Geometry) (b o : ℕ) (bs img : List ℕ) (r : ℕ) → r ≡ writable g (length img) b o (length bs) → (r ≡ 0 → ⊥) → r ≡ storable g b o bs img
unfolding storable
out_of_range g b o bs img r e n = rw (← e, ne_eqb r 0 n)

-- and that as the check of geometry and room is
pub write_unsound : (g : Geometry) (f : Fuse) (b o : ℕ) (bs img : List ℕ) (r : ℕ) → r ≡ check_of g (length img) → (r ≡ 0 → ⊥) → record { answer = refused r; fuse = f; state = img } ≡ run f (write g b o bs) img
unfolding writable
write_unsound g f b o bs img r e n = write_refused g img f b o bs r (out_of_range g b o bs img r (admit_stop g (length img) _ r e n) n) n

-- what was read could be read
pub readable_of : (g : Geometry) (b o n : ℕ) (img bs : List ℕ) → read_at g b o n img ≡ done bs → readable g (length img) b o n ≡ 0
unfolding read_at
readable_of g b o n img bs e = go (eqb (readable g (length img) b o n) 0) refl e
  where
    go : (t : Bool) → eqb (readable g (length img) b o n) 0 ≡ t → pick t (done (part (address g b o) n img)) (refused (readable g (length img) b o n)) ≡ done bs → readable g (length img) b o n ≡ 0
    go true q h = eqb-true _ _ q
    go false q h = let z : ◌≡◌ {A = ℕ} 0 1 = cc in absurd (omega arith)

-- where bytes or a header were read, geometry and room are sound
pub check_of_read : (g : Geometry) (b o n : ℕ) (img bs : List ℕ) → read_at g b o n img ≡ done bs → check_of g (length img) ≡ 0
unfolding readable
check_of_read g b o n img bs e = passed g (length img) (pick (ltb b g.count && leb (o + n) g.size) 0 3) (readable_of g b o n img bs e)

pub check_of_header : (g : Geometry) (b : ℕ) (img : List ℕ) (h : BlockHeader) → block_header_at g b img ≡ done h → check_of g (length img) ≡ 0
unfolding block_header_at
check_of_header g b img h e = go (read_at g b 0 longest_block_header img) refl e
  where
    go : (a : Answer (List ℕ)) → read_at g b 0 longest_block_header img ≡ a → and_then a (λ bs. done (header_in g bs)) ≡ done h → check_of g (length img) ≡ 0
    go (done bs) q p = check_of_read g b 0 longest_block_header img bs q
    go (refused n) q p = let z : ◌≡◌ {A = ℕ} 0 1 = cc in absurd (omega arith)

-- ---- bytes that no rule names, a byte a step: of n, those from i on

module _ (k : Granularity) (bs : List ℕ) (n i : ℕ) (h : i < n) (t : Bool) (e : t ≡ named k i) where
  step : padded_from k i (n - i) bs ≡ ((t || eqb (get_or bs i 0) 0xFF) && padded_from k (i + 1) (n - (i + 1)) bs)
  step = let m : n - i ≡ suc (n - (i + 1)) = omega arith in rw (m, e)

  pub padded_named : t ≡ true → padded_from k i (n - i) bs ≡ padded_from k (i + 1) (n - (i + 1)) bs
  padded_named q = step ∙ rw q

  pub padded-blank : t ≡ false → get_or bs i 0 ≡ 255 → padded_from k i (n - i) bs ≡ padded_from k (i + 1) (n - (i + 1)) bs
  padded-blank q b = step ∙ rw (q, b)

  pub padded-not : t ≡ false → (get_or bs i 0 ≡ 255 → ⊥) → padded_from k i (n - i) bs ≡ false
  padded-not q b = step ∙ rw (q, ne_eqb _ _ b)

pub padded_end : (k : Granularity) (bs : List ℕ) (n i : ℕ) → n ≤ i → padded_from k i (n - i) bs ≡ true
padded_end k bs n i h = let m : n - i ≡ 0 = omega arith in rw m
