-- What a block header reads as is decided by its own bytes: images that agree on them have the same header there.
use mathlib.Core.Path.{◌≡◌, refl, sym, ap, ap₂, ◌∙◌}
use mathlib.Core.Bool.{Bool, true, false, ◌&&◌, ◌||◌}
use mathlib.Core.List.{List}
use Prim.Native.Nat.{ℕ, zero, suc, ◌+◌, ◌≤◌, ◌<◌}
use native.Mathlib.Omega.{arith}
use lib.ListN.{length, get_or}
use lib.Dec.{eqb}
use Rattle.medium.specs.declared.granularity.Granularity.{Granularity}
use Rattle.medium.specs.declared.granularity.Granularity.TheVariants.{Bit, Word1, Word4}
use Rattle.medium.specs.declared.geometry.Geometry.{Geometry}
use Rattle.medium.specs.Granularity.{pick, longest_block_header, block_header, type_at}
use Rattle.medium.specs.Geometry.{address}
use Rattle.medium.specs.Operation.{done, refused, and_then}
use Rattle.medium.specs.Medium.{part, readable, read_at}
use Rattle.medium.proofs.Bytes.{get_d_part}
use Rattle.medium.proofs.Places.{width_is, headed}
use Rattle.blocks.specs.declared.header.BlockHeaderKind.{BlockHeaderKind}
use Rattle.blocks.specs.declared.header.BlockHeaderKind.TheVariants.{Unknown}
use Rattle.blocks.specs.declared.header.BlockHeader.{BlockHeader}
use Rattle.blocks.specs.BlockHeader.{layout_byte, named, padded_from, padded, marked, blank, named_kind, kind_in, erase_count_in, header_in, block_header_at}

-- the erase count ends within every header
eight : (k : Granularity) → 8 ≤ block_header k
eight Bit = omega arith
eight Word1 = omega arith
eight Word4 = omega arith

-- two lists with the same bytes of a header
module _ (bs cs : List ℕ) where
  padded_by : (k : Granularity) (i n : ℕ) → ((j : ℕ) → i ≤ j → j < i + n → get_or bs j 0 ≡ get_or cs j 0) → padded_from k i n bs ≡ padded_from k i n cs
  padded_by k i zero f = refl
  padded_by k i (suc n) f =
      ap₂ (λ (x : ℕ) (r : Bool). (named k i || eqb x 0xFF) && r) (f i (omega arith) (omega arith))
      (padded_by k (i + 1) n (λ j h l. f j (omega arith) (omega arith)))

  named_by : (layout t u : ℕ) → t ≡ u → get_or bs 0 0 ≡ get_or cs 0 0 → get_or bs 1 0 ≡ get_or cs 1 0 → get_or bs 2 0 ≡ get_or cs 2 0 → named_kind layout t bs ≡ named_kind layout u cs
  unfolding named_kind marked blank
  named_by layout t u e p q r = rw (p, q, r, e)

  header_by : (g : Geometry) → ((i : ℕ) → i < block_header g.granularity → get_or bs i 0 ≡ get_or cs i 0) → header_in g bs ≡ header_in g cs
  unfolding kind_in padded
  header_by g f =
      let l = eight g.granularity in
      let t : type_at g.granularity < block_header g.granularity = omega (arith, (headed g.granularity).type_header, width_is g.granularity) in
      let kind : pick (padded_from g.granularity 0 (block_header g.granularity) bs) (named_kind (layout_byte g) (get_or bs (type_at g.granularity) 0) bs) Unknown
      ≡ pick (padded_from g.granularity 0 (block_header g.granularity) cs) (named_kind (layout_byte g) (get_or cs (type_at g.granularity) 0) cs) Unknown =
      ap₂ (λ (p : Bool) (x : BlockHeaderKind). pick p x Unknown) (padded_by g.granularity 0 (block_header g.granularity) (λ j _ h. f j (omega arith)))
      (named_by (layout_byte g) _ _ (f (type_at g.granularity) t) (f 0 (omega arith)) (f 1 (omega arith)) (f 2 (omega arith))) in
      let count : erase_count_in bs ≡ erase_count_in cs = rw (f 4 (omega arith), f 5 (omega arith), f 6 (omega arith), f 7 (omega arith)) in
      ap₂ (λ (x : BlockHeaderKind) (n : ℕ). record { kind = x; erase_count = n }) kind count

pub header_seen : (g : Geometry) (b : ℕ) (img other : List ℕ) → length other ≡ length img
    → ((o : ℕ) → o < block_header g.granularity → get_or other (address g b o) 0 ≡ get_or img (address g b o) 0) → block_header_at g b other ≡ block_header_at g b img
unfolding block_header_at read_at
header_seen g b img other l f = rw l (go (eqb (readable g (length img) b 0 longest_block_header) 0))
  where
    byte : (i : ℕ) → i < block_header g.granularity → get_or (part (address g b 0) longest_block_header other) i 0 ≡ get_or (part (address g b 0) longest_block_header img) i 0
    byte i h =
        let z : address g b 0 + i ≡ address g b i = omega arith in
        let c : i < longest_block_header = omega (arith, (headed g.granularity).block_short) in
        get_d_part (address g b 0) longest_block_header other i 0 c ∙ ap (λ (j : ℕ). get_or other j 0) z ∙ f i h
        ∙ ap (λ (j : ℕ). get_or img j 0) (sym z) ∙ sym (get_d_part (address g b 0) longest_block_header img i 0 c)

    go : (t : Bool) → and_then (pick t (done (part (address g b 0) longest_block_header other)) (refused (readable g (length img) b 0 longest_block_header))) (λ bs. done (header_in g bs))
        ≡ and_then (pick t (done (part (address g b 0) longest_block_header img)) (refused (readable g (length img) b 0 longest_block_header))) (λ bs. done (header_in g bs))
    go true = ap (λ (x : BlockHeader). done x) (header_by (part (address g b 0) longest_block_header other) (part (address g b 0) longest_block_header img) g byte)
    go false = refl
