-- The bytes of a header: they read back as its kind and count; those of an erased header are FF.
use mathlib.Core.Path.{◌≡◌, refl, ap₂}
use mathlib.Core.Logic.{◌⊎◌, inl, inr}
use mathlib.Core.Bool.{Bool, true, false, ◌&&◌, ◌||◌, false≢true}
use mathlib.Core.List.{List, ◌++◌}
use Prim.Native.Nat.{ℕ, zero, suc, ◌+◌, ◌≤◌, ◌<◌}
use native.Mathlib.Omega.{arith}
use lib.ListN.{take, get_or}
use lib.Dec.{ltb, leb, eqb}
use borrow.Author.Tests.{ltb-true, leb-true, eqb-true, eq-eqb}
use Rattle.medium.specs.declared.granularity.Granularity.{Granularity}
use Rattle.medium.specs.declared.granularity.Granularity.TheVariants.{Bit, Word1, Word4}
use Rattle.medium.specs.declared.geometry.Geometry.{Geometry}
use Rattle.medium.specs.Granularity.{pick, block_header, type_at}
use Rattle.medium.proofs.Runs.{leb_is}
use Rattle.objects.proofs.Numbers.{number_bytes}
use Rattle.blocks.specs.declared.header.BlockType.{BlockType}
use Rattle.blocks.specs.declared.header.BlockType.TheVariants.{Metadata, Data, Undefined}
use Rattle.blocks.specs.declared.header.BlockHeaderKind.{BlockHeaderKind}
use Rattle.blocks.specs.declared.header.BlockHeaderKind.TheVariants.{Empty, Unknown, Known}
use Rattle.blocks.specs.BlockHeader.{type_byte, type_if, layout_byte, around, wide_bytes, header_bytes, named, padded_from, padded, marked, blank, kind_of_type, named_kind, kind_in, erase_count_in}
use Rattle.blocks.specs.Formatted.{reads_as, HeaderReadsBack}

-- ---- there and back

type_back : (t : BlockType) → kind_of_type (type_byte t) ≡ Known t
unfolding kind_of_type
type_back Metadata = refl
type_back Data = refl
type_back Undefined = refl

-- the kind in bytes of a layout
abbrev kind_by : Granularity → ℕ → List ℕ → BlockHeaderKind
kind_by k layout bs = pick (padded k bs) (named_kind layout (get_or bs (type_at k) 0) bs) Unknown

known_back : (k : Granularity) (layout n : ℕ) (t : BlockType) (rest : List ℕ)
    → kind_by k layout (take (block_header k) (around 0xBA 0x01 layout (type_if k 3 t) n (type_if k 8 t)) ++ rest) ≡ Known t
unfolding padded named_kind marked
known_back Bit layout n t rest = rw (eq-eqb layout layout refl) (type_back t)
known_back Word1 layout n t rest = rw (eq-eqb layout layout refl) (type_back t)
known_back Word4 layout n t rest = rw (eq-eqb layout layout refl) (type_back t)

empty_back : (k : Granularity) (layout n : ℕ) (rest : List ℕ) → kind_by k layout (take (block_header k) (around 0xFF 0xFF 0xFF 0xFF n 0xFF) ++ rest) ≡ Empty
unfolding padded named_kind marked blank
empty_back Bit layout n rest = refl
empty_back Word1 layout n rest = refl
empty_back Word4 layout n rest = refl

kind_back : (g : Geometry) (x : BlockHeaderKind) (n : ℕ) (rest : List ℕ) → kind_in g (take (block_header g.granularity) (wide_bytes g x n) ++ rest) ≡ reads_as x
unfolding kind_in
kind_back g Empty n rest = empty_back g.granularity (layout_byte g) n rest
kind_back g Unknown n rest = empty_back g.granularity (layout_byte g) n rest
kind_back g (Known t) n rest = known_back g.granularity (layout_byte g) n t rest

count_back : (k : Granularity) (a b c d n e : ℕ) (rest : List ℕ) → n < 4294967296 → erase_count_in (take (block_header k) (around a b c d n e) ++ rest) ≡ n
count_back Bit a b c d n e rest h = number_bytes 4 n h
count_back Word1 a b c d n e rest h = number_bytes 4 n h
count_back Word4 a b c d n e rest h = number_bytes 4 n h

counts_back : (g : Geometry) (x : BlockHeaderKind) (n : ℕ) (rest : List ℕ) → n < 4294967296 → erase_count_in (take (block_header g.granularity) (wide_bytes g x n) ++ rest) ≡ n
counts_back g Empty n rest h = count_back g.granularity 0xFF 0xFF 0xFF 0xFF n 0xFF rest h
counts_back g Unknown n rest h = count_back g.granularity 0xFF 0xFF 0xFF 0xFF n 0xFF rest h
counts_back g (Known t) n rest h = count_back g.granularity 0xBA 0x01 (layout_byte g) (type_if g.granularity 3 t) n (type_if g.granularity 8 t) rest h

pub header_back : HeaderReadsBack
unfolding HeaderReadsBack header_bytes
header_back g h rest small =
    ap₂ (λ (x : BlockHeaderKind) (n : ℕ). record { kind = x; erase_count = n })
    (kind_back g h.kind h.erase_count rest) (counts_back g h.kind h.erase_count rest small)

-- ---- an Empty kind with the last count: every byte of the header is FF

type_never : (t : ℕ) → kind_of_type t ≡ Empty → ⊥
unfolding kind_of_type
type_never t e = go (eqb t 0x55) (eqb t 0xAA) (eqb t 0xFF) e
  where
    go : (x y z : Bool) → pick x (Known Metadata) (pick y (Known Data) (pick z (Known Undefined) Unknown)) ≡ Empty → ⊥
    go true y z h = let n : ◌≡◌ {A = ℕ} 0 1 = cc in omega arith
    go false true z h = let n : ◌≡◌ {A = ℕ} 0 1 = cc in omega arith
    go false false true h = let n : ◌≡◌ {A = ℕ} 0 1 = cc in omega arith
    go false false false h = let n : ◌≡◌ {A = ℕ} 0 1 = cc in omega arith

-- what an Empty kind tells: the unnamed bytes are FF, and so are the others with the type
kind_empty : (g : Geometry) (bs : List ℕ) → kind_in g bs ≡ Empty → (padded g.granularity bs ≡ true) × (blank bs (get_or bs (type_at g.granularity) 0) ≡ true)
unfolding kind_in named_kind
kind_empty g bs e =
    go (padded g.granularity bs) (marked (layout_byte g) bs) (blank bs (get_or bs (type_at g.granularity) 0)) (get_or bs (type_at g.granularity) 0) e
  where
    go : (x y z : Bool) (t : ℕ) → pick x (pick y (kind_of_type t) (pick z Empty Unknown)) Unknown ≡ Empty → (x ≡ true) × (z ≡ true)
    go true true z t h = absurd (type_never t h)
    go true false true t h = (refl, refl)
    go true false false t h = let n : ◌≡◌ {A = ℕ} 0 1 = cc in absurd (omega arith)
    go false y z t h = let n : ◌≡◌ {A = ℕ} 0 1 = cc in absurd (omega arith)

ands : (a b c d : Bool) → (a && b && c && d) ≡ true → (a ≡ true) × (b ≡ true) × (c ≡ true) × (d ≡ true)
ands true true true d p = (refl, refl, refl, p)
ands true true false d p = absurd (false≢true p)
ands true false c d p = absurd (false≢true p)
ands false b c d p = absurd (false≢true p)

and_both : (a b : Bool) → (a && b) ≡ true → (a ≡ true) × (b ≡ true)
and_both true b p = (refl, p)
and_both false b p = absurd (false≢true p)

or_either : (a b : Bool) → (a || b) ≡ true → (a ≡ true) ⊎ (b ≡ true)
or_either true b p = inl refl
or_either false b p = inr p

pub padded_at : (k : Granularity) (bs : List ℕ) (n from i : ℕ) → padded_from k from n bs ≡ true → from ≤ i → i < from + n
    → (named k i ≡ true) ⊎ (eqb (get_or bs i 0) 0xFF ≡ true)
padded_at k bs zero from i p lo hi = absurd (omega arith)
padded_at k bs (suc n) from i p lo hi = go (leb_is (suc from) i) (λ q x y. padded_at k bs n (from + 1) i q x y)
  where
    t : ((named k from || eqb (get_or bs from 0) 0xFF) ≡ true) × (padded_from k (from + 1) n bs ≡ true)
    t = and_both (named k from || eqb (get_or bs from 0) 0xFF) (padded_from k (from + 1) n bs) p

    here : i ≡ from → (named k i ≡ true) ⊎ (eqb (get_or bs i 0) 0xFF ≡ true)
    here q = rw q (or_either (named k from) (eqb (get_or bs from 0) 0xFF) t.0)

    go : (suc from ≤ i) ⊎ (i < suc from)
        → (padded_from k (from + 1) n bs ≡ true → from + 1 ≤ i → i < from + 1 + n → (named k i ≡ true) ⊎ (eqb (get_or bs i 0) 0xFF ≡ true))
        → (named k i ≡ true) ⊎ (eqb (get_or bs i 0) 0xFF ≡ true)
    go (inl h) more = more t.1 (omega arith) (omega arith)
    go (inr h) more = here (omega arith)

module _ (g : Geometry) (bs : List ℕ) (byte : (i : ℕ) → 4 ≤ i → i < 8 → get_or bs i 0 < 256) (empty : kind_in g bs ≡ Empty) (last : erase_count_in bs ≡ 4294967295) where
  rest_ff : (padded g.granularity bs ≡ true) × (blank bs (get_or bs (type_at g.granularity) 0) ≡ true)
  rest_ff = kind_empty g bs empty

  first_ff : (get_or bs 0 0 ≡ 255) × (get_or bs 1 0 ≡ 255) × (get_or bs 2 0 ≡ 255) × (get_or bs (type_at g.granularity) 0 ≡ 255)
  unfolding blank
  first_ff =
      let t = ands (eqb (get_or bs 0 0) 0xFF) (eqb (get_or bs 1 0) 0xFF) (eqb (get_or bs 2 0) 0xFF) (eqb (get_or bs (type_at g.granularity) 0) 0xFF) rest_ff.1 in
      (eqb-true _ _ t.0, eqb-true _ _ t.1, eqb-true _ _ t.2, eqb-true _ _ t.3)

  count_ff : (get_or bs 4 0 ≡ 255) × (get_or bs 5 0 ≡ 255) × (get_or bs 6 0 ≡ 255) × (get_or bs 7 0 ≡ 255)
  count_ff =
      let a = byte 4 (omega arith) (omega arith) in
      let b = byte 5 (omega arith) (omega arith) in
      let c = byte 6 (omega arith) (omega arith) in
      let d = byte 7 (omega arith) (omega arith) in
      (omega arith, omega arith, omega arith, omega arith)

  mark_at_lem : (i : ℕ) → i < 3 → get_or bs i 0 ≡ 255
  mark_at_lem zero h = first_ff.0
  mark_at_lem (suc zero) h = first_ff.1
  mark_at_lem (suc (suc zero)) h = first_ff.2
  mark_at_lem (suc (suc (suc i))) h = absurd (omega arith)

  count_at : (i : ℕ) → 4 ≤ i → i < 8 → get_or bs i 0 ≡ 255
  count_at (suc (suc (suc (suc zero)))) lo hi = count_ff.0
  count_at (suc (suc (suc (suc (suc zero))))) lo hi = count_ff.1
  count_at (suc (suc (suc (suc (suc (suc zero)))))) lo hi = count_ff.2
  count_at (suc (suc (suc (suc (suc (suc (suc zero))))))) lo hi = count_ff.3
  count_at (suc (suc (suc (suc (suc (suc (suc (suc i)))))))) lo hi = absurd (omega arith)
  count_at zero lo hi = absurd (omega arith)
  count_at (suc zero) lo hi = absurd (omega arith)
  count_at (suc (suc zero)) lo hi = absurd (omega arith)
  count_at (suc (suc (suc zero))) lo hi = absurd (omega arith)

  named_at : (i : ℕ) → named g.granularity i ≡ true → get_or bs i 0 ≡ 255
  named_at i p = go (or_either (ltb i 3) (eqb i (type_at g.granularity) || (leb 4 i && ltb i 8)) p)
    where
      at-type : i ≡ type_at g.granularity → get_or bs i 0 ≡ 255
      at-type q = rw q first_ff.3

      more : (eqb i (type_at g.granularity) ≡ true) ⊎ ((leb 4 i && ltb i 8) ≡ true) → get_or bs i 0 ≡ 255
      more (inl h) = at-type (eqb-true _ _ h)
      more (inr h) = let t = and_both (leb 4 i) (ltb i 8) h in count_at i (leb-true _ _ t.0) (ltb-true _ _ t.1)

      go : (ltb i 3 ≡ true) ⊎ ((eqb i (type_at g.granularity) || (leb 4 i && ltb i 8)) ≡ true) → get_or bs i 0 ≡ 255
      go (inl h) = mark_at_lem i (ltb-true _ _ h)
      go (inr h) = more (or_either (eqb i (type_at g.granularity)) (leb 4 i && ltb i 8) h)

  pub header_ff : (i : ℕ) → i < block_header g.granularity → get_or bs i 0 ≡ 255
  unfolding padded
  header_ff i h = go (padded_at g.granularity bs (block_header g.granularity) 0 i rest_ff.0 (omega arith) (omega arith))
    where
      go : (named g.granularity i ≡ true) ⊎ (eqb (get_or bs i 0) 0xFF ≡ true) → get_or bs i 0 ≡ 255
      go (inl p) = named_at i p
      go (inr p) = eqb-true _ _ p
