-- How an object reads, from the bytes at its address: what `header_at` and the readers answer is decided by those bytes, and the other way about.
use mathlib.Core.Path.{◌≡◌, refl, sym, ap, ◌∙◌}
use mathlib.Core.Bool.{Bool, true, false, ◌&&◌}
use mathlib.Core.List.{List, [], ◌∷◌}
use Prim.Native.Nat.{ℕ, zero, suc, ◌+◌, ◌-◌, ◌^◌, ◌≤◌, ◌<◌}
use native.Mathlib.Nat.{pow-le-pow_right, pow-succ', add-zero}
use native.Mathlib.Omega.{arith}
use lib.ListN.{length, get_or}
use lib.Dec.{leb, ltb, eqb}
use borrow.Author.Tests.{ltb-true, leb-true, eqb-true, eqb-false, le-leb, lt-ltb, ne_eqb}
use Rattle.medium.specs.declared.granularity.Granularity.{Granularity}
use Rattle.medium.specs.declared.granularity.Granularity.TheVariants.{Bit, Word1, Word4}
use Rattle.medium.specs.declared.geometry.Geometry.{Geometry}
use Rattle.medium.specs.Granularity.{pick, width_of, most_strict, finish_at, delete_at, finish_mark, size_at, header}
use Rattle.medium.specs.Geometry.{limit_of, check_of, address}
use Rattle.medium.specs.Operation.{Answer, done, refused, and_then}
use Rattle.medium.specs.Medium.{part, readable, read_at}
use Rattle.objects.specs.declared.types.ObjectType.{ObjectType}
use Rattle.objects.specs.declared.types.ObjectType.TheVariants.{FileMetadata, FileData, FileName}
use Rattle.objects.specs.declared.state.ObjectDataState.{ObjectDataState}
use Rattle.objects.specs.declared.state.ObjectDataState.TheVariants.{Untrusted, Valid, Deleted}
use Rattle.objects.specs.declared.state.CompositeObjectState.{CompositeObjectState}
use Rattle.objects.specs.declared.state.CompositeObjectState.TheVariants.{Free, Allocated}
use Rattle.objects.specs.declared.location.ObjectLocation.{ObjectLocation}
use Rattle.objects.specs.declared.header.ObjectHeader.{ObjectHeader}
use Rattle.objects.specs.Numbers.{number, bytes, unset_of}
use Rattle.objects.specs.Types.{type_byte, type_of, mark_of, pair_of, marks_of, composite_of, state_in, TypeSaid, typed, untyped}
use Rattle.objects.specs.Header.{state_at, sized_at, header_at, payload_of}
use Rattle.medium.proofs.Bytes.{get_d_part, length_part}
use Rattle.medium.proofs.Frame.{part_same}
use Rattle.objects.proofs.Numbers.{number_bytes}
use Rattle.medium.proofs.Places.{Laid}
use Rattle.medium.proofs.Checks.{admitted, admit_pass}

-- ---- what the bytes at an address say

abbrev pub state_seen : Granularity → ℕ → List ℕ → Answer CompositeObjectState
state_seen g a img = composite_of (type_of (get_or img a 0)) (marks_of g (get_or img (a + finish_at g) 0) (get_or img (a + delete_at g) 0))

abbrev pub size_seen : Granularity → ℕ → ℕ → List ℕ → ℕ
size_seen g s a img = number (part (a + size_at g) s img)

-- an object of this state, size and payload stands at an address
pub record Stands (g : Granularity) (s a : ℕ) (st : CompositeObjectState) (size : ℕ) (pay img : List ℕ) : Type 0 where
  pub state : state_seen g a img ≡ done st
  pub size_is : size_seen g s a img ≡ size
  pub bytes_are : part (a + header g s) (length pay) img ≡ pay

-- ---- a state, and the bytes that it is read from

pub type_read : (t : ObjectType) → type_of (type_byte t) ≡ done (typed t)
unfolding type_of
type_read FileMetadata = refl
type_read FileData = refl
type_read FileName = refl

pub type_small : (t : ObjectType) → type_byte t < 256
type_small FileMetadata = omega arith
type_small FileData = omega arith
type_small FileName = omega arith

pub type_back : (b : ℕ) (t : ObjectType) → type_of b ≡ done (typed t) → b ≡ type_byte t
unfolding type_of
type_back b t h = go (eqb b 0x8F) (eqb b 0x8E) (eqb b 0x8D) (eqb b 0xFF) refl refl refl h
  where
    go : (x y z f : Bool) → eqb b 0x8F ≡ x → eqb b 0x8E ≡ y → eqb b 0x8D ≡ z
        → pick x (done (typed FileMetadata)) (pick y (done (typed FileData)) (pick z (done (typed FileName)) (pick f (done untyped) (refused 2)))) ≡ done (typed t) → b ≡ type_byte t
    go true y z f p q r h = let e : FileMetadata ≡ t = cc in eqb-true b 0x8F p ∙ ap type_byte e
    go false true z f p q r h = let e : FileData ≡ t = cc in eqb-true b 0x8E q ∙ ap type_byte e
    go false false true f p q r h = let e : FileName ≡ t = cc in eqb-true b 0x8D r ∙ ap type_byte e
    go false false false true p q r h = let z : ◌≡◌ {A = ℕ} 0 1 = cc in absurd (omega arith)
    go false false false false p q r h = let z : ◌≡◌ {A = ℕ} 0 1 = cc in absurd (omega arith)

pub record Shown (g : Granularity) (b f d : ℕ) (t : ObjectType) (st : ObjectDataState) : Type 0 where
  pub type_is : b ≡ type_byte t
  pub mark_is : marks_of g f d ≡ done st

pub shown : (g : Granularity) (b f d : ℕ) (t : ObjectType) (st : ObjectDataState) → composite_of (type_of b) (marks_of g f d) ≡ done (Allocated t st) → Shown g b f d t st
shown g b f d t st h = go (type_of b) (marks_of g f d) refl refl h
  where
    go : (x : Answer TypeSaid) (m : Answer ObjectDataState) → type_of b ≡ x → marks_of g f d ≡ m → composite_of x m ≡ done (Allocated t st) → Shown g b f d t st
    go (done (typed u)) (done v) p q r =
        let e : u ≡ t = cc in
        let n : v ≡ st = cc in
        record { type_is = type_back b t (p ∙ ap (λ (x : ObjectType). done (typed x)) e); mark_is = q ∙ ap (λ (x : ObjectDataState). done x) n }
    go (done (typed u)) (refused k) p q r = let z : ◌≡◌ {A = ℕ} 0 1 = cc in absurd (omega arith)
    go (done untyped) m p q r = let z : ◌≡◌ {A = ℕ} 0 1 = cc in absurd (omega arith)
    go (refused k) m p q r = let z : ◌≡◌ {A = ℕ} 0 1 = cc in absurd (omega arith)

pub seen_object : (g : Granularity) (a : ℕ) (img : List ℕ) (t : ObjectType) (f d : ℕ) (st : ObjectDataState) → get_or img a 0 ≡ type_byte t → get_or img (a + finish_at g) 0 ≡ f
    → get_or img (a + delete_at g) 0 ≡ d → marks_of g f d ≡ done st → state_seen g a img ≡ done (Allocated t st)
seen_object g a img t f d st p q r m = rw (p, q, r, m, type_read t)

pub seen_free : (g : Granularity) (a : ℕ) (img : List ℕ) → get_or img a 0 ≡ 255 → state_seen g a img ≡ done Free
unfolding type_of
seen_free g a img p = rw p

pub blank_marks : (g : Granularity) → marks_of g 255 255 ≡ done Untrusted
unfolding marks_of mark_of pair_of
blank_marks Bit = refl
blank_marks Word1 = refl
blank_marks Word4 = refl

-- the delete mark of a valid pair is FF
pair_free : (f d : ℕ) → pair_of f d ≡ done Valid → d ≡ 255
unfolding pair_of
pair_free f d h = go (eqb f 255) (eqb f 0) (eqb d 255) (eqb d 0) refl h
  where
    go : (x y u v : Bool) → eqb d 255 ≡ u
        → pick x (pick u (done Untrusted) (refused 2)) (pick y (pick u (done Valid) (pick v (done Deleted) (refused 2))) (refused 2)) ≡ done Valid → d ≡ 255
    go x y true v q e = eqb-true _ _ q
    go true y false v q e = let z : ◌≡◌ {A = ℕ} 0 1 = cc in absurd (omega arith)
    go false true false true q e = let z : ◌≡◌ {A = ℕ} 0 1 = cc in absurd (omega arith)
    go false true false false q e = let z : ◌≡◌ {A = ℕ} 0 1 = cc in absurd (omega arith)
    go false false false v q e = let z : ◌≡◌ {A = ℕ} 0 1 = cc in absurd (omega arith)

-- so of a finished object under either Word
pub finished_free : (g : Granularity) (f d : ℕ) → 1 ≤ most_strict g → marks_of g f d ≡ done Valid → d ≡ 255
unfolding marks_of
finished_free Bit f d h m = absurd (omega arith)
finished_free Word1 f d h m = pair_free f d m
finished_free Word4 f d h m = pair_free f d m

-- the finish mark of a valid pair is 00, so the delete mark makes it a deleted pair
pair_deleted : (f d : ℕ) → pair_of f d ≡ done Valid → pair_of f 0 ≡ done Deleted
unfolding pair_of
pair_deleted f d h = go (eqb f 255) (eqb f 0) (eqb d 255) (eqb d 0) h
  where
    go : (x y u v : Bool) → pick x (pick u (done Untrusted) (refused 2)) (pick y (pick u (done Valid) (pick v (done Deleted) (refused 2))) (refused 2)) ≡ done Valid
        → pick x (refused 2) (pick y (done Deleted) (refused 2)) ≡ done Deleted
    go true y true v r = let z : ◌≡◌ {A = ℕ} 0 1 = cc in absurd (omega arith)
    go true y false v r = let z : ◌≡◌ {A = ℕ} 0 1 = cc in absurd (omega arith)
    go false true u v r = refl
    go false false u v r = let z : ◌≡◌ {A = ℕ} 0 1 = cc in absurd (omega arith)

-- the marks that a finish and a delete leave, whether the two share a byte or lie apart
pub mark_valid : (g : Granularity) (x : ℕ) → (finish_at g + width_of g ≤ delete_at g → x ≡ 255) → marks_of g (finish_mark g) x ≡ done Valid
unfolding marks_of mark_of pair_of
mark_valid Bit x h = refl
mark_valid Word1 x h = rw (h (omega arith))
mark_valid Word4 x h = rw (h (omega arith))

pub mark_deleted : (g : Granularity) (f d x : ℕ) → marks_of g f d ≡ done Valid → (finish_at g + width_of g ≤ delete_at g → x ≡ f) → (finish_at g ≡ delete_at g → x ≡ 0)
    → marks_of g x 0 ≡ done Deleted
unfolding marks_of mark_of
mark_deleted Bit f d x m h k = rw (k refl)
mark_deleted Word1 f d x m h k = rw (h (omega arith)) (pair_deleted f d m)
mark_deleted Word4 f d x m h k = rw (h (omega arith)) (pair_deleted f d m)

-- ---- two images that agree on the bytes of an object read it alike

pub seen_same : (g : Granularity) (a : ℕ) (img last : List ℕ) → get_or last a 0 ≡ get_or img a 0 → get_or last (a + finish_at g) 0 ≡ get_or img (a + finish_at g) 0
    → get_or last (a + delete_at g) 0 ≡ get_or img (a + delete_at g) 0 → state_seen g a last ≡ state_seen g a img
seen_same g a img last p q r = rw (p, q, r)

module _ (img last : List ℕ) (len : length last ≡ length img) where
  pub stands_same : (g : Granularity) (s a : ℕ) (st : CompositeObjectState) (size : ℕ) (pay : List ℕ) (l : Laid g s (length pay)) (h : a + header g s + length pay ≤ length img)
      → ((j : ℕ) → a ≤ j → j < a + header g s + length pay → get_or last j 0 ≡ get_or img j 0) → Stands g s a st size pay img → Stands g s a st size pay last
  stands_same g s a st size pay l h f w =
      record {
        state = seen_same g a img last (f a (omega arith) (omega (arith, l))) (f (a + finish_at g) (omega arith) (omega (arith, l))) (f (a + delete_at g) (omega arith) (omega (arith, l))) ∙ w.state;
        size_is = ap number (part_same (a + size_at g) s img last len (omega (arith, l)) (λ j b c. f j (omega arith) (omega (arith, l)))) ∙ w.size_is;
        bytes_are = part_same (a + header g s) (length pay) img last len h (λ j b c. f j (omega arith) c) ∙ w.bytes_are;
      }

-- ---- numbers as bytes

number_lt : (bs : List ℕ) → ((i : ℕ) → i < length bs → get_or bs i 0 < 256) → number bs < 256 ^ length bs
number_lt [] h = omega arith
number_lt (b ∷ bs) h = omega (arith, pow-succ' 256 (length bs), h 0 (omega arith), number_lt bs (λ i k. h (suc i) (omega arith)))

pub size_lt : (g : Granularity) (s a : ℕ) (img : List ℕ) → ((j : ℕ) → get_or img j 0 < 256) → a + size_at g + s ≤ length img → size_seen g s a img < 256 ^ s
size_lt g s a img hb hl =
    rw (length_part (a + size_at g) s img hl) at (number_lt (part (a + size_at g) s img) (λ i k. rw (get_d_part (a + size_at g) s img i 0 (omega (arith, length_part (a + size_at g) s img hl))) (hb (a + size_at g + i))))

-- a width that is allowed
pub limit_is : (s : ℕ) → 0 < s → s ≤ 3 → limit_of s ≡ 256 ^ s
limit_is zero h k = absurd (omega arith)
limit_is (suc zero) h k = refl
limit_is (suc (suc zero)) h k = refl
limit_is (suc (suc (suc zero))) h k = refl
limit_is (suc (suc (suc (suc s)))) h k = absurd (omega arith)

pub unset_is : (s : ℕ) → 0 < s → s ≤ 3 → (unset_of s ≡ 256 ^ s - 1) × (256 ≤ 256 ^ s)
unset_is s h k = (ap (λ (n : ℕ). n - 1) (limit_is s h k), pow-le-pow_right {n = 256} (omega arith) {i = 1} h)

-- a payload size is no unset one
pub payload_small : (s size : ℕ) → 0 < s → s ≤ 3 → size < 256 ^ s → pick (eqb size (unset_of s)) 0 size < unset_of s
payload_small s size h k lt = go (eqb size (unset_of s)) refl
  where
    go : (b : Bool) → eqb size (unset_of s) ≡ b → pick b 0 size < unset_of s
    go true e = omega (arith, unset_is s h k)
    go false e = omega (arith, lt, unset_is s h k, eqb-false size (unset_of s) e)

pub payload_set : (s : ℕ) (h : ObjectHeader) → h.size < unset_of s → payload_of s h ≡ h.size
unfolding payload_of
payload_set s h lt = let n : h.size ≡ unset_of s → ⊥ = λ e. omega arith in rw (ne_eqb h.size (unset_of s) n)

-- and its bytes say it
pub size_says : (s n : ℕ) → 0 < s → s ≤ 3 → n < unset_of s → number (bytes s n) ≡ n
size_says s n h k lt = number_bytes s n (omega (arith, lt, unset_is s h k))

-- ---- reading a place of a block

pub read_yes : (g : Geometry) (b o n : ℕ) (m : List ℕ) → check_of g (length m) ≡ 0 → b < g.count → o + n ≤ g.size → read_at g b o n m ≡ done (part (address g b o) n m)
unfolding read_at readable
read_yes g b o n m f h k = rw (admit_pass g (length m) (pick (ltb b g.count && leb (o + n) g.size) 0 3) (check_of g (length m)) refl f, lt-ltb b g.count h, le-leb (o + n) g.size k)

-- what a read that was done tells
pub record Got (g : Geometry) (b o n : ℕ) (m bs : List ℕ) : Type 0 where
  pub block : b < g.count
  pub fits : o + n ≤ g.size
  pub bytes_are : bs ≡ part (address g b o) n m

both : (a b : Bool) → pick {A = ℕ} (a && b) 0 3 ≡ 0 → (a ≡ true) × (b ≡ true)
both true true p = (refl, refl)
both true false p = absurd (omega arith)
both false b p = absurd (omega arith)

pub read_back : (g : Geometry) (b o n : ℕ) (m bs : List ℕ) → read_at g b o n m ≡ done bs → Got g b o n m bs
unfolding read_at readable
read_back g b o n m bs e = go (eqb (readable g (length m) b o n) 0) refl e
  where
    go : (t : Bool) → eqb (readable g (length m) b o n) 0 ≡ t → pick t (done (part (address g b o) n m)) (refused (readable g (length m) b o n)) ≡ done bs → Got g b o n m bs
    go true q h =
        let a = admitted g (length m) (pick (ltb b g.count && leb (o + n) g.size) 0 3) (eqb-true _ _ q) in
        let t = both (ltb b g.count) (leb (o + n) g.size) a.1 in
        record { block = ltb-true _ _ t.0; fits = leb-true _ _ t.1; bytes_are = cc }
    go false q h = let z : ◌≡◌ {A = ℕ} 0 1 = cc in absurd (omega arith)

-- an answer that came of a first answer
pub record Back {A B : Type 0} (x : Answer A) (k : A → Answer B) (b : B) : Type 0 where
  pub value : A
  pub first : x ≡ done value
  pub second : k value ≡ done b

pub and_back : {A B : Type 0} (x : Answer A) (k : A → Answer B) (b : B) → and_then x k ≡ done b → Back x k b
and_back (done a) k b e = record { value = a; first = refl; second = e }
and_back (refused n) k b e = let z : ◌≡◌ {A = ℕ} 0 1 = cc in absurd (omega arith)

-- the state of a header that was read into a buffer
state_part : (g : Granularity) (a : ℕ) (m : List ℕ) → 0 < size_at g → finish_at g < size_at g → delete_at g < size_at g → state_in g (part a (size_at g) m) ≡ state_seen g a m
unfolding state_in
state_part g a m z h k =
    let e : get_or (part a (size_at g) m) 0 0 ≡ get_or m a 0 = get_d_part a (size_at g) m 0 0 z ∙ ap (λ (y : ℕ). get_or m y 0) (add-zero a) in
    rw (e, get_d_part a (size_at g) m (finish_at g) 0 h, get_d_part a (size_at g) m (delete_at g) 0 k)

in_state : (g : Granularity) → (0 < size_at g) × (finish_at g < size_at g) × (delete_at g < size_at g)
in_state Bit = omega arith
in_state Word1 = omega arith
in_state Word4 = omega arith

state_in_lem : (g : Granularity) (a : ℕ) (m : List ℕ) → state_in g (part a (size_at g) m) ≡ state_seen g a m
state_in_lem g a m = let i = in_state g in state_part g a m i.0 i.1 i.2

pub state_read : (g : Geometry) (at : ObjectLocation) (m : List ℕ) → check_of g (length m) ≡ 0 → at.block < g.count → at.offset + size_at g.granularity ≤ g.size
    → state_at g at m ≡ state_seen g.granularity (address g at.block at.offset) m
unfolding state_at
state_read g at m f h k = rw (read_yes g at.block at.offset (size_at g.granularity) m f h k) (state_in_lem g.granularity (address g at.block at.offset) m)

abbrev pub header_of : CompositeObjectState → ℕ → ObjectLocation → ObjectHeader
header_of st size at = record { state = st; size = size; location = at }

pub header_read : (g : Geometry) (at : ObjectLocation) (m : List ℕ) (st : CompositeObjectState) (size : ℕ) → check_of g (length m) ≡ 0 → at.block < g.count
    → at.offset + size_at g.granularity + g.s ≤ g.size → state_seen g.granularity (address g at.block at.offset) m ≡ done st
    → size_seen g.granularity g.s (address g at.block at.offset) m ≡ size → header_at g at m ≡ done (header_of st size at)
unfolding header_at sized_at
header_read g at m st size f h k e n =
    let a : address g at.block (at.offset + size_at g.granularity) ≡ address g at.block at.offset + size_at g.granularity = omega arith in
    let p : number (part (address g at.block (at.offset + size_at g.granularity)) g.s m) ≡ size = ap (λ (x : ℕ). number (part x g.s m)) a ∙ n in
    rw (state_read g at m f h (omega arith), e, read_yes g at.block (at.offset + size_at g.granularity) g.s m f h k)
    (ap (λ (x : ℕ). done (header_of st x at)) p)

-- what a header that was read tells of the bytes
pub record Told (g : Geometry) (at : ObjectLocation) (m : List ℕ) (h : ObjectHeader) : Type 0 where
  pub block : at.block < g.count
  pub state : state_seen g.granularity (address g at.block at.offset) m ≡ done h.state
  pub size_is : size_seen g.granularity g.s (address g at.block at.offset) m ≡ h.size
  pub located : h.location ≡ at

pub header_back : (g : Geometry) (at : ObjectLocation) (m : List ℕ) (h : ObjectHeader) → header_at g at m ≡ done h → Told g at m h
unfolding header_at state_at sized_at
header_back g at m h e =
    let x = and_back (state_at g at m) (λ st. sized_at g at st m) h e in
    let y = and_back (read_at g at.block at.offset (size_at g.granularity) m) (λ bs. state_in g.granularity bs) x.value x.first in
    let z = and_back (read_at g at.block (at.offset + size_at g.granularity) g.s m) (λ bs. done (header_of x.value (number bs) at)) h x.second in
    let b : Got g at.block at.offset (size_at g.granularity) m y.value = read_back g at.block at.offset (size_at g.granularity) m y.value y.first in
    let c : Got g at.block (at.offset + size_at g.granularity) g.s m z.value = read_back g at.block (at.offset + size_at g.granularity) g.s m z.value z.first in
    let r : header_of x.value (number z.value) at ≡ h = cc in
    let a : address g at.block (at.offset + size_at g.granularity) ≡ address g at.block at.offset + size_at g.granularity = omega arith in
    record {
      block = b.block;
      state =
          sym (state_in_lem g.granularity (address g at.block at.offset) m)
          ∙ ap (λ (bs : List ℕ). state_in g.granularity bs) (sym b.bytes_are) ∙ y.second ∙ ap (λ (k : ObjectHeader). done k.state) r;
      size_is = ap (λ (i : ℕ). number (part i g.s m)) (sym a) ∙ ap number (sym c.bytes_are) ∙ ap (λ (k : ObjectHeader). k.size) r;
      located = ap (λ (k : ObjectHeader). k.location) (sym r);
    }
