-- What a listing of a block that there is can refuse: bytes that are no header, with 2, and nothing else.
use mathlib.Core.Path.{◌≡◌, refl, sym, ◌∙◌}
use mathlib.Core.Bool.{Bool, true, false}
use mathlib.Core.List.{List}
use Prim.Native.Nat.{ℕ, zero, suc, ◌+◌, ◌≤◌, ◌<◌}
use native.Mathlib.Omega.{arith}
use lib.ListN.{length, get_or}
use lib.Dec.{leb, eqb}
use borrow.Author.Tests.{leb-false}
use Rattle.medium.specs.declared.granularity.Granularity.{Granularity}
use Rattle.medium.specs.declared.granularity.Granularity.TheVariants.{Bit, Word1, Word4}
use Rattle.medium.specs.declared.geometry.Geometry.{Geometry}
use Rattle.medium.specs.Granularity.{pick, size_at, header, finish_at, delete_at}
use Rattle.medium.specs.Geometry.{check_of}
use Rattle.medium.specs.Operation.{Answer, done, refused, and_then}
use Rattle.medium.specs.Medium.{read_at}
use Rattle.medium.proofs.Checks.{fine_of_check}
use Rattle.medium.proofs.Places.{laid}
use Rattle.objects.specs.declared.types.ObjectType.TheVariants.{FileMetadata, FileData, FileName}
use Rattle.objects.specs.declared.state.ObjectDataState.{ObjectDataState}
use Rattle.objects.specs.declared.state.ObjectDataState.TheVariants.{Untrusted, Valid, Deleted}
use Rattle.objects.specs.declared.location.ObjectLocation.{ObjectLocation}
use Rattle.objects.specs.declared.iterator.ObjectIterator.{ObjectIterator}
use Rattle.objects.specs.Types.{TypeSaid, typed, untyped, type_of, mark_of, pair_of, marks_of, composite_of, state_in}
use Rattle.objects.specs.Header.{state_at, sized_at, header_at}
use Rattle.objects.specs.Info.{Info, found, none, info_at}
use Rattle.objects.specs.Listing.{Met, Stop, end, free, broken, object, free_place, block_end, next_in, next_of, list_by, list_from}
use Rattle.objects.proofs.Answers.{or_on}
use Rattle.objects.proofs.Listing.{next_moves}
use Rattle.shown.proofs.Reading.{read_yes}

-- a refusal is 2
pub record Two {A : Type 0} (a : Answer A) : Type 0 where
  pub is : (n : ℕ) → a ≡ refused n → n ≡ 2

module _ {A : Type 0} where
  pub given : (x : A) → Two (done x)
  given x = record { is = λ n e. cc }

  bad : Two {A = A} (refused 2)
  bad = record { is = λ n e. cc }

  pick_two : (b : Bool) (x y : Answer A) → Two x → Two y → Two (pick b x y)
  pick_two true x y p q = p
  pick_two false x y p q = q

  else_two : (b : Bool) (x : A) (y : Answer A) → Two y → Two (pick b (done x) y)
  else_two b x y q = pick_two b (done x) y (given x) q

  -- the same refusal of another kind of answer
  pub again : {B : Type 0} (n : ℕ) → Two {A = A} (refused n) → Two {A = B} (refused n)
  again n p = record { is = λ k e. let z : n ≡ k = cc in sym z ∙ p.is n refl }

pub and_two : {A B : Type 0} (a : Answer A) (k : A → Answer B) → Two a → ((x : A) → Two (k x)) → Two (and_then a k)
and_two (done x) k p q = q x
and_two (refused n) k p q = again n p

-- ---- a state

type_two : (b : ℕ) → Two (type_of b)
unfolding type_of
type_two b =
    else_two (eqb b 0x8F) (typed FileMetadata) _ (else_two (eqb b 0x8E) (typed FileData) _ (else_two (eqb b 0x8D) (typed FileName) _ (else_two (eqb b 0xFF) untyped _ bad)))

mark_two : (b : ℕ) → Two (mark_of b)
unfolding mark_of
mark_two b = else_two (eqb b 0xFF) Untrusted _ (else_two (eqb b 0xF0) Valid _ (else_two (eqb b 0x00) Deleted _ bad))

pair_two : (a b : ℕ) → Two (pair_of a b)
unfolding pair_of
pair_two a b =
    pick_two (eqb a 0xFF) _ _ (else_two (eqb b 0xFF) Untrusted _ bad)
    (pick_two (eqb a 0x00) _ _ (else_two (eqb b 0xFF) Valid _ (else_two (eqb b 0x00) Deleted _ bad)) bad)

marks_two : (k : Granularity) (a b : ℕ) → Two (marks_of k a b)
unfolding marks_of
marks_two Bit a b = mark_two a
marks_two Word1 a b = pair_two a b
marks_two Word4 a b = pair_two a b

composite_two : (t : Answer TypeSaid) (m : Answer ObjectDataState) → Two t → Two m → Two (composite_of t m)
composite_two (done (typed t)) (done d) p q = given _
composite_two (done (typed t)) (refused n) p q = again n q
composite_two (done untyped) m p q = given _
composite_two (refused n) m p q = again n p

state_two : (k : Granularity) (bs : List ℕ) → Two (state_in k bs)
unfolding state_in
state_two k bs = composite_two (type_of (get_or bs 0 0)) (marks_of k (get_or bs (finish_at k) 0) (get_or bs (delete_at k) 0)) (type_two (get_or bs 0 0)) (marks_two k (get_or bs (finish_at k) 0) (get_or bs (delete_at k) 0))

-- why a listing stopped, as an answer
abbrev pub stopped : Stop → Answer (Unit {0})
stopped end = done tt
stopped free = done tt
stopped (broken n) = refused n

-- ---- a listing of a block that there is

module _ (g : Geometry) (img : List ℕ) (c : check_of g (length img) ≡ 0) where
  pub read_two : (b o n : ℕ) → b < g.count → o + n ≤ g.size → Two (read_at g b o n img)
  read_two b o n h k = rw (read_yes g b o n img c h k) (given _)

  info_two : (at : ObjectLocation) → at.block < g.count → at.offset + header g.granularity g.s < g.size → Two (info_at g at img)
  unfolding info_at header_at state_at sized_at
  info_two at h k =
      let f = fine_of_check g (length img) (check_of g (length img)) refl c in
      let s : size_at g.granularity + g.s ≤ header g.granularity g.s = (laid g.granularity g.s 0 f.sound.s_most).size_plain in
      and_two _ _
      (and_two _ _ (and_two _ _ (read_two at.block at.offset (size_at g.granularity) h (omega arith)) (λ bs. state_two g.granularity bs))
      (λ st. and_two _ _ (read_two at.block (at.offset + size_at g.granularity) g.s h (omega arith)) (λ bs. given _)))
      (λ h. given _)

  next_two : (i : ObjectIterator) → i.location.block < g.count → Two (next_of g i img)
  unfolding next_of
  next_two i h = rw (or_on (check_of g (length img)) (check_of g (length img)) refl c) (room (leb g.size (i.location.offset + header g.granularity g.s)) refl)
    where
      met : (x : Answer Info) → Two x → Two (next_in g i x)
      met (done (found o)) p = given _
      met (done none) p = given _
      met (refused n) p = again n p

      room : (b : Bool) → leb g.size (i.location.offset + header g.granularity g.s) ≡ b → Two (pick b (done block_end) (next_in g i (info_at g i.location img)))
      room true q = given _
      room false q = met (info_at g i.location img) (info_two i.location h (leb-false _ _ q))

  pub list_two : (n : ℕ) (i : ObjectIterator) → i.location.block < g.count → Two (stopped (list_from n g i img).stop)
  unfolding list_from
  list_two zero i h = given _
  list_two (suc n) i h = go (next_of g i img) refl (next_two i h) (λ j k. list_two n j k)
    where
      go : (m : Answer Met) → next_of g i img ≡ m → Two m → ((j : ObjectIterator) → j.location.block < g.count → Two (stopped (list_from n g j img).stop))
          → Two (stopped (list_by m i (λ j. list_from n g j img)).stop)
      go (done (object o j)) e p more = more j (omega (arith, (next_moves g i img o j e).block))
      go (done free_place) e p more = given _
      go (done block_end) e p more = given _
      go (refused k) e p more = again k p
