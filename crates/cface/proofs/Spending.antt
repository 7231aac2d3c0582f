-- What a refusal leaves of the numbers of a writer that came in: all of them, and after 8, which only a store gives, a writer that is spent.
use mathlib.Core.Path.{◌≡◌, refl, sym, ap, ◌∙◌}
use mathlib.Core.Bool.{Bool, true, false, ◌&&◌}
use mathlib.Core.List.{List}
use Prim.Native.Nat.{ℕ, zero, suc, ◌*◌, ◌<◌}
use native.Mathlib.Omega.{arith}
use lib.ListN.{length, get_or}
use lib.Dec.{leb, eqb}
use borrow.Author.Tests.{ne_eqb}
use Rattle.medium.specs.declared.geometry.Geometry.{Geometry}
use Rattle.medium.specs.declared.fuse.Fuse.{Fuse}
use Rattle.std.specs.Prelude.{Ok, Err}
use Rattle.medium.specs.Granularity.{pick}
use Rattle.medium.specs.Geometry.{geometry_ok, admit}
use Rattle.medium.specs.Fuse.{Stored, stored_number}
use Rattle.medium.specs.Operation.{Op, Answer, done, refused, and_then, or_refuse, run, ended_by, unless_stored}
use Rattle.objects.specs.declared.state.CompositeObjectState.{CompositeObjectState}
use Rattle.objects.specs.declared.header.ObjectHeader.{ObjectHeader}
use Rattle.objects.specs.Types.{TypeSaid, typed, untyped, type_of}
use Rattle.writer.specs.declared.writer.ObjectWriter.{ObjectWriter}
use Rattle.crossing.specs.Crossing.{given, fuse_of, units_after, crossed_with, crossing_with}
use Rattle.crossing.specs.Values.{data_state_of, state_of, state_by, header_from, header_of, located}
use Rattle.cface.specs.Writers.{sayable_of, writer_with, writer_of, writer_numbers, left_by, spent_after}
use Rattle.crossing.proofs.Crossings.{given_handed, none_stored_with}

-- ---- no number that comes in gives 8

-- a refusal of a sequence is one of its steps
either : {A B : Type 0} (n : ℕ) (a : Answer A) (k : A → Answer B) → (a ≡ refused n → n < 8) → ((x : A) → k x ≡ refused n → n < 8) → and_then a k ≡ refused n → n < 8
either n (done x) k f s h = s x h
either n (refused m) k f s h = let z : m ≡ n = cc in f (ap refused z)

never : {A : Type 0} (x : A) (n : ℕ) → done x ≡ refused n → n < 8
never x n h = let z : ◌≡◌ {A = ℕ} 0 1 = cc in absurd (omega arith)

-- and one by a test has the number of the test
tests : (m n : ℕ) → m < 8 → or_refuse m ≡ refused n → n < 8
tests zero n l h = never tt n h
tests (suc m) n l h = let z : suc m ≡ n = cc in omega arith

-- past a choice that was not taken
past : {A : Type 0} (t : Bool) (a : A) (r : Answer A) (n : ℕ) → pick t (done a) r ≡ refused n → r ≡ refused n
past true a r n h = let z : ◌≡◌ {A = ℕ} 0 1 = cc in absurd (omega arith)
past false a r n h = h

four : {A : Type 0} (n : ℕ) → ◌≡◌ {A = Answer A} (refused 4) (refused n) → n < 8
four n h = let z : 4 ≡ n = cc in omega arith

state_uncut : (kind k n : ℕ) → state_of kind k ≡ refused n → n < 8
unfolding state_of data_state_of
state_uncut kind k n e = go (type_of kind) e
  where
    go : (t : Answer TypeSaid) → state_by t k ≡ refused n → n < 8
    go (done (typed t)) h = four {A = CompositeObjectState} n (past (eqb k 3) _ _ n (past (eqb k 2) _ _ n (past (eqb k 1) _ _ n h)))
    go (done untyped) h = four {A = CompositeObjectState} n (past (eqb k 0) _ _ n h)
    go (refused m) h = four {A = CompositeObjectState} n h

header_uncut : (ns : List ℕ) (n : ℕ) → header_of ns ≡ refused n → n < 8
unfolding header_from
header_uncut ns n e =
    either n (state_of (get_or ns 0 0) (get_or ns 1 0)) (λ st. done (made st)) (state_uncut (get_or ns 0 0) (get_or ns 1 0) n) (λ st. never (made st) n) e
  where
    made : CompositeObjectState → ObjectHeader
    made st = record { state = st; size = get_or ns 2 0; location = located (get_or ns 3 0) (get_or ns 4 0) }

said_small : (a b c d spent : ℕ) → sayable_of a b c d spent < 8
unfolding sayable_of
said_small a b c d spent = go (leb a 255 && leb b 255 && leb c 255 && leb d 255 && leb spent 1)
  where
    go : (t : Bool) → pick {A = ℕ} t 0 4 < 8
    go true = omega arith
    go false = omega arith

pub writer_uncut : (ns : List ℕ) (n : ℕ) → writer_of ns ≡ refused n → n < 8
unfolding writer_of
writer_uncut ns n e =
    either n (header_of ns) (λ h. and_then (or_refuse said) (λ _. done (writer_with h ns))) (header_uncut ns n)
    (λ h. either n (or_refuse said) (λ _. done (writer_with h ns)) (tests said n (said_small _ _ _ _ _)) (λ _. never (writer_with h ns) n))
    e
  where
    said : ℕ
    said = sayable_of (get_or ns 7 0) (get_or ns 8 0) (get_or ns 9 0) (get_or ns 10 0) (get_or ns 11 0)

-- ---- how a store crosses whose writer stands beside its answer

module _ {X : Type 0} (g : Geometry) (a : Answer X) (o : Geometry → X → Op ObjectWriter) (fused : Bool) (u : ℕ) (ns s : List ℕ) where
  pub given_beside : {x : X} (f : Fuse) (r : Stored) (y : ObjectWriter) (after : List ℕ) (n v : ℕ) (w : List ℕ)
      → a ≡ done x → f ≡ fuse_of fused u → ended_by r y after ≡ run f (o g x) s → n ≡ stored_number r → v ≡ units_after r u
      → w ≡ unless_stored r ns (writer_numbers y)
      → crossed_with n v after w ≡ crossing_with writer_numbers u ns (run (fuse_of fused u) (given g a o) s)
  given_beside f (Ok k) y after = given_handed g a o writer_numbers fused u ns s f (Ok (y, k)) after
  given_beside f (Err z) y after = given_handed g a o writer_numbers fused u ns s f (Err z) after

-- ---- and of one that came in

admit_uncut : (g : Geometry) (room n : ℕ) → n < 8 → admit g room n < 8
unfolding admit
admit_uncut g room n h = go (geometry_ok g) (eqb (g.size * g.count) room)
  where
    go : (x y : Bool) → pick x (pick y n 7) 6 < 8
    go true true = h
    go true false = omega arith
    go false y = omega arith

module _ (g : Geometry) (a : Answer ObjectWriter) (o : Geometry → ObjectWriter → Op ObjectWriter) (fused : Bool) (u : ℕ) (ns s : List ℕ) where
  pub given_spent : {x : ObjectWriter} (f : Fuse) (r : Stored) (y : ObjectWriter) (after : List ℕ) (n v : ℕ) (w : List ℕ)
      → a ≡ done x → f ≡ fuse_of fused u → ended_by r y after ≡ run f (o g x) s → n ≡ stored_number r → v ≡ units_after r u
      → w ≡ left_by (stored_number r) (unless_stored r ns (writer_numbers y))
      → crossed_with n v after w ≡ spent_after (crossing_with writer_numbers u ns (run (fuse_of fused u) (given g a o) s))
  unfolding spent_after
  given_spent f r y after n v w d ef er en ev ew =
      ap (λ (l : List ℕ). crossed_with n v after l) (ew ∙ ap (λ (m : ℕ). left_by m (unless_stored r ns (writer_numbers y))) (sym en))
      ∙ ap spent_after (given_beside g a o fused u ns s f r y after n v (unless_stored r ns (writer_numbers y)) d ef er en ev refl)

  pub none_spent : {m n : ℕ} → ((j : ℕ) → a ≡ refused j → j < 8) → a ≡ refused m → n ≡ admit g (length s) m
      → crossed_with n u s ns ≡ spent_after (crossing_with writer_numbers u ns (run (fuse_of fused u) (given g a o) s))
  unfolding spent_after
  none_spent {m} {n} l d q =
      let j : n < 8 = rw q (admit_uncut g (length s) m (l m d)) in
      let i : left_by n ns ≡ ns = rw (ne_eqb n 8 (λ z. omega arith)) in
      ap (λ (x : List ℕ). crossed_with n u s x) (sym i) ∙ ap spent_after (none_stored_with g a o writer_numbers fused u ns s d q)
