-- Laws of the writer's definitions: what a passed test tells, and the tail.
use mathlib.Core.Path.{◌≡◌, refl, sym, ◌∙◌}
use mathlib.Core.Bool.{Bool, true, false, ◌&&◌, false≢true}
use mathlib.Core.List.{List, [], ◌∷◌}
use Prim.Native.Nat.{ℕ, ◌+◌, ◌-◌, ◌≤◌, ◌<◌}
use native.Mathlib.Omega.{arith}
use lib.ListN.{length, take, drop, length-drop}
use lib.Seq.{paste, take_all}
use lib.Dec.{leb, ltb, eqb}
use borrow.Author.Tests.{ltb-true, leb-true, eqb-true, eq-eqb}
use Rattle.medium.specs.declared.geometry.Geometry.{Geometry}
use Rattle.medium.specs.Granularity.{pick, width_of}
use Rattle.medium.specs.Operation.{give}
use mathlib.Core.Logic.{◌⊎◌, inl, inr}
use Rattle.objects.specs.declared.state.ObjectState.{ObjectState}
use Rattle.objects.specs.declared.state.ObjectState.TheVariants as state
use Rattle.objects.specs.Types.{rank_of, rank_in}
use Rattle.medium.proofs.Checks.{Fine, admitted}
use Rattle.writer.specs.declared.writer.ObjectWriter.{ObjectWriter}
use Rattle.writer.specs.Writer.{no_tail, data_at, possible, sound_of, may_write, tail_of, may_finish, deleting}

abbrev pub width : Geometry → ℕ
width g = width_of g.granularity

-- ---- what a test tells

pub record Possible (w : ObjectWriter) (g : Geometry) : Type 0 where
  pub held : w.held < width g
  pub cursor : w.cursor ≤ 65536

two : (a b : Bool) → pick {A = ℕ} (a && b) 0 4 ≡ 0 → (a ≡ true) × (b ≡ true)
two true true e = (refl, refl)
two true false e = absurd (omega arith)
two false b e = absurd (omega arith)

pub possible_is : (w : ObjectWriter) (g : Geometry) (r : ℕ) → r ≡ possible g w → r ≡ 0 → Possible w g
possible_is w g r e z =
    let t = two (ltb w.held (width g)) (leb w.cursor 65536) (sym e ∙ z) in
    record { held = ltb-true _ _ t.0; cursor = leb-true _ _ t.1 }

pub record Sound (w : ObjectWriter) (g : Geometry) (room : ℕ) : Type 0 where
  pub fine : Fine g room
  pub possible : Possible w g

unspent : (s : Bool) (n : ℕ) → pick s 4 n ≡ 0 → n ≡ 0
unspent true n e = absurd (omega arith)
unspent false n e = e

pub sound_is : (w : ObjectWriter) (g : Geometry) (room r : ℕ) → r ≡ sound_of w g room → r ≡ 0 → Sound w g room
unfolding sound_of
sound_is w g room r e z =
    let a = admitted g room (pick w.spent 4 (possible g w)) (sym e ∙ z) in
    record { fine = a.0; possible = possible_is w g (possible g w) refl (unspent w.spent (possible g w) a.1) }

pub record HasRoom (w : ObjectWriter) (g : Geometry) (room n : ℕ) : Type 0 where
  pub sound : Sound w g room
  pub fits : data_at g w + w.held + n ≤ g.size

pub has_room : (w : ObjectWriter) (g : Geometry) (room n r : ℕ) → r ≡ may_write w g room n → r ≡ 0 → HasRoom w g room n
unfolding may_write
has_room w g room n r e z =
    go (eqb (sound_of w g room) 0) refl (eqb (rank_of w.object.state) 1) (leb (data_at g w + w.held) g.size) (leb (data_at g w + w.held + n) g.size) refl (sym e ∙ z)
  where
    go : (a : Bool) → eqb (sound_of w g room) 0 ≡ a → (b c d : Bool) → leb (data_at g w + w.held + n) g.size ≡ d
        → pick {A = ℕ} a (pick b (pick c (pick d 0 5) 9) 4) (sound_of w g room) ≡ 0 → HasRoom w g room n
    go true p true true true q h = record { sound = sound_is w g room (sound_of w g room) refl (eqb-true _ _ p); fits = leb-true _ _ q }
    go true p true true false q h = absurd (omega arith)
    go true p true false d q h = absurd (omega arith)
    go true p false c d q h = absurd (omega arith)
    go false p b c d q h = absurd (false≢true (sym p ∙ eq-eqb _ _ h))

pub finish_is : (w : ObjectWriter) (g : Geometry) (room r : ℕ) → r ≡ may_finish w g room → r ≡ 0 → Sound w g room
unfolding may_finish
finish_is w g room r e z = go (eqb (sound_of w g room) 0) refl (eqb (rank_of w.object.state) 1) (sym e ∙ z)
  where
    go : (a : Bool) → eqb (sound_of w g room) 0 ≡ a → (b : Bool) → pick {A = ℕ} a (pick b 0 4) (sound_of w g room) ≡ 0 → Sound w g room
    go true p b h = sound_is w g room (sound_of w g room) refl (eqb-true _ _ p)
    go false p b h = absurd (false≢true (sym p ∙ eq-eqb _ _ h))

-- where nothing is there, or it is deleted
pub deleting_none : (g : Geometry) (w : ObjectWriter) (st : ObjectState) → (st ≡ state.Free) ⊎ (st ≡ state.Deleted) → deleting g w (rank_in st) ≡ give w
deleting_none g w st (inl e) = rw e
deleting_none g w st (inr e) = rw e

-- ---- the tail

pub tail_pasted : (bs : List ℕ) → length bs ≤ 4 → paste no_tail 0 bs (length bs) ≡ tail_of bs
tail_pasted [] h = refl
tail_pasted (a ∷ []) h = refl
tail_pasted (a ∷ b ∷ []) h = refl
tail_pasted (a ∷ b ∷ c ∷ []) h = refl
tail_pasted (a ∷ b ∷ c ∷ d ∷ []) h = refl
tail_pasted (a ∷ b ∷ c ∷ d ∷ e ∷ bs) h = absurd (omega arith)

pub rest_all : (xs : List ℕ) (n : ℕ) → take (length xs - n) (drop n xs) ≡ drop n xs
rest_all xs n = take_all (length xs - n) (drop n xs) (simp length-drop (omega arith))
