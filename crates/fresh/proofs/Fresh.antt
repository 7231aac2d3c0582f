-- What a new object's place reads as after any number of its units.
use mathlib.Core.Path.{◌≡◌, refl, sym, ap, ◌∙◌, subst}
use mathlib.Core.Logic.{◌⊎◌}
use mathlib.Core.List.{List}
use Prim.Native.Nat.{ℕ, ◌+◌, ◌≤◌, ◌<◌}
use native.Mathlib.Omega.{arith}
use lib.ListN.{length, take, get_or}
use Rattle.medium.specs.declared.geometry.Geometry.{Geometry}
use Rattle.medium.specs.Geometry.{check_of}
use Rattle.medium.specs.Units.{FlashUnit}
use Rattle.medium.specs.Operation.{apply, done}
use Rattle.objects.specs.declared.types.ObjectType.{ObjectType}
use Rattle.objects.specs.declared.state.ObjectDataState.TheVariants.{Untrusted, Valid}
use Rattle.objects.specs.declared.state.CompositeObjectState.TheVariants.{Free, Allocated}
use Rattle.objects.specs.declared.location.ObjectLocation.{ObjectLocation}
use Rattle.objects.specs.Numbers.{unset_of}
use Rattle.objects.specs.Header.{payload_of}
use Rattle.shown.specs.Whole.{Whole, Unfinished}
use Rattle.fresh.specs.Units.{address_of, span, new_units}
use Rattle.fresh.specs.Fresh.{after, new_header, marks_after, Room, Fresh}
use Rattle.medium.proofs.Bytes.{length-apply}
use Rattle.medium.proofs.Places.{Laid, laid}
use Rattle.medium.proofs.Checks.{Fine, within, fine_of_check}
use Rattle.shown.proofs.Reading.{state_seen, Stands, stands_same, limit_is, unset_is, payload_set}
use Rattle.shown.proofs.Whole.{whole_of, unfinished-of}
use Rattle.fresh.proofs.Written.{New, unfinished, stands_new, framed, cut_before, cut_all}

module _ (g : Geometry) (at : ObjectLocation) (pay img : List ℕ) (v : Room g at pay img) where
  pub fine_is : Fine g (length img)
  fine_is = fine_of_check g (length img) (check_of g (length img)) refl v.fine

  pub laid_out : Laid g.granularity g.s (length pay)
  laid_out = laid g.granularity g.s (length pay) fine_is.sound.s_most

  -- what fits a block is shorter than the unset number
  small : length pay < unset_of g.s
  small =
      omega (arith, laid_out, v.in_block, fine_is.sound.s_holds, limit_is g.s fine_is.sound.s_least fine_is.sound.s_most, unset_is g.s fine_is.sound.s_least fine_is.sound.s_most)

  pub new_of : New g.granularity g.s (address_of g at) pay img
  new_of =
      record {
        some_width = fine_is.sound.s_least;
        width_3 = fine_is.sound.s_most;
        byte = v.bytes;
        small = small;
        fits = within at.block at.offset (span g.granularity g.s (length pay)) g.size g.count (length img) v.block v.in_block fine_is.whole;
        blank = v.erased;
      }

  module _ (t : ObjectType) where
    pub long : (k : ℕ) → length (after g at t pay img k) ≡ length img
    long k = length-apply (take k (new_units g.granularity g.s t pay (address_of g at))) img

    pub still : (k : ℕ) → check_of g (length (after g at t pay img k)) ≡ 0
    still k = ap (check_of g) (long k) ∙ v.fine

    before_mark : (k : ℕ) → k ≤ marks_after g pay → Unfinished g at t (after g at t pay img k)
    before_mark k c =
        unfinished-of g (after g at t pay img k) (still k) at t v.block (omega (arith, laid_out, v.in_block))
        (subst
        (λ (us : List FlashUnit). (state_seen g.granularity (address_of g at) (apply us img) ≡ done Free) ⊎ (state_seen g.granularity (address_of g at) (apply us img) ≡ done (Allocated t Untrusted)))
        (sym (cut_before g.granularity g.s t (address_of g at) pay k c)) (unfinished g.granularity g.s t (address_of g at) pay img new_of k))

    pub size-set : payload_of g.s (new_header at t pay) ≡ length pay
    size-set = payload_set g.s (new_header at t pay) small

    -- an image that has the whole object's bytes
    stays : (k : ℕ) → marks_after g pay + 1 ≤ k → (other : List ℕ) → length other ≡ length img
        → ((j : ℕ) → address_of g at ≤ j → j < address_of g at + span g.granularity g.s (length pay) → get_or other j 0 ≡ get_or (after g at t pay img k) j 0)
        → Whole g (new_header at t pay) t pay other
    stays k c other l same =
        whole_of g other (ap (check_of g) l ∙ v.fine) (new_header at t pay) t pay refl size-set v.block (omega (arith, laid_out, v.in_block))
        (stands_same (after g at t pay img k) other (l ∙ sym (long k)) g.granularity g.s (address_of g at) (Allocated t Valid) (length pay) pay laid_out
        (omega (arith, long k, laid_out, new_of.fits)) (λ j a b. same j a (omega (arith, laid_out)))
        (subst (λ (us : List FlashUnit). Stands g.granularity g.s (address_of g at) (Allocated t Valid) (length pay) pay (apply us img))
        (sym (cut_all g.granularity g.s t (address_of g at) pay k c)) (stands_new g.granularity g.s t (address_of g at) pay img new_of)))

    pub whole_with_mark : (k : ℕ) → marks_after g pay + 1 ≤ k → Whole g (new_header at t pay) t pay (after g at t pay img k)
    whole_with_mark k c = stays k c (after g at t pay img k) (long k) (λ _ _ _. refl)

pub fresh : Fresh
unfolding Fresh
fresh g at t pay img v =
    record {
      before_mark = before_mark g at pay img v t;
      whole_with_mark = whole_with_mark g at pay img v t;
      stays = stays g at pay img v t;
      long = long g at pay img v t;
      elsewhere = framed g.granularity g.s t (address_of g at) pay img (new_of g at pay img v);
    }
