-- The listing of a block with a whole new object at its free end.
use mathlib.Core.Path.{◌≡◌, refl, sym, ap, ap₂, ◌∙◌}
use mathlib.Core.Logic.{◌⊎◌, inl, inr}
use mathlib.Core.Bool.{Bool}
use mathlib.Core.List.{List, [], ◌∷◌, ◌++◌, append-nil}
use Prim.Native.Nat.{ℕ, suc, ◌+◌, ◌-◌, ◌≤◌, ◌<◌}
use native.Mathlib.Omega.{arith}
use lib.ListN.{length, get_or, length-append}
use lib.Dec.{leb}
use Rattle.medium.specs.declared.geometry.Geometry.{Geometry}
use Rattle.medium.specs.Granularity.{pick, header, block_header}
use Rattle.medium.specs.Geometry.{check_of}
use Rattle.objects.specs.declared.types.ObjectType.{ObjectType}
use Rattle.objects.specs.declared.location.ObjectLocation.{ObjectLocation}
use Rattle.objects.specs.Info.{total_of}
use Rattle.objects.specs.Listing.{placed, Visit, Stop, end, free, Listing, stopped, list_from, listing}
use Rattle.fresh.specs.Units.{address_of, span}
use Rattle.fresh.specs.Fresh.{after, new_header, marks_after, Room}
use Rattle.fresh.specs.Scans.{FreeEnd, grown, Grows, behind_it, GoesOn}
use Rattle.medium.proofs.Runs.{leb_is, leb_yes, leb_no}
use Rattle.shown.proofs.Agreeing.{agree_of_lem}
use Rattle.shown.proofs.Walk.{span_at, Walked, unwalk, walk_join, walk_same}
use Rattle.shown.proofs.Steps.{at_end_lem, at-free, stop_behind, last_behind}
use Rattle.fresh.proofs.Fresh.{laid_out, long, still, size-set, whole_with_mark}
use Rattle.fresh.proofs.Scans.{fits, walked, few, off_object, behind_free}

module _ (g : Geometry) (at : ObjectLocation) (t : ObjectType) (pay img : List ℕ) (v : Room g at pay img) (w : FreeEnd g at img) (k : ℕ) (c : marks_after g pay + 1 ≤ k) where
  abbrev m : List ℕ
  m = after g at t pay img k

  abbrev dst : ℕ
  dst = at.block

  abbrev start : ℕ
  start = block_header g.granularity

  abbrev H : ℕ
  H = header g.granularity g.s

  abbrev behind : ℕ
  behind = at.offset + span g.granularity g.s (length pay)

  fine : check_of g (length m) ≡ 0
  fine = still g at pay img v t k

  abbrev visits : List Visit
  visits = (listing g at.block img).visits ++ (record { offset = at.offset; object = new_header at t pay } ∷ [])

  span_is : span_at g dst (new_header at t pay) ≡ span g.granularity g.s (length pay)
  unfolding total_of
  span_is = ap (λ (n : ℕ). span g.granularity g.s n) (size-set g at pay img v t)

  -- over what was there, and the object
  over : Walked g dst m start visits behind
  over =
      walk_join g dst m (listing g at.block img).visits (record { offset = at.offset; object = new_header at t pay } ∷ []) start at.offset behind
      (walk_same g dst img m v.fine (listing g at.block img).visits start at.offset (walked g at t pay img v w)
      (agree_of_lem g dst start at.offset img m (long g at pay img v t k) (λ j a b. off_object g at t pay img v w k j (inl b))))
      (refl, (whole_with_mark g at pay img v t k c).info, fits g at t pay img v w, ap (λ (n : ℕ). at.offset + n) span_is)

  enough : length visits < g.size
  enough =
      omega (arith, length-append (listing g at.block img).visits (record { offset = at.offset; object = new_header at t pay } ∷ []), few g at t pay img v w, fits g at t pay img v w, laid_out g at pay img v)

  abbrev left : ℕ
  left = g.size - length visits - 1

  fuel : g.size - length visits ≡ suc left
  fuel = omega (arith, enough)

  stops : list_from (g.size - length visits) g (placed dst behind) m ≡ stopped (placed dst behind) (pick (leb g.size (behind + H)) end free)
  stops = ap (λ (n : ℕ). list_from n g (placed dst behind) m) fuel ∙ go (leb_is g.size (behind + H))
    where
      go : (g.size ≤ behind + H) ⊎ (behind + H < g.size) → list_from (suc left) g (placed dst behind) m ≡ stopped (placed dst behind) (pick (leb g.size (behind + H)) end free)
      go (inl b) = at_end_lem g dst m fine left behind b ∙ ap (λ (x : Bool). stopped (placed dst behind) (pick x end free)) (sym (leb_yes b))
      go (inr b) =
          at-free g dst m fine left behind b (behind_free g at t pay img v w k (span g.granularity g.s (length pay)) (omega arith) b)
          ∙ ap (λ (x : Bool). stopped (placed dst behind) (pick x end free)) (sym (leb_no b))

  listing_is : listing g at.block m ≡ grown g at t pay img
  unfolding listing
  listing_is =
      let vs : (list_from g.size g (placed dst start) m).visits ≡ visits =
      unwalk g dst m fine visits start behind g.size over (omega (arith, enough)) ∙ ap (λ (x : Listing). visits ++ x.visits) stops ∙ append-nil visits in
      let la : (list_from g.size g (placed dst start) m).last ≡ behind =
      last_behind g dst m fine visits start behind g.size over (omega (arith, enough)) ∙ ap (λ (x : Listing). x.last) stops in
      let st : (list_from g.size g (placed dst start) m).stop ≡ pick (leb g.size (behind + H)) end free =
      stop_behind g dst m fine visits start behind g.size over (omega (arith, enough)) ∙ ap (λ (x : Listing). x.stop) stops in
      ap₂ (λ (xs : List Visit) (rest : ℕ × Stop). record { visits = xs; last = rest.0; stop = rest.1 }) vs (ap₂ (λ (n : ℕ) (s : Stop). (n, s)) la st)

  free_again : (behind_it g at pay).offset + header g.granularity g.s < g.size → FreeEnd g (behind_it g at pay) (after g at t pay img k)
  free_again b =
      record {
        last = ap (λ (x : Listing). x.last) listing_is;
        stop = ap (λ (x : Listing). x.stop) listing_is ∙ ap (λ (x : Bool). pick x end free) (leb_no b);
        erased = λ i d. let a : address_of g (behind_it g at pay) + i ≡ address_of g at + (span g.granularity g.s (length pay) + i) = omega arith in
            ap (λ (j : ℕ). get_or m j 0) a ∙ off_object g at t pay img v w k (address_of g at + (span g.granularity g.s (length pay) + i)) (inr (omega arith))
            ∙ w.erased (span g.granularity g.s (length pay) + i) (omega arith);
      }

pub grows : Grows
unfolding Grows
grows g at t pay img v w k c = listing_is g at t pay img v w k c

pub goes_on : GoesOn
unfolding GoesOn
goes_on g at t pay img v w k c b = free_again g at t pay img v w k c b
