-- A lookup at each cut of the move.
use mathlib.Core.Path.{◌≡◌, refl, sym, ap, ◌∙◌, subst}
use mathlib.Core.Logic.{◌⊎◌, inl, inr, ◌≢◌}
use mathlib.Core.Bool.{Bool, true, false}
use mathlib.Core.List.{List}
use Prim.Native.Nat.{ℕ, suc, ◌+◌, ◌≤◌, ◌<◌, ◌-◌}
use native.Mathlib.Omega.{arith}
use lib.ListN.{length}
use lib.Dec.{leb, eqb}
use borrow.Author.Tests.{eqb-true, eqb-false, le-leb, lt-leb}
use Rattle.medium.specs.declared.geometry.Geometry.{Geometry}
use Rattle.medium.specs.declared.fuse.Fuse.TheVariants.{Units}
use Rattle.medium.specs.Granularity.{pick, block_header}
use Rattle.medium.specs.Operation.{done, run}
use Rattle.objects.specs.declared.types.ObjectType.{ObjectType}
use Rattle.objects.specs.declared.location.ObjectLocation.{ObjectLocation}
use Rattle.objects.specs.declared.header.ObjectHeader.{ObjectHeader}
use Rattle.objects.specs.Listing.{placed, Stop, list_from, listing, Visit}
use Rattle.blocks.specs.Scan.{unless_broken}
use Rattle.moving.specs.Moving.{move_object}
use Rattle.storage.specs.Lookup.{lookup}
use Rattle.powercut.specs.Demand.{Whole, payload_in, copy_of, Movable, units_to, Framed, Survives, Demand}
use Rattle.powercut.specs.Listed.{Listable}
use Rattle.powercut.specs.Again.{left_by}
use Rattle.powercut.specs.Scans.{stop_after, Ended}
use Rattle.fresh.specs.Scans.{Untyped, NoneFinished, CutShows}
use Rattle.byname.specs.Street.{Street, Looked, FoundAtEveryCut}
use Rattle.medium.proofs.Runs.{leb_is}
use Rattle.shown.proofs.Walk.{Walked}
use Rattle.powercut.proofs.Survive.{told, demand}
use Rattle.powercut.proofs.Scans.{room_is, end_is, n_is, as_new}
use Rattle.fresh.proofs.Scans.{cut_shows}
use Rattle.byname.proofs.Search.{Quiet, refused-in, NotIt}
use Rattle.byname.proofs.Left.{fine, not-broken, quiet-else, found-original, found-copy, none-there, dst-end, walk-dst, dst-no, found-moved}
use Rattle.storage.specs.Order.{finished_in}

module _ (g : Geometry) (path : List ℕ) (hash : ℕ) (h : ObjectHeader) (to : ObjectLocation) (room : ℕ) (t : ObjectType) (img : List ℕ)
    (v : Movable g h to room t img) (w : Listable g h to room img) (st : Street g path hash h to img room w) where
  abbrev src : ℕ
  src = h.location.block

  abbrev dst : ℕ
  dst = to.block

  abbrev pay : List ℕ
  pay = payload_in g h img

  abbrev left : ℕ → List ℕ
  left k = left_by g h to img k

  -- the cut between the marks
  abbrev mid : ℕ
  mid = units_to g h + 1

  -- what the copy's block listed before
  abbrev old : List Visit
  old = (listing g dst img).visits

  -- the steps that a listing has left behind so many visits
  abbrev fuel : List Visit → ℕ
  fuel vs = suc (g.size - length vs - 1)

  pub survives : (k : ℕ) → Survives g h to t pay img k (run (Units k) (move_object g h to) img)
  unfolding Demand
  survives k = (demand g h to room t img v).1 k

  pub frame : (k : ℕ) → Framed g h to img (left k)
  frame k = (survives k).framed

  -- before the mark nothing finished stands at the copy's place
  pub none_yet : Untyped pay → (k n : ℕ) → k ≤ units_to g h → NoneFinished (list_from n g (placed dst to.offset) (left k)).visits
  unfolding CutShows
  none_yet x k n c =
      let e = n_is g h to room t img v w in
      subst (λ (y : List ℕ). NoneFinished (list_from n g (placed dst to.offset) y).visits) (sym (as_new g h to room t img v w k (omega (arith, e))))
      (cut_shows g to t pay img (room_is g h to room t img v w) (end_is g h to room t img v w) x k n (omega (arith, e)))

  -- the copy's block is another: the walk to the copy is as it was, and meets nothing that matches
  pub to_copy : (k : ℕ) → src ≢ dst → Walked g dst (left k) (block_header g.granularity) old to.offset
  to_copy k ne = walk-dst g path hash h to room t img v w st (left k) (frame k) ne

  pub none_to_copy : (k : ℕ) → src ≢ dst → NotIt g path hash (left k) (finished_in old)
  none_to_copy k ne = dst-no g path hash h to room t img v w st (left k) (frame k) ne

  quiet_before : (k b : ℕ) → b < src → b ≢ dst → Quiet g path hash (left k) b
  quiet_before k b lt nd = quiet-else g path hash h to room t img v w st (left k) (frame k) b (omega (arith, (told g h to room t img v).block)) (λ e. omega arith) nd

  looked : Looked g path hash h to img
  looked =
      record {
        before_mark = λ k c le. found-original g path hash h to room t img v w st (left k) (frame k) ((survives k).before_mark c).0 (λ b lt. quiet_before k b lt (λ e. omega arith));
        before_mark_listed = λ x k c lt s. found-original g path hash h to room t img v w st (left k) (frame k) ((survives k).before_mark c).0 (λ b d. listed-before x k c lt s b d (eqb b dst) refl);
        before_mark_broken = λ x k n c lt s.
            let ne : src ≢ dst = λ e. omega arith in
            refused-in g path hash (left k) (fine g path hash h to room t img v w st (left k) (frame k)) dst v.block (λ b d. quiet_before k b (omega arith) (λ e. omega arith)) n
            (none-there g path hash h to room t img v w st (left k) (frame k) old (to_copy k ne) (none_to_copy k ne) (none_yet x k (fuel old) c))
            (dst-end g path hash h to room t img v w st (left k) (frame k) old (to_copy k ne) (none_to_copy k ne) ∙ ap (λ (y : Stop). unless_broken y tt) s);
        between_marks = between (leb_is src dst);
        after_marks = λ k c. found-moved g path hash h to room t img v w st (left k) (frame k) ((survives k).after_marks c).0 ((survives k).after_marks c).1;
      }
    where
      listed-before : Untyped pay → (k : ℕ) → k ≤ units_to g h → dst < src → Ended (stop_after g h to img k) → (b : ℕ) → b < src → (c : Bool) → eqb b dst ≡ c → Quiet g path hash (left k) b
      listed-before x k c lt s b d true e =
          let ne : src ≢ dst = λ e. omega arith in
          subst (Quiet g path hash (left k)) (sym (eqb-true b dst e))
          (record {
            none = none-there g path hash h to room t img v w st (left k) (frame k) old (to_copy k ne) (none_to_copy k ne) (none_yet x k (fuel old) c);
            ends = dst-end g path hash h to room t img v w st (left k) (frame k) old (to_copy k ne) (none_to_copy k ne) ∙ not-broken g path hash h to room t img v w st (left k) (frame k) (listing g dst (left k)).stop s;
          })
      listed-before x k c lt s b d false e = quiet_before k b d (eqb-false b dst e)

      both : Whole g h t pay (left mid) × Whole g (copy_of g h to) t pay (left mid)
      both = (survives mid).between_marks refl

      between : (src ≤ dst) ⊎ (dst < src) → lookup g path hash (left mid) ≡ done (pick (leb src dst) h.location to)
      between (inl le) = found-original g path hash h to room t img v w st (left mid) (frame mid) both.0 (λ b lt. quiet_before mid b lt (λ e. omega arith)) ∙ ap (λ (c : Bool). done (pick c h.location to)) (sym (le-leb src dst le))
      between (inr lt) =
          let ne : src ≢ dst = λ e. omega arith in
          found-copy g path hash h to room t img v w st (left mid) (frame mid) old (to_copy mid ne) (none_to_copy mid ne) both.1 (λ b d. quiet_before mid b (omega arith) (λ e. omega arith))
          ∙ ap (λ (c : Bool). done (pick c h.location to)) (sym (lt-leb src dst lt))

pub found_at_every_cut : FoundAtEveryCut
unfolding FoundAtEveryCut
found_at_every_cut g path hash h to room t img v w st = looked g path hash h to room t img v w st
