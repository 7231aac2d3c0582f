-- At which cuts of a move the destination's block is listed to its end. Up to the finish mark the copy is a new object at the free end; after the
-- delete mark the original reads deleted, and is stepped over as before.
use mathlib.Core.Path.{◌≡◌, refl, sym, ap, ◌∙◌, subst}
use mathlib.Core.Logic.{◌⊎◌, inl, inr, ◌≢◌}
use mathlib.Core.Bool.{Bool, true, false}
use mathlib.Core.List.{List, ◌∷◌, ◌++◌}
use Prim.Native.Nat.{ℕ, suc, ◌+◌, ◌-◌, ◌*◌, ◌≤◌, ◌<◌}
use native.Mathlib.Omega.{arith}
use lib.ListN.{length, get_or}
use lib.Dec.{eqb}
use borrow.Author.Tests.{eqb-true, eqb-false}
use Rattle.medium.specs.declared.granularity.Granularity.{Granularity}
use Rattle.medium.specs.declared.geometry.Geometry.{Geometry}
use Rattle.medium.specs.declared.fuse.Fuse.TheVariants.{Units}
use Rattle.medium.specs.Granularity.{width_of, units_in, delete_at, header, block_header}
use Rattle.medium.specs.Geometry.{check_of, address}
use Rattle.medium.specs.Units.{FlashUnit}
use Rattle.medium.specs.Operation.{apply, done, run}
use Rattle.objects.specs.declared.types.ObjectType.{ObjectType}
use Rattle.objects.specs.declared.location.ObjectLocation.{ObjectLocation}
use Rattle.objects.specs.declared.header.ObjectHeader.{ObjectHeader}
use Rattle.objects.specs.Header.{payload_of}
use Rattle.objects.specs.Info.{found, none, info_at, total_of, span_of}
use Rattle.objects.specs.Listing.{placed, Visit, list_from, listing}
use Rattle.moving.specs.Moving.{move_object}
use Rattle.fresh.specs.Units.{span}
use Rattle.fresh.specs.Fresh.{after, Room}
use Rattle.fresh.specs.Scans.{FreeEnd}
use Rattle.fresh.specs.Scans as fresh
use Rattle.powercut.specs.Demand.{Whole, Gone, address_of, payload_in, copy_of, Movable, units_to, Framed, Survives, Demand}
use Rattle.powercut.specs.Listed.{Listable}
use Rattle.powercut.specs.Again.{left_by, gone_of}
use Rattle.powercut.specs.Scans.{stop_after, Ended, payload_units, Scanned, Scans}
use Rattle.medium.proofs.Bytes.{Off}
use Rattle.medium.proofs.Frame.{other_block}
use Rattle.medium.proofs.Places.{Laid}
use Rattle.shown.proofs.Agreeing.{agree_of_lem}
use Rattle.shown.proofs.Walk.{place, visit, span_at, span_least, Walked, walk-le, walk_join, Reached, reached, ended, walk_same}
use Rattle.shown.proofs.Steps.{stop_behind}
use Rattle.fresh.proofs.Fresh.{laid_out}
use Rattle.fresh.proofs.Scans.{free_info, fits, over_it, walked, finished_span}
use Rattle.fresh.proofs.Scans as cut
use Rattle.powercut.proofs.Ran.{Ready}
use Rattle.powercut.proofs.Survive.{N, cut_copied, copy_is, span_is, units_are, apart_plain, ready, room_for, demand}
use Rattle.powercut.proofs.Again.{left_is}

module _ (g : Geometry) (h : ObjectHeader) (to : ObjectLocation) (room : ℕ) (t : ObjectType) (img : List ℕ) (v : Movable g h to room t img) (w : Listable g h to room img) where
  abbrev gr : Granularity
  gr = g.granularity

  abbrev H : ℕ
  H = header g.granularity g.s

  abbrev pay : List ℕ
  pay = payload_in g h img

  abbrev p : ℕ
  p = address_of g h.location

  abbrev q : ℕ
  q = address_of g to

  abbrev dst : ℕ
  dst = to.block

  abbrev start : ℕ
  start = block_header g.granularity

  abbrev r : Ready g h to t (payload_in g h img) img
  r = ready g h to room t img v

  -- ---- the copy is a new object at the free end of its block

  pub room_is : Room g to (payload_in g h img) img
  room_is = room_for g h to room t img v

  pub end_is : FreeEnd g to img
  end_is = record { last = w.last; stop = w.stop; erased = λ i c. v.erased i (omega (arith, w.to_end)) }

  ld : Laid g.granularity g.s (length (payload_in g h img))
  ld = laid_out g to pay img room_is

  in_block : to.offset + H < g.size
  in_block = fits g to t pay img room_is end_is

  pub n_is : units_to g h ≡ N g h to t pay img r
  n_is = units_are g h to t pay img r

  pub p_is : payload_units g h ≡ units_in (width_of gr) (length pay)
  p_is = ap (units_in (width_of gr)) r.payload

  -- up to the finish mark a cut leaves what a cut of the new object leaves
  pub as_new : (k : ℕ) → k ≤ N g h to t pay img r + 1 → left_by g h to img k ≡ after g to t pay img k
  as_new k c = left_is g h to t pay img r k ∙ ap (λ (u : List FlashUnit). apply u img) (cut_copied g h to t pay img r k c)

  stop_new : (k : ℕ) → k ≤ N g h to t pay img r + 1 → stop_after g h to img k ≡ (listing g dst (after g to t pay img k)).stop
  stop_new k c = ap (λ (m : List ℕ). (listing g dst m).stop) (as_new k c)

  ended_new : (k : ℕ) → k ≤ N g h to t pay img r + 1 → Ended (listing g dst (after g to t pay img k)).stop → Ended (stop_after g h to img k)
  ended_new k c e = subst Ended (sym (stop_new k c)) e

  info_new : (k : ℕ) (o : ObjectHeader) → k ≤ N g h to t pay img r + 1 → info_at g to (left_by g h to img k) ≡ done (found o) → info_at g to (after g to t pay img k) ≡ done (found o)
  info_new k o c i = ap (info_at g to) (sym (as_new k c)) ∙ i

  new_scanned : fresh.CutListed g to t (payload_in g h img) img
  unfolding fresh.CutListings
  new_scanned = cut.cut_listings g to t pay img room_is end_is

  -- ---- after the delete mark: the original reads deleted, and is stepped over as before

  abbrev src : ℕ
  src = h.location.block

  abbrev off : ℕ
  off = h.location.offset

  abbrev before_it : List Visit
  before_it = (listing g to.block img).visits

  copy_span : span g.granularity g.s (length pay) ≤ span_at g dst (copy_of g h to)
  copy_span = subst (λ (x : ObjectHeader). span g.granularity g.s (length pay) ≤ span_at g dst x) (copy_is g h to t pay img r) (finished_span g to t pay img room_is end_is)

  near : H + payload_of g.s h ≤ span_at g src h
  near = (span_least g src img v.fine h).0

  mark_in : delete_at gr < H
  mark_in = omega (arith, ld)

  whole_in : off + (H + payload_of g.s h) ≤ g.size
  unfolding total_of
  whole_in = v.whole

  -- the mark lies off what is behind the destination
  mark_off : (x : ℕ) → x < room → q + x ≢ p + delete_at gr
  mark_off x c e = go (apart_plain g h to room t img v)
    where
      go : (p + (H + payload_of g.s h) ≤ q) ⊎ (q + room ≤ p) → ⊥
      go (inl a) = omega (arith, mark_in)
      go (inr a) = omega arith

  module _ (m : List ℕ) (f : Framed g h to img m) (gone : Gone g h t m) (copy : Whole g (copy_of g h to) t pay m) where
    fine_moved : check_of g (length m) ≡ 0
    fine_moved = ap (check_of g) f.long ∙ v.fine

    behind_moved : (x : ℕ) → span_of gr g.s h ≤ x → to.offset + x + H < g.size → info_at g (place g dst (to.offset + x)) m ≡ done none
    behind_moved x a b =
        let ad : address g dst (to.offset + x) ≡ q + x = omega arith in
        free_info g dst (to.offset + x) m fine_moved v.block (omega (arith, ld))
        (ap (λ (j : ℕ). get_or m j 0) ad ∙ f.elsewhere (q + x) (inr (omega arith)) (mark_off x (omega (arith, w.to_end))) ∙ v.erased x (omega (arith, w.to_end)))

    -- a walk to the destination, and the copy behind it
    ends_by : (vs : List Visit) → Walked g dst m start vs to.offset → Ended (listing g dst m).stop
    unfolding listing
    ends_by vs k =
        let n : start + length vs ≤ to.offset = walk-le g dst m fine_moved vs start to.offset k in
        let u : g.size - length vs ≡ suc (suc (g.size - length vs - 2)) = omega (arith, n, in_block, ld) in
        subst Ended
        (sym (stop_behind g dst m fine_moved vs start to.offset g.size k (omega (arith, n, in_block)) ∙ ap (λ (i : ℕ). (list_from i g (placed dst to.offset) m).stop) u))
        (over_it g to t pay img room_is end_is m fine_moved (g.size - length vs - 2) (copy_of g h to) copy.info (λ b. behind_moved (span_at g dst (copy_of g h to)) span-copy b))
      where
        span-copy : span_of gr g.s h ≤ span_at g dst (copy_of g h to)
        span-copy = subst (λ (n : ℕ). n ≤ span_at g dst (copy_of g h to)) (sym (span_is g h to t pay img r)) copy_span

    -- the original in another block
    walk-apart : src ≢ dst → Walked g dst m start before_it to.offset
    walk-apart ne =
        walk_same g dst img m v.fine before_it start to.offset (walked g to t pay img room_is end_is)
        (agree_of_lem g dst start to.offset img m f.long (λ j a b. f.elsewhere j (inl b) (λ e. aside j a b e (other_block g.size dst src (off + delete_at gr) (λ x. ne (sym x)) (omega (arith, mark_in, whole_in))))))
      where
        aside : (j : ℕ) → address g dst start ≤ j → j < q → j ≡ p + delete_at gr → Off (dst * g.size) g.size (src * g.size + (off + delete_at gr)) → ⊥
        aside j a b e (inl x) = omega arith
        aside j a b e (inr x) = omega (arith, in_block)

    -- or in the same, before the destination
    original_at : Reached g src g.size img start w.listed.before w.listed.after (visit g src off h)
    unfolding listing
    original_at = reached g src g.size img start w.listed.before w.listed.after (visit g src off h) w.listed.is

    abbrev behind : List Visit
    behind = (list_from original_at.left g (placed src (off + span_at g src h)) img).visits

    gone_span : span_at g src (gone_of h t) ≡ span_at g src h
    unfolding total_of payload_of
    gone_span = refl

    walk-within : src ≡ dst → Walked g src m start (w.listed.before ++ (visit g src off (gone_of h t) ∷ behind)) to.offset
    unfolding listing
    walk-within e =
        let k : Walked g src img (off + span_at g src h) behind to.offset =
        ended g src original_at.left img (off + span_at g src h) to.offset (original_at.stop ∙ ap (λ (b : ℕ). (listing g b img).stop) e ∙ w.stop) (original_at.last ∙ ap (λ (b : ℕ). (listing g b img).last) e ∙ w.last) in
        let n : off + span_at g src h + length behind ≤ to.offset = walk-le g src img v.fine behind (off + span_at g src h) to.offset k in
        let s : src * g.size ≡ dst * g.size = ap (λ (b : ℕ). b * g.size) e in
        walk_join g src m w.listed.before (visit g src off (gone_of h t) ∷ behind) start off to.offset
        (walk_same g src img m v.fine w.listed.before start off original_at.walked (agree_of_lem g src start off img m f.long (λ j a b. f.elsewhere j (inl (omega arith)) (λ x. omega arith)))) (
          refl,
          gone.info,
          original_at.fits,
          subst (λ (x : ℕ). Walked g src m (off + x) behind to.offset) (sym gone_span)
              (walk_same g src img m v.fine behind (off + span_at g src h) to.offset k
              (agree_of_lem g src (off + span_at g src h) to.offset img m f.long (λ j a b. f.elsewhere j (inl (omega arith)) (λ x. omega (arith, mark_in, near))))),
        )

    moved_ends : Ended (listing g dst m).stop
    moved_ends = go (eqb src dst) refl
      where
        go : (c : Bool) → eqb src dst ≡ c → Ended (listing g dst m).stop
        go true e =
            ends_by (w.listed.before ++ (visit g src off (gone_of h t) ∷ behind))
            (subst (λ (b : ℕ). Walked g b m start (w.listed.before ++ (visit g src off (gone_of h t) ∷ behind)) to.offset) (eqb-true src dst e) (walk-within (eqb-true src dst e)))
        go false e = ends_by before_it (walk-apart (eqb-false src dst e))

  moved_all : (k : ℕ) → units_to g h + 2 ≤ k → Ended (stop_after g h to img k)
  unfolding Demand
  moved_all k c =
      let d : Survives g h to t pay img k (run (Units k) (move_object g h to) img) = (demand g h to room t img v).1 k in
      moved_ends (left_by g h to img k) d.framed (d.after_marks c).0 (d.after_marks c).1

  scanned : Scanned g h to img
  scanned =
      record {
        begun = λ k c. ended_new k (omega arith) (new_scanned.begun k c);
        text = λ x second k a b. stop_new k (omega (arith, p_is)) ∙ new_scanned.text x second k a (omega (arith, p_is));
        sized = λ k a b. ended_new k (omega (arith, n_is)) (new_scanned.sized k (omega (arith, n_is)));
        unset = λ x second k o a b i e. stop_new k (omega (arith, n_is)) ∙ new_scanned.unset x second k o a (omega (arith, n_is)) (info_new k o (omega (arith, n_is)) i) e;
        set = λ k o b i ne. ended_new k (omega (arith, n_is)) (new_scanned.set k o (omega (arith, n_is)) (info_new k o (omega (arith, n_is)) i) ne);
        moved = moved_all;
        narrow = λ b k c. ended_new k (omega (arith, n_is)) (new_scanned.narrow b k);
      }

pub scans : Scans
unfolding Scans
scans g h to room t img v w = scanned g h to room t img v w
