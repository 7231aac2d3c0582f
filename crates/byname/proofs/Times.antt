-- How often the names iterator gives the street, at each cut of the move.
use mathlib.Core.Path.{◌≡◌, refl, sym, ap, ap₂, ◌∙◌, subst}
use mathlib.Core.Logic.{◌⊎◌, inl, inr, ◌≢◌}
use mathlib.Core.Bool.{Bool, true, false}
use mathlib.Core.List.{List, [], ◌∷◌, ◌++◌, append-nil}
use Prim.Native.Nat.{ℕ, zero, suc, ◌+◌, ◌*◌, ◌≤◌, ◌<◌, ◌-◌}
use native.Mathlib.Omega.{arith}
use lib.ListN.{length, get_or}
use lib.Dec.{eqb}
use borrow.Author.Tests.{eqb-true, eqb-false}
use Rattle.medium.specs.declared.geometry.Geometry.{Geometry}
use Rattle.medium.specs.Granularity.{pick, width_of, align_of, delete_at, header, block_header}
use Rattle.medium.specs.Geometry.{check_of, address}
use Rattle.medium.specs.Operation.{done, run}
use Rattle.objects.specs.declared.types.ObjectType.{ObjectType}
use Rattle.objects.specs.declared.location.ObjectLocation.{ObjectLocation}
use Rattle.objects.specs.declared.header.ObjectHeader.{ObjectHeader}
use Rattle.objects.specs.Info.{none, info_at, total_of, span_of}
use Rattle.objects.specs.Listing.{placed, Visit, Listing, visited, list_from, listing}
use Rattle.storage.specs.Order.{Tour, is_finished, finished_in}
use Rattle.storage.specs.Laws.{Entry, entries}
use Rattle.powercut.specs.Demand.{Whole, address_of, payload_in, copy_of, Movable, units_to, Framed, Survives}
use Rattle.powercut.specs.Listed.{Listable}
use Rattle.powercut.specs.Again.{left_by, gone_of}
use Rattle.fresh.specs.Scans.{Untyped, NoneFinished}
use Rattle.byname.specs.Street.{Others, Street, times_listed, Times, TwiceBetween}
use Rattle.medium.proofs.Bytes.{Off}
use Rattle.medium.proofs.Frame.{other_block}
use Rattle.medium.proofs.Runs.{leb_is}
use Rattle.shown.proofs.Agreeing.{list_agree}
use Rattle.shown.proofs.Walk.{place, visit, span_at, Walked, Reached}
use Rattle.shown.proofs.Steps.{at_end_lem, at_object, at-free}
use Rattle.medium.proofs.Checks.{fine_of_check}
use Rattle.medium.proofs.Places.{laid}
use Rattle.powercut.proofs.Ran.{Ready}
use Rattle.powercut.proofs.Survive.{copy_size, told, ready}
use Rattle.fresh.proofs.Scans.{free_info}
use Rattle.byname.proofs.Counted.{times, times_append, times_none, times_one, in_block, listed-once, listed-twice}
use Rattle.storage.proofs.Lists.{finished_append}
use Rattle.byname.proofs.Search.{block_tour, listed_block}
use Rattle.byname.proofs.Kept.{whole_img}
use Rattle.byname.proofs.Left.{no_finished, at_original, behind_original, finished_h, fine, mark_in, whole_in, list-no, quiet-else, kind-src, before-no, src-visits, named-whole, dst-room, dst-objects, none-there, dst-no, gone_span, agree_after, between-no, whole-walk, quiet-src, through-no}
use Rattle.byname.proofs.Cut.{survives, frame, none_yet, to_copy, none_to_copy}
use Rattle.medium.specs.declared.fuse.Fuse.TheVariants.{Units}
use Rattle.moving.specs.Moving.{move_object}

module _ (g : Geometry) (path : List ℕ) (hash : ℕ) (h : ObjectHeader) (to : ObjectLocation) (room : ℕ) (t : ObjectType) (img : List ℕ)
    (v : Movable g h to room t img) (w : Listable g h to room img) (st : Street g path hash h to img room w) where
  abbrev src : ℕ
  src = h.location.block

  abbrev off : ℕ
  off = h.location.offset

  abbrev dst : ℕ
  dst = to.block

  abbrev start : ℕ
  start = block_header g.granularity

  abbrev sp : ℕ
  sp = span_of g.granularity g.s h

  abbrev p : ℕ
  p = address_of g h.location

  abbrev q : ℕ
  q = address_of g to

  abbrev pay : List ℕ
  pay = payload_in g h img

  abbrev left : ℕ → List ℕ
  left k = left_by g h to img k

  -- the cut between the marks
  abbrev mid : ℕ
  mid = units_to g h + 1

  -- what the copy's block listed before
  abbrev old : List Visit
  old = (listing g dst img).visits

  -- the steps that a listing has left behind so many visits
  abbrev fuel : List Visit → ℕ
  fuel vs = suc (g.size - length vs - 1)

  abbrev front : List Visit
  front = w.listed.before

  abbrev reach : Reached g src g.size img start front w.listed.after (visit g src off h)
  reach = at_original g path hash h to room t img v w st

  abbrev behind : List Visit
  behind = (list_from reach.left g (placed src (off + sp)) img).visits

  -- in one block: the walk to the copy, with the original as it reads then
  abbrev through : ObjectHeader → List Visit
  through o = front ++ (visit g src off o ∷ behind)

  abbrev kept : (k : ℕ) → Framed g h to img (left k)
  kept k = frame g path hash h to room t img v w st k

  abbrev cut : (k : ℕ) → Survives g h to t pay img k (run (Units k) (move_object g h to) img)
  cut k = survives g path hash h to room t img v w st k

  -- ---- how many there are in each of the two blocks of an image that the move may leave

  module _ (m : List ℕ) (fr : Framed g h to img m) where
    copy_span : span_at g dst (copy_of g h to) ≡ sp
    unfolding total_of
    copy_span =
        let r : Ready g h to t (payload_in g h img) img = ready g h to room t img v in
        ap (λ (n : ℕ). align_of (width_of g.granularity) (header g.granularity g.s + n)) (copy_size g h to t pay img r ∙ sym (whole_img g h to room t img v).size)

    -- behind the copy is nothing
    behind_free : (x : ℕ) → sp ≤ x → to.offset + x + header g.granularity g.s < g.size → info_at g (place g dst (to.offset + x)) m ≡ done none
    behind_free x a b =
        let ad : address g dst (to.offset + x) ≡ q + x = omega arith in
        let l = laid g.granularity g.s 0 (fine_of_check g (length img) (check_of g (length img)) refl v.fine).sound.s_most in
        free_info g dst (to.offset + x) m (fine g path hash h to room t img v w st m fr) v.block (omega (arith, l))
        (ap (λ (j : ℕ). get_or m j 0) ad ∙ fr.elsewhere (q + x) (inr (omega arith)) (λ e. mark_off e (eqb src dst) refl) ∙ v.erased x (omega (arith, w.to_end)))
      where
        mark_off : q + x ≡ p + delete_at g.granularity → (c : Bool) → eqb src dst ≡ c → ⊥
        mark_off e true z = omega (arith, (mark_in g path hash h to room t img v w st m fr), behind_original g path hash h to room t img v w st (eqb-true src dst z), ap (λ (k : ℕ). k * g.size) (eqb-true src dst z))
        mark_off e false z = go (other_block g.size src dst (to.offset + x) (eqb-false src dst z) (omega arith))
          where
            go : Off (src * g.size) g.size (dst * g.size + (to.offset + x)) → ⊥
            go (inl k) = omega arith
            go (inr k) = omega (arith, (mark_in g path hash h to room t img v w st m fr), (whole_in g path hash h to room t img v w st m fr))

    none-behind : (n : ℕ) → NoneFinished (list_from n g (placed dst (to.offset + sp)) m).visits
    unfolding list_from
    none-behind zero = tt
    none-behind (suc n) = go (leb_is g.size (to.offset + sp + header g.granularity g.s))
      where
        go : (g.size ≤ to.offset + sp + header g.granularity g.s) ⊎ (to.offset + sp + header g.granularity g.s < g.size) → NoneFinished (list_from (suc n) g (placed dst (to.offset + sp)) m).visits
        go (inl b) = subst (λ (l : Listing). NoneFinished l.visits) (sym (at_end_lem g dst m (fine g path hash h to room t img v w st m fr) n (to.offset + sp) b)) tt
        go (inr b) = subst (λ (l : Listing). NoneFinished l.visits) (sym (at-free g dst m (fine g path hash h to room t img v w st m fr) n (to.offset + sp) b (behind_free sp (omega arith) b))) tt

    -- the visits of the copy's block end with the copy: so many as before it, and one
    module _ (vs : List Visit) (k : Walked g dst m start vs to.offset) (x : Whole g (copy_of g h to) t pay m) where
      copy-last : (block_tour g path hash m dst).objects ≡ finished_in vs ++ copy_of g h to ∷ []
      copy-last =
          let c : is_finished (copy_of g h to) ≡ true = rw v.finished refl in
          let l : list_from (suc (g.size - length vs - 1)) g (placed dst to.offset) m ≡ visited (placed dst to.offset) (copy_of g h to) (list_from (g.size - length vs - 1) g (placed dst (to.offset + sp)) m) =
          at_object g dst m (fine g path hash h to room t img v w st m fr) (g.size - length vs - 1) to.offset (dst-room g path hash h to room t img v w st m fr vs k) (copy_of g h to) x.info
          ∙ ap (λ (y : ℕ). visited (placed dst to.offset) (copy_of g h to) (list_from (g.size - length vs - 1) g (placed dst (to.offset + y)) m)) copy_span in
          dst-objects g path hash h to room t img v w st m fr vs k ∙ ap (λ (y : Listing). finished_in vs ++ finished_in y.visits) l
          ∙ ap₂ (λ (b : Bool) (js : List ObjectHeader). finished_in vs ++ pick b (copy_of g h to ∷ js) js) c (no_finished (list_from (g.size - length vs - 1) g (placed dst (to.offset + sp)) m).visits (none-behind (g.size - length vs - 1)))

      pub counts-copy : in_block g path hash m dst ≡ times g path hash m (finished_in vs) + 1
      counts-copy =
          ap (times g path hash m) copy-last ∙ times_append g path hash m (finished_in vs) (copy_of g h to ∷ [])
          ∙ ap (λ (n : ℕ). times g path hash m (finished_in vs) + n) (times_one g path hash m [] (copy_of g h to) [] tt (named-whole g path hash h to room t img v w st m fr (copy_of g h to) x))

    -- the original in its own block: one, and what stands behind it
    counts-original : Whole g h t pay m → in_block g path hash m src ≡ suc (times g path hash m (finished_in (list_from reach.left g (placed src (off + sp)) m).visits))
    counts-original x =
        ap (times g path hash m)
        (ap (λ (y : Tour). y.objects) (listed_block g path hash m (fine g path hash h to room t img v w st m fr) src (kind-src g path hash h to room t img v w st m fr)) ∙ ap finished_in (src-visits g path hash h to room t img v w st m fr h x.info refl)
        ∙ finished_append front (visit g src off h ∷ (list_from reach.left g (placed src (off + sp)) m).visits)
        ∙ ap (λ (b : Bool). finished_in front ++ pick b (h ∷ finished_in (list_from reach.left g (placed src (off + sp)) m).visits) (finished_in (list_from reach.left g (placed src (off + sp)) m).visits)) (finished_h g path hash h to room t img v w st))
        ∙ times_one g path hash m (finished_in front) h (finished_in (list_from reach.left g (placed src (off + sp)) m).visits) (before-no g path hash h to room t img v w st m fr) (named-whole g path hash h to room t img v w st m fr h x)

    -- in another block than the copy nothing behind it counts
    original-alone : src ≢ dst → Whole g h t pay m → in_block g path hash m src ≡ 1
    original-alone ne x =
        counts-original x
        ∙ ap suc (ap (λ (l : Listing). times g path hash m (finished_in l.visits)) (list_agree reach.left g (placed src (off + sp)) img m (agree_after g path hash h to room t img v w st m fr ne))
        ∙ times_none g path hash m (finished_in behind) (list-no g path hash h to room t img v w st m fr reach.left src (off + sp) (agree_after g path hash h to room t img v w st m fr ne) (subst (Others g path hash h to img) (sym reach.rest) st.after)))

    -- in the same block the walk to the copy has the original alone
    whole-times : src ≡ dst → Whole g h t pay m → times g path hash m (finished_in (through h)) ≡ 1
    whole-times eq x =
        ap (times g path hash m)
        (finished_append front (visit g src off h ∷ behind)
        ∙ ap (λ (b : Bool). finished_in front ++ pick b (h ∷ finished_in behind) (finished_in behind)) (finished_h g path hash h to room t img v w st))
        ∙ times_one g path hash m (finished_in front) h (finished_in behind) (before-no g path hash h to room t img v w st m fr) (named-whole g path hash h to room t img v w st m fr h x)
        ∙ ap suc (times_none g path hash m (finished_in behind) (between-no g path hash h to room t img v w st m fr eq))

    -- a block that the move does not touch has none
    else-none : (b : ℕ) → b < g.count → b ≢ src → b ≢ dst → in_block g path hash m b ≡ 0
    else-none b lt ns nd = times_none g path hash m (block_tour g path hash m b).objects (quiet-else g path hash h to room t img v w st m fr b lt ns nd).none

    dst-times : src ≢ dst → times g path hash m (finished_in old) ≡ 0
    dst-times ne = times_none g path hash m (finished_in old) (dst-no g path hash h to room t img v w st m fr ne)

  -- ---- and in all of them, at each cut

  hs : src < g.count
  hs = (told g h to room t img v).block

  listed_times : Times g path hash h to img
  listed_times =
      record {
        before_mark = λ x k n xs c e. once-before x k n xs c e (eqb src dst) refl;
        between_marks = λ n xs e. twice n xs e (eqb src dst) refl;
        after_marks = λ k n xs c e. once_after k n xs c e (eqb src dst) refl;
      }
    where
      once-before : Untyped pay → (k n : ℕ) (xs : List Entry) → k ≤ units_to g h → entries g n (left k) ≡ done xs → (c : Bool) → eqb src dst ≡ c → times_listed path hash xs ≡ 1
      once-before x k n xs c e true z =
          let eq : src ≡ dst = eqb-true src dst z in
          let wh : Whole g h t pay (left k) = ((cut k).before_mark c).0 in
          listed-once g path hash (left k) n xs e dst 1 v.block
          (ap (times g path hash (left k)) (dst-objects g path hash h to room t img v w st (left k) (kept k) (through h) (whole-walk g path hash h to room t img v w st (left k) (kept k) eq h wh.info refl)
          ∙ ap (λ (y : List ObjectHeader). finished_in (through h) ++ y) (no_finished (list_from (fuel (through h)) g (placed dst to.offset) (left k)).visits (none_yet g path hash h to room t img v w st x k (fuel (through h)) c)) ∙ append-nil (finished_in (through h)))
          ∙ whole-times (left k) (kept k) eq wh)
          (λ b lt nd. else-none (left k) (kept k) b lt (λ y. nd (y ∙ eq)) nd)
      once-before x k n xs c e false z =
          let ne : src ≢ dst = eqb-false src dst z in
          listed-once g path hash (left k) n xs e src 1 hs (original-alone (left k) (kept k) ne ((cut k).before_mark c).0) (λ b lt ns. others b lt ns (eqb b dst) refl)
        where
          others : (b : ℕ) → b < g.count → b ≢ src → (c : Bool) → eqb b dst ≡ c → in_block g path hash (left k) b ≡ 0
          others b lt ns true y =
              let ne : src ≢ dst = eqb-false src dst z in
              ap (in_block g path hash (left k)) (eqb-true b dst y)
              ∙ times_none g path hash (left k) (block_tour g path hash (left k) dst).objects (none-there g path hash h to room t img v w st (left k) (kept k) old (to_copy g path hash h to room t img v w st k ne) (none_to_copy g path hash h to room t img v w st k ne) (none_yet g path hash h to room t img v w st x k (fuel old) c))
          others b lt ns false y = else-none (left k) (kept k) b lt ns (eqb-false b dst y)

      both : Whole g h t pay (left mid) × Whole g (copy_of g h to) t pay (left mid)
      both = (cut mid).between_marks refl

      twice : (n : ℕ) (xs : List Entry) → entries g n (left mid) ≡ done xs → (c : Bool) → eqb src dst ≡ c → times_listed path hash xs ≡ 2
      twice n xs e true z =
          let eq : src ≡ dst = eqb-true src dst z in
          listed-once g path hash (left mid) n xs e dst 2 v.block
          (counts-copy (left mid) (kept mid) (through h) (whole-walk g path hash h to room t img v w st (left mid) (kept mid) eq h both.0.info refl) both.1
          ∙ ap (λ (j : ℕ). j + 1) (whole-times (left mid) (kept mid) eq both.0))
          (λ b lt nd. else-none (left mid) (kept mid) b lt (λ y. nd (y ∙ eq)) nd)
      twice n xs e false z = go (leb_is src dst)
        where
          ne : src ≢ dst
          ne = eqb-false src dst z

          one-src : in_block g path hash (left mid) src ≡ 1
          one-src = original-alone (left mid) (kept mid) ne both.0

          one-dst : in_block g path hash (left mid) dst ≡ 1
          one-dst =
              counts-copy (left mid) (kept mid) old (to_copy g path hash h to room t img v w st mid ne) both.1
              ∙ ap (λ (j : ℕ). j + 1) (dst-times (left mid) (kept mid) ne)

          go : (src ≤ dst) ⊎ (dst < src) → times_listed path hash xs ≡ 2
          go (inl le) = listed-twice g path hash (left mid) n xs e src dst (strict le ne) v.block one-src one-dst (λ b lt a c. else-none (left mid) (kept mid) b lt a c)
            where
              strict : src ≤ dst → src ≢ dst → src < dst
              strict l n = omega arith
          go (inr lt) = listed-twice g path hash (left mid) n xs e dst src lt hs one-dst one-src (λ b l a c. else-none (left mid) (kept mid) b l c a)

      once_after : (k n : ℕ) (xs : List Entry) → units_to g h + 2 ≤ k → entries g n (left k) ≡ done xs → (c : Bool) → eqb src dst ≡ c → times_listed path hash xs ≡ 1
      once_after k n xs c e true z =
          let eq : src ≡ dst = eqb-true src dst z in
          listed-once g path hash (left k) n xs e dst 1 v.block
          (counts-copy (left k) (kept k) (through (gone_of h t)) (whole-walk g path hash h to room t img v w st (left k) (kept k) eq (gone_of h t) ((cut k).after_marks c).0.info (gone_span g path hash h to room t img v w st (left k) (kept k))) ((cut k).after_marks c).1
          ∙ ap (λ (j : ℕ). j + 1) (times_none g path hash (left k) (finished_in (through (gone_of h t))) (through-no g path hash h to room t img v w st (left k) (kept k) ((cut k).after_marks c).0 eq)))
          (λ b lt nd. else-none (left k) (kept k) b lt (λ y. nd (y ∙ eq)) nd)
      once_after k n xs c e false z =
          let ne : src ≢ dst = eqb-false src dst z in
          listed-once g path hash (left k) n xs e dst 1 v.block
          (counts-copy (left k) (kept k) old (to_copy g path hash h to room t img v w st k ne) ((cut k).after_marks c).1 ∙ ap (λ (j : ℕ). j + 1) (dst-times (left k) (kept k) ne))
          (λ b lt nd. others b lt nd (eqb b src) refl)
        where
          others : (b : ℕ) → b < g.count → b ≢ dst → (d : Bool) → eqb b src ≡ d → in_block g path hash (left k) b ≡ 0
          others b lt nd true y =
              ap (in_block g path hash (left k)) (eqb-true b src y)
              ∙ times_none g path hash (left k) (block_tour g path hash (left k) src).objects (quiet-src g path hash h to room t img v w st (left k) (kept k) ((cut k).after_marks c).0 (eqb-false src dst z)).none
          others b lt nd false y = else-none (left k) (kept k) b lt (eqb-false b src y) nd

pub twice_between : TwiceBetween
unfolding TwiceBetween
twice_between g path hash h to room t img v w st = listed_times g path hash h to room t img v w st
