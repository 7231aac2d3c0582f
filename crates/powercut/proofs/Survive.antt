-- The demand, met: what a move stores, cut anywhere, leaves the object whole at one place or the other.
use mathlib.Core.Path.{◌≡◌, refl, sym, ap, ap₂, ◌∙◌, subst}
use mathlib.Core.Logic.{◌⊎◌, inl, inr, ◌≢◌}
use mathlib.Core.List.{List, ◌++◌, append_assoc}
use Prim.Native.Nat.{ℕ, ◌+◌, ◌-◌, ◌≤◌, ◌<◌}
use native.Mathlib.Omega.{arith}
use lib.ListN.{length, take, get_or, length-append}
use lib.Seq.{take-append-le, take_all}
use Rattle.medium.specs.declared.granularity.Granularity.{Granularity}
use Rattle.medium.specs.declared.geometry.Geometry.{Geometry}
use Rattle.medium.specs.declared.fuse.Fuse.{Fuse}
use Rattle.medium.specs.declared.fuse.Fuse.TheVariants.{Absent, Units}
use Rattle.medium.specs.Granularity.{width_of, align_of, finish_at, delete_at, finish_mark, header}
use Rattle.medium.specs.Geometry.{check_of, address}
use Rattle.medium.specs.Units.{FlashUnit}
use Rattle.medium.specs.Operation.{flash, apply, cost, prefix, done, refused, Run, End, cut, run}
use Rattle.medium.specs.Medium.{part}
use Rattle.objects.specs.declared.types.ObjectType.{ObjectType}
use Rattle.objects.specs.declared.state.ObjectDataState.TheVariants.{Untrusted, Valid}
use Rattle.objects.specs.declared.state.CompositeObjectState.TheVariants.{Free, Allocated}
use Rattle.objects.specs.declared.location.ObjectLocation.{ObjectLocation}
use Rattle.objects.specs.declared.header.ObjectHeader.{ObjectHeader}
use Rattle.objects.specs.Header.{payload_of}
use Rattle.objects.specs.Info.{total_of, span_of}
use Rattle.moving.specs.Moving.{move_object}
use Rattle.powercut.specs.Demand.{Whole, Unfinished, Gone, address_of, payload_in, copy_of, Clear, Movable, units_before, units_to, Framed, Survives, Moved, Demand}
use Rattle.medium.proofs.Runs.{prefix_flash, cost_flash, leb_is, leb_yes, leb_no}
use Rattle.medium.proofs.Bytes.{get_d_part, length_part, length-apply}
use Rattle.medium.proofs.Places.{Laid, laid, quad_even}
use Rattle.medium.proofs.Checks.{Fine, within, fine_of_check}
use Rattle.fresh.specs.Units.{span, new_units}
use Rattle.fresh.proofs.Places.{up_to, address_even}
use Rattle.shown.proofs.Reading.{state_seen, Stands, payload_set, Told, header_back, header_of}
use Rattle.shown.proofs.Whole.{whole_of, unfinished-of, gone_of_lem}
use Rattle.powercut.specs.Stores.{mark_units, delete_units, before, move_units, Ordered}
use Rattle.powercut.specs.Call.{Survived}
use Rattle.fresh.proofs.Written.{one_long, length_before, length_new, cut_all, unfinished, stands_new, framed}
use Rattle.fresh.specs.Fresh.{Room}
use Rattle.fresh.proofs.Fresh.{new_of}
use Rattle.powercut.proofs.Crash.{original_before, original_between, original_after, size_after, copy_after, framed_moved}
use Rattle.medium.proofs.Traced.{ran}
use Rattle.powercut.proofs.Ran.{Ready}
use Rattle.powercut.proofs.Modes.{move_ran}

module _ (g : Geometry) (h : ObjectHeader) (to : ObjectLocation) (t : ObjectType) (pay img : List ℕ) (r : Ready g h to t pay img) where
  abbrev gr : Granularity
  gr = g.granularity

  abbrev s : ℕ
  s = g.s

  abbrev p : ℕ
  p = address g h.location.block h.location.offset

  abbrev q : ℕ
  q = address g to.block to.offset

  abbrev pub N : ℕ
  N = units_before g.granularity g.s (length pay)

  abbrev pub us : List FlashUnit
  us = move_units g.granularity g.s t pay p q

  abbrev pub all_copied : List FlashUnit
  all_copied = new_units g.granularity g.s t pay q

  -- ---- how many they are

  length_move : length us ≡ N + 2
  length_move =
      omega (arith, length-append (before gr s t pay q) (mark_units gr q ++ delete_units gr p), length-append (mark_units gr q) (delete_units gr p), length_before gr s t q pay, one_long gr (q + finish_at gr) (finish_mark gr), one_long gr (p + delete_at gr) 0)

  pub as_copied : us ≡ all_copied ++ delete_units gr p
  as_copied = sym (append_assoc (before gr s t pay q) (mark_units gr q) (delete_units gr p))

  -- ---- which units a cut leaves

  pub cut_before : (k : ℕ) → k ≤ N → take k us ≡ take k (before gr s t pay q)
  cut_before k c = take-append-le k (before gr s t pay q) (mark_units gr q ++ delete_units gr p) (omega (arith, length_before gr s t q pay))

  pub cut_copied : (k : ℕ) → k ≤ N + 1 → take k us ≡ take k all_copied
  cut_copied k c = ap (take k) as_copied ∙ take-append-le k all_copied (delete_units gr p) (omega (arith, length_new gr s t q pay))

  pub cut_between_lem : (k : ℕ) → k ≡ N + 1 → take k us ≡ all_copied
  cut_between_lem k c = cut_copied k (omega arith) ∙ cut_all gr s t q pay k (omega arith)

  cut_moved : (k : ℕ) → N + 2 ≤ k → take k us ≡ us
  cut_moved k c = take_all k us (omega (arith, length_move))

  -- ---- how the two places read then

  l : Laid g.granularity g.s (length pay)
  l = laid g.granularity g.s (length pay) r.given.new.width_3

  still : (vs : List FlashUnit) → check_of g (length (apply vs img)) ≡ 0
  still vs = ap (check_of g) (length-apply vs img) ∙ r.fine

  pub copy_is : header_of (Allocated t Valid) (length pay) to ≡ copy_of g h to
  copy_is = ap₂ (λ st n. header_of st n to) (sym r.finished) (sym r.payload)

  -- the copy's size is set
  pub copy_size : payload_of g.s (copy_of g h to) ≡ length pay
  copy_size = payload_set g.s (copy_of g h to) (omega (arith, r.payload, r.given.new.small)) ∙ r.payload

  pub original_whole : (vs : List FlashUnit) → Stands gr s p (Allocated t Valid) h.size pay (apply vs img) → Whole g h t pay (apply vs img)
  original_whole vs st = whole_of g (apply vs img) (still vs) h t pay r.finished r.payload r.block (omega (arith, l, r.in_block)) st

  pub copy_whole : (vs : List FlashUnit) → Stands gr s q (Allocated t Valid) (length pay) pay (apply vs img) → Whole g (copy_of g h to) t pay (apply vs img)
  copy_whole vs st =
      whole_of g (apply vs img) (still vs) (copy_of g h to) t pay r.finished copy_size r.block_to (omega (arith, l, r.in_block_to))
      (subst (λ (n : ℕ). Stands gr s q (Allocated t Valid) n pay (apply vs img)) (sym r.payload) st)

  pub copy_unfinished : (vs : List FlashUnit) → (state_seen gr q (apply vs img) ≡ done Free) ⊎ (state_seen gr q (apply vs img) ≡ done (Allocated t Untrusted)) → Unfinished g to t (apply vs img)
  copy_unfinished vs e = unfinished-of g (apply vs img) (still vs) to t r.block_to (omega (arith, l, r.in_block_to)) e

  original_gone : Gone g h t (apply us img)
  original_gone =
      gone_of_lem g (apply us img) (still us) h t r.block (omega (arith, l, r.in_block))
      (original_after gr s t p q h.size pay img r.given) (size_after gr s t p q h.size pay img r.given)

  -- ---- the frame

  pub span_is : span_of g.granularity g.s h ≡ span g.granularity g.s (length pay)
  unfolding total_of
  span_is = ap (λ (n : ℕ). span g.granularity g.s n) r.payload

  pub units_are : units_to g h ≡ N
  units_are = ap (λ (n : ℕ). units_before g.granularity g.s n) r.payload

  kept : (k j : ℕ) → Clear q (q + span gr s (length pay)) j → j ≢ p + delete_at gr → get_or (apply (take k us) img) j 0 ≡ get_or img j 0
  kept k j c ne = go (leb_is (N + 2) k)
    where
      go : (N + 2 ≤ k) ⊎ (k < N + 2) → get_or (apply (take k us) img) j 0 ≡ get_or img j 0
      go (inl x) = ap (λ (u : List FlashUnit). get_or (apply u img) j 0) (cut_moved k x) ∙ framed_moved gr s t p q h.size pay img r.given j c ne
      go (inr x) = ap (λ (u : List FlashUnit). get_or (apply u img) j 0) (cut_copied k (omega arith)) ∙ framed gr s t q pay img r.given.new k j c

  framed_at : (k : ℕ) → Framed g h to img (apply (take k us) img)
  framed_at k =
      record {
        long = length-apply (take k us) img;
        elsewhere = λ j c ne. kept k j (subst (λ (n : ℕ). Clear (address_of g to) (address_of g to + n) j) span_is c) ne;
      }

  -- ---- the end of a run

  abbrev pub traced : Run flash ObjectHeader
  traced = ran us (copy_of g h to)

  pub move_traced : move_object g h to img ≡ traced
  move_traced = move_ran g h to t pay img r ∙ ap (ran us) copy_is

  survives_by : (k : ℕ) (e : End ObjectHeader) → e.state ≡ apply (take k us) img → (k < N + 2 → (e.answer ≡ refused 8) × (e.fuse ≡ Units 0))
      → (N + 2 ≤ k → (e.answer ≡ done (copy_of g h to)) × (e.fuse ≡ Units (k - (N + 2)))) → Survives g h to t pay img k e
  survives_by k e ei lost moved =
      let at : (u : List FlashUnit) → take k us ≡ u → apply u img ≡ e.state = λ u x. sym (ei ∙ ap (λ (y : List FlashUnit). apply y img) x) in
      record {
        before_mark = λ c. let x : k ≤ N = omega (arith, units_are) in
            subst (λ (m : List ℕ). Whole g h t pay m × Unfinished g to t m) (at (take k (before gr s t pay q)) (cut_before k x))
            (original_whole (take k (before gr s t pay q)) (original_before gr s t p q h.size pay img r.given k), copy_unfinished (take k (before gr s t pay q)) (unfinished gr s t q pay img r.given.new k));
        between_marks = λ c. let x : k ≡ N + 1 = omega (arith, units_are) in
            subst (λ (m : List ℕ). Whole g h t pay m × Whole g (copy_of g h to) t pay m) (at all_copied (cut_between_lem k x))
            (original_whole all_copied (original_between gr s t p q h.size pay img r.given), copy_whole all_copied (stands_new gr s t q pay img r.given.new));
        after_marks = λ c. let x : N + 2 ≤ k = omega (arith, units_are) in
            subst (λ (m : List ℕ). Gone g h t m × Whole g (copy_of g h to) t pay m) (at us (cut_moved k x))
            (original_gone, copy_whole us (copy_after gr s t p q h.size pay img r.given));
        framed = subst (λ (m : List ℕ). Framed g h to img m) (sym ei) (framed_at k);
        lost = λ c. lost (omega (arith, units_are));
        moved = λ c. let x = moved (omega (arith, units_are)) in (x.0, x.1 ∙ ap (λ (n : ℕ). Units (k - (n + 2))) (sym units_are));
      }

  survives : (k : ℕ) → Survives g h to t pay img k (cut {W = flash} (Units k) traced img)
  survives k = go (leb_is (length us) k)
    where
      go : (length us ≤ k) ⊎ (k < length us) → Survives g h to t pay img k (cut {W = flash} (Units k) traced img)
      go (inl c) =
          let x : cost flash us ≤ k = omega (arith, cost_flash us) in
          rw (leb_yes x)
          (survives_by k (record { answer = done (copy_of g h to); fuse = Units (k - cost flash us); state = apply us img }) (ap (λ (u : List FlashUnit). apply u img) (sym (take_all k us c)))
          (λ d. absurd (omega (arith, length_move))) (λ d. (refl, ap (λ (n : ℕ). Units (k - n)) (cost_flash us ∙ length_move))))
      go (inr c) =
          let x : k < cost flash us = omega (arith, cost_flash us) in
          rw (leb_no x)
          (survives_by k (record { answer = refused 8; fuse = Units 0; state = apply (prefix flash k us) img }) (ap (λ (u : List FlashUnit). apply u img) (prefix_flash k us))
          (λ d. (refl, refl)) (λ d. absurd (omega (arith, length_move))))

  moved_all : Moved g h to t pay img (cut {W = flash} Absent traced img)
  moved_all =
      record {
        moved = refl;
        no_fuse = refl;
        original = original_gone;
        copy = copy_whole us (copy_after gr s t p q h.size pay img r.given);
        framed = subst (λ (u : List FlashUnit). Framed g h to img (apply u img)) (take_all (length us) us (omega arith)) (framed_at (length us));
      }

-- ---- what is given, as the proofs take it

module _ (g : Geometry) (h : ObjectHeader) (to : ObjectLocation) (room : ℕ) (t : ObjectType) (img : List ℕ) (v : Movable g h to room t img) where
  abbrev total : ℕ
  total = header g.granularity g.s + payload_of g.s h

  pub fine_is : Fine g (length img)
  fine_is = fine_of_check g (length img) (check_of g (length img)) refl v.fine

  pub told : Told g h.location img h
  told = header_back g h.location img h v.just_read

  whole_is : h.location.offset + total ≤ g.size
  unfolding total_of
  whole_is = v.whole

  in_image : address_of g h.location + total ≤ length img
  in_image = within h.location.block h.location.offset total g.size g.count (length img) told.block whole_is fine_is.whole

  at_payload : address g h.location.block (h.location.offset + header g.granularity g.s) ≡ address_of g h.location + header g.granularity g.s
  at_payload = omega arith

  pub long : length (payload_in g h img) ≡ payload_of g.s h
  long = length_part (address g h.location.block (h.location.offset + header g.granularity g.s)) (payload_of g.s h) img (omega (arith, in_image))

  total_is : header g.granularity g.s + length (payload_in g h img) ≡ total
  total_is = ap (λ (n : ℕ). header g.granularity g.s + n) long

  room_is : span g.granularity g.s (length (payload_in g h img)) ≤ room
  unfolding total_of
  room_is = subst (λ (n : ℕ). align_of (width_of g.granularity) n ≤ room) (sym total_is) v.large

  pub apart_plain : (address_of g h.location + (header g.granularity g.s + payload_of g.s h) ≤ address_of g to) ⊎ (address_of g to + room ≤ address_of g h.location)
  unfolding total_of
  apart_plain = v.apart

  apart_is : (address_of g h.location + span g.granularity g.s (length (payload_in g h img)) ≤ address_of g to)
      ⊎ (address_of g to + span g.granularity g.s (length (payload_in g h img)) ≤ address_of g h.location)
  unfolding total_of
  apart_is = go apart_plain
    where
      go : (address_of g h.location + (header g.granularity g.s + payload_of g.s h) ≤ address_of g to) ⊎ (address_of g to + room ≤ address_of g h.location)
          → (address_of g h.location + span g.granularity g.s (length (payload_in g h img)) ≤ address_of g to)
          ⊎ (address_of g to + span g.granularity g.s (length (payload_in g h img)) ≤ address_of g h.location)
      go (inl c) =
          inl (up_to g.granularity (address_of g h.location) (header g.granularity g.s + length (payload_in g h img)) (address_of g to)
          (address_even g h.location.block h.location.offset fine_is.sound.quad v.aligned) (address_even g to.block to.offset fine_is.sound.quad v.aligned_to)
          (omega (arith, total_is)))
      go (inr c) = inr (omega (arith, room_is))

  payload_bytes : (i : ℕ) → i < length (payload_in g h img) → get_or (payload_in g h img) i 0 < 256
  payload_bytes i c = rw (get_d_part (address g h.location.block (h.location.offset + header g.granularity g.s)) (payload_of g.s h) img i 0 (omega (arith, long))) (v.bytes _)

  -- the copy is a new object at its destination
  pub room_for : Room g to (payload_in g h img) img
  room_for =
      record {
        fine = v.fine;
        bytes = payload_bytes;
        block = v.block;
        in_block = omega (arith, room_is, v.in_block);
        erased = λ i c. v.erased i (omega (arith, room_is));
      }

  pub ready : Ready g h to t (payload_in g h img) img
  ready =
      let in_block : h.location.offset + span g.granularity g.s (length (payload_in g h img)) ≤ g.size =
      up_to g.granularity h.location.offset (header g.granularity g.s + length (payload_in g h img)) g.size v.aligned (quad_even g.granularity g.size fine_is.sound.quad)
      (omega (arith, total_is, whole_is)) in
      let in_block_to : to.offset + span g.granularity g.s (length (payload_in g h img)) ≤ g.size = omega (arith, room_is, v.in_block) in
      record {
        fine = v.fine;
        just_read = v.just_read;
        finished = v.finished;
        payload = sym long;
        block = told.block;
        aligned = v.aligned;
        in_block = in_block;
        block_to = v.block;
        aligned_to = v.aligned_to;
        in_block_to = in_block_to;
        given =
            record {
              new = new_of g to (payload_in g h img) img room_for;
              byte = v.bytes;
              original =
                  record {
                    state = told.state ∙ ap done v.finished;
                    size_is = told.size_is;
                    bytes_are = ap₂ (λ (a n : ℕ). part a n img) (sym at_payload) long;
                  };
              original_fits = within h.location.block h.location.offset (span g.granularity g.s (length (payload_in g h img))) g.size g.count (length img) told.block in_block fine_is.whole;
              apart = apart_is;
            };
        free_mark = v.free_mark;
      }

pub demand : Demand
unfolding Demand run
demand g h to room t img v =
    let r : Ready g h to t (payload_in g h img) img = ready g h to room t img v in
    let e : move_object g h to img ≡ traced g h to t (payload_in g h img) img r = move_traced g h to t (payload_in g h img) img r in (
      subst (λ (x : Run flash ObjectHeader). Moved g h to t (payload_in g h img) img (cut {W = flash} Absent x img)) (sym e) (moved_all g h to t (payload_in g h img) img r),
      λ k. subst (λ (x : Run flash ObjectHeader). Survives g h to t (payload_in g h img) img k (cut {W = flash} (Units k) x img)) (sym e) (survives g h to t (payload_in g h img) img r k),
    )

-- the order of its units
pub ordered : Ordered
unfolding Ordered
ordered g h to room t img v =
    ap (λ (x : Run flash ObjectHeader). x.events) (move_traced g h to t (payload_in g h img) img (ready g h to room t img v))

-- the same of a call, by its contract
pub call_survives : (g : Geometry) (h : ObjectHeader) (to : ObjectLocation) (img : List ℕ) (f : Fuse) (e : End ObjectHeader)
    → e ≡ run f (move_object g h to) img → Survived g h to img f e
unfolding Survived Demand
call_survives g h to img Absent e q room t v = subst (λ (x : End ObjectHeader). Moved g h to t (payload_in g h img) img x) (sym q) (demand g h to room t img v).0
call_survives g h to img (Units k) e q room t v = subst (λ (x : End ObjectHeader). Survives g h to t (payload_in g h img) img k x) (sym q) ((demand g h to room t img v).1 k)
