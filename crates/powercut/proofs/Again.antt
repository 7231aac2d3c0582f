-- The same move again after a cut: its steps find what they found the first time, so it stores the same units, and a unit programmed twice is
-- as good as once.
use mathlib.Core.Path.{◌≡◌, refl, sym, ap, ◌∙◌, subst}
use mathlib.Core.Logic.{◌⊎◌, inl, inr}
use mathlib.Core.List.{List, [], ◌∷◌, ◌++◌}
use Prim.Native.Nat.{ℕ, ◌+◌, ◌≤◌, max}
use native.Mathlib.Omega.{arith}
use lib.ListN.{length, take}
use lib.Seq.{take_all}
use Rattle.medium.specs.All.{All}
use Rattle.medium.specs.declared.granularity.Granularity.{Granularity}
use Rattle.medium.specs.declared.geometry.Geometry.{Geometry}
use Rattle.medium.specs.declared.fuse.Fuse.{Fuse}
use Rattle.medium.specs.declared.fuse.Fuse.TheVariants.{Absent, Units}
use Rattle.medium.specs.Granularity.{width_of, delete_at}
use Rattle.medium.specs.Geometry.{check_of}
use Rattle.medium.specs.Units.{FlashUnit}
use Rattle.medium.specs.Operation.{flash, apply, done, refused, End, next, run, ◌>>=◌, ◌>>◌, ask, give}
use Rattle.medium.specs.Medium.{write}
use Rattle.objects.specs.declared.types.ObjectType.{ObjectType}
use Rattle.objects.specs.declared.state.ObjectDataState.TheVariants.{Untrusted, Valid, Deleted}
use Rattle.objects.specs.declared.state.CompositeObjectState.{CompositeObjectState}
use Rattle.objects.specs.declared.state.CompositeObjectState.TheVariants.{Free, Allocated}
use Rattle.objects.specs.declared.location.ObjectLocation.{ObjectLocation}
use Rattle.objects.specs.declared.header.ObjectHeader.{ObjectHeader}
use Rattle.objects.specs.Types.{type_byte}
use Rattle.objects.specs.Header.{state_at, allocatable_of, set_state}
use Rattle.objects.specs.Payload.{payload_at}
use Rattle.writer.specs.declared.writer.ObjectWriter.{ObjectWriter}
use Rattle.writer.specs.Writer.{fresh_of, allocate, finalize}
use Rattle.moving.specs.Moving.{source_at, turns_of, copying, copy_object, move_object}
use Rattle.powercut.specs.Demand.{address_of, payload_in, copy_of, units_to}
use Rattle.powercut.specs.Stores.{mark_units, delete_units, before}
use Rattle.powercut.specs.Again.{left_by, gone_of, Resumes, Completes, Again}
use Rattle.medium.proofs.Runs.{apply-append, run_bind, ask_on, ask_stop}
use Rattle.medium.proofs.Bytes.{All-append, length-apply}
use Rattle.medium.proofs.Places.{laid}
use Rattle.medium.proofs.Programs.{Programs, store_programs, cut_twice}
use Rattle.medium.proofs.Traced.{ran, state_cut, power_cut, same_cut}
use Rattle.shown.proofs.Reading.{state_seen, Stands, state_read}
use Rattle.fresh.proofs.Written.{unfinished, stands_new}
use Rattle.fresh.proofs.Again.{over_begun, over_free, before_programs, mark_programs}
use Rattle.powercut.proofs.Crash.{original_before, original_between}
use Rattle.powercut.proofs.Ran.{Ready, Able, source_of, moved_ran}
use Rattle.powercut.proofs.Modes.{delete_ran}
use Rattle.powercut.proofs.Survive.{N, us, all_copied, as_copied, cut_before, cut_between_lem, units_are, copy_is, original_whole, move_traced, ready}

-- ---- a finished object cannot be allocated over

over_finished : (t : ObjectType) → allocatable_of t (Allocated t Valid) ≡ refused 4
unfolding allocatable_of
over_finished t = refl

-- so a move of a finished object to where one of its type is finished gives 4, and stores nothing
module _ (g : Geometry) (h : ObjectHeader) (to : ObjectLocation) (t : ObjectType) (n : ℕ) (m : List ℕ) (source : source_at g h m ≡ done (record { kind = t; size = n })) (there : state_at g to m ≡ done (Allocated t Valid))
    (f : Fuse) where
  allocate_refused : run f (allocate g to t) m ≡ record { answer = refused 4; fuse = f; state = m }
  unfolding allocate
  allocate_refused =
      ask_on {W = flash} f (state_at g to) (λ st. ask (λ _. allocatable_of t st) >> (write g to.block to.offset (type_byte t ∷ []) >> give (fresh_of g to t))) m there
      ∙ ask_stop {W = flash} f (λ _. allocatable_of t (Allocated t Valid)) (λ _. write g to.block to.offset (type_byte t ∷ []) >> give (fresh_of g to t)) m (over_finished t)

  copy_refused : run f (copy_object g h to) m ≡ record { answer = refused 4; fuse = f; state = m }
  unfolding copy_object
  copy_refused =
      ask_on {W = flash} f (source_at g h) (λ src. allocate g to src.kind >>= λ w. copying (turns_of src.size) g h.location.block (payload_at g h) src.size w >>= λ y. finalize g y >>= λ z. give z.object) m source
      ∙ run_bind f (allocate g to t) (λ w. copying (turns_of n) g h.location.block (payload_at g h) n w >>= λ y. finalize g y >>= λ z. give z.object) m
      ∙ ap (λ (e : End ObjectWriter). next e (λ w u i. run u (copying (turns_of n) g h.location.block (payload_at g h) n w >>= λ y. finalize g y >>= λ z. give z.object) i)) allocate_refused

  move_refused : run f (move_object g h to) m ≡ record { answer = refused 4; fuse = f; state = m }
  unfolding move_object
  move_refused =
      run_bind f (copy_object g h to) (λ new. set_state g h Deleted >> give new) m
      ∙ ap (λ (e : End ObjectHeader). next e (λ new u i. run u (set_state g h Deleted >> give new) i)) copy_refused

module _ (g : Geometry) (h : ObjectHeader) (to : ObjectLocation) (t : ObjectType) (pay img : List ℕ) (r : Ready g h to t pay img) where
  abbrev gr : Granularity
  gr = g.granularity

  abbrev p : ℕ
  p = address_of g h.location

  abbrev q : ℕ
  q = address_of g to

  abbrev units : List FlashUnit
  units = us g h to t pay img r

  abbrev n : ℕ
  n = N g h to t pay img r

  all_program : All Programs units
  all_program =
      All-append Programs (before gr g.s t pay q) (mark_units gr q ++ delete_units gr p) (before_programs gr g.s t pay q)
      (All-append Programs (mark_units gr q) (delete_units gr p) (mark_programs gr g.s t pay q) (store_programs (width_of gr) (p + delete_at gr) (0 ∷ [])))

  abbrev at_cut : ℕ → List ℕ
  at_cut k = apply (take k (us g h to t pay img r)) img

  -- ---- before the mark: the original's header and payload are as they were, and the destination is free or begun

  able_begun : (k : ℕ) → Able g h to t pay (apply (take k (before gr g.s t pay q)) img)
  able_begun k = go (unfinished gr g.s t q pay img r.given.new k)
    where
      on : (st : CompositeObjectState) → state_seen gr q (apply (take k (before gr g.s t pay q)) img) ≡ done st → allocatable_of t st ≡ done tt → Able g h to t pay (apply (take k (before gr g.s t pay q)) img)
      on st seen al =
          let o : Stands gr g.s p (Allocated t Valid) h.size pay (apply (take k (before gr g.s t pay q)) img) = original_before gr g.s t p q h.size pay img r.given k in
          record {
            first = img;
            ready = r;
            long = length-apply (take k (before gr g.s t pay q)) img;
            just_read = (original_whole g h to t pay img r (take k (before gr g.s t pay q)) o).header;
            bytes_are = o.bytes_are;
            there = st;
            state_there = seen;
            allocatable = al;
          }

      go : (state_seen gr q (apply (take k (before gr g.s t pay q)) img) ≡ done Free) ⊎ (state_seen gr q (apply (take k (before gr g.s t pay q)) img) ≡ done (Allocated t Untrusted))
          → Able g h to t pay (apply (take k (before gr g.s t pay q)) img)
      go (inl e) = on Free e (over_free t)
      go (inr e) = on (Allocated t Untrusted) e (over_begun t)

  -- so the second move stores the units of the first
  traced_again : (g.strict ≡ 1 → ⊥) → (k : ℕ) → k ≤ n → move_object g h to (at_cut k) ≡ ran units (copy_of g h to)
  traced_again off k c =
      moved_ran g h to t pay (at_cut k) (subst (λ (vs : List FlashUnit). Able g h to t pay (apply vs img)) (sym (cut_before g h to t pay img r k c)) (able_begun k)) off
      ∙ ap (ran units) (copy_is g h to t pay img r)

  pub left_is : (k : ℕ) → left_by g h to img k ≡ at_cut k
  left_is k = state_cut (move_object g h to) units (copy_of g h to) img (move_traced g h to t pay img r) k

  -- units that follow a part of themselves end where they end at once
  ends_alike : (k : ℕ) → k ≤ n → apply units (at_cut k) ≡ apply units img
  ends_alike k c =
      ap (λ (vs : List FlashUnit). apply vs (at_cut k)) (sym (take_all (length units) units (omega arith)))
      ∙ cut_twice units k (length units) img all_program
      ∙ ap (λ (vs : List FlashUnit). apply vs img) (take_all (max k (length units)) units (omega arith))

  resumes_at : (g.strict ≡ 1 → ⊥) → (k : ℕ) → k ≤ n → (left : List ℕ) → left ≡ at_cut k → run Absent (move_object g h to) left ≡ run Absent (move_object g h to) img
  resumes_at off k c left e =
      ap (run Absent (move_object g h to)) e
      ∙ power_cut (move_object g h to) units (copy_of g h to) (at_cut k) (traced_again off k c)
      ∙ ap (λ (m : List ℕ). record { answer = done (copy_of g h to); fuse = Absent; state = m }) (ends_alike k c)
      ∙ sym (power_cut (move_object g h to) units (copy_of g h to) img (move_traced g h to t pay img r))

  cut_again_at : (g.strict ≡ 1 → ⊥) → (k : ℕ) → k ≤ n → (left : List ℕ) → left ≡ at_cut k → (i : ℕ) → run (Units i) (move_object g h to) left
      ≡ record { answer = (run (Units i) (move_object g h to) img).answer; fuse = (run (Units i) (move_object g h to) img).fuse; state = left_by g h to img (max k i) }
  cut_again_at off k c left e i =
      ap (run (Units i) (move_object g h to)) e
      ∙ same_cut (move_object g h to) units (copy_of g h to) img (move_traced g h to t pay img r) (at_cut k) (traced_again off k c) i
      ∙ ap (λ (m : List ℕ). record { answer = (run (Units i) (move_object g h to) img).answer; fuse = (run (Units i) (move_object g h to) img).fuse; state = m })
      (state_cut (move_object g h to) units (copy_of g h to) (at_cut k) (traced_again off k c) i ∙ cut_twice units k i img all_program ∙ sym (left_is (max k i)))

  pub resumes : (g.strict ≡ 1 → ⊥) → (k : ℕ) → k ≤ units_to g h → Resumes g h to img k
  resumes off k c =
      let d : k ≤ n = omega (arith, units_are g h to t pay img r) in
      record { with_power = resumes_at off k d (left_by g h to img k) (left_is k); cut_again = cut_again_at off k d (left_by g h to img k) (left_is k) }

  -- ---- between the marks

  abbrev both : List ℕ
  both = apply (all_copied g h to t pay img r) img

  refuses_both : (f : Fuse) → run f (move_object g h to) both ≡ record { answer = refused 4; fuse = f; state = both }
  refuses_both =
      move_refused g h to t (length pay) both
      (source_of g h t (length pay) both (original_whole g h to t pay img r (all_copied g h to t pay img r) (original_between gr g.s t p q h.size pay img r.given)).header r.finished r.payload)
      (state_read g to both (ap (check_of g) (length-apply (all_copied g h to t pay img r) img) ∙ r.fine) r.block_to
      (omega (arith, laid gr g.s (length pay) r.given.new.width_3, r.in_block_to)) ∙ (stands_new gr g.s t q pay img r.given.new).state)

  deleted_both : run Absent (set_state g h Deleted) both ≡ record { answer = done (gone_of h t); fuse = Absent; state = (run Absent (move_object g h to) img).state }
  deleted_both =
      power_cut (set_state g h Deleted) (delete_units gr p) (gone_of h t) both (delete_ran g h to t pay img r)
      ∙ ap (λ (m : List ℕ). record { answer = done (gone_of h t); fuse = Absent; state = m })
      (sym (apply-append (all_copied g h to t pay img r) (delete_units gr p) img) ∙ ap (λ (vs : List FlashUnit). apply vs img) (sym (as_copied g h to t pay img r))
      ∙ ap (λ (e : End ObjectHeader). e.state) (sym (power_cut (move_object g h to) units (copy_of g h to) img (move_traced g h to t pay img r))))

  pub completes : Completes g h to t img (left_by g h to img (units_to g h + 1))
  completes =
      let e : both ≡ left_by g h to img (units_to g h + 1) =
      ap (λ (vs : List FlashUnit). apply vs img) (sym (cut_between_lem g h to t pay img r (units_to g h + 1) (omega (arith, units_are g h to t pay img r)))) ∙ sym (left_is (units_to g h + 1)) in
      subst (λ (m : List ℕ). Completes g h to t img m) e (record { refuses = refuses_both; deleted = deleted_both })

pub again : Again
unfolding Again
again g h to room t img v =
    let r : Ready g h to t (payload_in g h img) img = ready g h to room t img v in (
      λ off k c. resumes g h to t (payload_in g h img) img r off k c,
      completes g h to t (payload_in g h img) img r,
    )
