-- The auditor's questions, answered from the demand and from what a copy stores.
use mathlib.Core.Path.{◌≡◌, refl, sym, ap, ◌∙◌, subst}
use mathlib.Core.Logic.{◌⊎◌, inl, inr}
use mathlib.Core.Bool.{false}
use mathlib.Core.List.{List}
use Prim.Native.Nat.{ℕ, ◌+◌, ◌-◌, ◌≤◌, ◌<◌}
use native.Mathlib.Omega.{arith}
use lib.ListN.{length, take}
use lib.Seq.{take_all}
use Rattle.medium.specs.declared.geometry.Geometry.{Geometry}
use Rattle.medium.specs.declared.fuse.Fuse.TheVariants.{Absent, Units}
use Rattle.medium.specs.Units.{FlashUnit}
use Rattle.medium.specs.Operation.{flash, apply, cost, prefix, done, refused, Run, End, cut, run}
use Rattle.objects.specs.declared.types.ObjectType.{ObjectType}
use Rattle.objects.specs.declared.location.ObjectLocation.{ObjectLocation}
use Rattle.objects.specs.declared.header.ObjectHeader.{ObjectHeader}
use Rattle.objects.specs.Reader.{reader_at}
use Rattle.moving.specs.Moving.{copy_object, move_object}
use Rattle.powercut.specs.Demand.{reader_of, Whole, Unfinished, address_of, payload_in, copy_of, Clear, units_to, Survives, Demand}
use Rattle.powercut.specs.Answers.{NeverGone, TwoOnce, Kept, Copied, CopiedWhole, CopyKeeps}
use Rattle.medium.proofs.Runs.{prefix_flash, cost_flash, leb_is, leb_yes, leb_no}
use Rattle.medium.proofs.Bytes.{length-apply}
use Rattle.powercut.specs.Stores.{before}
use Rattle.fresh.proofs.Written.{length_new, cut_before, cut_all, unfinished, stands_new, framed}
use Rattle.powercut.proofs.Crash.{original_cut}
use Rattle.medium.proofs.Traced.{ran}
use Rattle.powercut.proofs.Ran.{Ready}
use Rattle.powercut.proofs.Modes.{copy_ran}
use Rattle.powercut.proofs.Survive.{all_copied, N, copy_is, original_whole, copy_whole, copy_unfinished, span_is, units_are, ready, demand}

pub never_gone : NeverGone
unfolding NeverGone Demand
never_gone g h to room t img v Absent = inr (demand g h to room t img v).0.copy
never_gone g h to room t img v (Units k) = go (leb_is (units_to g h + 1) k) (leb_is (units_to g h + 2) k)
  where
    d : Survives g h to t (payload_in g h img) img k (run (Units k) (move_object g h to) img)
    d = (demand g h to room t img v).1 k

    go : (units_to g h + 1 ≤ k) ⊎ (k < units_to g h + 1) → (units_to g h + 2 ≤ k) ⊎ (k < units_to g h + 2)
        → Whole g h t (payload_in g h img) (run (Units k) (move_object g h to) img).state ⊎ Whole g (copy_of g h to) t (payload_in g h img) (run (Units k) (move_object g h to) img).state
    go a (inl b) = inr (d.after_marks b).1
    go (inr a) (inr b) = inl (d.before_mark (omega arith)).0
    go (inl a) (inr b) = inl (d.between_marks (omega arith)).0

-- a place of which no reader is given is no whole object
not_read : (g : Geometry) (h : ObjectHeader) (t : ObjectType) (pay m : List ℕ) → Whole g h t pay m → reader_at g h.location false m ≡ refused 2 → ⊥
not_read g h t pay m w e = let x : done (reader_of h 0) ≡ refused 2 = sym w.reader ∙ e in let z : ◌≡◌ {A = ℕ} 0 1 = cc in absurd (omega arith)

pub two_once : TwoOnce
unfolding TwoOnce Demand
two_once g h to room t img v k = record { then = d.between_marks; only_then = go (leb_is (units_to g h + 1) k) (leb_is (units_to g h + 2) k) }
  where
    d : Survives g h to t (payload_in g h img) img k (run (Units k) (move_object g h to) img)
    d = (demand g h to room t img v).1 k

    go : (units_to g h + 1 ≤ k) ⊎ (k < units_to g h + 1) → (units_to g h + 2 ≤ k) ⊎ (k < units_to g h + 2)
        → Whole g h t (payload_in g h img) (run (Units k) (move_object g h to) img).state × Whole g (copy_of g h to) t (payload_in g h img) (run (Units k) (move_object g h to) img).state
        → k ≡ units_to g h + 1
    go a (inl b) w = absurd (not_read g h t (payload_in g h img) _ w.0 (d.after_marks b).0.reader)
    go (inr a) (inr b) w = absurd (not_read g (copy_of g h to) t (payload_in g h img) _ w.1 (d.before_mark (omega arith)).1.reader)
    go (inl a) (inr b) w = omega arith

-- ---- a copy

module _ (g : Geometry) (h : ObjectHeader) (to : ObjectLocation) (t : ObjectType) (pay img : List ℕ) (r : Ready g h to t pay img) where
  abbrev us : List FlashUnit
  us = all_copied g h to t pay img r

  abbrev begun : List FlashUnit
  begun = before g.granularity g.s t pay (address_of g to)

  copy_traced : copy_object g h to img ≡ ran us (copy_of g h to)
  copy_traced = copy_ran g h to t pay img r ∙ ap (ran us) (copy_is g h to t pay img r)

  kept_at : (k : ℕ) → Kept g h to t pay img (apply (take k us) img)
  kept_at k =
      record {
        original = original_whole g h to t pay img r (take k us) (original_cut g.granularity g.s t (address_of g h.location) (address_of g to) h.size pay img r.given k);
        long = length-apply (take k us) img;
        elsewhere = λ j c. framed g.granularity g.s t (address_of g to) pay img r.given.new k j
            (subst (λ (n : ℕ). Clear (address_of g to) (address_of g to + n) j) (span_is g h to t pay img r) c);
      }

  n_is : units_to g h ≡ N g h to t pay img r
  n_is = units_are g h to t pay img r

  copied_by : (k : ℕ) (e : End ObjectHeader) → e.state ≡ apply (take k us) img → (k < units_to g h + 1 → (e.answer ≡ refused 8) × (e.fuse ≡ Units 0))
      → (units_to g h + 1 ≤ k → (e.answer ≡ done (copy_of g h to)) × (e.fuse ≡ Units (k - (units_to g h + 1)))) → Copied g h to t pay img k e
  copied_by k e ei lost copied =
      let at : (u : List FlashUnit) → take k us ≡ u → apply u img ≡ e.state = λ u x. sym (ei ∙ ap (λ (y : List FlashUnit). apply y img) x) in
      record {
        kept = subst (λ (m : List ℕ). Kept g h to t pay img m) (sym ei) (kept_at k);
        before_mark = λ c.
            subst (λ (m : List ℕ). Unfinished g to t m)
            (at (take k begun) (cut_before g.granularity g.s t (address_of g to) pay k (omega (arith, n_is))))
            (copy_unfinished g h to t pay img r (take k begun) (unfinished g.granularity g.s t (address_of g to) pay img r.given.new k));
        after_mark = λ c.
            subst (λ (m : List ℕ). Whole g (copy_of g h to) t pay m) (at us (cut_all g.granularity g.s t (address_of g to) pay k (omega (arith, n_is))))
            (copy_whole g h to t pay img r us (stands_new g.granularity g.s t (address_of g to) pay img r.given.new));
        lost = lost;
        copied = copied;
      }

  long_is : length us ≡ units_to g h + 1
  long_is = omega (arith, length_new g.granularity g.s t (address_of g to) pay, n_is)

  copied_cut : (k : ℕ) → Copied g h to t pay img k (cut {W = flash} (Units k) (ran us (copy_of g h to)) img)
  copied_cut k = go (leb_is (length us) k)
    where
      go : (length us ≤ k) ⊎ (k < length us) → Copied g h to t pay img k (cut {W = flash} (Units k) (ran us (copy_of g h to)) img)
      go (inl c) =
          let x : cost flash us ≤ k = omega (arith, cost_flash us) in
          rw (leb_yes x)
          (copied_by k (record { answer = done (copy_of g h to); fuse = Units (k - cost flash us); state = apply us img }) (ap (λ (u : List FlashUnit). apply u img) (sym (take_all k us c)))
          (λ d. absurd (omega (arith, long_is))) (λ d. (refl, ap (λ (n : ℕ). Units (k - n)) (cost_flash us ∙ long_is))))
      go (inr c) =
          let x : k < cost flash us = omega (arith, cost_flash us) in
          rw (leb_no x)
          (copied_by k (record { answer = refused 8; fuse = Units 0; state = apply (prefix flash k us) img }) (ap (λ (u : List FlashUnit). apply u img) (prefix_flash k us))
          (λ d. (refl, refl)) (λ d. absurd (omega (arith, long_is))))

  copied_whole : CopiedWhole g h to t pay img (cut {W = flash} Absent (ran us (copy_of g h to)) img)
  copied_whole =
      record {
        kept = subst (λ (u : List FlashUnit). Kept g h to t pay img (apply u img)) (take_all (length us) us (omega arith)) (kept_at (length us));
        copy = copy_whole g h to t pay img r us (stands_new g.granularity g.s t (address_of g to) pay img r.given.new);
        copied = refl;
        no_fuse = refl;
      }

pub copy_keeps : CopyKeeps
unfolding CopyKeeps run
copy_keeps g h to room t img v =
    let r : Ready g h to t (payload_in g h img) img = ready g h to room t img v in
    let e : copy_object g h to img ≡ ran (us g h to t (payload_in g h img) img r) (copy_of g h to) = copy_traced g h to t (payload_in g h img) img r in (
      subst (λ (x : Run flash ObjectHeader). CopiedWhole g h to t (payload_in g h img) img (cut {W = flash} Absent x img)) (sym e) (copied_whole g h to t (payload_in g h img) img r),
      λ k. subst (λ (x : Run flash ObjectHeader). Copied g h to t (payload_in g h img) img k (cut {W = flash} (Units k) x img)) (sym e) (copied_cut g h to t (payload_in g h img) img r k),
    )
