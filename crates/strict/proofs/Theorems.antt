-- The laws of the strict mark, from those of each layer.
use mathlib.Core.Path.{◌≡◌, refl, sym, ap, ◌∙◌}
use mathlib.Core.Bool.{Bool, true, false, and-false, false≢true}
use mathlib.Core.List.{List, [], ◌∷◌}
use Prim.Native.Nat.{ℕ, ◌<◌}
use native.Mathlib.Omega.{arith}
use lib.ListN.{length}
use lib.Dec.{leb, eqb}
use borrow.Author.Tests.{eqb-true, eq-eqb, lt-leb}
use Rattle.medium.specs.declared.geometry.Geometry.{Geometry}
use Rattle.medium.specs.declared.fuse.Fuse.{Fuse}
use Rattle.medium.specs.declared.fuse.Fuse.TheVariants.{Absent, Units}
use Rattle.medium.specs.Granularity.{pick, most_strict}
use Rattle.medium.specs.Geometry.{geometry_ok, check_of}
use Rattle.medium.specs.Operation.{flash, cost, Answer, done, refused, and_then, or_refuse, Run, Op, ask, putting, EndIn, cut_by, cut, run}
use Rattle.medium.specs.Medium.{units_at, writable, storable}
use Rattle.medium.specs.Medium as medium
use Rattle.medium.specs.Beside.{Both, beside}
use Rattle.medium.specs.Marked.{Fresh, FreshBeside, OnceBeside, Marked, same, stopped, UnderMark, UnderMarkBeside, with_strict, Beside}
use Rattle.medium.proofs.Runs.{run_ask}
use Rattle.medium.proofs.Strict.{unmarked, ten_when, only_then}
use Rattle.medium.proofs.Writes.{write_is}
use Rattle.medium.proofs.Marked.{kept_under, bind_under, image_under, write_under, erase_under, once_under, same_under, unless_ten}
use Rattle.objects.proofs.Strict.{set_state_under, update_state_under, set_payload_size_under}
use Rattle.writer.proofs.Strict.{allocate_under, write_some_under, finalize_under, delete_under, write_to_under}
use Rattle.moving.proofs.Strict.{copy_under, move_under}
use Rattle.blocks.proofs.Strict.{write_header_under, format_under, format_storage_under, set_block_type_under}
use Rattle.collector.proofs.Strict.{first_pass_under, second_pass_under, third_pass_under, collect_under}
use Rattle.batch.proofs.Strict.{write_all_under}
use Rattle.fresh.proofs.Places.{mark_most}
use Rattle.fresh.proofs.Marked.{beside_plain}
use Rattle.sweep.specs.Referring.{listings, sweepable}
use Rattle.sweep.specs.Laws.{sweep_by}
use Rattle.sweep.proofs.Turns.{sweep_stop}
use Rattle.strict.specs.Calls.{Call, write, erase, set_state, update_state, set_payload_size, allocate, write_payload, finalize, delete, write_to, copy_object, move_object, write_header, format_block, format_storage, set_block_type, delete_invalid_objects, erase_invalid_finished_blocks, erase_full_finished_blocks, collect, write_all, alone, does}
use Rattle.strict.specs.Laws.{plain_write, Unchanged, Refuses, TenExactly, OnlyOnce, OnlyStops, SweepRefuses}

-- ---- one store

pub unchanged : Unchanged
unfolding Unchanged plain_write
unchanged g b o bs img off = write_is g b o (writable g (length img) b o (length bs)) bs img (eqb (writable g (length img) b o (length bs)) 0) (unmarked g b o bs img off) refl

ten_refused : (g : Geometry) (b o : ℕ) (bs img : List ℕ) → Refuses g b o bs img → medium.write g b o bs img ≡ record { events = []; answer = refused 10 }
unfolding ask
ten_refused g b o bs img r = write_is g b o 10 bs img false (ten_when g b o bs img (record { marked = r.marked; in_range = r.in_range; meets = r.again })) refl

-- a store whose test gives t answers no other number, or 8
answer_by : (f : Fuse) (g : Geometry) (b o r : ℕ) (bs img : List ℕ) → storable g b o bs img ≡ r → (r ≡ 10 → ⊥) → (run f (medium.write g b o bs) img).answer ≡ refused 10 → ⊥
unfolding run ask putting
answer_by f g b o r bs img e n h = by-fuse f (ap (λ (x : Run flash (Unit {0})). (cut {W = flash} f x img).answer) (sym (write_is g b o r bs img (eqb r 0) e refl)) ∙ h)
  where
    not-ten : (t : Bool) → eqb r 0 ≡ t → (pick {A = Op (Unit {0})} t (putting (units_at g b o bs) tt) (ask (λ _. refused r)) img).answer ≡ refused 10 → ⊥
    not-ten true q h = let z : ◌≡◌ {A = ℕ} 0 1 = cc in omega arith
    not-ten false q h = n cc

    lost : (k : ℕ) (x : Run flash (Unit {0})) → (x.answer ≡ refused 10 → ⊥) → (t : Bool) → (cut_by {W = flash} t k x img).answer ≡ refused 10 → ⊥
    lost k x n true h = n h
    lost k x n false h = let z : ◌≡◌ {A = ℕ} 8 10 = cc in omega arith

    by-fuse : (f : Fuse) → (cut {W = flash} f (pick {A = Op (Unit {0})} (eqb r 0) (putting (units_at g b o bs) tt) (ask (λ _. refused r)) img) img).answer ≡ refused 10 → ⊥
    by-fuse Absent h = not-ten (eqb r 0) refl h
    by-fuse (Units k) h =
        lost k (pick {A = Op (Unit {0})} (eqb r 0) (putting (units_at g b o bs) tt) (ask (λ _. refused r)) img) (not-ten (eqb r 0) refl)
        (leb (cost flash (pick {A = Op (Unit {0})} (eqb r 0) (putting (units_at g b o bs) tt) (ask (λ _. refused r)) img).events) k) h

pub ten_exactly : TenExactly
unfolding TenExactly run ask
ten_exactly g b o bs img =
    record {
      when = λ r f. ap (λ (x : Run flash (Unit {0})). cut {W = flash} f x img) (ten_refused g b o bs img r) ∙ as-asked f;
      only_then = λ f h. go f (eqb (storable g b o bs img) 10) refl h;
    }
  where
    as-asked : (f : Fuse) → cut {W = flash} {A = Unit {0}} f (record { events = []; answer = refused 10 }) img ≡ record { answer = refused 10; fuse = f; state = img }
    as-asked f = run_ask {A = Unit {0}} f (λ _. refused 10) img

    told : storable g b o bs img ≡ 10 → Refuses g b o bs img
    told e = let t = only_then g b o bs img e in record { marked = t.marked; in_range = t.in_range; again = t.meets }

    go : (f : Fuse) (t : Bool) → eqb (storable g b o bs img) 10 ≡ t → (run f (medium.write g b o bs) img).answer ≡ refused 10 → Refuses g b o bs img
    go f true q h = told (eqb-true _ _ q)
    go f false q h = absurd (answer_by f g b o (storable g b o bs img) bs img refl (λ e. false≢true (sym q ∙ eq-eqb _ _ e)) h)

-- ---- every call

module _ (g : Geometry) (m : ℕ) (v : Beside g m) where
  alone_under : {A : Type 0} (o o' : Op A) → UnderMark o o' → UnderMarkBeside (alone o) (alone o')
  alone_under o o' h = image_under _ _ (bind_under flash Fresh o o' _ _ h (λ _. kept_under flash Fresh _))

  call_under : (c : Call) → UnderMarkBeside (does g c) (does (with_strict g m) c)
  call_under (write b o bs) = alone_under _ _ (write_under g m v b o bs)
  call_under (erase b) = alone_under _ _ (erase_under g m v b)
  call_under (set_state h to) = alone_under _ _ (set_state_under g m v h to)
  call_under (update_state h to) = alone_under _ _ (update_state_under g m v h to)
  call_under (set_payload_size h n) = alone_under _ _ (set_payload_size_under g m v h n)
  call_under (allocate at t) = alone_under _ _ (allocate_under g m v at t)
  call_under (write_payload w src) = alone_under _ _ (write_some_under g m v w src)
  call_under (finalize w) = alone_under _ _ (finalize_under g m v w)
  call_under (delete w) = alone_under _ _ (delete_under g m v w)
  call_under (write_to at t src) = alone_under _ _ (write_to_under g m v at t src)
  call_under (copy_object h to) = alone_under _ _ (copy_under g m v h to)
  call_under (move_object h to) = alone_under _ _ (move_under g m v h to)
  call_under (write_header b h) = alone_under _ _ (write_header_under g m v b h)
  call_under (format_block b) = alone_under _ _ (format_under g m v b)
  call_under format_storage = alone_under _ _ (format_storage_under g m v)
  call_under (set_block_type b t) = alone_under _ _ (set_block_type_under g m v b t)
  call_under delete_invalid_objects = first_pass_under g m v
  call_under erase_invalid_finished_blocks = second_pass_under g m v
  call_under erase_full_finished_blocks = third_pass_under g m v
  call_under collect = collect_under g m v
  call_under (write_all b records payload) = write_all_under g m v b records payload

-- a mark of 2 is sound with no geometry
never_two : (g : Geometry) → geometry_ok (with_strict g 2) ≡ false
unfolding geometry_ok
never_two g = let m : most_strict g.granularity < 2 = omega (arith, mark_most g.granularity) in simp (lt-leb _ _ m, and-false)

pub only_once : OnlyOnce
unfolding OnlyOnce
only_once g on c s = go (geometry_ok g) refl
  where
    go : (t : Bool) → geometry_ok g ≡ t → OnceBeside (does g c s).events s
    go true e = once_under beside FreshBeside (does g c) (does (with_strict g 0) c) (call_under g 0 (beside_plain g e on) c) s
    go false e = once_under beside FreshBeside (does g c) (does (with_strict g 2) c) (call_under g 2 (record { on = on; off = λ z. omega arith; sound = never_two g ∙ sym e }) c) s

pub only_stops : OnlyStops
unfolding OnlyStops run
only_stops g on e c s =
    let u = call_under g 0 (beside_plain g e on) c in
    record {
      same = λ l. same_under beside FreshBeside (does g c) (does (with_strict g 0) c) u s l;
      ten = λ n. go n (u s);
      unless = λ n f. ap (λ (r : Run beside (Unit {0})). cut {W = beside} f r s) (unless_ten beside FreshBeside (does g c) (does (with_strict g 0) c) u s n);
    }
  where
    go : (OnceBeside (does (with_strict g 0) c s).events s → ⊥) → Marked beside FreshBeside (does g c s) (does (with_strict g 0) c s) s → (does g c s).answer ≡ refused 10
    go n (same q l) = absurd (n l)
    go n (stopped t) = t.number

-- ---- the sweep

marked_sweep : (g : Geometry) (img : List ℕ) → g.strict ≡ 1 → listings g.count g 0 img ≡ done tt → check_of g (length img) ≡ 0 → sweepable g img ≡ refused 14
unfolding sweepable
marked_sweep g img on l c = rw (c, l, eq-eqb _ _ on)

never_swept : (g : Geometry) (img : List ℕ) → g.strict ≡ 1 → sweepable g img ≡ done tt → ⊥
unfolding sweepable
never_swept g img on e = go (or_refuse (check_of g (length img))) (listings g.count g 0 img) (rw (eq-eqb _ _ on) at e)
  where
    go : (a b : Answer (Unit {0})) → and_then {B = Unit {0}} a (λ _. and_then {B = Unit {0}} b (λ _. refused 14)) ≡ done tt → ⊥
    go (done _) (done _) h = let z : ◌≡◌ {A = ℕ} 0 1 = cc in omega arith
    go (done _) (refused n) h = let z : ◌≡◌ {A = ℕ} 0 1 = cc in omega arith
    go (refused n) b h = let z : ◌≡◌ {A = ℕ} 0 1 = cc in omega arith

pub sweep_refuses : SweepRefuses
unfolding SweepRefuses
sweep_refuses g img on = record { number = λ l c. marked_sweep g img on l c; nothing = λ f. go f (sweepable g img) refl }
  where
    go : (f : Fuse) (a : Answer (Unit {0})) → sweepable g img ≡ a → (sweep_by f g img).state.image ≡ img
    go f (done tt) e = absurd (never_swept g img on e)
    go f (refused n) e = ap (λ (x : EndIn Both (Unit {0})). x.state.image) (sweep_stop g f img (0 ∷ 0 ∷ []) n e)
