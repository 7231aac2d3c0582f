-- What the repair of an unfinished object leaves where it is done: nothing was stored and the block is done, or the delete mark is 00.
use mathlib.Core.Path.{◌≡◌, refl, sym, ap, ◌∙◌}
use mathlib.Core.Logic.{◌⊎◌, inl, inr}
use mathlib.Core.Bool.{Bool, true, false, false≢true}
use mathlib.Core.List.{List, [], ◌∷◌}
use Prim.Native.Nat.{ℕ, ◌+◌, ◌-◌}
use native.Mathlib.Nat.{add-zero}
use native.Mathlib.Omega.{arith}
use lib.ListN.{length, get_or}
use lib.Dec.{ltb, eqb}
use lib.Bits.{and_zero_r}
use borrow.Author.Tests.{eqb-true, eqb-false}
use Rattle.medium.specs.declared.geometry.Geometry.{Geometry}
use Rattle.medium.specs.Granularity.{pick, delete_at}
use Rattle.medium.specs.Geometry.{check_of, address}
use Rattle.medium.specs.Units.{FlashUnit}
use Rattle.medium.specs.Operation.{flash, apply, Answer, done, Op, ◌>>=◌, ask, give, putting}
use Rattle.medium.specs.Medium.{write}
use Rattle.medium.specs.Beside.{Both, on_image, beside}
use Rattle.medium.proofs.Writes.{write_byte}
use Rattle.medium.proofs.Runs.{bound}
use Rattle.medium.proofs.Beside.{image_left, image_answer, image_quiet}
use Rattle.medium.proofs.Left.{left, bind_left, bind_events, tested, ask_events}
use Rattle.objects.specs.declared.state.CompositeObjectState.{CompositeObjectState}
use Rattle.objects.specs.declared.state.CompositeObjectState.TheVariants as comp
use Rattle.objects.specs.declared.state.ObjectDataState.TheVariants as data-state
use Rattle.objects.specs.declared.state.ObjectState.TheVariants as object-state
use Rattle.objects.specs.declared.types.ObjectType.{ObjectType}
use Rattle.objects.specs.declared.header.ObjectHeader.{ObjectHeader}
use Rattle.std.specs.Prelude.{Option, Some, None}
use Rattle.objects.specs.Types.{rank_of}
use Rattle.objects.specs.Payload.{payload_at}
use Rattle.objects.specs.Header.{payload_size_of, marking, step_to, set_state, update_state, set_payload_size}
use Rattle.blocks.specs.Scan.{is_allocated}
use Rattle.collector.specs.Table.{Pass, allowing}
use Rattle.collector.specs.Passes.{delete_object, repair_by, repairing, repaired, visit_one}
use Rattle.collector.proofs.Touched.{sized_as}

-- ---- a byte 00

write_zero : (g : Geometry) (b o : ℕ) (img : List ℕ) (u : Unit {0}) → (write g b o (0 ∷ []) img).answer ≡ done u → get_or (left (write g b o (0 ∷ [])) img) (address g b o) 0 ≡ 0
write_zero g b o img u e = let p : address g b o + 0 ≡ address g b o = add-zero (address g b o) in (rw p at (write_byte g b o (0 ∷ []) img u 0 e (omega arith))) ∙ and_zero_r (get_or img (address g b o) 0)

-- the place of the delete mark
abbrev pub mark_address : Geometry → ObjectHeader → ℕ
mark_address g h = address g h.location.block (h.location.offset + delete_at g.granularity)

marking_zero : (g : Geometry) (h : ObjectHeader) (t : ObjectType) (img : List ℕ) (v : ObjectHeader) → (marking g h t data-state.Deleted img).answer ≡ done v
    → get_or (left (marking g h t data-state.Deleted) img) (mark_address g h) 0 ≡ 0
unfolding marking ask
marking_zero g h t img v e =
    let x = bound (write g h.location.block (h.location.offset + delete_at g.granularity) (0 ∷ [])) (λ _. give (record { state = comp.Allocated t data-state.Deleted; size = h.size; location = h.location })) img v e in
    rw (bind_left {B = ObjectHeader} (write g h.location.block (h.location.offset + delete_at g.granularity) (0 ∷ [])) (λ _. give (record { state = comp.Allocated t data-state.Deleted; size = h.size; location = h.location })) img x.value x.first)
    (write_zero g h.location.block (h.location.offset + delete_at g.granularity) img x.value x.first)

step_zero : (g : Geometry) (h : ObjectHeader) (st : CompositeObjectState) (img : List ℕ) (v : ObjectHeader) → rank_of st ≡ 1 → (step_to g h data-state.Deleted st img).answer ≡ done v
    → get_or (left (step_to g h data-state.Deleted st) img) (mark_address g h) 0 ≡ 0
step_zero g h comp.Free img v one e = absurd (omega arith)
step_zero g h (comp.Allocated t data-state.Untrusted) img v one e = marking_zero g h t img v e
step_zero g h (comp.Allocated t data-state.Valid) img v one e = absurd (omega arith)
step_zero g h (comp.Allocated t data-state.Deleted) img v one e = absurd (omega arith)

delete_zero : (g : Geometry) (h : ObjectHeader) (img : List ℕ) (d : Bool) → rank_of h.state ≡ 1 → (delete_object g h img).answer ≡ done d
    → (d ≡ true) × (get_or (left (delete_object g h) img) (mark_address g h) 0 ≡ 0)
unfolding update_state set_state ask
delete_zero g h img d one e =
    let x = bound (update_state g h object-state.Deleted) (λ _. give true) img d e in
    let q : ◌≡◌ {A = Answer Bool} (done true) (done d) = x.second in
    let t = tested {W = flash} (λ i. check_of g (length i)) (λ _. step_to g h data-state.Deleted h.state) img x.value x.first in
    let y : (step_to g h data-state.Deleted h.state img).answer ≡ done x.value = rw t at x.first in
    ((cc), rw (bind_left (update_state g h object-state.Deleted) (λ _. give true) img x.value x.first, t) (step_zero g h h.state img x.value one y))

-- ---- the repair of an object, and its visit

-- d says whether it was deleted
abbrev pub Repaired : Geometry → ObjectHeader → Bool → List FlashUnit → List ℕ → Type 0
Repaired g h d us img = ((d ≡ false) × (us ≡ [])) ⊎ ((d ≡ true) × (get_or (apply us img) (mark_address g h) 0 ≡ 0))

repair_by_left : (g : Geometry) (h : ObjectHeader) (n : ℕ) (p : Option ℕ) (img : List ℕ) (d : Bool) → rank_of h.state ≡ 1 → (repair_by g h n p img).answer ≡ done d
    → Repaired g h d (repair_by g h n p img).events img
unfolding repair_by ask
repair_by_left g h n (Some m) img d one e = go (eqb m n) e
  where
    go : (t : Bool) → (pick {A = Op Bool} t (give false) (delete_object g h) img).answer ≡ done d → Repaired g h d (pick {A = Op Bool} t (give false) (delete_object g h) img).events img
    go true q = let z : ◌≡◌ {A = Answer Bool} (done false) (done d) = q in inl ((cc), refl)
    go false q = inr (delete_zero g h img d one q)
repair_by_left g h n None img d one e =
    let x = bound (set_payload_size g h n) (λ v. delete_object g v) img d e in
    let s = sized_as g h x.value n img x.first in
    let y = delete_zero g x.value (left (set_payload_size g h n) img) d (rw s one) x.second in
    inr (y.0, rw (bind_left (set_payload_size g h n) (λ v. delete_object g v) img x.value x.first) (ap (λ (v : ObjectHeader). get_or (left (delete_object g x.value) (left (set_payload_size g h n) img)) (mark_address g v) 0) (sym s) ∙ y.1))

repair_left : (g : Geometry) (h : ObjectHeader) (used : ℕ) (img : List ℕ) (d : Bool) → rank_of h.state ≡ 1 → (repairing g h used img).answer ≡ done d
    → Repaired g h d (repairing g h used img).events img
unfolding repairing
repair_left g h used img d one e =
    let t = tested {W = flash} (λ _. pick (ltb used (payload_at g h)) 9 0) (λ _. repair_by g h (used - payload_at g h) (payload_size_of g.s h)) img d e in
    rw t (repair_by_left g h (used - payload_at g h) (payload_size_of g.s h) img d one (rw t at e))

-- a visit that is done: nothing was stored, and an unfinished object ends the listing; or such an object was deleted, and it goes on
abbrev pub Visit-left : Geometry → ℕ → ℕ → ObjectHeader → Both → Bool → Type 0
Visit-left g b used h s d =
    (((visit_one g b used h s).events ≡ []) × (rank_of h.state ≡ 1 → d ≡ false))
    ⊎ ((rank_of h.state ≡ 1) × (d ≡ true) × (get_or (left (visit_one g b used h) s).image (mark_address g h) 0 ≡ 0))

-- the allow mark leaves the image
repaired_left : (b : ℕ) (v d : Bool) (s : Both) → (repaired b v s).answer ≡ done d → (v ≡ d) × ((left (repaired b v) s).image ≡ s.image) × (v ≡ false → (repaired b v s).events ≡ [])
unfolding repaired allowing putting ask ◌>>=◌
repaired_left b true d s e = let q : ◌≡◌ {A = Answer Bool} (done true) (done d) = e in ((cc), refl, (λ z. absurd (false≢true (sym z))))
repaired_left b false d s e = let q : ◌≡◌ {A = Answer Bool} (done false) (done d) = e in ((cc), refl, (λ _. refl))

pub visit_left : (g : Geometry) (b used : ℕ) (h : ObjectHeader) (s : Both) (d : Bool) → (visit_one g b used h s).answer ≡ done d → Visit-left g b used h s d
unfolding visit_one
visit_left g b used h s d e = go (is_allocated h) refl e
  where
    stored : rank_of h.state ≡ 1 → (v : Bool) → (repairing g h used s.image).answer ≡ done v → (on_image (repairing g h used) s).answer ≡ done v
        → (repaired b v (left (on_image (repairing g h used)) s)).answer ≡ done d → Repaired g h v (repairing g h used s.image).events s.image
        → ((((on_image (repairing g h used) >>= λ v. repaired b v) s).events ≡ []) × (rank_of h.state ≡ 1 → d ≡ false))
        ⊎ ((rank_of h.state ≡ 1) × (d ≡ true) × (get_or (left (on_image (repairing g h used) >>= λ v. repaired b v) s).image (mark_address g h) 0 ≡ 0))
    stored one v a f q (inl r) =
        let w = repaired_left b v d (left (on_image (repairing g h used)) s) q in
        inl (rw (bind_events (on_image (repairing g h used)) (λ v. repaired b v) s v f, image_quiet (repairing g h used) s r.1) (rw (image_quiet (repairing g h used) s r.1) at (w.2 r.0)), (λ _. cc))
    stored one v a f q (inr r) =
        let w = repaired_left b v d (left (on_image (repairing g h used)) s) q in
        inr (one, (cc), rw (bind_left (on_image (repairing g h used)) (λ v. repaired b v) s v f, w.1, image_left (repairing g h used) s) r.1)

    go : (t : Bool) → is_allocated h ≡ t → (pick {A = Pass Bool} t (on_image (repairing g h used) >>= λ v. repaired b v) (give true) s).answer ≡ done d
        → (((pick {A = Pass Bool} t (on_image (repairing g h used) >>= λ v. repaired b v) (give true) s).events ≡ []) × (rank_of h.state ≡ 1 → d ≡ false))
        ⊎ ((rank_of h.state ≡ 1) × (d ≡ true) × (get_or (left (pick {A = Pass Bool} t (on_image (repairing g h used) >>= λ v. repaired b v) (give true)) s).image (mark_address g h) 0 ≡ 0))
    go true q p =
        let one = eqb-true (rank_of h.state) 1 q in
        let x = bound (on_image (repairing g h used)) (λ v. repaired b v) s d p in
        let a = sym (image_answer (repairing g h used) s) ∙ x.first in
        stored one x.value a x.first x.second (repair_left g h used s.image x.value one a)
    go false q p = inl (ask_events beside (λ _. done true) s, (λ one. absurd (eqb-false (rank_of h.state) 1 q one)))
