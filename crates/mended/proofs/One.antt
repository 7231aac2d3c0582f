-- One of the two is left: the second is a twin of the first, and the first has no like before it.
use mathlib.Core.Path.{◌≡◌, refl, sym, ap, ◌∙◌, subst}
use mathlib.Core.Logic.{◌⊎◌, inl, inr, ◌≢◌}
use mathlib.Core.Bool.{Bool, true, false, ◌||◌, false≢true}
use mathlib.Core.List.{List, [], ◌∷◌, ◌++◌, append_assoc}
use Prim.Native.Nat.{ℕ}
use Rattle.medium.specs.declared.geometry.Geometry.{Geometry}
use Rattle.medium.specs.declared.fuse.Fuse.TheVariants.{Absent}
use Rattle.medium.specs.Operation.{done}
use Rattle.objects.specs.declared.types.ObjectType.{ObjectType}
use Rattle.objects.specs.declared.location.ObjectLocation.{ObjectLocation}
use Rattle.objects.specs.declared.header.ObjectHeader.{ObjectHeader}
use Rattle.objects.specs.Payload.{read_payload}
use Rattle.blocks.specs.declared.header.BlockType.TheVariants.{Metadata}
use Rattle.storage.specs.Order.{is_of}
use Rattle.storage.specs.Laws.{All}
use Rattle.powercut.specs.Demand.{payload_in, Movable}
use Rattle.powercut.specs.Listed.{Listable}
use Rattle.sweep.specs.Lists.{some}
use Rattle.sweep.specs.Referring.{metadata_in}
use Rattle.sweep.specs.Twins.{is_twin, twins_in, twins}
use Rattle.sweep.specs.Laws.{left_by}
use Rattle.mended.specs.Mended.{first_of, AllBut, OneLeft}
use Rattle.storage.proofs.Lists.{all_append}
use Rattle.sweep.proofs.Lists.{all_map, some_not}
use Rattle.sweep.proofs.Alike.{twin_through, some_append}
use Rattle.sweep.proofs.Plans.{twins_append}
use Rattle.sweep.proofs.Planned.{all_twins}
use Rattle.sweep.proofs.Kept.{Kept, twin_kept}
use Rattle.sweep.proofs.Ready.{Ready, all_both}
use Rattle.mended.proofs.Lists.{In, any_right, all_in, any_in}
use Rattle.mended.proofs.Alike.{twin_by, twin_turned}
use Rattle.mended.proofs.Copied.{copied, copy_in, original_in, kept_metadata, original_payload, original_reads, copy_reads, ready_still}
use Rattle.mended.proofs.Two.{Two, two, of_both, first_alone, before-first}
use Rattle.mended.proofs.Thinned.{stays, gone, swept_out}

-- ---- which objects of a list have their like before them

module _ (like : ObjectHeader → ObjectHeader → Bool) (before : List ObjectHeader) (a : ObjectHeader) (between : List ObjectHeader) (b : ObjectHeader) (behind : List ObjectHeader) where
  -- one that is like none before it is not among them
  first_out : (P : ObjectHeader → Type 0) → All P before → All P (between ++ b ∷ behind) → some (like a) before ≡ false → All P (twins_in like [] (before ++ a ∷ (between ++ b ∷ behind)))
  first_out P x y n =
      subst (All P) (sym (twins_append like [] before (a ∷ (between ++ b ∷ behind))))
      (all_append P (twins_in like [] before) (twins_in like before (a ∷ (between ++ b ∷ behind))) (all_twins P like [] before x) (rw n (all_twins P like (before ++ a ∷ []) (between ++ b ∷ behind) y)))

  -- one that is like one before it is
  second_in : like b a ≡ true → In b (twins_in like [] (before ++ a ∷ (between ++ b ∷ behind)))
  second_in e =
      subst (In b) (sym (ap (twins_in like []) (sym (append_assoc before (a ∷ between) (b ∷ behind))) ∙ twins_append like [] (before ++ a ∷ between) (b ∷ behind)))
      (any_right (λ x. x ≡ b) (twins_in like [] (before ++ a ∷ between)) (twins_in like (before ++ a ∷ between) (b ∷ behind)) (rw has (inl refl)))
    where
      either : (x : Bool) → (x || true) ≡ true
      either true = refl
      either false = refl

      has : some (like b) (before ++ a ∷ between) ≡ true
      has = some_append (like b) before (a ∷ between) ∙ rw e (either (some (like b) before))

module _ (g : Geometry) (h : ObjectHeader) (to : ObjectLocation) (room : ℕ) (t : ObjectType) (img : List ℕ) (v : Movable g h to room t img) (w : Listable g h to room img)
    (kind : is_of g Metadata h.location.block img ≡ done true) (kind-to : is_of g Metadata to.block img ≡ done true) (r : Ready g img) where
  abbrev m : List ℕ
  m = copied g h to t img

  abbrev copy : ObjectHeader
  copy = copy_in g h to t img

  abbrev pay : List ℕ
  pay = payload_in g h img

  abbrev both : Two g h to t img
  both = two g h to room t img v w kind kind-to r

  -- ---- type and payload of the two

  states : (both.first.state ≡ h.state) × (both.second.state ≡ h.state)
  states = of_both g h to room t img v w kind kind-to r (λ e. e.state ≡ h.state) refl (sym v.finished)

  payloads : (read_payload g both.first m ≡ done pay) × (read_payload g both.second m ≡ done pay)
  payloads = of_both g h to room t img v w kind kind-to r (λ e. read_payload g e m ≡ done pay) (original_reads g h to room t img v w kind kind-to r) (copy_reads g h to room t img v w kind kind-to r)

  second_like : is_twin g m both.second both.first ≡ true
  second_like = twin_by g m both.second both.first pay (states.1 ∙ sym states.0) payloads.1 payloads.0

  first_like : is_twin g m both.first h ≡ true
  first_like = twin_by g m both.first h pay states.0 payloads.0 (original_reads g h to room t img v w kind kind-to r)

  second_twin : In both.second (twins g m)
  unfolding twins
  second_twin = subst (λ (l : List ObjectHeader). In both.second (twins_in (is_twin g m) [] l)) (sym both.order) (second_in (is_twin g m) both.before both.first both.between both.second both.behind second_like)

  -- ---- where no other was like the original

  module _ (alone : AllBut h.location (λ e. is_twin g img e h ≡ false) g img) where
    kept : All (Kept g img (copied g h to t img)) (metadata_in g img)
    kept = kept_metadata g h to room t img v w kind kind-to r

    still-alone : AllBut h.location (λ e. is_twin g m both.first e ≡ false) g img
    still-alone =
        all_map (λ e. ((e.location ≡ h.location) ⊎ (is_twin g img e h ≡ false)) × Kept g img m e) (λ e. (e.location ≡ h.location) ⊎ (is_twin g m both.first e ≡ false)) (λ e p. go e p.0 p.1) (metadata_in g img)
        (all_both (λ e. (e.location ≡ h.location) ⊎ (is_twin g img e h ≡ false)) (Kept g img m) (metadata_in g img) alone kept)
      where
        unlike : (e : ObjectHeader) → is_twin g m e h ≡ false → (b : Bool) → is_twin g m both.first e ≡ b → b ≡ false
        unlike e n true q = absurd (false≢true (sym n ∙ twin_through g m e both.first h (twin_turned g m both.first e q) first_like))
        unlike e n false q = refl

        go : (e : ObjectHeader) → (e.location ≡ h.location) ⊎ (is_twin g img e h ≡ false) → Kept g img m e → (e.location ≡ h.location) ⊎ (is_twin g m both.first e ≡ false)
        go e (inl q) k = inl q
        go e (inr n) k =
            inr (unlike e (twin_kept g img m r.fine e h k (all_in (Kept g img m) h (metadata_in g img) (original_in g h to room t img v w kind kind-to r) kept) ∙ n) (is_twin g m both.first e) refl)

    first-no-twin : All (λ x. x.location ≢ both.first.location) (twins g m)
    unfolding twins
    first-no-twin =
        let a = first_alone g h to room t img v w kind kind-to r in
        subst (λ (l : List ObjectHeader). All (λ x. x.location ≢ both.first.location) (twins_in (is_twin g m) [] l)) (sym both.order)
        (first_out (is_twin g m) both.before both.first both.between both.second both.behind (λ x. x.location ≢ both.first.location) a.0 a.1
        (some_not (is_twin g m both.first) both.before (before-first g h to room t img v w kind kind-to r (λ e. is_twin g m both.first e ≡ false) still-alone)))

    pub one_left : OneLeft g h to img (left_by Absent g (copied g h to t img))
    one_left =
        let s = swept_out g m (ready_still g h to room t img v w kind kind-to r) in
        let i : In both.first (metadata_in g (left_by Absent g m)) =
        stays both.first s.0 first-no-twin (subst (In both.first) (sym both.order) (any_right (λ x. x ≡ both.first) both.before (both.first ∷ (both.between ++ both.second ∷ both.behind)) (inl refl))) in
        let p : read_payload g both.first (left_by Absent g m) ≡ read_payload g h img =
        all_in (λ e. read_payload g e (left_by Absent g m) ≡ read_payload g e m) both.first (metadata_in g (left_by Absent g m)) i s.1 ∙ payloads.0 ∙ sym (original_payload g h to room t img v w kind kind-to r) in
        record {
          stands = any_in (λ e. (e.location ≡ first_of h to) × (e.state ≡ h.state) × (read_payload g e (left_by Absent g m) ≡ read_payload g h img)) both.first (metadata_in g (left_by Absent g m)) (both.at_first, states.0, p) i;
          gone = subst (λ (l : ObjectLocation). All (λ e. e.location ≢ l) (metadata_in g (left_by Absent g m))) both.at_second (gone both.second s.0 second_twin);
        }
