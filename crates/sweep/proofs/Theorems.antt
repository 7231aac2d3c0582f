-- The theorems of specs/Laws.antt.
use mathlib.Core.Path.{◌≡◌, refl, sym, ap, ◌∙◌, subst}
use mathlib.Core.List.{List, [], ◌∷◌, ◌++◌}
use Prim.Native.Nat.{ℕ}
use native.Mathlib.Omega.{arith}
use lib.ListN.{take, drop, take-append-drop}
use Rattle.medium.specs.declared.geometry.Geometry.{Geometry}
use Rattle.medium.specs.declared.fuse.Fuse.{Fuse}
use Rattle.medium.specs.declared.fuse.Fuse.TheVariants.{Absent, Units}
use Rattle.medium.specs.Operation.{Answer, done, refused, EndIn, run}
use Rattle.medium.specs.Beside.{Both, both}
use Rattle.medium.proofs.Runs.{run_bind}
use Rattle.objects.specs.declared.header.ObjectHeader.{ObjectHeader}
use Rattle.sweep.specs.Referring.{metadata_in, data_in, sweepable}
use Rattle.sweep.specs.Twins.{is_twin, twins, is_referred, unreferred}
use Rattle.sweep.specs.Sweep.{deleting, deleting_twins, deleting_unreferred, sweep}
use Rattle.sweep.specs.Laws.{Bytes, left_by, SameStreets, NoStreetLost, Clean, NoTwinLeft, NamesApart, plan, OnlyMarked, OnlyMarksChange, Resumes, NothingLeft, RefusedStoresNothing}
use Rattle.sweep.proofs.Plans.{no_two, all_pass}
use Rattle.sweep.proofs.Turns.{sweep_stop, sweep-on, twins_start, unreferred_start, delete_none}
use Rattle.sweep.proofs.Ready.{Ready, ready_of, ready_ok}
use Rattle.sweep.proofs.Marking.{marking, marking_append, passing}
use Rattle.sweep.proofs.Chain.{Cut, cut_at, same_self}
use Rattle.sweep.proofs.Planned.{planned, behind, passing_split}
use Rattle.sweep.proofs.Listed.{names_from_lem}
use Rattle.sweep.proofs.Changed.{changed_by, changed_self, only_more}

module _ (g : Geometry) (img : List ℕ) (b : Bytes img) where
  -- a sweep is refused, or the store is ready for it
  asked : (P : Type 0) → ((n : ℕ) → sweepable g img ≡ refused n → P) → (Ready g img → P) → P
  asked P bad good = go (sweepable g img) refl
    where
      go : (a : Answer (Unit {0})) → sweepable g img ≡ a → P
      go (done u) e = good (ready_of g img b e)
      go (refused n) e = bad n e

  stopped : (f : Fuse) (n : ℕ) → sweepable g img ≡ refused n → left_by f g img ≡ img
  stopped f n e = ap (λ (x : EndIn Both (Unit {0})). x.state.image) (sweep_stop g f img (0 ∷ 0 ∷ []) n e)

  cut : (f : Fuse) → Ready g img → Cut g (passing f (plan g img)) (behind f (plan g img)) img
  cut f r = cut_at g (passing f (plan g img)) (behind f (plan g img)) img r (passing_split f (plan g img))

  left_is : (f : Fuse) → Ready g img → left_by f g img ≡ marking g (passing f (plan g img)) img
  left_is f r = planned f g img (0 ∷ 0 ∷ []) r

  streets : (f : Fuse) → SameStreets g img (left_by f g img)
  streets f =
      asked (SameStreets g img (left_by f g img)) (λ n e. subst (SameStreets g img) (sym (stopped f n e)) (same_self g img))
      (λ r. subst (SameStreets g img) (sym (left_is f r)) (cut f r).streets)

  -- nothing of the plan is left
  none_left : (xs ys : List ObjectHeader) → xs ++ ys ≡ [] → (xs ≡ []) × (ys ≡ [])
  none_left [] ys e = (refl, e)
  none_left (x ∷ xs) ys e = let z : ◌≡◌ {A = ℕ} 0 1 = cc in absurd (omega arith)

  ended : Ready g img → Ready g (left_by Absent g img) × (twins g (left_by Absent g img) ≡ []) × (unreferred g (left_by Absent g img) ≡ [])
  ended r =
      let c = cut Absent r in
      let n = none_left (twins g (marking g (plan g img) img)) (unreferred g (marking g (plan g img) img)) c.rest in
      subst (λ (m : List ℕ). Ready g m × (twins g m ≡ []) × (unreferred g m ≡ [])) (sym (left_is Absent r)) (c.ready, n.0, n.1)

  clean : Ready g img → Clean g (left_by Absent g img)
  unfolding twins unreferred
  clean r =
      let e = ended r in
      record {
        alone = (no_two (is_twin g (left_by Absent g img)) [] (metadata_in g (left_by Absent g img)) e.1).1;
        referred = all_pass (λ d. is_referred g (left_by Absent g img) d.location) (data_in g (left_by Absent g img)) e.2;
      }

  resumed : (k : ℕ) → left_by Absent g (left_by (Units k) g img) ≡ left_by Absent g img
  resumed k =
      asked (left_by Absent g (left_by (Units k) g img) ≡ left_by Absent g img) (λ n e. ap (left_by Absent g) (stopped (Units k) n e))
      (λ r. let c = cut (Units k) r in
      ap (left_by Absent g) (left_is (Units k) r)
      ∙ planned Absent g (marking g (take k (plan g img)) img) (0 ∷ 0 ∷ []) c.ready
      ∙ ap (λ (l : List ObjectHeader). marking g l (marking g (take k (plan g img)) img)) c.rest
      ∙ sym (marking_append g (take k (plan g img)) (drop k (plan g img)) img)
      ∙ ap (λ (l : List ObjectHeader). marking g l img) (take-append-drop k (plan g img))
      ∙ sym (left_is Absent r))

  changed : (f : Fuse) → OnlyMarked g (plan g img) img (left_by f g img)
  changed f =
      asked (OnlyMarked g (plan g img) img (left_by f g img)) (λ n e. subst (OnlyMarked g (plan g img) img) (sym (stopped f n e)) (changed_self g (plan g img) img))
      (λ r. subst (OnlyMarked g (plan g img) img) (sym (left_is f r))
      (subst (λ (hs : List ObjectHeader). OnlyMarked g hs img (marking g (passing f (plan g img)) img)) (sym (passing_split f (plan g img)))
      (only_more g (passing f (plan g img)) (behind f (plan g img)) img (marking g (passing f (plan g img)) img) (changed_by g (passing f (plan g img)) img (cut f r).steps))))

-- a store with nothing to delete
nothing : (f : Fuse) (g : Geometry) (img t : List ℕ) → Ready g img → twins g img ≡ [] → unreferred g img ≡ [] → run f (sweep g) (both img t) ≡ record { answer = done tt; fuse = f; state = both img t }
nothing f g img t r a b =
    sweep-on g f img t (ready_ok g img r) ∙ run_bind f (deleting_twins g) (λ _. deleting_unreferred g) (both img t)
    ∙ ap (λ (e : EndIn Both (Unit {0})). Rattle.medium.specs.Operation.next e (λ _ left s. run left (deleting_unreferred g) s)) (twins_start g f img t ∙ ap (λ (l : List ObjectHeader). run f (deleting g 0 0 l) (both img t)) a ∙ delete_none g 0 0 f (both img t))
    ∙ unreferred_start g f img t ∙ ap (λ (l : List ObjectHeader). run f (deleting g 1 0 l) (both img t)) b ∙ delete_none g 1 0 f (both img t)

pub no_street_lost : NoStreetLost
unfolding NoStreetLost
no_street_lost f g img b = streets g img b f

pub no_twin_left : NoTwinLeft
unfolding NoTwinLeft
no_twin_left g img b e = clean g img b (ready_of g img b e)

pub names_apart : NamesApart
unfolding NamesApart
names_apart g img n k names b e l q = record { places = names_from_lem g n (left_by Absent g img) k names l q; alone = (clean g img b (ready_of g img b e)).alone }

pub only_marks_change : OnlyMarksChange
unfolding OnlyMarksChange
only_marks_change f g img b = changed g img b f

pub resumes : Resumes
unfolding Resumes
resumes k g img b = resumed g img b k

pub nothing_left : NothingLeft
unfolding NothingLeft
nothing_left f g img b e =
    let x = ended g img b (ready_of g img b e) in
    nothing f g (left_by Absent g img) (0 ∷ 0 ∷ []) x.0 x.1 x.2

pub refused_stores_nothing : RefusedStoresNothing
unfolding RefusedStoresNothing
refused_stores_nothing f g img n e = sweep_stop g f img (0 ∷ 0 ∷ []) n e
