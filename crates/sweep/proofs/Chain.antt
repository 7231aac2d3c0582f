-- The plan, object by object: after any number of its marks the rest of it is the plan, the store can still be swept, and every street is as it was.
use mathlib.Core.Path.{◌≡◌, refl, sym, ap, ap₂, ◌∙◌, subst}
use mathlib.Core.Logic.{◌⊎◌, inl, inr}
use mathlib.Core.List.{List, [], ◌∷◌, ◌++◌, append-nil}
use Prim.Native.Nat.{ℕ}
use Rattle.medium.specs.declared.geometry.Geometry.{Geometry}
use Rattle.medium.specs.Operation.{apply}
use Rattle.objects.specs.declared.header.ObjectHeader.{ObjectHeader}
use Rattle.blocks.specs.declared.header.BlockType.{BlockType}
use Rattle.blocks.specs.declared.header.BlockType.TheVariants.{Metadata, Data}
use Rattle.sweep.specs.Twins.{twins, unreferred}
use Rattle.sweep.specs.Laws.{SameStreets, plan}
use Rattle.sweep.proofs.Marks.{Listed, mark_units, marked_by}
use Rattle.sweep.proofs.Ready.{Ready}
use Rattle.sweep.proofs.Stepped.{Next}
use Rattle.sweep.proofs.TwinGone.{twin_is_listed, twin_next}
use Rattle.sweep.proofs.DataGone.{data_is_listed, data_next}
use Rattle.sweep.proofs.Marking.{marking, marking_append}

pub same_self : (g : Geometry) (img : List ℕ) → SameStreets g img img
same_self g img = record { found = λ _ _. refl; reads = λ _ _ _ _ _ _. refl; sizes = λ _ _ _ _. refl }

pub same_then : (g : Geometry) (a b c : List ℕ) → SameStreets g a b → SameStreets g b c → SameStreets g a c
same_then g a b c x y =
    record {
      found = λ path hash. y.found path hash ∙ x.found path hash;
      reads = λ path hash at e p n. y.reads path hash at (x.found path hash ∙ e) p n ∙ x.reads path hash at e p n;
      sizes = λ path hash at e. y.sizes path hash at (x.found path hash ∙ e) ∙ x.sizes path hash at e;
    }

-- ---- what holds of each step holds of the whole

-- a step of the plan: an object that is listed in a block of some type gets its mark
pub record Step (g : Geometry) (img : List ℕ) (h : ObjectHeader) : Type 0 where
  pub ready : Ready g img
  pub type : BlockType
  pub listed : Listed g type h img

module _ (g : Geometry) where
  abbrev one : ObjectHeader → List ℕ → List ℕ
  one h img = apply (mark_units g h) img

  -- each of the marks is such a step
  abbrev pub Steps : List ObjectHeader → List ℕ → Type 0
  Steps [] img = Unit {0}
  Steps (h ∷ hs) img = Step g img h × Steps hs (one h img)

  twin_step : (img : List ℕ) (r : Ready g img) (h : ObjectHeader) (ts : List ObjectHeader) → twins g img ≡ h ∷ ts → Step g img h × Next g img (one h img) ts (unreferred g img)
  twin_step img r h ts e =
      let l : Listed g Metadata h img = twin_is_listed g img h ts e in
      (record { ready = r; type = Metadata; listed = l }, twin_next g img r h ts e (one h img) (marked_by g Metadata h img r.fine l r.bytes))

  data_step : (img : List ℕ) (r : Ready g img) (h : ObjectHeader) (ds : List ObjectHeader) → unreferred g img ≡ h ∷ ds → Step g img h × Next g img (one h img) (twins g img) ds
  data_step img r h ds e =
      let l : Listed g Data h img = data_is_listed g img h ds e in
      (record { ready = r; type = Data; listed = l }, data_next g img r h ds e (one h img) (marked_by g Data h img r.fine l r.bytes))

  -- what is there behind some of the steps
  abbrev pub Behind : List ObjectHeader → List ℕ → List ObjectHeader → List ObjectHeader → Type 0
  Behind ds img ts us = Steps ds img × Next g img (marking g ds img) ts us

  behind_none : (img : List ℕ) → Ready g img → Behind [] img (twins g img) (unreferred g img)
  behind_none img r = (tt, record { ready = r; twins_are = refl; unreferred_are = refl; streets = same_self g img })

  behind_more : (h : ObjectHeader) (ds : List ObjectHeader) (img : List ℕ) (ts us : List ObjectHeader) → Step g img h → SameStreets g img (one h img) → Behind ds (one h img) ts us → Behind (h ∷ ds) img ts us
  behind_more h ds img ts us s k b =
      ((s, b.0), record { ready = b.1.ready; twins_are = b.1.twins_are; unreferred_are = b.1.unreferred_are; streets = same_then g img (one h img) (marking g ds (one h img)) k b.1.streets })

  pub behind_twins : (ds rs : List ObjectHeader) (img : List ℕ) → Ready g img → twins g img ≡ ds ++ rs → Behind ds img rs (unreferred g img)
  behind_twins [] rs img r e = subst (λ (ts : List ObjectHeader). Behind [] img ts (unreferred g img)) e (behind_none img r)
  behind_twins (h ∷ ds) rs img r e =
      let s = twin_step img r h (ds ++ rs) e in
      behind_more h ds img rs (unreferred g img) s.0 s.1.streets
      (subst (λ (us : List ObjectHeader). Behind ds (one h img) rs us) s.1.unreferred_are (behind_twins ds rs (one h img) s.1.ready s.1.twins_are))

  pub behind_data : (ds rs : List ObjectHeader) (img : List ℕ) → Ready g img → unreferred g img ≡ ds ++ rs → Behind ds img (twins g img) rs
  behind_data [] rs img r e = subst (λ (us : List ObjectHeader). Behind [] img (twins g img) us) e (behind_none img r)
  behind_data (h ∷ ds) rs img r e =
      let s = data_step img r h (ds ++ rs) e in
      behind_more h ds img (twins g img) rs s.0 s.1.streets
      (subst (λ (ts : List ObjectHeader). Behind ds (one h img) ts rs) s.1.twins_are (behind_data ds rs (one h img) s.1.ready s.1.unreferred_are))

  steps_join : (xs ys : List ObjectHeader) (img : List ℕ) → Steps xs img → Steps ys (marking g xs img) → Steps (xs ++ ys) img
  steps_join [] ys img a b = b
  steps_join (x ∷ xs) ys img a b = (a.0, steps_join xs ys (one x img) a.1 b)

  -- two lists that are the same joined: the first of the one is a part of the first of the other, or goes beyond it
  pub record Within (xs bs cs ds : List ObjectHeader) : Type 0 where
    pub over : List ObjectHeader
    pub first : xs ≡ cs ++ over
    pub second : ds ≡ over ++ bs

  join_split : (xs bs cs ds : List ObjectHeader) → xs ++ bs ≡ cs ++ ds → Within xs bs cs ds ⊎ Within cs ds xs bs
  join_split xs bs [] ds e = inl (record { over = xs; first = refl; second = sym e })
  join_split [] bs (c ∷ cs) ds e = inr (record { over = c ∷ cs; first = refl; second = e })
  join_split (a ∷ xs) bs (c ∷ cs) ds e =
      let p : a ≡ c = cc in
      let q : xs ++ bs ≡ cs ++ ds = cc in
      go p (join_split xs bs cs ds q)
    where
      go : a ≡ c → Within xs bs cs ds ⊎ Within cs ds xs bs → Within (a ∷ xs) bs (c ∷ cs) ds ⊎ Within (c ∷ cs) ds (a ∷ xs) bs
      go p (inl w) = inl (record { over = w.over; first = ap₂ (λ (x : ObjectHeader) (l : List ObjectHeader). x ∷ l) p w.first; second = w.second })
      go p (inr w) = inr (record { over = w.over; first = ap₂ (λ (x : ObjectHeader) (l : List ObjectHeader). x ∷ l) (sym p) w.first; second = w.second })

  -- ---- any number of marks of the plan

  pub record Cut (ds rs : List ObjectHeader) (img : List ℕ) : Type 0 where
    pub steps : Steps ds img
    pub ready : Ready g (marking g ds img)
    pub rest : plan g (marking g ds img) ≡ rs
    pub streets : SameStreets g img (marking g ds img)

  pub cut_at : (ds rs : List ObjectHeader) (img : List ℕ) → Ready g img → plan g img ≡ ds ++ rs → Cut ds rs img
  cut_at ds rs img r e = go (join_split (twins g img) (unreferred g img) ds rs e)
    where
      go : Within (twins g img) (unreferred g img) ds rs ⊎ Within ds rs (twins g img) (unreferred g img) → Cut ds rs img
      go (inl w) =
          let b = behind_twins ds w.over img r w.first in
          record { steps = b.0; ready = b.1.ready; rest = ap₂ (λ (x y : List ObjectHeader). x ++ y) b.1.twins_are b.1.unreferred_are ∙ sym w.second; streets = b.1.streets }
      go (inr w) =
          let b = behind_twins (twins g img) [] img r (sym (append-nil (twins g img))) in
          let mid : List ℕ = marking g (twins g img) img in
          let c = behind_data w.over rs (marking g (twins g img) img) b.1.ready (b.1.unreferred_are ∙ w.second) in
          let m : marking g ds img ≡ marking g w.over (marking g (twins g img) img) = ap (λ (l : List ObjectHeader). marking g l img) w.first ∙ marking_append g (twins g img) w.over img in
          record {
            steps = subst (λ (l : List ObjectHeader). Steps l img) (sym w.first) (steps_join (twins g img) w.over img b.0 c.0);
            ready = subst (Ready g) (sym m) c.1.ready;
            rest = ap (plan g) m ∙ ap₂ (λ (x y : List ObjectHeader). x ++ y) (c.1.twins_are ∙ b.1.twins_are) c.1.unreferred_are;
            streets = subst (SameStreets g img) (sym m) (same_then g img (marking g (twins g img) img) (marking g w.over (marking g (twins g img) img)) b.1.streets c.1.streets);
          }
