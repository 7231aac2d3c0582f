-- What a sweep leaves of the metadata: one mark after the other, each takes its object out of the tour and no other; and the objects that are left
-- have the payload that they had.
use mathlib.Core.Path.{◌≡◌, refl, sym, ap, ◌∙◌, subst}
use mathlib.Core.Logic.{◌⊎◌, inl, inr, ◌≢◌}
use mathlib.Core.List.{List, [], ◌∷◌, ◌++◌, append-nil}
use Prim.Native.Nat.{ℕ}
use native.Mathlib.Omega.{arith}
use Rattle.medium.specs.declared.geometry.Geometry.{Geometry}
use Rattle.medium.specs.declared.fuse.Fuse.TheVariants.{Absent}
use Rattle.medium.specs.Operation.{apply}
use Rattle.objects.specs.declared.header.ObjectHeader.{ObjectHeader}
use Rattle.objects.specs.Payload.{read_payload}
use Rattle.blocks.specs.declared.header.BlockType.TheVariants.{Metadata, Data}
use Rattle.storage.specs.Order.{Tour}
use Rattle.storage.specs.Laws.{All}
use Rattle.sweep.specs.Referring.{metadata_in}
use Rattle.sweep.specs.Twins.{is_twin, twins, unreferred}
use Rattle.sweep.specs.Laws.{left_by}
use Rattle.storage.proofs.Lists.{all_append}
use Rattle.storage.proofs.Heads.{Sorted}
use Rattle.sweep.proofs.Lists.{all_map}
use Rattle.sweep.proofs.Marks.{Listed, Marked, mark_units, marked_by}
use Rattle.sweep.proofs.Toured.{tour_shut, tour-then}
use Rattle.sweep.proofs.Kept.{Kept, in_order, kept_around, kept_other, payload_kept}
use Rattle.sweep.proofs.Plans.{FirstTwin, first_twin}
use Rattle.sweep.proofs.Ready.{Ready, all_split}
use Rattle.sweep.proofs.TwinGone.{twin_is_listed, twin_next}
use Rattle.sweep.proofs.DataGone.{data_is_listed, data_next}
use Rattle.sweep.proofs.Marking.{marking, marking_append}
use Rattle.sweep.proofs.Chain.{behind_twins}
use Rattle.sweep.proofs.Planned.{planned}
use Rattle.mended.proofs.Lists.{In, any_left, any_right, any_cases}
use Rattle.mended.proofs.Two.{others_elsewhere}

-- ---- lists

-- one list is another without an object, and nothing else stood at its place
pub record Without (t : ObjectHeader) (xs ys : List ObjectHeader) : Type 0 where
  pub front : List ObjectHeader
  pub back : List ObjectHeader
  pub was : xs ≡ front ++ t ∷ back
  pub is : ys ≡ front ++ back
  pub alone : All (λ x. x.location ≢ t.location) ys

-- so for each of some objects, one after the other
pub data Thinned : List ObjectHeader → List ObjectHeader → List ObjectHeader → Type 0 where
  whole : {xs : List ObjectHeader} → Thinned [] xs xs
  without : {t : ObjectHeader} {ts xs ys zs : List ObjectHeader} → Without t xs ys → Thinned ts ys zs → Thinned (t ∷ ts) xs zs

module _ (P : ObjectHeader → Type 0) where
  all_without : (t : ObjectHeader) (xs ys : List ObjectHeader) → Without t xs ys → All P xs → All P ys
  all_without t xs ys w a = let s = all_split P w.front (t ∷ w.back) (subst (All P) w.was a) in subst (All P) (sym w.is) (all_append P w.front w.back s.0 s.1.1)

  pub all_thinned : {ts xs ys : List ObjectHeader} → Thinned ts xs ys → All P xs → All P ys
  all_thinned whole a = a
  all_thinned (without {t} {ts} {xs} {ys} {zs} w k) a = all_thinned k (all_without t xs ys w a)

-- what stands elsewhere stays
in_without : (e t : ObjectHeader) (xs ys : List ObjectHeader) → Without t xs ys → t.location ≢ e.location → In e xs → In e ys
in_without e t xs ys w n a = subst (In e) (sym w.is) (go (any_cases (λ x. x ≡ e) w.front (t ∷ w.back) (subst (In e) w.was a)))
  where
    go : In e w.front ⊎ In e (t ∷ w.back) → In e (w.front ++ w.back)
    go (inl i) = any_left (λ x. x ≡ e) w.front w.back i
    go (inr (inl q)) = absurd (n (ap (λ (x : ObjectHeader). x.location) q))
    go (inr (inr i)) = any_right (λ x. x ≡ e) w.front w.back i

pub stays : (e : ObjectHeader) {ts xs ys : List ObjectHeader} → Thinned ts xs ys → All (λ x. x.location ≢ e.location) ts → In e xs → In e ys
stays e whole n a = a
stays e (without {t} {ts} {xs} {ys} {zs} w k) n a = stays e k n.1 (in_without e t xs ys w n.0 a)

-- and what is taken out is gone
pub gone : (e : ObjectHeader) {ts xs ys : List ObjectHeader} → Thinned ts xs ys → In e ts → All (λ x. x.location ≢ e.location) ys
gone e whole i = absurd i
gone e (without {t} {ts} {xs} {ys} {zs} w k) (inl q) = all_thinned (λ x. x.location ≢ e.location) k (subst (λ (o : ObjectHeader). All (λ x. x.location ≢ o.location) ys) q w.alone)
gone e (without w k) (inr i) = gone e k i

-- ---- marks

-- what is left of the metadata has its payload
abbrev pub Reads : Geometry → List ℕ → List ℕ → Type 0
Reads g img other = All (λ e. read_payload g e other ≡ read_payload g e img) (metadata_in g other)

module _ (g : Geometry) where
  abbrev one : ObjectHeader → List ℕ → List ℕ
  one h img = apply (mark_units g h) img

  -- a twin is deleted
  module _ (img : List ℕ) (r : Ready g img) (h : ObjectHeader) (ts : List ObjectHeader) (e : twins g img ≡ h ∷ ts) where
    twin_listed : Listed g Metadata h img
    twin_listed = twin_is_listed g img h ts e

    twin-marked : Marked g h img (one h img)
    twin-marked = marked_by g Metadata h img r.fine twin_listed r.bytes

    twin-first : FirstTwin (is_twin g img) [] (metadata_in g img) h ts
    unfolding twins
    twin-first = first_twin (is_twin g img) [] (metadata_in g img) h ts e

    twin-left : metadata_in g (one h img) ≡ twin-first.front ++ twin-first.back
    twin-left = (tour-then g Metadata h img r.fine twin_listed (one h img) twin-marked twin-first.front twin-first.back twin-first.order).0

    twin-out : Without h (metadata_in g img) (metadata_in g (one h img))
    twin-out =
        let o = others_elsewhere g Metadata img r.fine twin-first.front h twin-first.back (subst (Sorted g Metadata img r.fine) twin-first.order (in_order g Metadata img r.fine)) in
        record {
          front = twin-first.front;
          back = twin-first.back;
          was = twin-first.order;
          is = twin-left;
          alone = subst (All (λ x. x.location ≢ h.location)) (sym twin-left) (all_append (λ x. x.location ≢ h.location) twin-first.front twin-first.back o.0 o.1);
        }

    twin-reads : Reads g img (one h img)
    twin-reads =
        let k = kept_around g Metadata h img r.fine twin_listed (one h img) twin-marked twin-first.front twin-first.back twin-first.order in
        subst (All (λ e. read_payload g e (one h img) ≡ read_payload g e img)) (sym twin-left)
        (all_map (Kept g img (one h img)) (λ e. read_payload g e (one h img) ≡ read_payload g e img) (λ e a. payload_kept g img (one h img) r.fine e a) (twin-first.front ++ twin-first.back)
        (all_append (Kept g img (one h img)) twin-first.front twin-first.back k.0 k.1))

  -- through one image to another
  reads_through : (a b c : List ℕ) → Reads g a b → (ts : List ObjectHeader) → Thinned ts (metadata_in g b) (metadata_in g c) → Reads g b c → Reads g a c
  reads_through a b c x ts k y = both (metadata_in g c) (all_thinned (λ e. read_payload g e b ≡ read_payload g e a) k x) y
    where
      both : (es : List ObjectHeader) → All (λ e. read_payload g e b ≡ read_payload g e a) es → All (λ e. read_payload g e c ≡ read_payload g e b) es → All (λ e. read_payload g e c ≡ read_payload g e a) es
      both [] p q = tt
      both (e ∷ es) p q = (q.0 ∙ p.0, both es p.1 q.1)

  reads_self : (img : List ℕ) (es : List ObjectHeader) → All (λ e. read_payload g e img ≡ read_payload g e img) es
  reads_self img [] = tt
  reads_self img (e ∷ es) = (refl, reads_self img es)

  twins_out : (ts : List ObjectHeader) (img : List ℕ) → Ready g img → twins g img ≡ ts → Thinned ts (metadata_in g img) (metadata_in g (marking g ts img)) × Reads g img (marking g ts img)
  twins_out [] img r e = (whole, reads_self img (metadata_in g img))
  twins_out (h ∷ ts) img r e =
      let n = twin_next g img r h ts e (one h img) (twin-marked img r h ts e) in
      let k = twins_out ts (one h img) n.ready n.twins_are in
      (without (twin-out img r h ts e) k.0, reads_through img (one h img) (marking g ts (one h img)) (twin-reads img r h ts e) ts k.0 k.1)

  -- what nothing refers to is deleted: the metadata is as it was
  data_out : (us : List ObjectHeader) (img : List ℕ) → Ready g img → unreferred g img ≡ us → (metadata_in g (marking g us img) ≡ metadata_in g img) × Reads g img (marking g us img)
  data_out [] img r e = (refl, reads_self img (metadata_in g img))
  data_out (h ∷ us) img r e =
      let l : Listed g Data h img = data_is_listed g img h us e in
      let m : Marked g h img (one h img) = marked_by g Data h img r.fine l r.bytes in
      let n = data_next g img r h us e (one h img) m in
      let same : metadata_in g (one h img) ≡ metadata_in g img = ap (λ (y : Tour). y.objects) (tour_shut g Data h img r.fine l (one h img) m Metadata (λ q. omega arith)) in
      let k = data_out us (one h img) n.ready n.unreferred_are in
      let kept : Reads g img (one h img) =
      subst (All (λ e. read_payload g e (one h img) ≡ read_payload g e img)) (sym same)
      (all_map (Kept g img (one h img)) (λ e. read_payload g e (one h img) ≡ read_payload g e img) (λ e a. payload_kept g img (one h img) r.fine e a) (metadata_in g img)
      (kept_other g Data h img r.fine l (one h img) m Metadata (λ q. omega arith))) in
      (k.0 ∙ same, reads_through img (one h img) (marking g us (one h img)) kept [] (subst (Thinned [] (metadata_in g (one h img))) (sym k.0) whole) k.1)

  -- ---- a sweep: the twins are taken out

  pub swept_out : (img : List ℕ) → Ready g img → Thinned (twins g img) (metadata_in g img) (metadata_in g (left_by Absent g img)) × Reads g img (left_by Absent g img)
  swept_out img r =
      let a = twins_out (twins g img) img r refl in
      let n = (behind_twins g (twins g img) [] img r (sym (append-nil (twins g img)))).1 in
      let b = data_out (unreferred g img) (marking g (twins g img) img) n.ready n.unreferred_are in
      let e : left_by Absent g img ≡ marking g (unreferred g img) (marking g (twins g img) img) = planned Absent g img (0 ∷ 0 ∷ []) r ∙ marking_append g (twins g img) (unreferred g img) img in
      subst (λ (x : List ℕ). Thinned (twins g img) (metadata_in g img) (metadata_in g x) × Reads g img x) (sym e) (
        subst (Thinned (twins g img) (metadata_in g img)) (sym b.0) a.0,
        reads_through img (marking g (twins g img) img) (marking g (unreferred g img) (marking g (twins g img) img)) a.1 [] (subst (Thinned [] (metadata_in g (marking g (twins g img) img))) (sym b.0) whole) b.1,
      )
