-- The two of them in the tour of the Metadata blocks: which is the first.
use mathlib.Core.Path.{◌≡◌, refl, sym, ap, ◌∙◌, subst}
use mathlib.Core.Logic.{◌⊎◌, inl, inr, ◌≢◌}
use mathlib.Core.Bool.{true, false}
use mathlib.Core.List.{List, ◌∷◌, ◌++◌, append_assoc}
use Prim.Native.Nat.{ℕ, ◌+◌, ◌*◌, ◌≤◌}
use native.Mathlib.Omega.{arith}
use lib.ListN.{length}
use lib.Dec.{leb}
use borrow.Author.Tests.{le-leb, lt-leb}
use Rattle.medium.specs.declared.geometry.Geometry.{Geometry}
use Rattle.medium.specs.Geometry.{check_of}
use Rattle.medium.specs.Operation.{done}
use Rattle.objects.specs.declared.types.ObjectType.{ObjectType}
use Rattle.objects.specs.declared.location.ObjectLocation.{ObjectLocation}
use Rattle.objects.specs.declared.header.ObjectHeader.{ObjectHeader}
use Rattle.objects.specs.Info.{total_of}
use Rattle.blocks.specs.declared.header.BlockType.{BlockType}
use Rattle.blocks.specs.declared.header.BlockType.TheVariants.{Metadata}
use Rattle.storage.specs.Order.{is_of, behind_visit}
use Rattle.storage.specs.Laws.{All}
use Rattle.powercut.specs.Demand.{address_of, Movable}
use Rattle.powercut.specs.Listed.{Listable}
use Rattle.sweep.specs.Referring.{metadata_in}
use Rattle.mended.specs.Mended.{first_of, second_of}
use Rattle.shown.proofs.Walk.{span_least}
use Rattle.byname.proofs.Kept.{original_inside}
use Rattle.storage.proofs.Heads.{Ahead, Before, Sorted, not_before}
use Rattle.storage.proofs.Lists.{all_append}
use Rattle.sweep.proofs.Lists.{all_map}
use Rattle.sweep.proofs.Kept.{before_one, behind_one_lem, in_order}
use Rattle.sweep.proofs.Ready.{Ready, all_split, all_both}
use Rattle.mended.proofs.Lists.{In, any_cases, all_in, split_in}
use Rattle.mended.proofs.Copied.{copied, copy_in, fine, tour_metadata, sorted_all, original_in}

-- in a list in order all others stand elsewhere
module _ (g : Geometry) (u : BlockType) (img : List ℕ) (fine : check_of g (length img) ≡ 0) where
  elsewhere : (a b : ObjectHeader) → Before g u img fine a b → a.location ≢ b.location
  elsewhere a b x e = not_before g u img fine a (subst (Ahead g u img fine (behind_visit g a)) (sym e) x)

  pub others_elsewhere : (xs : List ObjectHeader) (e : ObjectHeader) (ys : List ObjectHeader) → Sorted g u img fine (xs ++ e ∷ ys)
      → All (λ x. x.location ≢ e.location) xs × All (λ x. x.location ≢ e.location) ys
  others_elsewhere xs e ys s = (
    all_map (λ x. Before g u img fine x e) (λ x. x.location ≢ e.location) (λ x b. elsewhere x e b) xs (before_one g u img fine xs e ys s),
    all_map (λ x. Before g u img fine e x) (λ x. x.location ≢ e.location) (λ x b q. elsewhere e x b (sym q)) ys (behind_one_lem g u img fine xs e ys s),
  )

-- two objects of a tour, in order
pub record Two (g : Geometry) (h : ObjectHeader) (to : ObjectLocation) (t : ObjectType) (img : List ℕ) : Type 0 where
  pub first : ObjectHeader
  pub second : ObjectHeader
  pub before : List ObjectHeader
  pub between : List ObjectHeader
  pub behind : List ObjectHeader
  pub order : metadata_in g (copied g h to t img) ≡ before ++ first ∷ (between ++ second ∷ behind)
  pub at_first : first.location ≡ first_of h to
  pub at_second : second.location ≡ second_of h to
  pub are : ((first ≡ h) × (second ≡ copy_in g h to t img)) ⊎ ((first ≡ copy_in g h to t img) × (second ≡ h))

module _ (g : Geometry) (h : ObjectHeader) (to : ObjectLocation) (room : ℕ) (t : ObjectType) (img : List ℕ) (v : Movable g h to room t img) (w : Listable g h to room img)
    (kind : is_of g Metadata h.location.block img ≡ done true) (kind-to : is_of g Metadata to.block img ≡ done true) (r : Ready g img) where
  abbrev m : List ℕ
  m = copied g h to t img

  abbrev copy : ObjectHeader
  copy = copy_in g h to t img

  abbrev ok : check_of g (length (copied g h to t img)) ≡ 0
  ok = fine g h to room t img v w kind kind-to r

  abbrev front : List ObjectHeader
  front = (tour_metadata g h to room t img v w kind kind-to r).front

  abbrev back : List ObjectHeader
  back = (tour_metadata g h to room t img v w kind kind-to r).back

  order : metadata_in g m ≡ front ++ copy ∷ back
  order = (tour_metadata g h to room t img v w kind kind-to r).was

  sorted : Sorted g Metadata m ok (front ++ copy ∷ back)
  sorted = sorted_all g h to room t img v w kind kind-to r

  -- the original stands before the copy where its block is the same or comes first
  original_first : Before g Metadata m ok h copy → leb h.location.block to.block ≡ true
  original_first (inl x) = le-leb h.location.block to.block (omega arith)
  original_first (inr x) = le-leb h.location.block to.block (omega (arith, x.0))

  copy_first : Before g Metadata m ok copy h → leb h.location.block to.block ≡ false
  copy_first (inl x) = lt-leb h.location.block to.block (omega arith)
  copy_first (inr x) = absurd (go v.apart)
    where
      go : (address_of g h.location + total_of g.granularity g.s h ≤ address_of g to) ⊎ (address_of g to + room ≤ address_of g h.location) → ⊥
      go (inl a) = omega (arith, x.1, ap (λ (b : ℕ). b * g.size) x.0, span_least g to.block m ok copy)
      go (inr a) = omega (arith, x.1, ap (λ (b : ℕ). b * g.size) x.0, w.to_end, original_inside g h to room t img v, span_least g h.location.block img v.fine h)

  pub two : Two g h to t img
  two = go (any_cases (λ e. e ≡ h) front back (subst (In h) (tour_metadata g h to room t img v w kind kind-to r).is (original_in g h to room t img v w kind kind-to r)))
    where
      go : In h front ⊎ In h back → Two g h to t img
      go (inl i) =
          let s = split_in h front i in
          let b : leb h.location.block to.block ≡ true = original_first (all_in (λ e. Before g Metadata m ok e copy) h front i (before_one g Metadata m ok front copy back sorted)) in
          record {
            first = h;
            second = copy;
            before = s.before;
            between = s.behind;
            behind = back;
            order = order ∙ ap (λ (l : List ObjectHeader). l ++ copy ∷ back) s.is ∙ append_assoc s.before (h ∷ s.behind) (copy ∷ back);
            at_first = rw b;
            at_second = rw b;
            are = inl (refl, refl);
          }
      go (inr i) =
          let s = split_in h back i in
          let b : leb h.location.block to.block ≡ false = copy_first (all_in (λ e. Before g Metadata m ok copy e) h back i (behind_one_lem g Metadata m ok front copy back sorted)) in
          record {
            first = copy;
            second = h;
            before = front;
            between = s.before;
            behind = s.behind;
            order = order ∙ ap (λ (l : List ObjectHeader). front ++ copy ∷ l) s.is;
            at_first = rw b;
            at_second = rw b;
            are = inr (refl, refl);
          }

  -- what holds of the original and of the copy holds of both in order
  pub of_both : (P : ObjectHeader → Type 0) → P h → P copy → P two.first × P two.second
  of_both P x y = go two.are
    where
      go : ((two.first ≡ h) × (two.second ≡ copy)) ⊎ ((two.first ≡ copy) × (two.second ≡ h)) → P two.first × P two.second
      go (inl e) = (subst P (sym e.0) x, subst P (sym e.1) y)
      go (inr e) = (subst P (sym e.0) y, subst P (sym e.1) x)

  -- ---- what stands elsewhere

  in_two : Sorted g Metadata m ok (two.before ++ two.first ∷ (two.between ++ two.second ∷ two.behind))
  in_two = subst (Sorted g Metadata m ok) two.order (in_order g Metadata m ok)

  pub first_alone : All (λ x. x.location ≢ two.first.location) two.before × All (λ x. x.location ≢ two.first.location) (two.between ++ two.second ∷ two.behind)
  first_alone = others_elsewhere g Metadata m ok two.before two.first (two.between ++ two.second ∷ two.behind) in_two

  second_alone : All (λ x. x.location ≢ two.second.location) two.before
  second_alone =
      (all_split (λ x. x.location ≢ two.second.location) two.before (two.first ∷ two.between)
      (others_elsewhere g Metadata m ok (two.before ++ two.first ∷ two.between) two.second two.behind (subst (Sorted g Metadata m ok) (sym (append_assoc two.before (two.first ∷ two.between) (two.second ∷ two.behind))) in_two)).0).0

  -- so what holds of all but the original before the move holds of all before the first
  module _ (P : ObjectHeader → Type 0) (all : All (λ e. (e.location ≡ h.location) ⊎ P e) (metadata_in g img)) where
    abbrev Either : ObjectHeader → Type 0
    Either e = (e.location ≡ to) ⊎ ((e.location ≡ h.location) ⊎ P e)

    widened : All Either (metadata_in g m)
    widened =
        let s = all_split Either front back (subst (All Either) (tour_metadata g h to room t img v w kind kind-to r).is (all_map (λ e. (e.location ≡ h.location) ⊎ P e) Either (λ e p. inr p) (metadata_in g img) all)) in
        subst (All Either) (sym order) (all_append Either front (copy ∷ back) s.0 (inl refl, s.1))

    pub before-first : All P two.before
    before-first =
        all_map (λ e. Either e × ((e.location ≢ two.first.location) × (e.location ≢ two.second.location))) P (λ e p. go e two.are p.0 p.1.0 p.1.1) two.before
        (all_both Either (λ e. (e.location ≢ two.first.location) × (e.location ≢ two.second.location)) two.before (all_split Either two.before (two.first ∷ (two.between ++ two.second ∷ two.behind)) (subst (All Either) two.order widened)).0
        (all_both (λ e. e.location ≢ two.first.location) (λ e. e.location ≢ two.second.location) two.before first_alone.0 second_alone))
      where
        go : (e : ObjectHeader) → ((two.first ≡ h) × (two.second ≡ copy)) ⊎ ((two.first ≡ copy) × (two.second ≡ h)) → Either e → e.location ≢ two.first.location → e.location ≢ two.second.location → P e
        go e (inl a) (inl q) n k = absurd (k (q ∙ ap (λ (x : ObjectHeader). x.location) (sym a.1)))
        go e (inr a) (inl q) n k = absurd (n (q ∙ ap (λ (x : ObjectHeader). x.location) (sym a.0)))
        go e (inl a) (inr (inl q)) n k = absurd (n (q ∙ ap (λ (x : ObjectHeader). x.location) (sym a.0)))
        go e (inr a) (inr (inl q)) n k = absurd (k (q ∙ ap (λ (x : ObjectHeader). x.location) (sym a.1)))
        go e a (inr (inr p)) n k = p
