-- What marks change: their own bytes, and in listings the states of their objects.
use mathlib.Core.Path.{◌≡◌, refl, sym, ap, ◌∙◌, subst}
use mathlib.Core.Logic.{◌⊎◌, inl, inr}
use mathlib.Core.Bool.{Bool, true, false}
use mathlib.Core.List.{List, [], ◌∷◌, ◌++◌}
use Prim.Native.Nat.{ℕ}
use native.Mathlib.Omega.{arith}
use lib.ListN.{length, get_or}
use lib.Dec.{eqb}
use borrow.Author.Tests.{eqb-true, eqb-false}
use Rattle.medium.specs.declared.geometry.Geometry.{Geometry}
use Rattle.medium.specs.Geometry.{check_of}
use Rattle.medium.specs.Operation.{apply}
use Rattle.objects.specs.declared.header.ObjectHeader.{ObjectHeader}
use Rattle.objects.specs.Types.{rank_of}
use Rattle.objects.specs.Listing.{Visit, Listing, listing}
use Rattle.blocks.specs.declared.header.BlockType.{BlockType}
use Rattle.shown.proofs.Walk.{visit}
use Rattle.sweep.specs.Laws.{AnyOf, mark_place, NowDeleted, SameVisits, SameListing, OnlyMarked}
use Rattle.sweep.proofs.Marks.{Listed, Marked, mark_units, gone_of, marked_by}
use Rattle.sweep.proofs.Relisted.{visits_then, last_then, stop_then, else_then}
use Rattle.sweep.proofs.Marking.{marking}
use Rattle.sweep.proofs.Chain.{Steps}

-- ---- listings

visits_self : (vs : List Visit) → SameVisits vs vs
visits_self [] = tt
visits_self (v ∷ vs) = (refl, inl refl, visits_self vs)

visits_around : (xs : List Visit) (v w : Visit) (ys : List Visit) → w.offset ≡ v.offset → NowDeleted v.object w.object → SameVisits (xs ++ v ∷ ys) (xs ++ w ∷ ys)
visits_around [] v w ys o d = (o, inr d, visits_self ys)
visits_around (x ∷ xs) v w ys o d = (refl, inl refl, visits_around xs v w ys o d)

-- one that was deleted is not deleted again
object_then : (a b c : ObjectHeader) → (b ≡ a) ⊎ NowDeleted a b → (c ≡ b) ⊎ NowDeleted b c → (c ≡ a) ⊎ NowDeleted a c
object_then a b c (inl p) (inl q) = inl (q ∙ p)
object_then a b c (inl p) (inr d) = inr (subst (λ (x : ObjectHeader). NowDeleted x c) p d)
object_then a b c (inr d) (inl q) = inr (subst (NowDeleted a) (sym q) d)
object_then a b c (inr d) (inr k) =
    let z : ◌≡◌ {A = ℕ} 3 2 = ap (λ (x : ObjectHeader). rank_of x.state) (sym d.is) ∙ ap rank_of k.was in
    absurd (omega arith)

visits_then_visits : (xs ys zs : List Visit) → SameVisits xs ys → SameVisits ys zs → SameVisits xs zs
visits_then_visits [] [] [] a b = tt
visits_then_visits [] [] (z ∷ zs) a b = b
visits_then_visits [] (y ∷ ys) zs a b = absurd a
visits_then_visits (x ∷ xs) [] zs a b = absurd a
visits_then_visits (x ∷ xs) (y ∷ ys) [] a b = b
visits_then_visits (x ∷ xs) (y ∷ ys) (z ∷ zs) a b =
    (b.0 ∙ a.0, object_then x.object y.object z.object a.1 b.1, visits_then_visits xs ys zs a.2 b.2)

listing_self : (l : Listing) → SameListing l l
listing_self l = record { visits = visits_self l.visits; last = refl; stop = refl }

listing_then : (a b c : Listing) → SameListing a b → SameListing b c → SameListing a c
listing_then a b c x y =
    record { visits = visits_then_visits a.visits b.visits c.visits x.visits y.visits; last = y.last ∙ x.last; stop = y.stop ∙ x.stop }

-- ---- one mark

module _ (g : Geometry) (t : BlockType) (h : ObjectHeader) (img : List ℕ) (fine : check_of g (length img) ≡ 0) (v : Listed g t h img) (other : List ℕ) (m : Marked g h img other) where
  own_listing : SameListing (listing g h.location.block img) (listing g h.location.block other)
  own_listing =
      record {
        visits =
            subst (λ (vs : List Visit). SameVisits vs (listing g h.location.block other).visits) (sym v.is)
            (subst (SameVisits (v.before ++ visit g h.location.block h.location.offset h ∷ v.after)) (sym (visits_then g t h img fine v other m))
            (visits_around v.before (visit g h.location.block h.location.offset h) (visit g h.location.block h.location.offset (gone_of h v.type)) v.after refl
            (record { type = v.type; was = v.state; is = refl })));
        last = last_then g t h img fine v other m;
        stop = stop_then g t h img fine v other m;
      }

  one_listing : (b : ℕ) → SameListing (listing g b img) (listing g b other)
  one_listing b = go (eqb b h.location.block) refl
    where
      go : (c : Bool) → eqb b h.location.block ≡ c → SameListing (listing g b img) (listing g b other)
      go true q = subst (λ (x : ℕ). SameListing (listing g x img) (listing g x other)) (sym (eqb-true b h.location.block q)) own_listing
      go false q = subst (SameListing (listing g b img)) (sym (else_then g t h img fine v other m b (eqb-false b h.location.block q))) (listing_self (listing g b img))

-- ---- all of them

pub changed_self : (g : Geometry) (hs : List ObjectHeader) (img : List ℕ) → OnlyMarked g hs img img
changed_self g hs img = record { long = refl; only = λ j. inl refl; listings = λ b. listing_self (listing g b img) }

any_more : {A : Type 0} (P : A → Type 0) (xs ys : List A) → AnyOf P xs → AnyOf P (xs ++ ys)
any_more P [] ys a = absurd a
any_more P (x ∷ xs) ys (inl p) = inl p
any_more P (x ∷ xs) ys (inr p) = inr (any_more P xs ys p)

pub only_more : (g : Geometry) (xs ys : List ObjectHeader) (img other : List ℕ) → OnlyMarked g xs img other → OnlyMarked g (xs ++ ys) img other
only_more g xs ys img other c = record { long = c.long; only = λ j. go j (c.only j); listings = c.listings }
  where
    go : (j : ℕ) → (get_or other j 0 ≡ get_or img j 0) ⊎ (AnyOf (λ h. j ≡ mark_place g h) xs × (get_or other j 0 ≡ 0)) → (get_or other j 0 ≡ get_or img j 0) ⊎ (AnyOf (λ h. j ≡ mark_place g h) (xs ++ ys) × (get_or other j 0 ≡ 0))
    go j (inl p) = inl p
    go j (inr p) = inr (any_more (λ h. j ≡ mark_place g h) xs ys p.0, p.1)

pub changed_by : (g : Geometry) (hs : List ObjectHeader) (img : List ℕ) → Steps g hs img → OnlyMarked g hs img (marking g hs img)
changed_by g [] img s = changed_self g [] img
changed_by g (h ∷ hs) img s =
    let m : Marked g h img (apply (mark_units g h) img) = marked_by g s.0.type h img s.0.ready.fine s.0.listed s.0.ready.bytes in
    let c : OnlyMarked g hs (apply (mark_units g h) img) (marking g hs (apply (mark_units g h) img)) = changed_by g hs (apply (mark_units g h) img) s.1 in
    record {
      long = c.long ∙ m.long;
      only = λ j. go j m (c.only j) (eqb j (mark_place g h)) refl;
      listings = λ b. listing_then (listing g b img) (listing g b (apply (mark_units g h) img)) (listing g b (marking g hs (apply (mark_units g h) img)))
          (one_listing g s.0.type h img s.0.ready.fine s.0.listed (apply (mark_units g h) img) m b) (c.listings b);
    }
  where
    after : List ℕ
    after = marking g hs (apply (mark_units g h) img)

    go : (j : ℕ) → Marked g h img (apply (mark_units g h) img) → (get_or after j 0 ≡ get_or (apply (mark_units g h) img) j 0) ⊎ (AnyOf (λ x. j ≡ mark_place g x) hs × (get_or after j 0 ≡ 0))
        → (c : Bool) → eqb j (mark_place g h) ≡ c → (get_or after j 0 ≡ get_or img j 0) ⊎ (AnyOf (λ x. j ≡ mark_place g x) (h ∷ hs) × (get_or after j 0 ≡ 0))
    go j m (inl p) true q = let e = eqb-true j (mark_place g h) q in inr (inl e, p ∙ ap (λ (x : ℕ). get_or (apply (mark_units g h) img) x 0) e ∙ m.mark)
    go j m (inl p) false q = inl (p ∙ m.elsewhere j (eqb-false j (mark_place g h) q))
    go j m (inr p) c q = inr (inr p.0, p.1)
