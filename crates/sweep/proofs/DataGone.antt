-- An object that nothing refers to is deleted: the same.
use mathlib.Core.Path.{◌≡◌, refl, sym, ap, ap₂, ◌∙◌, subst}
use mathlib.Core.Bool.{Bool, true, false, ◌&&◌, ◌||◌}
use mathlib.Core.List.{List, [], ◌∷◌, ◌++◌}
use Prim.Native.Nat.{ℕ}
use native.Mathlib.Omega.{arith}
use lib.ListN.{length}
use lib.Dec.{eqb}
use borrow.Author.Tests.{eqb-true, eqb-false}
use Rattle.medium.specs.declared.geometry.Geometry.{Geometry}
use Rattle.medium.specs.Geometry.{check_of}
use Rattle.objects.specs.declared.location.ObjectLocation.{ObjectLocation}
use Rattle.objects.specs.declared.header.ObjectHeader.{ObjectHeader}
use Rattle.blocks.specs.declared.header.BlockType.TheVariants.{Metadata, Data}
use Rattle.storage.specs.Order.{Tour, tour}
use Rattle.storage.specs.Lookup.{is_named, first_named, lookup}
use Rattle.storage.specs.Laws.{All}
use Rattle.storage.proofs.Finding.{all_of}
use Rattle.storage.proofs.Lists.{all_append}
use Rattle.sweep.specs.Lists.{some, except}
use Rattle.sweep.specs.Referring.{metadata_in, data_in, same_at, is_among, locations_of, is_listed, is_sound}
use Rattle.sweep.specs.Twins.{is_twin, twins_in, twins, is_referred, unreferred}
use Rattle.sweep.proofs.Lists.{all_map}
use Rattle.sweep.proofs.Marks.{Listed, Marked, marked_bytes}
use Rattle.sweep.proofs.Toured.{all_listed, tour_shut, tour-then}
use Rattle.sweep.proofs.Kept.{Kept, kept_around, kept_other, twin_kept}
use Rattle.sweep.proofs.Alike.{some_append, twins_same}
use Rattle.sweep.proofs.DeletingUnreferred.{referred_stays, except_same}
use Rattle.sweep.proofs.Plans.{FirstNot, first_not, except_append}
use Rattle.sweep.proofs.ReadsKept.{Stays}
use Rattle.sweep.proofs.Ready.{Ready, Held, all_split, all_both, some_none_of, stays_by, held_by, sound_listed, same-streets}
use Rattle.sweep.proofs.Stepped.{Next, first_same, look_by, held_named, still_sound}

module _ (g : Geometry) (img : List ℕ) (h : ObjectHeader) (ds : List ObjectHeader) (e : unreferred g img ≡ h ∷ ds) where
  first_is : FirstNot (λ d. is_referred g img d.location) (data_in g img) h ds
  unfolding unreferred
  first_is = first_not (λ d. is_referred g img d.location) (data_in g img) h ds e

  pub data_is_listed : Listed g Data h img
  data_is_listed = all_of (λ x. Listed g Data x img) first_is.front h first_is.back (subst (All (λ x. Listed g Data x img)) first_is.order (all_listed g Data img))

module _ (g : Geometry) (img : List ℕ) (r : Ready g img) (h : ObjectHeader) (ds : List ObjectHeader) (e : unreferred g img ≡ h ∷ ds) (other : List ℕ) (m : Marked g h img other) where
  abbrev f : FirstNot (λ d. is_referred g img d.location) (data_in g img) h ds
  f = first_is g img h ds e

  abbrev data_listed : Listed g Data h img
  data_listed = data_is_listed g img h ds e

  left_over : (data_in g other ≡ f.front ++ f.back) × ((tour g Data other).end ≡ (tour g Data img).end)
  left_over = tour-then g Data h img r.fine data_listed other m f.front f.back f.order

  metadata_same : tour g Metadata other ≡ tour g Metadata img
  metadata_same = tour_shut g Data h img r.fine data_listed other m Metadata (λ q. omega arith)

  fine_now : check_of g (length other) ≡ 0
  fine_now = ap (check_of g) m.long ∙ r.fine

  kept_data : All (λ d. Listed g Data d img × Kept g img other d) (f.front ++ f.back)
  kept_data =
      let k = kept_around g Data h img r.fine data_listed other m f.front f.back f.order in
      let l = all_split (λ x. Listed g Data x img) f.front (h ∷ f.back) (subst (All (λ x. Listed g Data x img)) f.order (all_listed g Data img)) in
      all_append (λ d. Listed g Data d img × Kept g img other d) f.front f.back
      (all_both (λ d. Listed g Data d img) (Kept g img other) f.front l.0 k.0) (all_both (λ d. Listed g Data d img) (Kept g img other) f.back l.1.1 k.1)

  -- no location of metadata is its place
  elsewhere : All (λ x. All (λ l. same_at l h.location ≡ false) (locations_of g x img)) (metadata_in g img)
  unfolding is_referred
  elsewhere =
      all_map (λ x. is_among h.location (locations_of g x img) ≡ false) (λ x. All (λ l. same_at l h.location ≡ false) (locations_of g x img))
      (λ x q. all_map (λ l. same_at h.location l ≡ false) (λ l. same_at l h.location ≡ false) (λ l k. sym (turned h.location l) ∙ k) (locations_of g x img) (some_none_of (same_at h.location) (locations_of g x img) q))
      (metadata_in g img) (some_none_of (λ x. is_among h.location (locations_of g x img)) (metadata_in g img) f.not)
    where
      eqb-turned : (a b : ℕ) → eqb a b ≡ eqb b a
      eqb-turned a b = go (eqb a b) (eqb b a) refl refl
        where
          go : (x y : Bool) → eqb a b ≡ x → eqb b a ≡ y → x ≡ y
          go true true p q = refl
          go false false p q = refl
          go true false p q = absurd (eqb-false b a q (sym (eqb-true a b p)))
          go false true p q = absurd (eqb-false a b p (sym (eqb-true b a q)))

      turned : (a b : ObjectLocation) → same_at a b ≡ same_at b a
      turned a b = ap₂ (λ (x y : Bool). x && y) (eqb-turned a.block b.block) (eqb-turned a.offset b.offset)

  -- so what was listed of them is
  listed_left : (l : ObjectLocation) → same_at l h.location ≡ false → is_listed g l img ≡ true → some (λ d. same_at l d.location) (f.front ++ f.back) ≡ true
  unfolding is_listed
  listed_left l n k =
      some_append (λ d. same_at l d.location) f.front f.back
      ∙ sym (ap (λ (b : Bool). some (λ d. same_at l d.location) f.front || (b || some (λ d. same_at l d.location) f.back)) n)
      ∙ sym (some_append (λ d. same_at l d.location) f.front (h ∷ f.back)) ∙ ap (some (λ d. same_at l d.location)) (sym f.order) ∙ k

  left_of_lem : (x : ObjectHeader) → is_sound g x img ≡ true → All (λ l. same_at l h.location ≡ false) (locations_of g x img) → All (λ l. some (λ d. same_at l d.location) (f.front ++ f.back) ≡ true) (locations_of g x img)
  left_of_lem x s n =
      all_map (λ l. (same_at l h.location ≡ false) × (is_listed g l img ≡ true)) (λ l. some (λ d. same_at l d.location) (f.front ++ f.back) ≡ true) (λ l p. listed_left l p.0 p.1) (locations_of g x img)
      (all_both (λ l. same_at l h.location ≡ false) (λ l. is_listed g l img ≡ true) (locations_of g x img) n (sound_listed g img other r.fine x s))

  abbrev Given : ObjectHeader → Type 0
  Given x = ((Listed g Metadata x img × (is_sound g x img ≡ true)) × Kept g img other x) × All (λ l. same_at l h.location ≡ false) (locations_of g x img)

  given : All Given (metadata_in g img)
  given =
      all_both (λ x. (Listed g Metadata x img × (is_sound g x img ≡ true)) × Kept g img other x) (λ x. All (λ l. same_at l h.location ≡ false) (locations_of g x img)) (metadata_in g img)
      (all_both (λ x. Listed g Metadata x img × (is_sound g x img ≡ true)) (Kept g img other) (metadata_in g img)
      (all_both (λ x. Listed g Metadata x img) (λ x. is_sound g x img ≡ true) (metadata_in g img) (all_listed g Metadata img) r.sound)
      (kept_other g Data h img r.fine data_listed other m Metadata (λ q. omega arith)))
      elsewhere

  held_all : All (Held g img other) (metadata_in g img)
  held_all =
      all_map Given (Held g img other)
      (λ x p. held_by g img other r.fine x p.0.0.0 p.0.0.1 p.0.1
      (all_map (λ l. some (λ d. same_at l d.location) (f.front ++ f.back) ≡ true) (Stays g img other) (λ l q. stays_by g img other r.fine l (f.front ++ f.back) kept_data q) (locations_of g x img) (left_of_lem x p.0.0.1 p.1)))
      (metadata_in g img) given

  metadata_is : metadata_in g other ≡ metadata_in g img
  metadata_is = ap (λ (t : Tour). t.objects) metadata_same

  twins_same_still : twins g other ≡ twins g img
  unfolding twins
  twins_same_still =
      ap (twins_in (is_twin g other) []) metadata_is
      ∙ sym (twins_same (Kept g img other) (is_twin g img) (is_twin g other) (λ x y p q. twin_kept g img other r.fine x y p q) [] [] (metadata_in g img)
      (all_map (Held g img other) (Kept g img other) (λ x q. q.kept) (metadata_in g img) held_all) (none_before (metadata_in g img)))
    where
      none_before : (xs : List ObjectHeader) → All (λ x. some (is_twin g img x) [] ≡ some (is_twin g other x) []) xs
      none_before [] = tt
      none_before (x ∷ xs) = (refl, none_before xs)

  unreferred_rest : unreferred g other ≡ ds
  unfolding unreferred
  unreferred_rest =
      ap (except (λ d. is_referred g other d.location)) left_over.0
      ∙ except_same (λ d. is_referred g other d.location) (λ d. is_referred g img d.location) (λ d. referred_stays g h img r.fine data_listed other m d.location) (f.front ++ f.back)
      ∙ except_append (λ d. is_referred g img d.location) f.front f.back
      ∙ ap₂ (λ (a b : List ObjectHeader). a ++ b) f.none (sym f.rest)

  ready_still : Ready g other
  unfolding is_listed
  ready_still =
      record {
        bytes = marked_bytes g h img other m r.bytes;
        fine = fine_now;
        metadata_end = ap (λ (t : Tour). t.end) metadata_same ∙ r.metadata_end;
        data_end = left_over.1 ∙ r.data_end;
        plain = r.plain;
        sound =
            subst (All (λ x. is_sound g x other ≡ true)) (sym metadata_is)
            (still_sound g img other r.fine m.long (metadata_in g img) held_all
            (all_map Given (λ x. All (λ l. is_listed g l other ≡ true) (locations_of g x img))
            (λ x p. all_map (λ l. some (λ d. same_at l d.location) (f.front ++ f.back) ≡ true) (λ l. is_listed g l other ≡ true) (λ l q. ap (some (λ d. same_at l d.location)) left_over.0 ∙ q) (locations_of g x img) (left_of_lem x p.0.0.1 p.1))
            (metadata_in g img) given));
      }

  named_first : (path : List ℕ) (hash : ℕ) → lookup g path hash other ≡ lookup g path hash img
  named_first path hash =
      look_by g img other path hash r.fine fine_now (ap (λ (t : Tour). t.end) metadata_same)
      (ap (λ (xs : List ObjectHeader). first_named (λ x. is_named g path hash x other) xs (tour g Metadata img).end) metadata_is
      ∙ first_same (λ x. is_named g path hash x other) (λ x. is_named g path hash x img) (metadata_in g img) (tour g Metadata img).end (held_named g img other r.fine m.long path hash (metadata_in g img) held_all))

  pub data_next : Next g img other (twins g img) ds
  data_next =
      record {
        ready = ready_still;
        twins_are = twins_same_still;
        unreferred_are = unreferred_rest;
        streets = same-streets g img other r.fine m.long (metadata_in g img) metadata_is held_all named_first;
      }
