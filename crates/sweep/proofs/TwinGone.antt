-- A twin is deleted: the plan is the rest, the store can still be swept, and every street is as it was.
use mathlib.Core.Path.{◌≡◌, refl, sym, ap, ap₂, ◌∙◌, subst}
use mathlib.Core.Bool.{true}
use mathlib.Core.List.{List, [], ◌∷◌, ◌++◌}
use Prim.Native.Nat.{ℕ}
use native.Mathlib.Omega.{arith}
use lib.ListN.{length}
use Rattle.medium.specs.declared.geometry.Geometry.{Geometry}
use Rattle.medium.specs.Geometry.{check_of}
use Rattle.objects.specs.declared.location.ObjectLocation.{ObjectLocation}
use Rattle.objects.specs.declared.header.ObjectHeader.{ObjectHeader}
use Rattle.blocks.specs.declared.header.BlockType.TheVariants.{Metadata, Data}
use Rattle.storage.specs.Order.{Tour, tour}
use Rattle.storage.specs.Lookup.{is_named, first_named, lookup}
use Rattle.storage.specs.Laws.{All}
use Rattle.storage.proofs.Finding.{all_of}
use Rattle.storage.proofs.Lists.{all_append}
use Rattle.sweep.specs.Lists.{some, every, except}
use Rattle.sweep.specs.Referring.{metadata_in, data_in, same_at, is_among, locations_of, is_whole, is_listed, is_sound}
use Rattle.sweep.specs.Twins.{is_twin, twins_in, twins, is_referred, unreferred}
use Rattle.sweep.proofs.Lists.{all_map}
use Rattle.sweep.proofs.Marks.{Listed, Marked, marked_bytes}
use Rattle.sweep.proofs.Toured.{all_listed, tour_shut, tour-then}
use Rattle.sweep.proofs.Kept.{Kept, kept_around, kept_other, twin_kept}
use Rattle.sweep.proofs.Alike.{both_true, some_same, twins_same}
use Rattle.sweep.proofs.DeletingTwins.{twins_left}
use Rattle.sweep.proofs.DeletingUnreferred.{except_same}
use Rattle.sweep.proofs.Plans.{twins_append, FirstTwin, first_twin}
use Rattle.sweep.proofs.ReadsKept.{Stays}
use Rattle.sweep.proofs.SameTwin.{twin_named, twin_locations}
use Rattle.sweep.proofs.Ready.{Ready, Held, all_split, all_both, stays_by, held_by, sound_listed, same-streets}
use Rattle.sweep.proofs.Stepped.{Next, first_same, first_drop, some_drop, look_by, held_named, held_locations, still_sound}

module _ (g : Geometry) (img : List ℕ) (h : ObjectHeader) (ts : List ObjectHeader) (e : twins g img ≡ h ∷ ts) where
  first_is : FirstTwin (is_twin g img) [] (metadata_in g img) h ts
  unfolding twins
  first_is = first_twin (is_twin g img) [] (metadata_in g img) h ts e

  pub twin_is_listed : Listed g Metadata h img
  twin_is_listed = all_of (λ x. Listed g Metadata x img) first_is.front h first_is.back (subst (All (λ x. Listed g Metadata x img)) first_is.order (all_listed g Metadata img))

module _ (g : Geometry) (img : List ℕ) (r : Ready g img) (h : ObjectHeader) (ts : List ObjectHeader) (e : twins g img ≡ h ∷ ts) (other : List ℕ) (m : Marked g h img other) where
  abbrev f : FirstTwin (is_twin g img) [] (metadata_in g img) h ts
  f = first_is g img h ts e

  abbrev twin_listed : Listed g Metadata h img
  twin_listed = twin_is_listed g img h ts e

  twin_sound : is_sound g h img ≡ true
  twin_sound = all_of (λ x. is_sound g x img ≡ true) f.front h f.back (subst (All (λ x. is_sound g x img ≡ true)) f.order r.sound)

  twin_is_whole : is_whole g h (length img) ≡ true
  unfolding is_sound
  twin_is_whole = (both_true (is_whole g h (length img)) (every (λ l. is_listed g l img) (locations_of g h img)) twin_sound).0

  left_over : (metadata_in g other ≡ f.front ++ f.back) × ((tour g Metadata other).end ≡ (tour g Metadata img).end)
  left_over = tour-then g Metadata h img r.fine twin_listed other m f.front f.back f.order

  data_same : tour g Data other ≡ tour g Data img
  data_same = tour_shut g Metadata h img r.fine twin_listed other m Data (λ q. omega arith)

  fine_now : check_of g (length other) ≡ 0
  fine_now = ap (check_of g) m.long ∙ r.fine

  kept : All (Kept g img other) f.front × All (Kept g img other) f.back
  kept = kept_around g Metadata h img r.fine twin_listed other m f.front f.back f.order

  all_data : All (λ d. Listed g Data d img × Kept g img other d) (data_in g img)
  all_data = all_both (λ d. Listed g Data d img) (Kept g img other) (data_in g img) (all_listed g Data img) (kept_other g Metadata h img r.fine twin_listed other m Data (λ q. omega arith))

  held_one : (x : ObjectHeader) → ((Listed g Metadata x img × (is_sound g x img ≡ true)) × Kept g img other x) → Held g img other x
  unfolding is_listed
  held_one x p =
      held_by g img other r.fine x p.0.0 p.0.1 p.1
      (all_map (λ l. is_listed g l img ≡ true) (Stays g img other) (λ l q. stays_by g img other r.fine l (data_in g img) all_data q) (locations_of g x img) (sound_listed g img other r.fine x p.0.1))

  both : All (λ x. Listed g Metadata x img × (is_sound g x img ≡ true)) (f.front ++ h ∷ f.back)
  both =
      subst (All (λ x. Listed g Metadata x img × (is_sound g x img ≡ true))) f.order
      (all_both (λ x. Listed g Metadata x img) (λ x. is_sound g x img ≡ true) (metadata_in g img) (all_listed g Metadata img) r.sound)

  held : All (Held g img other) f.front × All (Held g img other) f.back
  held =
      let s = all_split (λ x. Listed g Metadata x img × (is_sound g x img ≡ true)) f.front (h ∷ f.back) both in (
        all_map (λ x. (Listed g Metadata x img × (is_sound g x img ≡ true)) × Kept g img other x) (Held g img other) held_one f.front (all_both (λ x. Listed g Metadata x img × (is_sound g x img ≡ true)) (Kept g img other) f.front s.0 kept.0),
        all_map (λ x. (Listed g Metadata x img × (is_sound g x img ≡ true)) × Kept g img other x) (Held g img other) held_one f.back (all_both (λ x. Listed g Metadata x img × (is_sound g x img ≡ true)) (Kept g img other) f.back s.1.1 kept.1),
      )

  held_all : All (Held g img other) (f.front ++ f.back)
  held_all = all_append (Held g img other) f.front f.back held.0 held.1

  -- the plan is the rest
  twins_rest : twins g other ≡ ts
  unfolding twins
  twins_rest =
      ap (twins_in (is_twin g other) []) left_over.0 ∙ twins_append (is_twin g other) [] f.front f.back
      ∙ ap₂ (λ (a b : List ObjectHeader). a ++ b)
      (sym (twins_same (Kept g img other) (is_twin g img) (is_twin g other) (λ x y p q. twin_kept g img other r.fine x y p q) [] [] f.front kept.0 (none_before f.front)) ∙ f.none)
      (sym (twins_left g img other r.fine f.front h f.back kept.0 kept.1 f.has) ∙ sym f.rest)
    where
      none_before : (xs : List ObjectHeader) → All (λ x. some (is_twin g img x) [] ≡ some (is_twin g other x) []) xs
      none_before [] = tt
      none_before (x ∷ xs) = (refl, none_before xs)

  referred_same : (l : ObjectLocation) → is_referred g other l ≡ is_referred g img l
  unfolding is_referred
  referred_same l =
      ap (some (λ x. is_among l (locations_of g x other))) left_over.0
      ∙ some_same (λ x. is_among l (locations_of g x other)) (λ x. is_among l (locations_of g x img)) (f.front ++ f.back)
      (all_map (λ x. locations_of g x other ≡ locations_of g x img) (λ x. is_among l (locations_of g x other) ≡ is_among l (locations_of g x img)) (λ x q. ap (is_among l) q) (f.front ++ f.back)
      (held_locations g img other r.fine m.long (f.front ++ f.back) held_all))
      ∙ sym (some_drop (λ x. is_among l (locations_of g x img)) h (is_twin g img h) (λ x q. ap (is_among l) (twin_locations g img r.fine h x q twin_is_whole)) f.front f.back f.has)
      ∙ ap (some (λ x. is_among l (locations_of g x img))) (sym f.order)

  unreferred_same : unreferred g other ≡ unreferred g img
  unfolding unreferred
  unreferred_same =
      ap (λ (t : Tour). except (λ d. is_referred g other d.location) t.objects) data_same
      ∙ except_same (λ d. is_referred g other d.location) (λ d. is_referred g img d.location) (λ d. referred_same d.location) (data_in g img)

  ready_still : Ready g other
  unfolding is_listed
  ready_still =
      record {
        bytes = marked_bytes g h img other m r.bytes;
        fine = fine_now;
        metadata_end = left_over.1 ∙ r.metadata_end;
        data_end = ap (λ (t : Tour). t.end) data_same ∙ r.data_end;
        plain = r.plain;
        sound = subst (All (λ x. is_sound g x other ≡ true)) (sym left_over.0) (still_sound g img other r.fine m.long (f.front ++ f.back) held_all listed_still);
      }
    where
      sound-left : All (λ x. is_sound g x img ≡ true) (f.front ++ f.back)
      sound-left =
          let s = all_split (λ x. is_sound g x img ≡ true) f.front (h ∷ f.back) (subst (All (λ x. is_sound g x img ≡ true)) f.order r.sound) in
          all_append (λ x. is_sound g x img ≡ true) f.front f.back s.0 s.1.1

      listed_still : All (λ x. All (λ l. is_listed g l other ≡ true) (locations_of g x img)) (f.front ++ f.back)
      listed_still =
          all_map (λ x. is_sound g x img ≡ true) (λ x. All (λ l. is_listed g l other ≡ true) (locations_of g x img))
          (λ x q. all_map (λ l. is_listed g l img ≡ true) (λ l. is_listed g l other ≡ true) (λ l k. ap (λ (t : Tour). some (λ d. same_at l d.location) t.objects) data_same ∙ k) (locations_of g x img) (sound_listed g img other r.fine x q))
          (f.front ++ f.back) sound-left

  named_first : (path : List ℕ) (hash : ℕ) → lookup g path hash other ≡ lookup g path hash img
  named_first path hash =
      look_by g img other path hash r.fine fine_now left_over.1
      (ap (λ (xs : List ObjectHeader). first_named (λ x. is_named g path hash x other) xs (tour g Metadata img).end) left_over.0
      ∙ first_same (λ x. is_named g path hash x other) (λ x. is_named g path hash x img) (f.front ++ f.back) (tour g Metadata img).end (held_named g img other r.fine m.long path hash (f.front ++ f.back) held_all)
      ∙ sym (first_drop (λ x. is_named g path hash x img) h f.back (tour g Metadata img).end (is_twin g img h) (λ x q. twin_named g img r.fine h x q twin_is_whole path hash) f.front f.has)
      ∙ ap (λ (xs : List ObjectHeader). first_named (λ x. is_named g path hash x img) xs (tour g Metadata img).end) (sym f.order))

  pub twin_next : Next g img other ts (unreferred g img)
  twin_next =
      record {
        ready = ready_still;
        twins_are = twins_rest;
        unreferred_are = unreferred_same;
        streets = same-streets g img other r.fine m.long (f.front ++ f.back) left_over.0 held_all named_first;
      }
