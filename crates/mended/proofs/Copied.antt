-- The store between the marks of a move: it has the copy besides, which tells what the original does; all that it had before is kept, and it can be
-- swept as before.
use mathlib.Core.Path.{◌≡◌, refl, sym, ap, ap₂, ◌∙◌, subst}
use mathlib.Core.Logic.{◌⊎◌, inl, inr, ◌≢◌}
use mathlib.Core.Bool.{Bool, true, false, ◌&&◌, false≢true}
use mathlib.Core.List.{List, ◌∷◌, ◌++◌}
use Prim.Native.Nat.{ℕ, ◌+◌, ◌≤◌}
use native.Mathlib.Omega.{arith}
use lib.ListN.{length, take}
use Rattle.medium.specs.declared.geometry.Geometry.{Geometry}
use Rattle.medium.specs.Granularity.{pick}
use Rattle.medium.specs.Geometry.{check_of}
use Rattle.medium.specs.Operation.{Answer, done}
use Rattle.objects.specs.declared.types.ObjectType.{ObjectType}
use Rattle.objects.specs.declared.location.ObjectLocation.{ObjectLocation}
use Rattle.objects.specs.declared.header.ObjectHeader.{ObjectHeader}
use Rattle.objects.specs.Payload.{read_payload}
use Rattle.objects.specs.Listing.{listing}
use Rattle.blocks.specs.declared.header.BlockType.TheVariants.{Metadata, Data}
use Rattle.storage.specs.Order.{Tour, finished_in, listed_tour, open_tour, is_finished, is_of, tour_if, tour}
use Rattle.storage.specs.Lookup.{is_named}
use Rattle.storage.specs.Laws.{All}
use Rattle.fresh.specs.Units.{address_of, span, new_units}
use Rattle.fresh.specs.Fresh.{after, new_header, marks_after}
use Rattle.powercut.specs.Demand.{Whole, payload_in, Movable, units_to, Demand}
use Rattle.powercut.specs.Listed.{Listable}
use Rattle.sweep.specs.Lists.{some, every}
use Rattle.sweep.specs.Referring.{metadata_in, data_in, same_at, locations_of, is_whole, is_listed, is_sound}
use Rattle.sweep.specs.Twins.{is_twin}
use Rattle.mended.specs.Mended.{cut_between}
use Rattle.medium.proofs.Padding.{apply_bytes}
use Rattle.shown.proofs.Agreeing.{Agree, agree_less}
use Rattle.shown.proofs.Walk.{visit}
use Rattle.fresh.proofs.Fresh.{long, whole_with_mark}
use Rattle.fresh.proofs.Scans.{finished_span}
use Rattle.powercut.proofs.Survive.{told, demand}
use Rattle.powercut.proofs.Scans.{room_is, end_is, n_is, as_new}
use Rattle.byname.proofs.Kept.{whole_img}
use Rattle.storage.proofs.Lists.{finished_append, all_append}
use Rattle.storage.proofs.Heads.{Before, Sorted}
use Rattle.sweep.proofs.Lists.{all_map}
use Rattle.sweep.proofs.Marks.{Listed}
use Rattle.sweep.proofs.Toured.{block_tour, Dropped, all_listed, one_type}
use Rattle.sweep.proofs.Kept.{Kept, end_of, before_one, behind_one_lem, in_order}
use Rattle.sweep.proofs.ReadsKept.{Stays, named-kept, whole-kept}
use Rattle.sweep.proofs.SameTwin.{twin_named, twin_locations, twin_whole}
use Rattle.sweep.proofs.Alike.{both_true}
use Rattle.sweep.proofs.Ready.{Ready, Held, all_both, all_split, stays_by, held_by, sound_listed}
use Rattle.sweep.proofs.Stepped.{still_sound}
use Rattle.mended.proofs.Lists.{In, any_right, all_in}
use Rattle.mended.proofs.Alike.{whole_payload, twin_by}
use Rattle.mended.proofs.Grown.{tour_has, agree_else, agree_aside, tour_other, tour_own}

-- the image between the marks, and the copy in it
abbrev pub copied : Geometry → ObjectHeader → ObjectLocation → ObjectType → List ℕ → List ℕ
copied g h to t img = after g to t (payload_in g h img) img (units_to g h + 1)

abbrev pub copy_in : Geometry → ObjectHeader → ObjectLocation → ObjectType → List ℕ → ObjectHeader
copy_in g h to t img = new_header to t (payload_in g h img)

module _ (g : Geometry) (h : ObjectHeader) (to : ObjectLocation) (room : ℕ) (t : ObjectType) (img : List ℕ) (v : Movable g h to room t img) (w : Listable g h to room img) where
  pub as_copied : cut_between g h to img ≡ copied g h to t img
  as_copied = as_new g h to room t img v w (units_to g h + 1) (omega (arith, n_is g h to room t img v w))

module _ (g : Geometry) (h : ObjectHeader) (to : ObjectLocation) (room : ℕ) (t : ObjectType) (img : List ℕ) (v : Movable g h to room t img) (w : Listable g h to room img)
    (kind : is_of g Metadata h.location.block img ≡ done true) (kind-to : is_of g Metadata to.block img ≡ done true) (r : Ready g img) where
  abbrev pay : List ℕ
  pay = payload_in g h img

  abbrev m : List ℕ
  m = copied g h to t img

  abbrev copy : ObjectHeader
  copy = copy_in g h to t img

  enough : marks_after g (payload_in g h img) + 1 ≤ units_to g h + 1
  enough = omega (arith, n_is g h to room t img v w)

  pub same_length : length (copied g h to t img) ≡ length img
  same_length = long g to pay img (room_is g h to room t img v w) t (units_to g h + 1)

  pub fine : check_of g (length (copied g h to t img)) ≡ 0
  fine = ap (check_of g) same_length ∙ v.fine

  pub copy_whole : Whole g (copy_in g h to t img) t (payload_in g h img) (copied g h to t img)
  copy_whole = whole_with_mark g to pay img (room_is g h to room t img v w) t (units_to g h + 1) enough

  pub still_whole : Whole g h t (payload_in g h img) (copied g h to t img)
  unfolding Demand
  still_whole = subst (Whole g h t pay) (as_copied g h to room t img v w) (((demand g h to room t img v).1 (units_to g h + 1)).between_marks refl).0

  -- ---- the tours

  pub tour_metadata : Dropped (copy_in g h to t img) (tour g Metadata (copied g h to t img)) (tour g Metadata img)
  tour_metadata = tour_own g to t pay img (room_is g h to room t img v w) (end_is g h to room t img v w) (units_to g h + 1) enough Metadata kind-to r.metadata_end

  tour_data : tour g Data (copied g h to t img) ≡ tour g Data img
  tour_data = tour_other g to t pay img (room_is g h to room t img v w) (end_is g h to room t img v w) (units_to g h + 1) enough Data (one_type g Metadata Data to.block img (λ q. omega arith) kind-to)

  -- what stands before the copy, and behind it
  abbrev front : List ObjectHeader
  front = tour_metadata.front

  abbrev back : List ObjectHeader
  back = tour_metadata.back

  pub sorted_all : Sorted g Metadata (copied g h to t img) fine (front ++ copy ∷ back)
  sorted_all = subst (Sorted g Metadata m fine) tour_metadata.was (in_order g Metadata m fine)

  -- the original is among them
  listed : Listed g Metadata h img
  listed = record { kind = kind; type = t; state = v.finished; before = w.listed.before; after = w.listed.after; is = w.listed.is }

  pub original_in : In h (metadata_in g img)
  unfolding open_tour listing
  original_in =
      tour_has g Metadata img (λ e. e ≡ h) h.location.block
      (subst (In h) (sym objects) (any_right (λ e. e ≡ h) (finished_in w.listed.before) (h ∷ finished_in w.listed.after) (inl refl))) (told g h to room t img v).block r.metadata_end
    where
      finished : is_finished h ≡ true
      finished = rw v.finished refl

      objects : (block_tour g Metadata img h.location.block).objects ≡ finished_in w.listed.before ++ h ∷ finished_in w.listed.after
      objects =
          ap (λ (a : Answer Bool). (tour_if a (listed_tour (listing g h.location.block img))).objects) kind ∙ ap finished_in w.listed.is
          ∙ finished_append w.listed.before (visit g h.location.block h.location.offset h ∷ w.listed.after)
          ∙ ap (λ (x : Bool). finished_in w.listed.before ++ pick x (h ∷ finished_in w.listed.after) (finished_in w.listed.after)) finished

  -- ---- what was there before is kept

  kept_else : (e : ObjectHeader) → e.location.block ≢ to.block → Kept g img m e
  kept_else e n =
      agree_less g e.location.block 0 g.size e.location.offset (end_of g e) img m
      (agree_else g to t pay img (room_is g h to room t img v w) (end_is g h to room t img v w) (units_to g h + 1) enough e.location.block n) (omega arith) (omega arith)

  kept_aside : (e : ObjectHeader) → e.location.block ≡ to.block → (end_of g e ≤ to.offset) ⊎ (to.offset + span g.granularity g.s (length pay) ≤ e.location.offset) → Kept g img m e
  kept_aside e q d =
      subst (λ (b : ℕ). Agree g b e.location.offset (end_of g e) img m) (sym q)
      (agree_aside g to t pay img (room_is g h to room t img v w) (end_is g h to room t img v w) (units_to g h + 1) enough e.location.offset (end_of g e) d)

  kept_before : (e : ObjectHeader) → Before g Metadata m fine e copy → Kept g img m e
  kept_before e (inl x) = kept_else e (λ q. omega arith)
  kept_before e (inr x) = kept_aside e x.0 (inl (omega (arith, x.1)))

  kept_behind : (e : ObjectHeader) → Before g Metadata m fine copy e → Kept g img m e
  kept_behind e (inl x) = kept_else e (λ q. omega arith)
  kept_behind e (inr x) = kept_aside e (sym x.0) (inr (omega (arith, x.1, finished_span g to t pay img (room_is g h to room t img v w) (end_is g h to room t img v w))))

  pub kept_metadata : All (Kept g img (copied g h to t img)) (metadata_in g img)
  kept_metadata =
      subst (All (Kept g img m)) (sym tour_metadata.is)
      (all_append (Kept g img m) front back
      (all_map (λ e. Before g Metadata m fine e copy) (Kept g img m) kept_before front (before_one g Metadata m fine front copy back sorted_all))
      (all_map (λ e. Before g Metadata m fine copy e) (Kept g img m) kept_behind back (behind_one_lem g Metadata m fine front copy back sorted_all)))

  kept_data : (d : ObjectHeader) → Listed g Data d img → Listed g Data d img × Kept g img m d
  kept_data d l = (l, kept_else d (λ q. no (sym l.kind ∙ ap (λ (b : ℕ). is_of g Data b img) q ∙ one_type g Metadata Data to.block img (λ q. omega arith) kind-to)))
    where
      no : done true ≡ done false → ⊥
      no q = let z : true ≡ false = cc in absurd (false≢true (sym z))

  all_data : All (λ d. Listed g Data d img × Kept g img m d) (data_in g img)
  all_data = all_map (λ d. Listed g Data d img) (λ d. Listed g Data d img × Kept g img m d) kept_data (data_in g img) (all_listed g Data img)

  held_one : (x : ObjectHeader) → ((Listed g Metadata x img × (is_sound g x img ≡ true)) × Kept g img m x) → Held g img m x
  unfolding is_listed
  held_one x p =
      held_by g img m r.fine x p.0.0 p.0.1 p.1
      (all_map (λ l. is_listed g l img ≡ true) (Stays g img m) (λ l q. stays_by g img m r.fine l (data_in g img) all_data q) (locations_of g x img) (sound_listed g img m r.fine x p.0.1))

  pub held : All (Held g img (copied g h to t img)) (metadata_in g img)
  held =
      all_map (λ x. (Listed g Metadata x img × (is_sound g x img ≡ true)) × Kept g img m x) (Held g img m) held_one (metadata_in g img)
      (all_both (λ x. Listed g Metadata x img × (is_sound g x img ≡ true)) (Kept g img m) (metadata_in g img)
      (all_both (λ x. Listed g Metadata x img) (λ x. is_sound g x img ≡ true) (metadata_in g img) (all_listed g Metadata img) r.sound) kept_metadata)

  pub held_original : Held g img (copied g h to t img) h
  held_original = all_in (Held g img m) h (metadata_in g img) original_in held

  -- ---- the copy tells what the original does

  pub original_payload : read_payload g h img ≡ done (payload_in g h img)
  original_payload = whole_payload g h t pay img (whole_img g h to room t img v)

  pub original_reads : read_payload g h (copied g h to t img) ≡ done (payload_in g h img)
  original_reads = whole_payload g h t pay m still_whole

  pub copy_reads : read_payload g (copy_in g h to t img) (copied g h to t img) ≡ done (payload_in g h img)
  copy_reads = whole_payload g copy t pay m copy_whole

  pub alike : is_twin g (copied g h to t img) h (copy_in g h to t img) ≡ true
  alike = twin_by g m h copy pay v.finished original_reads copy_reads

  original_whole : is_whole g h (length m) ≡ true
  original_whole = whole-kept g img m r.fine same_length h ∙ held_original.whole

  pub copy_named : (path : List ℕ) (hash : ℕ) → is_named g path hash (copy_in g h to t img) (copied g h to t img) ≡ is_named g path hash h img
  copy_named path hash =
      sym (twin_named g m fine h copy alike original_whole path hash)
      ∙ named-kept g img m r.fine same_length h held_original.whole held_original.kept held_original.info held_original.stays path hash

  -- ---- so the store can be swept

  listed_still : (x : ObjectHeader) → is_sound g x img ≡ true → All (λ l. is_listed g l m ≡ true) (locations_of g x img)
  unfolding is_listed
  listed_still x q =
      all_map (λ l. is_listed g l img ≡ true) (λ l. is_listed g l m ≡ true) (λ l k. ap (λ (y : Tour). some (λ d. same_at l d.location) y.objects) tour_data ∙ k) (locations_of g x img) (sound_listed g img m r.fine x q)

  sound_still : All (λ x. is_sound g x m ≡ true) (metadata_in g img)
  sound_still =
      still_sound g img m r.fine same_length (metadata_in g img) held
      (all_map (λ x. is_sound g x img ≡ true) (λ x. All (λ l. is_listed g l m ≡ true) (locations_of g x img)) listed_still (metadata_in g img) r.sound)

  copy_sound : is_sound g copy m ≡ true
  unfolding is_sound
  copy_sound =
      let s = both_true (is_whole g h (length m)) (every (λ l. is_listed g l m) (locations_of g h m)) (all_in (λ x. is_sound g x m ≡ true) h (metadata_in g img) original_in sound_still) in
      ap₂ (λ (a b : Bool). a && b) (twin_whole g m fine h copy alike original_whole) (ap (every (λ l. is_listed g l m)) (sym (twin_locations g m fine h copy alike original_whole)) ∙ s.1)

  pub ready_still : Ready g (copied g h to t img)
  ready_still =
      let s = all_split (λ x. is_sound g x m ≡ true) front back (subst (All (λ x. is_sound g x m ≡ true)) tour_metadata.is sound_still) in
      record {
        bytes = apply_bytes (take (units_to g h + 1) (new_units g.granularity g.s t pay (address_of g to))) img v.bytes;
        fine = fine;
        metadata_end = sym tour_metadata.end ∙ r.metadata_end;
        data_end = ap (λ (y : Tour). y.end) tour_data ∙ r.data_end;
        plain = r.plain;
        sound = subst (All (λ x. is_sound g x m ≡ true)) (sym tour_metadata.was) (all_append (λ x. is_sound g x m ≡ true) front (copy ∷ back) s.0 (copy_sound, s.1));
      }
