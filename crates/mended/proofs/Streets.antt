-- The streets between the marks: another one is found where it was; the one that is moved is found at the first of the two places; and all of them
-- read as before the move.
use mathlib.Core.Path.{◌≡◌, refl, sym, ap, ◌∙◌, subst}
use mathlib.Core.Logic.{◌⊎◌, inl, inr}
use mathlib.Core.Bool.{true, false, false≢true}
use mathlib.Core.List.{List, [], ◌∷◌, ◌++◌}
use Prim.Native.Nat.{ℕ, ◌+◌, ◌*◌}
use lib.ListN.{length}
use Rattle.medium.specs.declared.geometry.Geometry.{Geometry}
use Rattle.medium.specs.Geometry.{check_of}
use Rattle.medium.specs.Medium.{lent}
use Rattle.medium.specs.Operation.{Answer, done, and_then}
use Rattle.objects.specs.declared.types.ObjectType.{ObjectType}
use Rattle.objects.specs.declared.location.ObjectLocation.{ObjectLocation}
use Rattle.objects.specs.declared.header.ObjectHeader.{ObjectHeader}
use Rattle.objects.specs.declared.metadata.MetadataObjectHeader.{MetadataObjectHeader}
use Rattle.objects.specs.Info.{Info, found, info_at}
use Rattle.objects.specs.Location.{location_length}
use Rattle.objects.specs.Payload.{read_payload}
use Rattle.objects.specs.Metadata.{metadata_header, metadata_of, metadata_at}
use Rattle.blocks.specs.declared.header.BlockType.TheVariants.{Metadata}
use Rattle.storage.specs.Order.{is_of, tour}
use Rattle.storage.specs.Lookup.{is_named, first_named, lookup}
use Rattle.storage.specs.File.{Places, places_of, gather, gather_at, read_file, sizes, file_size}
use Rattle.storage.specs.Laws.{All, FirstAt, FindsFirst}
use Rattle.powercut.specs.Demand.{Whole, payload_in, Movable}
use Rattle.powercut.specs.Listed.{Listable}
use Rattle.sweep.specs.Referring.{metadata_in}
use Rattle.sweep.specs.Twins.{is_twin}
use Rattle.mended.specs.Mended.{first_of, AllBut, OtherSame, OwnSame, LikeSame}
use Rattle.storage.proofs.Finding.{all_of, finds_first}
use Rattle.storage.proofs.Lists.{all_append}
use Rattle.sweep.proofs.Lists.{all_map}
use Rattle.sweep.proofs.Marks.{Listed, at_object}
use Rattle.sweep.proofs.Toured.{all_listed}
use Rattle.sweep.proofs.Kept.{twin_kept}
use Rattle.sweep.proofs.ReadsKept.{Filled, further_in, bytes_of, further_of, metadata_by, metadata_of_lem, places_of_lem, filled_whole, whole-kept, named-kept, read_kept, size-kept}
use Rattle.sweep.proofs.SameTwin.{twin_named}
use Rattle.sweep.proofs.Ready.{Ready, Held, all_split, all_both}
use Rattle.sweep.proofs.Stepped.{passed, first_same, look_by, held_named}
use Rattle.mended.proofs.Lists.{In, any_right}
use Rattle.mended.proofs.Alike.{twin_turned, twin_payload}
use Rattle.mended.proofs.Copied.{copied, copy_in, same_length, fine, copy_whole, still_whole, tour_metadata, held, held_original, original_payload, original_reads, copy_reads, alike, copy_named}
use Rattle.mended.proofs.Two.{Two, two, of_both, before-first}

-- ---- a file by the payload of its metadata object

module _ (g : Geometry) (o : ObjectHeader) (img bs : List ℕ) (k : ℕ) (f : Filled g o img bs k) (i : info_at g o.location img ≡ done (found o)) where
  opens : metadata_at g o.location img ≡ done (metadata_by g o bs 0)
  unfolding metadata_at
  opens = ap (λ (x : Answer Info). and_then x (metadata_of g img)) i ∙ metadata_of_lem g o img bs k f

  file_of : (p n : ℕ) → read_file g o.location p n img ≡ gather g (further_in g bs 0 k) (done tt) p n img
  unfolding read_file
  file_of p n = ap (λ (x : Answer MetadataObjectHeader). and_then x (λ m. gather_at g (places_of g m img) p n img)) opens ∙ ap (λ (x : Places). gather_at g x p n img) (places_of_lem g o img bs k f)

  size_of : file_size g o.location img ≡ sizes g (further_in g bs 0 k) (done tt) img
  unfolding file_size
  size_of = ap (λ (x : Answer MetadataObjectHeader). and_then x (λ m. sizes g (places_of g m img).at (places_of g m img).end img)) opens ∙ ap (λ (x : Places). sizes g x.at x.end img) (places_of_lem g o img bs k f)

module _ (g : Geometry) (h : ObjectHeader) (to : ObjectLocation) (room : ℕ) (t : ObjectType) (img : List ℕ) (v : Movable g h to room t img) (w : Listable g h to room img)
    (kind : is_of g Metadata h.location.block img ≡ done true) (kind-to : is_of g Metadata to.block img ≡ done true) (r : Ready g img) where
  abbrev m : List ℕ
  m = copied g h to t img

  abbrev copy : ObjectHeader
  copy = copy_in g h to t img

  abbrev pay : List ℕ
  pay = payload_in g h img

  long : length (copied g h to t img) ≡ length img
  long = same_length g h to room t img v w kind kind-to r

  ok : check_of g (length (copied g h to t img)) ≡ 0
  ok = fine g h to room t img v w kind kind-to r

  held_by_all : All (Held g img (copied g h to t img)) (metadata_in g img)
  held_by_all = held g h to room t img v w kind kind-to r

  the_held : Held g img (copied g h to t img) h
  the_held = held_original g h to room t img v w kind kind-to r

  -- ---- what is read from an object that was there before

  read_held : (e : ObjectHeader) → Held g img m e → (p n : ℕ) → read_file g e.location p n m ≡ read_file g e.location p n img
  read_held e k p n = read_kept g img m r.fine long e k.whole k.kept k.info k.stays p n

  size_held : (e : ObjectHeader) → Held g img m e → file_size g e.location m ≡ file_size g e.location img
  size_held e k = size-kept g img m r.fine long e k.whole k.kept k.info k.stays

  -- ---- another street

  module _ (path : List ℕ) (hash : ℕ) (other : is_named g path hash h img ≡ done false) where
    same-lookup : lookup g path hash m ≡ lookup g path hash img
    same-lookup =
        let d = tour_metadata g h to room t img v w kind kind-to r in
        look_by g img m path hash r.fine ok (sym d.end)
        (ap (λ (xs : List ObjectHeader). first_named (λ x. is_named g path hash x m) xs (tour g Metadata img).end) d.was
        ∙ passed (λ x. is_named g path hash x m) copy d.back (tour g Metadata img).end (copy_named g h to room t img v w kind kind-to r path hash ∙ other) d.front
        ∙ ap (λ (xs : List ObjectHeader). first_named (λ x. is_named g path hash x m) xs (tour g Metadata img).end) (sym d.is)
        ∙ first_same (λ x. is_named g path hash x m) (λ x. is_named g path hash x img) (metadata_in g img) (tour g Metadata img).end (held_named g img m r.fine long path hash (metadata_in g img) held_by_all))

    module _ (at : ObjectLocation) (e : lookup g path hash img ≡ done at) where
      first : FirstAt g path hash img at
      unfolding FindsFirst
      first = (finds_first g path hash img at).0 e

      held_first : Held g img m first.object
      held_first = all_of (Held g img m) first.before first.object first.after (subst (All (Held g img m)) first.order held_by_all)

      read_first : (p n : ℕ) → read_file g at p n m ≡ read_file g at p n img
      read_first p n = subst (λ (l : ObjectLocation). read_file g l p n m ≡ read_file g l p n img) first.place (read_held first.object held_first p n)

      size-first : file_size g at m ≡ file_size g at img
      size-first = subst (λ (l : ObjectLocation). file_size g l m ≡ file_size g l img) first.place (size_held first.object held_first)

    pub other-same : OtherSame g path hash img (copied g h to t img)
    other-same = record { found = same-lookup; reads = read_first; size = size-first }

  -- ---- the street that is moved: every object of its payload gives the same file

  as_long : length pay ≡ metadata_header g + further_of g h * location_length g
  as_long = let e : bytes_of g h img ≡ pay = ap lent (original_payload g h to room t img v w kind kind-to r) in ap length (sym e) ∙ (filled_whole g h img r.fine the_held.whole).long

  filled : (o : ObjectHeader) → read_payload g o m ≡ done pay → Filled g o m pay (further_of g h)
  filled o e = record { fine = ok; reads = e; long = as_long }

  whole_now : Whole g h t (payload_in g h img) (copied g h to t img)
  whole_now = still_whole g h to room t img v w kind kind-to r

  reads_now : read_payload g h m ≡ done pay
  reads_now = original_reads g h to room t img v w kind kind-to r

  module _ (o : ObjectHeader) (i : info_at g o.location m ≡ done (found o)) (e : read_payload g o m ≡ done pay) where
    same_read : (p n : ℕ) → read_file g o.location p n m ≡ read_file g h.location p n img
    same_read p n =
        file_of g o m pay (further_of g h) (filled o e) i p n ∙ sym (file_of g h m pay (further_of g h) (filled h reads_now) whole_now.info p n) ∙ read_held h the_held p n

    same_size : file_size g o.location m ≡ file_size g h.location img
    same_size = size_of g o m pay (further_of g h) (filled o e) i ∙ sym (size_of g h m pay (further_of g h) (filled h reads_now) whole_now.info) ∙ size_held h the_held

  abbrev both : Two g h to t img
  both = two g h to room t img v w kind kind-to r

  -- what holds of both holds of the first
  of_first : (P : ObjectHeader → Type 0) → P h → P copy → P both.first
  of_first P a b = (of_both g h to room t img v w kind kind-to r P a b).0

  first_info : info_at g both.first.location m ≡ done (found both.first)
  first_info = of_first (λ e. info_at g e.location m ≡ done (found e)) whole_now.info (copy_whole g h to room t img v w kind kind-to r).info

  first_reads : read_payload g both.first m ≡ done pay
  first_reads = of_first (λ e. read_payload g e m ≡ done pay) reads_now (copy_reads g h to room t img v w kind kind-to r)

  module _ (path : List ℕ) (hash : ℕ) (own : is_named g path hash h img ≡ done true) where
    named-now : is_named g path hash h m ≡ done true
    named-now = named-kept g img m r.fine long h the_held.whole the_held.kept the_held.info the_held.stays path hash ∙ own

    -- what the others say of the name they say still
    others-now : (P : ObjectHeader → Type 0) → All (λ e. P e ⊎ (is_named g path hash e img ≡ done false)) (metadata_in g img) → All (λ e. P e ⊎ (is_named g path hash e m ≡ done false)) (metadata_in g img)
    others-now P a =
        all_map (λ e. (P e ⊎ (is_named g path hash e img ≡ done false)) × (is_named g path hash e m ≡ is_named g path hash e img)) (λ e. P e ⊎ (is_named g path hash e m ≡ done false)) (λ e p. go e p.0 p.1) (metadata_in g img)
        (all_both (λ e. P e ⊎ (is_named g path hash e img ≡ done false)) (λ e. is_named g path hash e m ≡ is_named g path hash e img) (metadata_in g img) a
        (held_named g img m r.fine long path hash (metadata_in g img) held_by_all))
      where
        go : (e : ObjectHeader) → P e ⊎ (is_named g path hash e img ≡ done false) → is_named g path hash e m ≡ is_named g path hash e img → P e ⊎ (is_named g path hash e m ≡ done false)
        go e (inl q) k = inl q
        go e (inr q) k = inr (k ∙ q)

    -- ---- every other object has another name

    module _ (alone : AllBut h.location (λ e. is_named g path hash e img ≡ done false) g img) where
      own-lookup : lookup g path hash m ≡ done (first_of h to)
      unfolding FindsFirst
      own-lookup =
          (finds_first g path hash m (first_of h to)).1
          (record {
            fine = ok;
            before = both.before;
            object = both.first;
            after = both.between ++ both.second ∷ both.behind;
            order = both.order;
            others = before-first g h to room t img v w kind kind-to r (λ e. is_named g path hash e m ≡ done false) (others-now (λ e. e.location ≡ h.location) alone);
            named = of_first (λ e. is_named g path hash e m ≡ done true) named-now (copy_named g h to room t img v w kind kind-to r path hash ∙ own);
            place = both.at_first;
          })

      pub own_same : OwnSame g path hash h to img (copied g h to t img)
      own_same =
          record {
            found = own-lookup;
            reads = λ p n. subst (λ (l : ObjectLocation). read_file g l p n m ≡ read_file g h.location p n img) both.at_first (same_read both.first first_info first_reads p n);
            size = subst (λ (l : ObjectLocation). file_size g l m ≡ file_size g h.location img) both.at_first (same_size both.first first_info first_reads);
          }

    -- ---- or is like it

    abbrev Like : ObjectHeader → Type 0
    Like e = (is_twin g m e h ≡ true) ⊎ (is_named g path hash e m ≡ done false)

    -- the first that is like it
    record FirstLike (xs : List ObjectHeader) : Type 0 where
      before : List ObjectHeader
      object : ObjectHeader
      after : List ObjectHeader
      order : xs ≡ before ++ object ∷ after
      others : All (λ e. is_named g path hash e m ≡ done false) before
      like : is_twin g m object h ≡ true

    first_like : (xs : List ObjectHeader) → All Like xs → In h xs → FirstLike xs
    first_like [] a i = absurd i
    first_like (x ∷ xs) a i = go a.0 i (λ k. first_like xs a.1 k)
      where
        go : Like x → In h (x ∷ xs) → (In h xs → FirstLike xs) → FirstLike (x ∷ xs)
        go (inl l) i more = record { before = []; object = x; after = xs; order = refl; others = tt; like = l }
        go (inr n) (inl q) more = absurd (no (sym n ∙ ap (λ (e : ObjectHeader). is_named g path hash e m) q ∙ named-now))
          where
            no : done false ≡ done true → ⊥
            no e = let z : false ≡ true = cc in absurd (false≢true z)
        go (inr n) (inr k) more =
            let f = more k in
            record { before = x ∷ f.before; object = f.object; after = f.after; order = ap (λ (l : List ObjectHeader). x ∷ l) f.order; others = (n, f.others); like = f.like }

    module _ (others : All (λ e. (is_twin g img e h ≡ true) ⊎ (is_named g path hash e img ≡ done false)) (metadata_in g img)) where
      all-like : All Like (metadata_in g m)
      all-like =
          let d = tour_metadata g h to room t img v w kind kind-to r in
          let s = all_split Like d.front d.back (subst (All Like) d.is (all_map (λ e. ((is_twin g img e h ≡ true) ⊎ (is_named g path hash e m ≡ done false)) × Held g img m e) Like (λ e p. go e p.0 p.1) (metadata_in g img)
          (all_both (λ e. (is_twin g img e h ≡ true) ⊎ (is_named g path hash e m ≡ done false)) (Held g img m) (metadata_in g img) (others-now (λ e. is_twin g img e h ≡ true) others) held_by_all))) in
          subst (All Like) (sym d.was) (all_append Like d.front (copy ∷ d.back) s.0 (inl (twin_turned g m h copy (alike g h to room t img v w kind kind-to r)), s.1))
        where
          go : (e : ObjectHeader) → (is_twin g img e h ≡ true) ⊎ (is_named g path hash e m ≡ done false) → Held g img m e → Like e
          go e (inl q) k = inl (twin_kept g img m r.fine e h k.kept the_held.kept ∙ q)
          go e (inr q) k = inr q

      in_all : In h (metadata_in g m)
      in_all = subst (In h) (sym both.order) (of_two both.are)
        where
          of_two : ((both.first ≡ h) × (both.second ≡ copy)) ⊎ ((both.first ≡ copy) × (both.second ≡ h)) → In h (both.before ++ both.first ∷ (both.between ++ both.second ∷ both.behind))
          of_two (inl e) = any_right (λ x. x ≡ h) both.before (both.first ∷ (both.between ++ both.second ∷ both.behind)) (inl e.0)
          of_two (inr e) = any_right (λ x. x ≡ h) both.before (both.first ∷ (both.between ++ both.second ∷ both.behind)) (inr (any_right (λ x. x ≡ h) both.between (both.second ∷ both.behind) (inl e.1)))

      liked : FirstLike (metadata_in g m)
      liked = first_like (metadata_in g m) all-like in_all

      liked-listed : Listed g Metadata liked.object m
      liked-listed = all_of (λ e. Listed g Metadata e m) liked.before liked.object liked.after (subst (All (λ e. Listed g Metadata e m)) liked.order (all_listed g Metadata m))

      info-liked : info_at g liked.object.location m ≡ done (found liked.object)
      info-liked = (at_object g Metadata liked.object m ok liked-listed).info

      payload-liked : read_payload g liked.object m ≡ done pay
      payload-liked = twin_payload g m h liked.object pay (twin_turned g m liked.object h liked.like) reads_now

      named-liked : is_named g path hash liked.object m ≡ done true
      named-liked = sym (twin_named g m ok h liked.object (twin_turned g m liked.object h liked.like) (whole-kept g img m r.fine long h ∙ the_held.whole) path hash) ∙ named-now

      like-lookup : lookup g path hash m ≡ done liked.object.location
      unfolding FindsFirst
      like-lookup =
          (finds_first g path hash m liked.object.location).1
          (record { fine = ok; before = liked.before; object = liked.object; after = liked.after; order = liked.order; others = liked.others; named = named-liked; place = refl })

      pub like-same : LikeSame g path hash h img (copied g h to t img)
      like-same = record { at = liked.object.location; found = like-lookup; reads = same_read liked.object info-liked payload-liked; size = same_size liked.object info-liked payload-liked }
