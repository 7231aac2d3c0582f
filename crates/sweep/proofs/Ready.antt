-- A store that can be swept: what its check tells, and what makes one.
use mathlib.Core.Path.{◌≡◌, refl, sym, ap, ap₂, ◌∙◌, subst}
use mathlib.Core.Bool.{Bool, true, false, ◌&&◌, ◌||◌, not, false≢true}
use mathlib.Core.List.{List, [], ◌∷◌, ◌++◌}
use Prim.Native.Nat.{ℕ}
use native.Mathlib.Omega.{arith}
use lib.ListN.{length}
use lib.Dec.{eqb}
use borrow.Author.Tests.{eqb-true, eq-eqb, ne_eqb}
use Rattle.medium.specs.declared.geometry.Geometry.{Geometry}
use Rattle.medium.specs.Granularity.{pick}
use Rattle.medium.specs.Geometry.{check_of}
use Rattle.medium.specs.Operation.{done, refused, and_then}
use Rattle.medium.proofs.Padding.{AreBytes}
use Rattle.objects.specs.declared.location.ObjectLocation.{ObjectLocation}
use Rattle.objects.specs.declared.header.ObjectHeader.{ObjectHeader}
use Rattle.objects.specs.Header.{header_at}
use Rattle.objects.specs.Info.{found, info_at}
use Rattle.blocks.specs.declared.header.BlockType.TheVariants.{Metadata, Data}
use Rattle.storage.specs.Order.{tour}
use Rattle.storage.specs.Lookup.{lookup}
use Rattle.storage.specs.File.{read_file, file_size}
use Rattle.storage.specs.Laws.{All, FirstAt, FindsFirst}
use Rattle.storage.proofs.Finding.{all_of, finds_first}
use Rattle.shown.proofs.Reading.{and_back}
use Rattle.sweep.specs.Lists.{some, every}
use Rattle.sweep.specs.Referring.{metadata_in, same_at, locations_of, is_whole, is_listed, is_sound, sweepable}
use Rattle.sweep.specs.Laws.{SameStreets}
use Rattle.sweep.proofs.Marks.{Listed, at_object, header_is}
use Rattle.sweep.proofs.Endings.{sweepable_by}
use Rattle.sweep.proofs.Kept.{Kept}
use Rattle.sweep.proofs.Alike.{both_true}
use Rattle.sweep.proofs.ReadsKept.{Stays, read_kept, size-kept}
use Rattle.sweep.proofs.Turns.{sweepable_fine}

-- ---- lists

pub all_split : {A : Type 0} (P : A → Type 0) (xs ys : List A) → All P (xs ++ ys) → All P xs × All P ys
all_split P [] ys a = (tt, a)
all_split P (x ∷ xs) ys a = let r = all_split P xs ys a.1 in ((a.0, r.0), r.1)

pub all_both : {A : Type 0} (P Q : A → Type 0) (xs : List A) → All P xs → All Q xs → All (λ x. P x × Q x) xs
all_both P Q [] a b = tt
all_both P Q (x ∷ xs) a b = ((a.0, b.0), all_both P Q xs a.1 b.1)

module _ {A : Type 0} (p : A → Bool) where
  pub every_all : (xs : List A) → every p xs ≡ true → All (λ x. p x ≡ true) xs
  every_all [] e = tt
  every_all (x ∷ xs) e = let b = both_true (p x) (every p xs) e in (b.0, every_all xs b.1)

  pub all_every : (xs : List A) → All (λ x. p x ≡ true) xs → every p xs ≡ true
  all_every [] a = refl
  all_every (x ∷ xs) a = rw a.0 (all_every xs a.1)

  pub some_none_of : (xs : List A) → some p xs ≡ false → All (λ x. p x ≡ false) xs
  some_none_of [] e = tt
  some_none_of (x ∷ xs) e = go (p x) refl e (λ q. some_none_of xs q)
    where
      go : (b : Bool) → p x ≡ b → (b || some p xs) ≡ false → (some p xs ≡ false → All (λ x. p x ≡ false) xs) → All (λ x. p x ≡ false) (x ∷ xs)
      go true q r more = absurd (false≢true (sym r))
      go false q r more = (q, more r)

  pub record Found (P : A → Type 0) : Type 0 where
    pub one : A
    pub has : P one
    pub passes : p one ≡ true

  pub found_one : (P : A → Type 0) (xs : List A) → All P xs → some p xs ≡ true → Found P
  found_one P [] a e = absurd (false≢true e)
  found_one P (x ∷ xs) a e = go (p x) refl e (λ q. found_one P xs a.1 q)
    where
      go : (b : Bool) → p x ≡ b → (b || some p xs) ≡ true → (some p xs ≡ true → Found P) → Found P
      go true q r more = record { one = x; has = a.0; passes = q }
      go false q r more = more r

pub same_place_is : (a b : ObjectLocation) → same_at a b ≡ true → a ≡ b
same_place_is a b e =
    let p = both_true (eqb a.block b.block) (eqb a.offset b.offset) e in
    ap₂ (λ (x y : ℕ). record { block = x; offset = y }) (eqb-true _ _ p.0) (eqb-true _ _ p.1)

-- ---- what the check tells

pub record Ready (g : Geometry) (img : List ℕ) : Type 0 where
  pub bytes : AreBytes img
  pub fine : check_of g (length img) ≡ 0
  pub metadata_end : (tour g Metadata img).end ≡ done tt
  pub data_end : (tour g Data img).end ≡ done tt
  pub sound : All (λ h. is_sound g h img ≡ true) (metadata_in g img)
  pub plain : g.strict ≡ 1 → ⊥

pub ready_of : (g : Geometry) (img : List ℕ) → AreBytes img → sweepable g img ≡ done tt → Ready g img
ready_of g img b e =
    let fine = sweepable_fine g img e in
    let q = sym (sweepable_by g img fine) ∙ e in
    let x = and_back (tour g Metadata img).end (λ _. and_then (tour g Data img).end (λ _. pick (not (eqb g.strict 1) && every (λ h. is_sound g h img) (metadata_in g img)) (done tt) (refused 14))) tt q in
    let y = and_back (tour g Data img).end (λ _. pick (not (eqb g.strict 1) && every (λ h. is_sound g h img) (metadata_in g img)) (done tt) (refused 14)) tt x.second in
    record {
      bytes = b;
      fine = fine;
      metadata_end = x.first;
      data_end = y.first;
      sound = every_all (λ h. is_sound g h img) (metadata_in g img) (both_true (not (eqb g.strict 1)) (every (λ h. is_sound g h img) (metadata_in g img)) (passed y.second)).1;
      plain = λ on. marked on (both_true (not (eqb g.strict 1)) (every (λ h. is_sound g h img) (metadata_in g img)) (passed y.second)).0;
    }
  where
    chosen : (c : Bool) → pick c (done tt) (refused 14) ≡ done (tt {0}) → c ≡ true
    chosen true p = refl
    chosen false p = let z : ◌≡◌ {A = ℕ} 0 1 = cc in absurd (omega arith)

    passed : pick (not (eqb g.strict 1) && every (λ h. is_sound g h img) (metadata_in g img)) (done tt) (refused 14) ≡ done (tt {0}) → (not (eqb g.strict 1) && every (λ h. is_sound g h img) (metadata_in g img)) ≡ true
    passed = chosen (not (eqb g.strict 1) && every (λ h. is_sound g h img) (metadata_in g img))

    marked : g.strict ≡ 1 → not (eqb g.strict 1) ≡ true → ⊥
    marked on q = false≢true (rw (eq-eqb _ _ on) at q)

pub ready_ok : (g : Geometry) (img : List ℕ) → Ready g img → sweepable g img ≡ done tt
ready_ok g img r = sweepable_by g img r.fine ∙ rw (r.metadata_end, r.data_end, ne_eqb _ _ r.plain, all_every (λ h. is_sound g h img) (metadata_in g img) r.sound)

-- ---- an object that is held: it and all that it refers to are kept

pub record Held (g : Geometry) (img other : List ℕ) (e : ObjectHeader) : Type 0 where
  pub whole : is_whole g e (length img) ≡ true
  pub kept : Kept g img other e
  pub info : info_at g e.location img ≡ done (found e)
  pub stays : All (Stays g img other) (locations_of g e img)

-- a data object that is listed and kept stays
pub stays_by : (g : Geometry) (img other : List ℕ) → check_of g (length img) ≡ 0 → (l : ObjectLocation) (ds : List ObjectHeader) → All (λ d. Listed g Data d img × Kept g img other d) ds
    → some (λ d. same_at l d.location) ds ≡ true → Stays g img other l
stays_by g img other fine l ds a e =
    let f = found_one (λ d. same_at l d.location) (λ d. Listed g Data d img × Kept g img other d) ds a e in
    let q : l ≡ f.one.location = same_place_is l f.one.location f.passes in
    record {
      object = f.one;
      header_is = ap (λ (x : ObjectLocation). header_at g x img) q ∙ header_is g Data f.one img fine f.has.0;
      finished = rw f.has.0.state refl;
      kept = f.has.1;
    }

module _ (g : Geometry) (img other : List ℕ) (fine : check_of g (length img) ≡ 0) where
  pub held_by : (e : ObjectHeader) → Listed g Metadata e img → is_sound g e img ≡ true → Kept g img other e → All (Stays g img other) (locations_of g e img) → Held g img other e
  unfolding is_sound
  held_by e l s k a = record { whole = (both_true (is_whole g e (length img)) (every (λ l. is_listed g l img) (locations_of g e img)) s).0; kept = k; info = (at_object g Metadata e img fine l).info; stays = a }

  -- every location of a sound object is listed
  pub sound_listed : (e : ObjectHeader) → is_sound g e img ≡ true → All (λ l. is_listed g l img ≡ true) (locations_of g e img)
  unfolding is_sound
  sound_listed e s = every_all (λ l. is_listed g l img) (locations_of g e img) (both_true (is_whole g e (length img)) (every (λ l. is_listed g l img) (locations_of g e img)) s).1

  -- where all metadata that is left is held, what a lookup finds reads as before
  module _ (long : length other ≡ length img) (ks : List ObjectHeader) (q : metadata_in g other ≡ ks) (a : All (Held g img other) ks)
      (found : (path : List ℕ) (hash : ℕ) → lookup g path hash other ≡ lookup g path hash img) where
    module _ (path : List ℕ) (hash : ℕ) (at : ObjectLocation) (e : lookup g path hash img ≡ done at) where
      first : FirstAt g path hash other at
      unfolding FindsFirst
      first = (finds_first g path hash other at).0 (found path hash ∙ e)

      held : Held g img other first.object
      held = all_of (Held g img other) first.before first.object first.after (subst (All (Held g img other)) (sym q ∙ first.order) a)

      reads_same : (p n : ℕ) → read_file g at p n other ≡ read_file g at p n img
      reads_same p n =
          subst (λ (l : ObjectLocation). read_file g l p n other ≡ read_file g l p n img) first.place
          (read_kept g img other fine long first.object held.whole held.kept held.info held.stays p n)

      size_same : file_size g at other ≡ file_size g at img
      size_same =
          subst (λ (l : ObjectLocation). file_size g l other ≡ file_size g l img) first.place
          (size-kept g img other fine long first.object held.whole held.kept held.info held.stays)

    pub same-streets : SameStreets g img other
    same-streets = record { found = found; reads = reads_same; sizes = size_same }
