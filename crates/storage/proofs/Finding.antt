-- What a lookup finds: the first that matches, which opens; or none.
use mathlib.Core.Path.{◌≡◌, refl, sym, ap, ◌∙◌, subst}
use mathlib.Core.Bool.{Bool, true, false, false≢true}
use mathlib.Core.List.{List, [], ◌∷◌, ◌++◌}
use Prim.Native.Nat.{ℕ, zero, suc}
use native.Mathlib.Omega.{arith}
use lib.ListN.{length}
use lib.Dec.{eqb}
use borrow.Author.Tests.{eqb-true}
use Rattle.medium.specs.declared.geometry.Geometry.{Geometry}
use Rattle.medium.specs.Granularity.{pick}
use Rattle.medium.specs.Geometry.{check_of}
use Rattle.medium.specs.Operation.{Answer, done, refused, and_then, or_refuse}
use Rattle.objects.specs.declared.location.ObjectLocation.{ObjectLocation}
use Rattle.objects.specs.declared.header.ObjectHeader.{ObjectHeader}
use Rattle.objects.specs.declared.metadata.MetadataObjectHeader.{MetadataObjectHeader}
use Rattle.objects.specs.Info.{Info, info_at}
use Rattle.objects.specs.Metadata.{read_metadata, metadata_of, metadata_at}
use Rattle.blocks.specs.declared.header.BlockType.TheVariants.{Metadata}
use Rattle.storage.specs.Order.{start_visit, tour}
use Rattle.storage.specs.Lookup.{is_name, is_named, first_named, lookup}
use Rattle.storage.specs.Laws.{All, FirstAt, FindsFirst, FindsNone, FoundOpens, Quiet}
use Rattle.medium.proofs.Runs.{run_ask}
use Rattle.objects.proofs.Answers.{gate_on}
use Rattle.shown.proofs.Reading.{and_back}
use Rattle.storage.proofs.Heads.{There, all_there}

-- an answer behind a test that was passed
pub gate_back : {A : Type 0} (r : ℕ) (k : Answer A) (x : A) → and_then (or_refuse r) (λ _. k) ≡ done x → (r ≡ 0) × (k ≡ done x)
gate_back zero k x e = (refl, e)
gate_back (suc r) k x e = let z : ◌≡◌ {A = ℕ} 0 1 = cc in absurd (omega arith)

-- a property of all that come before, and of one
pub all_of : {A : Type 0} (P : A → Type 0) (before : List A) (x : A) (after : List A) → All P (before ++ x ∷ after) → P x
all_of P [] x after a = a.0
all_of P (y ∷ before) x after a = all_of P before x after a.1

module _ (named : ObjectHeader → Answer Bool) where
  record Split (hs : List ObjectHeader) (at : ObjectLocation) : Type 0 where
    before : List ObjectHeader
    object : ObjectHeader
    after : List ObjectHeader
    order : hs ≡ before ++ object ∷ after
    others : All (λ h. named h ≡ done false) before
    this : named object ≡ done true
    place : object.location ≡ at

  split : (hs : List ObjectHeader) (e : Answer (Unit {0})) (at : ObjectLocation) → first_named named hs e ≡ done at → Split hs at
  split [] (done u) at q = let z : ◌≡◌ {A = ℕ} 0 1 = cc in absurd (omega arith)
  split [] (refused n) at q = let z : ◌≡◌ {A = ℕ} 0 1 = cc in absurd (omega arith)
  split (h ∷ hs) e at q = go (named h) refl q (λ r. split hs e at r)
    where
      go : (x : Answer Bool) → named h ≡ x → and_then x (λ yes. pick yes (done h.location) (first_named named hs e)) ≡ done at → (first_named named hs e ≡ done at → Split hs at) → Split (h ∷ hs) at
      go (done true) p r more =
          let z : h.location ≡ at = cc in record { before = []; object = h; after = hs; order = refl; others = tt; this = p; place = z }
      go (done false) p r more =
          let s : Split hs at = more r in
          record { before = h ∷ s.before; object = s.object; after = s.after; order = ap (λ (l : List ObjectHeader). h ∷ l) s.order; others = (p, s.others); this = s.this; place = s.place }
      go (refused n) p r more = let z : ◌≡◌ {A = ℕ} 0 1 = cc in absurd (omega arith)

  pub joins : (before : List ObjectHeader) (h : ObjectHeader) (after : List ObjectHeader) (e : Answer (Unit {0})) → All (λ x. named x ≡ done false) before → named h ≡ done true
      → first_named named (before ++ h ∷ after) e ≡ done h.location
  joins [] h after e a y = rw y
  joins (x ∷ before) h after e a y = rw a.0 (joins before h after e a.1 y)

  none_named : (hs : List ObjectHeader) → All (λ x. named x ≡ done false) hs → first_named named hs (done tt) ≡ refused 13
  none_named [] a = refl
  none_named (x ∷ hs) a = rw a.0 (none_named hs a.1)

pub finds_first : FindsFirst
unfolding FindsFirst lookup
finds_first g path hash img at = (there, back)
  where
    there : lookup g path hash img ≡ done at → FirstAt g path hash img at
    there e =
        let b = gate_back (check_of g (length img)) (first_named (λ h. is_named g path hash h img) (tour g Metadata img).objects (tour g Metadata img).end) at e in
        let s = split (λ h. is_named g path hash h img) (tour g Metadata img).objects (tour g Metadata img).end at b.1 in
        record { fine = b.0; before = s.before; object = s.object; after = s.after; order = s.order; others = s.others; named = s.this; place = s.place }

    back : FirstAt g path hash img at → lookup g path hash img ≡ done at
    back f =
        gate_on (λ _. first_named (λ h. is_named g path hash h img) (tour g Metadata img).objects (tour g Metadata img).end) (check_of g (length img)) (check_of g (length img)) refl f.fine
        ∙ ap (λ (hs : List ObjectHeader). first_named (λ h. is_named g path hash h img) hs (tour g Metadata img).end) f.order
        ∙ joins (λ h. is_named g path hash h img) f.before f.object f.after (tour g Metadata img).end f.others f.named ∙ ap done f.place

pub finds_none : FindsNone
unfolding FindsNone lookup
finds_none g path hash img c a e =
    gate_on (λ _. first_named (λ h. is_named g path hash h img) (tour g Metadata img).objects (tour g Metadata img).end) (check_of g (length img)) (check_of g (length img)) refl c
    ∙ ap (first_named (λ h. is_named g path hash h img) (tour g Metadata img).objects) e ∙ none_named (λ h. is_named g path hash h img) (tour g Metadata img).objects a

-- what has the name has metadata, with that hash
pub record Matched (g : Geometry) (path : List ℕ) (hash : ℕ) (h : ObjectHeader) (img : List ℕ) : Type 0 where
  pub metadata : MetadataObjectHeader
  pub reads : read_metadata g h img ≡ done metadata
  pub hash_is : metadata.hash ≡ hash
  pub name_is : is_name g path metadata.name img ≡ done true

pub matched : (g : Geometry) (path : List ℕ) (hash : ℕ) (h : ObjectHeader) (img : List ℕ) → is_named g path hash h img ≡ done true → Matched g path hash h img
unfolding is_named
matched g path hash h img e =
    let x = and_back (read_metadata g h img) (λ m. pick (eqb m.hash hash) (is_name g path m.name img) (done false)) true e in
    go x.value (eqb x.value.hash hash) refl x.first x.second
  where
    go : (m : MetadataObjectHeader) (b : Bool) → eqb m.hash hash ≡ b → read_metadata g h img ≡ done m → pick b (is_name g path m.name img) (done false) ≡ done true → Matched g path hash h img
    go m true q r s = record { metadata = m; reads = r; hash_is = eqb-true _ _ q; name_is = s }
    go m false q r s = let z : false ≡ true = cc in absurd (false≢true z)

pub found_opens : FoundOpens
unfolding FoundOpens FindsFirst metadata_at
found_opens g path hash img at e =
    let f : FirstAt g path hash img at = (finds_first g path hash img at).0 e in
    let a : There g Metadata img f.fine f.object =
    all_of (There g Metadata img f.fine) f.before f.object f.after
    (subst (All (There g Metadata img f.fine)) f.order (all_there g Metadata img f.fine (tour g Metadata img).objects (start_visit g 0) (λ o. absurd (false≢true o)) refl)) in
    let m : Matched g path hash f.object img = matched g path hash f.object img f.named in
    record {
      metadata = m.metadata;
      opens = ap (λ (l : ObjectLocation). and_then (info_at g l img) (metadata_of g img)) (sym f.place) ∙ ap (λ (x : Answer Info). and_then x (metadata_of g img)) a.0 ∙ m.reads;
      hash_is = m.hash_is;
    }

pub quiet : Quiet
unfolding Quiet
quiet g path hash img f = run_ask f (lookup g path hash) img
