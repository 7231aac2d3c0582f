-- One object of the plan is deleted: what it is to be a step to the rest of the plan, and what a lookup finds by the objects that are left.
use mathlib.Core.Path.{◌≡◌, refl, sym, ap, ap₂, ◌∙◌}
use mathlib.Core.Bool.{Bool, true, false, ◌||◌, false≢true}
use mathlib.Core.List.{List, [], ◌∷◌, ◌++◌}
use Prim.Native.Nat.{ℕ}
use lib.ListN.{length}
use Rattle.medium.specs.declared.geometry.Geometry.{Geometry}
use Rattle.medium.specs.Granularity.{pick}
use Rattle.medium.specs.Geometry.{check_of}
use Rattle.medium.specs.Operation.{Answer, done, refused, and_then}
use Rattle.objects.specs.declared.location.ObjectLocation.{ObjectLocation}
use Rattle.objects.specs.declared.header.ObjectHeader.{ObjectHeader}
use Rattle.blocks.specs.declared.header.BlockType.TheVariants.{Metadata}
use Rattle.storage.specs.Order.{tour}
use Rattle.storage.specs.Lookup.{is_named, first_named, lookup}
use Rattle.storage.specs.Laws.{All}
use Rattle.objects.proofs.Answers.{gate_on}
use Rattle.sweep.specs.Lists.{some}
use Rattle.sweep.specs.Referring.{metadata_in, locations_of, is_listed, is_sound}
use Rattle.sweep.specs.Twins.{twins, unreferred}
use Rattle.sweep.specs.Laws.{SameStreets}
use Rattle.sweep.proofs.Lists.{all_map}
use Rattle.sweep.proofs.Alike.{some_append, some_through}
use Rattle.sweep.proofs.ReadsKept.{locations-kept, whole-kept, named-kept}
use Rattle.sweep.proofs.Ready.{Ready, Held, all_every}

-- what is left then
pub record Next (g : Geometry) (img other : List ℕ) (ts us : List ObjectHeader) : Type 0 where
  pub ready : Ready g other
  pub twins_are : twins g other ≡ ts
  pub unreferred_are : unreferred g other ≡ us
  pub streets : SameStreets g img other

-- ---- the first that is named so

-- by another test that says the same
pub first_same : (p q : ObjectHeader → Answer Bool) (xs : List ObjectHeader) (e : Answer (Unit {0})) → All (λ x. p x ≡ q x) xs → first_named p xs e ≡ first_named q xs e
first_same p q [] e a = refl
first_same p q (x ∷ xs) e a = ap₂ (λ (b : Answer Bool) (r : Answer ObjectLocation). and_then b (λ yes. pick yes (done x.location) r)) a.0 (first_same p q xs e a.1)

module _ (named : ObjectHeader → Answer Bool) (h : ObjectHeader) (back : List ObjectHeader) (e : Answer (Unit {0})) where
  -- one that is not it may be left out
  pub passed : named h ≡ done false → (xs : List ObjectHeader) → first_named named (xs ++ h ∷ back) e ≡ first_named named (xs ++ back) e
  passed n [] = rw n
  passed n (x ∷ xs) = ap (λ (r : Answer ObjectLocation). and_then (named x) (λ yes. pick yes (done x.location) r)) (passed n xs)

  -- and so may one whose like, which is named as it is, stands before it
  pub first_drop : (like : ObjectHeader → Bool) → ((x : ObjectHeader) → like x ≡ true → named h ≡ named x) → (xs : List ObjectHeader) → some like xs ≡ true
      → first_named named (xs ++ h ∷ back) e ≡ first_named named (xs ++ back) e
  first_drop like f [] s = absurd (false≢true s)
  first_drop like f (x ∷ xs) s = go (like x) refl s (λ r. first_drop like f xs r)
    where
      at : (a : Answer Bool) → named x ≡ a → named h ≡ a
          → and_then a (λ yes. pick yes (done x.location) (first_named named (xs ++ h ∷ back) e)) ≡ and_then a (λ yes. pick yes (done x.location) (first_named named (xs ++ back) e))
      at (done true) p q = refl
      at (done false) p q = passed q xs
      at (refused n) p q = refl

      go : (b : Bool) → like x ≡ b → (b || some like xs) ≡ true → (some like xs ≡ true → first_named named (xs ++ h ∷ back) e ≡ first_named named (xs ++ back) e)
          → first_named named (x ∷ (xs ++ h ∷ back)) e ≡ first_named named (x ∷ (xs ++ back)) e
      go true q r more = at (named x) refl (f x q)
      go false q r more = ap (λ (z : Answer ObjectLocation). and_then (named x) (λ yes. pick yes (done x.location) z)) (more r)

-- some of a list, one of which may be left out
pub some_drop : {A : Type 0} (p : A → Bool) (h : A) (like : A → Bool) → ((x : A) → like x ≡ true → p h ≡ p x) → (xs ys : List A) → some like xs ≡ true → some p (xs ++ h ∷ ys) ≡ some p (xs ++ ys)
some_drop p h like f xs ys s = some_append p xs (h ∷ ys) ∙ go (p h) refl ∙ sym (some_append p xs ys)
  where
    go : (b : Bool) → p h ≡ b → (some p xs || (b || some p ys)) ≡ (some p xs || some p ys)
    go true q = rw (some_through like p (λ x r. sym (f x r) ∙ q) xs s)
    go false q = refl

module _ (g : Geometry) (img other : List ℕ) (path : List ℕ) (hash : ℕ) where
  -- a lookup by the objects that are left
  pub look_by : (c : check_of g (length img) ≡ 0) (d : check_of g (length other) ≡ 0) → (tour g Metadata other).end ≡ (tour g Metadata img).end
      → first_named (λ h. is_named g path hash h other) (metadata_in g other) (tour g Metadata img).end ≡ first_named (λ h. is_named g path hash h img) (metadata_in g img) (tour g Metadata img).end
      → lookup g path hash other ≡ lookup g path hash img
  unfolding lookup
  look_by c d e q =
      gate_on _ (check_of g (length other)) (check_of g (length other)) refl d
      ∙ ap (first_named (λ h. is_named g path hash h other) (metadata_in g other)) e ∙ q
      ∙ sym (gate_on _ (check_of g (length img)) (check_of g (length img)) refl c)

-- ---- held objects

module _ (g : Geometry) (img other : List ℕ) (fine : check_of g (length img) ≡ 0) (long : length other ≡ length img) where
  pub held_named : (path : List ℕ) (hash : ℕ) (xs : List ObjectHeader) → All (Held g img other) xs → All (λ e. is_named g path hash e other ≡ is_named g path hash e img) xs
  held_named path hash xs a =
      all_map (Held g img other) (λ e. is_named g path hash e other ≡ is_named g path hash e img) (λ e h. named-kept g img other fine long e h.whole h.kept h.info h.stays path hash) xs a

  pub held_locations : (xs : List ObjectHeader) → All (Held g img other) xs → All (λ e. locations_of g e other ≡ locations_of g e img) xs
  held_locations xs a = all_map (Held g img other) (λ e. locations_of g e other ≡ locations_of g e img) (λ e h. locations-kept g img other fine long e h.whole h.kept) xs a

  -- sound still, where every location is listed
  pub still_sound : (xs : List ObjectHeader) → All (Held g img other) xs → All (λ e. All (λ l. is_listed g l other ≡ true) (locations_of g e img)) xs → All (λ e. is_sound g e other ≡ true) xs
  unfolding is_sound
  still_sound [] a s = tt
  still_sound (e ∷ xs) a s =
      (rw (whole-kept g img other fine long e, a.0.whole, locations-kept g img other fine long e a.0.whole a.0.kept) (all_every (λ l. is_listed g l other) (locations_of g e img) s.0), still_sound xs a.1 s.1)
