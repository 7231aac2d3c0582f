-- A test over a list, by its first element: what a loop knows once it has met one.
use mathlib.Core.Path.{◌≡◌, refl, sym, ◌∙◌}
use mathlib.Core.Bool.{Bool, true, false}
use mathlib.Core.List.{List, [], ◌∷◌, ◌++◌}
use borrow.Author.Tests.{eq-eqb, ne_eqb}
use Rattle.objects.specs.declared.location.ObjectLocation.{ObjectLocation}
use Rattle.objects.specs.declared.header.ObjectHeader.{ObjectHeader}
use Rattle.storage.specs.Laws.{All}
use Rattle.sweep.specs.Lists.{some, every}
use Rattle.sweep.specs.Referring.{same_at}
use Rattle.sweep.specs.Twins.{before}

module _ {A : Type 0} (p : A → Bool) (xs : List A) where
  pub some_none : xs ≡ [] → some p xs ≡ false
  some_none e = rw e

  pub every_none : xs ≡ [] → every p xs ≡ true
  every_none e = rw e

  -- b is what the test of the first said
  module _ (x : A) (ys : List A) (e : xs ≡ x ∷ ys) (b : Bool) (q : b ≡ p x) where
    pub some-hit : b ≡ true → some p xs ≡ true
    some-hit z = let y : p x ≡ true = sym q ∙ z in rw (e, y)

    pub some-miss : b ≡ false → some p xs ≡ some p ys
    some-miss z = let y : p x ≡ false = sym q ∙ z in rw (e, y)

    pub every-on : b ≡ true → every p xs ≡ every p ys
    every-on z = let y : p x ≡ true = sym q ∙ z in rw (e, y)

    pub every-not : b ≡ false → every p xs ≡ false
    every-not z = let y : p x ≡ false = sym q ∙ z in rw (e, y)

-- ---- what all of a list are

pub all_map : {A : Type 0} (P Q : A → Type 0) → ((x : A) → P x → Q x) → (xs : List A) → All P xs → All Q xs
all_map P Q f [] a = tt
all_map P Q f (x ∷ xs) a = (f x a.0, all_map P Q f xs a.1)

-- those that do not pass are passed over
module _ {A : Type 0} (p : A → Bool) where
  pub some_behind : (xs ys : List A) → All (λ x. p x ≡ false) xs → some p (xs ++ ys) ≡ some p ys
  some_behind [] ys a = refl
  some_behind (x ∷ xs) ys a = rw a.0 (some_behind xs ys a.1)

  pub some_not : (xs : List A) → All (λ x. p x ≡ false) xs → some p xs ≡ false
  some_not [] a = refl
  some_not (x ∷ xs) a = rw a.0 (some_not xs a.1)

-- ---- places

module _ (a b : ObjectLocation) where
  pub same_place : b.block ≡ a.block → b.offset ≡ a.offset → same_at a b ≡ true
  same_place e f = rw (eq-eqb a.block b.block (sym e), eq-eqb a.offset b.offset (sym f))

  pub other_block : (b.block ≡ a.block → ⊥) → same_at a b ≡ false
  other_block n = rw (ne_eqb a.block b.block (λ e. n (sym e)))

  pub other_offset : b.block ≡ a.block → (b.offset ≡ a.offset → ⊥) → same_at a b ≡ false
  other_offset e n = rw (eq-eqb a.block b.block (sym e), ne_eqb a.offset b.offset (λ f. n (sym f)))

-- what stands before the object at a place
module _ (l : ObjectLocation) (xs : List ObjectHeader) where
  pub before_none : xs ≡ [] → before l xs ≡ []
  before_none e = rw e

  module _ (h : ObjectHeader) (ys : List ObjectHeader) (e : xs ≡ h ∷ ys) (b : Bool) (q : b ≡ same_at l h.location) where
    pub before_here : b ≡ true → before l xs ≡ []
    before_here z = let y : same_at l h.location ≡ true = sym q ∙ z in rw (e, y)

    pub before_on : b ≡ false → before l xs ≡ h ∷ before l ys
    before_on z = let y : same_at l h.location ≡ false = sym q ∙ z in rw (e, y)
