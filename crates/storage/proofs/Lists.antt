-- Lists that are joined: the finished objects of visits, and a property of all.
use mathlib.Core.Path.{◌≡◌, refl, ap}
use mathlib.Core.Bool.{Bool, true, false}
use mathlib.Core.List.{List, [], ◌∷◌, ◌++◌}
use Rattle.medium.specs.Granularity.{pick}
use Rattle.objects.specs.declared.header.ObjectHeader.{ObjectHeader}
use Rattle.objects.specs.Listing.{Visit}
use Rattle.storage.specs.Order.{is_finished, finished_in}
use Rattle.storage.specs.Laws.{All}

pub finished_append : (xs ys : List Visit) → finished_in (xs ++ ys) ≡ finished_in xs ++ finished_in ys
finished_append [] ys = refl
finished_append (x ∷ xs) ys = go (is_finished x.object) (finished_append xs ys)
  where
    go : (b : Bool) → finished_in (xs ++ ys) ≡ finished_in xs ++ finished_in ys
        → pick b (x.object ∷ finished_in (xs ++ ys)) (finished_in (xs ++ ys)) ≡ pick b (x.object ∷ finished_in xs) (finished_in xs) ++ finished_in ys
    go true e = ap (λ (l : List ObjectHeader). x.object ∷ l) e
    go false e = e

pub all_append : {A : Type 0} (P : A → Type 0) (xs ys : List A) → All P xs → All P ys → All P (xs ++ ys)
all_append P [] ys a b = b
all_append P (x ∷ xs) ys a b = (a.0, all_append P xs ys a.1 b)
