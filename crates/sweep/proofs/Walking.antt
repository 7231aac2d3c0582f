-- A loop over the objects of a tour: what is left of it, by what the visitor's next answers.
use mathlib.Core.Path.{◌≡◌, ap, ◌∙◌}
use mathlib.Core.List.{List, [], ◌∷◌}
use Prim.Native.Nat.{ℕ, suc, ◌<◌}
use native.Mathlib.Omega.{arith}
use lib.ListN.{length}
use Rattle.std.specs.Prelude.{Some, None, Ok, Err}
use Rattle.medium.specs.declared.geometry.Geometry.{Geometry}
use Rattle.medium.specs.Geometry.{check_of}
use Rattle.objects.specs.declared.header.ObjectHeader.{ObjectHeader}
use Rattle.blocks.specs.declared.header.BlockType.{BlockType}
use Rattle.storage.specs.declared.visit.Visitor.{Visitor}
use Rattle.medium.specs.declared.refusal.Refusal.{Refusal}
use Rattle.storage.specs.Order.{Tour, tour_from, tour_of, Visited, Goes}

module _ (g : Geometry) (t : BlockType) (img : List ℕ) (c : check_of g (length img) ≡ 0) (v : Visitor) where
  pub rest_is : (r : Visited) → Goes g t v img r → tour_from g t v img ≡ tour_of g t img r
  unfolding Goes
  rest_is r o = o c

  -- no object is left, or none can be listed
  pub rest_none : (r : Visited) → Goes g t v img r → r ≡ Ok None → (tour_from g t v img).objects ≡ []
  rest_none r o k = ap (λ (x : Tour). x.objects) (rest_is r o ∙ ap (tour_of g t img) k)

  pub rest_broken : (r : Visited) {e : Refusal} → Goes g t v img r → r ≡ Err e → (tour_from g t v img).objects ≡ []
  rest_broken r o k = ap (λ (x : Tour). x.objects) (rest_is r o ∙ ap (tour_of g t img) k)

  -- one is, and then what the visitor behind it meets
  module _ (h : ObjectHeader) (w : Visitor) (o : Goes g t v img (Ok (Some (h, w)))) where
    pub rest-on : (tour_from g t v img).objects ≡ h ∷ (tour_from g t w img).objects
    rest-on = ap (λ (x : Tour). x.objects) (rest_is (Ok (Some (h, w))) o)

    pub rest_end : (tour_from g t v img).end ≡ (tour_from g t w img).end
    rest_end = ap (λ (x : Tour). x.end) (rest_is (Ok (Some (h, w))) o)

    pub rest-less : length (tour_from g t w img).objects < length (tour_from g t v img).objects
    rest-less = let l : length (tour_from g t v img).objects ≡ suc (length (tour_from g t w img).objects) = ap (λ (x : List ObjectHeader). length x) rest-on in omega (arith, l)
