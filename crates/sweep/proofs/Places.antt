-- A loop over the locations of a list: what is left of it, by what the next location's answer is.
use mathlib.Core.Path.{◌≡◌, refl, sym, ap, ◌∙◌}
use mathlib.Core.List.{List, [], ◌∷◌}
use Prim.Native.Nat.{ℕ, ◌-◌, ◌≤◌, ◌<◌}
use native.Mathlib.Omega.{arith}
use lib.ListN.{length}
use Rattle.std.specs.Prelude.{Option, Some, None, Result, Ok, Err}
use Rattle.medium.specs.declared.geometry.Geometry.{Geometry}
use Rattle.medium.specs.Geometry.{check_of}
use Rattle.medium.specs.declared.refusal.Refusal.{Refusal}
use Rattle.medium.proofs.Checks.{fine_of_check}
use Rattle.objects.specs.declared.location.ObjectLocation.{ObjectLocation}
use Rattle.objects.specs.declared.metadata.MetadataObjectHeader.{MetadataObjectHeader}
use Rattle.objects.specs.Metadata.{next_location_answer, next_location}
use Rattle.storage.specs.File.{Places, places_by, places_of}
use Rattle.storage.proofs.Pieces.{step_of, places_by_lem}

module _ (g : Geometry) (img : List ℕ) (c : check_of g (length img) ≡ 0) (m : MetadataObjectHeader) where
  big : 2 ≤ g.size
  big = omega (arith, (fine_of_check g (length img) (check_of g (length img)) refl c).sound.least)

  abbrev pub Heard : Type 0
  Heard = Result (Option (ObjectLocation × MetadataObjectHeader)) Refusal

  places_is : (r : Heard) → next_location_answer r ≡ next_location g m img → places_of g m img ≡ places_by (next_location_answer r) (λ k. places_of g k img)
  places_is r e = places_by_lem g img m (next_location_answer r) e big

  -- no location is left, or the next one is refused
  pub places_none : (r : Heard) → next_location_answer r ≡ next_location g m img → r ≡ Ok None → (places_of g m img).at ≡ []
  places_none r e k = ap (λ (x : Places). x.at) (places_is r e) ∙ rw k

  pub places_broken : (x : Refusal) → next_location_answer (Err x) ≡ next_location g m img → (places_of g m img).at ≡ []
  places_broken x e = ap (λ (p : Places). p.at) (places_is (Err x) e)

  -- one is, and then those of the header behind it
  module _ (l : ObjectLocation) (k : MetadataObjectHeader) (e : next_location_answer (Ok (Some (l, k))) ≡ next_location g m img) where
    pub places-on : (places_of g m img).at ≡ l ∷ (places_of g k img).at
    places-on = ap (λ (x : Places). x.at) (places_is (Ok (Some (l, k))) e)

    pub places-less : g.size - k.cursor < g.size - m.cursor
    places-less = let s = step_of g m img l k (sym e) in omega (arith, s.small, s.forward)
