-- The names that are listed, and the objects that they come from.
use mathlib.Core.Path.{◌≡◌, sym, ap, ap₂, ◌∙◌}
use mathlib.Core.List.{List, [], ◌∷◌}
use Prim.Native.Nat.{ℕ, ◌<◌}
use lib.ListN.{length}
use Rattle.medium.specs.declared.geometry.Geometry.{Geometry}
use Rattle.medium.specs.Geometry.{check_of}
use Rattle.medium.specs.Operation.{Answer, done, and_then}
use Rattle.objects.specs.declared.location.ObjectLocation.{ObjectLocation}
use Rattle.objects.specs.declared.header.ObjectHeader.{ObjectHeader}
use Rattle.blocks.specs.declared.header.BlockType.TheVariants.{Metadata}
use Rattle.shown.proofs.Reading.{and_back}
use Rattle.storage.specs.Order.{tour}
use Rattle.storage.specs.Names.{names_from}
use Rattle.storage.specs.Laws.{Entry, entry_of, entries_in, entries, Line, lines_of, list_names, AllNames}
use Rattle.storage.proofs.Finding.{gate_back}
use Rattle.storage.proofs.ByList.{entry_place, all_names}
use Rattle.sweep.specs.Referring.{metadata_in}
use Rattle.sweep.specs.Notes.{places_in}
use Rattle.sweep.specs.Laws.{line_places}

module _ (g : Geometry) (n : ℕ) (img : List ℕ) where
  entries_from : (hs : List ObjectHeader) (e : Answer (Unit {0})) (xs : List Entry) → entries_in g hs e n img ≡ done xs → line_places (lines_of xs) ≡ places_in hs
  entries_from [] e xs q =
      let a = and_back e (λ _. done []) xs q in
      let w : [] ≡ xs = cc in
      ap (λ (ys : List Entry). line_places (lines_of ys)) (sym w)
  entries_from (h ∷ hs) e xs q =
      let a = and_back (entry_of g h n img) (λ x. and_then (entries_in g hs e n img) (λ ys. done (x ∷ ys))) xs q in
      let b = and_back (entries_in g hs e n img) (λ ys. done (a.value ∷ ys)) xs a.second in
      let w : a.value ∷ b.value ≡ xs = cc in
      ap (λ (ys : List Entry). line_places (lines_of ys)) (sym w)
      ∙ ap₂ (λ (l : ObjectLocation) (ls : List ObjectLocation). l ∷ ls) (sym (entry_place g [] img h n a.value a.first)) (entries_from hs e b.value b.first)

  pub names_from_lem : (k : ℕ) (names : List Line) → length (metadata_in g img) < k → list_names k g (names_from g) n img ≡ done names → line_places names ≡ places_in (metadata_in g img)
  unfolding AllNames entries
  names_from_lem k names l e =
      let a = and_back (entries g n img) (λ xs. done (lines_of xs)) names (sym (all_names g n k img l) ∙ e) in
      let w : lines_of a.value ≡ names = cc in
      let b = gate_back (check_of g (length img)) (entries_in g (tour g Metadata img).objects (tour g Metadata img).end n img) a.value a.first in
      ap line_places (sym w) ∙ entries_from (metadata_in g img) (tour g Metadata img).end a.value b.1
