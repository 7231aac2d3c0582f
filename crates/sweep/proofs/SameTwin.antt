-- Twins tell the same: hash, name and further locations are read off the same bytes.
use mathlib.Core.Path.{◌≡◌, sym, ap, ap₂, ◌∙◌}
use mathlib.Core.Bool.{Bool, true, false, ◌&&◌, false≢true}
use mathlib.Core.List.{List}
use Prim.Native.Nat.{ℕ, ◌-◌, ◌%◌}
use lib.ListN.{length}
use lib.Dec.{leb, eqb}
use Rattle.medium.specs.declared.geometry.Geometry.{Geometry}
use Rattle.medium.specs.Geometry.{check_of}
use Rattle.medium.specs.Operation.{Answer, done, refused}
use Rattle.objects.specs.declared.header.ObjectHeader.{ObjectHeader}
use Rattle.objects.specs.Location.{location_length}
use Rattle.objects.specs.Payload.{read_payload, same_bytes, same_payload}
use Rattle.objects.specs.Metadata.{metadata_header}
use Rattle.objects.proofs.Equal.{equal_is}
use Rattle.storage.specs.Lookup.{is_named}
use Rattle.sweep.specs.Referring.{locations_of, is_whole}
use Rattle.objects.specs.Types.{type_number}
use Rattle.sweep.specs.Twins.{is_twin}
use Rattle.sweep.proofs.ReadsKept.{Filled, bytes_of, further_of, filled_whole, as_long, in_reach, locations_of_lem, named_of}

-- the second has the bytes that the first has
pub second_reads : (x y : Answer (List ℕ)) (bs : List ℕ) → same_bytes x y ≡ true → x ≡ done bs → y ≡ done bs
second_reads (done a) (done b) bs s e = let z : a ≡ bs = cc in ap done (sym (equal_is a b s) ∙ z)
second_reads (done a) (refused n) bs s e = absurd (false≢true s)
second_reads (refused n) y bs s e = absurd (false≢true s)

module _ (g : Geometry) (img : List ℕ) (fine : check_of g (length img) ≡ 0) (a b : ObjectHeader) (t : is_twin g img a b ≡ true) (w : is_whole g a (length img) ≡ true) where
  first : Filled g a img (bytes_of g a img) (further_of g a)
  first = filled_whole g a img fine w

  second : Filled g b img (bytes_of g a img) (further_of g a)
  unfolding is_twin same_payload
  second = record { fine = fine; reads = second_reads (read_payload g a img) (read_payload g b img) (bytes_of g a img) (right (eqb (type_number a.state) (type_number b.state)) _ t) first.reads; long = first.long }
    where
      right : (p q : Bool) → (p && q) ≡ true → q ≡ true
      right true q e = e
      right false q e = absurd (false≢true e)

  pub twin_named : (path : List ℕ) (hash : ℕ) → is_named g path hash a img ≡ is_named g path hash b img
  twin_named path hash = named_of g a img (bytes_of g a img) (further_of g a) first path hash ∙ sym (named_of g b img (bytes_of g a img) (further_of g a) second path hash)

  pub twin_locations : locations_of g a img ≡ locations_of g b img
  twin_locations = locations_of_lem g a img (bytes_of g a img) (further_of g a) first ∙ sym (locations_of_lem g b img (bytes_of g a img) (further_of g a) second)

  -- and so the second is whole too
  pub twin_whole : is_whole g b (length img) ≡ true
  unfolding is_whole
  twin_whole =
      ap₂ (λ (r n : ℕ). eqb r 0 && leb (metadata_header g) n && eqb ((n - metadata_header g) % location_length g) 0)
      (in_reach g b img (bytes_of g a img) (further_of g a) second ∙ sym (in_reach g a img (bytes_of g a img) (further_of g a) first))
      (as_long g b img (bytes_of g a img) (further_of g a) second ∙ sym (as_long g a img (bytes_of g a img) (further_of g a) first))
      ∙ w
