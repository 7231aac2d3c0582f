-- "Total is header plus payload; span is the total aligned up."
use Rattle.std.specs.Prelude.{ℕ, ◌+◌, ◌<◌, List, Option, Some, None, Result, Ok, Err}
use Rattle.medium.specs.declared.granularity.Granularity.{Granularity}
use Rattle.medium.specs.declared.geometry.Geometry.{Geometry}
use Rattle.medium.specs.Granularity.{width_of, align_of, header}
use Rattle.medium.specs.Geometry.{fit_of}
use Rattle.medium.specs.declared.refusal.Refusal.{Refusal}
use Rattle.medium.specs.Refusal.{refusal_number}
use Rattle.medium.specs.Operation.{Answer, done, refused, and_then, or_refuse}
use Rattle.objects.specs.declared.state.CompositeObjectState.{CompositeObjectState}
use Rattle.objects.specs.declared.state.CompositeObjectState.TheVariants as comp
use Rattle.objects.specs.declared.location.ObjectLocation.{ObjectLocation}
use Rattle.objects.specs.declared.header.ObjectHeader.{ObjectHeader}
use Rattle.objects.specs.Header.{header_at, payload_of}

-- an object, or none where it is free
pub data Info : Type 0 where
  found : ObjectHeader → Info
  none : Info

abbrev pub info_answer : Result (Option ObjectHeader) Refusal → Answer Info
info_answer (Ok (Some h)) = done (found h)
info_answer (Ok None) = done none
info_answer (Err e) = refused (refusal_number e)

abbrev pub small_info : Result (Option ObjectHeader) Refusal → Type 0
small_info (Ok (Some h)) = h.size < 16777216
small_info (Ok None) = Unit {0}
small_info (Err e) = Unit {0}

abbrev pub info_in : CompositeObjectState → ObjectHeader → Info
info_in comp.Free h = none
info_in (comp.Allocated t d) h = found h

unfoldable pub info_at : Geometry → ObjectLocation → List ℕ → Answer Info
info_at g at img = and_then (header_at g at img) (λ h. done (info_in h.state h))

unfoldable pub total_of : Granularity → ℕ → ObjectHeader → ℕ
total_of k s h = header k s + payload_of s h

-- the room that the object takes in its block
abbrev pub span_of : Granularity → ℕ → ObjectHeader → ℕ
span_of k s h = align_of (width_of k) (total_of k s h)

unfoldable pub size_of_object : Geometry → ObjectHeader → Answer ℕ
size_of_object g h = and_then (or_refuse (fit_of g)) (λ _. done (total_of g.granularity g.s h))
