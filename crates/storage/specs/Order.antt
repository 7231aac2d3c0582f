-- "in block and offset order over Metadata blocks": which objects are looked at, in which order, and what ends it. Of the blocks of one type,
-- by their headers, the Finalized objects that a listing shows; other blocks are not looked at. A listing that is refused ends the order there.
use Rattle.std.specs.Prelude.{ℕ, zero, suc, ◌+◌, ◌-◌, ◌≡◌, Bool, true, false, List, [], ◌∷◌, ◌++◌, Option, Some, None, Result, Ok, Err, length, eqb}
use Rattle.medium.specs.declared.geometry.Geometry.{Geometry}
use Rattle.medium.specs.Granularity.{pick}
use Rattle.medium.specs.Geometry.{check_of}
use Rattle.medium.specs.Operation.{Answer, done, refused, and_then, or_refuse}
use Rattle.medium.specs.declared.refusal.Refusal.{Refusal}
use Rattle.medium.specs.Refusal.{refusal_number}
use Rattle.objects.specs.declared.header.ObjectHeader.{ObjectHeader}
use Rattle.objects.specs.declared.iterator.ObjectIterator.{ObjectIterator}
use Rattle.objects.specs.Types.{rank_of}
use Rattle.objects.specs.Listing.{start_of, behind, Met, Visit, Listing, list_from}
use Rattle.objects.specs.Listing as met
use Rattle.blocks.specs.declared.header.BlockType.{BlockType}
use Rattle.blocks.specs.declared.header.BlockHeaderKind.TheVariants.{Known}
use Rattle.blocks.specs.BlockHeader.{kind_number, block_header_at}
use Rattle.blocks.specs.Scan.{unless_broken}
use Rattle.storage.specs.declared.visit.Visitor.{Visitor}
use Rattle.storage.specs.declared.visit.Step.{Step}
use Rattle.storage.specs.declared.visit.Step.TheVariants as step

-- ---- a tour: objects in the order in which they are looked at, and what comes behind the last: nothing, or a refusal

pub record Tour : Type 0 where
  pub objects : List ObjectHeader
  pub end : Answer (Unit {0})

abbrev pub no_tour : Tour
no_tour = record { objects = []; end = done tt }

abbrev pub broken_tour : ℕ → Tour
broken_tour n = record { objects = []; end = refused n }

abbrev pub first_then : ObjectHeader → Tour → Tour
first_then h t = record { objects = h ∷ t.objects; end = t.end }

-- one, and where nothing ended it, the other
abbrev pub tour_by : List ObjectHeader → Answer (Unit {0}) → Tour → Tour
tour_by hs (done u) t = record { objects = hs ++ t.objects; end = t.end }
tour_by hs (refused n) t = record { objects = hs; end = refused n }

abbrev pub joined : Tour → Tour → Tour
joined a b = tour_by a.objects a.end b

-- ---- the tour of a block from a place on

abbrev pub is_finished : ObjectHeader → Bool
is_finished h = eqb (rank_of h.state) 2

abbrev pub finished_in : List Visit → List ObjectHeader
finished_in [] = []
finished_in (v ∷ vs) = pick (is_finished v.object) (v.object ∷ finished_in vs) (finished_in vs)

abbrev pub listed_tour : Listing → Tour
listed_tour l = record { objects = finished_in l.visits; end = unless_broken l.stop tt }

unfoldable pub open_tour : Geometry → ObjectIterator → List ℕ → Tour
open_tour g i img = listed_tour (list_from g.size g i img)

-- whether its header says the type
unfoldable pub is_of : Geometry → BlockType → ℕ → List ℕ → Answer Bool
is_of g t b img = and_then (block_header_at g b img) (λ h. done (eqb (kind_number h.kind) (kind_number (Known t))))

abbrev pub tour_if : Answer Bool → Tour → Tour
tour_if (done true) t = t
tour_if (done false) t = no_tour
tour_if (refused n) t = broken_tour n

-- ---- the tour of a store

-- a visitor stands at a place of a block, which may have been opened already
abbrev pub open_visit : ObjectIterator → Visitor
open_visit i = record { place = i; opened = true }

abbrev pub start_visit : Geometry → ℕ → Visitor
start_visit g b = record { place = start_of g b; opened = false }

unfoldable pub open_of : Geometry → BlockType → Visitor → List ℕ → Answer Bool
open_of g t v img = pick v.opened (done true) (is_of g t v.place.location.block img)

-- n blocks from a visitor on
unfoldable pub blocks_tour : ℕ → Geometry → BlockType → Visitor → List ℕ → Tour
blocks_tour zero g t v img = no_tour
blocks_tour (suc n) g t v img =
    joined (tour_if (open_of g t v img) (open_tour g v.place img)) (blocks_tour n g t (start_visit g (v.place.location.block + 1)) img)

unfoldable pub tour_from : Geometry → BlockType → Visitor → List ℕ → Tour
tour_from g t v img = blocks_tour (g.count - v.place.location.block) g t v img

-- THE ORDER
abbrev pub tour : Geometry → BlockType → List ℕ → Tour
tour g t img = tour_from g t (start_visit g 0) img

-- ---- one object a call

-- an object, with the visitor behind it, or the end
pub data Seen : Type 0 where
  object : ObjectHeader → Visitor → Seen
  store_end : Seen

-- what the code's answer stands for
abbrev pub Visited : Type 0
Visited = Result (Option (ObjectHeader × Visitor)) Refusal

abbrev pub visit_answer : Visited → Answer Seen
visit_answer (Ok (Some x)) = done (object x.0 x.1)
visit_answer (Ok None) = done store_end
visit_answer (Err e) = refused (refusal_number e)

-- the visitor behind an object
abbrev pub behind_visit : Geometry → ObjectHeader → Visitor
behind_visit g h = open_visit (behind g (record { location = h.location }) h)

abbrev pub first_seen : Geometry → List ObjectHeader → Answer (Unit {0}) → Answer Seen
first_seen g [] e = and_then e (λ _. done store_end)
first_seen g (h ∷ hs) e = done (object h (behind_visit g h))

unfoldable pub next_visit : Geometry → BlockType → Visitor → List ℕ → Answer Seen
next_visit g t v img = and_then (or_refuse (check_of g (length img))) (λ _. first_seen g (tour_from g t v img).objects (tour_from g t v img).end)

-- what comes behind it is the rest of the tour
abbrev pub tour_of : Geometry → BlockType → List ℕ → Visited → Tour
tour_of g t img (Ok (Some x)) = first_then x.0 (tour_from g t x.1 img)
tour_of g t img (Ok None) = no_tour
tour_of g t img (Err e) = broken_tour (refusal_number e)

unfoldable pub Goes : Geometry → BlockType → Visitor → List ℕ → Visited → Type 0
Goes g t v img r = check_of g (length img) ≡ 0 → tour_from g t v img ≡ tour_of g t img r

-- ---- how the code goes about it: one step in an open block

unfoldable pub step_of : Geometry → Visitor → Answer Met → Answer Step
step_of g v (done (met.object h j)) = done (pick (is_finished h) (step.Object h (open_visit j)) (step.On (open_visit j)))
step_of g v (done met.free_place) = done (step.On (start_visit g (v.place.location.block + 1)))
step_of g v (done met.block_end) = done (step.On (start_visit g (v.place.location.block + 1)))
step_of g v (refused n) = refused n
