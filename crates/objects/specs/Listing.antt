-- "Listing starts after the block header and stops when offset plus header is at least the block size." It also stops at a free header, and
-- an Allocated object with unset size is stepped over by its header only.
use Rattle.std.specs.Prelude.{ℕ, zero, suc, ◌+◌, List, [], ◌∷◌, length, leb, Result, Ok, Err}
use Rattle.medium.specs.declared.geometry.Geometry.{Geometry}
use Rattle.medium.specs.Granularity.{pick, header, block_header}
use Rattle.medium.specs.Geometry.{check_of}
use Rattle.medium.specs.declared.refusal.Refusal.{Refusal}
use Rattle.medium.specs.Refusal.{refusal_number}
use Rattle.medium.specs.Operation.{Answer, done, refused, or_refuse}
use Rattle.objects.specs.declared.header.ObjectHeader.{ObjectHeader}
use Rattle.objects.specs.declared.iterator.ObjectIterator.{ObjectIterator}
use Rattle.objects.specs.declared.iterator.Next.{Next}
use Rattle.objects.specs.declared.iterator.Next.TheVariants as next
use Rattle.objects.specs.Info.{Info, found, none, info_at, span_of}

abbrev pub placed : ℕ → ℕ → ObjectIterator
placed b o = record { location = record { block = b; offset = o } }

abbrev pub start_of : Geometry → ℕ → ObjectIterator
start_of g b = placed b (block_header g.granularity)

-- the iterator behind an object
abbrev pub behind : Geometry → ObjectIterator → ObjectHeader → ObjectIterator
behind g i h = placed i.location.block (i.location.offset + span_of g.granularity g.s h)

-- what one step of a listing meets: an object, with the iterator behind it, a free place, or the end of the block
pub data Met : Type 0 where
  object : ObjectHeader → ObjectIterator → Met
  free_place : Met
  block_end : Met

abbrev pub next_answer : Result Next Refusal → Answer Met
next_answer (Ok (next.Object h j)) = done (object h j)
next_answer (Ok next.Free) = done free_place
next_answer (Ok next.End) = done block_end
next_answer (Err e) = refused (refusal_number e)

abbrev pub next_in : Geometry → ObjectIterator → Answer Info → Answer Met
next_in g i (done (found h)) = done (object h (behind g i h))
next_in g i (done none) = done free_place
next_in g i (refused n) = refused n

-- whether no header fits here any more
abbrev pub at_end : Geometry → ObjectIterator → Answer (Unit {0}) → List ℕ → Answer Met
at_end g i (done _) img = pick (leb g.size (i.location.offset + header g.granularity g.s)) (done block_end) (next_in g i (info_at g i.location img))
at_end g i (refused n) img = refused n

unfoldable pub next_of : Geometry → ObjectIterator → List ℕ → Answer Met
next_of g i img = at_end g i (or_refuse (check_of g (length img))) img

-- ---- a listing: its visits in order, where it stands at last, and why it stopped

pub record Visit : Type 0 where
  pub offset : ℕ
  pub object : ObjectHeader

pub data Stop : Type 0 where
  end : Stop
  free : Stop
  broken : ℕ → Stop

pub record Listing : Type 0 where
  pub visits : List Visit
  pub last : ℕ
  pub stop : Stop

abbrev pub stopped : ObjectIterator → Stop → Listing
stopped i s = record { visits = []; last = i.location.offset; stop = s }

abbrev pub visited : ObjectIterator → ObjectHeader → Listing → Listing
visited i h l = record { visits = record { offset = i.location.offset; object = h } ∷ l.visits; last = l.last; stop = l.stop }

abbrev pub list_by : Answer Met → ObjectIterator → (ObjectIterator → Listing) → Listing
list_by (done (object h j)) i more = visited i h (more j)
list_by (done free_place) i more = stopped i free
list_by (done block_end) i more = stopped i end
list_by (refused n) i more = stopped i (broken n)

-- with at most n visits; a block has fewer than it has bytes
unfoldable pub list_from : ℕ → Geometry → ObjectIterator → List ℕ → Listing
list_from zero g i img = stopped i end
list_from (suc n) g i img = list_by (next_of g i img) i (λ j. list_from n g j img)

unfoldable pub listing : Geometry → ℕ → List ℕ → Listing
listing g b img = list_from g.size g (start_of g b) img
