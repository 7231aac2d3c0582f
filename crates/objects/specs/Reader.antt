-- The reader: its length, what is left, and a read into a lent buffer. "a reader's cursor beyond its length" gives 9, one above 65,536 is
-- impossible and gives 4.
use Rattle.std.specs.Prelude.{ℕ, ◌+◌, ◌-◌, min, List, ◌++◌, Bool, ◌&&◌, ◌||◌, length, drop, leb, eqb, Result, Ok, Err}
use Rattle.medium.specs.declared.geometry.Geometry.{Geometry}
use Rattle.medium.specs.Granularity.{pick}
use Rattle.medium.specs.Geometry.{fit_of, check_of}
use Rattle.medium.specs.declared.refusal.Refusal.{Refusal}
use Rattle.medium.specs.Refusal.{refusal_number}
use Rattle.medium.specs.Operation.{Answer, done, refused, and_then, or_refuse}
use Rattle.medium.specs.Medium.{read_at}
use Rattle.objects.specs.declared.location.ObjectLocation.{ObjectLocation}
use Rattle.objects.specs.declared.reader.ObjectReader.{ObjectReader}
use Rattle.objects.specs.Types.{rank_of}
use Rattle.objects.specs.Header.{header_at, payload_of}
use Rattle.objects.specs.Payload.{payload_at}

-- of a finished object, or of any that is there
abbrev pub readable : Bool → ℕ → Bool
readable unfinished rank = eqb rank 2 || (unfinished && leb 1 rank)

unfoldable pub reader_at : Geometry → ObjectLocation → Bool → List ℕ → Answer ObjectReader
reader_at g at unfinished img =
    and_then (header_at g at img) (λ h. pick (readable unfinished (rank_of h.state)) (done (record { object = h; cursor = 0 })) (refused 2))

-- ---- with no image: 6, then 4 for an impossible cursor

abbrev pub possible : ℕ → ℕ
possible cursor = pick (leb cursor 65536) 0 4

unfoldable pub reader_len : Geometry → ObjectReader → Answer ℕ
reader_len g r = and_then (or_refuse (fit_of g)) (λ _. and_then (or_refuse (possible r.cursor)) (λ _. done (payload_of g.s r.object)))

unfoldable pub remaining_of : ℕ → ObjectReader → Answer ℕ
remaining_of s r = pick (leb r.cursor (payload_of s r.object)) (done (payload_of s r.object - r.cursor)) (refused 9)

unfoldable pub remaining : Geometry → ObjectReader → Answer ℕ
remaining g r = and_then (or_refuse (fit_of g)) (λ _. and_then (or_refuse (possible r.cursor)) (λ _. remaining_of g.s r))

abbrev pub rewound : ObjectReader → ObjectReader
rewound r = record { object = r.object; cursor = 0 }

-- ---- a read into a buffer of n bytes: what is left of the payload, or n bytes of it

pub record Chunk : Type 0 where
  pub bytes : List ℕ
  pub reader : ObjectReader

abbrev pub moved : ObjectReader → ℕ → ObjectReader
moved r n = record { object = r.object; cursor = r.cursor + n }

abbrev pub cursor_at : Geometry → ObjectReader → ℕ
cursor_at g r = payload_at g r.object + r.cursor

-- what is left, or why nothing can be read
unfoldable pub left_of : Geometry → ObjectReader → ℕ → Answer ℕ
left_of g r room =
    and_then (or_refuse (check_of g room)) (λ _. and_then (or_refuse (possible r.cursor)) (λ _. remaining_of g.s r))

unfoldable pub read_some : Geometry → ObjectReader → ℕ → List ℕ → Answer Chunk
read_some g r n img =
    and_then (left_of g r (length img)) (λ left.
    and_then (read_at g r.object.location.block (cursor_at g r) (min n left) img) (λ bs.
    done (record { bytes = bs; reader = moved r (min n left) })))

-- how many bytes were read, and the reader behind them
pub record Counting : Type 0 where
  pub count : ℕ
  pub reader : ObjectReader

abbrev pub reading_answer : Result (ℕ × ObjectReader) Refusal → Answer Counting
reading_answer (Ok x) = done (record { count = x.0; reader = x.1 })
reading_answer (Err e) = refused (refusal_number e)

abbrev pub counting : Chunk → Answer Counting
counting k = done (record { count = length k.bytes; reader = k.reader })

-- the buffer afterwards: its first bytes are those read
abbrev pub filled : Answer Chunk → List ℕ → List ℕ
filled (done k) buffer = k.bytes ++ drop (length k.bytes) buffer
filled (refused n) buffer = buffer
