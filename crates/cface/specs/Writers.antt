-- Writers that cross as numbers: header, cursor, held, the four numbers of the tail, spent. "A writer … comes back as it went in, except a
-- writer after 8, which is spent."
use Rattle.std.specs.Prelude.{ℕ, ◌<◌, ◌&&◌, List, [], ◌∷◌, ◌++◌, get_or, set, leb, eqb, Ok, Err}
use Rattle.medium.specs.Fuse.{Stored}
use Rattle.medium.specs.Granularity.{pick}
use Rattle.medium.specs.Operation.{Answer, done, and_then, or_refuse}
use Rattle.objects.specs.declared.header.ObjectHeader.{ObjectHeader}
use Rattle.writer.specs.declared.writer.ObjectWriter.{ObjectWriter}
use Rattle.crossing.specs.Crossing.{CrossingWith, crossed_with}
use Rattle.crossing.specs.Values.{header_of, header_numbers}
use Rattle.crossing.specs.Records.{flag_number}

-- ---- in: 4 where the header is none, a number of the tail is no byte, or the last is neither 0 nor 1. A tail as long as the width and a
-- cursor above 65,536 are the library's to refuse, with the same 4.

unfoldable pub sayable_of : ℕ → ℕ → ℕ → ℕ → ℕ → ℕ
sayable_of a b c d spent = pick (leb a 255 && leb b 255 && leb c 255 && leb d 255 && leb spent 1) 0 4

abbrev pub writer_with : ObjectHeader → List ℕ → ObjectWriter
writer_with h ns =
    record {
      object = h;
      cursor = get_or ns 5 0;
      tail = get_or ns 7 0 ∷ get_or ns 8 0 ∷ get_or ns 9 0 ∷ get_or ns 10 0 ∷ [];
      held = get_or ns 6 0;
      spent = eqb (get_or ns 11 0) 1;
    }

unfoldable pub writer_of : List ℕ → Answer ObjectWriter
writer_of ns =
    and_then (header_of ns) (λ h.
    and_then (or_refuse (sayable_of (get_or ns 7 0) (get_or ns 8 0) (get_or ns 9 0) (get_or ns 10 0) (get_or ns 11 0))) (λ _.
    done (writer_with h ns)))

-- ---- out

abbrev pub tail_numbers : List ℕ → List ℕ
tail_numbers bs = get_or bs 0 0 ∷ get_or bs 1 0 ∷ get_or bs 2 0 ∷ get_or bs 3 0 ∷ []

abbrev pub writer_numbers : ObjectWriter → List ℕ
writer_numbers w = header_numbers w.object ++ (w.cursor ∷ w.held ∷ tail_numbers w.tail) ++ (flag_number w.spent ∷ [])

-- its counts fit the numbers of their places
abbrev pub Small : ObjectWriter → Type 0
Small w = (w.cursor < 4294967296) × (w.held < 4294967296)

abbrev pub SmallBy : Stored → ObjectWriter → Type 0
SmallBy (Ok f) w = Small w
SmallBy (Err s) w = Unit {0}

-- after 8 the last number says that the writer is spent
abbrev pub left_by : ℕ → List ℕ → List ℕ
left_by n ns = pick (eqb n 8) (set ns 11 1) ns

unfoldable pub spent_after : {S : Type 0} → CrossingWith S (List ℕ) → CrossingWith S (List ℕ)
spent_after x = crossed_with x.number x.units x.state (left_by x.number x.out)
