-- What a batch is, for its callers: "the answer, image and fuse shall equal writing the records one by one in order, stopping at the first
-- refusal, with the number done".
use Rattle.std.specs.Prelude.{◌≡◌, List, [], ◌∷◌, ◌++◌, ℕ, ◌+◌, ◌/◌, ◌%◌, ◌<◌, length, get_or}
use Rattle.medium.specs.declared.geometry.Geometry.{Geometry}
use Rattle.medium.specs.declared.fuse.Fuse.{Fuse}
use Rattle.medium.specs.Units.{FlashUnit}
use Rattle.medium.specs.Operation.{apply, Answer, done, refused, End, EndIn, run, next}
use Rattle.medium.specs.Beside.{Event, unit, field, Both, both}
use Rattle.batch.specs.declared.record.Record.{Record}
use Rattle.batch.specs.Batch.{per_record, batch_record, records_in, batchable, write_record, write_all}

-- what a call ends with: answer, fuse, image and the number done
abbrev pub BatchEnd : Type 0
BatchEnd = EndIn Both (Unit {0})

abbrev pub end_of : Answer (Unit {0}) → Fuse → List ℕ → ℕ → BatchEnd
end_of a f img n = record { answer = a; fuse = f; state = both img (n ∷ []) }

-- a whole call: nothing is done before it
abbrev pub batch : Fuse → Geometry → ℕ → List ℕ → List ℕ → List ℕ → BatchEnd
batch f g b records payload img = run f (write_all g b records payload) (both img (0 ∷ []))

abbrev pub number_done : BatchEnd → ℕ
number_done e = get_or e.state.table 0 0

-- a list that is not refused as a whole
abbrev pub Takes : Geometry → List ℕ → List ℕ → Type 0
Takes g records img = batchable g (length img) (length records) ≡ 0

-- ---- one by one: each record under the fuse and on the image that the one before left

-- with i done before: a refusal ends it, else the others go on
abbrev pub after_by : ℕ → Answer ℕ → Fuse → List ℕ → (Fuse → List ℕ → BatchEnd) → BatchEnd
after_by i (done n) f img more = more f img
after_by i (refused k) f img more = end_of (refused k) f img i

abbrev pub after_one : ℕ → End ℕ → (Fuse → List ℕ → BatchEnd) → BatchEnd
after_one i e more = after_by i e.answer e.fuse e.state more

abbrev pub one_by_one : Fuse → Geometry → ℕ → List ℕ → ℕ → List Record → List ℕ → BatchEnd
one_by_one f g b payload i [] img = end_of (done tt) f img i
one_by_one f g b payload i (r ∷ rs) img = after_one i (run f (write_record g b payload r) img) (λ f₁ img₁. one_by_one f₁ g b payload (i + 1) rs img₁)

unfoldable pub OneByOne : Type 0
OneByOne =
    (f : Fuse) (g : Geometry) (b : ℕ) (records payload img : List ℕ) → Takes g records img
    → batch f g b records payload img ≡ one_by_one f g b payload 0 (records_in records) img

-- ---- a batch of xs ++ ys is xs and then, if done, ys

-- what a call ends with where n records were done before it
abbrev pub raised : ℕ → BatchEnd → BatchEnd
raised n e = end_of e.answer e.fuse e.state.image (n + number_done e)

unfoldable pub Joined : Type 0
Joined =
    (f : Fuse) (g : Geometry) (b : ℕ) (xs ys payload img : List ℕ) → length xs % per_record ≡ 0 → Takes g (xs ++ ys) img
    → batch f g b (xs ++ ys) payload img ≡ next (batch f g b xs payload img) (λ _ f₁ s. raised (length xs / per_record) (batch f₁ g b ys payload s.image))

-- and so its first record, and then the rest under what is left
unfoldable pub FirstThenRest : Type 0
FirstThenRest =
    (f : Fuse) (g : Geometry) (b t o a n : ℕ) (rest payload img : List ℕ) → Takes g (t ∷ o ∷ a ∷ n ∷ rest) img
    → batch f g b (t ∷ o ∷ a ∷ n ∷ rest) payload img
    ≡ after_one 0 (run f (write_record g b payload (batch_record t o a n)) img) (λ f₁ img₁. raised 1 (batch f₁ g b rest payload img₁))

-- ---- the number: all of them where the call is done, and fewer where a record is refused

pub record Numbered (records : List ℕ) (e : BatchEnd) : Type 0 where
  pub all : e.answer ≡ done tt → e.state.table ≡ (length records / per_record) ∷ []
  pub fewer : (k : ℕ) → e.answer ≡ refused k → number_done e < length records / per_record

unfoldable pub Numbers : Type 0
Numbers =
    (f : Fuse) (g : Geometry) (b : ℕ) (records payload img : List ℕ) → Takes g records img → Numbered records (batch f g b records payload img)

-- ---- the units are those of the single calls, one after the other

abbrev pub units_among : List Event → List FlashUnit
units_among [] = []
units_among (unit u ∷ es) = u ∷ units_among es
units_among (field i v ∷ es) = units_among es

abbrev pub where_done : Answer ℕ → List FlashUnit → List FlashUnit
where_done (done n) us = us
where_done (refused k) us = []

abbrev pub in_turn : Geometry → ℕ → List ℕ → List Record → List ℕ → List FlashUnit
in_turn g b payload [] img = []
in_turn g b payload (r ∷ rs) img =
    let one = write_record g b payload r img in
    one.events ++ where_done one.answer (in_turn g b payload rs (apply one.events img))

unfoldable pub UnitsInTurn : Type 0
UnitsInTurn =
    (g : Geometry) (b : ℕ) (records payload img : List ℕ) → Takes g records img
    → units_among (write_all g b records payload (both img (0 ∷ []))).events ≡ in_turn g b payload (records_in records) img
