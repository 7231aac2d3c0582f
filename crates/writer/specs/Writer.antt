-- "The writer stores type, then payload, then size, then mark. Under Word(4) a tail of up to 3 bytes is held until the word fills or the
-- object ends." "after 8 [it] is spent: each later write, finish or delete of it gives 4."
use Rattle.std.specs.Prelude.{ℕ, zero, suc, ◌+◌, ◌-◌, ◌%◌, min, List, [], ◌∷◌, ◌++◌, true, false, ◌&&◌, length, take, drop, leb, ltb, eqb, Result, Ok, Err}
use Rattle.medium.specs.declared.geometry.Geometry.{Geometry}
use Rattle.medium.specs.declared.fuse.Fuse.{Fuse}
use Rattle.medium.specs.declared.fuse.Stopped.{Stopped}
use Rattle.medium.specs.Fuse.{Stored}
use Rattle.medium.specs.Refusal.{refusal_number}
use Rattle.medium.specs.Granularity.{pick, width_of, header}
use Rattle.medium.specs.Geometry.{admit, fit_of}
use Rattle.medium.specs.Operation.{Answer, done, refused, and_then, or_refuse, Op, ◌>>=◌, ◌>>◌, ask, give, test}
use Rattle.medium.specs.Medium.{part, write}
use Rattle.objects.specs.declared.types.ObjectType.{ObjectType}
use Rattle.objects.specs.declared.state.ObjectDataState.{ObjectDataState}
use Rattle.objects.specs.declared.state.ObjectDataState.TheVariants.{Untrusted, Valid, Deleted}
use Rattle.objects.specs.declared.state.CompositeObjectState.TheVariants as comp
use Rattle.objects.specs.declared.location.ObjectLocation.{ObjectLocation}
use Rattle.objects.specs.declared.header.ObjectHeader.{ObjectHeader}
use Rattle.objects.specs.Numbers.{unset_of}
use Rattle.objects.specs.Types.{type_byte, rank_of}
use Rattle.objects.specs.Header.{state_at, allocatable_of, set_state, set_payload_size}
use Rattle.objects.specs.Info.{total_of}
use Rattle.objects.specs.Payload.{payload_at}
use Rattle.writer.specs.declared.writer.ObjectWriter.{ObjectWriter}
use Rattle.writer.specs.declared.writer.Writing.{Writing}

-- ---- the value

abbrev pub no_tail : List ℕ
no_tail = 0 ∷ 0 ∷ 0 ∷ 0 ∷ []

abbrev pub fresh_of : Geometry → ObjectLocation → ObjectType → ObjectWriter
fresh_of g at t =
    record {
      object = record { state = comp.Allocated t Untrusted; size = unset_of g.s; location = at };
      cursor = 0;
      tail = no_tail;
      held = 0;
      spent = false;
    }

abbrev pub spent_of : ObjectWriter → ObjectWriter
spent_of w = record { object = w.object; cursor = w.cursor; tail = w.tail; held = w.held; spent = true }

-- what becomes of a writer w by a refusal: as it went in, or spent after 8
abbrev pub kept_of : Stored → ObjectWriter → ObjectWriter → ObjectWriter
kept_of (Ok f) w v = v
kept_of (Err s) w v = pick (eqb (refusal_number s.refusal) 8) (spent_of w) w

-- what a call made of w
abbrev pub back_of : ObjectWriter → Result (ObjectWriter × Fuse) Stopped → Writing
back_of w (Ok x) = record { answer = Ok x.1; writer = x.0 }
back_of w (Err s) = record { answer = Err s; writer = kept_of (Err s) w w }

abbrev pub with_header : ObjectWriter → ObjectHeader → ObjectWriter
with_header w h = record { object = h; cursor = w.cursor; tail = w.tail; held = w.held; spent = w.spent }

-- the held bytes are stored, and count
abbrev pub emptied : ObjectWriter → ObjectWriter
emptied w = record { object = w.object; cursor = w.cursor + w.held; tail = no_tail; held = 0; spent = w.spent }

-- where the next payload byte is stored
abbrev pub data_at : Geometry → ObjectWriter → ℕ
data_at g w = payload_at g w.object + w.cursor

-- ---- impossible: "a pending tail as long as the width or longer (under Bit and Word(1), not empty), a cursor above 65,536"

abbrev pub possible : Geometry → ObjectWriter → ℕ
possible g w = pick (ltb w.held (width_of g.granularity) && leb w.cursor 65536) 0 4

unfoldable pub sound_of : ObjectWriter → Geometry → ℕ → ℕ
sound_of w g room = admit g room (pick w.spent 4 (possible g w))

-- ---- with no image: 6, then 4 for an impossible writer

abbrev pub space_in : Geometry → ObjectWriter → Answer ℕ
space_in g w = pick (leb (data_at g w + w.held) g.size) (done (g.size - (data_at g w + w.held))) (refused 9)

unfoldable pub space_of : Geometry → ObjectWriter → Answer ℕ
space_of g w = and_then (or_refuse (fit_of g)) (λ _. and_then (or_refuse (possible g w)) (λ _. space_in g w))

unfoldable pub size_of_payload : Geometry → ObjectWriter → Answer ℕ
size_of_payload g w = and_then (or_refuse (fit_of g)) (λ _. and_then (or_refuse (possible g w)) (λ _. done (w.cursor + w.held)))

unfoldable pub size_of_object : Geometry → ObjectWriter → Answer ℕ
size_of_object g w =
    and_then (or_refuse (fit_of g)) (λ _.
    and_then (or_refuse (possible g w)) (λ _.
    done (header g.granularity g.s + (w.cursor + w.held))))

-- ---- the type is stored first

unfoldable pub allocate : Geometry → ObjectLocation → ObjectType → Op ObjectWriter
allocate g at t = do
  st ← ask (state_at g at)
  ask (λ _. allocatable_of t st)
  write g at.block at.offset (type_byte t ∷ [])
  give (fresh_of g at t)

-- ---- then payload: the held bytes and the new ones, as far as they are whole words, in two stores as the Rust's steps are: the tail's word
-- where it fills, then the others. The rest is held.

-- 4 out of state, 9 past the block's end, 5 too many
unfoldable pub may_write : ObjectWriter → Geometry → ℕ → ℕ → ℕ
may_write w g room n =
    let r = sound_of w g room in
    pick (eqb r 0)
    (pick (eqb (rank_of w.object.state) 1)
    (pick (leb (data_at g w + w.held) g.size) (pick (leb (data_at g w + w.held + n) g.size) 0 5) 9)
    4)
    r

abbrev pub pending_of : ObjectWriter → List ℕ → List ℕ
pending_of w src = take w.held w.tail ++ src

-- how many of n bytes are whole words of k bytes
abbrev pub whole_of : ℕ → ℕ → ℕ
whole_of k n = n - n % k

-- at most four bytes in the tail's array
abbrev pub tail_of : List ℕ → List ℕ
tail_of bs = take 4 (bs ++ no_tail)

abbrev pub held_back : ObjectWriter → ℕ → List ℕ → ObjectWriter
held_back w n bs = record { object = w.object; cursor = w.cursor + n; tail = tail_of bs; held = length bs; spent = w.spent }

-- of n bytes in whole words of k those that fill the tail's word: none where nothing is held
abbrev pub filling_of : ObjectWriter → ℕ → ℕ → ℕ
filling_of w k n = pick (eqb w.held 0) 0 (min k n)

-- the first m bytes, and then those up to the n-th
unfoldable pub put_bytes : Geometry → ObjectWriter → ℕ → ℕ → List ℕ → Op ObjectWriter
put_bytes g w m n bs = do
  write g w.object.location.block (data_at g w) (take m bs)
  write g w.object.location.block (data_at g w + m) (part m (n - m) bs)
  give (held_back w n (drop n bs))

abbrev pub put_pending : Geometry → ObjectWriter → List ℕ → Op ObjectWriter
put_pending g w bs =
    let n = whole_of (width_of g.granularity) (length bs) in
    put_bytes g w (filling_of w (width_of g.granularity) n) n bs

unfoldable pub write_some : Geometry → ObjectWriter → List ℕ → Op ObjectWriter
write_some g w src = do
  test (λ img. may_write w g (length img) (length src))
  put_pending g w (pending_of w src)

-- ---- then size, then mark

unfoldable pub may_finish : ObjectWriter → Geometry → ℕ → ℕ
may_finish w g room = let r = sound_of w g room in pick (eqb r 0) (pick (eqb (rank_of w.object.state) 1) 0 4) r

-- the held tail is padded to a word and stored; with none nothing is
unfoldable pub flush : Geometry → ObjectWriter → Op ObjectWriter
flush g w =
    pick (eqb w.held 0) (give (emptied w))
    (do
      write g w.object.location.block (data_at g w) (take w.held w.tail)
      give (emptied w))

unfoldable pub close : Geometry → ObjectDataState → ObjectWriter → Op ObjectWriter
close g to w = do
  w₁ ← flush g w
  h₁ ← set_payload_size g w₁.object w₁.cursor
  h₂ ← set_state g h₁ to
  give (with_header w₁ h₂)

unfoldable pub finalize : Geometry → ObjectWriter → Op ObjectWriter
finalize g w = do
  test (λ img. may_finish w g (length img))
  close g Valid w

-- an unfinished object gets its size first; of one that is not there, or deleted, nothing is stored
abbrev pub deleting : Geometry → ObjectWriter → ℕ → Op ObjectWriter
deleting g w zero = give w
deleting g w (suc zero) = close g Deleted w
deleting g w (suc (suc zero)) = do
  h ← set_state g w.object Deleted
  give (with_header w h)
deleting g w (suc (suc (suc n))) = give w

unfoldable pub delete : Geometry → ObjectWriter → Op ObjectWriter
delete g w = do
  test (λ img. sound_of w g (length img))
  deleting g w (rank_of w.object.state)

-- ---- an object written whole: "a payload of L bytes takes 2+L+s units, under Word(4) 3 plus L/4 rounded up"

-- done with the total size
unfoldable pub write_to : Geometry → ObjectLocation → ObjectType → List ℕ → Op ℕ
write_to g at t src = do
  w ← allocate g at t
  w₁ ← write_some g w src
  w₂ ← finalize g w₁
  give (total_of g.granularity g.s w₂.object)
