-- Who never meets the mark: an erase, the formats, and the two passes that format. They store a header over erased bytes only, and every
-- other refusal of theirs is below 10.
use mathlib.Core.Path.{◌≡◌, refl, subst}
use mathlib.Core.Bool.{Bool, true, false, ◌&&◌}
use mathlib.Core.List.{List, [], ◌∷◌}
use Prim.Native.Nat.{ℕ, zero, suc, ◌+◌, ◌-◌, ◌*◌, ◌<◌}
use native.Mathlib.Omega.{arith}
use lib.ListN.{length, get_or}
use lib.Dec.{leb, ltb, eqb}
use Rattle.medium.specs.declared.granularity.Granularity.{Granularity}
use Rattle.medium.specs.declared.geometry.Geometry.{Geometry}
use Rattle.medium.specs.declared.fuse.Fuse.{Fuse}
use Rattle.medium.specs.declared.fuse.Fuse.TheVariants.{Absent, Units}
use Rattle.medium.specs.Granularity.{pick, longest_block_header, size_at, header, block_header, finish_at, delete_at}
use Rattle.medium.specs.Geometry.{geometry_ok, admit, check_of}
use Rattle.medium.specs.Units.{FlashUnit, programmed, erased, step, under, blank}
use Rattle.medium.specs.Operation.{World, flash, happen, cost, Answer, done, refused, and_then, or_refuse, number_of, OpIn, Op, follow, ◌>>=◌, ask, refuse, test, putting, cut_by, run}
use Rattle.medium.specs.Strict.{all_ff}
use Rattle.medium.specs.Medium.{readable, erasable, read_at, erase}
use Rattle.medium.specs.Beside.{Event, unit, field, Both, beside, on_image}
use Rattle.medium.proofs.Bytes.{length_erased}
use Rattle.medium.proofs.Padding.{AreBytes, program_bytes, erased_bytes}
use Rattle.medium.proofs.Ranges.{reached, readable_within}
use Rattle.medium.proofs.Erased.{erased_at}
use Rattle.medium.proofs.Writes.{write_passed, erase_passed}
use Rattle.objects.specs.declared.state.ObjectDataState.{ObjectDataState}
use Rattle.objects.specs.declared.state.CompositeObjectState.{CompositeObjectState}
use Rattle.objects.specs.declared.location.ObjectLocation.{ObjectLocation}
use Rattle.objects.specs.declared.iterator.ObjectIterator.{ObjectIterator}
use Rattle.objects.specs.Numbers.{number}
use Rattle.objects.specs.Types.{rank_of, TypeSaid, typed, untyped, type_of, marks_of, composite_of, state_in}
use Rattle.objects.specs.Header.{state_at, sized_at, header_at}
use Rattle.objects.specs.Info.{Info, found, none, info_in, info_at}
use Rattle.objects.specs.Listing.{start_of, Met, object, free_place, block_end, next_in, at_end, next_of, Visit, Stop, end, free, broken, list_by, list_from, listing}
use Rattle.blocks.specs.declared.header.BlockType.TheVariants.{Metadata, Data, Undefined}
use Rattle.blocks.specs.declared.header.BlockHeaderKind.{BlockHeaderKind}
use Rattle.blocks.specs.declared.header.BlockHeaderKind.TheVariants.{Empty, Unknown, Known}
use Rattle.blocks.specs.declared.header.BlockHeader.{BlockHeader}
use Rattle.blocks.specs.declared.record.BlockInfo.{BlockInfo}
use Rattle.blocks.specs.BlockHeader.{header_bytes, write_header, header_in, block_header_at}
use Rattle.blocks.specs.Format.{data_length, data_empty_at, Planned, keep, label, renew, again, plan_empty, plan_undefined, plan_known, plan_of, plan_at, undefined, labelling, renewing, carry_out, format_block, format_from, format_storage}
use Rattle.blocks.specs.Record.{kind_of, allow_of, info_of}
use Rattle.blocks.specs.Scan.{unless_broken}
use Rattle.blocks.proofs.Formats.{reach_checked, reach_below, planned, format_refused}
use Rattle.blocks.proofs.Formatted.{Blank, label_stores, Told, plan_tells, count_small, blank_by, plan_is}
use Rattle.collector.specs.Table.{record_length, record_at, storing, possible_from, collectable}
use Rattle.collector.specs.Passes as passes
use Rattle.collector.specs.Passes.{worn_by, worn_out, formatting, erasing_by, erasing, last_of, ends_unfinished, erase_invalid_finished_block, all_deleted, erase_full_finished_block, Step, block_step, sweep, pass}
use Rattle.fresh.proofs.Places.{marks_two}
use Rattle.strict.specs.Calls.{Call, alone, does, Spared, erases, formats, formats_all, second, third}
use Rattle.strict.specs.Laws.{NeverTen}

-- ---- answers that refuse with no number from 10 up

abbrev Below : {A : Type 0} → Answer A → Type 0
Below (done a) = Unit {0}
Below (refused n) = n < 10

then_below : {A B : Type 0} (a : Answer A) (k : A → Answer B) → Below a → ((x : A) → Below (k x)) → Below (and_then a k)
then_below (done x) k h f = f x
then_below (refused n) k h f = h

pick_below : {A : Type 0} (t : Bool) (a b : Answer A) → Below a → Below b → Below (pick t a b)
pick_below true a b h k = h
pick_below false a b h k = k

or_below : (n : ℕ) → n < 10 → Below (or_refuse n)
or_below zero h = tt
or_below (suc n) h = h

number_below : {A : Type 0} (a : Answer A) → Below a → number_of a < 10
number_below (done a) h = omega arith
number_below (refused n) h = h

pick_less : (t : Bool) (m n : ℕ) → m < 10 → n < 10 → pick t m n < 10
pick_less true m n h k = h
pick_less false m n h k = k

never_by : {A : Type 0} (a : Answer A) → Below a → a ≡ refused 10 → ⊥
never_by a h e = let z : 10 < 10 = subst Below e h in omega arith

-- ---- what is read off the image

admit_below : (g : Geometry) (room next : ℕ) → next < 10 → admit g room next < 10
unfolding admit
admit_below g room next h = pick_less (geometry_ok g) _ _ (pick_less (eqb (g.size * g.count) room) _ _ h (omega arith)) (omega arith)

check_below : (g : Geometry) (room : ℕ) → check_of g room < 10
check_below g room = admit_below g room 0 (omega arith)

read_below : (g : Geometry) (b o n : ℕ) (img : List ℕ) → Below (read_at g b o n img)
unfolding read_at readable
read_below g b o n img =
    pick_below (eqb (readable g (length img) b o n) 0) _ _ tt
    (admit_below g (length img) _ (pick_less (ltb b g.count && leb (o + n) g.size) 0 3 (omega arith) (omega arith)))

-- ---- a block's header and its plan

header_below : (g : Geometry) (b : ℕ) (img : List ℕ) → Below (block_header_at g b img)
unfolding block_header_at
header_below g b img = then_below (read_at g b 0 longest_block_header img) (λ bs. done (header_in g bs)) (read_below g b 0 longest_block_header img) (λ _. tt)

empty_below : (g : Geometry) (b : ℕ) (img : List ℕ) → Below (data_empty_at g b img)
unfolding data_empty_at
empty_below g b img = then_below (read_at g b (block_header g.granularity) (data_length g) img) (λ bs. done (all_ff bs)) (read_below g b (block_header g.granularity) (data_length g) img) (λ _. tt)

again_below : (n : ℕ) → Below (again n)
unfolding again
again_below n = pick_below (eqb n 4294967295) _ _ (omega arith) tt

plan_of_below : (k : BlockHeaderKind) (n : ℕ) (e : Answer Bool) → Below e → Below (plan_of k n e)
unfolding plan_of plan_known
plan_of_below Empty n e h = pick_below (eqb n 4294967295) _ _ (go e h) tt
  where
    go : (e : Answer Bool) → Below e → Below (plan_empty e)
    go (done true) h = tt
    go (done false) h = tt
    go (refused k) h = h
plan_of_below Unknown n e h = tt
plan_of_below (Known Metadata) n e h = again_below n
plan_of_below (Known Data) n e h = again_below n
plan_of_below (Known Undefined) n e h = go e h
  where
    go : (e : Answer Bool) → Below e → Below (plan_undefined n e)
    go (done true) h = tt
    go (done false) h = again_below n
    go (refused k) h = h

plan_below : (g : Geometry) (b : ℕ) (img : List ℕ) → Below (plan_at g b img)
unfolding plan_at
plan_below g b img =
    then_below (block_header_at g b img) (λ h. plan_of h.kind h.erase_count (data_empty_at g b img)) (header_below g b img)
    (λ h. plan_of_below h.kind h.erase_count (data_empty_at g b img) (empty_below g b img))

-- ---- a listing

type_below : (b : ℕ) → Below (type_of b)
unfolding type_of
type_below b = pick_below (eqb b 0x8F) _ _ tt (pick_below (eqb b 0x8E) _ _ tt (pick_below (eqb b 0x8D) _ _ tt (pick_below (eqb b 0xFF) _ _ tt (omega arith))))

marks_below : (k : Granularity) (a b : ℕ) → Below (marks_of k a b)
marks_below k a b = go (marks_of k a b) refl
  where
    go : (m : Answer ObjectDataState) → marks_of k a b ≡ m → Below m
    go (done d) q = tt
    go (refused n) q = omega (arith, marks_two k a b n q)

state_in_below : (k : Granularity) (bs : List ℕ) → Below (state_in k bs)
unfolding state_in
state_in_below k bs = go (type_of (get_or bs 0 0)) _ (type_below (get_or bs 0 0)) (marks_below k (get_or bs (finish_at k) 0) (get_or bs (delete_at k) 0))
  where
    go : (a : Answer TypeSaid) (m : Answer ObjectDataState) → Below a → Below m → Below (composite_of a m)
    go (done (typed t)) (done d) h w = tt
    go (done (typed t)) (refused n) h w = w
    go (done untyped) m h w = tt
    go (refused n) m h w = h

state_below : (g : Geometry) (at : ObjectLocation) (img : List ℕ) → Below (state_at g at img)
unfolding state_at
state_below g at img =
    then_below (read_at g at.block at.offset (size_at g.granularity) img) (λ bs. state_in g.granularity bs)
    (read_below g at.block at.offset (size_at g.granularity) img) (λ bs. state_in_below g.granularity bs)

sized_below : (g : Geometry) (at : ObjectLocation) (st : CompositeObjectState) (img : List ℕ) → Below (sized_at g at st img)
unfolding sized_at
sized_below g at st img =
    then_below (read_at g at.block (at.offset + size_at g.granularity) g.s img) (λ bs. done (record { state = st; size = number bs; location = at }))
    (read_below g at.block (at.offset + size_at g.granularity) g.s img) (λ _. tt)

info_below : (g : Geometry) (at : ObjectLocation) (img : List ℕ) → Below (info_at g at img)
unfolding info_at header_at
info_below g at img =
    then_below (header_at g at img) (λ h. done (info_in h.state h))
    (then_below (state_at g at img) (λ st. sized_at g at st img) (state_below g at img) (λ st. sized_below g at st img)) (λ _. tt)

next_below : (g : Geometry) (i : ObjectIterator) (img : List ℕ) → Below (next_of g i img)
unfolding next_of
next_below g i img = go (or_refuse (check_of g (length img))) (or_below (check_of g (length img)) (check_below g (length img)))
  where
    met : (a : Answer Info) → Below a → Below (next_in g i a)
    met (done (found h)) w = tt
    met (done none) w = tt
    met (refused n) w = w

    go : (a : Answer (Unit {0})) → Below a → Below (at_end g i a img)
    go (done x) h = pick_below (leb g.size (i.location.offset + header g.granularity g.s)) _ _ tt (met (info_at g i.location img) (info_below g i.location img))
    go (refused n) h = h

-- why it stops
abbrev Ends : Stop → Type 0
Ends end = Unit {0}
Ends free = Unit {0}
Ends (broken n) = n < 10

list_ends : (n : ℕ) (g : Geometry) (i : ObjectIterator) (img : List ℕ) → Ends (list_from n g i img).stop
unfolding list_from
list_ends zero g i img = tt
list_ends (suc n) g i img = go (next_of g i img) (next_below g i img) (λ j. list_ends n g j img)
  where
    go : (a : Answer Met) → Below a → ((j : ObjectIterator) → Ends (list_from n g j img).stop) → Ends (list_by a i (λ j. list_from n g j img)).stop
    go (done (object h j)) w more = more j
    go (done free_place) w more = tt
    go (done block_end) w more = tt
    go (refused k) w more = w

listing_ends : (g : Geometry) (b : ℕ) (img : List ℕ) → Ends (listing g b img).stop
unfolding listing
listing_ends g b img = list_ends g.size g (start_of g b) img

unless_below : {A : Type 0} (s : Stop) (a : A) → Ends s → Below (unless_broken s a)
unless_below end a h = tt
unless_below free a h = tt
unless_below (broken n) a h = h

last_below : (vs : List Visit) (s : Stop) → Ends s → Below (last_of vs s)
last_below [] s h = unless_below s true h
last_below (v ∷ vs) s h = omega arith

unfinished_below : (vs : List Visit) (s : Stop) → Ends s → Below (ends_unfinished vs s)
unfinished_below [] s h = unless_below s false h
unfinished_below (v ∷ vs) s h =
    pick_below (eqb (rank_of v.object.state) 3) _ _ (unfinished_below vs s h)
    (pick_below (eqb (rank_of v.object.state) 1) _ _ (last_below vs s h) tt)

deleted_below : (vs : List Visit) (s : Stop) → Ends s → Below (all_deleted vs s)
deleted_below [] s h = unless_below s true h
deleted_below (v ∷ vs) s h = pick_below (eqb (rank_of v.object.state) 3) _ _ (deleted_below vs s h) tt

-- ---- what is read off the table

kind_below : (n : ℕ) → Below (kind_of n)
unfolding kind_of
kind_below n =
    pick_below (eqb n 0) _ _ tt (pick_below (eqb n 1) _ _ tt (pick_below (eqb n 2) _ _ tt (pick_below (eqb n 3) _ _ tt (pick_below (eqb n 4) _ _ tt (omega arith)))))

allow_below : (n : ℕ) → Below (allow_of n)
allow_below n = pick_below (eqb n 0) _ _ tt (pick_below (eqb n 1) _ _ tt (omega arith))

info_of_below : (kind count used allow : ℕ) → Below (info_of kind count used allow)
unfolding info_of
info_of_below kind count used allow =
    then_below (kind_of kind)
    (λ k. and_then (allow_of allow) (λ a. done (record { header = record { kind = k; erase_count = count }; used_bytes = used; allow_alloc = a })))
    (kind_below kind)
    (λ k. then_below (allow_of allow) (λ a. done (record { header = record { kind = k; erase_count = count }; used_bytes = used; allow_alloc = a })) (allow_below allow) (λ _. tt))

record_below : (t : List ℕ) (b : ℕ) → Below (record_at t b)
unfolding record_at
record_below t b = info_of_below _ _ _ _

possible_below : (n : ℕ) (t : List ℕ) (b : ℕ) → Below (possible_from n t b)
unfolding possible_from
possible_below zero t b = tt
possible_below (suc n) t b = then_below (record_at t b) (λ _. possible_from n t (b + 1)) (record_below t b) (λ _. possible_below n t (b + 1))

collectable_below : (g : Geometry) (room : ℕ) (t : List ℕ) → collectable g room t < 10
unfolding collectable
collectable_below g room t =
    admit_below g room _
    (pick_less (eqb (record_length * g.count) (length t)) (number_of (possible_from g.count t 0)) 7 (number_below (possible_from g.count t 0) (possible_below g.count t 0)) (omega arith))

-- ---- operations that so answer, on the states that events keep good

module _ (W : World) (Good : W.State → Type 0) where
  abbrev Spares : {A : Type 0} → OpIn W A → Type 0
  Spares o = (s : W.State) → Good s → Below (o s).answer

  ask_spares : {A : Type 0} (q : W.State → Answer A) → ((s : W.State) → Below (q s)) → Spares (ask {W = W} q)
  unfolding ask
  ask_spares q h s good = h s

  test_spares : (q : W.State → ℕ) → ((s : W.State) → q s < 10) → Spares (test {W = W} q)
  unfolding test
  test_spares q h = ask_spares (λ s. or_refuse (q s)) (λ s. or_below (q s) (h s))

  pick_spares : {A : Type 0} (t : Bool) (o p : OpIn W A) → Spares o → Spares p → Spares (pick t o p)
  pick_spares true o p h k = h
  pick_spares false o p h k = k

  module _ (keeps : (e : W.Event) (s : W.State) → Good s → Good (W.step e s)) where
    happen-keeps : (es : List W.Event) (s : W.State) → Good s → Good (happen W es s)
    happen-keeps [] s h = h
    happen-keeps (e ∷ es) s h = happen-keeps es (W.step e s) (keeps e s h)

    bind-spares : {A B : Type 0} (o : OpIn W A) (p : A → OpIn W B) → Spares o → ((a : A) → Spares (p a)) → Spares (o >>= p)
    unfolding ◌>>=◌
    bind-spares {A} {B} o p h k s good = go (o s).answer (h s good)
      where
        go : (a : Answer A) → Below a → Below (follow {W = W} {B = B} (o s).events a p s).answer
        go (done a) w = k a (happen W (o s).events s) (happen-keeps (o s).events s good)
        go (refused n) w = w

-- a fuse adds 8 alone
run_below : {W : World} {A : Type 0} (f : Fuse) (o : OpIn W A) (s : W.State) → Below (o s).answer → Below (run f o s).answer
unfolding run
run_below Absent o s h = h
run_below {W} (Units k) o s h = go (leb (cost W (o s).events) k)
  where
    go : (t : Bool) → Below (cut_by {W = W} t k (o s) s).answer
    go true = h
    go false = omega arith

-- ---- an image of bytes stays one

step_bytes : (u : FlashUnit) (img : List ℕ) → AreBytes img → AreBytes (step u img)
step_bytes (programmed a bs) img h = program_bytes a bs img h
step_bytes (erased a n) img h = erased_bytes a n img h

abbrev BothBytes : Both → Type 0
BothBytes s = AreBytes s.image

both_bytes : (e : Event) (s : Both) → BothBytes s → BothBytes (beside.step e s)
both_bytes (unit u) s h = step_bytes u s.image h
both_bytes (field i v) s h = h

image_spares : {A : Type 0} (o : Op A) → Spares flash AreBytes o → Spares beside BothBytes (on_image o)
unfolding on_image
image_spares o h s good = h s.image good

-- ---- the stores

erase_spares : (g : Geometry) (b : ℕ) → Spares flash AreBytes (erase g b)
unfolding erase erasable putting ask
erase_spares g b img bytes = go (eqb (erasable g (length img) b) 0)
  where
    go : (t : Bool) → Below (pick {A = Op (Unit {0})} t (putting (erased (b * g.size) g.size ∷ []) tt) (refuse (erasable g (length img) b)) img).answer
    go true = tt
    go false = admit_below g (length img) _ (pick_less (ltb b g.count) 0 3 (omega arith) (omega arith))

-- a header over an erased block is stored, under the mark too
label_below : (g : Geometry) (b n : ℕ) (img : List ℕ) → erasable g (length img) b ≡ 0 → Blank g b img → n < 4294967296 → Below (labelling g b n img).answer
unfolding labelling write_header
label_below g b n img reach ff small = rw (write_passed g b 0 (header_bytes g (undefined n)) img (label_stores g b n img reach ff small)) tt

renew_below : (g : Geometry) (b n : ℕ) (img : List ℕ) → erasable g (length img) b ≡ 0 → n < 4294967296 → Below (renewing g b n img).answer
unfolding renewing ◌>>=◌
renew_below g b n img reach small =
    let l : length (under (b * g.size) (blank g.size) img) ≡ length img = length_erased (b * g.size) g.size img in
    let ends : (o : ℕ) → o < g.size → b * g.size + o < length img =
    λ o h. omega (arith, (reached g (length img) b o 1 (readable g (length img) b o 1) refl (readable_within g (length img) b o 1 (reach_checked g (length img) b reach) (reach_below g (length img) b (erasable g (length img) b) refl reach) (omega arith))).ends) in
    rw (erase_passed g b img reach)
    (label_below g b n (under (b * g.size) (blank g.size) img) (rw l reach) (λ o h. erased_at (b * g.size) g.size img o 0 h (ends o h)) small)

-- what a plan stores goes over erased bytes
format_spares : (g : Geometry) (b : ℕ) → Spares flash AreBytes (format_block g b)
unfolding format_block ◌>>=◌ ask plan_at
format_spares g b img bytes = go (block_header_at g b img) refl
  where
    carried : (h : BlockHeader) → block_header_at g b img ≡ done h → (p : Planned) → Told h.kind h.erase_count (data_empty_at g b img) (done p)
        → erasable g (length img) b ≡ 0 → Below (carry_out g b p img).answer
    carried h q keep t reach = tt
    carried h q label t reach = label_below g b 0 img reach (blank_by g b img bytes h q t.0 t.1 t.2) (omega arith)
    carried h q (renew n) t reach = renew_below g b n img reach (t (count_small g b img bytes h q))

    by-plan : (h : BlockHeader) → block_header_at g b img ≡ done h → (a : Answer Planned) → plan_at g b img ≡ a → Below a → Told h.kind h.erase_count (data_empty_at g b img) a
        → Below (follow {W = flash} [] a (λ p. carry_out g b p) img).answer
    by-plan h q (done p) e w t = carried h q p t (planned g b img p e)
    by-plan h q (refused n) e w t = w

    go : (a : Answer BlockHeader) → block_header_at g b img ≡ a → Below (format_block g b img).answer
    go (done h) q =
        by-plan h q (plan_at g b img) refl (plan_below g b img) (rw (plan_is g b img h q) (plan_tells h.kind h.erase_count (data_empty_at g b img)))
    go (refused n) q =
        let w : n < 10 = rw q at (header_below g b img) in
        rw (format_refused g b img n (rw q)) w

format_from_spares : (n : ℕ) (g : Geometry) (b : ℕ) → Spares flash AreBytes (format_from n g b)
unfolding format_from
format_from_spares zero g b = ask_spares flash AreBytes _ (λ _. tt)
format_from_spares (suc n) g b = bind-spares flash AreBytes step_bytes _ _ (format_spares g b) (λ _. format_from_spares n g (b + 1))

format_storage_spares : (g : Geometry) → Spares flash AreBytes (format_storage g)
unfolding format_storage
format_storage_spares g = bind-spares flash AreBytes step_bytes _ _ (test_spares flash AreBytes _ (λ img. check_below g (length img))) (λ _. format_from_spares g.count g 0)

-- ---- the passes

renewing_spares : (g : Geometry) (b n : ℕ) → Spares beside BothBytes (passes.renewing g b n)
unfolding passes.renewing worn_out formatting storing putting
renewing_spares g b n =
    pick_spares beside BothBytes (eqb n 4294967295) _ _ (image_spares _ (ask_spares flash AreBytes _ (λ img. worn (plan_at g b img) (plan_below g b img))))
    (bind-spares beside BothBytes both_bytes _ _ (image_spares _ (format_spares g b)) (λ _ s good. tt))
  where
    worn : (a : Answer Planned) → Below a → Below (worn_by a)
    worn (done p) h = omega arith
    worn (refused k) h = h

erasing_spares : (g : Geometry) (b : ℕ) (r : BlockInfo) (d : Bool) → Spares beside BothBytes (erasing g b r d)
unfolding erasing
erasing_spares g b r false = ask_spares beside BothBytes _ (λ _. tt)
erasing_spares g b r true = go r.header.kind
  where
    go : (k : BlockHeaderKind) → Spares beside BothBytes (erasing_by g b r k)
    go Empty = ask_spares beside BothBytes _ (λ _. omega arith)
    go Unknown = ask_spares beside BothBytes _ (λ _. omega arith)
    go (Known t) = renewing_spares g b r.header.erase_count

second_spares : (g : Geometry) (b : ℕ) (r : BlockInfo) → Spares beside BothBytes (erase_invalid_finished_block g b r)
unfolding erase_invalid_finished_block
second_spares g b r =
    pick_spares beside BothBytes r.allow_alloc _ _ (ask_spares beside BothBytes _ (λ _. tt))
    (bind-spares beside BothBytes both_bytes _ _
    (ask_spares beside BothBytes _ (λ s. unfinished_below (listing g b s.image).visits (listing g b s.image).stop (listing_ends g b s.image)))
    (λ d. erasing_spares g b r d))

third_spares : (g : Geometry) (b : ℕ) (r : BlockInfo) → Spares beside BothBytes (erase_full_finished_block g b r)
unfolding erase_full_finished_block
third_spares g b r =
    pick_spares beside BothBytes (leb (g.size - header g.granularity g.s) r.used_bytes) _ _ (ask_spares beside BothBytes _ (λ _. tt))
    (bind-spares beside BothBytes both_bytes _ _
    (ask_spares beside BothBytes _ (λ s. deleted_below (listing g b s.image).visits (listing g b s.image).stop (listing_ends g b s.image)))
    (λ d. erasing_spares g b r d))

module _ (g : Geometry) (step : Step) (each : (b : ℕ) (r : BlockInfo) → Spares beside BothBytes (step g b r)) where
  sweep_spares : (n b : ℕ) → Spares beside BothBytes (sweep step n g b)
  unfolding sweep block_step
  sweep_spares zero b = ask_spares beside BothBytes _ (λ _. tt)
  sweep_spares (suc n) b =
      bind-spares beside BothBytes both_bytes _ _
      (bind-spares beside BothBytes both_bytes _ _ (ask_spares beside BothBytes _ (λ s. record_below s.table b)) (λ r. each b r))
      (λ _. sweep_spares n (b + 1))

  pass_spares : Spares beside BothBytes (pass step g)
  unfolding pass
  pass_spares =
      bind-spares beside BothBytes both_bytes _ _ (test_spares beside BothBytes _ (λ s. collectable_below g (length s.image) s.table)) (λ _. sweep_spares g.count 0)

-- ---- the calls

alone_spares : {A : Type 0} (o : Op A) → Spares flash AreBytes o → Spares beside BothBytes (alone o)
alone_spares o h = image_spares _ (bind-spares flash AreBytes step_bytes o _ h (λ _. ask_spares flash AreBytes _ (λ _. tt)))

spared_below : (g : Geometry) {c : Call} → Spared c → Spares beside BothBytes (does g c)
spared_below g (erases b) = alone_spares _ (erase_spares g b)
spared_below g (formats b) = alone_spares _ (format_spares g b)
spared_below g formats_all = alone_spares _ (format_storage_spares g)
spared_below g second = pass_spares g erase_invalid_finished_block (second_spares g)
spared_below g third = pass_spares g erase_full_finished_block (third_spares g)

pub never_ten : NeverTen
unfolding NeverTen
never_ten f g c h s bytes e = never_by (run f (does g c) s).answer (run_below f (does g c) s (spared_below g h s bytes)) e
