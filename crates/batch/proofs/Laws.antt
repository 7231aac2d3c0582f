-- The laws of a batch, by induction over its records.
use mathlib.Core.Path.{◌≡◌, refl, sym, ap, ap₂, ◌∙◌}
use mathlib.Core.List.{List, [], ◌∷◌, ◌++◌, append-nil}
use Prim.Native.Nat.{ℕ, ◌+◌, ◌/◌, ◌%◌, ◌≤◌, ◌<◌}
use native.Mathlib.Omega.{arith}
use native.Mathlib.Nat.{zero-add}
use lib.ListN.{length, length-append}
use Rattle.medium.specs.declared.geometry.Geometry.{Geometry}
use Rattle.medium.specs.declared.fuse.Fuse.{Fuse}
use Rattle.medium.specs.Units.{FlashUnit}
use Rattle.medium.specs.Operation.{apply, Answer, done, refused, or_refuse, Run, Op, End, run, next_by, next, ◌>>=◌, ask, test, putting}
use Rattle.medium.specs.Beside.{Event, field, Both, both, beside, units, on_image}
use Rattle.medium.proofs.Left.{bind_events, asked}
use Rattle.medium.proofs.Beside.{length_run, image_left, image_answer}
use Rattle.batch.specs.declared.record.Record.{Record}
use Rattle.batch.specs.Batch.{per_record, batch_record, records_in, batchable, write_record, count_to, writing, write_all}
use Rattle.batch.specs.Laws.{BatchEnd, end_of, batch, number_done, Takes, after_by, after_one, one_by_one, OneByOne, raised, Joined, FirstThenRest, Numbers, units_among, where_done, in_turn, UnitsInTurn}
use Rattle.batch.proofs.Turns.{batch_passed, batch-fits, batch_checked, record-on, record-stop, records_end, all-on}

-- ---- one by one

module _ (g : Geometry) (b : ℕ) (payload : List ℕ) where
  -- what comes after a record, where it goes on the same way
  after_same : (i : ℕ) (e : End ℕ) (k l : Fuse → List ℕ → BatchEnd) → ((f : Fuse) (img : List ℕ) → k f img ≡ l f img) → after_one i e k ≡ after_one i e l
  after_same i e k l h = go e.answer refl
    where
      go : (a : Answer ℕ) → e.answer ≡ a → after_one i e k ≡ after_one i e l
      go (done n) d = rw d (h e.fuse e.state)
      go (refused n) d = rw d

  -- a record's turn, whatever it gives
  turn : (f : Fuse) (i : ℕ) (r : Record) (rs : List Record) (img : List ℕ)
      → run f (writing g b payload i (r ∷ rs)) (both img (i ∷ []))
      ≡ after_one i (run f (write_record g b payload r) img) (λ f₁ img₁. run f₁ (writing g b payload (i + 1) rs) (both img₁ ((i + 1) ∷ [])))
  turn f i r rs img = go (run f (write_record g b payload r) img).answer (run f (write_record g b payload r) img).fuse (run f (write_record g b payload r) img).state refl
    where
      go : (a : Answer ℕ) (left : Fuse) (after : List ℕ) → run f (write_record g b payload r) img ≡ record { answer = a; fuse = left; state = after }
          → run f (writing g b payload i (r ∷ rs)) (both img (i ∷ [])) ≡ after_by i a left after (λ f₁ img₁. run f₁ (writing g b payload (i + 1) rs) (both img₁ ((i + 1) ∷ [])))
      go (done n) left after h = record-on g b payload i r rs f img after left h
      go (refused n) left after h = record-stop g b payload i r rs f img after left h

  turns : (f : Fuse) (i : ℕ) (rs : List Record) (img : List ℕ) → run f (writing g b payload i rs) (both img (i ∷ [])) ≡ one_by_one f g b payload i rs img
  turns f i [] img = records_end g b payload i f (both img (i ∷ []))
  turns f i (r ∷ rs) img =
      turn f i r rs img
      ∙ after_same i (run f (write_record g b payload r) img) (λ f₁ img₁. run f₁ (writing g b payload (i + 1) rs) (both img₁ ((i + 1) ∷ []))) (λ f₁ img₁. one_by_one f₁ g b payload (i + 1) rs img₁)
      (λ f₁ img₁. turns f₁ (i + 1) rs img₁)

pub one_by_one_lem : OneByOne
unfolding OneByOne
one_by_one_lem f g b records payload img h = all-on g b payload records f img (0 ∷ []) h ∙ turns g b payload f 0 (records_in records) img

-- ---- lists of numbers that are joined

records_append : (xs ys : List ℕ) → length xs % per_record ≡ 0 → records_in (xs ++ ys) ≡ records_in xs ++ records_in ys
unfolding records_in
records_append [] ys h = refl
records_append (t ∷ []) ys h = absurd (omega arith)
records_append (t ∷ o ∷ []) ys h = absurd (omega arith)
records_append (t ∷ o ∷ a ∷ []) ys h = absurd (omega arith)
records_append (t ∷ o ∷ a ∷ n ∷ xs) ys h = ap (λ (rs : List Record). batch_record t o a n ∷ rs) (records_append xs ys (omega arith))

pub records_length : (ns : List ℕ) → length (records_in ns) ≡ length ns / per_record
unfolding records_in
records_length [] = refl
records_length (t ∷ []) = refl
records_length (t ∷ o ∷ []) = refl
records_length (t ∷ o ∷ a ∷ []) = refl
records_length (t ∷ o ∷ a ∷ n ∷ ns) = omega (arith, records_length ns)

-- a part of a list that is taken, on an image of the same length
pub takes_part : (g : Geometry) (ns ms img after : List ℕ) → Takes g ns img → length ms ≤ length ns → length ms % per_record ≡ 0 → length after ≡ length img → Takes g ms after
takes_part g ns ms img after h l w e =
    let p = batch_passed g (length img) (length ns) 0 (sym h) refl in
    rw e (sym (batch-fits g (length img) (length ms) 0 (sym (batch_checked g (length img) (length ns) h)) refl (omega (arith, p)) w))

module _ (g : Geometry) (b : ℕ) (payload : List ℕ) where
  split : (f : Fuse) (i : ℕ) (xs ys : List Record) (img : List ℕ)
      → one_by_one f g b payload i (xs ++ ys) img ≡ next (one_by_one f g b payload i xs img) (λ _ f₁ s. one_by_one f₁ g b payload (i + length xs) ys s.image)
  split f i [] ys img = let e : i ≡ i + 0 = omega arith in ap (λ (n : ℕ). one_by_one f g b payload n ys img) e
  split f i (x ∷ xs) ys img = go (run f (write_record g b payload x) img).answer (run f (write_record g b payload x) img).fuse (run f (write_record g b payload x) img).state (λ l m. split l (i + 1) xs ys m)
    where
      go : (z : Answer ℕ) (left : Fuse) (after : List ℕ)
          → ((l : Fuse) (m : List ℕ) → one_by_one l g b payload (i + 1) (xs ++ ys) m ≡ next (one_by_one l g b payload (i + 1) xs m) (λ _ f₁ s. one_by_one f₁ g b payload (i + 1 + length xs) ys s.image))
          → after_by i z left after (λ f₁ img₁. one_by_one f₁ g b payload (i + 1) (xs ++ ys) img₁)
          ≡ next (after_by i z left after (λ f₁ img₁. one_by_one f₁ g b payload (i + 1) xs img₁)) (λ _ f₁ s. one_by_one f₁ g b payload (i + length (x ∷ xs)) ys s.image)
      go (done n) left after more =
          let e : i + 1 + length xs ≡ i + length (x ∷ xs) = omega arith in
          more left after ∙ ap (λ (m : ℕ). next (one_by_one left g b payload (i + 1) xs after) (λ _ f₁ s. one_by_one f₁ g b payload m ys s.image)) e
      go (refused n) left after more = refl

  raise : (f : Fuse) (m i : ℕ) (rs : List Record) (img : List ℕ) → one_by_one f g b payload (m + i) rs img ≡ raised m (one_by_one f g b payload i rs img)
  raise f m i [] img = refl
  raise f m i (r ∷ rs) img = go (run f (write_record g b payload r) img).answer (run f (write_record g b payload r) img).fuse (run f (write_record g b payload r) img).state (λ l m₁. raise l m (i + 1) rs m₁)
    where
      go : (z : Answer ℕ) (left : Fuse) (after : List ℕ) → ((l : Fuse) (m₁ : List ℕ) → one_by_one l g b payload (m + (i + 1)) rs m₁ ≡ raised m (one_by_one l g b payload (i + 1) rs m₁))
          → after_by (m + i) z left after (λ f₁ img₁. one_by_one f₁ g b payload (m + i + 1) rs img₁) ≡ raised m (after_by i z left after (λ f₁ img₁. one_by_one f₁ g b payload (i + 1) rs img₁))
      go (done n) left after more =
          let e : m + i + 1 ≡ m + (i + 1) = omega arith in
          ap (λ (k : ℕ). one_by_one left g b payload k rs after) e ∙ more left after
      go (refused n) left after more = refl

  -- the image keeps its length
  pub long : (f : Fuse) (i : ℕ) (rs : List Record) (img : List ℕ) → length (one_by_one f g b payload i rs img).state.image ≡ length img
  long f i rs img = ap (λ (e : BatchEnd). length e.state.image) (sym (turns g b payload f i rs img)) ∙ length_run f (writing g b payload i rs) (both img (i ∷ []))

  next_same : (e : BatchEnd) (k l : Fuse → List ℕ → BatchEnd) → k e.fuse e.state.image ≡ l e.fuse e.state.image
      → next e (λ _ f₁ s. k f₁ s.image) ≡ next e (λ _ f₁ s. l f₁ s.image)
  next_same e k l h = go e.answer
    where
      go : (a : Answer (Unit {0})) → next_by a e.fuse e.state (λ _ f₁ s. k f₁ s.image) ≡ next_by a e.fuse e.state (λ _ f₁ s. l f₁ s.image)
      go (done n) = h
      go (refused n) = refl

  -- the rest after n records, as a call of its own
  rest : (f : Fuse) (n : ℕ) (records img : List ℕ) → Takes g records img → one_by_one f g b payload n (records_in records) img ≡ raised n (batch f g b records payload img)
  unfolding OneByOne
  rest f n records img h =
      let e : n ≡ n + 0 = omega arith in
      ap (λ (m : ℕ). one_by_one f g b payload m (records_in records) img) e ∙ raise f n 0 (records_in records) img ∙ ap (raised n) (sym (one_by_one_lem f g b records payload img h))

  join : (f : Fuse) (xs ys img : List ℕ) → length xs % per_record ≡ 0 → Takes g (xs ++ ys) img
      → batch f g b (xs ++ ys) payload img ≡ next (batch f g b xs payload img) (λ _ f₁ s. raised (length xs / per_record) (batch f₁ g b ys payload s.image))
  unfolding OneByOne
  join f xs ys img w h =
      let p = batch_passed g (length img) (length (xs ++ ys)) 0 (sym h) refl in
      let l = length-append xs ys in
      let hx : Takes g xs img = takes_part g (xs ++ ys) xs img img h (omega (arith, l)) w refl in
      let e = one_by_one f g b payload 0 (records_in xs) img in
      let hy : Takes g ys e.state.image = takes_part g (xs ++ ys) ys img e.state.image h (omega (arith, l)) (omega (arith, l, p)) (long f 0 (records_in xs) img) in
      one_by_one_lem f g b (xs ++ ys) payload img h
      ∙ ap (λ (rs : List Record). one_by_one f g b payload 0 rs img) (records_append xs ys w)
      ∙ split f 0 (records_in xs) (records_in ys) img
      ∙ ap (λ (n : ℕ). next e (λ _ f₁ s. one_by_one f₁ g b payload n (records_in ys) s.image)) (zero-add (length (records_in xs)) ∙ records_length xs)
      ∙ next_same e (λ f₁ m. one_by_one f₁ g b payload (length xs / per_record) (records_in ys) m) (λ f₁ m. raised (length xs / per_record) (batch f₁ g b ys payload m))
      (rest e.fuse (length xs / per_record) ys e.state.image hy)
      ∙ ap (λ (x : BatchEnd). next x (λ _ f₁ s. raised (length xs / per_record) (batch f₁ g b ys payload s.image))) (sym (one_by_one_lem f g b xs payload img hx))

pub joined : Joined
unfolding Joined
joined f g b xs ys payload img w h = join g b payload f xs ys img w h

module _ (g : Geometry) (b t o a n : ℕ) (records payload : List ℕ) where
  abbrev one : Record
  one = batch_record t o a n

  first : (f : Fuse) (img : List ℕ) → Takes g (t ∷ o ∷ a ∷ n ∷ records) img
      → batch f g b (t ∷ o ∷ a ∷ n ∷ records) payload img ≡ after_one 0 (run f (write_record g b payload one) img) (λ f₁ img₁. raised 1 (batch f₁ g b records payload img₁))
  unfolding OneByOne records_in
  first f img h = one_by_one_lem f g b (t ∷ o ∷ a ∷ n ∷ records) payload img h ∙ go (run f (write_record g b payload one) img).answer (run f (write_record g b payload one) img).fuse (run f (write_record g b payload one) img).state (long g b payload f 0 (one ∷ []) img)
    where
      go : (z : Answer ℕ) (left : Fuse) (after : List ℕ) → length (after_by 0 z left after (λ f₁ img₁. end_of (done tt) f₁ img₁ 1)).state.image ≡ length img
          → after_by 0 z left after (λ f₁ img₁. one_by_one f₁ g b payload 1 (records_in records) img₁) ≡ after_by 0 z left after (λ f₁ img₁. raised 1 (batch f₁ g b records payload img₁))
      go (done m) left after l =
          let p = batch_passed g (length img) (length (t ∷ o ∷ a ∷ n ∷ records)) 0 (sym h) refl in
          rest g b payload left 1 records after (takes_part g (t ∷ o ∷ a ∷ n ∷ records) records img after h (omega arith) (omega (arith, p)) l)
      go (refused m) left after l = refl

pub first_then_rest : FirstThenRest
unfolding FirstThenRest
first_then_rest f g b t o a n records payload img h = first g b t o a n records payload f img h

-- ---- the number

module _ (g : Geometry) (b : ℕ) (payload : List ℕ) where
  pub all_done : (f : Fuse) (i : ℕ) (rs : List Record) (img : List ℕ) → (one_by_one f g b payload i rs img).answer ≡ done tt → (one_by_one f g b payload i rs img).state.table ≡ (i + length rs) ∷ []
  all_done f i [] img e = let z : i ≡ i + 0 = omega arith in ap (λ (n : ℕ). n ∷ []) z
  all_done f i (r ∷ rs) img e = go (run f (write_record g b payload r) img).answer (run f (write_record g b payload r) img).fuse (run f (write_record g b payload r) img).state (λ l m h. all_done l (i + 1) rs m h) e
    where
      go : (z : Answer ℕ) (left : Fuse) (after : List ℕ)
          → ((l : Fuse) (m : List ℕ) → (one_by_one l g b payload (i + 1) rs m).answer ≡ done tt → (one_by_one l g b payload (i + 1) rs m).state.table ≡ (i + 1 + length rs) ∷ [])
          → (after_by i z left after (λ f₁ img₁. one_by_one f₁ g b payload (i + 1) rs img₁)).answer ≡ done tt
          → (after_by i z left after (λ f₁ img₁. one_by_one f₁ g b payload (i + 1) rs img₁)).state.table ≡ (i + length (r ∷ rs)) ∷ []
      go (done n) left after more h =
          let z : i + 1 + length rs ≡ i + length (r ∷ rs) = omega arith in
          more left after h ∙ ap (λ (n : ℕ). n ∷ []) z
      go (refused n) left after more h = let z : ◌≡◌ {A = ℕ} 0 1 = cc in absurd (omega arith)

  some_done : (f : Fuse) (i : ℕ) (rs : List Record) (img : List ℕ) (k : ℕ) → (one_by_one f g b payload i rs img).answer ≡ refused k → number_done (one_by_one f g b payload i rs img) < i + length rs
  some_done f i [] img k e = let z : ◌≡◌ {A = ℕ} 0 1 = cc in absurd (omega arith)
  some_done f i (r ∷ rs) img k e = go (run f (write_record g b payload r) img).answer (run f (write_record g b payload r) img).fuse (run f (write_record g b payload r) img).state (λ l m h. some_done l (i + 1) rs m k h) e
    where
      go : (z : Answer ℕ) (left : Fuse) (after : List ℕ)
          → ((l : Fuse) (m : List ℕ) → (one_by_one l g b payload (i + 1) rs m).answer ≡ refused k → number_done (one_by_one l g b payload (i + 1) rs m) < i + 1 + length rs)
          → (after_by i z left after (λ f₁ img₁. one_by_one f₁ g b payload (i + 1) rs img₁)).answer ≡ refused k
          → number_done (after_by i z left after (λ f₁ img₁. one_by_one f₁ g b payload (i + 1) rs img₁)) < i + length (r ∷ rs)
      go (done n) left after more h = omega (arith, more left after h)
      go (refused n) left after more h = omega arith

pub numbers : Numbers
unfolding Numbers OneByOne
numbers f g b records payload img h =
    let e = one_by_one_lem f g b records payload img h in
    let l = records_length records in
    record {
      all = λ a. ap (λ (x : BatchEnd). x.state.table) e ∙ all_done g b payload f 0 (records_in records) img (ap (λ (x : BatchEnd). x.answer) (sym e) ∙ a) ∙ ap (λ (n : ℕ). n ∷ []) (zero-add (length (records_in records)) ∙ l);
      fewer = λ k a. let s = some_done g b payload f 0 (records_in records) img k (ap (λ (x : BatchEnd). x.answer) (sym e) ∙ a) in omega (arith, l, s, ap number_done e);
    }

-- ---- the units

among_units : (us : List FlashUnit) (es : List Event) → units_among (units us ++ es) ≡ us ++ units_among es
among_units [] es = refl
among_units (u ∷ us) es = ap (λ (l : List FlashUnit). u ∷ l) (among_units us es)

image_events : {A : Type 0} (o : Op A) (s : Both) → (on_image o s).events ≡ units (o s.image).events
unfolding on_image
image_events o s = refl

-- behind the tests of the list
all_is : (g : Geometry) (b : ℕ) (payload records img : List ℕ) → Takes g records img → write_all g b records payload (both img (0 ∷ [])) ≡ writing g b payload 0 (records_in records) (both img (0 ∷ []))
unfolding write_all test
all_is g b payload records img h = asked (λ (s : Both). or_refuse (batchable g (length s.image) (length records))) (λ _. writing g b payload 0 (records_in records)) (both img (0 ∷ [])) tt (rw h)

module _ (g : Geometry) (b : ℕ) (payload : List ℕ) where
  -- a record that is written: its units, its count, and the events of the others
  events_on : (i n : ℕ) (r : Record) (rs : List Record) (img : List ℕ) → (write_record g b payload r img).answer ≡ done n
      → (writing g b payload i (r ∷ rs) (both img (i ∷ []))).events
      ≡ units (write_record g b payload r img).events ++ (field 0 (i + 1) ∷ (writing g b payload (i + 1) rs (both (apply (write_record g b payload r img).events img) ((i + 1) ∷ []))).events)
  unfolding writing putting
  events_on i n r rs img e =
      bind_events (on_image (write_record g b payload r)) (λ _. count_to (i + 1) >>= λ _. writing g b payload (i + 1) rs) (both img (i ∷ [])) n (image_answer (write_record g b payload r) (both img (i ∷ [])) ∙ e)
      ∙ ap₂ (λ (es : List Event) (s : Both). es ++ ((count_to (i + 1) >>= λ _. writing g b payload (i + 1) rs) s).events) (image_events (write_record g b payload r) (both img (i ∷ []))) (image_left (write_record g b payload r) (both img (i ∷ [])))
      ∙ ap (λ (es : List Event). units (write_record g b payload r img).events ++ es)
      (bind_events (count_to (i + 1)) (λ _. writing g b payload (i + 1) rs) (both (apply (write_record g b payload r img).events img) (i ∷ [])) tt refl)

  events_stop : (i k : ℕ) (r : Record) (rs : List Record) (img : List ℕ) → (write_record g b payload r img).answer ≡ refused k
      → (writing g b payload i (r ∷ rs) (both img (i ∷ []))).events ≡ units (write_record g b payload r img).events ++ []
  unfolding writing ◌>>=◌ on_image
  events_stop i k r rs img e = rw e (sym (append-nil (units (write_record g b payload r img).events)))

  in_turn_lem : (i : ℕ) (rs : List Record) (img : List ℕ) → units_among (writing g b payload i rs (both img (i ∷ []))).events ≡ in_turn g b payload rs img
  unfolding writing ask
  in_turn_lem i [] img = refl
  in_turn_lem i (r ∷ rs) img = go (write_record g b payload r img).answer refl (λ m. in_turn_lem (i + 1) rs m)
    where
      go : (a : Answer ℕ) → (write_record g b payload r img).answer ≡ a
          → ((m : List ℕ) → units_among (writing g b payload (i + 1) rs (both m ((i + 1) ∷ []))).events ≡ in_turn g b payload rs m)
          → units_among (writing g b payload i (r ∷ rs) (both img (i ∷ []))).events
          ≡ (write_record g b payload r img).events ++ where_done a (in_turn g b payload rs (apply (write_record g b payload r img).events img))
      go (done n) e more =
          ap units_among (events_on i n r rs img e) ∙ among_units (write_record g b payload r img).events _
          ∙ ap (λ (us : List FlashUnit). (write_record g b payload r img).events ++ us) (more (apply (write_record g b payload r img).events img))
      go (refused k) e more = ap units_among (events_stop i k r rs img e) ∙ among_units (write_record g b payload r img).events []

pub units_in_turn : UnitsInTurn
unfolding UnitsInTurn write_all
units_in_turn g b records payload img h =
    ap (λ (r : Run beside (Unit {0})). units_among r.events) (all_is g b payload records img h) ∙ in_turn_lem g b payload 0 (records_in records) img
