-- The image with a table beside it: an operation on the image lifts with its contract, fields need no power, and what events leave that miss
-- a byte or a field.
use mathlib.Core.Path.{◌≡◌, refl, sym, ap, ◌∙◌}
use mathlib.Core.Bool.{Bool, true, false}
use mathlib.Core.List.{List, [], ◌∷◌}
use Prim.Native.Nat.{ℕ, zero, suc, ◌+◌, ◌<◌}
use native.Mathlib.Nat.{sub-zero}
use native.Mathlib.Omega.{arith}
use lib.ListN.{length, set, get_or}
use lib.Seq.{get_or-set_other}
use lib.Dec.{leb}
use Rattle.medium.specs.declared.fuse.Fuse.{Fuse}
use Rattle.medium.specs.declared.fuse.Fuse.TheVariants.{Absent, Units}
use Rattle.medium.specs.Fuse.{Stored}
use Rattle.medium.specs.declared.fuse.Stopped.{Stopped}
use Rattle.medium.specs.Refusal.{refusal_number}
use Rattle.std.specs.Prelude.{Ok, Err}
use Rattle.medium.specs.All.{All}
use Rattle.medium.specs.Units.{FlashUnit, step}
use Rattle.medium.specs.Operation.{flash, happen, cost, prefix, done, refused, Run, OpIn, Op, ◌>>=◌, putting, End, EndIn, cut_by, cut, run, ended_by}
use Rattle.medium.specs.Beside.{Event, unit, field, Both, both, happens, beside, units, on_image, fields, stored}
use Rattle.medium.proofs.Runs.{leb_yes, on, stop}
use Rattle.medium.proofs.Bytes.{Misses, frame, length-apply}
use Rattle.medium.proofs.Left.{left}
use Rattle.medium.proofs.Events.{run_each}

-- ---- lifting

units_cost : (us : List FlashUnit) → cost beside (units us) ≡ cost flash us
units_cost [] = refl
units_cost (u ∷ us) = ap (λ (n : ℕ). suc n) (units_cost us)

units_prefix : (k : ℕ) (us : List FlashUnit) → prefix beside k (units us) ≡ units (prefix flash k us)
units_prefix zero [] = refl
units_prefix (suc k) [] = refl
units_prefix zero (u ∷ us) = refl
units_prefix (suc k) (u ∷ us) = ap (λ (l : List Event). unit u ∷ l) (units_prefix k us)

-- units change the image alone
units_happen : (us : List FlashUnit) (i t : List ℕ) → happen beside (units us) (both i t) ≡ both (happen flash us i) t
units_happen [] i t = refl
units_happen (u ∷ us) i t = units_happen us (step u i) t

abbrev pub with_table : {A : Type 0} → List ℕ → End A → EndIn Both A
with_table t e = record { answer = e.answer; fuse = e.fuse; state = both e.state t }

cut_image : {A : Type 0} (f : Fuse) (r : Run flash A) (i t : List ℕ)
    → cut {W = beside} f (record { events = units r.events; answer = r.answer }) (both i t) ≡ with_table t (cut {W = flash} f r i)
cut_image Absent r i t = rw (units_happen r.events i t)
cut_image {A} (Units k) r i t = rw (units_cost r.events) (go (leb (cost flash r.events) k))
  where
    go : (b : Bool) → cut_by {W = beside} b k (record { events = units r.events; answer = r.answer }) (both i t) ≡ with_table t (cut_by {W = flash} b k r i)
    go true = rw (units_cost r.events, units_happen r.events i t)
    go false = rw (units_prefix k r.events, units_happen (prefix flash k r.events) i t)

-- a run of an operation on the image leaves the table
pub run_image : {A : Type 0} (f : Fuse) (o : Op A) (i t : List ℕ) → run f (on_image o) (both i t) ≡ with_table t (run f o i)
unfolding run on_image
run_image f o i t = cut_image f (o i) i t

-- a contract of an operation on the image, in this world
pub lifted : {A : Type 0} (f : Fuse) (o : Op A) (i i' t : List ℕ) (r : Stored) (a : A) → ended_by r a i' ≡ run f o i → ended_by r a (both i' t) ≡ run f (on_image o) (both i t)
lifted {A} f o i i' t r a e = go r ∙ ap (λ (x : End A). with_table t x) e ∙ sym (run_image f o i t)
  where
    go : (r : Stored) → ended_by r a (both i' t) ≡ with_table t (ended_by r a i')
    go (Ok f) = refl
    go (Err s) = refl

-- a caller's steps
module _ {A B : Type 0} (f : Fuse) (o : Op A) (k : A → OpIn beside B) (i i' t : List ℕ) (r : Stored) (a : A) (f' : Fuse) (e : ended_by r a i' ≡ run f o i) where
  pub image_on : r ≡ Ok f' → run f (on_image o >>= k) (both i t) ≡ run f' (k a) (both i' t)
  image_on d = on f (on_image o) k (both i t) (both i' t) r a f' (lifted f o i i' t r a e) d

  pub image_stop : {s : Stopped} → r ≡ Err s → run f (on_image o >>= k) (both i t) ≡ record { answer = refused (refusal_number s.refusal); fuse = s.fuse; state = both i' t }
  image_stop d = stop f (on_image o) k (both i t) (both i' t) r a f' (lifted f o i i' t r a e) d

-- what it leaves with power, and its answer
pub image_left : {A : Type 0} (o : Op A) (s : Both) → left (on_image o) s ≡ both (left o s.image) s.table
unfolding on_image
image_left o s = units_happen (o s.image).events s.image s.table

pub image_answer : {A : Type 0} (o : Op A) (s : Both) → (on_image o s).answer ≡ (o s.image).answer
unfolding on_image
image_answer o s = refl

pub image_quiet : {A : Type 0} (o : Op A) (s : Both) → (o s.image).events ≡ [] → (on_image o s).events ≡ []
unfolding on_image
image_quiet o s e = rw e

-- ---- fields need no power

fields_cost : (a i : ℕ) (vs : List ℕ) → cost beside (fields a i vs) ≡ 0
fields_cost a i [] = refl
fields_cost a i (v ∷ vs) = fields_cost a (suc i) vs

fields_happen : (a i : ℕ) (vs img t : List ℕ) → happen beside (fields a i vs) (both img t) ≡ both img (stored a i vs t)
fields_happen a i [] img t = refl
fields_happen a i (v ∷ vs) img t = fields_happen a (suc i) vs img (set t (a + i) v)

pub run_fields : {A : Type 0} (f : Fuse) (a i : ℕ) (vs : List ℕ) (x : A) (img t : List ℕ)
    → run {W = beside} f (putting (fields a i vs) x) (both img t) ≡ record { answer = done x; fuse = f; state = both img (stored a i vs t) }
unfolding run putting
run_fields Absent a i vs x img t = rw (fields_happen a i vs img t)
run_fields (Units k) a i vs x img t = rw (fields_cost a i vs, leb_yes {m = 0} {n = k} (omega arith), fields_cost a i vs, fields_happen a i vs img t, sub-zero k)

-- ---- events that all have a property

module _ (P : Event → Type 0) where
  each_units : (us : List FlashUnit) → All (λ u. P (unit u)) us → All P (units us)
  each_units [] h = tt
  each_units (u ∷ us) h = (h.0, each_units us h.1)

  pub image_each : {A : Type 0} (o : Op A) (s : Both) → All (λ u. P (unit u)) (o s.image).events → All P (on_image o s).events
  unfolding on_image
  image_each o s h = each_units (o s.image).events h

  pub fields_each : (a i : ℕ) (vs : List ℕ) → ((j v : ℕ) → j < i + length vs → P (field (a + j) v)) → All P (fields a i vs)
  fields_each a i [] h = tt
  fields_each a i (v ∷ vs) h = (h i v (omega arith), fields_each a (suc i) vs (λ j w k. h j w (omega arith)))

-- ---- what stays

abbrev pub Misses-event : ℕ → Event → Type 0
Misses-event a (unit u) = Misses a u
Misses-event a (field i v) = Unit {0}

-- a byte that they miss
pub bytes_stay : (a d : ℕ) (es : List Event) (s : Both) → All (Misses-event a) es → get_or (happen beside es s).image a d ≡ get_or s.image a d
bytes_stay a d [] s h = refl
bytes_stay a d (unit u ∷ es) s h = bytes_stay a d es (happens (unit u) s) h.1 ∙ frame a d (u ∷ []) s.image (h.0, tt)
bytes_stay a d (field i v ∷ es) s h = bytes_stay a d es (happens (field i v) s) h.1

-- the length of the image
pub length_stays : (es : List Event) (s : Both) → length (happen beside es s).image ≡ length s.image
length_stays [] s = refl
length_stays (unit u ∷ es) s = length_stays es (happens (unit u) s) ∙ length-apply (u ∷ []) s.image
length_stays (field i v ∷ es) s = length_stays es (happens (field i v) s)

abbrev pub Skips-event : ℕ → Event → Type 0
Skips-event j (unit u) = Unit {0}
Skips-event j (field i v) = j ≡ i → ⊥

-- a field that they skip
pub fields_stay : (j d : ℕ) (es : List Event) (s : Both) → All (Skips-event j) es → get_or (happen beside es s).table j d ≡ get_or s.table j d
fields_stay j d [] s h = refl
fields_stay j d (unit u ∷ es) s h = fields_stay j d es (happens (unit u) s) h.1
fields_stay j d (field i v ∷ es) s h = fields_stay j d es (happens (field i v) s) h.1 ∙ get_or-set_other s.table i j v d h.0

-- ---- under a fuse, in every end

module _ {A : Type 0} (f : Fuse) (o : OpIn beside A) (s : Both) where
  pub byte_run : (a d : ℕ) → All (Misses-event a) (o s).events → get_or (run f o s).state.image a d ≡ get_or s.image a d
  byte_run a d h = let v = run_each beside (Misses-event a) f o s h in rw v.state (bytes_stay a d v.some s v.each)

  pub field_run : (j d : ℕ) → All (Skips-event j) (o s).events → get_or (run f o s).state.table j d ≡ get_or s.table j d
  field_run j d h = let v = run_each beside (Skips-event j) f o s h in rw v.state (fields_stay j d v.some s v.each)

  pub length_run : length (run f o s).state.image ≡ length s.image
  length_run = let v = run_each beside (λ _. Unit {0}) f o s (any (o s).events) in rw v.state (length_stays v.some s)
    where
      any : (es : List Event) → All (λ _. Unit {0}) es
      any [] = tt
      any (e ∷ es) = (tt, any es)
