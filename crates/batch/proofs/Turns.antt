-- A batch, record by record.
use mathlib.Core.Path.{◌≡◌, refl, sym, ◌∙◌}
use mathlib.Core.List.{List, [], ◌∷◌}
use Prim.Native.Nat.{ℕ, zero, suc, ◌+◌, ◌*◌, ◌/◌, ◌%◌, ◌≤◌, ◌<◌}
use native.Mathlib.Omega.{arith}
use lib.ListN.{length, drop}
use lib.Dec.{leb, eqb}
use mathlib.Core.Bool.{Bool, true, false, ◌&&◌, false≢true}
use borrow.Author.Tests.{lt-leb, le-leb, ne_eqb, eq-eqb, leb-true, eqb-true}
use Rattle.medium.specs.declared.geometry.Geometry.{Geometry}
use Rattle.medium.specs.declared.fuse.Fuse.{Fuse}
use Rattle.std.specs.Prelude.{Result, Ok, Err}
use Rattle.medium.specs.declared.fuse.Stopped.{Stopped}
use Rattle.medium.specs.Refusal.{refusal_number}
use Rattle.medium.specs.Granularity.{pick}
use Rattle.medium.specs.Geometry.{check_of}
use Rattle.medium.specs.Operation.{done, refused, run, next, ended_with, ◌>>=◌}
use Rattle.medium.specs.Beside.{Both, both, beside, on_image}
use Rattle.medium.proofs.Runs.{run_bind, run_ask_in, test_on}
use Rattle.medium.proofs.Checks.{picked, admitted, admit_pass, admit_stop, passed}
use Rattle.medium.proofs.Beside.{run_fields, run_image, with_table}
use Rattle.batch.specs.declared.record.Record.{Record}
use Rattle.batch.specs.Batch.{most_records, per_record, batch_record_at, records_in, batchable, write_record, Batch, count_to, writing, write_all}

two_true : (a b : Bool) → (a && b) ≡ true → (a ≡ true) × (b ≡ true)
two_true true b e = (refl, e)
two_true false b e = absurd (false≢true e)

-- ---- what is tested before any store

module _ (g : Geometry) (room n r : ℕ) where
  module _ (e : r ≡ check_of g room) where
    pub batch-bad : (r ≡ 0 → ⊥) → r ≡ batchable g room n
    unfolding batchable
    batch-bad h = admit_stop g room _ r e h

    pub batch-many : r ≡ 0 → most_records * per_record < n → 7 ≡ batchable g room n
    unfolding batchable
    batch-many z h = sym (admit_pass g room _ r e z ∙ rw (lt-leb n (most_records * per_record) h))

    pub batch-part : r ≡ 0 → n ≤ most_records * per_record → (n % per_record ≡ 0 → ⊥) → 7 ≡ batchable g room n
    unfolding batchable
    batch-part z h k = sym (admit_pass g room _ r e z ∙ rw (le-leb n (most_records * per_record) h, ne_eqb (n % per_record) 0 k))

    pub batch-fits : r ≡ 0 → n ≤ most_records * per_record → n % per_record ≡ 0 → 0 ≡ batchable g room n
    unfolding batchable
    batch-fits z h k = sym (admit_pass g room _ r e z ∙ rw (le-leb n (most_records * per_record) h, eq-eqb (n % per_record) 0 k))

  pub batch_passed : r ≡ batchable g room n → r ≡ 0 → (n ≤ most_records * per_record) × (n % per_record ≡ 0)
  unfolding batchable
  batch_passed e z =
      let a = admitted g room (pick (leb n (most_records * per_record) && eqb (n % per_record) 0) 0 7) (sym e ∙ z) in
      let b = two_true _ _ (picked _ 0 6 a.1).0 in
      (leb-true _ _ b.0, eqb-true _ _ b.1)

pub batch_checked : (g : Geometry) (room n : ℕ) → batchable g room n ≡ 0 → check_of g room ≡ 0
unfolding batchable
batch_checked g room n e = passed g room _ e

-- ---- the records in a list of numbers

pub record_next : (i : ℕ) (ns : List ℕ) → per_record * (i + 1) ≤ length ns → drop i (records_in ns) ≡ batch_record_at ns i ∷ drop (i + 1) (records_in ns)
unfolding records_in
record_next i [] h = absurd (omega arith)
record_next i (t ∷ []) h = absurd (omega arith)
record_next i (t ∷ o ∷ []) h = absurd (omega arith)
record_next i (t ∷ o ∷ a ∷ []) h = absurd (omega arith)
record_next zero (t ∷ o ∷ a ∷ n ∷ ns) h = refl
record_next (suc i) (t ∷ o ∷ a ∷ n ∷ ns) h =
    let at : (k : ℕ) → per_record * suc i + k ≡ suc (suc (suc (suc (per_record * i + k)))) = λ k. omega arith in
    let e : per_record * suc i ≡ suc (suc (suc (suc (per_record * i)))) = omega arith in
    let next : suc i + 1 ≡ suc (i + 1) = omega arith in
    rw (at 1, at 2, at 3, e, next) (record_next i ns (omega arith))

pub record_last : (i : ℕ) (ns : List ℕ) → length ns ≤ per_record * i → drop i (records_in ns) ≡ []
unfolding records_in
record_last zero [] h = refl
record_last (suc i) [] h = refl
record_last zero (t ∷ ns) h = absurd (omega arith)
record_last (suc i) (t ∷ []) h = refl
record_last (suc i) (t ∷ o ∷ []) h = refl
record_last (suc i) (t ∷ o ∷ a ∷ []) h = refl
record_last (suc i) (t ∷ o ∷ a ∷ n ∷ ns) h = record_last i ns (omega arith)

-- ---- a record's turn

module _ (g : Geometry) (b : ℕ) (payload : List ℕ) where
  count_on : {B : Type 0} (f : Fuse) (i j : ℕ) (k : Unit {0} → Batch B) (img : List ℕ) → run f (count_to j >>= k) (both img (i ∷ [])) ≡ run f (k tt) (both img (j ∷ []))
  count_on f i j k img = run_bind f (count_to j) k (both img (i ∷ [])) ∙ rw (run_fields f 0 0 (j ∷ []) (tt {0}) img (i ∷ []))

  module _ (i : ℕ) (r : Record) (rs : List Record) (f : Fuse) (img after : List ℕ) (left : Fuse) where
    turned : run f (writing g b payload i (r ∷ rs)) (both img (i ∷ []))
        ≡ next (with_table (i ∷ []) (run f (write_record g b payload r) img)) (λ _ f' s. run f' (count_to (i + 1) >>= λ _. writing g b payload (i + 1) rs) s)
    unfolding writing
    turned =
        run_bind f (on_image (write_record g b payload r)) (λ _. count_to (i + 1) >>= λ _. writing g b payload (i + 1) rs) (both img (i ∷ []))
        ∙ rw (run_image f (write_record g b payload r) img (i ∷ []))

    -- written: it counts, and the next has its turn
    pub record-on : {n : ℕ} → run f (write_record g b payload r) img ≡ record { answer = done n; fuse = left; state = after }
        → run f (writing g b payload i (r ∷ rs)) (both img (i ∷ [])) ≡ run left (writing g b payload (i + 1) rs) (both after ((i + 1) ∷ []))
    record-on e = turned ∙ rw e (count_on left i (i + 1) (λ _. writing g b payload (i + 1) rs) after)

    -- refused: the number stays
    pub record-stop : {n : ℕ} → run f (write_record g b payload r) img ≡ record { answer = refused n; fuse = left; state = after }
        → run f (writing g b payload i (r ∷ rs)) (both img (i ∷ [])) ≡ record { answer = refused n; fuse = left; state = both after (i ∷ []) }
    record-stop e = turned ∙ rw e

  pub records_end : (i : ℕ) (f : Fuse) (s : Both) → run f (writing g b payload i []) s ≡ record { answer = done tt; fuse = f; state = s }
  unfolding writing
  records_end i f s = run_ask_in beside f (λ _. done tt) s

  -- the turn of record i of a list of numbers
  module _ (ns : List ℕ) (i : ℕ) (f : Fuse) (img after : List ℕ) (a : Result (ℕ × Fuse) Stopped) (e : ended_with a after ≡ run f (write_record g b payload (batch_record_at ns i)) img) where
    pub turn_on : {x : ℕ × Fuse} → a ≡ Ok x → length ns % per_record ≡ 0 → i < length ns / per_record
        → run f (writing g b payload i (drop i (records_in ns))) (both img (i ∷ [])) ≡ run x.1 (writing g b payload (i + 1) (drop (i + 1) (records_in ns))) (both after ((i + 1) ∷ []))
    turn_on {x} d w h = rw (record_next i ns (omega arith)) (record-on i (batch_record_at ns i) (drop (i + 1) (records_in ns)) f img after x.1 (sym (rw d at e)))

    pub turn-stop : {s : Stopped} → a ≡ Err s → length ns % per_record ≡ 0 → i < length ns / per_record
        → run f (writing g b payload i (drop i (records_in ns))) (both img (i ∷ [])) ≡ record { answer = refused (refusal_number s.refusal); fuse = s.fuse; state = both after (i ∷ []) }
    turn-stop {s} d w h = rw (record_next i ns (omega arith)) (record-stop i (batch_record_at ns i) (drop (i + 1) (records_in ns)) f img after s.fuse (sym (rw d at e)))

  -- no record is left
  pub turns_end : (ns : List ℕ) (i : ℕ) (f : Fuse) (s : Both) → length ns % per_record ≡ 0 → length ns / per_record ≤ i → run f (writing g b payload i (drop i (records_in ns))) s ≡ record { answer = done tt; fuse = f; state = s }
  turns_end ns i f s w h = rw (record_last i ns (omega arith)) (records_end i f s)

-- ---- the whole, where the test gives 0

pub all-on : (g : Geometry) (b : ℕ) (payload records : List ℕ) (f : Fuse) (img t : List ℕ) → batchable g (length img) (length records) ≡ 0
    → run f (write_all g b records payload) (both img t) ≡ run f (writing g b payload 0 (records_in records)) (both img t)
unfolding write_all
all-on g b payload records f img t z = test_on f (λ (s : Both). batchable g (length s.image) (length records)) _ (both img t) 0 (sym z) refl
