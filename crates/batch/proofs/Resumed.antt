-- The rest of a batch after a cut.
use mathlib.Core.Path.{◌≡◌, refl, sym, ap, ap₂, ◌∙◌}
use mathlib.Core.Logic.{◌⊎◌, inl, inr}
use mathlib.Core.List.{List, [], ◌∷◌}
use Prim.Native.Nat.{ℕ, zero, suc, ◌+◌, ◌-◌, ◌*◌, ◌≤◌, ◌<◌}
use native.Mathlib.Nat.{zero-add}
use native.Mathlib.Omega.{arith}
use lib.ListN.{length, drop, get_or, length-drop}
use Rattle.medium.specs.declared.geometry.Geometry.{Geometry}
use Rattle.medium.specs.declared.fuse.Fuse.TheVariants.{Absent, Units}
use Rattle.medium.specs.Operation.{done, End}
use Rattle.medium.proofs.Runs.{leb_is, leb_yes, leb_no}
use Rattle.fresh.specs.Writes.{WriteAgain}
use Rattle.fresh.proofs.Again.{write_again}
use Rattle.batch.specs.declared.record.Record.{Record}
use Rattle.batch.specs.Batch.{per_record, records_in, place_of}
use Rattle.batch.specs.Laws.{BatchEnd, end_of, batch, number_done, Takes, after_one, one_by_one, OneByOne}
use Rattle.batch.specs.Cut.{type_in, bytes_of, behind_one, units_for_one, enough_for, Fits, Rising, Ready, left_at}
use Rattle.batch.specs.Resumed.{rest_of, BatchResumes}
use Rattle.batch.proofs.Turns.{batch_passed}
use Rattle.batch.proofs.Records.{written-by}
use Rattle.batch.proofs.Laws.{one_by_one_lem, takes_part}
use Rattle.batch.proofs.Cut.{after_record, all_after, after_all, room_of, go_on, cut_off, ready_on, number_is, as_one, long_at}

drop_short : (m : ℕ) (ns : List ℕ) → length ns ≤ m → drop m ns ≡ []
drop_short zero [] h = refl
drop_short zero (n ∷ ns) h = absurd (omega arith)
drop_short (suc m) [] h = refl
drop_short (suc m) (n ∷ ns) h = drop_short m ns (omega arith)

-- a list without its first records
records_drop : (n : ℕ) (ns : List ℕ) → records_in (drop (per_record * n) ns) ≡ drop n (records_in ns)
unfolding records_in
records_drop zero ns = refl
records_drop (suc n) [] = ap records_in (drop_short (per_record * suc n) [] (omega arith))
records_drop (suc n) (t ∷ []) = ap records_in (drop_short (per_record * suc n) (t ∷ []) (omega arith))
records_drop (suc n) (t ∷ o ∷ []) = ap records_in (drop_short (per_record * suc n) (t ∷ o ∷ []) (omega arith))
records_drop (suc n) (t ∷ o ∷ a ∷ []) = ap records_in (drop_short (per_record * suc n) (t ∷ o ∷ a ∷ []) (omega arith))
records_drop (suc n) (t ∷ o ∷ a ∷ m ∷ ns) = let e : per_record * suc n ≡ suc (suc (suc (suc (per_record * n)))) = omega arith in rw e (records_drop n ns)

module _ (g : Geometry) (b : ℕ) (payload : List ℕ) (plain : g.strict ≡ 1 → ⊥) where
  -- a record with power, also over what a cut left of it: the others go on behind it, whole
  record_again : (e : ℕ) (r : Record) (rs : List Record) (img : List ℕ) → Ready g b e payload img → Fits g payload e r → (j k : ℕ) → k < units_for_one g payload r
      → one_by_one Absent g b payload j (r ∷ rs) (after_record g b payload r img k) ≡ one_by_one Absent g b payload (j + 1) rs (after_record g b payload r img (units_for_one g payload r))
  unfolding WriteAgain
  record_again e r rs img v f j k c =
      ap (λ (x : End ℕ). after_one j x (λ f₁ m. one_by_one f₁ g b payload (j + 1) rs m))
      (written-by g b payload r Absent (after_record g b payload r img k) f.lent f.typed
      ∙ write_again g (place_of b r) (type_in r) (bytes_of payload r) img (room_of g b payload e r img v f) f.aligned plain k (omega arith))

  powered : (rs : List Record) (e j : ℕ) (img : List ℕ) → Ready g b e payload img → Rising g payload e rs
      → one_by_one Absent g b payload j rs img ≡ end_of (done tt) Absent (all_after g b payload rs img) (j + length rs)
  powered [] e j img v h = let z : j ≡ j + 0 = omega arith in ap (λ (n : ℕ). end_of (done tt) Absent img n) z
  powered (r ∷ rs) e j img v h =
      let z : j + 1 + length rs ≡ j + length (r ∷ rs) = omega arith in
      record_again e r rs img v h.0 j 0 (omega arith)
      ∙ powered rs (behind_one g payload r) (j + 1) (after_record g b payload r img (units_for_one g payload r)) (ready_on g b payload e r img v h.0 (units_for_one g payload r)) h.1
      ∙ ap (λ (n : ℕ). end_of (done tt) Absent (all_after g b payload (r ∷ rs) img) n) z

  resumed : (rs : List Record) (e i j k : ℕ) (img : List ℕ) → Ready g b e payload img → Rising g payload e rs
      → one_by_one Absent g b payload j (drop (enough_for g payload rs k) rs) (one_by_one (Units k) g b payload i rs img).state.image
      ≡ end_of (done tt) Absent (all_after g b payload rs img) (j + (length rs - enough_for g payload rs k))
  resumed [] e i j k img v h = let z : j ≡ j + 0 = omega arith in ap (λ (n : ℕ). end_of (done tt) Absent img n) z
  resumed (r ∷ rs) e i j k img v h =
      go (leb_is (units_for_one g payload r) k) (λ c. resumed rs (behind_one g payload r) (i + 1) j (k - units_for_one g payload r) (after_record g b payload r img k) (ready_on g b payload e r img v h.0 k) h.1)
    where
      goal : ℕ → Type 0
      goal n = one_by_one Absent g b payload j (drop n (r ∷ rs)) (one_by_one (Units k) g b payload i (r ∷ rs) img).state.image
          ≡ end_of (done tt) Absent (all_after g b payload (r ∷ rs) img) (j + (length (r ∷ rs) - n))

      more : ℕ
      more = enough_for g payload rs (k - units_for_one g payload r)

      go : (units_for_one g payload r ≤ k) ⊎ (k < units_for_one g payload r)
          → (units_for_one g payload r ≤ k → one_by_one Absent g b payload j (drop more rs) (one_by_one (Units (k - units_for_one g payload r)) g b payload (i + 1) rs (after_record g b payload r img k)).state.image
          ≡ end_of (done tt) Absent (all_after g b payload rs (after_record g b payload r img k)) (j + (length rs - more)))
          → goal (enough_for g payload (r ∷ rs) k)
      go (inl c) rest =
          let s : more + 1 ≡ suc more = omega arith in
          let n : length rs - more ≡ length (r ∷ rs) - (more + 1) = omega arith in
          rw (leb_yes c)
          (ap₂ (λ (i : ℕ) (x : BatchEnd). one_by_one Absent g b payload j (drop i (r ∷ rs)) x.state.image) s (go_on g b payload e r img v h.0 i k rs c)
          ∙ rest c
          ∙ ap₂ (λ (m : List ℕ) (i : ℕ). end_of (done tt) Absent (all_after g b payload rs m) (j + i)) (after_all g b payload r img k c) n)
      go (inr c) rest =
          let z : j + 1 + length rs ≡ j + (length (r ∷ rs) - 0) = omega arith in
          rw (leb_no c)
          (ap (λ (x : BatchEnd). one_by_one Absent g b payload j (r ∷ rs) x.state.image) (cut_off g b payload e r img v h.0 i k rs c)
          ∙ record_again e r rs img v h.0 j k c
          ∙ powered rs (behind_one g payload r) (j + 1) (after_record g b payload r img (units_for_one g payload r)) (ready_on g b payload e r img v h.0 (units_for_one g payload r)) h.1
          ∙ ap (λ (n : ℕ). end_of (done tt) Absent (all_after g b payload (r ∷ rs) img) n) z)

module _ (g : Geometry) (b e : ℕ) (records payload img : List ℕ) (t : Takes g records img) (v : Ready g b e payload img) (h : Rising g payload e (records_in records)) (plain : g.strict ≡ 1 → ⊥) (k : ℕ) where
  abbrev rs : List Record
  rs = records_in records

  abbrev count : ℕ
  count = enough_for g payload (records_in records) k

  done_is : number_done (batch (Units k) g b records payload img) ≡ count
  done_is =
      ap (λ (x : BatchEnd). number_done x) (as_one g b e records payload img t v h k) ∙ ap (λ (ns : List ℕ). get_or ns 0 0) (number_is g b payload rs e 0 k img v h) ∙ zero-add count

  rest_takes : Takes g (rest_of records count) (left_at g b records payload img k)
  rest_takes =
      let p = batch_passed g (length img) (length records) 0 (sym t) refl in
      let l = length-drop (per_record * count) records in
      takes_part g records (rest_of records count) img (left_at g b records payload img k) t (omega (arith, l)) (omega (arith, l, p)) (long_at g b e records payload img t v h k)

  rest_is : batch Absent g b (rest_of records count) payload (left_at g b records payload img k) ≡ end_of (done tt) Absent (batch Absent g b records payload img).state.image (length rs - count)
  unfolding OneByOne
  rest_is =
      one_by_one_lem Absent g b (rest_of records count) payload (left_at g b records payload img k) rest_takes
      ∙ ap₂ (λ (xs : List Record) (x : BatchEnd). one_by_one Absent g b payload 0 xs x.state.image) (records_drop count records) (as_one g b e records payload img t v h k)
      ∙ resumed g b payload plain rs e 0 0 k img v h
      ∙ ap₂ (λ (m : List ℕ) (n : ℕ). end_of (done tt) Absent m n)
      (ap (λ (x : BatchEnd). x.state.image) (sym (one_by_one_lem Absent g b records payload img t ∙ powered g b payload plain rs e 0 img v h))) (zero-add (length rs - count))

pub batch_resumes : BatchResumes
unfolding BatchResumes
batch_resumes g b e records payload img t v h plain k =
    ap (λ (n : ℕ). batch Absent g b (rest_of records n) payload (left_at g b records payload img k)) (done_is g b e records payload img t v h plain k)
    ∙ rest_is g b e records payload img t v h plain k
    ∙ ap (λ (n : ℕ). end_of (done tt) Absent (batch Absent g b records payload img).state.image (length (records_in records) - n)) (sym (done_is g b e records payload img t v h plain k))
