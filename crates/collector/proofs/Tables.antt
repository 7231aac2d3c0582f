-- The table: storing a record takes no power; the test, record by record, and what a passed test tells.
use mathlib.Core.Path.{◌≡◌, refl, sym, ◌∙◌}
use mathlib.Core.List.{List, [], ◌∷◌}
use Prim.Native.Nat.{ℕ, suc, ◌+◌, ◌-◌, ◌*◌, ◌≤◌, ◌<◌}
use native.Mathlib.Omega.{arith}
use lib.ListN.{length, set}
use lib.Dec.{eqb}
use borrow.Author.Tests.{eq-eqb, ne_eqb, eqb-true}
use Rattle.medium.specs.declared.geometry.Geometry.{Geometry}
use Rattle.medium.specs.declared.fuse.Fuse.{Fuse}
use Rattle.std.specs.Prelude.{Ok}
use Rattle.medium.specs.Granularity.{pick}
use Rattle.medium.specs.Geometry.{check_of}
use Rattle.medium.specs.Operation.{Answer, done, refused, number_of, run, ◌>>=◌}
use Rattle.medium.specs.Beside.{both}
use Rattle.medium.proofs.Runs.{on}
use Rattle.medium.proofs.Beside.{run_fields}
use Rattle.medium.proofs.Checks.{admit_stop, admit_pass, admitted, passed, picked}
use Rattle.blocks.specs.declared.record.BlockInfo.{BlockInfo}
use Rattle.blocks.specs.Record.{record_numbers}
use Rattle.collector.specs.Table.{Pass, allow_mark, record_length, field_at, record_at, put_record, storing, allowing, possible_from, collectable}

-- ---- record by record

module _ (n b : ℕ) (t : List ℕ) (h : b < n) (a : Answer BlockInfo) (e : a ≡ record_at t b) where
  pub possible_more : (r : BlockInfo) → a ≡ done r → possible_from (n - b) t b ≡ possible_from (n - (b + 1)) t (b + 1)
  unfolding possible_from
  possible_more r d = let m : n - b ≡ suc (n - (b + 1)) = omega arith in rw (m, ← e, d)

  pub possible_stop : (k : ℕ) → a ≡ refused k → possible_from (n - b) t b ≡ refused k
  unfolding possible_from
  possible_stop k d = let m : n - b ≡ suc (n - (b + 1)) = omega arith in rw (m, ← e, d)

pub possible_end : (n b : ℕ) (t : List ℕ) → n ≤ b → possible_from (n - b) t b ≡ done tt
unfolding possible_from
possible_end n b t h = let m : n - b ≡ 0 = omega arith in rw m

-- ---- the whole test

module _ (g : Geometry) (room r : ℕ) (t : List ℕ) (e : r ≡ check_of g room) where
  pub collect_bad : (r ≡ 0 → ⊥) → r ≡ collectable g room t
  unfolding collectable
  collect_bad h = admit_stop g room _ r e h

  pub collect_room : r ≡ 0 → (record_length * g.count ≡ length t → ⊥) → 7 ≡ collectable g room t
  unfolding collectable
  collect_room z h = sym (admit_pass g room _ r e z ∙ rw (ne_eqb _ _ h))

  pub collect_rows : r ≡ 0 → record_length * g.count ≡ length t → number_of (possible_from g.count t 0) ≡ collectable g room t
  unfolding collectable
  collect_rows z h = sym (admit_pass g room _ r e z ∙ rw (eq-eqb _ _ h))

-- geometry and room are sound, and there is a record for each block
pub collect_checked : (g : Geometry) (room r : ℕ) (t : List ℕ) → r ≡ collectable g room t → r ≡ 0 → check_of g room ≡ 0
unfolding collectable
collect_checked g room r t e z = passed g room _ (sym e ∙ z)

pub rows_of : (g : Geometry) (room r : ℕ) (t : List ℕ) → r ≡ collectable g room t → r ≡ 0 → record_length * g.count ≡ length t
unfolding collectable
rows_of g room r t e z =
    let a = admitted g room (pick (eqb (record_length * g.count) (length t)) (number_of (possible_from g.count t 0)) 7) (sym e ∙ z) in
    eqb-true _ _ (picked (eqb (record_length * g.count) (length t)) (number_of (possible_from g.count t 0)) 6 a.1).0

-- ---- storing

pub run_storing : (f : Fuse) (b : ℕ) (r : BlockInfo) (i t : List ℕ) → run f (storing b r) (both i t) ≡ record { answer = done tt; fuse = f; state = both i (put_record t b r) }
unfolding storing
run_storing f b r i t = run_fields f (record_length * b) 0 (record_numbers r) tt i t

pub allowing_on : {B : Type 0} (f : Fuse) (b : ℕ) (k : Unit {0} → Pass B) (i t : List ℕ)
    → run f (allowing b >>= k) (both i t) ≡ run f (k tt) (both i (set t (field_at b allow_mark) 1))
unfolding allowing
allowing_on f b k i t =
    on f (allowing b) k (both i t) (both i (set t (field_at b allow_mark) 1)) (Ok f) tt f (sym (run_fields f (record_length * b) allow_mark (1 ∷ []) tt i t)) refl
