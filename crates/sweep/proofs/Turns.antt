-- Deleting, object by object.
use mathlib.Core.Path.{◌≡◌, refl, sym, ap, ◌∙◌}
use mathlib.Core.Bool.{Bool}
use mathlib.Core.List.{List, [], ◌∷◌}
use Prim.Native.Nat.{ℕ, ◌+◌}
use lib.ListN.{length}
use lib.Dec.{eqb}
use borrow.Author.Tests.{ne_eqb}
use Rattle.medium.specs.declared.geometry.Geometry.{Geometry}
use Rattle.medium.specs.declared.fuse.Fuse.{Fuse}
use Rattle.std.specs.Prelude.{Ok, Err}
use Rattle.medium.specs.declared.fuse.Stopped.{Stopped}
use Rattle.medium.specs.Refusal.{refusal_number}
use Rattle.medium.specs.Fuse.{Stored}
use Rattle.medium.specs.Granularity.{pick}
use Rattle.medium.specs.Geometry.{check_of}
use Rattle.medium.specs.Operation.{EndIn, done, refused, run, ended_by, ended, ◌>>=◌}
use Rattle.medium.specs.Beside.{Both, both, beside}
use Rattle.medium.specs.Beside as table
use Rattle.medium.proofs.Checks.{admit_pass, admit_stop}
use Rattle.medium.proofs.Runs.{run_bind, run_ask_in, ask_on, ask_stop, test_on, test_stop, on, stop}
use Rattle.medium.proofs.Beside.{run_fields, image_on, image_stop, length_run}
use Rattle.objects.specs.declared.state.ObjectState.TheVariants as state
use Rattle.objects.specs.declared.header.ObjectHeader.{ObjectHeader}
use Rattle.objects.specs.Header.{update_state}
use Rattle.storage.proofs.Finding.{gate_back}
use Rattle.sweep.specs.Referring.{sweepable}
use Rattle.sweep.specs.Twins.{twins, unreferred}
use Rattle.sweep.specs.Sweep.{Sweeping, count_to, deleting, deleting_twins, deleting_unreferred, sweep, words_fit, sweep_with}

module _ (g : Geometry) (which n : ℕ) where
  -- the table with one number more
  abbrev pub one_more : List ℕ → List ℕ
  one_more t = table.stored which 0 ((n + 1) ∷ []) t

  count_on : {B : Type 0} (f : Fuse) (k : Unit {0} → Sweeping B) (img t : List ℕ) → run f (count_to which (n + 1) >>= k) (both img t) ≡ run f (k tt) (both img (one_more t))
  count_on f k img t = run_bind f (count_to which (n + 1)) k (both img t) ∙ rw (run_fields f which 0 ((n + 1) ∷ []) (tt {0}) img t)

  module _ (h : ObjectHeader) (hs : List ObjectHeader) (f : Fuse) (img after t : List ℕ) (a : Stored) (x : ObjectHeader) (e : ended_by a x after ≡ run f (update_state g h state.Deleted) img) where
    -- its mark is stored: it counts, and the next has its turn
    pub delete-on : {left : Fuse} → a ≡ Ok left → run f (deleting g which n (h ∷ hs)) (both img t) ≡ run left (deleting g which (n + 1) hs) (both after (one_more t))
    unfolding deleting
    delete-on {left} d =
        image_on f (update_state g h state.Deleted) (λ _. count_to which (n + 1) >>= λ _. deleting g which (n + 1) hs) img after t a x left e d
        ∙ count_on left (λ _. deleting g which (n + 1) hs) after t

    -- refused: the numbers stay
    pub delete-stop : {s : Stopped} → a ≡ Err s → run f (deleting g which n (h ∷ hs)) (both img t) ≡ record { answer = refused (refusal_number s.refusal); fuse = s.fuse; state = both after t }
    unfolding deleting
    delete-stop {s} d = image_stop f (update_state g h state.Deleted) (λ _. count_to which (n + 1) >>= λ _. deleting g which (n + 1) hs) img after t a x s.fuse e d

  pub delete_none : (f : Fuse) (s : Both) → run f (deleting g which n []) s ≡ record { answer = done tt; fuse = f; state = s }
  unfolding deleting
  delete_none f s = run_ask_in beside f (λ _. done tt) s

pub twins_start : (g : Geometry) (f : Fuse) (img t : List ℕ) → run f (deleting_twins g) (both img t) ≡ run f (deleting g 0 0 (twins g img)) (both img t)
unfolding deleting_twins
twins_start g f img t = ask_on f (λ (s : Both). done (twins g s.image)) (λ ts. deleting g 0 0 ts) (both img t) refl

pub unreferred_start : (g : Geometry) (f : Fuse) (img t : List ℕ) → run f (deleting_unreferred g) (both img t) ≡ run f (deleting g 1 0 (unreferred g img)) (both img t)
unfolding deleting_unreferred
unreferred_start g f img t = ask_on f (λ (s : Both). done (unreferred g s.image)) (λ ds. deleting g 1 0 ds) (both img t) refl

-- ---- the whole

-- the words that were lent
module _ (g : Geometry) (room words r : ℕ) (e : r ≡ check_of g room) where
  pub fit_stop : (r ≡ 0 → ⊥) → r ≡ words_fit g room words
  fit_stop n = admit_stop g room (pick (eqb words room) 0 7) r e n

  pub fit_other : r ≡ 0 → (words ≡ room → ⊥) → 7 ≡ words_fit g room words
  fit_other z n = sym (admit_pass g room (pick (eqb words room) 0 7) r e z ∙ ap (λ (b : Bool). pick b 0 7) (ne_eqb words room n))

module _ (g : Geometry) (f : Fuse) (img t : List ℕ) where
  pub sweep_stop : (n : ℕ) → sweepable g img ≡ refused n → run f (sweep g) (both img t) ≡ record { answer = refused n; fuse = f; state = both img t }
  unfolding sweep
  sweep_stop n e = ask_stop f (λ (s : Both). sweepable g s.image) (λ _. deleting_twins g >>= λ _. deleting_unreferred g) (both img t) e

  module _ (e : sweepable g img ≡ done tt) where
    pub sweep-on : run f (sweep g) (both img t) ≡ run f (deleting_twins g >>= λ _. deleting_unreferred g) (both img t)
    unfolding sweep
    sweep-on = ask_on f (λ (s : Both). sweepable g s.image) (λ _. deleting_twins g >>= λ _. deleting_unreferred g) (both img t) e

    module _ (a : Stored) (after u : List ℕ) (r : ended a (both after u) ≡ run f (deleting_twins g) (both img t)) where
      pub twins-done : {left : Fuse} → a ≡ Ok left → run f (sweep g) (both img t) ≡ run left (deleting_unreferred g) (both after u)
      twins-done {left} d = sweep-on ∙ on f (deleting_twins g) (λ _. deleting_unreferred g) (both img t) (both after u) a tt left r d

      pub twins-cut : {s : Stopped} → a ≡ Err s → run f (sweep g) (both img t) ≡ record { answer = refused (refusal_number s.refusal); fuse = s.fuse; state = both after u }
      twins-cut {s} d = sweep-on ∙ stop f (deleting_twins g) (λ _. deleting_unreferred g) (both img t) (both after u) a tt s.fuse r d

  -- ---- with words for notes

  module _ (words r : ℕ) (e : r ≡ words_fit g (length img) words) where
    pub with-stop : (r ≡ 0 → ⊥) → run f (sweep_with g words) (both img t) ≡ record { answer = refused r; fuse = f; state = both img t }
    unfolding sweep_with
    with-stop n = test_stop f (λ (s : Both). words_fit g (length s.image) words) (λ _. sweep g) (both img t) r e n

    pub with-on : r ≡ 0 → run f (sweep_with g words) (both img t) ≡ run f (sweep g) (both img t)
    unfolding sweep_with
    with-on z = test_on f (λ (s : Both). words_fit g (length s.image) words) (λ _. sweep g) (both img t) r e z

-- ---- the image keeps its length

pub sweepable_fine : (g : Geometry) (img : List ℕ) → sweepable g img ≡ done tt → check_of g (length img) ≡ 0
unfolding sweepable
sweepable_fine g img e = (gate_back (check_of g (length img)) _ tt e).0

pub twins_fine : (g : Geometry) (f : Fuse) (img t : List ℕ) (a : Stored) (after u : List ℕ) → ended a (both after u) ≡ run f (deleting_twins g) (both img t) → check_of g (length img) ≡ 0
    → check_of g (length after) ≡ 0
twins_fine g f img t a after u r fine = ap (check_of g) (go a r ∙ length_run f (deleting_twins g) (both img t)) ∙ fine
  where
    go : (a : Stored) → ended a (both after u) ≡ run f (deleting_twins g) (both img t) → length after ≡ length (run f (deleting_twins g) (both img t)).state.image
    go (Ok left) q = ap (λ (x : EndIn Both (Unit {0})). length x.state.image) q
    go (Err s) q = ap (λ (x : EndIn Both (Unit {0})). length x.state.image) q
