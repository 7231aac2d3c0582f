-- What a function of the C interface hands back, from what its callees gave. Once for every store and question.
use mathlib.Core.Path.{◌≡◌, refl, sym, ap, ◌∙◌}
use mathlib.Core.Bool.{Bool, true, false}
use mathlib.Core.List.{List}
use Prim.Native.Nat.{ℕ}
use lib.ListN.{length}
use Rattle.medium.specs.declared.geometry.Geometry.{Geometry}
use Rattle.medium.specs.declared.fuse.Fuse.{Fuse}
use Rattle.medium.specs.declared.fuse.Stopped.{Stopped}
use Rattle.medium.specs.declared.refusal.Refusal.{Refusal}
use Rattle.std.specs.Prelude.{Result, Ok, Err}
use Rattle.std.specs.Result.{result_unwrap_or}
use Rattle.medium.specs.Granularity.{pick}
use Rattle.medium.specs.Geometry.{admit, fit_of, geometry_of, geometry_ok}
use Rattle.medium.specs.Refusal.{refusal_number, answer_of, code_of}
use Rattle.medium.specs.Fuse.{Stored, stored_number}
use Rattle.medium.specs.Operation.{Op, EndIn, Answer, done, refused, run, ended_by, ended_with, answered, unless_done}
use Rattle.medium.proofs.Runs.{ask_on, ask_stop}
use Rattle.medium.proofs.Checks.{picked}
use Rattle.objects.proofs.Answers.{gate_on, gate_stop}
use Rattle.crossing.specs.Crossing.{no_geometry, or_none, geometry_in, behind, admit_alone, fitting, asked_behind, given, fuse_of, crossed, crossing, units_left, units_after, left_of, value_of, crossed_with, crossing_with, Telling, told, telling_by}

-- ---- the geometry

-- what numbers say, or none
pub or_none_of : (r : Result Geometry Refusal) → result_unwrap_or r no_geometry ≡ or_none (answer_of r)
or_none_of (Ok g) = refl
or_none_of (Err e) = refl

-- numbers that say a geometry
pub says : (ns : List ℕ) (g : Geometry) → geometry_of ns ≡ done g → geometry_in ns ≡ g
unfolding geometry_in
says ns g e = rw e

-- numbers that say none: 6, before anything else
pub says_none : (ns : List ℕ) (n room next : ℕ) → geometry_of ns ≡ refused n → admit (geometry_in ns) room next ≡ 6
unfolding geometry_in admit geometry_ok
says_none ns n room next e = rw e

-- the number of a value, behind the test of a geometry alone
pub alone_stop : (g : Geometry) (next r : ℕ) → r ≡ fit_of g → (r ≡ 0 → ⊥) → r ≡ admit_alone g next
unfolding fit_of admit_alone
alone_stop g next r e n = e ∙ go (geometry_ok g) (λ z. n (e ∙ z))
  where
    go : (a : Bool) → (pick {A = ℕ} a 0 6 ≡ 0 → ⊥) → pick {A = ℕ} a 0 6 ≡ pick a next 6
    go true h = absurd (h refl)
    go false h = refl

pub alone_pass : (g : Geometry) (next r : ℕ) → r ≡ fit_of g → r ≡ 0 → next ≡ admit_alone g next
unfolding fit_of admit_alone
alone_pass g next r e z = rw (picked (geometry_ok g) 0 5 (sym e ∙ z)).0

-- a question that is asked of any geometry
module _ {A B : Type 0} (g : Geometry) (a : Answer A) (k : A → B → B) (b : B) (r : ℕ) (e : r ≡ fit_of g) where
  pub fitting_stop : (r ≡ 0 → ⊥) → told r b ≡ telling_by k b (fitting g a)
  unfolding fitting telling_by
  fitting_stop n = sym (ap (telling_by k b) (gate_stop (λ _. a) r (fit_of g) e n))

  pub fitting_on : r ≡ 0 → {t : Telling B} → t ≡ telling_by k b a → t ≡ telling_by k b (fitting g a)
  unfolding fitting
  fitting_on z h = h ∙ sym (ap (telling_by k b) (gate_on (λ _. a) r (fit_of g) e z))

-- ---- a store

units_same : (fused : Bool) (u : ℕ) → units_left (fuse_of fused u) u ≡ u
unfolding fuse_of
units_same true u = refl
units_same false u = refl

module _ {S A : Type 0} (e : EndIn S A) (u : ℕ) where
  pub stored : (r : Stored) (x : A) (after : S) (n v : ℕ) → ended_by r x after ≡ e → n ≡ stored_number r → v ≡ units_after r u → crossed n v after ≡ crossing u e
  unfolding crossing units_after
  stored (Ok f) x after n v h en ev = rw (← h, en, ev)
  stored (Err z) x after n v h en ev = rw (← h, en, ev)

  stopped : (fused : Bool) (n : ℕ) (s : S) → e ≡ record { answer = refused n; fuse = fuse_of fused u; state = s } → crossed n u s ≡ crossing u e
  unfolding crossing
  stopped fused n s h = rw (h, units_same)

-- with a value that the store hands on
module _ {S A B : Type 0} (e : EndIn S A) (k : A → B) (u : ℕ) (b : B) where
  pub handed_with : (r : Result (A × Fuse) Stopped) (after : S) (n v : ℕ) (w : B) → ended_with r after ≡ e → n ≡ stored_number (left_of r) → v ≡ units_after (left_of r) u
      → w ≡ value_of k b r → crossed_with n v after w ≡ crossing_with k u b e
  unfolding crossing_with units_after
  handed_with (Ok x) after n v w h en ev ew = rw (← h, en, ev, ew)
  handed_with (Err z) after n v w h en ev ew = rw (← h, en, ev, ew)

  pub stopped_with : (fused : Bool) (n : ℕ) (s : S) → e ≡ record { answer = refused n; fuse = fuse_of fused u; state = s } → crossed_with n u s b ≡ crossing_with k u b e
  unfolding crossing_with
  stopped_with fused n s h = rw (h, units_same)

-- ---- a store of a value that came in

module _ {X A : Type 0} (g : Geometry) (a : Answer X) (o : Geometry → X → Op A) (f : Fuse) (s : List ℕ) where
  pub given_on : {x : X} → a ≡ done x → run f (given g a o) s ≡ run f (o g x) s
  unfolding given
  given_on {x} d = ask_on f (λ img. behind (admit g (length img)) a) (λ x. o g x) s (ap (behind (admit g (length s))) d)

  pub given_stop : {m : ℕ} → a ≡ refused m → run f (given g a o) s ≡ record { answer = refused (admit g (length s) m); fuse = f; state = s }
  unfolding given
  given_stop {m} d = ask_stop f (λ img. behind (admit g (length img)) a) (λ x. o g x) s (ap (behind (admit g (length s))) d)

module _ {X A : Type 0} (g : Geometry) (a : Answer X) (o : Geometry → X → Op A) (fused : Bool) (u : ℕ) (s : List ℕ) where
  -- it is one: what crosses is the store's
  pub given_stored : {x : X} (f : Fuse) (r : Stored) (y : A) (after : List ℕ) (n v : ℕ)
      → a ≡ done x → f ≡ fuse_of fused u → ended_by r y after ≡ run f (o g x) s → n ≡ stored_number r → v ≡ units_after r u
      → crossed n v after ≡ crossing u (run (fuse_of fused u) (given g a o) s)
  given_stored f r y after n v d ef er = stored _ u r y after n v ((rw ef at er) ∙ sym (given_on g a o (fuse_of fused u) s d))

  -- it is none
  pub none_stored : {m n : ℕ} → a ≡ refused m → n ≡ admit g (length s) m → crossed n u s ≡ crossing u (run (fuse_of fused u) (given g a o) s)
  none_stored {m} {n} d q = stopped _ u fused n s (rw q (given_stop g a o (fuse_of fused u) s d))

module _ {X A B : Type 0} (g : Geometry) (a : Answer X) (o : Geometry → X → Op A) (k : A → B) (fused : Bool) (u : ℕ) (b : B) (s : List ℕ) where
  pub given_handed : {x : X} (f : Fuse) (r : Result (A × Fuse) Stopped) (after : List ℕ) (n v : ℕ) (w : B)
      → a ≡ done x → f ≡ fuse_of fused u → ended_with r after ≡ run f (o g x) s → n ≡ stored_number (left_of r) → v ≡ units_after (left_of r) u → w ≡ value_of k b r
      → crossed_with n v after w ≡ crossing_with k u b (run (fuse_of fused u) (given g a o) s)
  given_handed f r after n v w d ef er = handed_with _ k u b r after n v w ((rw ef at er) ∙ sym (given_on g a o (fuse_of fused u) s d))

  pub none_stored_with : {m n : ℕ} → a ≡ refused m → n ≡ admit g (length s) m
      → crossed_with n u s b ≡ crossing_with k u b (run (fuse_of fused u) (given g a o) s)
  none_stored_with {m} {n} d q = stopped_with _ k u b fused n s (rw q (given_stop g a o (fuse_of fused u) s d))

-- ---- a question of a value that came in

module _ {X A B : Type 0} (first : ℕ → ℕ) (g : Geometry) (a : Answer X) (q : Geometry → X → Answer A) (k : A → B → B) (b : B) where
  pub asked_told : {x : X} {z : Answer A} {t : Telling B} → a ≡ done x → z ≡ q g x → t ≡ telling_by k b z → t ≡ telling_by k b (asked_behind first g a q)
  unfolding asked_behind
  asked_told d e h = rw (d, ← e) h

  pub none_told : {m n : ℕ} → a ≡ refused m → n ≡ first m → told n b ≡ telling_by k b (asked_behind first g a q)
  unfolding asked_behind telling_by
  none_told d h = rw (d, h)

-- ---- an answer that stands beside the bytes that it fills

pub filled_told : (r : Result (Unit {0}) Refusal) (n : ℕ) (before after : List ℕ) (a : Answer (List ℕ)) → n ≡ code_of r → answered r after ≡ a → after ≡ unless_done r before after
    → told n after ≡ telling_by (λ bs _. bs) before a
unfolding telling_by
filled_told (Ok x) n before after a e h q = rw (← h, e)
filled_told (Err k) n before after a e h q = rw (← h, e) (ap (told (refusal_number k)) q)
