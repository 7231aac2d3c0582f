-- The strict mark over whole operations: step by step, a sequence under it is the one without it, or stops with 10. A store is judged here;
-- each layer above joins its own steps.
use mathlib.Core.Path.{◌≡◌, refl, sym, ap, subst, ◌∙◌}
use mathlib.Core.Bool.{Bool, true, false, ◌&&◌}
use mathlib.Core.List.{List, [], ◌∷◌, ◌++◌, append_assoc}
use Prim.Native.Nat.{ℕ, ◌+◌, ◌*◌}
use lib.ListN.{length}
use lib.Dec.{eqb}
use borrow.Author.Tests.{eqb-true, eq-eqb}
use Rattle.medium.specs.declared.geometry.Geometry.{Geometry}
use Rattle.medium.specs.Granularity.{pick, width_of, units_in}
use Rattle.medium.specs.Geometry.{admit, fit_of, address}
use Rattle.medium.specs.Units.{FlashUnit, step, padded}
use Rattle.medium.specs.Strict.{any_again, not_erased}
use Rattle.medium.specs.Operation.{World, flash, happen, Answer, done, refused, or_refuse, Run, OpIn, Op, follow, ◌>>=◌, ask, test, refuse, putting}
use Rattle.medium.specs.Medium.{units_at, readable, writable, erasable, storable, read_at, write, erase}
use Rattle.medium.specs.Beside.{Event, unit, Both, both, beside, units, on_image, fields}
use Rattle.medium.specs.Marked.{Along, Fresh, Once, FreshBeside, OnceBeside, Stopped, Marked, same, stopped, Under, UnderMark, UnderMarkBeside, with_strict, Beside}
use Rattle.medium.proofs.Traced.{ran}
use Rattle.medium.proofs.Writes.{write_is}
use Rattle.medium.proofs.Strict.{unmarked, storable_next, once_words, twice_words}

-- ---- along two lists of events

module _ (W : World) (P : W.Event → W.State → Type 0) where
  pub along_append : (es fs : List W.Event) (s : W.State) → Along W P es s → Along W P fs (happen W es s) → Along W P (es ++ fs) s
  along_append [] fs s h k = k
  along_append (e ∷ es) fs s h k = (h.0, along_append es fs (W.step e s) h.1 k)

  pub along_first : (es fs : List W.Event) (s : W.State) → Along W P (es ++ fs) s → Along W P es s
  along_first [] fs s h = tt
  along_first (e ∷ es) fs s h = (h.0, along_first es fs (W.step e s) h.1)

  pub along_last : (es fs : List W.Event) (s : W.State) → Along W P (es ++ fs) s → Along W P fs (happen W es s)
  along_last [] fs s h = h
  along_last (e ∷ es) fs s h = along_last es fs (W.step e s) h.1

  -- ---- steps

  -- a question whose answer the mark does not change
  pub ask_under : {A : Type 0} (q q' : W.State → Answer A) → ((s : W.State) → q s ≡ q' s) → Under W P (ask {W = W} q) (ask {W = W} q')
  unfolding ask
  ask_under {A} q q' e s = same (ap (λ (a : Answer A). record { events = []; answer = a }) (e s)) tt

  -- one and the same question
  pub kept_under : {A : Type 0} (q : W.State → Answer A) → Under W P (ask {W = W} q) (ask {W = W} q)
  kept_under q = ask_under q q (λ _. refl)

  pub test_under : (q q' : W.State → ℕ) → ((s : W.State) → q s ≡ q' s) → Under W P (test {W = W} q) (test {W = W} q')
  unfolding test
  test_under q q' e = ask_under (λ s. or_refuse (q s)) (λ s. or_refuse (q' s)) (λ s. ap or_refuse (e s))

  -- a first step that went on
  bind_same : {A B : Type 0} (us : List W.Event) (a : A) (p p' : A → OpIn W B) (s : W.State) → Along W P us s → Marked W P (p a (happen W us s)) (p' a (happen W us s)) (happen W us s)
      → Marked W P (follow {W = W} us (done a) p s) (follow {W = W} us (done a) p' s) s
  bind_same {A} {B} us a p p' s h (same e k) =
      same (ap (λ (r : Run W B). record { events = us ++ r.events; answer = r.answer }) e) (along_append us (p' a (happen W us s)).events s h k)
  bind_same us a p p' s h (stopped t) =
      stopped (record {
        number = t.number;
        rest = t.rest;
        first = ap (λ (es : List W.Event). us ++ es) t.first ∙ sym (append_assoc us (p a (happen W us s)).events t.rest);
        once = along_append us (p a (happen W us s)).events s h t.once;
        twice = λ k. t.twice (along_last us (p' a (happen W us s)).events s k);
      })

  -- one that was stopped
  bind_stopped : {A B : Type 0} (r plain : Run W A) (p p' : A → OpIn W B) (s : W.State) → Stopped W P r plain s
      → Marked W P (follow {W = W} r.events r.answer p s) (follow {W = W} plain.events plain.answer p' s) s
  bind_stopped {A} {B} r plain p p' s t =
      stopped (subst (λ (a : Answer A). Stopped W P (follow {W = W} r.events a p s) (follow {W = W} plain.events plain.answer p' s) s) (sym t.number) (go plain.answer))
    where
      go : (a : Answer A) → Stopped W P (follow {W = W} {B = B} r.events (refused 10) p s) (follow {W = W} plain.events a p' s) s
      go (done a) =
          record {
            number = refl;
            rest = t.rest ++ (p' a (happen W plain.events s)).events;
            first = ap (λ (es : List W.Event). es ++ (p' a (happen W plain.events s)).events) t.first ∙ append_assoc r.events t.rest (p' a (happen W plain.events s)).events;
            once = t.once;
            twice = λ k. t.twice (along_first plain.events (p' a (happen W plain.events s)).events s k);
          }
      go (refused n) = record { number = refl; rest = t.rest; first = t.first; once = t.once; twice = t.twice }

  -- THE LAW: steps that the mark can only stop are a sequence that it can only stop
  pub bind_under : {A B : Type 0} (o o' : OpIn W A) (p p' : A → OpIn W B) → Under W P o o' → ((a : A) → Under W P (p a) (p' a)) → Under W P (o >>= p) (o' >>= p')
  unfolding ◌>>=◌
  bind_under {A} {B} o o' p p' h k s = go (h s)
    where
      on : (r : Run W A) → Along W P r.events s → Marked W P (follow {W = W} r.events r.answer p s) (follow {W = W} r.events r.answer p' s) s
      on r l = on-by r.answer
        where
          on-by : (a : Answer A) → Marked W P (follow {W = W} {B = B} r.events a p s) (follow {W = W} r.events a p' s) s
          on-by (done a) = bind_same r.events a p p' s l (k a (happen W r.events s))
          on-by (refused n) = same refl l

      go : Marked W P (o s) (o' s) s → Marked W P (follow {W = W} (o s).events (o s).answer p s) (follow {W = W} (o' s).events (o' s).answer p' s) s
      go (same e l) = subst (λ (r : Run W A). Marked W P (follow {W = W} r.events r.answer p s) (follow {W = W} (o' s).events (o' s).answer p' s) s) (sym e) (on (o' s) l)
      go (stopped t) = bind_stopped (o s) (o' s) p p' s t

  pub pick_under : {A : Type 0} (t : Bool) (o o' q q' : OpIn W A) → Under W P o o' → Under W P q q' → Under W P (pick t o q) (pick t o' q')
  pick_under true o o' q q' h k = h
  pick_under false o o' q q' h k = k

  -- ---- what follows

  -- no unit is programmed twice
  pub once_under : {A : Type 0} (o o' : OpIn W A) → Under W P o o' → (s : W.State) → Along W P (o s).events s
  once_under o o' h s = go (h s)
    where
      go : Marked W P (o s) (o' s) s → Along W P (o s).events s
      go (same e l) = rw e l
      go (stopped t) = t.once

  -- where the run without the mark programs none twice, it is the run under it
  pub same_under : {A : Type 0} (o o' : OpIn W A) → Under W P o o' → (s : W.State) → Along W P (o' s).events s → o s ≡ o' s
  same_under o o' h s l = go (h s)
    where
      go : Marked W P (o s) (o' s) s → o s ≡ o' s
      go (same e k) = e
      go (stopped t) = absurd (t.twice l)

  -- and so is every run that does not give 10
  pub unless_ten : {A : Type 0} (o o' : OpIn W A) → Under W P o o' → (s : W.State) → ((o s).answer ≡ refused 10 → ⊥) → o s ≡ o' s
  unless_ten o o' h s n = go (h s)
    where
      go : Marked W P (o s) (o' s) s → o s ≡ o' s
      go (same e k) = e
      go (stopped t) = absurd (n t.number)

-- ---- one store

module _ (g : Geometry) (m : ℕ) (v : Beside g m) where
  pub admit_same : (room n : ℕ) → admit g room n ≡ admit (with_strict g m) room n
  unfolding admit
  admit_same room n = rw v.sound

  pub fit_same : fit_of g ≡ fit_of (with_strict g m)
  unfolding fit_of
  fit_same = rw v.sound

  pub read_same : (b o n : ℕ) (img : List ℕ) → read_at g b o n img ≡ read_at (with_strict g m) b o n img
  unfolding read_at readable
  read_same b o n img = rw (admit_same (length img) _)

  write_same : (b o : ℕ) (bs img : List ℕ) → writable g (length img) b o (length bs) ≡ writable (with_strict g m) (length img) b o (length bs)
  unfolding writable
  write_same b o bs img = rw (admit_same (length img) _)

  -- of a range that passes, by whether a unit would be programmed again
  write_by : (b o : ℕ) (bs img : List ℕ) (t : Bool) → writable g (length img) b o (length bs) ≡ 0 → any_again (units_at g b o bs) img ≡ t
      → Marked flash Fresh (write g b o bs img) (write (with_strict g m) b o bs img) img
  unfolding not_erased putting ask
  write_by b o bs img true e q =
      let plain : write (with_strict g m) b o bs img ≡ ran (units_at g b o bs) tt =
      write_is (with_strict g m) b o 0 bs img true (unmarked (with_strict g m) b o bs img v.off ∙ sym (write_same b o bs img) ∙ e) refl in
      let ten : write g b o bs img ≡ record { events = []; answer = refused 10 } =
      write_is g b o 10 bs img false (storable_next g b o bs img e ∙ rw (eq-eqb _ _ v.on, q)) refl in
      stopped (record {
        number = rw ten;
        rest = units_at g b o bs;
        first = rw (plain, ten);
        once = rw ten tt;
        twice = λ k. twice_words (units_in (width_of g.granularity) (length bs)) (width_of g.granularity) (address g b o) (padded (width_of g.granularity) bs) img q (rw plain at k);
      })
  write_by b o bs img false e q =
      let plain : write (with_strict g m) b o bs img ≡ ran (units_at g b o bs) tt =
      write_is (with_strict g m) b o 0 bs img true (unmarked (with_strict g m) b o bs img v.off ∙ sym (write_same b o bs img) ∙ e) refl in
      let marked : write g b o bs img ≡ ran (units_at g b o bs) tt =
      write_is g b o 0 bs img true (storable_next g b o bs img e ∙ rw (q, and_none (eqb g.strict 1))) refl in
      same (marked ∙ sym plain)
      (rw plain (once_words (units_in (width_of g.granularity) (length bs)) (width_of g.granularity) (address g b o) (padded (width_of g.granularity) bs) img q))
    where
      and_none : (t : Bool) → (t && false) ≡ false
      and_none true = refl
      and_none false = refl

  -- the store
  pub write_under : (b o : ℕ) (bs : List ℕ) → UnderMark (write g b o bs) (write (with_strict g m) b o bs)
  unfolding ask storable
  write_under b o bs img = go (eqb (writable g (length img) b o (length bs)) 0) refl
    where
      go : (t : Bool) → eqb (writable g (length img) b o (length bs)) 0 ≡ t → Marked flash Fresh (write g b o bs img) (write (with_strict g m) b o bs img) img
      go true q = write_by b o bs img (any_again (units_at g b o bs) img) (eqb-true _ _ q) refl
      go false q =
          let r : ℕ = writable g (length img) b o (length bs) in
          let e : write g b o bs img ≡ record { events = []; answer = refused (writable g (length img) b o (length bs)) } =
          write_is g b o (writable g (length img) b o (length bs)) bs img false (rw q) q in
          let f : write (with_strict g m) b o bs img ≡ record { events = []; answer = refused (writable g (length img) b o (length bs)) } =
          write_is (with_strict g m) b o (writable g (length img) b o (length bs)) bs img false (unmarked (with_strict g m) b o bs img v.off ∙ sym (write_same b o bs img)) q in
          same (e ∙ sym f) (rw f tt)

  -- an erase never meets the mark
  pub erase_under : (b : ℕ) → UnderMark (erase g b) (erase (with_strict g m) b)
  unfolding erase erasable ask putting
  erase_under b img = rw (admit_same (length img) _) (go (eqb (erasable (with_strict g m) (length img) b) 0))
    where
      go : (t : Bool) → Marked flash Fresh (pick {A = Op (Unit {0})} t (putting (Rattle.medium.specs.Units.erased (b * g.size) g.size ∷ []) tt) (refuse (erasable (with_strict g m) (length img) b)) img)
          (pick {A = Op (Unit {0})} t (putting (Rattle.medium.specs.Units.erased (b * g.size) g.size ∷ []) tt) (refuse (erasable (with_strict g m) (length img) b)) img) img
      go true = same refl (refl, tt)
      go false = same refl tt

-- ---- the image with a table beside it

units_along : (us : List FlashUnit) (s : Both) → Once us s.image → OnceBeside (units us) s
units_along [] s h = tt
units_along (u ∷ us) s h = (h.0, units_along us (both (step u s.image) s.table) h.1)

along_units : (us : List FlashUnit) (s : Both) → OnceBeside (units us) s → Once us s.image
along_units [] s h = tt
along_units (u ∷ us) s h = (h.0, along_units us (both (step u s.image) s.table) h.1)

units_append : (us vs : List FlashUnit) → units (us ++ vs) ≡ units us ++ units vs
units_append [] vs = refl
units_append (u ∷ us) vs = ap (λ (l : List Event). unit u ∷ l) (units_append us vs)

pub image_under : {A : Type 0} (o o' : Op A) → UnderMark o o' → UnderMarkBeside (on_image o) (on_image o')
unfolding on_image
image_under {A} o o' h s = go (h s.image)
  where
    go : Marked flash Fresh (o s.image) (o' s.image) s.image
        → Marked beside FreshBeside (record { events = units (o s.image).events; answer = (o s.image).answer }) (record { events = units (o' s.image).events; answer = (o' s.image).answer }) s
    go (same e l) = same (ap (λ (r : Run flash A). record { events = units r.events; answer = r.answer }) e) (units_along (o' s.image).events s l)
    go (stopped t) =
        stopped (record {
          number = t.number;
          rest = units t.rest;
          first = ap units t.first ∙ units_append (o s.image).events t.rest;
          once = units_along (o s.image).events s t.once;
          twice = λ k. t.twice (along_units (o' s.image).events s k);
        })

-- fields of the table are stored in both
pub fields_under : {A : Type 0} (a i : ℕ) (vs : List ℕ) (x : A) → UnderMarkBeside (putting (fields a i vs) x) (putting (fields a i vs) x)
unfolding putting
fields_under a i vs x s = same refl (go i vs s)
  where
    go : (i : ℕ) (vs : List ℕ) (s : Both) → OnceBeside (fields a i vs) s
    go i [] s = tt
    go i (v ∷ vs) s = (tt, go (Prim.Native.Nat.suc i) vs _)
