-- Marks stored one after the other, and a fuse that lets so many of them pass.
use mathlib.Core.Path.{◌≡◌, refl, sym, ap, ◌∙◌, subst}
use mathlib.Core.Logic.{◌⊎◌, inl, inr}
use mathlib.Core.List.{List, [], ◌∷◌, ◌++◌}
use Prim.Native.Nat.{ℕ, zero, suc, ◌+◌, ◌-◌, ◌≤◌, ◌<◌}
use native.Mathlib.Omega.{arith}
use lib.ListN.{length, take}
use Rattle.medium.specs.declared.geometry.Geometry.{Geometry}
use Rattle.medium.specs.declared.fuse.Fuse.{Fuse}
use Rattle.medium.specs.declared.fuse.Fuse.TheVariants.{Absent, Units}
use Rattle.std.specs.Prelude.{Ok, Err}
use Rattle.medium.specs.declared.refusal.Refusal.TheVariants.{PowerLost}
use Rattle.medium.specs.Units.{FlashUnit}
use Rattle.medium.specs.Operation.{flash, apply, cost, done, refused, Run, Op, EndIn, cut, run}
use Rattle.medium.specs.Beside.{Both, both}
use Rattle.medium.proofs.Runs.{cost_flash, prefix_flash, leb_yes, leb_no}
use Rattle.medium.proofs.Bytes.{length-apply}
use Rattle.medium.proofs.Traced.{ran, power_cut}
use Rattle.objects.specs.declared.state.ObjectState.TheVariants as state
use Rattle.objects.specs.declared.header.ObjectHeader.{ObjectHeader}
use Rattle.objects.specs.Header.{update_state}
use Rattle.storage.specs.Laws.{All}
use Rattle.sweep.specs.Sweep.{deleting}
use Rattle.sweep.proofs.Marks.{mark_units}
use Rattle.sweep.proofs.Turns.{one_more, delete-on, delete-stop, delete_none}

abbrev pub marking : Geometry → List ObjectHeader → List ℕ → List ℕ
marking g [] img = img
marking g (h ∷ hs) img = marking g hs (apply (mark_units g h) img)

pub marking_append : (g : Geometry) (xs ys : List ObjectHeader) (img : List ℕ) → marking g (xs ++ ys) img ≡ marking g ys (marking g xs img)
marking_append g [] ys img = refl
marking_append g (x ∷ xs) ys img = marking_append g xs ys (apply (mark_units g x) img)

-- as many as a fuse lets pass
abbrev pub passing : Fuse → List ObjectHeader → List ObjectHeader
passing Absent hs = hs
passing (Units k) hs = take k hs

-- ---- a store of one unit under a fuse

module _ {A : Type 0} (o : Op A) (vs : List FlashUnit) (x : A) (m : List ℕ) (e : o m ≡ ran vs x) (one : length vs ≡ 1) where
  none_left : run (Units 0) o m ≡ record { answer = refused 8; fuse = Units 0; state = m }
  unfolding run
  none_left =
      let c : 0 < cost flash vs = omega (arith, cost_flash vs) in
      ap (λ (r : Run flash A). cut {W = flash} (Units 0) r m) e ∙ rw (leb_no c) (ap (λ (us : List FlashUnit). record { answer = refused 8; fuse = Units 0; state = apply us m }) (prefix_flash 0 vs))

  some_left : (k : ℕ) → run (Units (suc k)) o m ≡ record { answer = done x; fuse = Units k; state = apply vs m }
  unfolding run
  some_left k =
      let c : cost flash vs ≤ suc k = omega (arith, cost_flash vs) in
      let d : suc k - cost flash vs ≡ k = omega (arith, cost_flash vs) in
      ap (λ (r : Run flash A). cut {W = flash} (Units (suc k)) r m) e ∙ rw (leb_yes c) (ap (λ (n : ℕ). record { answer = done x; fuse = Units n; state = apply vs m }) d)

-- ---- an object whose mark can be stored in any image of this length

pub record Deletable (g : Geometry) (room : ℕ) (h : ObjectHeader) : Type 0 where
  pub gone : ObjectHeader
  pub stores : (m : List ℕ) → length m ≡ room → update_state g h state.Deleted m ≡ ran (mark_units g h) gone
  pub one : length (mark_units g h) ≡ 1

-- what the fuse leaves of a list of them: all, with a fuse for what comes next; or as many as it lets pass, and 8
abbrev pub AllPass : Fuse → List ObjectHeader → Geometry → List ℕ → EndIn Both (Unit {0}) → Type 0
AllPass f hs g img e =
    (e.answer ≡ done tt) × (e.state.image ≡ marking g hs img) × ((more : List ObjectHeader) → passing f (hs ++ more) ≡ hs ++ passing e.fuse more)

abbrev pub SomePass : Fuse → List ObjectHeader → Geometry → List ℕ → EndIn Both (Unit {0}) → Type 0
SomePass f hs g img e =
    (e.answer ≡ refused 8) × (e.state.image ≡ marking g (passing f hs) img) × ((more : List ObjectHeader) → passing f (hs ++ more) ≡ passing f hs)

module _ (g : Geometry) (h : ObjectHeader) (hs : List ObjectHeader) (img : List ℕ) (f left : Fuse) (first : (xs : List ObjectHeader) → passing f (h ∷ xs) ≡ h ∷ passing left xs) where
  -- the first passes, and then what the fuse that is left lets pass of the others
  one_passes : (e : EndIn Both (Unit {0})) → AllPass left hs g (apply (mark_units g h) img) e ⊎ SomePass left hs g (apply (mark_units g h) img) e → AllPass f (h ∷ hs) g img e ⊎ SomePass f (h ∷ hs) g img e
  one_passes e (inl p) = inl (p.0, p.1, λ more. first (hs ++ more) ∙ ap (λ (l : List ObjectHeader). h ∷ l) (p.2 more))
  one_passes e (inr p) =
      inr (p.0, p.1 ∙ ap (λ (l : List ObjectHeader). marking g l img) (sym (first hs)), λ more. first (hs ++ more) ∙ ap (λ (l : List ObjectHeader). h ∷ l) (p.2 more) ∙ sym (first hs))

pub deleting_run : (g : Geometry) (which : ℕ) (hs : List ObjectHeader) (f : Fuse) (n : ℕ) (img t : List ℕ) → All (Deletable g (length img)) hs
    → AllPass f hs g img (run f (deleting g which n hs) (both img t)) ⊎ SomePass f hs g img (run f (deleting g which n hs) (both img t))
deleting_run g which [] f n img t a = inl (subst (AllPass f [] g img) (sym (delete_none g which n f (both img t))) (refl, refl, λ _. refl))
deleting_run g which (h ∷ hs) f n img t a = by-fuse f (λ left. deleting_run g which hs left (n + 1) (apply (mark_units g h) img) (one_more g which n t) (subst (λ (x : ℕ). All (Deletable g x) hs) (sym (length-apply (mark_units g h) img)) a.1))
  where
    Goal : Fuse → Type 0
    Goal f = AllPass f (h ∷ hs) g img (run f (deleting g which n (h ∷ hs)) (both img t)) ⊎ SomePass f (h ∷ hs) g img (run f (deleting g which n (h ∷ hs)) (both img t))

    rest : Fuse → EndIn Both (Unit {0})
    rest left = run left (deleting g which (n + 1) hs) (both (apply (mark_units g h) img) (one_more g which n t))

    on : (f left : Fuse) → run f (update_state g h state.Deleted) img ≡ record { answer = done a.0.gone; fuse = left; state = apply (mark_units g h) img } → ((xs : List ObjectHeader) → passing f (h ∷ xs) ≡ h ∷ passing left xs)
        → AllPass left hs g (apply (mark_units g h) img) (rest left) ⊎ SomePass left hs g (apply (mark_units g h) img) (rest left) → Goal f
    on f left p q r =
        subst (λ (e : EndIn Both (Unit {0})). AllPass f (h ∷ hs) g img e ⊎ SomePass f (h ∷ hs) g img e)
        (sym (delete-on g which n h hs f img (apply (mark_units g h) img) t (Ok left) a.0.gone (sym p) refl))
        (one_passes g h hs img f left q (rest left) r)

    by-fuse : (f : Fuse) → ((left : Fuse) → AllPass left hs g (apply (mark_units g h) img) (rest left) ⊎ SomePass left hs g (apply (mark_units g h) img) (rest left)) → Goal f
    by-fuse Absent more = on Absent Absent (power_cut (update_state g h state.Deleted) (mark_units g h) a.0.gone img (a.0.stores img refl)) (λ _. refl) (more Absent)
    by-fuse (Units zero) more =
        inr
        (subst (SomePass (Units 0) (h ∷ hs) g img)
        (sym (delete-stop g which n h hs (Units 0) img img t (Err (record { refusal = PowerLost; fuse = Units 0 })) a.0.gone (sym (none_left (update_state g h state.Deleted) (mark_units g h) a.0.gone img (a.0.stores img refl) a.0.one)) refl))
        (refl, refl, λ _. refl))
    by-fuse (Units (suc k)) more = on (Units (suc k)) (Units k) (some_left (update_state g h state.Deleted) (mark_units g h) a.0.gone img (a.0.stores img refl) a.0.one k) (λ _. refl) (more (Units k))
