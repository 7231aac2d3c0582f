-- The first pass: one object, and the listing that goes on behind it.
use mathlib.Core.Path.{◌≡◌, refl, sym, ap, ◌∙◌}
use mathlib.Core.Bool.{Bool, true, false}
use mathlib.Core.List.{List}
use Prim.Native.Nat.{ℕ, zero, suc, ◌+◌, ◌≤◌}
use native.Mathlib.Omega.{arith}
use lib.ListN.{length, set}
use Rattle.medium.specs.declared.geometry.Geometry.{Geometry}
use Rattle.medium.specs.declared.fuse.Fuse.{Fuse}
use Rattle.std.specs.Prelude.{Result, Ok, Err}
use Rattle.medium.specs.declared.fuse.Stopped.{Stopped}
use Rattle.medium.specs.Refusal.{refusal_number}
use Rattle.medium.specs.Geometry.{check_of}
use Rattle.medium.specs.Operation.{done, refused, EndIn, run, ended_with, give}
use Rattle.medium.specs.Beside.{Both, both, beside}
use Rattle.medium.proofs.Runs.{run_ask_in, on_with, stop_with, ask_on, ask_stop}
use Rattle.medium.proofs.Beside.{image_on, image_stop}
use Rattle.objects.specs.declared.header.ObjectHeader.{ObjectHeader}
use Rattle.objects.specs.declared.iterator.ObjectIterator.{ObjectIterator}
use Rattle.objects.specs.Listing.{Met, object, free_place, block_end, next_of}
use Rattle.objects.proofs.Answers.{or_on}
use Rattle.objects.proofs.Listing.{next_moves, next_end, header_some}
use Rattle.blocks.specs.declared.header.BlockHeaderKind.{BlockHeaderKind}
use Rattle.blocks.specs.declared.record.BlockInfo.{BlockInfo}
use Rattle.blocks.specs.Scan.{is_allocated}
use Rattle.blocks.proofs.Scans.{Stops}
use Rattle.collector.specs.Table.{allow_mark, field_at}
use Rattle.collector.specs.Passes.{repairing, repaired, visit_one, go_on, visiting, deleting, delete_by, delete_invalid_objects_in_block}
use Rattle.collector.proofs.Tables.{allowing_on}

-- ---- one object

module _ (f : Fuse) (g : Geometry) (b used : ℕ) (h : ObjectHeader) (i t : List ℕ) where
  pub visit_skip : is_allocated h ≡ false → run f (visit_one g b used h) (both i t) ≡ record { answer = done true; fuse = f; state = both i t }
  unfolding visit_one
  visit_skip e = rw e (run_ask_in beside f (λ _. done true) (both i t))

  module _ (e : is_allocated h ≡ true) (i' : List ℕ) (r : Result (Bool × Fuse) Stopped) (q : ended_with r i' ≡ run f (repairing g h used) i) where
    pub visit_stop : {n : Stopped} → r ≡ Err n → run f (visit_one g b used h) (both i t) ≡ record { answer = refused (refusal_number n.refusal); fuse = n.fuse; state = both i' t }
    unfolding visit_one
    visit_stop {n} a = rw e (image_stop f (repairing g h used) (λ x. repaired b x) i i' t (Err n) false f (rw a at q) refl)

    on-done : {x : Bool × Fuse} → r ≡ Ok x → run f (visit_one g b used h) (both i t) ≡ run x.1 (repaired b x.0) (both i' t)
    unfolding visit_one
    on-done {x} a = rw e (image_on f (repairing g h used) (λ x. repaired b x) i i' t (Ok x.1) x.0 x.1 (rw a at q) refl)

    pub visit-deleted : {x : Bool × Fuse} → r ≡ Ok x → x.0 ≡ true → run f (visit_one g b used h) (both i t) ≡ record { answer = done true; fuse = x.1; state = both i' (set t (field_at b allow_mark) 1) }
    unfolding repaired
    visit-deleted {x} a d = on-done a ∙ rw d (allowing_on x.1 b (λ _. give true) i' t ∙ run_ask_in beside x.1 (λ _. done true) (both i' (set t (field_at b allow_mark) 1)))

    pub visit_left : {x : Bool × Fuse} → r ≡ Ok x → x.0 ≡ false → run f (visit_one g b used h) (both i t) ≡ record { answer = done false; fuse = x.1; state = both i' t }
    unfolding repaired
    visit_left {x} a d = on-done a ∙ rw d (run_ask_in beside x.1 (λ _. done false) (both i' t))

-- ---- the listing: with enough fuel, what is left to do gives the same end

pub record Left (g : Geometry) (b used : ℕ) (whole : EndIn Both (Unit {0})) (i : ObjectIterator) (f : Fuse) (s : Both) : Type 0 where
  pub fuel : ℕ
  pub enough : g.size ≤ i.location.offset + fuel
  pub same : whole ≡ run f (deleting fuel g b used i) s

module _ (g : Geometry) (b used : ℕ) (whole : EndIn Both (Unit {0})) (i : ObjectIterator) (f : Fuse) (s : Both) (left : Left g b used whole i f s) (c : check_of g (length s.image) ≡ 0) where
  -- with no fuel nothing is listed any more
  spent : left.fuel ≡ 0 → next_of g i s.image ≡ done block_end
  spent z = next_end g i s.image (or_on (check_of g (length s.image)) (check_of g (length s.image)) refl c) (omega (arith, left.enough, header_some g.granularity g.s))

  by : (m : ℕ) → left.fuel ≡ suc m → (x : Met) → done x ≡ next_of g i s.image → whole ≡ run f (visiting g b used x (λ j. deleting m g b used j)) s
  unfolding deleting
  by m z x e = left.same ∙ rw z (ask_on f (λ (v : Both). next_of g i v.image) (λ y. visiting g b used y (λ j. deleting m g b used j)) s (sym e))

  pub left_stopped : (x : Met) → Stops x → done x ≡ next_of g i s.image → whole ≡ record { answer = done tt; fuse = f; state = s }
  unfolding deleting
  left_stopped x h e = go left.fuel refl x h e
    where
      go : (k : ℕ) → left.fuel ≡ k → (x : Met) → Stops x → done x ≡ next_of g i s.image → whole ≡ record { answer = done tt; fuse = f; state = s }
      go k z (object u j) h e = absurd h
      go zero z block_end h e = left.same ∙ rw z (run_ask_in beside f (λ _. done tt) s)
      go zero z free_place h e = let p = spent z in let o : ◌≡◌ {A = ℕ} 0 1 = cc in absurd (omega arith)
      go (suc k) z block_end h e = by k z block_end e ∙ run_ask_in beside f (λ _. done tt) s
      go (suc k) z free_place h e = by k z free_place e ∙ run_ask_in beside f (λ _. done tt) s

  pub left_broken : (n : ℕ) → refused n ≡ next_of g i s.image → whole ≡ record { answer = refused n; fuse = f; state = s }
  unfolding deleting
  left_broken n e = go left.fuel refl
    where
      go : (k : ℕ) → left.fuel ≡ k → whole ≡ record { answer = refused n; fuse = f; state = s }
      go zero z = let p = spent z in let o : ◌≡◌ {A = ℕ} 0 1 = cc in absurd (omega arith)
      go (suc k) z = left.same ∙ rw z (ask_stop f (λ (v : Both). next_of g i v.image) (λ y. visiting g b used y (λ j. deleting k g b used j)) s (sym e))

  module _ (h : ObjectHeader) (j : ObjectIterator) (e : done (object h j) ≡ next_of g i s.image) (r : Result (Bool × Fuse) Stopped) (s' : Both) (q : ended_with r s' ≡ run f (visit_one g b used h) s) where
    pub left-stop : {n : Stopped} → r ≡ Err n → whole ≡ record { answer = refused (refusal_number n.refusal); fuse = n.fuse; state = s' }
    left-stop {n} a = go left.fuel refl
      where
        go : (m : ℕ) → left.fuel ≡ m → whole ≡ record { answer = refused (refusal_number n.refusal); fuse = n.fuse; state = s' }
        go zero z = let p = spent z in let o : ◌≡◌ {A = ℕ} 0 1 = cc in absurd (omega arith)
        go (suc m) z = by m z (object h j) e ∙ stop_with f (visit_one g b used h) (λ y. go_on y (deleting m g b used j)) s s' r q a

    pub left-done : {x : Bool × Fuse} → r ≡ Ok x → x.0 ≡ false → whole ≡ record { answer = done tt; fuse = x.1; state = s' }
    left-done {x} a o = go left.fuel refl
      where
        go : (m : ℕ) → left.fuel ≡ m → whole ≡ record { answer = done tt; fuse = x.1; state = s' }
        go zero z = let p = spent z in let o : ◌≡◌ {A = ℕ} 0 1 = cc in absurd (omega arith)
        go (suc m) z = by m z (object h j) e ∙ on_with f (visit_one g b used h) (λ y. go_on y (deleting m g b used j)) s s' r q a ∙ rw o (run_ask_in beside x.1 (λ _. done tt) s')

    pub left-more : {x : Bool × Fuse} → r ≡ Ok x → x.0 ≡ true → Left g b used whole j x.1 s'
    left-more {x} a o = go left.fuel refl
      where
        go : (m : ℕ) → left.fuel ≡ m → Left g b used whole j x.1 s'
        go zero z = let p = spent z in let o : ◌≡◌ {A = ℕ} 0 1 = cc in absurd (omega arith)
        go (suc m) z =
            let v = next_moves g i s.image h j (sym e) in
            record {
              fuel = m;
              enough = omega (arith, z, left.enough, v.forward, header_some g.granularity g.s);
              same = by m z (object h j) e ∙ on_with f (visit_one g b used h) (λ y. go_on y (deleting m g b used j)) s s' r q a ∙ rw o;
            }

-- ---- by the kind in the record

pub delete_by_lem : (f : Fuse) (g : Geometry) (b : ℕ) (r : BlockInfo) (s : Both) (k : BlockHeaderKind) → r.header.kind ≡ k → run f (delete_invalid_objects_in_block g b r) s ≡ run f (delete_by g b r k) s
unfolding delete_invalid_objects_in_block
delete_by_lem f g b r s k e = ap (λ (x : BlockHeaderKind). run f (delete_by g b r x) s) e
