-- What a header that was read tells.
use mathlib.Core.Path.{◌≡◌, refl, sym, ap, ◌∙◌}
use mathlib.Core.Bool.{Bool, true, false}
use mathlib.Core.Logic.{◌⊎◌, inl, inr}
use mathlib.Core.List.{List}
use Prim.Native.Nat.{ℕ, zero, suc, ◌+◌, ◌-◌, ◌≤◌}
use native.Mathlib.Omega.{arith}
use lib.ListN.{length}
use lib.Dec.{eqb, leb}
use borrow.Author.Tests.{eqb-true, leb-true, eq-eqb}
use Rattle.medium.specs.declared.granularity.Granularity.{Granularity}
use Rattle.medium.specs.declared.geometry.Geometry.{Geometry}
use Rattle.medium.specs.declared.fuse.Fuse.{Fuse}
use Rattle.medium.specs.declared.fuse.Stopped.{Stopped}
use Rattle.medium.specs.declared.refusal.Refusal.{Refusal}
use Rattle.medium.specs.Refusal.{refusal_number, code_of}
use Rattle.medium.specs.Fuse.{kept_by}
use Rattle.std.specs.Prelude.{Result, Ok, Err}
use Rattle.medium.specs.Granularity.{pick, width_of, size_at}
use Rattle.medium.specs.Geometry.{admit, check_of, fit_of, address}
use Rattle.medium.specs.Operation.{Answer, done, refused, and_then, or_refuse, flash, give, run}
use Rattle.medium.specs.Medium.{part, readable, read_at}
use Rattle.medium.proofs.Runs.{run_ask}
use Rattle.medium.proofs.Bytes.{length_part}
use Rattle.medium.proofs.Places.{width_is, align_le}
use Rattle.medium.proofs.Checks.{Fine, fine_of_read, fine_of_check, admitted, read_at_lem, geometry_yes}
use Rattle.objects.specs.declared.state.CompositeObjectState.{CompositeObjectState}
use Rattle.objects.specs.declared.state.ObjectState.{ObjectState}
use Rattle.objects.specs.declared.state.ObjectState.TheVariants.{Free, Allocated}
use Rattle.objects.specs.declared.location.ObjectLocation.{ObjectLocation}
use Rattle.objects.specs.declared.header.ObjectHeader.{ObjectHeader}
use Rattle.objects.specs.declared.reader.ObjectReader.{ObjectReader}
use Rattle.objects.specs.Numbers.{number, unset_of}
use Rattle.objects.specs.Types.{state_in, rank_in}
use Rattle.objects.specs.Location.{location_length, from_bytes}
use Rattle.objects.specs.Header.{state_at, sizable_of, stayed, stay_of, staying, update_state, payload_of}
use Rattle.objects.specs.Info.{total_of, span_of}
use Rattle.objects.specs.Reader.{possible, remaining_of}
use Rattle.objects.specs.Metadata.{number_at, location_at}
use Rattle.objects.proofs.Places.{header_small}
use Rattle.objects.proofs.Tested.{tested_on, tested_stop}

-- the geometry is sound, since it was tested
pub fine_of_state : (g : Geometry) (at : ObjectLocation) (img : List ℕ) (st : CompositeObjectState) → state_at g at img ≡ done st → Fine g (length img)
unfolding state_at
fine_of_state g at img st e = go (read_at g at.block at.offset (size_at g.granularity) img) refl e
  where
    go : (a : Answer (List ℕ)) → read_at g at.block at.offset (size_at g.granularity) img ≡ a → and_then a (λ bs. state_in g.granularity bs) ≡ done st → Fine g (length img)
    go (done bs) q h = fine_of_read g at.block at.offset (size_at g.granularity) img bs q
    go (refused n) q h = let z : ◌≡◌ {A = ℕ} 0 1 = cc in absurd (omega arith)

pub fine_of_sizable : (g : Geometry) (h : ObjectHeader) (room r : ℕ) → r ≡ sizable_of g h room → r ≡ 0 → Fine g room
unfolding sizable_of
fine_of_sizable g h room r e z = (admitted g room (pick (eqb h.size (unset_of g.s)) 0 4) (sym e ∙ z)).0

-- a target that has no mark is not stored
pub no_mark : (g : Geometry) (h : ObjectHeader) (to : ObjectState) → (to ≡ Free) ⊎ (to ≡ Allocated) → update_state g h to ≡ staying g h (rank_in to)
unfolding update_state
no_mark g h to (inl e) = rw e
no_mark g h to (inr e) = rw e

pub stays : (g : Geometry) (h : ObjectHeader) (f : Fuse) (to : ObjectState) (img : List ℕ) (r : Result (Unit {0}) Refusal) → code_of r ≡ stay_of g h (length img) to
    → {u : Unit {0}} → Ok u ≡ kept_by f r → record { answer = done h; fuse = f; state = img } ≡ run f (staying g h (rank_in to)) img
unfolding stay_of staying
stays g h f to img r e k =
    sym (tested_on {W = flash} f (λ i. admit g (length i) (stayed h (rank_in to))) (λ _. give h) img r e k ∙ run_ask f (λ _. done h) img)

pub stays_not : (g : Geometry) (h : ObjectHeader) (f : Fuse) (to : ObjectState) (img : List ℕ) (r : Result (Unit {0}) Refusal) → code_of r ≡ stay_of g h (length img) to
    → {s : Stopped} → Err s ≡ kept_by f r → record { answer = refused (refusal_number s.refusal); fuse = s.fuse; state = img } ≡ run f (staying g h (rank_in to)) img
unfolding stay_of staying
stays_not g h f to img r e k = sym (tested_stop {W = flash} f (λ i. admit g (length i) (stayed h (rank_in to))) (λ _. give h) img r e k)

pub payload_le : (s : ℕ) (h : ObjectHeader) → payload_of s h ≤ h.size
unfolding payload_of
payload_le s h = go (eqb h.size (unset_of s))
  where
    go : (b : Bool) → pick b 0 h.size ≤ h.size
    go true = omega arith
    go false = omega arith

-- the room of an object whose size is small is small
pub span_small : (k : Granularity) (s : ℕ) (h : ObjectHeader) → span_of k s h ≤ s + h.size + 19
unfolding total_of
span_small k s h = omega (arith, align_le (width_of k) (total_of k s h) (width_is k).1, header_small k s, payload_le s h)

-- ---- a read that was done

-- its bytes are as many as were asked for
pub read_length : (g : Geometry) (b o n : ℕ) (img bs : List ℕ) → read_at g b o n img ≡ done bs → length bs ≡ n
unfolding read_at
read_length g b o n img bs e = go (eqb (readable g (length img) b o n) 0) refl e
  where
    go : (t : Bool) → eqb (readable g (length img) b o n) 0 ≡ t → pick t (done (part (address g b o) n img)) (refused (readable g (length img) b o n)) ≡ done bs → length bs ≡ n
    go true q h =
        let z : part (address g b o) n img ≡ bs = cc in
        let l = read_at_lem g (length img) b o n (readable g (length img) b o n) refl (eqb-true _ _ q) in
        ap length (sym z) ∙ length_part (address g b o) n img l
    go false q h = let z : ◌≡◌ {A = ℕ} 0 1 = cc in absurd (omega arith)

-- a sound geometry passes its test
pub fit_fine : (g : Geometry) (room : ℕ) → Fine g room → fit_of g ≡ 0
unfolding fit_of
fit_fine g room v = rw (geometry_yes g v.sound.least v.sound.small v.sound.quad v.sound.s_holds v.sound.some v.sound.c_holds v.sound.bound v.sound.mark)

-- bytes that were read for a location are one
pub located : (g : Geometry) (b o : ℕ) (img bs : List ℕ) → read_at g b o (location_length g) img ≡ done bs → from_bytes g bs ≡ location_at g b o img
unfolding from_bytes location_at
located g b o img bs e =
    rw (e, fit_fine g (length img) (fine_of_read g b o (location_length g) img bs e), eq-eqb _ _ (read_length g b o (location_length g) img bs e))

pub fine_of_number : (g : Geometry) (b o n : ℕ) (img : List ℕ) (x : ℕ) → number_at g b o n img ≡ done x → Fine g (length img)
unfolding number_at
fine_of_number g b o n img x e = go (read_at g b o n img) refl e
  where
    go : (a : Answer (List ℕ)) → read_at g b o n img ≡ a → and_then a (λ bs. done (number bs)) ≡ done x → Fine g (length img)
    go (done bs) q h = fine_of_read g b o n img bs q
    go (refused m) q h = let z : ◌≡◌ {A = ℕ} 0 1 = cc in absurd (omega arith)

-- ---- what a passed test of a cursor tells, for whatever is asked behind it

pub record Passed (g : Geometry) (room cursor : ℕ) : Type 0 where
  pub fine : Fine g room
  pub cursor_small : cursor ≤ 65536

pub passed : (g : Geometry) (room cursor : ℕ) (k : Answer ℕ) (n : ℕ)
    → and_then (or_refuse (check_of g room)) (λ _. and_then (or_refuse (possible cursor)) (λ _. k)) ≡ done n
    → Passed g room cursor × (k ≡ done n)
passed g room cursor k n e = go (check_of g room) refl e
  where
    more : (t : Bool) → leb cursor 65536 ≡ t → and_then (or_refuse (pick t 0 4)) (λ _. k) ≡ done n → (cursor ≤ 65536) × (k ≡ done n)
    more true q h = (leb-true _ _ q, h)
    more false q h = let z : ◌≡◌ {A = ℕ} 0 1 = cc in absurd (omega arith)

    go : (r : ℕ) → check_of g room ≡ r → and_then (or_refuse r) (λ _. and_then (or_refuse (possible cursor)) (λ _. k)) ≡ done n → Passed g room cursor × (k ≡ done n)
    go zero q h = let m = more (leb cursor 65536) refl h in (record { fine = fine_of_check g room (check_of g room) refl q; cursor_small = m.0 }, m.1)
    go (suc r) q h = let z : ◌≡◌ {A = ℕ} 0 1 = cc in absurd (omega arith)

pub left_small : (s : ℕ) (r : ObjectReader) (n : ℕ) → remaining_of s r ≡ done n → n ≤ payload_of s r.object
unfolding remaining_of
left_small s r n e = go (leb r.cursor (payload_of s r.object)) e
  where
    go : (t : Bool) → pick t (done (payload_of s r.object - r.cursor)) (refused 9) ≡ done n → n ≤ payload_of s r.object
    go true h = let z : payload_of s r.object - r.cursor ≡ n = cc in omega arith
    go false h = let z : ◌≡◌ {A = ℕ} 0 1 = cc in absurd (omega arith)
