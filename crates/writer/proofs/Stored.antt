-- What an operation that is done has stored, and what it gave.
use mathlib.Core.Path.{◌≡◌, refl, sym, ap, ◌∙◌}
use mathlib.Core.Bool.{Bool, true, false}
use mathlib.Core.List.{List, [], ◌∷◌, ◌++◌, append-nil}
use Prim.Native.Nat.{ℕ, zero, suc, ◌+◌, ◌-◌, ◌/◌}
use native.Mathlib.Omega.{arith}
use lib.ListN.{length, take, drop}
use lib.Dec.{eqb}
use borrow.Author.Tests.{eqb-true}
use Rattle.medium.specs.declared.geometry.Geometry.{Geometry}
use Rattle.medium.specs.Granularity.{pick, size_at, finish_at, finish_mark}
use Rattle.medium.specs.Geometry.{check_of, address}
use Rattle.medium.specs.Units.{FlashUnit}
use Rattle.medium.specs.Operation.{flash, apply, Answer, done, refused, or_refuse, Run, Op, follow, ◌>>=◌, ask, give, test}
use Rattle.medium.specs.Medium.{part, units_at, write}
use Rattle.objects.specs.declared.types.ObjectType.{ObjectType}
use Rattle.objects.specs.declared.state.ObjectDataState.TheVariants.{Untrusted, Valid}
use Rattle.objects.specs.declared.state.CompositeObjectState.TheVariants as comp
use Rattle.objects.specs.declared.location.ObjectLocation.{ObjectLocation}
use Rattle.objects.specs.declared.header.ObjectHeader.{ObjectHeader}
use Rattle.objects.specs.Numbers.{bytes}
use Rattle.objects.specs.Types.{type_byte}
use Rattle.objects.specs.Header.{state_at, allocatable_of, marking, step_to, set_state, with_size, sizable_of, set_payload_size}
use Rattle.medium.proofs.Runs.{bound}
use Rattle.medium.proofs.Places.{width_is}
use Rattle.medium.proofs.Split.{none_stored}
use Rattle.medium.proofs.Writes.{write_stored}
use Rattle.writer.specs.declared.writer.ObjectWriter.{ObjectWriter}
use Rattle.writer.specs.Writer.{fresh_of, with_header, emptied, data_at, may_write, allocate, whole_of, pending_of, held_back, filling_of, put_bytes, write_some, flush, may_finish, close, finalize}
use Rattle.writer.proofs.Laws.{width}
use Rattle.writer.proofs.Steps.{whole_le, whole_even, filled, units_joined}

-- ---- where the operation is done, it stored us and gave a

abbrev pub Stores : {A : Type 0} → Op A → List ℕ → List FlashUnit → A → Type 0
Stores {A} o img us a = (x : A) → (o img).answer ≡ done x → o img ≡ record { events = us; answer = done a }

pub then : {A B : Type 0} (o : Op A) (p : A → Op B) (img : List ℕ) (us vs : List FlashUnit) (a : A) (b : B)
    → Stores o img us a → Stores (p a) (apply us img) vs b → Stores (o >>= p) img (us ++ vs) b
unfolding ◌>>=◌
then {A} {B} o p img us vs a b h k x e =
    let f = bound o p img x e in
    let q : o img ≡ record { events = us; answer = done a } = h f.value f.first in
    let r : (o >>= p) img ≡ follow {W = flash} us (done a) p img = ap (λ (r : Run flash A). follow {W = flash} r.events r.answer p img) q in
    let s : p a (apply us img) ≡ record { events = vs; answer = done b } = k x (sym (ap (λ (r : Run flash B). r.answer) r) ∙ e) in
    r ∙ ap (λ (r : Run flash B). record { events = us ++ r.events; answer = r.answer }) s

-- what is given then is that value
pub gave : {A : Type 0} (o : Op A) (img : List ℕ) (us : List FlashUnit) (a x : A) → Stores o img us a → (o img).answer ≡ done x → x ≡ a
gave {A} o img us a x h e = same (sym e ∙ ap (λ (r : Run flash A). r.answer) (h x e))
  where
    same : {y z : A} → done y ≡ done z → y ≡ z
    same q = cc

pub then_give : {A B : Type 0} (o : Op A) (p : A → B) (img : List ℕ) (us : List FlashUnit) (a : A) → Stores o img us a → Stores (o >>= λ x. give (p x)) img us (p a)
unfolding ask
then_give {A} {B} o p img us a h x e =
    then o (λ y. give (p y)) img us [] a (p a) h (λ y q. refl) x e
    ∙ ap (λ (vs : List FlashUnit). record { events = vs; answer = done (p a) }) (append-nil us)

pub ask_then : {A B : Type 0} (q : List ℕ → Answer A) (p : A → Op B) (img : List ℕ) (us : List FlashUnit) (b : B)
    → ((a : A) → q img ≡ done a → Stores (p a) img us b) → Stores (ask q >>= p) img us b
unfolding ◌>>=◌ ask
ask_then {A} {B} q p img us b h x e = go (q img) refl e
  where
    go : (a : Answer A) → q img ≡ a → (follow {W = flash} [] a p img).answer ≡ done x → follow {W = flash} [] a p img ≡ record { events = us; answer = done b }
    go (done a) t k = h a t x k
    go (refused n) t k = let z : ◌≡◌ {A = ℕ} 0 1 = cc in absurd (omega arith)

pub none_refused : (n : ℕ) (u : Unit {0}) → or_refuse n ≡ done u → n ≡ 0
none_refused zero u t = refl
none_refused (suc n) u t = let z : ◌≡◌ {A = ℕ} 0 1 = cc in absurd (omega arith)

pub test_then : {B : Type 0} (q : List ℕ → ℕ) (p : Op B) (img : List ℕ) (us : List FlashUnit) (b : B) → (q img ≡ 0 → Stores p img us b) → Stores (test q >>= λ _. p) img us b
unfolding test
test_then {B} q p img us b h = ask_then (λ i. or_refuse (q i)) (λ _. p) img us b (λ u t. h (none_refused (q img) u t))

pub write_stores : (g : Geometry) (b o : ℕ) (bs img : List ℕ) → Stores (write g b o bs) img (units_at g b o bs) tt
write_stores g b o bs img x e = write_stored g b o bs img x e

-- ---- the writer's operations

pub allocate_stores : (g : Geometry) (at : ObjectLocation) (t : ObjectType) (img : List ℕ) → Stores (allocate g at t) img (units_at g at.block at.offset (type_byte t ∷ [])) (fresh_of g at t)
unfolding allocate
allocate_stores g at t img =
    ask_then (state_at g at) (λ st. ask (λ _. allocatable_of t st) >>= λ _. typed) img _ _
    (λ st _. ask_then (λ _. allocatable_of t st) (λ _. typed) img _ _ (λ _ _. then_give (write g at.block at.offset (type_byte t ∷ [])) (λ _. fresh_of g at t) img _ tt (write_stores g at.block at.offset (type_byte t ∷ []) img)))
  where
    typed : Op ObjectWriter
    typed = write g at.block at.offset (type_byte t ∷ []) >>= λ _. give (fresh_of g at t)

-- the two stores have the units of one
pub put_units : (g : Geometry) (w : ObjectWriter) (bs : List ℕ)
    → units_at g w.object.location.block (data_at g w) (take (filling_of w (width g) (whole_of (width g) (length bs))) bs)
    ++ units_at g w.object.location.block (data_at g w + filling_of w (width g) (whole_of (width g) (length bs)))
    (part (filling_of w (width g) (whole_of (width g) (length bs))) (whole_of (width g) (length bs) - filling_of w (width g) (whole_of (width g) (length bs))) bs)
    ≡ units_at g w.object.location.block (data_at g w) (take (whole_of (width g) (length bs)) bs)
put_units g w bs =
    let f = filled w (width g) (whole_of (width g) (length bs)) (length bs / width g) (whole_even (width g) (length bs)) in
    units_joined g w.object.location.block (data_at g w) f.0 (filling_of w (width g) (whole_of (width g) (length bs))) (whole_of (width g) (length bs)) bs f.1 f.2 (whole_le (width g) (length bs))

module _ (g : Geometry) (w : ObjectWriter) (img : List ℕ) where
  pub some_stores : (src : List ℕ)
      → Stores (write_some g w src) img
      (units_at g w.object.location.block (data_at g w) (take (whole_of (width g) (length (pending_of w src))) (pending_of w src)))
      (held_back w (whole_of (width g) (length (pending_of w src))) (drop (whole_of (width g) (length (pending_of w src))) (pending_of w src)))
  unfolding write_some put_bytes
  some_stores src x e =
      test_then (λ i. may_write w g (length i) (length src)) (put_bytes g w m n bs) img _ _
      (λ _. then (write g w.object.location.block (data_at g w) (take m bs)) (λ _. write g w.object.location.block (data_at g w + m) (part m (n - m) bs) >>= λ _. give (held_back w n (drop n bs))) img _ _ tt _
      (write_stores g w.object.location.block (data_at g w) (take m bs) img)
      (then_give (write g w.object.location.block (data_at g w + m) (part m (n - m) bs)) (λ _. held_back w n (drop n bs)) (apply (units_at g w.object.location.block (data_at g w) (take m bs)) img) _ tt
      (write_stores g w.object.location.block (data_at g w + m) (part m (n - m) bs) (apply (units_at g w.object.location.block (data_at g w) (take m bs)) img)))) x e
      ∙ ap (λ (us : List FlashUnit). record { events = us; answer = done (held_back w n (drop n bs)) }) (put_units g w bs)
    where
      bs : List ℕ
      bs = pending_of w src

      n : ℕ
      n = whole_of (width g) (length (pending_of w src))

      m : ℕ
      m = filling_of w (width g) (whole_of (width g) (length (pending_of w src)))

  pub flush_stores : Stores (flush g w) img (units_at g w.object.location.block (data_at g w) (take w.held w.tail)) (emptied w)
  unfolding flush ask
  flush_stores x e = go (eqb w.held 0) refl e
    where
      stored : Op ObjectWriter
      stored = write g w.object.location.block (data_at g w) (take w.held w.tail) >>= λ _. give (emptied w)

      go : (t : Bool) → eqb w.held 0 ≡ t → (pick {A = Op ObjectWriter} t (give (emptied w)) stored img).answer ≡ done x
          → pick {A = Op ObjectWriter} t (give (emptied w)) stored img ≡ record { events = units_at g w.object.location.block (data_at g w) (take w.held w.tail); answer = done (emptied w) }
      go true q h =
          let z : w.held ≡ 0 = eqb-true _ _ q in
          ap (λ (us : List FlashUnit). record { events = us; answer = done (emptied w) })
          (sym (ap (λ (m : ℕ). units_at g w.object.location.block (data_at g w) (take m w.tail)) z ∙ none_stored (width g) (width_is g.granularity).0 (address g w.object.location.block (data_at g w))))
      go false q h =
          then_give (write g w.object.location.block (data_at g w) (take w.held w.tail)) (λ _. emptied w) img _ tt
          (write_stores g w.object.location.block (data_at g w) (take w.held w.tail) img) x h

module _ (g : Geometry) (h : ObjectHeader) (img : List ℕ) where
  pub size_stores : (n : ℕ) → Stores (set_payload_size g h n) img (units_at g h.location.block (h.location.offset + size_at g.granularity) (bytes g.s n)) (with_size h n)
  unfolding set_payload_size
  size_stores n =
      test_then (λ i. sizable_of g h (length i)) (write g h.location.block (h.location.offset + size_at g.granularity) (bytes g.s n) >>= λ _. give (with_size h n)) img _ _
      (λ _. then_give (write g h.location.block (h.location.offset + size_at g.granularity) (bytes g.s n)) (λ _. with_size h n) img _ tt
      (write_stores g h.location.block (h.location.offset + size_at g.granularity) (bytes g.s n) img))

  -- the mark that finishes an unfinished object
  pub mark_stores : (t : ObjectType) → h.state ≡ comp.Allocated t Untrusted
      → Stores (set_state g h Valid) img (units_at g h.location.block (h.location.offset + finish_at g.granularity) (finish_mark g.granularity ∷ []))
      (record { state = comp.Allocated t Valid; size = h.size; location = h.location })
  unfolding set_state marking
  mark_stores t e =
      test_then (λ i. check_of g (length i)) (step_to g h Valid h.state) img _ _
      (λ _. rw e
      (then_give (write g h.location.block (h.location.offset + finish_at g.granularity) (finish_mark g.granularity ∷ [])) (λ _. record { state = comp.Allocated t Valid; size = h.size; location = h.location }) img _ tt
      (write_stores g h.location.block (h.location.offset + finish_at g.granularity) (finish_mark g.granularity ∷ []) img)))

-- ---- size and mark

abbrev pub finished : ObjectWriter → ObjectType → ObjectHeader
finished w t = record { state = comp.Allocated t Valid; size = w.cursor + w.held; location = w.object.location }

pub finalize_stores : (g : Geometry) (w : ObjectWriter) (t : ObjectType) (img : List ℕ) → w.object.state ≡ comp.Allocated t Untrusted
    → Stores (finalize g w) img
    (units_at g w.object.location.block (data_at g w) (take w.held w.tail)
    ++ (units_at g w.object.location.block (w.object.location.offset + size_at g.granularity) (bytes g.s (w.cursor + w.held))
    ++ units_at g w.object.location.block (w.object.location.offset + finish_at g.granularity) (finish_mark g.granularity ∷ [])))
    (with_header (emptied w) (finished w t))
unfolding finalize close
finalize_stores g w t img e =
    test_then (λ i. may_finish w g (length i)) (close g Valid w) img _ _
    (λ _. then (flush g w) (λ v. set_payload_size g v.object v.cursor >>= λ h. set_state g h Valid >>= λ k. give (with_header v k)) img _ _ (emptied w) _ (flush_stores g w img)
    (then (set_payload_size g w.object (w.cursor + w.held)) (λ h. set_state g h Valid >>= λ k. give (with_header (emptied w) k)) _ _ _ (with_size w.object (w.cursor + w.held)) _ (size_stores g w.object _ (w.cursor + w.held))
    (then_give (set_state g (with_size w.object (w.cursor + w.held)) Valid) (with_header (emptied w)) _ _ _ (mark_stores g (with_size w.object (w.cursor + w.held)) _ t e))))
