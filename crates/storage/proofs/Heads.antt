-- The first object of a tour: it stands where its header says, in a block of the type, and the tour goes on behind it.
use mathlib.Core.Path.{◌≡◌, refl, sym, ap, ◌∙◌, subst}
use mathlib.Core.Logic.{◌⊎◌, inl, inr}
use mathlib.Core.Bool.{Bool, true, false, false≢true}
use mathlib.Core.List.{List, [], ◌∷◌}
use Prim.Native.Nat.{ℕ, zero, suc, ◌+◌, ◌≤◌, ◌<◌}
use native.Mathlib.Omega.{arith}
use lib.ListN.{length}
use Rattle.medium.specs.declared.geometry.Geometry.{Geometry}
use Rattle.medium.specs.Granularity.{pick}
use Rattle.medium.specs.Geometry.{check_of}
use Rattle.medium.specs.Operation.{Answer, done, refused}
use Rattle.objects.specs.declared.location.ObjectLocation.{ObjectLocation}
use Rattle.objects.specs.declared.header.ObjectHeader.{ObjectHeader}
use Rattle.objects.specs.declared.iterator.ObjectIterator.{ObjectIterator}
use Rattle.objects.specs.Info.{found, info_at}
use Rattle.objects.specs.Listing.{Met, object, free_place, block_end, next_of}
use Rattle.blocks.specs.declared.header.BlockType.{BlockType}
use Rattle.storage.specs.declared.visit.Visitor.{Visitor}
use Rattle.storage.specs.declared.visit.Step.{Step}
use Rattle.storage.specs.declared.visit.Step.TheVariants as step
use Rattle.storage.specs.Order.{Tour, first_then, is_finished, is_of, open_visit, start_visit, open_of, tour_from, behind_visit, step_of}
use Rattle.storage.specs.Laws.{All}
use Rattle.medium.proofs.Runs.{leb_is}
use Rattle.objects.proofs.Listing.{Moves, next_found, next_moves, header_some, span_least}
use Rattle.shown.proofs.Agreeing.{found_at}
use Rattle.storage.proofs.Order.{step_tour, togo, same_open, tour_end, tour_shut, tour-refused, tour-step, next-nearer, step-nearer, step-behind}

module _ (g : Geometry) (t : BlockType) (img : List ℕ) (c : check_of g (length img) ≡ 0) where
  -- a block that was opened is of the type
  abbrev pub Known : Visitor → Type 0
  Known v = v.opened ≡ true → is_of g t v.place.location.block img ≡ done true

  -- a place is where a visitor stands, or further on
  abbrev pub Ahead : Visitor → ObjectLocation → Type 0
  Ahead v l = (v.place.location.block < l.block) ⊎ ((v.place.location.block ≡ l.block) × (v.place.location.offset ≤ l.offset))

  pub record Head (v : Visitor) (h : ObjectHeader) : Type 0 where
    pub then : tour_from g t v img ≡ first_then h (tour_from g t (behind_visit g h) img)
    pub kind : is_of g t h.location.block img ≡ done true
    pub info : info_at g h.location img ≡ done (found h)
    pub ahead : Ahead v h.location

  no_head : (h : ObjectHeader) (hs : List ObjectHeader) → ◌≡◌ {A = List ObjectHeader} [] (h ∷ hs) → ⊥
  no_head h hs e = let z : ◌≡◌ {A = ℕ} 0 1 = cc in absurd (omega arith)

  next_ahead : (v : Visitor) (l : ObjectLocation) → Ahead (start_visit g (v.place.location.block + 1)) l → Ahead v l
  next_ahead v l (inl x) = inl (omega arith)
  next_ahead v l (inr x) = inl (omega (arith, x.0))

  module _ (v : Visitor) (lt : v.place.location.block < g.count) (k : Known v) (o : open_of g t v img ≡ done true) where
    known-block : is_of g t v.place.location.block img ≡ done true
    unfolding open_of
    known-block = go v.opened refl k o
      where
        go : (b : Bool) → v.opened ≡ b → Known v → pick b (done true) (is_of g t v.place.location.block img) ≡ done true → is_of g t v.place.location.block img ≡ done true
        go true q f r = f q
        go false q f r = r

    -- the next step meets it, or goes on
    met-head : (h : ObjectHeader) (w : Visitor) → step_of g v (next_of g v.place img) ≡ done (step.Object h w) → Head v h
    unfolding step_of
    met-head h w e = go (next_of g v.place img) refl e
      where
        met : (b : Bool) (p : ObjectHeader) (j : ObjectIterator) → next_of g v.place img ≡ done (object p j) → ◌≡◌ {A = Answer Step} (done (pick b (step.Object p (open_visit j)) (step.On (open_visit j)))) (done (step.Object h w)) → Head v h
        met true p j q r =
            let a : p ≡ h = cc in
            let f = next_found g v.place img p j q in
            let l : h.location ≡ v.place.location = ap (λ (x : ObjectHeader). x.location) (sym a) ∙ found_at g v.place.location img p f.object in
            record {
              then = tour-step g t img v c lt o ∙ rw e (ap (λ (x : Visitor). first_then h (tour_from g t x img)) (step-behind g t img v c lt h w e));
              kind = ap (λ (x : ObjectLocation). is_of g t x.block img) l ∙ known-block;
              info = ap (λ (x : ObjectLocation). info_at g x img) l ∙ f.object ∙ ap (λ (x : ObjectHeader). done (found x)) a;
              ahead = inr (ap (λ (x : ObjectLocation). x.block) (sym l), omega (arith, ap (λ (x : ObjectLocation). x.offset) l));
            }
        met false p j q r = let z : ◌≡◌ {A = ℕ} 0 1 = cc in absurd (omega arith)

        go : (m : Answer Met) → next_of g v.place img ≡ m → step_of g v m ≡ done (step.Object h w) → Head v h
        go (done (object p j)) q r = met (is_finished p) p j q r
        go (done free_place) q r = let z : ◌≡◌ {A = ℕ} 0 1 = cc in absurd (omega arith)
        go (done block_end) q r = let z : ◌≡◌ {A = ℕ} 0 1 = cc in absurd (omega arith)
        go (refused n) q r = let z : ◌≡◌ {A = ℕ} 0 1 = cc in absurd (omega arith)

    known_on : (w : Visitor) → step_of g v (next_of g v.place img) ≡ done (step.On w) → Known w
    unfolding step_of
    known_on w e = go (next_of g v.place img) refl e
      where
        shut : (b : ℕ) → start_visit g b ≡ w → Known w
        shut b q o = let z : false ≡ true = ap (λ (x : Visitor). x.opened) q ∙ o in absurd (false≢true z)

        met : (b : Bool) (p : ObjectHeader) (j : ObjectIterator) → next_of g v.place img ≡ done (object p j) → ◌≡◌ {A = Answer Step} (done (pick b (step.Object p (open_visit j)) (step.On (open_visit j)))) (done (step.On w)) → Known w
        met true p j q r = let z : ◌≡◌ {A = ℕ} 0 1 = cc in absurd (omega arith)
        met false p j q r =
            let s : open_visit j ≡ w = cc in
            λ _. ap (λ (x : Visitor). is_of g t x.place.location.block img) (sym s) ∙ ap (λ (b : ℕ). is_of g t b img) (next_moves g v.place img p j q).block ∙ known-block

        go : (m : Answer Met) → next_of g v.place img ≡ m → step_of g v m ≡ done (step.On w) → Known w
        go (done (object p j)) q r = met (is_finished p) p j q r
        go (done free_place) q r = shut (v.place.location.block + 1) cc
        go (done block_end) q r = shut (v.place.location.block + 1) cc
        go (refused n) q r = let z : ◌≡◌ {A = ℕ} 0 1 = cc in absurd (omega arith)

    -- and on it stands further on
    ahead-on : (w : Visitor) → step_of g v (next_of g v.place img) ≡ done (step.On w) → (l : ObjectLocation) → Ahead w l → Ahead v l
    unfolding step_of
    ahead-on w e l a = go (next_of g v.place img) refl e
      where
        met : (b : Bool) (p : ObjectHeader) (j : ObjectIterator) → next_of g v.place img ≡ done (object p j) → ◌≡◌ {A = Answer Step} (done (pick b (step.Object p (open_visit j)) (step.On (open_visit j)))) (done (step.On w)) → Ahead v l
        met true p j q r = let z : ◌≡◌ {A = ℕ} 0 1 = cc in absurd (omega arith)
        met false p j q r = let s : open_visit j ≡ w = cc in further (next_moves g v.place img p j q) (subst (λ (x : Visitor). Ahead x l) (sym s) a)
          where
            further : Moves g v.place j → Ahead (open_visit j) l → Ahead v l
            further m (inl x) = inl (omega (arith, m.block))
            further m (inr x) = inr (sym m.block ∙ x.0, omega (arith, m.forward, x.1))

        go : (m : Answer Met) → next_of g v.place img ≡ m → step_of g v m ≡ done (step.On w) → Ahead v l
        go (done (object p j)) q r = met (is_finished p) p j q r
        go (done free_place) q r = let s : start_visit g (v.place.location.block + 1) ≡ w = cc in next_ahead v l (subst (λ (x : Visitor). Ahead x l) (sym s) a)
        go (done block_end) q r = let s : start_visit g (v.place.location.block + 1) ≡ w = cc in next_ahead v l (subst (λ (x : Visitor). Ahead x l) (sym s) a)
        go (refused n) q r = let z : ◌≡◌ {A = ℕ} 0 1 = cc in absurd (omega arith)

  -- a later visitor's head is this one's
  same_head : (v w : Visitor) (h : ObjectHeader) → tour_from g t v img ≡ tour_from g t w img → (Ahead w h.location → Ahead v h.location) → Head w h → Head v h
  same_head v w h e a k = record { then = e ∙ k.then; kind = k.kind; info = k.info; ahead = a k.ahead }

  head_in : (n : ℕ) (v : Visitor) → togo g v < n → Known v → (h : ObjectHeader) (hs : List ObjectHeader) → (tour_from g t v img).objects ≡ h ∷ hs → Head v h
  head_in zero v l k h hs e = absurd (omega arith)
  head_in (suc n) v l k h hs e = go (leb_is (suc v.place.location.block) g.count) (λ w a b d. head_in n w a b h hs d)
    where
      Rest : Type 0
      Rest = (w : Visitor) → togo g w < n → Known w → (tour_from g t w img).objects ≡ h ∷ hs → Head w h

      stepped : v.place.location.block < g.count → open_of g t v img ≡ done true → (s : Answer Step) → step_of g v (next_of g v.place img) ≡ s → Rest → Head v h
      stepped lt o (done (step.Object p w)) q more =
          let z : tour_from g t v img ≡ first_then p (tour_from g t w img) = tour-step g t img v c lt o ∙ ap (step_tour g t img) q in
          let y : p ∷ (tour_from g t w img).objects ≡ h ∷ hs = sym (ap (λ (x : Tour). x.objects) z) ∙ e in
          let x : p ≡ h = cc in
          subst (λ (x : ObjectHeader). Head v x) x (met-head v lt k o p w q)
      stepped lt o (done (step.On w)) q more =
          let z : tour_from g t v img ≡ tour_from g t w img = tour-step g t img v c lt o ∙ ap (step_tour g t img) q in
          same_head v w h z (ahead-on v lt k o w q h.location) (more w (omega (arith, step-nearer g t img v c lt w q)) (known_on v lt k o w q) (ap (λ (x : Tour). x.objects) (sym z) ∙ e))
      stepped lt o (refused m) q more = absurd (no_head h hs (ap (λ (x : Tour). x.objects) (sym (tour-step g t img v c lt o ∙ ap (step_tour g t img) q)) ∙ e))

      opened : v.place.location.block < g.count → (a : Answer Bool) → open_of g t v img ≡ a → Rest → Head v h
      opened lt (done true) q more = stepped lt q (step_of g v (next_of g v.place img)) refl more
      opened lt (done false) q more =
          let z = tour_shut g t img v lt q in
          same_head v (start_visit g (v.place.location.block + 1)) h z (next_ahead v h.location)
          (more (start_visit g (v.place.location.block + 1)) (omega (arith, next-nearer g t img v c lt)) (λ o. absurd (false≢true o)) (ap (λ (x : Tour). x.objects) (sym z) ∙ e))
      opened lt (refused m) q more = absurd (no_head h hs (ap (λ (x : Tour). x.objects) (sym (tour-refused g t img v lt m q)) ∙ e))

      go : (suc v.place.location.block ≤ g.count) ⊎ (g.count < suc v.place.location.block) → Rest → Head v h
      go (inl lt) more = opened lt (open_of g t v img) refl more
      go (inr ge) more = absurd (no_head h hs (ap (λ (x : Tour). x.objects) (sym (tour_end g t img v (omega arith))) ∙ e))

  pub head_of : (v : Visitor) → Known v → (h : ObjectHeader) (hs : List ObjectHeader) → (tour_from g t v img).objects ≡ h ∷ hs → Head v h
  head_of v k h hs e = head_in (suc (togo g v)) v (omega arith) k h hs e

  -- behind it the block is known, whether it is looked at again or not
  pub behind_known : (v : Visitor) (h : ObjectHeader) → Head v h → Known (behind_visit g h)
  behind_known v h k = λ _. k.kind

  pub open_again : (h : ObjectHeader) → is_of g t h.location.block img ≡ done true
      → tour_from g t (record { place = (behind_visit g h).place; opened = false }) img ≡ tour_from g t (behind_visit g h) img
  open_again h e = same_open g t img (behind_visit g h).place e

  -- every object of a tour stands where its header says, in a block of the type
  abbrev pub There : ObjectHeader → Type 0
  There h = (info_at g h.location img ≡ done (found h)) × (is_of g t h.location.block img ≡ done true)

  pub all_there : (hs : List ObjectHeader) (v : Visitor) → Known v → (tour_from g t v img).objects ≡ hs → All There hs
  all_there [] v k e = tt
  all_there (h ∷ hs) v k e =
      let a : Head v h = head_of v k h hs e in
      let r : h ∷ (tour_from g t (behind_visit g h) img).objects ≡ h ∷ hs = ap (λ (x : Tour). x.objects) (sym a.then) ∙ e in
      let q : (tour_from g t (behind_visit g h) img).objects ≡ hs = cc in
      ((a.info, a.kind), all_there hs (behind_visit g h) (behind_known v h a) q)

  -- ---- the order: each ends before those behind it start

  abbrev pub Before : ObjectHeader → ObjectHeader → Type 0
  Before a b = Ahead (behind_visit g a) b.location

  abbrev pub Sorted : List ObjectHeader → Type 0
  Sorted [] = Unit {0}
  Sorted (h ∷ hs) = All (Before h) hs × Sorted hs

  -- what is ahead of the visitor behind an object is ahead of the one before it
  from_behind : (v : Visitor) (h : ObjectHeader) → Ahead v h.location → (l : ObjectLocation) → Ahead (behind_visit g h) l → Ahead v l
  from_behind v h (inl p) l (inl q) = inl (omega arith)
  from_behind v h (inl p) l (inr q) = inl (omega (arith, q.0))
  from_behind v h (inr p) l (inl q) = inl (omega (arith, p.0))
  from_behind v h (inr p) l (inr q) = inr (p.0 ∙ q.0, omega (arith, p.1, q.1))

  all_from_behind : (v : Visitor) (h : ObjectHeader) → Ahead v h.location → (hs : List ObjectHeader) → All (Before h) hs → All (λ e. Ahead v e.location) hs
  all_from_behind v h a [] x = tt
  all_from_behind v h a (e ∷ hs) x = (from_behind v h a e.location x.0, all_from_behind v h a hs x.1)

  pub sorted : (hs : List ObjectHeader) (v : Visitor) → Known v → (tour_from g t v img).objects ≡ hs → All (λ e. Ahead v e.location) hs × Sorted hs
  sorted [] v k e = (tt, tt)
  sorted (h ∷ hs) v k e =
      let a : Head v h = head_of v k h hs e in
      let r : h ∷ (tour_from g t (behind_visit g h) img).objects ≡ h ∷ hs = ap (λ (x : Tour). x.objects) (sym a.then) ∙ e in
      let q : (tour_from g t (behind_visit g h) img).objects ≡ hs = cc in
      let s = sorted hs (behind_visit g h) (behind_known v h a) q in
      ((a.ahead, all_from_behind v h a.ahead hs s.0), (s.0, s.1))

  -- so none stands at the place of another
  pub not_before : (h : ObjectHeader) → Before h h → ⊥
  not_before h (inl x) = omega arith
  not_before h (inr x) = omega (arith, x.1, span_least g.granularity g.s h, header_some g.granularity g.s)
