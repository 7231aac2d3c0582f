-- The order, a step at a time: what a tour is by the kind of its first block, by what stands there, and that each step leaves less to go.
use mathlib.Core.Path.{◌≡◌, refl, sym, ap, ◌∙◌}
use mathlib.Core.Bool.{Bool, true, false}
use mathlib.Core.List.{List, ◌∷◌}
use Prim.Native.Nat.{ℕ, zero, suc, ◌+◌, ◌-◌, ◌*◌, ◌≤◌, ◌<◌}
use native.Mathlib.Nat.{suc-mul}
use native.Mathlib.Omega.{arith}
use lib.ListN.{length}
use Rattle.std.specs.Prelude.{Some, None, Ok, Err}
use Rattle.medium.specs.declared.refusal.Refusal.{Refusal}
use Rattle.medium.specs.Refusal.{refusal_number}
use Rattle.medium.specs.declared.geometry.Geometry.{Geometry}
use Rattle.medium.specs.Granularity.{pick}
use Rattle.medium.specs.Geometry.{check_of}
use Rattle.medium.specs.Operation.{Answer, done, refused, and_then, or_refuse}
use Rattle.objects.specs.declared.header.ObjectHeader.{ObjectHeader}
use Rattle.objects.specs.declared.location.ObjectLocation.{ObjectLocation}
use Rattle.objects.specs.declared.iterator.ObjectIterator.{ObjectIterator}
use Rattle.objects.specs.Listing.{behind, Met, object, free_place, block_end, next_of, Listing, list_by, list_from}
use Rattle.blocks.specs.declared.header.BlockType.{BlockType}
use Rattle.storage.specs.declared.visit.Visitor.{Visitor}
use Rattle.storage.specs.declared.visit.Step.{Step}
use Rattle.storage.specs.declared.visit.Step.TheVariants as step
use Rattle.storage.specs.Order.{Tour, no_tour, broken_tour, first_then, tour_by, joined, is_finished, listed_tour, open_tour, open_visit, start_visit, open_of, tour_if, is_of, blocks_tour, tour_from, Visited, visit_answer, first_seen, next_visit, behind_visit, tour_of, Goes, Seen, step_of}
use Rattle.medium.proofs.Refusals.{not_done}
use Rattle.objects.proofs.Answers.{gate_on, gate_stop}
use Rattle.objects.proofs.Listing.{next_found, next_moves, header_some}
use Rattle.blocks.proofs.Scans.{list_by_lem}
use Rattle.shown.proofs.Agreeing.{found_at}

-- ---- tours that are joined

pub join_first : (h : ObjectHeader) (a b : Tour) → joined (first_then h a) b ≡ first_then h (joined a b)
join_first h a b = go a.end
  where
    go : (e : Answer (Unit {0})) → tour_by (h ∷ a.objects) e b ≡ first_then h (tour_by a.objects e b)
    go (done u) = refl
    go (refused n) = refl

-- the tour behind a step
abbrev pub step_tour : Geometry → BlockType → List ℕ → Answer Step → Tour
step_tour g t img (done (step.Object h v)) = first_then h (tour_from g t v img)
step_tour g t img (done (step.On v)) = tour_from g t v img
step_tour g t img (refused n) = broken_tour n

abbrev pub shut : Bool → ℕ
shut true = 0
shut false = 1

-- how far there is to go: by blocks, then by bytes, then whether the block is still to be opened
abbrev pub togo : Geometry → Visitor → ℕ
togo g v = (g.count - v.place.location.block) * (g.size + 2) + ((g.size - v.place.location.offset) + shut v.opened)

module _ (g : Geometry) (t : BlockType) (img : List ℕ) where
  abbrev next_block : Visitor → Visitor
  next_block v = start_visit g (v.place.location.block + 1)

  pub tour_end : (v : Visitor) → g.count ≤ v.place.location.block → tour_from g t v img ≡ no_tour
  unfolding tour_from blocks_tour
  tour_end v h = let n : g.count - v.place.location.block ≡ 0 = omega arith in rw n

  pub tour_on : (v : Visitor) → v.place.location.block < g.count → tour_from g t v img ≡ joined (tour_if (open_of g t v img) (open_tour g v.place img)) (tour_from g t (next_block v) img)
  unfolding tour_from blocks_tour
  tour_on v h = let n : g.count - v.place.location.block ≡ suc (g.count - (v.place.location.block + 1)) = omega arith in rw n

  module _ (v : Visitor) (h : v.place.location.block < g.count) where
    pub tour_shut : open_of g t v img ≡ done false → tour_from g t v img ≡ tour_from g t (next_block v) img
    tour_shut e = tour_on v h ∙ rw e

    pub tour-refused : (n : ℕ) → open_of g t v img ≡ refused n → tour_from g t v img ≡ broken_tour n
    tour-refused n e = tour_on v h ∙ rw e

    open-on : open_of g t v img ≡ done true → tour_from g t v img ≡ joined (open_tour g v.place img) (tour_from g t (next_block v) img)
    open-on e = tour_on v h ∙ rw e

  -- a block that is of the type may as well be opened again
  pub same_open : (i : ObjectIterator) → is_of g t i.location.block img ≡ done true → tour_from g t (record { place = i; opened = false }) img ≡ tour_from g t (open_visit i) img
  unfolding tour_from blocks_tour open_of
  same_open i e = go (g.count - i.location.block)
    where
      go : (n : ℕ) → blocks_tour n g t (record { place = i; opened = false }) img ≡ blocks_tour n g t (open_visit i) img
      go zero = refl
      go (suc n) = rw e

  -- ---- one step in an open block

  abbrev open_by : Answer Met → Tour
  open_by (done (object h j)) = pick (is_finished h) (first_then h (open_tour g j img)) (open_tour g j img)
  open_by (done free_place) = no_tour
  open_by (done block_end) = no_tour
  open_by (refused n) = broken_tour n

  open_by_lem : (i : ObjectIterator) → check_of g (length img) ≡ 0 → (m : Answer Met) → m ≡ next_of g i img → open_tour g i img ≡ open_by m
  unfolding open_tour
  open_by_lem i c m e = ap listed_tour (list_by_lem g img c i m e) ∙ go m
    where
      finished : (b : Bool) (h : ObjectHeader) (l : Listing) → record { objects = pick b (h ∷ (listed_tour l).objects) (listed_tour l).objects; end = (listed_tour l).end } ≡ pick b (first_then h (listed_tour l)) (listed_tour l)
      finished true h l = refl
      finished false h l = refl

      go : (m : Answer Met) → listed_tour (list_by m i (λ j. list_from g.size g j img)) ≡ open_by m
      go (done (object h j)) = finished (is_finished h) h (list_from g.size g j img)
      go (done free_place) = refl
      go (done block_end) = refl
      go (refused n) = refl

  module _ (v : Visitor) (c : check_of g (length img) ≡ 0) (h : v.place.location.block < g.count) where
    rest_of : (j : ObjectIterator) → j.location.block ≡ v.place.location.block → joined (open_tour g j img) (tour_from g t (next_block v) img) ≡ tour_from g t (open_visit j) img
    unfolding open_of
    rest_of j e = sym (open-on (open_visit j) (rw e h) refl ∙ rw e)

    pub tour-step : open_of g t v img ≡ done true → tour_from g t v img ≡ step_tour g t img (step_of g v (next_of g v.place img))
    unfolding step_of
    tour-step o = open-on v h o ∙ ap (λ (x : Tour). joined x (tour_from g t (next_block v) img)) (open_by_lem v.place c (next_of g v.place img) refl) ∙ go (next_of g v.place img) refl
      where
        met : (b : Bool) (o : ObjectHeader) (j : ObjectIterator) → j.location.block ≡ v.place.location.block
            → joined (pick b (first_then o (open_tour g j img)) (open_tour g j img)) (tour_from g t (next_block v) img) ≡ step_tour g t img (done (pick b (step.Object o (open_visit j)) (step.On (open_visit j))))
        met true o j e = join_first o (open_tour g j img) (tour_from g t (next_block v) img) ∙ ap (first_then o) (rest_of j e)
        met false o j e = rest_of j e

        go : (m : Answer Met) → next_of g v.place img ≡ m → joined (open_by m) (tour_from g t (next_block v) img) ≡ step_tour g t img (step_of g v m)
        go (done (object o j)) q = met (is_finished o) o j (next_moves g v.place img o j q).block
        go (done free_place) q = refl
        go (done block_end) q = refl
        go (refused n) q = refl

    -- it leaves less to go
    pub next-nearer : togo g (next_block v) < togo g v
    next-nearer =
        let n : g.count - v.place.location.block ≡ suc (g.count - (v.place.location.block + 1)) = omega arith in
        omega (arith, ap (λ (x : ℕ). x * (g.size + 2)) n, suc-mul (g.count - (v.place.location.block + 1)) (g.size + 2))

    pub step-nearer : (w : Visitor) → step_of g v (next_of g v.place img) ≡ done (step.On w) → togo g w < togo g v
    unfolding step_of
    step-nearer w e = go (next_of g v.place img) refl e
      where
        met : (b : Bool) (o : ObjectHeader) (j : ObjectIterator) → next_of g v.place img ≡ done (object o j) → ◌≡◌ {A = Answer Step} (done (pick b (step.Object o (open_visit j)) (step.On (open_visit j)))) (done (step.On w)) → togo g w < togo g v
        met true o j q r = let z : ◌≡◌ {A = ℕ} 0 1 = cc in absurd (omega arith)
        met false o j q r =
            let m = next_moves g v.place img o j q in
            let s : open_visit j ≡ w = cc in
            let b : (g.count - j.location.block) * (g.size + 2) ≡ (g.count - v.place.location.block) * (g.size + 2) = ap (λ (x : ℕ). (g.count - x) * (g.size + 2)) m.block in
            rw (← s) (omega (arith, b, m.forward, m.within, header_some g.granularity g.s))

        go : (m : Answer Met) → next_of g v.place img ≡ m → step_of g v m ≡ done (step.On w) → togo g w < togo g v
        go (done (object o j)) q r = met (is_finished o) o j q r
        go (done free_place) q r = let s : next_block v ≡ w = cc in rw (← s) next-nearer
        go (done block_end) q r = let s : next_block v ≡ w = cc in rw (← s) next-nearer
        go (refused n) q r = let z : ◌≡◌ {A = ℕ} 0 1 = cc in absurd (omega arith)

    -- and the visitor of an object stands behind it
    pub step-behind : (o : ObjectHeader) (w : Visitor) → step_of g v (next_of g v.place img) ≡ done (step.Object o w) → w ≡ behind_visit g o
    unfolding step_of
    step-behind o w e = go (next_of g v.place img) refl e
      where
        met : (b : Bool) (p : ObjectHeader) (j : ObjectIterator) → next_of g v.place img ≡ done (object p j) → ◌≡◌ {A = Answer Step} (done (pick b (step.Object p (open_visit j)) (step.On (open_visit j)))) (done (step.Object o w)) → w ≡ behind_visit g o
        met true p j q r =
            let a : p ≡ o = cc in
            let b : open_visit j ≡ w = cc in
            let f = next_found g v.place img p j q in
            sym b ∙ ap open_visit (f.then ∙ ap (λ (l : ObjectLocation). behind g (record { location = l }) p) (sym (found_at g v.place.location img p f.object))) ∙ ap (behind_visit g) a
        met false p j q r = let z : ◌≡◌ {A = ℕ} 0 1 = cc in absurd (omega arith)

        go : (m : Answer Met) → next_of g v.place img ≡ m → step_of g v m ≡ done (step.Object o w) → w ≡ behind_visit g o
        go (done (object p j)) q r = met (is_finished p) p j q r
        go (done free_place) q r = let z : ◌≡◌ {A = ℕ} 0 1 = cc in absurd (omega arith)
        go (done block_end) q r = let z : ◌≡◌ {A = ℕ} 0 1 = cc in absurd (omega arith)
        go (refused n) q r = let z : ◌≡◌ {A = ℕ} 0 1 = cc in absurd (omega arith)

  -- ---- what is answered: the first of the tour

  abbrev Behind : Visited → Type 0
  Behind (Ok (Some x)) = x.1 ≡ behind_visit g x.0
  Behind (Ok None) = Unit {0}
  Behind (Err e) = Unit {0}

  pub visit_answer_lem : (v : Visitor) (r : Visited) → check_of g (length img) ≡ 0 → tour_from g t v img ≡ tour_of g t img r → Behind r → (visit_answer r ≡ next_visit g t v img) × Goes g t v img r
  unfolding next_visit Goes
  visit_answer_lem v r c e b = (sym (gate_on (λ _. first_seen g (tour_from g t v img).objects (tour_from g t v img).end) (check_of g (length img)) (check_of g (length img)) refl c ∙ rw e (go r b)), λ _. e)
    where
      go : (r : Visited) → Behind r → first_seen g (tour_of g t img r).objects (tour_of g t img r).end ≡ visit_answer r
      go (Ok (Some x)) q = rw q
      go (Ok None) q = refl
      go (Err e) q = refl

  pub visit_stop : (v : Visitor) (x : Refusal) → refusal_number x ≡ check_of g (length img) → (visit_answer (Err x) ≡ next_visit g t v img) × Goes g t v img (Err x)
  unfolding next_visit Goes
  visit_stop v x e = (sym (gate_stop (λ _. first_seen g (tour_from g t v img).objects (tour_from g t v img).end) (refusal_number x) (check_of g (length img)) e (not_done x)), λ z. absurd (not_done x (e ∙ z)))

  -- an answer tells that geometry and room are right
  pub seen_check : (v : Visitor) (x : Seen) → done x ≡ next_visit g t v img → check_of g (length img) ≡ 0
  unfolding next_visit
  seen_check v x e = go (check_of g (length img)) e
    where
      go : (r : ℕ) → done x ≡ and_then (or_refuse r) (λ _. first_seen g (tour_from g t v img).objects (tour_from g t v img).end) → r ≡ 0
      go zero q = refl
      go (suc r) q = let z : ◌≡◌ {A = ℕ} 0 1 = cc in absurd (omega arith)
