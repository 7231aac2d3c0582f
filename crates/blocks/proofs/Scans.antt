-- A scan: the last written byte, and what each step of a listing leaves to be listed.
use mathlib.Core.Path.{◌≡◌, refl, ap, ◌∙◌}
use Prim.Native.Nat.{ℕ, zero, suc, ◌+◌, ◌-◌, ◌≤◌, ◌<◌}
use native.Mathlib.Nat.{add_assoc}
use native.Mathlib.Omega.{arith}
use mathlib.Core.Bool.{Bool, true, false, not}
use mathlib.Core.List.{List, [], ◌∷◌}
use lib.ListN.{length, get_or}
use lib.Dec.{leb, eqb}
use borrow.Author.Tests.{eq-eqb, ne_eqb}
use Rattle.std.specs.Prelude.{Result, Ok, Err}
use Rattle.medium.specs.declared.refusal.Refusal.{Refusal}
use Rattle.medium.specs.Refusal.{refusal_number, answer_of}
use Rattle.medium.specs.declared.granularity.Granularity.{Granularity}
use Rattle.medium.specs.declared.geometry.Geometry.{Geometry}
use Rattle.medium.specs.Granularity.{pick, width_of}
use Rattle.medium.specs.Geometry.{check_of}
use Rattle.medium.specs.Operation.{Answer, done, refused}
use Rattle.medium.specs.Medium.{readable, read_at, lent}
use Rattle.medium.proofs.Bytes.{fits_up}
use Rattle.medium.proofs.Places.{width_is}
use Rattle.medium.proofs.Checks.{fine_of_check}
use Rattle.medium.proofs.Ranges.{read_lent, read_refused}
use Rattle.objects.specs.declared.header.ObjectHeader.{ObjectHeader}
use Rattle.objects.specs.declared.iterator.ObjectIterator.{ObjectIterator}
use Rattle.objects.specs.declared.iterator.Next.{Next}
use Rattle.objects.specs.declared.iterator.Next.TheVariants as next
use Rattle.objects.specs.Info.{total_of, span_of}
use Rattle.objects.specs.Listing.{Met, object, free_place, block_end, next_answer, next_of, Listing, list_by, list_from}
use Rattle.objects.proofs.Answers.{or_on, then_on}
use Rattle.objects.proofs.Reading.{read_length}
use Rattle.objects.proofs.Listing.{unroll}
use Rattle.blocks.specs.declared.header.BlockHeaderKind.{BlockHeaderKind}
use Rattle.blocks.specs.declared.header.BlockHeader.{BlockHeader}
use Rattle.blocks.specs.Scan.{behind_written, written_in, record_of, scan_unknown, is_allocated, listed, is_freeable, freeable_in, freeable, scan_by, scan_block}
use Rattle.blocks.specs.BlockHeader.{block_header_at}

-- ---- the last written byte

pub written_none : (l : List ℕ) → ((k : ℕ) → k < length l → get_or l k 0 ≡ 255) → written_in l ≡ 0
written_none [] h = refl
written_none (b ∷ l) h = ap (λ (m : ℕ). behind_written b m) (written_none l (λ k q. h (suc k) (omega arith))) ∙ rw (eq-eqb b 255 (h 0 (omega arith)))

pub written_at : (l : List ℕ) (i : ℕ) → i < length l → (get_or l i 0 ≡ 255 → ⊥) → ((k : ℕ) → i + 1 ≤ k → k < length l → get_or l k 0 ≡ 255) → written_in l ≡ i + 1
written_at [] i h e f = absurd (omega arith)
written_at (b ∷ l) zero h e f = ap (λ (m : ℕ). behind_written b m) (written_none l (λ k q. f (suc k) (omega arith) (omega arith))) ∙ rw (ne_eqb b 255 e)
written_at (b ∷ l) (suc i) h e f =
    let m : i + 1 ≡ suc i = omega arith in
    let n : suc i + 1 ≡ suc (suc i) = omega arith in
    ap (λ (m : ℕ). behind_written b m) (written_at l i (omega arith) e (λ k p q. f (suc k) (omega arith) (omega arith))) ∙ rw (m, n)

-- the place is within the bytes
pub written_most : (l : List ℕ) → written_in l ≤ length l
written_most [] = omega arith
written_most (b ∷ l) = go b (written_in l) (written_most l)
  where
    first : (t : Bool) → pick {A = ℕ} t 0 1 ≤ suc (length l)
    first true = omega arith
    first false = omega arith

    go : (b m : ℕ) → m ≤ length l → behind_written b m ≤ suc (length l)
    go b zero h = first (eqb b 255)
    go b (suc m) h = omega arith

-- the scan of an Unknown block, from the bytes that were lent
module _ (g : Geometry) (b : ℕ) (h : BlockHeader) (img : List ℕ) (r : ℕ) (e : r ≡ readable g (length img) b 0 g.size) where
  pub unknown_refused : (r ≡ 0 → ⊥) → scan_unknown g b h img ≡ refused r
  unfolding scan_unknown
  unknown_refused z = rw (read_refused g b 0 g.size img r e z)

  module _ (bs : List ℕ) (m : ℕ) (q : bs ≡ lent (read_at g b 0 g.size img)) (w : m ≡ written_in bs) (z : r ≡ 0) where
    pub unknown-lent : scan_unknown g b h img ≡ done (record_of h m false)
    unfolding scan_unknown
    unknown-lent = rw (read_lent g b 0 g.size img r e bs q z, w)

    pub unknown-within : m ≤ g.size
    unknown-within = omega (arith, w, written_most bs, read_length g b 0 g.size img bs (read_lent g b 0 g.size img r e bs q z))

-- ---- where a listing stops: no object stands there

abbrev pub Stops : Met → Type 0
Stops (object o j) = ⊥
Stops free_place = Unit {0}
Stops block_end = Unit {0}

pub record Halt (n : Next) : Type 0 where
  pub what : Met
  pub is : next_answer (Ok n) ≡ done what
  pub stops : Stops what

pub no_object : (n : Next) → ((o : ObjectHeader) (j : ObjectIterator) → n ≡ next.Object o j → ⊥) → Halt n
no_object (next.Object o j) h = absurd (h o j refl)
no_object next.Free h = record { what = free_place; is = refl; stops = tt }
no_object next.End h = record { what = block_end; is = refl; stops = tt }

-- a refusal of it
pub next_refused : (r : Result Next Refusal) (k : ℕ) → ◌≡◌ {A = Answer Next} (refused k) (answer_of r) → ◌≡◌ {A = Answer Met} (refused k) (next_answer r)
next_refused (Ok n) k h = let z : ◌≡◌ {A = ℕ} 0 1 = cc in absurd (omega arith)
next_refused (Err e) k h = let q : k ≡ refusal_number e = cc in ap refused q

-- ---- listing, step by step

module _ (g : Geometry) (img : List ℕ) (c : check_of g (length img) ≡ 0) (i : ObjectIterator) where
  -- a listing by its first step
  pub list_by_lem : (m : Answer Met) → m ≡ next_of g i img → list_from g.size g i img ≡ list_by m i (λ j. list_from g.size g j img)
  list_by_lem m e =
      let f = fine_of_check g (length img) (check_of g (length img)) refl c in
      unroll g i img (or_on (check_of g (length img)) (check_of g (length img)) refl c) (omega (arith, f.sound.least)) ∙ rw (← e)

  module _ (h : BlockHeader) (a : Bool) where
    scan-by-step : (m : Answer Met) → m ≡ next_of g i img → listed h a (list_from g.size g i img) ≡ listed h a (list_by m i (λ j. list_from g.size g j img))
    scan-by-step m e = ap (λ (l : Listing). listed h a l) (list_by_lem m e)

    pub scan-more : (o : ObjectHeader) (j : ObjectIterator) → done (object o j) ≡ next_of g i img → listed h a (list_from g.size g i img) ≡ listed h (is_allocated o) (list_from g.size g j img)
    scan-more o j e = scan-by-step (done (object o j)) e

    pub scan_stopped : (x : Met) → Stops x → done x ≡ next_of g i img → listed h a (list_from g.size g i img) ≡ done (record_of h i.location.offset (not a))
    scan_stopped (object o j) n e = absurd n
    scan_stopped free_place n e = scan-by-step (done free_place) e
    scan_stopped block_end n e = scan-by-step (done block_end) e

    pub scan-broken : (k : ℕ) → refused k ≡ next_of g i img → listed h a (list_from g.size g i img) ≡ refused k
    scan-broken k e = scan-by-step (refused k) e

  module _ (m : ℕ) where
    more_by : (o : ObjectHeader) (l : Listing) (j : ObjectIterator) → freeable g m (list_by (done (object o j)) i (λ j. l)) ≡ freeable g (m + pick (is_freeable o) (total_of g.granularity g.s o) 0) l
    more_by o l j = rw (add_assoc m (pick (is_freeable o) (total_of g.granularity g.s o) 0) (freeable_in g.granularity g.s l.visits))

    sum-by-step : (n : Answer Met) → n ≡ next_of g i img → freeable g m (list_from g.size g i img) ≡ freeable g m (list_by n i (λ j. list_from g.size g j img))
    sum-by-step n e = ap (λ (l : Listing). freeable g m l) (list_by_lem n e)

    pub sum_more : (o : ObjectHeader) (j : ObjectIterator) → done (object o j) ≡ next_of g i img
        → freeable g m (list_from g.size g i img) ≡ freeable g (m + pick (is_freeable o) (total_of g.granularity g.s o) 0) (list_from g.size g j img)
    sum_more o j e = sum-by-step (done (object o j)) e ∙ more_by o (list_from g.size g j img) j

    pub sum_stopped : (x : Met) → Stops x → done x ≡ next_of g i img → freeable g m (list_from g.size g i img) ≡ pick (leb i.location.offset g.size) (done (g.size - i.location.offset + m)) (refused 9)
    sum_stopped (object o j) n e = absurd n
    sum_stopped free_place n e = let z : m + 0 ≡ m = omega arith in sum-by-step (done free_place) e ∙ rw z
    sum_stopped block_end n e = let z : m + 0 ≡ m = omega arith in sum-by-step (done block_end) e ∙ rw z

    pub sum-broken : (k : ℕ) → refused k ≡ next_of g i img → freeable g m (list_from g.size g i img) ≡ refused k
    sum-broken k e = sum-by-step (refused k) e

-- what an object frees is no more than the room that it takes
pub freed_most : (k : Granularity) (s : ℕ) (o : ObjectHeader) → pick (is_freeable o) (total_of k s o) 0 ≤ span_of k s o
freed_most k s o = go (is_freeable o)
  where
    go : (t : Bool) → pick t (total_of k s o) 0 ≤ span_of k s o
    go true = fits_up (width_of k) (width_is k).0 (total_of k s o)
    go false = omega arith

-- the scan of a block whose header was read, by its kind
pub scan_by_lem : (g : Geometry) (b : ℕ) (h : BlockHeader) (img : List ℕ) (k : BlockHeaderKind) → block_header_at g b img ≡ done h → h.kind ≡ k → scan_block g b img ≡ scan_by g b h img k
unfolding scan_block
scan_by_lem g b h img k e q = then_on (block_header_at g b img) (λ v. scan_by g b v img v.kind) h e ∙ ap (λ (x : BlockHeaderKind). scan_by g b h img x) q
