-- A lookup block by block: blocks in which nothing matches are passed, and the first that has a match, or a refusal, decides.
use mathlib.Core.Path.{◌≡◌, refl, sym, ap, ◌∙◌}
use mathlib.Core.Bool.{true, false}
use mathlib.Core.List.{List, [], ◌∷◌, ◌++◌, append_assoc}
use Prim.Native.Nat.{ℕ, zero, suc, ◌+◌, ◌-◌, ◌≤◌, ◌<◌}
use native.Mathlib.Nat.{sub-zero}
use native.Mathlib.Omega.{arith}
use lib.ListN.{length}
use Rattle.medium.specs.declared.geometry.Geometry.{Geometry}
use Rattle.medium.specs.Granularity.{longest_block_header}
use Rattle.medium.specs.Geometry.{check_of}
use Rattle.medium.specs.Operation.{Answer, done, refused}
use Rattle.objects.specs.declared.location.ObjectLocation.{ObjectLocation}
use Rattle.objects.specs.declared.header.ObjectHeader.{ObjectHeader}
use Rattle.objects.specs.Listing.{start_of, listing}
use Rattle.blocks.specs.declared.header.BlockType.TheVariants.{Metadata}
use Rattle.blocks.specs.BlockHeader.{block_header_at}
use Rattle.storage.specs.Order.{Tour, tour_by, joined, listed_tour, open_tour, is_of, open_of, tour_if, blocks_tour, tour_from, start_visit}
use Rattle.storage.specs.Lookup.{is_named, first_named, lookup}
use Rattle.storage.specs.Laws.{All}
use Rattle.medium.proofs.Checks.{fine_of_check}
use Rattle.objects.proofs.Answers.{gate_on}
use Rattle.shown.proofs.Reading.{read_yes}
use Rattle.storage.proofs.Finding.{joins}

module _ (g : Geometry) (path : List ℕ) (hash : ℕ) (x : List ℕ) where
  abbrev pub NotIt : List ObjectHeader → Type 0
  NotIt hs = All (λ h. is_named g path hash h x ≡ done false) hs

  -- the tour of one block
  abbrev pub block_tour : ℕ → Tour
  block_tour b = tour_if (is_of g Metadata b x) (open_tour g (start_of g b) x)

  -- the lookup of n blocks from b on
  abbrev look : ℕ → ℕ → Answer ObjectLocation
  look n b = first_named (λ h. is_named g path hash h x) (blocks_tour n g Metadata (start_visit g b) x).objects (blocks_tour n g Metadata (start_visit g b) x).end

  one_more : (n b : ℕ) → blocks_tour (suc n) g Metadata (start_visit g b) x ≡ joined (block_tour b) (blocks_tour n g Metadata (start_visit g (b + 1)) x)
  unfolding blocks_tour open_of
  one_more n b = refl

  look_more : (n b : ℕ) → look (suc n) b
      ≡ first_named (λ h. is_named g path hash h x) (joined (block_tour b) (blocks_tour n g Metadata (start_visit g (b + 1)) x)).objects (joined (block_tour b) (blocks_tour n g Metadata (start_visit g (b + 1)) x)).end
  look_more n b = ap (λ (t : Tour). first_named (λ h. is_named g path hash h x) t.objects t.end) (one_more n b)

  passed_over : (hs js : List ObjectHeader) (e : Answer (Unit {0})) → NotIt hs → first_named (λ h. is_named g path hash h x) (hs ++ js) e ≡ first_named (λ h. is_named g path hash h x) js e
  passed_over [] js e a = refl
  passed_over (h ∷ hs) js e a = rw a.0 (passed_over hs js e a.1)

  all_refused : (hs : List ObjectHeader) (k : ℕ) → NotIt hs → first_named (λ h. is_named g path hash h x) hs (refused k) ≡ refused k
  all_refused [] k a = refl
  all_refused (h ∷ hs) k a = rw a.0 (all_refused hs k a.1)

  -- ---- one block

  -- nothing in it matches, and it ends
  pub record Quiet (b : ℕ) : Type 0 where
    pub none : NotIt (block_tour b).objects
    pub ends : (block_tour b).end ≡ done tt

  pass : (n b : ℕ) → Quiet b → look (suc n) b ≡ look n (b + 1)
  pass n b q = look_more n b ∙ go (block_tour b).end q.ends
    where
      go : (e : Answer (Unit {0})) → e ≡ done tt
          → first_named (λ h. is_named g path hash h x) (tour_by (block_tour b).objects e (blocks_tour n g Metadata (start_visit g (b + 1)) x)).objects (tour_by (block_tour b).objects e (blocks_tour n g Metadata (start_visit g (b + 1)) x)).end
          ≡ look n (b + 1)
      go (done u) z = passed_over (block_tour b).objects (blocks_tour n g Metadata (start_visit g (b + 1)) x).objects (blocks_tour n g Metadata (start_visit g (b + 1)) x).end q.none
      go (refused k) z = let y : ◌≡◌ {A = ℕ} 0 1 = cc in absurd (omega arith)

  hit : (n b : ℕ) (before : List ObjectHeader) (o : ObjectHeader) (after : List ObjectHeader) → (block_tour b).objects ≡ before ++ o ∷ after → NotIt before → is_named g path hash o x ≡ done true
      → look (suc n) b ≡ done o.location
  hit n b before o after e a y = look_more n b ∙ go (block_tour b).end
    where
      go : (z : Answer (Unit {0}))
          → first_named (λ h. is_named g path hash h x) (tour_by (block_tour b).objects z (blocks_tour n g Metadata (start_visit g (b + 1)) x)).objects (tour_by (block_tour b).objects z (blocks_tour n g Metadata (start_visit g (b + 1)) x)).end
          ≡ done o.location
      go (done u) =
          ap (λ (hs : List ObjectHeader). first_named (λ h. is_named g path hash h x) hs (blocks_tour n g Metadata (start_visit g (b + 1)) x).end)
          (ap (λ (hs : List ObjectHeader). hs ++ (blocks_tour n g Metadata (start_visit g (b + 1)) x).objects) e ∙ append_assoc before (o ∷ after) (blocks_tour n g Metadata (start_visit g (b + 1)) x).objects)
          ∙ joins (λ h. is_named g path hash h x) before o (after ++ (blocks_tour n g Metadata (start_visit g (b + 1)) x).objects) (blocks_tour n g Metadata (start_visit g (b + 1)) x).end a y
      go (refused k) =
          ap (λ (hs : List ObjectHeader). first_named (λ h. is_named g path hash h x) hs (refused k)) e ∙ joins (λ h. is_named g path hash h x) before o after (refused k) a y

  stop : (n b k : ℕ) → NotIt (block_tour b).objects → (block_tour b).end ≡ refused k → look (suc n) b ≡ refused k
  stop n b k a e = look_more n b ∙ go (block_tour b).end e
    where
      go : (z : Answer (Unit {0})) → z ≡ refused k
          → first_named (λ h. is_named g path hash h x) (tour_by (block_tour b).objects z (blocks_tour n g Metadata (start_visit g (b + 1)) x)).objects (tour_by (block_tour b).objects z (blocks_tour n g Metadata (start_visit g (b + 1)) x)).end
          ≡ refused k
      go (done u) q = let y : ◌≡◌ {A = ℕ} 0 1 = cc in absurd (omega arith)
      go (refused m) q = let y : m ≡ k = cc in all_refused (block_tour b).objects m a ∙ ap refused y

  -- ---- all of them

  module _ (fine : check_of g (length x) ≡ 0) where
    reach : (c : ℕ) → c ≤ g.count → ((b : ℕ) → b < c → Quiet b) → look g.count 0 ≡ look (g.count - c) c
    reach zero h q = ap (λ (n : ℕ). look n 0) (sym (sub-zero g.count))
    reach (suc c) h q =
        let z : g.count - c ≡ suc (g.count - suc c) = omega arith in
        let y : c + 1 ≡ suc c = omega arith in
        reach c (omega arith) (λ b k. q b (omega arith)) ∙ ap (λ (n : ℕ). look n c) z ∙ pass (g.count - suc c) c (q c (omega arith)) ∙ ap (look (g.count - suc c)) y

    look_is : lookup g path hash x ≡ look g.count 0
    unfolding lookup tour_from
    look_is = gate_on _ (check_of g (length x)) (check_of g (length x)) refl fine ∙ ap (λ (n : ℕ). look n 0) (sub-zero g.count)

    module _ (c : ℕ) (lt : c < g.count) (q : (b : ℕ) → b < c → Quiet b) where
      last-blocks : g.count - c ≡ suc (g.count - suc c)
      last-blocks = omega arith

      pub found_in : (before : List ObjectHeader) (o : ObjectHeader) (after : List ObjectHeader) → (block_tour c).objects ≡ before ++ o ∷ after → NotIt before → is_named g path hash o x ≡ done true
          → lookup g path hash x ≡ done o.location
      found_in before o after e a y = look_is ∙ reach c (omega arith) q ∙ ap (λ (n : ℕ). look n c) last-blocks ∙ hit (g.count - suc c) c before o after e a y

      pub refused-in : (k : ℕ) → NotIt (block_tour c).objects → (block_tour c).end ≡ refused k → lookup g path hash x ≡ refused k
      refused-in k a e = look_is ∙ reach c (omega arith) q ∙ ap (λ (n : ℕ). look n c) last-blocks ∙ stop (g.count - suc c) c k a e

    -- ---- a block by its listing

    pub listed_block : (b : ℕ) → is_of g Metadata b x ≡ done true → block_tour b ≡ listed_tour (listing g b x)
    unfolding open_tour listing
    listed_block b e = rw e

    pub other-kind : (b : ℕ) → is_of g Metadata b x ≡ done false → Quiet b
    other-kind b e = record { none = rw e tt; ends = rw e refl }

    -- a block that there is has a kind
    pub has-kind : (b k : ℕ) → b < g.count → is_of g Metadata b x ≡ refused k → ⊥
    unfolding is_of block_header_at
    has-kind b k h e =
        let f = fine_of_check g (length x) (check_of g (length x)) refl fine in
        let r = read_yes g b 0 longest_block_header x fine h (omega (arith, f.sound.least)) in
        let z : ◌≡◌ {A = ℕ} 0 1 = cc in absurd (omega arith)
