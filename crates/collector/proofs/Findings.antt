-- The second and third pass: what a listing tells of a block, and what is done to it.
use mathlib.Core.Path.{◌≡◌, refl, sym, ap, ◌∙◌}
use mathlib.Core.Bool.{Bool, true, false, false≢true}
use mathlib.Core.List.{List}
use Prim.Native.Nat.{ℕ, ◌-◌, ◌≤◌, ◌<◌}
use lib.ListN.{length}
use borrow.Author.Tests.{eq-eqb, ne_eqb, le-leb, lt-leb}
use Rattle.medium.specs.declared.geometry.Geometry.{Geometry}
use Rattle.medium.specs.declared.fuse.Fuse.{Fuse}
use Rattle.std.specs.Prelude.{Ok, Err}
use Rattle.medium.specs.declared.fuse.Stopped.{Stopped}
use Rattle.medium.specs.Fuse.{Stored}
use Rattle.medium.specs.Refusal.{refusal_number}
use Rattle.medium.specs.Granularity.{pick, header}
use Rattle.medium.specs.Geometry.{check_of}
use Rattle.medium.specs.Operation.{Answer, done, refused, run, ended, ask, give, ◌>>=◌}
use Rattle.medium.specs.Beside.{Both, both, beside}
use Rattle.medium.proofs.Runs.{run_ask, run_ask_in}
use Rattle.medium.proofs.Beside.{image_on, image_stop, lifted}
use Rattle.objects.specs.declared.header.ObjectHeader.{ObjectHeader}
use Rattle.objects.specs.declared.iterator.ObjectIterator.{ObjectIterator}
use Rattle.objects.specs.Types.{rank_of}
use Rattle.objects.specs.Listing.{Met, object, free_place, block_end, next_of, Stop, end, free, Listing, stopped, listing, list_by, list_from}
use Rattle.blocks.specs.declared.header.BlockHeaderKind.{BlockHeaderKind}
use Rattle.blocks.specs.declared.header.BlockHeaderKind.TheVariants.{Empty, Unknown, Known}
use Rattle.blocks.specs.declared.record.BlockInfo.{BlockInfo}
use Rattle.blocks.specs.Format.{Planned, plan_at, format_block}
use Rattle.blocks.specs.Record.{erased_record}
use Rattle.blocks.specs.Scan.{unless_broken}
use Rattle.blocks.specs.BlockHeader.{is_known}
use Rattle.blocks.proofs.Scans.{Stops, list_by_lem}
use Rattle.collector.specs.Table.{put_record, storing}
use Rattle.collector.specs.Passes.{worn_by, worn_out, formatting, renewing, erasing_by, erasing, last_in, unfinished_in, deleted_in, erase_invalid_finished_block, erase_full_finished_block}
use Rattle.collector.proofs.Tables.{run_storing}

-- ---- listings, step by step

module _ (g : Geometry) (img : List ℕ) (c : check_of g (length img) ≡ 0) (i : ObjectIterator) where
  stepped : (p : Listing → Answer Bool) (m : Answer Met) → m ≡ next_of g i img → p (list_from g.size g i img) ≡ p (list_by m i (λ j. list_from g.size g j img))
  stepped p m e = ap p (list_by_lem g img c i m e)

  -- where it stops
  halted : (p : Listing → Answer Bool) (d : Bool) → ((s : Stop) → p (stopped i s) ≡ unless_broken s d) → (x : Met) → Stops x → done x ≡ next_of g i img → p (list_from g.size g i img) ≡ done d
  halted p d h (object u j) n e = absurd n
  halted p d h free_place n e = stepped p (done free_place) e ∙ h free
  halted p d h block_end n e = stepped p (done block_end) e ∙ h end

  -- and where bytes stand that are no header
  pub last_broken : (k : ℕ) → refused k ≡ next_of g i img → last_in (list_from g.size g i img) ≡ refused k
  last_broken k e = stepped (λ l. last_in l) (refused k) e

  pub unfinished_broken : (k : ℕ) → refused k ≡ next_of g i img → unfinished_in (list_from g.size g i img) ≡ refused k
  unfinished_broken k e = stepped (λ l. unfinished_in l) (refused k) e

  pub deleted_broken : (k : ℕ) → refused k ≡ next_of g i img → deleted_in (list_from g.size g i img) ≡ refused k
  deleted_broken k e = stepped (λ l. deleted_in l) (refused k) e

  pub last_stopped : (x : Met) → Stops x → done x ≡ next_of g i img → last_in (list_from g.size g i img) ≡ done true
  last_stopped x n e = halted (λ l. last_in l) true (λ s. refl) x n e

  pub unfinished_stopped : (x : Met) → Stops x → done x ≡ next_of g i img → unfinished_in (list_from g.size g i img) ≡ done false
  unfinished_stopped x n e = halted (λ l. unfinished_in l) false (λ s. refl) x n e

  pub deleted_stopped : (x : Met) → Stops x → done x ≡ next_of g i img → deleted_in (list_from g.size g i img) ≡ done true
  deleted_stopped x n e = halted (λ l. deleted_in l) true (λ s. refl) x n e

  pub last_not : (h : ObjectHeader) (j : ObjectIterator) → done (object h j) ≡ next_of g i img → last_in (list_from g.size g i img) ≡ refused 2
  last_not h j d = stepped (λ l. last_in l) (done (object h j)) d

  -- an object of rank r
  module _ (h : ObjectHeader) (j : ObjectIterator) (d : done (object h j) ≡ next_of g i img) (r : ℕ) (q : r ≡ rank_of h.state) where
    pub unfinished-here : r ≡ 1 → unfinished_in (list_from g.size g i img) ≡ last_in (list_from g.size g j img)
    unfinished-here z = stepped (λ l. unfinished_in l) (done (object h j)) d ∙ rw (← q, z)

    pub unfinished-not : (r ≡ 1 → ⊥) → (r ≡ 3 → ⊥) → unfinished_in (list_from g.size g i img) ≡ done false
    unfinished-not x y = stepped (λ l. unfinished_in l) (done (object h j)) d ∙ rw (← q, ne_eqb r 3 y, ne_eqb r 1 x)

    pub unfinished-more : r ≡ 3 → unfinished_in (list_from g.size g i img) ≡ unfinished_in (list_from g.size g j img)
    unfinished-more z = stepped (λ l. unfinished_in l) (done (object h j)) d ∙ rw (← q, z)

    pub deleted-not : (r ≡ 3 → ⊥) → deleted_in (list_from g.size g i img) ≡ done false
    deleted-not y = stepped (λ l. deleted_in l) (done (object h j)) d ∙ rw (← q, ne_eqb r 3 y)

    pub deleted-more : r ≡ 3 → deleted_in (list_from g.size g i img) ≡ deleted_in (list_from g.size g j img)
    deleted-more z = stepped (λ l. deleted_in l) (done (object h j)) d ∙ rw (← q, z)

-- ---- the last erase count

module _ (f : Fuse) (g : Geometry) (b : ℕ) (img : List ℕ) where
  worn_by_lem : (a : Answer Planned) → plan_at g b img ≡ a → run f (worn_out g b) img ≡ record { answer = worn_by a; fuse = f; state = img }
  unfolding worn_out
  worn_by_lem a e = run_ask f (λ i. worn_by (plan_at g b i)) img ∙ rw e

  pub worn_refused : (k : ℕ) → refused k ≡ plan_at g b img → run f (worn_out g b) img ≡ record { answer = refused k; fuse = f; state = img }
  worn_refused k e = worn_by_lem (refused k) (sym e)

  pub worn_planned : (p : Planned) → done p ≡ plan_at g b img → run f (worn_out g b) img ≡ record { answer = refused 9; fuse = f; state = img }
  worn_planned p e = worn_by_lem (done p) (sym e)

-- ---- a format and its record

module _ (f : Fuse) (g : Geometry) (b n : ℕ) (i i' t : List ℕ) (r : Stored) where
  pub renew_worn : n ≡ 4294967295 → ended r i' ≡ run f (worn_out g b) i → ended r (both i' t) ≡ run f (renewing g b n) (both i t)
  unfolding renewing
  renew_worn z q = rw (eq-eqb n 4294967295 z) (lifted f (worn_out g b) i i' t r tt q)

  module _ (z : n ≡ 4294967295 → ⊥) (q : ended r i' ≡ run f (format_block g b) i) where
    pub renew-stop : {e : Stopped} → r ≡ Err e → run f (renewing g b n) (both i t) ≡ record { answer = refused (refusal_number e.refusal); fuse = e.fuse; state = both i' t }
    unfolding renewing formatting
    renew-stop a = rw (ne_eqb n 4294967295 z) (image_stop f (format_block g b) (λ _. storing b (erased_record g.granularity n)) i i' t r tt f q a)

    pub renew_done : {f' : Fuse} → r ≡ Ok f' → run f (renewing g b n) (both i t) ≡ record { answer = done tt; fuse = f'; state = both i' (put_record t b (erased_record g.granularity n)) }
    unfolding renewing formatting
    renew_done {f'} a =
        rw (ne_eqb n 4294967295 z)
        (image_on f (format_block g b) (λ _. storing b (erased_record g.granularity n)) i i' t r tt f' q a
        ∙ run_storing f' b (erased_record g.granularity n) i' t)

-- by the kind in the record
pub erase_known : (f : Fuse) (g : Geometry) (b : ℕ) (r : BlockInfo) (s : Both) → is_known r.header.kind ≡ true → run f (erasing g b r true) s ≡ run f (renewing g b r.header.erase_count) s
unfolding erasing
erase_known f g b r s h = go r.header.kind h
  where
    go : (k : BlockHeaderKind) → is_known k ≡ true → run f (erasing_by g b r k) s ≡ run f (renewing g b r.header.erase_count) s
    go (Known t) h = refl
    go Empty h = absurd (false≢true h)
    go Unknown h = absurd (false≢true h)

-- 2 where the kind is not known
pub erase_not : (f : Fuse) (g : Geometry) (b : ℕ) (r : BlockInfo) (s : Both) → is_known r.header.kind ≡ false → run f (erasing g b r true) s ≡ record { answer = refused 2; fuse = f; state = s }
unfolding erasing
erase_not f g b r s h = go r.header.kind h
  where
    go : (k : BlockHeaderKind) → is_known k ≡ false → run f (erasing_by g b r k) s ≡ record { answer = refused 2; fuse = f; state = s }
    go Empty h = run_ask_in beside f (λ _. refused 2) s
    go Unknown h = run_ask_in beside f (λ _. refused 2) s
    go (Known t) h = absurd (false≢true (sym h))

-- a block that is not to be erased
pub erase_kept : (f : Fuse) (g : Geometry) (b : ℕ) (r : BlockInfo) (s : Both) → run f (erasing g b r false) s ≡ record { answer = done tt; fuse = f; state = s }
unfolding erasing
erase_kept f g b r s = run_ask_in beside f (λ _. done tt) s

-- ---- the two passes in one block

module _ (f : Fuse) (g : Geometry) (b : ℕ) (r : BlockInfo) (i t : List ℕ) where
  pub invalid_skip : r.allow_alloc ≡ true → run f (erase_invalid_finished_block g b r) (both i t) ≡ record { answer = done tt; fuse = f; state = both i t }
  unfolding erase_invalid_finished_block
  invalid_skip e = rw e (run_ask_in beside f (λ _. done tt) (both i t))

  pub invalid_look : r.allow_alloc ≡ false → run f (erase_invalid_finished_block g b r) (both i t) ≡ run {W = beside} f (ask (λ (s : Both). unfinished_in (listing g b s.image)) >>= λ d. erasing g b r d) (both i t)
  unfolding erase_invalid_finished_block
  invalid_look e = ap (λ (y : Bool). run {W = beside} f (pick y (give tt) (ask (λ (s : Both). unfinished_in (listing g b s.image)) >>= λ d. erasing g b r d)) (both i t)) e

  pub full_skip : g.size - header g.granularity g.s ≤ r.used_bytes → run f (erase_full_finished_block g b r) (both i t) ≡ record { answer = done tt; fuse = f; state = both i t }
  unfolding erase_full_finished_block
  full_skip e = rw (le-leb _ _ e) (run_ask_in beside f (λ _. done tt) (both i t))

  pub full_look : r.used_bytes < g.size - header g.granularity g.s → run f (erase_full_finished_block g b r) (both i t) ≡ run {W = beside} f (ask (λ (s : Both). deleted_in (listing g b s.image)) >>= λ d. erasing g b r d) (both i t)
  unfolding erase_full_finished_block
  full_look e = ap (λ (y : Bool). run {W = beside} f (pick y (give tt) (ask (λ (s : Both). deleted_in (listing g b s.image)) >>= λ d. erasing g b r d)) (both i t)) (lt-leb _ _ e)
