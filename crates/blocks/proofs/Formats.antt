-- A format: bytes that are FF, what a reachable block allows, the plan and its stores, and the loop over blocks.
use mathlib.Core.Path.{◌≡◌, refl, sym, ap, ◌∙◌}
use Prim.Native.Nat.{ℕ, suc, ◌+◌, ◌-◌, ◌*◌, ◌%◌, ◌≤◌, ◌<◌}
use native.Mathlib.Omega.{arith}
use mathlib.Core.Bool.{Bool, true, false, ◌&&◌}
use mathlib.Core.List.{List}
use lib.ListN.{length, take}
use lib.Dec.{leb, ltb, eqb}
use borrow.Author.Tests.{le-leb, lt-ltb, ltb-true}
use Rattle.medium.specs.declared.granularity.Granularity.{Granularity}
use Rattle.medium.specs.declared.granularity.Granularity.TheVariants.{Bit, Word1, Word4}
use Rattle.medium.specs.declared.geometry.Geometry.{Geometry}
use Rattle.medium.specs.declared.fuse.Fuse.{Fuse}
use Rattle.medium.specs.Granularity.{pick, longest_block_header, width_of, align_of, block_header}
use Rattle.medium.specs.Geometry.{geometry_ok, admit, check_of}
use Rattle.medium.specs.Units.{under, blank}
use Rattle.std.specs.Prelude.{Result, Ok, Err}
use Rattle.medium.specs.declared.refusal.Refusal.{Refusal}
use Rattle.medium.specs.Refusal.{refusal_number, answer_of}
use Rattle.blocks.specs.declared.format.Plan.{Plan}
use Rattle.blocks.specs.declared.format.Plan.TheVariants as plan
use Rattle.medium.specs.Operation.{Answer, done, refused, and_then, run, ask, ◌>>=◌}
use Rattle.medium.specs.Strict.{all_ff}
use Rattle.medium.specs.Medium.{readable, writable, erasable, read_at, lent}
use Rattle.medium.proofs.Runs.{run_ask, ask_on, ask_stop}
use Rattle.medium.proofs.Bytes.{length_erased}
use Rattle.medium.proofs.Checks.{Fine, sound_is, admitted, passed, admit_pass, picked}
use Rattle.medium.proofs.Ranges.{read_lent, read_refused}
use Rattle.medium.proofs.Places.{headed, even_align}
use Rattle.medium.proofs.Strict.{unmarked}
use Rattle.medium.proofs.Writes.{write_passed, erase_passed}
use Rattle.blocks.specs.declared.header.BlockType.TheVariants.{Undefined}
use Rattle.blocks.specs.declared.header.BlockHeaderKind.TheVariants.{Known}
use Rattle.blocks.specs.BlockHeader.{wide_bytes, header_bytes, write_header, header_in, block_header_at}
use Rattle.blocks.specs.Format.{data_length, data_empty_at, Planned, keep, label, renew, plan_of, plan_at, plan_answer, undefined, labelling, renewing, carry_out, format_block, format_from}
use Rattle.blocks.proofs.Headers.{readable_of}

-- ---- a block that can be reached can be read, every range of it

pub reach_reads : (g : Geometry) (room b o n : ℕ) → (geometry_ok g ≡ true → o + n ≤ g.size) → readable g room b o n ≡ erasable g room b
unfolding readable erasable admit
reach_reads g room b o n h = go (geometry_ok g) refl
  where
    in_block : (t : Bool) → o + n ≤ g.size → ◌≡◌ {A = ℕ} (pick (t && leb (o + n) g.size) 0 3) (pick t 0 3)
    in_block true k = rw (le-leb _ _ k)
    in_block false k = refl

    go : (t : Bool) → geometry_ok g ≡ t
        → ◌≡◌ {A = ℕ} (pick {A = ℕ} t (pick {A = ℕ} (eqb (g.size * g.count) room) (pick {A = ℕ} (ltb b g.count && leb (o + n) g.size) 0 3) 7) 6)
        (pick {A = ℕ} t (pick {A = ℕ} (eqb (g.size * g.count) room) (pick {A = ℕ} (ltb b g.count) 0 3) 7) 6)
    go true e = ap (λ (m : ℕ). pick (eqb (g.size * g.count) room) m 7) (in_block (ltb b g.count) (h e))
    go false e = refl

-- of a block that can be reached: the geometry is sound, and the block lies within the image
pub reach_fine : (g : Geometry) (room b r : ℕ) → r ≡ erasable g room b → r ≡ 0 → Fine g room
unfolding erasable
reach_fine g room b r e z = (admitted g room (pick (ltb b g.count) 0 3) (sym e ∙ z)).0

pub reach_checked : (g : Geometry) (room b : ℕ) → erasable g room b ≡ 0 → check_of g room ≡ 0
unfolding erasable
reach_checked g room b e = passed g room (pick (ltb b g.count) 0 3) e

pub reach_below : (g : Geometry) (room b r : ℕ) → r ≡ erasable g room b → r ≡ 0 → b < g.count
unfolding erasable
reach_below g room b r e z = ltb-true _ _ (picked (ltb b g.count) 0 2 (admitted g room (pick (ltb b g.count) 0 3) (sym e ∙ z)).1).0

-- whether the data is empty, from the bytes that were lent: n of them behind a header of h
module _ (g : Geometry) (b : ℕ) (img : List ℕ) (h n r : ℕ) (eh : h ≡ block_header g.granularity) (en : n ≡ data_length g) (e : r ≡ readable g (length img) b h n) where
  pub data_refused : (r ≡ 0 → ⊥) → data_empty_at g b img ≡ refused r
  unfolding data_empty_at
  data_refused z = rw (← en, ← eh, read_refused g b h n img r e z)

  pub data_lent : (bs : List ℕ) (t : Bool) → bs ≡ lent (read_at g b h n img) → t ≡ all_ff bs → r ≡ 0 → data_empty_at g b img ≡ done t
  unfolding data_empty_at
  data_lent bs t q w z = rw (← en, ← eh, read_lent g b h n img r e bs q z, w)

-- a plan that is refused
pub plan_refused : (p : Result Plan Refusal) (k : ℕ) → ◌≡◌ {A = Answer Plan} (refused k) (answer_of p) → ◌≡◌ {A = Answer Planned} (refused k) (plan_answer p)
plan_refused (Ok p) k h = let z : ◌≡◌ {A = ℕ} 0 1 = cc in absurd (omega arith)
plan_refused (Err e) k h = let q : k ≡ refusal_number e = cc in ap refused q

-- and one that is made
pub record Plans (a : Answer Planned) : Type 0 where
  pub what : Planned
  pub is : a ≡ done what

pub plan_made : (r : Result Plan Refusal) (p : Plan) → r ≡ Ok p → Plans (plan_answer r)
plan_made r plan.Keep e = record { what = keep; is = ap plan_answer e }
plan_made r plan.Label e = record { what = label; is = ap plan_answer e }
plan_made r (plan.Renew n) e = record { what = renew n; is = ap plan_answer e }

-- ---- the plan is carried out

module _ (f : Fuse) (g : Geometry) (b : ℕ) (img : List ℕ) where
  pub format_on : (p : Planned) → done p ≡ plan_at g b img → run f (format_block g b) img ≡ run f (carry_out g b p) img
  unfolding format_block
  format_on p e = ask_on f (λ i. plan_at g b i) (λ q. carry_out g b q) img (sym e)

  pub format_stop : (k : ℕ) → refused k ≡ plan_at g b img → run f (format_block g b) img ≡ record { answer = refused k; fuse = f; state = img }
  unfolding format_block
  format_stop k e = ask_stop f (λ i. plan_at g b i) (λ q. carry_out g b q) img (sym e)

-- ---- block by block

pub format_step : (n b : ℕ) (g : Geometry) (f : Fuse) (img : List ℕ) → b < n → run f (format_from (n - b) g b) img ≡ run f (format_block g b >>= λ _. format_from (n - (b + 1)) g (b + 1)) img
unfolding format_from
format_step n b g f img h = let e : n - b ≡ suc (n - (b + 1)) = omega arith in rw e

pub format_end : (n b : ℕ) (g : Geometry) (f : Fuse) (img : List ℕ) → n ≤ b → run f (format_from (n - b) g b) img ≡ record { answer = done tt; fuse = f; state = img }
unfolding format_from
format_end n b g f img h = let e : n - b ≡ 0 = omega arith in rw e (run_ask f (λ _. done tt) img)

-- ---- with power a format is refused by its plan alone

-- a header is whole units, and every block has room for it
pub length_header : (g : Geometry) (n : ℕ) → length (header_bytes g (undefined n)) ≡ block_header g.granularity
unfolding header_bytes
length_header g n = go g.granularity
  where
    go : (k : Granularity) → length (take (block_header k) (wide_bytes g (Known Undefined) n)) ≡ block_header k
    go Bit = refl
    go Word1 = refl
    go Word4 = refl

-- so there is room for it
pub label_writes : (g : Geometry) (b n room : ℕ) → erasable g room b ≡ 0 → writable g room b 0 (length (header_bytes g (undefined n))) ≡ 0
unfolding writable
label_writes g b n room e =
    let k = g.granularity in
    let f = reach_fine g room b (erasable g room b) refl e in
    let l = length_header g n in
    let a : align_of (width_of k) (block_header k) ≡ block_header k = even_align k (block_header k) (headed k).block_even in
    let h : 0 + block_header k ≤ g.size = omega (arith, f.sound.least, (headed k).block_short) in
    let z : 0 % width_of k ≡ 0 = zero-mod k in
    admit_pass g room _ (check_of g room) refl (reach_checked g room b e)
    ∙ rw (lt-ltb _ _ (reach_below g room b (erasable g room b) refl e), z, l, a, le-leb _ _ h)
  where
    zero-mod : (k : Granularity) → 0 % width_of k ≡ 0
    zero-mod Bit = omega arith
    zero-mod Word1 = omega arith
    zero-mod Word4 = omega arith

label_done : (g : Geometry) (b n : ℕ) (img : List ℕ) → (g.strict ≡ 1 → ⊥) → erasable g (length img) b ≡ 0 → (labelling g b n img).answer ≡ done tt
unfolding labelling write_header
label_done g b n img off e = rw (write_passed g b 0 (header_bytes g (undefined n)) img (unmarked g b 0 (header_bytes g (undefined n)) img off ∙ label_writes g b n (length img) e))

renew_done : (g : Geometry) (b n : ℕ) (img : List ℕ) → (g.strict ≡ 1 → ⊥) → erasable g (length img) b ≡ 0 → (renewing g b n img).answer ≡ done tt
unfolding renewing ◌>>=◌
renew_done g b n img off e =
    let l : length (under (b * g.size) (blank g.size) img) ≡ length img = length_erased (b * g.size) g.size img in
    rw (erase_passed g b img e) (label_done g b n (under (b * g.size) (blank g.size) img) off (rw l e))

-- the answer with power is that of the plan's stores
format_answer : (g : Geometry) (b : ℕ) (img : List ℕ) (p : Planned) → plan_at g b img ≡ done p → (format_block g b img).answer ≡ (carry_out g b p img).answer
unfolding format_block ◌>>=◌ ask
format_answer g b img p e = rw e

-- where there is a plan, the block can be reached
pub planned : (g : Geometry) (b : ℕ) (img : List ℕ) (p : Planned) → plan_at g b img ≡ done p → erasable g (length img) b ≡ 0
unfolding plan_at block_header_at
planned g b img p e = go (read_at g b 0 longest_block_header img) refl e
  where
    go : (a : Answer (List ℕ)) → read_at g b 0 longest_block_header img ≡ a
        → and_then (and_then a (λ bs. done (header_in g bs))) (λ h. plan_of h.kind h.erase_count (data_empty_at g b img)) ≡ done p
        → erasable g (length img) b ≡ 0
    go (done bs) q h = sym (reach_reads g (length img) b 0 longest_block_header (λ s. omega (arith, (sound_is g s).least))) ∙ readable_of g b 0 longest_block_header img bs q
    go (refused k) q h = let z : ◌≡◌ {A = ℕ} 0 1 = cc in absurd (omega arith)

pub format_refused : (g : Geometry) (b : ℕ) (img : List ℕ) (k : ℕ) → plan_at g b img ≡ refused k → (format_block g b img).answer ≡ refused k
unfolding format_block ◌>>=◌ ask
format_refused g b img k e = rw e

-- without the mark a format that is planned is done
pub format_done : (g : Geometry) (b : ℕ) (img : List ℕ) (p : Planned) → (g.strict ≡ 1 → ⊥) → plan_at g b img ≡ done p → (format_block g b img).answer ≡ done tt
unfolding ask
format_done g b img p off e = format_answer g b img p e ∙ go p (planned g b img p e)
  where
    go : (p : Planned) → erasable g (length img) b ≡ 0 → (carry_out g b p img).answer ≡ done tt
    go keep r = refl
    go label r = label_done g b 0 img off r
    go (renew n) r = renew_done g b n img off r
