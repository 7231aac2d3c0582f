-- A block's life at its free end is done, with the strict mark as without it: every store meets erased units.
use mathlib.Core.Path.{◌≡◌, refl, sym, ap, ◌∙◌}
use mathlib.Core.Logic.{inl, inr}
use mathlib.Core.Bool.{Bool, true, false}
use mathlib.Core.List.{List, [], ◌∷◌, ◌++◌, append-nil}
use Prim.Native.Nat.{ℕ, ◌+◌, ◌%◌, ◌≤◌, ◌<◌}
use native.Mathlib.Omega.{arith}
use lib.ListN.{length, get_or}
use lib.Dec.{leb}
use Rattle.medium.specs.declared.granularity.Granularity.{Granularity}
use Rattle.medium.specs.declared.geometry.Geometry.{Geometry}
use Rattle.medium.specs.declared.fuse.Fuse.{Fuse}
use Rattle.medium.specs.declared.fuse.Fuse.TheVariants.{Absent, Units}
use Rattle.medium.specs.All.{All}
use Rattle.medium.specs.Granularity.{width_of, finish_at, delete_at, size_at, header, block_header, type_at}
use Rattle.medium.specs.Geometry.{check_of, address}
use Rattle.medium.specs.Units.{FlashUnit, units_of}
use Rattle.medium.specs.Operation.{flash, apply, cost, Answer, done, refused, Run, Op, ◌>>◌, give, cut_by, run}
use Rattle.medium.specs.Medium.{units_at, write}
use Rattle.medium.proofs.Runs.{apply-append}
use Rattle.medium.proofs.Bytes.{Misses, All-append, frame, store_miss, length-apply}
use Rattle.medium.proofs.Places.{Laid, laid, headed, even_add, align_even}
use Rattle.medium.proofs.Checks.{Fine, within, fine_of_check}
use Rattle.medium.proofs.Strict.{free_store}
use Rattle.medium.proofs.Traced.{ran, bind_ran, ask_ran, store_ran, tested, asked}
use Rattle.medium.proofs.Writes.{write_ran}
use Rattle.objects.specs.declared.types.ObjectType.{ObjectType}
use Rattle.objects.specs.declared.state.ObjectDataState.TheVariants as mark
use Rattle.objects.specs.declared.state.ObjectState.TheVariants.{Deleted}
use Rattle.objects.specs.declared.state.CompositeObjectState.TheVariants.{Allocated}
use Rattle.objects.specs.declared.header.ObjectHeader.{ObjectHeader}
use Rattle.objects.specs.Header.{header_at, marking, set_state, update_state}
use Rattle.writer.specs.Writer.{write_to}
use Rattle.blocks.specs.declared.header.BlockType.{BlockType}
use Rattle.blocks.specs.BlockHeader.{type_byte}
use Rattle.blocks.specs.Format.{format_block, set_block_type}
use Rattle.blocks.proofs.Formats.{reach_checked, reach_below, planned}
use Rattle.blocks.proofs.Begun.{Begun, Made, format_made}
use Rattle.fresh.specs.Units.{span, Clear, type_units, pay_units, size_units, mark_units, before, new_units, delete_units}
use Rattle.fresh.specs.Fresh.{new_header, marks_after, Room, Fresh}
use Rattle.fresh.proofs.Places.{marks_apart}
use Rattle.fresh.proofs.Written.{type_clear, pay_clear, size_clear, mark_clear, delete_clear, new_clear, cut_all}
use Rattle.fresh.proofs.Fresh.{fresh}
use Rattle.fresh.proofs.Writes.{stores}
use Rattle.strict.specs.Life.{Entry, at, lived, life, end_of, Begins, Life}

-- ---- where the objects lie

-- behind them all is behind the first
end_least : (g : Geometry) (es : List Entry) (o : ℕ) → o ≤ end_of g o es
end_least g [] o = omega arith
end_least g (e ∷ es) o = omega (arith, end_least g es (o + span g.granularity g.s (length e.payload)))

-- the block b of an image is erased from offset o on
abbrev Free : Geometry → ℕ → ℕ → List ℕ → Type 0
Free g b o img = (x : ℕ) → o ≤ x → x < g.size → get_or img (address g b x) 0 ≡ 255

-- what is done there, and that it changes nothing outside
record Living (g : Geometry) (b o : ℕ) (es : List Entry) (img : List ℕ) : Type 0 where
  units : List FlashUnit
  stored : lived g b o es img ≡ ran units tt
  kept : (j : ℕ) → Clear (address g b o) (address g b (end_of g o es)) j → get_or (apply units img) j 0 ≡ get_or img j 0

-- ---- one object: written, and deleted where its bytes still stand

module _ (g : Geometry) (b o : ℕ) (t : ObjectType) (pay img : List ℕ) (v : Room g (at b o) pay img) (even : o % width_of g.granularity ≡ 0) where
  abbrev gr : Granularity
  gr = g.granularity

  -- its first byte, and what it takes
  abbrev q : ℕ
  q = address g b o

  abbrev n : ℕ
  n = span g.granularity g.s (length pay)

  abbrev us : List FlashUnit
  us = new_units g.granularity g.s t pay (address g b o)

  fine : Fine g (length img)
  fine = fine_of_check g (length img) (check_of g (length img)) refl v.fine

  l : Laid g.granularity g.s (length pay)
  l = laid gr g.s (length pay) fine.sound.s_most

  ends : q + n ≤ length img
  ends = within b o n g.size g.count (length img) v.block v.in_block fine.whole

  -- outside its span nothing changes
  new_kept : (j : ℕ) → Clear q (q + n) j → get_or (apply us img) j 0 ≡ get_or img j 0
  new_kept j c = frame j 0 us img (new_clear gr g.s t q pay fine.sound.s_most j c)

  -- under the mark the delete mark has a unit of its own, which is still FF
  mark_free : g.strict ≡ 1 → (i : ℕ) → i < width_of gr → get_or (apply us img) (q + delete_at gr + i) 0 ≡ 255
  mark_free on i h =
      let j : ℕ = q + delete_at gr + i in
      let apart : finish_at gr + width_of gr ≤ delete_at gr = marks_apart gr (omega (arith, on, fine.sound.mark)) in
      let e : q + delete_at gr + i ≡ q + (delete_at gr + i) = omega arith in
      frame j 0 us img
      (All-append (Misses j) (before gr g.s t pay q) (mark_units gr q)
      (All-append (Misses j) (type_units gr t q) (pay_units gr g.s pay q ++ size_units gr g.s (length pay) q)
      (type_clear gr g.s t q pay l j q (q + width_of gr) (omega arith) (omega arith) (inr (omega (arith, l))))
      (All-append (Misses j) (pay_units gr g.s pay q) (size_units gr g.s (length pay) q)
      (pay_clear gr g.s t q pay l j (q + header gr g.s) (q + n) (omega arith) (omega arith) (inl (omega (arith, l))))
      (size_clear gr g.s t q pay l j (q + size_at gr) (q + header gr g.s) (omega arith) (omega arith) (inl (omega (arith, l))))))
      (mark_clear gr g.s t q pay l j (q + finish_at gr) (q + finish_at gr + width_of gr) (omega arith) (omega arith) (inr (omega arith))))
      ∙ ap (λ (x : ℕ). get_or img x 0) e ∙ v.erased (delete_at gr + i) (omega (arith, l))

  -- an image that has its bytes
  module _ (m : List ℕ) (long : length m ≡ length img) (same : (j : ℕ) → q ≤ j → j < q + n → get_or m j 0 ≡ get_or (apply us img) j 0) where
    header_back : header_at g (at b o) m ≡ done (new_header (at b o) t pay)
    unfolding Fresh
    header_back =
        ((fresh g (at b o) t pay img v).stays (marks_after g pay + 1) (omega arith) m long
        (λ j x y. same j x y ∙ ap (λ (vs : List FlashUnit). get_or (apply vs img) j 0) (sym (cut_all gr g.s t q pay (marks_after g pay + 1) (omega arith))))).header

    abbrev gone : ObjectHeader
    gone = record { state = Allocated t mark.Deleted; size = length pay; location = at b o }

    delete_ran : update_state g (new_header (at b o) t pay) Deleted m ≡ ran (delete_units gr q) gone
    unfolding update_state set_state marking
    delete_ran =
        let f : check_of g (length m) ≡ 0 = ap (check_of g) long ∙ v.fine in
        let a : address g b (o + delete_at gr) ≡ q + delete_at gr = omega arith in
        tested (λ i. check_of g (length i)) (marking g (new_header (at b o) t pay) t mark.Deleted) m (delete_units gr q) gone f
        (store_ran (write g b (o + delete_at gr) (0 ∷ [])) m (delete_units gr q) gone
        (write_ran g b (o + delete_at gr) (0 ∷ []) m f v.block (even_add gr o (delete_at gr) even l.delete_even) (omega (arith, l, v.in_block))
        (λ on. free_store (width_of gr) (address g b (o + delete_at gr)) (0 ∷ []) m
        (λ i h. ap (λ (x : ℕ). get_or m (x + i) 0) a ∙ same (q + delete_at gr + i) (omega arith) (omega (arith, l)) ∙ mark_free on i (omega (arith, l)))
        (omega (arith, l, long, ends)))
        ∙ ap (λ (x : ℕ). ran (units_of (width_of gr) x (0 ∷ [])) tt) a))

-- ---- all of them

later : (lo more hi j : ℕ) → lo ≤ more → Clear lo hi j → Clear more hi j
later lo more hi j h (inl c) = inl (omega arith)
later lo more hi j h (inr c) = inr c

sooner : (lo hi less j : ℕ) → less ≤ hi → Clear lo hi j → Clear lo less j
sooner lo hi less j h (inl c) = inl c
sooner lo hi less j h (inr c) = inr (omega arith)

-- a step whose value is dropped
dropped : {A : Type 0} (o : Op A) (m : List ℕ) (us : List FlashUnit) (x : A) → o m ≡ ran us x → (o >> give {A = Unit {0}} tt) m ≡ ran {A = Unit {0}} us tt
dropped o m us x e =
    bind_ran {B = Unit {0}} o (λ _. give tt) m us [] x tt e (ask_ran {A = Unit {0}} (λ _. done tt) (apply us m) tt refl) ∙ ap (λ (l : List FlashUnit). ran {A = Unit {0}} l tt) (append-nil us)

-- one object around the others
around : (g : Geometry) (b o : ℕ) (e : Entry) (es : List Entry) (img : List ℕ) → Room g (at b o) e.payload img → o % width_of g.granularity ≡ 0
    → Living g b (o + span g.granularity g.s (length e.payload)) es (apply (new_units g.granularity g.s e.kind e.payload (address g b o)) img) → Living g b o (e ∷ es) img
unfolding lived
around g b o e es img v even x =
    let n : ℕ = span g.granularity g.s (length e.payload) in
    let us : List FlashUnit = new_units g.granularity g.s e.kind e.payload (address g b o) in
    let ds : List FlashUnit = delete_units g.granularity (address g b o) in
    let m : List ℕ = apply us img in
    let long : length (apply x.units m) ≡ length img = length-apply x.units m ∙ length-apply us img in
    let same : (j : ℕ) → address g b o ≤ j → j < address g b o + n → get_or (apply x.units m) j 0 ≡ get_or m j 0 = λ j c d. x.kept j (inl (omega arith)) in
    let least : o + n ≤ end_of g (o + n) es = end_least g es (o + n) in
    record {
      units = us ++ (x.units ++ ds);
      stored =
          bind_ran (write_to g (at b o) e.kind e.payload) _ img us (x.units ++ ds) (header g.granularity g.s + length e.payload) tt
          (stores g (at b o) e.kind e.payload img v even)
          (bind_ran (lived g b (o + n) es) _ m x.units ds tt tt x.stored
          (asked (header_at g (at b o)) (λ h. update_state g h Deleted >> give tt) (apply x.units m) ds (new_header (at b o) e.kind e.payload) tt
          (header_back g b o e.kind e.payload img v even (apply x.units m) long same)
          (dropped (update_state g (new_header (at b o) e.kind e.payload) Deleted) (apply x.units m) ds _
          (delete_ran g b o e.kind e.payload img v even (apply x.units m) long same))));
      kept =
          λ j c. ap (λ (i : List ℕ). get_or i j 0) (apply-append us (x.units ++ ds) img ∙ apply-append x.units ds m)
          ∙ frame j 0 ds (apply x.units m)
          (delete_clear g.granularity g.s e.kind (address g b o) e.payload (l g b o e.kind e.payload img v even) j (address g b o) (address g b (end_of g (o + n) es))
          (omega arith) (omega (arith, l g b o e.kind e.payload img v even)) c)
          ∙ x.kept j (later (address g b o) (address g b (o + n)) (address g b (end_of g (o + n) es)) j (omega arith) c)
          ∙ new_kept g b o e.kind e.payload img v even j (sooner (address g b o) (address g b (end_of g (o + n) es)) (address g b o + n) j (omega arith) c);
    }

living : (g : Geometry) (b : ℕ) → b < g.count → (es : List Entry) (o : ℕ) (img : List ℕ) → check_of g (length img) ≡ 0 → o % width_of g.granularity ≡ 0 → end_of g o es ≤ g.size
    → All (λ e. (i : ℕ) → i < length e.payload → get_or e.payload i 0 < 256) es → Free g b o img → Living g b o es img
unfolding lived
living g b below [] o img f even r p free = record { units = []; stored = ask_ran (λ _. done tt) img tt refl; kept = λ j c. refl }
living g b below (e ∷ es) o img f even r p free =
    let n : ℕ = span g.granularity g.s (length e.payload) in
    let us : List FlashUnit = new_units g.granularity g.s e.kind e.payload (address g b o) in
    let least : o + n ≤ end_of g (o + n) es = end_least g es (o + n) in
    let v : Room g (at b o) e.payload img =
    record {
      fine = f;
      bytes = p.0;
      block = below;
      in_block = omega arith;
      erased = λ i h. let q : address g b o + i ≡ address g b (o + i) = omega arith in ap (λ (x : ℕ). get_or img x 0) q ∙ free (o + i) (omega arith) (omega arith);
    } in
    around g b o e es img v even
    (living g b below es (o + n) (apply us img) (ap (check_of g) (length-apply us img) ∙ f) (even_add g.granularity o n even (align_even g.granularity _)) r p.1
    (λ x lo hi. new_kept g b o e.kind e.payload img v even (address g b x) (inr (omega arith)) ∙ free x (omega arith) hi))

-- ---- the block: formatted, and given its type

module _ (g : Geometry) (b : ℕ) (t : BlockType) (es : List Entry) (img : List ℕ) (s : Begins g b es img) where
  abbrev formatted : List ℕ
  formatted = apply (format_block g b img).events img

  abbrev types : List FlashUnit
  types = units_at g b (type_at g.granularity) (type_byte t ∷ [])

  checked : check_of g (length img) ≡ 0
  checked = reach_checked g (length img) b (planned g b img s.plan s.planned)

  below : b < g.count
  below = reach_below g (length img) b _ refl (planned g b img s.plan s.planned)

  fine_block : Fine g (length img)
  fine_block = fine_of_check g (length img) (check_of g (length img)) refl checked

  laid_block : Laid g.granularity g.s 0
  laid_block = laid g.granularity g.s 0 fine_block.sound.s_most

  made : Made g b (run Absent (format_block g b) img)
  made = format_made g b img s.bytes s.plan s.planned

  begun : Begun g b formatted
  unfolding run
  begun = made.begins

  format_ran : format_block g b img ≡ ran (format_block g b img).events tt
  unfolding run
  format_ran = ap (λ (a : Answer (Unit {0})). record { events = (format_block g b img).events; answer = a }) made.is_done

  still : check_of g (length formatted) ≡ 0
  still = ap (check_of g) (length-apply (format_block g b img).events img) ∙ checked

  type_ran : set_block_type g b t formatted ≡ ran types tt
  unfolding set_block_type
  type_ran =
      let in_block : type_at g.granularity + width_of g.granularity ≤ g.size = omega (arith, (headed g.granularity).type_header, (headed g.granularity).block_short, fine_block.sound.least) in
      let ends = within b (type_at g.granularity) (width_of g.granularity) g.size g.count (length img) below in_block fine_block.whole in
      write_ran g b (type_at g.granularity) (type_byte t ∷ []) formatted still below (headed g.granularity).type_even (omega (arith, in_block, laid_block))
      (λ _. free_store (width_of g.granularity) (address g b (type_at g.granularity)) (type_byte t ∷ []) formatted
      (λ i k. let q : address g b (type_at g.granularity) + i ≡ address g b (type_at g.granularity + i) = omega arith in
      ap (λ (x : ℕ). get_or formatted x 0) q ∙ begun.type i (omega (arith, laid_block)))
      (omega (arith, laid_block, ends, length-apply (format_block g b img).events img)))

  -- the type's unit lies within the header
  free_behind : Free g b (block_header g.granularity) (apply types formatted)
  free_behind x lo hi =
      frame (address g b x) 0 types formatted
      (store_miss (width_of g.granularity) laid_block.pos (address g b (type_at g.granularity)) (type_byte t ∷ []) (address g b x) (inr (omega (arith, laid_block, (headed g.granularity).type_header))))
      ∙ begun.behind x lo hi

  all_living : Living g b (block_header g.granularity) es (apply types formatted)
  all_living =
      living g b below es (block_header g.granularity) (apply types formatted) (ap (check_of g) (length-apply types formatted) ∙ still) (headed g.granularity).block_even s.fits s.payloads
      free_behind

  life_ran : life g b t es img ≡ ran ((format_block g b img).events ++ (types ++ all_living.units)) tt
  unfolding life
  life_ran =
      bind_ran (format_block g b) _ img (format_block g b img).events (types ++ all_living.units) tt tt format_ran
      (bind_ran (set_block_type g b t) _ formatted types all_living.units tt tt type_ran all_living.stored)

-- what is done with power is done or cut under a fuse
done_or_cut : (o : Op (Unit {0})) (img : List ℕ) → (o img).answer ≡ done tt → (f : Fuse) → (run f o img).answer ≡ refused 10 → ⊥
unfolding run
done_or_cut o img e Absent h = let z : ◌≡◌ {A = ℕ} 0 1 = cc in omega arith
done_or_cut o img e (Units k) h = go (leb (cost flash (o img).events) k) h
  where
    go : (x : Bool) → (cut_by {W = flash} x k (o img) img).answer ≡ refused 10 → ⊥
    go true h = let z : ◌≡◌ {A = ℕ} 0 1 = cc in omega arith
    go false h = let z : ◌≡◌ {A = ℕ} 8 10 = cc in omega arith

pub life_is : Life
unfolding Life
life_is g b t es img s =
    let e : (life g b t es img).answer ≡ done tt = ap (λ (r : Run flash (Unit {0})). r.answer) (life_ran g b t es img s) in
    record { with_power = e; never_ten = λ f. done_or_cut (life g b t es) img e f }
