-- What a cut leaves of a batch, record by record.
use mathlib.Core.Path.{◌≡◌, refl, sym, ap, ap₂, ◌∙◌, subst}
use mathlib.Core.Logic.{◌⊎◌, inl, inr}
use mathlib.Core.List.{List, [], ◌∷◌, ◌++◌}
use Prim.Native.Nat.{ℕ, ◌+◌, ◌-◌, ◌≤◌, ◌<◌}
use native.Mathlib.Nat.{zero-add}
use native.Mathlib.Omega.{arith}
use lib.ListN.{length, get_or, length-take, length-drop}
use Rattle.medium.specs.declared.geometry.Geometry.{Geometry}
use Rattle.medium.specs.declared.fuse.Fuse.TheVariants.{Absent, Units}
use Rattle.std.specs.Prelude.{Ok}
use Rattle.medium.specs.All.{All}
use Rattle.medium.specs.Geometry.{check_of, address}
use Rattle.medium.specs.Units.{FlashUnit}
use Rattle.medium.specs.Operation.{apply, Answer, done, refused, End, run}
use Rattle.medium.specs.Beside.{Both, both}
use Rattle.medium.proofs.Runs.{leb_is, leb_yes, leb_no, run_done, value_of}
use Rattle.medium.proofs.Bytes.{get_d_part}
use Rattle.shown.specs.Whole.{Whole, Unfinished}
use Rattle.fresh.specs.Units.{address_of}
use Rattle.fresh.specs.Fresh.{after, Room, Cut, Fresh}
use Rattle.fresh.specs.Writes.{Fused, WriteFused}
use Rattle.fresh.proofs.Written.{cut_all}
use Rattle.fresh.proofs.Fresh.{fresh}
use Rattle.fresh.proofs.Writes.{write_fused}
use Rattle.batch.specs.declared.record.Record.{Record}
use Rattle.batch.specs.Batch.{place_of, records_in, write_all}
use Rattle.batch.specs.Laws.{BatchEnd, end_of, batch, Takes, after_one, one_by_one, OneByOne}
use Rattle.batch.specs.Cut.{type_in, bytes_of, header_for, behind_one, units_for_one, units_for_all, enough_for, Fits, Rising, Ready, left_at, OffOne, CutAt, BatchCuts, BatchPowered}
use Rattle.batch.proofs.Records.{written-by}
use Rattle.batch.proofs.Laws.{one_by_one_lem, long, all_done}

module _ (g : Geometry) (b : ℕ) (payload : List ℕ) where
  -- ---- one record

  -- the image after k of its units
  abbrev pub after_record : Record → List ℕ → ℕ → List ℕ
  after_record r img k = after g (place_of b r) (type_in r) (bytes_of payload r) img k

  module _ (e : ℕ) (r : Record) (img : List ℕ) (v : Ready g b e payload img) (f : Fits g payload e r) where
    pub room_of : Room g (place_of b r) (bytes_of payload r) img
    room_of =
        record {
          fine = v.fine;
          bytes = λ i h. let n : i < r.length = omega (arith, simp (length-take, length-drop) at h) in
              rw (get_d_part r.start r.length payload i 0 n) (v.bytes (r.start + i) (omega (arith, f.lent)));
          block = v.block;
          in_block = f.in_block;
          erased = λ i h. let a : address_of g (place_of b r) + i ≡ address g b (r.offset + i) = omega arith in
              ap (λ (j : ℕ). get_or img j 0) a ∙ v.erased (r.offset + i) (omega (arith, f.from)) (omega (arith, f.in_block));
        }

    pub cut_of : Cut g (place_of b r) (type_in r) (bytes_of payload r) img
    unfolding Fresh
    cut_of = fresh g (place_of b r) (type_in r) (bytes_of payload r) img room_of

    fused-of : Fused g (place_of b r) (type_in r) (bytes_of payload r) img
    unfolding WriteFused
    fused-of = write_fused g (place_of b r) (type_in r) (bytes_of payload r) img room_of f.aligned

    -- k units are enough for it: the others have what is left
    pub go_on : (i k : ℕ) (rs : List Record) → units_for_one g payload r ≤ k
        → one_by_one (Units k) g b payload i (r ∷ rs) img ≡ one_by_one (Units (k - units_for_one g payload r)) g b payload (i + 1) rs (after_record r img k)
    go_on i k rs c =
        ap (λ (x : End ℕ). after_one i x (λ f₁ m. one_by_one f₁ g b payload (i + 1) rs m))
        (written-by g b payload r (Units k) img f.lent f.typed ∙ fused-of.enough k c)

    -- they are not: it is cut there
    pub cut_off : (i k : ℕ) (rs : List Record) → k < units_for_one g payload r
        → one_by_one (Units k) g b payload i (r ∷ rs) img ≡ end_of (refused 8) (Units 0) (after_record r img k) i
    cut_off i k rs c =
        ap (λ (x : End ℕ). after_one i x (λ f₁ m. one_by_one f₁ g b payload (i + 1) rs m))
        (written-by g b payload r (Units k) img f.lent f.typed ∙ fused-of.short k c)

    -- the room behind it is as it was
    pub ready_on : (k : ℕ) → Ready g b (behind_one g payload r) payload (after_record r img k)
    ready_on k =
        record {
          fine = ap (check_of g) (cut_of.long k) ∙ v.fine;
          block = v.block;
          bytes = v.bytes;
          erased = λ o h l. cut_of.elsewhere k (address g b o) (inr (omega arith)) ∙ v.erased o (omega (arith, f.from)) l;
        }

  -- ---- all of them

  -- the image with records whole
  abbrev pub all_after : List Record → List ℕ → List ℕ
  all_after [] img = img
  all_after (r ∷ rs) img = all_after rs (after_record r img (units_for_one g payload r))

  -- more units than a record has leave no more of it
  pub after_all : (r : Record) (img : List ℕ) (k : ℕ) → units_for_one g payload r ≤ k → after_record r img k ≡ after_record r img (units_for_one g payload r)
  after_all r img k c =
      ap (λ (us : List FlashUnit). apply us img)
      (cut_all g.granularity g.s (type_in r) (address_of g (place_of b r)) (bytes_of payload r) k c
      ∙ sym (cut_all g.granularity g.s (type_in r) (address_of g (place_of b r)) (bytes_of payload r) (units_for_one g payload r) (omega arith)))

  pub number_is : (rs : List Record) (e i k : ℕ) (img : List ℕ) → Ready g b e payload img → Rising g payload e rs
      → (one_by_one (Units k) g b payload i rs img).state.table ≡ (i + enough_for g payload rs k) ∷ []
  number_is [] e i k img v h = let z : i ≡ i + 0 = omega arith in ap (λ (n : ℕ). n ∷ []) z
  number_is (r ∷ rs) e i k img v h = go (leb_is (units_for_one g payload r) k) (λ c. number_is rs (behind_one g payload r) (i + 1) (k - units_for_one g payload r) (after_record r img k) (ready_on e r img v h.0 k) h.1)
    where
      go : (units_for_one g payload r ≤ k) ⊎ (k < units_for_one g payload r)
          → (units_for_one g payload r ≤ k → (one_by_one (Units (k - units_for_one g payload r)) g b payload (i + 1) rs (after_record r img k)).state.table ≡ (i + 1 + enough_for g payload rs (k - units_for_one g payload r)) ∷ [])
          → (one_by_one (Units k) g b payload i (r ∷ rs) img).state.table ≡ (i + enough_for g payload (r ∷ rs) k) ∷ []
      go (inl c) more =
          let z : i + 1 + enough_for g payload rs (k - units_for_one g payload r) ≡ i + (enough_for g payload rs (k - units_for_one g payload r) + 1) = omega arith in
          rw (leb_yes c) (ap (λ (x : BatchEnd). x.state.table) (go_on e r img v h.0 i k rs c) ∙ more c ∙ ap (λ (n : ℕ). n ∷ []) z)
      go (inr c) more =
          let z : i ≡ i + 0 = omega arith in
          rw (leb_no c) (ap (λ (x : BatchEnd). x.state.table) (cut_off e r img v h.0 i k rs c) ∙ ap (λ (n : ℕ). n ∷ []) z)

  all_is : (rs : List Record) (e i k : ℕ) (img : List ℕ) → Ready g b e payload img → Rising g payload e rs → units_for_all g payload rs ≤ k → (one_by_one (Units k) g b payload i rs img).answer ≡ done tt
  all_is [] e i k img v h c = refl
  all_is (r ∷ rs) e i k img v h c =
      ap (λ (x : BatchEnd). x.answer) (go_on e r img v h.0 i k rs (omega arith))
      ∙ all_is rs (behind_one g payload r) (i + 1) (k - units_for_one g payload r) (after_record r img k) (ready_on e r img v h.0 k) h.1 (omega arith)

  short_is : (rs : List Record) (e i k : ℕ) (img : List ℕ) → Ready g b e payload img → Rising g payload e rs → k < units_for_all g payload rs → (one_by_one (Units k) g b payload i rs img).answer ≡ refused 8
  short_is [] e i k img v h c = absurd (omega arith)
  short_is (r ∷ rs) e i k img v h c = go (leb_is (units_for_one g payload r) k) (λ d. short_is rs (behind_one g payload r) (i + 1) (k - units_for_one g payload r) (after_record r img k) (ready_on e r img v h.0 k) h.1 (omega arith))
    where
      go : (units_for_one g payload r ≤ k) ⊎ (k < units_for_one g payload r)
          → (units_for_one g payload r ≤ k → (one_by_one (Units (k - units_for_one g payload r)) g b payload (i + 1) rs (after_record r img k)).answer ≡ refused 8)
          → (one_by_one (Units k) g b payload i (r ∷ rs) img).answer ≡ refused 8
      go (inl d) more = ap (λ (x : BatchEnd). x.answer) (go_on e r img v h.0 i k rs d) ∙ more d
      go (inr d) more = ap (λ (x : BatchEnd). x.answer) (cut_off e r img v h.0 i k rs d)

  elsewhere_is : (rs : List Record) (e i k : ℕ) (img : List ℕ) → Ready g b e payload img → Rising g payload e rs → (j : ℕ) → All (OffOne g b payload j) rs
      → get_or (one_by_one (Units k) g b payload i rs img).state.image j 0 ≡ get_or img j 0
  elsewhere_is [] e i k img v h j o = refl
  elsewhere_is (r ∷ rs) e i k img v h j o =
      go (leb_is (units_for_one g payload r) k) (λ d. elsewhere_is rs (behind_one g payload r) (i + 1) (k - units_for_one g payload r) (after_record r img k) (ready_on e r img v h.0 k) h.1 j o.1)
    where
      go : (units_for_one g payload r ≤ k) ⊎ (k < units_for_one g payload r)
          → (units_for_one g payload r ≤ k → get_or (one_by_one (Units (k - units_for_one g payload r)) g b payload (i + 1) rs (after_record r img k)).state.image j 0 ≡ get_or (after_record r img k) j 0)
          → get_or (one_by_one (Units k) g b payload i (r ∷ rs) img).state.image j 0 ≡ get_or img j 0
      go (inl d) more = ap (λ (x : BatchEnd). get_or x.state.image j 0) (go_on e r img v h.0 i k rs d) ∙ more d ∙ (cut_of e r img v h.0).elsewhere k j o.0
      go (inr d) more = ap (λ (x : BatchEnd). get_or x.state.image j 0) (cut_off e r img v h.0 i k rs d) ∙ (cut_of e r img v h.0).elsewhere k j o.0

  -- a byte before them all
  pub before_all : (rs : List Record) (e j : ℕ) → Rising g payload e rs → j < address g b e → All (OffOne g b payload j) rs
  before_all [] e j h c = tt
  before_all (r ∷ rs) e j h c = (inl (omega (arith, h.0.from)), before_all rs (behind_one g payload r) j h.1 (omega (arith, h.0.from)))

  -- one of them
  pub one_of : (xs ys : List Record) (r : Record) (e : ℕ) → Rising g payload e (xs ++ (r ∷ ys)) → Fits g payload e r
  one_of [] ys r e h = h.0
  one_of (x ∷ xs) ys r e h =
      let f = one_of xs ys r (behind_one g payload x) h.1 in
      record { typed = f.typed; lent = f.lent; from = omega (arith, f.from, h.0.from); aligned = f.aligned; in_block = f.in_block }

  whole_is : (xs ys : List Record) (r : Record) (e i k : ℕ) (img : List ℕ) → Ready g b e payload img → Rising g payload e (xs ++ (r ∷ ys)) → units_for_all g payload xs + units_for_one g payload r ≤ k
      → Whole g (header_for b payload r) (type_in r) (bytes_of payload r) (one_by_one (Units k) g b payload i (xs ++ (r ∷ ys)) img).state.image
  whole_is [] ys r e i k img v h c =
      let d : units_for_one g payload r ≤ k = omega arith in
      let last = one_by_one (Units (k - units_for_one g payload r)) g b payload (i + 1) ys (after_record r img k) in
      subst (λ (x : BatchEnd). Whole g (header_for b payload r) (type_in r) (bytes_of payload r) x.state.image) (sym (go_on e r img v h.0 i k ys d))
      ((cut_of e r img v h.0).stays k d last.state.image (long g b payload (Units (k - units_for_one g payload r)) (i + 1) ys (after_record r img k) ∙ (cut_of e r img v h.0).long k)
      (λ j _ l. elsewhere_is ys (behind_one g payload r) (i + 1) (k - units_for_one g payload r) (after_record r img k) (ready_on e r img v h.0 k) h.1 j (before_all ys (behind_one g payload r) j h.1 (omega arith))))
  whole_is (x ∷ xs) ys r e i k img v h c =
      subst (λ (y : BatchEnd). Whole g (header_for b payload r) (type_in r) (bytes_of payload r) y.state.image) (sym (go_on e x img v h.0 i k (xs ++ (r ∷ ys)) (omega arith)))
      (whole_is xs ys r (behind_one g payload x) (i + 1) (k - units_for_one g payload x) (after_record x img k) (ready_on e x img v h.0 k) h.1 (omega arith))

  unfinished_is : (xs ys : List Record) (r : Record) (e i k : ℕ) (img : List ℕ) → Ready g b e payload img → Rising g payload e (xs ++ (r ∷ ys)) → k < units_for_all g payload xs + units_for_one g payload r
      → Unfinished g (place_of b r) (type_in r) (one_by_one (Units k) g b payload i (xs ++ (r ∷ ys)) img).state.image
  unfinished_is [] ys r e i k img v h c =
      subst (λ (x : BatchEnd). Unfinished g (place_of b r) (type_in r) x.state.image) (sym (cut_off e r img v h.0 i k ys (omega arith))) ((cut_of e r img v h.0).before_mark k (omega arith))
  unfinished_is (x ∷ xs) ys r e i k img v h c =
      go (leb_is (units_for_one g payload x) k) (λ d. unfinished_is xs ys r (behind_one g payload x) (i + 1) (k - units_for_one g payload x) (after_record x img k) (ready_on e x img v h.0 k) h.1 (omega arith))
    where
      go : (units_for_one g payload x ≤ k) ⊎ (k < units_for_one g payload x)
          → (units_for_one g payload x ≤ k → Unfinished g (place_of b r) (type_in r) (one_by_one (Units (k - units_for_one g payload x)) g b payload (i + 1) (xs ++ (r ∷ ys)) (after_record x img k)).state.image)
          → Unfinished g (place_of b r) (type_in r) (one_by_one (Units k) g b payload i (x ∷ (xs ++ (r ∷ ys))) img).state.image
      go (inl d) more = subst (λ (y : BatchEnd). Unfinished g (place_of b r) (type_in r) y.state.image) (sym (go_on e x img v h.0 i k (xs ++ (r ∷ ys)) d)) (more d)
      go (inr d) more =
          subst (λ (y : BatchEnd). Unfinished g (place_of b r) (type_in r) y.state.image) (sym (cut_off e x img v h.0 i k (xs ++ (r ∷ ys)) d))
          ((cut_of (behind_one g payload x) r (after_record x img k) (ready_on e x img v h.0 k) (one_of xs ys r (behind_one g payload x) h.1)).before_mark 0 (omega arith))

module _ (g : Geometry) (b e : ℕ) (records payload img : List ℕ) (t : Takes g records img) (v : Ready g b e payload img) (h : Rising g payload e (records_in records)) where
  pub as_one : (k : ℕ) → batch (Units k) g b records payload img ≡ one_by_one (Units k) g b payload 0 (records_in records) img
  unfolding OneByOne
  as_one k = one_by_one_lem (Units k) g b records payload img t

  pub elsewhere_at : (k j : ℕ) → All (OffOne g b payload j) (records_in records) → get_or (left_at g b records payload img k) j 0 ≡ get_or img j 0
  elsewhere_at k j o = ap (λ (x : BatchEnd). get_or x.state.image j 0) (as_one k) ∙ elsewhere_is g b payload (records_in records) e 0 k img v h j o

  pub long_at : (k : ℕ) → length (left_at g b records payload img k) ≡ length img
  long_at k = ap (λ (x : BatchEnd). length x.state.image) (as_one k) ∙ long g b payload (Units k) 0 (records_in records) img

  cut_at : (k : ℕ) → CutAt g b records payload img k
  cut_at k =
      record {
        all_done = λ c. ap (λ (x : BatchEnd). x.answer) (as_one k) ∙ all_is g b payload (records_in records) e 0 k img v h c;
        cut_short = λ c. ap (λ (x : BatchEnd). x.answer) (as_one k) ∙ short_is g b payload (records_in records) e 0 k img v h c;
        number = ap (λ (x : BatchEnd). x.state.table) (as_one k) ∙ number_is g b payload (records_in records) e 0 k img v h ∙ ap (λ (n : ℕ). n ∷ []) (zero-add (enough_for g payload (records_in records) k));
        whole = λ xs ys r q c. subst (λ (x : BatchEnd). Whole g (header_for b payload r) (type_in r) (bytes_of payload r) x.state.image) (sym (as_one k ∙ ap (λ (rs : List Record). one_by_one (Units k) g b payload 0 rs img) q))
            (whole_is g b payload xs ys r e 0 k img v (subst (Rising g payload e) q h) c);
        unfinished = λ xs ys r q c. subst (λ (x : BatchEnd). Unfinished g (place_of b r) (type_in r) x.state.image) (sym (as_one k ∙ ap (λ (rs : List Record). one_by_one (Units k) g b payload 0 rs img) q))
            (unfinished_is g b payload xs ys r e 0 k img v (subst (Rising g payload e) q h) c);
        long = long_at k;
        elsewhere = elsewhere_at k;
      }

pub batch_cuts : BatchCuts
unfolding BatchCuts
batch_cuts g b e records payload img t v h k = cut_at g b e records payload img t v h k

pub batch_powered : BatchPowered
unfolding BatchPowered run
batch_powered g b e records payload img t v h =
    let k = units_for_all g payload (records_in records) in
    let c = cut_at g b e records payload img t v h k in
    let o = write_all g b records payload in
    let s = both img (0 ∷ []) in
    let d = c.all_done (omega arith) in
    let same : (batch (Units k) g b records payload img).state ≡ (batch Absent g b records payload img).state = run_done (Units k) o s tt d in
    let told : (o s).answer ≡ done tt = value_of (Units k) o s (batch (Units k) g b records payload img).state (Ok (batch (Units k) g b records payload img).fuse) tt (batch (Units k) g b records payload img).fuse
    (ap (λ (x : Answer (Unit {0})). record { answer = x; fuse = (batch (Units k) g b records payload img).fuse; state = (batch (Units k) g b records payload img).state }) (sym d)) refl in
    let n = ap (λ (x : BatchEnd). x.state.table) (as_one g b e records payload img t v h k) ∙ all_done g b payload (Units k) 0 (records_in records) img (ap (λ (x : BatchEnd). x.answer) (sym (as_one g b e records payload img t v h k)) ∙ d) in
    ap₂ (λ (x : Answer (Unit {0})) (y : Both). record { answer = x; fuse = Absent; state = y }) told (sym same)
    ∙ ap (λ (ns : List ℕ). record { answer = done tt; fuse = Absent; state = both (left_at g b records payload img k) ns }) (n ∙ ap (λ (m : ℕ). m ∷ []) (zero-add (length (records_in records))))
