-- The block of a batch after a cut, listed and scanned.
use mathlib.Core.Path.{◌≡◌, refl, sym, ap, ap₂, ◌∙◌, subst}
use mathlib.Core.Logic.{◌⊎◌, inl, inr}
use mathlib.Core.Bool.{Bool, false}
use mathlib.Core.List.{List, [], ◌∷◌, ◌++◌, append-nil, append_assoc}
use Prim.Native.Nat.{ℕ, ◌+◌, ◌-◌, ◌≤◌, ◌<◌}
use native.Mathlib.Omega.{arith}
use lib.ListN.{length}
use Rattle.medium.specs.declared.geometry.Geometry.{Geometry}
use Rattle.medium.specs.declared.fuse.Fuse.TheVariants.{Units}
use Rattle.medium.specs.Granularity.{pick, header, block_header}
use Rattle.medium.specs.Geometry.{address}
use Rattle.medium.specs.Operation.{done}
use Rattle.medium.proofs.Runs.{leb_is, leb_no}
use Rattle.objects.specs.Listing.{Visit, Stop, end, free, Listing, listing}
use Rattle.blocks.specs.declared.header.BlockType.{BlockType}
use Rattle.blocks.specs.declared.header.BlockHeaderKind.TheVariants.{Known}
use Rattle.blocks.specs.declared.header.BlockHeader.{BlockHeader}
use Rattle.blocks.specs.BlockHeader.{block_header_at}
use Rattle.blocks.specs.Scan.{listed, scan_block}
use Rattle.blocks.proofs.Seen.{header_seen}
use Rattle.blocks.proofs.Scans.{scan_by_lem}
use Rattle.shown.proofs.Walk.{ended, walk-le}
use Rattle.shown.proofs.Steps.{free_fits}
use Rattle.fresh.specs.Fresh.{after}
use Rattle.fresh.specs.Scans.{FreeEnd, CutListed, CutListings, grown, Grows, GoesOn}
use Rattle.fresh.proofs.Scans.{cut_listings}
use Rattle.fresh.proofs.Grows.{grows, goes_on}
use Rattle.batch.specs.declared.record.Record.{Record}
use Rattle.batch.specs.Batch.{place_of, records_in}
use Rattle.batch.specs.Laws.{BatchEnd, Takes, one_by_one}
use Rattle.batch.specs.Cut.{type_in, bytes_of, behind_one, units_for_one, units_for_all, Fits, Rising, Ready, left_at}
use Rattle.batch.specs.Scanned.{Adjoining, behind_all, visits_of, grown_by, place_at, BatchScans}
use Rattle.batch.proofs.Cut.{after_record, all_after, after_all, room_of, go_on, cut_off, ready_on, before_all, as_one, elsewhere_at, long_at}

module _ (g : Geometry) (b : ℕ) (payload : List ℕ) where
  -- with no unit left nothing more is stored
  none_left : (rs : List Record) (e i : ℕ) (img : List ℕ) → Ready g b e payload img → Rising g payload e rs → (one_by_one (Units 0) g b payload i rs img).state.image ≡ img
  none_left [] e i img v h = refl
  none_left (r ∷ rs) e i img v h = ap (λ (x : BatchEnd). x.state.image) (cut_off g b payload e r img v h.0 i 0 rs (omega arith))

  rising_first : (xs ys : List Record) (e : ℕ) → Rising g payload e (xs ++ ys) → Rising g payload e xs
  rising_first [] ys e h = tt
  rising_first (x ∷ xs) ys e h = (h.0, rising_first xs ys (behind_one g payload x) h.1)

  rising_rest : (xs ys : List Record) (e : ℕ) → Rising g payload e (xs ++ ys) → Rising g payload (behind_all g payload e xs) ys
  rising_rest [] ys e h = h
  rising_rest (x ∷ xs) ys e h = rising_rest xs ys (behind_one g payload x) h.1

  adjoining_first : (xs ys : List Record) (e : ℕ) → Adjoining g payload e (xs ++ ys) → Adjoining g payload e xs
  adjoining_first [] ys e h = tt
  adjoining_first (x ∷ xs) ys e h = (h.0, h.1, adjoining_first xs ys (behind_one g payload x) h.2)

  adjoining_rest : (xs ys : List Record) (e : ℕ) → Adjoining g payload e (xs ++ ys) → Adjoining g payload (behind_all g payload e xs) ys
  adjoining_rest [] ys e h = h
  adjoining_rest (x ∷ xs) ys e h = adjoining_rest xs ys (behind_one g payload x) h.2

  ready_all : (rs : List Record) (e : ℕ) (img : List ℕ) → Ready g b e payload img → Rising g payload e rs → Ready g b (behind_all g payload e rs) payload (all_after g b payload rs img)
  ready_all [] e img v h = v
  ready_all (r ∷ rs) e img v h = ready_all rs (behind_one g payload r) (after_record g b payload r img (units_for_one g payload r)) (ready_on g b payload e r img v h.0 (units_for_one g payload r)) h.1

  -- behind the units of the first records the others have what is left
  image_at : (xs ys : List Record) (e i k : ℕ) (img : List ℕ) → Ready g b e payload img → Rising g payload e (xs ++ ys) → units_for_all g payload xs ≤ k
      → (one_by_one (Units k) g b payload i (xs ++ ys) img).state.image ≡ (one_by_one (Units (k - units_for_all g payload xs)) g b payload (i + length xs) ys (all_after g b payload xs img)).state.image
  image_at [] ys e i k img v h c =
      let n : k ≡ k - 0 = omega arith in
      let m : i ≡ i + 0 = omega arith in
      ap₂ (λ (x y : ℕ). (one_by_one (Units x) g b payload y ys img).state.image) n m
  image_at (x ∷ xs) ys e i k img v h c =
      let whole = ready_on g b payload e x img v h.0 (units_for_one g payload x) in
      let n : k - units_for_one g payload x - units_for_all g payload xs ≡ k - (units_for_one g payload x + units_for_all g payload xs) = omega arith in
      let m : i + 1 + length xs ≡ i + length (x ∷ xs) = omega arith in
      ap (λ (y : BatchEnd). y.state.image) (go_on g b payload e x img v h.0 i k (xs ++ ys) (omega arith))
      ∙ ap (λ (y : List ℕ). (one_by_one (Units (k - units_for_one g payload x)) g b payload (i + 1) (xs ++ ys) y).state.image) (after_all g b payload x img k (omega arith))
      ∙ image_at xs ys (behind_one g payload x) (i + 1) (k - units_for_one g payload x) (after_record g b payload x img (units_for_one g payload x)) whole h.1 (omega arith)
      ∙ ap₂ (λ (y z : ℕ). (one_by_one (Units y) g b payload z ys (all_after g b payload (x ∷ xs) img)).state.image) n m

  -- just behind them
  image_between : (xs ys : List Record) (e i : ℕ) (img : List ℕ) → Ready g b e payload img → Rising g payload e (xs ++ ys) → (one_by_one (Units (units_for_all g payload xs)) g b payload i (xs ++ ys) img).state.image ≡ all_after g b payload xs img
  image_between xs ys e i img v h =
      let z : units_for_all g payload xs - units_for_all g payload xs ≡ 0 = omega arith in
      image_at xs ys e i (units_for_all g payload xs) img v h (omega arith)
      ∙ ap (λ (n : ℕ). (one_by_one (Units n) g b payload (i + length xs) ys (all_after g b payload xs img)).state.image) z
      ∙ none_left ys (behind_all g payload e xs) (i + length xs) (all_after g b payload xs img) (ready_all xs e img v (rising_first xs ys e h)) (rising_rest xs ys e h)

  -- within the next one
  image_within : (xs ys : List Record) (r : Record) (e i k : ℕ) (img : List ℕ) → Ready g b e payload img → Rising g payload e (xs ++ (r ∷ ys)) → k ≤ units_for_one g payload r
      → (one_by_one (Units (units_for_all g payload xs + k)) g b payload i (xs ++ (r ∷ ys)) img).state.image ≡ after_record g b payload r (all_after g b payload xs img) k
  image_within xs ys r e i k img v h c =
      let z : units_for_all g payload xs + k - units_for_all g payload xs ≡ k = omega arith in
      image_at xs (r ∷ ys) e i (units_for_all g payload xs + k) img v h (omega arith)
      ∙ ap (λ (n : ℕ). (one_by_one (Units n) g b payload (i + length xs) (r ∷ ys) (all_after g b payload xs img)).state.image) z
      ∙ go (leb_is (units_for_one g payload r) k)
    where
      there : Ready g b (behind_all g payload e xs) payload (all_after g b payload xs img)
      there = ready_all xs e img v (rising_first xs (r ∷ ys) e h)

      rest : Rising g payload (behind_all g payload e xs) (r ∷ ys)
      rest = rising_rest xs (r ∷ ys) e h

      go : (units_for_one g payload r ≤ k) ⊎ (k < units_for_one g payload r) → (one_by_one (Units k) g b payload (i + length xs) (r ∷ ys) (all_after g b payload xs img)).state.image ≡ after_record g b payload r (all_after g b payload xs img) k
      go (inl d) =
          let z : k - units_for_one g payload r ≡ 0 = omega arith in
          ap (λ (x : BatchEnd). x.state.image) (go_on g b payload (behind_all g payload e xs) r (all_after g b payload xs img) there rest.0 (i + length xs) k ys d)
          ∙ ap (λ (n : ℕ). (one_by_one (Units n) g b payload (i + length xs + 1) ys (after_record g b payload r (all_after g b payload xs img) k)).state.image) z
          ∙ none_left ys (behind_one g payload r) (i + length xs + 1) (after_record g b payload r (all_after g b payload xs img) k) (ready_on g b payload (behind_all g payload e xs) r (all_after g b payload xs img) there rest.0 k) rest.1
      go (inr d) = ap (λ (x : BatchEnd). x.state.image) (cut_off g b payload (behind_all g payload e xs) r (all_after g b payload xs img) there rest.0 (i + length xs) k ys d)

  -- ---- listed

  -- the free end, as the place of a record
  free_at : (e : ℕ) (r : Record) (img : List ℕ) → r.offset ≡ e → FreeEnd g (place_at b e) img → FreeEnd g (place_of b r) img
  free_at e r img q w = subst (λ (o : ℕ). FreeEnd g (place_at b o) img) (sym q) w

  next_free : (r : Record) (e : ℕ) (img : List ℕ) → Ready g b e payload img → Fits g payload e r → r.offset ≡ e → FreeEnd g (place_at b e) img
      → behind_one g payload r + header g.granularity g.s < g.size → FreeEnd g (place_at b (behind_one g payload r)) (after_record g b payload r img (units_for_one g payload r))
  unfolding GoesOn
  next_free r e img v f q w d = goes_on g (place_of b r) (type_in r) (bytes_of payload r) img (room_of g b payload e r img v f) (free_at e r img q w) (units_for_one g payload r) (omega arith) d

  -- where a header fits behind the last of them, one fits at the first
  first_fits : (rs : List Record) (e : ℕ) → Adjoining g payload e rs → behind_all g payload e rs + header g.granularity g.s < g.size → e + header g.granularity g.s < g.size
  first_fits [] e a c = c
  first_fits (r ∷ rs) e a c = a.1

  -- behind whole records there is a free end again, where a header fits
  free_all : (rs : List Record) (e : ℕ) (img : List ℕ) → Ready g b e payload img → Rising g payload e rs → Adjoining g payload e rs → FreeEnd g (place_at b e) img
      → behind_all g payload e rs + header g.granularity g.s < g.size → FreeEnd g (place_at b (behind_all g payload e rs)) (all_after g b payload rs img)
  free_all [] e img v h a w c = w
  free_all (r ∷ rs) e img v h a w c =
      free_all rs (behind_one g payload r) (after_record g b payload r img (units_for_one g payload r)) (ready_on g b payload e r img v h.0 (units_for_one g payload r)) h.1 a.2
      (next_free r e img v h.0 a.0 w (first_fits rs (behind_one g payload r) a.2 c)) c

  -- a listing by its parts
  parts : (l m : Listing) → l.visits ≡ m.visits → l.last ≡ m.last → l.stop ≡ m.stop → l ≡ m
  parts l m p q s = ap₂ (λ (xs : List Visit) (y : ℕ × Stop). record { visits = xs; last = y.0; stop = y.1 }) p (ap₂ (λ (n : ℕ) (x : Stop). (n, x)) q s)

  end_fits : (e : ℕ) (img : List ℕ) → Ready g b e payload img → FreeEnd g (place_at b e) img → e + header g.granularity g.s < g.size
  unfolding listing
  end_fits e img v w = subst (λ (n : ℕ). n + header g.granularity g.s < g.size) w.last (free_fits g b img v.fine g.size (block_header g.granularity) w.stop)

  one_more : (e : ℕ) (r : Record) (img : List ℕ) → Ready g b e payload img → Fits g payload e r → r.offset ≡ e → FreeEnd g (place_at b e) img
      → listing g b (after_record g b payload r img (units_for_one g payload r)) ≡ grown g (place_of b r) (type_in r) (bytes_of payload r) img
  unfolding Grows
  one_more e r img v f q w = grows g (place_of b r) (type_in r) (bytes_of payload r) img (room_of g b payload e r img v f) (free_at e r img q w) (units_for_one g payload r) (omega arith)

  listing_all : (rs : List Record) (e : ℕ) (img : List ℕ) → Ready g b e payload img → Rising g payload e rs → Adjoining g payload e rs → FreeEnd g (place_at b e) img
      → listing g b (all_after g b payload rs img) ≡ grown_by g b payload e rs img
  listing_all [] e img v h a w =
      parts (listing g b img) (grown_by g b payload e [] img) (sym (append-nil (listing g b img).visits)) w.last (w.stop ∙ ap (λ (x : Bool). pick x end free) (sym (leb_no (end_fits e img v w))))
  listing_all (r ∷ []) e img v h a w = one_more e r img v h.0 a.0 w
  listing_all (r ∷ y ∷ ys) e img v h a w =
      let m = after_record g b payload r img (units_for_one g payload r) in
      listing_all (y ∷ ys) (behind_one g payload r) m (ready_on g b payload e r img v h.0 (units_for_one g payload r)) h.1 a.2 (next_free r e img v h.0 a.0 w a.2.1)
      ∙ ap (λ (xs : List Visit). record { visits = xs; last = (grown_by g b payload (behind_one g payload r) (y ∷ ys) m).last; stop = (grown_by g b payload (behind_one g payload r) (y ∷ ys) m).stop })
      (ap (λ (l : Listing). l.visits ++ visits_of b payload (y ∷ ys)) (one_more e r img v h.0 a.0 w) ∙ append_assoc (listing g b img).visits _ (visits_of b payload (y ∷ ys)))

module _ (g : Geometry) (b e : ℕ) (records payload img : List ℕ) (t : Takes g records img) (v : Ready g b e payload img) (h : Rising g payload e (records_in records))
    (a : Adjoining g payload e (records_in records)) (w : FreeEnd g (place_at b e) img) where
  -- the block's header is before them all
  header_before : block_header g.granularity ≤ e
  unfolding listing
  header_before =
      let walk = ended g b g.size img (block_header g.granularity) e w.stop w.last in
      omega (arith, walk-le g b img v.fine (listing g b img).visits (block_header g.granularity) e walk)

  scans_at : (hd : BlockHeader) (kind : BlockType) → block_header_at g b img ≡ done hd → hd.kind ≡ Known kind
      → (k : ℕ) → scan_block g b (left_at g b records payload img k) ≡ listed hd false (listing g b (left_at g b records payload img k))
  scans_at hd kind q known k =
      scan_by_lem g b hd (left_at g b records payload img k) (Known kind)
      (header_seen g b img (left_at g b records payload img k) (long_at g b e records payload img t v h k)
      (λ o d. elsewhere_at g b e records payload img t v h k (address g b o) (before_all g b payload (records_in records) e (address g b o) h (omega (arith, header_before)))) ∙ q) known

  module _ (xs ys : List Record) (q : records_in records ≡ xs ++ ys) where
    rises : Rising g payload e (xs ++ ys)
    rises = subst (Rising g payload e) q h

    adjoins : Adjoining g payload e (xs ++ ys)
    adjoins = subst (Adjoining g payload e) q a

    left_is : (k : ℕ) → left_at g b records payload img k ≡ (one_by_one (Units k) g b payload 0 (xs ++ ys) img).state.image
    left_is k = ap (λ (x : BatchEnd). x.state.image) (as_one g b e records payload img t v h k ∙ ap (λ (rs : List Record). one_by_one (Units k) g b payload 0 rs img) q)

    left-between : left_at g b records payload img (units_for_all g payload xs) ≡ all_after g b payload xs img
    left-between = left_is (units_for_all g payload xs) ∙ image_between g b payload xs ys e 0 img v rises

    between : listing g b (left_at g b records payload img (units_for_all g payload xs)) ≡ grown_by g b payload e xs img
    between = ap (listing g b) left-between ∙ listing_all g b payload xs e img v (rising_first g b payload xs ys e rises) (adjoining_first g b payload xs ys e adjoins) w

  module _ (xs ys : List Record) (r : Record) (q : records_in records ≡ xs ++ (r ∷ ys)) where
    within : (k : ℕ) → k ≤ units_for_one g payload r
        → left_at g b records payload img (units_for_all g payload xs + k) ≡ after g (place_of b r) (type_in r) (bytes_of payload r) (left_at g b records payload img (units_for_all g payload xs)) k
    within k c =
        left_is xs (r ∷ ys) q (units_for_all g payload xs + k) ∙ image_within g b payload xs ys r e 0 k img v (rises xs (r ∷ ys) q) c
        ∙ ap (λ (m : List ℕ). after_record g b payload r m k) (sym (left-between xs (r ∷ ys) q))

    cut_listed : CutListed g (place_of b r) (type_in r) (bytes_of payload r) (left_at g b records payload img (units_for_all g payload xs))
    unfolding CutListings
    cut_listed =
        let rest = rising_rest g b payload xs (r ∷ ys) e (rises xs (r ∷ ys) q) in
        let next = adjoining_rest g b payload xs (r ∷ ys) e (adjoins xs (r ∷ ys) q) in
        let first = rising_first g b payload xs (r ∷ ys) e (rises xs (r ∷ ys) q) in
        let there = ready_all g b payload xs e img v first in
        subst (CutListed g (place_of b r) (type_in r) (bytes_of payload r)) (sym (left-between xs (r ∷ ys) q))
        (cut_listings g (place_of b r) (type_in r) (bytes_of payload r) (all_after g b payload xs img)
        (room_of g b payload (behind_all g payload e xs) r (all_after g b payload xs img) there rest.0)
        (free_at g b payload (behind_all g payload e xs) r (all_after g b payload xs img) next.0
        (free_all g b payload xs e img v first (adjoining_first g b payload xs (r ∷ ys) e (adjoins xs (r ∷ ys) q)) w next.1)))

pub batch_scans : BatchScans
unfolding BatchScans
batch_scans g b e records payload img t v h a w hd kind q known =
    record {
      scans = scans_at g b e records payload img t v h a w hd kind q known;
      between = between g b e records payload img t v h a w;
      within = within g b e records payload img t v h a w;
      cut_listed = cut_listed g b e records payload img t v h a w;
    }
