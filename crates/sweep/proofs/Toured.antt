-- Tours with one delete mark more: the tour of the object's type is left without it, and every other tour is as it was.
use mathlib.Core.Path.{◌≡◌, refl, sym, ap, ap₂, ◌∙◌, subst}
use mathlib.Core.Logic.{◌⊎◌, inl, inr, ◌≢◌}
use mathlib.Core.Bool.{Bool, true, false, false≢true}
use mathlib.Core.List.{List, [], ◌∷◌, ◌++◌, append_assoc}
use Prim.Native.Nat.{ℕ, zero, suc, ◌+◌, ◌-◌, ◌<◌}
use native.Mathlib.Nat.{le_refl}
use native.Mathlib.Omega.{arith}
use lib.ListN.{length}
use lib.Dec.{eqb}
use borrow.Author.Tests.{eqb-true, eqb-false, ne_eqb}
use Rattle.medium.specs.declared.geometry.Geometry.{Geometry}
use Rattle.medium.specs.Granularity.{pick}
use Rattle.medium.specs.Geometry.{check_of}
use Rattle.medium.specs.Operation.{Answer, done, refused, and_then}
use Rattle.objects.specs.declared.header.ObjectHeader.{ObjectHeader}
use Rattle.objects.specs.Types.{rank_of}
use Rattle.objects.specs.Info.{found, span_of}
use Rattle.objects.specs.Listing.{start_of, Stop, Listing, listing}
use Rattle.blocks.specs.declared.header.BlockType.{BlockType}
use Rattle.blocks.specs.declared.header.BlockHeader.{BlockHeader}
use Rattle.blocks.specs.declared.header.BlockHeaderKind.TheVariants.{Known}
use Rattle.blocks.specs.BlockHeader.{kind_number, type_number, block_header_at}
use Rattle.blocks.specs.Scan.{unless_broken}
use Rattle.storage.specs.Order.{Tour, tour_by, joined, is_finished, finished_in, listed_tour, open_tour, is_of, tour_if, start_visit, open_of, blocks_tour, tour_from, tour, behind_visit}
use Rattle.storage.specs.Laws.{All}
use Rattle.storage.proofs.Lists.{finished_append, all_append}
use Rattle.storage.proofs.Heads.{There, all_there, Before, Sorted, sorted, not_before}
use Rattle.storage.proofs.Finding.{all_of}
use Rattle.shown.proofs.Agreeing.{list_agree}
use Rattle.shown.proofs.Reading.{and_back}
use Rattle.shown.proofs.Walk.{visit}
use Rattle.sweep.proofs.Marks.{Listed, gone_of, Marked, info-then}
use Rattle.sweep.proofs.Relisted.{all_listed_in, agree_aside, kind_then, visits_then, stop_then, else_then}

-- ---- every object of a tour is listed

module _ (g : Geometry) (t : BlockType) (img : List ℕ) where
  -- the tour of one block
  abbrev pub block_tour : ℕ → Tour
  block_tour c = tour_if (is_of g t c img) (open_tour g (start_of g c) img)

  pub one_more : (n c : ℕ) → blocks_tour (suc n) g t (start_visit g c) img ≡ joined (block_tour c) (blocks_tour n g t (start_visit g (c + 1)) img)
  unfolding blocks_tour open_of
  one_more n c = refl

  joined_all : (P : ObjectHeader → Type 0) (a b : Tour) → All P a.objects → All P b.objects → All P (joined a b).objects
  joined_all P a b x y = go a.end
    where
      go : (e : Answer (Unit {0})) → All P (tour_by a.objects e b).objects
      go (done u) = all_append P a.objects b.objects x y
      go (refused n) = x

  block_listed : (c : ℕ) → All (λ h. Listed g t h img) (block_tour c).objects
  unfolding open_tour listing
  block_listed c = go (is_of g t c img) refl
    where
      go : (a : Answer Bool) → is_of g t c img ≡ a → All (λ h. Listed g t h img) (tour_if a (open_tour g (start_of g c) img)).objects
      go (done true) e = all_listed_in g t img c e [] (listing g c img).visits refl
      go (done false) e = tt
      go (refused n) e = tt

  blocks_listed : (n c : ℕ) → All (λ h. Listed g t h img) (blocks_tour n g t (start_visit g c) img).objects
  unfolding blocks_tour open_of
  blocks_listed zero c = tt
  blocks_listed (suc n) c = joined_all (λ h. Listed g t h img) (block_tour c) (blocks_tour n g t (start_visit g (c + 1)) img) (block_listed c) (blocks_listed n (c + 1))

  pub all_listed : All (λ h. Listed g t h img) (tour g t img).objects
  unfolding tour_from
  all_listed = blocks_listed (g.count - 0) 0

-- a block is of one type
pub one_type : (g : Geometry) (t u : BlockType) (b : ℕ) (img : List ℕ) → type_number t ≢ type_number u → is_of g t b img ≡ done true → is_of g u b img ≡ done false
unfolding is_of
one_type g t u b img n e =
    let x = and_back (block_header_at g b img) (λ h. done (eqb (kind_number h.kind) (kind_number (Known t)))) true e in
    let y : eqb (kind_number x.value.kind) (type_number t) ≡ true = same_done x.second in
    ap (λ (a : Answer BlockHeader). and_then a (λ h. done (eqb (kind_number h.kind) (kind_number (Known u))))) x.first
    ∙ ap done (ne_eqb (kind_number x.value.kind) (type_number u) (λ z. n (sym (eqb-true _ _ y) ∙ z)))
  where
    same_done : {a b : Bool} → ◌≡◌ {A = Answer Bool} (done a) (done b) → a ≡ b
    same_done q = cc

-- ---- an object stands once in a tour

module _ (g : Geometry) (t : BlockType) (img : List ℕ) (fine : check_of g (length img) ≡ 0) where
  pub split_once : (xs ys cs bs : List ObjectHeader) (h : ObjectHeader) → Sorted g t img fine (xs ++ h ∷ cs) → xs ++ h ∷ cs ≡ ys ++ h ∷ bs → (xs ≡ ys) × (cs ≡ bs)
  split_once [] [] cs bs h s e = (refl, cc)
  split_once [] (y ∷ ys) cs bs h s e =
      let p : cs ≡ ys ++ h ∷ bs = cc in
      absurd (not_before g t img fine h (all_of (Before g t img fine h) ys h bs (subst (All (Before g t img fine h)) p s.0)))
  split_once (x ∷ xs) [] cs bs h s e =
      let p : x ≡ h = cc in
      absurd (not_before g t img fine h (subst (λ (z : ObjectHeader). Before g t img fine z h) p (all_of (Before g t img fine x) xs h cs s.0)))
  split_once (x ∷ xs) (y ∷ ys) cs bs h s e =
      let p : x ≡ y = cc in
      let q : xs ++ h ∷ cs ≡ ys ++ h ∷ bs = cc in
      let r = split_once xs ys cs bs h s.1 q in
      (ap₂ (λ (z : ObjectHeader) (zs : List ObjectHeader). z ∷ zs) p r.0, r.1)

-- ---- with the mark

-- one object is left out, and the end is the same
pub record Dropped (h : ObjectHeader) (a b : Tour) : Type 0 where
  pub front : List ObjectHeader
  pub back : List ObjectHeader
  pub was : a.objects ≡ front ++ h ∷ back
  pub is : b.objects ≡ front ++ back
  pub end : b.end ≡ a.end

abbrev pub Left : ObjectHeader → Tour → Tour → Type 0
Left h a b = (b ≡ a) ⊎ Dropped h a b

-- in what is joined
pub left_first : (h : ObjectHeader) (a b c : Tour) → Dropped h a b → Dropped h (joined a c) (joined b c)
left_first h a b c d = go a.end refl
  where
    go : (e : Answer (Unit {0})) → a.end ≡ e → Dropped h (joined a c) (joined b c)
    go (done u) q =
        let p : b.end ≡ done u = d.end ∙ q in
        record {
          front = d.front;
          back = d.back ++ c.objects;
          was = ap (λ (x : Answer (Unit {0})). (tour_by a.objects x c).objects) q ∙ ap (λ (x : List ObjectHeader). x ++ c.objects) d.was ∙ append_assoc d.front (h ∷ d.back) c.objects;
          is = ap (λ (x : Answer (Unit {0})). (tour_by b.objects x c).objects) p ∙ ap (λ (x : List ObjectHeader). x ++ c.objects) d.is ∙ append_assoc d.front d.back c.objects;
          end = ap (λ (x : Answer (Unit {0})). (tour_by b.objects x c).end) p ∙ sym (ap (λ (x : Answer (Unit {0})). (tour_by a.objects x c).end) q);
        }
    go (refused n) q =
        let p : b.end ≡ refused n = d.end ∙ q in
        record {
          front = d.front;
          back = d.back;
          was = ap (λ (x : Answer (Unit {0})). (tour_by a.objects x c).objects) q ∙ d.was;
          is = ap (λ (x : Answer (Unit {0})). (tour_by b.objects x c).objects) p ∙ d.is;
          end = ap (λ (x : Answer (Unit {0})). (tour_by b.objects x c).end) p ∙ sym (ap (λ (x : Answer (Unit {0})). (tour_by a.objects x c).end) q);
        }

left_second : (h : ObjectHeader) (x a b : Tour) → Dropped h a b → Left h (joined x a) (joined x b)
left_second h x a b d = go x.end
  where
    go : (e : Answer (Unit {0})) → Left h (tour_by x.objects e a) (tour_by x.objects e b)
    go (done u) =
        inr
        (record {
          front = x.objects ++ d.front;
          back = d.back;
          was = ap (λ (l : List ObjectHeader). x.objects ++ l) d.was ∙ sym (append_assoc x.objects d.front (h ∷ d.back));
          is = ap (λ (l : List ObjectHeader). x.objects ++ l) d.is ∙ sym (append_assoc x.objects d.front d.back);
          end = d.end;
        })
    go (refused n) = inl refl

module _ (g : Geometry) (t : BlockType) (h : ObjectHeader) (img : List ℕ) (fine : check_of g (length img) ≡ 0) (v : Listed g t h img) (other : List ℕ) (m : Marked g h img other) where
  abbrev b : ℕ
  b = h.location.block

  finished_h : is_finished h ≡ true
  finished_h = rw v.state refl

  -- ---- one block, of any type

  block_else : (u : BlockType) (c : ℕ) → c ≢ b → block_tour g u other c ≡ block_tour g u img c
  unfolding open_tour listing
  block_else u c n = ap₂ (λ (a : Answer Bool) (l : Listing). tour_if a (listed_tour l)) (kind_then g t h img fine v other m u c) (else_then g t h img fine v other m c n)

  block_shut : (u : BlockType) → (is_of g u b img ≡ done true → ⊥) → block_tour g u other b ≡ block_tour g u img b
  block_shut u n = ap (λ (a : Answer Bool). tour_if a (open_tour g (start_of g b) other)) (kind_then g t h img fine v other m u b) ∙ go (is_of g u b img) n
    where
      go : (a : Answer Bool) → (a ≡ done true → ⊥) → tour_if a (open_tour g (start_of g b) other) ≡ tour_if a (open_tour g (start_of g b) img)
      go (done true) n = absurd (n refl)
      go (done false) n = refl
      go (refused k) n = refl

  block_open : (u : BlockType) → is_of g u b img ≡ done true → Dropped h (block_tour g u img b) (block_tour g u other b)
  unfolding open_tour listing
  block_open u e =
      let k : is_of g u b other ≡ done true = kind_then g t h img fine v other m u b ∙ e in
      record {
        front = finished_in v.before;
        back = finished_in v.after;
        was = ap (λ (a : Answer Bool). (tour_if a (listed_tour (listing g b img))).objects) e ∙ ap finished_in v.is
            ∙ finished_append v.before (visit g b h.location.offset h ∷ v.after)
            ∙ ap (λ (x : Bool). finished_in v.before ++ pick x (h ∷ finished_in v.after) (finished_in v.after)) finished_h;
        is = ap (λ (a : Answer Bool). (tour_if a (listed_tour (listing g b other))).objects) k ∙ ap finished_in (visits_then g t h img fine v other m)
            ∙ finished_append v.before (visit g b h.location.offset (gone_of h v.type) ∷ v.after);
        end = ap (λ (a : Answer Bool). (tour_if a (listed_tour (listing g b other))).end) k ∙ ap (λ (s : Stop). unless_broken s tt) (stop_then g t h img fine v other m)
            ∙ sym (ap (λ (a : Answer Bool). (tour_if a (listed_tour (listing g b img))).end) e);
      }

  -- ---- blocks in a row

  blocks_else : (u : BlockType) (n c : ℕ) → b < c → blocks_tour n g u (start_visit g c) other ≡ blocks_tour n g u (start_visit g c) img
  unfolding blocks_tour open_of
  blocks_else u zero c l = refl
  blocks_else u (suc n) c l = ap₂ joined (block_else u c (λ e. omega arith)) (blocks_else u n (c + 1) (omega arith))

  blocks_shut : (u : BlockType) → (is_of g u b img ≡ done true → ⊥) → (n c : ℕ) → blocks_tour n g u (start_visit g c) other ≡ blocks_tour n g u (start_visit g c) img
  unfolding blocks_tour open_of
  blocks_shut u k zero c = refl
  blocks_shut u k (suc n) c = ap₂ joined (one (eqb c b) refl) (blocks_shut u k n (c + 1))
    where
      one : (x : Bool) → eqb c b ≡ x → block_tour g u other c ≡ block_tour g u img c
      one true q = subst (λ (d : ℕ). block_tour g u other d ≡ block_tour g u img d) (sym (eqb-true c b q)) (block_shut u k)
      one false q = block_else u c (eqb-false c b q)

  blocks_open : (n c : ℕ) → Left h (blocks_tour n g t (start_visit g c) img) (blocks_tour n g t (start_visit g c) other)
  unfolding blocks_tour open_of
  blocks_open zero c = inl refl
  blocks_open (suc n) c = go (eqb c b) refl (blocks_open n (c + 1))
    where
      go : (x : Bool) → eqb c b ≡ x → Left h (blocks_tour n g t (start_visit g (c + 1)) img) (blocks_tour n g t (start_visit g (c + 1)) other)
          → Left h (joined (block_tour g t img c) (blocks_tour n g t (start_visit g (c + 1)) img)) (joined (block_tour g t other c) (blocks_tour n g t (start_visit g (c + 1)) other))
      go true q rest =
          let e : c ≡ b = eqb-true c b q in
          inr
          (subst (λ (x : Tour). Dropped h (joined (block_tour g t img c) (blocks_tour n g t (start_visit g (c + 1)) img)) (joined (block_tour g t other c) x)) (sym (blocks_else t n (c + 1) (omega arith)))
          (left_first h (block_tour g t img c) (block_tour g t other c) (blocks_tour n g t (start_visit g (c + 1)) img)
          (subst (λ (d : ℕ). Dropped h (block_tour g t img d) (block_tour g t other d)) (sym e) (block_open t v.kind))))
      go false q (inl r) = inl (ap₂ joined (block_else t c (eqb-false c b q)) r)
      go false q (inr d) =
          subst (λ (x : Tour). Left h (joined (block_tour g t img c) (blocks_tour n g t (start_visit g (c + 1)) img)) (joined x (blocks_tour n g t (start_visit g (c + 1)) other))) (sym (block_else t c (eqb-false c b q)))
          (left_second h (block_tour g t img c) (blocks_tour n g t (start_visit g (c + 1)) img) (blocks_tour n g t (start_visit g (c + 1)) other) d)

  -- ---- the tours of the store

  -- of another type
  pub tour_shut : (u : BlockType) → type_number t ≢ type_number u → tour g u other ≡ tour g u img
  unfolding tour_from
  tour_shut u n = blocks_shut u (λ e. no (sym e ∙ one_type g t u b img n v.kind)) (g.count - 0) 0
    where
      no : done true ≡ done false → ⊥
      no q = let z : true ≡ false = cc in absurd (false≢true (sym z))

  -- from behind the object on
  pub tour_behind : (u : BlockType) → tour_from g u (behind_visit g h) other ≡ tour_from g u (behind_visit g h) img
  unfolding tour_from blocks_tour open_of open_tour
  tour_behind u = go (g.count - b)
    where
      go : (n : ℕ) → blocks_tour n g u (behind_visit g h) other ≡ blocks_tour n g u (behind_visit g h) img
      go zero = refl
      go (suc n) =
          ap₂ (λ (l : Listing) (x : Tour). joined (listed_tour l) x)
          (list_agree g.size g (behind_visit g h).place img other (agree_aside g t h img fine v other m (h.location.offset + span_of g.granularity g.s h) g.size (inr (le_refl _))))
          (blocks_else u n (b + 1) (omega arith))

  -- of its own type: it is left out
  module _ (front back : List ObjectHeader) (was : (tour g t img).objects ≡ front ++ h ∷ back) where
    not_there : tour g t other ≡ tour g t img → ⊥
    not_there e =
        let a : There g t other (ap (check_of g) m.long ∙ fine) h =
        all_of (There g t other (ap (check_of g) m.long ∙ fine)) front h back
        (all_there g t other (ap (check_of g) m.long ∙ fine) (front ++ h ∷ back) (start_visit g 0) (λ o. absurd (false≢true o)) (ap (λ (x : Tour). x.objects) e ∙ was)) in
        let q : done (found h) ≡ done (found (gone_of h v.type)) = sym a.0 ∙ info-then g t h img fine v other m in
        let z : h ≡ gone_of h v.type = cc in
        let y : ◌≡◌ {A = ℕ} 2 3 = sym (ap rank_of v.state) ∙ ap (λ (x : ObjectHeader). rank_of x.state) z in
        absurd (omega arith)

    pub tour-then : ((tour g t other).objects ≡ front ++ back) × ((tour g t other).end ≡ (tour g t img).end)
    unfolding tour_from
    tour-then = go (blocks_open (g.count - 0) 0)
      where
        go : Left h (tour g t img) (tour g t other) → ((tour g t other).objects ≡ front ++ back) × ((tour g t other).end ≡ (tour g t img).end)
        go (inl e) = absurd (not_there e)
        go (inr d) =
            let u = split_once g t img fine d.front front d.back back h (subst (Sorted g t img fine) d.was in_order) (sym d.was ∙ was) in
            (d.is ∙ ap₂ (λ (x y : List ObjectHeader). x ++ y) u.0 u.1, d.end)
          where
            in_order : Sorted g t img fine (tour g t img).objects
            in_order = (sorted g t img fine (tour g t img).objects (start_visit g 0) (λ o. absurd (false≢true o)) refl).1
