-- A walk is the objects that a listing goes over from one offset of a block to another.
use mathlib.Core.Path.{◌≡◌, refl, sym, ap, ap₂, ◌∙◌, subst}
use mathlib.Core.List.{List, [], ◌∷◌, ◌++◌}
use Prim.Native.Nat.{ℕ, zero, suc, ◌+◌, ◌-◌, ◌≤◌, ◌<◌}
use native.Mathlib.Nat.{sub-zero}
use native.Mathlib.Omega.{arith}
use lib.ListN.{length}
use borrow.Author.Tests.{le-leb, lt-leb}
use Rattle.medium.specs.declared.geometry.Geometry.{Geometry}
use Rattle.medium.specs.Granularity.{size_at, header}
use Rattle.medium.specs.Geometry.{check_of}
use Rattle.medium.specs.Operation.{Answer, done, refused}
use Rattle.objects.specs.declared.state.CompositeObjectState.{CompositeObjectState}
use Rattle.objects.specs.declared.state.CompositeObjectState.TheVariants.{Free, Allocated}
use Rattle.objects.specs.declared.location.ObjectLocation.{ObjectLocation}
use Rattle.objects.specs.declared.header.ObjectHeader.{ObjectHeader}
use Rattle.objects.specs.declared.iterator.ObjectIterator.{ObjectIterator}
use Rattle.objects.specs.Header.{header_at, payload_of}
use Rattle.objects.specs.Info.{Info, found, info_in, info_at, total_of, span_of}
use Rattle.objects.specs.Listing.{placed, next_in, next_of, Visit, free, Listing, visited, list_by, list_from, Met, object, free_place, block_end}
use Rattle.medium.proofs.Places.{Laid, laid}
use Rattle.medium.proofs.Checks.{Sound, fine_of_check}
use Rattle.objects.proofs.Listing.{next_found}
use Rattle.shown.proofs.Reading.{and_back}
use Rattle.shown.proofs.Agreeing.{short_size, Agree, agree_less, info_agree}

module _ (g : Geometry) (b : ℕ) where
  abbrev pub place : ℕ → ObjectLocation
  place o = record { block = b; offset = o }

  abbrev pub visit : ℕ → ObjectHeader → Visit
  visit o h = record { offset = o; object = h }

  abbrev pub span_at : ObjectHeader → ℕ
  span_at h = span_of g.granularity g.s h

  -- ---- one step

  pub record Stepped (o : ℕ) (m : List ℕ) (h : ObjectHeader) (j : ObjectIterator) : Type 0 where
    pub info : info_at g (place o) m ≡ done (found h)
    pub behind : placed b (o + span_at h) ≡ j
    pub fits : o + header g.granularity g.s < g.size

  pub next_back : (o : ℕ) (m : List ℕ) (h : ObjectHeader) (j : ObjectIterator) → next_of g (placed b o) m ≡ done (object h j) → Stepped o m h j
  next_back o m h j e = let f = next_found g (placed b o) m h j e in record { info = f.object; behind = sym f.then; fits = f.fits }

  module _ (m : List ℕ) (fine : check_of g (length m) ≡ 0) where
    pub next-in : (o : ℕ) → o + header g.granularity g.s < g.size → next_of g (placed b o) m ≡ next_in g (placed b o) (info_at g (place o) m)
    unfolding next_of
    next-in o f = rw (fine, lt-leb g.size (o + header g.granularity g.s) f)

    pub next_end : (o : ℕ) → g.size ≤ o + header g.granularity g.s → next_of g (placed b o) m ≡ done block_end
    unfolding next_of
    next_end o f = rw (fine, le-leb g.size (o + header g.granularity g.s) f)

    pub next-object : (o : ℕ) (h : ObjectHeader) → o + header g.granularity g.s < g.size → info_at g (place o) m ≡ done (found h)
        → next_of g (placed b o) m ≡ done (object h (placed b (o + span_at h)))
    next-object o h f i = next-in o f ∙ ap (next_in g (placed b o)) i

    sound : Sound g
    sound = (fine_of_check g (length m) (check_of g (length m)) refl fine).sound

    pub span_least : (h : ObjectHeader) → (header g.granularity g.s + payload_of g.s h ≤ span_at h) × (0 < header g.granularity g.s)
    unfolding total_of
    span_least h = let l : Laid g.granularity g.s (payload_of g.s h) = laid g.granularity g.s (payload_of g.s h) sound.s_most in (l.near, omega (arith, l))

  -- ---- the header and the location of what is found

  pub info_back : (o : ℕ) (m : List ℕ) (h : ObjectHeader) → info_at g (place o) m ≡ done (found h) → header_at g (place o) m ≡ done h
  unfolding info_at
  info_back o m h e = let x = and_back (header_at g (place o) m) (λ y. done (info_in y.state y)) (found h) e in x.first ∙ ap done (go x.value x.value.state x.second)
    where
      go : (y : ObjectHeader) (st : CompositeObjectState) → ◌≡◌ {A = Answer Info} (done (info_in st y)) (done (found h)) → y ≡ h
      go y Free r = let z : ◌≡◌ {A = ℕ} 0 1 = cc in absurd (omega arith)
      go y (Allocated t d) r = cc

-- ---- a walk: the objects that a listing goes over from one offset to another

module _ (g : Geometry) (b : ℕ) where
  abbrev pub Walked : List ℕ → ℕ → List Visit → ℕ → Type 0
  Walked m o [] e = o ≡ e
  Walked m o (v ∷ vs) e = (v.offset ≡ o) × (info_at g (place g b o) m ≡ done (found v.object)) × (o + header g.granularity g.s < g.size) × Walked m (o + span_at g b v.object) vs e

  module _ (m : List ℕ) (fine : check_of g (length m) ≡ 0) where
    pub walk-le : (vs : List Visit) (o e : ℕ) → Walked m o vs e → o + length vs ≤ e
    walk-le [] o e w = omega arith
    walk-le (v ∷ vs) o e w = omega (arith, walk-le vs (o + span_at g b v.object) e w.3, span_least g b m fine v.object)

    -- the listing goes over a walk, and on from its end
    pub unwalk : (vs : List Visit) (o e n : ℕ) → Walked m o vs e → length vs ≤ n → (list_from n g (placed b o) m).visits ≡ vs ++ (list_from (n - length vs) g (placed b e) m).visits
    unfolding list_from
    unwalk [] o e n w h = ap₂ (λ (k x : ℕ). (list_from k g (placed b x) m).visits) (sym (sub-zero n)) w
    unwalk (v ∷ vs) o e zero w h = absurd (omega arith)
    unwalk (v ∷ vs) o e (suc n) w h =
        let k : n - length vs ≡ suc n - suc (length vs) = omega arith in
        ap (λ (x : Answer Met). (list_by x (placed b o) (λ j. list_from n g j m)).visits) (next-object g b m fine o v.object w.2 w.1)
        ∙ ap₂ (λ (x : ℕ) (xs : List Visit). visit g b x v.object ∷ xs) (sym w.0) (unwalk vs (o + span_at g b v.object) e n w.3 (omega arith))
        ∙ ap (λ (x : ℕ). v ∷ (vs ++ (list_from x g (placed b e) m).visits)) k

  -- one walk and then another
  pub walk_join : (m : List ℕ) (vs ws : List Visit) (o x e : ℕ) → Walked m o vs x → Walked m x ws e → Walked m o (vs ++ ws) e
  walk_join m [] ws o x e w k = subst (λ (y : ℕ). Walked m y ws e) (sym w) k
  walk_join m (v ∷ vs) ws o x e w k = (w.0, w.1, w.2, walk_join m vs ws (o + span_at g b v.object) x e w.3 k)

  -- the walk to a visit of a listing, and the rest of the listing behind it
  pub record Reached (n : ℕ) (m : List ℕ) (o : ℕ) (before after : List Visit) (v : Visit) : Type 0 where
    pub left : ℕ
    pub walked : Walked m o before v.offset
    pub info : info_at g (place g b v.offset) m ≡ done (found v.object)
    pub fits : v.offset + header g.granularity g.s < g.size
    pub fuel : n ≡ length before + suc left
    pub rest : (list_from left g (placed b (v.offset + span_at g b v.object)) m).visits ≡ after
    pub last : (list_from left g (placed b (v.offset + span_at g b v.object)) m).last ≡ (list_from n g (placed b o) m).last
    pub stop : (list_from left g (placed b (v.offset + span_at g b v.object)) m).stop ≡ (list_from n g (placed b o) m).stop

  module _ (n : ℕ) (m : List ℕ) (o : ℕ) (h : ObjectHeader) (q : next_of g (placed b o) m ≡ done (object h (placed b (o + span_at g b h)))) where
    stepped : Stepped g b o m h (placed b (o + span_at g b h))
    stepped = next_back g b o m h (placed b (o + span_at g b h)) q

    goes : (f : Listing → ℕ) → f (list_from (suc n) g (placed b o) m) ≡ f (visited (placed b o) h (list_from n g (placed b (o + span_at g b h)) m))
    unfolding list_from
    goes f = ap (λ (x : Answer Met). f (list_by x (placed b o) (λ j. list_from n g j m))) q

    stops : (list_from (suc n) g (placed b o) m).stop ≡ (list_from n g (placed b (o + span_at g b h)) m).stop
    unfolding list_from
    stops = ap (λ (x : Answer Met). (list_by x (placed b o) (λ j. list_from n g j m)).stop) q

    at_once : Reached (suc n) m o [] (list_from n g (placed b (o + span_at g b h)) m).visits (visit g b o h)
    at_once =
        record {
          left = n;
          walked = refl;
          info = stepped.info;
          fits = stepped.fits;
          fuel = omega arith;
          rest = refl;
          last = sym (goes (λ x. x.last));
          stop = sym stops;
        }

    one_more : (before after : List Visit) (v : Visit) → Reached n m (o + span_at g b h) before after v → Reached (suc n) m o (visit g b o h ∷ before) after v
    one_more before after v r =
        record {
          left = r.left;
          walked = (refl, stepped.info, stepped.fits, r.walked);
          info = r.info;
          fits = r.fits;
          fuel = omega (arith, r.fuel);
          rest = r.rest;
          last = r.last ∙ sym (goes (λ x. x.last));
          stop = r.stop ∙ sym stops;
        }

  pub reached : (n : ℕ) (m : List ℕ) (o : ℕ) (before after : List Visit) (v : Visit) → (list_from n g (placed b o) m).visits ≡ before ++ v ∷ after → Reached n m o before after v
  unfolding list_from
  reached zero m o [] after v e = let z : ◌≡◌ {A = ℕ} 0 1 = cc in absurd (omega arith)
  reached zero m o (u ∷ us) after v e = let z : ◌≡◌ {A = ℕ} 0 1 = cc in absurd (omega arith)
  reached (suc n) m o before after v e = go (next_of g (placed b o) m) refl before e (λ x us k. reached n m x us after v k)
    where
      go : (x : Answer Met) → next_of g (placed b o) m ≡ x → (before : List Visit) → (list_by x (placed b o) (λ j. list_from n g j m)).visits ≡ before ++ v ∷ after
          → ((y : ℕ) (us : List Visit) → (list_from n g (placed b y) m).visits ≡ us ++ v ∷ after → Reached n m y us after v) → Reached (suc n) m o before after v
      go (done (object h j)) q [] r rec =
          let s : placed b (o + span_at g b h) ≡ j = (next_back g b o m h j q).behind in
          let i : visit g b o h ≡ v = cc in
          let k : (list_from n g j m).visits ≡ after = cc in
          subst (λ (x : List Visit). Reached (suc n) m o [] x v) (ap (λ (x : ObjectIterator). (list_from n g x m).visits) s ∙ k)
          (subst (λ (x : Visit). Reached (suc n) m o [] (list_from n g (placed b (o + span_at g b h)) m).visits x) i (at_once n m o h (q ∙ ap (λ (x : ObjectIterator). done (object h x)) (sym s))))
      go (done (object h j)) q (u ∷ us) r rec =
          let s : placed b (o + span_at g b h) ≡ j = (next_back g b o m h j q).behind in
          let i : visit g b o h ≡ u = cc in
          let k : (list_from n g j m).visits ≡ us ++ v ∷ after = cc in
          subst (λ (x : Visit). Reached (suc n) m o (x ∷ us) after v) i
          (one_more n m o h (q ∙ ap (λ (x : ObjectIterator). done (object h x)) (sym s)) us after v (rec (o + span_at g b h) us (ap (λ (x : ObjectIterator). (list_from n g x m).visits) s ∙ k)))
      go (done free_place) q [] r rec = let z : ◌≡◌ {A = ℕ} 0 1 = cc in absurd (omega arith)
      go (done free_place) q (u ∷ us) r rec = let z : ◌≡◌ {A = ℕ} 0 1 = cc in absurd (omega arith)
      go (done block_end) q [] r rec = let z : ◌≡◌ {A = ℕ} 0 1 = cc in absurd (omega arith)
      go (done block_end) q (u ∷ us) r rec = let z : ◌≡◌ {A = ℕ} 0 1 = cc in absurd (omega arith)
      go (refused k) q [] r rec = let z : ◌≡◌ {A = ℕ} 0 1 = cc in absurd (omega arith)
      go (refused k) q (u ∷ us) r rec = let z : ◌≡◌ {A = ℕ} 0 1 = cc in absurd (omega arith)

  -- a listing that stops at a free place walked up to it
  pub ended : (n : ℕ) (m : List ℕ) (o e : ℕ) → (list_from n g (placed b o) m).stop ≡ free → (list_from n g (placed b o) m).last ≡ e → Walked m o (list_from n g (placed b o) m).visits e
  unfolding list_from
  ended zero m o e s l = let z : ◌≡◌ {A = ℕ} 0 1 = cc in absurd (omega arith)
  ended (suc n) m o e s l = go (next_of g (placed b o) m) refl s l (λ x u v. ended n m x e u v)
    where
      go : (x : Answer Met) → next_of g (placed b o) m ≡ x → (list_by x (placed b o) (λ j. list_from n g j m)).stop ≡ free → (list_by x (placed b o) (λ j. list_from n g j m)).last ≡ e
          → ((y : ℕ) → (list_from n g (placed b y) m).stop ≡ free → (list_from n g (placed b y) m).last ≡ e → Walked m y (list_from n g (placed b y) m).visits e)
          → Walked m o (list_by x (placed b o) (λ j. list_from n g j m)).visits e
      go (done (object h j)) q s l rec =
          let d : Stepped g b o m h j = next_back g b o m h j q in (
            refl,
            d.info,
            d.fits,
            subst (λ (x : ObjectIterator). Walked m (o + span_at g b h) (list_from n g x m).visits e) d.behind
                (rec (o + span_at g b h) (ap (λ (x : ObjectIterator). (list_from n g x m).stop) d.behind ∙ s) (ap (λ (x : ObjectIterator). (list_from n g x m).last) d.behind ∙ l)),
          )
      go (done free_place) q s l rec = l
      go (done block_end) q s l rec = let z : ◌≡◌ {A = ℕ} 0 1 = cc in absurd (omega arith)
      go (refused k) q s l rec = let z : ◌≡◌ {A = ℕ} 0 1 = cc in absurd (omega arith)

  -- images that agree there have it in common
  pub walk_same : (img other : List ℕ) → check_of g (length img) ≡ 0 → (vs : List Visit) (o e : ℕ) → Walked img o vs e → Agree g b o e img other → Walked other o vs e
  walk_same img other fine [] o e w f = w
  walk_same img other fine (v ∷ vs) o e w f =
      let h : o + span_at g b v.object + length vs ≤ e = walk-le img fine vs (o + span_at g b v.object) e w.3 in
      let l : header g.granularity g.s + payload_of g.s v.object ≤ span_at g b v.object = (span_least g b img fine v.object).0 in
      let plain : size_at g.granularity + g.s ≤ header g.granularity g.s = (laid g.granularity g.s 0 (short_size g (length img) fine)).size_plain in (
        w.0,
        info_agree g (place g b o) e img other f (λ _. omega arith) (λ _. omega arith) ∙ w.1,
        w.2,
        walk_same img other fine vs (o + span_at g b v.object) e w.3 (agree_less g b o e (o + span_at g b v.object) e img other f (omega arith) (omega arith)),
      )
