-- An image that a move may leave: which blocks are as they were, what its two blocks list, and where a lookup finds the street.
use mathlib.Core.Path.{◌≡◌, refl, sym, ap, ◌∙◌, subst}
use mathlib.Core.Logic.{inl, inr, ◌≢◌}
use mathlib.Core.Bool.{Bool, true, false}
use mathlib.Core.List.{List, [], ◌∷◌, ◌++◌, append-nil}
use Prim.Native.Nat.{ℕ, zero, suc, ◌+◌, ◌*◌, ◌≤◌, ◌<◌, ◌-◌}
use native.Mathlib.Nat.{le_refl}
use native.Mathlib.Omega.{arith}
use lib.ListN.{length, get_or}
use lib.Dec.{eqb}
use borrow.Author.Tests.{eqb-true, eqb-false, ne_eqb}
use Rattle.medium.specs.declared.geometry.Geometry.{Geometry}
use Rattle.medium.specs.Granularity.{pick, delete_at, header, block_header}
use Rattle.medium.specs.Geometry.{check_of, address}
use Rattle.medium.specs.Operation.{Answer, done, refused, and_then}
use Rattle.medium.specs.Medium.{part}
use Rattle.objects.specs.declared.types.ObjectType.{ObjectType}
use Rattle.objects.specs.declared.location.ObjectLocation.{ObjectLocation}
use Rattle.objects.specs.declared.header.ObjectHeader.{ObjectHeader}
use Rattle.objects.specs.declared.iterator.ObjectIterator.{ObjectIterator}
use Rattle.objects.specs.Numbers.{number}
use Rattle.objects.specs.Types.{rank_of}
use Rattle.objects.specs.Location.{location_length, location_in}
use Rattle.objects.specs.Header.{payload_of}
use Rattle.objects.specs.Info.{found, info_at, total_of, span_of}
use Rattle.objects.specs.Payload.{payload_at}
use Rattle.objects.specs.Listing.{placed, Met, object, free_place, block_end, next_of, Visit, Stop, end, free, broken, Listing, visited, list_by, list_from, listing}
use Rattle.objects.specs.Metadata.{metadata_header}
use Rattle.blocks.specs.declared.header.BlockType.TheVariants.{Metadata}
use Rattle.blocks.specs.declared.header.BlockHeader.{BlockHeader}
use Rattle.blocks.specs.BlockHeader.{kind_number}
use Rattle.blocks.specs.Scan.{unless_broken}
use Rattle.storage.specs.Order.{Tour, is_finished, finished_in, listed_tour, is_of}
use Rattle.storage.specs.Lookup.{is_name, is_named, lookup}
use Rattle.powercut.specs.Demand.{Whole, Gone, address_of, payload_in, copy_of, Clear, Movable, Framed}
use Rattle.powercut.specs.Listed.{Listable}
use Rattle.powercut.specs.Again.{gone_of}
use Rattle.powercut.specs.Scans.{Ended}
use Rattle.fresh.specs.Scans.{NoneFinished}
use Rattle.byname.specs.Street.{Outside, Other, Others, Street}
use Rattle.medium.proofs.Bytes.{Off}
use Rattle.medium.proofs.Frame.{other_block}
use Rattle.objects.proofs.Listing.{next_found}
use Rattle.blocks.proofs.Seen.{header_seen}
use Rattle.shown.proofs.Agreeing.{Agree, agree_of_lem, agree_less, list_agree, found_at}
use Rattle.shown.proofs.Walk.{place, visit, span_at, span_least, Walked, walk-le, unwalk, walk_join, Reached, reached, ended, walk_same}
use Rattle.shown.proofs.Steps.{at_object, stop_behind}
use Rattle.powercut.proofs.Survive.{told}
use Rattle.powercut.proofs.Scans.{room_is, end_is}
use Rattle.fresh.proofs.Scans.{fits, walked}
use Rattle.byname.proofs.Agreed.{name_same, metadata_same, named_same}
use Rattle.byname.proofs.Payloads.{metadata_in, metadata_of_lem, named_by}
use Rattle.storage.proofs.Lists.{finished_append, all_append}
use Rattle.byname.proofs.Search.{NotIt, block_tour, Quiet, found_in, listed_block, other-kind, has-kind}
use Rattle.byname.proofs.Kept.{mark_inside, whole_img, original_inside, block-agrees}

pub no_finished : (vs : List Visit) → NoneFinished vs → finished_in vs ≡ []
no_finished [] x = refl
no_finished (u ∷ vs) x = rw (ne_eqb (rank_of u.object.state) 2 x.0) (no_finished vs x.1)

module _ (g : Geometry) (path : List ℕ) (hash : ℕ) (h : ObjectHeader) (to : ObjectLocation) (room : ℕ) (t : ObjectType) (img : List ℕ)
    (v : Movable g h to room t img) (w : Listable g h to room img) (st : Street g path hash h to img room w) where
  abbrev src : ℕ
  src = h.location.block

  abbrev off : ℕ
  off = h.location.offset

  abbrev dst : ℕ
  dst = to.block

  abbrev start : ℕ
  start = block_header g.granularity

  abbrev sp : ℕ
  sp = span_of g.granularity g.s h

  abbrev p : ℕ
  p = address_of g h.location

  abbrev q : ℕ
  q = address_of g to

  abbrev pay : List ℕ
  pay = payload_in g h img

  -- what stands before the original in its block
  abbrev front : List Visit
  front = w.listed.before

  -- the original in the listing of its block
  pub at_original : Reached g src g.size img start front w.listed.after (visit g src off h)
  unfolding listing
  at_original = reached g src g.size img start front w.listed.after (visit g src off h) w.listed.is

  -- and what stands behind it
  abbrev behind : List Visit
  behind = (list_from at_original.left g (placed src (off + sp)) img).visits

  -- with the destination in the original's own block, it lies behind the original
  pub behind_original : src ≡ dst → off + sp ≤ to.offset
  unfolding listing
  behind_original e =
      let k : Walked g src img (off + sp) behind to.offset =
      ended g src at_original.left img (off + sp) to.offset (at_original.stop ∙ ap (λ (b : ℕ). (listing g b img).stop) e ∙ w.stop) (at_original.last ∙ ap (λ (b : ℕ). (listing g b img).last) e ∙ w.last) in
      omega (arith, walk-le g src img v.fine behind (off + sp) to.offset k)

  pub finished_h : is_finished h ≡ true
  finished_h = rw v.finished refl

  -- ---- an image that a move may leave: all but the copy's span and the original's mark is as it was

  module _ (m : List ℕ) (fr : Framed g h to img m) where
    pub fine : check_of g (length m) ≡ 0
    fine = ap (check_of g) fr.long ∙ v.fine

    pub mark_in : delete_at g.granularity < sp
    mark_in = mark_inside g h to room t img v

    pub whole_in : off + sp ≤ g.size
    whole_in = original_inside g h to room t img v

    in_dst : to.offset + sp ≤ g.size
    in_dst = omega (arith, v.large, v.in_block)

    agree-block : (b : ℕ) → b ≢ src → b ≢ dst → Agree g b 0 g.size img m
    agree-block b ns nd = block-agrees g h to room t img v m fr b ns nd

    kept_in : (b o : ℕ) → b ≢ src → b ≢ dst → o < g.size → get_or m (address g b o) 0 ≡ get_or img (address g b o) 0
    kept_in b o ns nd lt = (agree-block b ns nd).same o (omega arith) lt

    -- ---- another street answers as before

    other-no : (o : ObjectHeader) (e : ℕ) → Other g path hash h to img o → Agree g o.location.block o.location.offset e img m
        → ((x : ℕ) → x ≤ metadata_header g → payload_at g o + x ≤ g.size → payload_at g o + x ≤ e) → is_named g path hash o m ≡ done false
    other-no o e x a reach =
        named_same g path hash o img m (metadata_same g o e img m a reach) (λ k r s. agree-block k.name.block (x.outside k r s).0 (x.outside k r s).1) ∙ x.other

    -- those of a walk through bytes that are as they were
    walk_no : (b : ℕ) (vs : List Visit) (o e : ℕ) → Walked g b img o vs e → Agree g b o e img m → Others g path hash h to img vs → NotIt g path hash m (finished_in vs)
    walk_no b [] o e k a x = tt
    walk_no b (u ∷ vs) o e k a x =
        let l : o + span_at g b u.object + length vs ≤ e = walk-le g b img v.fine vs (o + span_at g b u.object) e k.3 in
        go l (is_finished u.object) refl
        (walk_no b vs (o + span_at g b u.object) e k.3 (agree_less g b o e (o + span_at g b u.object) e img m a (omega arith) (le_refl e)) x.1)
      where
        go : o + span_at g b u.object + length vs ≤ e → (f : Bool) → is_finished u.object ≡ f → NotIt g path hash m (finished_in vs) → NotIt g path hash m (pick f (u.object ∷ finished_in vs) (finished_in vs))
        go l true e1 rest =
            let y : Other g path hash h to img u.object = x.0 e1 in
            let at : u.object.location ≡ place g b o = found_at g (place g b o) img u.object k.1 in (
              other-no u.object e y (subst (λ (z : ObjectLocation). Agree g z.block z.offset e img m) (sym at) a)
                  (λ n c _. omega (arith, y.long, span_least g b img v.fine u.object, ap (λ (z : ObjectLocation). z.offset) at)),
              rest,
            )
        go l false e1 rest = rest

    -- and those of a listing whose bytes are as they were from its place on
    pub list-no : (n b o : ℕ) → Agree g b o g.size img m → Others g path hash h to img (list_from n g (placed b o) img).visits → NotIt g path hash m (finished_in (list_from n g (placed b o) img).visits)
    unfolding list_from
    list-no zero b o a x = tt
    list-no (suc n) b o a x = go (next_of g (placed b o) img) refl x (λ y c d. list-no n b y c d)
      where
        Rest : Type 0
        Rest = (y : ℕ) → Agree g b y g.size img m → Others g path hash h to img (list_from n g (placed b y) img).visits → NotIt g path hash m (finished_in (list_from n g (placed b y) img).visits)

        met : (c : ObjectHeader) → info_at g (place g b o) img ≡ done (found c) → (vs : List Visit) → (is_finished c ≡ true → Other g path hash h to img c) → NotIt g path hash m (finished_in vs)
            → (f : Bool) → is_finished c ≡ f → NotIt g path hash m (pick f (c ∷ finished_in vs) (finished_in vs))
        met c i vs y r true e1 =
            let at : c.location ≡ place g b o = found_at g (place g b o) img c i in
            (other-no c g.size (y e1) (subst (λ (z : ObjectLocation). Agree g z.block z.offset g.size img m) (sym at) a) (λ _ _ k. k), r)
        met c i vs y r false e1 = r

        go : (s : Answer Met) → next_of g (placed b o) img ≡ s → Others g path hash h to img (list_by s (placed b o) (λ j. list_from n g j img)).visits → Rest
            → NotIt g path hash m (finished_in (list_by s (placed b o) (λ j. list_from n g j img)).visits)
        go (done (object c j)) e1 y more =
            let f = next_found g (placed b o) img c j e1 in
            let z : j ≡ placed b (o + span_at g b c) = f.then in
            let r : NotIt g path hash m (finished_in (list_from n g j img).visits) =
            subst (λ (i : ObjectIterator). NotIt g path hash m (finished_in (list_from n g i img).visits)) (sym z)
            (more (o + span_at g b c) (agree_less g b o g.size (o + span_at g b c) g.size img m a (omega arith) (le_refl g.size)) (subst (λ (i : ObjectIterator). Others g path hash h to img (list_from n g i img).visits) z y.1)) in
            met c f.object (list_from n g j img).visits y.0 r (is_finished c) refl
        go (done free_place) e1 y more = tt
        go (done block_end) e1 y more = tt
        go (refused k) e1 y more = tt

    -- ---- a block that the move does not touch

    kind_same : (b : ℕ) → ((o : ℕ) → o < block_header g.granularity → get_or m (address g b o) 0 ≡ get_or img (address g b o) 0) → is_of g Metadata b m ≡ is_of g Metadata b img
    unfolding is_of
    kind_same b f = ap (λ (x : Answer BlockHeader). and_then x (λ k. done (eqb (kind_number k.kind) 2))) (header_seen g b img m fr.long f)

    head_small : block_header g.granularity + header g.granularity g.s < g.size
    head_small = omega (arith, at_original.fits, walk-le g src img v.fine front start off at_original.walked)

    pub not-broken : (s : Stop) → Ended s → unless_broken {A = Unit {0}} s tt ≡ done tt
    not-broken end e = refl
    not-broken free e = refl
    not-broken (broken n) (inl e) = let z : ◌≡◌ {A = ℕ} 0 1 = cc in absurd (omega arith)
    not-broken (broken n) (inr e) = let z : ◌≡◌ {A = ℕ} 0 1 = cc in absurd (omega arith)

    -- a Metadata block by its listing
    quiet-listed : (b : ℕ) → is_of g Metadata b m ≡ done true → (l : Listing) → listing g b m ≡ l → NotIt g path hash m (finished_in l.visits) → Ended l.stop → Quiet g path hash m b
    quiet-listed b k l e a s =
        let x : block_tour g path hash m b ≡ listed_tour l = listed_block g path hash m fine b k ∙ ap listed_tour e in
        record {
          none = subst (λ (y : Tour). NotIt g path hash m y.objects) (sym x) a;
          ends = ap (λ (y : Tour). y.end) x ∙ not-broken l.stop s;
        }

    pub quiet-else : (b : ℕ) → b < g.count → b ≢ src → b ≢ dst → Quiet g path hash m b
    unfolding listing
    quiet-else b lt ns nd = go (is_of g Metadata b img) refl
      where
        same : is_of g Metadata b m ≡ is_of g Metadata b img
        same = kind_same b (λ o k. kept_in b o ns nd (omega (arith, head_small)))

        agree : Agree g b start g.size img m
        agree = agree_less g b 0 g.size start g.size img m (agree-block b ns nd) (omega arith) (le_refl g.size)

        go : (x : Answer Bool) → is_of g Metadata b img ≡ x → Quiet g path hash m b
        go (done true) e =
            quiet-listed b (same ∙ e) (listing g b img) (list_agree g.size g (placed b start) img m agree)
            (list-no g.size b start agree (st.elsewhere b lt e ns)) (st.listed b lt e)
        go (done false) e = other-kind g path hash m fine b (same ∙ e)
        go (refused k) e = absurd (has-kind g path hash m fine b k lt (same ∙ e))

    -- ---- the original's block, from the original on

    agree-before : Agree g src start off img m
    agree-before = agree_of_lem g src start off img m fr.long (λ j a b. fr.elsewhere j (before_it j a b) (λ e. omega arith))
      where
        before_it : (j : ℕ) → address g src start ≤ j → j < address g src off → Clear q (q + sp) j
        before_it j a b = go (eqb src dst) refl (other_block g.size dst src (j - src * g.size))
          where
            go : (c : Bool) → eqb src dst ≡ c → ((dst ≡ src → ⊥) → j - src * g.size < g.size → Off (dst * g.size) g.size (src * g.size + (j - src * g.size))) → Clear q (q + sp) j
            go true e f = inl (omega (arith, ap (λ (b : ℕ). b * g.size) (eqb-true src dst e), behind_original (eqb-true src dst e)))
            go false e f = apart (f (λ z. eqb-false src dst e (sym z)) (omega (arith, whole_in)))
              where
                apart : Off (dst * g.size) g.size (src * g.size + (j - src * g.size)) → Clear q (q + sp) j
                apart (inl z) = inl (omega arith)
                apart (inr z) = inr (omega (arith, in_dst))

    -- the headers of the blocks are as they were
    start-to : start ≤ to.offset
    start-to = omega (arith, walk-le g dst img v.fine (listing g dst img).visits start to.offset (walked g to t pay img (room_is g h to room t img v w) (end_is g h to room t img v w)))

    start-off : start ≤ off
    start-off = omega (arith, walk-le g src img v.fine front start off at_original.walked)

    kept-head : (b o : ℕ) → o < start → get_or m (address g b o) 0 ≡ get_or img (address g b o) 0
    kept-head b o lt = fr.elsewhere (address g b o) (clear (eqb b dst) refl) (λ e. mark e (eqb b src) refl)
      where
        clear : (c : Bool) → eqb b dst ≡ c → Clear q (q + sp) (address g b o)
        clear true e = inl (omega (arith, start-to, ap (λ (x : ℕ). x * g.size) (eqb-true b dst e)))
        clear false e = go (other_block g.size dst b o (λ z. eqb-false b dst e (sym z)) (omega (arith, head_small)))
          where
            go : Off (dst * g.size) g.size (b * g.size + o) → Clear q (q + sp) (address g b o)
            go (inl k) = inl (omega arith)
            go (inr k) = inr (omega (arith, in_dst))

        mark : address g b o ≡ p + delete_at g.granularity → (c : Bool) → eqb b src ≡ c → ⊥
        mark z true e = omega (arith, start-off, ap (λ (x : ℕ). x * g.size) (eqb-true b src e))
        mark z false e = go (other_block g.size src b o (λ y. eqb-false b src e (sym y)) (omega (arith, head_small)))
          where
            go : Off (src * g.size) g.size (b * g.size + o) → ⊥
            go (inl k) = omega arith
            go (inr k) = omega (arith, mark_in, whole_in)

    pub kind-src : is_of g Metadata src m ≡ done true
    kind-src = kind_same src (λ o k. kept-head src o k) ∙ st.kind

    kind-dst : is_of g Metadata dst m ≡ done true
    kind-dst = kind_same dst (λ o k. kept-head dst o k) ∙ st.kind-to

    walk_before : Walked g src m start front off
    walk_before = walk_same g src img m v.fine front start off at_original.walked agree-before

    pub before-no : NotIt g path hash m (finished_in front)
    before-no = walk_no src front start off at_original.walked agree-before st.before

    -- the listing comes to the original, as it reads now
    module _ (o : ObjectHeader) (i : info_at g h.location m ≡ done (found o)) (z : span_at g src o ≡ sp) where
      src-fuel : g.size - length front ≡ suc at_original.left
      src-fuel = omega (arith, at_original.fuel)

      at-it : list_from (suc at_original.left) g (placed src off) m ≡ visited (placed src off) o (list_from at_original.left g (placed src (off + sp)) m)
      at-it = at_object g src m fine at_original.left off at_original.fits o i ∙ ap (λ (x : ℕ). visited (placed src off) o (list_from at_original.left g (placed src (off + x)) m)) z

      pub src-visits : (listing g src m).visits ≡ front ++ visit g src off o ∷ (list_from at_original.left g (placed src (off + sp)) m).visits
      unfolding listing
      src-visits =
          unwalk g src m fine front start off g.size walk_before (omega (arith, at_original.fuel))
          ∙ ap (λ (n : ℕ). front ++ (list_from n g (placed src off) m).visits) src-fuel ∙ ap (λ (l : Listing). front ++ l.visits) at-it

      src-stop : (listing g src m).stop ≡ (list_from at_original.left g (placed src (off + sp)) m).stop
      unfolding listing
      src-stop =
          stop_behind g src m fine front start off g.size walk_before (omega (arith, at_original.fuel))
          ∙ ap (λ (n : ℕ). (list_from n g (placed src off) m).stop) src-fuel ∙ ap (λ (l : Listing). l.stop) at-it

    -- ---- what has the payload has the name

    long-pay : metadata_header g ≤ length pay
    long-pay = omega (arith, st.long, (whole_img g h to room t img v).size)

    pub named-whole : (o : ObjectHeader) → Whole g o t pay m → is_named g path hash o m ≡ done true
    named-whole o x =
        named_by g o t pay m x path hash long-pay ∙ go (eqb (number (part 0 4 pay)) hash) refl
        ∙ sym (named_by g h t pay img (whole_img g h to room t img v) path hash long-pay) ∙ st.named
      where
        go : (b : Bool) → eqb (number (part 0 4 pay)) hash ≡ b
            → pick b (is_name g path (location_in g (part 4 (location_length g) pay)) m) (done false) ≡ pick b (is_name g path (location_in g (part 4 (location_length g) pay)) img) (done false)
        go true e =
            let a : Outside h to (location_in g (part 4 (location_length g) pay)) = st.outside (metadata_in g h t pay img (whole_img g h to room t img v) 0) (metadata_of_lem g h t pay img (whole_img g h to room t img v) long-pay) (eqb-true _ _ e) in
            name_same g (location_in g (part 4 (location_length g) pay)).block img m (agree-block (location_in g (part 4 (location_length g) pay)).block a.0 a.1) path (location_in g (part 4 (location_length g) pay)) refl
        go false e = refl

    -- ---- the original is found where it is finished, and nothing before it is refused

    pub found-original : Whole g h t pay m → ((b : ℕ) → b < src → Quiet g path hash m b) → lookup g path hash m ≡ done h.location
    found-original x quiet =
        found_in g path hash m fine src (told g h to room t img v).block quiet (finished_in front) h (finished_in (list_from at_original.left g (placed src (off + sp)) m).visits)
        (ap (λ (y : Tour). y.objects) (listed_block g path hash m fine src kind-src) ∙ ap finished_in (src-visits h x.info refl)
        ∙ finished_append front (visit g src off h ∷ (list_from at_original.left g (placed src (off + sp)) m).visits)
        ∙ ap (λ (b : Bool). finished_in front ++ pick b (h ∷ finished_in (list_from at_original.left g (placed src (off + sp)) m).visits) (finished_in (list_from at_original.left g (placed src (off + sp)) m).visits)) finished_h)
        before-no (named-whole h x)

    -- ---- the copy's block, from the copy on

    module _ (vs : List Visit) (k : Walked g dst m start vs to.offset) where
      pub dst-room : to.offset + header g.granularity g.s < g.size
      dst-room = fits g to t pay img (room_is g h to room t img v w) (end_is g h to room t img v w)

      dst-fuel : g.size - length vs ≡ suc (g.size - length vs - 1)
      dst-fuel = omega (arith, walk-le g dst m fine vs start to.offset k, dst-room)

      dst-few : length vs ≤ g.size
      dst-few = omega (arith, walk-le g dst m fine vs start to.offset k, dst-room)

      dst-visits : (listing g dst m).visits ≡ vs ++ (list_from (suc (g.size - length vs - 1)) g (placed dst to.offset) m).visits
      unfolding listing
      dst-visits = unwalk g dst m fine vs start to.offset g.size k dst-few ∙ ap (λ (n : ℕ). vs ++ (list_from n g (placed dst to.offset) m).visits) dst-fuel

      pub dst-objects : (block_tour g path hash m dst).objects ≡ finished_in vs ++ finished_in (list_from (suc (g.size - length vs - 1)) g (placed dst to.offset) m).visits
      dst-objects =
          ap (λ (y : Tour). y.objects) (listed_block g path hash m fine dst kind-dst) ∙ ap finished_in dst-visits
          ∙ finished_append vs (list_from (suc (g.size - length vs - 1)) g (placed dst to.offset) m).visits

      module _ (no : NotIt g path hash m (finished_in vs)) where
        pub found-copy : Whole g (copy_of g h to) t pay m → ((b : ℕ) → b < dst → Quiet g path hash m b) → lookup g path hash m ≡ done to
        found-copy x quiet =
            let c : is_finished (copy_of g h to) ≡ true = rw v.finished refl in
            let l = at_object g dst m fine (g.size - length vs - 1) to.offset dst-room (copy_of g h to) x.info in
            found_in g path hash m fine dst v.block quiet (finished_in vs) (copy_of g h to) (finished_in (list_from (g.size - length vs - 1) g (placed dst (to.offset + span_at g dst (copy_of g h to))) m).visits)
            (dst-objects ∙ ap (λ (y : Listing). finished_in vs ++ finished_in y.visits) l
            ∙ ap (λ (b : Bool). finished_in vs ++ pick b (copy_of g h to ∷ finished_in (list_from (g.size - length vs - 1) g (placed dst (to.offset + span_at g dst (copy_of g h to))) m).visits) (finished_in (list_from (g.size - length vs - 1) g (placed dst (to.offset + span_at g dst (copy_of g h to))) m).visits)) c)
            no (named-whole (copy_of g h to) x)

        -- nothing finished stands there: the block's objects are those before it
        pub none-there : NoneFinished (list_from (suc (g.size - length vs - 1)) g (placed dst to.offset) m).visits → NotIt g path hash m (block_tour g path hash m dst).objects
        none-there x = subst (NotIt g path hash m) (sym (dst-objects ∙ ap (λ (y : List ObjectHeader). finished_in vs ++ y) (no_finished (list_from (suc (g.size - length vs - 1)) g (placed dst to.offset) m).visits x) ∙ append-nil (finished_in vs))) no

        pub dst-end : (block_tour g path hash m dst).end ≡ unless_broken (listing g dst m).stop tt
        dst-end = ap (λ (y : Tour). y.end) (listed_block g path hash m fine dst kind-dst)

    -- the copy's block is another: the walk to the copy is as it was
    module _ (ne : src ≢ dst) where
      agree-dst : Agree g dst start to.offset img m
      agree-dst = agree_of_lem g dst start to.offset img m fr.long (λ j a b. fr.elsewhere j (inl b) (λ e. aside j a b e (other_block g.size dst src (off + delete_at g.granularity) (λ z. ne (sym z)) (omega (arith, mark_in, whole_in)))))
        where
          aside : (j : ℕ) → address g dst start ≤ j → j < q → j ≡ p + delete_at g.granularity → Off (dst * g.size) g.size (src * g.size + (off + delete_at g.granularity)) → ⊥
          aside j a b e (inl x) = omega arith
          aside j a b e (inr x) = omega (arith, in_dst)

      walk-img : Walked g dst img start (listing g dst img).visits to.offset
      walk-img = walked g to t pay img (room_is g h to room t img v w) (end_is g h to room t img v w)

      pub walk-dst : Walked g dst m start (listing g dst img).visits to.offset
      walk-dst = walk_same g dst img m v.fine (listing g dst img).visits start to.offset walk-img agree-dst

      pub dst-no : NotIt g path hash m (finished_in (listing g dst img).visits)
      dst-no = walk_no dst (listing g dst img).visits start to.offset walk-img agree-dst (st.elsewhere dst v.block st.kind-to (λ e. ne (sym e)))

    -- ---- after the delete mark the original's block has nothing that matches

    pub gone_span : span_at g src (gone_of h t) ≡ sp
    unfolding total_of payload_of
    gone_span = refl

    pub agree_after : src ≢ dst → Agree g src (off + sp) g.size img m
    agree_after ne =
        agree_of_lem g src (off + sp) g.size img m fr.long (λ j a b. fr.elsewhere j (clear j a b (other_block g.size dst src (j - src * g.size) (λ e. ne (sym e)) (omega arith))) (λ e. omega (arith, mark_in)))
      where
        clear : (j : ℕ) → address g src (off + sp) ≤ j → j < address g src g.size → Off (dst * g.size) g.size (src * g.size + (j - src * g.size)) → Clear q (q + sp) j
        clear j a b (inl x) = inl (omega arith)
        clear j a b (inr x) = inr (omega (arith, in_dst))

    -- in the same block: the walk from the original to the copy
    module _ (eq : src ≡ dst) where
      walked-between : Walked g src img (off + sp) behind to.offset
      unfolding listing
      walked-between = ended g src at_original.left img (off + sp) to.offset (at_original.stop ∙ ap (λ (b : ℕ). (listing g b img).stop) eq ∙ w.stop) (at_original.last ∙ ap (λ (b : ℕ). (listing g b img).last) eq ∙ w.last)

      same-between : Agree g src (off + sp) to.offset img m
      same-between =
          let s : src * g.size ≡ dst * g.size = ap (λ (b : ℕ). b * g.size) eq in
          agree_of_lem g src (off + sp) to.offset img m fr.long (λ j a b. fr.elsewhere j (inl (omega arith)) (λ e. omega (arith, mark_in)))

      pub between-no : NotIt g path hash m (finished_in behind)
      between-no = walk_no src behind (off + sp) to.offset walked-between same-between (subst (Others g path hash h to img) (sym at_original.rest) st.after)

      -- the whole walk to the copy, with the original as it reads now
      module _ (o : ObjectHeader) (i : info_at g h.location m ≡ done (found o)) (z : span_at g src o ≡ sp) where
        pub whole-walk : Walked g dst m start (front ++ (visit g src off o ∷ behind)) to.offset
        whole-walk =
            subst (λ (b : ℕ). Walked g b m start (front ++ (visit g src off o ∷ behind)) to.offset) eq
            (walk_join g src m front (visit g src off o ∷ behind) start off to.offset walk_before (
              refl,
              i,
              at_original.fits,
              subst (λ (x : ℕ). Walked g src m (off + x) behind to.offset) (sym z)
                  (walk_same g src img m v.fine behind (off + sp) to.offset walked-between same-between),
            ))

    module _ (gone : Gone g h t m) where
      pub quiet-src : src ≢ dst → Quiet g path hash m src
      unfolding listing
      quiet-src ne =
          let same : list_from at_original.left g (placed src (off + sp)) m ≡ list_from at_original.left g (placed src (off + sp)) img = list_agree at_original.left g (placed src (off + sp)) img m (agree_after ne) in
          let vis : (listing g src m).visits ≡ front ++ visit g src off (gone_of h t) ∷ behind =
          src-visits (gone_of h t) gone.info gone_span ∙ ap (λ (l : Listing). front ++ visit g src off (gone_of h t) ∷ l.visits) same in
          let no : NotIt g path hash m (finished_in (listing g src m).visits) =
          subst (λ (x : List Visit). NotIt g path hash m (finished_in x)) (sym vis)
          (subst (NotIt g path hash m) (sym (finished_append front (visit g src off (gone_of h t) ∷ behind)))
          (all_append (λ o. is_named g path hash o m ≡ done false) (finished_in front) (finished_in behind) before-no
          (list-no at_original.left src (off + sp) (agree_after ne) (subst (Others g path hash h to img) (sym at_original.rest) st.after)))) in
          quiet-listed src kind-src (listing g src m) refl no
          (subst Ended (sym (src-stop (gone_of h t) gone.info gone_span ∙ ap (λ (l : Listing). l.stop) same ∙ at_original.stop)) (st.listed src (told g h to room t img v).block st.kind))

      -- in one block: what stands before the original, the original as deleted, and what stands behind it up to the copy
      pub through-no : src ≡ dst → NotIt g path hash m (finished_in (front ++ (visit g src off (gone_of h t) ∷ behind)))
      through-no eq =
          subst (NotIt g path hash m) (sym (finished_append front (visit g src off (gone_of h t) ∷ behind)))
          (all_append (λ o. is_named g path hash o m ≡ done false) (finished_in front) (finished_in behind) before-no (between-no eq))

      pub found-moved : Whole g (copy_of g h to) t pay m → lookup g path hash m ≡ done to
      found-moved x = go (eqb src dst) refl
        where
          go : (c : Bool) → eqb src dst ≡ c → lookup g path hash m ≡ done to
          go true e =
              let eq : src ≡ dst = eqb-true src dst e in
              found-copy (front ++ (visit g src off (gone_of h t) ∷ behind))
              (whole-walk eq (gone_of h t) gone.info gone_span) (through-no eq) x
              (λ b k. quiet-else b (omega (arith, v.block)) (λ y. omega arith) (λ y. omega arith))
          go false e =
              let ne : src ≢ dst = eqb-false src dst e in
              found-copy (listing g dst img).visits (walk-dst ne) (dst-no ne) x (λ b k. before-dst ne b k (eqb b src) refl)
            where
              before-dst : src ≢ dst → (b : ℕ) → b < dst → (c : Bool) → eqb b src ≡ c → Quiet g path hash m b
              before-dst ne b k true y = subst (Quiet g path hash m) (sym (eqb-true b src y)) (quiet-src ne)
              before-dst ne b k false y = quiet-else b (omega (arith, v.block)) (eqb-false b src y) (λ z. omega arith)
