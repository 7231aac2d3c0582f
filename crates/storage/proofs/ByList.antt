-- The list of names and what a lookup finds: where a name can be read, whether it is the one is said by its bytes.
use mathlib.Core.Path.{◌≡◌, refl, sym, ap, ap₂, ◌∙◌}
use mathlib.Core.Logic.{◌⊎◌, inl, inr}
use mathlib.Core.Bool.{Bool, true, false, ◌&&◌, and-true, false≢true}
use mathlib.Core.List.{List, [], ◌∷◌}
use Prim.Native.Nat.{ℕ, zero, suc, ◌+◌, ◌-◌, ◌≤◌, ◌<◌, min}
use native.Mathlib.Omega.{arith}
use lib.ListN.{length, take, drop, length-drop, drop_of_length-le}
use lib.Seq.{take_all}
use lib.Dec.{leb, eqb}
use borrow.Author.Tests.{eqb-true, eqb-false}
use Rattle.medium.specs.declared.geometry.Geometry.{Geometry}
use Rattle.medium.specs.Granularity.{pick}
use Rattle.medium.specs.Geometry.{check_of}
use Rattle.medium.specs.Operation.{Answer, done, refused, and_then, or_refuse}
use Rattle.medium.specs.Medium.{read_at}
use Rattle.objects.specs.declared.location.ObjectLocation.{ObjectLocation}
use Rattle.objects.specs.declared.header.ObjectHeader.{ObjectHeader}
use Rattle.objects.specs.declared.reader.ObjectReader.{ObjectReader}
use Rattle.objects.specs.declared.metadata.MetadataObjectHeader.{MetadataObjectHeader}
use Rattle.objects.specs.Header.{payload_of}
use Rattle.objects.specs.Payload.{payload_at, read_payload, equal}
use Rattle.objects.specs.Reader.{reader_at}
use Rattle.objects.specs.Metadata.{read_metadata}
use Rattle.blocks.specs.declared.header.BlockType.TheVariants.{Metadata}
use Rattle.storage.specs.declared.visit.Visitor.{Visitor}
use Rattle.storage.specs.Order.{Tour, first_then, tour_from, tour, start_visit, behind_visit, object, store_end, first_seen, next_visit}
use Rattle.storage.specs.Lookup.{same_from, same_name, is_name, is_named, first_named, lookup}
use Rattle.storage.specs.Names.{name_bytes, name_at, name_of, name, names_from, name_seen, next_name}
use Rattle.storage.specs.Laws.{Entry, entry_of, entries_in, entries, Line, line_by, list_names, lines_of, AllNames, first_entry, ByTheList}
use Rattle.medium.proofs.Runs.{leb_is}
use Rattle.objects.proofs.Answers.{gate_on, or_on, or_stop}
use Rattle.objects.proofs.Equal.{other_length}
use Rattle.objects.proofs.Reading.{read_length}
use Rattle.shown.proofs.Reading.{and_back}
use Rattle.storage.proofs.Looking.{same_none, same_enough, turn_by}
use Rattle.storage.proofs.Heads.{Known, Head, head_of, open_again}
use Rattle.storage.proofs.Finding.{gate_back}
use Rattle.storage.proofs.Ranges.{halves}

-- ---- equal bytes, in two parts

and_assoc : (a b c : Bool) → (a && (b && c)) ≡ ((a && b) && c)
and_assoc true b c = refl
and_assoc false b c = refl

equal_parts : (k : ℕ) (xs ys : List ℕ) → equal xs ys ≡ (equal (take k xs) (take k ys) && equal (drop k xs) (drop k ys))
unfolding equal
equal_parts zero xs ys = refl
equal_parts (suc k) [] [] = refl
equal_parts (suc k) [] (y ∷ ys) = refl
equal_parts (suc k) (x ∷ xs) [] = refl
equal_parts (suc k) (x ∷ xs) (y ∷ ys) = ap (λ (c : Bool). eqb x y && c) (equal_parts k xs ys) ∙ and_assoc (eqb x y) (equal (take k xs) (take k ys)) (equal (drop k xs) (drop k ys))

-- ---- where a name can be read, the turns say whether it is the path

module _ (g : Geometry) (b : ℕ) (img : List ℕ) where
  chosen : (c d : Bool) → pick c (done d) (done false) ≡ done (c && d)
  chosen true d = refl
  chosen false d = refl

  same_read : (n a : ℕ) (path bs : List ℕ) → length path ≤ n → read_at g b a (length path) img ≡ done bs → same_from n g b a path img ≡ done (equal bs path)
  unfolding equal
  same_read zero a [] [] h e = same_none g b img zero a
  same_read zero a [] (x ∷ bs) h e = let l = read_length g b a 0 img (x ∷ bs) e in absurd (omega arith)
  same_read zero a (p ∷ ps) bs h e = absurd (omega arith)
  same_read (suc n) a [] [] h e = same_none g b img (suc n) a
  same_read (suc n) a [] (x ∷ bs) h e = let l = read_length g b a 0 img (x ∷ bs) e in absurd (omega arith)
  same_read (suc n) a (p ∷ ps) bs h e = turn_by g b img (suc n) a (p ∷ ps) (omega arith) h ∙ go (leb_is 16 (length (p ∷ ps))) (λ c qs cs i q. same_read n c qs cs i q)
    where
      More : Type 0
      More = (c : ℕ) (qs cs : List ℕ) → length qs ≤ n → read_at g b c (length qs) img ≡ done cs → same_from n g b c qs img ≡ done (equal cs qs)

      long : length bs ≡ length (p ∷ ps)
      long = read_length g b a (length (p ∷ ps)) img bs e

      turned : List ℕ → Answer Bool
      turned cs = pick (equal cs (take 16 (p ∷ ps))) (same_from (suc n) g b (a + 16) (drop 16 (p ∷ ps)) img) (done false)

      go : (16 ≤ length (p ∷ ps)) ⊎ (length (p ∷ ps) < 16) → More → and_then (read_at g b a (min 16 (length (p ∷ ps))) img) turned ≡ done (equal bs (p ∷ ps))
      go (inl i) more =
          let m : min 16 (length (p ∷ ps)) ≡ 16 = omega arith in
          let s : 16 + (length (p ∷ ps) - 16) ≡ length (p ∷ ps) = omega arith in
          let k = halves g b a 16 (length (p ∷ ps) - 16) img bs (ap (λ (x : ℕ). read_at g b a x img) s ∙ e) in
          let l : length (drop 16 (p ∷ ps)) ≡ length (p ∷ ps) - 16 = length-drop 16 (p ∷ ps) in
          let r : same_from (suc n) g b (a + 16) (drop 16 (p ∷ ps)) img ≡ done (equal (drop 16 bs) (drop 16 (p ∷ ps))) =
          same_enough g b img (suc n) n (a + 16) (drop 16 (p ∷ ps)) (omega (arith, l)) (omega (arith, l))
          ∙ more (a + 16) (drop 16 (p ∷ ps)) (drop 16 bs) (omega (arith, l)) (ap (λ (x : ℕ). read_at g b (a + 16) x img) l ∙ k.second) in
          rw (m, k.first, r) (chosen (equal (take 16 bs) (take 16 (p ∷ ps))) (equal (drop 16 bs) (drop 16 (p ∷ ps))) ∙ ap done (sym (equal_parts 16 bs (p ∷ ps))))
      go (inr i) more =
          let m : min 16 (length (p ∷ ps)) ≡ length (p ∷ ps) = omega arith in
          let t : take 16 (p ∷ ps) ≡ p ∷ ps = take_all 16 (p ∷ ps) (omega arith) in
          let j : length (p ∷ ps) ≤ 16 = omega arith in
          let d : drop 16 (p ∷ ps) ≡ [] = drop_of_length-le (p ∷ ps) j in
          rw (m, e, t, d, same_none g b img (suc n) (a + 16)) (chosen (equal bs (p ∷ ps)) true ∙ ap done (and-true (equal bs (p ∷ ps))))

-- ---- one object: its entry says whether it is named so

module _ (g : Geometry) (path : List ℕ) (img : List ℕ) where
  name_long : (h : ObjectHeader) (bs : List ℕ) → name_bytes g h img ≡ done bs → length bs ≡ payload_of g.s h
  unfolding read_payload
  name_long h bs e = go (eqb (payload_of g.s h) 0) refl e
    where
      go : (t : Bool) → eqb (payload_of g.s h) 0 ≡ t → pick t (done []) (read_payload g h img) ≡ done bs → length bs ≡ payload_of g.s h
      go true q r = let z : [] ≡ bs = cc in ap length (sym z) ∙ sym (eqb-true _ _ q)
      go false q r = read_length g h.location.block (payload_at g h) (payload_of g.s h) img bs r

  same_as : (h : ObjectHeader) (bs : List ℕ) → name_bytes g h img ≡ done bs → payload_of g.s h ≡ length path → same_name g h path img ≡ done (equal bs path)
  unfolding read_payload equal
  same_as h bs e l = go (eqb (payload_of g.s h) 0) refl e
    where
      none : (ps : List ℕ) → length ps ≡ 0 → same_from (length ps) g h.location.block (payload_at g h) ps img ≡ done (equal [] ps)
      none [] q = same_none g h.location.block img 0 (payload_at g h)
      none (p ∷ ps) q = absurd (omega arith)

      go : (t : Bool) → eqb (payload_of g.s h) 0 ≡ t → pick t (done []) (read_payload g h img) ≡ done bs → same_name g h path img ≡ done (equal bs path)
      go true q r = let z : [] ≡ bs = cc in none path (sym l ∙ eqb-true _ _ q) ∙ ap (λ (x : List ℕ). done (equal x path)) z
      go false q r = same_read g h.location.block img (length path) (payload_at g h) path bs (omega arith) (ap (λ (n : ℕ). read_at g h.location.block (payload_at g h) n img) (sym l) ∙ r)

  pub name_said : (at : ObjectLocation) (n : ℕ) (bs : List ℕ) → name_at g at n img ≡ done bs → is_name g path at img ≡ done (equal bs path)
  unfolding name_at is_name
  name_said at n bs e =
      let x = and_back (reader_at g at false img) (λ r. pick (leb (payload_of g.s r.object) n) (name_bytes g r.object img) (refused 7)) bs e in
      ap (λ (a : Answer ObjectReader). and_then a (λ r. pick (eqb (payload_of g.s r.object) (length path)) (same_name g r.object path img) (done false))) x.first
      ∙ go x.value.object (leb (payload_of g.s x.value.object) n) x.second (eqb (payload_of g.s x.value.object) (length path)) refl
    where
      known : (h : ObjectHeader) (t : Bool) → pick t (name_bytes g h img) (refused 7) ≡ done bs → name_bytes g h img ≡ done bs
      known h true q = q
      known h false q = let z : ◌≡◌ {A = ℕ} 0 1 = cc in absurd (omega arith)

      go : (h : ObjectHeader) (t : Bool) → pick t (name_bytes g h img) (refused 7) ≡ done bs → (u : Bool) → eqb (payload_of g.s h) (length path) ≡ u
          → pick u (same_name g h path img) (done false) ≡ done (equal bs path)
      go h t q true r = same_as h bs (known h t q) (eqb-true _ _ r)
      go h t q false r = ap done (sym (other_length bs path (λ z. eqb-false _ _ r (sym (name_long h bs (known h t q)) ∙ z))))

  pub entry_place : (h : ObjectHeader) (n : ℕ) (x : Entry) → entry_of g h n img ≡ done x → h.location ≡ x.at
  unfolding entry_of
  entry_place h n x e =
      let a = and_back (read_metadata g h img) (λ m. and_then (name_of g h n img) (λ bs. done (record { hash = m.hash; name = bs; at = h.location }))) x e in
      let b = and_back (name_of g h n img) (λ bs. done (record { hash = a.value.hash; name = bs; at = h.location })) x a.second in
      let w : record { hash = a.value.hash; name = b.value; at = h.location } ≡ x = cc in
      ap (λ (y : Entry). y.at) w

  pub entry_said : (hash : ℕ) (h : ObjectHeader) (n : ℕ) (x : Entry) → entry_of g h n img ≡ done x → is_named g path hash h img ≡ done (eqb x.hash hash && equal x.name path)
  unfolding entry_of name_of is_named
  entry_said hash h n x e =
      let a = and_back (read_metadata g h img) (λ m. and_then (name_of g h n img) (λ bs. done (record { hash = m.hash; name = bs; at = h.location }))) x e in
      let b = and_back (name_of g h n img) (λ bs. done (record { hash = a.value.hash; name = bs; at = h.location })) x a.second in
      let w : record { hash = a.value.hash; name = b.value; at = h.location } ≡ x = cc in
      let r : name_at g a.value.name n img ≡ done b.value = sym (ap (λ (y : Answer MetadataObjectHeader). and_then y (λ m. name_at g m.name n img)) a.first) ∙ b.first in
      ap (λ (y : Answer MetadataObjectHeader). and_then y (λ m. pick (eqb m.hash hash) (is_name g path m.name img) (done false))) a.first
      ∙ go (eqb a.value.hash hash) (is_name g path a.value.name img) (equal b.value path) (name_said a.value.name n b.value r)
      ∙ ap (λ (y : Entry). done (eqb y.hash hash && equal y.name path)) w
    where
      go : (c : Bool) (y : Answer Bool) (d : Bool) → y ≡ done d → pick c y (done false) ≡ done (c && d)
      go true y d q = q
      go false y d q = refl

  -- ---- and all of them

  list_said : (hash n : ℕ) (hs : List ObjectHeader) (e : Answer (Unit {0})) (xs : List Entry) → entries_in g hs e n img ≡ done xs
      → first_named (λ h. is_named g path hash h img) hs e ≡ first_entry path hash xs
  list_said hash n [] (done u) xs q = let z : [] ≡ xs = cc in rw (← z) refl
  list_said hash n [] (refused k) xs q = let z : ◌≡◌ {A = ℕ} 0 1 = cc in absurd (omega arith)
  list_said hash n (h ∷ hs) e xs q =
      let a = and_back (entry_of g h n img) (λ x. and_then (entries_in g hs e n img) (λ ys. done (x ∷ ys))) xs q in
      let b = and_back (entries_in g hs e n img) (λ ys. done (a.value ∷ ys)) xs a.second in
      let w : a.value ∷ b.value ≡ xs = cc in
      let l : h.location ≡ a.value.at = entry_place h n a.value a.first in
      ap (λ (y : Answer Bool). and_then y (λ yes. pick yes (done h.location) (first_named (λ k. is_named g path hash k img) hs e))) (entry_said hash h n a.value a.first)
      ∙ ap₂ (λ (p : ObjectLocation) (r : Answer ObjectLocation). pick (eqb a.value.hash hash && equal a.value.name path) (done p) r) l (list_said hash n hs e b.value b.first)
      ∙ ap (first_entry path hash) w

pub by_the_list : ByTheList
unfolding ByTheList entries lookup
by_the_list g n path hash img xs e =
    let b = gate_back (check_of g (length img)) (entries_in g (tour g Metadata img).objects (tour g Metadata img).end n img) xs e in
    gate_on (λ _. first_named (λ h. is_named g path hash h img) (tour g Metadata img).objects (tour g Metadata img).end) (check_of g (length img)) (check_of g (length img)) refl b.0
    ∙ list_said g path img hash n (tour g Metadata img).objects (tour g Metadata img).end xs b.1

-- ---- the names, one call after the other

module _ (g : Geometry) (n : ℕ) (img : List ℕ) (c : check_of g (length img) ≡ 0) where
  abbrev here : Visitor → Visitor
  here v = record { place = v.place; opened = false }

  abbrev lines : List ObjectHeader → Answer (Unit {0}) → Answer (List Line)
  lines hs e = and_then (entries_in g hs e n img) (λ xs. done (lines_of xs))

  -- a name, and what the next calls list
  line_on : (h : ObjectHeader) (hs : List ObjectHeader) (e : Answer (Unit {0})) (v : Visitor) (more : Answer (List Line)) → more ≡ lines hs e
      → and_then (name_seen g n img (object h v)) (λ x. line_by x (λ _. more)) ≡ lines (h ∷ hs) e
  unfolding entry_of name_of
  line_on h hs e v more q = go (read_metadata g h img)
    where
      last : (a : Answer (List Entry)) (x : Entry) → and_then (and_then a (λ xs. done (lines_of xs))) (λ ls. done (record { name = x.name; at = x.at } ∷ ls)) ≡ and_then (and_then a (λ xs. done (x ∷ xs))) (λ xs. done (lines_of xs))
      last (done xs) x = refl
      last (refused k) x = refl

      named : (hash : ℕ) (a : Answer (List ℕ))
          → and_then (and_then a (λ bs. done (name bs h.location (record { place = v.place })))) (λ x. line_by x (λ _. more))
          ≡ and_then (and_then (and_then a (λ bs. done (record { hash = hash; name = bs; at = h.location }))) (λ x. and_then (entries_in g hs e n img) (λ xs. done (x ∷ xs)))) (λ xs. done (lines_of xs))
      named hash (done bs) = ap (λ (y : Answer (List Line)). and_then y (λ ls. done (record { name = bs; at = h.location } ∷ ls))) q ∙ last (entries_in g hs e n img) (record { hash = hash; name = bs; at = h.location })
      named hash (refused k) = refl

      go : (a : Answer MetadataObjectHeader)
          → and_then (and_then (and_then a (λ m. name_at g m.name n img)) (λ bs. done (name bs h.location (record { place = v.place })))) (λ x. line_by x (λ _. more))
          ≡ and_then (and_then (and_then a (λ m. and_then (and_then a (λ k. name_at g k.name n img)) (λ bs. done (record { hash = m.hash; name = bs; at = h.location })))) (λ x. and_then (entries_in g hs e n img) (λ xs. done (x ∷ xs)))) (λ xs. done (lines_of xs))
      go (done m) = named m.hash (name_at g m.name n img)
      go (refused k) = refl

  listed : (k : ℕ) (v : Visitor) (hs : List ObjectHeader) → Known g Metadata img c (here v) → (tour_from g Metadata (here v) img).objects ≡ hs → length hs < k
      → list_names k g (record { place = v.place }) n img ≡ lines hs (tour_from g Metadata (here v) img).end
  unfolding list_names next_name next_visit
  listed zero v hs o e l = absurd (omega arith)
  listed (suc k) v hs o e l =
      ap (λ (y : Answer (Unit {0})). and_then (and_then (and_then y (λ _. first_seen g (tour_from g Metadata (here v) img).objects (tour_from g Metadata (here v) img).end)) (name_seen g n img)) (λ x. line_by x (λ j. list_names k g j n img))) (or_on (check_of g (length img)) (check_of g (length img)) refl c)
      ∙ ap (λ (y : List ObjectHeader). and_then (and_then (first_seen g y (tour_from g Metadata (here v) img).end) (name_seen g n img)) (λ x. line_by x (λ j. list_names k g j n img))) e
      ∙ go hs e l (λ w js a b d. listed k w js a b d)
    where
      More : Type 0
      More = (w : Visitor) (js : List ObjectHeader) → Known g Metadata img c (here w) → (tour_from g Metadata (here w) img).objects ≡ js → length js < k
          → list_names k g (record { place = w.place }) n img ≡ lines js (tour_from g Metadata (here w) img).end

      ended : (e : Answer (Unit {0})) → and_then (and_then (and_then e (λ _. done store_end)) (name_seen g n img)) (λ x. line_by x (λ j. list_names k g j n img)) ≡ lines [] e
      ended (done u) = refl
      ended (refused m) = refl

      named : (h : ObjectHeader) (js : List ObjectHeader) (w : Visitor) → list_names k g (record { place = w.place }) n img ≡ lines js (tour_from g Metadata (here v) img).end
          → and_then (name_seen g n img (object h w)) (λ x. line_by x (λ j. list_names k g j n img)) ≡ lines (h ∷ js) (tour_from g Metadata (here v) img).end
      named h js w q = onward (name_of g h n img) ∙ line_on h js (tour_from g Metadata (here v) img).end w (list_names k g (record { place = w.place }) n img) q
        where
          onward : (a : Answer (List ℕ))
              → and_then (and_then a (λ bs. done (name bs h.location (record { place = w.place })))) (λ x. line_by x (λ j. list_names k g j n img))
              ≡ and_then (and_then a (λ bs. done (name bs h.location (record { place = w.place })))) (λ x. line_by x (λ _. list_names k g (record { place = w.place }) n img))
          onward (done bs) = refl
          onward (refused m) = refl

      go : (hs : List ObjectHeader) → (tour_from g Metadata (here v) img).objects ≡ hs → length hs < suc k → More
          → and_then (and_then (first_seen g hs (tour_from g Metadata (here v) img).end) (name_seen g n img)) (λ x. line_by x (λ j. list_names k g j n img)) ≡ lines hs (tour_from g Metadata (here v) img).end
      go [] q m more = ended (tour_from g Metadata (here v) img).end
      go (h ∷ js) q m more =
          let a : Head g Metadata img c (here v) h = head_of g Metadata img c (here v) o h js q in
          let s : tour_from g Metadata (here (behind_visit g h)) img ≡ tour_from g Metadata (behind_visit g h) img = open_again g Metadata img c h a.kind in
          let t : tour_from g Metadata (here v) img ≡ first_then h (tour_from g Metadata (here (behind_visit g h)) img) = a.then ∙ ap (first_then h) (sym s) in
          let u : h ∷ (tour_from g Metadata (here (behind_visit g h)) img).objects ≡ h ∷ js = ap (λ (x : Tour). x.objects) (sym t) ∙ q in
          let w : (tour_from g Metadata (here (behind_visit g h)) img).objects ≡ js = cc in
          let d : (tour_from g Metadata (here v) img).end ≡ (tour_from g Metadata (here (behind_visit g h)) img).end = ap (λ (x : Tour). x.end) t in
          named h js (behind_visit g h) (more (behind_visit g h) js (λ z. absurd (false≢true z)) w (omega arith) ∙ ap (lines js) (sym d))

pub all_names : AllNames
unfolding AllNames entries list_names next_name next_visit
all_names g n k img l = go (check_of g (length img)) refl
  where
    go : (r : ℕ) → check_of g (length img) ≡ r → list_names k g (names_from g) n img ≡ and_then (and_then (or_refuse r) (λ _. entries_in g (tour g Metadata img).objects (tour g Metadata img).end n img)) (λ xs. done (lines_of xs))
    go zero e = listed g n img e k (start_visit g 0) (tour g Metadata img).objects (λ z. absurd (false≢true z)) refl l
    go (suc r) e = stopped k (omega arith) (suc r) e (λ z. absurd (omega arith))
      where
        stopped : (j : ℕ) → 0 < j → (r : ℕ) → check_of g (length img) ≡ r → (r ≡ 0 → ⊥) → list_names j g (names_from g) n img ≡ refused r
        stopped zero p r e z = absurd (omega arith)
        stopped (suc j) p r e z = rw (or_stop r (check_of g (length img)) (sym e) z)
