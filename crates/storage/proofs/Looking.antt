-- A lookup, a step at a time: the turns of 16 bytes, and the objects of the tour.
use mathlib.Core.Path.{◌≡◌, refl, sym, ap, ◌∙◌}
use mathlib.Core.Logic.{◌⊎◌, inl, inr}
use mathlib.Core.Bool.{Bool, true, false}
use mathlib.Core.List.{List, [], ◌∷◌, ◌++◌, append-nil}
use Prim.Native.Nat.{ℕ, zero, suc, ◌+◌, ◌-◌, ◌≤◌, ◌<◌, min}
use native.Mathlib.Omega.{arith}
use lib.ListN.{length, take, drop, length-drop, length-append, drop_of_length-le}
use lib.Seq.{take_all, take_at, drop_at}
use Rattle.std.specs.Prelude.{Some, Ok}
use Rattle.medium.specs.declared.geometry.Geometry.{Geometry}
use Rattle.medium.specs.Granularity.{pick}
use Rattle.medium.specs.Geometry.{check_of}
use Rattle.medium.specs.Operation.{Answer, done, refused, and_then, or_refuse}
use Rattle.medium.specs.Medium.{read_at}
use Rattle.objects.specs.declared.location.ObjectLocation.{ObjectLocation}
use Rattle.objects.specs.declared.header.ObjectHeader.{ObjectHeader}
use Rattle.objects.specs.Payload.{equal}
use Rattle.blocks.specs.declared.header.BlockType.TheVariants.{Metadata}
use Rattle.storage.specs.declared.visit.Visitor.{Visitor}
use Rattle.storage.specs.Order.{Tour, first_then, start_visit, tour_from, object, store_end, first_seen, next_visit, Goes}
use Rattle.storage.specs.Lookup.{same_from, is_named, first_named, lookup}
use Rattle.medium.proofs.Runs.{leb_is}
use Rattle.objects.proofs.Answers.{gate_on}
use Rattle.storage.proofs.Order.{seen_check}

-- ---- the turns

none_left : (xs : List ℕ) → length xs ≡ 0 → xs ≡ []
none_left [] e = refl
none_left (x ∷ xs) e = absurd (omega arith)

module _ (g : Geometry) (b : ℕ) (img : List ℕ) where
  -- nothing is left of the path
  pub same_none : (n a : ℕ) → same_from n g b a [] img ≡ done true
  unfolding same_from
  same_none zero a = refl
  same_none (suc n) a = refl

  -- more turns than are needed change nothing
  pub same_enough : (m n a : ℕ) (path : List ℕ) → length path ≤ m → length path ≤ n → same_from m g b a path img ≡ same_from n g b a path img
  unfolding same_from
  same_enough zero zero a path hm hn = refl
  same_enough zero (suc n) a [] hm hn = refl
  same_enough zero (suc n) a (p ∷ ps) hm hn = absurd (omega arith)
  same_enough (suc m) zero a [] hm hn = refl
  same_enough (suc m) zero a (p ∷ ps) hm hn = absurd (omega arith)
  same_enough (suc m) (suc n) a [] hm hn = refl
  same_enough (suc m) (suc n) a (p ∷ ps) hm hn =
      let l : length (drop 16 (p ∷ ps)) ≡ length (p ∷ ps) - 16 = length-drop 16 (p ∷ ps) in
      ap (λ (x : Answer Bool). and_then (read_at g b a (min 16 (length (p ∷ ps))) img) (λ bs. pick (equal bs (take 16 (p ∷ ps))) x (done false)))
      (same_enough m n (a + 16) (drop 16 (p ∷ ps)) (omega (arith, l)) (omega (arith, l)))

  -- one turn
  abbrev turned : ℕ → ℕ → List ℕ → List ℕ → Answer Bool
  turned n a path bs = pick (equal bs (take 16 path)) (same_from n g b (a + 16) (drop 16 path) img) (done false)

  pub turn_by : (n a : ℕ) (path : List ℕ) → 0 < length path → length path ≤ n → same_from n g b a path img ≡ and_then (read_at g b a (min 16 (length path)) img) (turned n a path)
  unfolding same_from
  turn_by zero a path p h = absurd (omega arith)
  turn_by (suc n) a [] p h = absurd (omega arith)
  turn_by (suc n) a (x ∷ xs) p h =
      let l : length (drop 16 (x ∷ xs)) ≡ length (x ∷ xs) - 16 = length-drop 16 (x ∷ xs) in
      ap (λ (y : Answer Bool). and_then (read_at g b a (min 16 (length (x ∷ xs))) img) (λ bs. pick (equal bs (take 16 (x ∷ xs))) y (done false)))
      (same_enough n (suc n) (a + 16) (drop 16 (x ∷ xs)) (omega (arith, l)) (omega (arith, l)))

  -- the same as the code has it: what is left of the path is this turn and what comes behind it
  module _ (at : ℕ) (left turn behind : List ℕ) (e : left ≡ turn ++ behind) (l : length turn ≡ min 16 (length left)) (some : 0 < length left) where
    whole : length left ≡ length turn + length behind
    whole = ap length e ∙ length-append turn behind

    same-bytes : take 16 left ≡ turn
    same-bytes = go (leb_is 16 (length left))
      where
        go : (16 ≤ length left) ⊎ (length left < 16) → take 16 left ≡ turn
        go (inl h) = ap (take 16) e ∙ take_at turn behind 16 (omega (arith, l))
        go (inr h) = take_all 16 left (omega arith) ∙ e ∙ ap (λ (x : List ℕ). turn ++ x) (none_left behind (omega (arith, l, whole))) ∙ append-nil turn

    here : same_from (length left) g b at left img ≡ and_then (read_at g b at (length turn) img) (turned (length left) at left)
    here = turn_by (length left) at left some (omega arith) ∙ rw (← l)

    pub turn-refused : (k : ℕ) → read_at g b at (length turn) img ≡ refused k → same_from (length left) g b at left img ≡ refused k
    turn-refused k q = here ∙ rw q

    module _ (bs : List ℕ) (q : read_at g b at (length turn) img ≡ done bs) where
      pub turn-differs : equal bs turn ≡ false → same_from (length left) g b at left img ≡ done false
      turn-differs d = here ∙ rw (q, same-bytes, d)

      pub turn-same : equal bs turn ≡ true → same_from (length left) g b at left img ≡ same_from (length behind) g b (at + length turn) behind img
      turn-same d = here ∙ rw (q, same-bytes, d) (go (leb_is 16 (length left)))
        where
          go : (16 ≤ length left) ⊎ (length left < 16) → same_from (length left) g b (at + 16) (drop 16 left) img ≡ same_from (length behind) g b (at + length turn) behind img
          go (inl h) =
              let t : length turn ≡ 16 = omega (arith, l) in
              let r : drop 16 left ≡ behind = ap (drop 16) e ∙ drop_at turn behind 16 t in
              rw (r, t) (same_enough (length left) (length behind) (at + 16) behind (omega (arith, whole)) (omega arith))
          go (inr h) =
              let n : behind ≡ [] = none_left behind (omega (arith, l, whole)) in
              let r : drop 16 left ≡ [] = drop_of_length-le left {i = 16} (omega arith) in
              rw (n, r) (same_none (length left) (at + 16) ∙ sym (same_none 0 (at + length turn)))

  -- all of it is compared
  pub turns_end : (at : ℕ) (left : List ℕ) → length left ≡ 0 → same_from (length left) g b at left img ≡ done true
  turns_end at left h = rw h (ap (λ (x : List ℕ). same_from 0 g b at x img) (none_left left h) ∙ same_none 0 at)

-- ---- the objects of the tour

module _ (g : Geometry) (path : List ℕ) (hash : ℕ) (img : List ℕ) where
  -- the lookup from a visitor on
  abbrev pub look_from : Visitor → Answer ObjectLocation
  look_from v = and_then (or_refuse (check_of g (length img))) (λ _. first_named (λ h. is_named g path hash h img) (tour_from g Metadata v img).objects (tour_from g Metadata v img).end)

  pub look_start : lookup g path hash img ≡ look_from (start_visit g 0)
  unfolding lookup
  look_start = refl

  pub look_stop : (v : Visitor) (k : ℕ) → refused k ≡ next_visit g Metadata v img → look_from v ≡ refused k
  unfolding next_visit
  look_stop v k e = go (or_refuse (check_of g (length img))) (tour_from g Metadata v img).objects (tour_from g Metadata v img).end e
    where
      go : (a : Answer (Unit {0})) (hs : List ObjectHeader) (n : Answer (Unit {0})) → refused k ≡ and_then a (λ _. first_seen g hs n)
          → and_then a (λ _. first_named (λ h. is_named g path hash h img) hs n) ≡ refused k
      go (refused m) hs n q = let z : k ≡ m = cc in ap refused (sym z)
      go (done u) [] (refused m) q = let z : k ≡ m = cc in ap refused (sym z)
      go (done u) [] (done w) q = let z : ◌≡◌ {A = ℕ} 0 1 = cc in absurd (omega arith)
      go (done u) (h ∷ hs) n q = let z : ◌≡◌ {A = ℕ} 0 1 = cc in absurd (omega arith)

  pub look_end : (v : Visitor) → done store_end ≡ next_visit g Metadata v img → look_from v ≡ refused 13
  unfolding next_visit
  look_end v e = go (or_refuse (check_of g (length img))) (tour_from g Metadata v img).objects (tour_from g Metadata v img).end e
    where
      go : (a : Answer (Unit {0})) (hs : List ObjectHeader) (n : Answer (Unit {0})) → done store_end ≡ and_then a (λ _. first_seen g hs n)
          → and_then a (λ _. first_named (λ h. is_named g path hash h img) hs n) ≡ refused 13
      go (refused m) hs n q = let z : ◌≡◌ {A = ℕ} 0 1 = cc in absurd (omega arith)
      go (done u) [] (refused m) q = let z : ◌≡◌ {A = ℕ} 0 1 = cc in absurd (omega arith)
      go (done u) [] (done w) q = refl
      go (done u) (h ∷ hs) n q = let z : ◌≡◌ {A = ℕ} 0 1 = cc in absurd (omega arith)

  module _ (v : Visitor) (h : ObjectHeader) (w : Visitor) (s : done (object h w) ≡ next_visit g Metadata v img) (o : Goes g Metadata v img (Ok (Some (h, w)))) where
    checked : check_of g (length img) ≡ 0
    checked = seen_check g Metadata img v (object h w) s

    met : tour_from g Metadata v img ≡ first_then h (tour_from g Metadata w img)
    unfolding Goes
    met = o checked

    look_by : look_from v ≡ and_then (is_named g path hash h img) (λ yes. pick yes (done h.location) (first_named (λ k. is_named g path hash k img) (tour_from g Metadata w img).objects (tour_from g Metadata w img).end))
    look_by = gate_on _ (check_of g (length img)) (check_of g (length img)) refl checked ∙ rw met

    pub look-refused : (k : ℕ) → refused k ≡ is_named g path hash h img → look_from v ≡ refused k
    look-refused k e = look_by ∙ rw (← e)

    pub look-found : done true ≡ is_named g path hash h img → look_from v ≡ done h.location
    look-found e = look_by ∙ rw (← e)

    pub look-on : done false ≡ is_named g path hash h img → look_from v ≡ look_from w
    look-on e = look_by ∙ rw (← e) (sym (gate_on _ (check_of g (length img)) (check_of g (length img)) refl checked))

    pub look-less : length (tour_from g Metadata w img).objects < length (tour_from g Metadata v img).objects
    look-less = let l : length (tour_from g Metadata v img).objects ≡ suc (length (tour_from g Metadata w img).objects) = ap (λ (x : Tour). length x.objects) met in omega (arith, l)
