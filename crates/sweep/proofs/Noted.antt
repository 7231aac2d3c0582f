-- Notes: what a word says of its place.
use mathlib.Core.Path.{◌≡◌, refl, sym, ap, ◌∙◌}
use mathlib.Core.Logic.{◌⊎◌, inl, inr, ◌≢◌}
use mathlib.Core.Bool.{Bool, true, false, ◌&&◌, ◌||◌, not}
use mathlib.Core.List.{List, [], ◌∷◌, ◌++◌}
use Prim.Native.Nat.{ℕ, ◌+◌, ◌*◌, ◌≤◌, ◌<◌}
use native.Mathlib.Nat.{suc-mul, mul-le-mul_right}
use native.Mathlib.Omega.{arith}
use lib.ListN.{length, get_or, set, replicate, length-set, length-replicate, get_or-replicate, get_or-eq_default}
use lib.Seq.{get_or-set_same, get_or-set_other}
use lib.Dec.{leb, eqb}
use borrow.Author.Tests.{eqb-true, eqb-false, eq-eqb, ne_eqb, le-leb, lt-leb}
use Rattle.medium.specs.declared.geometry.Geometry.{Geometry}
use Rattle.medium.specs.Granularity.{pick}
use Rattle.medium.specs.Geometry.{check_of, address}
use Rattle.medium.proofs.Runs.{leb_is}
use Rattle.objects.specs.declared.location.ObjectLocation.{ObjectLocation}
use Rattle.objects.specs.declared.header.ObjectHeader.{ObjectHeader}
use Rattle.objects.proofs.Listing.{header_some}
use Rattle.blocks.specs.declared.header.BlockType.{BlockType}
use Rattle.blocks.specs.declared.header.BlockType.TheVariants.{Data}
use Rattle.storage.specs.Laws.{All}
use Rattle.sweep.specs.Lists.{some}
use Rattle.sweep.specs.Referring.{metadata_in, data_in, same_at, is_among, locations_of, is_listed}
use Rattle.sweep.specs.Twins.{is_referred}
use Rattle.sweep.specs.Notes.{note, is_noted, Inside, note_all, noted, places_in, referred_by, referred_in}
use Rattle.sweep.proofs.Marks.{Listed, at_object, in_image}
use Rattle.sweep.proofs.Toured.{all_listed}
use Rattle.sweep.proofs.Alike.{some_append}

-- ---- two places have one word only where they are the same

module _ (size b o c p : ℕ) (x : o < size) (y : p < size) where
  below : b < c → b * size + o < c * size + p
  below h = omega (arith, suc-mul b size, mul-le-mul_right size h)

pub one_word : (size b o c p : ℕ) → o < size → p < size → b * size + o ≡ c * size + p → (b ≡ c) × (o ≡ p)
one_word size b o c p x y e = go (leb_is b c) (leb_is c b)
  where
    go : (b ≤ c) ⊎ (c < b) → (c ≤ b) ⊎ (b < c) → (b ≡ c) × (o ≡ p)
    go (inl h) (inl k) = let q : b ≡ c = omega arith in (q, omega (arith, ap (λ (n : ℕ). n * size) q))
    go (inl h) (inr k) = absurd (omega (arith, below size b o c p x y k))
    go (inr h) k = absurd (omega (arith, below size c p b o y x h))

module _ (g : Geometry) where
  abbrev word_of : ObjectLocation → ℕ
  word_of l = address g l.block l.offset

  pub note_length : (l : ObjectLocation) (ws : List ℕ) → length (note g l ws) ≡ length ws
  unfolding note
  note_length l ws = go (leb g.size l.offset)
    where
      go : (b : Bool) → length (pick b ws (set ws (word_of l) 1)) ≡ length ws
      go true = refl
      go false = length-set ws (word_of l) 1

  pub noted_length : (ls : List ObjectLocation) (ws : List ℕ) → length (note_all g ls ws) ≡ length ws
  noted_length [] ws = refl
  noted_length (x ∷ ls) ws = noted_length ls (note g x ws) ∙ note_length x ws

  -- as many words come back
  pub noted_again : (ls : List ObjectLocation) (n : ℕ) (ws : List ℕ) → ws ≡ noted g ls n → ws ≡ noted g ls (length ws)
  noted_again ls n ws e = e ∙ ap (noted g ls) (sym (ap length e ∙ noted_length ls (replicate n 0) ∙ length-replicate {A = ℕ} n 0))

  -- ---- what is noted reads so

  module _ (l : ObjectLocation) where
    after-note : (x : ObjectLocation) (ws : List ℕ) → Inside g (length ws) l → get_or (note g x ws) (word_of l) 0 ≡ pick (same_at l x) 1 (get_or ws (word_of l) 0)
    unfolding note
    after-note x ws i = place (leb_is g.size x.offset)
      where
        other : l.offset ≢ x.offset → same_at l x ≡ false
        other n = rw (ne_eqb l.offset x.offset n) (and-false (eqb l.block x.block))
          where
            and-false : (b : Bool) → (b && false) ≡ false
            and-false true = refl
            and-false false = refl

        is : (b : Bool) → eqb (word_of l) (word_of x) ≡ b → x.offset < g.size → get_or (set ws (word_of x) 1) (word_of l) 0 ≡ pick (same_at l x) 1 (get_or ws (word_of l) 0)
        is true e h =
            let w : word_of l ≡ word_of x = eqb-true _ _ e in
            let q = one_word g.size l.block l.offset x.block x.offset i.low h w in
            ap (λ (n : ℕ). get_or (set ws (word_of x) 1) n 0) w ∙ get_or-set_same ws (word_of x) 1 0 (omega (arith, w, i.near))
            ∙ sym (rw (eq-eqb l.block x.block q.0, eq-eqb l.offset x.offset q.1))
        is false e h =
            let n : word_of l ≢ word_of x = eqb-false _ _ e in
            get_or-set_other ws (word_of x) (word_of l) 1 0 n ∙ ap (λ (b : Bool). pick b 1 (get_or ws (word_of l) 0)) (sym apart)
          where
            apart : same_at l x ≡ false
            apart = go (eqb l.block x.block) refl (eqb l.offset x.offset) refl
              where
                go : (a : Bool) → eqb l.block x.block ≡ a → (b : Bool) → eqb l.offset x.offset ≡ b → (a && b) ≡ false
                go true p true q = absurd (eqb-false _ _ e (ap (λ (n : ℕ). n * g.size + l.offset) (eqb-true _ _ p) ∙ ap (λ (n : ℕ). x.block * g.size + n) (eqb-true _ _ q)))
                go true p false q = refl
                go false p b q = refl

        place : (g.size ≤ x.offset) ⊎ (x.offset < g.size) → get_or (pick (leb g.size x.offset) ws (set ws (word_of x) 1)) (word_of l) 0 ≡ pick (same_at l x) 1 (get_or ws (word_of l) 0)
        place (inl h) = rw (le-leb g.size x.offset h, other (λ e. omega (arith, i.low, e)))
        place (inr h) = rw (lt-leb g.size x.offset h) (is (eqb (word_of l) (word_of x)) refl h)

    noted-word : (ls : List ObjectLocation) (ws : List ℕ) → Inside g (length ws) l → get_or (note_all g ls ws) (word_of l) 0 ≡ pick (is_among l ls) 1 (get_or ws (word_of l) 0)
    noted-word [] ws i = refl
    noted-word (x ∷ ls) ws i =
        noted-word ls (note g x ws) (record { low = i.low; near = omega (arith, note_length x ws, i.near) })
        ∙ ap (λ (n : ℕ). pick (is_among l ls) 1 n) (after-note x ws i) ∙ join (same_at l x) (is_among l ls)
      where
        join : (a b : Bool) → pick b 1 (pick a 1 (get_or ws (word_of l) 0)) ≡ pick (a || b) 1 (get_or ws (word_of l) 0)
        join true true = refl
        join true false = refl
        join false b = refl

    -- of a place that has a word
    pub noted-inside : (ls : List ObjectLocation) (n : ℕ) → Inside g n l → is_noted g l (noted g ls n) ≡ is_among l ls
    unfolding is_noted
    noted-inside ls n i =
        rw (lt-leb g.size l.offset i.low, noted-word ls (replicate n 0) (record { low = i.low; near = omega (arith, length-replicate {A = ℕ} n 0, i.near) }), get_or-replicate {A = ℕ} n (word_of l) 0 0 i.near)
        (told (is_among l ls))
      where
        told : (b : Bool) → not (eqb (pick b 1 0) 0) ≡ b
        told true = refl
        told false = refl

    not-among : (n : ℕ) (xs : List ObjectLocation) → All (Inside g n) xs → (Inside g n l → ⊥) → is_among l xs ≡ false
    not-among n [] b k = refl
    not-among n (x ∷ xs) b k = go (eqb l.block x.block) refl (eqb l.offset x.offset) refl (not-among n xs b.1 k)
      where
        go : (p : Bool) → eqb l.block x.block ≡ p → (q : Bool) → eqb l.offset x.offset ≡ q → is_among l xs ≡ false → ((p && q) || is_among l xs) ≡ false
        go true p true q more =
            let e : l.block ≡ x.block = eqb-true _ _ p in
            let f : l.offset ≡ x.offset = eqb-true _ _ q in
            absurd (k (record { low = omega (arith, f, b.0.low); near = omega (arith, f, ap (λ (m : ℕ). m * g.size) e, b.0.near) }))
        go true p false q more = more
        go false p q r more = more

    -- of any place, where all of the list have a word
    pub noted-any : (ls : List ObjectLocation) (n : ℕ) → All (Inside g n) ls → is_noted g l (noted g ls n) ≡ is_among l ls
    unfolding is_noted
    noted-any ls n a = low (leb_is g.size l.offset)
      where
        far : (n ≤ word_of l) ⊎ (word_of l < n) → l.offset < g.size → is_noted g l (noted g ls n) ≡ is_among l ls
        far (inl h) o =
            rw (lt-leb g.size l.offset o, get_or-eq_default (noted g ls n) 0 {n = word_of l} (omega (arith, noted_length ls (replicate n 0), length-replicate {A = ℕ} n 0)))
            (sym (not-among n ls a (λ i. omega (arith, i.near))))
        far (inr h) o = noted-inside ls n (record { low = o; near = h })

        low : (g.size ≤ l.offset) ⊎ (l.offset < g.size) → is_noted g l (noted g ls n) ≡ is_among l ls
        low (inl h) = rw (le-leb g.size l.offset h) (sym (not-among n ls a (λ i. omega (arith, i.low))))
        low (inr h) = far (leb_is n (word_of l)) h

  -- ---- lists of places

  pub places_among : (l : ObjectLocation) (hs : List ObjectHeader) → is_among l (places_in hs) ≡ some (λ d. same_at l d.location) hs
  places_among l [] = refl
  places_among l (h ∷ hs) = ap (λ (b : Bool). same_at l h.location || b) (places_among l hs)

  pub referred_among : (img : List ℕ) (l : ObjectLocation) (hs : List ObjectHeader) → is_among l (referred_by g img hs) ≡ some (λ h. is_among l (locations_of g h img)) hs
  referred_among img l [] = refl
  referred_among img l (h ∷ hs) =
      some_append (same_at l) (locations_of g h img) (referred_by g img hs) ∙ ap (λ (b : Bool). is_among l (locations_of g h img) || b) (referred_among img l hs)

  pub note_append : (xs ys : List ObjectLocation) (ws : List ℕ) → note_all g (xs ++ ys) ws ≡ note_all g ys (note_all g xs ws)
  note_append [] ys ws = refl
  note_append (x ∷ xs) ys ws = note_append xs ys (note g x ws)

-- ---- in a store

module _ (g : Geometry) (img : List ℕ) (fine : check_of g (length img) ≡ 0) where
  -- an object that is listed has a word
  pub listed_inside : (t : BlockType) (h : ObjectHeader) → Listed g t h img → Inside g (length img) h.location
  listed_inside t h v = record { low = omega (arith, (at_object g t h img fine v).fits); near = omega (arith, in_image g t h img fine v, header_some g.granularity g.s) }

  places_inside : (t : BlockType) (hs : List ObjectHeader) → All (λ h. Listed g t h img) hs → All (Inside g (length img)) (places_in hs)
  places_inside t [] a = tt
  places_inside t (h ∷ hs) a = (listed_inside t h a.0, places_inside t hs a.1)

  module _ (ws : List ℕ) (n : length ws ≡ length img) (l : ObjectLocation) where
    as_many : (ls : List ObjectLocation) → ws ≡ noted g ls (length ws) → is_noted g l ws ≡ is_noted g l (noted g ls (length img))
    as_many ls e = ap (is_noted g l) (e ∙ ap (noted g ls) n)

    pub data-noted : ws ≡ noted g (places_in (data_in g img)) (length ws) → is_noted g l ws ≡ is_listed g l img
    unfolding is_listed
    data-noted e =
        as_many (places_in (data_in g img)) e ∙ noted-any g l (places_in (data_in g img)) (length img) (places_inside Data (data_in g img) (all_listed g Data img))
        ∙ places_among g l (data_in g img)

    pub referred-noted : Inside g (length img) l → ws ≡ noted g (referred_in g img) (length ws) → is_noted g l ws ≡ is_referred g img l
    unfolding is_referred
    referred-noted i e = as_many (referred_in g img) e ∙ noted-inside g l (referred_in g img) (length img) i ∙ referred_among g img l (metadata_in g img)
