-- How often a street is listed: once for each object of the tour that has its hash and name, and what each block has of them.
use mathlib.Core.Path.{◌≡◌, refl, sym, ap, ap₂, ◌∙◌}
use mathlib.Core.Logic.{◌≢◌}
use mathlib.Core.Bool.{Bool, true, false, ◌&&◌}
use mathlib.Core.List.{List, [], ◌∷◌, ◌++◌}
use Prim.Native.Nat.{ℕ, zero, suc, ◌+◌, ◌-◌, ◌≤◌, ◌<◌}
use native.Mathlib.Nat.{sub-zero, zero-add, add_assoc}
use native.Mathlib.Omega.{arith}
use lib.ListN.{length}
use lib.Dec.{eqb}
use borrow.Author.Tests.{eqb-true, eqb-false}
use Rattle.medium.specs.declared.geometry.Geometry.{Geometry}
use Rattle.medium.specs.Granularity.{pick}
use Rattle.medium.specs.Geometry.{check_of}
use Rattle.medium.specs.Operation.{Answer, done, refused, and_then}
use Rattle.objects.specs.declared.header.ObjectHeader.{ObjectHeader}
use Rattle.objects.specs.Payload.{equal}
use Rattle.blocks.specs.declared.header.BlockType.TheVariants.{Metadata}
use Rattle.storage.specs.Order.{tour_by, blocks_tour, tour_from, start_visit, open_of}
use Rattle.storage.specs.Lookup.{is_named}
use Rattle.storage.specs.Laws.{Entry, entry_of, entries_in, entries}
use Rattle.byname.specs.Street.{times_listed}
use Rattle.shown.proofs.Reading.{and_back}
use Rattle.storage.proofs.Finding.{gate_back}
use Rattle.storage.proofs.ByList.{entry_said}
use Rattle.byname.proofs.Search.{NotIt, block_tour}

abbrev yes : Answer Bool → ℕ
yes (done true) = 1
yes (done false) = 0
yes (refused n) = 0

module _ (g : Geometry) (path : List ℕ) (hash : ℕ) (x : List ℕ) where
  abbrev pub times : List ObjectHeader → ℕ
  times [] = 0
  times (h ∷ hs) = yes (is_named g path hash h x) + times hs

  pub times_append : (hs js : List ObjectHeader) → times (hs ++ js) ≡ times hs + times js
  times_append [] js = sym (zero-add (times js))
  times_append (h ∷ hs) js = ap (λ (n : ℕ). yes (is_named g path hash h x) + n) (times_append hs js) ∙ sym (add_assoc (yes (is_named g path hash h x)) (times hs) (times js))

  pub times_none : (hs : List ObjectHeader) → NotIt g path hash x hs → times hs ≡ 0
  times_none [] a = refl
  times_none (h ∷ hs) a = ap₂ (λ (m n : ℕ). m + n) (ap yes a.0) (times_none hs a.1)

  -- one that is it among others that are not
  pub times_one : (hs : List ObjectHeader) (o : ObjectHeader) (js : List ObjectHeader) → NotIt g path hash x hs → is_named g path hash o x ≡ done true → times (hs ++ o ∷ js) ≡ suc (times js)
  times_one hs o js a e =
      let y : yes (is_named g path hash o x) ≡ 1 = ap yes e in
      times_append hs (o ∷ js) ∙ ap₂ (λ (m n : ℕ). m + (n + times js)) (times_none hs a) y ∙ omega arith

  -- ---- what is listed

  list_times : (n : ℕ) (hs : List ObjectHeader) (e : Answer (Unit {0})) (xs : List Entry) → entries_in g hs e n x ≡ done xs → (times_listed path hash xs ≡ times hs) × (e ≡ done tt)
  list_times n [] (done u) xs q = let z : [] ≡ xs = cc in (rw (← z) refl, refl)
  list_times n [] (refused k) xs q = let z : ◌≡◌ {A = ℕ} 0 1 = cc in absurd (omega arith)
  list_times n (h ∷ hs) e xs q =
      let a = and_back (entry_of g h n x) (λ y. and_then (entries_in g hs e n x) (λ ys. done (y ∷ ys))) xs q in
      let b = and_back (entries_in g hs e n x) (λ ys. done (a.value ∷ ys)) xs a.second in
      let w : a.value ∷ b.value ≡ xs = cc in
      let r = list_times n hs e b.value b.first in
      let s : yes (is_named g path hash h x) ≡ pick (eqb a.value.hash hash && equal a.value.name path) 1 0 = ap yes (entry_said g path x hash h n a.value a.first) ∙ said (eqb a.value.hash hash && equal a.value.name path) in
      (ap (times_listed path hash) (sym w) ∙ ap₂ (λ (i j : ℕ). i + j) (sym s) r.0, r.1)
    where
      said : (c : Bool) → yes (done c) ≡ pick c 1 0
      said true = refl
      said false = refl

  -- ---- block by block

  abbrev pub in_block : ℕ → ℕ
  in_block b = times (block_tour g path hash x b).objects

  abbrev sum : ℕ → ℕ → ℕ
  sum zero b = 0
  sum (suc n) b = in_block b + sum n (b + 1)

  summed : (n b : ℕ) → (blocks_tour n g Metadata (start_visit g b) x).end ≡ done tt → times (blocks_tour n g Metadata (start_visit g b) x).objects ≡ sum n b
  unfolding blocks_tour open_of
  summed zero b e = refl
  summed (suc n) b e = go (block_tour g path hash x b).end e (λ q. summed n (b + 1) q)
    where
      go : (z : Answer (Unit {0})) → (tour_by (block_tour g path hash x b).objects z (blocks_tour n g Metadata (start_visit g (b + 1)) x)).end ≡ done tt
          → ((blocks_tour n g Metadata (start_visit g (b + 1)) x).end ≡ done tt → times (blocks_tour n g Metadata (start_visit g (b + 1)) x).objects ≡ sum n (b + 1))
          → times (tour_by (block_tour g path hash x b).objects z (blocks_tour n g Metadata (start_visit g (b + 1)) x)).objects ≡ in_block b + sum n (b + 1)
      go (done u) q more = times_append (block_tour g path hash x b).objects (blocks_tour n g Metadata (start_visit g (b + 1)) x).objects ∙ ap (λ (k : ℕ). in_block b + k) (more q)
      go (refused k) q more = let y : ◌≡◌ {A = ℕ} 0 1 = cc in absurd (omega arith)

  sum_none : (n b : ℕ) → ((c : ℕ) → b ≤ c → c < b + n → in_block c ≡ 0) → sum n b ≡ 0
  sum_none zero b f = refl
  sum_none (suc n) b f = omega (arith, f b (omega arith) (omega arith), sum_none n (b + 1) (λ c h k. f c (omega arith) (omega arith)))

  sum_one : (n b c r : ℕ) → b ≤ c → c < b + n → in_block c ≡ r → ((d : ℕ) → b ≤ d → d < b + n → d ≢ c → in_block d ≡ 0) → sum n b ≡ r
  sum_one zero b c r l k e f = absurd (omega arith)
  sum_one (suc n) b c r l k e f = go (eqb b c) refl (λ h i. sum_one n (b + 1) c r h i e (λ d x y z. f d (omega arith) (omega arith) z))
    where
      go : (t : Bool) → eqb b c ≡ t → (b + 1 ≤ c → c < b + 1 + n → sum n (b + 1) ≡ r) → in_block b + sum n (b + 1) ≡ r
      go true q more =
          let z : b ≡ c = eqb-true b c q in
          omega (arith, ap in_block z, e, sum_none n (b + 1) (λ d x y. f d (omega arith) (omega arith) (λ w. omega arith)))
      go false q more =
          let z : b ≢ c = eqb-false b c q in
          let y : b < c = lt z in
          omega (arith, more (omega arith) (omega arith), f b (omega arith) (omega arith) z)
        where
          lt : b ≢ c → b < c
          lt z = omega arith

  sum_two : (n b c d : ℕ) → b ≤ c → c < d → d < b + n → in_block c ≡ 1 → in_block d ≡ 1 → ((i : ℕ) → b ≤ i → i < b + n → i ≢ c → i ≢ d → in_block i ≡ 0) → sum n b ≡ 2
  sum_two zero b c d l k m e e' f = absurd (omega arith)
  sum_two (suc n) b c d l k m e e' f = go (eqb b c) refl (λ h. sum_two n (b + 1) c d h k (omega arith) e e' (λ i x y z w. f i (omega arith) (omega arith) z w))
    where
      go : (t : Bool) → eqb b c ≡ t → (b + 1 ≤ c → sum n (b + 1) ≡ 2) → in_block b + sum n (b + 1) ≡ 2
      go true q more =
          let z : b ≡ c = eqb-true b c q in
          omega (arith, ap in_block z, e, sum_one n (b + 1) d 1 (omega arith) (omega arith) e' (λ i x y w. f i (omega arith) (omega arith) (λ u. omega arith) w))
      go false q more =
          let z : b ≢ c = eqb-false b c q in
          omega (arith, more (omega arith), f b (omega arith) (omega arith) z (λ u. omega arith))

  -- ---- of the whole store, where all names can be listed

  module _ (n : ℕ) (xs : List Entry) (e : entries g n x ≡ done xs) where
    listed-sum : times_listed path hash xs ≡ sum g.count 0
    unfolding entries tour_from
    listed-sum =
        let b = gate_back (check_of g (length x)) (entries_in g (tour_from g Metadata (start_visit g 0) x).objects (tour_from g Metadata (start_visit g 0) x).end n x) xs e in
        let l = list_times n (tour_from g Metadata (start_visit g 0) x).objects (tour_from g Metadata (start_visit g 0) x).end xs b.1 in
        l.0 ∙ summed (g.count - 0) 0 l.1 ∙ ap (λ (k : ℕ). sum k 0) (sub-zero g.count)

    pub listed-once : (c r : ℕ) → c < g.count → in_block c ≡ r → ((d : ℕ) → d < g.count → d ≢ c → in_block d ≡ 0) → times_listed path hash xs ≡ r
    listed-once c r l k f = listed-sum ∙ sum_one g.count 0 c r (omega arith) (omega arith) k (λ d _ y z. f d (omega arith) z)

    pub listed-twice : (c d : ℕ) → c < d → d < g.count → in_block c ≡ 1 → in_block d ≡ 1 → ((i : ℕ) → i < g.count → i ≢ c → i ≢ d → in_block i ≡ 0) → times_listed path hash xs ≡ 2
    listed-twice c d l k a b f = listed-sum ∙ sum_two g.count 0 c d (omega arith) l (omega arith) a b (λ i _ y z w. f i (omega arith) z w)
