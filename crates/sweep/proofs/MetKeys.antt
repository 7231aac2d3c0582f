-- Slots: what was met stays met, and a key that takes a slot is met from then on.
use mathlib.Core.Path.{◌≡◌, refl, sym, ap, ◌∙◌, subst}
use mathlib.Core.Logic.{◌≢◌}
use mathlib.Core.Bool.{Bool, true, false, false≢true}
use mathlib.Core.List.{List, [], ◌∷◌, ◌++◌}
use Prim.Native.Nat.{ℕ, zero, suc, ◌+◌, ◌-◌, ◌*◌, ◌/◌, ◌%◌, ◌≤◌, ◌<◌}
use native.Mathlib.Numerals.{add-one}
use native.Mathlib.Omega.{arith}
use lib.ListN.{length, get_or, set, drop, length-set, drop_of_length-le}
use lib.Seq.{drop-cons, get_or-set_same, get_or-set_other}
use lib.Dec.{eqb}
use borrow.Author.Tests.{eqb-true, eqb-false, eq-eqb, ne_eqb}
use Rattle.medium.specs.declared.geometry.Geometry.{Geometry}
use Rattle.medium.specs.Granularity.{pick}
use Rattle.medium.specs.Geometry.{check_of}
use Rattle.medium.specs.Operation.{Answer, done, refused}
use Rattle.medium.specs.Medium.{lent}
use Rattle.objects.specs.declared.header.ObjectHeader.{ObjectHeader}
use Rattle.objects.specs.Payload.{read_payload, same_bytes, same_payload}
use Rattle.objects.proofs.Equal.{equal_is}
use Rattle.storage.specs.Laws.{All}
use Rattle.sweep.specs.declared.slots.Slot.TheVariants.{Met, Free, Full}
use Rattle.sweep.specs.Lists.{some}
use Rattle.objects.specs.Types.{type_number}
use Rattle.sweep.specs.Twins.{is_twin}
use Rattle.sweep.specs.Slots.{key_from, key_of, key_at, slots_in, start_slot, find_from, find, taken, is_met, Knows}
use Rattle.sweep.proofs.Lists.{all_map, some_not}
use Rattle.sweep.proofs.Alike.{both_true}
use Rattle.sweep.proofs.Kept.{Kept, payload_kept}

-- ---- one slot after the other

module _ (ws : List ℕ) (slots i key : ℕ) where
  pub find_end : slots ≤ i → find_from (slots - i) ws i key ≡ Full
  find_end h = let z : slots - i ≡ 0 = omega arith in rw z

  module _ (h : i < slots) where
    one_more : slots - i ≡ suc (slots - (i + 1))
    one_more = omega arith

    module _ (n : get_or ws (i * 3) 0 ≢ 0) where
      pub find-met : get_or ws (i * 3 + 1) 0 ≡ key → find_from (slots - i) ws i key ≡ Met (get_or ws (i * 3 + 2) 0)
      find-met e = rw (one_more, ne_eqb _ _ n, eq-eqb _ _ e)

      pub find-on : get_or ws (i * 3 + 1) 0 ≢ key → find_from (slots - i) ws i key ≡ find_from (slots - (i + 1)) ws (i + 1) key
      find-on e = rw (one_more, ne_eqb _ _ n, ne_eqb _ _ e)

-- the key of one byte more
pub key_more : (n i : ℕ) (bs : List ℕ) → i < length bs → key_from n (drop i bs) ≡ key_from ((n * 16777619 + get_or bs i 0) % 4294967291) (drop (i + 1) bs)
key_more n i bs h = rw (add-one, drop-cons bs i 0 h)

pub key_end : (n i : ℕ) (bs : List ℕ) → length bs ≤ i → key_from n (drop i bs) ≡ n
key_end n i bs h = rw (drop_of_length-le bs h)

-- ---- a free slot

-- it is one of those that were looked at
pub record IsFree (ws : List ℕ) (from n i : ℕ) : Type 0 where
  pub low : from ≤ i
  pub high : i < from + n
  pub free : get_or ws (i * 3) 0 ≡ 0

pub free_is : (n : ℕ) (ws : List ℕ) (from key i : ℕ) → find_from n ws from key ≡ Free i → IsFree ws from n i
free_is zero ws from key i e = let z : ◌≡◌ {A = ℕ} 0 1 = cc in absurd (omega arith)
free_is (suc n) ws from key i e = here (eqb (get_or ws (from * 3) 0) 0) refl e (λ q. free_is n ws (from + 1) key i q)
  where
    there : (b : Bool) → pick b (Met (get_or ws (from * 3 + 2) 0)) (find_from n ws (from + 1) key) ≡ Free i → (find_from n ws (from + 1) key ≡ Free i → IsFree ws (from + 1) n i) → IsFree ws from (suc n) i
    there true q more = let z : ◌≡◌ {A = ℕ} 0 1 = cc in absurd (omega arith)
    there false q more = let r = more q in record { low = omega (arith, r.low); high = omega (arith, r.high); free = r.free }

    here : (b : Bool) → eqb (get_or ws (from * 3) 0) 0 ≡ b → pick b (Free from) (pick (eqb (get_or ws (from * 3 + 1) 0) key) (Met (get_or ws (from * 3 + 2) 0)) (find_from n ws (from + 1) key)) ≡ Free i
        → (find_from n ws (from + 1) key ≡ Free i → IsFree ws (from + 1) n i) → IsFree ws from (suc n) i
    here true p q more = let r : from ≡ i = cc in record { low = omega arith; high = omega arith; free = ap (λ (k : ℕ). get_or ws (k * 3) 0) (sym r) ∙ eqb-true _ _ p }
    here false p q more = there (eqb (get_or ws (from * 3 + 1) 0) key) q more

-- ---- and once it is taken

module _ (ws : List ℕ) (i key block : ℕ) (room : i * 3 + 2 < length ws) where
  abbrev next : List ℕ
  next = taken ws i key block

  -- the words of other slots stay
  other : (j : ℕ) → j ≢ i * 3 → j ≢ i * 3 + 1 → j ≢ i * 3 + 2 → get_or next j 0 ≡ get_or ws j 0
  other j a b c =
      get_or-set_other (set (set ws (i * 3) 1) (i * 3 + 1) key) (i * 3 + 2) j block 0 c ∙ get_or-set_other (set ws (i * 3) 1) (i * 3 + 1) j key 0 b ∙ get_or-set_other ws (i * 3) j 1 0 a

  -- and this one's say the key
  mark_is : get_or next (i * 3) 0 ≡ 1
  mark_is =
      get_or-set_other (set (set ws (i * 3) 1) (i * 3 + 1) key) (i * 3 + 2) (i * 3) block 0 (λ e. omega arith)
      ∙ get_or-set_other (set ws (i * 3) 1) (i * 3 + 1) (i * 3) key 0 (λ e. omega arith) ∙ get_or-set_same ws (i * 3) 1 0 (omega arith)

  key_is : get_or next (i * 3 + 1) 0 ≡ key
  key_is =
      get_or-set_other (set (set ws (i * 3) 1) (i * 3 + 1) key) (i * 3 + 2) (i * 3 + 1) block 0 (λ e. omega arith)
      ∙ get_or-set_same (set ws (i * 3) 1) (i * 3 + 1) key 0 (omega (arith, length-set ws (i * 3) 1))

  module _ (j : ℕ) (n : j ≢ i) where
    mark-same : get_or next (j * 3) 0 ≡ get_or ws (j * 3) 0
    mark-same = other (j * 3) (λ e. n (omega arith)) (λ e. omega arith) (λ e. omega arith)

    key-same : get_or next (j * 3 + 1) 0 ≡ get_or ws (j * 3 + 1) 0
    key-same = other (j * 3 + 1) (λ e. omega arith) (λ e. n (omega arith)) (λ e. omega arith)

    block_same : get_or next (j * 3 + 2) 0 ≡ get_or ws (j * 3 + 2) 0
    block_same = other (j * 3 + 2) (λ e. omega arith) (λ e. omega arith) (λ e. n (omega arith))

  pub still_met : get_or ws (i * 3) 0 ≡ 0 → (n j k : ℕ) → is_met (find_from n ws j k) ≡ true → is_met (find_from n next j k) ≡ true
  still_met free zero j k m = absurd (false≢true m)
  still_met free (suc n) j k m = split (eqb j i) refl m (still_met free n (j + 1) k)
    where
      that : (a b : Bool) → is_met (pick a (Free j) (pick b (Met (get_or ws (j * 3 + 2) 0)) (find_from n ws (j + 1) k))) ≡ true
          → (is_met (find_from n ws (j + 1) k) ≡ true → is_met (find_from n next (j + 1) k) ≡ true)
          → is_met (pick a (Free j) (pick b (Met (get_or ws (j * 3 + 2) 0)) (find_from n next (j + 1) k))) ≡ true
      that true b r more = absurd (false≢true r)
      that false true r more = refl
      that false false r more = more r

      split : (b : Bool) → eqb j i ≡ b → is_met (find_from (suc n) ws j k) ≡ true
          → (is_met (find_from n ws (j + 1) k) ≡ true → is_met (find_from n next (j + 1) k) ≡ true) → is_met (find_from (suc n) next j k) ≡ true
      split true e q more =
          let z : get_or ws (j * 3) 0 ≡ 0 = ap (λ (x : ℕ). get_or ws (x * 3) 0) (eqb-true _ _ e) ∙ free in
          absurd (false≢true (sym (ap (λ (b : Bool). is_met (pick b (Free j) (pick (eqb (get_or ws (j * 3 + 1) 0) k) (Met (get_or ws (j * 3 + 2) 0)) (find_from n ws (j + 1) k)))) (eq-eqb _ _ z)) ∙ q))
      split false e q more =
          rw (mark-same j (eqb-false _ _ e), key-same j (eqb-false _ _ e), block_same j (eqb-false _ _ e))
          (that (eqb (get_or ws (j * 3) 0) 0) (eqb (get_or ws (j * 3 + 1) 0) k) q more)

  pub now_met : (n j : ℕ) → find_from n ws j key ≡ Free i → is_met (find_from n next j key) ≡ true
  now_met zero j e = let z : ◌≡◌ {A = ℕ} 0 1 = cc in absurd (omega arith)
  now_met (suc n) j e = here (eqb (get_or ws (j * 3) 0) 0) refl e (λ q. now_met n (j + 1) q)
    where
      there : j ≢ i → (a : Bool) → eqb (get_or ws (j * 3) 0) 0 ≡ false → eqb (get_or ws (j * 3 + 1) 0) key ≡ a
          → pick a (Met (get_or ws (j * 3 + 2) 0)) (find_from n ws (j + 1) key) ≡ Free i
          → (find_from n ws (j + 1) key ≡ Free i → is_met (find_from n next (j + 1) key) ≡ true) → is_met (find_from (suc n) next j key) ≡ true
      there d true p q r more = let z : ◌≡◌ {A = ℕ} 0 1 = cc in absurd (omega arith)
      there d false p q r more = rw (mark-same j d, key-same j d, p, q) (more r)

      here : (b : Bool) → eqb (get_or ws (j * 3) 0) 0 ≡ b → pick b (Free j) (pick (eqb (get_or ws (j * 3 + 1) 0) key) (Met (get_or ws (j * 3 + 2) 0)) (find_from n ws (j + 1) key)) ≡ Free i
          → (find_from n ws (j + 1) key ≡ Free i → is_met (find_from n next (j + 1) key) ≡ true) → is_met (find_from (suc n) next j key) ≡ true
      here true p q more = let r : i ≡ j = cc in subst (λ (x : ℕ). is_met (find_from (suc n) next x key) ≡ true) r (rw (mark_is, key_is, eq-eqb key key refl))
      here false p q more =
          let f = free_is (suc n) ws j key i e in
          let d : j ≢ i = λ x. eqb-false _ _ p (ap (λ (y : ℕ). get_or ws (y * 3) 0) x ∙ f.free) in
          there d (eqb (get_or ws (j * 3 + 1) 0) key) p refl q more

-- ---- by the key's own slot on

module _ (ws : List ℕ) (key i : ℕ) (e : find ws key ≡ Free i) where
  looked : find_from (slots_in ws - start_slot (slots_in ws) key) ws (start_slot (slots_in ws) key) key ≡ Free i
  unfolding find
  looked = go (eqb (slots_in ws) 0) e
    where
      go : (b : Bool) → pick b Full (find_from (slots_in ws - start_slot (slots_in ws) key) ws (start_slot (slots_in ws) key) key) ≡ Free i
          → find_from (slots_in ws - start_slot (slots_in ws) key) ws (start_slot (slots_in ws) key) key ≡ Free i
      go true q = let z : ◌≡◌ {A = ℕ} 0 1 = cc in absurd (omega arith)
      go false q = q

  free : IsFree ws (start_slot (slots_in ws) key) (slots_in ws - start_slot (slots_in ws) key) i
  free = free_is (slots_in ws - start_slot (slots_in ws) key) ws (start_slot (slots_in ws) key) key i looked

  pub free_room : i * 3 + 2 < length ws
  free_room = omega (arith, free.low, free.high)

  module _ (block : ℕ) where
    long : length (taken ws i key block) ≡ length ws
    long = length-set (set (set ws (i * 3) 1) (i * 3 + 1) key) (i * 3 + 2) block ∙ length-set (set ws (i * 3) 1) (i * 3 + 1) key ∙ length-set ws (i * 3) 1

    some-slots : (b : Bool) → eqb (slots_in ws) 0 ≡ b → b ≡ false
    some-slots false q = refl
    some-slots true q = let z : slots_in ws ≡ 0 = eqb-true _ _ q in absurd (omega (arith, free_room))

    next-find : (k : ℕ) → find (taken ws i key block) k ≡ find_from (slots_in ws - start_slot (slots_in ws) k) (taken ws i key block) (start_slot (slots_in ws) k) k
    unfolding find
    next-find k =
        ap (λ (n : ℕ). pick (eqb (n / 3) 0) Full (find_from (n / 3 - start_slot (n / 3) k) (taken ws i key block) (start_slot (n / 3) k) k)) long
        ∙ ap (λ (b : Bool). pick b Full (find_from (slots_in ws - start_slot (slots_in ws) k) (taken ws i key block) (start_slot (slots_in ws) k) k)) (some-slots (eqb (slots_in ws) 0) refl)

    pub met-still : (k : ℕ) → is_met (find ws k) ≡ true → is_met (find (taken ws i key block) k) ≡ true
    unfolding find
    met-still k m =
        ap is_met (next-find k)
        ∙ still_met ws i key block free_room free.free (slots_in ws - start_slot (slots_in ws) k) (start_slot (slots_in ws) k) k
        (ap (λ (b : Bool). is_met (pick b Full (find_from (slots_in ws - start_slot (slots_in ws) k) ws (start_slot (slots_in ws) k) k))) (sym (some-slots (eqb (slots_in ws) 0) refl)) ∙ m)

    pub met-now : is_met (find (taken ws i key block) key) ≡ true
    met-now = ap is_met (next-find key) ∙ now_met ws i key block free_room (slots_in ws - start_slot (slots_in ws) key) (start_slot (slots_in ws) key) looked

-- ---- what is known of objects

module _ (g : Geometry) (img : List ℕ) where
  -- twins have one key
  twin_key : (a b : ObjectHeader) → is_twin g img a b ≡ true → key_at g img a ≡ key_at g img b
  unfolding is_twin same_payload
  twin_key a b t = go (read_payload g a img) (read_payload g b img) (both_true (eqb (type_number a.state) (type_number b.state)) (same_bytes (read_payload g a img) (read_payload g b img)) t).1
    where
      go : (x y : Answer (List ℕ)) → same_bytes x y ≡ true → key_of (lent x) ≡ key_of (lent y)
      go (done x) (done y) s = ap key_of (equal_is x y s)
      go (done x) (refused n) s = absurd (false≢true s)
      go (refused n) y s = absurd (false≢true s)

  more : (ws : List ℕ) (h : ObjectHeader) (hs : List ObjectHeader) → Knows g img ws hs → is_met (find ws (key_at g img h)) ≡ true → Knows g img ws (hs ++ h ∷ [])
  more ws h [] k m = (m, tt)
  more ws h (e ∷ hs) k m = (k.0, more ws h hs k.1 m)

  -- an object whose slot was looked for, with these before it
  module _ (ws : List ℕ) (h : ObjectHeader) (key : ℕ) (its : key ≡ key_at g img h) (hs : List ObjectHeader) (k : Knows g img ws hs) where
    -- a key that was not met is that of no twin
    pub none-like : (i : ℕ) → find ws key ≡ Free i → some (is_twin g img h) hs ≡ false
    none-like i f = some_not (is_twin g img h) hs (all_map (λ e. is_met (find ws (key_at g img e)) ≡ true) (λ e. is_twin g img h e ≡ false) one hs k)
      where
        one : (e : ObjectHeader) → is_met (find ws (key_at g img e)) ≡ true → is_twin g img h e ≡ false
        one e m = go (is_twin g img h e) refl
          where
            go : (b : Bool) → is_twin g img h e ≡ b → b ≡ false
            go false q = refl
            go true q = absurd (false≢true (sym (ap is_met f) ∙ ap (λ (x : ℕ). is_met (find ws x)) (its ∙ twin_key h e q) ∙ m))

    pub knows-now : (i block : ℕ) → find ws key ≡ Free i → Knows g img (taken ws i key block) (hs ++ h ∷ [])
    knows-now i block f =
        more (taken ws i key block) h hs
        (all_map (λ e. is_met (find ws (key_at g img e)) ≡ true) (λ e. is_met (find (taken ws i key block) (key_at g img e)) ≡ true) (λ e m. met-still ws key i f block (key_at g img e) m) hs k)
        (ap (λ (x : ℕ). is_met (find (taken ws i key block) x)) (sym its) ∙ met-now ws key i f block)

  -- without the last
  pub knows_less : (ws : List ℕ) (h : ObjectHeader) (hs : List ObjectHeader) → Knows g img ws (hs ++ h ∷ []) → Knows g img ws hs
  knows_less ws h [] k = tt
  knows_less ws h (e ∷ hs) k = (k.0, knows_less ws h hs k.1)

  -- objects that are kept have the keys that they had
  pub knows_kept : (other ws : List ℕ) → check_of g (length img) ≡ 0 → (hs : List ObjectHeader) → All (Kept g img other) hs → Knows g img ws hs → Knows g other ws hs
  knows_kept other ws fine [] a k = tt
  knows_kept other ws fine (e ∷ hs) a k = (ap (λ (x : Answer (List ℕ)). is_met (find ws (key_of (lent x)))) (payload_kept g img other fine e a.0) ∙ k.0, knows_kept other ws fine hs a.1 k.1)
