-- Twins in a list: what an object leaves of them when it is taken out.
use mathlib.Core.Path.{◌≡◌, refl, sym, ap, ap₂, ◌∙◌}
use mathlib.Core.Bool.{Bool, true, false, ◌&&◌, ◌||◌, false≢true}
use mathlib.Core.List.{List, [], ◌∷◌, ◌++◌}
use Prim.Native.Nat.{ℕ}
use borrow.Author.Tests.{eqb-true, eq-eqb}
use Rattle.medium.specs.declared.geometry.Geometry.{Geometry}
use Rattle.medium.specs.Granularity.{pick}
use Rattle.medium.specs.Operation.{Answer, done, refused}
use Rattle.objects.specs.declared.header.ObjectHeader.{ObjectHeader}
use Rattle.objects.specs.Payload.{read_payload, same_bytes, same_payload}
use Rattle.storage.specs.Laws.{All}
use Rattle.objects.proofs.Equal.{equal_refl, equal_is}
use Rattle.sweep.specs.Lists.{some}
use Rattle.sweep.specs.Twins.{is_twin, twins_in}

-- ---- being a twin passes on

pub both_true : (a b : Bool) → (a && b) ≡ true → (a ≡ true) × (b ≡ true)
both_true true b e = (refl, e)
both_true false b e = absurd (false≢true e)

same_through : (a b c : Answer (List ℕ)) → same_bytes a b ≡ true → same_bytes b c ≡ true → same_bytes a c ≡ true
same_through (done a) (done b) (done c) p q = rw (equal_is a b p, equal_is b c q) (equal_refl c)
same_through (done a) (done b) (refused n) p q = absurd (false≢true q)
same_through (done a) (refused n) c p q = absurd (false≢true p)
same_through (refused n) b c p q = absurd (false≢true p)

pub twin_through : (g : Geometry) (img : List ℕ) (a b c : ObjectHeader) → is_twin g img a b ≡ true → is_twin g img b c ≡ true → is_twin g img a c ≡ true
unfolding is_twin same_payload
twin_through g img a b c p q =
    let x = both_true _ _ p in
    let y = both_true _ _ q in
    rw (eq-eqb _ _ (eqb-true _ _ x.0 ∙ eqb-true _ _ y.0)) (same_through (read_payload g a img) (read_payload g b img) (read_payload g c img) x.1 y.1)

-- ---- some of a list

module _ {A : Type 0} where
  pub some_append : (p : A → Bool) (xs ys : List A) → some p (xs ++ ys) ≡ (some p xs || some p ys)
  some_append p [] ys = refl
  some_append p (x ∷ xs) ys = ap (λ (b : Bool). p x || b) (some_append p xs ys) ∙ or_assoc (p x) (some p xs) (some p ys)
    where
      or_assoc : (a b c : Bool) → (a || (b || c)) ≡ ((a || b) || c)
      or_assoc true b c = refl
      or_assoc false b c = refl

  pub some_same : (p q : A → Bool) (xs : List A) → All (λ x. p x ≡ q x) xs → some p xs ≡ some q xs
  some_same p q [] a = refl
  some_same p q (x ∷ xs) a = ap₂ (λ (b c : Bool). b || c) a.0 (some_same p q xs a.1)

  -- what holds of one of them through another test
  pub some_through : (p q : A → Bool) → ((x : A) → p x ≡ true → q x ≡ true) → (xs : List A) → some p xs ≡ true → some q xs ≡ true
  some_through p q f [] e = absurd (false≢true e)
  some_through p q f (x ∷ xs) e = go (p x) refl e (λ s. some_through p q f xs s)
    where
      or_right : (a b : Bool) → b ≡ true → (a || b) ≡ true
      or_right true b r = refl
      or_right false b r = r

      go : (b : Bool) → p x ≡ b → (b || some p xs) ≡ true → (some p xs ≡ true → some q xs ≡ true) → (q x || some q xs) ≡ true
      go true r s more = rw (f x r)
      go false r s more = or_right (q x) (some q xs) (more s)

-- ---- an object that has its like before it may be left out of what is before

module _ (g : Geometry) (img : List ℕ) (h : ObjectHeader) (bs : List ObjectHeader) (s : some (is_twin g img h) bs ≡ true) where
  pub absorbed : (e : ObjectHeader) → some (is_twin g img e) (bs ++ h ∷ []) ≡ some (is_twin g img e) bs
  absorbed e = some_append (is_twin g img e) bs (h ∷ []) ∙ go (is_twin g img e h) refl
    where
      go : (b : Bool) → is_twin g img e h ≡ b → (some (is_twin g img e) bs || (b || false)) ≡ some (is_twin g img e) bs
      go true q = rw (some_through (is_twin g img h) (is_twin g img e) (λ x r. twin_through g img e h x q r) bs s)
      go false q = or_none_lem (some (is_twin g img e) bs)
        where
          or_none_lem : (a : Bool) → (a || false) ≡ a
          or_none_lem true = refl
          or_none_lem false = refl

-- ---- the twins of a list by another test, and with others before it

module _ (P : ObjectHeader → Type 0) (like other : ObjectHeader → ObjectHeader → Bool) (same : (e x : ObjectHeader) → P e → P x → other e x ≡ like e x) where
  grown : (bs cs : List ObjectHeader) (h : ObjectHeader) (hs : List ObjectHeader) → P h → All P hs → All (λ e. some (like e) bs ≡ some (other e) cs) hs
      → All (λ e. some (like e) (bs ++ h ∷ []) ≡ some (other e) (cs ++ h ∷ [])) hs
  grown bs cs h [] p a x = tt
  grown bs cs h (e ∷ hs) p a x =
      (some_append (like e) bs (h ∷ []) ∙ ap₂ (λ (b c : Bool). b || (c || false)) x.0 (sym (same e h a.0 p)) ∙ sym (some_append (other e) cs (h ∷ [])), grown bs cs h hs p a.1 x.1)

  pub twins_same : (bs cs hs : List ObjectHeader) → All P hs → All (λ e. some (like e) bs ≡ some (other e) cs) hs → twins_in like bs hs ≡ twins_in other cs hs
  twins_same bs cs [] a x = refl
  twins_same bs cs (h ∷ hs) a x =
      rw x.0 (ap (λ (ts : List ObjectHeader). pick (some (other h) cs) (h ∷ ts) ts) (twins_same (bs ++ h ∷ []) (cs ++ h ∷ []) hs a.1 (grown bs cs h hs a.0 a.1 x.1)))
