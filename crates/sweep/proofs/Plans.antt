-- The list of what is deleted, by lists alone: its first object and the rest, and what is left when the first is taken out.
use mathlib.Core.Path.{◌≡◌, refl, sym, ap, ◌∙◌}
use mathlib.Core.Bool.{Bool, true, false, ◌||◌, false≢true}
use mathlib.Core.List.{List, [], ◌∷◌, ◌++◌, append_assoc}
use Prim.Native.Nat.{ℕ}
use native.Mathlib.Omega.{arith}
use Rattle.medium.specs.Granularity.{pick}
use Rattle.objects.specs.declared.header.ObjectHeader.{ObjectHeader}
use Rattle.storage.specs.Laws.{All}
use Rattle.sweep.specs.Lists.{some, except}
use Rattle.sweep.specs.Twins.{twins_in}
use Rattle.sweep.specs.Laws.{NoTwo}
use Rattle.sweep.proofs.Alike.{some_append}

-- ---- twins

module _ (like : ObjectHeader → ObjectHeader → Bool) where
  pub twins_append : (bs xs ys : List ObjectHeader) → twins_in like bs (xs ++ ys) ≡ twins_in like bs xs ++ twins_in like (bs ++ xs) ys
  twins_append bs [] ys = ap (λ (cs : List ObjectHeader). twins_in like cs ys) (sym (append-none bs))
    where
      append-none : (zs : List ObjectHeader) → zs ++ [] ≡ zs
      append-none [] = refl
      append-none (z ∷ zs) = ap (λ (l : List ObjectHeader). z ∷ l) (append-none zs)
  twins_append bs (x ∷ xs) ys = go (some (like x) bs) (twins_append (bs ++ x ∷ []) xs ys ∙ ap (λ (cs : List ObjectHeader). twins_in like (bs ++ x ∷ []) xs ++ twins_in like cs ys) (append_assoc bs (x ∷ []) xs))
    where
      go : (b : Bool) → twins_in like (bs ++ x ∷ []) (xs ++ ys) ≡ twins_in like (bs ++ x ∷ []) xs ++ twins_in like (bs ++ x ∷ xs) ys
          → pick b (x ∷ twins_in like (bs ++ x ∷ []) (xs ++ ys)) (twins_in like (bs ++ x ∷ []) (xs ++ ys))
          ≡ pick b (x ∷ twins_in like (bs ++ x ∷ []) xs) (twins_in like (bs ++ x ∷ []) xs) ++ twins_in like (bs ++ x ∷ xs) ys
      go true e = ap (λ (l : List ObjectHeader). x ∷ l) e
      go false e = e

  -- the first that has its like before it
  pub record FirstTwin (bs hs : List ObjectHeader) (h : ObjectHeader) (ts : List ObjectHeader) : Type 0 where
    pub front : List ObjectHeader
    pub back : List ObjectHeader
    pub order : hs ≡ front ++ h ∷ back
    pub none : twins_in like bs front ≡ []
    pub has : some (like h) (bs ++ front) ≡ true
    pub rest : ts ≡ twins_in like (bs ++ (front ++ h ∷ [])) back

  pub first_twin : (bs hs : List ObjectHeader) (h : ObjectHeader) (ts : List ObjectHeader) → twins_in like bs hs ≡ h ∷ ts → FirstTwin bs hs h ts
  first_twin bs [] h ts e = let z : ◌≡◌ {A = ℕ} 0 1 = cc in absurd (omega arith)
  first_twin bs (x ∷ hs) h ts e = go (some (like x) bs) refl e (λ q. first_twin (bs ++ x ∷ []) hs h ts q)
    where
      append-none : (zs : List ObjectHeader) → zs ++ [] ≡ zs
      append-none [] = refl
      append-none (z ∷ zs) = ap (λ (l : List ObjectHeader). z ∷ l) (append-none zs)

      go : (b : Bool) → some (like x) bs ≡ b → pick b (x ∷ twins_in like (bs ++ x ∷ []) hs) (twins_in like (bs ++ x ∷ []) hs) ≡ h ∷ ts
          → (twins_in like (bs ++ x ∷ []) hs ≡ h ∷ ts → FirstTwin (bs ++ x ∷ []) hs h ts) → FirstTwin bs (x ∷ hs) h ts
      go true q r more =
          let y : x ≡ h = cc in
          let z : twins_in like (bs ++ x ∷ []) hs ≡ ts = cc in
          record {
            front = [];
            back = hs;
            order = ap (λ (w : ObjectHeader). w ∷ hs) y;
            none = refl;
            has = ap (λ (w : ObjectHeader). some (like w) (bs ++ [])) (sym y) ∙ ap (some (like x)) (append-none bs) ∙ q;
            rest = sym z ∙ ap (λ (w : ObjectHeader). twins_in like (bs ++ w ∷ []) hs) y;
          }
      go false q r more =
          let f : FirstTwin (bs ++ x ∷ []) hs h ts = more r in
          record {
            front = x ∷ f.front;
            back = f.back;
            order = ap (λ (l : List ObjectHeader). x ∷ l) f.order;
            none = rw q f.none;
            has = ap (some (like h)) (sym (append_assoc bs (x ∷ []) f.front)) ∙ f.has;
            rest = f.rest ∙ ap (λ (l : List ObjectHeader). twins_in like l f.back) (append_assoc bs (x ∷ []) (f.front ++ h ∷ []));
          }

  -- where there is none, none is like one before it
  pub no_two : (bs hs : List ObjectHeader) → twins_in like bs hs ≡ [] → All (λ e. some (like e) bs ≡ false) hs × NoTwo like hs
  no_two bs [] e = (tt, tt)
  no_two bs (h ∷ hs) e = go (some (like h) bs) refl e (λ q. no_two (bs ++ h ∷ []) hs q)
    where
      parts : (a b : Bool) → (a || (b || false)) ≡ false → (a ≡ false) × (b ≡ false)
      parts true b q = absurd (false≢true (sym q))
      parts false true q = absurd (false≢true (sym q))
      parts false false q = (refl, refl)

      apart : (es : List ObjectHeader) → All (λ e. some (like e) (bs ++ h ∷ []) ≡ false) es → All (λ e. some (like e) bs ≡ false) es × All (λ e. like e h ≡ false) es
      apart [] a = (tt, tt)
      apart (e ∷ es) a =
          let p = parts (some (like e) bs) (like e h) (sym (some_append (like e) bs (h ∷ [])) ∙ a.0) in
          let r = apart es a.1 in
          ((p.0, r.0), (p.1, r.1))

      go : (b : Bool) → some (like h) bs ≡ b → pick b (h ∷ twins_in like (bs ++ h ∷ []) hs) (twins_in like (bs ++ h ∷ []) hs) ≡ []
          → (twins_in like (bs ++ h ∷ []) hs ≡ [] → All (λ e. some (like e) (bs ++ h ∷ []) ≡ false) hs × NoTwo like hs) → All (λ e. some (like e) bs ≡ false) (h ∷ hs) × NoTwo like (h ∷ hs)
      go true q r more = let z : ◌≡◌ {A = ℕ} 0 1 = cc in absurd (omega arith)
      go false q r more =
          let m = more r in
          let a = apart hs m.0 in
          ((q, a.0), (a.1, m.1))

-- ---- those for which a test fails

module _ {A : Type 0} (p : A → Bool) where
  pub except_append : (xs ys : List A) → except p (xs ++ ys) ≡ except p xs ++ except p ys
  except_append [] ys = refl
  except_append (x ∷ xs) ys = go (p x) (except_append xs ys)
    where
      go : (b : Bool) → except p (xs ++ ys) ≡ except p xs ++ except p ys → pick b (except p (xs ++ ys)) (x ∷ except p (xs ++ ys)) ≡ pick b (except p xs) (x ∷ except p xs) ++ except p ys
      go true e = e
      go false e = ap (λ (l : List A). x ∷ l) e

  pub record FirstNot (xs : List A) (y : A) (ys : List A) : Type 0 where
    pub front : List A
    pub back : List A
    pub order : xs ≡ front ++ y ∷ back
    pub none : except p front ≡ []
    pub not : p y ≡ false
    pub rest : ys ≡ except p back

  pub first_not : (xs : List A) (y : A) (ys : List A) → except p xs ≡ y ∷ ys → FirstNot xs y ys
  first_not [] y ys e = let z : ◌≡◌ {A = ℕ} 0 1 = cc in absurd (omega arith)
  first_not (x ∷ xs) y ys e = go (p x) refl e (λ q. first_not xs y ys q)
    where
      go : (b : Bool) → p x ≡ b → pick b (except p xs) (x ∷ except p xs) ≡ y ∷ ys → (except p xs ≡ y ∷ ys → FirstNot xs y ys) → FirstNot (x ∷ xs) y ys
      go true q r more =
          let f : FirstNot xs y ys = more r in
          record { front = x ∷ f.front; back = f.back; order = ap (λ (l : List A). x ∷ l) f.order; none = rw q f.none; not = f.not; rest = f.rest }
      go false q r more =
          let z : x ≡ y = cc in
          let w : except p xs ≡ ys = cc in
          record { front = []; back = xs; order = ap (λ (u : A). u ∷ xs) z; none = refl; not = ap p (sym z) ∙ q; rest = sym w }

  -- where there is none, all pass
  pub all_pass : (xs : List A) → except p xs ≡ [] → All (λ x. p x ≡ true) xs
  all_pass [] e = tt
  all_pass (x ∷ xs) e = go (p x) refl e (λ q. all_pass xs q)
    where
      go : (b : Bool) → p x ≡ b → pick b (except p xs) (x ∷ except p xs) ≡ [] → (except p xs ≡ [] → All (λ x. p x ≡ true) xs) → All (λ x. p x ≡ true) (x ∷ xs)
      go true q r more = (q, more r)
      go false q r more = let z : ◌≡◌ {A = ℕ} 0 1 = cc in absurd (omega arith)
