-- Some and all of a list: where one is in it, and what holds of that one.
use mathlib.Core.Path.{◌≡◌, sym, ap, subst}
use mathlib.Core.Logic.{◌⊎◌, inl, inr}
use mathlib.Core.List.{List, [], ◌∷◌, ◌++◌}
use Rattle.storage.specs.Laws.{All}
use Rattle.sweep.specs.Laws.{AnyOf}

module _ {A : Type 0} where
  -- in one of two lists that are joined
  pub any_left : (P : A → Type 0) (xs ys : List A) → AnyOf P xs → AnyOf P (xs ++ ys)
  any_left P [] ys a = absurd a
  any_left P (x ∷ xs) ys (inl p) = inl p
  any_left P (x ∷ xs) ys (inr a) = inr (any_left P xs ys a)

  pub any_right : (P : A → Type 0) (xs ys : List A) → AnyOf P ys → AnyOf P (xs ++ ys)
  any_right P [] ys a = a
  any_right P (x ∷ xs) ys a = inr (any_right P xs ys a)

  pub any_cases : (P : A → Type 0) (xs ys : List A) → AnyOf P (xs ++ ys) → AnyOf P xs ⊎ AnyOf P ys
  any_cases P [] ys a = inr a
  any_cases P (x ∷ xs) ys (inl p) = inl (inl p)
  any_cases P (x ∷ xs) ys (inr a) = go (any_cases P xs ys a)
    where
      go : AnyOf P xs ⊎ AnyOf P ys → AnyOf P (x ∷ xs) ⊎ AnyOf P ys
      go (inl b) = inl (inr b)
      go (inr b) = inr b

  -- one that is in a list
  abbrev pub In : A → List A → Type 0
  In h xs = AnyOf (λ e. e ≡ h) xs

  pub all_in : (P : A → Type 0) (h : A) (xs : List A) → In h xs → All P xs → P h
  all_in P h [] a b = absurd a
  all_in P h (x ∷ xs) (inl e) b = subst P e b.0
  all_in P h (x ∷ xs) (inr a) b = all_in P h xs a b.1

  pub any_in : (P : A → Type 0) (h : A) (xs : List A) → P h → In h xs → AnyOf P xs
  any_in P h [] p a = a
  any_in P h (x ∷ xs) p (inl e) = inl (subst P (sym e) p)
  any_in P h (x ∷ xs) p (inr a) = inr (any_in P h xs p a)

  pub record Split (h : A) (xs : List A) : Type 0 where
    pub before : List A
    pub behind : List A
    pub is : xs ≡ before ++ h ∷ behind

  pub split_in : (h : A) (xs : List A) → In h xs → Split h xs
  split_in h [] a = absurd a
  split_in h (x ∷ xs) (inl e) = record { before = []; behind = xs; is = ap (λ (y : A). y ∷ xs) e }
  split_in h (x ∷ xs) (inr a) = let s = split_in h xs a in record { before = x ∷ s.before; behind = s.behind; is = ap (λ (l : List A). x ∷ l) s.is }
