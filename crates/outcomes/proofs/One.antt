-- Whatever two outcomes a contract allows for the same arguments are the same.
use mathlib.Core.Path.{◌≡◌, sym, ap, ◌∙◌}

-- post: what a contract allows, of the lifetimes, the arguments, the result and the parameters at exit; same: what has to agree
abbrev pub One : {L : Type 0} {A R E : L → Type 0} → ((κ : L) → A κ → R κ → E κ → Type 0) → ((κ : L) → R κ → E κ → R κ → E κ → Type 0) → Type 0
One {L} {A} {R} {E} post same = (κ : L) (a : A κ) (r r' : R κ) (e e' : E κ) → post κ a r e → post κ a r' e' → same κ r e r' e'

-- an answer is one where its value leads back to it
pub one : {X Y : Type 0} (f : X → Y) (back : Y → X) → ((x : X) → back (f x) ≡ x) → {x y : X} → f x ≡ f y → x ≡ y
one f back back_is {x} {y} e = sym (back_is x) ∙ ap back e ∙ back_is y
