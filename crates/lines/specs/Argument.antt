-- A decimal argument: one digit or more, and at most 4,294,967,295. Anything else is refused.
use Rattle.std.specs.Prelude.{ℕ, ◌+◌, ◌-◌, ◌*◌, List, [], ◌∷◌, Bool, ◌&&◌, leb, Option, Some, None}
use Rattle.medium.specs.Granularity.{pick}

-- n and one digit more
abbrev pub with_digit : ℕ → ℕ → ℕ
with_digit n b = n * 10 + (b - 48)

abbrev pub accepted : ℕ → ℕ → Bool
accepted n b = leb 48 b && leb b 57 && leb (with_digit n b) 4294967295

-- what is left of the text, behind digits that say n
unfoldable pub number_from : ℕ → List ℕ → Option ℕ
number_from n [] = Some n
number_from n (b ∷ bs) = pick (accepted n b) (number_from (with_digit n b) bs) None

unfoldable pub number_of : List ℕ → Option ℕ
number_of [] = None
number_of (b ∷ bs) = number_from 0 (b ∷ bs)
