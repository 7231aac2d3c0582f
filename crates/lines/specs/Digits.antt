-- "Numbers are decimal, most significant digit first."
use Rattle.std.specs.Prelude.{ℕ, zero, suc, ◌+◌, ◌/◌, ◌%◌, List, [], ◌∷◌, ◌++◌, ltb}
use Rattle.medium.specs.Granularity.{pick}

-- the character of a digit
abbrev pub digit : ℕ → ℕ
digit n = 48 + n

-- in at most so many digits
unfoldable pub digits_in : ℕ → ℕ → List ℕ
digits_in zero n = []
digits_in (suc k) n = let more = digits_in k (n / 10) ++ (digit (n % 10) ∷ []) in pick (ltb n 10) (digit n ∷ []) more

-- of a u32
unfoldable pub digits : ℕ → List ℕ
digits n = digits_in 10 n
