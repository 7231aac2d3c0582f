-- "The size is s bytes, low first; all FF means unset."
use Rattle.std.specs.Prelude.{ℕ, zero, suc, ◌+◌, ◌-◌, ◌*◌, ◌/◌, ◌%◌, List, [], ◌∷◌}
use Rattle.medium.specs.Geometry.{limit_of}

-- what bytes say, low byte first
abbrev pub number : List ℕ → ℕ
number [] = 0
number (b ∷ bs) = b + 256 * number bs

-- the low k bytes of a number: "larger numbers lose their high bytes"
abbrev pub bytes : ℕ → ℕ → List ℕ
bytes zero n = []
bytes (suc k) n = n % 256 ∷ bytes k (n / 256)

-- s bytes FF
abbrev pub unset_of : ℕ → ℕ
unset_of s = limit_of s - 1
