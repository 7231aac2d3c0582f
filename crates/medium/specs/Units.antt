-- "Each unit in rising order becomes old AND new"; "the data is padded with FF to whole words"; "Erase sets a block to FF and counts as
-- one unit."
use Rattle.std.specs.Prelude.{List, [], ◌∷◌, ◌++◌, ℕ, zero, suc, ◌+◌, ◌-◌, ◌*◌, length, take, drop, replicate}
use Rattle.std.specs.Int.Bits.{bit_and}
use Rattle.medium.specs.Granularity.{units_in}

-- bytes that are programmed at an address of the image, or a block of n bytes that is erased
pub data FlashUnit : Type 0 where
  programmed : ℕ → List ℕ → FlashUnit
  erased : ℕ → ℕ → FlashUnit

-- old AND new, over the first bytes
abbrev pub over : List ℕ → List ℕ → List ℕ
over old [] = old
over [] (b ∷ bs) = []
over (x ∷ xs) (b ∷ bs) = bit_and x b ∷ over xs bs

-- old AND new, from index a on
abbrev pub program : ℕ → List ℕ → List ℕ → List ℕ
program zero bs img = over img bs
program (suc a) bs [] = []
program (suc a) bs (x ∷ xs) = x ∷ program a bs xs

-- the first n bytes FF
abbrev pub blank : ℕ → List ℕ → List ℕ
blank zero xs = xs
blank (suc n) [] = []
blank (suc n) (x ∷ xs) = 255 ∷ blank n xs

-- what stands from index n on, changed by f
abbrev pub under : ℕ → (List ℕ → List ℕ) → List ℕ → List ℕ
under zero f xs = f xs
under (suc n) f [] = []
under (suc n) f (x ∷ xs) = x ∷ under n f xs

abbrev pub step : FlashUnit → List ℕ → List ℕ
step (programmed a bs) img = program a bs img
step (erased a n) img = under a (blank n) img

-- ---- the units of a store: whole words of w bytes, padded with FF, in rising order

abbrev pub padded : ℕ → List ℕ → List ℕ
padded w bs = bs ++ replicate (units_in w (length bs) * w - length bs) 255

abbrev pub words : ℕ → ℕ → ℕ → List ℕ → List FlashUnit
words zero w a bs = []
words (suc n) w a bs = programmed a (take w bs) ∷ words n w (a + w) (drop w bs)

abbrev pub units_of : ℕ → ℕ → List ℕ → List FlashUnit
units_of w a bs = words (units_in w (length bs)) w a (padded w bs)
