-- The strict mark: "a store that would program a unit not all FF with data not all FF must refuse before any of its units is stored."
use Rattle.std.specs.Prelude.{List, [], ◌∷◌, Bool, true, false, ◌&&◌, ◌||◌, not, ℕ, length, take, drop, eqb}
use Rattle.medium.specs.Granularity.{pick}
use Rattle.medium.specs.Units.{FlashUnit, programmed, erased}

abbrev pub all_ff : List ℕ → Bool
all_ff [] = true
all_ff (b ∷ bs) = eqb b 0xFF && all_ff bs

-- a unit that would be programmed again: neither its data nor the bytes that it meets are all FF
abbrev pub again : FlashUnit → List ℕ → Bool
again (programmed a bs) img = not (all_ff bs) && not (all_ff (take (length bs) (drop a img)))
again (erased a n) img = false

abbrev pub any_again : List FlashUnit → List ℕ → Bool
any_again [] img = false
any_again (u ∷ us) img = again u img || any_again us img

-- the same of the unit of w bytes at index i of data that is not padded yet
abbrev pub again_at : ℕ → List ℕ → List ℕ → ℕ → Bool
again_at w old bs i = not (all_ff (take w (drop i bs))) && not (all_ff (take w (drop i old)))

-- what a store of these units is refused with under a mark, or 0
unfoldable pub not_erased : ℕ → List FlashUnit → List ℕ → ℕ
not_erased strict us img = pick (eqb strict 1 && any_again us img) 10 0
