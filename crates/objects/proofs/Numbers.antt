-- Numbers as bytes, low byte first.
use mathlib.Core.Path.{◌≡◌, refl, ap, ◌∙◌}
use mathlib.Core.List.{List, [], ◌∷◌}
use Prim.Native.Nat.{ℕ, zero, suc, ◌+◌, ◌-◌, ◌*◌, ◌/◌, ◌%◌, ◌^◌, ◌≤◌, ◌<◌}
use native.Mathlib.Nat.{not-suc-le-zero, le_of_suc-le-suc}
use native.Mathlib.Numerals.{add-one}
use native.Mathlib.Omega.{arith}
use lib.ListN.{length, get_or, take, drop, set, length-drop}
use lib.Seq.{get_or-drop, take_all}
use Rattle.objects.specs.Numbers.{number, bytes}

-- how far a number of few bytes can go
abbrev pub reach : ℕ → ℕ
reach zero = 1
reach (suc k) = 256 * reach k

reach_more : (k : ℕ) → reach k ≤ reach (suc k)
reach_more k = omega arith

below : (bs : List ℕ) (k : ℕ) → ((j : ℕ) → get_or bs j 0 < 256) → length bs ≤ k → number bs < reach k
below [] zero f h = omega arith
below [] (suc k) f h = let q = below [] k f (omega arith) in omega (arith, reach_more k)
below (b ∷ bs) zero f h = absurd (omega arith)
below (b ∷ bs) (suc k) f h = let x = f 0 in let q = below bs k (λ j. f (suc j)) (omega arith) in omega arith

pub number_small : (raw : List ℕ) (i k : ℕ) → ((j : ℕ) → get_or raw j 0 < 256) → length raw ≤ k → number (drop i raw) < reach k
number_small raw i k f h = below (drop i raw) k (λ j. rw (get_or-drop i raw j 0) (f (i + j))) (simp length-drop (omega arith))

-- a number's bytes in an array of three, of which s are taken
pub bytes_take : (s c : ℕ) → s ≤ 3 → take s (c % 256 ∷ c / 256 % 256 ∷ c / 256 / 256 % 256 ∷ []) ≡ bytes s c
bytes_take zero c h = refl
bytes_take (suc zero) c h = refl
bytes_take (suc (suc zero)) c h = refl
bytes_take (suc (suc (suc zero))) c h = refl
bytes_take (suc (suc (suc (suc s)))) c h = absurd (omega arith)

-- ---- a turn of the loop that puts a number's low bytes: what is still to do gives the same

-- the first i bytes are put, and the rest will be those of n
abbrev pub put_from : ℕ → List ℕ → ℕ → List ℕ
put_from zero room n = bytes (length room) n
put_from (suc i) [] n = []
put_from (suc i) (x ∷ room) n = x ∷ put_from i room n

put_step : (i : ℕ) (room : List ℕ) (n : ℕ) → i < length room → put_from (suc i) (set room i (n % 256)) (n / 256) ≡ put_from i room n
put_step i [] n h = absurd (not-suc-le-zero h)
put_step zero (x ∷ room) n h = refl
put_step (suc i) (x ∷ room) n h = ap (λ (l : List ℕ). x ∷ l) (put_step i room n (le_of_suc-le-suc h))

pub put_more : (i : ℕ) (room goal : List ℕ) (n : ℕ) → i < length room → put_from i room n ≡ goal → put_from (i + 1) (set room i (n % 256)) (n / 256) ≡ goal
put_more i room goal n h e = rw add-one (put_step i room n h ∙ e)

pub put_all : (i : ℕ) (room : List ℕ) (n : ℕ) → length room ≤ i → put_from i room n ≡ room
put_all zero [] n h = refl
put_all zero (x ∷ room) n h = absurd (omega arith)
put_all (suc i) [] n h = refl
put_all (suc i) (x ∷ room) n h = ap (λ (l : List ℕ). x ∷ l) (put_all i room n (le_of_suc-le-suc h))

-- what is left of a list, taken whole
pub rest_all : (xs : List ℕ) (n : ℕ) → take (length xs - n) (drop n xs) ≡ drop n xs
rest_all xs n = take_all (length xs - n) (drop n xs) (simp length-drop (omega arith))

pub length_bytes : (k n : ℕ) → length (bytes k n) ≡ k
length_bytes zero n = refl
length_bytes (suc k) n = ap suc (length_bytes k (n / 256))

-- a number that its bytes can hold reads back
pub number_bytes : (k n : ℕ) → n < 256 ^ k → number (bytes k n) ≡ n
number_bytes zero n h = omega arith
number_bytes (suc k) n h = omega (arith, number_bytes k (n / 256) (omega arith))

-- each of them is a byte
pub byte_bytes : (k n i : ℕ) → get_or (bytes k n) i 0 < 256
byte_bytes zero n i = omega arith
byte_bytes (suc k) n zero = omega arith
byte_bytes (suc k) n (suc i) = byte_bytes k (n / 256) i
