-- What is said of every byte of a part of an image, from a test of that image that computes: for instances of theorems.
use mathlib.Core.Path.{◌≡◌, sym, ap, ◌∙◌}
use mathlib.Core.Bool.{Bool, true, false, ◌&&◌}
use mathlib.Core.List.{List, [], ◌∷◌}
use Prim.Native.Nat.{ℕ, zero, suc, ◌+◌, ◌<◌}
use native.Mathlib.Omega.{arith}
use lib.ListN.{get_or, replicate, get_or-replicate}
use lib.Dec.{T, ltb, ltb→lt}
use lib.Pow.{are_bytes}
use Rattle.medium.specs.Medium.{part}
use Rattle.medium.proofs.Bytes.{get_d_part}

and_l : (a b : Bool) → T (a && b) → T a
and_l true b h = tt
and_l false b h = h

and_r : (a b : Bool) → T (a && b) → T b
and_r true b h = h
and_r false b h = absurd h

pub bytes_by : (img : List ℕ) → T (are_bytes img) → (j : ℕ) → get_or img j 0 < 256
bytes_by [] h j = omega arith
bytes_by (x ∷ xs) h zero = ltb→lt x 256 (and_l (ltb x 256) (are_bytes xs) h)
bytes_by (x ∷ xs) h (suc j) = bytes_by xs (and_r (ltb x 256) (are_bytes xs) h) j

pub blank_by : (a n : ℕ) (img : List ℕ) → part a n img ≡ replicate n 255 → (i : ℕ) → i < n → get_or img (a + i) 0 ≡ 255
blank_by a n img e i h = sym (get_d_part a n img i 0 h) ∙ ap (λ (bs : List ℕ). get_or bs i 0) e ∙ get_or-replicate n i 255 0 h
