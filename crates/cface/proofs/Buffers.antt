-- Bytes that a call fills, beside the number of its answer.
use mathlib.Core.Path.{◌≡◌, refl, ap}
use mathlib.Core.Bool.{Bool, true, false}
use mathlib.Core.List.{List, ◌++◌}
use Prim.Native.Nat.{ℕ, zero, suc}
use native.Mathlib.Omega.{arith}
use lib.ListN.{length, take, drop, length-append, take-append-drop}
use lib.Dec.{eqb}
use borrow.Author.Tests.{eqb-true}
use Rattle.medium.specs.declared.geometry.Geometry.{Geometry}
use Rattle.medium.specs.Granularity.{pick}
use Rattle.medium.specs.Geometry.{fit_of}
use Rattle.medium.specs.Operation.{Answer, done, refused, and_then, or_refuse, number_of}
use Rattle.objects.specs.declared.location.ObjectLocation.{ObjectLocation}
use Rattle.objects.specs.declared.reader.ObjectReader.{ObjectReader}
use Rattle.std.specs.Prelude.{Ok, Err}
use Rattle.medium.specs.declared.refusal.Refusal.{Refusal}
use Rattle.medium.specs.Refusal.{refusal_number}
use Rattle.objects.specs.Reader.{Chunk, Counting, reading_answer, counting, filled}
use Rattle.objects.specs.Location.{location_length, location_bytes, into_bytes}
use Rattle.objects.proofs.Numbers.{length_bytes}
use Rattle.objects.proofs.Answers.{gate_stop}
use Rattle.crossing.specs.Crossing.{told, kept_by, telling_by, two, bytes_out}
use Rattle.crossing.specs.Values.{reader_numbers}
use Rattle.cface.specs.Objects.{chunk_out}

-- ---- a location's bytes over the first of a longer array

pub into_length : (g : Geometry) (l : ObjectLocation) (n : ℕ) (bs : List ℕ) → into_bytes g l n ≡ done bs → length bs ≡ n
unfolding into_bytes
into_length g l n bs e = go (fit_of g) e
  where
    more : (t : Bool) → eqb n (location_length g) ≡ t → pick t (done (location_bytes g l)) (refused 7) ≡ done bs → length bs ≡ n
    more true q h =
        let z : location_bytes g l ≡ bs = cc in
        let m : n ≡ location_length g = eqb-true _ _ q in
        rw (← z, length-append, length_bytes, length_bytes, m)
    more false q h = let z : ◌≡◌ {A = ℕ} 0 1 = cc in absurd (omega arith)

    go : (r : ℕ) → and_then (or_refuse r) (λ _. pick (eqb n (location_length g)) (done (location_bytes g l)) (refused 7)) ≡ done bs → length bs ≡ n
    go zero h = more (eqb n (location_length g)) refl h
    go (suc r) h = let z : ◌≡◌ {A = ℕ} 0 1 = cc in absurd (omega arith)

pub into_stop : (g : Geometry) (l : ObjectLocation) (n r : ℕ) → r ≡ fit_of g → (r ≡ 0 → ⊥) → into_bytes g l n ≡ refused r
unfolding into_bytes
into_stop g l n r e z = gate_stop _ r (fit_of g) e z

module _ (q : Answer (List ℕ)) (n u : ℕ) (part old : List ℕ) where
  pub first_told : q ≡ done part → length part ≡ n → told 0 (two (part ++ drop n old) n) ≡ telling_by bytes_out (two old u) q
  unfolding telling_by
  first_told d l = rw (d, ← l)

  pub first_none : {k : ℕ} → q ≡ refused k → part ≡ take n old → told k (two (part ++ drop n old) u) ≡ telling_by bytes_out (two old u) q
  unfolding telling_by
  first_none d p = rw (d, p, take-append-drop)

-- ---- what a read hands out

module _ (q : Answer Chunk) (u : ℕ) (ns buffer : List ℕ) where
  pub chunk_told : (x : ℕ × ObjectReader) → reading_answer (Ok x) ≡ and_then q counting
      → told 0 (two (reader_numbers x.1) (two (filled q buffer) x.0)) ≡ telling_by chunk_out (two ns (two buffer u)) q
  unfolding telling_by
  chunk_told x e = go q e
    where
      go : (a : Answer Chunk) → reading_answer (Ok x) ≡ and_then a counting
          → told 0 (two (reader_numbers x.1) (two (filled a buffer) x.0)) ≡ told (number_of a) (kept_by chunk_out a (two ns (two buffer u)))
      go (done k) h =
          let w : ◌≡◌ {A = Counting} (record { count = x.0; reader = x.1 }) (record { count = length k.bytes; reader = k.reader }) = cc in
          let m : x.1 ≡ k.reader = ap (λ (y : Counting). y.reader) w in
          let l : x.0 ≡ length k.bytes = ap (λ (y : Counting). y.count) w in
          rw (m, l)
      go (refused m) h = let z : ◌≡◌ {A = ℕ} 0 1 = cc in absurd (omega arith)

  pub chunk_none : (r : Refusal) → reading_answer (Err r) ≡ and_then q counting → told (refusal_number r) (two ns (two (filled q buffer) u)) ≡ telling_by chunk_out (two ns (two buffer u)) q
  unfolding telling_by
  chunk_none r e = go q e
    where
      go : (a : Answer Chunk) → reading_answer (Err r) ≡ and_then a counting
          → told (refusal_number r) (two ns (two (filled a buffer) u)) ≡ told (number_of a) (kept_by chunk_out a (two ns (two buffer u)))
      go (done k) h = let z : ◌≡◌ {A = ℕ} 0 1 = cc in absurd (omega arith)
      go (refused m) h = let z : refusal_number r ≡ m = cc in rw z
