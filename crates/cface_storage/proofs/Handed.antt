-- What a read and a name hand out, from what the library answers.
use mathlib.Core.Path.{◌≡◌, ap}
use mathlib.Core.List.{List}
use Prim.Native.Nat.{ℕ}
use native.Mathlib.Omega.{arith}
use lib.ListN.{length}
use Rattle.medium.specs.Operation.{Answer, done, refused, and_then, number_of}
use Rattle.objects.specs.declared.location.ObjectLocation.{ObjectLocation}
use Rattle.crossing.specs.Crossing.{Telling, told, kept_by, telling_by, telling, two, plain, bytes_out}
use Rattle.crossing.specs.Values.{location_numbers}
use Rattle.storage.specs.declared.names.Names.{Names}
use Rattle.storage.specs.File.{put_into, count_of}
use Rattle.storage.specs.Names.{Named, name, nameless, named, none, length_out, name_into}
use Rattle.cface_storage.specs.Storage.{names_numbers, name_out}

pub bytes_told : (q : Answer (List ℕ)) (r o u : ℕ) (buffer last : List ℕ) → told r o ≡ telling plain u (count_of q) → last ≡ put_into q buffer
    → told r (two last o) ≡ telling_by bytes_out (two buffer u) q
unfolding telling_by
bytes_told (done bs) r o u buffer last e b =
    let n : r ≡ 0 = ap (λ (x : Telling ℕ). x.number) e in
    let l : o ≡ length bs = ap (λ (x : Telling ℕ). x.out) e in
    rw (n, l, b)
bytes_told (refused k) r o u buffer last e b =
    let n : r ≡ k = ap (λ (x : Telling ℕ). x.number) e in
    let l : o ≡ u = ap (λ (x : Telling ℕ). x.out) e in
    rw (n, l, b)

-- ---- the next name

module _ (q : Answer Named) (ns buffer last : List ℕ) (f : ℕ) (l : List ℕ) (u : ℕ) (b : last ≡ name_into q buffer) where
  pub name_told : (n : ℕ) (at : ObjectLocation) (i : Names) → done (named n at i) ≡ and_then q length_out
      → told 0 (two (names_numbers i) (two last (two 1 (two (location_numbers at) n)))) ≡ telling_by name_out (two ns (two buffer (two f (two l u)))) q
  unfolding telling_by
  name_told n at i e = go q e b
    where
      go : (a : Answer Named) → done (named n at i) ≡ and_then a length_out → last ≡ name_into a buffer
          → told 0 (two (names_numbers i) (two last (two 1 (two (location_numbers at) n)))) ≡ told (number_of a) (kept_by name_out a (two ns (two buffer (two f (two l u)))))
      go (done (name bs at' i')) h k =
          let z : named n at i ≡ named (length bs) at' i' = cc in
          let x : n ≡ length bs = cc in
          let y : at ≡ at' = cc in
          let w : i ≡ i' = cc in
          rw (x, y, w, k)
      go (done nameless) h k = let z : ◌≡◌ {A = ℕ} 0 1 = cc in absurd (omega arith)
      go (refused m) h k = let z : ◌≡◌ {A = ℕ} 0 1 = cc in absurd (omega arith)

  pub name_none : done none ≡ and_then q length_out → told 0 (two ns (two last (two 0 (two l u)))) ≡ telling_by name_out (two ns (two buffer (two f (two l u)))) q
  unfolding telling_by
  name_none e = go q e b
    where
      go : (a : Answer Named) → done none ≡ and_then a length_out → last ≡ name_into a buffer
          → told 0 (two ns (two last (two 0 (two l u)))) ≡ told (number_of a) (kept_by name_out a (two ns (two buffer (two f (two l u)))))
      go (done (name bs at i)) h k = let z : ◌≡◌ {A = ℕ} 0 1 = cc in absurd (omega arith)
      go (done nameless) h k = rw k
      go (refused m) h k = let z : ◌≡◌ {A = ℕ} 0 1 = cc in absurd (omega arith)

  pub name_refused : (k : ℕ) → refused k ≡ and_then q length_out → told k (two ns (two last (two f (two l u)))) ≡ telling_by name_out (two ns (two buffer (two f (two l u)))) q
  unfolding telling_by
  name_refused k e = go q e b
    where
      go : (a : Answer Named) → refused k ≡ and_then a length_out → last ≡ name_into a buffer
          → told k (two ns (two last (two f (two l u)))) ≡ told (number_of a) (kept_by name_out a (two ns (two buffer (two f (two l u)))))
      go (done (name bs at i)) h w = let z : ◌≡◌ {A = ℕ} 0 1 = cc in absurd (omega arith)
      go (done nameless) h w = let z : ◌≡◌ {A = ℕ} 0 1 = cc in absurd (omega arith)
      go (refused m) h w = let z : k ≡ m = cc in rw (z, w)
