-- A file read in pieces is the file read at once, and past its end there is nothing.
use mathlib.Core.Path.{◌≡◌, refl, sym, ap, ◌∙◌}
use mathlib.Core.Logic.{◌⊎◌, inl, inr}
use mathlib.Core.Bool.{false}
use mathlib.Core.List.{List, [], ◌∷◌, ◌++◌, append_assoc, append-nil}
use Prim.Native.Nat.{ℕ, zero, suc, ◌+◌, ◌-◌, ◌≤◌, ◌<◌, min}
use native.Mathlib.Nat.{sub-zero}
use native.Mathlib.Omega.{arith}
use lib.ListN.{length, length-append}
use Rattle.medium.specs.declared.geometry.Geometry.{Geometry}
use Rattle.medium.specs.Operation.{Answer, done, refused, and_then}
use Rattle.medium.specs.Medium.{read_at}
use Rattle.objects.specs.declared.location.ObjectLocation.{ObjectLocation}
use Rattle.objects.specs.declared.reader.ObjectReader.{ObjectReader}
use Rattle.objects.specs.declared.metadata.MetadataObjectHeader.{MetadataObjectHeader}
use Rattle.objects.specs.Header.{payload_of}
use Rattle.objects.specs.Payload.{payload_at}
use Rattle.objects.specs.Reader.{reader_at}
use Rattle.objects.specs.Metadata.{metadata_at}
use Rattle.storage.specs.File.{Places, places_of, some_of, gather, gather_at, read_file, sizes, file_size}
use Rattle.storage.specs.Laws.{InPieces, PastTheEnd, AsLong}
use Rattle.medium.proofs.Runs.{leb_is}
use Rattle.objects.proofs.Reading.{read_length}
use Rattle.shown.proofs.Reading.{and_back}
use Rattle.storage.proofs.Pieces.{gather_full, piece-stop, piece-skip, piece-gives}
use Rattle.storage.proofs.Ranges.{read_join}

then_assoc : {A B C : Type 0} (a : Answer A) (k : A → Answer B) (j : B → Answer C) → and_then (and_then a k) j ≡ and_then a (λ x. and_then (k x) j)
then_assoc (done x) k j = refl
then_assoc (refused n) k j = refl

then_same : {A B : Type 0} (a : Answer A) (k j : A → Answer B) → ((x : A) → a ≡ done x → k x ≡ j x) → and_then a k ≡ and_then a j
then_same (done x) k j f = f x refl
then_same (refused n) k j f = refl

done_is : {A : Type 0} (x y : A) → ◌≡◌ {A = Answer A} (done x) (done y) → x ≡ y
done_is x y e = cc

module _ (g : Geometry) (e : Answer (Unit {0})) (img : List ℕ) where
  abbrev places : List ObjectLocation → Places
  places ls = record { at = ls; end = e }

  abbrev got : List ObjectLocation → ℕ → ℕ → Answer (List ℕ)
  got ls p n = gather g ls e p n img

  -- the second part, behind the bytes of the first
  abbrev onward : List ObjectLocation → ℕ → ℕ → List ℕ → Answer (List ℕ)
  onward ls p m a = and_then (got ls (p + length a) m) (λ b. done (a ++ b))

  -- with nothing in one of the parts
  none_first : (ls : List ObjectLocation) (p m : ℕ) → got ls p (0 + m) ≡ and_then (got ls p 0) (onward ls p m)
  none_first ls p m =
      let z : 0 + m ≡ m = omega arith in
      let y : p + 0 ≡ p = omega arith in
      rw (gather_full g img (places ls) p, z, y) (go (got ls p m))
    where
      go : (a : Answer (List ℕ)) → a ≡ and_then a (λ b. done ([] ++ b))
      go (done b) = refl
      go (refused k) = refl

  none_second : (ls : List ObjectLocation) (p n : ℕ) → got ls p (n + 0) ≡ and_then (got ls p n) (onward ls p 0)
  none_second ls p n = let z : n + 0 ≡ n = omega arith in ap (got ls p) z ∙ go (got ls p n)
    where
      go : (a : Answer (List ℕ)) → a ≡ and_then a (onward ls p 0)
      go (done b) = ap done (sym (append-nil b)) ∙ sym (ap (λ (x : Answer (List ℕ)). and_then x (λ c. done (b ++ c))) (gather_full g img (places ls) (p + length b)))
      go (refused k) = refl

  at_end_lem : (p n m : ℕ) → 0 < n → 0 < m → got [] p (n + m) ≡ and_then (got [] p n) (onward [] p m)
  unfolding gather
  at_end_lem p zero m h i = absurd (omega arith)
  at_end_lem p (suc n) zero h i = absurd (omega arith)
  at_end_lem p (suc n) (suc m) h i = let z : suc n + suc m ≡ suc (n + suc m) = omega arith in rw z (go e)
    where
      go : (a : Answer (Unit {0})) → and_then {B = List ℕ} a (λ _. done []) ≡ and_then (and_then {B = List ℕ} a (λ _. done [])) (λ x. and_then (and_then {B = List ℕ} a (λ _. done [])) (λ b. done (x ++ b)))
      go (done u) = refl
      go (refused k) = refl

  module _ (ls : List ObjectLocation) (p n m : ℕ) (some : 0 < n) (more : 0 < m) (rec : (q k j : ℕ) → gather g ls e q (k + j) img ≡ and_then (gather g ls e q k img) (λ a. and_then (gather g ls e (q + length a) j img) (λ b. done (a ++ b)))) (l : ObjectLocation) where
    both : 0 < n + m
    both = omega arith

    module _ (r : ObjectReader) (o : reader_at g l false img ≡ done r) where
      -- all of the object lies before the position
      skipped : payload_of g.s r.object ≤ p → got (l ∷ ls) p (n + m) ≡ and_then (got (l ∷ ls) p n) (onward (l ∷ ls) p m)
      skipped h =
          piece-skip g img l (places ls) p (n + m) both r o h ∙ rec (p - payload_of g.s r.object) n m
          ∙ then_same (got ls (p - payload_of g.s r.object) n) (onward ls (p - payload_of g.s r.object) m) (onward (l ∷ ls) p m) (λ a q. later a)
          ∙ ap (λ (x : Answer (List ℕ)). and_then x (onward (l ∷ ls) p m)) (sym (piece-skip g img l (places ls) p n some r o h))
        where
          later : (a : List ℕ) → onward ls (p - payload_of g.s r.object) m a ≡ onward (l ∷ ls) p m a
          later a =
              let z : p - payload_of g.s r.object + length a ≡ p + length a - payload_of g.s r.object = omega arith in
              ap (λ (x : Answer (List ℕ)). and_then x (λ b. done (a ++ b))) (ap (λ (k : ℕ). got ls k m) z ∙ sym (piece-skip g img l (places ls) (p + length a) m more r o (omega arith)))

      -- the first part takes all that the object has from there on
      taken : p < payload_of g.s r.object → payload_of g.s r.object - p ≤ n → got (l ∷ ls) p (n + m) ≡ and_then (got (l ∷ ls) p n) (onward (l ∷ ls) p m)
      taken h i =
          let u : min (n + m) (payload_of g.s r.object - p) ≡ min n (payload_of g.s r.object - p) = omega arith in
          piece-gives g img l (places ls) p (n + m) both r o h
          ∙ ap (λ (k : ℕ). and_then (read_at g r.object.location.block (payload_at g r.object + p) k img) (λ bs. and_then (got ls 0 (n + m - length bs)) (λ c. done (bs ++ c)))) u
          ∙ then_same (some_of g r.object p n img) (λ bs. and_then (got ls 0 (n + m - length bs)) (λ c. done (bs ++ c))) (λ bs. and_then (and_then (got ls 0 (n - length bs)) (λ c. done (bs ++ c))) (onward (l ∷ ls) p m)) later
          ∙ sym (then_assoc (some_of g r.object p n img) (λ bs. and_then (got ls 0 (n - length bs)) (λ c. done (bs ++ c))) (onward (l ∷ ls) p m))
          ∙ ap (λ (x : Answer (List ℕ)). and_then x (onward (l ∷ ls) p m)) (sym (piece-gives g img l (places ls) p n some r o h))
        where
          later : (bs : List ℕ) → some_of g r.object p n img ≡ done bs
              → and_then (got ls 0 (n + m - length bs)) (λ c. done (bs ++ c)) ≡ and_then (and_then (got ls 0 (n - length bs)) (λ c. done (bs ++ c))) (onward (l ∷ ls) p m)
          later bs q =
              let w : length bs ≡ payload_of g.s r.object - p = read_length g r.object.location.block (payload_at g r.object + p) (min n (payload_of g.s r.object - p)) img bs q ∙ omega arith in
              let z : n + m - length bs ≡ n - length bs + m = omega arith in
              ap (λ (k : ℕ). and_then (got ls 0 k) (λ c. done (bs ++ c))) z
              ∙ ap (λ (x : Answer (List ℕ)). and_then x (λ c. done (bs ++ c))) (rec 0 (n - length bs) m)
              ∙ then_assoc (got ls 0 (n - length bs)) (onward ls 0 m) (λ c. done (bs ++ c))
              ∙ then_same (got ls 0 (n - length bs)) (λ a. and_then (onward ls 0 m a) (λ c. done (bs ++ c))) (λ a. onward (l ∷ ls) p m (bs ++ a)) (λ a _. last a w)
              ∙ sym (then_assoc (got ls 0 (n - length bs)) (λ c. done (bs ++ c)) (onward (l ∷ ls) p m))
            where
              last : (a : List ℕ) → length bs ≡ payload_of g.s r.object - p → and_then (onward ls 0 m a) (λ c. done (bs ++ c)) ≡ onward (l ∷ ls) p m (bs ++ a)
              last a w =
                  let y : length (bs ++ a) ≡ length bs + length a = length-append bs a in
                  let z : 0 + length a ≡ p + length (bs ++ a) - payload_of g.s r.object = omega arith in
                  then_assoc (got ls (0 + length a) m) (λ b. done (a ++ b)) (λ c. done (bs ++ c))
                  ∙ ap (λ (k : ℕ). and_then (got ls k m) (λ b. done (bs ++ (a ++ b)))) z
                  ∙ ap (λ (x : Answer (List ℕ)). and_then x (λ b. done (bs ++ (a ++ b)))) (sym (piece-skip g img l (places ls) (p + length (bs ++ a)) m more r o (omega arith)))
                  ∙ then_same (got (l ∷ ls) (p + length (bs ++ a)) m) (λ b. done (bs ++ (a ++ b))) (λ b. done ((bs ++ a) ++ b)) (λ b _. ap done (sym (append_assoc bs a b)))

      -- the cut lies within the object
      within : p < payload_of g.s r.object → n < payload_of g.s r.object - p → got (l ∷ ls) p (n + m) ≡ and_then (got (l ∷ ls) p n) (onward (l ∷ ls) p m)
      within h i =
          let u : min (n + m) (payload_of g.s r.object - p) ≡ n + min m (payload_of g.s r.object - (p + n)) = omega arith in
          let v : min n (payload_of g.s r.object - p) ≡ n = omega arith in
          let w : payload_at g r.object + p + n ≡ payload_at g r.object + (p + n) = omega arith in
          piece-gives g img l (places ls) p (n + m) both r o h
          ∙ ap (λ (k : ℕ). and_then (read_at g r.object.location.block (payload_at g r.object + p) k img) (λ bs. and_then (got ls 0 (n + m - length bs)) (λ c. done (bs ++ c)))) u
          ∙ ap (λ (x : Answer (List ℕ)). and_then x (λ bs. and_then (got ls 0 (n + m - length bs)) (λ c. done (bs ++ c)))) (read_join g r.object.location.block (payload_at g r.object + p) n (min m (payload_of g.s r.object - (p + n))) img)
          ∙ then_assoc (read_at g r.object.location.block (payload_at g r.object + p) n img) (λ a. and_then (read_at g r.object.location.block (payload_at g r.object + p + n) (min m (payload_of g.s r.object - (p + n))) img) (λ c. done (a ++ c))) (λ bs. and_then (got ls 0 (n + m - length bs)) (λ c. done (bs ++ c)))
          ∙ then_same (read_at g r.object.location.block (payload_at g r.object + p) n img) (λ a. and_then (and_then (read_at g r.object.location.block (payload_at g r.object + p + n) (min m (payload_of g.s r.object - (p + n))) img) (λ c. done (a ++ c))) (λ bs. and_then (got ls 0 (n + m - length bs)) (λ c. done (bs ++ c)))) (onward (l ∷ ls) p m) (λ a q. second a q w)
          ∙ ap (λ (x : Answer (List ℕ)). and_then x (onward (l ∷ ls) p m)) (sym (first v))
        where
          first : min n (payload_of g.s r.object - p) ≡ n → got (l ∷ ls) p n ≡ read_at g r.object.location.block (payload_at g r.object + p) n img
          first v =
              piece-gives g img l (places ls) p n some r o h
              ∙ ap (λ (k : ℕ). and_then (read_at g r.object.location.block (payload_at g r.object + p) k img) (λ bs. and_then (got ls 0 (n - length bs)) (λ c. done (bs ++ c)))) v
              ∙ then_same (read_at g r.object.location.block (payload_at g r.object + p) n img) (λ bs. and_then (got ls 0 (n - length bs)) (λ c. done (bs ++ c))) (λ bs. done bs) full
              ∙ same (read_at g r.object.location.block (payload_at g r.object + p) n img)
            where
              full : (bs : List ℕ) → read_at g r.object.location.block (payload_at g r.object + p) n img ≡ done bs → and_then (got ls 0 (n - length bs)) (λ c. done (bs ++ c)) ≡ done bs
              full bs q =
                  let y : length bs ≡ n = read_length g r.object.location.block (payload_at g r.object + p) n img bs q in
                  let z : n - length bs ≡ 0 = omega arith in
                  rw (z, gather_full g img (places ls) 0) (ap done (append-nil bs))

              same : (a : Answer (List ℕ)) → and_then a (λ bs. done bs) ≡ a
              same (done bs) = refl
              same (refused k) = refl

          second : (a : List ℕ) → read_at g r.object.location.block (payload_at g r.object + p) n img ≡ done a → payload_at g r.object + p + n ≡ payload_at g r.object + (p + n)
              → and_then (and_then (read_at g r.object.location.block (payload_at g r.object + p + n) (min m (payload_of g.s r.object - (p + n))) img) (λ c. done (a ++ c))) (λ bs. and_then (got ls 0 (n + m - length bs)) (λ c. done (bs ++ c)))
              ≡ onward (l ∷ ls) p m a
          second a q w =
              let y : length a ≡ n = read_length g r.object.location.block (payload_at g r.object + p) n img a q in
              let z : p + n ≡ p + length a = omega arith in
              then_assoc (read_at g r.object.location.block (payload_at g r.object + p + n) (min m (payload_of g.s r.object - (p + n))) img) (λ c. done (a ++ c)) (λ bs. and_then (got ls 0 (n + m - length bs)) (λ c. done (bs ++ c)))
              ∙ then_same (read_at g r.object.location.block (payload_at g r.object + p + n) (min m (payload_of g.s r.object - (p + n))) img) (λ b. and_then (got ls 0 (n + m - length (a ++ b))) (λ c. done ((a ++ b) ++ c))) (λ b. and_then (and_then (got ls 0 (m - length b)) (λ c. done (b ++ c))) (λ c. done (a ++ c))) (λ b _. last b y)
              ∙ sym (then_assoc (read_at g r.object.location.block (payload_at g r.object + p + n) (min m (payload_of g.s r.object - (p + n))) img) (λ b. and_then (got ls 0 (m - length b)) (λ c. done (b ++ c))) (λ c. done (a ++ c)))
              ∙ ap (λ (k : ℕ). and_then (and_then (read_at g r.object.location.block k (min m (payload_of g.s r.object - (p + n))) img) (λ b. and_then (got ls 0 (m - length b)) (λ c. done (b ++ c)))) (λ c. done (a ++ c))) w
              ∙ ap (λ (x : Answer (List ℕ)). and_then x (λ c. done (a ++ c))) (sym (piece-gives g img l (places ls) (p + n) m more r o (omega arith)) ∙ ap (λ (k : ℕ). got (l ∷ ls) k m) z)
            where
              last : (b : List ℕ) → length a ≡ n → and_then (got ls 0 (n + m - length (a ++ b))) (λ c. done ((a ++ b) ++ c)) ≡ and_then (and_then (got ls 0 (m - length b)) (λ c. done (b ++ c))) (λ c. done (a ++ c))
              last b y =
                  let x : length (a ++ b) ≡ length a + length b = length-append a b in
                  let z : n + m - length (a ++ b) ≡ m - length b = omega arith in
                  ap (λ (k : ℕ). and_then (got ls 0 k) (λ c. done ((a ++ b) ++ c))) z
                  ∙ then_same (got ls 0 (m - length b)) (λ c. done ((a ++ b) ++ c)) (λ c. done (a ++ (b ++ c))) (λ c _. ap done (append_assoc a b c))
                  ∙ sym (then_assoc (got ls 0 (m - length b)) (λ c. done (b ++ c)) (λ c. done (a ++ c)))

    opened : (x : Answer ObjectReader) → reader_at g l false img ≡ x → got (l ∷ ls) p (n + m) ≡ and_then (got (l ∷ ls) p n) (onward (l ∷ ls) p m)
    opened (refused k) q = piece-stop g img l (places ls) p (n + m) both k q ∙ ap (λ (y : Answer (List ℕ)). and_then y (onward (l ∷ ls) p m)) (sym (piece-stop g img l (places ls) p n some k q))
    opened (done r) q = go (leb_is (payload_of g.s r.object) p) (leb_is (payload_of g.s r.object - p) n)
      where
        go : (payload_of g.s r.object ≤ p) ⊎ (p < payload_of g.s r.object) → (payload_of g.s r.object - p ≤ n) ⊎ (n < payload_of g.s r.object - p)
            → got (l ∷ ls) p (n + m) ≡ and_then (got (l ∷ ls) p n) (onward (l ∷ ls) p m)
        go (inl h) i = skipped r q h
        go (inr h) (inl i) = taken r q h i
        go (inr h) (inr i) = within r q h i

    joined : got (l ∷ ls) p (n + m) ≡ and_then (got (l ∷ ls) p n) (onward (l ∷ ls) p m)
    joined = opened (reader_at g l false img) refl

  by_parts : (ls : List ObjectLocation) (p n m : ℕ) → (0 < n → 0 < m → got ls p (n + m) ≡ and_then (got ls p n) (onward ls p m)) → got ls p (n + m) ≡ and_then (got ls p n) (onward ls p m)
  by_parts ls p zero m f = none_first ls p m
  by_parts ls p (suc n) zero f = none_second ls p (suc n)
  by_parts ls p (suc n) (suc m) f = f (omega arith) (omega arith)

  pub gather_pieces : (ls : List ObjectLocation) (p n m : ℕ) → gather g ls e p (n + m) img ≡ and_then (gather g ls e p n img) (λ a. and_then (gather g ls e (p + length a) m img) (λ b. done (a ++ b)))
  gather_pieces [] p n m = by_parts [] p n m (at_end_lem p n m)
  gather_pieces (l ∷ ls) p n m = by_parts (l ∷ ls) p n m (λ a b. joined ls p n m a b (λ q k j. gather_pieces ls q k j) l)

pub in_pieces : InPieces
unfolding InPieces read_file
in_pieces g at p n m img = go (metadata_at g at img)
  where
    go : (a : Answer MetadataObjectHeader) → and_then a (λ k. gather_at g (places_of g k img) p (n + m) img)
        ≡ and_then (and_then a (λ k. gather_at g (places_of g k img) p n img)) (λ x. and_then (and_then a (λ k. gather_at g (places_of g k img) (p + length x) m img)) (λ y. done (x ++ y)))
    go (done k) = gather_pieces g (places_of g k img).end img (places_of g k img).at p n m
    go (refused k) = refl

-- ---- the file's length

-- what the length of a list of objects tells of its first
record First (g : Geometry) (l : ObjectLocation) (ls : List ObjectLocation) (e : Answer (Unit {0})) (img : List ℕ) (size : ℕ) : Type 0 where
  reader : ObjectReader
  opens : reader_at g l false img ≡ done reader
  rest : ℕ
  sized : sizes g ls e img ≡ done rest
  sum : payload_of g.s reader.object + rest ≡ size

first_of : (g : Geometry) (l : ObjectLocation) (ls : List ObjectLocation) (e : Answer (Unit {0})) (img : List ℕ) (size : ℕ) → sizes g (l ∷ ls) e img ≡ done size → First g l ls e img size
unfolding sizes
first_of g l ls e img size q =
    let a = and_back (reader_at g l false img) (λ r. and_then (sizes g ls e img) (λ n. done (payload_of g.s r.object + n))) size q in
    let b = and_back (sizes g ls e img) (λ n. done (payload_of g.s a.value.object + n)) size a.second in
    let z : payload_of g.s a.value.object + b.value ≡ size = cc in
    record { reader = a.value; opens = a.first; rest = b.value; sized = b.first; sum = z }

-- of no objects
none_sized : (g : Geometry) (e : Answer (Unit {0})) (img : List ℕ) (p n size : ℕ) → 0 < n → sizes g [] e img ≡ done size → (size ≡ 0) × (gather g [] e p n img ≡ done [])
unfolding sizes gather
none_sized g e img p zero size h q = absurd (omega arith)
none_sized g (done u) img p (suc n) size h q = let z : 0 ≡ size = cc in (sym z, refl)
none_sized g (refused k) img p (suc n) size h q = let z : ◌≡◌ {A = ℕ} 0 1 = cc in absurd (omega arith)

summed : (n d rest a b : ℕ) → a ≡ min n d → b ≡ min (n - a) rest → a + b ≡ min n (d + rest)
summed n d rest a b u v = omega arith

module _ (g : Geometry) (e : Answer (Unit {0})) (img : List ℕ) where
  past : (ls : List ObjectLocation) (p n size : ℕ) → sizes g ls e img ≡ done size → size ≤ p → gather g ls e p n img ≡ done []
  past ls p zero size q h = gather_full g img (record { at = ls; end = e }) p
  past [] p (suc n) size q h = (none_sized g e img p (suc n) size (omega arith) q).1
  past (l ∷ ls) p (suc n) size q h =
      let x : First g l ls e img size = first_of g l ls e img size q in
      piece-skip g img l (record { at = ls; end = e }) p (suc n) (omega arith) x.reader x.opens (omega (arith, x.sum))
      ∙ past ls (p - payload_of g.s x.reader.object) (suc n) x.rest x.sized (omega (arith, x.sum))

  unless_none : (ls : List ObjectLocation) (p n size : ℕ) (bs : List ℕ) → gather g ls e p n img ≡ done bs → (0 < n → length bs ≡ min n (size - p)) → length bs ≡ min n (size - p)
  unless_none ls p zero size bs r f = let z : [] ≡ bs = done_is [] bs (sym (gather_full g img (record { at = ls; end = e }) p) ∙ r) in ap length (sym z) ∙ omega arith
  unless_none ls p (suc n) size bs r f = f (omega arith)

  long : (ls : List ObjectLocation) (p n size : ℕ) (bs : List ℕ) → sizes g ls e img ≡ done size → gather g ls e p n img ≡ done bs → length bs ≡ min n (size - p)
  long [] p n size bs q r =
      unless_none [] p n size bs r
      (λ h. let x = none_sized g e img p n size h q in let z : [] ≡ bs = done_is [] bs (sym x.1 ∙ r) in ap length (sym z) ∙ omega (arith, x.0))
  long (l ∷ ls) p n size bs q r =
      let x : First g l ls e img size = first_of g l ls e img size q in
      unless_none (l ∷ ls) p n size bs r (λ some. go x some (leb_is (payload_of g.s x.reader.object) p) (λ k j cs s. long ls k j x.rest cs x.sized s))
    where
      go : (x : First g l ls e img size) → 0 < n → (payload_of g.s x.reader.object ≤ p) ⊎ (p < payload_of g.s x.reader.object)
          → ((k j : ℕ) (cs : List ℕ) → gather g ls e k j img ≡ done cs → length cs ≡ min j (x.rest - k)) → length bs ≡ min n (size - p)
      go x some (inl h) more =
          more (p - payload_of g.s x.reader.object) n bs (sym (piece-skip g img l (record { at = ls; end = e }) p n some x.reader x.opens h) ∙ r) ∙ omega (arith, x.sum)
      go x some (inr h) more =
          let a = and_back (some_of g x.reader.object p n img) (λ cs. and_then (gather g ls e 0 (n - length cs) img) (λ c. done (cs ++ c))) bs (sym (piece-gives g img l (record { at = ls; end = e }) p n some x.reader x.opens h) ∙ r) in
          let b = and_back (gather g ls e 0 (n - length a.value) img) (λ c. done (a.value ++ c)) bs a.second in
          let w : a.value ++ b.value ≡ bs = done_is (a.value ++ b.value) bs b.second in
          let u : length a.value ≡ min n (payload_of g.s x.reader.object - p) = read_length g x.reader.object.location.block (payload_at g x.reader.object + p) (min n (payload_of g.s x.reader.object - p)) img a.value a.first in
          let v : length b.value ≡ min (n - length a.value) (x.rest - 0) = more 0 (n - length a.value) b.value b.first in
          let d : size - p ≡ payload_of g.s x.reader.object - p + x.rest = omega (arith, x.sum) in
          ap length (sym w) ∙ length-append a.value b.value
          ∙ summed n (payload_of g.s x.reader.object - p) x.rest (length a.value) (length b.value) u (v ∙ ap (λ (k : ℕ). min (n - length a.value) k) (sub-zero x.rest)) ∙ ap (λ (k : ℕ). min n k) (sym d)

pub past_the_end : PastTheEnd
unfolding PastTheEnd read_file file_size
past_the_end g at p n size img e h =
    let a = and_back (metadata_at g at img) (λ m. sizes g (places_of g m img).at (places_of g m img).end img) size e in
    ap (λ (x : Answer MetadataObjectHeader). and_then x (λ m. gather_at g (places_of g m img) p n img)) a.first
    ∙ past g (places_of g a.value img).end img (places_of g a.value img).at p n size a.second h

pub as_long : AsLong
unfolding AsLong read_file file_size
as_long g at p n size img bs e r =
    let a = and_back (metadata_at g at img) (λ m. sizes g (places_of g m img).at (places_of g m img).end img) size e in
    long g (places_of g a.value img).end img (places_of g a.value img).at p n size bs a.second
    (sym (ap (λ (x : Answer MetadataObjectHeader). and_then x (λ m. gather_at g (places_of g m img) p n img)) a.first) ∙ r)
