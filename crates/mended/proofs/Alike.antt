-- Twins: what makes two objects twins, and what is the same of them.
use mathlib.Core.Path.{◌≡◌, sym, ap, ap₂, ◌∙◌}
use mathlib.Core.Bool.{true, false≢true}
use mathlib.Core.List.{List}
use Prim.Native.Nat.{ℕ}
use native.Mathlib.Nat.{add-zero}
use native.Mathlib.Omega.{arith}
use lib.ListN.{length}
use lib.Seq.{take-length}
use lib.Dec.{eqb}
use borrow.Author.Tests.{eqb-true, eq-eqb}
use Rattle.medium.specs.declared.geometry.Geometry.{Geometry}
use Rattle.medium.specs.Operation.{Answer, done, refused}
use Rattle.medium.specs.Medium.{read_at}
use Rattle.objects.specs.declared.types.ObjectType.{ObjectType}
use Rattle.objects.specs.declared.header.ObjectHeader.{ObjectHeader}
use Rattle.objects.specs.Payload.{payload_at, read_payload, same_bytes, same_payload}
use Rattle.shown.specs.Whole.{Whole}
use Rattle.objects.specs.Types.{type_number}
use Rattle.sweep.specs.Twins.{is_twin}
use Rattle.objects.proofs.Equal.{equal_is, equal_refl}
use Rattle.byname.proofs.Payloads.{part_read}
use Rattle.sweep.proofs.Alike.{both_true}
use Rattle.sweep.proofs.SameTwin.{second_reads}

-- an object that reads whole, by its payload
pub whole_payload : (g : Geometry) (o : ObjectHeader) (t : ObjectType) (pay img : List ℕ) → Whole g o t pay img → read_payload g o img ≡ done pay
unfolding read_payload
whole_payload g o t pay img w =
    ap₂ (λ (x n : ℕ). read_at g o.location.block x n img) (sym (add-zero (payload_at g o))) w.size
    ∙ part_read g o t pay img w 0 (length pay) (omega arith) ∙ ap done (take-length pay)

-- two of one type and payload are twins
pub twin_by : (g : Geometry) (img : List ℕ) (a b : ObjectHeader) (bs : List ℕ) → a.state ≡ b.state → read_payload g a img ≡ done bs → read_payload g b img ≡ done bs → is_twin g img a b ≡ true
unfolding is_twin same_payload
twin_by g img a b bs e p q = rw (eq-eqb _ _ (ap type_number e), p, q) (equal_refl bs)

-- they are so either way round
same_turned : (x y : Answer (List ℕ)) → same_bytes x y ≡ true → same_bytes y x ≡ true
same_turned (done a) (done b) e = rw (equal_is a b e) (equal_refl b)
same_turned (done a) (refused n) e = absurd (false≢true e)
same_turned (refused n) y e = absurd (false≢true e)

pub twin_turned : (g : Geometry) (img : List ℕ) (a b : ObjectHeader) → is_twin g img a b ≡ true → is_twin g img b a ≡ true
unfolding is_twin same_payload
twin_turned g img a b e =
    let p = both_true _ _ e in
    rw (eq-eqb _ _ (sym (eqb-true _ _ p.0))) (same_turned (read_payload g a img) (read_payload g b img) p.1)

-- and have one payload
pub twin_payload : (g : Geometry) (img : List ℕ) (a b : ObjectHeader) (bs : List ℕ) → is_twin g img a b ≡ true → read_payload g a img ≡ done bs → read_payload g b img ≡ done bs
unfolding is_twin same_payload
twin_payload g img a b bs e p =
    let q = both_true (eqb (type_number a.state) (type_number b.state)) (same_bytes (read_payload g a img) (read_payload g b img)) e in
    second_reads (read_payload g a img) (read_payload g b img) bs q.1 p
