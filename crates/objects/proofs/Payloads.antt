-- What is lent of a payload that can be read are its bytes.
use Prim.Native.Nat.{ℕ}
use mathlib.Core.Path.{◌≡◌, refl, sym}
use mathlib.Core.Bool.{false, true, false≢true}
use Rattle.std.specs.Prelude.{Result, Ok, Err, is_err}
use mathlib.Core.List.{List}
use lib.ListN.{length}
use Rattle.medium.specs.declared.geometry.Geometry.{Geometry}
use Rattle.medium.specs.declared.refusal.Refusal.{Refusal}
use Rattle.medium.specs.Refusal.{code_of}
use Rattle.medium.proofs.Refusals.{not_done}
use Rattle.medium.specs.Operation.{done, refused}
use Rattle.medium.specs.Medium.{lent}
use Rattle.medium.proofs.Ranges.{read_lent, read_refused}
use Rattle.objects.specs.declared.header.ObjectHeader.{ObjectHeader}
use Rattle.objects.specs.Header.{payload_of}
use Rattle.objects.specs.Payload.{payload_at, payload_readable, read_payload, equal, same_payload}

-- what a test says by its number
pub err_number : {A : Type 0} (r : Result A Refusal) → is_err r ≡ true → code_of r ≡ 0 → ⊥
err_number (Ok a) e z = absurd (false≢true e)
err_number (Err x) e z = not_done x z

pub ok_number : {A : Type 0} (r : Result A Refusal) → is_err r ≡ false → code_of r ≡ 0
ok_number (Ok a) e = refl
ok_number (Err x) e = absurd (false≢true (sym e))

module _ (g : Geometry) (h : ObjectHeader) (img : List ℕ) (r : ℕ) (e : r ≡ payload_readable g h (length img)) where
  pub payload_lent : (bs : List ℕ) → bs ≡ lent (read_payload g h img) → r ≡ 0 → read_payload g h img ≡ done bs
  unfolding payload_readable read_payload
  payload_lent bs q z = read_lent g h.location.block (payload_at g h) (payload_of g.s h) img r e bs q z

  pub payload_refused : (r ≡ 0 → ⊥) → read_payload g h img ≡ refused r
  unfolding payload_readable read_payload
  payload_refused z = read_refused g h.location.block (payload_at g h) (payload_of g.s h) img r e z

-- ---- two payloads

module _ (g : Geometry) (a b : ObjectHeader) (img : List ℕ) (r : ℕ) (e : r ≡ payload_readable g a (length img)) where
  pub first_unread : (r ≡ 0 → ⊥) → same_payload g a b img ≡ false
  unfolding same_payload
  first_unread n = rw (payload_refused g a img r e n)

  module _ (one : List ℕ) (la : one ≡ lent (read_payload g a img)) (z : r ≡ 0) (q : ℕ) (f : q ≡ payload_readable g b (length img)) where
    pub both_read : (bs : List ℕ) → bs ≡ lent (read_payload g b img) → q ≡ 0 → same_payload g a b img ≡ equal one bs
    unfolding same_payload
    both_read bs lb y = rw (payload_lent g a img r e one la z, payload_lent g b img q f bs lb y)

  pub second_unread : r ≡ 0 → (q : ℕ) → q ≡ payload_readable g b (length img) → (q ≡ 0 → ⊥) → same_payload g a b img ≡ false
  unfolding same_payload
  second_unread z q f n = rw (payload_lent g a img r e (lent (read_payload g a img)) refl z, payload_refused g b img q f n)
