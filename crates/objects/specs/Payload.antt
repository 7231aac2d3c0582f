-- The payload of an object: "Total is header plus payload", so it starts right behind the header. Two are the same where both can be read
-- and have the same bytes.
use Rattle.std.specs.Prelude.{ℕ, ◌+◌, List, [], ◌∷◌, Bool, true, false, ◌&&◌, eqb}
use Rattle.medium.specs.declared.geometry.Geometry.{Geometry}
use Rattle.medium.specs.Granularity.{header}
use Rattle.medium.specs.Operation.{Answer, done, refused}
use Rattle.medium.specs.Medium.{readable, read_at}
use Rattle.objects.specs.declared.header.ObjectHeader.{ObjectHeader}
use Rattle.objects.specs.Header.{payload_of}

-- where it starts in its block
abbrev pub payload_at : Geometry → ObjectHeader → ℕ
payload_at g h = h.location.offset + header g.granularity g.s

unfoldable pub payload_readable : Geometry → ObjectHeader → ℕ → ℕ
payload_readable g h room = readable g room h.location.block (payload_at g h) (payload_of g.s h)

-- its bytes
unfoldable pub read_payload : Geometry → ObjectHeader → List ℕ → Answer (List ℕ)
read_payload g h img = read_at g h.location.block (payload_at g h) (payload_of g.s h) img

-- ---- two payloads

unfoldable pub equal : List ℕ → List ℕ → Bool
equal [] [] = true
equal [] (y ∷ ys) = false
equal (x ∷ xs) [] = false
equal (x ∷ xs) (y ∷ ys) = eqb x y && equal xs ys

abbrev pub same_bytes : Answer (List ℕ) → Answer (List ℕ) → Bool
same_bytes (done a) (done b) = equal a b
same_bytes (done a) (refused k) = false
same_bytes (refused n) b = false

unfoldable pub same_payload : Geometry → ObjectHeader → ObjectHeader → List ℕ → Bool
same_payload g a b img = same_bytes (read_payload g a img) (read_payload g b img)
