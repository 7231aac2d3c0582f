-- How the code goes about a read: what the next data object gives of it, and what is left to read behind that.
use Rattle.std.specs.Prelude.{ℕ, ◌-◌, ◌≤◌, ◌<◌, ◌≡◌, List, [], ◌++◌, Option, Some, None, Result, Ok, Err}
use Rattle.medium.specs.declared.geometry.Geometry.{Geometry}
use Rattle.medium.specs.declared.refusal.Refusal.{Refusal}
use Rattle.medium.specs.Refusal.{refusal_number}
use Rattle.medium.specs.Geometry.{address}
use Rattle.medium.specs.Operation.{Answer, done, refused, and_then}
use Rattle.medium.specs.Medium.{part, read_at}
use Rattle.objects.specs.declared.metadata.MetadataObjectHeader.{MetadataObjectHeader}
use Rattle.storage.specs.declared.file.Piece.{Piece}
use Rattle.storage.specs.File.{Places, places_of, gather_at}

abbrev pub piece_bytes : Geometry → Piece → List ℕ → List ℕ
piece_bytes g p img = part (address g p.block p.at) p.len img

-- its bytes, and then the rest of n from the places behind it
abbrev pub bytes_then : Geometry → List ℕ → ℕ → Places → Piece → Answer (List ℕ)
bytes_then g img n rest p = and_then (gather_at g rest p.skip (n - p.len) img) (λ more. done (piece_bytes g p img ++ more))

abbrev pub piece_then : Geometry → List ℕ → ℕ → Places → Result Piece Refusal → Answer (List ℕ)
piece_then g img n rest (Ok p) = bytes_then g img n rest p
piece_then g img n rest (Err e) = refused (refusal_number e)

-- they can be read, and they are no more than n
abbrev pub FitsAt : Geometry → List ℕ → ℕ → Result Piece Refusal → Type 0
FitsAt g img n (Ok p) = (read_at g p.block p.at p.len img ≡ done (piece_bytes g p img)) × (p.len ≤ n)
FitsAt g img n (Err e) = Unit {0}

-- ---- of the next object in a list, with the list behind it

abbrev pub NextPiece : Type 0
NextPiece = Result (Option (Piece × MetadataObjectHeader)) Refusal

abbrev pub next_then : Geometry → List ℕ → ℕ → NextPiece → Answer (List ℕ)
next_then g img n (Ok (Some x)) = bytes_then g img n (places_of g x.1 img) x.0
next_then g img n (Ok None) = done []
next_then g img n (Err e) = refused (refusal_number e)

-- and that list has gone on
abbrev pub Fits : Geometry → List ℕ → MetadataObjectHeader → ℕ → NextPiece → Type 0
Fits g img m n (Ok (Some x)) = (read_at g x.0.block x.0.at x.0.len img ≡ done (piece_bytes g x.0 img)) × (x.0.len ≤ n) × (m.cursor < x.1.cursor) × (m.cursor < g.size)
Fits g img m n (Ok None) = Unit {0}
Fits g img m n (Err e) = Unit {0}

-- an answer that is no refusal
abbrev pub IsDone : {A : Type 0} → Answer A → Type 0
IsDone (done a) = Unit {0}
IsDone (refused n) = ⊥
