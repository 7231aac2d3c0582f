-- 01's number of each refusal, and what an answer of the code stands for.
use Rattle.std.specs.Prelude.{ℕ, Result, Ok, Err}
use Rattle.medium.specs.declared.refusal.Refusal.{Refusal}
use Rattle.medium.specs.declared.refusal.Refusal.TheVariants.{NotFormatted, FsCorrupted, Io, InvalidOperation, InsufficientSpace, BadGeometry, BadRoom, PowerLost, RustPanic, NotErased, NotFound, Dangling}
use Rattle.medium.specs.Answer.{Answer, done, refused}

abbrev pub refusal_number : Refusal → ℕ
refusal_number NotFormatted = 1
refusal_number FsCorrupted = 2
refusal_number Io = 3
refusal_number InvalidOperation = 4
refusal_number InsufficientSpace = 5
refusal_number BadGeometry = 6
refusal_number BadRoom = 7
refusal_number PowerLost = 8
refusal_number RustPanic = 9
refusal_number NotErased = 10
refusal_number NotFound = 13
refusal_number Dangling = 14

abbrev pub answer_of : {A : Type 0} → Result A Refusal → Answer A
answer_of (Ok a) = done a
answer_of (Err e) = refused (refusal_number e)

-- 0 where it is done
abbrev pub code_of : {A : Type 0} → Result A Refusal → ℕ
code_of (Ok a) = 0
code_of (Err e) = refusal_number e
