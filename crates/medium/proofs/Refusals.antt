-- What a refusal's number says, and what `?` hands up.
use mathlib.Core.Path.{◌≡◌, refl, sym, ap, ◌∙◌}
use Prim.Native.Nat.{ℕ}
use native.Mathlib.Omega.{arith}
use Rattle.std.specs.Prelude.{Result, Ok, Err, IsErr, eqb}
use Rattle.std.specs.Result.{IsErrAnd}
use Rattle.medium.specs.declared.refusal.Refusal.{Refusal}
use Rattle.medium.specs.declared.refusal.Refusal.TheVariants.{NotFormatted, FsCorrupted, Io, InvalidOperation, InsufficientSpace, BadGeometry, BadRoom, PowerLost, RustPanic, NotErased, NotFound, Dangling}
use Rattle.medium.specs.declared.fuse.Fuse.{Fuse}
use Rattle.medium.specs.declared.fuse.Stopped.{Stopped}
use Rattle.medium.specs.Answer.{Answer, refused}
use Rattle.medium.specs.Refusal.{refusal_number, answer_of, code_of}
use Rattle.medium.specs.Fuse.{kept_by}
use Rattle.medium.specs.Granularity.{pick}

-- no refusal has the number of what is done
pub not_done : (e : Refusal) → refusal_number e ≡ 0 → ⊥
not_done NotFormatted h = absurd (omega arith)
not_done FsCorrupted h = absurd (omega arith)
not_done Io h = absurd (omega arith)
not_done InvalidOperation h = absurd (omega arith)
not_done InsufficientSpace h = absurd (omega arith)
not_done BadGeometry h = absurd (omega arith)
not_done BadRoom h = absurd (omega arith)
not_done PowerLost h = absurd (omega arith)
not_done RustPanic h = absurd (omega arith)
not_done NotErased h = absurd (omega arith)
not_done NotFound h = absurd (omega arith)
not_done Dangling h = absurd (omega arith)

-- the refusal of a number
of_number : ℕ → Refusal
of_number n = pick (eqb n 1) NotFormatted (pick (eqb n 2) FsCorrupted (pick (eqb n 3) Io (pick (eqb n 4) InvalidOperation (pick (eqb n 5) InsufficientSpace (pick (eqb n 6) BadGeometry (pick (eqb n 7) BadRoom (pick (eqb n 8) PowerLost (pick (eqb n 9) RustPanic (pick (eqb n 10) NotErased (pick (eqb n 13) NotFound (Dangling)))))))))))

of_its_number : (e : Refusal) → of_number (refusal_number e) ≡ e
unfolding of_number
of_its_number NotFormatted = refl
of_its_number FsCorrupted = refl
of_its_number Io = refl
of_its_number InvalidOperation = refl
of_its_number InsufficientSpace = refl
of_its_number BadGeometry = refl
of_its_number BadRoom = refl
of_its_number PowerLost = refl
of_its_number RustPanic = refl
of_its_number NotErased = refl
of_its_number NotFound = refl
of_its_number Dangling = refl

-- a number is that of one refusal
pub same_refusal : (e e' : Refusal) → refusal_number e ≡ refusal_number e' → e ≡ e'
same_refusal e e' h = sym (of_its_number e) ∙ ap of_number h ∙ of_its_number e'

-- two answers that stand for the same are the same
pub answer_one : {A : Type 0} (r r' : Result A Refusal) → answer_of r ≡ answer_of r' → r ≡ r'
answer_one {A} (Ok a) (Ok a') h = ap Ok (cc)
answer_one (Ok a) (Err e) h = let z : ◌≡◌ {A = ℕ} 0 1 = cc in absurd (omega arith)
answer_one (Err e) (Ok a) h = let z : ◌≡◌ {A = ℕ} 0 1 = cc in absurd (omega arith)
answer_one (Err e) (Err e') h = let q : refusal_number e ≡ refusal_number e' = cc in ap Err (same_refusal e e' q)

-- and so are two tests that give the same number
pub code_one : (r r' : Result (Unit {0}) Refusal) → code_of r ≡ code_of r' → r ≡ r'
code_one (Ok u) (Ok u') h = refl
code_one (Ok u) (Err e) h = absurd (not_done e (sym h))
code_one (Err e) (Ok u) h = absurd (not_done e h)
code_one (Err e) (Err e') h = ap Err (same_refusal e e' h)

not_ok : {A E : Type 0} {a : A} {e : E} → ◌≡◌ {A = Result A E} (Err e) (Ok a) → ⊥
not_ok h = let z : ◌≡◌ {A = ℕ} 0 1 = cc in absurd (omega arith)

-- the refusal that `?` hands up is the one that it met
pub passed : {A E : Type 0} (r : Result A E) (e : E) → IsErr r × IsErrAnd r (λ y. y ≡ e) → r ≡ Err e
passed (Ok a) e h = absurd h.1
passed (Err x) e h = ap Err h.1

-- a refusal that takes no power: the test's, with the fuse as it was
pub record Kept {A : Type 0} (f : Fuse) (r : Result A Refusal) (s : Stopped) : Type 0 where
  pub code : refusal_number s.refusal ≡ code_of r
  pub refused : ◌≡◌ {A = Answer A} (refused (refusal_number s.refusal)) (answer_of r)
  pub fuse : s.fuse ≡ f

pub kept_err : {A : Type 0} (f : Fuse) (r : Result A Refusal) (s : Stopped) → Err s ≡ kept_by f r → Kept f r s
kept_err f (Ok a) s h = absurd (not_ok h)
kept_err {A} f (Err e) s h =
    let q : s ≡ record { refusal = e; fuse = f } = cc in
    record { code = ap (λ (x : Stopped). refusal_number x.refusal) q; refused = ap (λ (x : Stopped). refused (refusal_number x.refusal)) q; fuse = ap (λ (x : Stopped). x.fuse) q }

pub kept_ok : {A : Type 0} (f : Fuse) (r : Result A Refusal) (a : A) → Ok a ≡ kept_by f r → r ≡ Ok a
kept_ok f (Ok b) a h = ap Ok cc
kept_ok f (Err e) a h = absurd (not_ok (sym h))
