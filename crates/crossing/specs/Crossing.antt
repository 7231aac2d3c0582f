-- What crosses between C and the library, said once for every function.
use Rattle.std.specs.Prelude.{Bool, true, false, List, ◌++◌, ℕ, length, drop, Result, Ok, Err}
use Rattle.medium.specs.declared.granularity.Granularity.TheVariants.{Bit}
use Rattle.medium.specs.declared.geometry.Geometry.{Geometry}
use Rattle.medium.specs.declared.fuse.Fuse.{Fuse}
use Rattle.medium.specs.declared.fuse.Fuse.TheVariants.{Absent, Units}
use Rattle.medium.specs.declared.fuse.Stopped.{Stopped}
use Rattle.medium.specs.Refusal.{refusal_number}
use Rattle.crossing.specs.declared.call.Told.{Told}
use Rattle.medium.specs.Fuse.{Stored}
use Rattle.medium.specs.Granularity.{pick}
use Rattle.medium.specs.Geometry.{geometry_ok, admit, fit_of, geometry_of}
use Rattle.medium.specs.Operation.{Op, EndIn, Answer, done, refused, and_then, or_refuse, ask, ◌>>=◌, number_of}

-- ---- in: a geometry, and a fuse

-- a geometry with no bytes, which every call refuses with 6
abbrev pub no_geometry : Geometry
no_geometry = record { granularity = Bit; s = 0; c = 0; strict = 0; size = 0; count = 0 }

abbrev pub or_none : Answer Geometry → Geometry
or_none (done g) = g
or_none (refused n) = no_geometry

-- what six numbers say
unfoldable pub geometry_in : List ℕ → Geometry
geometry_in ns = or_none (geometry_of ns)

unfoldable pub fuse_of : Bool → ℕ → Fuse
fuse_of true n = Units n
fuse_of false n = Absent

-- ---- in: a value beside the geometry. Where its numbers say none, 6 comes first, and 7 where there is an image

abbrev pub behind : {X : Type 0} → (ℕ → ℕ) → Answer X → Answer X
behind first (done x) = done x
behind first (refused n) = refused (first n)

unfoldable pub admit_alone : Geometry → ℕ → ℕ
admit_alone g n = pick (geometry_ok g) n 6

-- a question of the value
unfoldable pub asked_behind : {X A : Type 0} → (ℕ → ℕ) → Geometry → Answer X → (Geometry → X → Answer A) → Answer A
asked_behind first g a q = and_then (behind first a) (λ x. q g x)

-- without an image, and with one of so many bytes
abbrev pub asked : {X A : Type 0} → Geometry → Answer X → (Geometry → X → Answer A) → Answer A
asked g a q = asked_behind (admit_alone g) g a q

abbrev pub asked_in : {X A : Type 0} → Geometry → ℕ → Answer X → (Geometry → X → Answer A) → Answer A
asked_in g room a q = asked_behind (admit g room) g a q

-- a store of the value
unfoldable pub given : {X A : Type 0} → Geometry → Answer X → (Geometry → X → Op A) → Op A
given g a o = ask (λ img. behind (admit g (length img)) a) >>= λ x. o g x

-- a question that the library answers for any geometry
unfoldable pub fitting : {A : Type 0} → Geometry → Answer A → Answer A
fitting g a = and_then (or_refuse (fit_of g)) (λ _. a)

-- ---- out: the number, the units that are left, the state

pub record Crossing (S : Type 0) : Type 0 where
  pub number : ℕ
  pub units : ℕ
  pub state : S

abbrev pub crossed : {S : Type 0} → ℕ → ℕ → S → Crossing S
crossed n u s = record { number = n; units = u; state = s }

-- without a fuse the units stay
abbrev pub units_left : Fuse → ℕ → ℕ
units_left Absent u = u
units_left (Units k) u = k

unfoldable pub units_after : Stored → ℕ → ℕ
units_after r u = units_left (Rattle.medium.specs.Fuse.fuse_of r) u

-- of a store that hands a value on: the fuse or the refusal, and what the value crosses as where it is done
abbrev pub left_of : {A E : Type 0} → Result (A × Fuse) E → Result Fuse E
left_of (Ok x) = Ok x.1
left_of (Err s) = Err s

abbrev pub value_of : {A B E : Type 0} → (A → B) → B → Result (A × Fuse) E → B
value_of k b (Ok x) = k x.0
value_of k b (Err s) = b

-- a refusal of a store as C is told it
abbrev pub told_of : Stopped → Told
told_of s = record { number = refusal_number s.refusal; fuse = s.fuse }

-- the number of such an answer, which may be any, and the fuse that it leaves
abbrev pub told_number : Result Fuse Told → ℕ
told_number (Ok f) = 0
told_number (Err t) = t.number

abbrev pub told_fuse : Result Fuse Told → Fuse
told_fuse (Ok f) = f
told_fuse (Err t) = t.fuse

unfoldable pub crossing : {S A : Type 0} → ℕ → EndIn S A → Crossing S
crossing u e = crossed (number_of e.answer) (units_left e.fuse u) e.state

-- ---- out, with a value beside the number: where the call is refused, it is as it was

abbrev pub kept_as : {A B : Type 0} → (A → B) → Answer A → B → B
kept_as k (done a) b = k a
kept_as k (refused n) b = b

pub record CrossingWith (S B : Type 0) : Type 0 where
  pub number : ℕ
  pub units : ℕ
  pub state : S
  pub out : B

abbrev pub crossed_with : {S B : Type 0} → ℕ → ℕ → S → B → CrossingWith S B
crossed_with n u s b = record { number = n; units = u; state = s; out = b }

unfoldable pub crossing_with : {S A B : Type 0} → (A → B) → ℕ → B → EndIn S A → CrossingWith S B
crossing_with k u b e = crossed_with (number_of e.answer) (units_left e.fuse u) e.state (kept_as k e.answer b)

-- ---- out of a question: the number and the values

pub record Telling (B : Type 0) : Type 0 where
  pub number : ℕ
  pub out : B

abbrev pub told : {B : Type 0} → ℕ → B → Telling B
told n b = record { number = n; out = b }

abbrev pub kept_by : {A B : Type 0} → (A → B → B) → Answer A → B → B
kept_by k (done a) b = k a b
kept_by k (refused n) b = b

unfoldable pub telling_by : {A B : Type 0} → (A → B → B) → B → Answer A → Telling B
telling_by k b a = told (number_of a) (kept_by k a b)

-- of values that leave nothing of what was there
abbrev pub telling : {A B : Type 0} → (A → B) → B → Answer A → Telling B
telling k b a = telling_by (λ x _. k x) b a

-- two out values
pub record Two (A B : Type 0) : Type 0 where
  pub first : A
  pub second : B

abbrev pub two : {A B : Type 0} → A → B → Two A B
two a b = record { first = a; second = b }

-- a value that crosses as it is
abbrev pub plain : {A : Type 0} → A → A
plain a = a

-- ---- out: bytes that fill the first of a buffer, with the rest as it was, and how many

abbrev pub over_first : List ℕ → List ℕ → List ℕ
over_first bs old = bs ++ drop (length bs) old

abbrev pub bytes_out : List ℕ → Two (List ℕ) ℕ → Two (List ℕ) ℕ
bytes_out bs old = two (over_first bs old.first) (length bs)
