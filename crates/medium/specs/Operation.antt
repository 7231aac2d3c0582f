-- An operation is what it stores with power, as a list of events, and its answer. The fuse cuts that list, here and nowhere else.
-- The state and its events are a `World`: `flash` is the image with its units. `do` joins operations.
use Rattle.std.specs.Prelude.{Result, Ok, Err, Bool, true, false, List, [], ◌∷◌, ◌++◌, ℕ, zero, suc, ◌-◌, leb}
use Rattle.medium.specs.declared.fuse.Fuse.{Fuse}
use Rattle.medium.specs.declared.fuse.Fuse.TheVariants.{Absent, Units}
use Rattle.medium.specs.declared.refusal.Refusal.{Refusal}
use Rattle.medium.specs.Refusal.{refusal_number}
use Rattle.medium.specs.declared.fuse.Stopped.{Stopped}
use Rattle.medium.specs.Fuse.{Stored}
pub use Rattle.medium.specs.Answer.{Answer, done, refused, and_then, or_refuse, number_of}
use Rattle.medium.specs.Granularity.{pick}
use Rattle.medium.specs.Units.{FlashUnit, step}

-- ---- a world: a state, the events that change it, and which of them take a unit of power

pub record World : Type 1 where
  pub State : Type 0
  pub Event : Type 0
  pub step : Event → State → State
  pub power : Event → Bool

abbrev pub flash : World
flash = record { State = List ℕ; Event = FlashUnit; step = step; power = λ _. true }

abbrev pub happen : (W : World) → List W.Event → W.State → W.State
happen W [] s = s
happen W (e ∷ es) s = happen W es (W.step e s)

abbrev pub apply : List FlashUnit → List ℕ → List ℕ
apply us img = happen flash us img

abbrev pub cost : (W : World) → List W.Event → ℕ
cost W [] = 0
cost W (e ∷ es) = pick (W.power e) (suc (cost W es)) (cost W es)

-- what happens before unit k + 1
abbrev pub prefix : (W : World) → ℕ → List W.Event → List W.Event
prefix W k [] = []
prefix W zero (e ∷ es) = pick (W.power e) [] (e ∷ prefix W zero es)
prefix W (suc k) (e ∷ es) = e ∷ prefix W (pick (W.power e) k (suc k)) es

-- ---- operations

pub record Run (W : World) (A : Type 0) : Type 0 where
  pub events : List W.Event
  pub answer : Answer A

abbrev pub OpIn : World → Type 0 → Type 0
OpIn W A = W.State → Run W A

abbrev pub Op : Type 0 → Type 0
Op A = OpIn flash A

abbrev pub follow : {W : World} {A B : Type 0} → List W.Event → Answer A → (A → OpIn W B) → W.State → Run W B
follow {W} es (done a) p s = let r = p a (happen W es s) in record { events = es ++ r.events; answer = r.answer }
follow es (refused n) p s = record { events = es; answer = refused n }

infixl 20 ◌>>=◌ ◌>>◌
unfoldable pub ◌>>=◌ : {W : World} {A B : Type 0} → OpIn W A → (A → OpIn W B) → OpIn W B
◌>>=◌ o p s = let r = o s in follow r.events r.answer p s

abbrev pub ◌>>◌ : {W : World} {A B : Type 0} → OpIn W A → OpIn W B → OpIn W B
◌>>◌ o p = o >>= λ _. p

-- an answer that is read off the state
unfoldable pub ask : {W : World} {A : Type 0} → (W.State → Answer A) → OpIn W A
ask q s = record { events = []; answer = q s }

abbrev pub give : {W : World} {A : Type 0} → A → OpIn W A
give a = ask (λ _. done a)

abbrev pub refuse : {W : World} {A : Type 0} → ℕ → OpIn W A
refuse n = ask (λ _. refused n)

-- a test of the state that gives a number
unfoldable pub test : {W : World} → (W.State → ℕ) → OpIn W (Unit {0})
test q = ask (λ i. or_refuse (q i))

-- events that are stored with no test
unfoldable pub putting : {W : World} {A : Type 0} → List W.Event → A → OpIn W A
putting es a s = record { events = es; answer = done a }

-- ---- the fuse

pub record EndIn (S A : Type 0) : Type 0 where
  pub answer : Answer A
  pub fuse : Fuse
  pub state : S

abbrev pub End : Type 0 → Type 0
End A = EndIn (List ℕ) A

abbrev pub cut_by : {W : World} {A : Type 0} → Bool → ℕ → Run W A → W.State → EndIn W.State A
cut_by {W} true k r s = record { answer = r.answer; fuse = Units (k - cost W r.events); state = happen W r.events s }
cut_by {W} false k r s = record { answer = refused 8; fuse = Units 0; state = happen W (prefix W k r.events) s }

abbrev pub cut : {W : World} {A : Type 0} → Fuse → Run W A → W.State → EndIn W.State A
cut {W} Absent r s = record { answer = r.answer; fuse = Absent; state = happen W r.events s }
cut {W} (Units k) r s = cut_by (leb (cost W r.events) k) k r s

unfoldable pub run : {W : World} {A : Type 0} → Fuse → OpIn W A → W.State → EndIn W.State A
run f o s = cut f (o s) s

-- what a caller does with an end: goes on from it, or hands the refusal up
abbrev pub next_by : {S A B : Type 0} → Answer A → Fuse → S → (A → Fuse → S → EndIn S B) → EndIn S B
next_by (done a) f i k = k a f i
next_by (refused n) f i k = record { answer = refused n; fuse = f; state = i }

abbrev pub next : {S A B : Type 0} → EndIn S A → (A → Fuse → S → EndIn S B) → EndIn S B
next e k = next_by e.answer e.fuse e.state k

-- ---- what the code's answers stand for

-- a store that gives a where it is done
abbrev pub ended_by : {S A : Type 0} → Stored → A → S → EndIn S A
ended_by (Ok f) a i = record { answer = done a; fuse = f; state = i }
ended_by (Err s) a i = record { answer = refused (refusal_number s.refusal); fuse = s.fuse; state = i }

abbrev pub ended : {S : Type 0} → Stored → S → EndIn S (Unit {0})
ended r i = ended_by r tt i

-- a store that hands a value on where it is done
abbrev pub ended_with : {S A : Type 0} → Result (A × Fuse) Stopped → S → EndIn S A
ended_with (Ok x) i = record { answer = done x.0; fuse = x.1; state = i }
ended_with (Err s) i = record { answer = refused (refusal_number s.refusal); fuse = s.fuse; state = i }

-- an answer that gives a where it is done
abbrev pub answered : {A : Type 0} → Result (Unit {0}) Refusal → A → Answer A
answered (Ok u) a = done a
answered (Err e) a = refused (refusal_number e)

-- the second where the call is done, else the first
abbrev pub unless_done : {A : Type 0} → Result (Unit {0}) Refusal → A → A → A
unless_done (Ok u) a b = b
unless_done (Err e) a b = a

abbrev pub unless_stored : {A : Type 0} → Stored → A → A → A
unless_stored (Ok f) a b = b
unless_stored (Err s) a b = a
