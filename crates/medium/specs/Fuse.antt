-- "A fuse is absent or a count of units. A store that needs more units than are left programs just that many, sets the fuse to 0 and
-- answers PowerLost."
use Rattle.std.specs.Prelude.{ℕ, ◌-◌, leb, Result, Ok, Err}
use Rattle.medium.specs.Granularity.{pick}
use Rattle.medium.specs.declared.fuse.Fuse.{Fuse}
use Rattle.medium.specs.declared.fuse.Fuse.TheVariants.{Absent, Units}
use Rattle.medium.specs.declared.fuse.Stopped.{Stopped}
use Rattle.medium.specs.declared.refusal.Refusal.{Refusal}
use Rattle.medium.specs.declared.refusal.Refusal.TheVariants.{PowerLost}
use Rattle.medium.specs.Refusal.{refusal_number}

-- what a store leaves
abbrev pub Stored : Type 0
Stored = Result Fuse Stopped

-- 01's number of each case
abbrev pub stored_number : Stored → ℕ
stored_number (Ok f) = 0
stored_number (Err s) = refusal_number s.refusal

-- the fuse that comes back
abbrev pub fuse_of : Stored → Fuse
fuse_of (Ok f) = f
fuse_of (Err s) = s.fuse

-- an answer that took no power, with the fuse beside a refusal
abbrev pub kept_by : {A : Type 0} → Fuse → Result A Refusal → Result A Stopped
kept_by f (Ok a) = Ok a
kept_by f (Err e) = Err (record { refusal = e; fuse = f })

-- what a store of n units gets
unfoldable pub spend_of : Fuse → ℕ → Result Fuse ℕ
spend_of Absent n = Ok Absent
spend_of (Units k) n = pick (leb n k) (Ok (Units (k - n))) (Err k)

abbrev pub granted_of : Result Fuse ℕ → ℕ → ℕ
granted_of (Ok f) n = n
granted_of (Err k) n = k

abbrev pub stored_of : Result Fuse ℕ → Stored
stored_of (Ok f) = Ok f
stored_of (Err k) = Err (record { refusal = PowerLost; fuse = Units 0 })
