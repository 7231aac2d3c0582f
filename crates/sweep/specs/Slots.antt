-- Which payloads were met, in lent words, by a key of each: slots of three words, which say whether one is taken, by which key, and a block to look
-- from. A key starts at its own slot and takes the first free one from there on; the last sixteenth of the slots is room for that.
use Rattle.std.specs.Prelude.{ℕ, zero, suc, ◌+◌, ◌-◌, ◌*◌, ◌/◌, ◌%◌, ◌≡◌, Bool, true, false, List, [], ◌∷◌, length, get_or, set, eqb}
use Rattle.medium.specs.declared.geometry.Geometry.{Geometry}
use Rattle.medium.specs.Granularity.{pick}
use Rattle.medium.specs.Medium.{lent}
use Rattle.objects.specs.declared.header.ObjectHeader.{ObjectHeader}
use Rattle.objects.specs.Payload.{read_payload}
use Rattle.storage.specs.Laws.{All}
use Rattle.sweep.specs.declared.slots.Slot.{Slot}
use Rattle.sweep.specs.declared.slots.Slot.TheVariants.{Met, Free, Full}

-- ---- the key of a payload: equal bytes have equal keys

abbrev pub key_from : ℕ → List ℕ → ℕ
key_from n [] = n
key_from n (b ∷ bs) = key_from ((n * 16777619 + b) % 4294967291) bs

unfoldable pub key_of : List ℕ → ℕ
key_of bs = key_from 0 bs

abbrev pub key_at : Geometry → List ℕ → ObjectHeader → ℕ
key_at g img h = key_of (lent (read_payload g h img))

-- ---- the slots

abbrev pub slots_in : List ℕ → ℕ
slots_in ws = length ws / 3

abbrev pub start_slot : ℕ → ℕ → ℕ
start_slot slots key = key % (slots - slots / 16)

-- of n slots from i on, the first that is free or has the key
abbrev pub find_from : ℕ → List ℕ → ℕ → ℕ → Slot
find_from zero ws i key = Full
find_from (suc n) ws i key =
    pick (eqb (get_or ws (i * 3) 0) 0) (Free i) (pick (eqb (get_or ws (i * 3 + 1) 0) key) (Met (get_or ws (i * 3 + 2) 0)) (find_from n ws (i + 1) key))

unfoldable pub find : List ℕ → ℕ → Slot
find ws key = pick (eqb (slots_in ws) 0) Full (find_from (slots_in ws - start_slot (slots_in ws) key) ws (start_slot (slots_in ws) key) key)

abbrev pub taken : List ℕ → ℕ → ℕ → ℕ → List ℕ
taken ws i key block = set (set (set ws (i * 3) 1) (i * 3 + 1) key) (i * 3 + 2) block

-- a free slot is taken
abbrev pub take_by : Slot → ℕ → ℕ → List ℕ → List ℕ
take_by (Met b) key block ws = ws
take_by (Free i) key block ws = taken ws i key block
take_by Full key block ws = ws

-- ---- what the slots know: these objects were met

abbrev pub is_met : Slot → Bool
is_met (Met b) = true
is_met (Free i) = false
is_met Full = false

abbrev pub Knows : Geometry → List ℕ → List ℕ → List ObjectHeader → Type 0
Knows g img ws hs = All (λ e. is_met (find ws (key_at g img e)) ≡ true) hs
