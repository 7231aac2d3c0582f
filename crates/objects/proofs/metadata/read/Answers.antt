use mathlib.Core.Path.{sym}
use Rattle.objects.proofs.Reading.{fine_of_number}
use Rattle.objects.proofs.metadata.read.Goals as goal

pub location_at-requires : goal.location_at-requires
location_at-requires c = let v = fine_of_number _ _ _ _ _ _ (sym c.in_ok-hash.ensures) in (v.sound.c_most, v.sound.s_most)
