use Rattle.cface.proofs.Bounds.{new_small}
use Rattle.cface.proofs.reader_calls.stumpchoir_reader_new.Goals as goal

pub hand_reader-requires : goal.hand_reader-requires
hand_reader-requires c = new_small _ _ _ _ _ c.new-a.ensures
