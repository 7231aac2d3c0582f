use Rattle.cface.proofs.Bounds.{metadata_at_small}
use Rattle.cface.proofs.metadata_calls.stumpchoir_location_read_metadata.Goals as goal

pub hand_metadata-requires : goal.hand_metadata-requires
hand_metadata-requires c = metadata_at_small _ _ _ _ c.read_at-a.ensures
