use mathlib.Core.Path.{sym}
use Rattle.objects.specs.Metadata.{listable, list_end}
use Rattle.objects.specs.Header.{payload_size_of}
use Rattle.objects.proofs.Reading as reading
use Rattle.objects.proofs.metadata.MetadataObjectHeader.next_object_location.Goals as goal

pub location_at-requires : goal.location_at-requires
unfolding listable
location_at-requires c = let v = (reading.passed c.args.g _ c.args.self.cursor (list_end c.args.g (payload_size_of c.args.g.s c.args.self.object)) c.in_ok-end.end (sym c.in_ok-end.ensures)).0.fine in (v.sound.c_most, v.sound.s_most)
