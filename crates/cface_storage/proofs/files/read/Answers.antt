use lib.ListN.{length}
use Rattle.storage.specs.File.{read_file}
use Rattle.cface_storage.proofs.Handed.{bytes_told}
use Rattle.cface_storage.proofs.files.read.Goals as goal

pub returns : goal.returns
returns c = bytes_told (read_file c.args.g c.args.at c.args.position (length c.args.buffer.now) c.args.image.now) _ _ _ _ _ (rw c.read-a.ensures.result_value at c.hand.ensures) c.read-a.ensures.buffer_after
