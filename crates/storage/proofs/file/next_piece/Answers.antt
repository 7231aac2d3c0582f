use mathlib.Core.Path.{sym}
use Rattle.storage.specs.File.{places_of}
use Rattle.storage.proofs.Pieces.{places_by_lem, fits_on}
use Rattle.storage.proofs.file.next_piece.Goals as goal

pub returns : goal.returns
returns c = record { result_value = rw (places_by_lem _ _ _ _ (rw c.in-Some.is at c.in_ok-at.ensures) c.requires.le_size) (c.in_ok-piece.ensures.result_value (places_of c.args.g c.in-Some.rest c.args.image.now)); fits = fits_on c.args.g c.args.image.now c.args.m c.in-Some.rest c.args.n c.in_ok-piece.piece c.in-Some.at (sym (rw c.in-Some.is at c.in_ok-at.ensures)) c.in_ok-piece.ensures.fits_at }
