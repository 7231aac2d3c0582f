use mathlib.Core.Path.{sym}
use lib.Seq.{length-take-le}
use Rattle.medium.proofs.Refusals.{passed}
use Rattle.storage.proofs.Naming.{name-read, name_refused}
use Rattle.storage.proofs.names.name_at.Goals as goal

pub returns-in_err-read : goal.returns-in_err-read
returns-in_err-read c = rw (passed _ _ c.from_residual-in_err-read.ensures) (let both = name_refused _ _ c.args.image.now c.args.buffer.now _ (sym c.in_ok-r.ensures) _ c.payload-n.ensures.value c.if-buffer-n.false c.if-n-eq0.false _
    (sym (rw (c.at-from.ensures.value, length-take-le _ _ c.if-buffer-n.false) at c.in_err-read.ensures.buffer_after)) c.in_err-read.ensures.buffer_after_2 in record { result_value = both.0; buffer_after = both.1 })

pub returns : goal.returns
returns c = let both = name-read _ _ c.args.image.now c.args.buffer.now _ (sym c.in_ok-r.ensures) _ c.payload-n.ensures.value c.if-buffer-n.false c.if-n-eq0.false _
    (sym (rw (c.at-from.ensures.value, length-take-le _ _ c.if-buffer-n.false) at c.in_ok-read.ensures.buffer_after)) in record { result_value = both.0; buffer_after = both.1 }
