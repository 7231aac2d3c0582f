use mathlib.Core.Path.{sym, ap, ◌∙◌}
use Rattle.sweep.specs.Referring.{metadata_in}
use Rattle.sweep.specs.Twins.{before}
use Rattle.sweep.specs.Slots.{key_of}
use Rattle.sweep.proofs.MetKeys.{none-like, knows-now}
use Rattle.sweep.proofs.twins.judge.Goals as goal

pub returns-then-sure : goal.returns-then-sure
returns-then-sure c =
    let f = sym c.in-Free.ensures.value in
    let e = c.key-key.ensures ∙ ap key_of c.lend.ensures in
    let k = c.requires.knows c.if-sure.true in
    record { twin_value = sym (none-like _ _ _ _ _ e (before c.args.h.location (metadata_in c.args.g c.args.image.now)) k _ f); knows_2 = λ _. rw (c.meet.ensures.words_after, f) (knows-now _ _ _ _ _ e (before c.args.h.location (metadata_in c.args.g c.args.image.now)) k _ _ f) }
