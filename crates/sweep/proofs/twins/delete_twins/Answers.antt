use mathlib.Core.Path.{refl, sym, ◌∙◌}
use Rattle.std.specs.Prelude.{Ok, Err}
use Rattle.sweep.proofs.Walking.{rest_none, rest_broken, rest-on, rest-less}
use Rattle.sweep.proofs.Going.{met_behind}
use Rattle.sweep.proofs.DeletingTwins.{twins_begin, twins-finish, twins-known, twins-pass, twins-stop, twins-deleted, twins-fewer}
use Rattle.sweep.proofs.twins.delete_twins.Goals as goal
use Rattle.sweep.proofs.twins.delete_twins.Goals.{in_default, in_default-2}

pub loop-h-init : goal.loop-h-init
loop-h-init c = rw c.new-v.ensures (twins_begin c.args.g c.args.f c.args.image.now _ c.requires.image_value (λ j. (c.slice_known-1.given j).fits) c.requires.image_value_2, refl)

pub judge-j-requires : goal.judge-j-requires
judge-j-requires c = record { image_value = c.loop-h.invariant.0.at.fine; image_value_2 = c.loop-h.invariant.0.end; knows = twins-known _ _ _ _ _ _ _ _ _ c.loop-h.invariant.0 _ _ (rest-on _ _ _ c.loop-h.invariant.0.at.fine _ _ _ (rw c.in-Ok-Some.field-0-is at c.in-Ok-Some.ensures.goes)) }

pub returns-in-Err : goal.returns-in-Err
returns-in-Err c = rw c.ended_with.ensures (record { unreferred_after = (sym (twins-stop _ _ _ _ _ _ _ _ _ c.loop-h.invariant.0 _ _ (rest-on _ _ _ c.loop-h.invariant.0.at.fine _ _ _ (rw c.in-Ok-Some.field-0-is at c.in-Ok-Some.ensures.goes)) _ c.judge-j.ensures.twin_value _ _ c.judge-j.ensures.knows_2 c.if-j.true _ (Err c.in-Err.stopped) c.in-Ok-Some.h c.in-Err.ensures refl)); unreferred_value = refl })

pub loop-h-smaller-in-Ok : goal.loop-h-smaller-in-Ok
loop-h-smaller-in-Ok c = twins-fewer _ _ _ _ _ _ _ _ _ c.loop-h.invariant.0 _ _ (rest-on _ _ _ c.loop-h.invariant.0.at.fine _ _ _ (rw c.in-Ok-Some.field-0-is at c.in-Ok-Some.ensures.goes)) _ c.judge-j.ensures.twin_value _ _ c.judge-j.ensures.knows_2 c.if-j.true _ (Ok c.in-Ok.left) c.in-Ok.field-0-0 c.in-Ok.ensures refl (met_behind _ _ _ c.loop-h.invariant.0.at.fine _ _ _ (rw c.in-Ok-Some.field-0-is at c.in-Ok-Some.ensures.result_value))

pub loop-h-preserved-in-Ok : goal.loop-h-preserved-in-Ok
loop-h-preserved-in-Ok c = (twins-deleted _ _ _ _ _ _ _ _ _ c.loop-h.invariant.0 _ _ (rest-on _ _ _ c.loop-h.invariant.0.at.fine _ _ _ (rw c.in-Ok-Some.field-0-is at c.in-Ok-Some.ensures.goes)) _ c.judge-j.ensures.twin_value _ _ c.judge-j.ensures.knows_2 c.if-j.true _ (Ok c.in-Ok.left) c.in-Ok.field-0-0 c.in-Ok.ensures refl (met_behind _ _ _ c.loop-h.invariant.0.at.fine _ _ _ (rw c.in-Ok-Some.field-0-is at c.in-Ok-Some.ensures.result_value)), c.judge-j.auto.words ∙ c.loop-h.invariant.1)

pub loop-h-smaller : goal.loop-h-smaller
loop-h-smaller c = rest-less _ _ _ c.loop-h.invariant.0.at.fine _ _ _ (rw c.in-Ok-Some.field-0-is at c.in-Ok-Some.ensures.goes)

pub loop-h-preserved : goal.loop-h-preserved
loop-h-preserved c = (twins-pass _ _ _ _ _ _ _ _ _ c.loop-h.invariant.0 _ _ (rest-on _ _ _ c.loop-h.invariant.0.at.fine _ _ _ (rw c.in-Ok-Some.field-0-is at c.in-Ok-Some.ensures.goes)) _ c.judge-j.ensures.twin_value _ _ c.judge-j.ensures.knows_2 c.if-j.false, c.judge-j.auto.words ∙ c.loop-h.invariant.1)

pub returns : goal.returns
returns c = rw c.ended_with-2.ensures (record { unreferred_after = sym (twins-finish _ _ _ _ _ _ _ _ _ c.loop-h.invariant.0 (elim c.match-next.branch [ in_default w ↦ rest_none _ _ _ c.loop-h.invariant.0.at.fine _ _ c.next.ensures.goes cc | in_default-2 w ↦ rest_broken _ _ _ c.loop-h.invariant.0.at.fine _ _ c.next.ensures.goes w.in_default.is ])); unreferred_value = refl })
