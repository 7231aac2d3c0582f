use mathlib.Core.Path.{refl, sym}
use Rattle.std.specs.Prelude.{Ok, Err}
use lib.ListN.{length}
use Rattle.sweep.specs.Notes.{referred_in}
use Rattle.sweep.proofs.Walking.{rest_none, rest_broken, rest-on, rest-less}
use Rattle.sweep.proofs.Going.{met_behind}
use Rattle.sweep.proofs.Noted.{noted_again}
use Rattle.sweep.proofs.DeletingUnreferred.{unreferred_begin, unreferred-finish, unreferred-inside, unreferred-pass, unreferred-stop, unreferred-deleted, unreferred-fewer}
use Rattle.sweep.proofs.unreferred.delete_unreferred.Goals as goal
use Rattle.sweep.proofs.unreferred.delete_unreferred.Goals.{in_default, in_default-2}

pub loop-h-init : goal.loop-h-init
loop-h-init c = rw c.new-v.ensures (unreferred_begin c.args.g c.args.f c.args.image.now c.args.twins _ (noted_again c.args.g (referred_in c.args.g c.args.image.now) (length c.args.words.now) _ c.note_referred.ensures) c.requires (λ j. (c.slice_known-1.given j).fits))

pub is_referred-requires : goal.is_referred-requires
is_referred-requires c = record { image_value = c.loop-h.invariant.at.fine; inside = unreferred-inside _ _ _ _ _ _ _ _ _ c.loop-h.invariant _ _ (rest-on _ _ _ c.loop-h.invariant.at.fine _ _ _ (rw c.in-Ok-Some.field-0-is at c.in-Ok-Some.ensures.goes)); words_value = c.loop-h.invariant.notes }

pub loop-h-smaller : goal.loop-h-smaller
loop-h-smaller c = rest-less _ _ _ c.loop-h.invariant.at.fine _ _ _ (rw c.in-Ok-Some.field-0-is at c.in-Ok-Some.ensures.goes)

pub loop-h-preserved : goal.loop-h-preserved
loop-h-preserved c = unreferred-pass _ _ _ _ _ _ _ _ _ c.loop-h.invariant _ _ (rest-on _ _ _ c.loop-h.invariant.at.fine _ _ _ (rw c.in-Ok-Some.field-0-is at c.in-Ok-Some.ensures.goes)) _ c.is_referred.ensures c.if-not-is_referred.false

pub returns-in-Err : goal.returns-in-Err
returns-in-Err c = rw c.ended_with.ensures (sym (unreferred-stop _ _ _ _ _ _ _ _ _ c.loop-h.invariant _ _ (rest-on _ _ _ c.loop-h.invariant.at.fine _ _ _ (rw c.in-Ok-Some.field-0-is at c.in-Ok-Some.ensures.goes)) _ c.is_referred.ensures c.if-not-is_referred.true _ (Err c.in-Err.stopped) c.in-Ok-Some.h c.in-Err.ensures refl))

pub loop-h-smaller-in-Ok : goal.loop-h-smaller-in-Ok
loop-h-smaller-in-Ok c = unreferred-fewer _ _ _ _ _ _ _ _ _ c.loop-h.invariant _ _ (rest-on _ _ _ c.loop-h.invariant.at.fine _ _ _ (rw c.in-Ok-Some.field-0-is at c.in-Ok-Some.ensures.goes)) _ c.is_referred.ensures c.if-not-is_referred.true _ (Ok c.in-Ok.left) c.in-Ok.field-0-0 c.in-Ok.ensures refl (met_behind _ _ _ c.loop-h.invariant.at.fine _ _ _ (rw c.in-Ok-Some.field-0-is at c.in-Ok-Some.ensures.result_value))

pub loop-h-preserved-in-Ok : goal.loop-h-preserved-in-Ok
loop-h-preserved-in-Ok c = unreferred-deleted _ _ _ _ _ _ _ _ _ c.loop-h.invariant _ _ (rest-on _ _ _ c.loop-h.invariant.at.fine _ _ _ (rw c.in-Ok-Some.field-0-is at c.in-Ok-Some.ensures.goes)) _ c.is_referred.ensures c.if-not-is_referred.true _ (Ok c.in-Ok.left) c.in-Ok.field-0-0 c.in-Ok.ensures refl (met_behind _ _ _ c.loop-h.invariant.at.fine _ _ _ (rw c.in-Ok-Some.field-0-is at c.in-Ok-Some.ensures.result_value))

pub returns : goal.returns
returns c = rw c.ended_with-2.ensures (sym (unreferred-finish _ _ _ _ _ _ _ _ _ c.loop-h.invariant (elim c.match-next.branch [ in_default w ↦ rest_none _ _ _ c.loop-h.invariant.at.fine _ _ c.next.ensures.goes cc | in_default-2 w ↦ rest_broken _ _ _ c.loop-h.invariant.at.fine _ _ c.next.ensures.goes w.in_default.is ])))
