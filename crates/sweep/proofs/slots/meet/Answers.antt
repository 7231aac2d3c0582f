use mathlib.Core.Path.{sym, ◌∙◌}
use native.Mathlib.Omega.{arith}
use lib.ListN.{length-set}
use Rattle.sweep.proofs.MetKeys.{free_room}
use Rattle.sweep.proofs.slots.meet.Goals as goal

pub overflow_mul-at : goal.overflow_mul-at
overflow_mul-at c = omega (arith, (free_room c.args.words.now c.args.key _ (sym c.find-s.ensures ∙ c.in-Free.is)))

pub offset_bounds-words-at : goal.offset_bounds-words-at
offset_bounds-words-at c = omega (arith, (free_room c.args.words.now c.args.key _ (sym c.find-s.ensures ∙ c.in-Free.is)))

pub bounds-words-at : goal.bounds-words-at
bounds-words-at c = omega (arith, (free_room c.args.words.now c.args.key _ (sym c.find-s.ensures ∙ c.in-Free.is)))

pub overflow_add-words : goal.overflow_add-words
overflow_add-words c = omega (arith, (free_room c.args.words.now c.args.key _ (sym c.find-s.ensures ∙ c.in-Free.is)))

pub offset_bounds-words-at-2 : goal.offset_bounds-words-at-2
offset_bounds-words-at-2 c = omega (arith, (free_room c.args.words.now c.args.key _ (sym c.find-s.ensures ∙ c.in-Free.is)))

pub bounds-words-at-2 : goal.bounds-words-at-2
bounds-words-at-2 c = simp length-set (omega (arith, (free_room c.args.words.now c.args.key _ (sym c.find-s.ensures ∙ c.in-Free.is))))

pub overflow_add-words-2 : goal.overflow_add-words-2
overflow_add-words-2 c = omega (arith, (free_room c.args.words.now c.args.key _ (sym c.find-s.ensures ∙ c.in-Free.is)))

pub offset_bounds-words-at-3 : goal.offset_bounds-words-at-3
offset_bounds-words-at-3 c = omega (arith, (free_room c.args.words.now c.args.key _ (sym c.find-s.ensures ∙ c.in-Free.is)))

pub bounds-words-at-3 : goal.bounds-words-at-3
bounds-words-at-3 c = simp length-set (omega (arith, (free_room c.args.words.now c.args.key _ (sym c.find-s.ensures ∙ c.in-Free.is))))
