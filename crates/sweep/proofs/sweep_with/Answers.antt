use mathlib.Core.Path.{refl, sym, ap, ◌∙◌}
use Prim.Native.Nat.{ℕ}
use lib.ListN.{replicate}
use borrow.Author.Tests.{ne_eqb}
use Rattle.medium.proofs.Refusals.{not_done}
use Rattle.sweep.proofs.Turns.{with-stop, with-on}
use Rattle.sweep.proofs.sweep_with.Goals as goal

pub returns-in-Err : goal.returns-in-Err
returns-in-Err c = record {
  unreferred_after = rw c.stopped.ensures (sym (with-stop _ _ _ _ _ _ c.in-Err.ensures (not_done _)));
  words_after = rw (← c.in-Err.ensures, ne_eqb _ _ (not_done c.in-Err.refusal));
}

pub returns : goal.returns
returns c = record {
  unreferred_after = c.phases-s.ensures ∙ sym (with-on _ _ _ _ _ _ c.in_default.ensures refl);
  words_after = rw (← c.in_default.ensures) (c.fill.ensures.after (λ y e. e) ∙ ap (λ (n : ℕ). replicate {A = ℕ} n 0) c.phases-s.auto.words);
}
