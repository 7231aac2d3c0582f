-- What is left of the path is compared with what stands from `at` on.
use mathlib.Core.Path.{refl, sym, ap, ◌∙◌}
use Prim.Native.Nat.{ℕ, min}
use lib.ListN.{length, length-append}
use native.Mathlib.Omega.{arith}
use Rattle.std.specs.Slice.Iter.{chunks_rest}
use Rattle.medium.proofs.Refusals.{not_done, passed}
use Rattle.medium.proofs.Ranges.{read_lent, read_refused}
use Rattle.storage.proofs.Looking.{turns_end, turn-refused, turn-differs, turn-same}
use Rattle.storage.proofs.lookup.is_same.Goals as goal

pub returns-in_err-reach : goal.returns-in_err-reach
returns-in_err-reach c =
    let s = c.in-Some.ensures.steps in
    rw (passed _ _ c.from_residual.ensures, ← c.at-at.ensures.value)
    (sym (c.loop-turn.invariant.2 ∙ turn-refused _ _ _ _ _ _ _ s.1.0 (s.1.1 ∙ ap (λ (k : ℕ). min k (length (chunks_rest c.loop-turn.turn-iterator))) c.loop-turn.invariant.0) s.1.2 _ (read_refused _ _ _ _ c.args.image.now _ c.in_err-reach.ensures (not_done _))))

pub returns-then-not-is_equal : goal.returns-then-not-is_equal
returns-then-not-is_equal c =
    let s = c.in-Some.ensures.steps in
    rw (← c.at-at.ensures.value)
    (sym (c.loop-turn.invariant.2 ∙ turn-differs _ _ _ _ _ _ _ s.1.0 (s.1.1 ∙ ap (λ (k : ℕ). min k (length (chunks_rest c.loop-turn.turn-iterator))) c.loop-turn.invariant.0) s.1.2 _ (read_lent _ _ _ _ c.args.image.now _ c.in_ok-reach.ensures _ c.lend-bytes.ensures refl) (sym c.if-not-is_equal.ensures)))

pub loop-turn-preserved : goal.loop-turn-preserved
loop-turn-preserved c =
    let s = c.in-Some.ensures.steps in (
      s.0 ∙ c.loop-turn.invariant.0,
      omega (arith, c.loop-turn.invariant.1, ap length s.1.0, length-append c.in-Some.turn.now (chunks_rest c.next.new.self)),
      c.loop-turn.invariant.2 ∙ turn-same _ _ _ _ _ _ _ s.1.0 (s.1.1 ∙ ap (λ (k : ℕ). min k (length (chunks_rest c.loop-turn.turn-iterator))) c.loop-turn.invariant.0) s.1.2 _ (read_lent _ _ _ _ c.args.image.now _ c.in_ok-reach.ensures _ c.lend-bytes.ensures refl) (sym c.if-not-is_equal.ensures),
    )

pub returns : goal.returns
returns c = rw (← c.at-at.ensures.value) (sym (c.loop-turn.invariant.2 ∙ turns_end _ _ _ _ _ c.in-None.ensures.steps.1.0))
