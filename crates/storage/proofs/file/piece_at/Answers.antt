use mathlib.Core.Path.{refl, sym, ap, ◌∙◌}
use Prim.Native.Nat.{ℕ, ◌+◌}
use native.Mathlib.Omega.{arith}
use Rattle.medium.specs.Medium.{read_at}
use Rattle.medium.proofs.Refusals.{not_done, passed}
use Rattle.medium.proofs.Ranges.{read_part, read_refused}
use Rattle.storage.proofs.Pieces.{opened_none, piece-stop, piece-none, piece-refused, piece-some}
use Rattle.storage.proofs.file.piece_at.Goals as goal

pub returns-in_err-r : goal.returns-in_err-r
returns-in_err-r c = rw (passed _ _ c.from_residual.ensures) (record { result_value = λ rest. sym (piece-stop _ _ _ rest _ _ c.requires _ (sym c.in_err-r.ensures)); fits_at = tt })

pub returns-then-size-skip : goal.returns-then-size-skip
returns-then-size-skip c = record { result_value = λ rest. rw c.payload-size.ensures.value (piece-none _ _ _ rest _ _ c.requires _ (sym c.in_ok-r.ensures) (omega (arith, c.payload-size.ensures.value, c.if-size-skip.true))); fits_at = (opened_none _ _ _ _ (sym c.in_ok-r.ensures), omega arith) }

pub returns-in_err-reach : goal.returns-in_err-reach
returns-in_err-reach c = rw (passed _ _ c.from_residual-in_err-reach.ensures) (record { result_value = λ rest. sym (piece-refused _ _ _ rest _ _ c.requires _ (sym c.in_ok-r.ensures) _ (rw (← c.payload-size.ensures.value) c.min-len.ensures) (omega (arith, c.payload-size.ensures.value, c.if-size-skip.false)) _ (rw c.at.ensures.value at (read_refused _ _ _ _ c.args.image.now _ c.in_err-reach.ensures (not_done _)))); fits_at = tt })

pub returns : goal.returns
returns c = record {
  result_value = λ rest. piece-some _ c.args.image.now _ rest _ _ c.requires _ (sym c.in_ok-r.ensures) _ (rw (← c.payload-size.ensures.value) c.min-len.ensures) (omega (arith, c.payload-size.ensures.value, c.if-size-skip.false)) _ (ap (λ (x : ℕ). read_at c.args.g c.in_ok-r.r.object.location.block (x + c.args.skip) c.min-len.result c.args.image.now) (sym c.at.ensures.value) ∙ read_part _ _ _ _ c.args.image.now _ c.in_ok-reach.ensures refl);
  fits_at = (read_part _ _ _ _ c.args.image.now _ c.in_ok-reach.ensures refl, omega (arith, c.min-len.ensures));
}
