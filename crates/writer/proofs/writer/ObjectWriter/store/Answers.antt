use mathlib.Core.Path.{◌≡◌, sym, ◌∙◌}
use Prim.Native.Nat.{◌<◌, ◌+◌, ◌-◌}
use native.Mathlib.Omega.{arith}
use lib.ListN.{length}
use Rattle.medium.specs.Granularity.{width_of}
use Rattle.medium.proofs.Places.{width_is}
use Rattle.medium.proofs.Refusals.{passed}
use Rattle.medium.proofs.Runs.{on_with, stop_with}
use Rattle.writer.proofs.Laws.{rest_all}
use Rattle.writer.specs.Writer.{pending_of}
use Rattle.writer.proofs.Steps.{pending_none, pending_length, pending_one, fills_none, fills_not, pending_join}
use borrow.Author.Rules.{rules}
use Rattle.writer.proofs.writer.ObjectWriter.store.Goals as goal

pub returns-then-self-eq0 : goal.returns-then-self-eq0
returns-then-self-eq0 c = rw (pending_one _ _ _ _ _ (fills_none c.args.self _ _ c.if-self-eq0.true), pending_none c.args.self c.args.src.now c.if-self-eq0.true) c.store_words.ensures.image_after

pub returns-then-src-left : goal.returns-then-src-left
returns-then-src-left c =
    let w = width_is c.args.g.granularity in
    let l : length (pending_of c.args.self c.args.src.now) < width_of c.args.g.granularity = rw (pending_length c.args.self c.args.src.now ((let e : length c.args.self.tail ≡ 4 = search rules in
    let w = width_is c.args.g.granularity in
    omega (arith, c.requires)))) (omega (arith, c.requires, c.if-src-left.true, c.width.ensures)) in
    rw (pending_one _ _ _ _ _ (fills_not c.args.self _ _ w.0 l)) c.top_up.ensures.image_after

pub returns-in_err-w : goal.returns-in_err-w
returns-in_err-w c =
    let k : c.args.self.held + (c.width.result - c.args.self.held) ≡ width_of c.args.g.granularity = omega (arith, c.requires, c.width.ensures) in
    rw (passed _ _ c.from_residual.ensures) (sym (pending_join _ _ _ _ _ _ ((let e : length c.args.self.tail ≡ 4 = search rules in
    let w = width_is c.args.g.granularity in
    omega (arith, c.requires))) c.if-self-eq0.false k c.if-src-left.false ∙ stop_with _ _ _ _ _ _ c.top_up-2.ensures.image_after c.in_err-w.was))

pub returns : goal.returns
returns c =
    let k : c.args.self.held + (c.width.result - c.args.self.held) ≡ width_of c.args.g.granularity = omega (arith, c.requires, c.width.ensures) in
    (rw (rest_all _ _) at c.store_words-2.ensures.image_after) ∙ sym (pending_join _ _ _ _ _ _ ((let e : length c.args.self.tail ≡ 4 = search rules in
    let w = width_is c.args.g.granularity in
    omega (arith, c.requires))) c.if-self-eq0.false k c.if-src-left.false ∙ on_with _ _ _ _ _ _ c.top_up-2.ensures.image_after c.in_ok-w.was)
