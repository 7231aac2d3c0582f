-- `medium::write` meets its contract.
use mathlib.Core.Path.{◌≡◌, sym, ap, ◌∙◌, refl}
use Prim.Native.Nat.{◌+◌, ◌-◌, ◌*◌}
use native.Mathlib.Omega.{arith}
use Rattle.medium.specs.Medium.{onto}
use Rattle.medium.proofs.Checks.{write_at}
use Rattle.medium.proofs.Strict.{range_of}
use Rattle.medium.proofs.Stores.{write_few, write_part, write_done, put_under, onto_split, write_refused}
use mathlib.Core.Path.{refl}
use Rattle.medium.proofs.Refusals.{not_done, passed, kept_err, kept_ok}
use Rattle.medium.specs.Refusal.{code_of}
use Rattle.medium.proofs.write.Goals as goal

pub returns-in_err-beside : goal.returns-in_err-beside
returns-in_err-beside c =
    let k = kept_err _ _ _ c.in_err-beside.ensures in
    let z : c.in_err-beside.field-0.0.fuse ≡ c.args.f = k.fuse in
    rw (passed _ _ c.from_residual.ensures, z) (write_refused _ _ _ _ _ _ _ (k.code ∙ c.may_store.ensures) (not_done _))

pub overflow_cast-wanted : goal.overflow_cast-wanted
overflow_cast-wanted c = let h = write_few _ _ _ _ _ _ _ _ (range_of _ _ _ _ _ _ (sym (ap code_of (kept_ok _ _ _ c.in_ok-beside.ensures)) ∙ c.may_store.ensures) refl) refl c.width-w.ensures c.units-wanted.ensures in omega arith

pub overflow_add-at : goal.overflow_add-at
overflow_add-at c = let h = write_at _ _ _ _ _ _ (range_of _ _ _ _ _ _ (sym (ap code_of (kept_ok _ _ _ c.in_ok-beside.ensures)) ∙ c.may_store.ensures) refl) refl in omega arith

pub overflow_add-at-2 : goal.overflow_add-at-2
overflow_add-at-2 c = let h = write_part _ _ _ _ _ _ _ _ _ _ _ (range_of _ _ _ _ _ _ (sym (ap code_of (kept_ok _ _ _ c.in_ok-beside.ensures)) ∙ c.may_store.ensures) refl) refl c.width-w.ensures c.units-wanted.ensures c.spend-spent.ensures c.granted.ensures in omega arith

pub slice_bounds-program-end : goal.slice_bounds-program-end
slice_bounds-program-end c = let h = write_part _ _ _ _ _ _ _ _ _ _ _ (range_of _ _ _ _ _ _ (sym (ap code_of (kept_ok _ _ _ c.in_ok-beside.ensures)) ∙ c.may_store.ensures) refl) refl c.width-w.ensures c.units-wanted.ensures c.spend-spent.ensures c.granted.ensures in omega arith

pub returns : goal.returns
returns c =
    let a = c.args in
    let at = a.block * a.g.size + a.offset in
    let n = c.granted.result * c.width-w.result in
    let h = write_part _ _ _ _ _ _ _ _ _ _ _ (range_of _ _ _ _ _ _ (sym (ap code_of (kept_ok _ _ _ c.in_ok-beside.ensures)) ∙ c.may_store.ensures) refl) refl c.width-w.ensures c.units-wanted.ensures c.spend-spent.ensures c.granted.ensures in
    let k : at + n - at ≡ n = omega arith in
    write_done _ _ _ _ _ _ _ _ _ _ _ _ _ (sym (ap code_of (kept_ok _ _ _ c.in_ok-beside.ensures)) ∙ c.may_store.ensures) refl c.width-w.ensures c.units-wanted.ensures c.spend-spent.ensures c.granted.ensures c.outcome.ensures
    (put_under (λ m. onto m a.src.now) (λ m. onto_split m a.src.now) at n (at + n - at) a.image.now _ k h c.program.ensures)
