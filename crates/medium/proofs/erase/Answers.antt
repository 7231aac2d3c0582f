-- `medium::erase` meets its contract.
use mathlib.Core.Path.{◌≡◌, sym, ap, ◌∙◌}
use Prim.Native.Nat.{◌+◌, ◌-◌, ◌*◌}
use native.Mathlib.Omega.{arith}
use Rattle.medium.specs.Units.{blank}
use Rattle.medium.proofs.Stores.{blank_all, erase_part, erase_done, put_under, blank_split, erase_refused}
use mathlib.Core.Path.{refl}
use Rattle.medium.proofs.Refusals.{not_done, passed, kept_err, kept_ok}
use Rattle.medium.specs.Refusal.{code_of}
use Rattle.medium.proofs.erase.Goals as goal

pub returns-in_err-beside : goal.returns-in_err-beside
returns-in_err-beside c =
    let k = kept_err _ _ _ c.in_err-beside.ensures in
    let z : c.in_err-beside.field-0.0.fuse ≡ c.args.f = k.fuse in
    rw (passed _ _ c.from_residual.ensures, z) (erase_refused _ _ _ _ _ (k.code ∙ c.may_erase.ensures) (not_done _))

pub overflow_add-at : goal.overflow_add-at
overflow_add-at c = let h = erase_part _ _ _ _ _ _ _ (sym (ap code_of (kept_ok _ _ _ c.in_ok-beside.ensures)) ∙ c.may_erase.ensures) refl c.spend-spent.ensures c.granted.ensures in omega arith

pub slice_bounds-fill-end : goal.slice_bounds-fill-end
slice_bounds-fill-end c = let h = erase_part _ _ _ _ _ _ _ (sym (ap code_of (kept_ok _ _ _ c.in_ok-beside.ensures)) ∙ c.may_erase.ensures) refl c.spend-spent.ensures c.granted.ensures in omega arith

pub returns : goal.returns
returns c =
    let a = c.args in
    let at = a.block * a.g.size in
    let n = c.granted.result * a.g.size in
    let h = erase_part _ _ _ _ _ _ _ (sym (ap code_of (kept_ok _ _ _ c.in_ok-beside.ensures)) ∙ c.may_erase.ensures) refl c.spend-spent.ensures c.granted.ensures in
    let k : at + n - at ≡ n = omega arith in
    erase_done _ _ _ _ _ _ _ _ _ (sym (ap code_of (kept_ok _ _ _ c.in_ok-beside.ensures)) ∙ c.may_erase.ensures) refl c.spend-spent.ensures c.granted.ensures c.outcome.ensures
    (put_under blank blank_split at n (at + n - at) a.image.now _ k h (c.fill.ensures.after (λ y e. e) ∙ sym (blank_all _)))
