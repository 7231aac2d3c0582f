-- A contract fixes one outcome: whatever two calls it allows end with, the two are the same.
use mathlib.Core.Path.{◌≡◌, refl, sym, ap, ◌∙◌, subst}
use Prim.Native.Nat.{ℕ}
use native.Mathlib.Omega.{arith}
use Rattle.std.specs.Prelude.{Result, Ok, Err}
use Rattle.medium.specs.declared.fuse.Fuse.{Fuse}
use Rattle.medium.specs.declared.fuse.Stopped.{Stopped}
use Rattle.medium.specs.declared.refusal.Refusal.{Refusal}
use Rattle.medium.specs.Fuse.{Stored}
use Rattle.medium.specs.Refusal.{refusal_number}
use Rattle.medium.specs.Operation.{Answer, done, refused, EndIn, ended_by, ended_with, answered, unless_done, unless_stored}
use Rattle.medium.proofs.Refusals.{same_refusal}

-- ---- a store: the answer with its fuse, the state, and the value where it is done

same_stopped : (s s' : Stopped) → s.refusal ≡ s'.refusal → s.fuse ≡ s'.fuse → s ≡ s'
same_stopped s s' p q = subst (λ (e : Refusal). s ≡ record { refusal = e; fuse = s'.fuse }) p (ap (λ (f : Fuse). record { refusal = s.refusal; fuse = f }) q)

same_pair : {A : Type 0} (x x' : A × Fuse) → x.0 ≡ x'.0 → x.1 ≡ x'.1 → x ≡ x'
same_pair {A} x x' p q = subst (λ (a : A). ◌≡◌ {A = A × Fuse} x (a, x'.1)) p (ap (λ (f : Fuse). (x.0, f)) q)

-- two ends that agree
pub record Same {S A : Type 0} (r r' : Stored) (a a' : A) (i i' : S) : Type 0 where
  pub answer : r ≡ r'
  pub state : i ≡ i'
  pub value : (f : Fuse) → r ≡ Ok f → a ≡ a'

same_ends : {S A : Type 0} (r r' : Stored) (a a' : A) (i i' : S) → ended_by r a i ≡ ended_by r' a' i' → Same r r' a a' i i'
same_ends {S} {A} (Ok f) (Ok f') a a' i i' e =
    let x : ◌≡◌ {A = Answer A} (done a) (done a') = ap (λ (z : EndIn S A). z.answer) e in
    let y : f ≡ f' = ap (λ (z : EndIn S A). z.fuse) e in
    record { answer = ap (λ (z : Fuse). Ok z) y; state = ap (λ (z : EndIn S A). z.state) e; value = λ _ _. cc }
same_ends {S} {A} (Ok f) (Err s') a a' i i' e =
    let x : ◌≡◌ {A = Answer A} (done a) (refused (refusal_number s'.refusal)) = ap (λ (z : EndIn S A). z.answer) e in
    let z : ◌≡◌ {A = ℕ} 0 1 = cc in absurd (omega arith)
same_ends {S} {A} (Err s) (Ok f') a a' i i' e =
    let x : ◌≡◌ {A = Answer A} (refused (refusal_number s.refusal)) (done a') = ap (λ (z : EndIn S A). z.answer) e in
    let z : ◌≡◌ {A = ℕ} 0 1 = cc in absurd (omega arith)
same_ends {S} {A} (Err s) (Err s') a a' i i' e =
    let x : ◌≡◌ {A = Answer A} (refused (refusal_number s.refusal)) (refused (refusal_number s'.refusal)) = ap (λ (z : EndIn S A). z.answer) e in
    let y : s.fuse ≡ s'.fuse = ap (λ (z : EndIn S A). z.fuse) e in
    let q : refusal_number s.refusal ≡ refusal_number s'.refusal = cc in
    let m : s.refusal ≡ s'.refusal = same_refusal _ _ q in
    let n : s ≡ s' = same_stopped s s' m y in
    record { answer = ap Err n; state = ap (λ (z : EndIn S A). z.state) e; value = λ g h. let z : ◌≡◌ {A = ℕ} 0 1 = cc in absurd (omega arith) }

-- two ends that one equation allows are the same
pub one_outcome : {S A : Type 0} (r r' : Stored) (a a' : A) (i i' : S) (e : EndIn S A) → ended_by r a i ≡ e → ended_by r' a' i' ≡ e → Same r r' a a' i i'
one_outcome r r' a a' i i' e p q = same_ends r r' a a' i i' (p ∙ sym q)

-- and where a second clause says what comes back on a refusal, so is the value
pub one_value : {S A : Type 0} (r r' : Stored) (a a' b : A) (i i' : S) → Same r r' a a' i i' → a ≡ unless_stored r b a → a' ≡ unless_stored r' b a' → a ≡ a'
one_value {S} {A} r r' a a' b i i' s p q = go r refl p
  where
    go : (x : Stored) → r ≡ x → a ≡ unless_stored x b a → a ≡ a'
    go (Ok f) d h = s.value f d
    go (Err x) d h = h ∙ sym (q ∙ ap (λ (z : Stored). unless_stored z b a') (sym s.answer ∙ d))

-- ---- a question: the answer, and the value where it is done

-- two answers that agree
pub record SameHeard {A : Type 0} (r r' : Result (Unit {0}) Refusal) (a a' : A) : Type 0 where
  pub answer : r ≡ r'
  pub value : r ≡ Ok tt → a ≡ a'

same_answers : {A : Type 0} (r r' : Result (Unit {0}) Refusal) (a a' : A) → answered r a ≡ answered r' a' → SameHeard r r' a a'
same_answers (Ok u) (Ok u') a a' e = record { answer = refl; value = λ _. cc }
same_answers (Ok u) (Err x) a a' e = let z : ◌≡◌ {A = ℕ} 0 1 = cc in absurd (omega arith)
same_answers (Err x) (Ok u) a a' e = let z : ◌≡◌ {A = ℕ} 0 1 = cc in absurd (omega arith)
same_answers (Err x) (Err x') a a' e =
    let q : refusal_number x ≡ refusal_number x' = cc in
    record { answer = ap Err (same_refusal x x' q); value = λ h. let z : ◌≡◌ {A = ℕ} 0 1 = cc in absurd (omega arith) }

-- two answers that one equation allows are the same
pub one_answer : {A : Type 0} (r r' : Result (Unit {0}) Refusal) (a a' : A) (e : Answer A) → answered r a ≡ e → answered r' a' ≡ e → SameHeard r r' a a'
one_answer r r' a a' e p q = same_answers r r' a a' (p ∙ sym q)

-- and so is the buffer, which a refusal leaves as it was
pub one_buffer : {A : Type 0} (r r' : Result (Unit {0}) Refusal) (a a' b : A) → SameHeard r r' a a' → a ≡ unless_done r b a → a' ≡ unless_done r' b a' → a ≡ a'
one_buffer {A} r r' a a' b s p q = go r refl p
  where
    go : (x : Result (Unit {0}) Refusal) → r ≡ x → a ≡ unless_done x b a → a ≡ a'
    go (Ok u) d h = s.value d
    go (Err e) d h = h ∙ sym (q ∙ ap (λ (z : Result (Unit {0}) Refusal). unless_done z b a') (sym s.answer ∙ d))

-- ---- a store that hands a value on

-- two of them that one equation allows are the same, and leave the same
pub record SameEnd {S A : Type 0} (r r' : Result (A × Fuse) Stopped) (i i' : S) : Type 0 where
  pub answer : r ≡ r'
  pub state : i ≡ i'

same_with : {S A : Type 0} (r r' : Result (A × Fuse) Stopped) (i i' : S) → ended_with r i ≡ ended_with r' i' → SameEnd r r' i i'
same_with {S} {A} (Ok x) (Ok x') i i' e =
    let p : ◌≡◌ {A = Answer A} (done x.0) (done x'.0) = ap (λ (z : EndIn S A). z.answer) e in
    let y : x.1 ≡ x'.1 = ap (λ (z : EndIn S A). z.fuse) e in
    let q : x.0 ≡ x'.0 = cc in
    record { answer = ap Ok (same_pair x x' q y); state = ap (λ (z : EndIn S A). z.state) e }
same_with {S} {A} (Ok x) (Err s') i i' e =
    let p : ◌≡◌ {A = Answer A} (done x.0) (refused (refusal_number s'.refusal)) = ap (λ (z : EndIn S A). z.answer) e in
    let z : ◌≡◌ {A = ℕ} 0 1 = cc in absurd (omega arith)
same_with {S} {A} (Err s) (Ok x') i i' e =
    let p : ◌≡◌ {A = Answer A} (refused (refusal_number s.refusal)) (done x'.0) = ap (λ (z : EndIn S A). z.answer) e in
    let z : ◌≡◌ {A = ℕ} 0 1 = cc in absurd (omega arith)
same_with {S} {A} (Err s) (Err s') i i' e =
    let p : ◌≡◌ {A = Answer A} (refused (refusal_number s.refusal)) (refused (refusal_number s'.refusal)) = ap (λ (z : EndIn S A). z.answer) e in
    let y : s.fuse ≡ s'.fuse = ap (λ (z : EndIn S A). z.fuse) e in
    let q : refusal_number s.refusal ≡ refusal_number s'.refusal = cc in
    record { answer = ap Err (same_stopped s s' (same_refusal _ _ q) y); state = ap (λ (z : EndIn S A). z.state) e }

pub one_end : {S A : Type 0} (r r' : Result (A × Fuse) Stopped) (i i' : S) (e : EndIn S A) → ended_with r i ≡ e → ended_with r' i' ≡ e → SameEnd r r' i i'
one_end r r' i i' e p q = same_with r r' i i' (p ∙ sym q)
