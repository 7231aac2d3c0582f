-- An answer is one: two that stand for the same value are the same.
use mathlib.Core.Path.{◌≡◌, refl, sym, ap, ◌∙◌}
use mathlib.Core.Bool.{Bool}
use mathlib.Core.List.{List, [], ◌∷◌}
use lib.ListN.{get_or}
use Prim.Native.Nat.{ℕ}
use Rattle.std.specs.Prelude.{Option, Some, None, Result, Ok, Err}
use Rattle.medium.specs.declared.fuse.Fuse.{Fuse}
use Rattle.medium.specs.declared.fuse.Stopped.{Stopped}
use Rattle.medium.specs.declared.refusal.Refusal.{Refusal}
use Rattle.medium.specs.Refusal.{refusal_number, answer_of}
use Rattle.medium.specs.Fuse.{Stored}
use Rattle.medium.specs.Operation.{Answer, done, refused, and_then, EndIn, ended, ended_by, ended_with, answered, unless_done, unless_stored}
use Rattle.medium.specs.Beside.{Both, both}
use Rattle.medium.proofs.Refusals.{answer_one, code_one}
use Rattle.medium.proofs.Outcome.{Same, one_outcome, one_value, one_answer, one_buffer, one_end}
use Rattle.objects.specs.declared.types.ObjectType.{ObjectType}
use Rattle.objects.specs.declared.location.ObjectLocation.{ObjectLocation}
use Rattle.objects.specs.declared.header.ObjectHeader.{ObjectHeader}
use Rattle.objects.specs.declared.reader.ObjectReader.{ObjectReader}
use Rattle.objects.specs.declared.metadata.MetadataObjectHeader.{MetadataObjectHeader}
use Rattle.objects.specs.declared.iterator.Next.{Next}
use Rattle.objects.specs.declared.iterator.Next.TheVariants as next
use Rattle.objects.specs.Types.{TypeSaid, typed, untyped, type_answer}
use Rattle.objects.specs.Info.{Info, found, none, info_answer}
use Rattle.objects.specs.Listing.{Met, object, free_place, block_end, next_answer}
use Rattle.objects.specs.Reader.{reading_answer}
use Rattle.objects.specs.Metadata.{Listed, location, no_more, next_location_answer}
use Rattle.blocks.specs.declared.format.Plan.{Plan}
use Rattle.blocks.specs.declared.format.Plan.TheVariants as plan
use Rattle.blocks.specs.Format.{Planned, keep, label, renew, plan_answer}
use Rattle.writer.specs.declared.writer.ObjectWriter.{ObjectWriter}
use Rattle.writer.specs.declared.writer.Writing.{Writing}
use Rattle.writer.specs.Writer.{kept_of}
use Rattle.batch.specs.declared.Batched.{Batched}
use Rattle.sweep.specs.declared.Swept.{Swept}
use Rattle.storage.specs.declared.visit.Visitor.{Visitor}
use Rattle.storage.specs.declared.names.NextName.{NextName}
use Rattle.storage.specs.Order as order
use Rattle.storage.specs.Names as names
use Rattle.cuts.specs.declared.moment.Moment.{Moment}
use Rattle.cuts.specs.Moment.{Seen, seen_of}

-- ---- an answer that tells a value by a word of the definitions: back gives the value of the word

module _ {A B : Type 0} (tells : Result A Refusal → Answer B) (back : B → A) (ok : (x : A) → and_then (tells (Ok x)) (λ b. done (back b)) ≡ done x) (err : (e : Refusal) → tells (Err e) ≡ refused (refusal_number e)) where
  returned : (r : Result A Refusal) → and_then (tells r) (λ b. done (back b)) ≡ answer_of r
  returned (Ok x) = ok x
  returned (Err e) = rw (err e)

  told_one : {r r' : Result A Refusal} → tells r ≡ tells r' → r ≡ r'
  told_one {r} {r'} h = answer_one r r' (sym (returned r) ∙ ap (λ (a : Answer B). and_then a (λ b. done (back b))) h ∙ returned r')

type_back : TypeSaid → Option ObjectType
type_back (typed t) = Some t
type_back untyped = None

pub type_one : {r r' : Result (Option ObjectType) Refusal} → type_answer r ≡ type_answer r' → r ≡ r'
unfolding type_back
type_one = told_one type_answer type_back (λ x. ok x) (λ e. refl)
  where
    ok : (x : Option ObjectType) → and_then (type_answer (Ok x)) (λ b. done (type_back b)) ≡ done x
    ok (Some t) = refl
    ok None = refl

info_back : Info → Option ObjectHeader
info_back (found h) = Some h
info_back none = None

pub info_one : {r r' : Result (Option ObjectHeader) Refusal} → info_answer r ≡ info_answer r' → r ≡ r'
unfolding info_back
info_one = told_one info_answer info_back (λ x. ok x) (λ e. refl)
  where
    ok : (x : Option ObjectHeader) → and_then (info_answer (Ok x)) (λ b. done (info_back b)) ≡ done x
    ok (Some h) = refl
    ok None = refl

next_back : Met → Next
next_back (object h j) = next.Object h j
next_back free_place = next.Free
next_back block_end = next.End

pub next_one : {r r' : Result Next Refusal} → next_answer r ≡ next_answer r' → r ≡ r'
unfolding next_back
next_one = told_one next_answer next_back (λ x. ok x) (λ e. refl)
  where
    ok : (x : Next) → and_then (next_answer (Ok x)) (λ b. done (next_back b)) ≡ done x
    ok (next.Object h j) = refl
    ok next.Free = refl
    ok next.End = refl

pub reading_one : {r r' : Result (ℕ × ObjectReader) Refusal} → reading_answer r ≡ reading_answer r' → r ≡ r'
reading_one = told_one reading_answer (λ c. (c.count, c.reader)) (λ x. refl) (λ e. refl)

next_location_back : Listed → Option (ObjectLocation × MetadataObjectHeader)
next_location_back (location l m) = Some (l, m)
next_location_back no_more = None

pub next_location_one : {r r' : Result (Option (ObjectLocation × MetadataObjectHeader)) Refusal} → next_location_answer r ≡ next_location_answer r' → r ≡ r'
unfolding next_location_back
next_location_one = told_one next_location_answer next_location_back (λ x. ok x) (λ e. refl)
  where
    ok : (x : Option (ObjectLocation × MetadataObjectHeader)) → and_then (next_location_answer (Ok x)) (λ b. done (next_location_back b)) ≡ done x
    ok (Some y) = refl
    ok None = refl

plan_back : Planned → Plan
plan_back keep = plan.Keep
plan_back label = plan.Label
plan_back (renew n) = plan.Renew n

pub plan_one : {r r' : Result Plan Refusal} → plan_answer r ≡ plan_answer r' → r ≡ r'
unfolding plan_back
plan_one = told_one plan_answer plan_back (λ x. ok x) (λ e. refl)
  where
    ok : (x : Plan) → and_then (plan_answer (Ok x)) (λ b. done (plan_back b)) ≡ done x
    ok plan.Keep = refl
    ok plan.Label = refl
    ok (plan.Renew n) = refl

visit_back : order.Seen → Option (ObjectHeader × Visitor)
visit_back (order.object h v) = Some (h, v)
visit_back order.store_end = None

pub visit_one : {r r' : order.Visited} → order.visit_answer r ≡ order.visit_answer r' → r ≡ r'
unfolding visit_back
visit_one = told_one order.visit_answer visit_back (λ x. ok x) (λ e. refl)
  where
    ok : (x : Option (ObjectHeader × Visitor)) → and_then (order.visit_answer (Ok x)) (λ b. done (visit_back b)) ≡ done x
    ok (Some y) = refl
    ok None = refl

name_back : names.NameOut → Option NextName
name_back (names.named n at i) = Some (record { length = n; location = at; names = i })
name_back names.none = None

pub name_one : {r r' : Result (Option NextName) Refusal} → names.name_answer r ≡ names.name_answer r' → r ≡ r'
unfolding name_back
name_one = told_one names.name_answer name_back (λ x. ok x) (λ e. refl)
  where
    ok : (x : Option NextName) → and_then (names.name_answer (Ok x)) (λ b. done (name_back b)) ≡ done x
    ok (Some y) = refl
    ok None = refl

-- ---- a moment, and a line

pub seen_one : {r r' : Moment} → seen_of r ≡ seen_of r' → r ≡ r'
seen_one {r} {r'} h =
    let a : r.answer ≡ r'.answer = code_one r.answer r'.answer (ap (λ (z : Seen). z.answer) h) in
    let o : r.original ≡ r'.original = info_one (ap (λ (z : Seen). z.original) h) in
    let c : r.copy ≡ r'.copy = info_one (ap (λ (z : Seen). z.copy) h) in
    let g : r.agree ≡ r'.agree = ap (λ (z : Seen). z.agree) h in
    let t : r.twin ≡ r'.twin = ap (λ (z : Seen). z.twin) h in
    ap (λ (z : Result (Unit {0}) Refusal). record { answer = z; original = r.original; copy = r.copy; agree = r.agree; twin = r.twin }) a
    ∙ ap (λ (z : Result (Option ObjectHeader) Refusal). record { answer = r'.answer; original = z; copy = r.copy; agree = r.agree; twin = r.twin }) o
    ∙ ap (λ (z : Result (Option ObjectHeader) Refusal). record { answer = r'.answer; original = r'.original; copy = z; agree = r.agree; twin = r.twin }) c
    ∙ ap (λ (z : Bool). record { answer = r'.answer; original = r'.original; copy = r'.copy; agree = z; twin = r.twin }) g
    ∙ ap (λ (z : Bool). record { answer = r'.answer; original = r'.original; copy = r'.copy; agree = r'.agree; twin = z }) t

-- ---- an answer, and what a lent buffer holds

pub heard_one : {A : Type 0} (r r' : Result (Unit {0}) Refusal) (a a' b : A) (e : Answer A) → answered r a ≡ e → answered r' a' ≡ e → a ≡ unless_done r b a → a' ≡ unless_done r' b a'
    → (r ≡ r') × (a ≡ a')
heard_one r r' a a' b e p q h k = let s = one_answer r r' a a' e p q in (s.answer, one_buffer r r' a a' b s h k)

-- ---- an answer with its fuse, and the state

pub stored_one : {S : Type 0} (r r' : Stored) (i i' : S) (e : EndIn S (Unit {0})) → ended r i ≡ e → ended r' i' ≡ e → (r ≡ r') × (i ≡ i')
stored_one r r' i i' e p q = let s = one_outcome r r' tt tt i i' e p q in (s.answer, s.state)

-- and with the value that it hands on
pub handed_one : {S A : Type 0} (r r' : Result (A × Fuse) Stopped) (i i' : S) (e : EndIn S A) → ended_with r i ≡ e → ended_with r' i' ≡ e → (r ≡ r') × (i ≡ i')
handed_one r r' i i' e p q = let s = one_end r r' i i' e p q in (s.answer, s.state)

writings : (r r' : Writing) → r.answer ≡ r'.answer → r.writer ≡ r'.writer → r ≡ r'
writings r r' a w = ap (λ (z : Stored). record { answer = z; writer = r.writer }) a ∙ ap (λ (z : ObjectWriter). record { answer = r'.answer; writer = z }) w

-- with a count that stands beside the image
pub batched_one : (r r' : Batched) (i i' : List ℕ) (e : EndIn Both (Unit {0})) → ended r.answer (both i (r.done ∷ [])) ≡ e → ended r'.answer (both i' (r'.done ∷ [])) ≡ e → (r ≡ r') × (i ≡ i')
batched_one r r' i i' e p q =
    let s = one_outcome r.answer r'.answer tt tt (both i (r.done ∷ [])) (both i' (r'.done ∷ [])) e p q in
    let n : r.done ≡ r'.done = ap (λ (z : Both). get_or z.table 0 0) s.state in
    (ap (λ (z : Stored). record { answer = z; done = r.done }) s.answer ∙ ap (λ (z : ℕ). record { answer = r'.answer; done = z }) n, ap (λ (z : Both). z.image) s.state)

-- with two of them
pub swept_one : (r r' : Swept) (i i' : List ℕ) (e : EndIn Both (Unit {0})) → ended r.answer (both i (r.twins ∷ r.unreferred ∷ [])) ≡ e → ended r'.answer (both i' (r'.twins ∷ r'.unreferred ∷ [])) ≡ e → (r ≡ r') × (i ≡ i')
swept_one r r' i i' e p q =
    let s = one_outcome r.answer r'.answer tt tt (both i (r.twins ∷ r.unreferred ∷ [])) (both i' (r'.twins ∷ r'.unreferred ∷ [])) e p q in
    let t : r.twins ≡ r'.twins = ap (λ (z : Both). get_or z.table 0 0) s.state in
    let u : r.unreferred ≡ r'.unreferred = ap (λ (z : Both). get_or z.table 1 0) s.state in
    (ap (λ (z : Stored). record { answer = z; twins = r.twins; unreferred = r.unreferred }) s.answer ∙ ap (λ (z : ℕ). record { answer = r'.answer; twins = z; unreferred = r.unreferred }) t ∙ ap (λ (z : ℕ). record { answer = r'.answer; twins = r'.twins; unreferred = z }) u, ap (λ (z : Both). z.image) s.state)

-- with a value beside it: the second clause says which one a refusal gives back
module _ {S : Type 0} where
  pub allocated_one : (r r' : Writing) (w : ObjectWriter) (i i' : S) (e : EndIn S ObjectWriter)
      → ended_by r.answer r.writer i ≡ e → ended_by r'.answer r'.writer i' ≡ e
      → r.writer ≡ unless_stored r.answer w r.writer → r'.writer ≡ unless_stored r'.answer w r'.writer → (r ≡ r') × (i ≡ i')
  allocated_one r r' w i i' e p q k l =
      let s = one_outcome r.answer r'.answer r.writer r'.writer i i' e p q in
      (writings r r' s.answer (one_value r.answer r'.answer r.writer r'.writer w i i' s k l), s.state)

  pub writing_one : (r r' : Writing) (w : ObjectWriter) (i i' : S) (e : EndIn S ObjectWriter)
      → ended_by r.answer r.writer i ≡ e → ended_by r'.answer r'.writer i' ≡ e
      → r.writer ≡ kept_of r.answer w r.writer → r'.writer ≡ kept_of r'.answer w r'.writer → (r ≡ r') × (i ≡ i')
  writing_one r r' w i i' e p q k l =
      let s = one_outcome r.answer r'.answer r.writer r'.writer i i' e p q in
      (writings r r' s.answer (go s r.answer refl k), s.state)
    where
      go : Same r.answer r'.answer r.writer r'.writer i i' → (x : Stored) → r.answer ≡ x → r.writer ≡ kept_of x w r.writer → r.writer ≡ r'.writer
      go s (Ok f) d h = s.value f d
      go s (Err x) d h = h ∙ sym (l ∙ ap (λ (z : Stored). kept_of z w r'.writer) (sym s.answer ∙ d))
