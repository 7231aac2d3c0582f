-- A moment of a move: the answer under a fuse, what the original and the copy read as, whether they agree, and whether they are twins.
use Rattle.std.specs.Prelude.{ℕ, List, Bool, true, false, not, eqb}
use Rattle.medium.specs.declared.geometry.Geometry.{Geometry}
use Rattle.medium.specs.Granularity.{pick}
use Rattle.medium.specs.Refusal.{code_of}
use Rattle.medium.specs.Operation.{Answer, done, refused, End, number_of}
use Rattle.objects.specs.declared.location.ObjectLocation.{ObjectLocation}
use Rattle.objects.specs.declared.header.ObjectHeader.{ObjectHeader}
use Rattle.objects.specs.Types.{rank_of}
use Rattle.objects.specs.Info.{Info, found, none, info_answer, info_at}
use Rattle.cuts.specs.declared.moment.Moment.{Moment}
use Rattle.cuts.specs.Agree.{agree_of}

-- a moment: the answer's number, what each place reads as, and what the two say together
pub record Seen : Type 0 where
  pub answer : ℕ
  pub original : Answer Info
  pub copy : Answer Info
  pub agree : Bool
  pub twin : Bool

abbrev pub seen_of : Moment → Seen
seen_of m = record { answer = code_of m.answer; original = info_answer m.original; copy = info_answer m.copy; agree = m.agree; twin = m.twin }

unfoldable pub is_finished : Answer Info → Bool
is_finished (done (found h)) = eqb (rank_of h.state) 2
is_finished (done none) = false
is_finished (refused n) = false

unfoldable pub apart : ObjectLocation → ObjectLocation → Bool
apart from to = pick (eqb from.block to.block) (not (eqb from.offset to.offset)) true

-- of two that agree: "fuse 6 both"
unfoldable pub twin_of : ObjectLocation → ObjectLocation → Answer Info → Answer Info → Bool
twin_of from to original copy = pick (apart from to) (pick (is_finished original) (is_finished copy) false) false

abbrev pub seen_both : ObjectLocation → ObjectLocation → ℕ → Answer Info → Answer Info → Bool → Seen
seen_both from to answer original copy true = record { answer = answer; original = original; copy = copy; agree = true; twin = twin_of from to original copy }
seen_both from to answer original copy false = record { answer = answer; original = original; copy = copy; agree = false; twin = false }

unfoldable pub look_of : Geometry → ObjectLocation → ObjectLocation → ℕ → List ℕ → Seen
look_of g from to answer img =
    let original = info_at g from img in
    let copy = info_at g to img in
    seen_both from to answer original copy (agree_of g original copy img)

-- once a move has ended
abbrev pub moment_of : Geometry → ObjectHeader → ObjectLocation → End ObjectHeader → Seen
moment_of g h to e = look_of g h.location to (number_of e.answer) e.state
