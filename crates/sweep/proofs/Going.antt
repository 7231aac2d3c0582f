-- A walk through the blocks of a type, on which objects are deleted: what is before the visitor, and what is still ahead.
use mathlib.Core.Path.{◌≡◌, refl, sym, ap, ◌∙◌, subst}
use mathlib.Core.Logic.{inl, inr, ◌≢◌}
use mathlib.Core.Bool.{Bool, true, false, ◌&&◌}
use mathlib.Core.List.{List, [], ◌∷◌, ◌++◌, append_assoc}
use Prim.Native.Nat.{ℕ}
use native.Mathlib.Omega.{arith}
use lib.ListN.{length}
use lib.Dec.{eqb}
use borrow.Author.Tests.{eq-eqb, ne_eqb}
use Rattle.medium.specs.declared.geometry.Geometry.{Geometry}
use Rattle.medium.specs.Geometry.{check_of}
use Rattle.medium.specs.Operation.{Answer, done, refused}
use Rattle.objects.specs.declared.header.ObjectHeader.{ObjectHeader}
use Rattle.blocks.specs.declared.header.BlockType.{BlockType}
use Rattle.storage.specs.declared.visit.Visitor.{Visitor}
use Rattle.storage.specs.Order.{Tour, object, first_seen, next_visit, tour_from, tour, start_visit, behind_visit}
use Rattle.storage.specs.Laws.{All}
use Rattle.objects.proofs.Answers.{gate_on}
use Rattle.objects.proofs.Listing.{header_some}
use Rattle.objects.proofs.Listing as listing
use Rattle.medium.proofs.Padding.{AreBytes}
use Rattle.storage.proofs.Heads.{Before, Sorted}
use Rattle.storage.proofs.Finding.{all_of}
use Rattle.sweep.specs.Referring.{same_at}
use Rattle.sweep.specs.Twins.{before}
use Rattle.sweep.proofs.Marks.{Listed, Marked, fine_then, marked_bytes}
use Rattle.sweep.proofs.Toured.{all_listed, tour-then, tour_behind}
use Rattle.sweep.proofs.Kept.{in_order, before_one}

-- ---- what comes next

module _ (g : Geometry) (t : BlockType) (img : List ℕ) (fine : check_of g (length img) ≡ 0) (v : Visitor) where
  next_is : next_visit g t v img ≡ first_seen g (tour_from g t v img).objects (tour_from g t v img).end
  unfolding next_visit
  next_is = gate_on _ (check_of g (length img)) (check_of g (length img)) refl fine

  -- an object: the walk goes on behind it
  pub met_behind : (h : ObjectHeader) (w : Visitor) → done (object h w) ≡ next_visit g t v img → w ≡ behind_visit g h
  met_behind h w e = go (tour_from g t v img).objects (tour_from g t v img).end (e ∙ next_is)
    where
      go : (hs : List ObjectHeader) (n : Answer (Unit {0})) → done (object h w) ≡ first_seen g hs n → w ≡ behind_visit g h
      go [] (done u) q = let z : ◌≡◌ {A = ℕ} 0 1 = cc in absurd (omega arith)
      go [] (refused k) q = let z : ◌≡◌ {A = ℕ} 0 1 = cc in absurd (omega arith)
      go (x ∷ hs) n q = let p : h ≡ x = cc in let r : w ≡ behind_visit g x = cc in r ∙ ap (behind_visit g) (sym p)

-- ---- where a walk stands

pub record At (g : Geometry) (t : BlockType) (v : Visitor) (img : List ℕ) : Type 0 where
  pub fine : check_of g (length img) ≡ 0
  pub bytes : AreBytes img
  pub front : List ObjectHeader
  pub order : (tour g t img).objects ≡ front ++ (tour_from g t v img).objects

abbrev pub at_start : (g : Geometry) (t : BlockType) (img : List ℕ) → check_of g (length img) ≡ 0 → AreBytes img → At g t (start_visit g 0) img
at_start g t img c b = record { fine = c; bytes = b; front = []; order = refl }

module _ (g : Geometry) (t : BlockType) (v : Visitor) (img : List ℕ) (a : At g t v img) (h : ObjectHeader) (w : Visitor) (then : (tour_from g t v img).objects ≡ h ∷ (tour_from g t w img).objects) where
  abbrev pub back : List ObjectHeader
  back = (tour_from g t w img).objects

  pub was : (tour g t img).objects ≡ a.front ++ h ∷ back
  was = a.order ∙ ap (λ (hs : List ObjectHeader). a.front ++ hs) then

  abbrev pub at_on : At g t w img
  at_on = record { fine = a.fine; bytes = a.bytes; front = a.front ++ h ∷ []; order = was ∙ sym (append_assoc a.front (h ∷ []) back) }

  pub listed : Listed g t h img
  listed = all_of (λ x. Listed g t x img) a.front h back (subst (All (λ x. Listed g t x img)) was (all_listed g t img))

  -- deleted: what is ahead is the same
  module _ (behind : w ≡ behind_visit g h) (other : List ℕ) (m : Marked g h img other) where
    pub ahead-same : tour_from g t w other ≡ tour_from g t w img
    ahead-same = subst (λ (x : Visitor). tour_from g t x other ≡ tour_from g t x img) (sym behind) (tour_behind g t h img a.fine listed other m t)

    abbrev pub at-deleted : At g t w other
    at-deleted =
        record {
          fine = fine_then g t h img a.fine listed other m;
          bytes = marked_bytes g h img other m a.bytes;
          front = a.front;
          order = (tour-then g t h img a.fine listed other m a.front back was).0 ∙ ap (λ (x : Tour). a.front ++ x.objects) (sym ahead-same);
        }

  -- what stands before it
  pub before_is : before h.location (tour g t img).objects ≡ a.front
  before_is =
      ap (before h.location) was
      ∙ go a.front (before_one g t img a.fine a.front h back (subst (Sorted g t img a.fine) was (in_order g t img a.fine)))
    where
      same_self : same_at h.location h.location ≡ true
      same_self = rw (eq-eqb h.location.block h.location.block refl, eq-eqb h.location.offset h.location.offset refl)

      apart : (x : ObjectHeader) → Before g t img a.fine x h → same_at h.location x.location ≡ false
      apart x (inl l) = rw (ne_eqb h.location.block x.location.block (λ e. omega arith))
      apart x (inr l) =
          let n : h.location.offset ≢ x.location.offset = λ e. omega (arith, l.1, listing.span_least g.granularity g.s x, header_some g.granularity g.s) in
          rw (ne_eqb h.location.offset x.location.offset n) (and-false (eqb h.location.block x.location.block))
        where
          and-false : (b : Bool) → (b && false) ≡ false
          and-false true = refl
          and-false false = refl

      go : (xs : List ObjectHeader) → All (λ x. Before g t img a.fine x h) xs → before h.location (xs ++ h ∷ back) ≡ xs
      go [] p = rw same_self
      go (x ∷ xs) p = rw (apart x p.0) (ap (λ (l : List ObjectHeader). x ∷ l) (go xs p.1))
