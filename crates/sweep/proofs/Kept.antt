-- The other objects that are listed are kept: every byte of theirs is as it was.
use mathlib.Core.Path.{◌≡◌, refl, sym, ap, ap₂, ◌∙◌, subst}
use mathlib.Core.Logic.{◌⊎◌, inl, inr, ◌≢◌}
use mathlib.Core.Bool.{Bool, true, false, ◌&&◌, false≢true}
use mathlib.Core.List.{List, [], ◌∷◌, ◌++◌}
use Prim.Native.Nat.{ℕ, ◌+◌, ◌≤◌, min}
use native.Mathlib.Omega.{arith}
use lib.ListN.{length}
use lib.Dec.{eqb}
use Rattle.medium.specs.declared.geometry.Geometry.{Geometry}
use Rattle.medium.specs.Geometry.{check_of}
use Rattle.medium.specs.Operation.{Answer, done}
use Rattle.medium.specs.Medium.{read_at}
use Rattle.objects.specs.declared.header.ObjectHeader.{ObjectHeader}
use Rattle.objects.specs.Header.{payload_of}
use Rattle.objects.specs.Info.{span_of}
use Rattle.objects.specs.Payload.{payload_at, read_payload, same_bytes, same_payload}
use Rattle.blocks.specs.declared.header.BlockType.{BlockType}
use Rattle.blocks.specs.BlockHeader.{type_number}
use Rattle.storage.specs.Order.{is_of, tour, start_visit}
use Rattle.storage.specs.Laws.{All}
use Rattle.storage.proofs.Heads.{Before, Sorted, sorted}
use Rattle.storage.proofs.Finding.{all_of}
use Rattle.shown.proofs.Agreeing.{Agree, agree_less, read_agree}
use Rattle.shown.proofs.Walk.{span_least}
use Rattle.objects.specs.Types.{type_number as type_of_state}
use Rattle.sweep.specs.Twins.{is_twin}
use Rattle.sweep.proofs.Lists.{all_map}
use Rattle.sweep.proofs.Marks.{Listed, Marked}
use Rattle.sweep.proofs.Relisted.{agree_aside, agree_else}
use Rattle.sweep.proofs.Toured.{all_listed, one_type}

abbrev pub end_of : Geometry → ObjectHeader → ℕ
end_of g e = min (e.location.offset + span_of g.granularity g.s e) g.size

-- the bytes of an object, as far as its block goes
abbrev pub Kept : Geometry → List ℕ → List ℕ → ObjectHeader → Type 0
Kept g img other e = Agree g e.location.block e.location.offset (end_of g e) img other

-- ---- a list in order, split at one of its objects

module _ (g : Geometry) (t : BlockType) (img : List ℕ) (fine : check_of g (length img) ≡ 0) where
  pub before_one : (xs : List ObjectHeader) (h : ObjectHeader) (ys : List ObjectHeader) → Sorted g t img fine (xs ++ h ∷ ys) → All (λ e. Before g t img fine e h) xs
  before_one [] h ys s = tt
  before_one (x ∷ xs) h ys s = (all_of (Before g t img fine x) xs h ys s.0, before_one xs h ys s.1)

  pub behind_one_lem : (xs : List ObjectHeader) (h : ObjectHeader) (ys : List ObjectHeader) → Sorted g t img fine (xs ++ h ∷ ys) → All (λ e. Before g t img fine h e) ys
  behind_one_lem [] h ys s = s.0
  behind_one_lem (x ∷ xs) h ys s = behind_one_lem xs h ys s.1

  pub in_order : Sorted g t img fine (tour g t img).objects
  in_order = (sorted g t img fine (tour g t img).objects (start_visit g 0) (λ o. absurd (false≢true o)) refl).1

-- ---- with the mark of one

module _ (g : Geometry) (t : BlockType) (h : ObjectHeader) (img : List ℕ) (fine : check_of g (length img) ≡ 0) (v : Listed g t h img) (other : List ℕ) (m : Marked g h img other) where
  kept_else : (e : ObjectHeader) → e.location.block ≢ h.location.block → Kept g img other e
  kept_else e n = agree_less g e.location.block 0 g.size e.location.offset (end_of g e) img other (agree_else g t h img fine v other m e.location.block n) (omega arith) (omega arith)

  kept_aside : (e : ObjectHeader) → e.location.block ≡ h.location.block
      → (e.location.offset + span_of g.granularity g.s e ≤ h.location.offset) ⊎ (h.location.offset + span_of g.granularity g.s h ≤ e.location.offset) → Kept g img other e
  kept_aside e q d = subst (λ (b : ℕ). Agree g b e.location.offset (end_of g e) img other) (sym q) (agree_aside g t h img fine v other m e.location.offset (end_of g e) (go d))
    where
      go : (e.location.offset + span_of g.granularity g.s e ≤ h.location.offset) ⊎ (h.location.offset + span_of g.granularity g.s h ≤ e.location.offset)
          → (end_of g e ≤ h.location.offset) ⊎ (h.location.offset + span_of g.granularity g.s h ≤ e.location.offset)
      go (inl c) = inl (omega arith)
      go (inr c) = inr c

  kept_before : (e : ObjectHeader) → Before g t img fine e h → Kept g img other e
  kept_before e (inl x) = kept_else e (λ q. omega arith)
  kept_before e (inr x) = kept_aside e x.0 (inl x.1)

  kept_behind : (e : ObjectHeader) → Before g t img fine h e → Kept g img other e
  kept_behind e (inl x) = kept_else e (λ q. omega arith)
  kept_behind e (inr x) = kept_aside e (sym x.0) (inr x.1)

  -- those of the same type, before and behind it
  pub kept_around : (front back : List ObjectHeader) → (tour g t img).objects ≡ front ++ h ∷ back → All (Kept g img other) front × All (Kept g img other) back
  kept_around front back was =
      let s : Sorted g t img fine (front ++ h ∷ back) = subst (Sorted g t img fine) was (in_order g t img fine) in
      (all_map (λ e. Before g t img fine e h) (Kept g img other) kept_before front (before_one g t img fine front h back s), all_map (λ e. Before g t img fine h e) (Kept g img other) kept_behind back (behind_one_lem g t img fine front h back s))

  -- those of another type
  pub block_other : (u : BlockType) → type_number t ≢ type_number u → (e : ObjectHeader) → is_of g u e.location.block img ≡ done true → e.location.block ≢ h.location.block
  block_other u n e k q =
      let a : is_of g u e.location.block img ≡ done false = ap (λ (b : ℕ). is_of g u b img) q ∙ one_type g t u h.location.block img n v.kind in
      let z : true ≡ false = same (sym k ∙ a) in
      absurd (false≢true (sym z))
    where
      same : {a b : Bool} → ◌≡◌ {A = Answer Bool} (done a) (done b) → a ≡ b
      same p = cc

  pub kept_other : (u : BlockType) → type_number t ≢ type_number u → All (Kept g img other) (tour g u img).objects
  kept_other u n = all_map (λ e. Listed g u e img) (Kept g img other) (λ e l. kept_else e (block_other u n e l.kind)) (tour g u img).objects (all_listed g u img)

-- ---- what a kept object reads as

module _ (g : Geometry) (img other : List ℕ) (fine : check_of g (length img) ≡ 0) where
  -- a range of it
  pub range_kept : (e : ObjectHeader) (o n : ℕ) → Kept g img other e → e.location.offset ≤ o → o + n ≤ e.location.offset + span_of g.granularity g.s e
      → read_at g e.location.block o n other ≡ read_at g e.location.block o n img
  range_kept e o n k h l = read_agree g e.location.block e.location.offset (end_of g e) o n img other k h (λ z. omega arith)

  pub payload_kept : (e : ObjectHeader) → Kept g img other e → read_payload g e other ≡ read_payload g e img
  unfolding read_payload
  payload_kept e k = range_kept e (payload_at g e) (payload_of g.s e) k (omega arith) (omega (arith, span_least g e.location.block img fine e))

  pub twin_kept : (a b : ObjectHeader) → Kept g img other a → Kept g img other b → is_twin g other a b ≡ is_twin g img a b
  unfolding is_twin same_payload
  twin_kept a b x y = ap₂ (λ (p q : Answer (List ℕ)). eqb (type_of_state a.state) (type_of_state b.state) && same_bytes p q) (payload_kept a x) (payload_kept b y)
