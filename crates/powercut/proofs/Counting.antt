-- Listings of images that agree on a part of a block count alike there.
use mathlib.Core.Path.{◌≡◌, refl, sym, ap, ap₂, ◌∙◌, subst}
use mathlib.Core.Logic.{◌⊎◌, inl, inr}
use mathlib.Core.Bool.{Bool, true, false, ◌&&◌}
use mathlib.Core.List.{List, [], ◌∷◌}
use Prim.Native.Nat.{ℕ, zero, suc, ◌+◌, ◌≤◌, ◌<◌}
use native.Mathlib.Omega.{arith}
use lib.ListN.{length}
use Rattle.medium.specs.declared.geometry.Geometry.{Geometry}
use Rattle.medium.specs.Granularity.{pick, size_at, header}
use Rattle.medium.specs.Geometry.{check_of}
use Rattle.medium.specs.Operation.{Answer, done, refused, and_then}
use Rattle.objects.specs.declared.types.ObjectType.{ObjectType}
use Rattle.objects.specs.declared.state.CompositeObjectState.{CompositeObjectState}
use Rattle.objects.specs.declared.location.ObjectLocation.{ObjectLocation}
use Rattle.objects.specs.declared.header.ObjectHeader.{ObjectHeader}
use Rattle.objects.specs.Header.{header_at, payload_of}
use Rattle.objects.specs.Info.{Info, found, none, info_at}
use Rattle.objects.specs.Types.{rank_of}
use Rattle.objects.specs.Reader as reader
use Rattle.objects.specs.Reader.{reader_at, read_some}
use Rattle.objects.specs.Listing.{placed, Visit, Listing, list_from}
use Rattle.powercut.specs.Demand.{reader_of}
use Rattle.powercut.specs.Listed.{payload_read, finished_as, is_payload, is_copy, count_in}
use Rattle.medium.proofs.Runs.{leb_is}
use Rattle.medium.proofs.Places.{laid}
use Rattle.shown.proofs.Reading.{header_back, header_of}
use Rattle.shown.proofs.Agreeing.{short_size, Agree, agree_less, header_agree, info_agree, some_agree}
use Rattle.shown.proofs.Walk.{place, visit, span_at, span_least, info_back, Walked, walk-le}
use Rattle.shown.proofs.Steps.{at_end_lem, at_object, at-free, at-broken}

module _ (g : Geometry) (b : ℕ) (img last : List ℕ) (fine : check_of g (length img) ≡ 0) where
  -- what is read from an offset on lies in the part up to another, or goes up to the block's end at most
  abbrev pub Within : ℕ → ℕ → ℕ → Type 0
  Within o n e = (o + n ≤ e) ⊎ (e ≡ g.size)

  reach : (o n e : ℕ) → Within o n e → (x : ℕ) → x ≤ n → o + x ≤ g.size → o + x ≤ e
  reach o n e (inl r) x h k = omega arith
  reach o n e (inr r) x h k = omega arith

  plain : size_at g.granularity + g.s ≤ header g.granularity g.s
  plain = (laid g.granularity g.s 0 (short_size g (length img) fine)).size_plain

  module _ (o n e : ℕ) (r : Within o n e) (h : header g.granularity g.s ≤ n) (f : Agree g b o e img last) where
    state_in_lem : o + size_at g.granularity ≤ g.size → o + size_at g.granularity ≤ e
    state_in_lem = reach o n e r (size_at g.granularity) (omega (arith, plain))

    size_in : o + size_at g.granularity + g.s ≤ g.size → o + size_at g.granularity + g.s ≤ e
    size_in k = omega (arith, reach o n e r (size_at g.granularity + g.s) (omega (arith, plain)) (omega arith))

    header_same : header_at g (place g b o) last ≡ header_at g (place g b o) img
    header_same = header_agree g (place g b o) e img last f state_in_lem size_in

    info_same : info_at g (place g b o) last ≡ info_at g (place g b o) img
    info_same = info_agree g (place g b o) e img last f state_in_lem size_in

  payload_same : (o e : ℕ) (st : CompositeObjectState) (size : ℕ) → header_at g (place g b o) img ≡ done (header_of st size (place g b o))
      → Within o (header g.granularity g.s + payload_of g.s (header_of st size (place g b o))) e → Agree g b o e img last → payload_read g (place g b o) last ≡ payload_read g (place g b o) img
  unfolding payload_read reader_at
  payload_same o e st size k r f =
      rw (header_same o (header g.granularity g.s + payload_of g.s (header_of st size (place g b o))) e r (omega arith) f, k)
      (go (reader.readable false (rank_of st)))
    where
      go : (x : Bool) → and_then (pick x (done (reader_of (header_of st size (place g b o)) 0)) (refused 2)) (λ c. and_then (read_some g c 65536 last) (λ d. done d.bytes))
          ≡ and_then (pick x (done (reader_of (header_of st size (place g b o)) 0)) (refused 2)) (λ c. and_then (read_some g c 65536 img) (λ d. done d.bytes))
      go true =
          ap (λ (c : Answer reader.Chunk). and_then c (λ d. done d.bytes))
          (some_agree g (header_of st size (place g b o)) e img last f (reach o (header g.granularity g.s + payload_of g.s (header_of st size (place g b o))) e r) 65536)
      go false = refl

  -- a visit counts alike
  copy_same : (t : ObjectType) (pay : List ℕ) (o e : ℕ) (h : ObjectHeader) → info_at g (place g b o) img ≡ done (found h)
      → Within o (header g.granularity g.s + payload_of g.s h) e → Agree g b o e img last → is_copy g b t pay last (visit g b o h) ≡ is_copy g b t pay img (visit g b o h)
  unfolding is_copy payload_of
  copy_same t pay o e h i r f =
      let k : header_at g (place g b o) img ≡ done h = info_back g b o img h i in
      let at : h ≡ header_of h.state h.size (place g b o) = ap (λ (x : ObjectLocation). header_of h.state h.size x) (header_back g (place g b o) img h k).located in
      ap (λ (x : Answer (List ℕ)). finished_as h.state t && is_payload x pay)
      (payload_same o e h.state h.size (k ∙ ap done at) r f)

  -- so does a walk
  pub walk_count : (t : ObjectType) (pay : List ℕ) (vs : List Visit) (o e : ℕ) → Walked g b img o vs e → Agree g b o e img last → count_in g b t pay last vs ≡ count_in g b t pay img vs
  walk_count t pay [] o e w f = refl
  walk_count t pay (v ∷ vs) o e w f =
      let h : o + span_at g b v.object + length vs ≤ e = walk-le g b img fine vs (o + span_at g b v.object) e w.3 in
      let i : visit g b o v.object ≡ v = ap (λ (x : ℕ). visit g b x v.object) (sym w.0) in
      ap₂ (λ (x : Bool) (n : ℕ). pick x 1 0 + n)
      (subst (λ (x : Visit). is_copy g b t pay last x ≡ is_copy g b t pay img x) i
      (copy_same t pay o e v.object w.1 (inl (omega (arith, span_least g b img fine v.object))) f))
      (walk_count t pay vs (o + span_at g b v.object) e w.3 (agree_less g b o e (o + span_at g b v.object) e img last f (omega arith) (omega arith)))

  -- and all that is listed behind an offset
  pub list_count : (t : ObjectType) (pay : List ℕ) (n o : ℕ) → Agree g b o g.size img last
      → count_in g b t pay last (list_from n g (placed b o) last).visits ≡ count_in g b t pay img (list_from n g (placed b o) img).visits
  unfolding list_from
  list_count t pay zero o f = refl
  list_count t pay (suc n) o f = go (leb_is g.size (o + header g.granularity g.s)) (λ y e. list_count t pay n y e)
    where
      still : check_of g (length last) ≡ 0
      still = ap (check_of g) f.long ∙ fine

      -- the two listings, each by its first step
      both : (x y : Listing) → list_from (suc n) g (placed b o) last ≡ x → list_from (suc n) g (placed b o) img ≡ y → count_in g b t pay last x.visits ≡ count_in g b t pay img y.visits
          → count_in g b t pay last (list_from (suc n) g (placed b o) last).visits ≡ count_in g b t pay img (list_from (suc n) g (placed b o) img).visits
      both x y p q e = ap (λ (l : Listing). count_in g b t pay last l.visits) p ∙ e ∙ ap (λ (l : Listing). count_in g b t pay img l.visits) (sym q)

      seen : (c : o + header g.granularity g.s < g.size) (a : Answer Info) → info_at g (place g b o) img ≡ a → info_at g (place g b o) last ≡ a
          → ((y : ℕ) → Agree g b y g.size img last → count_in g b t pay last (list_from n g (placed b y) last).visits ≡ count_in g b t pay img (list_from n g (placed b y) img).visits)
          → count_in g b t pay last (list_from (suc n) g (placed b o) last).visits ≡ count_in g b t pay img (list_from (suc n) g (placed b o) img).visits
      seen c (done (found h)) i j rec =
          both _ _ (at_object g b last still n o c h j) (at_object g b img fine n o c h i)
          (ap₂ (λ (x : Bool) (k : ℕ). pick x 1 0 + k) (copy_same t pay o g.size h i (inr refl) f)
          (rec (o + span_at g b h) (agree_less g b o g.size (o + span_at g b h) g.size img last f (omega arith) (omega arith))))
      seen c (done none) i j rec = both _ _ (at-free g b last still n o c j) (at-free g b img fine n o c i) refl
      seen c (refused k) i j rec = both _ _ (at-broken g b last still n o c k j) (at-broken g b img fine n o c k i) refl

      go : (g.size ≤ o + header g.granularity g.s) ⊎ (o + header g.granularity g.s < g.size)
          → ((y : ℕ) → Agree g b y g.size img last → count_in g b t pay last (list_from n g (placed b y) last).visits ≡ count_in g b t pay img (list_from n g (placed b y) img).visits)
          → count_in g b t pay last (list_from (suc n) g (placed b o) last).visits ≡ count_in g b t pay img (list_from (suc n) g (placed b o) img).visits
      go (inl c) rec = both _ _ (at_end_lem g b last still n o c) (at_end_lem g b img fine n o c) refl
      go (inr c) rec =
          seen c (info_at g (place g b o) img) refl (info_same o (header g.granularity g.s) g.size (inr refl) (omega arith) f) rec
