-- The loop that deletes twins: what is still to be deleted, by where the walk stands.
use mathlib.Core.Path.{◌≡◌, refl, sym, ap, ◌∙◌, subst}
use mathlib.Core.Bool.{Bool, true, false}
use mathlib.Core.List.{List, [], ◌∷◌, ◌++◌}
use Prim.Native.Nat.{ℕ, suc, ◌+◌, ◌≤◌, ◌<◌}
use native.Mathlib.Omega.{arith}
use lib.ListN.{length}
use Rattle.medium.specs.declared.geometry.Geometry.{Geometry}
use Rattle.medium.specs.declared.fuse.Fuse.{Fuse}
use Rattle.std.specs.Prelude.{Ok, Err}
use Rattle.medium.specs.declared.fuse.Stopped.{Stopped}
use Rattle.medium.specs.Refusal.{refusal_number}
use Rattle.medium.specs.Fuse.{Stored}
use Rattle.medium.specs.Granularity.{pick}
use Rattle.medium.specs.Geometry.{check_of}
use Rattle.medium.specs.Operation.{done, refused, run, ended_by, EndIn}
use Rattle.medium.specs.Beside.{Both, both}
use Rattle.medium.proofs.Padding.{AreBytes}
use Rattle.objects.specs.declared.state.ObjectState.TheVariants as state
use Rattle.objects.specs.declared.header.ObjectHeader.{ObjectHeader}
use Rattle.objects.specs.Header.{update_state}
use Rattle.blocks.specs.declared.header.BlockType.TheVariants.{Metadata}
use Rattle.storage.specs.declared.visit.Visitor.{Visitor}
use Rattle.storage.specs.Order.{Tour, tour_from, start_visit, behind_visit, tour}
use Rattle.storage.specs.Laws.{All}
use Rattle.sweep.specs.Lists.{some}
use Rattle.sweep.specs.Referring.{metadata_in}
use Rattle.sweep.specs.Twins.{is_twin, twins_in, twins, before}
use Rattle.sweep.specs.Sweep.{deleting, deleting_twins}
use Rattle.sweep.specs.Slots.{Knows}
use Rattle.sweep.proofs.Marks.{Marked, marked_by, delete_done}
use Rattle.sweep.proofs.Toured.{tour-then}
use Rattle.sweep.proofs.MetKeys.{knows_less, knows_kept}
use Rattle.sweep.proofs.Kept.{Kept, kept_around, twin_kept}
use Rattle.sweep.proofs.Alike.{absorbed, some_same, twins_same}
use Rattle.sweep.proofs.Few.{tour_few}
use Rattle.sweep.proofs.Going.{At, at_start, was, at_on, listed, ahead-same, at-deleted, before_is}
use Rattle.sweep.proofs.Turns.{delete-on, delete-stop, delete_none, twins_start}

-- an object that has its like before it is taken out: the twins of the rest are the same
module _ (g : Geometry) (img other : List ℕ) (fine : check_of g (length img) ≡ 0) (front : List ObjectHeader) (h : ObjectHeader) (rest : List ObjectHeader)
    (kf : All (Kept g img other) front) (kr : All (Kept g img other) rest) (s : some (is_twin g img h) front ≡ true) where
  seen_before : (es : List ObjectHeader) → All (Kept g img other) es → All (λ e. some (is_twin g img e) (front ++ h ∷ []) ≡ some (is_twin g other e) front) es
  seen_before [] k = tt
  seen_before (e ∷ es) k = (absorbed g img h front s e ∙ some_same (is_twin g img e) (is_twin g other e) front (agree front kf), seen_before es k.1)
    where
      agree : (xs : List ObjectHeader) → All (Kept g img other) xs → All (λ x. is_twin g img e x ≡ is_twin g other e x) xs
      agree [] q = tt
      agree (x ∷ xs) q = (sym (twin_kept g img other fine e x k.0 q.0), agree xs q.1)

  pub twins_left : twins_in (is_twin g img) (front ++ h ∷ []) rest ≡ twins_in (is_twin g other) front rest
  twins_left = twins_same (Kept g img other) (is_twin g img) (is_twin g other) (λ e x p q. twin_kept g img other fine e x p q) (front ++ h ∷ []) front rest kr (seen_before rest kr)

-- ---- the loop

module _ (g : Geometry) (f₀ : Fuse) (img₀ : List ℕ) where
  abbrev whole : EndIn Both (Unit {0})
  whole = run f₀ (deleting_twins g) (both img₀ (0 ∷ 0 ∷ []))

  pub record TwinsLeft (img words : List ℕ) (v : Visitor) (fuse : Fuse) (n : ℕ) (sure : Bool) : Type 0 where
    pub at : At g Metadata v img
    pub long : length img ≡ length img₀
    pub end : (tour g Metadata img).end ≡ done tt
    pub knows : sure ≡ true → Knows g img words at.front
    pub few : n + length (tour_from g Metadata v img).objects ≤ 16777216
    pub runs : whole ≡ run fuse (deleting g 0 n (twins_in (is_twin g img) at.front (tour_from g Metadata v img).objects)) (both img (n ∷ 0 ∷ []))

  pub twins_begin : (words : List ℕ) → check_of g (length img₀) ≡ 0 → AreBytes img₀ → (tour g Metadata img₀).end ≡ done tt → TwinsLeft img₀ words (start_visit g 0) f₀ 0 true
  unfolding twins
  twins_begin words fine bytes end =
      record {
        at = at_start g Metadata img₀ fine bytes;
        long = refl;
        end = end;
        knows = λ _. tt;
        few = omega (arith, tour_few g Metadata img₀ fine);
        runs = twins_start g f₀ img₀ (0 ∷ 0 ∷ []);
      }

  module _ (img words : List ℕ) (v : Visitor) (fuse : Fuse) (n : ℕ) (sure : Bool) (a : TwinsLeft img words v fuse n sure) where
    pub twins-finish : (tour_from g Metadata v img).objects ≡ [] → whole ≡ record { answer = done tt; fuse = fuse; state = both img (n ∷ 0 ∷ []) }
    twins-finish e =
        a.runs ∙ ap (λ (hs : List ObjectHeader). run fuse (deleting g 0 n (twins_in (is_twin g img) a.at.front hs)) (both img (n ∷ 0 ∷ []))) e
        ∙ delete_none g 0 n fuse (both img (n ∷ 0 ∷ []))

    -- what is known of those before an object
    pub twins-known : (h : ObjectHeader) (w : Visitor) → (tour_from g Metadata v img).objects ≡ h ∷ (tour_from g Metadata w img).objects
        → sure ≡ true → Knows g img words (before h.location (metadata_in g img))
    twins-known h w then z = subst (Knows g img words) (sym (before_is g Metadata v img a.at h w then)) (a.knows z)

    module _ (h : ObjectHeader) (w : Visitor) (then : (tour_from g Metadata v img).objects ≡ h ∷ (tour_from g Metadata w img).objects) (r : Bool)
        (q : r ≡ some (is_twin g img h) (before h.location (metadata_in g img))) (slots : List ℕ) (still : Bool)
        (known : still ≡ true → Knows g img slots (before h.location (metadata_in g img) ++ h ∷ [])) where
      knows-then : still ≡ true → Knows g img slots (a.at.front ++ h ∷ [])
      knows-then z = subst (λ (hs : List ObjectHeader). Knows g img slots (hs ++ h ∷ [])) (before_is g Metadata v img a.at h w then) (known z)

      has : some (is_twin g img h) a.at.front ≡ r
      has = ap (some (is_twin g img h)) (sym (before_is g Metadata v img a.at h w then)) ∙ sym q

      fewer : suc (length (tour_from g Metadata w img).objects) ≡ length (tour_from g Metadata v img).objects
      fewer = ap (λ (hs : List ObjectHeader). length hs) (sym then)

      abbrev rest : List ObjectHeader
      rest = twins_in (is_twin g img) (a.at.front ++ h ∷ []) (tour_from g Metadata w img).objects

      here : whole ≡ run fuse (deleting g 0 n (pick r (h ∷ rest) rest)) (both img (n ∷ 0 ∷ []))
      here =
          a.runs ∙ ap (λ (hs : List ObjectHeader). run fuse (deleting g 0 n (twins_in (is_twin g img) a.at.front hs)) (both img (n ∷ 0 ∷ []))) then
          ∙ ap (λ (b : Bool). run fuse (deleting g 0 n (pick b (h ∷ rest) rest)) (both img (n ∷ 0 ∷ []))) has

      -- none like it before it: it stays
      pub twins-pass : r ≡ false → TwinsLeft img slots w fuse n still
      twins-pass z =
          record {
            at = at_on g Metadata v img a.at h w then;
            long = a.long;
            end = a.end;
            knows = knows-then;
            few = omega (arith, a.few, fewer);
            runs = here ∙ ap (λ (b : Bool). run fuse (deleting g 0 n (pick b (h ∷ rest) rest)) (both img (n ∷ 0 ∷ []))) z;
          }

      module _ (z : r ≡ true) (after : List ℕ) (x : Stored) (y : ObjectHeader) (e : ended_by x y after ≡ run fuse (update_state g h state.Deleted) img) where
        its : whole ≡ run fuse (deleting g 0 n (h ∷ rest)) (both img (n ∷ 0 ∷ []))
        its = here ∙ ap (λ (b : Bool). run fuse (deleting g 0 n (pick b (h ∷ rest) rest)) (both img (n ∷ 0 ∷ []))) z

        pub twins-stop : {s : Stopped} → x ≡ Err s → whole ≡ record { answer = refused (refusal_number s.refusal); fuse = s.fuse; state = both after (n ∷ 0 ∷ []) }
        twins-stop d = its ∙ delete-stop g 0 n h rest fuse img after (n ∷ 0 ∷ []) x y e d

        module _ {left : Fuse} (d : x ≡ Ok left) (behind : w ≡ behind_visit g h) where
          marked : Marked g h img after
          marked =
              subst (Marked g h img) (sym (delete_done g Metadata h img a.at.fine (listed g Metadata v img a.at h w then) fuse left x y after e d))
              (marked_by g Metadata h img a.at.fine (listed g Metadata v img a.at h w then) a.at.bytes)

          kept : All (Kept g img after) a.at.front × All (Kept g img after) (tour_from g Metadata w img).objects
          kept = kept_around g Metadata h img a.at.fine (listed g Metadata v img a.at h w then) after marked a.at.front (tour_from g Metadata w img).objects (was g Metadata v img a.at h w then)

          ahead : tour_from g Metadata w after ≡ tour_from g Metadata w img
          ahead = ahead-same g Metadata v img a.at h w then behind after marked

          pub twins-fewer : length (tour_from g Metadata w after).objects < length (tour_from g Metadata v img).objects
          twins-fewer = omega (arith, fewer, ap (λ (u : Tour). length u.objects) ahead)

          pub twins-deleted : TwinsLeft after slots w left (n + 1) still
          twins-deleted =
              record {
                at = at-deleted g Metadata v img a.at h w then behind after marked;
                long = marked.long ∙ a.long;
                end =
                    (tour-then g Metadata h img a.at.fine (listed g Metadata v img a.at h w then) after marked a.at.front (tour_from g Metadata w img).objects (was g Metadata v img a.at h w then)).1
                    ∙ a.end;
                knows = λ z. knows_kept g img after slots a.at.fine a.at.front kept.0 (knows_less g img slots h a.at.front (knows-then z));
                few = omega (arith, a.few, fewer, ap (λ (u : Tour). length u.objects) ahead);
                runs =
                    its ∙ delete-on g 0 n h rest fuse img after (n ∷ 0 ∷ []) x y e d
                    ∙ ap (λ (ts : List ObjectHeader). run left (deleting g 0 (n + 1) ts) (both after ((n + 1) ∷ 0 ∷ [])))
                    (twins_left g img after a.at.fine a.at.front h (tour_from g Metadata w img).objects kept.0 kept.1 (has ∙ z)
                    ∙ ap (λ (u : Tour). twins_in (is_twin g after) a.at.front u.objects) (sym ahead));
              }
