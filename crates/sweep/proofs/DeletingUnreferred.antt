-- The loop that deletes what nothing refers to.
use mathlib.Core.Path.{◌≡◌, refl, sym, ap, ap₂, ◌∙◌, subst}
use mathlib.Core.Bool.{Bool, true, false}
use mathlib.Core.List.{List, [], ◌∷◌, ◌++◌}
use Prim.Native.Nat.{ℕ, suc, ◌+◌, ◌≤◌, ◌<◌}
use native.Mathlib.Omega.{arith}
use lib.ListN.{length}
use Rattle.medium.specs.declared.geometry.Geometry.{Geometry}
use Rattle.medium.specs.declared.fuse.Fuse.{Fuse}
use Rattle.std.specs.Prelude.{Ok, Err}
use Rattle.medium.specs.declared.fuse.Stopped.{Stopped}
use Rattle.medium.specs.Refusal.{refusal_number}
use Rattle.medium.specs.Fuse.{Stored}
use Rattle.medium.specs.Granularity.{pick}
use Rattle.medium.specs.Geometry.{check_of}
use Rattle.medium.specs.Operation.{done, refused, run, ended_by, EndIn}
use Rattle.medium.specs.Beside.{Both, both}
use Rattle.medium.proofs.Padding.{AreBytes}
use Rattle.objects.specs.declared.state.ObjectState.TheVariants as state
use Rattle.objects.specs.declared.location.ObjectLocation.{ObjectLocation}
use Rattle.objects.specs.declared.header.ObjectHeader.{ObjectHeader}
use Rattle.objects.specs.Header.{update_state}
use Rattle.blocks.specs.declared.header.BlockType.TheVariants.{Metadata, Data}
use Rattle.storage.specs.declared.visit.Visitor.{Visitor}
use Rattle.storage.specs.Order.{Tour, tour_from, start_visit, behind_visit}
use Rattle.storage.specs.Laws.{All}
use Rattle.sweep.specs.Lists.{some, except}
use Rattle.sweep.specs.Referring.{metadata_in, is_among, locations_of}
use Rattle.sweep.specs.Twins.{is_referred, unreferred}
use Rattle.sweep.specs.Notes.{Inside, noted, referred_by, referred_in}
use Rattle.sweep.specs.Sweep.{deleting, deleting_unreferred}
use Rattle.sweep.proofs.Lists.{all_map}
use Rattle.sweep.proofs.Marks.{Listed, Marked, marked_by, delete_done}
use Rattle.sweep.proofs.Relisted.{agree_else}
use Rattle.sweep.proofs.Toured.{all_listed, tour_shut}
use Rattle.sweep.proofs.Kept.{block_other}
use Rattle.sweep.proofs.Alike.{some_same}
use Rattle.sweep.proofs.Noted.{listed_inside}
use Rattle.sweep.proofs.Few.{tour_few}
use Rattle.sweep.proofs.Unchanged.{locations_same}
use Rattle.sweep.proofs.Going.{At, at_start, at_on, listed, ahead-same, at-deleted}
use Rattle.sweep.proofs.Turns.{delete-on, delete-stop, delete_none, unreferred_start}

-- ---- an object of a Data block is deleted: what is referred to stays

module _ (g : Geometry) (h : ObjectHeader) (img : List ℕ) (fine : check_of g (length img) ≡ 0) (v : Listed g Data h img) (other : List ℕ) (m : Marked g h img other) where
  pub metadata_stays : metadata_in g other ≡ metadata_in g img
  metadata_stays = ap (λ (t : Tour). t.objects) (tour_shut g Data h img fine v other m Metadata (λ e. omega arith))

  pub locations_stay : All (λ e. locations_of g e other ≡ locations_of g e img) (metadata_in g img)
  locations_stay = all_map (λ e. Listed g Metadata e img) (λ e. locations_of g e other ≡ locations_of g e img) one (metadata_in g img) (all_listed g Metadata img)
    where
      one : (e : ObjectHeader) → Listed g Metadata e img → locations_of g e other ≡ locations_of g e img
      one e l = locations_same g e.location.block img other (agree_else g Data h img fine v other m e.location.block (block_other g Data h img fine v other m Metadata (λ q. omega arith) e l.kind)) e refl

  pub referred_stays : (l : ObjectLocation) → is_referred g other l ≡ is_referred g img l
  unfolding is_referred
  referred_stays l =
      ap (some (λ e. is_among l (locations_of g e other))) metadata_stays
      ∙ some_same (λ e. is_among l (locations_of g e other)) (λ e. is_among l (locations_of g e img)) (metadata_in g img)
      (all_map (λ e. locations_of g e other ≡ locations_of g e img) (λ e. is_among l (locations_of g e other) ≡ is_among l (locations_of g e img)) (λ e q. ap (is_among l) q) (metadata_in g img) locations_stay)

  same_by : (hs : List ObjectHeader) → All (λ e. locations_of g e other ≡ locations_of g e img) hs → referred_by g other hs ≡ referred_by g img hs
  same_by [] a = refl
  same_by (e ∷ hs) a = ap₂ (λ (x y : List ObjectLocation). x ++ y) a.0 (same_by hs a.1)

  -- and so do the notes of it
  pub notes_stay : referred_in g other ≡ referred_in g img
  notes_stay = ap (referred_by g other) metadata_stays ∙ same_by (metadata_in g img) locations_stay

pub except_same : {A : Type 0} (p q : A → Bool) → ((x : A) → p x ≡ q x) → (xs : List A) → except p xs ≡ except q xs
except_same p q f [] = refl
except_same {A} p q f (x ∷ xs) = rw (f x) (ap (λ (ys : List A). pick (q x) ys (x ∷ ys)) (except_same p q f xs))

-- ---- the loop

module _ (g : Geometry) (f₀ : Fuse) (img₀ : List ℕ) (ts : ℕ) where
  abbrev whole : EndIn Both (Unit {0})
  whole = run f₀ (deleting_unreferred g) (both img₀ (ts ∷ 0 ∷ []))

  abbrev still : List ℕ → List ObjectHeader → List ObjectHeader
  still img hs = except (λ d. is_referred g img d.location) hs

  pub record UnreferredLeft (words img : List ℕ) (v : Visitor) (fuse : Fuse) (n : ℕ) : Type 0 where
    pub notes : words ≡ noted g (referred_in g img) (length words)
    pub at : At g Data v img
    pub long : length img ≡ length img₀
    pub few : n + length (tour_from g Data v img).objects ≤ 16777216
    pub runs : whole ≡ run fuse (deleting g 1 n (still img (tour_from g Data v img).objects)) (both img (ts ∷ n ∷ []))

  pub unreferred_begin : (words : List ℕ) → words ≡ noted g (referred_in g img₀) (length words) → check_of g (length img₀) ≡ 0 → AreBytes img₀ → UnreferredLeft words img₀ (start_visit g 0) f₀ 0
  unfolding unreferred
  unreferred_begin words notes fine bytes =
      record {
        notes = notes;
        at = at_start g Data img₀ fine bytes;
        long = refl;
        few = omega (arith, tour_few g Data img₀ fine);
        runs = unreferred_start g f₀ img₀ (ts ∷ 0 ∷ []);
      }

  module _ (words img : List ℕ) (v : Visitor) (fuse : Fuse) (n : ℕ) (a : UnreferredLeft words img v fuse n) where
    pub unreferred-finish : (tour_from g Data v img).objects ≡ [] → whole ≡ record { answer = done tt; fuse = fuse; state = both img (ts ∷ n ∷ []) }
    unreferred-finish e =
        a.runs ∙ ap (λ (hs : List ObjectHeader). run fuse (deleting g 1 n (still img hs)) (both img (ts ∷ n ∷ []))) e
        ∙ delete_none g 1 n fuse (both img (ts ∷ n ∷ []))

    -- an object that is met has a word
    pub unreferred-inside : (h : ObjectHeader) (w : Visitor) → (tour_from g Data v img).objects ≡ h ∷ (tour_from g Data w img).objects → Inside g (length img) h.location
    unreferred-inside h w then = listed_inside g img a.at.fine Data h (listed g Data v img a.at h w then)

    module _ (h : ObjectHeader) (w : Visitor) (then : (tour_from g Data v img).objects ≡ h ∷ (tour_from g Data w img).objects) (r : Bool) (q : r ≡ is_referred g img h.location) where
      fewer : suc (length (tour_from g Data w img).objects) ≡ length (tour_from g Data v img).objects
      fewer = ap (λ (hs : List ObjectHeader). length hs) (sym then)

      abbrev rest : List ObjectHeader
      rest = still img (tour_from g Data w img).objects

      here : whole ≡ run fuse (deleting g 1 n (pick r rest (h ∷ rest))) (both img (ts ∷ n ∷ []))
      here =
          a.runs ∙ ap (λ (hs : List ObjectHeader). run fuse (deleting g 1 n (still img hs)) (both img (ts ∷ n ∷ []))) then
          ∙ ap (λ (b : Bool). run fuse (deleting g 1 n (pick b rest (h ∷ rest))) (both img (ts ∷ n ∷ []))) (sym q)

      -- referred to: it stays
      pub unreferred-pass : r ≡ true → UnreferredLeft words img w fuse n
      unreferred-pass z =
          record {
            notes = a.notes;
            at = at_on g Data v img a.at h w then;
            long = a.long;
            few = omega (arith, a.few, fewer);
            runs = here ∙ ap (λ (b : Bool). run fuse (deleting g 1 n (pick b rest (h ∷ rest))) (both img (ts ∷ n ∷ []))) z;
          }

      module _ (z : r ≡ false) (after : List ℕ) (x : Stored) (y : ObjectHeader) (e : ended_by x y after ≡ run fuse (update_state g h state.Deleted) img) where
        its : whole ≡ run fuse (deleting g 1 n (h ∷ rest)) (both img (ts ∷ n ∷ []))
        its = here ∙ ap (λ (b : Bool). run fuse (deleting g 1 n (pick b rest (h ∷ rest))) (both img (ts ∷ n ∷ []))) z

        pub unreferred-stop : {s : Stopped} → x ≡ Err s → whole ≡ record { answer = refused (refusal_number s.refusal); fuse = s.fuse; state = both after (ts ∷ n ∷ []) }
        unreferred-stop d = its ∙ delete-stop g 1 n h rest fuse img after (ts ∷ n ∷ []) x y e d

        module _ {left : Fuse} (d : x ≡ Ok left) (behind : w ≡ behind_visit g h) where
          there : Listed g Data h img
          there = listed g Data v img a.at h w then

          marked : Marked g h img after
          marked = subst (Marked g h img) (sym (delete_done g Data h img a.at.fine there fuse left x y after e d)) (marked_by g Data h img a.at.fine there a.at.bytes)

          ahead : tour_from g Data w after ≡ tour_from g Data w img
          ahead = ahead-same g Data v img a.at h w then behind after marked

          pub unreferred-fewer : length (tour_from g Data w after).objects < length (tour_from g Data v img).objects
          unreferred-fewer = omega (arith, fewer, ap (λ (u : Tour). length u.objects) ahead)

          pub unreferred-deleted : UnreferredLeft words after w left (n + 1)
          unreferred-deleted =
              record {
                notes = a.notes ∙ ap (λ (ls : List ObjectLocation). noted g ls (length words)) (sym (notes_stay g h img a.at.fine there after marked));
                at = at-deleted g Data v img a.at h w then behind after marked;
                long = marked.long ∙ a.long;
                few = omega (arith, a.few, fewer, ap (λ (u : Tour). length u.objects) ahead);
                runs =
                    its ∙ delete-on g 1 n h rest fuse img after (ts ∷ n ∷ []) x y e d
                    ∙ ap (λ (ds : List ObjectHeader). run left (deleting g 1 (n + 1) ds) (both after (ts ∷ (n + 1) ∷ [])))
                    (except_same (λ o. is_referred g img o.location) (λ o. is_referred g after o.location) (λ o. sym (referred_stays g h img a.at.fine there after marked o.location)) (tour_from g Data w img).objects
                    ∙ ap (λ (u : Tour). still after u.objects) (sym ahead));
              }
