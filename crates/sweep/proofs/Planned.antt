-- A sweep stores the marks of its plan, in order, as many as the fuse lets pass.
use mathlib.Core.Path.{◌≡◌, refl, sym, ap, ◌∙◌, subst}
use mathlib.Core.Logic.{◌⊎◌, inl, inr}
use mathlib.Core.Bool.{Bool, true, false}
use mathlib.Core.List.{List, [], ◌∷◌, ◌++◌, append-nil}
use Prim.Native.Nat.{ℕ, zero, suc, ◌+◌, ◌*◌, ◌<◌}
use native.Mathlib.Nat.{suc-mul}
use native.Mathlib.Omega.{arith}
use lib.ListN.{length, drop, take-append-drop}
use Rattle.medium.specs.declared.geometry.Geometry.{Geometry}
use Rattle.medium.specs.declared.fuse.Fuse.{Fuse}
use Rattle.medium.specs.declared.fuse.Fuse.TheVariants.{Absent, Units}
use Rattle.medium.specs.Granularity.{pick, width_of, units_in, delete_at}
use Rattle.medium.specs.Geometry.{check_of, address}
use Rattle.medium.specs.Operation.{apply, Answer, EndIn, next_by, run}
use Rattle.medium.specs.Beside.{Both, both}
use Rattle.medium.proofs.Runs.{run_bind}
use Rattle.medium.proofs.Bytes.{length_units, length-apply}
use Rattle.medium.proofs.Places.{laid}
use Rattle.medium.proofs.Checks.{fine_of_check}
use Rattle.objects.specs.declared.header.ObjectHeader.{ObjectHeader}
use Rattle.blocks.specs.declared.header.BlockType.{BlockType}
use Rattle.blocks.specs.declared.header.BlockType.TheVariants.{Metadata, Data}
use Rattle.storage.specs.Laws.{All}
use Rattle.sweep.specs.Lists.{some, except}
use Rattle.sweep.specs.Referring.{metadata_in, data_in}
use Rattle.sweep.specs.Twins.{is_twin, twins_in, twins, is_referred, unreferred}
use Rattle.sweep.specs.Sweep.{deleting, deleting_twins, deleting_unreferred, sweep}
use Rattle.sweep.specs.Laws.{plan}
use Rattle.sweep.proofs.Lists.{all_map}
use Rattle.sweep.proofs.Marks.{Listed, mark_units, gone_of, delete_ran}
use Rattle.sweep.proofs.Toured.{all_listed}
use Rattle.sweep.proofs.Turns.{twins_start, unreferred_start, sweep-on}
use Rattle.sweep.proofs.Ready.{Ready, ready_ok}
use Rattle.sweep.proofs.Marking.{marking, marking_append, passing, Deletable, AllPass, SomePass, deleting_run}
use Rattle.sweep.proofs.Chain.{behind_twins}

-- ---- what is in the plan can be deleted

pub marking_long : (g : Geometry) (hs : List ObjectHeader) (img : List ℕ) → length (marking g hs img) ≡ length img
marking_long g [] img = refl
marking_long g (h ∷ hs) img = marking_long g hs (apply (mark_units g h) img) ∙ length-apply (mark_units g h) img

pub deletable : (g : Geometry) (t : BlockType) (img : List ℕ) → check_of g (length img) ≡ 0 → (g.strict ≡ 1 → ⊥) → (h : ObjectHeader) → Listed g t h img → Deletable g (length img) h
deletable g t img fine plain h l =
    record {
      gone = gone_of h l.type;
      stores = delete_ran g t h img fine l plain;
      one =
          length_units (width_of g.granularity) (address g h.location.block (h.location.offset + delete_at g.granularity)) (0 ∷ [])
          ∙ one_unit (width_of g.granularity) (units_in (width_of g.granularity) 1) (laid g.granularity g.s 0 (fine_of_check g (length img) (check_of g (length img)) refl fine).sound.s_most).pos
          (laid g.granularity g.s 0 (fine_of_check g (length img) (check_of g (length img)) refl fine).sound.s_most).one;
    }
  where
    one_unit : (w u : ℕ) → 0 < w → u * w ≡ w → u ≡ 1
    one_unit w zero h e = absurd (omega arith)
    one_unit w (suc zero) h e = refl
    one_unit w (suc (suc u)) h e = absurd (omega (arith, suc-mul (suc u) w, suc-mul u w))

pub all_twins : (P : ObjectHeader → Type 0) (like : ObjectHeader → ObjectHeader → Bool) (bs hs : List ObjectHeader) → All P hs → All P (twins_in like bs hs)
all_twins P like bs [] a = tt
all_twins P like bs (h ∷ hs) a = go (some (like h) bs) (all_twins P like (bs ++ h ∷ []) hs a.1)
  where
    go : (b : Bool) → All P (twins_in like (bs ++ h ∷ []) hs) → All P (pick b (h ∷ twins_in like (bs ++ h ∷ []) hs) (twins_in like (bs ++ h ∷ []) hs))
    go true r = (a.0, r)
    go false r = r

all_except : (P : ObjectHeader → Type 0) (p : ObjectHeader → Bool) (hs : List ObjectHeader) → All P hs → All P (except p hs)
all_except P p [] a = tt
all_except P p (h ∷ hs) a = go (p h) (all_except P p hs a.1)
  where
    go : (b : Bool) → All P (except p hs) → All P (pick b (except p hs) (h ∷ except p hs))
    go true r = r
    go false r = (a.0, r)

module _ (g : Geometry) (img : List ℕ) (fine : check_of g (length img) ≡ 0) (plain : g.strict ≡ 1 → ⊥) where
  twins_deletable : All (Deletable g (length img)) (twins g img)
  unfolding twins
  twins_deletable =
      all_map (λ h. Listed g Metadata h img) (Deletable g (length img)) (deletable g Metadata img fine plain) (twins_in (is_twin g img) [] (metadata_in g img))
      (all_twins (λ h. Listed g Metadata h img) (is_twin g img) [] (metadata_in g img) (all_listed g Metadata img))

  unreferred_deletable : All (Deletable g (length img)) (unreferred g img)
  unfolding unreferred
  unreferred_deletable =
      all_map (λ h. Listed g Data h img) (Deletable g (length img)) (deletable g Data img fine plain) (except (λ d. is_referred g img d.location) (data_in g img))
      (all_except (λ h. Listed g Data h img) (λ d. is_referred g img d.location) (data_in g img) (all_listed g Data img))

-- ---- the plan is what is stored

pub passing_none : (f : Fuse) → passing f [] ≡ []
passing_none Absent = refl
passing_none (Units zero) = refl
passing_none (Units (suc k)) = refl

all_passing : (f : Fuse) (hs : List ObjectHeader) (g : Geometry) (img : List ℕ) (e : EndIn Both (Unit {0})) → AllPass f hs g img e → passing f hs ≡ hs
all_passing f hs g img e p =
    ap (passing f) (sym (append-nil hs)) ∙ p.2 [] ∙ ap (λ (l : List ObjectHeader). hs ++ l) (passing_none e.fuse) ∙ append-nil hs

-- what does not pass
abbrev pub behind : Fuse → List ObjectHeader → List ObjectHeader
behind Absent hs = []
behind (Units k) hs = drop k hs

pub passing_split : (f : Fuse) (hs : List ObjectHeader) → hs ≡ passing f hs ++ behind f hs
passing_split Absent hs = sym (append-nil hs)
passing_split (Units k) hs = sym (take-append-drop k hs)

module _ (f : Fuse) (g : Geometry) (img t : List ℕ) (r : Ready g img) where
  abbrev first : EndIn Both (Unit {0})
  first = run f (deleting_twins g) (both img t)

  first_pass : AllPass f (twins g img) g img first ⊎ SomePass f (twins g img) g img first
  first_pass =
      subst (λ (e : EndIn Both (Unit {0})). AllPass f (twins g img) g img e ⊎ SomePass f (twins g img) g img e) (sym (twins_start g f img t))
      (deleting_run g 0 (twins g img) f 0 img t (twins_deletable g img r.fine r.plain))

  whole_is : run f (sweep g) (both img t) ≡ next_by first.answer first.fuse first.state (λ _ left s. run left (deleting_unreferred g) s)
  whole_is = sweep-on g f img t (ready_ok g img r) ∙ run_bind f (deleting_twins g) (λ _. deleting_unreferred g) (both img t)

  pub planned : (run f (sweep g) (both img t)).state.image ≡ marking g (passing f (plan g img)) img
  planned = ap (λ (e : EndIn Both (Unit {0})). e.state.image) whole_is ∙ go first_pass
    where
      after : EndIn Both (Unit {0})
      after = next_by first.answer first.fuse first.state (λ _ left s. run left (deleting_unreferred g) s)

      second : AllPass f (twins g img) g img first → (run first.fuse (deleting_unreferred g) first.state).state.image ≡ marking g (passing first.fuse (unreferred g img)) first.state.image
      second p =
          ap (λ (e : EndIn Both (Unit {0})). e.state.image) (unreferred_start g first.fuse first.state.image first.state.table)
          ∙ ap (λ (us : List ObjectHeader). (run first.fuse (deleting g 1 0 us) (both first.state.image first.state.table)).state.image) same
          ∙ ends (deleting_run g 1 (unreferred g img) first.fuse 0 first.state.image first.state.table (subst (λ (n : ℕ). All (Deletable g n) (unreferred g img)) (sym long) (unreferred_deletable g img r.fine r.plain)))
        where
          long : length first.state.image ≡ length img
          long = ap (λ (m : List ℕ). length m) p.1 ∙ marking_long g (twins g img) img

          same : unreferred g first.state.image ≡ unreferred g img
          same = ap (unreferred g) p.1 ∙ (behind_twins g (twins g img) [] img r (sym (append-nil (twins g img)))).1.unreferred_are

          ends : AllPass first.fuse (unreferred g img) g first.state.image (run first.fuse (deleting g 1 0 (unreferred g img)) (both first.state.image first.state.table))
              ⊎ SomePass first.fuse (unreferred g img) g first.state.image (run first.fuse (deleting g 1 0 (unreferred g img)) (both first.state.image first.state.table))
              → (run first.fuse (deleting g 1 0 (unreferred g img)) (both first.state.image first.state.table)).state.image ≡ marking g (passing first.fuse (unreferred g img)) first.state.image
          ends (inl q) =
              q.1 ∙ ap (λ (l : List ObjectHeader). marking g l first.state.image)
              (sym (all_passing first.fuse (unreferred g img) g first.state.image (run first.fuse (deleting g 1 0 (unreferred g img)) (both first.state.image first.state.table)) q))
          ends (inr q) = q.1

      go : AllPass f (twins g img) g img first ⊎ SomePass f (twins g img) g img first → after.state.image ≡ marking g (passing f (plan g img)) img
      go (inl p) =
          ap (λ (a : Answer (Unit {0})). (next_by a first.fuse first.state (λ _ left s. run left (deleting_unreferred g) s)).state.image) p.0
          ∙ second p ∙ ap (marking g (passing first.fuse (unreferred g img))) p.1
          ∙ sym (marking_append g (twins g img) (passing first.fuse (unreferred g img)) img)
          ∙ ap (λ (l : List ObjectHeader). marking g l img) (sym (p.2 (unreferred g img)))
      go (inr p) =
          ap (λ (a : Answer (Unit {0})). (next_by a first.fuse first.state (λ _ left s. run left (deleting_unreferred g) s)).state.image) p.0
          ∙ p.1 ∙ ap (λ (l : List ObjectHeader). marking g l img) (sym (p.2 (unreferred g img)))
