-- What is found reads as the file did: the list of its data objects is in the payload, and they lie in blocks that are as they were.
use mathlib.Core.Path.{◌≡◌, refl, sym, ap, ◌∙◌}
use mathlib.Core.Logic.{◌⊎◌, inl, inr}
use mathlib.Core.List.{List, [], ◌∷◌}
use Prim.Native.Nat.{ℕ, ◌+◌, ◌-◌, ◌/◌, ◌≤◌, ◌<◌}
use native.Mathlib.Nat.{mod-add-div'}
use native.Mathlib.Omega.{arith}
use lib.ListN.{length}
use Rattle.medium.specs.declared.geometry.Geometry.{Geometry}
use Rattle.medium.specs.declared.fuse.Fuse.TheVariants.{Units}
use Rattle.medium.specs.Geometry.{check_of}
use Rattle.medium.specs.Operation.{Answer, done, run}
use Rattle.objects.specs.declared.types.ObjectType.{ObjectType}
use Rattle.objects.specs.declared.location.ObjectLocation.{ObjectLocation}
use Rattle.objects.specs.declared.header.ObjectHeader.{ObjectHeader}
use Rattle.objects.specs.declared.metadata.MetadataObjectHeader.{MetadataObjectHeader}
use Rattle.objects.specs.Header.{payload_of}
use Rattle.objects.specs.Info.{total_of}
use Rattle.objects.specs.Location.{location_length}
use Rattle.objects.specs.Metadata.{metadata_header}
use Rattle.moving.specs.Moving.{move_object}
use Rattle.storage.specs.File.{Places, places_of, gather_at, read_file}
use Rattle.storage.specs.Laws.{All}
use Rattle.powercut.specs.Demand.{Whole, payload_in, copy_of, Movable, units_to, Framed, Survives, Demand}
use Rattle.powercut.specs.Again.{left_by}
use Rattle.byname.specs.Street.{Outside, Contents, SameFile, ReadsTheSame}
use Rattle.medium.proofs.Checks.{fine_of_check}
use Rattle.medium.proofs.Runs.{leb_is}
use Rattle.powercut.proofs.Survive.{demand}
use Rattle.shown.proofs.Agreeing.{Agree}
use Rattle.byname.proofs.Agreed.{gather_same}
use Rattle.byname.proofs.Payloads.{Shape, metadata_in, metadata_of_lem, file_of, places_same}
use Rattle.byname.proofs.Kept.{whole_img, block-agrees}

total_most : (g : Geometry) (h : ObjectHeader) → payload_of g.s h ≤ total_of g.granularity g.s h
unfolding total_of
total_most g h = omega arith

module _ (g : Geometry) (h : ObjectHeader) (to : ObjectLocation) (room : ℕ) (t : ObjectType) (img : List ℕ) (v : Movable g h to room t img) (c : Contents g h to img) where
  abbrev pay : List ℕ
  pay = payload_in g h img

  wi : Whole g h t (payload_in g h img) img
  wi = whole_img g h to room t img v

  long : metadata_header g ≤ length (payload_in g h img)
  long = omega (arith, c.long, wi.size)

  shape : Shape g (payload_in g h img)
  shape =
      let d = mod-add-div' (payload_of g.s h - metadata_header g) (location_length g) in
      record {
        locations = (payload_of g.s h - metadata_header g) / location_length g;
        long = omega (arith, wi.size, c.long, c.whole, d);
        short = omega (arith, wi.size, v.whole, (fine_of_check g (length img) (check_of g (length img)) refl v.fine).sound.small, total_most g h);
      }

  -- the list is that of the metadata that was read
  listed : places_of g c.metadata img ≡ places_of g (metadata_in g h t pay img wi 0) img
  listed = ap (λ (m : MetadataObjectHeader). places_of g m img) (same c.metadata (metadata_in g h t pay img wi 0) (sym c.opens ∙ metadata_of_lem g h t pay img wi long))
    where
      same : (a b : MetadataObjectHeader) → ◌≡◌ {A = Answer MetadataObjectHeader} (done a) (done b) → a ≡ b
      same a b e = cc

  module _ (m : List ℕ) (fr : Framed g h to img m) where
    fine : check_of g (length m) ≡ 0
    fine = ap (check_of g) fr.long ∙ v.fine

    apart : (ls : List ObjectLocation) → All (Outside h to) ls → All (λ l. Agree g l.block 0 g.size img m) ls
    apart [] a = tt
    apart (l ∷ ls) a = (block-agrees g h to room t img v m fr l.block a.0.0 a.0.1, apart ls a.1)

    reads : (o : ObjectHeader) → Whole g o t pay m → (p n : ℕ) → read_file g o.location p n m ≡ read_file g h.location p n img
    reads o w p n =
        file_of g o t pay m w p n long
        ∙ ap (λ (x : Places). gather_at g x p n m) (places_same g t pay shape o m w fine h img wi v.fine ∙ sym listed)
        ∙ gather_same g img m (places_of g c.metadata img).at (places_of g c.metadata img).end (apart (places_of g c.metadata img).at c.outside) p n
        ∙ ap (λ (x : Places). gather_at g x p n img) listed ∙ sym (file_of g h t pay img wi p n long)

  survives : (k : ℕ) → Survives g h to t (payload_in g h img) img k (run (Units k) (move_object g h to) img)
  unfolding Demand
  survives k = (demand g h to room t img v).1 k

  same_file : (k : ℕ) → SameFile g h to img k
  same_file k =
      record {
        original = λ le p n. reads (left_by g h to img k) (survives k).framed h (original k le) p n;
        copy = λ le p n. reads (left_by g h to img k) (survives k).framed (copy_of g h to) (copied k le) p n;
      }
    where
      original : (k : ℕ) → k ≤ units_to g h + 1 → Whole g h t (payload_in g h img) (left_by g h to img k)
      original k le = go (leb_is k (units_to g h))
        where
          go : (k ≤ units_to g h) ⊎ (units_to g h < k) → Whole g h t (payload_in g h img) (left_by g h to img k)
          go (inl a) = ((survives k).before_mark a).0
          go (inr a) = ((survives k).between_marks (omega arith)).0

      copied : (k : ℕ) → units_to g h + 1 ≤ k → Whole g (copy_of g h to) t (payload_in g h img) (left_by g h to img k)
      copied k le = go (leb_is (units_to g h + 2) k)
        where
          go : (units_to g h + 2 ≤ k) ⊎ (k < units_to g h + 2) → Whole g (copy_of g h to) t (payload_in g h img) (left_by g h to img k)
          go (inl a) = ((survives k).after_marks a).1
          go (inr a) = ((survives k).between_marks (omega arith)).1

pub reads_the_same : ReadsTheSame
unfolding ReadsTheSame
reads_the_same g h to room t img v c k = same_file g h to room t img v c k
