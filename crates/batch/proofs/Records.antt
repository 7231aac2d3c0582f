-- One record at its turn: its range, its type, and then `write_to`.
use mathlib.Core.Path.{◌≡◌, ◌∙◌}
use mathlib.Core.List.{List}
use Prim.Native.Nat.{ℕ, ◌+◌, ◌≤◌, ◌<◌}
use lib.ListN.{length}
use borrow.Author.Tests.{lt-leb, le-leb}
use Rattle.medium.specs.declared.geometry.Geometry.{Geometry}
use Rattle.medium.specs.declared.fuse.Fuse.{Fuse}
use Rattle.medium.specs.Operation.{done, refused, run, ◌>>=◌, ask}
use Rattle.medium.specs.Medium.{part}
use Rattle.medium.proofs.Runs.{ask_on, ask_stop}
use Rattle.objects.specs.declared.types.ObjectType.{ObjectType}
use Rattle.objects.specs.Types.{object_type_of}
use Rattle.writer.specs.Writer.{write_to}
use Rattle.batch.specs.declared.record.Record.{Record}
use Rattle.batch.specs.Batch.{lent_to, place_of, write_record}

-- a range within the buffer, and one that is not
pub lent_is : (r : Record) (buffer : List ℕ) → r.start + r.length ≤ length buffer → lent_to r buffer ≡ done (part r.start r.length buffer)
unfolding lent_to
lent_is r buffer h = rw (le-leb _ _ h)

lent_none : (r : Record) (buffer : List ℕ) → length buffer < r.start + r.length → lent_to r buffer ≡ refused 7
unfolding lent_to
lent_none r buffer h = rw (lt-leb _ _ h)

module _ (g : Geometry) (b : ℕ) (payload : List ℕ) (r : Record) (f : Fuse) (img : List ℕ) where
  pub range_stop : length payload < r.start + r.length → run f (write_record g b payload r) img ≡ record { answer = refused 7; fuse = f; state = img }
  unfolding write_record
  range_stop h = ask_stop f (λ _. lent_to r payload) _ img (lent_none r payload h)

  module _ (h : r.start + r.length ≤ length payload) where
    abbrev src : List ℕ
    src = part r.start r.length payload

    pub in_range : run f (write_record g b payload r) img ≡ run f (ask (λ _. object_type_of r.kind) >>= λ t. write_to g (place_of b r) t src) img
    unfolding write_record
    in_range = ask_on f (λ _. lent_to r payload) _ img (lent_is r payload h)

    pub written-by : {t : ObjectType} → object_type_of r.kind ≡ done t → run f (write_record g b payload r) img ≡ run f (write_to g (place_of b r) t src) img
    written-by e = in_range ∙ ask_on f (λ _. object_type_of r.kind) (λ t. write_to g (place_of b r) t src) img e
