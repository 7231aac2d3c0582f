-- How the code goes about a write: it stores the whole words of the bytes that it is given and holds the rest; a tail that is held is filled
-- up to a word first. And the tests that several calls begin with.
use Rattle.std.specs.Prelude.{ℕ, List, length, take, drop, eqb}
use Rattle.medium.specs.declared.geometry.Geometry.{Geometry}
use Rattle.medium.specs.Fuse.{Stored}
use Rattle.medium.specs.Granularity.{pick, width_of}
use Rattle.medium.specs.Geometry.{fit_of}
use Rattle.medium.specs.Operation.{Op, ◌>>=◌, ◌>>◌, give}
use Rattle.medium.specs.Medium.{write}
use Rattle.objects.specs.declared.state.ObjectDataState.{ObjectDataState}
use Rattle.objects.specs.Header.{set_state}
use Rattle.writer.specs.declared.writer.ObjectWriter.{ObjectWriter}
use Rattle.writer.specs.declared.writer.Writing.{Writing}
use Rattle.writer.specs.Writer.{spent_of, with_header, possible, data_at, whole_of, held_back}

-- a writer that no call goes on with
abbrev pub spent_by : ObjectWriter → Stored → Writing
spent_by w a = record { answer = a; writer = spent_of w }

-- the whole words of the bytes are stored, whatever is held, and the rest is held
unfoldable pub store_words : Geometry → ObjectWriter → List ℕ → Op ObjectWriter
store_words g w bs =
    let n = whole_of (width_of g.granularity) (length bs) in
    write g w.object.location.block (data_at g w) (take n bs) >> give (held_back w n (drop n bs))

-- 6, then 4 for an impossible writer, or 0
abbrev pub usable_of : ObjectWriter → Geometry → ℕ
usable_of w g = pick (eqb (fit_of g) 0) (possible g w) (fit_of g)

-- a writer whose header gets the mark of a state
abbrev pub marked : Geometry → ObjectDataState → ObjectWriter → Op ObjectWriter
marked g to w = do
  h ← set_state g w.object to
  give (with_header w h)
