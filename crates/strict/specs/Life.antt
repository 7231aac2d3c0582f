-- A block's life at its free end: formatted, given a type, objects written one behind the other, and each deleted. With the strict mark as without
-- it every step is done, so none meets 10.
use Rattle.std.specs.Prelude.{◌≡◌, List, [], ◌∷◌, ℕ, ◌+◌, ◌≤◌, ◌<◌, length, get_or}
use Rattle.medium.specs.declared.geometry.Geometry.{Geometry}
use Rattle.medium.specs.declared.fuse.Fuse.{Fuse}
use Rattle.medium.specs.All.{All}
use Rattle.medium.specs.Granularity.{block_header}
use Rattle.medium.specs.Operation.{done, refused, Op, ◌>>=◌, ◌>>◌, ask, give, run}
use Rattle.objects.specs.declared.types.ObjectType.{ObjectType}
use Rattle.objects.specs.declared.state.ObjectState.TheVariants.{Deleted}
use Rattle.objects.specs.declared.location.ObjectLocation.{ObjectLocation}
use Rattle.objects.specs.Header.{header_at, update_state}
use Rattle.writer.specs.Writer.{write_to}
use Rattle.blocks.specs.declared.header.BlockType.{BlockType}
use Rattle.blocks.specs.Format.{Planned, plan_at, format_block, set_block_type}
use Rattle.fresh.specs.Units.{span}

-- an object to write: its type and payload
pub record Entry : Type 0 where
  pub kind : ObjectType
  pub payload : List ℕ

abbrev pub at : ℕ → ℕ → ObjectLocation
at b o = record { block = b; offset = o }

-- the first at offset o, each next one where the one before it ends; then they are deleted, the last one first
unfoldable pub lived : Geometry → ℕ → ℕ → List Entry → Op (Unit {0})
lived g b o [] = give tt
lived g b o (e ∷ es) = do
  write_to g (at b o) e.kind e.payload
  lived g b (o + span g.granularity g.s (length e.payload)) es
  h ← ask (header_at g (at b o))
  update_state g h Deleted
  give tt

unfoldable pub life : Geometry → ℕ → BlockType → List Entry → Op (Unit {0})
life g b t es = do
  format_block g b
  set_block_type g b t
  lived g b (block_header g.granularity) es

-- the offset behind them all
abbrev pub end_of : Geometry → ℕ → List Entry → ℕ
end_of g o [] = o
end_of g o (e ∷ es) = end_of g (o + span g.granularity g.s (length e.payload)) es

-- what is given: an image of bytes, a block that can be formatted, and payloads of bytes that fit behind its header
pub record Begins (g : Geometry) (b : ℕ) (es : List Entry) (img : List ℕ) : Type 0 where
  pub bytes : (j : ℕ) → get_or img j 0 < 256
  pub plan : Planned
  pub planned : plan_at g b img ≡ done plan
  pub fits : end_of g (block_header g.granularity) es ≤ g.size
  pub payloads : All (λ e. (i : ℕ) → i < length e.payload → get_or e.payload i 0 < 256) es

pub record Lives (g : Geometry) (b : ℕ) (t : BlockType) (es : List Entry) (img : List ℕ) : Type 0 where
  pub with_power : (life g b t es img).answer ≡ done tt
  pub never_ten : (f : Fuse) → (run f (life g b t es) img).answer ≡ refused 10 → ⊥

unfoldable pub Life : Type 0
Life = (g : Geometry) (b : ℕ) (t : BlockType) (es : List Entry) (img : List ℕ) → Begins g b es img → Lives g b t es img
