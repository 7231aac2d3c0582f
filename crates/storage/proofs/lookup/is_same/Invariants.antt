use mathlib.Core.Path.{◌≡◌}
use Prim.Native.Nat.{◌+◌}
use lib.ListN.{length}
use Rattle.std.specs.Slice.Iter.{chunks_rest, chunks_size}
use Rattle.storage.specs.Lookup.{same_from}
use Rattle.storage.proofs.lookup.is_same.Given as goal

abbrev pub invariant-loop-turn : goal.invariant-loop-turn
invariant-loop-turn l =
    (chunks_size l.turn-iterator ≡ 16)
    × (l.at + length (chunks_rest l.turn-iterator) ≡ l.initial.at + length l.path)
    × (same_from (length l.path) l.g l.block l.initial.at l.path l.image ≡ same_from (length (chunks_rest l.turn-iterator)) l.g l.block l.at (chunks_rest l.turn-iterator) l.image)
