-- How far an object has come, by its state and by the state that its header holds.
use mathlib.Core.Path.{◌≡◌, refl}
use Rattle.objects.specs.declared.state.ObjectDataState.TheVariants as mark
use Rattle.objects.specs.declared.state.CompositeObjectState.{CompositeObjectState}
use Rattle.objects.specs.declared.state.CompositeObjectState.TheVariants as comp
use Rattle.objects.specs.Types.{rank_of, rank_in, state_of}

pub rank_state : (st : CompositeObjectState) → rank_in (state_of st) ≡ rank_of st
rank_state comp.Free = refl
rank_state (comp.Allocated t mark.Untrusted) = refl
rank_state (comp.Allocated t mark.Valid) = refl
rank_state (comp.Allocated t mark.Deleted) = refl
