-- Whether two objects agree: the same type, and payloads that can both be read and are the same.
use Rattle.std.specs.Prelude.{ℕ, List, Bool, false, ◌&&◌, eqb}
use Rattle.medium.specs.declared.geometry.Geometry.{Geometry}
use Rattle.medium.specs.Operation.{Answer, done, refused}
use Rattle.objects.specs.declared.header.ObjectHeader.{ObjectHeader}
use Rattle.objects.specs.Types.{type_number}
use Rattle.objects.specs.Info.{Info, found, none}
use Rattle.objects.specs.Payload.{same_payload}

unfoldable pub alike : Geometry → ObjectHeader → ObjectHeader → List ℕ → Bool
alike g a b img = eqb (type_number a.state) (type_number b.state) && same_payload g a b img

unfoldable pub agree_of : Geometry → Answer Info → Answer Info → List ℕ → Bool
agree_of g (done (found a)) (done (found b)) img = alike g a b img
agree_of g (done (found a)) (done none) img = false
agree_of g (done (found a)) (refused n) img = false
agree_of g (done none) b img = false
agree_of g (refused n) b img = false
