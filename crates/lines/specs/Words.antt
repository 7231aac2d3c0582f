-- The words of the lines. A field begins with a space.
use Rattle.std.specs.Prelude.{ℕ, List, [], ◌∷◌, Bool, true, false, Option, Some, None}
use Rattle.objects.specs.declared.types.ObjectType.{ObjectType}
use Rattle.objects.specs.declared.types.ObjectType.TheVariants.{FileMetadata, FileData, FileName}
use Rattle.objects.specs.declared.state.ObjectState.{ObjectState}
use Rattle.objects.specs.declared.state.ObjectState.TheVariants.{Free, Allocated, Finalized, Deleted}
use Rattle.objects.specs.declared.state.CompositeObjectState.{CompositeObjectState}
use Rattle.objects.specs.declared.state.CompositeObjectState.TheVariants as comp
use Rattle.blocks.specs.declared.header.BlockType.{BlockType}
use Rattle.blocks.specs.declared.header.BlockType.TheVariants.{Metadata, Data, Undefined}
use Rattle.blocks.specs.declared.header.BlockHeaderKind.{BlockHeaderKind}
use Rattle.blocks.specs.declared.header.BlockHeaderKind.TheVariants as kind
use Rattle.lines.specs.Digits.{digits}

-- a field: a space and then a text
abbrev pub field : List ℕ → List ℕ
field text = 32 ∷ text

-- "-" stands for what is not there
abbrev pub nothing : List ℕ
nothing = 45 ∷ []

unfoldable pub type_word : ObjectType → List ℕ
type_word FileMetadata = 70 ∷ 105 ∷ 108 ∷ 101 ∷ 77 ∷ 101 ∷ 116 ∷ 97 ∷ 100 ∷ 97 ∷ 116 ∷ 97 ∷ []  -- FileMetadata
type_word FileData = 70 ∷ 105 ∷ 108 ∷ 101 ∷ 68 ∷ 97 ∷ 116 ∷ 97 ∷ []  -- FileData
type_word FileName = 70 ∷ 105 ∷ 108 ∷ 101 ∷ 78 ∷ 97 ∷ 109 ∷ 101 ∷ []  -- FileName

-- of an object that is there
unfoldable pub type_of : CompositeObjectState → List ℕ
type_of comp.Free = nothing
type_of (comp.Allocated t d) = type_word t

unfoldable pub state_word : ObjectState → List ℕ
state_word Free = 70 ∷ 114 ∷ 101 ∷ 101 ∷ []  -- Free
state_word Allocated = 65 ∷ 108 ∷ 108 ∷ 111 ∷ 99 ∷ 97 ∷ 116 ∷ 101 ∷ 100 ∷ []  -- Allocated
state_word Finalized = 70 ∷ 105 ∷ 110 ∷ 97 ∷ 108 ∷ 105 ∷ 122 ∷ 101 ∷ 100 ∷ []  -- Finalized
state_word Deleted = 68 ∷ 101 ∷ 108 ∷ 101 ∷ 116 ∷ 101 ∷ 100 ∷ []  -- Deleted

-- "payload size or `-` if unset"
unfoldable pub size_text : Option ℕ → List ℕ
size_text (Some n) = digits n
size_text None = nothing

unfoldable pub yes_no : Bool → List ℕ
yes_no true = 121 ∷ 101 ∷ 115 ∷ []  -- yes
yes_no false = 110 ∷ 111 ∷ []  -- no

unfoldable pub block_type_word : BlockType → List ℕ
block_type_word Metadata = 77 ∷ 101 ∷ 116 ∷ 97 ∷ 100 ∷ 97 ∷ 116 ∷ 97 ∷ []  -- Metadata
block_type_word Data = 68 ∷ 97 ∷ 116 ∷ 97 ∷ []  -- Data
block_type_word Undefined = 85 ∷ 110 ∷ 100 ∷ 101 ∷ 102 ∷ 105 ∷ 110 ∷ 101 ∷ 100 ∷ []  -- Undefined

unfoldable pub kind_word : BlockHeaderKind → List ℕ
kind_word kind.Empty = 69 ∷ 109 ∷ 112 ∷ 116 ∷ 121 ∷ []  -- Empty
kind_word kind.Unknown = 85 ∷ 110 ∷ 107 ∷ 110 ∷ 111 ∷ 119 ∷ 110 ∷ []  -- Unknown
kind_word (kind.Known t) = block_type_word t
