-- The lines. What the inspector prints of a block: "kind, erase count, used bytes, allocation yes or no"; of an object: "block, offset, type, state, payload size or `-` if unset". Refusals: "refused" and 01's
-- number. What a move under a fuse leaves: fuse, answer, original, copy, and whether they agree.
use Rattle.std.specs.Prelude.{ℕ, List, [], ◌∷◌, ◌++◌, Bool, Option, Some, None, Result, Ok, Err}
use Rattle.objects.specs.declared.header.ObjectHeader.{ObjectHeader}
use Rattle.objects.specs.declared.state.ObjectState.TheVariants.{Free}
use Rattle.objects.specs.Types.{state_of}
use Rattle.objects.specs.Header.{payload_size_of}
use Rattle.blocks.specs.declared.record.BlockInfo.{BlockInfo}
use Rattle.lines.specs.declared.moment.Twin.{Twin}
use Rattle.lines.specs.declared.moment.Twin.TheVariants as twin
use Rattle.lines.specs.Digits.{digits}
use Rattle.lines.specs.Words.{field, type_of, state_word, size_text, yes_no, kind_word}

abbrev pub newline : List ℕ
newline = 10 ∷ []

-- ---- refusals

-- "refused"
abbrev pub refused_word : List ℕ
refused_word = 114 ∷ 101 ∷ 102 ∷ 117 ∷ 115 ∷ 101 ∷ 100 ∷ []

abbrev pub refusal_text : ℕ → List ℕ
refusal_text k = field refused_word ++ field (digits k)

unfoldable pub refusal_line : ℕ → List ℕ
refusal_line k = refused_word ++ field (digits k) ++ newline

-- ---- a block

-- "block"
abbrev pub block_word : List ℕ
block_word = 98 ∷ 108 ∷ 111 ∷ 99 ∷ 107 ∷ []

abbrev pub record_text : BlockInfo → List ℕ
record_text r =
    field (kind_word r.header.kind) ++ field (digits r.header.erase_count) ++ field (digits r.used_bytes)
    ++ field (yes_no r.allow_alloc)

-- "Refused blocks print that line alone"
unfoldable pub scan_text : Result BlockInfo ℕ → List ℕ
scan_text (Ok r) = record_text r
scan_text (Err k) = refusal_text k

unfoldable pub block_line : ℕ → Result BlockInfo ℕ → List ℕ
block_line b r = block_word ++ field (digits b) ++ scan_text r ++ newline

-- ---- an object

-- "object"
abbrev pub object_word : List ℕ
object_word = 111 ∷ 98 ∷ 106 ∷ 101 ∷ 99 ∷ 116 ∷ []

abbrev pub header_text : ℕ → ObjectHeader → List ℕ
header_text s h = field (type_of h.state) ++ field (state_word (state_of h.state)) ++ field (size_text (payload_size_of s h))

abbrev pub place_text : ObjectHeader → List ℕ
place_text h = field (digits h.location.block) ++ field (digits h.location.offset)

unfoldable pub object_line : ℕ → ObjectHeader → List ℕ
object_line s h = object_word ++ place_text h ++ header_text s h ++ newline

-- ---- a moment of a move

-- "fuse"
abbrev pub fuse_word : List ℕ
fuse_word = 102 ∷ 117 ∷ 115 ∷ 101 ∷ []

-- "answer"
abbrev pub answer_word : List ℕ
answer_word = 97 ∷ 110 ∷ 115 ∷ 119 ∷ 101 ∷ 114 ∷ []

-- "original"
abbrev pub original_word : List ℕ
original_word = 111 ∷ 114 ∷ 105 ∷ 103 ∷ 105 ∷ 110 ∷ 97 ∷ 108 ∷ []

-- "copy"
abbrev pub copy_word : List ℕ
copy_word = 99 ∷ 111 ∷ 112 ∷ 121 ∷ []

-- "agree"
abbrev pub agree_word : List ℕ
agree_word = 97 ∷ 103 ∷ 114 ∷ 101 ∷ 101 ∷ []

abbrev pub Seen : Type 0
Seen = Result (Option ObjectHeader) ℕ

unfoldable pub reading_text : ℕ → Seen → List ℕ
reading_text s (Ok (Some h)) = header_text s h
reading_text s (Ok None) = field (state_word Free)
reading_text s (Err k) = refusal_text k

abbrev pub call_text : ℕ → ℕ → List ℕ
call_text fuse answer = fuse_word ++ field (digits fuse) ++ field answer_word ++ field (digits answer)

abbrev pub pair_text : ℕ → Seen → Seen → List ℕ
pair_text s original copy = field original_word ++ reading_text s original ++ field copy_word ++ reading_text s copy

abbrev pub agree_text : Bool → List ℕ
agree_text agree = field agree_word ++ field (yes_no agree) ++ newline

unfoldable pub moment_line : ℕ → ℕ → ℕ → Seen → Seen → Bool → List ℕ
moment_line s fuse answer original copy agree = call_text fuse answer ++ pair_text s original copy ++ agree_text agree

-- ---- the moment of the twin

-- "no twin" and a line end
abbrev pub no_twin : List ℕ
no_twin = 110 ∷ 111 ∷ 32 ∷ 116 ∷ 119 ∷ 105 ∷ 110 ∷ 10 ∷ []

-- "twin at fuse"
abbrev pub twin_at : List ℕ
twin_at = 116 ∷ 119 ∷ 105 ∷ 110 ∷ 32 ∷ 97 ∷ 116 ∷ 32 ∷ 102 ∷ 117 ∷ 115 ∷ 101 ∷ []

-- "twin from fuse"
abbrev pub twin_from : List ℕ
twin_from = 116 ∷ 119 ∷ 105 ∷ 110 ∷ 32 ∷ 102 ∷ 114 ∷ 111 ∷ 109 ∷ 32 ∷ 102 ∷ 117 ∷ 115 ∷ 101 ∷ []

-- "to"
abbrev pub to_word : List ℕ
to_word = 116 ∷ 111 ∷ []

unfoldable pub twin_span : ℕ → ℕ → List ℕ
twin_span a b = twin_from ++ field (digits a) ++ field to_word ++ field (digits b) ++ newline

unfoldable pub twin_line : Twin → List ℕ
twin_line twin.Never = no_twin
twin_line (twin.At n) = twin_at ++ field (digits n) ++ newline
twin_line (twin.From a b) = twin_span a b
