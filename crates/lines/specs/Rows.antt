-- The three lines of 01's example, and one of a cut map, computed from the definitions that the contracts cite.
use Rattle.std.specs.Prelude.{◌≡◌, refl, [], ◌∷◌, true, false, Some, Ok, Err}
use Rattle.objects.specs.declared.types.ObjectType.TheVariants.{FileData}
use Rattle.objects.specs.declared.state.ObjectDataState.TheVariants.{Untrusted, Valid}
use Rattle.objects.specs.declared.state.CompositeObjectState.TheVariants as comp
use Rattle.objects.specs.declared.header.ObjectHeader.{ObjectHeader}
use Rattle.objects.specs.Header.{payload_size_of}
use Rattle.blocks.specs.declared.header.BlockType.TheVariants.{Data}
use Rattle.blocks.specs.declared.header.BlockHeaderKind.TheVariants.{Known}
use Rattle.blocks.specs.declared.record.BlockInfo.{BlockInfo}
use Rattle.lines.specs.declared.moment.Twin.TheVariants.{At}
use Rattle.lines.specs.Digits.{digits_in, digits}
use Rattle.lines.specs.Words.{type_word, type_of, state_word, size_text, yes_no, block_type_word, kind_word}
use Rattle.lines.specs.Lines.{scan_text, block_line, object_line, reading_text, moment_line, twin_line}

-- row 1's object, and the block that it stands in
abbrev row : ObjectHeader
row = record { state = comp.Allocated FileData Valid; size = 3; location = record { block = 0; offset = 8 } }

abbrev unfinished : ObjectHeader
unfinished = record { state = comp.Allocated FileData Untrusted; size = 255; location = record { block = 2; offset = 8 } }

abbrev held : BlockInfo
held = record { header = record { kind = Known Data; erase_count = 3 }; used_bytes = 14; allow_alloc = true }

pub record Rows : Type 0 where
  -- block 0 Data 3 14 yes
  pub block : block_line 0 (Ok held) ≡ 98 ∷ 108 ∷ 111 ∷ 99 ∷ 107 ∷ 32 ∷ 48 ∷ 32 ∷ 68 ∷ 97 ∷ 116 ∷ 97 ∷ 32 ∷ 51 ∷ 32 ∷ 49 ∷ 52 ∷ 32 ∷ 121 ∷ 101 ∷ 115 ∷ 10 ∷ []
  -- object 0 8 FileData Finalized 3
  pub object : object_line 1 row ≡ 111 ∷ 98 ∷ 106 ∷ 101 ∷ 99 ∷ 116 ∷ 32 ∷ 48 ∷ 32 ∷ 56 ∷ 32 ∷ 70 ∷ 105 ∷ 108 ∷ 101 ∷ 68 ∷ 97 ∷ 116 ∷ 97 ∷ 32 ∷ 70 ∷ 105 ∷ 110 ∷ 97 ∷ 108 ∷ 105 ∷ 122 ∷ 101 ∷ 100 ∷ 32 ∷ 51 ∷ 10 ∷ []
  -- block 1 refused 1
  pub refused : block_line 1 (Err 1) ≡ 98 ∷ 108 ∷ 111 ∷ 99 ∷ 107 ∷ 32 ∷ 49 ∷ 32 ∷ 114 ∷ 101 ∷ 102 ∷ 117 ∷ 115 ∷ 101 ∷ 100 ∷ 32 ∷ 49 ∷ 10 ∷ []
  -- fuse 4 answer 8 original FileData Finalized 3 copy FileData Allocated - agree no
  pub moment :
      moment_line 1 4 8 (Ok (Some row)) (Ok (Some unfinished)) false
      ≡ 102 ∷ 117 ∷ 115 ∷ 101 ∷ 32 ∷ 52 ∷ 32 ∷ 97 ∷ 110 ∷ 115 ∷ 119 ∷ 101 ∷ 114 ∷ 32 ∷ 56 ∷ 32 ∷ 111 ∷ 114 ∷ 105 ∷ 103 ∷ 105 ∷ 110 ∷ 97 ∷ 108 ∷ 32 ∷ 70 ∷ 105 ∷ 108 ∷ 101 ∷ 68 ∷ 97 ∷ 116 ∷ 97 ∷ 32 ∷ 70 ∷ 105 ∷ 110 ∷ 97 ∷ 108 ∷ 105 ∷ 122 ∷ 101 ∷ 100 ∷ 32 ∷ 51 ∷ 32 ∷ 99 ∷ 111 ∷ 112 ∷ 121 ∷ 32 ∷ 70 ∷ 105 ∷ 108 ∷ 101 ∷ 68 ∷ 97 ∷ 116 ∷ 97 ∷ 32 ∷ 65 ∷ 108 ∷ 108 ∷ 111 ∷ 99 ∷ 97 ∷ 116 ∷ 101 ∷ 100 ∷ 32 ∷ 45 ∷ 32 ∷ 97 ∷ 103 ∷ 114 ∷ 101 ∷ 101 ∷ 32 ∷ 110 ∷ 111 ∷ 10 ∷ []
  -- twin at fuse 4294967295
  pub twin : twin_line (At 4294967295) ≡ 116 ∷ 119 ∷ 105 ∷ 110 ∷ 32 ∷ 97 ∷ 116 ∷ 32 ∷ 102 ∷ 117 ∷ 115 ∷ 101 ∷ 32 ∷ 52 ∷ 50 ∷ 57 ∷ 52 ∷ 57 ∷ 54 ∷ 55 ∷ 50 ∷ 57 ∷ 53 ∷ 10 ∷ []

pub rows : Rows
unfolding digits_in digits payload_size_of type_word type_of state_word size_text yes_no block_type_word kind_word scan_text block_line object_line reading_text moment_line twin_line
rows = record { block = refl; object = refl; refused = refl; moment = refl; twin = refl }
