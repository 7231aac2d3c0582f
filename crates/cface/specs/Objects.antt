-- What crosses of the objects beside what crate crossing has: values with a cursor, and the bytes of a read.
use Rattle.std.specs.Prelude.{List, ℕ, ◌<◌, length}
use Rattle.medium.specs.Operation.{Answer, done, refused, and_then}
use Rattle.objects.specs.declared.reader.ObjectReader.{ObjectReader}
use Rattle.objects.specs.declared.metadata.MetadataObjectHeader.{MetadataObjectHeader}
use Rattle.objects.specs.Metadata.{Listed, location, no_more, reset_of}
use Rattle.objects.specs.Reader.{Chunk, rewound}
use Rattle.crossing.specs.Crossing.{Two, two, over_first}
use Rattle.crossing.specs.Values.{reader_of, reader_numbers, metadata_of, metadata_numbers, location_numbers}

-- ---- readers

-- the cursor fits the 32 bits of its place
abbrev pub SmallReader : Answer ObjectReader → Type 0
SmallReader (done r) = r.cursor < 4294967296
SmallReader (refused n) = Unit {0}

-- the reader that numbers say, at the start of the payload again
abbrev pub rewind_of : List ℕ → Answer ObjectReader
rewind_of ns = and_then (reader_of ns) (λ r. done (rewound r))

-- what a read hands out: the reader behind the bytes, the bytes over the first of the buffer, and how many
abbrev pub chunk_out : Chunk → Two (List ℕ) (Two (List ℕ) ℕ) → Two (List ℕ) (Two (List ℕ) ℕ)
chunk_out k old = two (reader_numbers k.reader) (two (over_first k.bytes old.second.first) (length k.bytes))

-- ---- metadata headers

abbrev pub SmallMetadata : Answer MetadataObjectHeader → Type 0
SmallMetadata (done m) = m.cursor < 4294967296
SmallMetadata (refused n) = Unit {0}

abbrev pub reset_in : List ℕ → Answer MetadataObjectHeader
reset_in ns = and_then (metadata_of ns) (λ m. done (reset_of m))

-- the next location: 1 with it and with the metadata header behind it, or 0 at the end of the list
abbrev pub SmallNext : Answer Listed → Type 0
SmallNext (done (location l m)) = m.cursor < 4294967296
SmallNext (done no_more) = Unit {0}
SmallNext (refused n) = Unit {0}

abbrev pub next_location_out : Listed → Two (List ℕ) (Two ℕ (List ℕ)) → Two (List ℕ) (Two ℕ (List ℕ))
next_location_out (location l m) old = two (metadata_numbers m) (two 1 (location_numbers l))
next_location_out no_more old = two old.first (two 0 old.second.second)
