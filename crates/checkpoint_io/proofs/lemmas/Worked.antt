-- The worked log is proved from its parts.
use Rattle.std.proofs.Common.{ℕ, ◌≤◌, lit<, lit≤, List, [], ◌∷◌, ◌++◌, refl, inl, arith}
use Rattle.std.specs.Hash.{le_bytes}
use Rattle.nibble_pack.specs.Packing.{small}
use Rattle.nibble_pack.proofs.lemmas.PackingLaws.{IsLeastCount-zero, IsLeastCount-suc}
use Rattle.log_dictionary.specs.declared.clock.Clock.{Clock}
use Rattle.log_dictionary.specs.declared.message.Message.{Message}
use Rattle.log_dictionary.specs.BinaryEntries.{SpellsEntry}
use Rattle.log_dictionary.proofs.lemmas.BinaryWorked.{formed}
use Rattle.buffer_extent.specs.Bodies.{SpellsRecord}
use Rattle.arg_records.specs.Calls.{IsCall}
use Rattle.checkpoint_io.specs.Blocks.{Fragment, Close, SpellsFragment, SpellsExtent, FileOf}
use Rattle.checkpoint_io.specs.Validity.{Valid}
use Rattle.checkpoint_io.specs.Logs.{StandsInFront, IsLaidOut, ends, extent, close, LogOf}
use Rattle.checkpoint_io.specs.Rows.{row_record, row_header, row_blocks, row_entry_bytes, row_fragment_bytes, row_body, row_extent_bytes, row_bytes, full_record, late_fragments, call_at}
use Rattle.arg_records.specs.Rows.{full_message}
use Rattle.log_dictionary.specs.Rows.{row_message}

-- ---- the message

entry_spelled : SpellsEntry row_entry_bytes row_message
unfolding le_bytes
entry_spelled = record { spelled = refl; line_fits = lit< tt; formed = formed }

pub fragment_spelled : SpellsFragment 0 (row_message ∷ []) row_fragment_bytes
unfolding le_bytes
fragment_spelled = record {
  entries = row_entry_bytes;
  some = lit≤ tt;
  few = lit≤ tt;
  first_fits = lit< tt;
  entries_spelled = (row_entry_bytes, [], refl, entry_spelled, refl);
  joined = refl;
}

-- ---- the record

record_spelled : SpellsRecord (row_message ∷ []) 1000 row_record row_body
record_spelled = record {
  message = row_message;
  known = refl;
  spelled = record {
    id_number = record { code = 0; bytes = [] };
    step_number = record { code = 1; bytes = 3 ∷ [] };
    numbers = record { code = 1; bytes = 7 ∷ [] } ∷ [];
    id_packed = (0, refl, record { fits = lit< tt; count = IsLeastCount-zero; spelled = refl });
    not_before = lit≤ tt;
    stamp_fits = lit< tt;
    step_packed = (3, refl, record { fits = lit< tt; count = IsLeastCount-suc 0 3 (lit≤ tt) (lit< tt); spelled = refl });
    packed = (small 7 refl (lit< tt) (IsLeastCount-suc 0 7 (lit≤ tt) (lit< tt)) refl, tt);
    joined = refl;
  };
}

pub is_record : (stamp : ℕ) → IsCall (row_message ∷ []) (call_at stamp)
is_record stamp = record { message = row_message; known = refl; fits = (record { sfits = omega arith }, tt); short = lit≤ tt }

extent_spelled : SpellsExtent (row_message ∷ []) row_header 0 (row_record ∷ []) row_extent_bytes
unfolding le_bytes
extent_spelled = record {
  body = row_body;
  some = lit≤ tt;
  short = lit≤ tt;
  writer_fits = lit< tt;
  body_spelled = (row_body, [], refl, record_spelled, refl);
  joined = refl;
}

-- ---- the file

pub file : FileOf row_header row_blocks row_bytes
unfolding le_bytes
file = record {
  block_bytes = row_fragment_bytes ++ row_extent_bytes ++ 4 ∷ 0 ∷ [];
  spelled = (
    row_fragment_bytes,
    row_extent_bytes ++ 4 ∷ 0 ∷ [],
    refl,
    fragment_spelled,
    (row_extent_bytes, 4 ∷ 0 ∷ [], refl, extent_spelled, (4 ∷ 0 ∷ [], [], refl, record { writer_fits = lit< tt; joined = refl }, refl)),
  );
  joined = refl;
}

pub valid : Valid row_header row_blocks
valid = record {
  header_right = record { version_known = refl; some_writer = lit≤ tt; few_writers = lit≤ tt; tick_fits = lit< tt; nanos_fits = lit< tt; rate_fits = lit< tt; rate = lit≤ tt };
  blocks_right = (
    record { next = refl; distinct = λ i j d earlier within. absurd (omega (arith, earlier, within)); few = lit≤ tt },
    (
      record { writer_open = record { known = lit< tt; unclosed = λ e. cc }; right = (is_record 1003, tt); rising = (lit≤ tt, tt) },
      (record { known = lit< tt; unclosed = λ e. cc }, tt),
    ),
  );
}

-- the fragment of the message, which the first extent wants
first_stands : (clock : Clock) (others : List Message) → StandsInFront (clock ∷ []) (row_message ∷ others) [] (row_record ∷ []) (Fragment 0 (row_message ∷ []) ∷ [])
first_stands clock others = record { fragments = _; are = ([], refl, refl, inl refl, refl); joined = refl }

pub log : (batch : ℕ) → 1 ≤ batch → LogOf row_bytes ((row_record ∷ []) ∷ []) (row_message ∷ []) 1 (row_header.clock ∷ []) batch
log batch some = record {
  header = row_header;
  blocks = row_blocks;
  file = file;
  valid = valid;
  version_is = refl;
  unwritten = [];
  clocks_are = refl;
  writers_are = refl;
  undefined = [];
  messages_are = refl;
  records_are = refl;
  laid_out = extent [] (Fragment 0 (row_message ∷ []) ∷ []) 0 (row_record ∷ []) (Close 0 ∷ []) (first_stands row_header.clock []) some (close _ 0 [] (ends _));
}

-- ---- two writers

pub mixed : (clock : Clock) → IsLaidOut (clock ∷ []) (row_message ∷ full_message ∷ []) 2 [] late_fragments
mixed clock =
    extent [] (Fragment 0 (row_message ∷ []) ∷ []) 0 (row_record ∷ []) _ (first_stands clock (full_message ∷ [])) (lit≤ tt)
    (extent _ (Fragment 1 (full_message ∷ []) ∷ []) 1 (full_record ∷ row_record ∷ []) _ (record { fragments = _; are = ([], refl, refl, inl refl, refl); joined = refl }) (lit≤ tt)
    (close _ 1 _ (extent _ [] 0 (full_record ∷ []) [] (record { fragments = []; are = refl; joined = refl }) (lit≤ tt) (ends _))))
