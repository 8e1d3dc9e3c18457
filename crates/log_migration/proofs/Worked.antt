-- The worked log in version 2 is proved from its parts.
use Rattle.std.proofs.Common.{lit<, lit≤, [], ◌∷◌, ◌++◌, refl}
use Rattle.std.specs.Hash.{le_bytes}
use Rattle.nibble_pack.specs.Packing.{small}
use Rattle.nibble_pack.proofs.lemmas.PackingLaws.{IsLeastCount-zero, IsLeastCount-suc}
use Rattle.buffer_extent.specs.Bodies.{SpellsRecord}
use Rattle.checkpoint_io.specs.Blocks.{SpellsExtent, FileOf}
use Rattle.checkpoint_io.specs.Rows.{row_record, row_header, row_blocks, row_fragment_bytes, row_body, row_bytes}
use Rattle.checkpoint_io.proofs.lemmas.Worked.{file, valid, fragment_spelled}
use Rattle.log_dictionary.specs.Rows.{row_message}
use Rattle.log_migration.specs.Migrating.{version_2, IsMigrated}
use Rattle.log_migration.specs.Rows.{migrated_extent_bytes, migrated_bytes}

record_spelled : SpellsRecord (row_message ∷ []) 1000 row_record row_body
record_spelled = record {
  message = row_message;
  known = refl;
  spelled = record {
    id_number = record { code = 0; bytes = [] };
    step_number = record { code = 1; bytes = 3 ∷ [] };
    numbers = record { code = 1; bytes = 7 ∷ [] } ∷ [];
    id_packed = (0, refl, record { fits = lit< tt; count = IsLeastCount-zero; spelled = refl });
    not_before = lit≤ tt;
    stamp_fits = lit< tt;
    step_packed = (3, refl, record { fits = lit< tt; count = IsLeastCount-suc 0 3 (lit≤ tt) (lit< tt); spelled = refl });
    packed = (small 7 refl (lit< tt) (IsLeastCount-suc 0 7 (lit≤ tt) (lit< tt)) refl, tt);
    joined = refl;
  };
}

extent : SpellsExtent (row_message ∷ []) (version_2 row_header) 0 (row_record ∷ []) migrated_extent_bytes
unfolding le_bytes
extent = record { body = row_body; some = lit≤ tt; short = lit≤ tt; writer_fits = lit< tt; body_spelled = (row_body, [], refl, record_spelled, refl); joined = refl }

migrated_file : FileOf (version_2 row_header) row_blocks migrated_bytes
unfolding le_bytes
migrated_file = record {
  block_bytes = row_fragment_bytes ++ migrated_extent_bytes ++ 4 ∷ 0 ∷ 0 ∷ [];
  spelled = (
    row_fragment_bytes,
    migrated_extent_bytes ++ 4 ∷ 0 ∷ 0 ∷ [],
    refl,
    fragment_spelled,
    (migrated_extent_bytes, 4 ∷ 0 ∷ 0 ∷ [], refl, extent, (4 ∷ 0 ∷ 0 ∷ [], [], refl, record { writer_fits = lit< tt; joined = refl }, refl)),
  );
  joined = refl;
}

pub migrated : IsMigrated row_bytes migrated_bytes 3
migrated = record { header = row_header; blocks = row_blocks; version = refl; file = file; valid = valid; spelled = migrated_file; many = refl }
