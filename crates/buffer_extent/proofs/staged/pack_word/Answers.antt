use Rattle.std.proofs.Common.{arith}
use Rattle.std.specs.Prelude.{pos}
use Rattle.nibble_pack.specs.Packing.{unsigned, signed}
use Rattle.buffer_extent.proofs.Packing.{signed_word, unsigned_word, has_its_bytes}
use Rattle.buffer_extent.proofs.TypeKinds.{kind_signed, kind_unsigned}
use Rattle.buffer_extent.proofs.staged.pack_word.Goals as goal

pub returns-in-UInt-clause-packs : goal.returns-in-UInt-clause-packs
returns-in-UInt-clause-packs c = unsigned_word c.args.kind c.args.word c.pack_unsigned.result.code _ (kind_unsigned c.args.kind c.in-UInt.is) c.pack_unsigned.ensures.packed

pub returns-in-UInt-clause-whole : goal.returns-in-UInt-clause-whole
returns-in-UInt-clause-whole c = let packed = c.pack_unsigned.ensures in has_its_bytes unsigned (pos c.args.word) c.pack_unsigned.result packed.packed packed.len packed.room packed.others

pub returns-in_default-clause-packs : goal.returns-in_default-clause-packs
returns-in_default-clause-packs c =
    signed_word c.args.kind c.args.word c.cast_signed.result c.pack_signed.result.code _ (kind_signed c.args.kind c.in_default.not-UInt c.in_default.not-ULong c.in_default.not-Text) c.cast_signed.ensures (omega arith) c.pack_signed.ensures.packed

pub returns-in_default-clause-whole : goal.returns-in_default-clause-whole
returns-in_default-clause-whole c = let packed = c.pack_signed.ensures in has_its_bytes signed _ c.pack_signed.result packed.packed packed.len packed.room packed.others
