use Rattle.nibble_pack.proofs.lemmas.PackingLaws.{Packed-code, Packed-length, Packed-bytes, IsCode-lt, byte_count-le}
use Rattle.nibble_pack.proofs.laws.code_tells_the_length.Goals as goal

pub returns-clause-code : goal.returns-clause-code
returns-clause-code c = Packed-code

pub returns-clause-length : goal.returns-clause-length
returns-clause-length c = Packed-length

pub returns-clause-bytes : goal.returns-clause-bytes
returns-clause-bytes c = Packed-bytes

pub returns-clause-four_bits : goal.returns-clause-four_bits
returns-clause-four_bits c = IsCode-lt

pub returns-clause-most : goal.returns-clause-most
returns-clause-most c = byte_count-le
