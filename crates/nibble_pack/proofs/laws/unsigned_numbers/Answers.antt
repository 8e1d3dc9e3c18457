use Rattle.std.proofs.Common.{refl, arith}
use Rattle.nibble_pack.proofs.lemmas.PackingLaws.{IsLeastCount-zero, IsLeastCount-suc}
use Rattle.nibble_pack.proofs.laws.unsigned_numbers.Goals as goal

pub returns-clause-zero : goal.returns-clause-zero
returns-clause-zero c = (0, refl, record { fits = omega arith; count = IsLeastCount-zero; spelled = refl })

pub returns-clause-one_byte : goal.returns-clause-one_byte
returns-clause-one_byte c = (255, refl, record { fits = omega arith; count = IsLeastCount-suc 0 255 (omega arith) (omega arith); spelled = refl })

pub returns-clause-two_bytes : goal.returns-clause-two_bytes
returns-clause-two_bytes c = (256, refl, record { fits = omega arith; count = IsLeastCount-suc 1 256 (omega arith) (omega arith); spelled = refl })

pub returns-clause-greatest : goal.returns-clause-greatest
returns-clause-greatest c = (18446744073709551615, refl, record { fits = omega arith; count = IsLeastCount-suc 7 18446744073709551615 (omega arith) (omega arith); spelled = refl })
