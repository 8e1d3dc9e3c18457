-- Worked records that break.
use Rattle.std.specs.Prelude.{◌≡◌, ℕ, List, [], ◌∷◌, Err}
use Rattle.printf_grammar.specs.declared.arg_type.ArgType.{ArgType}
use Rattle.printf_grammar.specs.Types.{Types}
use Rattle.log_dictionary.specs.declared.message.Message.{Message}
use Rattle.buffer_extent.specs.declared.fault.BodyCause.{BodyCause}
use Rattle.buffer_extent.specs.Reading.{record_at}

-- The bytes are no record of the one message, which takes arguments of these types: the step counts from 1000, and no
-- stamp is below the least.
abbrev pub BreaksSo : List ArgType → ℕ → List ℕ → BodyCause → Type 0
BreaksSo types least bytes cause =
    (message : Message) → Types message.format.pieces ≡ types → record_at (message ∷ []) 1000 least bytes ≡ Err cause
