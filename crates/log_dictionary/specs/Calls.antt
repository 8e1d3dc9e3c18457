-- Calls, as the definitions see them.
use Rattle.std.specs.Prelude.{◌≡◌, ℕ, List, slice_get, Some}
use Rattle.printf_grammar.specs.declared.argument.Value.{Value}
use Rattle.printf_grammar.specs.Types.{Types, Fits}
use Rattle.log_dictionary.specs.declared.message.Message.{Message}

-- a call: which writer made it, its place among that writer's calls, when it was made, and what it says
pub record LogCall : Type 0 where
  pub writer : ℕ
  pub ordinal : ℕ
  pub stamp : ℕ
  pub message : Message
  pub args : List Value

-- one of the messages has this id, and the arguments fit it
abbrev pub Takes : List Message → ℕ → List Value → Type 0
Takes messages id args = (message : Message) × (slice_get messages id ≡ Some message) × Fits args (Types message.format.pieces)
