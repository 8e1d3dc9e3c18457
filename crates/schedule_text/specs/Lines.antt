-- What the lines of a schedule say.
use Rattle.std.specs.Prelude.{ℕ, Bool, ◌&&◌, nat_le, List, [], codes, Option, None, Some, if◌then◌else◌}
use Rattle.std.specs.Str.{bytes_eq}
use Rattle.log_dictionary.specs.Numbers.{natural_of, if_small}
use Rattle.log_dictionary.specs.Fields.{◌>>=◌, after, split_at_first}
use Rattle.session_options.specs.declared.limits.TheConstants.{MIN_RING}
use Rattle.ring_machine.specs.declared.rings.TheConstants.{MAX_RINGS}
use Rattle.ring_machine.specs.declared.steps.StepKind.{StepKind}
use Rattle.ring_machine.specs.declared.steps.StepKind.TheVariants as steps
use Rattle.schedule_text.specs.declared.head_line.TheConstants.{MAX_WORDS}

-- the number below 2^64 that the field spells
abbrev pub number_at : List ℕ → Option ℕ
number_at field = if_small (natural_of field)

-- ---- the line of the rings

-- a number of rings, and of words of each
abbrev pub sizes_within : ℕ → ℕ → Option (ℕ × ℕ)
sizes_within count words =
    if nat_le 1 count && nat_le count MAX_RINGS && nat_le MIN_RING words && nat_le words MAX_WORDS
    then Some (count, words) else None

abbrev pub sizes_of : List ℕ → Option (ℕ × ℕ)
sizes_of fields = do
  parts ← split_at_first 32 fields
  count ← number_at parts.0
  words ← number_at parts.1
  sizes_within count words

-- the number of rings, and that of the words of each, which their line says
abbrev pub sizes_at : List ℕ → Option (ℕ × ℕ)
sizes_at line = after (codes "rings ") line >>= sizes_of

-- ---- the line of a step

-- the step of this short name, but for that which stores a word
abbrev pub short_step : List ℕ → Option StepKind
short_step name =
    if bytes_eq name (codes "look") then Some steps.Look
    else if bytes_eq name (codes "skip") then Some steps.Skip
    else if bytes_eq name (codes "close") then Some steps.Close
    else if bytes_eq name (codes "load") then Some steps.Load
    else if bytes_eq name (codes "read") then Some steps.Read
    else None

-- the step of this name, but for that which stores a word
abbrev pub plain_step : List ℕ → Option StepKind
plain_step name =
    if bytes_eq name (codes "publish") then Some steps.Publish
    else if bytes_eq name (codes "release") then Some steps.Release
    else short_step name

-- a step in a ring, by its number
abbrev pub NumberedStep : Type 0
NumberedStep = ℕ × StepKind

-- a ring, and the word that is stored
abbrev pub store_at : List ℕ → Option NumberedStep
store_at fields = do
  parts ← split_at_first 32 fields
  ring ← number_at parts.0
  word ← number_at parts.1
  Some (ring, steps.Store word)

-- a ring, for the step of this name
abbrev pub plain_at : List ℕ → List ℕ → Option NumberedStep
plain_at name fields = do
  step ← plain_step name
  ring ← number_at fields
  Some (ring, step)

abbrev pub step_with : List ℕ → List ℕ → Option NumberedStep
step_with name fields = if bytes_eq name (codes "store") then store_at fields else plain_at name fields

-- what a line of a step says
abbrev pub step_at : List ℕ → Option NumberedStep
step_at line = split_at_first 32 line >>= (λ parts. step_with parts.0 parts.1)

-- what is said by the first line of the bytes, and the bytes behind it
abbrev pub first_line_says : {A : Type 0} → (List ℕ → Option A) → List ℕ → Option (A × List ℕ)
first_line_says says bytes = split_at_first 10 bytes >>= (λ parts. says parts.0 >>= (λ said. Some (said, parts.1)))
