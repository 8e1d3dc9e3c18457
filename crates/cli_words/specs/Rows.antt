-- Worked command lines, and lines for all commands.
use Rattle.std.specs.Prelude.{◌≡◌, ◌≢◌, ◌==◌, ◌<◌, ◌≤◌, ℕ, List, [], ◌∷◌, length, Option, Some, true, codes}
use Rattle.std.specs.Fmt.{decimal}
use Rattle.std.specs.List.{All, slice_split}
use Rattle.cli_words.specs.Commands.{WordBytes, Command, Preprocess, Direct, Replay, Decompress}
use Rattle.cli_words.specs.Commands.{Aggregate, Generate, Selftest, Schedule, Migrate, Inject, Header}
use Rattle.cli_words.specs.Commands.{command_of, is_name}
use Rattle.cli_words.specs.declared.operands.TheConstants.{MAX_SOURCES}
use Rattle.cli_words.specs.declared.numbers.TheConstants.{MAX_ID, MAX_SEED}
use Rattle.log_dictionary.specs.Severities.{severity_name}
use Rattle.log_dictionary.specs.declared.severity.Severity.{Severity}
use Rattle.session_options.specs.Bounds.{AreInBounds}
use Rattle.session_options.specs.declared.limits.TheConstants.{MAX_GENERATED_WRITERS, MAX_GENERATED}
use Rattle.session_options.specs.declared.options.Policy.{Policy}
use Rattle.session_options.specs.declared.options.Policy.TheVariants.{Wait, Shed}

-- the words of a line, which one space each stands between
abbrev pub split_words : WordBytes → List WordBytes
split_words = slice_split (λ byte. byte == 32)

-- what the line asks for
abbrev pub meaning : WordBytes → Option Command
meaning line = command_of (split_words line)

-- the command `replay` of the trace `t` into the log `l`
abbrev pub replays : ℕ → ℕ → Policy → Severity → Option Command
replays ring batch policy level =
    Some (Replay (codes "t") (codes "l") (record { ring = ring; batch = batch; policy = policy; level = level }))

-- the numbers of a generated trace lie in their bounds
abbrev pub AreGenerated : ℕ → ℕ → ℕ → Type 0
AreGenerated seed calls writers =
    (seed ≤ MAX_SEED) × (calls ≤ MAX_GENERATED) × (1 ≤ writers) × (writers ≤ MAX_GENERATED_WRITERS)

-- the names of the command aren't empty, what it makes is another name than what it reads, its numbers lie in their
-- bounds, and there are enough sources and not too many
abbrev pub IsLawful : Command → Type 0
IsLawful (Preprocess dictionary sources) =
    (is_name dictionary ≡ true) × (0 < length sources) × (length sources ≤ MAX_SOURCES)
    × All (λ source. (is_name source ≡ true) × (source ≢ dictionary)) sources
IsLawful (Direct trace) = is_name trace ≡ true
IsLawful (Replay trace log options) =
    (is_name trace ≡ true) × (is_name log ≡ true) × (trace ≢ log) × AreInBounds options
IsLawful (Decompress log) = is_name log ≡ true
IsLawful (Aggregate log id nth) = (is_name log ≡ true) × (id ≤ MAX_ID) × (nth ≤ MAX_ID)
IsLawful (Generate seed calls writers) = AreGenerated seed calls writers
IsLawful (Selftest seed calls writers) = AreGenerated seed calls writers
IsLawful (Schedule file) = is_name file ≡ true
IsLawful (Migrate old new) = (is_name old ≡ true) × (is_name new ≡ true) × (old ≢ new)
IsLawful (Inject dictionary source output) =
    (is_name dictionary ≡ true) × (is_name source ≡ true) × (is_name output ≡ true)
    × (dictionary ≢ output) × (source ≢ output)
IsLawful (Header dictionary output) = (is_name dictionary ≡ true) × (is_name output ≡ true) × (dictionary ≢ output)

-- the name of what becomes of calls for which there is no room
abbrev pub policy_name : Policy → WordBytes
policy_name Wait = codes "wait"
policy_name Shed = codes "drop"

-- words that ask for the command
abbrev pub words_for : Command → List WordBytes
words_for (Preprocess dictionary sources) = codes "preprocess" ∷ codes "--" ∷ dictionary ∷ sources
words_for (Direct trace) = codes "direct" ∷ codes "--" ∷ trace ∷ []
words_for (Replay trace log options) =
    codes "replay" ∷ codes "--ring" ∷ decimal options.ring ∷ codes "--batch" ∷ decimal options.batch
    ∷ codes "--full" ∷ policy_name options.policy ∷ codes "--level" ∷ severity_name options.level
    ∷ codes "--" ∷ trace ∷ log ∷ []
words_for (Decompress log) = codes "decompress" ∷ codes "--" ∷ log ∷ []
words_for (Aggregate log id nth) = codes "aggregate" ∷ codes "--" ∷ log ∷ decimal id ∷ decimal nth ∷ []
words_for (Generate seed calls writers) =
    codes "generate" ∷ codes "--" ∷ decimal seed ∷ decimal calls ∷ decimal writers ∷ []
words_for (Selftest seed calls writers) =
    codes "selftest" ∷ codes "--" ∷ decimal seed ∷ decimal calls ∷ decimal writers ∷ []
words_for (Schedule file) = codes "schedule" ∷ codes "--" ∷ file ∷ []
words_for (Migrate old new) = codes "migrate" ∷ codes "--" ∷ old ∷ new ∷ []
words_for (Inject dictionary source output) = codes "inject" ∷ codes "--" ∷ dictionary ∷ source ∷ output ∷ []
words_for (Header dictionary output) = codes "header" ∷ codes "--" ∷ dictionary ∷ output ∷ []
