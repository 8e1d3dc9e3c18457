-- What is written to the standard error.
use Rattle.std.specs.Prelude.{ℕ, List, [], ◌++◌, map, codes, Option, Some, None}
use Rattle.std.specs.Fmt.{decimal}
use Rattle.std.specs.Borrow.{Bor}
use Rattle.command_base.specs.Endings.{ToldCause, Ending, Done, StillOpen, Usage, Absent, ReadFault, Refused, RefusedSources, Damaged, WriteFault, NoMemory}

-- a place in a file, behind a colon, where one is told
abbrev pub place_words : Option ℕ → List ℕ
place_words None = []
place_words (Some place) = codes ":" ++ decimal place

-- what is wrong with a file: where, what it is there, and the number and the name of the cause
abbrev pub fault_words : List ℕ → Option ℕ → List ℕ → ToldCause → List ℕ
fault_words name place what cause =
    codes "nanolog: " ++ name ++ place_words place ++ what ++ decimal cause.number ++ codes " " ++ cause.name
    ++ codes "\n"

-- the words that tell of an end
abbrev pub words_of : Ending → List ℕ
words_of Done = []
words_of (StillOpen name numbers) = codes "nanolog: " ++ name ++ codes ": writers still open:" ++ numbers ++ codes "\n"
words_of (Usage lines) = lines
words_of (Absent name) = codes "nanolog: " ++ name ++ codes ": absent\n"
words_of (ReadFault name) = codes "nanolog: " ++ name ++ codes ": read fault\n"
words_of (Refused name line cause) = fault_words name line (codes ": refused: ") cause
words_of (RefusedSources lines) = lines
words_of (Damaged name offset cause) = fault_words name (Some offset) (codes ": damaged: ") cause
words_of (WriteFault name) = codes "nanolog: " ++ name ++ codes ": write fault\n"
words_of NoMemory = codes "nanolog: want of memory\n"

-- what a write fault calls the standard output
abbrev pub standard_output : List ℕ
standard_output = codes "standard output"

-- what each of the texts contains
abbrev pub contents : List (Bor (List ℕ)) → List (List ℕ)
contents texts = map (λ text. text.now) texts
