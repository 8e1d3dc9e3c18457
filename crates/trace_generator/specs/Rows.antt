-- Worked examples: states of the generator, and traces that it makes.
use Rattle.std.specs.Prelude.{ℕ, List, [], ◌∷◌, ◌++◌, codes}

-- the states that follow each other behind the seed 1
abbrev pub first_states : List ℕ
first_states =
    1103527590 ∷ 377401575 ∷ 662824084 ∷ 1147902781 ∷ 2035015474 ∷ 368800899 ∷ 1508029952 ∷ []

-- the messages and the clock of a generated trace
abbrev pub generated_front : List ℕ
generated_front =
    codes "nanolog-trace 1\n"
    ++ codes "message 0 ERROR 10 \"gen.cc\" \"disk %u failed at %#lx\"\n"
    ++ codes "message 1 WARNING 20 \"gen.cc\" \"queue %s is %d%% full\"\n"
    ++ codes "message 2 NOTICE 30 \"gen.cc\" \"request %llu took %5d us\"\n"
    ++ codes "message 3 DEBUG 40 \"gen.cc\" \"state %c\"\n"
    ++ codes "clock 1000 1514764800000000000 2000000000\n"

-- two calls of one writer
abbrev pub two_calls_text : List ℕ
two_calls_text =
    generated_front
    ++ codes "writers 1\n"
    ++ codes "call 0 1058 2 10113 17515\n"
    ++ codes "call 0 1085 3 107\n"
    ++ codes "end\n"

-- the same calls of two writers
abbrev pub turns_text : List ℕ
turns_text =
    generated_front
    ++ codes "writers 2\n"
    ++ codes "call 0 1058 2 10113 17515\n"
    ++ codes "call 1 1085 3 107\n"
    ++ codes "end\n"

-- no calls
abbrev pub no_calls_text : List ℕ
no_calls_text = generated_front ++ codes "writers 3\n" ++ codes "end\n"
