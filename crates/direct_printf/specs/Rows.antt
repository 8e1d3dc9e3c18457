-- Two calls of one message at two times: the earlier one is of the writer with the greater number.
use Rattle.std.specs.Prelude.{ℕ, pos, List, [], ◌∷◌, ◌++◌, codes}
use Rattle.printf_grammar.specs.declared.argument.Value.TheVariants.{Signed}
use Rattle.log_dictionary.specs.Calls.{LogCall}
use Rattle.log_dictionary.specs.Rows.{row_message}

-- the second writer's call, and the first writer's, two ticks later
abbrev pub earlier_call : LogCall
earlier_call = record { writer = 1; ordinal = 0; stamp = 1003; message = row_message; args = Signed (pos 1) ∷ [] }

abbrev pub later_call : LogCall
later_call = record { writer = 0; ordinal = 0; stamp = 1005; message = row_message; args = Signed (pos 2) ∷ [] }

abbrev pub row_lines : List ℕ
row_lines =
    codes "1514764800.000000001 srv.cc:12 NOTICE[1]: x=1\n"
    ++ codes "1514764800.000000002 srv.cc:12 NOTICE[0]: x=2\n"
