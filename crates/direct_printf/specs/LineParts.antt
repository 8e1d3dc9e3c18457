-- What a line is made of beside the clock, as a call.
use Rattle.std.specs.Prelude.{ℕ, map}
use Rattle.printf_grammar.specs.declared.argument.Value.{Value}
use Rattle.log_dictionary.specs.Calls.{LogCall}
use Rattle.direct_printf.specs.declared.line_parts.LineParts.{LineParts}

-- the call, where it has this place among its writer's calls
abbrev pub call_of : {A : Type 0} → (A → Value) → LineParts A → ℕ → LogCall
call_of value parts ordinal =
    record {
      writer = parts.writer;
      ordinal = ordinal;
      stamp = parts.stamp;
      message = parts.message.now;
      args = map value parts.args.now;
    }
