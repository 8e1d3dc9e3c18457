-- The options of a session where nothing is asked for.
use Rattle.log_dictionary.specs.declared.severity.Severity.TheVariants.{Debug}
use Rattle.session_options.specs.declared.options.Options.{Options}
use Rattle.session_options.specs.declared.options.Policy.TheVariants.{Wait}
use Rattle.session_options.specs.declared.options.TheConstants.{DEFAULT_RING, DEFAULT_BATCH}

abbrev pub default_options : Options
default_options = record { ring = DEFAULT_RING; batch = DEFAULT_BATCH; policy = Wait; level = Debug }
