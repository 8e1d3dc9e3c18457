-- The texts that the lines of messages have in common.
use Rattle.std.proofs.Common.{◌≡◌, ◌≤◌, ℕ, List, length, map, take, ap, sym, ◌∙◌, arith}
use Rattle.std.proofs.lemmas.List.{length-map, length-take, take-take}
use Rattle.log_dictionary.specs.declared.message.Message.{Message}
use Rattle.direct_printf.specs.Lines.{origin_text, AreFirstOrigins}

-- the first messages are the same where more came behind them
pub first_of_more : (texts : List (List ℕ)) (old new : List Message) → take (length old) new ≡ old → AreFirstOrigins texts old → AreFirstOrigins texts new
first_of_more texts old new same are =
    let few : length texts ≤ length old = omega (arith, ap length are, length-map (take (length texts) old) origin_text, length-take (length texts) old) in
    are ∙ ap (map origin_text) (ap (take (length texts)) (sym same) ∙ take-take (length texts) (length old) new few)
