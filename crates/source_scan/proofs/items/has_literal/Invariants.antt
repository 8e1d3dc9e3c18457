use Rattle.std.proofs.Common.{◌≡◌, take, false}
use Rattle.std.specs.List.{list_any}
use Rattle.source_tokens.specs.declared.token.Token.{Token}
use Rattle.source_scan.specs.Items.{is_literal}
use Rattle.source_scan.proofs.items.has_literal.Given as goal

abbrev pub invariant-loop-token : goal.invariant-loop-token
invariant-loop-token l = list_any (λ (token : Token). is_literal token.kind) (take l.token-index l.tokens) ≡ false
