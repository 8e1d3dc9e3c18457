-- What stands at the front of bytes.
use Rattle.std.proofs.Common.{◌≡◌, ℕ, List, subst}
use Rattle.source_tokens.specs.Tokens.{ContinuesToken}
use Rattle.source_tokens.specs.declared.kind.TokenKind.{TokenKind}
use Rattle.source_tokens.specs.declared.opening.Opening.{Opening}

-- the same under other names
pub goes_on_as : (opening other : Opening) (first : ℕ) (behind : List ℕ) (kind other_kind : TokenKind) (rest other_rest : List ℕ)
    → opening ≡ other → other_kind ≡ kind → other_rest ≡ rest → ContinuesToken opening first behind kind rest → ContinuesToken other first behind other_kind other_rest
goes_on_as opening other first behind kind other_kind rest other_rest same same_kind same_rest goes =
    rw (same_kind, same_rest) (subst (λ (o : Opening). ContinuesToken o first behind kind rest) same goes)
