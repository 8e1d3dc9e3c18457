-- Lists of tokens that stand one behind the other.
use Rattle.std.proofs.Common.{◌≡◌, ℕ, ◌+◌, List, [], ◌∷◌, ◌++◌, length, refl, sym, subst, ap, ◌∙◌, append_assoc}
use Rattle.std.proofs.lemmas.List.{append-nil}
use Rattle.source_tokens.specs.declared.token.Token.{Token}
use Rattle.source_tokens.specs.Tokens.{Tokens, IsToken, Follow, past_front, front_tokens}

-- the tokens of a source up to the rest
pub record TokensTo (source : List ℕ) (tokens : List Token) (rest : List ℕ) : Type 0 where
  pub front : ℕ
  pub others : List Token
  pub front_is : front + length (past_front source) ≡ length source
  pub tokens_are : tokens ≡ front_tokens front ++ others
  pub follow : Follow (length source) (past_front source) others rest

pub follow-push : (total : ℕ) (bytes : List ℕ) (tokens : List Token) (rest : List ℕ) (token : Token) (behind : List ℕ) → Follow total bytes tokens rest → IsToken total rest token behind → Follow total bytes (tokens ++ token ∷ []) behind
unfolding Follow
follow-push total bytes [] rest token behind follow is = (behind, subst (λ (front : List ℕ). IsToken total front token behind) (sym follow) is, refl)
follow-push total bytes (first ∷ tokens) rest token behind follow is = (follow.0, follow.1, follow-push total follow.0 tokens rest token behind follow.2 is)

pub follow-none : (total : ℕ) (bytes : List ℕ) → Follow total bytes [] bytes
unfolding Follow
follow-none total bytes = refl

pub tokens-front : (source : List ℕ) (front : ℕ) (tokens : List Token) → front + length (past_front source) ≡ length source → tokens ≡ front_tokens front → TokensTo source tokens (past_front source)
tokens-front source front tokens front_is are = record { front = front; others = []; front_is = front_is; tokens_are = are ∙ sym (append-nil (front_tokens front)); follow = follow-none (length source) (past_front source) }

pub tokens-push : (source : List ℕ) (tokens : List Token) (rest : List ℕ) (token : Token) (behind : List ℕ) → TokensTo source tokens rest → IsToken (length source) rest token behind → TokensTo source (tokens ++ token ∷ []) behind
tokens-push source tokens rest token behind to is = record {
  front = to.front;
  others = to.others ++ token ∷ [];
  front_is = to.front_is;
  tokens_are = ap (λ list. list ++ token ∷ []) to.tokens_are ∙ append_assoc (front_tokens to.front) to.others (token ∷ []);
  follow = follow-push (length source) (past_front source) to.others rest token behind to.follow is;
}

pub tokens-end : (source : List ℕ) (tokens : List Token) (rest : List ℕ) → TokensTo source tokens rest → rest ≡ [] → Tokens source tokens
tokens-end source tokens rest to ends = record {
  front = to.front;
  others = to.others;
  front_is = to.front_is;
  tokens_are = to.tokens_are;
  follow = subst (Follow (length source) (past_front source) to.others) ends to.follow;
}
