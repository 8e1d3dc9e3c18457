use Rattle.std.proofs.Common.{◌≡◌, List, [], ◌∷◌, ◌++◌, length, map, refl, sym, ap, subst, ◌∙◌, arith}
use Rattle.std.proofs.lemmas.List.{length-map}
use Rattle.indexmap.proofs.CallerLemmas.{insert_entry-new}
use Rattle.log_dictionary.specs.declared.message.Message.{Message}
use Rattle.log_dictionary.specs.declared.message_set.Key.{Key}
use Rattle.log_dictionary.specs.Messages.{HasMessage, HasId, AreDistinct, AreFormed}
use Rattle.log_dictionary.specs.Places.{same_key, AreKeys}
use Rattle.log_dictionary.proofs.Places.{joined_messages, without_value, one_more_entry}
use Rattle.log_dictionary.proofs.message_set.MessageSet.insert.Goals as goal

pub returns-in-Ok-clause-ok : goal.returns-in-Ok-clause-ok
returns-in-Ok-clause-ok c = (subst (λ (m : List Message). HasId m c.args.message c.in-Ok.place) c.self.view_is c.in-Ok.ensures.found, refl)

pub returns-in_default-clause-new : goal.returns-in_default-clause-new
returns-in_default-clause-new c = subst (λ (m : List Message). ¬ (HasMessage m c.args.message)) c.self.view_is c.in-Err.ensures.none

-- the message is the last entry
added : (c : goal.Joined-this) → c.insert.new.self.entries ≡ c.self.inside.messages.entries ++ (c.in-Err.key, c.args.message) ∷ []
added c =
    c.in-Ok-insert.ensures.entries
    ∙ insert_entry-new same_key c.self.inside.messages c.in-Err.key c.args.message (without_value c.self.inside.messages.entries c.in-Err.key c.in-Err.ensures.free.absent)

pub invariant_of-self-2 : goal.invariant_of-self-2
invariant_of-self-2 c =
    subst (λ (all : List (Key × Message)). AreDistinct (map (λ (e : Key × Message). e.1) all) × AreKeys (map (λ (e : Key × Message). e.0) all) (map (λ (e : Key × Message). e.1) all) × AreFormed (map (λ (e : Key × Message). e.1) all)) (sym (added c)) (one_more_entry c.self.inside.messages.entries c.in-Err.key c.args.message c.self.invariant c.in-Err.ensures.none c.in-Err.ensures.free c.in-Err.ensures.spelled)

pub returns-clause-ok : goal.returns-clause-ok
returns-clause-ok c = (
  subst (λ (m : List Message). ¬ (HasMessage m c.args.message)) c.self.view_is c.in-Err.ensures.none,
  omega (arith, c.len-place.ensures.len, length-map c.self.inside.messages.entries (λ e. e.1), ap length c.self.view_is),
  ap (λ (all : List (Key × Message)). map (λ (e : Key × Message). e.1) all) (added c) ∙ joined_messages c.self.inside.messages.entries c.in-Err.key c.args.message ∙ ap (λ (m : List Message). m ++ c.args.message ∷ []) c.self.view_is,
)
