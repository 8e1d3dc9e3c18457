use Rattle.std.proofs.Common.{◌≡◌, sym, ◌∙◌, inl, inr}
use Rattle.trace_text.specs.Dictionaries.{DictionaryText, DictionaryBreak}
use Rattle.log_ends.specs.declared.opening.OpenFault.TheVariants.{BadDictionary}
use Rattle.log_ends.proofs.Openings.{refused_so, refused_only}
use Rattle.log_ends.proofs.opening.kept_dictionary.Goals as goal

pub returns-in-Err-clause-refused : goal.returns-in-Err-clause-refused
returns-in-Err-clause-refused c =
    λ line told. let same : c.fault_of.result ≡ BadDictionary line = cc in
    refused_so (DictionaryText c.args.text.now) (DictionaryBreak c.args.text.now) c.in-Err.fault line c.in-Err.ensures.answer (sym c.fault_of.ensures ∙ same)

pub returns-in-Err-clause-only : goal.returns-in-Err-clause-only
returns-in-Err-clause-only c =
    λ line refused. elim (refused_only (DictionaryText c.args.text.now) (DictionaryBreak c.args.text.now) c.in-Err.fault line refused.0 c.in-Err.ensures.only refused.1) [
      | inl told ↦ inl (let same = c.fault_of.ensures ∙ told in cc)
      | inr told ↦ inr (let same = c.fault_of.ensures ∙ told in cc)
    ]

pub returns-in-Ok-new-clause-only : goal.returns-in-Ok-new-clause-only
returns-in-Ok-new-clause-only c = λ line refused. absurd (c.in-Ok.ensures.only.refusal line refused.0 refused.1)
