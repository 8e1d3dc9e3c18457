use Rattle.std.proofs.Common.{refl}
use Rattle.source_tokens.specs.Forms.{is_comment_body, is_number_tail, is_literal_body, has_mark}
use Rattle.source_tokens.proofs.laws.worked_forms.Goals as goal

pub returns-clause-comment : goal.returns-clause-comment
unfolding is_comment_body is_number_tail is_literal_body has_mark
returns-clause-comment c = refl

pub returns-clause-comment_opening : goal.returns-clause-comment_opening
unfolding is_comment_body is_number_tail is_literal_body has_mark
returns-clause-comment_opening c = refl

pub returns-clause-comment_over : goal.returns-clause-comment_over
unfolding is_comment_body is_number_tail is_literal_body has_mark
returns-clause-comment_over c = refl

pub returns-clause-number : goal.returns-clause-number
unfolding is_comment_body is_number_tail is_literal_body has_mark
returns-clause-number c = refl

pub returns-clause-number_sign : goal.returns-clause-number_sign
unfolding is_comment_body is_number_tail is_literal_body has_mark
returns-clause-number_sign c = refl

pub returns-clause-number_mark : goal.returns-clause-number_mark
unfolding is_comment_body is_number_tail is_literal_body has_mark
returns-clause-number_mark c = refl

pub returns-clause-literal : goal.returns-clause-literal
unfolding is_comment_body is_number_tail is_literal_body has_mark
returns-clause-literal c = refl

pub returns-clause-literal_over : goal.returns-clause-literal_over
unfolding is_comment_body is_number_tail is_literal_body has_mark
returns-clause-literal_over c = refl

pub returns-clause-literal_line : goal.returns-clause-literal_line
unfolding is_comment_body is_number_tail is_literal_body has_mark
returns-clause-literal_line c = refl

pub returns-clause-whole : goal.returns-clause-whole
unfolding is_comment_body is_number_tail is_literal_body has_mark
returns-clause-whole c = refl

pub returns-clause-broken : goal.returns-clause-broken
unfolding is_comment_body is_number_tail is_literal_body has_mark
returns-clause-broken c = refl
