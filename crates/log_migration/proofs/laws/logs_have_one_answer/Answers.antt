use Rattle.log_migration.proofs.lemmas.MigrationLaws.{fitting_answer, large_answer, answer_of_2}
use Rattle.log_migration.proofs.laws.logs_have_one_answer.Goals as goal

pub returns : goal.returns
returns c = record {
  fits = λ header blocks bytes migrated old new answer one file valid short spelled fits have. fitting_answer header blocks bytes migrated old new one file valid short spelled fits answer have;
  too_large = λ header blocks bytes migrated old new answer one file valid short spelled large have. large_answer header blocks bytes migrated old new one file valid short spelled large answer have;
  not_one = answer_of_2;
}
