use Rattle.std.proofs.Common.{ℕ, List, [], ◌++◌, length, map, ◌∙◌, ap, sym, subst}
use Rattle.std.specs.List.{range_with_len}
use Rattle.checkpoint_io.specs.declared.header.Header.{Header}
use Rattle.checkpoint_io.specs.Blocks.{Block, messages_of, clocks_of}
use Rattle.checkpoint_io.specs.Validity.{records_of}
use Rattle.checkpoint_io.specs.Logs.{IsLaidOut}
use Rattle.checkpoint_io.proofs.lemmas.LogLaws.{front_of_run}
use Rattle.checkpoint_io.proofs.laws.logs_tell_of_their_run.Goals as goal

pub returns-clause-whole : goal.returns-clause-whole
returns-clause-whole c = λ bytes taken dictionary version clocks batch header blocks count log front. (front_of_run bytes taken dictionary version clocks batch header blocks count log front).2

pub returns-clause-clocks : goal.returns-clause-clocks
returns-clause-clocks c = λ bytes taken dictionary version clocks batch header blocks count log front.
    let same = front_of_run bytes taken dictionary version clocks batch header blocks count log front in
    (log.unwritten, log.clocks_are ∙ (λ i. clocks_of (sym same.0 i) (sym same.1 i) ++ log.unwritten))

pub returns-clause-version : goal.returns-clause-version
returns-clause-version c = λ bytes taken dictionary version clocks batch header blocks count log front. ap (λ (h : Header). h.version) (front_of_run bytes taken dictionary version clocks batch header blocks count log front).0 ∙ log.version_is

pub returns-clause-writers : goal.returns-clause-writers
returns-clause-writers c = λ bytes taken dictionary version clocks batch header blocks count log front. ap (λ (h : Header). h.writers) (front_of_run bytes taken dictionary version clocks batch header blocks count log front).0 ∙ log.writers_are

pub returns-clause-messages : goal.returns-clause-messages
returns-clause-messages c = λ bytes taken dictionary version clocks batch header blocks count log front. (log.undefined, log.messages_are ∙ ap (λ (b : List Block). messages_of b ++ log.undefined) (sym (front_of_run bytes taken dictionary version clocks batch header blocks count log front).1))

pub returns-clause-records : goal.returns-clause-records
returns-clause-records c = λ bytes taken dictionary version clocks batch header blocks count log front. log.records_are ∙ ap (λ (b : List Block). map (λ (writer : ℕ). records_of writer b) (range_with_len 0 (length taken))) (sym (front_of_run bytes taken dictionary version clocks batch header blocks count log front).1)

pub returns-clause-layout : goal.returns-clause-layout
returns-clause-layout c = λ bytes taken dictionary version clocks batch header blocks count log front. subst (IsLaidOut clocks dictionary batch []) (sym (front_of_run bytes taken dictionary version clocks batch header blocks count log front).1) log.laid_out
