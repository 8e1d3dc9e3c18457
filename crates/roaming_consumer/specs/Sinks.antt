-- What a call does to the sink that it is lent.
use Rattle.std.specs.Prelude.{◌≡◌, ℕ, ◌≤◌, List, ◌++◌, length, take, drop, Result, OnOk, OnErr}
use Rattle.nl_io.specs.Count.{Rose}
use Rattle.nl_io.specs.Content.{Told, with_end, PutsFront}
use Rattle.log_dictionary.specs.declared.clock.Clock.{Clock}
use Rattle.log_dictionary.specs.declared.message.Message.{Message}
use Rattle.checkpoint_io.specs.Blocks.{extent_head_bytes}
use Rattle.roaming_consumer.specs.Growth.{FragmentsFor, PrefaceFor}

-- The sink took all of the bytes. Where the call failed it took some of them, from their front, and its count of faults
-- rose.
pub record Sends {T E : Type 0} (outcome : Result T E) (bytes : List ℕ) (put put_after : Told)
    (faults faults_after : ℕ) : Type 0 where
  pub ok : OnOk outcome (put_after ≡ with_end bytes put)
  pub counted : OnOk outcome (faults_after ≡ faults)
  pub err : OnErr outcome (PutsFront bytes put put_after)
  pub cause : OnErr outcome (Rose faults faults_after)
  pub count : faults ≤ faults_after

-- These are fragments of the messages from the first one up to this end, and the sink took them.
pub record SendsFragments {T E : Type 0} (outcome : Result T E) (dictionary : List Message) (first end : ℕ)
    (put put_after : Told) (faults faults_after : ℕ) : Type 0 where
  pub bytes : List ℕ
  pub spelled : FragmentsFor first (drop first (take end dictionary)) bytes
  pub sent : Sends outcome bytes put put_after faults faults_after

-- The preface has these clocks and the messages from the first one up to this end, and the sink took it and the extent.
pub record SendsExtent {T E : Type 0} (outcome : Result T E) (clocks : List Clock) (dictionary : List Message)
    (version first end writer : ℕ) (body : List ℕ) (put put_after : Told) (faults faults_after : ℕ) : Type 0 where
  pub preface : List ℕ
  pub spelled : PrefaceFor clocks first (drop first (take end dictionary)) preface
  pub sent : Sends outcome (preface ++ (extent_head_bytes version writer (length body) ++ body)) put put_after faults
      faults_after
