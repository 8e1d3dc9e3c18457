use Rattle.code_inject.proofs.Existence.{some_answer}
use Rattle.code_inject.proofs.laws.some_answer.Goals as goal

pub returns : goal.returns
returns c = λ file dictionary.
    let list = c.some_list.ensures file in
    some_answer file c.args.source.now dictionary list.0 list.1
