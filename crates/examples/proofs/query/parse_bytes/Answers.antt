use Rattle.examples.proofs.query.parse_bytes.Goals as goal

pub returns-clause-reads : goal.returns-clause-reads
returns-clause-reads g c = λ s. let a = c.parse.ensures.3.reads s in record { output = a.output; accepted = a.accepted; decided = a.decided; answered = λ never. absurd never }
