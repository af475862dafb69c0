use Rattle.examples.proofs.words.word.Goals as goal

pub returns : goal.returns
returns g c = record {
  text = rw c.to.ensures.parser c.just.ensures;
  value = c.to.ensures.value;
}
