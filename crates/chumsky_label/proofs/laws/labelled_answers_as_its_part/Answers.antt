use Rattle.chumsky_label.specs.LabelledLaws.{labelled-as_part, labelled-each}
use Rattle.chumsky_label.proofs.laws.labelled_answers_as_its_part.Goals as goal

pub returns-clause-of_part : goal.returns-clause-of_part
returns-clause-of_part g c = labelled-as_part _ _ _ _

pub returns-clause-each : goal.returns-clause-each
returns-clause-each g c = labelled-each _ _ _ _ _
