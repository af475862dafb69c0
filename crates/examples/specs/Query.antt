-- How a query to the domain name system is laid out in bytes.
-- Main words: query_bytes, IsQuery.
use Rattle.std.specs.Prelude.{◌≡◌, ℕ, ◌≤◌, ◌/◌, ◌%◌, List, [], ◌∷◌, ◌++◌, length}
use Rattle.std.specs.declared.alloc.Global.{Global}
use Rattle.std.specs.declared.vec.Vec.{Vec}
use Rattle.chumsky_exact.specs.Rendered.{OfEach, all_words}
use Rattle.examples.specs.declared.query.Head.{Head}
use Rattle.examples.specs.declared.query.Question.{Question}
use Rattle.examples.specs.declared.query.Query.{Query}

-- a number in two bytes, the high one first
abbrev pub number_bytes : ℕ → List ℕ
number_bytes n = n / 256 ∷ n % 256 ∷ []

-- six numbers
abbrev pub head_bytes : Head → List ℕ
head_bytes head =
    number_bytes head.id ++ (number_bytes head.flags ++ (number_bytes head.questions ++ (number_bytes head.answers ++ (number_bytes head.authorities ++ number_bytes head.additionals))))

-- a label, with its length before it
abbrev pub label_bytes : Vec ℕ Global → List ℕ
label_bytes label = length label.items ∷ label.items

-- the labels of a name, a zero, and what is asked of that name
abbrev pub question_bytes : Question → List ℕ
question_bytes question = all_words label_bytes question.name.items ++ (0 ∷ (number_bytes question.kind ++ number_bytes question.class))

-- the head, and the questions
abbrev pub query_bytes : Query → List ℕ
query_bytes query = head_bytes query.head ++ all_words question_bytes query.questions.items

-- a label has from 1 to 63 bytes
abbrev pub IsLabel : Vec ℕ Global → Type 0
IsLabel label = (1 ≤ length label.items) × (length label.items ≤ 63)

-- these are the bytes of a query, in which each label is one, and of as many questions as its head says
pub record IsQuery (bytes : List ℕ) (query : Query) : Type 0 where
  pub all : bytes ≡ query_bytes query
  pub labels : OfEach (λ question. OfEach IsLabel question.name.items) query.questions.items
  pub counted : length query.questions.items ≡ query.head.questions
