-- The parser of queries accepts just these.
-- Main laws: query-sound, query-complete, zero_stops, any_number. Read first: Query.antt, QueryPicksLaws.antt.
use Rattle.std.proofs.Common.{◌≡◌, ℕ, ◌≤◌, nat_eq, true, Some, None, List, [], ◌∷◌, ◌++◌, length, refl, sym, ◌∙◌, ap, subst, arith, append_assoc}
use Rattle.std.specs.declared.alloc.Global.{Global}
use Rattle.std.specs.declared.vec.Vec.{Vec}
use Rattle.chumsky_parser.specs.Ending.{Ending, Nowhere, and_then, DoesNotEnd}
use Rattle.chumsky_parser.specs.ItemsLanguage.{ListFrom, IsListFrom}
use Rattle.chumsky_parser.specs.Words.{Joined, taken_of}
use Rattle.chumsky_parser.specs.WordsLaws.{taken_word}
use Rattle.chumsky_primitive.specs.Literals.{equals-same, same-equals}
use Rattle.chumsky_primitive.specs.PrimitiveLanguage.{one_ends, Equals}
use Rattle.chumsky_items.specs.ListLanguage.{Holding}
use Rattle.chumsky_items.specs.ListWords.{RepeatedWord, RepeatedEnd}
use Rattle.chumsky_judge.specs.Picked.{if_picked, IsPick, picked_ends}
use Rattle.chumsky_exact.specs.Rendered.{OfEach, all_words, repeated-written, written-repeated}
use Rattle.chumsky_exact.specs.SoMany.{so_many-written, written-so_many, tokens-so_many, so_many-tokens}
use Rattle.examples.specs.declared.query.Head.{Head}
use Rattle.examples.specs.declared.query.Question.{Question}
use Rattle.examples.specs.declared.query.Query.{Query}
use Rattle.examples.specs.Query.{number_bytes, head_bytes, label_bytes, question_bytes, IsLabel, IsQuery}
use Rattle.examples.specs.QueryPicks.{Holds, label_length, packet_head}
use Rattle.examples.specs.QueryPicksLaws.{Byte, ByteOf, NumberWord, NumberOf, HeadWord, byte, number-sound, number-complete, length-sound, length-read, head-sound, head-read, head-complete}

-- a label: a byte that decides its length, and so many bytes
abbrev pub LabelWord : List ℕ → Type 0
LabelWord w = (n : ℕ) × Joined (λ u. (Byte u × IsPick (label_length u)) × (label_length u ≡ Some n)) (IsListFrom (RepeatedWord (Some n) Byte) (RepeatedEnd n (Some n)) 0) w

abbrev pub LabelOf : List ℕ → Vec ℕ Global → Type 0
LabelOf w label =
    (n : ℕ) × Joined (λ u. Byte u × (label_length u ≡ Some n)) (λ u. Holding (ListFrom (λ j z v. RepeatedWord (Some n) (λ y. ByteOf v y) j z) (RepeatedEnd n (Some n)) 0) Holds u label) w

label-sound : (w : List ℕ) (label : Vec ℕ Global) → LabelOf w label → (w ≡ label_bytes label) × IsLabel label
label-sound w label i =
    let n : ℕ = i.0 in
    let j = i.1 in
    let a = length-sound j.first n j.is_first.0 j.is_first.1 in
    let h = j.is_second in
    let t = tokens-so_many n h.items j.second h.is in
    let v : label.items ≡ h.items = h.held in
    let l : length label.items ≡ n = ap length v ∙ t.1 in
    let s : j.second ≡ label.items = t.0 ∙ sym v in
    (rw (j.all, a.0, s, l) refl, (subst (λ k. 1 ≤ k) (sym l) a.1, subst (λ k. k ≤ 63) (sym l) a.2))

label-complete : (label : Vec ℕ Global) → IsLabel label → LabelWord (label_bytes label)
label-complete label l =
    let n : ℕ = length label.items in
    let r : label_length (n ∷ []) ≡ Some n = length-read n l.0 l.1 in
    (n, record { first = n ∷ []; second = label.items; all = refl; is_first = ((byte n, subst IsPick (sym r) tt), r); is_second = so_many-tokens n label.items refl })

-- labels, and a zero
abbrev pub LabelsWord : List ℕ → Type 0
LabelsWord = Joined (IsListFrom (RepeatedWord None LabelWord) (RepeatedEnd 0 None) 0) (Equals nat_eq (0 ∷ []))

abbrev pub LabelsOf : List ℕ → Vec (Vec ℕ Global) Global → Type 0
LabelsOf w name = Joined (λ u. Holding (ListFrom (λ j z v. RepeatedWord None (λ y. LabelOf y v) j z) (RepeatedEnd 0 None) 0) Holds u name) (Equals nat_eq (0 ∷ [])) w

labels-sound : (w : List ℕ) (name : Vec (Vec ℕ Global) Global) → LabelsOf w name → (w ≡ all_words label_bytes name.items ++ (0 ∷ [])) × OfEach IsLabel name.items
labels-sound w name i =
    let h = i.is_first in
    let r = repeated-written label_bytes 0 IsLabel LabelOf label-sound h.items i.first h.is in
    let z : i.second ≡ 0 ∷ [] = equals-same (0 ∷ []) i.second i.is_second in
    let v : name.items ≡ h.items = h.held in
    (rw (i.all, r.1, z, v) refl, subst (OfEach IsLabel) (sym v) r.0)

labels-complete : (name : Vec (Vec ℕ Global) Global) → OfEach IsLabel name.items → LabelsWord (all_words label_bytes name.items ++ (0 ∷ []))
labels-complete name g = record {
  first = all_words label_bytes name.items;
  second = 0 ∷ [];
  all = refl;
  is_first = written-repeated label_bytes 0 IsLabel LabelWord label-complete name.items g (omega arith);
  is_second = same-equals (0 ∷ []);
}

-- a question: labels, and two numbers
abbrev pub IsQuestion : Question → Type 0
IsQuestion question = OfEach IsLabel question.name.items

abbrev pub QuestionWord : List ℕ → Type 0
QuestionWord = Joined (Joined LabelsWord NumberWord) NumberWord

abbrev pub QuestionOf : List ℕ → Question → Type 0
QuestionOf w question = (v : Vec (Vec ℕ Global) Global × ℕ × ℕ) × Joined (Joined (λ u. LabelsOf u v.0) (NumberOf v.1)) (NumberOf v.2) w × (question ≡ record { name = v.0; kind = v.1; class = v.2 })

shifted : (labels kind class : List ℕ) → ((labels ++ (0 ∷ [])) ++ kind) ++ class ≡ labels ++ (0 ∷ (kind ++ class))
shifted labels kind class =
    let a : ((labels ++ (0 ∷ [])) ++ kind) ++ class ≡ (labels ++ (0 ∷ [])) ++ (kind ++ class) = append_assoc (labels ++ (0 ∷ [])) kind class in
    let b : (labels ++ (0 ∷ [])) ++ (kind ++ class) ≡ labels ++ (0 ∷ (kind ++ class)) = append_assoc labels (0 ∷ []) (kind ++ class) in
    a ∙ b

question-sound : (w : List ℕ) (question : Question) → QuestionOf w question → (w ≡ question_bytes question) × IsQuestion question
question-sound w question i =
    let v = i.0 in
    let a = i.1 in
    let b = a.is_first in
    let l = labels-sound b.first v.0 b.is_first in
    let k = number-sound b.second v.1 b.is_second in
    let c = number-sound a.second v.2 a.is_second in
    let s = shifted (all_words label_bytes v.0.items) (number_bytes v.1) (number_bytes v.2) in
    let e : w ≡ all_words label_bytes v.0.items ++ (0 ∷ (number_bytes v.1 ++ number_bytes v.2)) = rw (a.all, b.all, l.0, k, c) s in
    (subst (λ z. w ≡ question_bytes z) (sym i.2) e, subst IsQuestion (sym i.2) l.1)

question-complete : (question : Question) → IsQuestion question → QuestionWord (question_bytes question)
question-complete question g =
    let labels : List ℕ = all_words label_bytes question.name.items in
    record {
      first = (labels ++ (0 ∷ [])) ++ number_bytes question.kind;
      second = number_bytes question.class;
      all = sym (shifted labels (number_bytes question.kind) (number_bytes question.class));
      is_first = record { first = labels ++ (0 ∷ []); second = number_bytes question.kind; all = refl; is_first = labels-complete question.name g; is_second = number-complete question.kind };
      is_second = number-complete question.class;
    }

-- a head, and as many questions as it says
abbrev pub QueryWord : List ℕ → Type 0
QueryWord w = (h : Head) × Joined (λ u. (HeadWord u × IsPick (packet_head u)) × (packet_head u ≡ Some h)) (IsListFrom (RepeatedWord (Some h.questions) QuestionWord) (RepeatedEnd h.questions (Some h.questions)) 0) w

abbrev pub QueryOf : List ℕ → Head → Vec Question Global → Type 0
QueryOf w head questions =
    Joined (λ u. HeadWord u × (packet_head u ≡ Some head)) (λ u. Holding (ListFrom (λ j z v. RepeatedWord (Some head.questions) (λ y. QuestionOf y v) j z) (RepeatedEnd head.questions (Some head.questions)) 0) Holds u questions) w

-- what a word stands for is its query
pub query-sound : (w : List ℕ) (head : Head) (questions : Vec Question Global) (query : Query) → QueryOf w head questions → query ≡ record { head = head; questions = questions } → IsQuery w query
query-sound w head questions query j e =
    let a = head-sound j.first head j.is_first.0 j.is_first.1 in
    let h = j.is_second in
    let r = so_many-written question_bytes IsQuestion head.questions QuestionOf question-sound h.items j.second h.is in
    let v : questions.items ≡ h.items = h.held in
    let all : w ≡ head_bytes head ++ all_words question_bytes questions.items = rw (j.all, a, r.1, v) refl in
    subst (IsQuery w) (sym e) (record { all = all; labels = subst (OfEach IsQuestion) (sym v) r.0; counted = ap length v ∙ r.2 })

-- and a query is a word
pub query-complete : (w : List ℕ) (query : Query) → IsQuery w query → QueryWord w
query-complete w query i =
    let r = head-read query.head in (
      query.head,
      record {
        first = head_bytes query.head;
        second = all_words question_bytes query.questions.items;
        all = i.all;
        is_first = ((head-complete query.head, subst IsPick (sym r) tt), r);
        is_second = written-so_many question_bytes IsQuestion query.head.questions QuestionWord question-complete query.questions.items i.labels i.counted;
      },
    )

-- where a zero stands no label begins
pub zero_stops : (next : List ℕ → Ending (List ℕ)) (w rest : List ℕ) → Equals nat_eq (0 ∷ []) w → DoesNotEnd (and_then next (picked_ends label_length (one_ends (λ t. true)) (w ++ rest)))
zero_stops next w rest i =
    let e : w ≡ 0 ∷ [] = equals-same (0 ∷ []) w i in
    let n : if_picked (label_length (taken_of (0 ∷ rest) rest)) rest ≡ Nowhere = rw (taken_word (0 ∷ rest) rest (0 ∷ []) refl) refl in
    rw (e, n) tt

-- so many are no more than so many
pub any_number : (n : ℕ) → n ≤ n
any_number n = omega arith
