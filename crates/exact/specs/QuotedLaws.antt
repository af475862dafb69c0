-- What is picked of a token in quotes.
-- Main laws: quoted-by_word, quoted-sound. Read first: Quoted.antt.
use Rattle.std.proofs.Common.{◌≡◌, ℕ, true, Option, Some, List, [], ◌∷◌, sym, ◌∙◌, ap, subst}
use Rattle.std.specs.Prelude.{⊤}
use Rattle.std.specs.Borrow.{Bor}
use Rattle.chumsky_parser.specs.Words.{IsOne}
use Rattle.exact.specs.declared.quoted.Token.{Token}
use Rattle.exact.specs.declared.quoted.Token.TheVariants.{Name, Equals, Quoted}
use Rattle.exact.specs.Quoted.{quoted_text, quoted_word}

-- what is made of a token is what its word decides
pub quoted-by_word : (w : List Token) (v : Token) (x : Option (Bor (List ℕ))) → IsOne (λ t. true) (λ t. v ≡ t) w → x ≡ quoted_text v → x ≡ quoted_word w
quoted-by_word w v x i g = let a : w ≡ v ∷ [] = cc (i.all, i.is) in g ∙ ap quoted_word (sym a)

-- a word that decides a text is that text in quotes
pub quoted-sound : (w : List Token) (text : Bor (List ℕ)) → IsOne (λ (t : Token). true) (λ t. ⊤) w → quoted_word w ≡ Some text → w ≡ Quoted text ∷ []
quoted-sound w text i e = by_token i.token i.all (subst (λ z. quoted_word z ≡ Some text) i.all e)
  where
    by_token : (t : Token) → w ≡ t ∷ [] → quoted_text t ≡ Some text → w ≡ Quoted text ∷ []
    by_token (Name s) a d = absurd (cc d)
    by_token Equals a d = absurd (cc d)
    by_token (Quoted s) a d = let z : s ≡ text = cc d in a ∙ ap (λ u. Quoted u ∷ []) z
