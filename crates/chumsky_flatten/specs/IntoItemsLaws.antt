-- The laws of the items of an output.
use Rattle.std.proofs.Common.{◌≡◌, ◌+◌, Bool, true, false, Option, Some, None, List, [], ◌∷◌, ◌++◌, length, refl, sym, subst, arith, inl, inr}
use Rattle.std.proofs.lemmas.List.{length-append}
use Rattle.std.specs.Iterator.{Yields}
use Rattle.chumsky_input.specs.Outcome.{Meaning, SameValue, EndsAfterStart, Agreeing}
use Rattle.chumsky_parser.specs.Chained.{Given, Asked}
use Rattle.chumsky_parser.specs.Failure.{wanting}
use Rattle.chumsky_parser.specs.Laws.{chained-ends, chained-agrees, given-ends, given-agrees, asked-ends}
use Rattle.chumsky_parser.specs.Items.{Next, More, End, SameNext, ItemsEnd, ItemsAgree}
use Rattle.chumsky_parser.specs.ItemsLaws.{after_step-ends, after_step-agrees}
use Rattle.chumsky_flatten.specs.Collections.{SameRest, SameItem, AsMany}
use Rattle.chumsky_flatten.specs.IntoItems.{Offers, MakesItem, IteratorOf, BeginsOver, NextOf, GivesNext}
use Rattle.chumsky_parser.specs.Progress.{Moves, ItemsMove}
use Rattle.chumsky_parser.specs.ProgressLaws.{chained-first, asked-moves}

module _ {J A : Type 0} (nexts : J → Option A → J → Type 0) where
  -- one more item of a run of calls
  yields-more : (i : J) (xs : List A) (j : J) (x : A) (k : J) → Yields nexts i xs j → nexts j (Some x) k → Yields nexts i (xs ++ x ∷ []) k
  yields-more i [] j x k y n = (k, subst (λ l. nexts l (Some x) k) (sym y) n, refl)
  yields-more i (z ∷ zs) j x k y n = (y.0, y.1, yields-more y.0 zs j x k y.2 n)

module _ {O J A : Type 0} (makes : O → J → Type 0) (nexts : J → Option A → J → Type 0) (same : O → O → Type 0) where
  -- iterators that were just made of collections that are the same
  pub fresh-same : (o q : O) (i j : J) → same o q → makes o i → makes q j → SameRest makes nexts same i j
  fresh-same o q i j e m n = record { first = o; second = q; are = e; first_given = []; second_given = []; as_many = refl; past_first = (i, m, refl); past_second = (j, n, refl) }

  -- each has given one item more
  pub rest-more : (i j k l : J) (x y : A) → SameRest makes nexts same i j → nexts i (Some x) k → nexts j (Some y) l → SameRest makes nexts same k l
  rest-more i j k l x y r m n =
      let p = r.past_first in
      let q = r.past_second in
      let longer : length (r.first_given ++ x ∷ []) ≡ length r.first_given + 1 = length-append r.first_given (x ∷ []) in
      let longer_too : length (r.second_given ++ y ∷ []) ≡ length r.second_given + 1 = length-append r.second_given (y ∷ []) in
      record {
        first = r.first;
        second = r.second;
        are = r.are;
        first_given = r.first_given ++ x ∷ [];
        second_given = r.second_given ++ y ∷ [];
        as_many = omega (arith, longer, longer_too, r.as_many);
        past_first = (p.0, p.1, yields-more nexts p.0 r.first_given i x k p.2 m);
        past_second = (q.0, q.1, yields-more nexts q.0 r.second_given j y l q.2 n);
      }

  pub item-same : (i j k l : J) (x y : A) → SameRest makes nexts same i j → nexts i (Some x) k → nexts j (Some y) l → SameItem makes nexts same x y
  item-same i j k l x y r m n = record { first = i; second = j; rests = r; first_left = k; second_left = l; of_first = m; of_second = n }

module _ {A : Type 0} (same : A → A → Type 0) where
  offered-same : (w w' : Bool) (x y : A) → same x y → SameValue same (wanting w x) (wanting w' y)
  offered-same true true x y e = e
  offered-same true false x y e = tt
  offered-same false w' x y e = tt

module _ {Tok Cx St Er V : Type 0} (same : V → V → Type 0) (step step' : Meaning Tok Cx St Er V) where
  two_asked : Agreeing same step step' → Agreeing same (Asked true step) (Asked true step')
  two_asked h b c o q l m n = h (record b { wanted = true }) (record c { wanted = true }) o q (record { tokens = l.tokens; start = l.start; context = l.context; state = l.state }) m.run n.run

module _ {Tok Cx St Er S A : Type 0} where
  offers-ends : (v : Option A) (s : S) → EndsAfterStart (Offers {Tok = Tok} {Cx = Cx} {St = St} {Er = Er} v s)
  offers-ends (Some x) s b o m a = given-ends (Some (More (wanting b.wanted x) s)) b o m a
  offers-ends None s b o m a = absurd m

  pub makes_item-ends : (step : Meaning Tok Cx St Er (Next S A)) → EndsAfterStart step → EndsAfterStart (MakesItem step)
  makes_item-ends step h = chained-ends (Asked true step) _ (asked-ends true step h) (after_step-ends Offers (Given (Some End)) offers-ends (given-ends (Some End)))

  pub makes_item-moves : (step : Meaning Tok Cx St Er (Next S A)) → Moves step → Moves (MakesItem step)
  makes_item-moves step h = chained-first (Asked true step) _ (asked-moves true step h) (after_step-ends Offers (Given (Some End)) offers-ends (given-ends (Some End)))

  module _ (same : A → A → Type 0) (alike : S → S → Type 0) where
    offers-agrees : (v w : Option A) (s t : S) → SameValue same v w → alike s t → Agreeing (SameNext same alike) (Offers {Tok = Tok} {Cx = Cx} {St = St} {Er = Er} v s) (Offers w t)
    offers-agrees (Some x) (Some y) s t e l b c o q z m n =
        given-agrees (SameNext same alike) (Some (More (wanting b.wanted x) s)) (Some (More (wanting c.wanted y) t)) (offered-same same b.wanted c.wanted x y e, l) b c o q z m n
    offers-agrees (Some x) None s t e l b c o q z m n = absurd n
    offers-agrees None w s t e l b c o q z m n = absurd m

    pub makes_item-agrees : (step step' : Meaning Tok Cx St Er (Next S A)) → Agreeing (SameNext same alike) step step' → Agreeing (SameNext same alike) (MakesItem step) (MakesItem step')
    makes_item-agrees step step' h =
        chained-agrees (Asked true step) (Asked true step') _ _ (SameNext same alike) (SameNext same alike) (two_asked (SameNext same alike) step step' h)
        (after_step-agrees same alike (SameNext same alike) Offers Offers (Given (Some End)) (Given (Some End)) offers-agrees (given-agrees (SameNext same alike) (Some End) (Some End) tt))

module _ {Tok Cx St Er O J : Type 0} (makes : O → J → Type 0) where
  iterator-ends : (v : Option O) → EndsAfterStart (IteratorOf {Tok = Tok} {Cx = Cx} {St = St} {Er = Er} makes v)
  iterator-ends (Some o) b q m a = given-ends (Some m.0) b q m.2 a
  iterator-ends None b q m a = absurd m

module _ {Tok Cx St Er O J A : Type 0} (makes : O → J → Type 0) (nexts : J → Option A → J → Type 0) (part : Meaning Tok Cx St Er O) where
  next-ends : (j : J) → EndsAfterStart (NextOf {Tok = Tok} {Cx = Cx} {St = St} {Er = Er} nexts j)
  next-ends j b o (inl m) a = given-ends (Some (More (Some m.0) m.1)) b o m.3 a
  next-ends j b o (inr m) a = given-ends (Some End) b o m.2 a

  pub into_items-end : EndsAfterStart part → ItemsEnd (BeginsOver makes part) (GivesNext nexts)
  into_items-end h = record { begin = chained-ends part _ h (iterator-ends makes); step = λ j b o m a. makes_item-ends (NextOf nexts j) (next-ends j) b o m.step a }

  module _ (same : O → O → Type 0) (many : AsMany makes nexts same) where
    iterator-agrees : (v w : Option O) → SameValue same v w → Agreeing (SameRest makes nexts same) (IteratorOf {Tok = Tok} {Cx = Cx} {St = St} {Er = Er} makes v) (IteratorOf makes w)
    iterator-agrees (Some x) (Some y) e b c o q l m n = given-agrees (SameRest makes nexts same) (Some m.0) (Some n.0) (fresh-same makes nexts same x y m.0 n.0 e m.1 n.1) b c o q l m.2 n.2
    iterator-agrees (Some x) None e b c o q l m n = absurd n
    iterator-agrees None w e b c o q l m n = absurd m

    next-agrees : (i j : J) → SameRest makes nexts same i j
        → Agreeing (SameNext (SameItem makes nexts same) (SameRest makes nexts same))
        (NextOf {Tok = Tok} {Cx = Cx} {St = St} {Er = Er} nexts i) (NextOf nexts j)
    next-agrees i j r b c o q l (inl m) (inl n) =
        given-agrees (SameNext (SameItem makes nexts same) (SameRest makes nexts same)) (Some (More (Some m.0) m.1)) (Some (More (Some n.0) n.1))
        (item-same makes nexts same i j m.1 n.1 m.0 n.0 r m.2 n.2, rest-more makes nexts same i j m.1 n.1 m.0 n.0 r m.2 n.2) b c o q l m.3 n.3
    next-agrees i j r b c o q l (inl m) (inr n) = absurd (many i j m.1 n.0 (Some m.0) None r m.2 n.1)
    next-agrees i j r b c o q l (inr m) (inl n) = absurd (many i j m.0 n.1 None (Some n.0) r m.1 n.2)
    next-agrees i j r b c o q l (inr m) (inr n) = given-agrees (SameNext (SameItem makes nexts same) (SameRest makes nexts same)) (Some End) (Some End) tt b c o q l m.2 n.2

    pub into_items-agree : Agreeing same part part → ItemsAgree (SameItem makes nexts same) (SameRest makes nexts same) (BeginsOver makes part) (GivesNext nexts)
    into_items-agree h =
        record {
          begin = chained-agrees part part _ _ same (SameRest makes nexts same) h iterator-agrees;
          step = λ i j r b c o q z m n. makes_item-agrees (SameItem makes nexts same) (SameRest makes nexts same) (NextOf nexts i) (NextOf nexts j) (next-agrees i j r) b c o q z m.step n.step;
        }

module _ {Tok Cx St Er O J : Type 0} (makes : O → J → Type 0) (part : Meaning Tok Cx St Er O) where
  -- the items of an output, whose parser moves
  pub into_items-move : {V : Type 0} (gives : J → Meaning Tok Cx St Er (Next J V)) → Moves part → ItemsMove (BeginsOver makes part) gives
  into_items-move gives h = record { by = inl (chained-first part _ h (iterator-ends makes)) }
