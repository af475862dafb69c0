-- Derivations are the answers under any limit, and agree; along their calls the places never fall.
use Rattle.std.proofs.Common.{ℕ, zero, suc, ◌≤◌, slice_get, sym, subst, arith}
use Rattle.chumsky_input.specs.declared.error.Error as error_trait
use Rattle.chumsky_input.specs.declared.inspector.Inspector as inspector_trait
use Rattle.chumsky_input.specs.declared.input.Input as input_trait
use Rattle.chumsky_input.specs.Outcome.{Agreeing, IsAnswer}
use Rattle.chumsky_rules.specs.Tables.{Tables}
use Rattle.chumsky_recursive.specs.Means.{Acts, call_means}
use Rattle.chumsky_recursive.specs.MeansLaws.{ActsAgree, ActsEnd}
use Rattle.chumsky_recursive.specs.Going.{call-goes}
use Rattle.chumsky_recursive.specs.LimitLaws.{HasAnswers, Carries, carries, carries_on, StaysIn, body-has, limits-agree}
use Rattle.chumsky_recursive.specs.Derives.{Derives, calls_along}

module _ {I Tok Sp Cu Er St Mk Cx V : Type 0} (source : input_trait.Ghosts I Cu Tok Sp)
    (errors : error_trait.Ghosts Er I Tok Sp) (states : inspector_trait.Ghosts St I Mk Tok Sp)
    (a : Acts Tok Cx states.Seen errors.Seen V) where
  -- an answer under a limit is derived
  pub derived : (g : Tables) (limit r : ℕ) → HasAnswers (call_means source errors states a g limit r) (Derives source errors states a g r)
  derived g limit r b o y m = record { depth = limit; meant = m; answers = y }

  -- two derivations agree, however deep they are
  pub derivations-agree : (same : V → V → Type 0) → ActsAgree same a → (g : Tables) (r : ℕ) → Agreeing same (Derives source errors states a g r) (Derives source errors states a g r)
  derivations-agree same h g r b c o q alike m n y z = limits-agree source errors states a same h g m.depth n.depth r b c o q alike m.meant n.meant y z

  -- where no leaf ends before its start, no call begins before the call that makes it
  module _ (ends : ActsEnd a) (g : Tables) where
    leaf_stays : (p n : ℕ) → StaysIn (λ q. p ≤ q) (a.leaf n)
    leaf_stays p n b o m v y i = let e = ends.leaf n b o m (subst IsAnswer (sym y) tt) in omega arith

    -- each answer of a call is one of calls that begin no earlier than the calls that make them
    pub calls-onward : (more r : ℕ) → HasAnswers (call_means source errors states a g more r) (calls_along source errors states a (λ outer inner. outer ≤ inner) g more r)
    unfolding call_means calls_along
    calls-onward zero r b o y m = m
    calls-onward (suc more) r b o y m =
        let from : ℕ → Type 0 = λ q. b.start ≤ q in
        body-has from source errors states a (leaf_stays b.start) (call_means source errors states a g more)
        (λ s c q. (b.start ≤ c.start) × calls_along source errors states a (λ outer inner. outer ≤ inner) g more s c q)
        (call-goes (Carries from) (carries from) (carries_on from) source errors states a (leaf_stays b.start) g more)
        (λ s c q i z x. (i, calls-onward more s c q z x)) g.nodes (slice_get g.bodies r) b o (omega arith) y m
