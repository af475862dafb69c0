use Rattle.std.proofs.Common.{inl, inr, refl, sym, ◌∙◌}
use Rattle.chumsky_recursive.proofs.Parts.{leaf_is}
use Rattle.chumsky_recursive.proofs.following.begin_map.Goals as goal

pub returns-in-Some-clause-begins : goal.returns-in-Some-clause-begins
returns-in-Some-clause-begins g c =
    inr (record {
      number = c.in-Some.n;
      is = leaf_is _ _ (sym c.leaf_at.ensures.is ∙ c.in-Some.is);
      same = refl;
      answer = c.map_leaf.result;
      answers = refl;
      maps_leaf = c.map_leaf.ensures.maps;
    })

pub returns-in-None-clause-begins : goal.returns-in-None-clause-begins
returns-in-None-clause-begins g c = inl (c.wait_if_wanted.ensures.waits, refl, sym c.leaf_at.ensures.is ∙ c.in-None.is)
