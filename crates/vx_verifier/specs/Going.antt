-- How what a spawner shows goes on, step by step.
use Rattle.std.proofs.Common.{List, [], ◌∷◌, ◌++◌, ap, sym, ◌∙◌, refl, append_assoc}
use Rattle.std.proofs.lemmas.List.{append-nil}
use Rattle.std.proofs.Math.Nat.{le_refl, le_trans}
use Rattle.vx_terms.specs.Interpretations.{Each}
use Rattle.vx_verifier.specs.Outsets.{Hub, Outset, Later}

-- what holds of each of two lists
pub each_join : {A : Type 0} (P : A → Type 0) (xs ys : List A) → Each P xs → Each P ys → Each P (xs ++ ys)
each_join P [] ys all more = more
each_join P (x ∷ xs) ys all more = (all.0, each_join P xs ys all.1 more)

pub later_same : (o : Outset) (h : Hub) → Later o h h
later_same o h = record {
  starts = [];
  started = sym (append-nil h.starts);
  starts_within = tt;
  links = [];
  ended = sym (append-nil h.ended);
  links_within = tt;
  owed = λ lane beyond. refl;
  faults = le_refl h.faults;
  steady = refl;
}

pub later_on : (o : Outset) (g h i : Hub) → Later o g h → Later o h i → Later o g i
later_on o g h i first more = record {
  starts = first.starts ++ more.starts;
  started = more.started ∙ (ap (λ x. x ++ more.starts) first.started ∙ append_assoc g.starts first.starts more.starts);
  starts_within = each_join _ first.starts more.starts first.starts_within more.starts_within;
  links = first.links ++ more.links;
  ended = more.ended ∙ (ap (λ x. x ++ more.links) first.ended ∙ append_assoc g.ended first.links more.links);
  links_within = each_join _ first.links more.links first.links_within more.links_within;
  owed = λ lane beyond. more.owed lane beyond ∙ first.owed lane beyond;
  faults = le_trans first.faults more.faults;
  steady = more.steady ∙ first.steady;
}
