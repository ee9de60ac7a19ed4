-- What is held by all that wait, and the references there, one caller more.
use Rattle.std.proofs.Common.{◌≡◌, ℕ, ◌+◌, Bool, true, false, List, [], ◌∷◌, ◌++◌, length, take, get_or, map, reverse, refl, sym, ◌∙◌, ap, ap₂, ◌<◌}
use Rattle.std.specs.Prelude.{flat_map, if◌then◌else◌}
use Rattle.std.proofs.lemmas.List.{take_more}
use Rattle.std.proofs.lemmas.Grind.{flat_map-append}
use Rattle.vx_amounts.proofs.Amounts.{Same, same-refl, same-sym, same-trans, same-lowest', lowest_is, sum_assoc, none-sum, sum_same}
use Rattle.vx_frac.specs.Fractions.{Fraction, lowest, sum}
use Rattle.vx_meaning.specs.States.{Holdings, Resource, same_resource, amount}
use Rattle.vx_run.specs.Configs.{Caller, around}
use Rattle.vx_run.specs.ConfigViews.{caller_of}
use Rattle.vx_run.specs.Referenced.{waiting, in_part}
use Rattle.vx_run.specs.declared.state.Caller.{Caller as Caller'}
use Rattle.vx_run.proofs.Newest.{last_first}

amount_on : (xs ys : Holdings) (r : Resource) → Same (amount (xs ++ ys) r) (sum (amount xs r) (amount ys r))
amount_on [] ys r = same-sym (none-sum (amount ys r))
amount_on (e ∷ xs) ys r = go (same_resource r e.0) (amount_on xs ys r)
  where
    go : (b : Bool) → Same (amount (xs ++ ys) r) (sum (amount xs r) (amount ys r)) →
        Same (if b then sum e.1 (amount (xs ++ ys) r) else amount (xs ++ ys) r) (sum (if b then sum e.1 (amount xs r) else amount xs r) (amount ys r))
    go true h = same-trans (sum_same (same-refl e.1) h) (same-sym (sum_assoc e.1 (amount xs r) (amount ys r)))
    go false h = h

-- amounts of two parts
pub both_held : (xs ys : Holdings) (r : Resource) → lowest (sum (lowest (amount xs r)) (lowest (amount ys r))) ≡ lowest (amount (xs ++ ys) r)
both_held xs ys r = lowest_is (same-trans (sum_same (same-lowest' (amount xs r)) (same-lowest' (amount ys r))) (same-sym (amount_on xs ys r)))

-- one caller more waits
pub one_waits : (ws : List Caller') (i : ℕ) (w : Caller') → i < length ws → w ≡ get_or ws i w → waiting (take (i + 1) ws) ≡ caller_of w ∷ waiting (take i ws)
one_waits ws i w h e = ap waiting (take_more ws i w h ∙ ap (λ (x : Caller'). take i ws ++ x ∷ []) (sym e)) ∙ last_first caller_of (take i ws) w

pub part_on : (all xs ys : Holdings) → in_part all (xs ++ ys) ≡ in_part all xs ++ in_part all ys
part_on all xs ys = flat_map-append _ xs ys
