use Rattle.std.proofs.Common.{rules, Vec, Global, vec_len, ◌≡◌, ◌<◌, ℕ, [], ◌∷◌, ◌++◌, Option, Some, length, slice_set, sym, ◌∙◌, ap, subst}
use Rattle.vx_terms.specs.Views.{term}
use Rattle.cs_numbers.specs.Listed.{terms_in}
use Rattle.cs_numbers.specs.Numbering.{place}
use Rattle.cs_opposites.specs.Found.{AreEntered}
use Rattle.cs_opposites.proofs.Entered.{entered_more}
use Rattle.cs_opposites.proofs.find.enter.Goals as goal

long : (v : Vec (Option ℕ) Global) → vec_len v ≡ length v.items
long v = search rules

pub returns : goal.returns
returns c = λ ts count h.
    let all = terms_in c.args.terms.now in
    let t = term c.args.t.now.value in
    let places = c.args.places.now.items in
    let n = c.in_ok-number.field-0 in
    let lt : n < length places = subst (λ k. n < k) (c.len.ensures ∙ long c.args.places.now) c.if-number-len.false in
    subst (λ p. AreEntered all (ts ++ t ∷ []) (slice_set places n (Some p))) count (entered_more all ts places h t n (ap (λ t. place all (term t)) (sym c.deref.ensures) ∙ c.in_ok-number.ensures) lt)
