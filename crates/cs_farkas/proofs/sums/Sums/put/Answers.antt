use Rattle.std.proofs.Common.{arith, rules, ℕ, ◌<◌, Vec, Global, vec_len, subst, length, sym, ◌∙◌, ◌-◌, ◌+◌, ◌≡◌, ◌≤◌}
use Rattle.vx_frac.specs.declared.Frac.{Frac}
use Rattle.cs_farkas.specs.Columns.{other_than_zero}
use Rattle.cs_farkas.proofs.Counted.{counted, fits_after, one_is_in}
use Rattle.cs_farkas.proofs.sums.Sums.put.Goals as goal

long : (v : Vec Frac Global) → vec_len v ≡ length v.items
long v = search rules

below : (a b n : ℕ) → a ≤ b → b < n → a < n
below a b n h k = omega arith

pub overflow_add-self : goal.overflow_add-self
overflow_add-self c =
    let h = c.args.self.now.counted in
    let k : c.len-width.result ≡ length c.args.self.now.columns.items = c.len-width.ensures ∙ long c.args.self.now.columns in
    let b : c.args.self.now.others - c.other_than_zero.result + c.other_than_zero-2.result ≤ c.len-width.result =
    rw (c.other_than_zero.ensures, c.other_than_zero-2.ensures) (fits_after c.args.self.now.columns.items c.args.at c.index-before.result.now c.args.sum c.args.self.now.others c.len-width.result h c.requires c.index-before.ensures k) in
    record { fits = below _ _ _ b c.len-width.type_inv }

pub invariant_of-self : goal.invariant_of-self
invariant_of-self c = record {
  counted = rw (c.other_than_zero.ensures, c.other_than_zero-2.ensures) (counted c.args.self.now.columns.items c.args.at c.index-before.result.now c.args.sum c.args.self.now.others c.args.self.now.counted c.requires c.index-before.ensures);
}

pub overflow_sub-self : goal.overflow_sub-self
overflow_sub-self c = rw c.other_than_zero.ensures (subst (λ n. other_than_zero c.index-before.result.now ≤ n) (sym c.args.self.now.counted) (one_is_in c.args.self.now.columns.items c.args.at c.index-before.result.now c.requires c.index-before.ensures))
