-- An assertion that is understood is writable.
use Rattle.std.proofs.Common.{◌≡◌, suc, not, true, pos, neg_ℤ, List, [], ◌∷◌, sym, subst, arith}
use Rattle.std.specs.Prelude.{⊤}
use Rattle.vx_frac.specs.Fraction.{ratio}
use Rattle.vx_sexp.specs.Tokens.{is_empty}
use Rattle.vx_terms.specs.Terms.{Term}
use Rattle.vx_terms.specs.Interpretations.{Each}
use Rattle.vx_smt_meaning.specs.Commands.{Command, Assert}
use Rattle.cs_reader.specs.Spelling.{listed}
use Rattle.cs_writable.specs.Writable.{IsSmall, IsWritableTerm, AreWritableTerms, has_some}
use Rattle.cs_commands.specs.Live.{Scope}
use Rattle.cs_commands.specs.Following.{UnderstoodIsWritable}
use Rattle.cs_commands.proofs.Small.{abs_neg, lowest_small}
use Rattle.cs_commands.proofs.ReadTerms.{Keeps, read_keeps}
use Rattle.cs_commands.proofs.ReadCommands.{KeepsCommands, understood_keeps}

have_some : (ts : List Term) → not (is_empty ts) ≡ true → has_some (listed ts) ≡ true
have_some [] some = cc
have_some (t ∷ ts) some = cc

all_writable : (ts : List Term) → Each IsWritableTerm ts → AreWritableTerms (listed ts)
all_writable [] h = tt
all_writable (t ∷ ts) h = (h.0, all_writable ts h.1)

writable_kept : (scope : Scope) → Keeps scope IsWritableTerm
writable_kept scope = record {
  truth = λ b. tt;
  number = λ n small. small;
  negated = λ n h. subst IsSmall (sym (abs_neg n)) h;
  part = λ a low small. small;
  opposite = λ m n h. lowest_small (ratio (neg_ℤ (pos m)) (pos (suc n))) (subst IsSmall (sym (abs_neg m)) h.0, (let end : IsSmall (suc n) = h.1 in omega arith));
  constant = λ d is none. tt;
  applies = λ d ts is h some sorts. (have_some ts some, all_writable ts h);
  nots = λ t h bool. h;
  binary = λ o t u h g takes same. (h, g);
  choices = λ c t u h f g bool same. (h, f, g);
  all_of = λ ts h three bools. (three, all_writable ts h);
  some_of = λ ts h three bools. (three, all_writable ts h);
}

-- ---- commands

abbrev AssertsWritable : Command → Type 0
AssertsWritable (Assert t) = IsWritableTerm t
AssertsWritable c = ⊤

asserts_writable : (scope : Scope) → KeepsCommands scope AssertsWritable
asserts_writable scope = record {
  options = λ x b. tt;
  logics = λ x. tt;
  sorts = λ x new. tt;
  functions = λ d new takes gives. tt;
  asserts = λ ts r reads bool. read_keeps scope IsWritableTerm (writable_kept scope) [] ts r tt reads;
  pushes = λ n. tt;
  pops = λ n. tt;
  checks = tt;
  proofs = tt;
  exits = tt;
}

pub understood_writable : UnderstoodIsWritable
understood_writable scope tokens t e = understood_keeps scope AssertsWritable (asserts_writable scope) tokens (Assert t) e
