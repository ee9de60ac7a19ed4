-- Tokens that are whole expressions: how many they are, and that a list of them is one.
use Rattle.std.proofs.Common.{◌≡◌, ℕ, zero, suc, ◌<◌, ◌+◌, ◌-◌, ◌==◌, nat_eq, nat_le, ℤ, pos, negsuc, true, false, List, [], ◌∷◌, ◌++◌, Option, Some, None, codes, length, refl, ap, ◌∙◌, sym, append_assoc, add-one, arith}
use Rattle.std.specs.Prelude.{if◌then◌else◌}
use Rattle.std.proofs.lemmas.Grind.{common_steps}
use Rattle.vx_sexp.specs.declared.token.Kind.{Kind}
use Rattle.vx_sexp.specs.declared.token.Kind.TheVariants as kinds
use Rattle.vx_sexp.specs.declared.token.Token.{Token}
use Rattle.vx_sexp.specs.declared.token.Token.TheVariants.{Open, Close, Atom}
use Rattle.vx_sexp.specs.First.{closes}
use Rattle.vx_terms.specs.Terms.{Term, Truth, Number, Part, Constant, Apply, Not, Binary, Ite, AllOf, SomeOf, Terms, NoTerms, MoreTerms}
use Rattle.vx_smt_meaning.specs.Words.{numeral, decimal, symbol_word, operator_word, listed, signed_tokens, quotient_tokens, term_tokens, terms_tokens}
use Rattle.cs_reader.specs.declared.step.Literal.{Literal}
use Rattle.cs_reader.specs.declared.mark.Name.{Name}
use Rattle.cs_reader.specs.Marks as marks
use Rattle.cs_reader.specs.Items.{◌>>=◌}
use Rattle.cs_reader.specs.Reading.{depth_after, tokens_from}

mutual
  -- one expression
  pub data One : List Token → Type 0 where
    atom : (k : Kind) (x : List ℕ) → One (Atom k x ∷ [])
    list : {ts : List Token} → Many ts → One (listed ts)

  -- expressions one after another
  pub data Many : List Token → Type 0 where
    none : Many []
    one : {ts : List Token} → One ts → Many ts
    join : {ts us : List Token} → Many ts → Many us → Many (ts ++ us)

pub more : (k : Kind) (x : List ℕ) {ts : List Token} → Many ts → Many (Atom k x ∷ ts)
more k x m = join (one (atom k x)) m

-- ---- terms

pub one_signed : (z : ℤ) (f : ℕ → List Token) → ((n : ℕ) → One (f n)) → One (signed_tokens z f)
one_signed (pos n) f h = h n
one_signed (negsuc n) f h = list (more kinds.Symbol (codes "-") (one (h (n + 1))))

one_quotient : (p d : ℕ) → One (quotient_tokens p d)
one_quotient p zero = atom kinds.Decimal (decimal p)
one_quotient p (suc d) = list (more kinds.Symbol (codes "/") (more kinds.Decimal (decimal p) (one (atom kinds.Decimal (decimal (suc d + 1))))))

mutual
  pub one_term : (t : Term) → One (term_tokens t)
  one_term (Truth true) = atom kinds.Symbol (codes "true")
  one_term (Truth false) = atom kinds.Symbol (codes "false")
  one_term (Number z) = one_signed z (λ n. Atom kinds.Numeral (numeral n) ∷ []) (λ n. atom kinds.Numeral (numeral n))
  one_term (Part a) = one_signed a.numerator (λ p. quotient_tokens p a.below) (λ p. one_quotient p a.below)
  one_term (Constant f a) = atom kinds.Symbol (symbol_word f)
  one_term (Apply f a ts) = list (more kinds.Symbol (symbol_word f) (many_terms ts))
  one_term (Not t) = list (more kinds.Symbol (codes "not") (one (one_term t)))
  one_term (Binary o t u) = list (more kinds.Symbol (operator_word o) (join (one (one_term t)) (one (one_term u))))
  one_term (Ite c t u) = list (more kinds.Symbol (codes "ite") (join (join (one (one_term c)) (one (one_term t))) (one (one_term u))))
  one_term (AllOf ts) = list (more kinds.Symbol (codes "and") (many_terms ts))
  one_term (SomeOf ts) = list (more kinds.Symbol (codes "or") (many_terms ts))

  many_terms : (ts : Terms) → Many (terms_tokens ts)
  many_terms NoTerms = none
  many_terms (MoreTerms t ts) = join (one (one_term t)) (many_terms ts)

-- ---- a list of them is one expression

some_of : (n : ℕ) → 0 < n → (n == 0) ≡ false
some_of n e = grind (arith, common_steps)

open_step : (d : ℕ) (us : List Token) → closes d (Open ∷ us) ≡ closes (d + 1) us
open_step d us = let some : (d + 1 == 0) ≡ false = some_of (d + 1) (omega arith) in rw some refl

close_step : (d : ℕ) (us : List Token) → 0 < d → closes (d + 1) (Close ∷ us) ≡ closes d us
close_step d us above =
    let fit : nat_le 1 (d + 1) ≡ true = grind (arith, common_steps) in
    let less : (d + 1) - 1 ≡ d = omega arith in
    let some : (d == 0) ≡ false = some_of d above in
    rw (fit, less, some) refl

atom_step : (k : Kind) (b : List ℕ) (d : ℕ) (us : List Token) → 0 < d → closes d (Atom k b ∷ us) ≡ closes d us
atom_step k b d us above = let some : (d == 0) ≡ false = some_of d above in rw some refl

mutual
  one_within : {ts : List Token} → One ts → (d : ℕ) (us : List Token) → 0 < d → closes d (ts ++ us) ≡ closes d us
  one_within (atom k x) d us above = atom_step k x d us above
  one_within (list {ts = ts} m) d us above =
      open_step d ((ts ++ Close ∷ []) ++ us)
      ∙ (ap (closes (d + 1)) (append_assoc ts (Close ∷ []) us) ∙ (many_within m (d + 1) (Close ∷ us) (omega arith) ∙ close_step d us above))

  many_within : {ts : List Token} → Many ts → (d : ℕ) (us : List Token) → 0 < d → closes d (ts ++ us) ≡ closes d us
  many_within none d us above = refl
  many_within (one o) d us above = one_within o d us above
  many_within (join {ts = ts} {us = us} m n) d vs above =
      ap (closes d) (append_assoc ts us vs) ∙ (many_within m d (us ++ vs) above ∙ many_within n d vs above)

pub closes_one : {ts : List Token} → Many ts → closes 0 (listed ts) ≡ true
closes_one {ts = ts} m = open_step 0 (ts ++ Close ∷ []) ∙ (many_within m (0 + 1) (Close ∷ []) (omega arith) ∙ refl)

-- ---- how many tokens the first expression has

mark_atom : (k : Kind) (x : List ℕ) (d : ℕ) → depth_after (marks.mark (Atom k x)) d ≡ Some d
mark_atom kinds.Numeral x d = go (marks.numeral x)
  where
    go : (o : Option ℕ) → depth_after (marks.by_number o) d ≡ Some d
    go None = refl
    go (Some n) = refl
mark_atom kinds.Symbol x d = go (marks.name x) (marks.literal x)
  where
    go : (o : Option Name) (l : Option Literal) → depth_after (marks.by_name o l) d ≡ Some d
    go (Some n) l = refl
    go None (Some l) = refl
    go None None = refl
mark_atom kinds.Decimal x d = refl
mark_atom kinds.Hexadecimal x d = refl
mark_atom kinds.Binary x d = refl
mark_atom kinds.Keyword x d = refl
mark_atom kinds.Quoted x d = refl
mark_atom kinds.Text x d = refl

-- one more
abbrev after : Option ℕ → Option ℕ
after o = o >>= λ n. Some (suc n)

abbrev counted : ℕ → List Token → Option ℕ
counted e ts = if nat_eq e 0 then Some 1 else after (tokens_from e ts)

goes_on : (e : ℕ) (ts : List Token) → 0 < e → counted e ts ≡ after (tokens_from e ts)
goes_on e ts h = ap (λ b. if b then Some 1 else after (tokens_from e ts)) (some_of e h)

-- so many more as there are tokens
abbrev grown : List Token → Option ℕ → Option ℕ
grown [] o = o
grown (t ∷ ts) o = after (grown ts o)

grown_join : (ts us : List Token) (o : Option ℕ) → grown (ts ++ us) o ≡ grown ts (grown us o)
grown_join [] us o = refl
grown_join (t ∷ ts) us o = ap after (grown_join ts us o)

from_atom : (k : Kind) (x : List ℕ) (d : ℕ) (us : List Token) → 0 < d → tokens_from d (Atom k x ∷ us) ≡ after (tokens_from d us)
from_atom k x d us h = ap (λ o. o >>= λ e. counted e us) (mark_atom k x d) ∙ goes_on d us h

from_open : (d : ℕ) (us : List Token) → tokens_from d (Open ∷ us) ≡ after (tokens_from (d + 1) us)
from_open d us = goes_on (d + 1) us (omega arith)

from_close : (d : ℕ) (us : List Token) → 0 < d → tokens_from (d + 1) (Close ∷ us) ≡ after (tokens_from d us)
from_close d us h = ap (λ e. tokens_from e (Close ∷ us)) (add-one d) ∙ goes_on d us h

mutual
  one_from : {ts : List Token} → One ts → (d : ℕ) (us : List Token) → 0 < d → tokens_from d (ts ++ us) ≡ grown ts (tokens_from d us)
  one_from (atom k x) d us h = from_atom k x d us h
  one_from (list {ts = ts} m) d us h =
      from_open d ((ts ++ Close ∷ []) ++ us)
      ∙ ap after (ap (tokens_from (d + 1)) (append_assoc ts (Close ∷ []) us)
      ∙ (many_from m (d + 1) (Close ∷ us) (omega arith) ∙ (ap (grown ts) (from_close d us h) ∙ sym (grown_join ts (Close ∷ []) (tokens_from d us)))))

  many_from : {ts : List Token} → Many ts → (d : ℕ) (us : List Token) → 0 < d → tokens_from d (ts ++ us) ≡ grown ts (tokens_from d us)
  many_from none d us h = refl
  many_from (one o) d us h = one_from o d us h
  many_from (join {ts = ts} {us = us} m n) d vs h =
      ap (tokens_from d) (append_assoc ts us vs) ∙ (many_from m d (us ++ vs) h ∙ (ap (grown ts) (many_from n d vs h) ∙ sym (grown_join ts us (tokens_from d vs))))

ends : (ts : List Token) → grown ts (Some 1) ≡ Some (length (ts ++ Close ∷ []))
ends [] = refl
ends (t ∷ ts) = ap after (ends ts)

pub counts : {ts : List Token} → One ts → (us : List Token) → tokens_from 0 (ts ++ us) ≡ Some (length ts)
counts (atom k x) us = ap (λ o. o >>= λ e. counted e us) (mark_atom k x 0)
counts (list {ts = ts} m) us =
    from_open 0 ((ts ++ Close ∷ []) ++ us)
    ∙ ap after (ap (tokens_from (0 + 1)) (append_assoc ts (Close ∷ []) us) ∙ (many_from m (0 + 1) (Close ∷ us) (omega arith) ∙ ends ts))
