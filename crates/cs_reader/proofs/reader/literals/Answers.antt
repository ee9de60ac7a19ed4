use Rattle.std.proofs.Common.{◌≡◌, ℕ, ◌+◌, ◌<◌, List, length, get_or, drop, Option, None, refl, ap, ◌∙◌}
use Rattle.std.proofs.lemmas.List.{at_drop_all}
use Rattle.vx_sexp.specs.declared.token.Token.{Token}
use Rattle.cs_reader.specs.declared.step.Literal.{Literal}
use Rattle.cs_reader.specs.declared.mark.Mark.{Mark}
use Rattle.cs_reader.specs.declared.mark.Mark.TheVariants as marks
use Rattle.cs_reader.specs.Marks.{mark}
use Rattle.cs_reader.specs.Items.{with_front}
use Rattle.cs_reader.specs.Reading.{literals_at, literal_or_close}
use Rattle.cs_reader.proofs.Loops.{here, one_more, closes, no_more}
use Rattle.cs_reader.proofs.reader.literals.Goals as goal

literal_here : (ts : List Token) (n : ℕ) (t : Token) (m : Mark) → n < length ts → t ≡ get_or ts n t → m ≡ mark t → literals_at (drop n ts) ≡ literal_or_close m (drop (n + 1) ts) (literals_at (drop (n + 1) ts))
literal_here = here literals_at literal_or_close (λ t ts. refl)

neither : (m : Mark) (ts : List Token) (later : Option (List Literal × List Token)) → (m ≡ marks.Close → ⊥) → ((x : Literal) → m ≡ marks.Literal x → ⊥) → literal_or_close m ts later ≡ None
neither (marks.Literal x) ts later f g = absurd (g x refl)
neither marks.Close ts later f g = absurd (f refl)
neither _ ts later f g = refl

pub returns-in-Close : goal.returns-in-Close
returns-in-Close c =
    closes literals_at c.loop-at.found.items c.args.tokens.now c.loop-at.at _ c.loop-at.invariant
    (literal_here c.args.tokens.now c.loop-at.at c.index-tokens-at.result _ c.loop-at-test.true c.index-tokens-at.is c.in-Close.ensures.value)

pub returns-in_default : goal.returns-in_default
returns-in_default c =
    no_more literals_at c.loop-at.found.items c.args.tokens.now c.loop-at.at _ c.loop-at.invariant
    (literal_here c.args.tokens.now c.loop-at.at c.index-tokens-at.result _ c.loop-at-test.true c.index-tokens-at.is c.mark_of.ensures.value
    ∙ neither _ _ _ c.in_default.not-Close c.in_default.not-Literal)

pub loop-at-preserved : goal.loop-at-preserved
loop-at-preserved c =
    ap (λ xs. with_front xs (literals_at (drop (c.loop-at.at + 1) c.args.tokens.now))) c.in_ok-push-in-Literal.ensures.items
    ∙ one_more literals_at c.loop-at.found.items c.in-Literal.literal c.args.tokens.now c.loop-at.at _ c.loop-at.invariant
    (literal_here c.args.tokens.now c.loop-at.at c.index-tokens-at.result _ c.loop-at-test.true c.index-tokens-at.is c.in-Literal.ensures.value)

pub returns : goal.returns
returns c = no_more literals_at c.loop-at.found.items c.args.tokens.now c.loop-at.at _ c.loop-at.invariant (at_drop_all literals_at c.args.tokens.now c.loop-at.at c.loop-at-test.false)
