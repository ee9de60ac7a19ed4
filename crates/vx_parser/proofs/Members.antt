-- The turns of reading members.
use Rattle.std.proofs.Common.{◌≡◌, ℕ, zero, suc, ◌+◌, ◌-◌, ◌≤◌, ◌<◌, List, [], ◌∷◌, ◌++◌, Result, Ok, Err, true, false, ltb, length, refl, sym, ap, ◌∙◌, arith}
use Rattle.std.proofs.lemmas.List.{length-map}
use Rattle.std.proofs.lemmas.Bool.{lt-ltb, le-ltb}
use Rattle.vx_ast.specs.Written.{Member, Program}
use Rattle.vx_tokens.specs.declared.token.Token as the_token
use Rattle.vx_tokens.specs.Tokens.{Token, tokens_in, token_of}
use Rattle.vx_grammar.specs.StmtReading.{skip_semicolon}
use Rattle.vx_grammar.specs.MemberReading.{limit, Halt, no_member, too_many, begins_member, member_at, members_by, max_members}
use Rattle.vx_parser.specs.declared.stop.MemberStop as the_stop
use Rattle.vx_parser.specs.declared.stop.MemberStop.TheVariants as inner
use Rattle.vx_expr_parser.specs.declared.stop.Stop.TheVariants as stops
use Rattle.vx_parser.specs.declared.program.Halt.TheVariants as halts
use Rattle.vx_parser.specs.Halting.{MemberStops}
use Rattle.vx_parser.specs.Answers.{halt_of, HaltsAt}

abbrev pub Total : Type 0
Total = Result Program Halt

left : (tokens : List the_token.Token) (i : ℕ) → i < length tokens → length (tokens_in tokens) - i ≡ suc (length (tokens_in tokens) - (i + 1))
left tokens i lt = let n = length-map tokens token_of in omega (arith, n, lt)

pub member_on : (tokens : List the_token.Token) (i : ℕ) (before : List Member) (ts : List Token) (t : Token) (us : List Token) (m : Member) (after : List Token) (total : Total) → i < length tokens → ts ≡ t ∷ us → begins_member t.kind ≡ true → length before < max_members → member_at limit t us ≡ Ok (m, after)
    → members_by limit max_members (length (tokens_in tokens) - i) before ts ≡ total → members_by limit max_members (length (tokens_in tokens) - (i + 1)) (before ++ m ∷ []) (skip_semicolon after) ≡ total
unfolding members_by
member_on tokens i before ts t us m after total lt first begins few read so_far =
    let b : ltb (length before) max_members ≡ true = lt-ltb _ _ few in
    let one : members_by limit max_members (length (tokens_in tokens) - i) before ts ≡ members_by limit max_members (length (tokens_in tokens) - (i + 1)) (before ++ m ∷ []) (skip_semicolon after) = rw (left tokens i lt, first, begins, b, read) refl in
    sym one ∙ so_far

pub member_end : (n : ℕ) (before : List Member) (ts : List Token) (total : Total) → ts ≡ [] → members_by limit max_members n before ts ≡ total → total ≡ Ok before
unfolding members_by
member_end zero before ts total none so_far = sym so_far ∙ rw none refl
member_end (suc n) before ts total none so_far = sym so_far ∙ rw none refl

pub member_none : (tokens : List the_token.Token) (i : ℕ) (before : List Member) (ts : List Token) (t : Token) (us : List Token) (total : Total) → i < length tokens → ts ≡ t ∷ us → begins_member t.kind ≡ false
    → members_by limit max_members (length (tokens_in tokens) - i) before ts ≡ total → total ≡ Err (no_member ts)
unfolding members_by
member_none tokens i before ts t us total lt first begins so_far =
    sym so_far ∙ rw (left tokens i lt, first, begins) refl ∙ ap (λ (l : List Token). Err (no_member l)) (sym first)

pub member_many : (tokens : List the_token.Token) (i : ℕ) (before : List Member) (ts : List Token) (t : Token) (us : List Token) (total : Total) → i < length tokens → ts ≡ t ∷ us → begins_member t.kind ≡ true → max_members ≤ length before
    → members_by limit max_members (length (tokens_in tokens) - i) before ts ≡ total → total ≡ Err (too_many ts)
unfolding members_by
member_many tokens i before ts t us total lt first begins many so_far =
    let b : ltb (length before) max_members ≡ false = le-ltb _ _ many in
    sym so_far ∙ rw (left tokens i lt, first, begins, b) refl ∙ ap (λ (l : List Token). Err (too_many l)) (sym first)

pub member_stops : (e : the_stop.MemberStop) (tokens : List the_token.Token) (i : ℕ) (before : List Member) (ts : List Token) (t : Token) (us : List Token) (total : Total) → i < length tokens → ts ≡ t ∷ us → begins_member t.kind ≡ true → length before < max_members → MemberStops e (member_at limit t us)
    → members_by limit max_members (length (tokens_in tokens) - i) before ts ≡ total → HaltsAt (halt_of (halts.Inside e)) total
unfolding members_by
member_stops (inner.Stopped stops.Memory) tokens i before ts t us total lt first begins few read so_far = tt
member_stops (inner.Stopped (stops.Unexpected r)) tokens i before ts t us total lt first begins few read so_far =
    let b : ltb (length before) max_members ≡ true = lt-ltb _ _ few in
    sym so_far ∙ rw (left tokens i lt, first, begins, b, read) refl
member_stops (inner.Stopped (stops.Measured r)) tokens i before ts t us total lt first begins few read so_far =
    let b : ltb (length before) max_members ≡ true = lt-ltb _ _ few in
    sym so_far ∙ rw (left tokens i lt, first, begins, b, read) refl
member_stops (inner.Stopped (stops.TooDeep r)) tokens i before ts t us total lt first begins few read so_far =
    let b : ltb (length before) max_members ≡ true = lt-ltb _ _ few in
    sym so_far ∙ rw (left tokens i lt, first, begins, b, read) refl
member_stops (inner.Bodiless r) tokens i before ts t us total lt first begins few read so_far =
    let b : ltb (length before) max_members ≡ true = lt-ltb _ _ few in
    sym so_far ∙ rw (left tokens i lt, first, begins, b, read) refl
member_stops (inner.MeasuredTwice r) tokens i before ts t us total lt first begins few read so_far =
    let b : ltb (length before) max_members ≡ true = lt-ltb _ _ few in
    sym so_far ∙ rw (left tokens i lt, first, begins, b, read) refl

-- all turns are done, and tokens are left
pub member_left : (tokens : List the_token.Token) (i : ℕ) (before : List Member) (ts : List Token) (total : Total) → length tokens ≤ i → (ts ≡ [] → ⊥) → members_by limit max_members (length (tokens_in tokens) - i) before ts ≡ total → total ≡ Err (no_member ts)
unfolding members_by
member_left tokens i before [] total le some so_far = absurd (some refl)
member_left tokens i before (t ∷ ts) total le some so_far =
    let n = length-map tokens token_of in
    let k : length (tokens_in tokens) - i ≡ 0 = omega (arith, n, le) in
    sym so_far ∙ rw k refl

pub some_tokens : (ts : List the_token.Token) → (length ts ≡ 0 → ⊥) → tokens_in ts ≡ [] → ⊥
some_tokens [] h e = h refl
some_tokens (t ∷ ts) h e = cc
