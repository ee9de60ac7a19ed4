-- What may follow on the levels of a path: each entry with the declarations that it wants, and the pops.
use Rattle.std.proofs.Common.{◌≡◌, ℕ, zero, suc, ◌+◌, ◌<◌, Bool, true, false, nat_eq, if◌then◌else◌, List, [], ◌∷◌, ◌++◌, length, refl, sym, ◌∙◌, ap, subst, arith}
use Rattle.std.specs.Prelude.{⊤}
use Rattle.vx_terms.specs.Sorts.{Sort, BoolSort}
use Rattle.vx_terms.specs.Terms.{Term, sort_of}
use Rattle.vx_terms.specs.Interpretations.{Each}
use Rattle.vx_smt_meaning.specs.Commands.{Command, Declared, Assert, Push, Level, empty_level, stack_after, stack_from, declared_in}
use Rattle.vx_smt_meaning.specs.Symbols.{UsesDeclared}
use Rattle.vx_smt_meaning.specs.WellFormed.{names, sorts_in, knows_sort, AllMayFollow}
use Rattle.vx_dialogue.specs.Symbols.{with_variables}
use Rattle.vx_dialogue.specs.Preamble.{declarations}
use Rattle.vx_dialogue.specs.Dialogue.{pushed}
use Rattle.vx_dialogue.proofs.Levels.{declared_level}
use Rattle.vx_segments.specs.Segments.{Entry}
use Rattle.vx_dialogue.specs.Segments.{missing, opening, sent, depth, pops}
use Rattle.vx_dialogue.proofs.Extends.{with_missing}
use Rattle.vx_dialogue.proofs.Entries.{filled, entered, enters, sent_first, pushed_join, pushed_onto}

-- ---- one list behind another

pub follow_join : (levels : List Level) (xs ys : List Command) → AllMayFollow levels xs → AllMayFollow (stack_from levels xs) ys → AllMayFollow levels (xs ++ ys)
follow_join levels [] ys e f = f
follow_join levels (c ∷ xs) ys e f = (e.0, follow_join (stack_after c levels) xs ys e.1 f)

pub follow_front : (levels : List Level) (xs ys : List Command) → AllMayFollow levels (xs ++ ys) → AllMayFollow levels xs
follow_front levels [] ys e = tt
follow_front levels (c ∷ xs) ys e = (e.0, follow_front (stack_after c levels) xs ys e.1)

pub follow_back : (levels : List Level) (xs ys : List Command) → AllMayFollow levels (xs ++ ys) → AllMayFollow (stack_from levels xs) ys
follow_back levels [] ys e = e
follow_back levels (c ∷ xs) ys e = follow_back (stack_after c levels) xs ys e.1

-- ---- what may come

-- With these symbols declared on one level over the base, the term's missing ones may be declared, and then the term may be asserted.
pub record MayCome (base : List Level) (ds : List Declared) (t : Term) : Type 0 where
  pub declares : AllMayFollow (record empty_level { symbols = pushed ds [] } ∷ empty_level ∷ base) (declarations (missing ds t))
  pub bool : sort_of t ≡ BoolSort
  pub uses : UsesDeclared (pushed (with_variables ds t) [] ++ declared_in base) t

-- so may entries, one after the other
abbrev pub AllMayCome : List Level → List Declared → List Entry → Type 0
AllMayCome base ds [] = ⊤
AllMayCome base ds (e ∷ es) = MayCome base ds e.term × AllMayCome base (with_variables ds e.term) es

-- the levels declare these symbols over the base, and no sort
pub record Shows (base : List Level) (ds : List Declared) (levels : List Level) : Type 0 where
  pub symbols : declared_in levels ≡ pushed ds [] ++ declared_in base
  pub sorts : sorts_in levels ≡ sorts_in base

pub shows_opened : (base : List Level) (ds : List Declared) (levels : List Level) → Shows base ds levels → Shows base ds (empty_level ∷ levels)
shows_opened base ds levels h = record { symbols = h.symbols; sorts = h.sorts }

shows_filled : (base : List Level) (ds : List Declared) (t : Term) (l : Level) (levels : List Level)
    → Shows base ds (l ∷ levels) → Shows base (with_variables ds t) (filled l (missing ds t) t ∷ levels)
shows_filled base ds t l levels h = record {
  symbols = sym (pushed_onto more l.symbols (declared_in levels)) ∙ ap (pushed more) h.symbols ∙ pushed_onto more (pushed ds []) (declared_in base)
      ∙ ap (λ x. x ++ declared_in base) (sym (pushed_join ds more []) ∙ ap (λ x. pushed x []) (sym (with_missing ds t)));
  sorts = h.sorts;
}
  where
    more : List Declared
    more = missing ds t

-- ---- declarations on other levels

record Alike (levels others : List Level) : Type 0 where
  symbols : declared_in levels ≡ declared_in others
  sorts : sorts_in levels ≡ sorts_in others

declarations_alike : (l : Level) (levels : List Level) (m : Level) (others : List Level) (ds : List Declared) → Alike (l ∷ levels) (m ∷ others)
    → AllMayFollow (l ∷ levels) (declarations ds) → AllMayFollow (m ∷ others) (declarations ds)
declarations_alike l levels m others [] a e = tt
declarations_alike l levels m others (d ∷ ds) a e = (
  record {
    new = subst (λ x. names x d.symbol ≡ false) a.symbols e.0.new;
    takes = subst (λ x. Each (λ (s : Sort). knows_sort x s ≡ true) d.takes) a.sorts e.0.takes;
    gives = subst (λ x. knows_sort x d.gives ≡ true) a.sorts e.0.gives;
  },
  declarations_alike (record l { symbols = d ∷ l.symbols }) levels (record m { symbols = d ∷ m.symbols }) others ds (record { symbols = ap (λ x. d ∷ x) a.symbols; sorts = a.sorts }) e.1,
)

-- a term with its declarations
pub put_follows : (base : List Level) (ds : List Declared) (t : Term) (l : Level) (levels : List Level) → MayCome base ds t → Shows base ds (l ∷ levels)
    → AllMayFollow (l ∷ levels) (declarations (missing ds t) ++ Assert t ∷ [])
put_follows base ds t l levels may h =
    let more = missing ds t in
    follow_join (l ∷ levels) (declarations more) (Assert t ∷ [])
    (declarations_alike (record empty_level { symbols = pushed ds [] }) (empty_level ∷ base) l levels more (record { symbols = sym h.symbols; sorts = sym h.sorts }) may.declares)
    (subst (λ x. AllMayFollow x (Assert t ∷ [])) (sym (declared_level l levels more))
    (record { bool = may.bool; declared = subst (λ x. UsesDeclared x t) (sym (shows_filled base ds t l levels h).symbols) may.uses }, tt))

-- ---- entries

entry_follows : (b : Bool) (base : List Level) (ds : List Declared) (t : Term) (l : Level) (levels : List Level) → MayCome base ds t → Shows base ds (l ∷ levels)
    → AllMayFollow (l ∷ levels) (((if b then [] else (Push 1 ∷ [])) ++ declarations (missing ds t)) ++ Assert t ∷ [])
entry_follows true base ds t l levels may h = put_follows base ds t l levels may h
entry_follows false base ds t l levels may h = (tt, put_follows base ds t empty_level (l ∷ levels) may (shows_opened base ds (l ∷ levels) h))

follows_by : (b : Bool) (base : List Level) (ds : List Declared) (t : Term) (l : Level) (levels : List Level) (cs : List Command)
    → ((m : Level) (ms : List Level) → Shows base (with_variables ds t) (m ∷ ms) → AllMayFollow (m ∷ ms) cs) → Shows base ds (l ∷ levels) → AllMayFollow (entered b l levels (missing ds t) t) cs
follows_by true base ds t l levels cs rest h = rest (filled l (missing ds t) t) levels (shows_filled base ds t l levels h)
follows_by false base ds t l levels cs rest h =
    rest (filled empty_level (missing ds t) t) (l ∷ levels) (shows_filled base ds t empty_level (l ∷ levels) (shows_opened base ds (l ∷ levels) h))

pub sent_follows : (base : List Level) (es : List Entry) (last : ℕ) (ds : List Declared) (l : Level) (levels : List Level) → AllMayCome base ds es → Shows base ds (l ∷ levels)
    → AllMayFollow (l ∷ levels) (sent last ds es)
sent_follows base [] last ds l levels may h = tt
sent_follows base (e ∷ es) last ds l levels may h =
    let b = nat_eq e.segment last in
    let more = missing ds e.term in
    let rest = sent e.segment (with_variables ds e.term) es in
    follow_join (l ∷ levels) ((opening last e ++ declarations more) ++ Assert e.term ∷ []) rest
    (entry_follows b base ds e.term l levels may.0 h)
    (subst (λ x. AllMayFollow x rest) (sym (enters b l levels more e.term))
    (follows_by b base ds e.term l levels rest (λ m ms g. sent_follows base es e.segment (with_variables ds e.term) m ms may.1 g) h))

-- ---- the sorts and the number of levels behind entries

sorts_by : (b : Bool) (ds : List Declared) (l : Level) (levels : List Level) (e : Entry) (cs : List Command)
    → ((m : Level) (ms : List Level) → sorts_in (stack_from (m ∷ ms) cs) ≡ sorts_in (m ∷ ms))
    → sorts_in (stack_from (entered b l levels ds e.term) cs) ≡ sorts_in (l ∷ levels)
sorts_by true ds l levels e cs rest = rest (filled l ds e.term) levels
sorts_by false ds l levels e cs rest = rest (filled empty_level ds e.term) (l ∷ levels)

pub same_sorts : (last : ℕ) (ds : List Declared) (l : Level) (levels : List Level) (ys : List Entry) → sorts_in (stack_from (l ∷ levels) (sent last ds ys)) ≡ sorts_in (l ∷ levels)
same_sorts last ds l levels [] = refl
same_sorts last ds l levels (e ∷ es) =
    ap sorts_in (sent_first last ds l levels e es)
    ∙ sorts_by (nat_eq e.segment last) (missing ds e.term) l levels e (sent e.segment (with_variables ds e.term) es) (λ m ms. same_sorts e.segment (with_variables ds e.term) m ms es)

none_over : (n : ℕ) → n ≡ 0 + n
none_over n = omega arith

one_over : (d n : ℕ) → d + suc (suc n) ≡ suc d + suc n
one_over d n = omega arith

length_by : (b : Bool) (ds : List Declared) (l : Level) (levels : List Level) (e : Entry) (d : ℕ) (cs : List Command)
    → ((m : Level) (ms : List Level) → length (stack_from (m ∷ ms) cs) ≡ d + suc (length ms))
    → length (stack_from (entered b l levels ds e.term) cs) ≡ (if b then d else suc d) + suc (length levels)
length_by true ds l levels e d cs rest = rest (filled l ds e.term) levels
length_by false ds l levels e d cs rest = rest (filled empty_level ds e.term) (l ∷ levels) ∙ one_over d (length levels)

pub length_sent : (last : ℕ) (ds : List Declared) (l : Level) (levels : List Level) (ys : List Entry)
    → length (stack_from (l ∷ levels) (sent last ds ys)) ≡ depth last ys + suc (length levels)
length_sent last ds l levels [] = none_over (suc (length levels))
length_sent last ds l levels (e ∷ es) =
    ap length (sent_first last ds l levels e es)
    ∙ length_by (nat_eq e.segment last) (missing ds e.term) l levels e (depth e.segment es) (sent e.segment (with_variables ds e.term) es)
    (λ m ms. length_sent e.segment (with_variables ds e.term) m ms es)

-- ---- pops

pub pops_follow : (n : ℕ) (levels : List Level) → n < length levels → AllMayFollow levels (pops n)
pops_follow zero levels h = tt
pops_follow (suc n) [] h = absurd (omega arith)
pops_follow (suc n) (l ∷ levels) h = (omega arith, pops_follow n levels (omega arith))
