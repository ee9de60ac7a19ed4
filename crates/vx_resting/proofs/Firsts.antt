-- What holds the members up, as further runs are looked at.
use Rattle.std.proofs.Common.{◌≡◌, ◌≢◌, ◌<◌, ◌≤◌, ◌+◌, ◌⊎◌, inl, inr, ℕ, Bool, true, false, ◌||◌, nat_eq, List, [], ◌∷◌, ◌++◌, length, get_or, Some, None, Option, take, refl, ap, add-one, arith, sym, subst, ◌∙◌, slice_get}
use Rattle.std.specs.Prelude.{◌↔◌, ◌&&◌}
use Rattle.std.specs.List.{list_all}
use Rattle.std.proofs.lemmas.Bool.{false≢true}
use Rattle.std.proofs.lemmas.Bool.Decides.{eqb_tells}
use Rattle.std.proofs.lemmas.Option.{slice_get_cases}
use Rattle.vx_ast.specs.declared.MemberId.{MemberId}
use Rattle.vx_ast.specs.Syntax.{Program, Member}
use Rattle.vx_closure.specs.Leads.{LeadsTo}
use Rattle.vx_graph.specs.Listed.{is_in}
use Rattle.vx_graph.proofs.Rows.{take_is_in}
use Rattle.vx_report.specs.declared.run.MemberRun.{MemberRun}
use Rattle.vx_resting.specs.Held.{Held, held_at, AreFirst, or_held_by}
use Rattle.vx_resting.specs.Resting.{HoldsUp, IsFirst, has_passed}
use Rattle.vx_types.specs.Closure.{itself}

-- one more item, which has the property or not
first_more : (P : MemberRun → Type 0) (r : MemberRun) (b : Bool) → (b ≡ true → P r) → (b ≡ false → P r → ⊥) → (runs : List MemberRun) (found : Option MemberId) → IsFirst P runs found → IsFirst P (runs ++ r ∷ []) (or_held_by found b r.member)
first_more P r true has lacks [] found e = inl (has refl, ap (λ o. or_held_by o true r.member) e)
first_more P r false has lacks [] found e = inr (lacks refl, ap (λ o. or_held_by o false r.member) e)
first_more P r b has lacks (x ∷ xs) found (inl (holds, e)) = inl (holds, ap (λ o. or_held_by o b r.member) e)
first_more P r b has lacks (x ∷ xs) found (inr (fails, rest)) = inr (fails, first_more P r b has lacks xs found rest)

or_held_by_none : (found : Option MemberId) (m : MemberId) → or_held_by found false m ≡ found
or_held_by_none (Some first) m = refl
or_held_by_none None m = refl

or_held_by_twice : (found : Option MemberId) (a b : Bool) (m : MemberId) → or_held_by (or_held_by found a m) b m ≡ or_held_by found (a || b) m
or_held_by_twice (Some first) a b m = refl
or_held_by_twice None true b m = refl
or_held_by_twice None false b m = refl

-- One more of some members is held up.
pub held_more : (old now new : Held) (ms : List MemberId) (i : ℕ) (m by : MemberId) → i < length ms → m ≡ get_or ms i m → ((n : ℕ) → held_at now n ≡ or_held_by (held_at old n) (is_in (take i ms) n) by) → ((n : ℕ) → held_at new n ≡ or_held_by (held_at now n) (nat_eq m.0 n) by) → (n : ℕ) → held_at new n ≡ or_held_by (held_at old n) (is_in (take (i + 1) ms) n) by
held_more old now new ms i m by within is before marked n =
    marked n ∙ ap (λ o. or_held_by o (nat_eq m.0 n) by) (before n) ∙ or_held_by_twice (held_at old n) (is_in (take i ms) n) (nat_eq m.0 n) by
    ∙ ap (λ b. or_held_by (held_at old n) b by) (sym (take_is_in ms i m within is n)) ∙ ap (λ k. or_held_by (held_at old n) (is_in (take k ms) n) by) (sym (add-one i))

-- A run that passed holds up nothing.
pub first_after_passed : (p : Program) (r : MemberRun) (held : Held) → has_passed r.verdict ≡ true → (runs : List MemberRun) → AreFirst p runs held → AreFirst p (runs ++ r ∷ []) held
first_after_passed p r held passed runs first n below =
    subst (IsFirst (HoldsUp p n) (runs ++ r ∷ [])) (or_held_by_none (held_at held n) r.member)
    (first_more (HoldsUp p n) r false (λ e. absurd (false≢true e)) (λ e h. false≢true (sym h.1 ∙ passed)) runs (held_at held n) (first n below))

leads_to_itself : (p : Program) (n : ℕ) → n < length p → LeadsTo p n n
leads_to_itself p n below = go (slice_get_cases p n).1
  where
    go : ((x : Member) × (n < length p) × (slice_get p n ≡ Some x) × (get_or p n x ≡ x)) ⊎ ((length p ≤ n) × (slice_get p n ≡ None)) → LeadsTo p n n
    go (inl (x, within, e, same)) = (x, x, e, e, itself)
    go (inr (past, e)) = absurd (omega arith)

-- Those that lead to a member are itself and the others.
leading : (p : Program) (m n : ℕ) (others : Bool) → m < length p → (others ≡ true → LeadsTo p n m) → (nat_eq m n || others) ≡ true → LeadsTo p n m
leading p m n others within leads e = go (eqb_tells m n)
  where
    go : ((nat_eq m n ≡ true) × (m ≡ n)) ⊎ ((nat_eq m n ≡ false) × (m ≢ n)) → LeadsTo p n m
    go (inl (t, same)) = subst (λ k. LeadsTo p k m) same (leads_to_itself p m within)
    go (inr (f, other)) = leads (subst (λ b. (b || others) ≡ true) f e)

not_leading : (p : Program) (m n : ℕ) (others : Bool) → (LeadsTo p n m × (n ≢ m) → others ≡ true) → (nat_eq m n || others) ≡ false → LeadsTo p n m → ⊥
not_leading p m n others all e leads = go (eqb_tells m n)
  where
    go : ((nat_eq m n ≡ true) × (m ≡ n)) ⊎ ((nat_eq m n ≡ false) × (m ≢ n)) → ⊥
    go (inl (t, same)) = false≢true (sym (subst (λ b. (b || others) ≡ false) t e))
    go (inr (f, other)) = false≢true (sym (subst (λ b. (b || others) ≡ false) f e) ∙ all (leads, λ same. other (sym same)))

-- A run that didn't pass holds up its member and the others that lead to it.
pub first_after_failed : (p : Program) (r : MemberRun) (others : List MemberId) (old itself_too new : Held) → r.member.0 < length p → has_passed r.verdict ≡ false → ((n : ℕ) → (is_in others n ≡ true) ↔ (LeadsTo p n r.member.0 × (n ≢ r.member.0))) → ((n : ℕ) → held_at itself_too n ≡ or_held_by (held_at old n) (nat_eq r.member.0 n) r.member) → ((n : ℕ) → held_at new n ≡ or_held_by (held_at itself_too n) (is_in others n) r.member) → (runs : List MemberRun) → AreFirst p runs old → AreFirst p (runs ++ r ∷ []) new
first_after_failed p r others old itself_too new within failed leaders by_itself by_others runs first n below =
    let m = r.member.0 in
    let both = nat_eq m n || is_in others n in
    let told : held_at new n ≡ or_held_by (held_at old n) both r.member =
    by_others n ∙ ap (λ o. or_held_by o (is_in others n) r.member) (by_itself n) ∙ or_held_by_twice (held_at old n) (nat_eq m n) (is_in others n) r.member in
    subst (IsFirst (HoldsUp p n) (runs ++ r ∷ [])) (sym told)
    (first_more (HoldsUp p n) r both
    (λ e. (leading p m n (is_in others n) within (λ h. ((leaders n).0 h).0) e, failed))
    (λ e h. not_leading p m n (is_in others n) (leaders n).1 e h.0)
    runs (held_at old n) (first n below))

-- Where all runs passed, nothing is held up.
none_first : (P : MemberRun → Type 0) → ((r : MemberRun) → P r → has_passed r.verdict ≡ false) → (runs : List MemberRun) → list_all (λ r. has_passed r.verdict) runs ≡ true → IsFirst P runs None
none_first P failed [] e = refl
none_first P failed (r ∷ runs) e = go (has_passed r.verdict) refl e (none_first P failed runs)
  where
    go : (b : Bool) → has_passed r.verdict ≡ b → (b && list_all (λ s. has_passed s.verdict) runs) ≡ true → (list_all (λ s. has_passed s.verdict) runs ≡ true → IsFirst P runs None) → IsFirst P (r ∷ runs) None
    go true passed rest none = inr ((λ h. false≢true (sym (failed r h) ∙ passed)), none rest)
    go false passed rest none = absurd (false≢true rest)

pub first_where_all_passed : (p : Program) (runs : List MemberRun) (held : Held) → list_all (λ r. has_passed r.verdict) runs ≡ true → ((n : ℕ) → held_at held n ≡ None) → AreFirst p runs held
first_where_all_passed p runs held passed none n below = subst (IsFirst (HoldsUp p n) runs) (sym (none n)) (none_first (HoldsUp p n) (λ r h. h.1) runs passed)
