-- How the lanes' links are handed back, the last one first.
use Rattle.std.proofs.Common.{◌≡◌, ℕ, zero, suc, ◌+◌, ◌<◌, ◌≤◌, Bool, ◌++◌, ◌∷◌, [], List, Some, length, map, slice_get, refl, ap, ◌∙◌, sym, subst, arith, ◌⊎◌, inl, inr}
use Rattle.vx_ends.specs.declared.piece.Piece.{Piece}
use Rattle.vx_smt_meaning.specs.Views.{declared_symbol}
use Rattle.vx_pool.specs.Events.{Event}
use Rattle.vx_report.specs.declared.run.Cause.{Cause}
use Rattle.vx_verifier.specs.declared.line.Line.{Line}
use Rattle.vx_verifier.specs.declared.members.Members.{Members}
use Rattle.vx_verifier.specs.Going.{later_on, later_same}
use Rattle.vx_verifier.specs.Lanes.{IsBack, IsHeld, IsToldOf, TellsOf}
use Rattle.vx_verifier.specs.Outsets.{Hub, Outset, Later, Moved}
use Rattle.vx_verifier.specs.Verifying.{AreHeldOver, AreNumbered}
use Rattle.vx_verifier.proofs.Moved.{held_on, tells_on, told_on, back_on, moved_later}

same_or_more : (i n : ℕ) → n ≤ i → (i ≡ n) ⊎ (n + 1 ≤ i)
same_or_more zero zero more = inl refl
same_or_more zero (suc n) more = absurd (omega arith)
same_or_more (suc i) zero more = inr (omega arith)
same_or_more (suc i) (suc n) more = elim (same_or_more i n (omega arith)) [ inl e ↦ inl (ap suc e) | inr h ↦ inr (omega arith) ]

module _ {K L : Type 0} (dialogue : L → List Piece) (steady : L → Bool) (faults : L → ℕ) (o : Outset) (old : Hub) where
  -- Of all lanes so many are left: these are held, and tell what they told; the others are handed back, and their links tell it.
  pub record Ends (now : Hub) (all left : List (Members K × Line K L)) : Type 0 where
    pub few : length left ≤ length all
    pub kept : (i : ℕ) (l : Members K × Line K L) → slice_get left i ≡ Some l → slice_get all i ≡ Some l
    pub held : AreHeldOver steady faults o now left
    pub tells : (i : ℕ) (l : Members K × Line K L) → slice_get left i ≡ Some l → (events : List (Event Cause)) → TellsOf dialogue o l.1.lane l.1.child old events → TellsOf dialogue o l.1.lane l.1.child now events
    pub back : (i : ℕ) → length left ≤ i → i < length all → IsBack o i now
    pub told : (i : ℕ) (l : Members K × Line K L) → length left ≤ i → slice_get all i ≡ Some l → (events : List (Event Cause)) → TellsOf dialogue o l.1.lane l.1.child old events → IsToldOf o l.1.lane now events
    pub numbered : AreNumbered all
    pub steady_is : old.steady ≡ o.first.steady
    pub later : Later o old now

  within_all : (xs : List (Members K × Line K L)) (i : ℕ) (x : Members K × Line K L) → slice_get xs i ≡ Some x → i < length xs
  within_all [] i x is = absurd (cc)
  within_all (y ∷ xs) zero x is = omega arith
  within_all (y ∷ xs) (suc i) x is = let h = within_all xs i x is in omega arith

  pub ends_first : (all : List (Members K × Line K L)) → AreHeldOver steady faults o old all → AreNumbered all → old.steady ≡ o.first.steady → Ends old all all
  ends_first all held numbered steady_is = record {
    few = omega arith;
    kept = λ i l at. at;
    held = held;
    tells = λ i l at events tells. tells;
    back = λ i far near. absurd (not_both i (length all) near far);
    told = λ i l far at. absurd (not_both i (length all) (within_all all i l at) far);
    numbered = numbered;
    steady_is = steady_is;
    later = later_same o old;
  }
    where
      not_both : (a b : ℕ) → a < b → b ≤ a → ⊥
      not_both a b less more = omega arith

  last_at : (xs : List (Members K × Line K L)) (x : Members K × Line K L) → slice_get (xs ++ x ∷ []) (length xs) ≡ Some x
  last_at [] x = refl
  last_at (y ∷ xs) x = last_at xs x

  front_at : (xs : List (Members K × Line K L)) (x : Members K × Line K L) (i : ℕ) (y : Members K × Line K L) → slice_get xs i ≡ Some y → slice_get (xs ++ x ∷ []) i ≡ Some y
  front_at [] x i y is = absurd (cc)
  front_at (z ∷ xs) x zero y is = is
  front_at (z ∷ xs) x (suc i) y is = front_at xs x i y is

  longer : (xs : List (Members K × Line K L)) (x : Members K × Line K L) → length (xs ++ x ∷ []) ≡ length xs + 1
  longer [] x = refl
  longer (y ∷ xs) x = let h = longer xs x in omega arith

  one_is : (a b : Members K × Line K L) (xs : List (Members K × Line K L)) (i : ℕ) → slice_get xs i ≡ Some a → slice_get xs i ≡ Some b → a ≡ b
  one_is a b xs i is also = cc

  -- the last of those that are left is held
  pub ends_held : (now : Hub) (all left rest : List (Members K × Line K L)) (l : Members K × Line K L) → Ends now all left → left ≡ rest ++ l ∷ []
      → IsHeld steady faults o l.1.lane l.1.command.now (map declared_symbol l.1.functions.now) l.1.child now
  ends_held now all left rest l e is = e.held (length rest) l (ap (λ xs. slice_get xs (length rest)) is ∙ last_at rest l)

  -- the last of those that are left is handed back
  pub ends_on : (now new : Hub) (all left rest : List (Members K × Line K L)) (l : Members K × Line K L) → Ends now all left → left ≡ rest ++ l ∷ [] → IsBack o l.1.lane new
      → ((events : List (Event Cause)) → TellsOf dialogue o l.1.lane l.1.child now events → IsToldOf o l.1.lane new events) → Moved l.1.lane now new → Ends new all rest
  ends_on now new all left rest l e is back told moved =
      let n = length rest in
      let count : length left ≡ n + 1 = ap length is ∙ longer rest l in
      let last : slice_get left n ≡ Some l = ap (λ xs. slice_get xs n) is ∙ last_at rest l in
      let number : l.1.lane ≡ n = e.numbered n l (e.kept n l last) in
      let few = e.few in
      let in_left : (i : ℕ) (x : Members K × Line K L) → slice_get rest i ≡ Some x → slice_get left i ≡ Some x = λ i x at. ap (λ xs. slice_get xs i) is ∙ front_at rest l i x at in
      let apart : (i : ℕ) (x : Members K × Line K L) → slice_get rest i ≡ Some x → x.1.lane ≡ l.1.lane → ⊥ = λ i x at same.
      less_not i n (within_all rest i x at) (sym (e.numbered i x (e.kept i x (in_left i x at))) ∙ (same ∙ number)) in
      let far_apart : (i : ℕ) → n + 1 ≤ i → i ≡ l.1.lane → ⊥ = λ i far same. more_not i n far (same ∙ number) in
      let before : now.steady ≡ o.first.steady = e.later.steady ∙ e.steady_is in
      let within : l.1.lane < o.jobs = (e.held n l last).within in
      record {
        few = omega arith;
        kept = λ i x at. e.kept i x (in_left i x at);
        held = λ i x at. held_on dialogue steady faults o l.1.lane x.1.lane x.1.child now new (apart i x at) moved x.1.command.now (map declared_symbol x.1.functions.now) (e.held i x (in_left i x at));
        tells = λ i x at events tells. tells_on dialogue steady faults o l.1.lane x.1.lane x.1.child now new (apart i x at) moved events (e.tells i x (in_left i x at) events tells);
        back = λ i far near. elim (same_or_more i n far) [
          | inl same ↦ subst (λ k. IsBack o k new) (number ∙ sym same) back
          | inr more ↦ back_on o l.1.lane i now new (far_apart i more) moved before (e.back i (subst (λ k. k ≤ i) (sym count) more) near)
        ];
        told = λ i x far at events tells. elim (same_or_more i n far) [
          | inl same ↦
              let this : x ≡ l = one_is x l all n (ap (slice_get all) (sym same) ∙ at) (e.kept n l last) in
              subst (λ (y : Members K × Line K L). IsToldOf o y.1.lane new events) (sym this)
              (told events (e.tells n l last events (subst (λ (y : Members K × Line K L). TellsOf dialogue o y.1.lane y.1.child old events) this tells)))
          | inr more ↦
              told_on o l.1.lane x.1.lane now new (λ same. far_apart i more (sym (e.numbered i x at) ∙ same)) moved events (e.told i x (subst (λ k. k ≤ i) (sym count) more) at events tells)
        ];
        numbered = e.numbered;
        steady_is = e.steady_is;
        later = later_on o old now new e.later (moved_later o l.1.lane now new within moved);
      }
    where
      less_not : (a b : ℕ) → a < b → a ≡ b → ⊥
      less_not a b less same = omega arith

      more_not : (a b : ℕ) → b + 1 ≤ a → a ≡ b → ⊥
      more_not a b more same = omega arith
