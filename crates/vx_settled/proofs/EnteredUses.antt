-- What a settled assertion enters or mentions stands among the uses of the expression as it is written.
use Rattle.std.proofs.Common.{◌≡◌, ◌⊎◌, inl, inr, Bool, true, false, not, ◌&&◌, List, ◌∷◌, ◌++◌, sym, subst}
use Rattle.std.specs.Prelude.{if◌then◌else◌}
use Rattle.std.proofs.lemmas.Bool.{and_parts, and_left, and_right}
use Rattle.vx_ast.specs.declared.Place.{Place}
use Rattle.vx_ast.specs.declared.ValueType.TheVariants as type
use Rattle.vx_ast.specs.declared.BinaryOperator.TheVariants as binary
use Rattle.vx_ast.specs.Written as written
use Rattle.vx_ast.specs.Written.{Name}
use Rattle.vx_ast.specs.Resolve.{Names, whole, expression, expressions, amount, is_pure, assertion}
use Rattle.vx_ast.specs.Syntax.{Program, Expr, Exprs, Assertion, Pure, Points, Instance, Both, Implied, Chosen}
use Rattle.vx_ast.specs.Mentions.{mentioned, mentioned_in, mentioned_by}
use Rattle.vx_typing.specs.Uses.{Use, calls, uses, uses_in, uses_of}
use Rattle.vx_expressions.specs.Settings.{Setting}
use Rattle.vx_expressions.specs.Typing as typing
use Rattle.vx_types.specs.Typing.{Scope}
use Rattle.vx_ast.specs.Apart.{Stands, entered_by}
use Rattle.vx_settled.proofs.TypedExprs.{Sees}
use Rattle.vx_settled.proofs.TypedClaims.{pure_value, impure}
use Rattle.vx_settled.proofs.MentionedUses.{on_left, on_right, either_side, IsUsed, Leads, nothing, both, fewer, Covers, value, values, share_of}

-- what is read of an assertion: where x is read, an expression in it mentions x, or it holds an instance of x
pub record Reads (x : Name) (P : Use → Type 0) (read : Assertion → List Name) : Type 0 where
  pub pure : (e : Expr) → Stands x (read (Pure e)) → Stands x (mentioned e)
  pub points : (at : Place) (e : Expr) (f : Name) (share : Expr) → Stands x (read (Points at e f share)) → Stands x (mentioned e ++ mentioned share)
  pub instance : (at q : Place) (i : Name) (es : Exprs) (share : Expr) → Stands x (read (Instance at i es share)) → P (calls q i) ⊎ Stands x (mentioned_in es ++ mentioned share)
  pub both : (a b : Assertion) → Stands x (read (Both a b)) → Stands x (read a ++ read b)
  pub implied : (c : Expr) (a : Assertion) → Stands x (read (Implied c a)) → Stands x (mentioned c ++ read a)
  pub chosen : (c : Expr) (a b : Assertion) → Stands x (read (Chosen c a b)) → Stands x (mentioned c ++ read a ++ read b)

-- what is entered
pub entering : (x : Name) (P : Use → Type 0) → Reads x P entered_by
entering x P = record {
  pure = λ e h. h;
  points = λ at e f share h. h;
  instance = λ at q i es share h. inr h;
  both = λ a b h. h;
  implied = λ c a h. h;
  chosen = λ c a b h. h;
}

-- what is mentioned
abbrev pub IsOf : Name → Use → Type 0
IsOf x u = x ≡ u.name

held : (x i : Name) (q : Place) (xs : List Name) → Stands x (i ∷ xs) → IsOf x (calls q i) ⊎ Stands x xs
held x i q xs h = h

pub mentioning : (x : Name) → Reads x (IsOf x) mentioned_by
mentioning x = record {
  pure = λ e h. h;
  points = λ at e f share h. h;
  instance = λ at q i es share h. held x i q (mentioned_in es ++ mentioned share) h;
  both = λ a b h. h;
  implied = λ c a h. h;
  chosen = λ c a b h. h;
}

pub covers_all : (x : Name) (s : Setting) → Covers x (IsOf x) s
covers_all x s = record { called = λ at f a e. e; opened = λ i ts m e. e }

module _ (x : Name) (P : Use → Type 0) (read : Assertion → List Name) (reads : Reads x P read) where
  -- an instance that is held
  instance_leads : (at q : Place) (i : Name) (es : written.Exprs) (share : written.Amount) → Leads x P (mentioned_in (expressions es)) (uses_in es) → Leads x P (mentioned (amount at share)) (uses_of share)
      → Leads x P (read (Instance at i (expressions es) (amount at share))) (λ rest. uses_in es (calls q i ∷ uses_of share rest))
  instance_leads at q i es share h k = record { lead = λ rest l. go rest l }
    where
      parts : (rest : List Use) → Stands x (mentioned_in (expressions es)) ⊎ Stands x (mentioned (amount at share)) → IsUsed P (uses_in es (calls q i ∷ uses_of share rest))
      parts rest (inl l) = h.lead (calls q i ∷ uses_of share rest) (inl l)
      parts rest (inr l) = h.lead (calls q i ∷ uses_of share rest) (inr (inr (k.lead rest (inl l))))

      either : (rest : List Use) → P (calls q i) ⊎ Stands x (mentioned_in (expressions es) ++ mentioned (amount at share)) → IsUsed P (uses_in es (calls q i ∷ uses_of share rest))
      either rest (inl l) = h.lead (calls q i ∷ uses_of share rest) (inr (inl l))
      either rest (inr l) = parts rest (either_side x (mentioned_in (expressions es)) (mentioned (amount at share)) l)

      go : (rest : List Use) → Stands x (read (Instance at i (expressions es) (amount at share))) ⊎ IsUsed P rest → IsUsed P (uses_in es (calls q i ∷ uses_of share rest))
      go rest (inl l) = either rest (reads.instance at q i (expressions es) (amount at share) l)
      go rest (inr l) = h.lead (calls q i ∷ uses_of share rest) (inr (inr (k.lead rest (inr l))))

  module _ (names : Names) where
    -- of what is pure is read what its expression mentions
    pure_is : (e : written.Expr) → is_pure names e ≡ true → Stands x (read (assertion names e)) → Stands x (mentioned (expression e))
    pure_is (written.Access at e share) h k = (cc)
    pure_is (written.Call at f es) h k = go (names.is_predicate f) h k
      where
        go : (b : Bool) → not b ≡ true → Stands x (read (if b then Instance at f (expressions es) (whole at) else Pure (expression (written.Call at f es)))) → Stands x (mentioned (expression (written.Call at f es)))
        go true h k = (cc)
        go false h k = reads.pure (expression (written.Call at f es)) k
    pure_is (written.Binary at binary.And a b) h k =
        let l = and_parts (is_pure names a) (is_pure names b) h in
        go (pure_is a l.0) (pure_is b l.1) (either_side x (read (assertion names a)) (read (assertion names b)) (reads.both (assertion names a) (assertion names b) k))
      where
        go : (Stands x (read (assertion names a)) → Stands x (mentioned (expression a))) → (Stands x (read (assertion names b)) → Stands x (mentioned (expression b)))
            → Stands x (read (assertion names a)) ⊎ Stands x (read (assertion names b)) → Stands x (mentioned (expression a) ++ mentioned (expression b))
        go f g (inl l) = on_left x (mentioned (expression a)) (mentioned (expression b)) (f l)
        go f g (inr l) = on_right x (mentioned (expression a)) (mentioned (expression b)) (g l)
    pure_is (written.Binary at binary.Implies c a) h k =
        let e = written.Binary at binary.Implies c a in
        reads.pure (expression e) (subst (λ (b : Bool). Stands x (read (if b then Pure (expression e) else Implied (expression c) (assertion names a)))) h k)
    pure_is (written.Choice at c a b) h k =
        let e = written.Choice at c a b in
        reads.pure (expression e) (subst (λ (z : Bool). Stands x (read (if z then Pure (expression e) else Chosen (expression c) (assertion names a) (assertion names b)))) h k)
    pure_is e h k = reads.pure (expression e) k

    module _ (s : Setting) (covers : Covers x P s) (scope : Scope) (p : Program) (sees : Sees s scope names p) where
      -- two sides of which one holds a permission
      sides : (c a b : written.Expr) (at : Place) → typing.HasType s c type.Bool → (is_pure names a && is_pure names b) ≡ false → Leads x P (read (assertion names a)) (uses a) → Leads x P (read (assertion names b)) (uses b)
          → Leads x P (read (assertion names (written.Choice at c a b))) (uses (written.Choice at c a b))
      sides c a b at g e h k =
          subst (λ (z : Bool). Leads x P (read (if z then Pure (expression (written.Choice at c a b)) else Chosen (expression c) (assertion names a) (assertion names b))) (uses (written.Choice at c a b))) (sym e)
          (fewer x P (reads.chosen (expression c) (assertion names a) (assertion names b)) (both x P (both x P (value x P s covers g) h) k))

      mutual
        permission : {e : written.Expr} → typing.IsPermission s e → Leads x P (read (assertion names e)) (uses e)
        permission (typing.location at q {e = e} f {share = share} h k) =
            fewer x P (reads.points at (expression e) f.name (amount at share)) (both x P (value x P s covers h) (share_of x P s covers at k))
        permission (typing.share_of at q i {es = es} {share = share} m h k) = instance_leads at q i es share (values x P s covers h) (share_of x P s covers at k)
        permission (typing.instance at i {es = es} {ts = ts} {has_body = b} m h) =
            subst (λ (z : Bool). Leads x P (read (if z then Instance at i (expressions es) (whole at) else Pure (expression (written.Call at i es)))) (uses (written.Call at i es))) (sym (sees.members.is_predicate i ts b m))
            (instance_leads at at i es written.All (values x P s covers h) (nothing x P))
        permission (typing.left at {a = a} {b = b} h k) = fewer x P (reads.both (assertion names a) (assertion names b)) (both x P (permission h) (claim k))
        permission (typing.right at {a = a} {b = b} h k) = fewer x P (reads.both (assertion names a) (assertion names b)) (both x P (claim h) (permission k))
        permission (typing.implied at {c = c} {a = a} h k) =
            subst (λ (z : Bool). Leads x P (read (if z then Pure (expression (written.Binary at binary.Implies c a)) else Implied (expression c) (assertion names a))) (uses (written.Binary at binary.Implies c a)))
            (sym (impure s scope names p sees k)) (fewer x P (reads.implied (expression c) (assertion names a)) (both x P (value x P s covers h) (permission k)))
        permission (typing.first at {c = c} {a = a} {b = b} g h k) = sides c a b at g (and_left (is_pure names a) (is_pure names b) (impure s scope names p sees h)) (permission h) (claim k)
        permission (typing.second at {c = c} {a = a} {b = b} g h k) = sides c a b at g (and_right (is_pure names a) (is_pure names b) (impure s scope names p sees k)) (claim h) (permission k)

        pub claim : {e : written.Expr} → typing.IsAssertion s e → Leads x P (read (assertion names e)) (uses e)
        claim {e = e} (typing.pure h) = fewer x P (pure_is e (pure_value s scope names p sees h)) (value x P s covers h)
        claim (typing.permission h) = permission h
