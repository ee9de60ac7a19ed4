-- What an expression mentions when it is settled stands among its uses as it is written.
use Rattle.std.proofs.Common.{◌≡◌, ◌⊎◌, inl, inr, true, List, [], ◌∷◌, ◌++◌, Some}
use Rattle.vx_ast.specs.declared.Place.{Place}
use Rattle.vx_ast.specs.declared.ValueType.{ValueType}
use Rattle.vx_ast.specs.declared.BinaryOperator.{BinaryOperator}
use Rattle.vx_ast.specs.declared.BinaryOperator.TheVariants as binary
use Rattle.vx_ast.specs.Written as written
use Rattle.vx_ast.specs.Written.{Name, Placed}
use Rattle.vx_ast.specs.Resolve.{expression, expressions, amount, part_of, binary_of}
use Rattle.vx_ast.specs.Syntax.{Expr, Number}
use Rattle.vx_ast.specs.Mentions.{mentioned, mentioned_in}
use Rattle.vx_typing.specs.Uses.{Use, calls, unfolds_it, uses, uses_in, uses_of}
use Rattle.vx_expressions.specs.Settings.{Setting, IsPredicate}
use Rattle.vx_expressions.specs.Typing as typing
use Rattle.vx_ast.specs.Apart.{Stands}

-- ---- names in lists
pub on_left : (x : Name) (xs ys : List Name) → Stands x xs → Stands x (xs ++ ys)
on_left x [] ys h = absurd h
on_left x (z ∷ xs) ys (inl e) = inl e
on_left x (z ∷ xs) ys (inr h) = inr (on_left x xs ys h)

pub on_right : (x : Name) (xs ys : List Name) → Stands x ys → Stands x (xs ++ ys)
on_right x [] ys h = h
on_right x (z ∷ xs) ys h = inr (on_right x xs ys h)

pub either_side : (x : Name) (xs ys : List Name) → Stands x (xs ++ ys) → Stands x xs ⊎ Stands x ys
either_side x [] ys h = inr h
either_side x (z ∷ xs) ys (inl e) = inl (inl e)
either_side x (z ∷ xs) ys (inr h) = go (either_side x xs ys h)
  where
    go : Stands x xs ⊎ Stands x ys → Stands x (z ∷ xs) ⊎ Stands x ys
    go (inl k) = inl (inr k)
    go (inr k) = inr k

-- the two lists in the other order
pub turned : (x : Name) (xs ys : List Name) → Stands x (xs ++ ys) → Stands x (ys ++ xs)
turned x xs ys h = go (either_side x xs ys h)
  where
    go : Stands x xs ⊎ Stands x ys → Stands x (ys ++ xs)
    go (inl k) = on_right x ys xs k
    go (inr k) = on_left x ys xs k

-- ---- names and uses
-- one of the uses is so
abbrev pub IsUsed : (Use → Type 0) → List Use → Type 0
IsUsed P [] = ⊥
IsUsed P (u ∷ us) = P u ⊎ IsUsed P us

module _ (x : Name) (P : Use → Type 0) where
  -- where x is one of the names, one of the uses that are put before a rest is so; and the rest is kept
  pub record Leads (xs : List Name) (f : List Use → List Use) : Type 0 where
    pub lead : (rest : List Use) → Stands x xs ⊎ IsUsed P rest → IsUsed P (f rest)

  pub nothing : Leads [] (λ rest. rest)
  nothing = record { lead = λ rest h. go rest h }
    where
      go : (rest : List Use) → Stands x [] ⊎ IsUsed P rest → IsUsed P rest
      go rest (inl h) = absurd h
      go rest (inr h) = h

  pub one : (u : Use) (y : Name) → (x ≡ y → P u) → Leads (y ∷ []) (λ rest. u ∷ rest)
  one u y p = record { lead = λ rest h. go rest h }
    where
      go : (rest : List Use) → Stands x (y ∷ []) ⊎ IsUsed P rest → IsUsed P (u ∷ rest)
      go rest (inl (inl e)) = inl (p e)
      go rest (inl (inr h)) = absurd h
      go rest (inr h) = inr h

  pub both : {xs ys : List Name} {f g : List Use → List Use} → Leads xs f → Leads ys g → Leads (xs ++ ys) (λ rest. f (g rest))
  both {xs = xs} {ys = ys} {f = f} {g = g} h k = record { lead = λ rest l. go rest l }
    where
      parts : (rest : List Use) → Stands x xs ⊎ Stands x ys → IsUsed P (f (g rest))
      parts rest (inl l) = h.lead (g rest) (inl l)
      parts rest (inr l) = h.lead (g rest) (inr (k.lead rest (inl l)))

      go : (rest : List Use) → Stands x (xs ++ ys) ⊎ IsUsed P rest → IsUsed P (f (g rest))
      go rest (inl l) = parts rest (either_side x xs ys l)
      go rest (inr l) = h.lead (g rest) (inr (k.lead rest (inr l)))

  pub fewer : {xs ys : List Name} {f : List Use → List Use} → (Stands x ys → Stands x xs) → Leads xs f → Leads ys f
  fewer {xs = xs} {ys = ys} {f = f} less h = record { lead = λ rest l. go rest l }
    where
      go : (rest : List Use) → Stands x ys ⊎ IsUsed P rest → IsUsed P (f rest)
      go rest (inl l) = h.lead rest (inl (less l))
      go rest (inr l) = h.lead rest (inr l)

  -- what is so of each use of x in an expression of this setting: a function is applied, or a predicate is unfolded
  pub record Covers (s : Setting) : Type 0 where
    pub called : (at : Place) (f : Name) → s.applies ≡ true → x ≡ f → P (calls at f)
    pub opened : (i : Placed) (ts : List ValueType) → s.member i.name ≡ Some (IsPredicate ts true) → x ≡ i.name → P (unfolds_it i)

no_parts : (x : Name) (at : Place) (a b : Expr) → Stands x (mentioned (part_of at a b)) → ⊥
no_parts x at (Number p n) (Number q d) h = h
no_parts x at a b h = h

operands : (x : Name) (at : Place) (op : BinaryOperator) (a b : Expr) → Stands x (mentioned (binary_of at op a b)) → Stands x (mentioned a ++ mentioned b)
operands x at binary.Divide a b h = absurd (no_parts x at a b h)
operands x at op a b h = h

module _ (x : Name) (P : Use → Type 0) (s : Setting) (covers : Covers x P s) where
  mutual
    pub value : {e : written.Expr} {t : ValueType} → typing.HasType s e t → Leads x P (mentioned (expression e)) (uses e)
    value (typing.number at n) = nothing x P
    value (typing.truth at b) = nothing x P
    value (typing.nulls at) = nothing x P
    value (typing.whole at) = nothing x P
    value (typing.nothing at) = nothing x P
    value (typing.result at m) = nothing x P
    value (typing.variable at y m) = nothing x P
    value (typing.applies at f {es = es} m a h) =
        fewer x P (turned x (f ∷ []) (mentioned_in (expressions es))) (both x P (values h) (one x P (calls at f) f (covers.called at f a)))
    value (typing.reads at f h m) = value h
    value (typing.nots at h) = value h
    value (typing.negates at h) = value h
    value (typing.operates at {op = op} {a = a} {b = b} o h k) = fewer x P (operands x at op (expression a) (expression b)) (both x P (value h) (value k))
    value (typing.scales at q n h) = value h
    value (typing.fraction at q r n d l) = nothing x P
    value (typing.chooses at g h k) = both x P (both x P (value g) (value h)) (value k)
    value (typing.olds at h o) = value h
    value (typing.unfoldings at i {es = es} {share = share} {e = e} {ts = ts} m h k g) =
        fewer x P (turned x (i.name ∷ []) (mentioned_in (expressions es) ++ mentioned (amount at share) ++ mentioned (expression e)))
        (both x P (both x P (both x P (values h) (share_of at k)) (value g)) (one x P (unfolds_it i) i.name (covers.opened i ts m)))

    pub values : {es : written.Exprs} {ts : List ValueType} → typing.HaveTypes s es ts → Leads x P (mentioned_in (expressions es)) (uses_in es)
    values typing.no_more = nothing x P
    values (typing.more h k) = both x P (value h) (values k)

    pub share_of : (at : Place) {share : written.Amount} → typing.IsShare s share → Leads x P (mentioned (amount at share)) (uses_of share)
    share_of at typing.all = nothing x P
    share_of at (typing.part h m c) = value h
