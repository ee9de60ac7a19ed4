-- A member's checks, as the dialogue of its child tells them, beside the questions of the walk through its tree.
use Rattle.std.specs.Prelude.{◌≡◌, ◌⊎◌, ⊤, List, [], ◌∷◌, ◌++◌, Option, Some, None}
use Rattle.vx_terms.specs.Terms.{Term}
use Rattle.vx_terms.specs.Build.{negate}
use Rattle.vx_terms.specs.Interpretations.{Each, IsSatisfiable, IsUnsatisfiable}
use Rattle.vx_smt_meaning.specs.Dialogues.{Check}
use Rattle.vx_smt_meaning.specs.declared.reply.Reply.{Reply}
use Rattle.vx_smt_meaning.specs.declared.reply.Reply.TheVariants.{Unsat, Sat}
use Rattle.vx_rules.specs.Trees.{Answered}

abbrev pub IsIn : {A : Type 0} → A → List A → Type 0
IsIn x [] = ⊥
IsIn x (y ∷ ys) = (x ≡ y) ⊎ IsIn x ys

-- the same terms, in whatever order and however often
abbrev pub SameSet : List Term → List Term → Type 0
SameSet xs ys = (t : Term) → (IsIn t xs → IsIn t ys) × (IsIn t ys → IsIn t xs)

-- What the check had asserted is the set of this question, its path and its negated condition; and it had this reply.
pub record IsCheckOf (a : Answered) (c : Check) : Type 0 where
  pub set : SameSet c.assertions (negate a.question.condition ∷ a.question.path)
  pub reply : c.reply ≡ Some a.reply

-- one check for each question, in order
abbrev pub AreChecksOf : List Answered → List Check → Type 0
AreChecksOf [] [] = ⊤
AreChecksOf [] (c ∷ cs) = ⊥
AreChecksOf (a ∷ as') [] = ⊥
AreChecksOf (a ∷ as') (c ∷ cs) = IsCheckOf a c × AreChecksOf as' cs

abbrev pub reply_list : Option Reply → List Reply
reply_list None = []
reply_list (Some r) = r ∷ []

-- the replies to checks, in order
abbrev pub replies_to : List Check → List Reply
replies_to [] = []
replies_to (c ∷ cs) = reply_list c.reply ++ replies_to cs

-- an unsat is right where no interpretation makes all true that was asserted
abbrev pub IsRight : Check → Type 0
IsRight c = c.reply ≡ Some Unsat → IsUnsatisfiable c.assertions

-- a sat is right where some interpretation makes all true that was asserted
abbrev pub IsPossible : Check → Type 0
IsPossible c = c.reply ≡ Some Sat → IsSatisfiable c.assertions

-- of the last of some checks; nothing is asked of those before it
abbrev pub LastIsPossible : List Check → Type 0
LastIsPossible [] = ⊤
LastIsPossible (c ∷ []) = IsPossible c
LastIsPossible (c ∷ d ∷ rest) = LastIsPossible (d ∷ rest)

abbrev pub AllUnsat : List Check → Type 0
AllUnsat checks = Each (λ (c : Check). c.reply ≡ Some Unsat) checks
