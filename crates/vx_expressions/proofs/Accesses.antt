-- What is first in an `acc`, within an expression.
use Rattle.std.proofs.Common.{◌≡◌, refl, Ok, Err}
use Rattle.std.specs.Prelude.{⊤}
use Rattle.vx_ast.specs.declared.Place.{Place}
use Rattle.vx_ast.specs.Written as expr
use Rattle.vx_ast.specs.Written.{Expr, Amount}
use Rattle.vx_expressions.specs.Places.{place_of}
use Rattle.vx_expressions.specs.Settings.{Setting}
use Rattle.vx_expressions.specs.Faults.{Checked, Fault, Impure, ◌>>=◌, check, check_all, read_type, instance_of, check_held, check_share}

done : {X Y : Type 0} (y : Checked X) (k : Checked Y) → (y >>= λ _. k) ≡ ((y >>= λ _. Ok (tt {0})) >>= λ _. k)
done (Ok v) k = refl
done (Err e) k = refl

twice : {X Y Z : Type 0} (x : Checked X) (f : X → Checked Y) (k : Checked Z) → (x >>= λ v. f v >>= λ _. k) ≡ (((x >>= λ v. f v) >>= λ _. Ok (tt {0})) >>= λ _. k)
twice (Ok v) f k = done (f v) k
twice (Err e) f k = refl

abbrev refusal : Fault → Checked ⊤
refusal e = Err e

refused : {X Z : Type 0} (x : Checked X) (e : Fault) (k : Checked Z) → (x >>= λ _. Err e) ≡ ((x >>= λ _. refusal e) >>= λ _. k)
refused (Ok v) e k = refl
refused (Err f) e k = refl

pub access_is : (s : Setting) (at : Place) (e : Expr) (share : Amount) → check s (expr.Access at e share) ≡ (check_held s e >>= λ _. check_share s share >>= λ _. Err (Impure at))
access_is s at (expr.Read p e f) share = twice (check s e) (λ t. read_type s e f t) (check_share s share >>= λ _. Err (Impure at))
access_is s at (expr.Call p i es) share = twice (check_all s es) (λ found. instance_of p i es found (s.member i)) (check_share s share >>= λ _. Err (Impure at))
access_is s at e share = refused (check s e) (Impure (place_of e)) (check_share s share >>= λ _. Err (Impure at))
