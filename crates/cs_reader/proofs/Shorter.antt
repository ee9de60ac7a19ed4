-- What is read is shorter than what it is read from.
use Rattle.std.proofs.Common.{◌≡◌, suc, ◌<◌, List, [], ◌∷◌, length, Option, Some, None, refl, ap, arith}
use Rattle.vx_sexp.specs.declared.token.Token.{Token}
use Rattle.cs_reader.specs.declared.mark.Name.{Name}
use Rattle.cs_reader.specs.declared.mark.Name.TheVariants as names
use Rattle.cs_reader.specs.declared.mark.Mark.{Mark}
use Rattle.cs_reader.specs.declared.mark.Mark.TheVariants as marks
use Rattle.cs_reader.specs.Marks.{mark}
use Rattle.cs_reader.specs.Items.{◌>>=◌}
use Rattle.cs_reader.specs.Reading.{if_open, if_name, opened_at, name_at, if_certificate, headed_at}

opened_shorter : (ts rest : List Token) → opened_at ts ≡ Some rest → length rest < length ts
unfolding opened_at
opened_shorter [] rest e = cc
opened_shorter (t ∷ ts) rest e = go (mark t) e
  where
    go : (m : Mark) → if_open m ts ≡ Some rest → length rest < suc (length ts)
    go marks.Open e = let p : ts ≡ rest = cc in let q = ap length p in omega arith
    go _ e = cc

name_shorter : (ts : List Token) (n : Name) (rest : List Token) → name_at ts ≡ Some (n, rest) → length rest < length ts
unfolding name_at
name_shorter [] n rest e = cc
name_shorter (t ∷ ts) n rest e = go (mark t) e
  where
    go : (m : Mark) → if_name m ts ≡ Some (n, rest) → length rest < suc (length ts)
    go (marks.Name k) e = let p : ts ≡ rest = ap (λ o. behind o) e in let q = ap length p in omega arith
      where
        behind : Option (Name × List Token) → List Token
        behind (Some x) = x.1
        behind None = ts
    go _ e = cc

pub headed_shorter : (ts rest : List Token) → headed_at ts ≡ Some rest → length rest < length ts
unfolding headed_at
headed_shorter ts rest e = on_open (opened_at ts) refl e
  where
    on_certificate : (first : List Token) (n : Name) (behind : List Token) → if_certificate n behind ≡ Some rest → length behind < length first → length rest < length first
    on_certificate first names.Certificate behind e h = let p : behind ≡ rest = cc in let q = ap length p in omega arith
    on_certificate first _ behind e h = cc

    on_name : (first : List Token) (o : Option (Name × List Token)) → name_at first ≡ o → (o >>= λ n. if_certificate n.0 n.1) ≡ Some rest → length rest < length first
    on_name first None h e = cc
    on_name first (Some x) h e = on_certificate first x.0 x.1 e (name_shorter first x.0 x.1 h)

    on_open : (o : Option (List Token)) → opened_at ts ≡ o → (o >>= λ first. name_at first >>= λ n. if_certificate n.0 n.1) ≡ Some rest → length rest < length ts
    on_open None h e = cc
    on_open (Some first) h e = let a = opened_shorter ts first h in let b = on_name first (name_at first) refl e in omega arith
