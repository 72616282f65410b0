-- The text of a signature, as it grows.
use Rattle.std.proofs.Common.{◌≡◌, ◌∙◌, List, [], ◌∷◌, ◌++◌, ap, codes, map, option_map, refl}
use Rattle.std.specs.List.{flat_map, join_by}
use Rattle.std.specs.Rc.{rc_str_bytes}
use Rattle.std.specs.declared.alloc.Global.{Global}
use Rattle.std.specs.declared.rc.RcStr.{RcStr}
use Rattle.rhai_lower.specs.Signatures.{access, method_type, signature}
use Rattle.rhai_lower.specs.Texts.{Text}
use Rattle.rhai_lower.specs.View.{function_view}
use Rattle.rhai_lower.specs.declared.ast.ScriptFuncDef.{ScriptFuncDef}

others_joined : (sep : Text) (ns : List (RcStr Global))
    → flat_map (λ n. sep ++ rc_str_bytes n) ns ≡ flat_map (λ t. sep ++ t) (map rc_str_bytes ns)
others_joined sep [] = refl
others_joined sep (n ∷ ns) = ap (λ ts. (sep ++ rc_str_bytes n) ++ ts) (others_joined sep ns)

-- the names of parameters
joined : (sep : Text) (ns : List (RcStr Global))
    → join_by rc_str_bytes sep ns ≡ join_by (λ t. t) sep (map rc_str_bytes ns)
joined sep [] = refl
joined sep (n ∷ ns) = ap (λ ts. rc_str_bytes n ++ ts) (others_joined sep ns)

-- what is written so far, from piece to piece
pub signed : (f : ScriptFuncDef) (word typed named opened listed closed params : Text)
    → params ≡ join_by rc_str_bytes (codes ", ") f.params.items
    → word ≡ access f.private
    → typed ≡ word ++ method_type (option_map rc_str_bytes f.this_type)
    → named ≡ typed ++ rc_str_bytes f.name
    → opened ≡ named ++ codes "("
    → listed ≡ opened ++ params
    → closed ≡ listed ++ codes ")"
    → closed ≡ signature (function_view f)
signed f word typed named opened listed closed params e0 e1 e2 e3 e4 e5 e6 =
    let t = e2 ∙ ap (λ x. x ++ method_type (option_map rc_str_bytes f.this_type)) e1 in
    let o = e4 ∙ ap (λ x. x ++ codes "(") (e3 ∙ ap (λ x. x ++ rc_str_bytes f.name) t) in
    let l = e5 ∙ ap (λ x. opened ++ x) (e0 ∙ joined (codes ", ") f.params.items)
    ∙ ap (λ x. x ++ join_by (λ p. p) (codes ", ") (map rc_str_bytes f.params.items)) o in
    e6 ∙ ap (λ x. x ++ codes ")") l
