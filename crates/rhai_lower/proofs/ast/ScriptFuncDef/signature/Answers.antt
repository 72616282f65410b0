-- The text, from piece to piece.
use Rattle.std.proofs.Common.{◌∙◌, ◌++◌, ap, codes, string_bytes}
use Rattle.std.specs.List.{join_by}
use Rattle.std.specs.Rc.{rc_str_bytes}
use Rattle.rhai_lower.proofs.SignatureLemmas.{signed}
use Rattle.rhai_lower.proofs.ast.ScriptFuncDef.signature.Goals as goal

pub returns : goal.returns
returns c =
    signed c.args.self.now (string_bytes c.in_ok-text.text) (string_bytes c.push_type.new.text)
    (string_bytes c.push_str.new.self)
    (string_bytes c.push_str-2.new.self) (string_bytes c.push_str-3.new.self) (string_bytes c.push_str-4.new.self)
    (string_bytes c.in_ok-params.params)
    (c.in_ok-params.ensures.ok ∙ ap (join_by rc_str_bytes (codes ", ")) c.deref.ensures.value)
    (c.in_ok-text.ensures.ok ∙ c.access.ensures)
    c.in_ok-push_type.ensures
    (c.in_ok-push_str.ensures.bytes ∙ ap (λ t. string_bytes c.push_type.new.text ++ t) c.deref-2.ensures.value)
    c.in_ok-push_str-2.ensures.bytes
    (c.in_ok-push_str-3.ensures.bytes ∙ ap (λ t. string_bytes c.push_str-2.new.self ++ t) c.deref-3.ensures)
    c.in_ok-push_str-4.ensures.bytes
