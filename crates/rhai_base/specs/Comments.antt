-- Doc comments of the code as the definitions see them.
use Rattle.std.specs.Prelude.{List, map}
use Rattle.std.specs.Rc.{rc_str_bytes}
use Rattle.std.specs.declared.alloc.Global.{Global}
use Rattle.std.specs.declared.rc.RcStr.{RcStr}
use Rattle.rhai_lower.specs.Texts.{Text}
use Rattle.rhai_lower.specs.declared.position.Position.{Position}
use Rattle.rhai_grammar.specs.Comments.{Comment}

-- a comment with its position
abbrev pub comment_of : RcStr Global × Position → Comment
comment_of c = record { text = rc_str_bytes c.0; at = c.1 }

abbrev pub comments_of : List (RcStr Global × Position) → List Comment
comments_of cs = map comment_of cs

abbrev pub texts_of : List (RcStr Global) → List Text
texts_of texts = map rc_str_bytes texts
