-- What a piece decides about the pieces after it.
use Rattle.std.proofs.Common.{◌≡◌, List, Bool, true, false, refl, sym, true≢false}
use Rattle.rhai_lower.specs.declared.token.Token.{Token}
use Rattle.rhai_lower.specs.declared.token.Token.TheVariants as token
use Rattle.rhai_tokenizer.specs.declared.limits.Limits.{Limits}
use Rattle.rhai_tokenizer.specs.CuttingMeanings.{is_comment, operand_after_token}
use Rattle.rhai_tokenizer.specs.Meanings.{after}
use Rattle.rhai_tokenizer.specs.Pieces.{Before, Ticked}
use Rattle.rhai_tokenizer.specs.Strings.{Part, Ending, Closed, Unended, Interpolates}

-- after a text no text goes on
pub leaves : (limits : Limits) (b : Before) (ps : List Part) (e : Ending)
    → (after limits b (Ticked true ps e)).in_text ≡ false
leaves limits b ps Closed = refl
leaves limits b ps Unended = refl
leaves limits b ps Interpolates = refl

-- ---- operands

pub after_comment : (o : Bool) (t : Token) → is_comment t ≡ true → o ≡ operand_after_token o t
after_comment o (token.Comment t) h = refl
after_comment o _ h = absurd (true≢false (sym h))

pub after_other : (o : Bool) (t : Token) → is_comment t ≡ false → operand_after_token false t
    ≡ operand_after_token o t
after_other o (token.Comment t) h = absurd (true≢false h)
after_other o _ h = refl
