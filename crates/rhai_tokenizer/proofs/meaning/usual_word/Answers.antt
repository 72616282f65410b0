use Rattle.std.proofs.Common.{◌∙◌, Some, ap, sym}
use Rattle.rhai_lower.specs.Lexemes.{Reserved, lexeme}
use Rattle.rhai_tokenizer.specs.Tables.{lookup, word_table}
use Rattle.rhai_tokenizer.specs.declared.table.Meaning.TheVariants.{Held, Plain}
use Rattle.rhai_tokenizer.proofs.WordLemmas.{word_right}
use Rattle.rhai_tokenizer.proofs.meaning.usual_word.Goals as goal

pub returns-in-Some-Plain-clause-value : goal.returns-in-Some-Plain-clause-value
returns-in-Some-Plain-clause-value c =
    ap lexeme c.fixed_token.ensures.value ∙ sym (word_right c.args.text.now (Plain c.in-Some-Plain.fixed)
    (ap (lookup word_table) (sym c.as_bytes.ensures.value) ∙ (sym c.word_meaning.ensures ∙ (c.in-Some-Plain.is
    ∙ ap (λ m. Some m) c.in-Some-Plain.field-0-is))))

pub returns-in_ok-name-in-Some-Held-clause-value : goal.returns-in_ok-name-in-Some-Held-clause-value
returns-in_ok-name-in-Some-Held-clause-value c =
    ap (λ t. Reserved t) c.in_ok-name-in-Some-Held.ensures ∙ sym (word_right c.args.text.now Held
    (ap (lookup word_table) (sym c.as_bytes.ensures.value) ∙ (sym c.word_meaning.ensures ∙ (c.in-Some-Held.is
    ∙ ap (λ m. Some m) c.in-Some-Held.field-0-is))))
