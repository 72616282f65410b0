use Rattle.std.proofs.Common.{arith, rules, ◌≡◌, ℕ, zero, suc, false, refl}
use Rattle.rhai_lower.specs.Positions.{nowhere, place}
use Rattle.rhai_grammar.specs.Messages.{is_nowhere}
use Rattle.rhai_grammar.proofs.message.ParseErrorDisplay.fmt.Goals as goal

somewhere : (line column : ℕ) → ¬ (place line column ≡ nowhere) → is_nowhere (place line column) ≡ false
somewhere zero zero is = absurd (is refl)
somewhere zero (suc column) is = grind arith
somewhere (suc line) column is = grind arith

pub returns-else-is_none-clause-writes : goal.returns-else-is_none-clause-writes
returns-else-is_none-clause-writes g c =
    let p = c.args.self.now.1 in
    let e : is_nowhere p ≡ false = somewhere p.line p.column (λ is. search (rules, c.if-is_none.ensures.1 is)) in
    rw (e, ← c.described.ensures) c.write-else-is_none.ensures.writes
