-- A number is printed with one digit more than the power of ten that it reaches.
use Rattle.std.proofs.Common.{◌≡◌, ◌∙◌, ◌+◌, ◌<◌, arith}
use Rattle.rhai_report.proofs.PrintLemmas.{digit_of_0, digits_printed}
use Rattle.rhai_report.proofs.print.digits_of.Goals as goal

pub returns-in-Some-clause-printed : goal.returns-in-Some-clause-printed
returns-in-Some-clause-printed c =
    let p = c.in-Some.power in
    let small : p < 20 = c.in-Some.ensures.bound in
    let power : c.unwrap_or.result ≡ p = grind arith in
    let one : c.saturating_add.result ≡ p + 1 = omega (arith, c.saturating_add.ensures, power, small) in
    one ∙ digits_printed c.args.number p c.ranges.number.fits c.in-Some.ensures.power_le c.in-Some.ensures.next_power_gt

pub returns-in-None-clause-printed : goal.returns-in-None-clause-printed
returns-in-None-clause-printed c = digit_of_0 c.args.number c.in-None.ensures.none
