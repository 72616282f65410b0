-- Worked examples of closures' names.
use Rattle.std.specs.Prelude.{◌≡◌, ◌^◌, ◌-◌, codes, refl}
use Rattle.rhai_grammar.specs.Closures.{closure_name, last_hex_digits}

-- The first closure's name, that of number 3054, and the last possible one.
example :
    (closure_name 0 ≡ codes "anon$0000000000000000")
    × (closure_name 3054 ≡ codes "anon$0000000000000bee")
    × (closure_name (2 ^ 64 - 1) ≡ codes "anon$ffffffffffffffff")
unfolding last_hex_digits
example = (refl, refl, refl)
