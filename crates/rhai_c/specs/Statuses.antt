-- The numbers that C has for how a call ended.
use Rattle.std.specs.Prelude.{◌≡◌, ℕ, refl}
use Rattle.rhai_c.specs.declared.status.Status.{Status}
use Rattle.rhai_c.specs.declared.status.Status.TheVariants.{BadArgument, NoMemory, NotUtf8, Ok, Refused}

-- the number of each
abbrev pub number_of : Status → ℕ
number_of Ok = 0
number_of Refused = 1
number_of NotUtf8 = 2
number_of NoMemory = 3
number_of BadArgument = 4

example : number_of NotUtf8 ≡ 2
example = refl
