-- How characters are shown.
use Rattle.std.specs.Prelude.{◌≡◌, ◌+◌, ◌==◌, ◌&&◌, ◌||◌, nat_le, nat_lt, ℕ, Bool}
use Rattle.std.specs.Prelude.{if◌then◌else◌, refl}

-- a control character that has no picture, one that turns the direction of what follows, or one that ends a line
abbrev pub is_hidden : ℕ → Bool
is_hidden c = (nat_le 128 c && nat_le c 159) || ((nat_le 8206 c && nat_le c 8207)
    || ((nat_le 8232 c && nat_le c 8238) || (nat_le 8294 c && nat_le c 8297)))

-- the character that is shown for this one: a tab as it is, each other control character by its picture, and what is
-- hidden as U+FFFD
abbrev pub shown_as : ℕ → ℕ
shown_as c =
    if c == 9 then 9
    else (if nat_lt c 32 then 9216 + c
    else (if c == 127 then 9249
    else (if is_hidden c then 65533 else c)))

-- a line feed is shown by its picture
example : shown_as 10 ≡ 9226
example = refl
