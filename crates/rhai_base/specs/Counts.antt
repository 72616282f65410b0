-- How counts of functions and active readers change. They count the functions and closures that have begun, the grammar
-- functions that are active, and the greatest number active at once.
use Rattle.std.specs.Prelude.{◌≡◌, ℕ, ◌-◌, ◌^◌, max, refl}
use Rattle.rhai_grammar.specs.Settings.{one_more}
use Rattle.rhai_base.specs.declared.counts.ParseCounts.{ParseCounts}

-- functions and closures begun, grammar functions active, and the greatest number active at once
pub record Counts : Type 0 where
  pub begun : ℕ
  pub active : ℕ
  pub peak : ℕ

-- the counts of the code
abbrev pub counts_of : ParseCounts → Counts
counts_of c = record { begun = c.begun; active = c.active; peak = c.peak }

-- the counts before anything is parsed
abbrev pub none_yet : Counts
none_yet = record { begun = 0; active = 0; peak = 0 }

-- one more function or closure; saturates
abbrev pub with_begun : Counts → Counts
with_begun c = record c { begun = one_more c.begun }

-- one function or closure less; saturates at 0
abbrev pub with_ended : Counts → Counts
with_ended c = record c { begun = c.begun - 1 }

-- one more grammar function is active; saturates, and the peak follows
abbrev pub with_entered : Counts → Counts
with_entered c = record c { active = one_more c.active; peak = max c.peak (one_more c.active) }

-- one grammar function less is active; saturates at 0, and the peak stays
abbrev pub with_left : Counts → Counts
with_left c = record c { active = c.active - 1 }

-- so many grammar functions were active at once elsewhere: the peak is no lower
abbrev pub with_peak : Counts → ℕ → Counts
with_peak c n = record c { peak = max c.peak n }

abbrev counted : ℕ → ℕ → ℕ → Counts
counted begun active peak = record { begun = begun; active = active; peak = peak }

-- Two enter, one leaves, and another enters: two are active, and never were more. At 0 and at the greatest `usize` each
-- count saturates.
example :
    (with_entered (with_left (with_entered (with_entered none_yet))) ≡ counted 0 2 2)
    × (with_left (with_entered (with_entered none_yet)) ≡ counted 0 1 2)
    × (with_begun (with_ended none_yet) ≡ counted 1 0 0)
    × (with_left none_yet ≡ none_yet)
    × (with_peak (counted 0 1 2) 5 ≡ counted 0 1 5)
    × (with_peak (counted 0 1 2) 1 ≡ counted 0 1 2)
    × (with_begun (counted (2 ^ 64 - 1) 0 0) ≡ counted (2 ^ 64 - 1) 0 0)
unfolding one_more
example = (refl, refl, refl, refl, refl, refl, refl)
