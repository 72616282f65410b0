-- What the code reads of a string.
use Rattle.std.specs.Prelude.{◌≡◌, ℕ, ◌+◌, ◌≤◌, ◌++◌, Option, Some, None, take, drop, length}
use Rattle.std.specs.List.{concat}
use Rattle.std.specs.Rc.{rc_str_bytes}
use Rattle.std.specs.Str.{IsCharBoundary, IsUtf8}
use Rattle.rhai_lower.specs.Texts.{Text}
use Rattle.rhai_tokenizer.specs.declared.place.Place.{Place}
use Rattle.rhai_tokenizer.specs.declared.strings.Content.{Content}
use Rattle.rhai_tokenizer.specs.declared.strings.Fault.{Fault as CodeFault}
use Rattle.rhai_tokenizer.specs.Bytes.{spaces}
use Rattle.rhai_tokenizer.specs.CuttingStrings.{parts_from, part_at, ending_at, ending_after}
use Rattle.rhai_tokenizer.specs.Places.{past}
use Rattle.rhai_tokenizer.specs.Runs.{run_from}
use Rattle.rhai_tokenizer.specs.Strings.{Ending, Style, Fault, ending_letters, string_value, string_letters}
use Rattle.rhai_tokenizer.specs.Strings.{first_fault, or_fault, past_column}

abbrev pub fault_of : Option CodeFault → Option Fault
fault_of None = None
fault_of (Some f) = Some (record { text = rc_str_bytes f.text; place = f.place })

abbrev pub end_of : Style → Text → Ending
end_of style t = ending_after style (parts_from style 0 t) t

abbrev pub letters_of : Style → Text → Text
letters_of style t = string_letters style (parts_from style 0 t) (end_of style t)

abbrev pub value_of : Style → (column : ℕ) → Place → Text → Text
value_of style column place t = string_value style column place (parts_from style 0 t)

abbrev pub wrong_of : Style → Place → Text → Option Fault
wrong_of style place t = first_fault style place (parts_from style 0 t) (end_of style t)

-- what the text says from here on is this, and what it says after so many bytes
pub record Goes (style : Style) (column : ℕ) (place : Place) (t : Text) (n : ℕ) (value : Text)
    (fault : Option Fault) : Type 0 where
  pub values : value_of style column place t ≡ value ++ value_of style column (past place (take n t)) (drop n t)
  pub faults : wrong_of style place t ≡ or_fault fault (wrong_of style (past place (take n t)) (drop n t))
  pub ends : end_of style t ≡ end_of style (drop n t)
  pub letters : letters_of style t ≡ take n t ++ letters_of style (drop n t)
  pub within : n ≤ length t

-- a front of the text joined the value, and its fault the first one
pub record Took (style : Style) (column : ℕ) (place : Place) (t : Text) (n : ℕ) (old new : Text)
    (fault fault' : Option CodeFault) : Type 0 where
  pub value : Text
  pub fault_is : Option Fault
  pub goes : Goes style column place t n value fault_is
  pub values : new ≡ old ++ value
  pub faults : fault_of fault' ≡ or_fault (fault_of fault) fault_is
  pub some : 1 ≤ n
  pub boundary : IsUtf8 t → IsCharBoundary t n

-- the same, or the string ends
abbrev pub Takes : Style → (column : ℕ) → Place → Text → Option ℕ → (old new : Text)
    → (fault fault' : Option CodeFault) → Type 0
Takes style column place t None old new fault fault' = (part_at style t ≡ None) × (new ≡ old)
    × (fault_of fault' ≡ fault_of fault)
Takes style column place t (Some n) old new fault fault' = Took style column place t n old new fault fault'

-- the white space of a continued line joined the value
pub record PassesSpaces (column : ℕ) (place : Place) (t : Text) (n : ℕ) (old new : Text) : Type 0 where
  pub values : new ≡ old ++ past_column column place (run_from spaces 0 t)
  pub len : n ≡ length (concat (run_from spaces 0 t))
  pub within : n ≤ length t

pub record PassesLine (column : ℕ) (place : Place) (t : Text) (len n : ℕ) (old new : Text) : Type 0 where
  pub values : new ≡ old ++ past_column column (past place (take len t)) (run_from spaces 0 (drop len t))
  pub total : n ≡ len + length (concat (run_from spaces 0 (drop len t)))
  pub within : n ≤ length t

-- where no part begins
pub record Ends (style : Style) (place : Place) (t : Text) (ending : Ending) (n : ℕ) (after : Place) : Type 0 where
  pub ending_is : ending ≡ ending_at style t
  pub len : n ≡ length (ending_letters style (ending_at style t))
  pub within : n ≤ length t
  pub place_is : after ≡ past place (take n t)

-- what the code gives of a string
pub record IsContent (style : Style) (column : ℕ) (place : Place) (t value : Text) (content : Content) : Type 0 where
  pub value_is : value ≡ value_of style column place t
  pub fault_is : fault_of content.fault ≡ wrong_of style place t
  pub ending_is : content.ending ≡ end_of style t
  pub length_is : content.len ≡ length (letters_of style t)
  pub place_is : content.place ≡ past place (letters_of style t)
  pub within : content.len ≤ length t
