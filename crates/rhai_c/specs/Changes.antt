-- What a host does to its settings.
use Rattle.std.specs.Prelude.{◌≡◌, ℕ, IsUtf8, None, Option, Some}
use Rattle.rhai_c.specs.Options.{option_number, with_constant, with_module, with_option}
use Rattle.rhai_c.specs.Statuses.{number_of}
use Rattle.rhai_c.specs.declared.changes.Change.{Change}
use Rattle.rhai_c.specs.declared.changes.Change.TheVariants.{Constant, Module, Set}
use Rattle.rhai_c.specs.declared.kept.Kept.{Kept}
use Rattle.rhai_c.specs.declared.kept.Kept.TheVariants as kept
use Rattle.rhai_c.specs.declared.options.HostOption.{HostOption}
use Rattle.rhai_c.specs.declared.settings.Settings.{Settings}
use Rattle.rhai_c.specs.declared.status.Status.{Status}
use Rattle.rhai_c.specs.declared.status.Status.TheVariants.{BadArgument, NoMemory, NotUtf8, Ok}

-- there is such an option, and these are the settings once it has the value
abbrev pub IsSet : ℕ → ℕ → Settings → Settings → Type 0
IsSet number value before after =
    (o : HostOption) × ((option_number o ≡ number) × (with_option o value before ≡ Some after))

-- no option of this number has this value
abbrev pub CannotBeSet : ℕ → ℕ → Settings → Type 0
CannotBeSet number value before =
    (o : HostOption) → option_number o ≡ number → with_option o value before ≡ None

-- How a change ends: what was asked for is done, or nothing is, and the status says why not.
abbrev pub IsChanged : Change → Settings → Settings → Status → Type 0
IsChanged (Set number value) before after Ok = IsSet number value before after
IsChanged (Set number value) before after BadArgument = (after ≡ before) × CannotBeSet number value before
IsChanged (Constant name) before after Ok = IsUtf8 name.now × (after ≡ with_constant name.now before)
IsChanged (Constant name) before after NotUtf8 = (IsUtf8 name.now → ⊥) × (after ≡ before)
IsChanged (Constant name) before after NoMemory = after ≡ before
IsChanged (Module name) before after Ok = IsUtf8 name.now × (after ≡ with_module name.now before)
IsChanged (Module name) before after NotUtf8 = (IsUtf8 name.now → ⊥) × (after ≡ before)
IsChanged (Module name) before after NoMemory = after ≡ before
IsChanged _ _ _ _ = ⊥

-- the settings that a host holds, before and after a change
pub record ChangesSettings (c : Change) (before : Settings) (after : Option Kept) (number : ℕ) : Type 0 where
  pub settings : Settings
  pub status : Status
  pub changed : IsChanged c before settings status
  pub held : after ≡ Some (kept.Settings settings)
  pub numbered : number ≡ number_of status

-- what a change to what a host holds gives: without settings it is a bad argument
abbrev pub ChangesHeld : Change → Option Kept → Option Kept → ℕ → Type 0
ChangesHeld c (Some (kept.Settings s)) after number = ChangesSettings c s after number
ChangesHeld c (Some (kept.Text v)) after number = (after ≡ Some (kept.Text v)) × (number ≡ number_of BadArgument)
ChangesHeld c None after number = (after ≡ None) × (number ≡ number_of BadArgument)
