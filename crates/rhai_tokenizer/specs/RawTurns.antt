-- What the code reads of a raw string.
use Rattle.std.specs.Prelude.{◌≡◌, ◌+◌, ◌≤◌, take, drop, length}
use Rattle.rhai_lower.specs.Texts.{Text}
use Rattle.rhai_tokenizer.specs.declared.raw.RawString.{RawString}
use Rattle.rhai_tokenizer.specs.Cutting.{raw_from}
use Rattle.rhai_tokenizer.specs.Pieces.{Raw}

-- at the first `#`
pub record IsRaw (t : Text) (r : RawString) : Type 0 where
  pub is : raw_from 1 (drop 1 t) ≡ Raw r.hashes (take r.len (drop (r.hashes + 1) t)) r.is_closed
  pub within : r.hashes + 1 + r.len ≤ length t
  pub some : 1 ≤ r.hashes
