use Rattle.std.proofs.Common.{◌≤◌, length}
use denote.Text.{Utf8}
use denote.Shadow.{shadow}
use Rattle.rhai_tokenizer.specs.declared.limits.Limits.{Limits}
use Rattle.rhai_tokenizer.specs.Turns.{IsQuiet, IsRead}
use Rattle.rhai_tokenizer.proofs.usual.usuals.Given as goal

abbrev pub invariant-loop-reading : goal.invariant-loop-reading
invariant-loop-reading l = record {
  read : (limits : Limits) → IsRead limits l.initial.reading l.reading l.initial.rest l.rest;
  quiet : IsQuiet l.reading;
  shorter : length l.rest ≤ length l.initial.rest;
  utf8 : shadow (Utf8 l.rest);
}

abbrev pub decreases-loop-reading : goal.decreases-loop-reading
decreases-loop-reading l = length l.rest
