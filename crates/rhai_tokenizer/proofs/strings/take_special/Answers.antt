use Rattle.std.proofs.Common.{refl}
use Rattle.rhai_tokenizer.proofs.StringTurnLemmas.{special_case, took_plain, took_nothing, took_first, took_later, none_from, same_goes}
use Rattle.rhai_tokenizer.proofs.strings.take_special.Goals as goal

pub line_past-requires : goal.line_past-requires
line_past-requires c = (special_case c.args.style c.args.column c.args.place c.args.z.now _ _ c.requires
    c.as_bytes.ensures.value (c.in-Continues.ensures {u = tt})).0 c.utf8.z

pub spoiled-requires-clause-text : goal.spoiled-requires-clause-text
spoiled-requires-clause-text c = (special_case c.args.style c.args.column c.args.place c.args.z.now _ _ c.requires
    c.as_bytes.ensures.value (c.in-Spoils.ensures {u = tt})).0 c.utf8.z

pub spoiled-requires-clause-before : goal.spoiled-requires-clause-before
spoiled-requires-clause-before c = (special_case c.args.style c.args.column c.args.place c.args.z.now _ _ c.requires
    c.as_bytes.ensures.value (c.in-Spoils.ensures {u = tt})).1

pub returns-in_ok-push-in-Means : goal.returns-in_ok-push-in-Means
returns-in_ok-push-in-Means c =
    took_plain c.args.style c.args.column c.args.place c.args.z.now _ _ _ _ _
    (special_case c.args.style c.args.column c.args.place c.args.z.now _ _ c.requires c.as_bytes.ensures.value
    (c.in-Means.ensures {u = tt})) c.in_ok-push-in-Means.ensures.bytes

pub returns-in_ok-n-in-Continues : goal.returns-in_ok-n-in-Continues
returns-in_ok-n-in-Continues c =
    let s = (special_case c.args.style c.args.column c.args.place c.args.z.now _ _ c.requires c.as_bytes.ensures.value
    (c.in-Continues.ensures {u = tt})).1 in
    let p = c.in_ok-n-in-Continues.ensures {u = tt} in
    took_plain c.args.style c.args.column c.args.place c.args.z.now c.in_ok-n-in-Continues.n _ _ _ _
    (same_goes _ _ _ _ _ _ _ _ s p.total) p.values

pub returns-in_ok-first-in-Spoils : goal.returns-in_ok-first-in-Spoils
returns-in_ok-first-in-Spoils c =
    let s = (special_case c.args.style c.args.column c.args.place c.args.z.now _ _ c.requires c.as_bytes.ensures.value
    (c.in-Spoils.ensures {u = tt})).2 in
    took_first c.args.style c.args.column c.args.place c.args.z.now c.in-Spoils.len _ _ _ _ s
    (none_from c.args.fault.now c.is_none.result c.is_none.ensures c.if-is_none.true)
    (c.in_ok-first-in-Spoils.ensures {u = tt})

pub returns-else-is_none : goal.returns-else-is_none
returns-else-is_none c =
    let s = (special_case c.args.style c.args.column c.args.place c.args.z.now _ _ c.requires c.as_bytes.ensures.value
    (c.in-Spoils.ensures {u = tt})).2 in
    took_later c.args.style c.args.column c.args.place c.args.z.now c.in-Spoils.len _ _ c.args.fault.now s
    (c.if-is_none.ensures {u = tt})

pub returns-in-Stops : goal.returns-in-Stops
returns-in-Stops c = took_nothing c.args.style c.args.column c.args.place c.args.z.now _ _ _
    (special_case c.args.style c.args.column c.args.place c.args.z.now _ _ c.requires c.as_bytes.ensures.value
    (c.in-Stops.ensures {u = tt}))

pub returns-in-Ends : goal.returns-in-Ends
returns-in-Ends c = (
  special_case c.args.style c.args.column c.args.place c.args.z.now _ _ c.requires
      c.as_bytes.ensures.value (c.in-Ends.ensures {u = tt}),
  refl,
  refl,
)
