-- The steps of the loops over a line's bytes.
use Rattle.std.proofs.lemmas.List.{drop_all, take_all}
use Rattle.std.proofs.lemmas.List.Sums.{count_by-le-length, count_by_more_no, count_by_more_yes}
use Rattle.std.proofs.lemmas.List.Sums.{prefix_len-drop_all, prefix_len-drop_no, prefix_len-drop_yes}
use Rattle.std.proofs.lemmas.List.Sums.{prefix_len-le-length, suffix_len-le-length, suffix_len-take_no}
use Rattle.std.proofs.lemmas.List.Sums.{suffix_len-take_yes}

pub ruleset counting = (count_by_more_yes, count_by_more_no, take_all)

pub ruleset ending = (suffix_len-take_yes, suffix_len-take_no, take_all)

pub ruleset going = (prefix_len-drop_yes, prefix_len-drop_no, prefix_len-drop_all)

pub ruleset bounds = (count_by-le-length, suffix_len-le-length, prefix_len-le-length)
